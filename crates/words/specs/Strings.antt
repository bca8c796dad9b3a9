-- Document 01, "Words": strings.
use Rattle.std.specs.Prelude.{ℕ, ◌+◌, ◌≤◌, ◌<◌, ◌≡◌, List, [], ◌∷◌, true, false, eqb, leb, length, get_or, drop, Result, Ok, Err}
use Rattle.scan.specs.Scan.{is_eol}
use Rattle.words.specs.Words.{is_quote}
use Rattle.words.specs.declared.QuoteError.{QuoteError}
use Rattle.words.specs.declared.QuoteError.TheVariants.{NotOpened, LineInside, BadEscape, NotClosed}

-- in the string, or behind a backslash at this index
pub data Mode : Type 0 where
  plain : Mode
  escape : ℕ → Mode

-- "A string may be empty, ends at its own quote, holds no line end, and has a backslash only before a quote of either sort."
unfoldable pub string : ℕ → Mode → List ℕ → ℕ → Result ℕ QuoteError
string q plain [] i = Err (NotClosed i)
string q (escape b) [] i = Err (BadEscape b)
string q plain (c ∷ cs) i =
    elim (eqb c q) [
      | true ↦ Ok (i + 1)
      | false ↦
          elim (is_eol c) [
            | true ↦ Err (LineInside i)
            | false ↦ elim (eqb c 92) [ true ↦ string q (escape i) cs (i + 1) | false ↦ string q plain cs (i + 1) ]
          ]
    ]
string q (escape b) (c ∷ cs) i = elim (is_quote c) [ true ↦ string q plain cs (i + 1) | false ↦ Err (BadEscape b) ]

-- the same, of a whole source and an index in it
unfoldable pub string_from : ℕ → Mode → List ℕ → ℕ → Result ℕ QuoteError
string_from q mode s i = string q mode (drop i s) i

-- "14 InvalidString: the byte that fails, or the source end"
unfoldable pub string_at : List ℕ → ℕ → Result ℕ QuoteError
string_at s i =
    elim (leb (length s) i) [
      | true ↦ Err (NotOpened i)
      | false ↦ elim (is_quote (get_or s i 0)) [ true ↦ string_from (get_or s i 0) plain s (i + 1) | false ↦ Err (NotOpened i) ]
    ]

-- Places: a string with its quotes ends in the source; 14 is where it was sought, 17 and 18 at a byte of it, 19 at the source's end.
abbrev pub Stringed : List ℕ → ℕ → Result ℕ QuoteError → Type 0
Stringed s from (Ok to) = (from + 1 < to) × (to ≤ length s)
Stringed s from (Err (NotOpened i)) = i ≡ from
Stringed s from (Err (LineInside i)) = (from < i) × (i < length s)
Stringed s from (Err (BadEscape i)) = (from < i) × (i < length s)
Stringed s from (Err (NotClosed i)) = i ≡ length s

-- document 01's number and values: 0 and the end; 14 InvalidString and its place, which document 02, request Four, keeps "for a missing opening quote"; 17 to
-- 19 are the other ways that a string fails
unfoldable pub string_numbers : Result ℕ QuoteError → List ℕ
string_numbers (Ok to) = 0 ∷ to ∷ []
string_numbers (Err (NotOpened i)) = 14 ∷ i ∷ []
string_numbers (Err (LineInside i)) = 17 ∷ i ∷ []
string_numbers (Err (BadEscape i)) = 18 ∷ i ∷ []
string_numbers (Err (NotClosed i)) = 19 ∷ i ∷ []
