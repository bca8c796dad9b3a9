-- Document 01, "Words": "A text to a single colon skips each `::`."; lines are counted by document 02, request Ten.
use Rattle.std.specs.Prelude.{ℕ, ◌+◌, ◌≤◌, ◌<◌, ◌≡◌, List, [], ◌∷◌, true, false, eqb, length, get_or, drop, Result, Ok, Err}
use Rattle.scan.specs.Scan.{is_eol}
use Rattle.scan.specs.Lines.{lines_here}
use Rattle.trim.specs.Trim.{trimmed}
use Rattle.scan.specs.declared.Place.{Place}

-- in the text, or behind a colon at this index
pub data Mode : Type 0 where
  plain : Mode
  colon : ℕ → Mode

-- Where the single colon stands; the bytes that are left stand from index i on, and n lines were counted before them:
-- "CR LF as one, lone CR as one, lone LF as one; the pair counts at its LF".
unfoldable pub single : Mode → List ℕ → ℕ → ℕ → Result (ℕ × ℕ) ℕ
single plain [] i n = Err i
single (colon b) [] i n = Ok (b, n)
single plain (c ∷ cs) i n =
    elim (eqb c 58) [
      | true ↦ single (colon i) cs (i + 1) n
      | false ↦ elim (is_eol c) [ true ↦ single plain cs (i + 1) (n + lines_here c cs) | false ↦ single plain cs (i + 1) n ]
    ]
single (colon b) (c ∷ cs) i n = elim (eqb c 58) [ true ↦ single plain cs (i + 1) n | false ↦ Ok (b, n) ]

-- the same, of a whole source and an index in it
unfoldable pub single_from : Mode → List ℕ → ℕ → ℕ → Result (ℕ × ℕ) ℕ
single_from mode s i n = single mode (drop i s) i n

abbrev pub single_at : List ℕ → ℕ → Result (ℕ × ℕ) ℕ
single_at s i = single_from plain s i 0

-- "`%parse-param` is a trimmed text to a single colon"; a rule's type in kind 2 is one too
unfoldable pub colon_text : List ℕ → ℕ → Result (ℕ × ℕ) ℕ → Result (ℕ × ℕ × Place) ℕ
colon_text s from (Ok (to, n)) = Ok (to, n, trimmed s from to)
colon_text s from (Err end) = Err end

unfoldable pub colon_text_at : List ℕ → ℕ → Result (ℕ × ℕ × Place) ℕ
colon_text_at s from = colon_text s from (single_at s from)

-- Places: the colon found is a colon of the source; 16 is at the source end if there is no single colon; the trimmed place lies behind `from`.
abbrev pub Singled : List ℕ → ℕ → Result (ℕ × ℕ) ℕ → Type 0
Singled s from (Ok (to, n)) = (from + n ≤ to) × (to < length s) × (get_or s to 0 ≡ 58)
Singled s from (Err end) = end ≡ length s

abbrev pub ColonTexts : List ℕ → ℕ → Result (ℕ × ℕ × Place) ℕ → Type 0
ColonTexts s from (Ok (to, n, p)) = (from + n ≤ to) × (to < length s) × (get_or s to 0 ≡ 58) × (from ≤ p.from) × (p.from ≤ p.to) × (p.to ≤ length s)
ColonTexts s from (Err end) = end ≡ length s

-- document 01's number and values: 0, the colon, the lines and the trimmed place; by document 02, request Four, 16 at the source end "where no single colon follows"
unfoldable pub colon_numbers : Result (ℕ × ℕ × Place) ℕ → List ℕ
colon_numbers (Ok (to, n, p)) = 0 ∷ to ∷ n ∷ p.from ∷ p.to ∷ []
colon_numbers (Err end) = 16 ∷ end ∷ []
