-- Document 01: "an `%epp` value written without its escapes".
use Rattle.std.specs.Prelude.{ℕ, ◌+◌, ◌-◌, ◌≤◌, ◌<◌, ◌≡◌, List, [], ◌∷◌, ◌++◌, Bool, true, false, eqb, leb, ltb, length, get_or, replicate, Option, Some, None, Result, Ok, Err}
use Rattle.std.proofs.Math.Seq.{slice}
use Rattle.scan.specs.Scan.{is_eol}
use Rattle.words.specs.declared.QuoteError.{QuoteError}
use Rattle.words.specs.declared.QuoteError.TheVariants.{NotOpened, LineInside, BadEscape, NotClosed}
use Rattle.words.specs.Words.{is_quote}
use Rattle.words.specs.Strings.{string_at}
use Rattle.tables.specs.Table.{cell, zeroed, put}
use Rattle.tables.specs.Layout.{epps, value, width}
use Rattle.grammar.specs.declared.Counts.{Counts}
use Rattle.grammar.specs.declared.Singles.{Singles}
use Rattle.grammar.specs.Sound.{Tables, Indexes}
use Rattle.sound.specs.Test.{count_at, sound_test}
use Rattle.values.specs.declared.ValuationError.{ValuationError}
use Rattle.values.specs.declared.ValuationError.TheVariants.{OfUnsoundTables, PastCount, NotString, NoTextRoom}

-- number, place, table number (0 unless 42) and count: "The value of a row past the count is 44, as is one whose place isn't a well-formed quoted string"; "42 no room [..] 0..0 for 11 to 13"
abbrev pub valuation_numbers : Result ℕ ValuationError → List ℕ
valuation_numbers (Ok n) = 0 ∷ 0 ∷ 0 ∷ 0 ∷ n ∷ []
valuation_numbers (Err OfUnsoundTables) = 44 ∷ 0 ∷ 0 ∷ 0 ∷ 0 ∷ []
valuation_numbers (Err PastCount) = 44 ∷ 0 ∷ 0 ∷ 0 ∷ 0 ∷ []
valuation_numbers (Err NotString) = 44 ∷ 0 ∷ 0 ∷ 0 ∷ 0 ∷ []
valuation_numbers (Err NoTextRoom) = 42 ∷ 0 ∷ 0 ∷ 13 ∷ 0 ∷ []

-- whether a value has a text, and where: 0 and its place
abbrev pub text_numbers : Option (ℕ × ℕ) → List ℕ
text_numbers (Some (a, b)) = 0 ∷ a ∷ b ∷ []
text_numbers None = 44 ∷ 0 ∷ 0 ∷ []

-- the bytes but for the backslashes: in a string each is an escape, since it "has a backslash only before a quote of either sort"
unfoldable pub plain : List ℕ → List ℕ
plain [] = []
plain (c ∷ cs) = elim (eqb c 92) [ true ↦ plain cs | false ↦ c ∷ plain cs ]

-- "an `%epp` value written without its escapes", without a scan: between the quotes each byte stands for itself, or is a backslash with a quote behind it, for which the two stand
pub data Spells (q : ℕ) : List ℕ → List ℕ → Type 0 where
  empty : Spells q [] []
  byte : {c : ℕ} {t v : List ℕ} → (c ≡ q → ⊥) → is_eol c ≡ false → (c ≡ 92 → ⊥) → Spells q t v → Spells q (c ∷ t) (c ∷ v)
  escaped : {c : ℕ} {t v : List ℕ} → is_quote c ≡ true → Spells q t v → Spells q (92 ∷ c ∷ t) (c ∷ v)

-- "A string may be empty, ends at its own quote": from `from` up to `to` stands a string that spells v
pub record IsString (src : List ℕ) (from to : ℕ) (v : List ℕ) : Type 0 where
  pub onward : from + 1 < to
  pub inside : to ≤ length src
  pub opens : is_quote (get_or src from 0) ≡ true
  pub closes : get_or src (to - 1) 0 ≡ get_or src from 0
  pub spells : Spells (get_or src from 0) (slice (from + 1) (to - 1) src) v

-- the bytes of a text, stored from the first cell on as far as there is room, and their count
pub record Copied : Type 0 where
  pub count : ℕ
  pub cells : List ℕ

unfoldable pub copied : List ℕ → ℕ → ℕ → List ℕ → Copied
copied src from to out = record { count = length (plain (slice from to src)); cells = put out 0 (plain (slice from to src)) }

abbrev pub Within : List ℕ → Option (ℕ × ℕ) → Type 0
Within src (Some (a, b)) = (a ≤ b) × (b ≤ length src)
Within src None = Unit {0}

-- a value's place is that of a whole string, or it has no text
abbrev pub text_to : Bool → ℕ → ℕ → Option (ℕ × ℕ)
text_to true from to = Some (from + 1, to - 1)
text_to false from to = None

abbrev pub text_by : Result ℕ QuoteError → ℕ → ℕ → Option (ℕ × ℕ)
text_by (Ok end) from to = text_to (eqb end to) from end
text_by (Err (NotOpened k)) from to = None
text_by (Err (LineInside k)) from to = None
text_by (Err (BadEscape k)) from to = None
text_by (Err (NotClosed k)) from to = None

unfoldable pub text_at : List ℕ → List ℕ → ℕ → Option (ℕ × ℕ)
text_at src t5 row = text_by (string_at src (cell (width epps) t5 row value)) (cell (width epps) t5 row value) (cell (width epps) t5 row (value + 1))

-- an answer, and what is left in the text out
pub record Valued : Type 0 where
  pub answer : Result ℕ ValuationError
  pub out : List ℕ

-- zeros past the value; "a refusal zeroes it and what they would have written"
abbrev pub refused_value : Result ℕ ValuationError → List ℕ → Valued
refused_value a out = record { answer = a; out = zeroed out }

abbrev pub fitted : Bool → List ℕ → List ℕ → Valued
fitted true v out = record { answer = Ok (length v); out = v ++ replicate (length out - length v) 0 }
fitted false v out = refused_value (Err NoTextRoom) out

abbrev pub text_value : Option (ℕ × ℕ) → List ℕ → List ℕ → Valued
text_value (Some (a, b)) src out = fitted (leb (length (plain (slice a b src))) (length out)) (plain (slice a b src)) out
text_value None src out = refused_value (Err NotString) out

-- "The report and the `%epp` value give 44, [..] then 42 [..] for its output"
unfoldable pub epp_value : List ℕ → Counts → Singles → Tables → Indexes → ℕ → List ℕ → Valued
epp_value src c g T X row out =
    elim (sound_test src c g T X) [
      | true ↦ elim (ltb row (count_at c epps)) [ true ↦ text_value (text_at src T.t5 row) src out | false ↦ refused_value (Err PastCount) out ]
      | false ↦ refused_value (Err OfUnsoundTables) out
    ]
