-- Document 01, "Words": names and tokens.
use Rattle.std.specs.Prelude.{ℕ, ◌+◌, ◌≤◌, ◌<◌, ◌≡◌, List, [], ◌∷◌, Bool, true, false, ◌||◌, eqb, leb, length, get_or, Option, Some, None, Result, Ok, Err}
use Rattle.scan.specs.declared.Place.{Place}
use Rattle.scan.specs.declared.Class.{Class}
use Rattle.scan.specs.declared.Class.TheVariants.{NameStart, NameByte, TokenStart, TokenByte, Unquoted}
use Rattle.scan.specs.Scan.{is_at, in_class, run_end_at, Runs}

-- a byte of one class, and the run of another class behind it
unfoldable pub word_at : Class → Class → List ℕ → ℕ → Option ℕ
word_at first rest s i =
    elim (leb (length s) i) [
      | true ↦ None
      | false ↦ elim (in_class first (get_or s i 0)) [ true ↦ Some (run_end_at (in_class rest) s (i + 1)) | false ↦ None ]
    ]

unfoldable pub named : ℕ → Option ℕ → Result ℕ ℕ
named i (Some to) = Ok to
named i None = Err i

-- "A name starts with a letter, `_` or `.`, and goes on with those or digits."
unfoldable pub name_at : List ℕ → ℕ → Result ℕ ℕ
name_at s i = named i (word_at NameStart NameByte s i)

unfoldable pub is_quote : ℕ → Bool
is_quote c = eqb c 34 || eqb c 39

abbrev pub found : ℕ → ℕ → ℕ → Bool → Result (Place × ℕ × Bool) ℕ
found from to end quoted = Ok (record { from = from; to = to }, end, quoted)

unfoldable pub closed : ℕ → List ℕ → ℕ → ℕ → Result (Place × ℕ × Bool) ℕ
closed q s i to = elim (is_at q s to) [ true ↦ found (i + 1) to (to + 1) true | false ↦ Err i ]

-- "A quoted token has at least one character, none LF; the first may be the quote itself, and the next quote closes. Its span leaves out the quotes."
unfoldable pub quoted_at : ℕ → List ℕ → ℕ → Result (Place × ℕ × Bool) ℕ
quoted_at q s i =
    elim (leb (length s) (i + 1)) [
      | true ↦ Err i
      | false ↦ elim (eqb (get_or s (i + 1) 0) 10) [ true ↦ Err i | false ↦ closed q s i (run_end_at (in_class (Unquoted q)) s (i + 1 + 1)) ]
    ]

unfoldable pub bare : ℕ → Option ℕ → Result (Place × ℕ × Bool) ℕ
bare i (Some to) = found i to to false
bare i None = Err i

-- "A bare token has no dots."
unfoldable pub token_at : List ℕ → ℕ → Result (Place × ℕ × Bool) ℕ
token_at s i =
    elim (leb (length s) i) [
      | true ↦ Err i
      | false ↦ elim (is_quote (get_or s i 0)) [ true ↦ quoted_at (get_or s i 0) s i | false ↦ bare i (word_at TokenStart TokenByte s i) ]
    ]

-- Places: a word is not empty and ends in the source; a token's place lies between where it was sought and its end, and is not empty; 2 and 3 are where the
-- item was sought.
abbrev pub Worded : List ℕ → ℕ → Option ℕ → Type 0
Worded s from (Some to) = (from < to) × (to ≤ length s)
Worded s from None = Unit {0}

abbrev pub Named : List ℕ → ℕ → Result ℕ ℕ → Type 0
Named s from (Ok to) = (from < to) × (to ≤ length s)
Named s from (Err i) = i ≡ from

abbrev pub Tokened : List ℕ → ℕ → Result (Place × ℕ × Bool) ℕ → Type 0
Tokened s from (Ok (p, end, quoted)) = (from ≤ p.from) × (p.from < p.to) × (p.to ≤ end) × (end ≤ length s)
Tokened s from (Err i) = i ≡ from

-- document 01's number and values: 0 and the end; 2 IllegalName where it was sought
unfoldable pub name_numbers : Result ℕ ℕ → List ℕ
name_numbers (Ok to) = 0 ∷ to ∷ []
name_numbers (Err i) = 2 ∷ i ∷ []

abbrev flag : Bool → ℕ
flag true = 1
flag false = 0

-- 0, the place, the end, and 1 where quoted; 3 IllegalString where it was sought
unfoldable pub token_numbers : Result (Place × ℕ × Bool) ℕ → List ℕ
token_numbers (Ok (p, end, quoted)) = 0 ∷ p.from ∷ p.to ∷ end ∷ flag quoted ∷ []
token_numbers (Err i) = 3 ∷ i ∷ []

-- What names and tokens are without a scan: the first byte of the right class, each further one too, and the next byte not.
pub record IsWord (first rest : Class) (s : List ℕ) (from to : ℕ) : Type 0 where
  pub inside : from < length s
  pub begins : in_class first (get_or s from 0) ≡ true
  pub goes_on : Runs (in_class rest) s (from + 1) to

-- A quote, a first character that is no LF, further bytes that are neither that quote nor LF, and the same quote again.
pub record IsQuoted (s : List ℕ) (from to : ℕ) : Type 0 where
  pub opens : is_quote (get_or s from 0) ≡ true
  pub first : get_or s (from + 1) 0 ≡ 10 → ⊥
  pub goes_on : Runs (in_class (Unquoted (get_or s from 0))) s (from + 1 + 1) to
  pub closes : get_or s to 0 ≡ get_or s from 0
  pub inside : to < length s

-- A token is bare or quoted: its place, the end behind it, and which of the two it is. "Its span leaves out the quotes."
pub data IsToken (s : List ℕ) (from : ℕ) : Place → ℕ → Bool → Type 0 where
  bare_token : {to : ℕ} → IsWord TokenStart TokenByte s from to → IsToken s from (record { from = from; to = to }) to false
  quoted_token : {to : ℕ} → IsQuoted s from to → IsToken s from (record { from = from + 1; to = to }) (to + 1) true
