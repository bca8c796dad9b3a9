-- The regions of a source that a reading trims: where each begins and ends, without a scan.
use Rattle.std.specs.Prelude.{ℕ, ◌+◌, ◌-◌, ◌≤◌, ◌<◌, ◌≡◌, List, [], ◌∷◌, Bool, true, false, length, get_or, take, Ok}
use Rattle.scan.specs.Scan.{starts_at}
use Rattle.spacing.specs.Spacing.{spaces_at}
use Rattle.whole.specs.Encode.{Text}
use Rattle.texts.specs.Balance.{IsAction}
use Rattle.texts.specs.Trimmed.{Trimmed}

-- A part of the source that begins and ends where code points do: what stands before each end is the octets of a text.
pub record TextPart (src : List ℕ) (from to : ℕ) : Type 0 where
  pub onward : from ≤ to
  pub inside : to ≤ length src
  pub begins : Text (take from src)
  pub ends : Text (take to src)

-- "A text to a single colon skips each `::`.": bytes that are no colon, and pairs of colons
pub data Skips (s : List ℕ) : ℕ → ℕ → Type 0 where
  skip_none : {i : ℕ} → Skips s i i
  skip_byte : {i j : ℕ} → (get_or s i 0 ≡ 58 → ⊥) → Skips s (i + 1) j → Skips s i j
  skip_pair : {i j : ℕ} → get_or s i 0 ≡ 58 → get_or s (i + 1) 0 ≡ 58 → Skips s (i + 1 + 1) j → Skips s i j

-- the single colon at `to` is the first from `from` on: such bytes, and a colon with none behind it
pub record SingleColon (s : List ℕ) (from to : ℕ) : Type 0 where
  pub skips : Skips s from to
  pub inside : to < length s
  pub colon : get_or s to 0 ≡ 58
  pub alone : get_or s (to + 1) 0 ≡ 58 → ⊥

-- "a trimmed text to a single colon": the region runs from where the spacing at `behind` ends to the colon, and a..b is what trimming leaves of it;
-- it is spacing of the kind, and `ok` says whether line ends are allowed in it
pub record ColonTrimmed (kind : ℕ) (src : List ℕ) (ok : Bool) (behind a b : ℕ) : Type 0 where
  pub from : ℕ
  pub to : ℕ
  pub lines : ℕ
  pub spacing : spaces_at kind ok src behind ≡ Ok (from, lines)
  pub colon : SingleColon src from to
  pub part : TextPart src from to
  pub trimmed : Trimmed src from to (record { from = a; to = b })

-- `%parse-param`
abbrev pub param_word : List ℕ
param_word = 37 ∷ 112 ∷ 97 ∷ 114 ∷ 115 ∷ 101 ∷ 45 ∷ 112 ∷ 97 ∷ 114 ∷ 97 ∷ 109 ∷ []

-- "`%parse-param` is a trimmed text to a single colon"; "Line ends are not allowed directly behind a declaration keyword"
pub record ParamMade (kind : ℕ) (src : List ℕ) (a b : ℕ) : Type 0 where
  pub at : ℕ
  pub keyword : starts_at param_word src at ≡ true
  pub name : ColonTrimmed kind src false (at + length param_word) a b

-- `->`
abbrev pub arrow_word : List ℕ
arrow_word = 45 ∷ 62 ∷ []

-- "In kind 2 the name is followed by `->` and a type up to a single colon": the name ends at `end`, and the type is a..b
pub record Arrowed (kind : ℕ) (src : List ℕ) (end a b : ℕ) : Type 0 where
  pub at : ℕ
  pub lines : ℕ
  pub spacing : spaces_at kind true src end ≡ Ok (at, lines)
  pub arrow : starts_at arrow_word src at ≡ true
  pub type : ColonTrimmed kind src true (at + length arrow_word) a b

-- "its action is [..] the place of its trimmed text beside the crate's span": the region runs from behind the `{` at `at` to the brace that closes it, a..b is what
-- trimming leaves of it, and c..d is the span, which "starts after `{` and has the trimmed length"
pub record ActionMade (src : List ℕ) (at a b c d : ℕ) : Type 0 where
  pub brace : get_or src at 0 ≡ 123
  pub to : ℕ
  pub closes : IsAction src at to
  pub part : TextPart src (at + 1) to
  pub trimmed : Trimmed src (at + 1) to (record { from = a; to = b })
  pub span : c ≡ at + 1
  pub long : d ≡ c + (b - a)
