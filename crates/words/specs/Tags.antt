-- Document 02, request Nine: a tag between `<` and `>`.
use Rattle.std.specs.Prelude.{ℕ, ◌+◌, ◌≤◌, ◌<◌, ◌≡◌, List, [], ◌∷◌, true, false, length, get_or, Result, Ok, Err}
use Rattle.scan.specs.declared.Place.{Place}
use Rattle.scan.specs.declared.Class.TheVariants.{TagByte}
use Rattle.scan.specs.Scan.{is_at, in_class, run_end_at}
use Rattle.words.specs.declared.TagError.{TagError}
use Rattle.words.specs.declared.TagError.TheVariants.{OpenTag, NoTag}

abbrev pub tagged : ℕ → ℕ → Result (Place × ℕ) TagError
tagged from to = Ok (record { from = from + 1; to = to }, to + 1)

-- the tag whose bytes end at `to`: "50 tag not closed on its line, at `<`"
unfoldable pub tag_closed : List ℕ → ℕ → ℕ → Result (Place × ℕ) TagError
tag_closed s i to = elim (is_at 62 s to) [ true ↦ tagged i to | false ↦ Err (OpenTag i) ]

-- a `<tag>`: its place leaves the brackets out
unfoldable pub tag_at : List ℕ → ℕ → Result (Place × ℕ) TagError
tag_at s i = elim (is_at 60 s i) [ true ↦ tag_closed s i (run_end_at (in_class TagByte) s (i + 1)) | false ↦ Err (NoTag i) ]

-- Places: a tag's place lies between its brackets, and may be empty; 50 is at `<`, or where the tag was sought.
abbrev pub Tagged : List ℕ → ℕ → Result (Place × ℕ) TagError → Type 0
Tagged s from (Ok (p, end)) = (from < p.from) × (p.from ≤ p.to) × (p.to < end) × (end ≤ length s)
Tagged s from (Err (OpenTag i)) = i ≡ from
Tagged s from (Err (NoTag i)) = i ≡ from

-- 0, the place and the end; 50 at `<`; where there is no tag, which is a refusal behind `%type` alone, the index where it was sought
unfoldable pub tag_numbers : Result (Place × ℕ) TagError → List ℕ
tag_numbers (Ok (p, end)) = 0 ∷ p.from ∷ p.to ∷ end ∷ []
tag_numbers (Err (OpenTag i)) = 50 ∷ i ∷ []
tag_numbers (Err (NoTag i)) = i ∷ []

-- What a tag is without a scan: `<`, bytes that are neither `>` nor a line end, and `>`; its place is what stands between, its end is behind `>`.
pub record IsTag (s : List ℕ) (from : ℕ) (p : Place) (end : ℕ) : Type 0 where
  pub opens : get_or s from 0 ≡ 60
  pub behind : p.from ≡ from + 1
  pub onward : p.from ≤ p.to
  pub each : (k : ℕ) → p.from ≤ k → k < p.to → in_class TagByte (get_or s k 0) ≡ true
  pub inside : p.to < length s
  pub closes : get_or s p.to 0 ≡ 62
  pub ended : end ≡ p.to + 1
