-- Trimming: a forward scan over the code points of a region that remembers where the first one that is no blank starts and where the last such ends.
use Rattle.std.specs.Prelude.{ℕ, suc, ◌+◌, ◌-◌, ◌≤◌, ◌<◌, List, true, false, ltb, eqb, length, take, Option, Some, None}
use Rattle.scan.specs.Loop.{Turn, more, stop, turns}
use Rattle.scan.specs.declared.Place.{Place}
use Rattle.scan.specs.declared.Class.TheVariants.{Graphic}
use Rattle.scan.specs.Scan.{in_class, run_end_at}
use Rattle.utf8.specs.White.{is_white}
use Rattle.utf8.specs.Utf8.{decode_at}
use Rattle.trim.specs.declared.Passed.{Passed}
use Rattle.trim.specs.declared.Passed.TheVariants.{White, Kept}

-- Document 01: a code point is "a blank for trimming" or is kept; a byte that begins none, of which an accepted source has none, is kept.
unfoldable pub passed : Option (ℕ × ℕ) → ℕ → Passed
passed (Some (p, j)) i = elim (is_white p) [ true ↦ White j | false ↦ Kept j ]
passed None i = Kept (i + 1)

-- Document 01, "a blank for trimming": the same, of a whole source and an index in it.
unfoldable pub passed_at : List ℕ → ℕ → Passed
passed_at s i = passed (decode_at s i) i

-- Document 01, "half open": the offset behind what was passed.
abbrev pub end_of : Passed → ℕ
end_of (White j) = j
end_of (Kept j) = j

-- Document 01: "All places are byte offsets, half open": what is passed has at least one byte and lies in the source.
abbrev pub Passes : List ℕ → ℕ → Passed → Type 0
Passes s i r = (i < end_of r) × (end_of r ≤ length s)

-- where the graphic bytes from index i on end, in front of index `to`
unfoldable pub plain_end : List ℕ → ℕ → ℕ → ℕ
plain_end s i to = run_end_at (in_class Graphic) (take to s) i

-- Document 01, a "trimmed text" under way: index i is reached, and what was kept so far runs from `from` to `to`; nothing, where these are the same.
pub record Trim : Type 0 where
  pub from : ℕ
  pub to : ℕ
  pub i : ℕ

-- Document 01: a trimmed text starts at its first code point that is no blank: at i, if nothing was kept before.
unfoldable pub kept : ℕ → ℕ → ℕ → ℕ
kept from to i = elim (eqb from to) [ true ↦ i | false ↦ from ]

-- Document 01: it ends behind its last code point that is no blank; a blank changes nothing yet, since the text may go on behind it.
unfoldable pub moved : Trim → Passed → Turn Trim
moved t (White j) = more (record { from = t.from; to = t.to; i = j })
moved t (Kept j) = more (record { from = kept t.from t.to t.i; to = j; i = j })

-- Document 01: one code point of the region after the other, up to the region's end.
unfoldable pub trim_turn : List ℕ → ℕ → Trim → Turn Trim
trim_turn s to t = elim (ltb t.i to) [ true ↦ moved t (passed_at s t.i) | false ↦ stop t ]

-- Document 01: "the place of its trimmed text".
abbrev pub place_of : Trim → Place
place_of t = record { from = t.from; to = t.to }

-- The trimmed part of a region. Document 01: "An empty trimmed text sits at its region's start."
unfoldable pub trimmed : List ℕ → ℕ → ℕ → Place
trimmed s from to = place_of (turns (suc (to - from)) (trim_turn s to) (record { from = from; to = from; i = from }))

-- Document 01: "half open": the place does not start before its region nor end before it starts, and lies in the source if the region starts there.
abbrev pub Inside : List ℕ → ℕ → Place → Type 0
Inside s from r = (from ≤ r.from) × (r.from ≤ r.to) × (from ≤ length s → r.to ≤ length s)
