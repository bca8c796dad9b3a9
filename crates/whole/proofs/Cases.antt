-- Small sources under one statement: the bytes, and document 01's number and place.
use Rattle.std.specs.Prelude.{ℕ, ◌≡◌, refl, List, [], ◌∷◌, true}
use Rattle.scan.specs.Table.{same, Case, all}
use Rattle.utf8.specs.Utf8.{lead_of, follow, begun, decode}
use Rattle.whole.specs.Whole.{check, check_at, numbers}

-- Document 01's number and place for a source.
unfoldable pub answer : List ℕ → List ℕ
answer s = numbers (check_at s 0)

-- Document 01: 0, or "40 not UTF-8: first byte that begins no well-formed sequence".
unfoldable pub sources : List (Case (List ℕ))
sources =
    record { input = []; gives = 0 ∷ [] }
    ∷ record { input = 0x41 ∷ 0x42 ∷ []; gives = 0 ∷ [] }
    ∷ record { input = 0x41 ∷ 0xC2 ∷ 0xA0 ∷ 0xF4 ∷ 0x8F ∷ 0xBF ∷ 0xBF ∷ 0x42 ∷ []; gives = 0 ∷ [] }
    ∷ record { input = 0xE2 ∷ 0x80 ∷ 0x8A ∷ 0xED ∷ 0x9F ∷ 0xBF ∷ []; gives = 0 ∷ [] }
    ∷ record { input = 0x80 ∷ []; gives = 40 ∷ 0 ∷ [] }
    ∷ record { input = 0x41 ∷ 0xC0 ∷ 0x80 ∷ []; gives = 40 ∷ 1 ∷ [] }
    ∷ record { input = 0x41 ∷ 0xE2 ∷ 0x80 ∷ []; gives = 40 ∷ 1 ∷ [] }
    ∷ record { input = 0xC2 ∷ 0xA0 ∷ 0xED ∷ 0xA0 ∷ 0x80 ∷ []; gives = 40 ∷ 2 ∷ [] }
    ∷ record { input = 0xC2 ∷ 0xA0 ∷ 0xF4 ∷ 0x90 ∷ 0x80 ∷ 0x80 ∷ []; gives = 40 ∷ 2 ∷ [] }
    ∷ record { input = 0x41 ∷ 0xE2 ∷ 0x41 ∷ 0x80 ∷ []; gives = 40 ∷ 1 ∷ [] }
    ∷ record { input = 0xF0 ∷ 0x90 ∷ 0x80 ∷ 0x80 ∷ 0xFF ∷ []; gives = 40 ∷ 4 ∷ [] }
    ∷ []

pub sources_hold : all answer sources ≡ true
unfolding all same sources answer numbers lead_of follow begun decode check check_at
sources_hold = refl
