-- Small regions under one statement: a source, a region of it, and the trimmed place.
use Rattle.std.specs.Prelude.{ℕ, ◌≡◌, refl, List, [], ◌∷◌, true}
use Rattle.scan.specs.Table.{same, Case, all}
use Rattle.scan.specs.Loop.{turns}
use Rattle.utf8.specs.White.{is_white}
use Rattle.utf8.specs.Utf8.{lead_of, follow, begun, decode, decode_at}
use Rattle.trim.specs.Trim.{passed, passed_at, kept, moved, trim_turn, trimmed}

-- Document 01, a text's "region": the bytes of a source from `from` to `to`.
pub record Region : Type 0 where
  pub source : List ℕ
  pub from : ℕ
  pub to : ℕ

-- Document 01: the trimmed place, as its two byte offsets.
unfoldable pub answer : Region → List ℕ
answer r = let p = trimmed r.source r.from r.to in p.from ∷ p.to ∷ []

-- Document 01: "An empty trimmed text sits at its region's start"; blanks of one, two and three bytes at both ends; blanks inside stay; regions in larger sources.
unfoldable pub regions : List (Case Region)
regions =
    record { input = record { source = []; from = 0; to = 0 }; gives = 0 ∷ 0 ∷ [] }
    ∷ record { input = record { source = 0x61 ∷ 0x20 ∷ 0x62 ∷ []; from = 1; to = 1 }; gives = 1 ∷ 1 ∷ [] }
    ∷ record { input = record { source = 0x61 ∷ 0x62 ∷ []; from = 2; to = 1 }; gives = 2 ∷ 2 ∷ [] }
    ∷ record { input = record { source = 0x20 ∷ 0x09 ∷ 0x0A ∷ 0x0D ∷ []; from = 0; to = 4 }; gives = 0 ∷ 0 ∷ [] }
    ∷ record { input = record { source = 0x7B ∷ 0x20 ∷ 0xC2 ∷ 0xA0 ∷ 0x7D ∷ []; from = 1; to = 4 }; gives = 1 ∷ 1 ∷ [] }
    ∷ record { input = record { source = 0x61 ∷ 0x62 ∷ []; from = 0; to = 2 }; gives = 0 ∷ 2 ∷ [] }
    ∷ record { input = record { source = 0x20 ∷ 0x09 ∷ 0x61 ∷ 0x0B ∷ 0x0C ∷ []; from = 0; to = 5 }; gives = 2 ∷ 3 ∷ [] }
    ∷ record { input = record { source = 0xC2 ∷ 0x85 ∷ 0x61 ∷ 0xC2 ∷ 0x85 ∷ []; from = 0; to = 5 }; gives = 2 ∷ 3 ∷ [] }
    ∷ record { input = record { source = 0xC2 ∷ 0xA0 ∷ 0x61 ∷ 0xC2 ∷ 0xA0 ∷ []; from = 0; to = 5 }; gives = 2 ∷ 3 ∷ [] }
    ∷ record { input = record { source = 0xE2 ∷ 0x80 ∷ 0x83 ∷ 0x61 ∷ 0xE2 ∷ 0x80 ∷ 0x83 ∷ []; from = 0; to = 7 }; gives = 3 ∷ 4 ∷ [] }
    ∷ record { input = record { source = 0xE3 ∷ 0x80 ∷ 0x80 ∷ 0x61 ∷ 0xE3 ∷ 0x80 ∷ 0x80 ∷ []; from = 0; to = 7 }; gives = 3 ∷ 4 ∷ [] }
    ∷ record { input = record { source = 0x20 ∷ 0xE2 ∷ 0x80 ∷ 0x8B ∷ 0x20 ∷ []; from = 0; to = 5 }; gives = 1 ∷ 4 ∷ [] }
    ∷ record { input = record { source = 0x20 ∷ 0xC3 ∷ 0xA9 ∷ 0x20 ∷ 0xE3 ∷ 0x80 ∷ 0x80 ∷ 0xF0 ∷ 0x9D ∷ 0x84 ∷ 0x9E ∷ 0x20 ∷ []; from = 0; to = 12 }; gives = 1 ∷ 11 ∷ [] }
    ∷ record { input = record { source = 0x61 ∷ 0x7B ∷ 0x20 ∷ 0x62 ∷ 0x20 ∷ 0x7D ∷ 0x63 ∷ []; from = 2; to = 5 }; gives = 3 ∷ 4 ∷ [] }
    ∷ []

pub regions_hold : all answer regions ≡ true
unfolding all same regions answer trimmed turns trim_turn moved kept passed passed_at is_white lead_of follow begun decode decode_at
regions_hold = refl
