-- Document 01: "The name of a row is handed back as the very part of the source it occupies, and not as a copy. This is for tables 1 and 7; another table number, a row
-- number not below its count or unsound tables give an empty part."
use Rattle.std.specs.Prelude.{ℕ, ◌-◌, List, [], true, false, eqb, ltb, take, drop}
use Rattle.scan.specs.declared.Place.{Place}
use Rattle.tables.specs.Table.{cell, lies}
use Rattle.tables.specs.Layout.{tokens, rules, width}
use Rattle.grammar.specs.declared.Counts.{Counts}
use Rattle.grammar.specs.declared.Singles.{Singles}
use Rattle.grammar.specs.Sound.{Tables, Indexes}
use Rattle.sound.specs.Test.{count_at, sound_test}

abbrev pub nowhere : Place
nowhere = record { from = 0; to = 0 }

-- the place of a row, where it is below the count
unfoldable pub row_place : List ℕ → ℕ → ℕ → ℕ → Place
row_place t w n row = elim (ltb row n) [ true ↦ record { from = cell w t row 0; to = cell w t row 1 } | false ↦ nowhere ]

unfoldable pub name_place : Counts → List ℕ → List ℕ → ℕ → ℕ → Place
name_place c t1 t7 table row =
    elim (eqb table 1) [
      | true ↦ row_place t1 (width tokens) (count_at c tokens) row
      | false ↦ elim (eqb table 7) [ true ↦ row_place t7 (width rules) (count_at c rules) row | false ↦ nowhere ]
    ]

-- the bytes of a place, those from a on; none where it does not lie in the source
unfoldable pub part_of : List ℕ → ℕ → ℕ → List ℕ
part_of src a b = elim (lies src a b) [ true ↦ take (b - a) (drop a src) | false ↦ [] ]

abbrev pub part_at : List ℕ → Place → List ℕ
part_at src p = part_of src p.from p.to

unfoldable pub name_of : List ℕ → Counts → Singles → Tables → Indexes → ℕ → ℕ → List ℕ
name_of src c g T X table row = elim (sound_test src c g T X) [ true ↦ part_at src (name_place c T.t1 T.t7 table row) | false ↦ [] ]
