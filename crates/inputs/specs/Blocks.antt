-- The block of docs/FORMAT.md, byte by byte: `%%s:;` of kind 1, as a writer in another language gives it (embed/catalogue.py).
use Rattle.std.specs.Prelude.{ℕ, ◌≡◌, refl, List, [], ◌∷◌, ◌++◌, replicate, Some, None}
use Rattle.grammar.specs.declared.Counts.{Counts}
use Rattle.grammar.specs.declared.PosixCounts.{PosixCounts}
use Rattle.grammar.specs.declared.Singles.{Singles}
use Rattle.grammar.specs.Sound.{AllTables}
use Rattle.blocks.specs.Blocks.{bytes_of_all, content_at, put_content, sums_from, sums_of, seal_at, seal_block, seal_all, blocks_of}
use Rattle.catalogue.specs.Catalogue.{head_cells, row_cells, content}
use Rattle.storing.specs.Storing.{head_with}

abbrev source : List ℕ
source = 37 ∷ 37 ∷ 115 ∷ 58 ∷ 59 ∷ []

-- one rule and one production
abbrev counts : Counts
counts = record { n = 0 ∷ 0 ∷ 0 ∷ 0 ∷ 0 ∷ 0 ∷ 1 ∷ 1 ∷ 0 ∷ 0 ∷ [] }

abbrev posix : PosixCounts
posix = record { n = 0 ∷ 0 ∷ 0 ∷ [] }

abbrev singles : Singles
singles = record { start = Some (2, 3); expect = None; expect_rr = None; param = None; generics = None; programs = None }

abbrev tables : AllTables
tables = record { t1 = []; t2 = []; t3 = []; t4 = []; t5 = []; t6 = []; t7 = 2 ∷ 3 ∷ replicate 8 0; t8 = 0 ∷ 4 ∷ 4 ∷ replicate 10 0; t9 = []; t10 = []; t15 = []; t16 = []; t17 = [] }

abbrev block : List ℕ
block =
    replicate 28 0
    ++ (1 ∷ [])
    ++ replicate 3 0
    ++ (1 ∷ [])
    ++ replicate 23 0
    ++ (5 ∷ [])
    ++ replicate 3 0
    ++ (1 ∷ [])
    ++ replicate 3 0
    ++ (2 ∷ [])
    ++ replicate 3 0
    ++ (3 ∷ [])
    ++ replicate 87 0
    ++ (1 ∷ [])
    ++ replicate 3 0
    ++ (2 ∷ [])
    ++ replicate 3 0
    ++ (3 ∷ [])
    ++ replicate 19 0
    ++ (4 ∷ [])
    ++ replicate 3 0
    ++ (4 ∷ [])
    ++ replicate 43 0
    ++ (37 ∷ 37 ∷ 115 ∷ 58 ∷ 59 ∷ [])
    ++ replicate 271 0
    ++ (239 ∷ 95 ∷ 150 ∷ 130 ∷ [])

-- written over bytes that are not zero, with some behind it
pub block_holds : blocks_of (content (head_with source 1 counts posix singles) tables source) (replicate 520 7) ≡ block ++ replicate 8 0
unfolding blocks_of seal_all seal_block seal_at sums_of sums_from put_content content_at content head_cells row_cells bytes_of_all
block_holds = refl
