-- The singles and counts of a reading as cells, in the order of the C names: document 01, "start, `%expect`, `%expect_rr`, parse parameter, generics and programs, each absent or given".
use Rattle.std.specs.Prelude.{ℕ, ◌+◌, ◌*◌, ◌/◌, ◌%◌, true, false, List, [], ◌∷◌, ◌++◌, eqb, get_or, Option, Some, None}
use Rattle.grammar.specs.declared.Counts.{Counts}
use Rattle.grammar.specs.declared.PosixCounts.{PosixCounts}
use Rattle.grammar.specs.declared.Singles.{Singles}
use Rattle.grammar.specs.Numbers.{part_numbers, param_numbers}

-- each single is led by 0 or 1; `%expect` and `%expect_rr` are five numbers: the value in halves, and the place
abbrev pub expect_cells : Option (ℕ × ℕ × ℕ) → List ℕ
expect_cells None = 0 ∷ 0 ∷ 0 ∷ 0 ∷ 0 ∷ []
expect_cells (Some (v, a, b)) = 1 ∷ v % 4294967296 ∷ v / 4294967296 ∷ a ∷ b ∷ []

-- start three numbers, `%expect` and `%expect_rr` five each, parse parameter five, generics three, programs three
abbrev pub singles_cells : Singles → List ℕ
singles_cells g =
    part_numbers g.start ++ expect_cells g.expect ++ expect_cells g.expect_rr ++ param_numbers g.param ++ part_numbers g.generics ++ part_numbers g.programs

-- "the ten counts of tables 1 to 10"
abbrev pub counts_cells : Counts → List ℕ
counts_cells c =
    get_or c.n 0 0 ∷ get_or c.n 1 0 ∷ get_or c.n 2 0 ∷ get_or c.n 3 0 ∷ get_or c.n 4 0 ∷ get_or c.n 5 0 ∷ get_or c.n 6 0 ∷ get_or c.n 7 0 ∷ get_or c.n 8 0 ∷ get_or c.n 9 0 ∷ []

-- and "counts beside the ten" (document 02, request Nine), of tables 15 to 17
abbrev pub posix_cells : PosixCounts → List ℕ
posix_cells p = get_or p.n 0 0 ∷ get_or p.n 1 0 ∷ get_or p.n 2 0 ∷ []

-- a single is absent where its flag is 0, and given where it is any other number
unfoldable pub part_from : ℕ → ℕ → ℕ → Option (ℕ × ℕ)
part_from f a b = elim (eqb f 0) [ true ↦ None | false ↦ Some (a, b) ]

unfoldable pub expect_from : ℕ → ℕ → ℕ → ℕ → ℕ → Option (ℕ × ℕ × ℕ)
expect_from f low high a b = elim (eqb f 0) [ true ↦ None | false ↦ Some (high * 4294967296 + low, a, b) ]

unfoldable pub param_from : ℕ → ℕ → ℕ → ℕ → ℕ → Option (ℕ × ℕ × ℕ × ℕ)
param_from f a b c d = elim (eqb f 0) [ true ↦ None | false ↦ Some (a, b, c, d) ]

-- among the cells of a reading they stand from cell 14 on: behind its answer and ten counts in the C names' array, behind its counts and its source's length in the catalogue
abbrev pub singles_of : List ℕ → Singles
singles_of m =
    record {
      start = part_from (get_or m 14 0) (get_or m 15 0) (get_or m 16 0);
      expect = expect_from (get_or m 17 0) (get_or m 18 0) (get_or m 19 0) (get_or m 20 0) (get_or m 21 0);
      expect_rr = expect_from (get_or m 22 0) (get_or m 23 0) (get_or m 24 0) (get_or m 25 0) (get_or m 26 0);
      param = param_from (get_or m 27 0) (get_or m 28 0) (get_or m 29 0) (get_or m 30 0) (get_or m 31 0);
      generics = part_from (get_or m 32 0) (get_or m 33 0) (get_or m 34 0);
      programs = part_from (get_or m 35 0) (get_or m 36 0) (get_or m 37 0);
    }

-- the counts in the C names' array: the ten behind number, place and table, and the three behind the singles
abbrev pub counts_of : List ℕ → Counts
counts_of m =
    record { n = get_or m 4 0 ∷ get_or m 5 0 ∷ get_or m 6 0 ∷ get_or m 7 0 ∷ get_or m 8 0 ∷ get_or m 9 0 ∷ get_or m 10 0 ∷ get_or m 11 0 ∷ get_or m 12 0 ∷ get_or m 13 0 ∷ [] }

abbrev pub posix_of : List ℕ → PosixCounts
posix_of m = record { n = get_or m 38 0 ∷ get_or m 39 0 ∷ get_or m 40 0 ∷ [] }
