-- Request Twelve: what the catalogue's blocks hold, as numbers and bytes one behind the other. "counts, source length, singles, kind, the rows of the tables that a read fills in number order, and the source".
use Rattle.std.specs.Prelude.{ℕ, zero, suc, ◌+◌, ◌*◌, ◌/◌, ◌-◌, ◌≤◌, ◌<◌, ◌≡◌, List, [], ◌∷◌, ◌++◌, Bool, true, false, ◌&&◌, ◌||◌, eqb, leb, ltb, length, get_or, take, Result, Ok, Err}
use Rattle.blocks.specs.declared.BlockFault.{BlockFault}
use Rattle.blocks.specs.declared.BlockFault.TheVariants.{WrongNumber, WrongCheck}
use Rattle.blocks.specs.Blocks.{bytes_of_all, words_in, content_of, zero_bytes, first_fault, blocks_for}
use Rattle.tables.specs.Layout.{width, table_number}
use Rattle.grammar.specs.declared.Counts.{Counts}
use Rattle.grammar.specs.declared.PosixCounts.{PosixCounts}
use Rattle.grammar.specs.declared.Singles.{Singles}
use Rattle.grammar.specs.Sound.{AllTables, ten_of, Indexes, cells_of}
use Rattle.sound.specs.Test.{posix_test, sound_test}
use Rattle.singles.specs.Singles.{singles_cells, counts_cells, posix_cells, singles_of}
use Rattle.catalogue.specs.declared.Head.{Head}
use Rattle.catalogue.specs.declared.FindingError.{FindingError}
use Rattle.catalogue.specs.declared.FindingError.TheVariants.{NoWholeBlocks, FaultyNumber, FaultyCheck, Unfilled, WrongSize, NoRoom}

-- numbers of 32 bits each
abbrev pub Fit32 : List ℕ → Type 0
Fit32 xs = (j : ℕ) → get_or xs j 0 < 4294967296

-- bytes
abbrev pub Bytes : List ℕ → Type 0
Bytes xs = (j : ℕ) → get_or xs j 0 < 256

-- ---- what is written

-- the counts of the thirteen tables by index
abbrev pub rows_at : Counts → PosixCounts → ℕ → ℕ
rows_at c p k = get_or (counts_cells c ++ posix_cells p) k 0

-- the numbers in front: thirteen counts, the source's length, the singles' 24, the kind
unfoldable pub head_cells : Head → List ℕ
head_cells h = ((counts_cells h.counts ++ posix_cells h.posix ++ (h.length ∷ [])) ++ singles_cells h.singles) ++ (h.kind ∷ [])

-- how many cells a table's rows take, and how many the n tables from index k on take
abbrev pub cells_at : Counts → PosixCounts → ℕ → ℕ
cells_at c p k = rows_at c p k * width k

unfoldable pub cells_before : Counts → PosixCounts → ℕ → ℕ
cells_before c p zero = 0
cells_before c p (suc k) = cells_before c p k + cells_at c p k

-- where the rows of the table with index k begin, in bytes; behind the last table the source begins
abbrev pub rows_from : Counts → PosixCounts → ℕ → ℕ
rows_from c p k = 156 + 4 * cells_before c p k

-- "Each number takes four bytes": head, rows and source together
unfoldable pub content_size : Counts → PosixCounts → ℕ → ℕ
content_size c p n = rows_from c p 13 + n

-- the cells of the n tables from index k on that hold rows
unfoldable pub row_cells : Counts → PosixCounts → AllTables → ℕ → ℕ → List ℕ
row_cells c p T k zero = []
row_cells c p T k (suc n) = take (cells_at c p k) (cells_of T k) ++ row_cells c p T (suc k) n

-- the whole content
unfoldable pub content : Head → AllTables → List ℕ → List ℕ
content h T src = bytes_of_all (head_cells h ++ row_cells h.counts h.posix T 0 13) ++ src

-- ---- what is read back

-- the 39 numbers in front, as the head that they are
abbrev pub head_of : List ℕ → Head
head_of m =
    record {
      kind = get_or m 38 0;
      counts = record { n = get_or m 0 0 ∷ get_or m 1 0 ∷ get_or m 2 0 ∷ get_or m 3 0 ∷ get_or m 4 0 ∷ get_or m 5 0 ∷ get_or m 6 0 ∷ get_or m 7 0 ∷ get_or m 8 0 ∷ get_or m 9 0 ∷ [] };
      posix = record { n = get_or m 10 0 ∷ get_or m 11 0 ∷ get_or m 12 0 ∷ [] };
      length = get_or m 13 0;
      singles = singles_of m;
    }

-- the head in front of the blocks' content
abbrev pub head_in : List ℕ → Head
head_in s = head_of (words_in (content_of s) 0 39)

-- "each single is led by a number 0 (absent, its fields zero) or 1": a single from cell k on, with n fields behind its lead
unfoldable pub zero_cells : List ℕ → ℕ → ℕ → Bool
zero_cells m k zero = true
zero_cells m k (suc n) = eqb (get_or m k 0) 0 && zero_cells m (k + 1) n

unfoldable pub lead_test : List ℕ → ℕ → ℕ → Bool
lead_test m k n = eqb (get_or m k 0) 1 || zero_cells m k (suc n)

-- "a bad kind or lead": a kind of 1 to 4, and the six leads
unfoldable pub head_test : List ℕ → Bool
head_test m =
    (leb 1 (get_or m 38 0) && leb (get_or m 38 0) 4)
    && (lead_test m 14 2 && (lead_test m 17 4 && (lead_test m 22 4 && (lead_test m 27 4 && (lead_test m 32 2 && lead_test m 35 2)))))

-- "content that the counts and source length don't fill exactly, padding that isn't zero"
unfoldable pub filled_test : List ℕ → ℕ → Bool
filled_test b n = eqb (blocks_for n * 504) (length b) && zero_bytes b n (length b - n)

-- "42 (lowest table first, source 19)": the number of the first of n tables from index k on whose cells do not fit, or else the source's, or 0; ls are the lent lengths
unfoldable pub first_short : Counts → PosixCounts → List ℕ → ℕ → ℕ → ℕ
first_short c p ls k zero = 0
first_short c p ls k (suc n) = elim (leb (cells_at c p k) (get_or ls k 0)) [ true ↦ first_short c p ls (suc k) n | false ↦ table_number k ]

-- That number without a search: of the n tables from index k on one is short, every earlier one fits, and q is its number.
pub record ShortAt (c : Counts) (p : PosixCounts) (ls : List ℕ) (k n q : ℕ) : Type 0 where
  pub index : ℕ
  pub from : k ≤ index
  pub inside : index < k + n
  pub number : q ≡ table_number index
  pub short : get_or ls index 0 < cells_at c p index
  pub earlier : (j : ℕ) → k ≤ j → j < index → cells_at c p j ≤ get_or ls j 0

abbrev pub short_table : ℕ → ℕ → ℕ → ℕ
short_table zero n l = elim (leb n l) [ true ↦ 0 | false ↦ 19 ]
short_table (suc k) n l = suc k

unfoldable pub no_room : Head → List ℕ → ℕ → ℕ
no_room h ls l = short_table (first_short h.counts h.posix ls 0 13) h.length l

-- the lent tables' lengths by index
abbrev pub lengths_of : AllTables → List ℕ
lengths_of T = length T.t1 ∷ length T.t2 ∷ length T.t3 ∷ length T.t4 ∷ length T.t5 ∷ length T.t6 ∷ length T.t7 ∷ length T.t8 ∷ length T.t9 ∷ length T.t10 ∷ length T.t15 ∷ length T.t16 ∷ length T.t17 ∷ []

-- what blocks come to before anything is filled: the refusals in document 02's order
abbrev pub roomed : ℕ → Result (Unit {0}) FindingError
roomed zero = Ok tt
roomed (suc k) = Err (NoRoom (suc k))

abbrev pub sized_head : Bool → Head → List ℕ → ℕ → Result (Unit {0}) FindingError
sized_head true h ls l = roomed (no_room h ls l)
sized_head false h ls l = Err WrongSize

abbrev pub good_head : Bool → Bool → List ℕ → List ℕ → ℕ → Result (Unit {0}) FindingError
good_head true sized m ls l = sized_head sized (head_of m) ls l
good_head false sized m ls l = Err Unfilled

unfoldable pub held_in : List ℕ → Bool → List ℕ → ℕ → Result (Unit {0}) FindingError
held_in b sized ls l = let m = words_in b 0 39 in good_head (head_test m && filled_test b (content_size (head_of m).counts (head_of m).posix (head_of m).length)) sized m ls l

abbrev pub right_blocks : Result (Unit {0}) BlockFault → List ℕ → Bool → List ℕ → ℕ → Result (Unit {0}) FindingError
right_blocks (Ok _) b sized ls l = held_in b sized ls l
right_blocks (Err WrongNumber) b sized ls l = Err FaultyNumber
right_blocks (Err WrongCheck) b sized ls l = Err FaultyCheck

-- "60 length zero or no multiple of 512"
unfoldable pub whole_test : List ℕ → Bool
whole_test s = ltb 0 (length s) && eqb (length s / 512 * 512) (length s)

abbrev pub whole_blocks : Bool → List ℕ → Bool → List ℕ → ℕ → Result (Unit {0}) FindingError
whole_blocks true s sized ls l = right_blocks (first_fault (length s / 512) s) (content_of s) sized ls l
whole_blocks false s sized ls l = Err NoWholeBlocks

unfoldable pub examined : List ℕ → Bool → List ℕ → ℕ → Result (Unit {0}) FindingError
examined s sized ls l = whole_blocks (whole_test s) s sized ls l

-- "44": of all thirteen tables
abbrev pub sound_reading : List ℕ → Counts → PosixCounts → Singles → AllTables → Indexes → Bool
sound_reading src c p g T X = sound_test src c g (ten_of T) X && posix_test src p T.t15 T.t16 T.t17
