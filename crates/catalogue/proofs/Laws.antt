-- What the functions' proofs cite: counts and cells of the thirteen tables, the head as cells and back, its tests, and what is left of a definition behind each test. Assumes nothing.
use Rattle.std.specs.Prelude.{Result, Ok, Err}
use Prim.Native.Nat.{ℕ, zero, suc, ◌+◌, ◌*◌, ◌/◌, ◌-◌, ◌≤◌, ◌<◌}
use mathlib.Core.Path.{◌≡◌, refl, sym, ap, ◌∙◌}
use mathlib.Core.List.{List, [], ◌∷◌, ◌++◌, append-nil}
use mathlib.Core.Bool.{Bool, true, false, ◌&&◌, not, and_assoc, and-false}
use native.Mathlib.Omega.{arith}
use native.Mathlib.Numerals.{add-one}
use native.Mathlib.Nat.{mul-le-mul_left, mul-le-mul_right}
use borrow.Author.Tests.{eq-eqb, ne_eqb, le-leb, lt-leb, lt-ltb, not-true, not-false}
use lib.Dec.{eqb, leb, ltb}
use lib.ListN.{length, get_or, set, take, drop, replicate}
use lib.Seq.{set_at}
use Rattle.std.specs.List.{list_all}
use Rattle.scan.proofs.Bytes.{drop_at}
use Rattle.tables.specs.Layout.{width, table_number}
use Rattle.tables.specs.Table.{put}
use Rattle.blocks.specs.declared.BlockFault.{BlockFault}
use Rattle.blocks.specs.declared.BlockFault.TheVariants.{WrongNumber, WrongCheck}
use Rattle.blocks.specs.Blocks.{words_in, content_of, zero_bytes, capacity, blocks_for, first_fault}
use Rattle.blocks.proofs.Laws.{of_length}
use Rattle.grammar.specs.declared.Counts.{Counts}
use Rattle.grammar.specs.declared.PosixCounts.{PosixCounts}
use Rattle.grammar.specs.declared.Singles.{Singles}
use Rattle.singles.specs.Singles.{singles_cells, counts_cells, posix_cells, singles_of}
use Rattle.singles.proofs.Laws.{put_over, put_behind, singles_length}
use Rattle.catalogue.specs.declared.Head.{Head}
use Rattle.catalogue.specs.declared.FindingError.TheVariants.{NoWholeBlocks, FaultyNumber, FaultyCheck, Unfilled, WrongSize, NoRoom}
use Rattle.catalogue.specs.Catalogue.{rows_at, head_cells, cells_at, cells_before, content_size, head_of, zero_cells, lead_test, head_test, filled_test, first_short, short_table, no_room, roomed, sized_head, good_head, held_in, right_blocks, whole_test, examined}

-- ---- counts and cells

-- the count of a table is one of the ten, one of the three behind them, or none
module _ (c : Counts) (p : PosixCounts) where
  pub rows_ten : (k : ℕ) → k < 10 → get_or c.n k 0 ≡ rows_at c p k
  rows_ten zero h = refl
  rows_ten (suc zero) h = refl
  rows_ten (suc (suc zero)) h = refl
  rows_ten (suc (suc (suc zero))) h = refl
  rows_ten (suc (suc (suc (suc zero)))) h = refl
  rows_ten (suc (suc (suc (suc (suc zero))))) h = refl
  rows_ten (suc (suc (suc (suc (suc (suc zero)))))) h = refl
  rows_ten (suc (suc (suc (suc (suc (suc (suc zero))))))) h = refl
  rows_ten (suc (suc (suc (suc (suc (suc (suc (suc zero)))))))) h = refl
  rows_ten (suc (suc (suc (suc (suc (suc (suc (suc (suc zero))))))))) h = refl
  rows_ten (suc (suc (suc (suc (suc (suc (suc (suc (suc (suc k)))))))))) h = absurd (omega arith)

  rows_behind : (j : ℕ) → j < 3 → get_or p.n j 0 ≡ rows_at c p (suc (suc (suc (suc (suc (suc (suc (suc (suc (suc j))))))))))
  rows_behind zero h = refl
  rows_behind (suc zero) h = refl
  rows_behind (suc (suc zero)) h = refl
  rows_behind (suc (suc (suc j))) h = absurd (omega arith)

  pub rows_three : (k : ℕ) → 10 ≤ k → k < 13 → get_or p.n (k - 10) 0 ≡ rows_at c p k
  rows_three k h l =
      let e : suc (suc (suc (suc (suc (suc (suc (suc (suc (suc (k - 10)))))))))) ≡ k = omega arith in
      rows_behind (k - 10) (omega arith) ∙ ap (λ (i : ℕ). rows_at c p i) e

  pub rows_past : (k : ℕ) → 13 ≤ k → 0 ≡ rows_at c p k
  rows_past k h =
      let e : suc (suc (suc (suc (suc (suc (suc (suc (suc (suc (suc (suc (suc (k - 13))))))))))))) ≡ k = omega arith in
      ap (λ (i : ℕ). rows_at c p i) e

pub width_most : (k : ℕ) → width k ≤ 13
width_most zero = omega arith
width_most (suc zero) = omega arith
width_most (suc (suc zero)) = omega arith
width_most (suc (suc (suc zero))) = omega arith
width_most (suc (suc (suc (suc zero)))) = omega arith
width_most (suc (suc (suc (suc (suc zero))))) = omega arith
width_most (suc (suc (suc (suc (suc (suc zero)))))) = omega arith
width_most (suc (suc (suc (suc (suc (suc (suc zero))))))) = omega arith
width_most (suc (suc (suc (suc (suc (suc (suc (suc zero)))))))) = omega arith
width_most (suc (suc (suc (suc (suc (suc (suc (suc (suc zero))))))))) = omega arith
width_most (suc (suc (suc (suc (suc (suc (suc (suc (suc (suc zero)))))))))) = omega arith
width_most (suc (suc (suc (suc (suc (suc (suc (suc (suc (suc (suc zero))))))))))) = omega arith
width_most (suc (suc (suc (suc (suc (suc (suc (suc (suc (suc (suc (suc zero)))))))))))) = omega arith
width_most (suc (suc (suc (suc (suc (suc (suc (suc (suc (suc (suc (suc (suc k))))))))))))) = omega arith

-- rows that 32 bits count have no more cells than this
pub cells_most : (k r w : ℕ) → r < 4294967296 → w ≡ width k → r * w ≤ 13 * 4294967295
cells_most k r w h e =
    let l : w ≤ 13 = rw e (width_most k) in
    let m : r ≤ 4294967295 = omega arith in
    let a = mul-le-mul_left r l in
    let b = mul-le-mul_right 13 m in
    omega (arith, a, b)

pub cells_are : (c : Counts) (p : PosixCounts) (k r w : ℕ) → r ≡ rows_at c p k → w ≡ width k → r * w ≡ cells_at c p k
cells_are c p k r w e f = rw (e, f)

pub before_none : (c : Counts) (p : PosixCounts) → 0 ≡ cells_before c p 0
unfolding cells_before
before_none c p = refl

pub before_more : (c : Counts) (p : PosixCounts) (i n a : ℕ) → n ≡ cells_before c p i → a ≡ cells_at c p i → n + a ≡ cells_before c p (i + 1)
unfolding cells_before
before_more c p i n a e f = rw (e, f, add-one i)

-- ---- the head as numbers, and back

-- the first fourteen cells, the singles' and the kind, stored one behind the other
module _ (h : Head) (s m1 m2 : List ℕ) where
  abbrev front : List ℕ
  front = counts_cells h.counts ++ posix_cells h.posix ++ (h.length ∷ [])

  pub head_put : s ≡ singles_cells h.singles → m1 ≡ put (replicate 39 0) 0 front → m2 ≡ put m1 14 s → set m2 38 h.kind ≡ head_cells h
  unfolding head_cells
  head_put hs k1 k2 =
      let n : length s ≡ 24 = ap length hs ∙ singles_length h.singles in
      let e1 : m1 ≡ front ++ (replicate 24 0 ++ (0 ∷ [])) = k1 in
      let e2 : m2 ≡ (front ++ s) ++ (0 ∷ []) = k2 ∙ ap (λ (l : List ℕ). put l 14 s) e1 ∙ put_behind front _ s ∙ ap (λ (l : List ℕ). front ++ l) (put_over (replicate 24 0) (0 ∷ []) s n) in
      let z : length (front ++ s) ≡ 38 = omega (arith, n) in
      ap (λ (l : List ℕ). set l 38 h.kind) e2 ∙ set_at (front ++ s) 0 [] h.kind 38 z ∙ ap (λ (l : List ℕ). (front ++ l) ++ (h.kind ∷ [])) hs

pub head_is : (m : List ℕ) (g : Singles) → g ≡ singles_of m
    → ◌≡◌ {A = Head} (record { kind = (head_of m).kind; counts = (head_of m).counts; posix = (head_of m).posix; length = (head_of m).length; singles = g }) (head_of m)
head_is m g e = ap (λ (x : Singles). record { kind = (head_of m).kind; counts = (head_of m).counts; posix = (head_of m).posix; length = (head_of m).length; singles = x }) e

-- ---- its tests

-- cells that are zero, as a part of them all
pub zero_all : (m : List ℕ) (k n : ℕ) → k + n ≤ length m → list_all (λ x. eqb x 0) (take n (drop k m)) ≡ zero_cells m k n
unfolding zero_cells
zero_all m k zero h = refl
zero_all m k (suc n) h = rw (drop_at m k (omega arith)) (ap (λ b. eqb (get_or m k 0) 0 && b) (zero_all m (k + 1) n (omega arith)))

module _ (m : List ℕ) (k n : ℕ) where
  pub lead_one : get_or m k 0 ≡ 1 → true ≡ lead_test m k n
  unfolding lead_test
  lead_one e = rw (lead_test, eq-eqb (get_or m k 0) 1 e)

  pub lead_zero : (q : Bool) → (get_or m k 0 ≡ 1 → ⊥) → q ≡ zero_cells m k (n + 1) → q ≡ lead_test m k n
  unfolding lead_test
  lead_zero q e f = rw (lead_test, ne_eqb (get_or m k 0) 1 e, ← add-one n) f

and_all : (x a b c d e f : Bool) → (x && a && b && c && d && e && f) ≡ (x && (a && (b && (c && (d && (e && f))))))
and_all x a b c d e f = simp and_assoc

pub head_tests : (m : List ℕ) (a b c d e f : Bool) → a ≡ lead_test m 14 2 → b ≡ lead_test m 17 4 → c ≡ lead_test m 22 4 → d ≡ lead_test m 27 4 → e ≡ lead_test m 32 2 → f ≡ lead_test m 35 2
    → ((leb 1 (get_or m 38 0) && leb (get_or m 38 0) 4) && a && b && c && d && e && f) ≡ head_test m
unfolding head_test
head_tests m a b c d e f ha hb hc hd he hf = and_all (leb 1 (get_or m 38 0) && leb (get_or m 38 0) 4) a b c d e f ∙ rw (ha, hb, hc, hd, he, hf)

-- content fills its blocks
module _ (s : List ℕ) (n : ℕ) where
  pub filled_not : (blocks_for n * 504 ≡ capacity s → ⊥) → false ≡ filled_test (content_of s) n
  unfolding filled_test
  filled_not h = rw (filled_test, of_length s, ne_eqb (blocks_for n * 504) (capacity s) h)

  pub filled_is : (q : Bool) → blocks_for n * 504 ≡ capacity s → q ≡ zero_bytes (content_of s) n (capacity s - n) → q ≡ filled_test (content_of s) n
  unfolding filled_test
  filled_is q h e = rw (filled_test, of_length s, eq-eqb (blocks_for n * 504) (capacity s) h) e

-- ---- room

-- the first table whose cells do not fit: what the tables from index k on come to is the whole
module _ (c : Counts) (p : PosixCounts) (ls : List ℕ) (k r : ℕ) (inv : first_short c p ls k (13 - k) ≡ r) where
  pub short_on : (a : ℕ) → k < 13 → a ≡ cells_at c p k → a ≤ get_or ls k 0 → first_short c p ls (k + 1) (13 - (k + 1)) ≡ r
  unfolding first_short
  short_on a h e l =
      let z : 13 - k ≡ suc (13 - (k + 1)) = omega arith in
      let f : cells_at c p k ≤ get_or ls k 0 = omega arith in
      rw (add-one k) (rw (z, le-leb (cells_at c p k) (get_or ls k 0) f, first_short, add-one k) at inv)

  pub short_here : (a t : ℕ) → k < 13 → a ≡ cells_at c p k → get_or ls k 0 < a → t ≡ table_number k → t ≡ r
  unfolding first_short
  short_here a t h e l q =
      let z : 13 - k ≡ suc (13 - (k + 1)) = omega arith in
      let f : get_or ls k 0 < cells_at c p k = omega arith in
      q ∙ (rw (z, lt-leb (cells_at c p k) (get_or ls k 0) f, first_short) at inv)

  pub short_none : 13 ≤ k → 0 ≡ r
  unfolding first_short
  short_none h =
      let z : 13 - k ≡ 0 = omega arith in
      rw z at inv

short_some : (k n l : ℕ) → (k ≡ 0 → ⊥) → k ≡ short_table k n l
short_some zero n l h = absurd (h refl)
short_some (suc k) n l h = refl

-- a table that does not fit comes before the source
module _ (h : Head) (ls : List ℕ) (l k : ℕ) (e : k ≡ first_short h.counts h.posix ls 0 13) where
  pub room_table : (k ≡ 0 → ⊥) → k ≡ no_room h ls l
  unfolding no_room
  room_table f = short_some k h.length l f ∙ ap (λ (x : ℕ). short_table x h.length l) e

  pub room_fits : k ≡ 0 → h.length ≤ l → 0 ≡ no_room h ls l
  unfolding no_room
  room_fits f g =
      let z : 0 ≡ short_table 0 h.length l = rw (short_table, le-leb h.length l g) in
      z ∙ ap (λ (x : ℕ). short_table x h.length l) (sym f ∙ e)

  pub room_source : k ≡ 0 → l < h.length → 19 ≡ no_room h ls l
  unfolding no_room
  room_source f g =
      let z : 19 ≡ short_table 0 h.length l = rw (short_table, lt-leb h.length l g) in
      z ∙ ap (λ (x : ℕ). short_table x h.length l) (sym f ∙ e)

-- ---- what blocks come to

-- the 39 numbers read into cells that hold no more
pub read_head : (b m : List ℕ) → m ≡ words_in b 0 39 ++ drop 39 (replicate 39 0) → m ≡ words_in b 0 39
read_head b m e = e ∙ append-nil (words_in b 0 39)

roomed_short : (k : ℕ) → (k ≡ 0 → ⊥) → Err (NoRoom k) ≡ roomed k
roomed_short zero f = absurd (f refl)
roomed_short (suc k) f = refl

-- right blocks: the head's tests, then size and room
module _ (b ls : List ℕ) (sized : Bool) (l : ℕ) (m : List ℕ) (q : Bool) (hm : m ≡ words_in b 0 39) (hq : q ≡ head_test m) where
  pub held_bad : not q ≡ true → Err Unfilled ≡ held_in b sized ls l
  unfolding held_in
  held_bad f = rw (held_in, ← hm, ← hq, not-true q f)

  module _ (h : Head) (n : ℕ) (t : Bool) (hh : h ≡ head_of m) (hn : n ≡ content_size h.counts h.posix h.length) (ht : t ≡ filled_test b n) (good : not q ≡ false) where
    held_good : good_head t sized m ls l ≡ held_in b sized ls l
    unfolding held_in
    held_good =
        let u : t ≡ filled_test b (content_size (head_of m).counts (head_of m).posix (head_of m).length) = ht ∙ ap (λ (x : ℕ). filled_test b x) (hn ∙ ap (λ (x : Head). content_size x.counts x.posix x.length) hh) in
        ap (λ (x : Bool). good_head x sized m ls l) u ∙ rw (held_in, ← hm, ← hq, not-false q good)

    pub held_unfilled : not t ≡ true → Err Unfilled ≡ held_in b sized ls l
    held_unfilled f = ap (λ (x : Bool). good_head x sized m ls l) (sym (not-true t f)) ∙ held_good

    module _ (filled : not t ≡ false) where
      held_filled : sized_head sized (head_of m) ls l ≡ held_in b sized ls l
      held_filled = ap (λ (x : Bool). good_head x sized m ls l) (sym (not-false t filled)) ∙ held_good

      pub held_unsized : not sized ≡ true → Err WrongSize ≡ held_in b sized ls l
      held_unsized f = ap (λ (x : Bool). sized_head x (head_of m) ls l) (sym (not-true sized f)) ∙ held_filled

      module _ (fits : not sized ≡ false) (k : ℕ) (hk : k ≡ no_room h ls l) where
        held_sized : roomed k ≡ held_in b sized ls l
        held_sized =
            ap roomed hk ∙ ap (λ (x : Head). roomed (no_room x ls l)) hh ∙ ap (λ (x : Bool). sized_head x (head_of m) ls l) (sym (not-false sized fits)) ∙ held_filled

        pub held_short : (k ≡ 0 → ⊥) → Err (NoRoom k) ≡ held_in b sized ls l
        held_short f = roomed_short k f ∙ held_sized

        pub held_right : k ≡ 0 → Ok tt ≡ held_in b sized ls l
        held_right f = ap roomed (sym f) ∙ held_sized

-- all blocks
module _ (s ls : List ℕ) (sized : Bool) (l : ℕ) where
  pub none_whole : length s ≡ 0 → Err NoWholeBlocks ≡ examined s sized ls l
  unfolding examined whole_test
  none_whole e = rw (examined, whole_test, e)

  pub part_whole : (length s / 512 * 512 ≡ length s → ⊥) → Err NoWholeBlocks ≡ examined s sized ls l
  unfolding examined whole_test
  part_whole f = rw (examined, whole_test, ne_eqb (length s / 512 * 512) (length s) f, and-false (ltb 0 (length s)))

  module _ (some : length s ≡ 0 → ⊥) (whole : length s / 512 * 512 ≡ length s) (f : Result (Unit {0}) BlockFault) (hf : f ≡ first_fault (length s / 512) s) where
    all_whole : right_blocks f (content_of s) sized ls l ≡ examined s sized ls l
    unfolding examined whole_test
    all_whole = rw (examined, whole_test, eq-eqb (length s / 512 * 512) (length s) whole, lt-ltb 0 (length s) (omega arith), ← hf)

    pub right_held : f ≡ Ok tt → held_in (content_of s) sized ls l ≡ examined s sized ls l
    right_held e = ap (λ (x : Result (Unit {0}) BlockFault). right_blocks x (content_of s) sized ls l) (sym e) ∙ all_whole

    pub wrong_number : f ≡ Err WrongNumber → Err FaultyNumber ≡ examined s sized ls l
    wrong_number e = ap (λ (x : Result (Unit {0}) BlockFault). right_blocks x (content_of s) sized ls l) (sym e) ∙ all_whole

    pub wrong_check : f ≡ Err WrongCheck → Err FaultyCheck ≡ examined s sized ls l
    wrong_check e = ap (λ (x : Result (Unit {0}) BlockFault). right_blocks x (content_of s) sized ls l) (sym e) ∙ all_whole

-- one test behind another
module _ (a b q : Bool) (e : q ≡ a) where
  pub first_no : not q ≡ true → false ≡ (a && b)
  first_no h = rw (← e, not-true q h)

  pub first_yes : not q ≡ false → (r : Bool) → r ≡ b → r ≡ (a && b)
  first_yes h r f = rw (← e, not-false q h, ← f)
