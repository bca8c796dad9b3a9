-- What the functions' proofs cite: where a table's rows lie in the content, what it tells that blocks hold a reading, and what filling and reading back leave. Assumes nothing.
use Rattle.std.specs.Prelude.{Result, Ok, Err}
use Prim.Native.Nat.{ℕ, zero, suc, ◌+◌, ◌*◌, ◌/◌, ◌%◌, ◌≤◌, ◌<◌}
use mathlib.Core.Path.{◌≡◌, refl, sym, ap, ◌∙◌}
use mathlib.Core.List.{List, ◌++◌}
use mathlib.Core.Bool.{Bool, true, false, ◌&&◌, and-eq-true_iff}
use native.Mathlib.Omega.{arith}
use native.Mathlib.Decide.{ℕ_discrete}
use borrow.Author.Tests.{ltb-true, eqb-true, leb-true}
use lib.Dec.{leb, ltb, eqb}
use lib.ListN.{length, get_or, take, drop, length-replicate}
use lib.Seq.{slice}
use Rattle.tables.specs.Table.{zeroed}
use Rattle.blocks.specs.declared.BlockFault.{BlockFault}
use Rattle.blocks.specs.declared.BlockFault.TheVariants.{WrongNumber, WrongCheck}
use Rattle.blocks.specs.Blocks.{words_in, capacity, content_of, first_fault}
use Rattle.blocks.proofs.Laws.{of_length}
use Rattle.grammar.specs.declared.Counts.{Counts}
use Rattle.grammar.specs.declared.PosixCounts.{PosixCounts}
use Rattle.grammar.specs.declared.Singles.{Singles}
use Rattle.grammar.specs.Sound.{AllTables, Indexes, cells_of, zero_all}
use Rattle.sections.specs.Sections.{sized}
use Rattle.catalogue.specs.declared.Head.{Head}
use Rattle.catalogue.specs.declared.FindingError.{FindingError}
use Rattle.catalogue.specs.declared.FindingError.TheVariants.{NoWholeBlocks, FaultyNumber, FaultyCheck, Unfilled, WrongSize, NoRoom}
use Rattle.catalogue.specs.Catalogue.{cells_at, cells_before, rows_from, content_size, head_of, head_in, head_test, filled_test, first_short, short_table, no_room, lengths_of, roomed, sized_head, good_head, held_in, right_blocks, whole_test, whole_blocks, examined, sound_reading}
use Rattle.catalogue.proofs.Room.{short_none, filled_iff, lengths_at}
use Rattle.reader.proofs.Laws.{zeroed_again}
use Rattle.restoring.specs.declared.RestoringError.{RestoringError}
use Rattle.restoring.specs.declared.RestoringError.TheVariants.{RestoringUnsound}
use Rattle.restoring.specs.Restoring.{Restored, no_head, clear_indexes, cleared_out, filled_table, filled_tables, filled_source, entered_indexes, Tested, kept_if, filled_from, restored_as, restored}

-- ---- where rows lie

-- the tables before a later one have no fewer cells
before_grows : (c : Counts) (p : PosixCounts) (k m : ℕ) → k ≤ m → cells_before c p k ≤ cells_before c p m
unfolding cells_before
before_grows c p k zero h =
    let z : k ≡ 0 = omega arith in
    rw z (omega arith)
before_grows c p k (suc m) h = elim (ℕ_discrete k (suc m)) [ yes e ↦ rw e (omega arith) | no e ↦ omega (arith, before_grows c p k m (omega arith)) ]

-- the rows of a table begin at a number's place and end where the content does, or before
pub rows_fit : (c : Counts) (p : PosixCounts) (k m i n : ℕ) → k < 13 → rows_from c p 13 ≤ m → i ≡ rows_from c p k → n ≡ cells_at c p k → (i % 4 ≡ 0) × (i + 4 * n ≤ m)
unfolding cells_before
rows_fit c p k m i n h l e f =
    let g : cells_before c p k + cells_at c p k ≤ cells_before c p 13 = before_grows c p (suc k) 13 h in
    (omega arith, omega (arith, g))

-- ---- what it tells that blocks hold a reading

short_holds : (k : ℕ) → ◌≡◌ {A = Result (Unit {0}) FindingError} (Err (NoRoom k)) (Ok tt) → ⊥
short_holds k e = let z : ◌≡◌ {A = ℕ} 0 1 = cc in omega arith

size_holds : ◌≡◌ {A = Result (Unit {0}) FindingError} (Err WrongSize) (Ok tt) → ⊥
size_holds e = let z : ◌≡◌ {A = ℕ} 0 1 = cc in omega arith

unfilled_holds : ◌≡◌ {A = Result (Unit {0}) FindingError} (Err Unfilled) (Ok tt) → ⊥
unfilled_holds e = let z : ◌≡◌ {A = ℕ} 0 1 = cc in omega arith

number_holds : ◌≡◌ {A = Result (Unit {0}) FindingError} (Err FaultyNumber) (Ok tt) → ⊥
number_holds e = let z : ◌≡◌ {A = ℕ} 0 1 = cc in omega arith

check_holds : ◌≡◌ {A = Result (Unit {0}) FindingError} (Err FaultyCheck) (Ok tt) → ⊥
check_holds e = let z : ◌≡◌ {A = ℕ} 0 1 = cc in omega arith

whole_holds : ◌≡◌ {A = Result (Unit {0}) FindingError} (Err NoWholeBlocks) (Ok tt) → ⊥
whole_holds e = let z : ◌≡◌ {A = ℕ} 0 1 = cc in omega arith

room_none : (k : ℕ) → roomed k ≡ Ok tt → k ≡ 0
room_none zero e = refl
room_none (suc k) e = absurd (short_holds (suc k) e)

short_source : (k n l : ℕ) → short_table k n l ≡ 0 → (k ≡ 0) × (n ≤ l)
short_source zero n l e = (refl, go (leb n l) refl e)
  where
    go : (b : Bool) → leb n l ≡ b → ◌≡◌ {A = ℕ} (elim b [ true ↦ 0 | false ↦ 19 ]) 0 → n ≤ l
    go true h z = leb-true n l h
    go false h z = absurd (omega arith)
short_source (suc k) n l e = absurd (omega arith)

sized_holds : (q : Bool) (h : Head) (ls : List ℕ) (l : ℕ) → sized_head q h ls l ≡ Ok tt → no_room h ls l ≡ 0
sized_holds true h ls l e = room_none (no_room h ls l) e
sized_holds false h ls l e = absurd (size_holds e)

good_holds : (q sized : Bool) (m ls : List ℕ) (l : ℕ) → good_head q sized m ls l ≡ Ok tt → (q ≡ true) × (no_room (head_of m) ls l ≡ 0)
good_holds true sized m ls l e = (refl, sized_holds sized (head_of m) ls l e)
good_holds false sized m ls l e = absurd (unfilled_holds e)

right_holds : (f : Result (Unit {0}) BlockFault) (b : List ℕ) (sized : Bool) (ls : List ℕ) (l : ℕ) → right_blocks f b sized ls l ≡ Ok tt → held_in b sized ls l ≡ Ok tt
right_holds (Ok _) b sized ls l e = e
right_holds (Err WrongNumber) b sized ls l e = absurd (number_holds e)
right_holds (Err WrongCheck) b sized ls l e = absurd (check_holds e)

blocks_hold : (q : Bool) (s : List ℕ) (sized : Bool) (ls : List ℕ) (l : ℕ) → whole_blocks q s sized ls l ≡ Ok tt → (q ≡ true) × (held_in (content_of s) sized ls l ≡ Ok tt)
blocks_hold true s sized ls l e = (refl, right_holds (first_fault (length s / 512) s) (content_of s) sized ls l e)
blocks_hold false s sized ls l e = absurd (whole_holds e)

-- There is a block; the blocks have the whole content, the tables room for their rows and the source for its bytes.
pub record Fits (s ls : List ℕ) (l : ℕ) (h : Head) : Type 0 where
  pub some : 512 ≤ length s
  pub content : content_size h.counts h.posix h.length ≤ capacity s
  pub tables : (k : ℕ) → k < 13 → cells_at h.counts h.posix k ≤ get_or ls k 0
  pub source : h.length ≤ l

held_fits : (b : List ℕ) (sized : Bool) (ls : List ℕ) (l : ℕ) → held_in b sized ls l ≡ Ok tt
    → let h = head_of (words_in b 0 39) in
    (filled_test b (content_size h.counts h.posix h.length) ≡ true) × (no_room h ls l ≡ 0)
unfolding held_in
held_fits b sized ls l e =
    let m = words_in b 0 39 in
    let h = head_of m in
    let n = content_size h.counts h.posix h.length in
    let g = good_holds (head_test m && filled_test b n) sized m ls l e in
    (((and-eq-true_iff (head_test m) (filled_test b n)).0 g.0).1, g.1)

pub holds_fits : (s : List ℕ) (sized : Bool) (ls : List ℕ) (l : ℕ) → examined s sized ls l ≡ Ok tt → Fits s ls l (head_in s)
unfolding examined whole_test no_room
holds_fits s sized ls l e =
    let h = head_in s in
    let n = content_size h.counts h.posix h.length in
    let w = blocks_hold (whole_test s) s sized ls l e in
    let a = (and-eq-true_iff (ltb 0 (length s)) (eqb (length s / 512 * 512) (length s))).0 w.0 in
    let some = ltb-true 0 (length s) a.0 in
    let whole = eqb-true (length s / 512 * 512) (length s) a.1 in
    let f = held_fits (content_of s) sized ls l w.1 in
    let full = ((filled_iff (content_of s) n).0 f.0).0 in
    let r = short_source (first_short h.counts h.posix ls 0 13) h.length l f.1 in
    record { some = omega (arith, some, whole); content = omega (arith, full, of_length s); tables = λ k d. (short_none h.counts h.posix ls 0 13).0 r.0 k (omega arith) (omega arith); source = r.1 }

-- ---- what filling leaves

-- the source's place, behind the rows
module _ (c : Counts) (p : PosixCounts) (n m : ℕ) (h : content_size c p n ≤ m) where
  pub content_rows : rows_from c p 13 ≤ m
  unfolding content_size
  content_rows = omega arith

  pub content_source : (i : ℕ) → i ≡ rows_from c p 13 → i + n ≤ m
  unfolding content_size
  content_source i e = omega arith

pub table_filled : (b : List ℕ) (c : Counts) (p : PosixCounts) (k : ℕ) (t u : List ℕ) (i n : ℕ) → i ≡ rows_from c p k → n ≡ cells_at c p k → u ≡ words_in b i n ++ drop n t → u ≡ filled_table b c p k t
unfolding filled_table
table_filled b c p k t u i n e f g = rw (← e, ← f) g

pub source_filled : (b : List ℕ) (c : Counts) (p : PosixCounts) (n : ℕ) (t u : List ℕ) (i : ℕ) → i ≡ rows_from c p 13 → u ≡ slice i (i + n) b ++ drop n t → u ≡ filled_source b c p n t
unfolding filled_source
source_filled b c p n t u i e g = rw (← e) g

pub tables_filled : (b : List ℕ) (c : Counts) (p : PosixCounts) (T Z : AllTables) → Z.t1 ≡ filled_table b c p 0 T.t1 → Z.t2 ≡ filled_table b c p 1 T.t2 → Z.t3 ≡ filled_table b c p 2 T.t3 → Z.t4 ≡ filled_table b c p 3 T.t4 → Z.t5 ≡ filled_table b c p 4 T.t5 → Z.t6 ≡ filled_table b c p 5 T.t6 → Z.t7 ≡ filled_table b c p 6 T.t7 → Z.t8 ≡ filled_table b c p 7 T.t8 → Z.t9 ≡ filled_table b c p 8 T.t9 → Z.t10 ≡ filled_table b c p 9 T.t10 → Z.t15 ≡ filled_table b c p 10 T.t15 → Z.t16 ≡ filled_table b c p 11 T.t16 → Z.t17 ≡ filled_table b c p 12 T.t17 → Z ≡ filled_tables b c p T
tables_filled b c p T Z e1 e2 e3 e4 e5 e6 e7 e8 e9 e10 e15 e16 e17 = rw (← e1, ← e2, ← e3, ← e4, ← e5, ← e6, ← e7, ← e8, ← e9, ← e10, ← e15, ← e16, ← e17)

pub tested : (src : List ℕ) (c : Counts) (p : PosixCounts) (g : Singles) (T : AllTables) (m n : ℕ) (r : Bool) (xt xr : List ℕ) → xt ≡ (entered_indexes src c T m n).tokens → xr ≡ (entered_indexes src c T m n).rules → r ≡ sound_reading src c p g T (record { tokens = xt; rules = xr })
    → Tested src c p g T m n r (record { tokens = xt; rules = xr })
tested src c p g T m n r xt xr a b e =
    let x : record { tokens = xt; rules = xr } ≡ entered_indexes src c T m n = rw (a, b) in
    record { indexes = x; sound = e ∙ ap (λ (X : Indexes). sound_reading src c p g T X) x }

-- what was filled stays as the test answers
module _ (b : List ℕ) (h : Head) (S : List ℕ) (T : AllTables) (X : Indexes) (S' : List ℕ) (T' : AllTables) (ok : Bool) (X' : Indexes) (h_t : T' ≡ filled_tables b h.counts h.posix T) (h_s : S' ≡ filled_source b h.counts h.posix h.length S) (t : Tested (take h.length S') h.counts h.posix h.singles T' (length X.tokens) (length X.rules) ok X') where
  abbrev as_tested : List ℕ → AllTables → Restored
  as_tested s u =
      let src = take h.length s in
      let x = entered_indexes src h.counts u (length X.tokens) (length X.rules) in
      kept_if (sound_reading src h.counts h.posix h.singles u x) h s u x

  as_tested_lem : kept_if ok h S' T' X' ≡ filled_from b h S T X
  unfolding filled_from
  as_tested_lem =
      let x = entered_indexes (take h.length S') h.counts T' (length X.tokens) (length X.rules) in
      ap (λ (q : Bool). kept_if q h S' T' X') t.sound ∙ ap (λ (y : Indexes). kept_if (sound_reading (take h.length S') h.counts h.posix h.singles T' x) h S' T' y) t.indexes ∙ ap (λ (s : List ℕ). as_tested s T') h_s ∙ ap (λ (u : AllTables). as_tested (filled_source b h.counts h.posix h.length S) u) h_t

  pub stays : ok ≡ true → record { answer = Ok tt; head = h; source = S'; tables = T'; indexes = X' } ≡ filled_from b h S T X
  stays e = ap (λ (q : Bool). kept_if q h S' T' X') (sym e) ∙ as_tested_lem

  pub goes : ok ≡ false → (o : Restored) → o ≡ cleared_out (Err RestoringUnsound) S' T' X' → o ≡ filled_from b h S T X
  goes e o f = f ∙ ap (λ (q : Bool). kept_if q h S' T' X') (sym e) ∙ as_tested_lem

-- ---- what is cleared

-- what is zero: the source, the indexes and the tables
abbrev pub Cleared : List ℕ → AllTables → Indexes → List ℕ → AllTables → Indexes → Type 0
Cleared S T X S' Z Y = (S' ≡ zeroed S) × (Y.tokens ≡ zeroed X.tokens) × (Y.rules ≡ zeroed X.rules) × (Z.t1 ≡ zeroed T.t1) × (Z.t2 ≡ zeroed T.t2) × (Z.t3 ≡ zeroed T.t3) × (Z.t4 ≡ zeroed T.t4) × (Z.t5 ≡ zeroed T.t5) × (Z.t6 ≡ zeroed T.t6) × (Z.t7 ≡ zeroed T.t7) × (Z.t8 ≡ zeroed T.t8) × (Z.t9 ≡ zeroed T.t9) × (Z.t10 ≡ zeroed T.t10) × (Z.t15 ≡ zeroed T.t15) × (Z.t16 ≡ zeroed T.t16) × (Z.t17 ≡ zeroed T.t17)

module _ (S : List ℕ) (T : AllTables) (X : Indexes) (S' : List ℕ) (Z : AllTables) (Y : Indexes) (z : Cleared S T X S' Z Y) where
  tables_cleared : Z ≡ zero_all T
  tables_cleared = rw (← z.3, ← z.4, ← z.5, ← z.6, ← z.7, ← z.8, ← z.9, ← z.10, ← z.11, ← z.12, ← z.13, ← z.14, ← z.15)

  indexes_cleared : Y ≡ clear_indexes X
  indexes_cleared = rw (← z.1, ← z.2)

  -- after a refusal
  pub cleared_out_lem : (a b : Result (Unit {0}) RestoringError) (h : Head) → b ≡ a → h ≡ no_head → record { answer = b; head = h; source = S'; tables = Z; indexes = Y } ≡ cleared_out a S T X
  cleared_out_lem a b h e f =
      ap (λ (x : Result (Unit {0}) RestoringError). record { answer = x; head = h; source = S'; tables = Z; indexes = Y }) e
      ∙ ap (λ (x : Head). record { answer = a; head = x; source = S'; tables = Z; indexes = Y }) f
      ∙ ap (λ (x : List ℕ). record { answer = a; head = no_head; source = x; tables = Z; indexes = Y }) z.0
      ∙ ap (λ (x : AllTables). record { answer = a; head = no_head; source = zeroed S; tables = x; indexes = Y }) tables_cleared
      ∙ ap (λ (x : Indexes). record { answer = a; head = no_head; source = zeroed S; tables = zero_all T; indexes = x }) indexes_cleared

  -- cells keep their lengths
  sized_same : sized Z Y ≡ sized T X
  sized_same = rw (z.1, z.2, z.3, z.9, length-replicate {A = ℕ} (length X.tokens) 0, length-replicate {A = ℕ} (length X.rules) 0, length-replicate {A = ℕ} (length T.t1) 0, length-replicate {A = ℕ} (length T.t7) 0)

  kept_length : (t u : List ℕ) → u ≡ zeroed t → length u ≡ length t
  kept_length t u e = rw (e, length-replicate {A = ℕ} (length t) 0)

  lengths_same : lengths_of Z ≡ lengths_of T
  lengths_same =
      rw (
        kept_length T.t1 Z.t1 z.3,
        kept_length T.t2 Z.t2 z.4,
        kept_length T.t3 Z.t3 z.5,
        kept_length T.t4 Z.t4 z.6,
        kept_length T.t5 Z.t5 z.7,
        kept_length T.t6 Z.t6 z.8,
        kept_length T.t7 Z.t7 z.9,
        kept_length T.t8 Z.t8 z.10,
        kept_length T.t9 Z.t9 z.11,
        kept_length T.t10 Z.t10 z.12,
        kept_length T.t15 Z.t15 z.13,
        kept_length T.t16 Z.t16 z.14,
        kept_length T.t17 Z.t17 z.15,
      )

  module _ (s : List ℕ) (q : Bool) (f : Result (Unit {0}) FindingError) (hq : q ≡ sized Z Y) (hf : f ≡ examined s q (lengths_of Z) (length S')) where
    found : f ≡ examined s (sized T X) (lengths_of T) (length S)
    found = rw (← lengths_same, ← kept_length S S' z.0, ← sized_same, ← hq) hf

    -- what a finding gives
    pub restored_as_lem : (g : Result (Unit {0}) FindingError) (o : Restored) → f ≡ g → o ≡ restored_as g s S T X → o ≡ restored s S T X
    unfolding restored
    restored_as_lem g o e r = r ∙ ap (λ (x : Result (Unit {0}) FindingError). restored_as x s S T X) (sym e ∙ found)

    module _ (e : f ≡ Ok tt) where
      holds : Fits s (lengths_of Z) (length S') (head_in s)
      holds = holds_fits s q (lengths_of Z) (length S') (sym hf ∙ e)

      pub some_block : 512 ≤ length s
      some_block = holds.some

      module _ (h : Head) (hh : h ≡ head_in s) where
        pub fill_fits : (h.length ≤ length S') × ((k : ℕ) → k < 13 → cells_at h.counts h.posix k ≤ length (cells_of Z k)) × (content_size h.counts h.posix h.length ≤ capacity s) × (S' ≡ zeroed S') × (Y.tokens ≡ zeroed Y.tokens) × (Y.rules ≡ zeroed Y.rules)
        fill_fits =
            let w : Fits s (lengths_of Z) (length S') h = rw hh holds in
            (w.source, λ k d. rw (lengths_at Z k) at (w.tables k d), w.content, zeroed_again S S' z.0, zeroed_again X.tokens Y.tokens z.1, zeroed_again X.rules Y.rules z.2)

        pub restored_filled : (o : Restored) → o ≡ filled_from (content_of s) h S' Z Y → o ≡ restored s S T X
        restored_filled o r =
            restored_as_lem (Ok tt) o e
            (r ∙ ap (λ (x : Head). filled_from (content_of s) x S' Z Y) hh ∙ ap (λ (x : List ℕ). filled_from (content_of s) (head_in s) x Z Y) z.0 ∙ ap (λ (x : AllTables). filled_from (content_of s) (head_in s) (zeroed S) x Y) tables_cleared ∙ ap (λ (x : Indexes). filled_from (content_of s) (head_in s) (zeroed S) (zero_all T) x) indexes_cleared)
