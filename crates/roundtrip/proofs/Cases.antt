-- What loading comes to, one case for each finding; what blocks that load are; and the thirteen tables by index. Assumes nothing.
use Rattle.std.specs.Prelude.{Result, Ok, Err}
use Prim.Native.Nat.{ℕ, zero, suc, ◌+◌, ◌/◌, ◌-◌, ◌≤◌, ◌<◌}
use mathlib.Core.Path.{◌≡◌, refl, ap, ◌∙◌}
use mathlib.Core.List.{List, [], ◌∷◌, ◌++◌}
use mathlib.Core.Bool.{Bool, true, false, ◌&&◌, and-eq-true_iff}
use mathlib.Core.Logic.{◌↔◌}
use native.Mathlib.Omega.{arith}
use native.Mathlib.Nat.{add-zero}
use lib.ListN.{length, get_or, drop, replicate, length-append, length-replicate, get_or-map}
use lib.Seq.{slice, ext_get_or}
use Rattle.tables.specs.Table.{zeroed}
use Rattle.tables.proofs.Rows.{drop_zeros}
use Rattle.blocks.specs.declared.BlockFault.{BlockFault}
use Rattle.blocks.specs.declared.BlockFault.TheVariants.{WrongNumber, WrongCheck}
use Rattle.blocks.specs.Blocks.{words_in, content_of, first_fault}
use Rattle.blocks.proofs.Content.{numbers_length}
use Rattle.grammar.specs.declared.Counts.{Counts}
use Rattle.grammar.specs.declared.PosixCounts.{PosixCounts}
use Rattle.grammar.specs.Sound.{AllTables, Indexes, list_of, of_list, cells_of, zero_all}
use Rattle.sections.specs.Sections.{sized}
use Rattle.catalogue.specs.declared.Head.{Head}
use Rattle.catalogue.specs.declared.FindingError.{FindingError}
use Rattle.catalogue.specs.declared.FindingError.TheVariants.{NoWholeBlocks, FaultyNumber, FaultyCheck, Unfilled, WrongSize, NoRoom}
use Rattle.catalogue.specs.Catalogue.{cells_at, rows_from, content_size, head_of, head_in, head_test, filled_test, no_room, lengths_of, roomed, sized_head, good_head, held_in, right_blocks, whole_test, whole_blocks, examined}
use Rattle.restoring.specs.declared.RestoringError.{RestoringError}
use Rattle.restoring.specs.declared.RestoringError.TheVariants.{NotWhole, BadNumber, BadCheck, BadContent, BadSizes, NoSpace}
use Rattle.restoring.specs.Restoring.{filled_table, filled_tables, filled_source, restored_as, restored, restoring_numbers}

-- ---- answers and findings that differ

abbrev pub number_of : Result (Unit {0}) RestoringError → ℕ
number_of a = get_or (restoring_numbers a) 0 0

-- answers with different numbers differ
pub apart : (a b : Result (Unit {0}) RestoringError) → (number_of a ≡ number_of b → ⊥) → a ≡ b → ⊥
apart a b d e = d (ap number_of e)

abbrev holds_number : Result (Unit {0}) FindingError → ℕ
holds_number (Ok _) = 0
holds_number (Err NoWholeBlocks) = 1
holds_number (Err FaultyNumber) = 1
holds_number (Err FaultyCheck) = 1
holds_number (Err Unfilled) = 1
holds_number (Err WrongSize) = 1
holds_number (Err (NoRoom k)) = 1

none : (f : Result (Unit {0}) FindingError) → holds_number f ≡ 1 → f ≡ Ok tt → ⊥
none f d e = let z = ap holds_number e in omega arith

-- ---- blocks that hold a reading

-- what each test says of them
pub record Held (s : List ℕ) (q : Bool) (ls : List ℕ) (l : ℕ) : Type 0 where
  pub whole : whole_test s ≡ true
  pub right : first_fault (length s / 512) s ≡ Ok tt
  pub head : head_test (words_in (content_of s) 0 39) ≡ true
  pub filled : filled_test (content_of s) (content_size (head_in s).counts (head_in s).posix (head_in s).length) ≡ true
  pub sized : q ≡ true
  pub room : no_room (head_in s) ls l ≡ 0

module _ (s : List ℕ) (q : Bool) (ls : List ℕ) (l : ℕ) where
  from_room : (k : ℕ) → roomed k ≡ Ok tt → k ≡ 0
  from_room zero e = refl
  from_room (suc k) e = absurd (none (Err (NoRoom (suc k))) refl e)

  from_size : (q : Bool) (h : Head) → sized_head q h ls l ≡ Ok tt → (q ≡ true) × (no_room h ls l ≡ 0)
  from_size true h e = (refl, from_room (no_room h ls l) e)
  from_size false h e = absurd (none (Err WrongSize) refl e)

  from_head : (a : Bool) (m : List ℕ) → good_head a q m ls l ≡ Ok tt → (a ≡ true) × (q ≡ true) × (no_room (head_of m) ls l ≡ 0)
  from_head true m e = let x = from_size q (head_of m) e in (refl, x.0, x.1)
  from_head false m e = absurd (none (Err Unfilled) refl e)

  from_right : (f : Result (Unit {0}) BlockFault) (b : List ℕ) → right_blocks f b q ls l ≡ Ok tt → (f ≡ Ok tt) × (held_in b q ls l ≡ Ok tt)
  from_right (Ok _) b e = (refl, e)
  from_right (Err WrongNumber) b e = absurd (none (Err FaultyNumber) refl e)
  from_right (Err WrongCheck) b e = absurd (none (Err FaultyCheck) refl e)

  from_whole : (a : Bool) → whole_blocks a s q ls l ≡ Ok tt → (a ≡ true) × (first_fault (length s / 512) s ≡ Ok tt) × (held_in (content_of s) q ls l ≡ Ok tt)
  from_whole true e = let x = from_right (first_fault (length s / 512) s) (content_of s) e in (refl, x.0, x.1)
  from_whole false e = absurd (none (Err NoWholeBlocks) refl e)

  pub held_iff : (examined s q ls l ≡ Ok tt) ↔ Held s q ls l
  unfolding examined held_in
  held_iff = (
    λ e. let x = from_whole (whole_test s) e in
        let m = words_in (content_of s) 0 39 in
        let h = head_of m in
        let n = content_size h.counts h.posix h.length in
        let y = from_head (head_test m && filled_test (content_of s) n) m x.2 in
        let z = (and-eq-true_iff (head_test m) (filled_test (content_of s) n)).0 y.0 in
        record { whole = x.0; right = x.1; head = z.0; filled = z.1; sized = y.1; room = y.2 },
    λ x. rw (x.whole, x.right) (rw (held_in, x.head, x.filled, x.sized, x.room)),
  )

-- ---- loading, by finding

module _ (S : List ℕ) (T : AllTables) (X : Indexes) where
  -- only blocks that hold a reading load
  from_answer : (f : Result (Unit {0}) FindingError) (s : List ℕ) → (restored_as f s S T X).answer ≡ Ok tt → f ≡ Ok tt
  from_answer (Ok _) s e = refl
  from_answer (Err NoWholeBlocks) s e = absurd (apart (Err NotWhole) (Ok tt) (λ z. omega arith) e)
  from_answer (Err FaultyNumber) s e = absurd (apart (Err BadNumber) (Ok tt) (λ z. omega arith) e)
  from_answer (Err FaultyCheck) s e = absurd (apart (Err BadCheck) (Ok tt) (λ z. omega arith) e)
  from_answer (Err Unfilled) s e = absurd (apart (Err BadContent) (Ok tt) (λ z. omega arith) e)
  from_answer (Err WrongSize) s e = absurd (apart (Err BadSizes) (Ok tt) (λ z. omega arith) e)
  from_answer (Err (NoRoom k)) s e = absurd (apart (Err (NoSpace k)) (Ok tt) (λ z. omega arith) e)

  pub loaded_held : (s : List ℕ) → (restored s S T X).answer ≡ Ok tt → examined s (sized T X) (lengths_of T) (length S) ≡ Ok tt
  unfolding restored
  loaded_held s e = from_answer (examined s (sized T X) (lengths_of T) (length S)) s e

  pub restored_found : (s : List ℕ) (f : Result (Unit {0}) FindingError) → examined s (sized T X) (lengths_of T) (length S) ≡ f → restored s S T X ≡ restored_as f s S T X
  unfolding restored
  restored_found s f e = ap (λ (x : Result (Unit {0}) FindingError). restored_as x s S T X) e

-- ---- the thirteen tables by index

-- tables are known by their cells
pub tables_ext : (T U : AllTables) → ((k : ℕ) → k < 13 → cells_of T k ≡ cells_of U k) → T ≡ U
tables_ext T U f = ap of_list (ext_get_or [] (list_of T) (list_of U) refl f)

pub zero_at : (T : AllTables) (k : ℕ) → cells_of (zero_all T) k ≡ zeroed (cells_of T k)
zero_at T k = get_or-map zeroed (list_of T) k []

-- a list whose elements are given by index
abbrev each : (ℕ → List ℕ → List ℕ) → ℕ → List (List ℕ) → List (List ℕ)
each f k [] = []
each f k (x ∷ xs) = f k x ∷ each f (suc k) xs

each_at : (f : ℕ → List ℕ → List ℕ) (k : ℕ) (l : List (List ℕ)) (j : ℕ) → j < length l → get_or (each f k l) j [] ≡ f (k + j) (get_or l j [])
each_at f k [] j h = absurd (omega arith)
each_at f k (x ∷ xs) zero h = rw (add-zero k)
each_at f k (x ∷ xs) (suc j) h = let e : suc k + j ≡ k + suc j = omega arith in rw e at (each_at f (suc k) xs j (omega arith))

pub filled_at : (b : List ℕ) (c : Counts) (p : PosixCounts) (T : AllTables) (k : ℕ) → k < 13 → cells_of (filled_tables b c p T) k ≡ filled_table b c p k (cells_of T k)
filled_at b c p T k h = let e : 0 + k ≡ k = omega arith in rw e at (each_at (λ i t. filled_table b c p i t) 0 (list_of T) k h)

-- cleared tables that are filled: rows, and zeros behind them
module _ (b : List ℕ) (c : Counts) (p : PosixCounts) (T : AllTables) (k : ℕ) (h : k < 13) where
  pub fresh_cells : cells_of (filled_tables b c p (zero_all T)) k ≡ words_in b (rows_from c p k) (cells_at c p k) ++ replicate (length (cells_of T k) - cells_at c p k) 0
  unfolding filled_table
  fresh_cells = filled_at b c p (zero_all T) k h ∙ ap (λ (t : List ℕ). words_in b (rows_from c p k) (cells_at c p k) ++ drop (cells_at c p k) t) (zero_at T k) ∙ ap (λ (t : List ℕ). words_in b (rows_from c p k) (cells_at c p k) ++ t) (drop_zeros (cells_at c p k) (length (cells_of T k)))

  pub fresh_length : cells_at c p k ≤ length (cells_of T k) → length (cells_of (filled_tables b c p (zero_all T)) k) ≡ length (cells_of T k)
  fresh_length l = rw (fresh_cells, length-append (words_in b (rows_from c p k) (cells_at c p k)) (replicate (length (cells_of T k) - cells_at c p k) 0), numbers_length b (rows_from c p k) (cells_at c p k), length-replicate {A = ℕ} (length (cells_of T k) - cells_at c p k) 0) (omega arith)

-- and the source
pub fresh_source : (b : List ℕ) (c : Counts) (p : PosixCounts) (n : ℕ) (S : List ℕ) → filled_source b c p n (zeroed S) ≡ slice (rows_from c p 13) (rows_from c p 13 + n) b ++ replicate (length S - n) 0
unfolding filled_source
fresh_source b c p n S = rw (drop_zeros n (length S))
