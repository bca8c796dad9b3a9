-- "One altered byte anywhere is refused", and after every refusal all is zero. Assumes nothing.
use Rattle.std.specs.Prelude.{Result, Ok, Err}
use Prim.Native.Nat.{ℕ, ◌+◌, ◌*◌, ◌/◌, ◌%◌, ◌-◌, ◌≤◌, ◌<◌}
use mathlib.Core.Path.{◌≡◌, refl, sym, ap, ◌∙◌}
use mathlib.Core.List.{List, ◌++◌}
use mathlib.Core.Bool.{Bool, true, false, and-eq-true_iff}
use native.Mathlib.Omega.{arith}
use borrow.Author.Tests.{eqb-true, ltb-true}
use lib.Dec.{eqb, ltb}
use lib.ListN.{length, get_or, set, take, replicate, length-append, length-set, length-replicate}
use lib.Seq.{slice, length-slice}
use Rattle.tables.specs.Table.{zeroed}
use Rattle.blocks.specs.Blocks.{content_of}
use Rattle.blocks.proofs.Laws.{of_length}
use Rattle.blocks.proofs.Whole.{altered_number, altered_check}
use Rattle.grammar.specs.declared.Counts.{Counts}
use Rattle.grammar.specs.Sound.{AllTables, Indexes, cells_of, zero_all}
use Rattle.sections.specs.Sections.{sized}
use Rattle.index.proofs.Theorems.{entries_length}
use Rattle.tables.specs.Layout.{tokens, rules, width}
use Rattle.catalogue.specs.declared.Head.{Head}
use Rattle.catalogue.specs.declared.FindingError.{FindingError}
use Rattle.catalogue.specs.declared.FindingError.TheVariants.{NoWholeBlocks, FaultyNumber, FaultyCheck, Unfilled, WrongSize, NoRoom}
use Rattle.catalogue.specs.Catalogue.{Bytes, rows_from, content_size, head_in, lengths_of, whole_test, examined, sound_reading}
use Rattle.catalogue.proofs.Room.{lengths_at}
use Rattle.restoring.specs.declared.RestoringError.TheVariants.{BadNumber, BadCheck, RestoringUnsound}
use Rattle.restoring.specs.Restoring.{no_head, clear_indexes, cleared_out, filled_tables, filled_source, entered_indexes, kept_if, filled_from, restored_as, restored}
use Rattle.restoring.proofs.Laws.{Fits, holds_fits}
use Rattle.roundtrip.proofs.Cases.{held_iff, loaded_held, restored_found, tables_ext, zero_at, fresh_length, fresh_source}

-- ---- one altered byte

-- blocks are whole by their length
whole_same : (s t : List ℕ) → length s ≡ length t → whole_test s ≡ whole_test t
unfolding whole_test
whole_same s t e = rw e

pub whole_blocks_lem : (s : List ℕ) → whole_test s ≡ true → (0 < length s) × (length s / 512 * 512 ≡ length s)
unfolding whole_test
whole_blocks_lem s e =
    let x = (and-eq-true_iff (ltb 0 (length s)) (eqb (length s / 512 * 512) (length s))).0 e in
    let y = eqb-true (length s / 512 * 512) (length s) x.1 in
    (ltb-true 0 (length s) x.0, y)

-- blocks that load, and the same with one other byte: in a block's number 61, in its content or check 62
pub load_altered : (s S : List ℕ) (T : AllTables) (X : Indexes) (k v : ℕ) → (restored s S T X).answer ≡ Ok tt → Bytes s → k < length s → v < 256 → (v ≡ get_or s k 0 → ⊥)
    → (k % 512 < 4 → restored (set s k v) S T X ≡ cleared_out (Err BadNumber) S T X) × (4 ≤ k % 512 → restored (set s k v) S T X ≡ cleared_out (Err BadCheck) S T X)
unfolding examined
load_altered s S T X k v e bytes h low new =
    let x = (held_iff s (sized T X) (lengths_of T) (length S)).0 (loaded_held S T X s e) in
    let n = length s / 512 in
    let w = (whole_blocks_lem s x.whole).1 in
    let l = length-set s k v in
    let whole : whole_test (set s k v) ≡ true = whole_same (set s k v) s l ∙ x.whole in (
      λ a. restored_found S T X (set s k v) (Err FaultyNumber) (rw (whole, l, altered_number n s k v (omega arith) bytes low new (omega arith) x.right a)),
      λ a. restored_found S T X (set s k v) (Err FaultyCheck) (rw (whole, l, altered_check n s k v (omega arith) bytes low new (omega arith) x.right a)),
    )

-- ---- after a refusal

zeroed_as : (t u : List ℕ) → length t ≡ length u → zeroed t ≡ zeroed u
zeroed_as t u e = ap (λ (n : ℕ). replicate n 0) e

-- filling keeps every length, so clearing what was filled leaves the same as clearing what was lent
module _ (s S : List ℕ) (T : AllTables) (X : Indexes) (x : examined s (sized T X) (lengths_of T) (length S) ≡ Ok tt) where
  fits : Fits s (lengths_of T) (length S) (head_in s)
  fits = holds_fits s (sized T X) (lengths_of T) (length S) x

  tables_again : zero_all (filled_tables (content_of s) (head_in s).counts (head_in s).posix (zero_all T)) ≡ zero_all T
  tables_again =
      let U = filled_tables (content_of s) (head_in s).counts (head_in s).posix (zero_all T) in
      tables_ext (zero_all U) (zero_all T)
      (λ k h. zero_at U k ∙ zeroed_as (cells_of U k) (cells_of T k) (fresh_length (content_of s) (head_in s).counts (head_in s).posix T k h (rw (← lengths_at T k) (fits.tables k h))) ∙ sym (zero_at T k))

  source_again : zeroed (filled_source (content_of s) (head_in s).counts (head_in s).posix (head_in s).length (zeroed S)) ≡ zeroed S
  unfolding content_size
  source_again =
      let n = (head_in s).length in
      let r = rows_from (head_in s).counts (head_in s).posix 13 in
      let a = fits.content in
      let b = fits.source in
      let c = of_length s in
      rw (fresh_source (content_of s) (head_in s).counts (head_in s).posix n S)
      (zeroed_as (slice r (r + n) (content_of s) ++ replicate (length S - n) 0) S
      (rw (length-append (slice r (r + n) (content_of s)) (replicate (length S - n) 0), length-slice r (r + n) (content_of s) (omega arith), length-replicate {A = ℕ} (length S - n) 0) (omega arith)))

  indexes_again : (src : List ℕ) (c : Counts) (U : AllTables) → clear_indexes (entered_indexes src c U (length (zeroed X.tokens)) (length (zeroed X.rules))) ≡ clear_indexes X
  indexes_again src c U =
      rw (entries_length src (width tokens) 0 U.t1 (length (zeroed X.tokens)) (get_or c.n tokens 0), entries_length src (width rules) 0 U.t7 (length (zeroed X.rules)) (get_or c.n rules 0), length-replicate {A = ℕ} (length X.tokens) 0, length-replicate {A = ℕ} (length X.rules) 0)

  filled_clear : (q : Bool) (h : Head) (S' : List ℕ) (U : AllTables) (Y : Indexes) → zeroed S' ≡ zeroed S → zero_all U ≡ zero_all T → clear_indexes Y ≡ clear_indexes X → ((kept_if q h S' U Y).answer ≡ Ok tt → ⊥) → kept_if q h S' U Y ≡ cleared_out (kept_if q h S' U Y).answer S T X
  filled_clear true h S' U Y a b c d = absurd (d refl)
  filled_clear false h S' U Y a b c d =
      ap (λ (z : List ℕ). record { answer = Err RestoringUnsound; head = no_head; source = z; tables = zero_all U; indexes = clear_indexes Y }) a
      ∙ ap (λ (z : AllTables). record { answer = Err RestoringUnsound; head = no_head; source = zeroed S; tables = z; indexes = clear_indexes Y }) b
      ∙ ap (λ (z : Indexes). record { answer = Err RestoringUnsound; head = no_head; source = zeroed S; tables = zero_all T; indexes = z }) c

  held_clear : ((restored_as (Ok tt) s S T X).answer ≡ Ok tt → ⊥) → restored_as (Ok tt) s S T X ≡ cleared_out (restored_as (Ok tt) s S T X).answer S T X
  unfolding filled_from
  held_clear d =
      let h = head_in s in
      let U = filled_tables (content_of s) h.counts h.posix (zero_all T) in
      let S' = filled_source (content_of s) h.counts h.posix h.length (zeroed S) in
      let Y = entered_indexes (take h.length S') h.counts U (length (zeroed X.tokens)) (length (zeroed X.rules)) in
      filled_clear (sound_reading (take h.length S') h.counts h.posix h.singles U Y) h S' U Y source_again tables_again (indexes_again (take h.length S') h.counts U) d

-- "tables, indexes and source zero after each" refusal
pub refused_clear : (s S : List ℕ) (T : AllTables) (X : Indexes) → ((restored s S T X).answer ≡ Ok tt → ⊥) → restored s S T X ≡ cleared_out (restored s S T X).answer S T X
unfolding restored
refused_clear s S T X = go (examined s (sized T X) (lengths_of T) (length S)) refl
  where
    go : (f : Result (Unit {0}) FindingError) → examined s (sized T X) (lengths_of T) (length S) ≡ f → ((restored_as f s S T X).answer ≡ Ok tt → ⊥) → restored_as f s S T X ≡ cleared_out (restored_as f s S T X).answer S T X
    go (Ok _) e d = held_clear s S T X e d
    go (Err NoWholeBlocks) e d = refl
    go (Err FaultyNumber) e d = refl
    go (Err FaultyCheck) e d = refl
    go (Err Unfilled) e d = refl
    go (Err WrongSize) e d = refl
    go (Err (NoRoom k)) e d = refl
