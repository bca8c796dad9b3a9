-- What is stored, without loops: what the blocks of an accepted reading hold, that equal readings give equal blocks, and when each refusal comes. Assumes nothing.
use Rattle.std.specs.Prelude.{Result, Ok, Err}
use Prim.Native.Nat.{ℕ, zero, suc, ◌+◌, ◌*◌, ◌≤◌, ◌<◌}
use mathlib.Core.Path.{◌≡◌, refl, sym, ap, ◌∙◌}
use mathlib.Core.List.{List}
use mathlib.Core.Bool.{true, false, false≢true}
use mathlib.Core.Logic.{◌↔◌, ◌⊎◌, ⊎_elim}
use native.Mathlib.Omega.{arith}
use lib.ListN.{length, get_or, take}
use Rattle.tables.specs.Table.{zeroed}
use Rattle.grammar.specs.declared.Counts.{Counts}
use Rattle.grammar.specs.declared.PosixCounts.{PosixCounts}
use Rattle.grammar.specs.declared.Singles.{Singles}
use Rattle.grammar.specs.Sound.{AllTables, Indexes, cells_of}
use Rattle.blocks.specs.Blocks.{blocks_for, blocks_of, Stored}
use Rattle.blocks.proofs.Stored.{stored_blocks}
use Rattle.catalogue.specs.Catalogue.{Fit32, Bytes, head_cells, cells_at, row_cells, content, sound_reading}
use Rattle.catalogue.proofs.Contents.{content_length, content_bytes}
use Rattle.storing.specs.declared.StoringError.{StoringError}
use Rattle.storing.specs.declared.StoringError.TheVariants.{UnknownKind, StoringUnsound, NoBlocks}
use Rattle.storing.specs.Storing.{StoreResult, head_with, block_count, store_all, storing_numbers}
use Rattle.storing.proofs.Laws.{reading_fits, reading_few, stored_cases}

-- answers with different numbers differ,
abbrev number_of : Result ℕ StoringError → ℕ
number_of a = get_or (storing_numbers a) 0 0

apart : (a b : Result ℕ StoringError) → (number_of a ≡ number_of b → ⊥) → a ≡ b → ⊥
apart a b d e = d (ap number_of e)

-- and the count is told by the answer
abbrev count_of : Result ℕ StoringError → ℕ
count_of (Ok n) = n
count_of (Err UnknownKind) = 0
count_of (Err StoringUnsound) = 0
count_of (Err NoBlocks) = 0

-- equal rows give equal content
rows_same : (c : Counts) (p : PosixCounts) (T U : AllTables) → ((k : ℕ) → k < 13 → take (cells_at c p k) (cells_of T k) ≡ take (cells_at c p k) (cells_of U k)) → (k n : ℕ) → k + n ≤ 13 → row_cells c p T k n ≡ row_cells c p U k n
unfolding row_cells
rows_same c p T U f k zero h = refl
rows_same c p T U f k (suc n) h = rw (f k (omega arith), rows_same c p T U f (suc k) n (omega arith))

module _ (src : List ℕ) (kind : ℕ) (c : Counts) (p : PosixCounts) (g : Singles) (T : AllTables) (X : Indexes) (out : List ℕ) where
  -- ---- the answer that gives blocks

  -- It comes exactly where the kind is known, the reading sound and the room enough.
  pub stored_iff : (n : ℕ) → ((store_all src kind c p g T X out).answer ≡ Ok n)
      ↔ ((1 ≤ kind) × (kind ≤ 4) × (sound_reading src c p g T X ≡ true) × (block_count src c p * 512 ≤ length out) × (n ≡ block_count src c p))
  stored_iff n =
      stored_cases src kind c p g T X out (λ (r : StoreResult). (r.answer ≡ Ok n) ↔ ((1 ≤ kind) × (kind ≤ 4) × (sound_reading src c p g T X ≡ true) × (block_count src c p * 512 ≤ length out) × (n ≡ block_count src c p)))
      (λ k. (λ e. absurd (apart (Err UnknownKind) (Ok n) (λ z. omega arith) e), λ x. absurd (k (x.0, x.1))))
      (λ k s. (λ e. absurd (apart (Err StoringUnsound) (Ok n) (λ z. omega arith) e), λ x. absurd (false≢true (sym s ∙ x.2))))
      (λ k s l. (λ e. absurd (apart (Err NoBlocks) (Ok n) (λ z. omega arith) e), λ x. absurd (omega (arith, l, x.3))))
      (λ k s l. (λ e. (k.0, k.1, s, l, sym (ap count_of e)), λ x. ap Ok (sym x.4)))

  -- and the blocks are then the written ones
  stored_as : (n : ℕ) → (store_all src kind c p g T X out).answer ≡ Ok n
      → store_all src kind c p g T X out ≡ record { answer = Ok (block_count src c p); blocks = blocks_of (content (head_with src kind c p g) T src) out }
  stored_as n =
      stored_cases src kind c p g T X out (λ (r : StoreResult). r.answer ≡ Ok n → r ≡ record { answer = Ok (block_count src c p); blocks = blocks_of (content (head_with src kind c p g) T src) out })
      (λ k e. absurd (apart (Err UnknownKind) (Ok n) (λ z. omega arith) e))
      (λ k s e. absurd (apart (Err StoringUnsound) (Ok n) (λ z. omega arith) e))
      (λ k s l e. absurd (apart (Err NoBlocks) (Ok n) (λ z. omega arith) e))
      (λ k s l e. refl)

  -- Blocks that are answered hold the content, and are as many as it takes.
  pub stored_holds : (n : ℕ) → (store_all src kind c p g T X out).answer ≡ Ok n → Fit32 (head_cells (head_with src kind c p g)) → ((k : ℕ) → k < 13 → Fit32 (cells_of T k)) → Bytes src
      → Stored (content (head_with src kind c p g) T src) (store_all src kind c p g T X out).blocks × (n ≡ blocks_for (length (content (head_with src kind c p g) T src)))
  stored_holds n e heads cells bytes =
      let b = content (head_with src kind c p g) T src in
      let x = (stored_iff n).0 e in
      let l = content_length (head_with src kind c p g) T src (reading_fits src c p g T X x.2) in
      let few = reading_few src c p g T X x.2 in (
        rw (stored_as n e) (stored_blocks b out (rw l x.3) (rw l (omega arith)) (content_bytes (head_with src kind c p g) T src heads cells bytes)),
        x.4 ∙ ap blocks_for (sym l),
      )

  -- ---- the refusals: "43, 44, then 42 for the blocks"

  pub unknown_iff : ((store_all src kind c p g T X out).answer ≡ Err UnknownKind) ↔ ((1 ≤ kind) × (kind ≤ 4) → ⊥)
  unknown_iff =
      stored_cases src kind c p g T X out (λ (r : StoreResult). (r.answer ≡ Err UnknownKind) ↔ ((1 ≤ kind) × (kind ≤ 4) → ⊥))
      (λ k. (λ e. k, λ x. refl))
      (λ k s. (λ e. absurd (apart (Err StoringUnsound) (Err UnknownKind) (λ z. omega arith) e), λ x. absurd (x k)))
      (λ k s l. (λ e. absurd (apart (Err NoBlocks) (Err UnknownKind) (λ z. omega arith) e), λ x. absurd (x k)))
      (λ k s l. (λ e. absurd (apart (Ok (block_count src c p)) (Err UnknownKind) (λ z. omega arith) e), λ x. absurd (x k)))

  pub unsound_iff : ((store_all src kind c p g T X out).answer ≡ Err StoringUnsound) ↔ ((1 ≤ kind) × (kind ≤ 4) × (sound_reading src c p g T X ≡ false))
  unsound_iff =
      stored_cases src kind c p g T X out (λ (r : StoreResult). (r.answer ≡ Err StoringUnsound) ↔ ((1 ≤ kind) × (kind ≤ 4) × (sound_reading src c p g T X ≡ false)))
      (λ k. (λ e. absurd (apart (Err UnknownKind) (Err StoringUnsound) (λ z. omega arith) e), λ x. absurd (k (x.0, x.1))))
      (λ k s. (λ e. (k.0, k.1, s), λ x. refl))
      (λ k s l. (λ e. absurd (apart (Err NoBlocks) (Err StoringUnsound) (λ z. omega arith) e), λ x. absurd (false≢true (sym x.2 ∙ s))))
      (λ k s l. (λ e. absurd (apart (Ok (block_count src c p)) (Err StoringUnsound) (λ z. omega arith) e), λ x. absurd (false≢true (sym x.2 ∙ s))))

  pub no_blocks_iff : ((store_all src kind c p g T X out).answer ≡ Err NoBlocks) ↔ ((1 ≤ kind) × (kind ≤ 4) × (sound_reading src c p g T X ≡ true) × (length out < block_count src c p * 512))
  no_blocks_iff =
      stored_cases src kind c p g T X out (λ (r : StoreResult). (r.answer ≡ Err NoBlocks) ↔ ((1 ≤ kind) × (kind ≤ 4) × (sound_reading src c p g T X ≡ true) × (length out < block_count src c p * 512)))
      (λ k. (λ e. absurd (apart (Err UnknownKind) (Err NoBlocks) (λ z. omega arith) e), λ x. absurd (k (x.0, x.1))))
      (λ k s. (λ e. absurd (apart (Err StoringUnsound) (Err NoBlocks) (λ z. omega arith) e), λ x. absurd (false≢true (sym s ∙ x.2))))
      (λ k s l. (λ e. (k.0, k.1, s, l), λ x. refl))
      (λ k s l. (λ e. absurd (apart (Ok (block_count src c p)) (Err NoBlocks) (λ z. omega arith) e), λ x. absurd (omega (arith, l, x.3))))

  -- "which are zero after each"
  pub refused_zero : ((store_all src kind c p g T X out).answer ≡ Err UnknownKind) ⊎ (((store_all src kind c p g T X out).answer ≡ Err StoringUnsound) ⊎ ((store_all src kind c p g T X out).answer ≡ Err NoBlocks)) → (store_all src kind c p g T X out).blocks ≡ zeroed out
  refused_zero =
      stored_cases src kind c p g T X out (λ (r : StoreResult). (r.answer ≡ Err UnknownKind) ⊎ ((r.answer ≡ Err StoringUnsound) ⊎ (r.answer ≡ Err NoBlocks)) → r.blocks ≡ zeroed out)
      (λ k d. refl)
      (λ k s d. refl)
      (λ k s l d. refl)
      (λ k s l d. absurd (⊎_elim (given (Err UnknownKind) (λ z. omega arith)) (⊎_elim (given (Err StoringUnsound) (λ z. omega arith)) (given (Err NoBlocks) (λ z. omega arith))) d))
    where
      given : (a : Result ℕ StoringError) → (0 ≡ number_of a → ⊥) → Ok (block_count src c p) ≡ a → ⊥
      given a = apart (Ok (block_count src c p)) a

  -- all of it: each answer exactly when, and the blocks after each
  pub stored_refused : (((store_all src kind c p g T X out).answer ≡ Err UnknownKind) ↔ ((1 ≤ kind) × (kind ≤ 4) → ⊥))
      × (((store_all src kind c p g T X out).answer ≡ Err StoringUnsound) ↔ ((1 ≤ kind) × (kind ≤ 4) × (sound_reading src c p g T X ≡ false)))
      × (((store_all src kind c p g T X out).answer ≡ Err NoBlocks) ↔ ((1 ≤ kind) × (kind ≤ 4) × (sound_reading src c p g T X ≡ true) × (length out < block_count src c p * 512)))
      × (((store_all src kind c p g T X out).answer ≡ Err UnknownKind) ⊎ (((store_all src kind c p g T X out).answer ≡ Err StoringUnsound) ⊎ ((store_all src kind c p g T X out).answer ≡ Err NoBlocks)) → (store_all src kind c p g T X out).blocks ≡ zeroed out)
  stored_refused = (unknown_iff, unsound_iff, no_blocks_iff, refused_zero)

-- "Equal tables give equal blocks": readings of one kind, source, counts and singles whose rows are equal, stored into blocks of one length.
pub stored_equal : (src : List ℕ) (kind : ℕ) (c : Counts) (p : PosixCounts) (g : Singles) (T U : AllTables) (X Y : Indexes) (out out' : List ℕ) (n m : ℕ)
    → (store_all src kind c p g T X out).answer ≡ Ok n
    → (store_all src kind c p g U Y out').answer ≡ Ok m
    → ((k : ℕ) → k < 13 → take (cells_at c p k) (cells_of T k) ≡ take (cells_at c p k) (cells_of U k))
    → length out ≡ length out'
    → store_all src kind c p g T X out ≡ store_all src kind c p g U Y out'
unfolding content blocks_of
stored_equal src kind c p g T U X Y out out' n m e f rows l =
    let same : blocks_of (content (head_with src kind c p g) T src) out ≡ blocks_of (content (head_with src kind c p g) U src) out' = rw (rows_same c p T U rows 0 13 (omega arith), l) in
    stored_as src kind c p g T X out n e ∙ ap (λ (x : List ℕ). record { answer = Ok (block_count src c p); blocks = x }) same ∙ sym (stored_as src kind c p g U Y out' m f)
