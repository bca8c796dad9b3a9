-- What is put piece by piece is the whole content; what a sound reading says of its size; and what is left of `stored` behind each test. Assumes nothing.
use Rattle.std.specs.Prelude.{Ok, Err}
use Prim.Native.Nat.{ℕ, zero, suc, ◌+◌, ◌*◌, ◌-◌, ◌≤◌, ◌<◌}
use mathlib.Core.Path.{◌≡◌, refl, sym, ap, ◌∙◌}
use mathlib.Core.List.{List, ◌++◌}
use mathlib.Core.Bool.{Bool, true, false, ◌&&◌, ◌||◌, false≢true}
use mathlib.Core.Logic.{◌↔◌}
use native.Mathlib.Omega.{arith}
use native.Mathlib.Nat.{mul-le-mul_right}
use native.Mathlib.Decide.{dec_lt}
use borrow.Author.Tests.{leb-true, leb-false, le-ltb, ltb-false}
use lib.Dec.{leb, ltb}
use lib.ListN.{length, take, length-append}
use lib.Seq.{length-take-le, take_all}
use Rattle.tables.specs.Layout.{width, posix_from}
use Rattle.tables.specs.Table.{zeroed}
use Rattle.tables.proofs.Tells.{both_iff, le_iff}
use Rattle.grammar.specs.declared.Counts.{Counts}
use Rattle.grammar.specs.declared.PosixCounts.{PosixCounts}
use Rattle.grammar.specs.declared.Singles.{Singles}
use Rattle.grammar.proofs.Far.{ten_tab}
use Rattle.grammar.specs.Sound.{AllTables, Indexes, Sound, PosixSound, ten_of, cells_of}
use Rattle.sound.proofs.Iff.{sound_iff, posix_iff}
use Rattle.blocks.specs.Blocks.{bytes_of_all, capacity, put_content, seal_all, blocks_for, blocks_of}
use Rattle.blocks.proofs.Content.{put_append, bytes_append, bytes_length}
use Rattle.catalogue.specs.declared.Head.{Head}
use Rattle.catalogue.specs.Catalogue.{rows_at, head_cells, cells_at, cells_before, rows_from, content_size, row_cells, content, sound_reading}
use Rattle.catalogue.proofs.Laws.{rows_ten, rows_three}
use Rattle.catalogue.proofs.Heads.{head_length}
use Rattle.catalogue.proofs.Contents.{row_cells_length, content_length}
use Rattle.storing.specs.declared.StoringError.TheVariants.{UnknownKind, StoringUnsound, NoBlocks}
use Rattle.storing.specs.Storing.{StoreResult, head_with, block_count, stored_room, stored_sound, stored_kind, store_all}

-- ---- places of rows

module _ (c : Counts) (p : PosixCounts) where
  -- rows of a table begin where those before it end,
  pub from_next : (k : ℕ) → rows_from c p (suc k) ≡ rows_from c p k + 4 * cells_at c p k
  unfolding cells_before
  from_next k = omega arith

  -- and none behind the last
  before_up : (k n : ℕ) → cells_before c p k ≤ cells_before c p (k + n)
  unfolding cells_before
  before_up k zero = let e : k + 0 ≡ k = omega arith in rw e (omega arith)
  before_up k (suc n) = let e : k + suc n ≡ suc (k + n) = omega arith in rw e (omega (arith, before_up k n))

  pub from_most : (k : ℕ) → k < 13 → rows_from c p k + 4 * cells_at c p k ≤ rows_from c p 13
  from_most k h = let e : suc k + (12 - k) ≡ 13 = omega arith in omega (arith, from_next k, rw e at (before_up (suc k) (12 - k)))

  -- what is put from there on is known by its place and its number of cells
  pub put_as : (s t u : List ℕ) (i n k : ℕ) → i ≡ rows_from c p k → n ≡ cells_at c p k → u ≡ put_content s i (bytes_of_all (take n t)) → u ≡ put_content s (rows_from c p k) (bytes_of_all (take (cells_at c p k) t))
  put_as s t u i n k hi hn e = e ∙ ap (λ (j : ℕ). put_content s j (bytes_of_all (take n t))) hi ∙ ap (λ (m : ℕ). put_content s (rows_from c p k) (bytes_of_all (take m t))) hn

  -- ---- what the tables from index k on give, put behind what is there, is the whole

  module _ (T : AllTables) (k n : ℕ) (s r : List ℕ) where
    pub rows_on : cells_at c p k ≤ length (cells_of T k) → put_content s (rows_from c p k) (bytes_of_all (row_cells c p T k (suc n))) ≡ r
        → (u : List ℕ) → u ≡ put_content s (rows_from c p k) (bytes_of_all (take (cells_at c p k) (cells_of T k)))
        → put_content u (rows_from c p (suc k)) (bytes_of_all (row_cells c p T (suc k) n)) ≡ r
    unfolding row_cells
    rows_on fits inv u e =
        let xs = take (cells_at c p k) (cells_of T k) in
        let rest = row_cells c p T (suc k) n in
        let l : rows_from c p k + length (bytes_of_all xs) ≡ rows_from c p (suc k) = rw (bytes_length xs, length-take-le (cells_at c p k) (cells_of T k) fits) (sym (from_next k)) in
        ap (λ (x : List ℕ). put_content x (rows_from c p (suc k)) (bytes_of_all rest)) e
        ∙ ap (λ (i : ℕ). put_content (put_content s (rows_from c p k) (bytes_of_all xs)) i (bytes_of_all rest)) (sym l)
        ∙ sym (put_append s (rows_from c p k) (bytes_of_all xs) (bytes_of_all rest))
        ∙ ap (λ (x : List ℕ). put_content s (rows_from c p k) x) (sym (bytes_append xs rest))
        ∙ inv

  pub rows_done : (T : AllTables) (s r : List ℕ) → put_content s (rows_from c p 13) (bytes_of_all (row_cells c p T 13 0)) ≡ r → s ≡ r
  unfolding put_content row_cells bytes_of_all
  rows_done T s r e = e

-- ---- head, rows and source are the content

module _ (h : Head) (T : AllTables) (src : List ℕ) (fits : (k : ℕ) → k < 13 → cells_at h.counts h.posix k ≤ length (cells_of T k)) where
  pub content_put : (s m a b d : List ℕ) (i : ℕ) → m ≡ head_cells h → a ≡ put_content s 0 (bytes_of_all (take 39 m)) → b ≡ put_content a (rows_from h.counts h.posix 0) (bytes_of_all (row_cells h.counts h.posix T 0 13)) → i ≡ rows_from h.counts h.posix 13 → d ≡ put_content b i src
      → d ≡ put_content s 0 (content h T src)
  unfolding content cells_before
  content_put s m a b d i hm ha hb hi hd =
      let H = head_cells h in
      let R = row_cells h.counts h.posix T 0 13 in
      let n = head_length h in
      let t : take 39 m ≡ H = ap (λ (x : List ℕ). take 39 x) hm ∙ take_all 39 H (omega (arith, n)) in
      let l1 : 0 + length (bytes_of_all H) ≡ rows_from h.counts h.posix 0 = omega (arith, bytes_length H, n) in
      let l2 : 0 + length (bytes_of_all (H ++ R)) ≡ i = rw (bytes_length (H ++ R), length-append H R, n, row_cells_length h.counts h.posix T fits) (omega (arith, hi)) in
      let ea : a ≡ put_content s 0 (bytes_of_all H) = ha ∙ ap (λ (x : List ℕ). put_content s 0 (bytes_of_all x)) t in
      let eb : b ≡ put_content s 0 (bytes_of_all (H ++ R)) =
      hb ∙ ap (λ (x : List ℕ). put_content x (rows_from h.counts h.posix 0) (bytes_of_all R)) ea
      ∙ ap (λ (j : ℕ). put_content (put_content s 0 (bytes_of_all H)) j (bytes_of_all R)) (sym l1)
      ∙ sym (put_append s 0 (bytes_of_all H) (bytes_of_all R))
      ∙ ap (λ (x : List ℕ). put_content s 0 x) (sym (bytes_append H R)) in
      hd ∙ ap (λ (x : List ℕ). put_content x i src) eb
      ∙ ap (λ (j : ℕ). put_content (put_content s 0 (bytes_of_all (H ++ R))) j src) (sym l2)
      ∙ sym (put_append s 0 (bytes_of_all (H ++ R)) src)

-- ---- a sound reading

-- is one whose ten tables, indexes and singles are sound, and whose three tables of kind 4 are,
pub reading_iff : (src : List ℕ) (c : Counts) (p : PosixCounts) (g : Singles) (T : AllTables) (X : Indexes) → (sound_reading src c p g T X ≡ true) ↔ (Sound src c g (ten_of T) X × PosixSound src c p T)
reading_iff src c p g T X = both_iff (sound_iff src c g (ten_of T) X) (posix_iff src c p T)

module _ (src : List ℕ) (c : Counts) (p : PosixCounts) (g : Singles) (T : AllTables) (X : Indexes) (sound : sound_reading src c p g T X ≡ true) where
  both : Sound src c g (ten_of T) X × PosixSound src c p T
  both = (reading_iff src c p g T X).0 sound

  -- has a short source,
  pub reading_short : length src ≤ 65536
  reading_short = both.0.short

  reading_each : (k : ℕ) → k < 13 → (cells_at c p k ≤ length (cells_of T k)) × (rows_at c p k ≤ 4294967295)
  reading_each k h =
      elim (dec_lt k 10) [
        | yes l ↦ rw (← ten_tab T k l, ← rows_ten c p k l) (both.0.fits k l, both.0.low k l)
        | no l ↦
            let e : posix_from + (k - 10) ≡ k = omega arith in
            let t = both.1.tables (k - 10) (omega arith) in
            rw (← rows_three c p k (omega arith) h) (rw e at t.fits, t.low)
      ]

  -- tables that their rows fit into,
  pub reading_fits : (k : ℕ) → k < 13 → cells_at c p k ≤ length (cells_of T k)
  reading_fits k h = (reading_each k h).0

  cells_most : (k w : ℕ) → k < 13 → width k ≡ w → cells_at c p k ≤ 4294967295 * w
  cells_most k w h e = rw e (mul-le-mul_right w (reading_each k h).1)

  -- and so no more blocks than 32 bits count
  pub reading_few : block_count src c p < 4294967296
  unfolding content_size cells_before
  reading_few =
      omega
      (arith, reading_short, cells_most 0 3 (omega arith) refl, cells_most 1 4 (omega arith) refl, cells_most 2 2 (omega arith) refl, cells_most 3 2 (omega arith) refl, cells_most 4 6 (omega arith) refl, cells_most 5 3 (omega arith) refl, cells_most 6 5 (omega arith) refl, cells_most 7 13 (omega arith) refl, cells_most 8 4 (omega arith) refl, cells_most 9 5 (omega arith) refl, cells_most 10 4 (omega arith) refl, cells_most 11 3 (omega arith) refl, cells_most 12 3 (omega arith) refl)

-- blocks that a content has room in: all its parts lie inside
pub room_all : (c : Counts) (p : PosixCounts) (l n : ℕ) (out : List ℕ) → n ≡ blocks_for (content_size c p l) → n * 512 ≤ length out → rows_from c p 13 + l ≤ capacity out
unfolding content_size
room_all c p l n out e h = omega arith

-- ---- each answer

by_bool {κ} : (C : Bool → Type κ) (q : Bool) → (q ≡ true → C true) → (q ≡ false → C false) → C q
by_bool C true f g = f refl
by_bool C false f g = g refl

pub known_iff : (kind : ℕ) → ((leb 1 kind && leb kind 4) ≡ true) ↔ ((1 ≤ kind) × (kind ≤ 4))
known_iff kind = both_iff (le_iff 1 kind) (le_iff kind 4)

-- the code's test of the kind
or_none : (a b : Bool) → (a || b) ≡ false → (a ≡ false) × (b ≡ false)
or_none true b e = absurd (false≢true (sym e))
or_none false b e = (refl, e)

pub kind_known : (kind : ℕ) → (ltb kind 1 || ltb 4 kind) ≡ false → (1 ≤ kind) × (kind ≤ 4)
kind_known kind e = let x = or_none (ltb kind 1) (ltb 4 kind) e in (ltb-false kind 1 x.0, ltb-false 4 kind x.1)

pub kind_unknown : (kind : ℕ) → (ltb kind 1 || ltb 4 kind) ≡ true → (1 ≤ kind) × (kind ≤ 4) → ⊥
kind_unknown kind e k = false≢true (rw (le-ltb kind 1 k.0, le-ltb 4 kind k.1) at e)

module _ (src : List ℕ) (kind : ℕ) (c : Counts) (p : PosixCounts) (g : Singles) (T : AllTables) (X : Indexes) (out : List ℕ) where
  -- what is stored, one case for each answer
  pub stored_cases {κ} : (C : StoreResult → Type κ)
      → (((1 ≤ kind) × (kind ≤ 4) → ⊥) → C (record { answer = Err UnknownKind; blocks = zeroed out }))
      → ((1 ≤ kind) × (kind ≤ 4) → sound_reading src c p g T X ≡ false → C (record { answer = Err StoringUnsound; blocks = zeroed out }))
      → ((1 ≤ kind) × (kind ≤ 4) → sound_reading src c p g T X ≡ true → length out < block_count src c p * 512 → C (record { answer = Err NoBlocks; blocks = zeroed out }))
      → ((1 ≤ kind) × (kind ≤ 4) → sound_reading src c p g T X ≡ true → block_count src c p * 512 ≤ length out → C (record { answer = Ok (block_count src c p); blocks = blocks_of (content (head_with src kind c p g) T src) out }))
      → C (store_all src kind c p g T X out)
  unfolding store_all
  stored_cases C unknown unsound full right =
      let sound = sound_reading src c p g T X in
      let n = block_count src c p in
      let b = content (head_with src kind c p g) T src in
      by_bool (λ (q : Bool). C (stored_kind q sound n b out)) (leb 1 kind && leb kind 4)
      (λ k. by_bool (λ (q : Bool). C (stored_sound q n b out)) sound
      (λ s. by_bool (λ (q : Bool). C (stored_room q n b out)) (leb (n * 512) (length out))
      (λ r. right ((known_iff kind).0 k) s (leb-true (n * 512) (length out) r))
      (λ r. full ((known_iff kind).0 k) s (leb-false (n * 512) (length out) r)))
      (λ s. unsound ((known_iff kind).0 k) s))
      (λ k. unknown (λ h. false≢true (sym k ∙ (known_iff kind).1 h)))

  -- the code's answers: z is what is zeroed first
  module _ (z : List ℕ) (hz : z ≡ zeroed out) where
    pub store_unknown : ((1 ≤ kind) × (kind ≤ 4) → ⊥) → ◌≡◌ {A = StoreResult} (record { answer = Err UnknownKind; blocks = z }) (store_all src kind c p g T X out)
    store_unknown h =
        stored_cases (λ (r : StoreResult). record { answer = Err UnknownKind; blocks = z } ≡ r)
        (λ _. ap (λ (x : List ℕ). record { answer = Err UnknownKind; blocks = x }) hz) (λ k _. absurd (h k)) (λ k _ _. absurd (h k)) (λ k _ _. absurd (h k))

    module _ (known : (1 ≤ kind) × (kind ≤ 4)) (q : Bool) (hq : q ≡ sound_reading src c p g T X) where
      pub store_unsound : q ≡ false → ◌≡◌ {A = StoreResult} (record { answer = Err StoringUnsound; blocks = z }) (store_all src kind c p g T X out)
      store_unsound h =
          stored_cases (λ (r : StoreResult). record { answer = Err StoringUnsound; blocks = z } ≡ r)
          (λ k. absurd (k known)) (λ _ _. ap (λ (x : List ℕ). record { answer = Err StoringUnsound; blocks = x }) hz) (λ _ s _. absurd (false≢true (sym h ∙ hq ∙ s))) (λ _ s _. absurd (false≢true (sym h ∙ hq ∙ s)))

      module _ (sound : q ≡ true) (n : ℕ) (hn : n ≡ block_count src c p) where
        pub store_full : length out < n * 512 → ◌≡◌ {A = StoreResult} (record { answer = Err NoBlocks; blocks = z }) (store_all src kind c p g T X out)
        store_full h =
            stored_cases (λ (r : StoreResult). record { answer = Err NoBlocks; blocks = z } ≡ r)
            (λ k. absurd (k known)) (λ _ s. absurd (false≢true (sym s ∙ sym hq ∙ sound))) (λ _ _ _. ap (λ (x : List ℕ). record { answer = Err NoBlocks; blocks = x }) hz) (λ _ _ l. absurd (omega (arith, hn, h, l)))

        pub store_right : n * 512 ≤ length out → (o : List ℕ) → o ≡ seal_all n (put_content z 0 (content (head_with src kind c p g) T src)) → ◌≡◌ {A = StoreResult} (record { answer = Ok n; blocks = o }) (store_all src kind c p g T X out)
        unfolding blocks_of
        store_right h o e =
            stored_cases (λ (r : StoreResult). record { answer = Ok n; blocks = o } ≡ r)
            (λ k. absurd (k known)) (λ _ s. absurd (false≢true (sym s ∙ sym hq ∙ sound))) (λ _ _ l. absurd (omega (arith, hn, h, l))) (λ _ s _. same s)
          where
            same : sound_reading src c p g T X ≡ true → ◌≡◌ {A = StoreResult} (record { answer = Ok n; blocks = o }) (record { answer = Ok (block_count src c p); blocks = blocks_of (content (head_with src kind c p g) T src) out })
            same s =
                let b = content (head_with src kind c p g) T src in
                let l = content_length (head_with src kind c p g) T src (reading_fits src c p g T X s) in
                rw (e, hn, hz, l)
