-- The blocks that load are exactly those that writing gives. Assumes nothing.
use Rattle.std.specs.Prelude.{Result, Ok, Err}
use Prim.Native.Nat.{ℕ, zero, suc, ◌+◌, ◌*◌, ◌/◌, ◌-◌, ◌≤◌, ◌<◌}
use mathlib.Core.Path.{◌≡◌, refl, sym, ap, ◌∙◌}
use mathlib.Core.List.{List, ◌++◌}
use mathlib.Core.Bool.{Bool, true, false}
use native.Mathlib.Omega.{arith}
use native.Mathlib.Decide.{dec_lt}
use lib.ListN.{length, take, replicate, length-take, length-replicate, drop_of_length-le, get_or-eq_default}
use lib.Seq.{slice, length-slice, get_or-take, get_or-drop, take_at}
use Rattle.scan.proofs.Bytes.{told}
use Rattle.tables.specs.Table.{zeroed}
use Rattle.blocks.specs.Blocks.{words_in, content_at, content_to, content_of, capacity, seal_all, blocks_for, blocks_of, Stored}
use Rattle.blocks.proofs.Laws.{of_length, seal_length}
use Rattle.blocks.proofs.Content.{content_is, put_length, behind_at, numbers_length, numbers_low}
use Rattle.blocks.proofs.Content.{content_length as to-length}
use Rattle.blocks.proofs.Stored.{stored_one}
use Rattle.grammar.specs.declared.Counts.{Counts}
use Rattle.grammar.specs.declared.PosixCounts.{PosixCounts}
use Rattle.grammar.specs.declared.Singles.{Singles}
use Rattle.grammar.specs.Sound.{AllTables, Indexes, cells_of, zero_all}
use Rattle.sections.specs.Sections.{sized}
use Rattle.catalogue.specs.declared.Head.{Head}
use Rattle.catalogue.specs.Catalogue.{Fit32, Bytes, head_cells, head_in, cells_at, rows_from, content_size, content, lengths_of, sound_reading}
use Rattle.catalogue.proofs.Heads.{head_iff}
use Rattle.catalogue.proofs.Room.{filled_iff}
use Rattle.catalogue.proofs.Contents.{content_length, content_again}
use Rattle.storing.specs.declared.StoringError.{StoringError}
use Rattle.storing.specs.Storing.{StoreResult, head_with, block_count, store_all}
use Rattle.storing.proofs.Laws.{reading_fits, stored_cases}
use Rattle.storing.proofs.Theorems.{stored_iff, stored_holds}
use Rattle.restoring.specs.declared.RestoringError.TheVariants.{RestoringUnsound}
use Rattle.restoring.specs.Restoring.{Restored, filled_tables, filled_source, entered_indexes, kept_if, filled_from, restored}
use Rattle.roundtrip.proofs.Cases.{apart, Held, held_iff, loaded_held, restored_found, fresh_cells, fresh_source}
use Rattle.roundtrip.proofs.Altered.{whole_blocks_lem}

-- ---- bytes

take_bytes : (n : ℕ) (l : List ℕ) → Bytes l → Bytes (take n l)
take_bytes n l f j = elim (dec_lt j n) [ yes h ↦ rw (get_or-take n l j 0 h) (f j) | no h ↦ rw (get_or-eq_default (take n l) 0 {n = j} (let e = length-take n l in omega arith)) (omega arith) ]

slice_bytes : (i t : ℕ) (l : List ℕ) → Bytes l → Bytes (slice i t l)
slice_bytes i t l f j = rw (get_or-drop i (take t l) j 0) (take_bytes t l f (i + j))

content_bytes : (s : List ℕ) → Bytes s → Bytes (content_of s)
unfolding content_of
content_bytes s f j =
    elim (dec_lt j (capacity s)) [
      | yes h ↦ rw (content_is (capacity s) j s h) (f (content_at j))
      | no h ↦ rw (get_or-eq_default (content_to (capacity s) s) 0 {n = j} (rw (to-length (capacity s) s) (omega arith))) (omega arith)
    ]

-- ---- writing keeps the blocks' length

all_length : (n : ℕ) (s : List ℕ) → length (seal_all n s) ≡ length s
unfolding seal_all
all_length zero s = refl
all_length (suc n) s = seal_length (seal_all n s) n ∙ all_length n s

blocks_length : (b out : List ℕ) → length (blocks_of b out) ≡ length out
unfolding blocks_of
blocks_length b out = all_length (blocks_for (length b)) _ ∙ put_length (replicate (length out) 0) 0 b ∙ length-replicate {A = ℕ} (length out) 0

pub stored_length : (src : List ℕ) (kind : ℕ) (c : Counts) (p : PosixCounts) (g : Singles) (T : AllTables) (X : Indexes) (out : List ℕ) → length (store_all src kind c p g T X out).blocks ≡ length out
stored_length src kind c p g T X out =
    let z = length-replicate {A = ℕ} (length out) 0 in
    stored_cases src kind c p g T X out (λ (r : StoreResult). length r.blocks ≡ length out) (λ _. z) (λ _ _. z) (λ _ _ _. z) (λ _ _ _. blocks_length (content (head_with src kind c p g) T src) out)

result_is : (o : StoreResult) (a : Result ℕ StoringError) (x : List ℕ) → o.answer ≡ a → o.blocks ≡ x → o ≡ record { answer = a; blocks = x }
result_is o a x e f = ap (λ (y : Result ℕ StoringError). record { answer = y; blocks = o.blocks }) e ∙ ap (λ (y : List ℕ). record { answer = a; blocks = y }) f

-- ---- blocks that load

kept_true : (q : Bool) (h : Head) (S : List ℕ) (T : AllTables) (X : Indexes) → (kept_if q h S T X).answer ≡ Ok tt → q ≡ true
kept_true true h S T X e = refl
kept_true false h S T X e = absurd (apart (Err RestoringUnsound) (Ok tt) (λ z. omega arith) e)

module _ (s S : List ℕ) (T : AllTables) (X : Indexes) (loads : (restored s S T X).answer ≡ Ok tt) (bytes : Bytes s) where
  abbrev h : Head
  h = head_in s

  abbrev b : List ℕ
  b = content_of s

  abbrev U : AllTables
  U = filled_tables b h.counts h.posix (zero_all T)

  abbrev S' : List ℕ
  S' = filled_source b h.counts h.posix h.length (zeroed S)

  abbrev src : List ℕ
  src = take h.length S'

  abbrev Y : Indexes
  Y = entered_indexes src h.counts U (length (zeroed X.tokens)) (length (zeroed X.rules))

  abbrev r : ℕ
  r = rows_from h.counts h.posix 13

  abbrev size : ℕ
  size = content_size h.counts h.posix h.length

  held : Held s (sized T X) (lengths_of T) (length S)
  held = (held_iff s (sized T X) (lengths_of T) (length S)).0 (loaded_held S T X s loads)

  -- what is left
  filled : restored s S T X ≡ kept_if (sound_reading src h.counts h.posix h.singles U Y) h S' U Y
  unfolding filled_from
  filled = restored_found S T X s (Ok tt) (loaded_held S T X s loads)

  sound : sound_reading src h.counts h.posix h.singles U Y ≡ true
  sound = kept_true (sound_reading src h.counts h.posix h.singles U Y) h S' U Y (ap (λ (x : Restored). x.answer) (sym filled) ∙ loads)

  loaded_is : restored s S T X ≡ record { answer = Ok tt; head = h; source = S'; tables = U; indexes = Y }
  loaded_is = filled ∙ ap (λ (q : Bool). kept_if q h S' U Y) sound

  -- the source that was read
  fills : (size ≤ length b) × (blocks_for size * 504 ≡ length b)
  fills = let x = (filled_iff b size).0 held.filled in (omega (arith, x.0), x.0)

  slice_long : length (slice r (r + h.length) b) ≡ h.length
  unfolding content_size
  slice_long = let f = fills.0 in length-slice r (r + h.length) b f ∙ omega arith

  source_is : src ≡ slice r (r + h.length) b
  source_is = ap (take h.length) (fresh_source b h.counts h.posix h.length S) ∙ take_at (slice r (r + h.length) b) (replicate (length S - h.length) 0) h.length slice_long

  source_long : length src ≡ h.length
  source_long = ap length source_is ∙ slice_long

  head_same : head_with src h.kind h.counts h.posix h.singles ≡ h
  head_same = ap (λ (n : ℕ). record { kind = h.kind; counts = h.counts; posix = h.posix; length = n; singles = h.singles }) source_long

  -- the content
  made : content h U src ++ replicate (length b - size) 0 ≡ b
  unfolding content_size
  made =
      rw source_is
      (content_again b U (content_bytes s bytes) held.head held.filled
      (λ k l. ap (take (cells_at h.counts h.posix k)) (fresh_cells b h.counts h.posix T k l) ∙ take_at (words_in b (rows_from h.counts h.posix k) (cells_at h.counts h.posix k)) (replicate (length (cells_of T k) - cells_at h.counts h.posix k) 0) (cells_at h.counts h.posix k) (numbers_length b (rows_from h.counts h.posix k) (cells_at h.counts h.posix k))))

  made_length : length (content h U src) ≡ size
  made_length = content_length h U src (reading_fits src h.counts h.posix h.singles U Y sound) ∙ ap (content_size h.counts h.posix) source_long

  count : blocks_for (length (content h U src)) ≡ length s / 512
  count = let e = fills.1 in let f = of_length s in rw made_length (omega arith)

  again : Stored (content h U src) s
  unfolding content_of
  again =
      let w = (whole_blocks_lem s held.whole).1 in
      let z : length s - length s / 512 * 512 ≡ 0 = omega arith in
      record {
        room = rw count (omega arith);
        content = rw (count, made_length) (sym made ∙ ap (λ (n : ℕ). content h U src ++ replicate (n - size) 0) (of_length s));
        right = rw count held.right;
        behind = rw count (rw z (drop_of_length-le s {i = length s / 512 * 512} (omega arith)));
        bytes = bytes;
      }

  -- ---- written again

  heads_low : Fit32 (head_cells h)
  heads_low = let m = words_in b 0 39 in let low : Fit32 m = λ j. numbers_low b 0 39 j (content_bytes s bytes) in told Fit32 ((head_iff m (numbers_length b 0 39) low).0 held.head).0 low

  cells_low : (k : ℕ) → k < 13 → Fit32 (cells_of U k)
  cells_low k l j =
      let at = rows_from h.counts h.posix k in
      let n = cells_at h.counts h.posix k in
      rw (fresh_cells b h.counts h.posix T k l, behind_at (words_in b at n) (length (cells_of T k) - n) j) (numbers_low b at n j (content_bytes s bytes))

  source_low : Bytes src
  source_low = told Bytes (sym source_is) (slice_bytes r (r + h.length) b (content_bytes s bytes))

  kind_known : (1 ≤ h.kind) × (h.kind ≤ 4)
  kind_known = let m = words_in b 0 39 in let x = (head_iff m (numbers_length b 0 39) (λ j. numbers_low b 0 39 j (content_bytes s bytes))).0 held.head in (x.1, x.2)

  written : (out : List ℕ) → length out ≡ length s → store_all src h.kind h.counts h.posix h.singles U Y out ≡ record { answer = Ok (length s / 512); blocks = s }
  written out e =
      let w = (whole_blocks_lem s held.whole).1 in
      let o = store_all src h.kind h.counts h.posix h.singles U Y out in
      let n : length s / 512 ≡ block_count src h.counts h.posix = sym count ∙ ap blocks_for (made_length ∙ ap (content_size h.counts h.posix) (sym source_long)) in
      let a = (stored_iff src h.kind h.counts h.posix h.singles U Y out (length s / 512)).1 (kind_known.0, kind_known.1, sound, omega (arith, n, w), n) in
      let x = (stored_holds src h.kind h.counts h.posix h.singles U Y out (length s / 512) a (told (λ (y : Head). Fit32 (head_cells y)) (sym head_same) heads_low) cells_low source_low).0 in
      let f = stored_one (content h U src) o.blocks s (told (λ (y : Head). Stored (content y U src) o.blocks) head_same x) again (stored_length src h.kind h.counts h.posix h.singles U Y out ∙ e) in
      result_is o (Ok (length s / 512)) s a f

-- What loads holds the content of what it leaves, and writing that again, into blocks of the same length, gives the same blocks.
pub loaded_stored : (s S : List ℕ) (T : AllTables) (X : Indexes) → (restored s S T X).answer ≡ Ok tt → Bytes s
    → let r = restored s S T X in
    let src = take r.head.length r.source in
    Stored (content r.head r.tables src) s
    × ((out : List ℕ) → length out ≡ length s → store_all src r.head.kind r.head.counts r.head.posix r.head.singles r.tables r.indexes out ≡ record { answer = Ok (length s / 512); blocks = s })
loaded_stored s S T X e f = rw (loaded_is s S T X e f) (again s S T X e f, written s S T X e f)
