-- The content: its length and its bytes, what is read from it, and that what reads so is that content. Assumes nothing.
use Prim.Native.Nat.{ℕ, zero, suc, ◌+◌, ◌*◌, ◌-◌, ◌≤◌, ◌<◌}
use mathlib.Core.Path.{◌≡◌, refl, sym}
use mathlib.Core.List.{List, [], ◌∷◌, ◌++◌, append_assoc, append-nil}
use mathlib.Core.Bool.{true}
use native.Mathlib.Omega.{arith}
use native.Mathlib.Nat.{add-zero, zero-add, suc-add}
use lib.ListN.{length, get_or, take, replicate, length-append, take-append-drop}
use lib.Seq.{slice, length-take-le, take_at, drop_at, take-take}
use Rattle.grammar.specs.declared.Counts.{Counts}
use Rattle.grammar.specs.declared.PosixCounts.{PosixCounts}
use Rattle.grammar.specs.Sound.{AllTables, cells_of}
use Rattle.blocks.specs.Blocks.{bytes_of_all, words_in}
use Rattle.blocks.proofs.Content.{bytes_length, bytes_append, bytes_low, bytes_back, numbers_back, numbers_length, numbers_low}
use Rattle.catalogue.specs.declared.Head.{Head}
use Rattle.catalogue.specs.Catalogue.{Fit32, Bytes, cells_at, cells_before, rows_from, content_size, row_cells, head_cells, head_of, head_test, content, filled_test}
use Rattle.catalogue.proofs.Heads.{head_length, head_iff}
use Rattle.catalogue.proofs.Room.{filled_iff}

-- ---- lists below a bound

pub append_below : (m : ℕ) (a b : List ℕ) → ((j : ℕ) → get_or a j 0 < m) → ((j : ℕ) → get_or b j 0 < m) → (j : ℕ) → get_or (a ++ b) j 0 < m
append_below m [] b f g j = g j
append_below m (x ∷ a) b f g zero = f 0
append_below m (x ∷ a) b f g (suc j) = append_below m a b (λ i. f (suc i)) g j

take_below : (m n : ℕ) (a : List ℕ) → ((j : ℕ) → get_or a j 0 < m) → (j : ℕ) → get_or (take n a) j 0 < m
take_below m zero a f j = omega (arith, f j)
take_below m (suc n) [] f j = f j
take_below m (suc n) (x ∷ a) f zero = f 0
take_below m (suc n) (x ∷ a) f (suc j) = take_below m n a (λ i. f (suc i)) j

-- a front, and what stands behind it up to an index
take_slice : (i t : ℕ) (b : List ℕ) → i ≤ t → take i b ++ slice i t b ≡ take t b
take_slice i t b h = rw (← take-take i t b h) (take-append-drop i (take t b))

-- ---- rows

module _ (c : Counts) (p : PosixCounts) (T : AllTables) where
  rows_split : (k n m : ℕ) → row_cells c p T k (n + m) ≡ row_cells c p T k n ++ row_cells c p T (k + n) m
  unfolding row_cells
  rows_split k zero m = rw (add-zero k, zero-add m)
  rows_split k (suc n) m =
      let e : suc k + n ≡ k + suc n = omega arith in
      let cells = take (cells_at c p k) (cells_of T k) in
      rw (suc-add n m) (rw (rows_split (suc k) n m, e) (sym (append_assoc cells (row_cells c p T (suc k) n) (row_cells c p T (k + suc n) m))))

  -- the rows of table k, behind those before it and before those behind it
  rows_at : (k : ℕ) → k < 13 → row_cells c p T 0 13 ≡ row_cells c p T 0 k ++ (take (cells_at c p k) (cells_of T k) ++ row_cells c p T (suc k) (12 - k))
  unfolding row_cells
  rows_at k h =
      let e : k + suc (12 - k) ≡ 13 = omega arith in
      rw (e, zero-add k) at (rows_split 0 k (suc (12 - k)))

  rows_next : (k : ℕ) → row_cells c p T 0 (suc k) ≡ row_cells c p T 0 k ++ take (cells_at c p k) (cells_of T k)
  unfolding row_cells
  rows_next k =
      let e : k + 1 ≡ suc k = omega arith in
      rw (e, zero-add k, append-nil (take (cells_at c p k) (cells_of T k))) at (rows_split 0 k 1)

  rows_low : ((j : ℕ) → j < 13 → Fit32 (cells_of T j)) → (k : ℕ) → k ≤ 13 → Fit32 (row_cells c p T 0 k)
  unfolding row_cells
  rows_low f zero h = λ j. omega arith
  rows_low f (suc k) h = rw (rows_next k) (append_below 4294967296 (row_cells c p T 0 k) (take (cells_at c p k) (cells_of T k)) (rows_low f k (omega arith)) (take_below 4294967296 (cells_at c p k) (cells_of T k) (f k h)))

  module _ (fits : (j : ℕ) → j < 13 → cells_at c p j ≤ length (cells_of T j)) where
    rows_length : (k : ℕ) → k ≤ 13 → length (row_cells c p T 0 k) ≡ cells_before c p k
    unfolding row_cells cells_before
    rows_length zero h = refl
    rows_length (suc k) h =
        rw (rows_next k, length-append (row_cells c p T 0 k) (take (cells_at c p k) (cells_of T k)), rows_length k (omega arith), length-take-le (cells_at c p k) (cells_of T k) (fits k h))

    pub row_cells_length : length (row_cells c p T 0 13) ≡ cells_before c p 13
    row_cells_length = rows_length 13 (omega arith)

-- ---- what is written

module _ (h : Head) (T : AllTables) (src : List ℕ) where
  pub content_bytes : Fit32 (head_cells h) → ((j : ℕ) → j < 13 → Fit32 (cells_of T j)) → Bytes src → Bytes (content h T src)
  unfolding content
  content_bytes f g b =
      append_below 256 (bytes_of_all (head_cells h ++ row_cells h.counts h.posix T 0 13)) src
      (λ j. bytes_low (head_cells h ++ row_cells h.counts h.posix T 0 13) j (append_below 4294967296 (head_cells h) (row_cells h.counts h.posix T 0 13) f (rows_low h.counts h.posix T g 13 (omega arith)))) b

  -- the head stands first,
  head_first : (z : List ℕ) → content h T src ++ z ≡ bytes_of_all (head_cells h) ++ (bytes_of_all (row_cells h.counts h.posix T 0 13) ++ (src ++ z))
  unfolding content
  head_first z =
      rw (bytes_append (head_cells h) (row_cells h.counts h.posix T 0 13), append_assoc (bytes_of_all (head_cells h) ++ bytes_of_all (row_cells h.counts h.posix T 0 13)) src z)
      (append_assoc (bytes_of_all (head_cells h)) (bytes_of_all (row_cells h.counts h.posix T 0 13)) (src ++ z))

  -- and table k behind the head and the tables before it
  table_at : (z : List ℕ) (k : ℕ) → k < 13
      → content h T src ++ z ≡ bytes_of_all (head_cells h ++ row_cells h.counts h.posix T 0 k) ++ (bytes_of_all (take (cells_at h.counts h.posix k) (cells_of T k)) ++ (bytes_of_all (row_cells h.counts h.posix T (suc k) (12 - k)) ++ (src ++ z)))
  unfolding content
  table_at z k l =
      let before = row_cells h.counts h.posix T 0 k in
      let xs = take (cells_at h.counts h.posix k) (cells_of T k) in
      let rest = row_cells h.counts h.posix T (suc k) (12 - k) in
      rw (rows_at h.counts h.posix T k l, ← append_assoc (head_cells h) before (xs ++ rest), bytes_append (head_cells h ++ before) (xs ++ rest), bytes_append xs rest)
      (rw (append_assoc (bytes_of_all (head_cells h ++ before) ++ (bytes_of_all xs ++ bytes_of_all rest)) src z, append_assoc (bytes_of_all (head_cells h ++ before)) (bytes_of_all xs ++ bytes_of_all rest) (src ++ z), append_assoc (bytes_of_all xs) (bytes_of_all rest) (src ++ z)))

  pub head_read : (z : List ℕ) → Fit32 (head_cells h) → words_in (content h T src ++ z) 0 39 ≡ head_cells h
  head_read z f = rw (head_first z) (rw (head_length h) at (numbers_back [] (head_cells h) (bytes_of_all (row_cells h.counts h.posix T 0 13) ++ (src ++ z)) f))

  module _ (fits : (j : ℕ) → j < 13 → cells_at h.counts h.posix j ≤ length (cells_of T j)) where
    -- head and the first k tables
    front_length : (k : ℕ) → k ≤ 13 → length (bytes_of_all (head_cells h ++ row_cells h.counts h.posix T 0 k)) ≡ rows_from h.counts h.posix k
    front_length k l =
        rw (bytes_length (head_cells h ++ row_cells h.counts h.posix T 0 k), length-append (head_cells h) (row_cells h.counts h.posix T 0 k), head_length h, rows_length h.counts h.posix T fits k l) (omega arith)

    pub content_length : length (content h T src) ≡ content_size h.counts h.posix (length src)
    unfolding content content_size
    content_length = rw (length-append (bytes_of_all (head_cells h ++ row_cells h.counts h.posix T 0 13)) src, front_length 13 (omega arith))

    pub rows_read : (z : List ℕ) (k : ℕ) → k < 13 → Fit32 (cells_of T k) → words_in (content h T src ++ z) (rows_from h.counts h.posix k) (cells_at h.counts h.posix k) ≡ take (cells_at h.counts h.posix k) (cells_of T k)
    rows_read z k l low =
        let n = cells_at h.counts h.posix k in
        rw (table_at z k l)
        (rw (front_length k (omega arith), length-take-le n (cells_of T k) (fits k l)) at
        (numbers_back (bytes_of_all (head_cells h ++ row_cells h.counts h.posix T 0 k)) (take n (cells_of T k)) (bytes_of_all (row_cells h.counts h.posix T (suc k) (12 - k)) ++ (src ++ z)) (take_below 4294967296 n (cells_of T k) low)))

    pub source_read : (z : List ℕ) → slice (rows_from h.counts h.posix 13) (content_size h.counts h.posix (length src)) (content h T src ++ z) ≡ src
    unfolding content
    source_read z = rw (take_at (content h T src) z (content_size h.counts h.posix (length src)) content_length) (drop_at (bytes_of_all (head_cells h ++ row_cells h.counts h.posix T 0 13)) src (rows_from h.counts h.posix 13) (front_length 13 (omega arith)))

-- ---- what reads so

-- the head and the rows are those that are read from b
module _ (b : List ℕ) (T : AllTables) (bytes : Bytes b) (h : Head) (same : head_cells h ≡ words_in b 0 39) (rows : (k : ℕ) → k < 13 → take (cells_at h.counts h.posix k) (cells_of T k) ≡ words_in b (rows_from h.counts h.posix k) (cells_at h.counts h.posix k)) where
  -- head and the first k tables are the first bytes
  front_again : (k : ℕ) → k ≤ 13 → rows_from h.counts h.posix k ≤ length b → bytes_of_all (head_cells h ++ row_cells h.counts h.posix T 0 k) ≡ take (rows_from h.counts h.posix k) b
  unfolding row_cells cells_before
  front_again zero l q = rw (append-nil (head_cells h), same) (bytes_back b 0 39 bytes q)
  front_again (suc k) l q =
      let c = h.counts in
      let p = h.posix in
      let e : rows_from c p k + 4 * cells_at c p k ≡ rows_from c p (suc k) = omega arith in
      let f : bytes_of_all (words_in b (rows_from c p k) (cells_at c p k)) ≡ slice (rows_from c p k) (rows_from c p (suc k)) b = rw e at (bytes_back b (rows_from c p k) (cells_at c p k) bytes (omega arith)) in
      let cells = take (cells_at c p k) (cells_of T k) in
      rw (rows_next c p T k, ← append_assoc (head_cells h) (row_cells c p T 0 k) cells, bytes_append (head_cells h ++ row_cells c p T 0 k) cells, front_again k (omega arith) (omega arith), rows k l, f)
      (take_slice (rows_from c p k) (rows_from c p (suc k)) b (omega arith))

  -- and with the source and the zeros behind them they are all
  whole_again : (n : ℕ) → n ≡ content_size h.counts h.posix h.length → filled_test b n ≡ true
      → content h T (slice (rows_from h.counts h.posix 13) n b) ++ replicate (length b - n) 0 ≡ b
  unfolding content content_size
  whole_again n e f =
      let x = (filled_iff b n).0 f in
      let r = rows_from h.counts h.posix 13 in
      rw (front_again 13 (omega arith) (omega (arith, x.0)), take_slice r n b (omega arith), ← x.1) (take-append-drop n b)

-- filled bytes whose head passes and whose rows are the tables' are the content of that head, those tables and the source that stands there, and zeros
pub content_again : (b : List ℕ) (T : AllTables) → Bytes b
    → let h = head_of (words_in b 0 39) in
    let n = content_size h.counts h.posix h.length in
    head_test (words_in b 0 39) ≡ true
    → filled_test b n ≡ true
    → ((k : ℕ) → k < 13 → take (cells_at h.counts h.posix k) (cells_of T k) ≡ words_in b (rows_from h.counts h.posix k) (cells_at h.counts h.posix k))
    → content h T (slice (rows_from h.counts h.posix 13) n b) ++ replicate (length b - n) 0 ≡ b
content_again b T bytes e f g =
    let m = words_in b 0 39 in
    whole_again b T bytes (head_of m) (sym ((head_iff m (numbers_length b 0 39) (λ j. numbers_low b 0 39 j bytes)).0 e).0) g _ refl f
