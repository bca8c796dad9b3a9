-- What the functions' proofs cite: where content lies, what is put and read byte by byte and number by number, the sums with one remainder, blocks closed and tested. Assumes nothing.
use Rattle.std.specs.Prelude.{Result, Ok, Err}
use Prim.Native.Nat.{ℕ, zero, suc, ◌+◌, ◌*◌, ◌/◌, ◌%◌, ◌-◌, ◌≤◌, ◌<◌}
use mathlib.Core.Path.{◌≡◌, refl, sym, ap, ◌∙◌}
use mathlib.Core.List.{List, [], ◌∷◌, ◌++◌}
use mathlib.Core.Bool.{Bool, true, false, ◌&&◌}
use native.Mathlib.Omega.{arith}
use native.Mathlib.Numerals.{add-one}
use native.Mathlib.Decide.{ℕ_discrete}
use native.Mathlib.Nat.{add-zero}
use borrow.Author.Tests.{eq-eqb, ne_eqb}
use lib.Dec.{eqb}
use lib.ListN.{length, get_or, set, take, drop, length-set, drop_of_length-le}
use lib.Seq.{slice, slice-cons, slice_empty, drop-cons, set_at, append_snoc, take-suc, drop-append-le, length-take-le, length-slice}
use Rattle.tables.specs.Below.{below}
use Rattle.tables.specs.Table.{put}
use Rattle.tables.proofs.Below.{below_not}
use Rattle.tables.proofs.Laws.{put_length}
use Rattle.blocks.proofs.Content.{content_length, content_is, numbers_length}
use Rattle.blocks.specs.declared.Sums.{Sums}
use Rattle.blocks.specs.declared.BlockFault.{BlockFault}
use Rattle.blocks.specs.declared.BlockFault.TheVariants.{WrongNumber, WrongCheck}
use Rattle.blocks.specs.Blocks.{bytes_of, bytes_of_all, word_in, words_in, content_at, capacity, content_of, put_content, zero_bytes, add_word, sums_from, sums_of, plain_from, ok_at, block_fault, or_else, first_fault, seal_with, seal_at, seal_block, seal_all}

-- ---- where content lies

-- content of whole blocks lies in them,
pub place_in : (i m : ℕ) → i < m / 512 * 504 → content_at i < m
unfolding content_at
place_in i m h = omega arith

-- and so do the four bytes of a number, one behind the other
pub place_four : (i m : ℕ) → i % 4 ≡ 0 → i + 4 ≤ m / 512 * 504 → content_at i + 4 ≤ m
unfolding content_at
place_four i m e h = omega arith

place_on : (i k : ℕ) → i % 4 ≡ 0 → k < 4 → content_at (i + k) ≡ content_at i + k
unfolding content_at
place_on i k e h = omega arith

-- ---- numbers as bytes

pub number_is : (s : List ℕ) (k a b c d : ℕ) → a ≡ get_or s k 0 → b ≡ get_or s (k + 1) 0 → c ≡ get_or s (k + 2) 0 → d ≡ get_or s (k + 3) 0 → a + 256 * b + 65536 * c + 16777216 * d ≡ word_in s k
unfolding word_in
number_is s k a b c d p q r t = rw (p, q, r, t)

pub number_put : (s : List ℕ) (k v : ℕ) → set (set (set (set s k (v % 256)) (k + 1) (v / 256 % 256)) (k + 2) (v / 65536 % 256)) (k + 3) (v / 16777216) ≡ put s k (bytes_of v)
number_put s k v =
    let a : k + 1 + 1 ≡ k + 2 = omega arith in
    let b : k + 2 + 1 ≡ k + 3 = omega arith in
    rw (a, b)

-- ---- what is put

-- the four bytes of a number are put one behind the other
put_four : (s vs : List ℕ) (at v : ℕ) → at % 4 ≡ 0 → put_content (put s (content_at at) (bytes_of v)) (at + 4) vs ≡ put_content s at (bytes_of v ++ vs)
unfolding put_content
put_four s vs at v e =
    let a = place_on at 1 e (omega arith) in
    let b = place_on at 2 e (omega arith) in
    let c = place_on at 3 e (omega arith) in
    let m : at + 1 + 1 ≡ at + 2 = omega arith in
    let n : at + 2 + 1 ≡ at + 3 = omega arith in
    let o : at + 3 + 1 ≡ at + 4 = omega arith in
    let p : content_at at + 1 + 1 ≡ content_at at + 2 = omega arith in
    let q : content_at at + 2 + 1 ≡ content_at at + 3 = omega arith in
    rw (m, n, o, p, q, a, b, c)

-- a table's cells, number by number: what is still to be put gives the whole
module _ (s t : List ℕ) (n j at : ℕ) (r : List ℕ) (inv : put_content s at (bytes_of_all (slice j n t)) ≡ r) where
  pub cells_more : (k : ℕ) (u : List ℕ) → at % 4 ≡ 0 → j < n → n ≤ length t → k ≡ content_at at → u ≡ put s k (bytes_of (get_or t j 0)) → put_content u (at + 4) (bytes_of_all (slice (j + 1) n t)) ≡ r
  unfolding bytes_of_all
  cells_more k u e h l f g = rw (g, f, add-one j) (put_four s (bytes_of_all (slice (suc j) n t)) at (get_or t j 0) e ∙ (rw (slice-cons j n t 0 h l) at inv))

  pub cells_done : j ≤ n → n ≤ j → s ≡ r
  unfolding bytes_of_all put_content
  cells_done h l =
      let e : j ≡ n = omega arith in
      rw (e, slice_empty n t) at inv

-- a text, byte by byte
module _ (s t : List ℕ) (i j : ℕ) (r : List ℕ) (inv : put_content s (i + j) (drop j t) ≡ r) where
  pub bytes_more : (k : ℕ) → j < length t → k ≡ content_at (i + j) → put_content (set s k (get_or t j 0)) (i + (j + 1)) (drop (j + 1) t) ≡ r
  unfolding put_content
  bytes_more k h f =
      let e : i + (j + 1) ≡ i + j + 1 = omega arith in
      rw (f, e, add-one j) (rw (drop-cons t j 0 h) at inv)

  pub bytes_done : length t ≤ j → s ≡ r
  unfolding put_content
  bytes_done h = rw (drop_of_length-le t h) at inv

pub bytes_none : (s t : List ℕ) (i : ℕ) → put_content s (i + 0) (drop 0 t) ≡ put_content s i t
bytes_none s t i = rw (add-zero i)

pub cells_length : (s u : List ℕ) (k v : ℕ) → u ≡ put s k (bytes_of v) → length u ≡ length s
cells_length s u k v e = ap length e ∙ put_length (bytes_of v) s k

-- ---- what is read

pub of_length : (s : List ℕ) → length (content_of s) ≡ capacity s
unfolding content_of
of_length s = content_length (capacity s) s

of_byte : (s : List ℕ) (i : ℕ) → i < capacity s → get_or (content_of s) i 0 ≡ get_or s (content_at i) 0
unfolding content_of
of_byte s i h = content_is (capacity s) i s h

pub byte_is : (s : List ℕ) (i k : ℕ) → i < capacity s → k ≡ content_at i → get_or s k 0 ≡ get_or (content_of s) i 0
byte_is s i k h e = ap (λ (j : ℕ). get_or s j 0) e ∙ sym (of_byte s i h)

-- a number of the content stands in one block
of_number : (s : List ℕ) (i : ℕ) → i % 4 ≡ 0 → i + 4 ≤ capacity s → word_in s (content_at i) ≡ word_in (content_of s) i
unfolding word_in
of_number s i e h =
    let a = of_byte s i (omega arith) in
    let b = of_byte s (i + 1) (omega arith) ∙ ap (λ (k : ℕ). get_or s k 0) (place_on i 1 e (omega arith)) in
    let c = of_byte s (i + 2) (omega arith) ∙ ap (λ (k : ℕ). get_or s k 0) (place_on i 2 e (omega arith)) in
    let d = of_byte s (i + 3) (omega arith) ∙ ap (λ (k : ℕ). get_or s k 0) (place_on i 3 e (omega arith)) in
    rw (a, b, c, d)

pub number_of_lem : (s : List ℕ) (i k v : ℕ) → i % 4 ≡ 0 → i + 4 ≤ capacity s → k ≡ content_at i → v ≡ word_in s k → v ≡ word_in (content_of s) i
number_of_lem s i k v e h f g = g ∙ (ap (λ (j : ℕ). word_in s j) f ∙ of_number s i e h)

numbers_snoc : (j : ℕ) (b : List ℕ) (i : ℕ) → words_in b i (suc j) ≡ words_in b i j ++ (word_in b (i + 4 * j) ∷ [])
unfolding words_in
numbers_snoc zero b i =
    let e : i + 4 * 0 ≡ i = omega arith in
    rw e
numbers_snoc (suc j) b i =
    let e : i + 4 + 4 * j ≡ i + 4 * suc j = omega arith in
    ap (λ (r : List ℕ). word_in b i ∷ r) (numbers_snoc j b (i + 4) ∙ rw e)

slice_snoc : (b : List ℕ) (i k : ℕ) → i ≤ k → k < length b → slice i (suc k) b ≡ slice i k b ++ (get_or b k 0 ∷ [])
slice_snoc b i k h l = ap (λ (r : List ℕ). drop i r) (take-suc b k 0 l) ∙ drop-append-le i (take k b) (get_or b k 0 ∷ []) (rw (length-take-le k b (omega arith)) h)

-- a cell behind those that are filled
fill : (p t u : List ℕ) (j v : ℕ) → length p ≡ j → j < length u → t ≡ p ++ drop j u → set t j v ≡ p ++ (v ∷ []) ++ drop (suc j) u
fill p t u j v l h e = rw (e, drop-cons u j 0 h) (set_at p (get_or u j 0) (drop (suc j) u) v j l ∙ sym (append_snoc p v (drop (suc j) u)))

-- the first j cells are numbers of b from index i on, the others as they were
pub numbers_more : (b t u : List ℕ) (i j v : ℕ) → j < length u → t ≡ words_in b i j ++ drop j u → v ≡ word_in b (i + 4 * j) → set t j v ≡ words_in b i (j + 1) ++ drop (j + 1) u
numbers_more b t u i j v h e f = rw (add-one j, numbers_snoc j b i, ← f) (fill (words_in b i j) t u j v (numbers_length b i j) h e)

pub numbers_none : (b t : List ℕ) (i : ℕ) → t ≡ words_in b i 0 ++ drop 0 t
unfolding words_in
numbers_none b t i = refl

pub slice_more : (b t u : List ℕ) (i j v : ℕ) → j < length u → i + j < length b → t ≡ slice i (i + j) b ++ drop j u → v ≡ get_or b (i + j) 0 → set t j v ≡ slice i (i + (j + 1)) b ++ drop (j + 1) u
slice_more b t u i j v h l e f =
    let m : i + (j + 1) ≡ suc (i + j) = omega arith in
    let n : length (slice i (i + j) b) ≡ j = length-slice i (i + j) b (omega arith) ∙ omega arith in
    rw (m, add-one j, slice_snoc b i (i + j) (omega arith) l, ← f) (fill (slice i (i + j) b) t u j v n h e)

pub slice_none : (b t : List ℕ) (i : ℕ) → t ≡ slice i (i + 0) b ++ drop 0 t
slice_none b t i = rw (add-zero i, slice_empty i b)

-- bytes that are zero, one by one
module _ (b : List ℕ) (i j : ℕ) where
  pub zero_on : zero_bytes b i j ≡ true → get_or b (i + j) 0 ≡ 0 → zero_bytes b i (j + 1) ≡ true
  unfolding zero_bytes below
  zero_on h e = rw (add-one j, below, h) (eq-eqb (get_or b (i + j) 0) 0 e)

  pub zero_not : (n : ℕ) → j < n → (get_or b (i + j) 0 ≡ 0 → ⊥) → false ≡ zero_bytes b i n
  unfolding zero_bytes
  zero_not n h f = below_not (λ j. eqb (get_or b (i + j) 0) 0) j n false h (sym (ne_eqb (get_or b (i + j) 0) 0 f)) refl

pub zero_none : (b : List ℕ) (i : ℕ) → zero_bytes b i 0 ≡ true
unfolding zero_bytes below
zero_none b i = refl

-- ---- the check

-- sums without a remainder on the way have the same remainders
plain_sums : (n : ℕ) (s : List ℕ) (at : ℕ) (c d : Sums) → c.first % 65535 ≡ d.first → c.second % 65535 ≡ d.second
    → ((plain_from n s at c).first % 65535 ≡ (sums_from n s at d).first) × ((plain_from n s at c).second % 65535 ≡ (sums_from n s at d).second)
unfolding plain_from sums_from
plain_sums zero s at c d e f = (e, f)
plain_sums (suc n) s at c d e f =
    plain_sums n s (at + 2) (record { first = c.first + get_or s at 0 + 256 * get_or s (at + 1) 0; second = c.second + (c.first + get_or s at 0 + 256 * get_or s (at + 1) 0) }) (add_word d (get_or s at 0) (get_or s (at + 1) 0)) (omega arith) (omega arith)

-- the loop over the words
module _ (s : List ℕ) (n i j f g : ℕ) (r : Sums) (inv : plain_from (n - i) s j (record { first = f; second = g }) ≡ r) where
  pub plain_more : (x y : ℕ) → i < n → x ≡ f + get_or s j 0 + 256 * get_or s (j + 1) 0 → y ≡ g + x → plain_from (n - (i + 1)) s (j + 2) (record { first = x; second = y }) ≡ r
  unfolding plain_from
  plain_more x y h p q =
      let z : n - i ≡ suc (n - (i + 1)) = omega arith in
      rw (q, p) (rw z at inv)

  pub plain_all : n ≤ i → ◌≡◌ {A = Sums} (record { first = f; second = g }) r
  unfolding plain_from
  plain_all h =
      let z : n - i ≡ 0 = omega arith in
      rw z at inv

pub plain_is : (s : List ℕ) (at f g : ℕ) → ◌≡◌ {A = Sums} (record { first = f; second = g }) (plain_from 254 s at (record { first = 1; second = 0 })) → ◌≡◌ {A = Sums} (record { first = f % 65535; second = g % 65535 }) (sums_of s at)
unfolding sums_of
plain_is s at f g e =
    let x = plain_sums 254 s at (record { first = 1; second = 0 }) (record { first = 1; second = 0 }) refl refl in
    let a : f % 65535 ≡ (sums_from 254 s at (record { first = 1; second = 0 })).first = ap (λ (c : Sums). c.first % 65535) e ∙ x.0 in
    let b : g % 65535 ≡ (sums_from 254 s at (record { first = 1; second = 0 })).second = ap (λ (c : Sums). c.second % 65535) e ∙ x.1 in
    λ i. record { first = a i; second = b i }

pub ok_is : (s : List ℕ) (at f g : ℕ) (r : Sums) → r ≡ sums_of s at → f ≡ get_or s (at + 508) 0 + 256 * get_or s (at + 509) 0 → g ≡ get_or s (at + 510) 0 + 256 * get_or s (at + 511) 0 → (eqb f r.first && eqb g r.second) ≡ ok_at s at
unfolding ok_at
ok_is s at f g r e p q =
    let a : at + 508 + 1 ≡ at + 509 = omega arith in
    let b : at + 510 + 1 ≡ at + 511 = omega arith in
    rw (a, b, e, p, q)

-- ---- blocks

module _ (s : List ℕ) (k n : ℕ) (e : n ≡ word_in s (k * 512)) where
  pub fault_number : (n ≡ k → ⊥) → Err WrongNumber ≡ block_fault s k
  unfolding block_fault
  fault_number h = rw (← e, ne_eqb n k h, block_fault)

  pub fault_none : (q : Bool) → n ≡ k → q ≡ ok_at s (k * 512) → q ≡ true → Ok tt ≡ block_fault s k
  unfolding block_fault
  fault_none q h f g = rw (← e, eq-eqb n k h, ← f, g, block_fault)

  pub fault_check : (q : Bool) → n ≡ k → q ≡ ok_at s (k * 512) → q ≡ false → Err WrongCheck ≡ block_fault s k
  unfolding block_fault
  fault_check q h f g = rw (← e, eq-eqb n k h, ← f, g, block_fault)

-- the first fault of blocks, where there is none before block k
module _ (s : List ℕ) (k : ℕ) (f : Result (Unit {0}) BlockFault) (inv : first_fault k s ≡ Ok tt) (e : f ≡ block_fault s k) where
  pub first_on : f ≡ Ok tt → first_fault (k + 1) s ≡ Ok tt
  unfolding first_fault
  first_on h = rw (add-one k, first_fault, inv) (sym e ∙ h)

  first_at : (n : ℕ) → ((g : Result (Unit {0}) BlockFault) → or_else f g ≡ f) → k < n → f ≡ first_fault n s
  unfolding first_fault
  first_at zero all h = absurd (omega arith)
  first_at (suc n) all h = go (ℕ_discrete k n) (first_at n all)
    where
      go : Dec (k ≡ n) → (k < n → f ≡ first_fault n s) → f ≡ or_else (first_fault n s) (block_fault s n)
      go (yes q) x = rw (← q, inv) e
      go (no q) x = sym (all (block_fault s n)) ∙ ap (λ (y : Result (Unit {0}) BlockFault). or_else y (block_fault s n)) (x (omega arith))

  pub first_err : (n : ℕ) (x : BlockFault) → k < n → f ≡ Err x → Err x ≡ first_fault n s
  first_err n WrongNumber h q = sym q ∙ first_at n (λ g. rw q) h
  first_err n WrongCheck h q = sym q ∙ first_at n (λ g. rw q) h

pub first_none : (s : List ℕ) → first_fault 0 s ≡ Ok tt
unfolding first_fault
first_none s = refl

-- a block closed: its number, and then its check
pub seal_is : (s p : List ℕ) (k : ℕ) (c : Sums) → p ≡ put s (k * 512) (bytes_of k) → c ≡ sums_of p (k * 512) → seal_with p (k * 512) c ≡ seal_block s k
unfolding seal_block seal_at
seal_is s p k c e f = rw (f, e)

pub seal_length : (s : List ℕ) (k : ℕ) → length (seal_block s k) ≡ length s
unfolding seal_block seal_at
seal_length s k = simp length-set

pub seal_more : (s t u : List ℕ) (k : ℕ) → t ≡ seal_all k s → u ≡ seal_block t k → u ≡ seal_all (k + 1) s
unfolding seal_all
seal_more s t u k e f = rw (add-one k, seal_all, ← e) f

pub seal_all_none : (s : List ℕ) → s ≡ seal_all 0 s
unfolding seal_all
seal_all_none s = refl
