-- Content, and numbers as bytes: what is put is what is read back. Assumes nothing.
use Prim.Native.Nat.{ℕ, zero, suc, ◌+◌, ◌*◌, ◌/◌, ◌%◌, ◌-◌, ◌≤◌, ◌<◌}
use mathlib.Core.Path.{◌≡◌, refl, sym, ap, ◌∙◌}
use mathlib.Core.List.{List, [], ◌∷◌, ◌++◌, append_assoc}
use mathlib.Core.Bool.{true}
use mathlib.Core.Logic.{◌↔◌}
use native.Mathlib.Omega.{arith}
use native.Mathlib.Nat.{add-zero}
use native.Mathlib.Numerals.{add-one, add-two, add-three, add-four}
use native.Mathlib.Decide.{dec_lt}
use lib.Dec.{eqb}
use lib.ListN.{length, get_or, set, drop, replicate, length-append, length-set, length-drop, length-replicate, get_or-replicate, get_or-append, get_or-eq_default}
use lib.Seq.{slice, slice_empty, slice-cons, ext_get_or, get_or_at, get_or-drop, get_or-append_seam, get_or-append-add, get_or-set_same, get_or-set_other}
use Rattle.tables.proofs.Below.{below_iff}
use Rattle.tables.proofs.Tells.{eq_iff}
use Rattle.blocks.specs.Blocks.{bytes_of, bytes_of_all, word_in, words_in, content_at, content_to, put_content, zero_bytes}

-- ---- content

-- no two bytes share a place,
pub at_one : (i j : ℕ) → content_at i ≡ content_at j → i ≡ j
unfolding content_at
at_one i j e = omega arith

-- a place is neither in a number nor in a check,
pub at_inside : (i : ℕ) → (4 ≤ content_at i % 512) × (content_at i % 512 < 508)
unfolding content_at
at_inside i = (omega arith, omega arith)

-- the first blocks have the first places,
pub at_below : (i n : ℕ) → i < n * 504 → content_at i < n * 512
unfolding content_at
at_below i n h = omega arith

-- and what is neither number nor check is such a place
pub at_back : (k : ℕ) → 4 ≤ k % 512 → k % 512 < 508 → content_at (k / 512 * 504 + (k % 512 - 4)) ≡ k
unfolding content_at
at_back k h l = omega arith

pub content_length : (n : ℕ) (s : List ℕ) → length (content_to n s) ≡ n
unfolding content_to
content_length zero s = refl
content_length (suc n) s = rw length-append (omega (arith, content_length n s))

pub content_is : (n i : ℕ) (s : List ℕ) → i < n → get_or (content_to n s) i 0 ≡ get_or s (content_at i) 0
unfolding content_to
content_is zero i s h = absurd (omega arith)
content_is (suc n) i s h =
    elim (dec_lt i n) [
      | yes l ↦ get_or-append (content_to n s) _ 0 i (rw (content_length n s) l) ∙ content_is n i s l
      | no l ↦ let e : i ≡ n = omega arith in rw e (get_or_at (content_to n s) _ [] 0 n (content_length n s))
    ]

pub put_length : (s : List ℕ) (i : ℕ) (b : List ℕ) → length (put_content s i b) ≡ length s
unfolding put_content
put_length s i [] = refl
put_length s i (v ∷ b) = put_length (set s (content_at i) v) (i + 1) b ∙ length-set s (content_at i) v

pub put_append : (s : List ℕ) (i : ℕ) (a b : List ℕ) → put_content s i (a ++ b) ≡ put_content (put_content s i a) (i + length a) b
unfolding put_content
put_append s i [] b = rw (add-zero i)
put_append s i (v ∷ a) b =
    let e : i + 1 + length a ≡ i + suc (length a) = omega arith in
    put_append (set s (content_at i) v) (i + 1) a b ∙ rw e

-- what is no place of a byte that is put stays,
pub put_else : (s : List ℕ) (i : ℕ) (b : List ℕ) (k : ℕ) → ((j : ℕ) → j < length b → k ≡ content_at (i + j) → ⊥) → get_or (put_content s i b) k 0 ≡ get_or s k 0
unfolding put_content
put_else s i [] k d = refl
put_else s i (v ∷ b) k d =
    put_else (set s (content_at i) v) (i + 1) b k
    (λ j h e. let n : i + 1 + j ≡ i + suc j = omega arith in d (suc j) (omega arith) (e ∙ ap content_at n))
    ∙ get_or-set_other s (content_at i) k v 0 (λ e. d 0 (omega arith) (e ∙ ap content_at (sym (add-zero i))))

-- and each byte that is put is at its place
pub put_at : (s : List ℕ) (i : ℕ) (b : List ℕ) (j : ℕ) → j < length b → content_at (i + j) < length s → get_or (put_content s i b) (content_at (i + j)) 0 ≡ get_or b j 0
unfolding put_content
put_at s i [] j h l = absurd (omega arith)
put_at s i (v ∷ b) zero h l =
    put_else (set s (content_at i) v) (i + 1) b (content_at (i + 0)) (λ j m e. let n = at_one (i + 0) (i + 1 + j) e in omega arith)
    ∙ (let z = add-zero i in rw z (get_or-set_same s (content_at i) v 0 (rw z at l)))
put_at s i (v ∷ b) (suc j) h l =
    let n : i + suc j ≡ i + 1 + j = omega arith in
    rw n (put_at (set s (content_at i) v) (i + 1) b j (omega arith) (rw (length-set s (content_at i) v) (rw n at l)))

-- ---- zeros

pub zeros_at : (n i : ℕ) → ◌≡◌ {A = ℕ} (get_or (replicate n 0) i 0) 0
zeros_at n i = elim (dec_lt i n) [ yes h ↦ get_or-replicate n i 0 0 h | no h ↦ get_or-eq_default (replicate n 0) 0 {n = i} (rw (length-replicate {A = ℕ} n 0) (omega arith)) ]

-- zeros behind a list are not seen by index
pub behind_at : (b : List ℕ) (n i : ℕ) → get_or (b ++ replicate n 0) i 0 ≡ get_or b i 0
behind_at [] n i = zeros_at n i
behind_at (v ∷ b) n zero = refl
behind_at (v ∷ b) n (suc i) = behind_at b n i

-- a list ends in zeros where each of its last bytes is zero
pub zeros_iff : (b : List ℕ) (i n : ℕ) → i + n ≡ length b → (drop i b ≡ replicate n 0) ↔ ((j : ℕ) → j < n → get_or b (i + j) 0 ≡ 0)
zeros_iff b i n e = (
  λ f j h. sym (get_or-drop i b j 0) ∙ ap (λ (l : List ℕ). get_or l j 0) f ∙ zeros_at n j,
  λ f. let l : length (drop i b) ≡ n = rw length-drop (omega arith) in
      ext_get_or 0 (drop i b) (replicate n 0) (l ∙ sym (length-replicate {A = ℕ} n 0)) (λ j h. get_or-drop i b j 0 ∙ f j (rw l at h) ∙ sym (zeros_at n j)),
)

pub zero_bytes_iff : (b : List ℕ) (i n : ℕ) → i + n ≡ length b → (zero_bytes b i n ≡ true) ↔ (drop i b ≡ replicate n 0)
unfolding zero_bytes
zero_bytes_iff b i n e =
    let f = below_iff (λ j. eqb (get_or b (i + j) 0) 0) (λ j. get_or b (i + j) 0 ≡ 0) (λ j. eq_iff (get_or b (i + j) 0) 0) n in
    let g = zeros_iff b i n e in
    (λ h. g.1 (f.0 h), λ h. f.1 (g.0 h))

-- ---- numbers as bytes

pub bytes_length : (xs : List ℕ) → length (bytes_of_all xs) ≡ 4 * length xs
unfolding bytes_of_all
bytes_length [] = refl
bytes_length (v ∷ xs) = omega (arith, bytes_length xs)

pub bytes_append : (a b : List ℕ) → bytes_of_all (a ++ b) ≡ bytes_of_all a ++ bytes_of_all b
unfolding bytes_of_all
bytes_append [] b = refl
bytes_append (v ∷ a) b = ap (λ (l : List ℕ). bytes_of v ++ l) (bytes_append a b)

pub bytes_low : (xs : List ℕ) (i : ℕ) → ((j : ℕ) → get_or xs j 0 < 4294967296) → get_or (bytes_of_all xs) i 0 < 256
unfolding bytes_of_all
bytes_low [] i h = omega arith
bytes_low (v ∷ xs) zero h = omega arith
bytes_low (v ∷ xs) (suc zero) h = omega arith
bytes_low (v ∷ xs) (suc (suc zero)) h = omega arith
bytes_low (v ∷ xs) (suc (suc (suc zero))) h = omega (arith, h 0)
bytes_low (v ∷ xs) (suc (suc (suc (suc i)))) h = bytes_low xs i (λ j. h (suc j))

-- the number is read back where its bytes stand,
pub number_back : (a : List ℕ) (v : ℕ) (z : List ℕ) → v < 4294967296 → word_in (a ++ (bytes_of v ++ z)) (length a) ≡ v
unfolding word_in
number_back a v z h =
    rw (get_or-append_seam a (v % 256) _ 0, get_or-append-add a (bytes_of v ++ z) 1 0, get_or-append-add a (bytes_of v ++ z) 2 0, get_or-append-add a (bytes_of v ++ z) 3 0) (omega arith)

pub numbers_back : (a xs z : List ℕ) → ((j : ℕ) → get_or xs j 0 < 4294967296) → words_in (a ++ (bytes_of_all xs ++ z)) (length a) (length xs) ≡ xs
unfolding bytes_of_all words_in
numbers_back a [] z h = refl
numbers_back a (v ∷ xs) z h =
    let e : length (a ++ bytes_of v) ≡ length a + 4 = length-append a (bytes_of v) in
    let f = numbers_back (a ++ bytes_of v) xs z (λ j. h (suc j)) in
    let g : words_in (a ++ (bytes_of v ++ (bytes_of_all xs ++ z))) (length a + 4) (length xs) ≡ xs = rw (e, append_assoc a (bytes_of v) (bytes_of_all xs ++ z)) at f in
    rw (number_back a v (bytes_of_all xs ++ z) (h 0), g)

-- and each of its bytes is the byte that it was read from
pub number_byte : (b : List ℕ) (i : ℕ) → ((j : ℕ) → get_or b j 0 < 256) → (j : ℕ) → j < 4 → get_or (bytes_of (word_in b i)) j 0 ≡ get_or b (i + j) 0
unfolding word_in
number_byte b i h zero l = rw (add-zero i) (omega (arith, h i, h (i + 1), h (i + 2), h (i + 3)))
number_byte b i h (suc zero) l = omega (arith, h i, h (i + 1), h (i + 2), h (i + 3))
number_byte b i h (suc (suc zero)) l = omega (arith, h i, h (i + 1), h (i + 2), h (i + 3))
number_byte b i h (suc (suc (suc zero))) l = omega (arith, h i, h (i + 1), h (i + 2), h (i + 3))
number_byte b i h (suc (suc (suc (suc j)))) l = absurd (omega arith)

pub numbers_length : (b : List ℕ) (i n : ℕ) → length (words_in b i n) ≡ n
unfolding words_in
numbers_length b i zero = refl
numbers_length b i (suc n) = ap suc (numbers_length b (i + 4) n)

pub numbers_low : (b : List ℕ) (i n j : ℕ) → ((k : ℕ) → get_or b k 0 < 256) → get_or (words_in b i n) j 0 < 4294967296
unfolding words_in word_in
numbers_low b i zero j h = omega arith
numbers_low b i (suc n) zero h = omega (arith, h i, h (i + 1), h (i + 2), h (i + 3))
numbers_low b i (suc n) (suc j) h = numbers_low b (i + 4) n j h

pub bytes_back : (b : List ℕ) (i n : ℕ) → ((j : ℕ) → get_or b j 0 < 256) → i + 4 * n ≤ length b → bytes_of_all (words_in b i n) ≡ slice i (i + 4 * n) b
unfolding bytes_of_all words_in
bytes_back b i zero h l = rw (add-zero i) (sym (slice_empty i b))
bytes_back b i (suc n) h l =
    let e : i + 4 + 4 * n ≡ i + 4 * suc n = omega arith in
    let f : bytes_of_all (words_in b (i + 4) n) ≡ slice (i + 4) (i + 4 * suc n) b = rw e at (bytes_back b (i + 4) n h (omega arith)) in
    let t = i + 4 * suc n in
    let c0 = slice-cons i t b 0 (omega arith) l in
    let c1 = slice-cons (suc i) t b 0 (omega arith) l in
    let c2 = slice-cons (suc (suc i)) t b 0 (omega arith) l in
    let c3 = slice-cons (suc (suc (suc i))) t b 0 (omega arith) l in
    let at = number_byte b i h in
    rw (c0, c1, c2, c3, f, at 0 (omega arith), at 1 (omega arith), at 2 (omega arith), at 3 (omega arith), add-zero i, add-one i, add-two i, add-three i, add-four i)
