-- Blocks that hold a content: what is written is such, and there is one such of each length. Assumes nothing.
use Rattle.std.specs.Prelude.{Ok}
use Prim.Native.Nat.{ℕ, zero, suc, ◌+◌, ◌*◌, ◌/◌, ◌%◌, ◌-◌, ◌≤◌, ◌<◌}
use mathlib.Core.Path.{◌≡◌, refl, sym, ap, ◌∙◌}
use mathlib.Core.List.{List, [], ◌∷◌, ◌++◌, append_assoc}
use native.Mathlib.Omega.{arith}
use native.Mathlib.Decide.{dec_lt}
use native.Mathlib.Nat.{add-zero}
use lib.ListN.{length, get_or, set, take, drop, replicate, length-append, length-set, length-replicate, get_or-eq_default}
use lib.Seq.{ext_get_or, length-take-le, get_or-set_same, get_or-set_other}
use Rattle.tables.specs.Table.{put}
use Rattle.tables.proofs.Laws.{put_length as cells_length}
use Rattle.tables.proofs.Rows.{put_eq}
use Rattle.blocks.specs.declared.Sums.{Sums}
use Rattle.blocks.specs.Blocks.{bytes_of, bytes_of_all, word_in, content_at, content_to, put_content, sums_of, pair_at, seal_at, seal_block, seal_all, blocks_for, blocks_of, BlockHas, Stored}
use Rattle.blocks.proofs.Content.{at_one, at_inside, at_below, at_back, content_length, content_is, put_length, put_else, put_at, zeros_at, behind_at, zeros_iff, bytes_low, number_back}
use Rattle.blocks.proofs.Altered.{Same, set_each, number_same, number_one, sums_same, sums_low, ok_iff, check_of, check_one}
use Rattle.blocks.proofs.Whole.{right_same, right_iff}
use Rattle.blocks.proofs.Laws.{seal_length}

-- ---- bytes stored one behind the other

abbrev Bytes : List ℕ → Type 0
Bytes s = (i : ℕ) → get_or s i 0 < 256

cells_low : (vs s : List ℕ) (at : ℕ) → Bytes vs → Bytes s → Bytes (put s at vs)
cells_low [] s at p q = q
cells_low (v ∷ vs) s at p q = cells_low vs (set s at v) (at + 1) (λ j. p (suc j)) (λ i. set_each (λ (x : ℕ). x < 256) s at v i (p 0) (q i))

cells_else : (vs s : List ℕ) (at i : ℕ) → (at ≤ i → i < at + length vs → ⊥) → get_or (put s at vs) i 0 ≡ get_or s i 0
cells_else [] s at i d = refl
cells_else (v ∷ vs) s at i d = cells_else vs (set s at v) (at + 1) i (λ h l. d (omega arith) (omega arith)) ∙ get_or-set_other s at i v 0 (λ e. d (omega arith) (omega arith))

cells_at : (vs s : List ℕ) (at j : ℕ) → j < length vs → at + j < length s → get_or (put s at vs) (at + j) 0 ≡ get_or vs j 0
cells_at [] s at j h l = absurd (omega arith)
cells_at (v ∷ vs) s at zero h l = cells_else vs (set s at v) (at + 1) (at + 0) (λ a b. omega arith) ∙ (let z = add-zero at in rw z (get_or-set_same s at v 0 (rw z at l)))
cells_at (v ∷ vs) s at (suc j) h l =
    let n : at + suc j ≡ at + 1 + j = omega arith in
    rw n (cells_at vs (set s at v) (at + 1) j (omega arith) (rw (length-set s at v) (rw n at l)))

-- ---- a block that is closed

-- its four bytes of a number are the number,
number_put : (s : List ℕ) (at v : ℕ) → v < 4294967296 → at + 4 ≤ length s → word_in (put s at (bytes_of v)) at ≡ v
number_put s at v h l =
    let e : length (take at s) ≡ at = length-take-le at s (omega arith) in
    rw (put_eq (bytes_of v) s at l, append_assoc (take at s) (bytes_of v) (drop (at + 4) s)) (rw e at (number_back (take at s) v (drop (at + 4) s) h))

-- its four bytes of a check the two sums,
check_put : (s : List ℕ) (at : ℕ) (c : Sums) → at + 512 ≤ length s → (pair_at (put s (at + 508) (check_of c)) (at + 508) ≡ c.first) × (pair_at (put s (at + 508) (check_of c)) (at + 510) ≡ c.second)
check_put s at c h = (rw (b0, b 1 (omega arith)) (omega arith), rw (n3, n2, b 2 (omega arith), b 3 (omega arith)) (omega arith))
  where
    b : (j : ℕ) → j < 4 → get_or (put s (at + 508) (check_of c)) (at + 508 + j) 0 ≡ get_or (check_of c) j 0
    b j l = cells_at (check_of c) s (at + 508) j l (omega arith)

    b0 : get_or (put s (at + 508) (check_of c)) (at + 508) 0 ≡ c.first % 256
    b0 = rw (add-zero (at + 508)) at (b 0 (omega arith))

    n3 : at + 510 + 1 ≡ at + 508 + 3
    n3 = omega arith

    n2 : at + 510 ≡ at + 508 + 2
    n2 = omega arith

-- all of them bytes
check_low : (c : Sums) → c.first < 65535 → c.second < 65535 → Bytes (check_of c)
check_low c h k zero = omega arith
check_low c h k (suc zero) = omega arith
check_low c h k (suc (suc zero)) = omega arith
check_low c h k (suc (suc (suc zero))) = omega arith
check_low c h k (suc (suc (suc (suc j)))) = omega arith

number_low : (v : ℕ) → v < 4294967296 → Bytes (bytes_of v)
unfolding bytes_of_all
number_low v h i = bytes_low (v ∷ []) i one
  where
    one : (j : ℕ) → get_or (v ∷ []) j 0 < 4294967296
    one zero = h
    one (suc j) = omega arith

module _ (s : List ℕ) (k : ℕ) where
  numbered : List ℕ
  numbered = put s (k * 512) (bytes_of k)

  seal_put : seal_block s k ≡ put numbered (k * 512 + 508) (check_of (sums_of numbered (k * 512)))
  unfolding numbered seal_block seal_at
  seal_put =
      let a : k * 512 + 508 + 1 ≡ k * 512 + 509 = omega arith in
      let b : k * 512 + 509 + 1 ≡ k * 512 + 510 = omega arith in
      let c : k * 512 + 510 + 1 ≡ k * 512 + 511 = omega arith in
      rw (a, b, c)

  -- nothing else is written,
  pub seal_else : (i : ℕ) → (k * 512 ≤ i → i < k * 512 + 4 → ⊥) → (k * 512 + 508 ≤ i → i < k * 512 + 512 → ⊥) → get_or (seal_block s k) i 0 ≡ get_or s i 0
  unfolding numbered
  seal_else i d e =
      rw seal_put
      (cells_else (check_of (sums_of numbered (k * 512))) numbered (k * 512 + 508) i (λ h l. e h (omega arith)) ∙ cells_else (bytes_of k) s (k * 512) i d)

  seal_low : k < 4294967296 → Bytes s → Bytes (seal_block s k)
  unfolding numbered
  seal_low h q =
      let l = sums_low numbered (k * 512) in
      rw seal_put (cells_low (check_of (sums_of numbered (k * 512))) numbered (k * 512 + 508) (check_low (sums_of numbered (k * 512)) l.0 l.1) (cells_low (bytes_of k) s (k * 512) (number_low k h) q))

  -- and the block is right
  pub seal_right : k < 4294967296 → k * 512 + 512 ≤ length s → BlockHas (Ok tt) (seal_block s k) k
  unfolding numbered
  seal_right h l =
      let c = sums_of numbered (k * 512) in
      let t = put numbered (k * 512 + 508) (check_of c) in
      let n : length numbered ≡ length s = cells_length (bytes_of k) s (k * 512) in
      let d : Same t numbered (k * 512) (k * 512 + 508) = λ i a b. cells_else (check_of c) numbered (k * 512 + 508) i (λ p q. omega arith) in
      let p = check_put numbered (k * 512) c (omega arith) in
      let q = sums_same t numbered (k * 512) d in
      rw seal_put (
        number_same t numbered (k * 512) (λ i a b. d i a (omega arith)) ∙ number_put s (k * 512) k h (omega arith),
        (ok_iff t (k * 512)).1 (p.0 ∙ ap (λ (z : Sums). z.first) (sym q), p.1 ∙ ap (λ (z : Sums). z.second) (sym q)),
      )

-- ---- all blocks closed

all_length : (n : ℕ) (s : List ℕ) → length (seal_all n s) ≡ length s
unfolding seal_all
all_length zero s = refl
all_length (suc n) s = seal_length (seal_all n s) n ∙ all_length n s

-- content stays, and what is behind the blocks
pub all_else : (n : ℕ) (s : List ℕ) (i : ℕ) → (i < n * 512 → (4 ≤ i % 512) × (i % 512 < 508)) → get_or (seal_all n s) i 0 ≡ get_or s i 0
unfolding seal_all
all_else zero s i d = refl
all_else (suc n) s i d =
    seal_else (seal_all n s) n i (λ a b. let c = d (omega arith) in omega arith) (λ a b. let c = d (omega arith) in omega arith) ∙ all_else n s i (λ h. d (omega arith))

all_low : (n : ℕ) (s : List ℕ) → n ≤ 4294967296 → Bytes s → Bytes (seal_all n s)
unfolding seal_all
all_low zero s h q = q
all_low (suc n) s h q = seal_low (seal_all n s) n h (all_low n s (omega arith) q)

pub all_right : (n : ℕ) (s : List ℕ) → n ≤ 4294967296 → n * 512 ≤ length s → (k : ℕ) → k < n → BlockHas (Ok tt) (seal_all n s) k
unfolding seal_all
all_right zero s h l k m = absurd (omega arith)
all_right (suc n) s h l k m =
    elim (dec_lt k n) [
      | yes q ↦ right_same (seal_block (seal_all n s) n) (seal_all n s) k (λ i a b. seal_else (seal_all n s) n i (λ c d. omega arith) (λ c d. omega arith)) (all_right n s (omega arith) (omega arith) k q)
      | no q ↦ let z : k ≡ n = omega arith in rw z (seal_right (seal_all n s) n h (rw (all_length n s) (omega arith)))
    ]

-- ---- what is written

content_low : (s : List ℕ) (i : ℕ) (b : List ℕ) → Bytes b → Bytes s → Bytes (put_content s i b)
unfolding put_content
content_low s i [] p q = q
content_low s i (v ∷ b) p q = content_low (set s (content_at i) v) (i + 1) b (λ j. p (suc j)) (λ j. set_each (λ (x : ℕ). x < 256) s (content_at i) v j (p 0) (q j))

module _ (b out : List ℕ) (fits : blocks_for (length b) * 512 ≤ length out) where
  laid : List ℕ
  laid = put_content (replicate (length out) 0) 0 b

  laid_length : length laid ≡ length out
  unfolding laid
  laid_length = put_length (replicate (length out) 0) 0 b ∙ length-replicate {A = ℕ} (length out) 0

  -- content is there and zero behind it,
  laid_at : (i : ℕ) → get_or laid (content_at i) 0 ≡ get_or b i 0
  unfolding laid
  laid_at i =
      let z : 0 + i ≡ i = omega arith in
      elim (dec_lt i (length b)) [
        | yes h ↦ rw z at (put_at (replicate (length out) 0) 0 b i h (rw (z, length-replicate {A = ℕ} (length out) 0) (omega (arith, at_below i (blocks_for (length b)) (omega arith)))))
        | no h ↦ put_else (replicate (length out) 0) 0 b (content_at i) (λ j l e. omega (arith, at_one i (0 + j) e)) ∙ zeros_at (length out) (content_at i) ∙ sym (get_or-eq_default b 0 {n = i} (omega arith))
      ]

  -- as behind the blocks
  laid_behind : (i : ℕ) → blocks_for (length b) * 512 ≤ i → get_or laid i 0 ≡ 0
  unfolding laid
  laid_behind i h = put_else (replicate (length out) 0) 0 b i (λ j l e. omega (arith, at_below (0 + j) (blocks_for (length b)) (omega arith))) ∙ zeros_at (length out) i

  pub stored_blocks : blocks_for (length b) ≤ 4294967296 → ((i : ℕ) → get_or b i 0 < 256) → Stored b (blocks_of b out)
  unfolding laid blocks_of
  stored_blocks few low =
      let m = blocks_for (length b) in
      let s = seal_all m laid in
      let n : length s ≡ length out = all_length m laid ∙ laid_length in
      let r : length (b ++ replicate (m * 504 - length b) 0) ≡ m * 504 = rw (length-append, length-replicate {A = ℕ} (m * 504 - length b) 0) (omega arith) in
      record {
        room = rw n fits;
        content = ext_get_or 0 (content_to (m * 504) s) (b ++ replicate (m * 504 - length b) 0) (content_length (m * 504) s ∙ sym r)
            (λ i h. content_is (m * 504) i s (rw (content_length (m * 504) s) at h) ∙ all_else m laid (content_at i) (λ _. at_inside i) ∙ laid_at i ∙ sym (behind_at b (m * 504 - length b) i));
        right = (right_iff m s).1 (all_right m laid few (rw laid_length fits));
        behind = (zeros_iff s (m * 512) (length s - m * 512) (omega arith)).1 (λ i h. all_else m laid (m * 512 + i) (λ l. absurd (omega arith)) ∙ laid_behind (m * 512 + i) (omega arith));
        bytes = all_low m laid few (content_low (replicate (length out) 0) 0 b low (λ i. rw (zeros_at (length out) i) (omega arith)));
      }

-- ---- one of each length

module _ (b x y : List ℕ) (p : Stored b x) (q : Stored b y) where
  -- what is summed is a number or content,
  summed : (i : ℕ) → i < blocks_for (length b) * 512 → i % 512 < 508 → get_or x i 0 ≡ get_or y i 0
  summed i h l =
      let m = blocks_for (length b) in
      elim (dec_lt (i % 512) 4) [
        | yes k ↦ number_one x y (i / 512 * 512) p.bytes q.bytes (((right_iff m x).0 p.right (i / 512) (omega arith)).0 ∙ sym ((right_iff m y).0 q.right (i / 512) (omega arith)).0) i (omega arith) (omega arith)
        | no k ↦
            let j = i / 512 * 504 + (i % 512 - 4) in
            let z : j < m * 504 = omega arith in
            rw (at_back i (omega arith) l) at (sym (content_is (m * 504) j x z) ∙ ap (λ (c : List ℕ). get_or c j 0) (p.content ∙ sym q.content) ∙ content_is (m * 504) j y z)
      ]

  -- and the rest of a block is the sums' check
  inside : (i : ℕ) → i < blocks_for (length b) * 512 → get_or x i 0 ≡ get_or y i 0
  inside i h =
      let m = blocks_for (length b) in
      elim (dec_lt (i % 512) 508) [
        | yes l ↦ summed i h l
        | no l ↦
            check_one x y (i / 512 * 512) p.bytes q.bytes ((right_iff m x).0 p.right (i / 512) (omega arith)).1 ((right_iff m y).0 q.right (i / 512) (omega arith)).1
            (λ j c d. summed j (omega arith) (omega arith)) i (omega arith) (omega arith)
      ]

  pub stored_one : length x ≡ length y → x ≡ y
  stored_one e =
      let m = blocks_for (length b) in
      let u = p.room in
      let v = q.room in
      ext_get_or 0 x y e
      (λ i h. elim (dec_lt i (m * 512)) [
        | yes l ↦ inside i l
        | no l ↦
            let z : m * 512 + (i - m * 512) ≡ i = omega arith in
            rw z at ((zeros_iff x (m * 512) (length x - m * 512) (omega arith)).0 p.behind (i - m * 512) (omega arith) ∙ sym ((zeros_iff y (m * 512) (length y - m * 512) (omega arith)).0 q.behind (i - m * 512) (omega arith)))
      ])
