-- What the functions' proofs cite: a sum that wraps, a name's bytes one by one, slots met one by one, a number halved. Assumes nothing.
use Rattle.std.specs.Prelude.{Option, Some, None}
use Rattle.std.proofs.Common.{◌≡◌, ℕ, suc, ◌+◌, ◌-◌, ◌*◌, ◌/◌, ◌%◌, ◌<◌, ◌≤◌, min, Bool, true, false, not, ◌&&◌, eqb, leb, List, [], ◌∷◌, length, get_or, drop, set, sym, refl, ap, ◌∙◌, ⊎_elim, arith, drop_of_length-le, eq-eqb, ne_eqb}
use mathlib.Core.Bool.{false≢true}
use native.Mathlib.Decide.{dec_lt}
use native.Mathlib.Nat.{mod-add-mod, add-mod}
use borrow.Author.Tests.{not-true, not-false}
use lib.Seq.{slice, set_out}
use Rattle.scan.proofs.Bytes.{le_or_lt, drop_at, within_true}
use Rattle.tables.specs.Below.{below}
use Rattle.tables.specs.Table.{cell, set_cell, put, Added, add_row, lies, has_name, find_name, First}
use Rattle.tables.proofs.Cases.{add_cases, same_part_iff, find_cases, find_iff, none_iff}
use Rattle.index.specs.Hash.{mixed, hash_from, hash_of}
use Rattle.index.specs.Index.{home, next_slot, free_slot, enter_row, Indexed, probed, lookup, row_stands, filled, index_test, is_power, unfound, fresh_name, size_test}
use Rattle.index.proofs.Theorems.{indexed_set, indexed_add}
use Rattle.index.proofs.Slots.{free_here, free_on, probe_free, probe_hit, probe_on, filled_zero, filled_one}

-- 33 times the number plus the byte
twice : (y x z : ℕ) → x ≡ y % 4294967296 → z ≡ (x + x) % 4294967296 → z ≡ (y + y) % 4294967296
twice y x z e f = f ∙ rw e (sym (add-mod y y 4294967296))

then : (y c x z : ℕ) → x ≡ y % 4294967296 → z ≡ (x + c) % 4294967296 → z ≡ (y + c) % 4294967296
then y c x z e f = f ∙ rw e (mod-add-mod y 4294967296 c)

pub mix_is : (h b x₁ x₂ x₃ x₄ x₅ y z : ℕ) → x₁ ≡ (h + h) % 4294967296 → x₂ ≡ (x₁ + x₁) % 4294967296 → x₃ ≡ (x₂ + x₂) % 4294967296 → x₄ ≡ (x₃ + x₃) % 4294967296 → x₅ ≡ (x₄ + x₄) % 4294967296 → y ≡ (x₅ + h) % 4294967296 → z ≡ (y + b) % 4294967296 → z ≡ mixed h b
mix_is h b x₁ x₂ x₃ x₄ x₅ y z e₁ e₂ e₃ e₄ e₅ f g =
    let d₅ = twice _ _ _ (twice _ _ _ (twice _ _ _ (twice _ _ _ e₁ e₂) e₃) e₄) e₅ in
    then _ _ _ _ (then _ _ _ _ d₅ f) g ∙ ap (λ (x : ℕ). x % 4294967296) (sum h b)
  where
    sum : (h b : ℕ) → h + h + (h + h) + (h + h + (h + h)) + (h + h + (h + h) + (h + h + (h + h))) + (h + h + (h + h) + (h + h + (h + h)) + (h + h + (h + h) + (h + h + (h + h)))) + h + b ≡ 33 * h + b
    sum h b = omega arith

-- a name's bytes
module _ (src : List ℕ) (a b : ℕ) (p : Bool) (e : p ≡ lies src a b) where
  pub hash_none : not p ≡ true → 5381 ≡ hash_of src a b
  unfolding hash_of
  hash_none h = rw (sym e ∙ not-true p h, hash_of)

  pub hash_start : not p ≡ false → (a ≤ b) × (b ≤ length src) × (hash_from 5381 (slice a b src) ≡ hash_of src a b)
  unfolding hash_of
  hash_start h =
      let x : lies src a b ≡ true = sym e ∙ not-false p h in
      let u = within_true a (length src) b x in
      (u.0, u.1, rw (x, hash_of))

-- slots from p on, f of them left
module _ (ix : List ℕ) (f p : ℕ) (l : 0 < f) where
  one : f ≡ suc (f - 1)
  one = omega arith

  module _ (o : ℕ) (inv : free_slot ix f p ≡ o) where
    pub slot_free : get_or ix p 0 ≡ 0 → p ≡ o
    slot_free h = sym (free_here ix (f - 1) p h) ∙ rw (← one) inv

    pub slot_taken : (get_or ix p 0 ≡ 0 → ⊥) → (q : ℕ) → q ≡ next_slot (length ix) p → (g : ℕ) → g ≡ f - 1 → free_slot ix g q ≡ o
    slot_taken h q e g d = rw (d, e) (sym (free_on ix (f - 1) p h) ∙ rw (← one) inv)

  module _ (has : ℕ → Bool) (o : Option ℕ) (inv : probed has ix f p ≡ o) where
    pub look_free : get_or ix p 0 ≡ 0 → None ≡ o
    look_free h = sym (probe_free ix (f - 1) p has h) ∙ rw (← one) inv

    module _ (h : get_or ix p 0 ≡ 0 → ⊥) where
      pub look_hit : has (get_or ix p 0 - 1) ≡ true → Some (get_or ix p 0 - 1) ≡ o
      look_hit e = sym (probe_hit ix (f - 1) p has h e) ∙ rw (← one) inv

      pub look_on : has (get_or ix p 0 - 1) ≡ false → (q : ℕ) → q ≡ next_slot (length ix) p → (g : ℕ) → g ≡ f - 1 → probed has ix g q ≡ o
      look_on e q i g d = rw (d, i) (sym (probe_on ix (f - 1) p has h e) ∙ rw (← one) inv)

-- no slot is left
module _ (ix : List ℕ) (f p : ℕ) (l : f ≤ 0) where
  nil : f ≡ 0
  nil = omega arith

  pub slots_full : (o : ℕ) → free_slot ix f p ≡ o → length ix ≡ o
  unfolding free_slot
  slots_full o inv = rw nil at inv

  pub look_end : (has : ℕ → Bool) (o : Option ℕ) → probed has ix f p ≡ o → None ≡ o
  unfolding probed
  look_end has o inv = rw nil at inv

-- an index without slots
module _ (src : List ℕ) (w k : ℕ) (t ix : List ℕ) (h : length ix ≡ 0) where
  pub enter_nowhere : (r : ℕ) → ix ≡ enter_row src w k t r ix
  unfolding enter_row
  enter_nowhere r = sym (set_out ix _ (r + 1) (omega arith))

  pub look_nowhere : (a b : ℕ) → None ≡ lookup src w k t ix a b
  unfolding lookup
  look_nowhere a b = look_end ix (length ix) _ (omega arith) _ _ refl

-- a row is entered in the free slot, if there is one
module _ (src : List ℕ) (w k r : ℕ) (t ix : List ℕ) (a b p z : ℕ) (x : a ≡ cell w t r k) (y : b ≡ cell w t r (k + 1)) (e : p ≡ home src (length ix) a b) (g : z ≡ free_slot ix (length ix) p) where
  pub enter_slot : set ix z (r + 1) ≡ enter_row src w k t r ix
  unfolding enter_row
  enter_slot = rw (g, e, x, y)

  pub enter_full : length ix ≤ z → ix ≡ enter_row src w k t r ix
  enter_full h = sym (set_out ix z (r + 1) h) ∙ enter_slot

pub look_start : (src : List ℕ) (w k : ℕ) (t ix : List ℕ) (a b p : ℕ) → p ≡ home src (length ix) a b → probed (has_name src w k t a b) ix (length ix) p ≡ lookup src w k t ix a b
unfolding lookup
look_start src w k t ix a b p e = rw e

-- taken slots, one by one
module _ (ix : List ℕ) (i n o : ℕ) (inv : n + filled (drop i ix) ≡ o) (l : i < length ix) where
  pub count_taken : (get_or ix i 0 ≡ 0 → ⊥) → n + 1 + filled (drop (i + 1) ix) ≡ o
  count_taken h = let e : filled (drop i ix) ≡ suc (filled (drop (i + 1) ix)) = ap filled (drop_at ix i l) ∙ filled_one _ _ h in omega arith

  pub count_free : get_or ix i 0 ≡ 0 → n + filled (drop (i + 1) ix) ≡ o
  count_free h = let e : filled (drop i ix) ≡ filled (drop (i + 1) ix) = ap filled (drop_at ix i l) ∙ filled_zero _ _ h in omega arith

pub count_end : (ix : List ℕ) (i n o : ℕ) → n + filled (drop i ix) ≡ o → length ix ≤ i → n ≡ o
unfolding filled
count_end ix i n o inv l = let e : filled (drop i ix) ≡ 0 = ap filled (drop_of_length-le ix l) in omega arith

pub count_start : (ix : List ℕ) → 0 + filled (drop 0 ix) ≡ filled ix
count_start ix = omega arith

-- a token's row: marked, or new and entered, or without room
module _ (src : List ℕ) (n : ℕ) (t ix : List ℕ) (I : Indexed src 3 0 n t ix) where
  pub token_marked : (r : ℕ) (cells : List ℕ) → cells ≡ set_cell 3 t r 2 1 → Indexed src 3 0 n cells ix
  token_marked r cells e = rw e (indexed_set src 3 0 n t ix I r 2 1 (omega arith) (omega arith) (λ x. omega arith) (λ x. omega arith))

  module _ (a b d : ℕ) (q : Bool) (cells : List ℕ) (o : record { ok = q; cells = cells } ≡ add_row n (a ∷ b ∷ d ∷ []) t) where
    pub token_new : q ≡ true → (jx : List ℕ) → jx ≡ enter_row src 3 0 cells n ix → Indexed src 3 0 (n + 1) cells jx
    token_new h jx e =
        rw e
        (add_cases (λ (x : Added). record { ok = q; cells = cells } ≡ x → Indexed src 3 0 (n + 1) cells (enter_row src 3 0 cells n ix)) n (a ∷ b ∷ d ∷ []) t
        (λ fits l x. let y : cells ≡ put t (n * 3) (a ∷ b ∷ d ∷ []) = ap (λ (v : Added). v.cells) x in rw y (indexed_add src 3 0 n t ix I (a ∷ b ∷ d ∷ []) refl fits (omega arith)))
        (λ full x. absurd (false≢true (sym (ap (λ (v : Added). v.ok) x) ∙ h))) o)

    pub token_full : q ≡ false → Indexed src 3 0 n cells ix
    token_full h =
        add_cases (λ (x : Added). record { ok = q; cells = cells } ≡ x → Indexed src 3 0 n cells ix) n (a ∷ b ∷ d ∷ []) t
        (λ fits l x. absurd (false≢true (sym h ∙ ap (λ (v : Added). v.ok) x)))
        (λ full x. let y : cells ≡ t = ap (λ (v : Added). v.cells) x in rw y I) o

-- a name is new in its row: the first row of the name among all is that row
module _ (src : List ℕ) (w k n : ℕ) (t : List ℕ) (r : ℕ) (l : r < n) (a b : ℕ) (x : a ≡ cell w t r k) (y : b ≡ cell w t r (k + 1)) (f : Option ℕ) (e : f ≡ find_name src w k n t a b) where
  pub fresh_none : f ≡ None → true ≡ fresh_name src w k t r
  unfolding fresh_name
  fresh_none g =
      let none = (none_iff src w k n t a b).0 (sym e ∙ g) in
      rw (← x, ← y) (ap unfound (sym ((none_iff src w k r t a b).1 (λ q h. none q (omega arith)))))

  pub fresh_found : (q : ℕ) → f ≡ Some q → eqb q r ≡ fresh_name src w k t r
  unfolding fresh_name has_name
  fresh_found q g = rw (← x, ← y) (go ((find_iff src w k n t a b q).0 (sym e ∙ g)))
    where
      itself : has_name src w k t a b q ≡ true → has_name src w k t a b r ≡ true
      itself h = let z = (same_part_iff src _ _ a b).0 h in rw (← x, ← y) ((same_part_iff src a b a b).1 (z.2, z.3, z.2, z.3, refl))

      go : First src w k n t a b q → eqb q r ≡ unfound (find_name src w k r t a b)
      go F =
          elim (dec_lt q r) [
            | yes h ↦
                find_cases (λ (o : Option ℕ). eqb q r ≡ unfound o) src w k r t a b (λ p i u v. ne_eqb q r (λ z. omega arith))
                (λ none. absurd (false≢true (sym (none q h) ∙ F.named)))
            | no h ↦
                let s : q ≡ r = ⊎_elim (λ i. omega arith) (λ i. absurd (false≢true (sym (F.earlier r i) ∙ itself F.named))) (le_or_lt q r) in
                find_cases (λ (o : Option ℕ). eqb q r ≡ unfound o) src w k r t a b (λ p i u v. absurd (false≢true (sym (F.earlier p (omega arith)) ∙ u)))
                (λ none. eq-eqb q r s)
          ]

-- as many slots are taken as there are rows, and every row stands
module _ (src : List ℕ) (w k n : ℕ) (t ix : List ℕ) (c : ℕ) (e : c ≡ filled ix) where
  pub index_count : (c ≡ n → ⊥) → false ≡ index_test src w k n t ix
  unfolding index_test
  index_count h = rw (← e, ne_eqb c n h)

  pub index_rows : c ≡ n → (q : Bool) → q ≡ below n (row_stands src w k t ix) → q ≡ index_test src w k n t ix
  unfolding index_test
  index_rows h q g = rw (← e, eq-eqb c n h) g

pub size_is : (m n w : ℕ) (p : Bool) (x : ℕ) → p ≡ is_power m → x ≡ min (n / w) 4294967295 → (p && leb (x * 2) m) ≡ size_test m n w
unfolding size_test
size_is m n w p x e f = rw (e, f)

-- a row of any table: new and entered, or without room
module _ (src : List ℕ) (w k n : ℕ) (t ix : List ℕ) (I : Indexed src w k n t ix) (row : List ℕ) (wide : length row ≡ w) (q : Bool) (cells : List ℕ) (o : record { ok = q; cells = cells } ≡ add_row n row t) where
  pub row_new : k + 1 < w → q ≡ true → (jx : List ℕ) → jx ≡ enter_row src w k cells n ix → Indexed src w k (n + 1) cells jx
  row_new l h jx e =
      rw e
      (add_cases (λ (x : Added). record { ok = q; cells = cells } ≡ x → Indexed src w k (n + 1) cells (enter_row src w k cells n ix)) n row t
      (λ fits m x. let y : cells ≡ put t (n * w) row = ap (λ (v : Added). v.cells) x ∙ rw wide in rw y (indexed_add src w k n t ix I row wide (rw wide at fits) l))
      (λ full x. absurd (false≢true (sym (ap (λ (v : Added). v.ok) x) ∙ h))) o)

  pub row_full : q ≡ false → Indexed src w k n cells ix
  row_full h =
      add_cases (λ (x : Added). record { ok = q; cells = cells } ≡ x → Indexed src w k n cells ix) n row t
      (λ fits m x. absurd (false≢true (sym h ∙ ap (λ (v : Added). v.ok) x)))
      (λ full x. let y : cells ≡ t = ap (λ (v : Added). v.cells) x in rw y I) o
