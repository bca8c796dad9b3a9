-- What the functions' proofs cite: a name's bytes one by one, a seat among the slots, slots met one by one, rows added. Assumes nothing.
use Rattle.std.specs.Prelude.{Option, Some, None}
use Prim.Native.Nat.{ℕ, zero, suc, ◌+◌, ◌*◌, ◌/◌, ◌%◌, ◌-◌, ◌≤◌, ◌<◌}
use mathlib.Core.Path.{◌≡◌, refl, sym, ap, ◌∙◌}
use mathlib.Core.List.{List, [], ◌∷◌}
use mathlib.Core.Bool.{Bool, true, false, not, ◌&&◌, false≢true}
use mathlib.Core.Logic.{inl, inr, ⊎_elim}
use native.Mathlib.Omega.{arith}
use native.Mathlib.Decide.{ℕ_discrete}
use native.Mathlib.Nat.{mod-lt, div-lt_iff_lt-mul, mul-lt-mul_of_pos_right, mul-zero, mul_comm, zero-lt-suc, min-eq_left, min-eq_right}
use borrow.Author.Tests.{lt-ltb, le-ltb, ltb-true, not-true, not-false}
use lib.ListN.{length, get_or, set, length-set}
use lib.Seq.{slice, get_or-set_other, get_or-set_same}
use lib.Dec.{ltb}
use Rattle.scan.proofs.Bytes.{le_or_lt, within_yes, within_true}
use Rattle.tables.specs.Table.{cell, set_cell, put, Added, add_row, lies, same_part, has_name, find_name}
use Rattle.tables.proofs.Cases.{add_cases, same_part_iff, same_part_sym, same_part_trans, find_cases, find_iff, none_iff}
use Rattle.tables.proofs.Laws.{product_fits as product, has_name_lem}
use Rattle.tables.specs.Rows.{row_at}
use Rattle.tables.proofs.Rows.{row_cell, row_set, row_else, cell_new, cell_old}
use Rattle.index.specs.Index.{next_slot}
use Rattle.finder.specs.Finder.{stir_from, number_of, seat_of, mark_of, Leads, out, here, on, LeadsTo, LedOf, Led, Apart, Held, Met, Tells, Grown}
use Rattle.finder.specs.declared.Sought.{Sought}
use Rattle.finder.specs.declared.Sought.TheVariants.{Seated, Unseated}

-- a name's bytes
module _ (src : List ℕ) (a b : ℕ) (p : Bool) (e : p ≡ lies src a b) where
  pub number_none : not p ≡ true → 2166136261 ≡ number_of src a b
  unfolding number_of
  number_none h = rw (sym e ∙ not-true p h, number_of)

  pub number_start : not p ≡ false → (a ≤ b) × (b ≤ length src) × (stir_from 2166136261 (slice a b src) ≡ number_of src a b)
  unfolding number_of
  number_start h =
      let x : lies src a b ≡ true = sym e ∙ not-false p h in
      let u = within_true a (length src) b x in
      (u.0, u.1, rw (x, number_of))

-- the same bytes have the same number
pub number_same : (src : List ℕ) (a b c d : ℕ) → same_part src a b c d ≡ true → number_of src a b ≡ number_of src c d
unfolding number_of
number_same src a b c d h =
    let x = (same_part_iff src a b c d).0 h in
    let u : lies src a b ≡ true = within_yes a (length src) b x.0 x.1 in
    let v : lies src c d ≡ true = within_yes c (length src) d x.2 x.3 in
    rw (u, v, x.4, number_of)

-- a seat is one of the slots
pub seat_inside : (m x : ℕ) → 0 < m → seat_of m x < m
unfolding seat_of
seat_inside m x h = go (x * 2654435769 % 4294967296) (mod-lt (x * 2654435769) (omega arith)) (m % 4294967296) (omega arith)
  where
    go : (y : ℕ) → y < 4294967296 → (z : ℕ) → z ≤ m → y * z / 4294967296 < m
    go y l zero k = rw (mul-zero y) h
    go y l (suc z) k =
        let many : 0 < 4294967296 = omega arith in
        let b : y * suc z < suc z * 4294967296 = rw (mul_comm (suc z) 4294967296) (mul-lt-mul_of_pos_right l (zero-lt-suc z)) in
        let d : y * suc z / 4294967296 < suc z = (div-lt_iff_lt-mul many).1 b in
        omega arith

-- the mark of a row
pub mark_low : (r : ℕ) → r < 65534 → r + 1 ≡ mark_of r
unfolding mark_of
mark_low r h = sym (min-eq_left (omega arith))

pub mark_high : (r : ℕ) → 65534 ≤ r → 65535 ≡ mark_of r
unfolding mark_of
mark_high r h = sym (min-eq_right (omega arith))

pub mark_some : (r : ℕ) → mark_of r ≡ 0 → ⊥
mark_some r e = ⊎_elim (λ h. omega (arith, mark_high r h)) (λ h. omega (arith, mark_low r h)) (le_or_lt 65534 r)

mark_row : (r v : ℕ) → v ≡ mark_of r → (v ≡ 65535 → ⊥) → v - 1 ≡ r
mark_row r v e d = ⊎_elim (λ h. absurd (d (e ∙ sym (mark_high r h)))) (λ h. omega (arith, mark_low r h)) (le_or_lt 65534 r)

-- slots from p on, f of them left
module _ (ix : List ℕ) (v : ℕ) where
  leads_free : (f p : ℕ) → 0 < f → Leads ix v f p → get_or ix p 0 ≡ 0 → (v ≡ 0 → ⊥) → ⊥
  leads_free zero p l x e d = omega arith
  leads_free (suc f) p l (here h) e d = d (sym h ∙ e)
  leads_free (suc f) p l (on h x) e d = h e

  leads_on : (f p : ℕ) → 0 < f → Leads ix v f p → (get_or ix p 0 ≡ v → ⊥) → Leads ix v (f - 1) (next_slot (length ix) p)
  leads_on zero p l x d = absurd (omega arith)
  leads_on (suc f) p l (here h) d = absurd (d h)
  leads_on (suc f) p l (on h x) d = let e : suc f - 1 ≡ f = omega arith in rw e x

-- what is led to in the slots that are left, of the rows that are asked for
abbrev pub Left : List ℕ → ℕ → ℕ → ℕ → List ℕ → List ℕ → ℕ → ℕ → ℕ → ℕ → Type 0
Left src w k n t ix a b f p = (asked : ℕ → Bool) → LedOf asked src w k n t ix → (q : ℕ) → q < n → asked q ≡ true → has_name src w k t a b q ≡ true → Leads ix (mark_of q) f p

module _ (src : List ℕ) (w k n : ℕ) (t ix : List ℕ) (a b : ℕ) where
  pub left_start : (x p : ℕ) → x ≡ number_of src a b → p ≡ seat_of (length ix) x → Left src w k n t ix a b (length ix) p
  unfolding has_name
  left_start x p e f asked L q l y h =
      let g : number_of src (cell w t q k) (cell w t q (k + 1)) ≡ x = number_same src _ _ a b h ∙ sym e in
      rw (f, ← g) (L q l y)

  module _ (f p : ℕ) (some : 0 < f) (L : Left src w k n t ix a b f p) where
    pub left_free : get_or ix p 0 ≡ 0 → (asked : ℕ → Bool) → LedOf asked src w k n t ix → Met asked src w k n t a b None
    left_free e asked M q l y = go (has_name src w k t a b q) refl
      where
        go : (c : Bool) → has_name src w k t a b q ≡ c → c ≡ false
        go true h = absurd (leads_free ix (mark_of q) f p some (L asked M q l y h) e (mark_some q))
        go false h = refl

    pub left_on : (get_or ix p 0 ≡ 65535 → ⊥) → (has : Bool) → has ≡ (ltb (get_or ix p 0 - 1) n && has_name src w k t a b (get_or ix p 0 - 1)) → has ≡ false → (r : ℕ) → r ≡ next_slot (length ix) p → (m : ℕ) → m ≡ f - 1 → Left src w k n t ix a b m r
    left_on d has e none r g m i asked M q l y h =
        rw (i, g) (leads_on ix (mark_of q) f p some (L asked M q l y h) (λ x. let z : get_or ix p 0 - 1 ≡ q = mark_row q _ x d in false≢true (sym none ∙ e ∙ rw (z, lt-ltb q n l) h)))

module _ (asked : ℕ → Bool) (src : List ℕ) (w k n : ℕ) (t : List ℕ) (a b : ℕ) where
  pub met_row : (r : ℕ) (has : Bool) → has ≡ (ltb r n && has_name src w k t a b r) → has ≡ true → Met asked src w k n t a b (Some r)
  met_row r has e h = go (ltb r n) refl (sym h ∙ e)
    where
      go : (c : Bool) → ltb r n ≡ c → true ≡ (c && has_name src w k t a b r) → (r < n) × (has_name src w k t a b r ≡ true)
      go true x y = (ltb-true r n x, sym y)
      go false x y = absurd (false≢true (sym y))

  pub met_search : (f : Option ℕ) → f ≡ find_name src w k n t a b → Met asked src w k n t a b f
  met_search f e = rw e (find_cases (Met asked src w k n t a b) src w k n t a b (λ r l h none. (l, h)) (λ none q l y. none q l))

module _ (src : List ℕ) (w k n : ℕ) (t : List ℕ) (a b : ℕ) where
  -- what is met is what is found, where names are pairwise different and all rows are asked for
  pub met_first : Apart src w k n t → (f : Option ℕ) → Met (λ (q : ℕ). true) src w k n t a b f → f ≡ find_name src w k n t a b
  unfolding has_name
  met_first A (Some r) m =
      sym
      ((find_iff src w k n t a b r).1
      (record {
        inside = m.0;
        named = m.1;
        earlier = λ q l. go q l (has_name src w k t a b q) refl;
      }))
    where
      go : (q : ℕ) → q < r → (c : Bool) → has_name src w k t a b q ≡ c → c ≡ false
      go q l true h =
          let u : same_part src (cell w t r k) (cell w t r (k + 1)) a b ≡ true = m.1 in
          let v : same_part src a b (cell w t r k) (cell w t r (k + 1)) ≡ true = same_part_sym src a b (cell w t r k) (cell w t r (k + 1)) ∙ u in
          absurd (false≢true (sym (A q r l m.0) ∙ same_part_trans src _ _ a b _ _ h v))
      go q l false h = refl
  met_first A None m = sym ((none_iff src w k n t a b).1 (λ q l. m q l refl))

-- slots that were filled
pub grown_none : (ix : List ℕ) → Grown ix ix
grown_none ix = record { size = refl; kept = λ p. inr refl }

pub grown_on : (ix jx kx : List ℕ) → Grown ix jx → Grown jx kx → Grown ix kx
grown_on ix jx kx x y =
    record {
      size = y.size ∙ x.size;
      kept = λ p. ⊎_elim inl (λ e. ⊎_elim (λ f. inl (sym e ∙ f)) (λ f. inr (f ∙ e)) (y.kept p)) (x.kept p);
    }

pub grown_set : (ix : List ℕ) (p v : ℕ) → get_or ix p 0 ≡ 0 → Grown ix (set ix p v)
grown_set ix p v e =
    record {
      size = length-set ix p v;
      kept = λ q. elim (ℕ_discrete q p) [ yes h ↦ inl (rw h e) | no h ↦ inr (get_or-set_other ix p q v 0 h) ];
    }

pub leads_grown : (ix jx : List ℕ) (v : ℕ) → (v ≡ 0 → ⊥) → Grown ix jx → (f p : ℕ) → Leads ix v f p → Leads jx v f p
leads_grown ix jx v d G zero p x = out
leads_grown ix jx v d G (suc f) p (here h) = here (⊎_elim (λ e. absurd (d (sym h ∙ e))) (λ e. e ∙ h) (G.kept p))
leads_grown ix jx v d G (suc f) p (on h x) =
    on {f = f} (λ z. ⊎_elim h (λ e. h (sym e ∙ z)) (G.kept p)) (rw G.size (leads_grown ix jx v d G f (next_slot (length ix) p) x))

-- a free slot is sought from the seat of the number x on: whatever the slots become, what the slots that are left lead to is led to from the seat
abbrev pub Behind : List ℕ → ℕ → ℕ → ℕ → ℕ → Type 0
Behind ix v x f p = (jx : List ℕ) → Grown ix jx → Leads jx v f p → Leads jx v (length jx) (seat_of (length jx) x)

module _ (ix : List ℕ) (v x : ℕ) where
  pub behind_start : (p : ℕ) → p ≡ seat_of (length ix) x → Behind ix v x (length ix) p
  behind_start p e jx G l = rw (G.size, ← e) l

  module _ (f p : ℕ) (some : 0 < f) (B : Behind ix v x f p) where
    one : f ≡ suc (f - 1)
    one = omega arith

    pub behind_on : (get_or ix p 0 ≡ 0 → ⊥) → (q : ℕ) → q ≡ next_slot (length ix) p → (m : ℕ) → m ≡ f - 1 → Behind ix v x m q
    behind_on d q e m i jx G l = B jx G (rw one (on {f = f - 1} (λ z. ⊎_elim d (λ y. d (sym y ∙ z)) (G.kept p)) (rw (G.size, ← e, ← i) l)))

    pub behind_set : p < length ix → get_or ix p 0 ≡ 0 → Leads (set ix p v) v (length (set ix p v)) (seat_of (length (set ix p v)) x)
    behind_set l e = B (set ix p v) (grown_set ix p v e) (rw one (here (get_or-set_same ix p v 0 l)))

  pub behind_end : (f p : ℕ) → f ≤ 0 → Behind ix v x f p → Leads ix v (length ix) (seat_of (length ix) x)
  behind_end f p l B = let e : f ≡ 0 = omega arith in B ix (grown_none ix) (rw e out)

-- a cell that is set is no other cell of any row
set_apart : (w r c v : ℕ) (t : List ℕ) (q j : ℕ) → c < w → j < w → (c ≡ j → ⊥) → cell w (set t (r * w + c) v) q j ≡ cell w t q j
set_apart w r c v t q j b l d =
    sym (row_cell w (set t (r * w + c) v) q j l)
    ∙ elim (ℕ_discrete q r) [
      | yes e ↦ rw e (ap (λ (x : List ℕ). get_or x j 0) (row_set w t r c v b) ∙ get_or-set_other (row_at w t r) c j v 0 (λ z. d (sym z)))
      | no e ↦ ap (λ (x : List ℕ). get_or x j 0) (row_else w t r c v b q e)
    ]
    ∙ row_cell w t q j l

-- a finder of no rows
pub held_none : (src : List ℕ) (w k : ℕ) (t ix : List ℕ) → Held src w k 0 t ix
held_none src w k t ix = record { led = λ r l. absurd (omega arith); apart = λ q r l m. absurd (omega arith) }

-- slots that another row, or another table, has taken
pub held_grown : (src : List ℕ) (w k n : ℕ) (t ix : List ℕ) → Held src w k n t ix → (jx : List ℕ) → Grown ix jx → Held src w k n t jx
held_grown src w k n t ix H jx G = record { led = λ r l. rw G.size (leads_grown ix jx (mark_of r) (mark_some r) G (length ix) _ (H.led r l)); apart = H.apart }

module _ (src : List ℕ) (w k n : ℕ) (t ix : List ℕ) (H : Held src w k n t ix) where
  -- only the names of the rows count
  pub held_same : (u : List ℕ) → ((r : ℕ) → r < n → (cell w u r k ≡ cell w t r k) × (cell w u r (k + 1) ≡ cell w t r (k + 1))) → Held src w k n u ix
  unfolding has_name
  held_same u f =
      record {
        led = λ r l. let e = f r l in rw (e.0, e.1) (H.led r l);
        apart = λ q r l m. let e = f r m in let d = f q (omega arith) in rw (e.0, e.1, d.0, d.1) (H.apart q r l m);
      }

  -- a cell that is no name's is set
  pub held_set : (r c v : ℕ) → c < w → k + 1 < w → (c ≡ k → ⊥) → (c ≡ k + 1 → ⊥) → Held src w k n (set t (r * w + c) v) ix
  held_set r c v b l d e = held_same (set t (r * w + c) v) (λ q h. (set_apart w r c v t q k b (omega arith) d, set_apart w r c v t q (k + 1) b l e))

  -- a row of a name that is new is added and entered
  pub held_add : (row : List ℕ) → length row ≡ w → n * w + w ≤ length t → k + 1 < w → find_name src w k n t (get_or row k 0) (get_or row (k + 1) 0) ≡ None → (jx : List ℕ) → Grown ix jx → LeadsTo src w k (put t (n * w) row) jx n → Held src w k (n + 1) (put t (n * w) row) jx
  unfolding has_name
  held_add row wide fits l none jx G L =
      record {
        led = λ r h. elim (ℕ_discrete r n) [ yes e ↦ rw e L | no e ↦ J.led r (omega arith) ];
        apart = λ q r h m. elim (ℕ_discrete r n) [ yes e ↦ rw e (new q (omega arith)) | no e ↦ J.apart q r h (omega arith) ];
      }
    where
      I : Held src w k n (put t (n * w) row) ix
      I = held_same (put t (n * w) row) (λ r h. (cell_old w n row t wide fits r k h (omega arith), cell_old w n row t wide fits r (k + 1) h l))

      J : Held src w k n (put t (n * w) row) jx
      J = held_grown src w k n (put t (n * w) row) ix I jx G

      new : (q : ℕ) → q < n → has_name src w k (put t (n * w) row) (cell w (put t (n * w) row) n k) (cell w (put t (n * w) row) n (k + 1)) q ≡ false
      new q h =
          rw (cell_new w n row t wide fits k (omega arith), cell_new w n row t wide fits (k + 1) l, cell_old w n row t wide fits q k h (omega arith), cell_old w n row t wide fits q (k + 1) h l)
          ((none_iff src w k n t (get_or row k 0) (get_or row (k + 1) 0)).0 none q h)

-- whether a row has the name
module _ (src : List ℕ) (w k n r : ℕ) (t : List ℕ) (a b : ℕ) where
  pub has_not : n ≤ r → false ≡ (ltb r n && has_name src w k t a b r)
  has_not h = rw (le-ltb r n h)

  pub has_told : r < n → (x y : ℕ) (q : Bool) → x ≡ cell w t r k → y ≡ cell w t r (k + 1) → q ≡ same_part src x y a b → q ≡ (ltb r n && has_name src w k t a b r)
  has_told h x y q e f g = rw (lt-ltb r n h) (sym (has_name_lem src w k t a b r x y q e f g q refl))

-- the product of two numbers below 2 to the 32 fits 64 bits
pub product_fits : (x y : ℕ) → x % 4294967296 * (y % 4294967296) ≤ 18446744065119617025
product_fits x y = product (x % 4294967296) (y % 4294967296) (omega arith) (omega arith)

-- a finder without slots leads everywhere, which is to the search
pub led_nowhere : (ix : List ℕ) (v p : ℕ) → length ix ≡ 0 → Leads ix v (length ix) p
led_nowhere ix v p e = rw e out

-- the number of a row's name
pub led_number : (src : List ℕ) (w k : ℕ) (t : List ℕ) (r a b x : ℕ) → a ≡ cell w t r k → b ≡ cell w t r (k + 1) → x ≡ number_of src a b → x ≡ number_of src (cell w t r k) (cell w t r (k + 1))
led_number src w k t r a b x e f g = rw (← e, ← f) g

-- a row of any table: new and entered, or without room
module _ (src : List ℕ) (w k n : ℕ) (t ix : List ℕ) (H : Held src w k n t ix) (row : List ℕ) (wide : length row ≡ w) (q : Bool) (cells : List ℕ) (o : record { ok = q; cells = cells } ≡ add_row n row t) where
  pub held_new : k + 1 < w → find_name src w k n t (get_or row k 0) (get_or row (k + 1) 0) ≡ None → q ≡ true → (jx : List ℕ) → Grown ix jx → LeadsTo src w k cells jx n → Held src w k (n + 1) cells jx
  held_new l none h jx G L =
      add_cases (λ (x : Added). record { ok = q; cells = cells } ≡ x → Held src w k (n + 1) cells jx) n row t
      (λ fits m x. let y : cells ≡ put t (n * w) row = ap (λ (v : Added). v.cells) x ∙ rw wide in rw y (held_add src w k n t ix H row wide (rw wide at fits) l none jx G (rw y at L)))
      (λ full x. absurd (false≢true (sym (ap (λ (v : Added). v.ok) x) ∙ h))) o

  pub held_full : q ≡ false → Held src w k n cells ix
  held_full h =
      add_cases (λ (x : Added). record { ok = q; cells = cells } ≡ x → Held src w k n cells ix) n row t
      (λ fits m x. absurd (false≢true (sym h ∙ ap (λ (v : Added). v.ok) x)))
      (λ full x. let y : cells ≡ t = ap (λ (v : Added). v.cells) x in rw y H) o

-- a token's row: its mark is set, it is new, or there is no room
module _ (src : List ℕ) (n : ℕ) (t ix : List ℕ) (H : Held src 3 0 n t ix) where
  pub token_marked : (r : ℕ) (cells : List ℕ) → cells ≡ set_cell 3 t r 2 1 → Held src 3 0 n cells ix
  token_marked r cells e = rw e (held_set src 3 0 n t ix H r 2 1 (omega arith) (omega arith) (λ x. omega arith) (λ x. omega arith))

  module _ (a b d : ℕ) (q : Bool) (cells : List ℕ) (o : record { ok = q; cells = cells } ≡ add_row n (a ∷ b ∷ d ∷ []) t) where
    pub token_new : find_name src 3 0 n t a b ≡ None → q ≡ true → (jx : List ℕ) → Grown ix jx → LeadsTo src 3 0 cells jx n → Held src 3 0 (n + 1) cells jx
    token_new = held_new src 3 0 n t ix H (a ∷ b ∷ d ∷ []) refl q cells o (omega arith)

    pub token_full : q ≡ false → Held src 3 0 n cells ix
    token_full = held_full src 3 0 n t ix H (a ∷ b ∷ d ∷ []) refl q cells o

-- a row that is met is led to
module _ (asked : ℕ → Bool) (src : List ℕ) (w k n : ℕ) (t ix : List ℕ) (a b x f p : ℕ) (some : 0 < f) (e : x ≡ number_of src a b) (B : (v : ℕ) → Behind ix v x f p) where
  pub tells_row : (r : ℕ) (has : Bool) → r ≡ get_or ix p 0 - 1 → r < 65535 → (get_or ix p 0 ≡ 0 → ⊥) → (get_or ix p 0 ≡ 65535 → ⊥) → has ≡ (ltb r n && has_name src w k t a b r) → has ≡ true → Tells asked src w k n t ix a b (Seated r)
  unfolding has_name
  tells_row r has d l z y h g =
      let m = met_row asked src w k n t a b r has h g in
      let u : number_of src (cell w t r k) (cell w t r (k + 1)) ≡ x = number_same src _ _ a b m.1 ∙ sym e in
      let v : get_or ix p 0 ≡ mark_of r = (let i : get_or ix p 0 ≡ r + 1 = omega arith in i) ∙ mark_low r (omega arith) in
      let o : f ≡ suc (f - 1) = omega arith in
      (m.0, m.1, rw u (B (mark_of r) ix (grown_none ix) (rw o (here v))))

-- what the slots tell is met
pub tells_met : (asked : ℕ → Bool) (src : List ℕ) (w k n : ℕ) (t ix : List ℕ) (a b : ℕ) (s : Sought) → Tells asked src w k n t ix a b s → (r : ℕ) → s ≡ Seated r → Met asked src w k n t a b (Some r)
tells_met asked src w k n t ix a b s x r e = let y = rw e at x in (y.0, y.1)

pub tells_none : (asked : ℕ → Bool) (src : List ℕ) (w k n : ℕ) (t ix : List ℕ) (a b : ℕ) (s : Sought) → Tells asked src w k n t ix a b s → s ≡ Unseated → Met asked src w k n t a b None
tells_none asked src w k n t ix a b s x e = rw e at x

-- rows entered one by one
module _ (asked : ℕ → Bool) (src : List ℕ) (w k : ℕ) (t : List ℕ) where
  pub led_grown : (n : ℕ) (ix jx : List ℕ) → LedOf asked src w k n t ix → Grown ix jx → LedOf asked src w k n t jx
  led_grown n ix jx L G r l y = rw G.size (leads_grown ix jx (mark_of r) (mark_some r) G (length ix) _ (L r l y))

  pub led_more : (n : ℕ) (ix jx : List ℕ) → LedOf asked src w k n t ix → Grown ix jx → (asked n ≡ true → LeadsTo src w k t jx n) → LedOf asked src w k (n + 1) t jx
  led_more n ix jx L G N r l y =
      elim (ℕ_discrete r n) [ yes e ↦ rw e (N (rw e at y)) | no e ↦ led_grown n ix jx L G r (omega arith) y ]

module _ (src : List ℕ) (w k : ℕ) (t ix : List ℕ) where
  pub led_on : (n : ℕ) → Led src w k n t ix → (jx : List ℕ) → Grown ix jx → LeadsTo src w k t jx n → Led src w k (n + 1) t jx
  led_on n L jx G new r l = led_more (λ (q : ℕ). true) src w k t n ix jx (λ q i y. L q i) G (λ y. new) r l refl

  -- other rows were entered since
  pub led_since : (n : ℕ) → Led src w k n t ix → (jx : List ℕ) → Grown ix jx → Led src w k n t jx
  led_since n L jx G r l = led_grown (λ (q : ℕ). true) src w k t n ix jx (λ q i y. L q i) G r l refl

  pub led_all : (n m : ℕ) → Led src w k n t ix → m ≡ n → Led src w k m t ix
  led_all n m L e = rw e L

  -- where there are no slots every name leads to the search
  pub led_empty : (n : ℕ) → length ix ≡ 0 → Led src w k n t ix
  led_empty n e r l = led_nowhere ix (mark_of r) _ e
