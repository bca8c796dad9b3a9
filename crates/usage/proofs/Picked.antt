-- Laws of picked lists, and of the cells they are written to. Assumes nothing.
use Prim.Native.Nat.{ℕ, zero, suc, ◌+◌, ◌*◌, ◌-◌, ◌<◌, ◌≤◌}
use mathlib.Core.Path.{◌≡◌, refl, sym, ap, ◌∙◌}
use mathlib.Core.List.Memᴰ
use mathlib.Core.List.{List, [], ◌∷◌, ◌++◌, Memᴰ}
use mathlib.Core.Logic.{⊎_elim}
use mathlib.Core.Bool.{Bool, true, false}
use native.Mathlib.Omega.{arith}
use native.Mathlib.Numerals.{add-one}
use native.Mathlib.Decide.{ℕ_discrete, dec_lt}
use lib.ListN.{length, set, length-append, replicate, length-replicate, get_or, get_or-append}
use lib.Seq.{sets, length-sets, sets-eq, get_or-append_seam}
use Rattle.tables.proofs.Rows.{drop_zeros, sets_append}
use Rattle.usage.specs.Report.{Picks, none, take, skip, Counted, rows_of, Says, Wrote, Room, Written}

module _ {P : ℕ → Type 0} where
  pub picks_yes : {n : ℕ} {l : List ℕ} → Picks P n l → P n → Picks P (n + 1) (l ++ (n ∷ []))
  picks_yes {n} p h = rw (add-one n) (take p h)

  pub picks_no : {n : ℕ} {l : List ℕ} → Picks P n l → (P n → ⊥) → Picks P (n + 1) l
  picks_no {n} p h = rw (add-one n) (skip p h)

  -- there is one such list
  pub picks_one : {n : ℕ} {l m : List ℕ} → Picks P n l → Picks P n m → l ≡ m
  picks_one none none = refl
  picks_one (take p h) (take q k) = rw (picks_one p q)
  picks_one (take p h) (skip q k) = absurd (k h)
  picks_one (skip p h) (take q k) = absurd (h k)
  picks_one (skip p h) (skip q k) = picks_one p q

  -- the list below m is no longer than that below n
  pub picks_le : (n m : ℕ) (l k : List ℕ) → m ≤ n → Picks P n l → Picks P m k → length k ≤ length l
  picks_le zero m l k h p q =
      let e : m ≡ 0 = omega arith in
      omega (arith, ap length (picks_one (rw e at q) p))
  picks_le (suc n) m l k h (take {l = l'} p a) q =
      elim (ℕ_discrete m (suc n)) [
        | yes e ↦ omega (arith, ap length (picks_one (rw e at q) (take p a)))
        | no e ↦ omega (arith, picks_le n m l' k (omega arith) p q, length-append l' (n ∷ []))
      ]
  picks_le (suc n) m l k h (skip p a) q =
      elim (ℕ_discrete m (suc n)) [
        | yes e ↦ omega (arith, ap length (picks_one (rw e at q) (skip p a)))
        | no e ↦ picks_le n m l k (omega arith) p q
      ]

-- no more than the rows there are
pub picks_bound : {P : ℕ → Type 0} {n : ℕ} {l : List ℕ} → Picks P n l → length l ≤ n
picks_bound none = omega arith
picks_bound (take {n = n} {l = l} p h) = omega (arith, picks_bound p, length-append l (n ∷ []))
picks_bound (skip p h) = omega (arith, picks_bound p)

-- ---- a yes or no

pub says_yes : (b : Bool) (P : Type 0) → b ≡ true → Says b P → P
says_yes true P e s = s
says_yes false P e s = let z : ◌≡◌ {A = ℕ} 0 1 = cc in absurd (omega arith)

pub says_no : (b : Bool) (P : Type 0) → b ≡ false → Says b P → P → ⊥
says_no true P e s = let z : ◌≡◌ {A = ℕ} 0 1 = cc in absurd (omega arith)
says_no false P e s = s

-- the same list for the same property
pub picks_same : {P Q : ℕ → Type 0} {n : ℕ} {l : List ℕ} → ((r : ℕ) → r < n → P r → Q r) → ((r : ℕ) → r < n → Q r → P r) → Picks P n l → Picks Q n l
picks_same f g none = none
picks_same f g (take p h) = take (picks_same (λ r k. f r (omega arith)) (λ r k. g r (omega arith)) p) (f _ (omega arith) h)
picks_same f g (skip p h) = skip (picks_same (λ r k. f r (omega arith)) (λ r k. g r (omega arith)) p) (λ q. h (g _ (omega arith) q))

-- ---- counting

pub counted_none : (P : ℕ → Type 0) → Counted P 0 0
counted_none P = record { list = []; picks = none; count_is = refl }

pub counted_yes : {P : ℕ → Type 0} {n c : ℕ} (d : ℕ) → Counted P n c → P n → d ≡ c + 1 → Counted P (n + 1) d
counted_yes {P} {n} d x s e = record { list = x.list ++ (n ∷ []); picks = picks_yes x.picks s; count_is = omega (arith, e, x.count_is, length-append x.list (n ∷ [])) }

pub counted_no : {P : ℕ → Type 0} {n c : ℕ} (d : ℕ) → Counted P n c → (P n → ⊥) → d ≡ c → Counted P (n + 1) d
counted_no d x s e = record { list = x.list; picks = picks_no x.picks s; count_is = e ∙ x.count_is }

-- ---- cells

pub rows_length : (kd : ℕ) (l : List ℕ) → length (rows_of kd l) ≡ length l * 2
rows_length kd [] = refl
rows_length kd (r ∷ l) = omega (arith, rows_length kd l)

pub rows_append : (kd : ℕ) (l m : List ℕ) → rows_of kd (l ++ m) ≡ rows_of kd l ++ rows_of kd m
rows_append kd [] m = refl
rows_append kd (r ∷ l) m = rw (rows_append kd l m)

-- ---- listing

-- one row more
pub row_more : (out l : List ℕ) (kd at r next : ℕ) → next ≡ at + length l → set (set (sets out (at * 2) (rows_of kd l)) (next * 2) kd) (next * 2 + 1) r ≡ sets out (at * 2) (rows_of kd (l ++ (r ∷ [])))
row_more out l kd at r next e =
    let a : at * 2 + length (rows_of kd l) ≡ next * 2 = omega (arith, rows_length kd l) in
    sym (rw (rows_append kd l (r ∷ []), sets_append out (rows_of kd l) (kd ∷ r ∷ []) (at * 2), a, ← add-one (next * 2)))

pub written_none : (P : ℕ → Type 0) (kd at : ℕ) (out : List ℕ) → Written P kd 0 at at out out
written_none P kd at out = record { list = []; picks = none; next_is = omega arith; cells = refl }

pub written_yes : {P : ℕ → Type 0} {kd n at next : ℕ} {out₀ out out' : List ℕ} (d : ℕ) → Written P kd n at next out₀ out → P n → out' ≡ set (set out (next * 2) kd) (next * 2 + 1) n → d ≡ next + 1 → Written P kd (n + 1) at d out₀ out'
written_yes {P} {kd} {n} {at} {next} {out₀} d x s w e = record {
  list = x.list ++ (n ∷ []);
  picks = picks_yes x.picks s;
  next_is = omega (arith, e, x.next_is, length-append x.list (n ∷ []));
  cells = w ∙ rw x.cells (row_more out₀ x.list kd at n next x.next_is);
}

pub written_no : {P : ℕ → Type 0} {kd n at next : ℕ} {out₀ out out' : List ℕ} (d : ℕ) → Written P kd n at next out₀ out → (P n → ⊥) → out' ≡ out → d ≡ next → Written P kd (n + 1) at d out₀ out'
written_no d x s w e = record {
  list = x.list;
  picks = picks_no x.picks s;
  next_is = e ∙ x.next_is;
  cells = w ∙ x.cells;
}

-- what was written, by the answer
pub wrote_yes : (b : Bool) (P : Type 0) (kd r at : ℕ) (out₀ out : List ℕ) → b ≡ true → Wrote b P kd r at out₀ out → P × (out ≡ set (set out₀ (at * 2) kd) (at * 2 + 1) r)
wrote_yes true P kd r at out₀ out e w = w
wrote_yes false P kd r at out₀ out e w = let z : ◌≡◌ {A = ℕ} 0 1 = cc in absurd (omega arith)

pub wrote_no : (b : Bool) (P : Type 0) (kd r at : ℕ) (out₀ out : List ℕ) → b ≡ false → Wrote b P kd r at out₀ out → (P → ⊥) × (out ≡ out₀)
wrote_no true P kd r at out₀ out e w = let z : ◌≡◌ {A = ℕ} 0 1 = cc in absurd (omega arith)
wrote_no false P kd r at out₀ out e w = w

-- where there is room for all, there is room for the next
pub room_next : {P : ℕ → Type 0} (n kd m at next : ℕ) (out₀ out : List ℕ) → Room P n at out₀ → Written P kd m at next out₀ out → m < n → P m → next * 2 + 2 ≤ length out
room_next n kd m at next out₀ out r x h p =
    omega (arith, r.room m x.list h x.picks p, x.next_is, ap length x.cells ∙ length-sets out₀ (at * 2) (rows_of kd x.list))

pub written_size : {P : ℕ → Type 0} {kd n at next : ℕ} {out₀ out : List ℕ} → Written P kd n at next out₀ out → length out ≡ length out₀
written_size {P} {kd} {n} {at} {next} {out₀} x = ap length x.cells ∙ length-sets out₀ (at * 2) (rows_of kd x.list)

-- ---- both lists

pub both_cells : (n : ℕ) (lr lt out1 out2 : List ℕ) (at : ℕ) → at ≡ length lr → (length lr + length lt) * 2 ≤ n
    → out1 ≡ sets (replicate n 0) 0 (rows_of 1 lr) → out2 ≡ sets out1 (at * 2) (rows_of 2 lt)
    → out2 ≡ (rows_of 1 lr ++ rows_of 2 lt) ++ replicate (n - (length lr + length lt) * 2) 0
both_cells n lr lt out1 out2 at a h e f =
    let s : at * 2 ≡ 0 + length (rows_of 1 lr) = omega (arith, rows_length 1 lr) in
    let l : 0 + length (rows_of 1 lr ++ rows_of 2 lt) ≡ (length lr + length lt) * 2 = omega (arith, length-append (rows_of 1 lr) (rows_of 2 lt), rows_length 1 lr, rows_length 2 lt) in
    f ∙ rw (e, s) (sym (sets_append (replicate n 0) (rows_of 1 lr) (rows_of 2 lt) 0))
    ∙ sets-eq (rows_of 1 lr ++ rows_of 2 lt) (replicate n 0) 0 (omega (arith, length-replicate {A = ℕ} n 0))
    ∙ rw (l, drop_zeros ((length lr + length lt) * 2) n)

-- ---- what a picked list is, said by members and by order

-- r stands in the list exactly where r is below n and P holds of it
pub picks_has : {P : ℕ → Type 0} {n : ℕ} {l : List ℕ} → Picks P n l → (r : ℕ) → r < n → P r → Memᴰ r l
picks_has none r h p = absurd (omega arith)
picks_has (take {n = n} {l = l} q a) r h p =
    elim (ℕ_discrete r n) [
      | yes e ↦ Memᴰ.append_right l (Memᴰ.head e)
      | no e ↦ Memᴰ.append_left (n ∷ []) (picks_has q r (omega arith) p)
    ]
picks_has (skip {n = n} q a) r h p =
    elim (ℕ_discrete r n) [
      | yes e ↦ absurd (a (rw e at p))
      | no e ↦ picks_has q r (omega arith) p
    ]

pub picks_is : {P : ℕ → Type 0} {n : ℕ} {l : List ℕ} → Picks P n l → (r : ℕ) → Memᴰ r l → (r < n) × P r
picks_is none r m = absurd (Memᴰ.not-nil m)
picks_is {P} (take {n = n} {l = l} q a) r m =
    ⊎_elim
    (λ i. let k = picks_is q r i in (omega (arith, k.0), k.1))
    (λ i. let e = Memᴰ.eq_of_singleton i in (omega arith, rw e a))
    (Memᴰ.append_cases l m)
picks_is (skip q a) r m = let k = picks_is q r m in (omega (arith, k.0), k.1)

picks_below : {P : ℕ → Type 0} {n : ℕ} {l : List ℕ} → Picks P n l → (i : ℕ) → i < length l → get_or l i 0 < n
picks_below none i h = absurd (omega arith)
picks_below (take {n = n} {l = l} q a) i h =
    elim (dec_lt i (length l)) [
      | yes d ↦ rw (get_or-append l (n ∷ []) 0 i d) (omega (arith, picks_below q i d))
      | no d ↦
          let e : i ≡ length l = omega (arith, length-append l (n ∷ [])) in
          rw (e, get_or-append_seam l n [] 0) (omega arith)
    ]
picks_below (skip q a) i h = omega (arith, picks_below q i h)

-- the list rises, so that each stands once
pub picks_rise : {P : ℕ → Type 0} {n : ℕ} {l : List ℕ} → Picks P n l → (i j : ℕ) → i < j → j < length l → get_or l i 0 < get_or l j 0
picks_rise none i j h k = absurd (omega arith)
picks_rise (take {n = n} {l = l} q a) i j h k =
    let s = length-append l (n ∷ []) in
    elim (dec_lt j (length l)) [
      | yes d ↦ rw (get_or-append l (n ∷ []) 0 i (omega arith), get_or-append l (n ∷ []) 0 j d) (picks_rise q i j h d)
      | no d ↦
          let e : j ≡ length l = omega arith in
          rw (get_or-append l (n ∷ []) 0 i (omega arith), e, get_or-append_seam l n [] 0) (picks_below q i (omega arith))
    ]
picks_rise (skip q a) i j h k = picks_rise q i j h k
