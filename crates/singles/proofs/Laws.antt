-- Cells stored one behind the other, as far as there is room; the singles as cells, and back. Assumes nothing.
use Rattle.std.specs.Prelude.{Option, Some, None}
use Prim.Native.Nat.{ℕ, zero, suc, ◌+◌, ◌*◌, ◌≤◌, ◌<◌}
use mathlib.Core.Path.{◌≡◌, refl, sym, ap, ◌∙◌}
use mathlib.Core.List.{List, [], ◌∷◌, ◌++◌, append_assoc}
use native.Mathlib.Omega.{arith}
use native.Mathlib.Nat.{div-add-mod'}
use native.Mathlib.Numerals.{add-one}
use borrow.Author.Tests.{eq-eqb, ne_eqb}
use native.Mathlib.Decide.{dec_lt}
use lib.ListN.{length, get_or, set, take, drop, replicate, length-set}
use lib.Seq.{set_out, take_all, length-take-le}
use borrow.Rule.Slice.PartMut.{put_mid}
use Rattle.std.proofs.lemmas.List.{drop-drop}
use Rattle.tables.specs.Table.{put}
use Rattle.tables.proofs.Rows.{put_eq}
use Rattle.grammar.specs.declared.Singles.{Singles}
use Rattle.grammar.specs.Numbers.{part_numbers, param_numbers}
use Rattle.singles.specs.Singles.{expect_cells, singles_cells, part_from, expect_from, param_from, singles_of}

-- past the end nothing is stored
pub put_past : (vs t : List ℕ) (at : ℕ) → length t ≤ at → put t at vs ≡ t
put_past [] t at h = refl
put_past (v ∷ vs) t at h = rw (set_out t at v h) (put_past vs t (at + 1) (omega arith))

-- where the room ends with the first i values, the others are not stored
pub put_front : (vs t : List ℕ) (at i : ℕ) → length t ≤ at + i → put t at (take i vs) ≡ put t at vs
put_front [] t at zero h = refl
put_front [] t at (suc i) h = refl
put_front (v ∷ vs) t at zero h = sym (put_past (v ∷ vs) t at (omega arith))
put_front (v ∷ vs) t at (suc i) h = put_front vs (set t at v) (at + 1) i (let e = length-set t at v in omega arith)

-- the first i values all at once, where i is their number or the room ends with them
pub put_room : (vs t : List ℕ) (at i k : ℕ) → at + i ≤ length t → i ≤ length vs → (i < length vs → length t ≤ at + i) → k ≡ i → put_mid at k t (take i vs) ≡ put t at vs
put_room vs t at i k h l m e =
    let n : length (take i vs) ≡ i = length-take-le i vs l in
    let p = sym (put_eq (take i vs) t at (rw n h)) in
    let q : put_mid at k t (take i vs) ≡ put t at (take i vs) = rw (e, drop-drop) (sym (append_assoc (take at t) (take i vs) (drop (at + i) t)) ∙ (rw n at p)) in
    q ∙ elim (dec_lt i (length vs)) [ yes x ↦ put_front vs t at i (m x) | no x ↦ ap (put t at) (take_all i vs (omega arith)) ]

-- cells before the first that is stored stay
pub put_cons : (x : ℕ) (vs t : List ℕ) (at : ℕ) → put (x ∷ t) (at + 1) vs ≡ x ∷ put t at vs
put_cons x [] t at = refl
put_cons x (v ∷ vs) t at = rw (add-one at) (rw (← add-one at) (put_cons x vs (set t at v) (at + 1)))

-- values for the first cells, and the others stay
pub put_over : (t u vs : List ℕ) → length vs ≡ length t → put (t ++ u) 0 vs ≡ vs ++ u
put_over [] u [] h = refl
put_over [] u (v ∷ vs) h = absurd (omega arith)
put_over (x ∷ t) u [] h = absurd (omega arith)
put_over (x ∷ t) u (v ∷ vs) h = put_cons v vs (t ++ u) 0 ∙ ap (λ (l : List ℕ). v ∷ l) (put_over t u vs (omega arith))

-- the cells of a list by their numbers
abbrev pub three : List ℕ → List ℕ
three l = get_or l 0 0 ∷ get_or l 1 0 ∷ get_or l 2 0 ∷ []

abbrev pub five : List ℕ → List ℕ
five l = get_or l 0 0 ∷ get_or l 1 0 ∷ get_or l 2 0 ∷ get_or l 3 0 ∷ get_or l 4 0 ∷ []

pub part_three : (p : Option (ℕ × ℕ)) → part_numbers p ≡ three (part_numbers p)
part_three None = refl
part_three (Some (a, b)) = refl

pub expect_five : (e : Option (ℕ × ℕ × ℕ)) → expect_cells e ≡ five (expect_cells e)
expect_five None = refl
expect_five (Some (v, a, b)) = refl

pub param_five : (p : Option (ℕ × ℕ × ℕ × ℕ)) → param_numbers p ≡ five (param_numbers p)
param_five None = refl
param_five (Some (a, b, c, d)) = refl

-- six lists stored one behind the other
six : (a e r p n q : List ℕ) → a ≡ three a → e ≡ five e → r ≡ five r → p ≡ five p → n ≡ three n → q ≡ three q
    → put (put (put (put (put (put (replicate 24 0) 0 a) 3 e) 8 r) 13 p) 18 n) 21 q ≡ a ++ e ++ r ++ p ++ n ++ q
six a e r p n q ha he hr hp hn hq = rw (ha, he, hr, hp, hn, hq)

-- the singles, stored one behind the other
module _ (g : Singles) (a e r p n q m1 m2 m3 m4 m5 m6 : List ℕ) where
  pub singles_put : a ≡ part_numbers g.start → e ≡ expect_cells g.expect → r ≡ expect_cells g.expect_rr → p ≡ param_numbers g.param → n ≡ part_numbers g.generics → q ≡ part_numbers g.programs
      → m1 ≡ put (replicate 24 0) 0 a → m2 ≡ put m1 3 e → m3 ≡ put m2 8 r → m4 ≡ put m3 13 p → m5 ≡ put m4 18 n → m6 ≡ put m5 21 q → m6 ≡ singles_cells g
  singles_put ha he hr hp hn hq k1 k2 k3 k4 k5 k6 =
      rw (k6, k5, k4, k3, k2, k1, ha, he, hr, hp, hn, hq) (six _ _ _ _ _ _ (part_three g.start) (expect_five g.expect) (expect_five g.expect_rr) (param_five g.param) (part_three g.generics) (part_three g.programs))

six_length : (a e r p n q : List ℕ) → a ≡ three a → e ≡ five e → r ≡ five r → p ≡ five p → n ≡ three n → q ≡ three q → length (a ++ e ++ r ++ p ++ n ++ q) ≡ 24
six_length a e r p n q ha he hr hp hn hq = rw (ha, he, hr, hp, hn, hq)

pub singles_length : (g : Singles) → length (singles_cells g) ≡ 24
singles_length g =
    six_length _ _ _ _ _ _ (part_three g.start) (expect_five g.expect) (expect_five g.expect_rr) (param_five g.param) (part_three g.generics) (part_three g.programs)

pub put_behind : (pre t vs : List ℕ) → put (pre ++ t) (length pre) vs ≡ pre ++ put t 0 vs
put_behind [] t vs = refl
put_behind (x ∷ pre) t vs = rw (← add-one (length pre)) (put_cons x vs (pre ++ t) (length pre) ∙ ap (λ (l : List ℕ). x ∷ l) (put_behind pre t vs))

-- a single by its flag
module _ (f a b : ℕ) where
  pub part_absent : f ≡ 0 → None ≡ part_from f a b
  unfolding part_from
  part_absent h = rw (part_from, eq-eqb f 0 h)

  pub part_given : (f ≡ 0 → ⊥) → Some (a, b) ≡ part_from f a b
  unfolding part_from
  part_given h = rw (part_from, ne_eqb f 0 h)

module _ (f low high a b : ℕ) where
  pub expect_absent : f ≡ 0 → None ≡ expect_from f low high a b
  unfolding expect_from
  expect_absent h = rw (expect_from, eq-eqb f 0 h)

  pub expect_given_lem : (f ≡ 0 → ⊥) → Some (high * 4294967296 + low, a, b) ≡ expect_from f low high a b
  unfolding expect_from
  expect_given_lem h = rw (expect_from, ne_eqb f 0 h)

module _ (f a b c d : ℕ) where
  pub param_absent : f ≡ 0 → None ≡ param_from f a b c d
  unfolding param_from
  param_absent h = rw (param_from, eq-eqb f 0 h)

  pub param_given_lem : (f ≡ 0 → ⊥) → Some (a, b, c, d) ≡ param_from f a b c d
  unfolding param_from
  param_given_lem h = rw (param_from, ne_eqb f 0 h)

-- all singles
module _ (m : List ℕ) (s n r : Option (ℕ × ℕ)) (e f : Option (ℕ × ℕ × ℕ)) (p : Option (ℕ × ℕ × ℕ × ℕ)) where
  pub singles_are : s ≡ (singles_of m).start → e ≡ (singles_of m).expect → f ≡ (singles_of m).expect_rr → p ≡ (singles_of m).param → n ≡ (singles_of m).generics → r ≡ (singles_of m).programs
      → ◌≡◌ {A = Singles} (record { start = s; expect = e; expect_rr = f; param = p; generics = n; programs = r }) (singles_of m)
  singles_are hs he hf hp hn hr = rw (hs, he, hf, hp, hn, hr)

-- each single by itself
part_back : (p : Option (ℕ × ℕ)) → let l = part_numbers p in part_from (get_or l 0 0) (get_or l 1 0) (get_or l 2 0) ≡ p
unfolding part_from
part_back None = refl
part_back (Some (a, b)) = refl

expect_back : (e : Option (ℕ × ℕ × ℕ)) → let l = expect_cells e in expect_from (get_or l 0 0) (get_or l 1 0) (get_or l 2 0) (get_or l 3 0) (get_or l 4 0) ≡ e
unfolding expect_from
expect_back None = refl
expect_back (Some (v, a, b)) = ap (λ (x : ℕ). Some (x, a, b)) (div-add-mod' v 4294967296)

param_back : (p : Option (ℕ × ℕ × ℕ × ℕ)) → let l = param_numbers p in param_from (get_or l 0 0) (get_or l 1 0) (get_or l 2 0) (get_or l 3 0) (get_or l 4 0) ≡ p
unfolding param_from
param_back None = refl
param_back (Some (a, b, c, d)) = refl

-- behind fourteen cells, and whatever stands behind them, the singles' cells are the singles
abbrev pub fourteen : List ℕ → List ℕ
fourteen l = get_or l 0 0 ∷ get_or l 1 0 ∷ get_or l 2 0 ∷ get_or l 3 0 ∷ get_or l 4 0 ∷ get_or l 5 0 ∷ get_or l 6 0 ∷ get_or l 7 0 ∷ get_or l 8 0 ∷ get_or l 9 0 ∷ get_or l 10 0 ∷ get_or l 11 0 ∷ get_or l 12 0 ∷ get_or l 13 0 ∷ []

looked : (f a e r p n q z : List ℕ) → f ≡ fourteen f → a ≡ three a → e ≡ five e → r ≡ five r → p ≡ five p → n ≡ three n → q ≡ three q → (g : Singles)
    → part_from (get_or a 0 0) (get_or a 1 0) (get_or a 2 0) ≡ g.start
    → expect_from (get_or e 0 0) (get_or e 1 0) (get_or e 2 0) (get_or e 3 0) (get_or e 4 0) ≡ g.expect
    → expect_from (get_or r 0 0) (get_or r 1 0) (get_or r 2 0) (get_or r 3 0) (get_or r 4 0) ≡ g.expect_rr
    → param_from (get_or p 0 0) (get_or p 1 0) (get_or p 2 0) (get_or p 3 0) (get_or p 4 0) ≡ g.param
    → part_from (get_or n 0 0) (get_or n 1 0) (get_or n 2 0) ≡ g.generics
    → part_from (get_or q 0 0) (get_or q 1 0) (get_or q 2 0) ≡ g.programs
    → singles_of ((f ++ (a ++ e ++ r ++ p ++ n ++ q)) ++ z) ≡ g
looked f a e r p n q z hf ha he hr hp hn hq g ks ke kr kp kn kq = rw (hf, ha, he, hr, hp, hn, hq) (rw (ks, ke, kr, kp, kn, kq))

pub cells_back : (f z : List ℕ) (g : Singles) → f ≡ fourteen f → singles_of ((f ++ singles_cells g) ++ z) ≡ g
cells_back f z g h =
    looked f (part_numbers g.start) (expect_cells g.expect) (expect_cells g.expect_rr) (param_numbers g.param) (part_numbers g.generics) (part_numbers g.programs) z h (part_three g.start) (expect_five g.expect) (expect_five g.expect_rr) (param_five g.param) (part_three g.generics) (part_three g.programs) g (part_back g.start) (expect_back g.expect) (expect_back g.expect_rr) (param_back g.param) (part_back g.generics) (part_back g.programs)
