-- What the walk's proofs cite: faults noted part by part and number by number, how many rows they take, and what the walk over zeros comes to. Assumes nothing.
use Rattle.std.specs.Prelude.{Result, Ok, Err}
use Rattle.std.specs.Result.{IsErrAnd}
use Rattle.std.proofs.lemmas.Result.{err_from_is_err_and}
use Prim.Native.Nat.{ℕ, zero, suc, ◌+◌, ◌*◌, ◌-◌, ◌/◌, ◌≤◌, ◌<◌}
use mathlib.Core.Path.{◌≡◌, refl, sym, ap, ◌∙◌}
use mathlib.Core.List.{List, [], ◌∷◌, ◌++◌, append-nil}
use mathlib.Core.Bool.{Bool, true, false}
use native.Mathlib.Omega.{arith}
use native.Mathlib.Numerals.{add-one}
use native.Mathlib.Nat.{add-zero}
use native.Mathlib.Decide.{ℕ_discrete, dec_lt}
use lib.Dec.{eqb}
use borrow.Author.Tests.{lt-ltb, le-ltb, lt-leb, le-leb}
use lib.ListN.{length, get_or, set, length-append, length-replicate}
use Rattle.tables.specs.Table.{put, zeroed}
use Rattle.tables.specs.Layout.{fault_width, rule_row}
use Rattle.productions.specs.Cells.{cell_of}
use Rattle.tables.proofs.Laws.{put_length}
use Rattle.tables.proofs.Rows.{put_append, put_zeros}
use Rattle.links.specs.Links.{is_of_rule, next_of_rule}
use Rattle.links.proofs.Laws.{next_cases}
use Rattle.validation.specs.Faults.{fault_cells, first, upto, of_rule}
use Rattle.validation.specs.Walk.{failing, Walked, fits, noted, fault_rows, AllFaults, all_faults}
use Rattle.validation.specs.declared.Flaw.{Flaw}
use Rattle.validation.specs.declared.Flaw.TheVariants.{NoStartRule, InvalidStartRule, UnknownRuleRef, UnknownTokenRef, UnknownPrecToken, NoPrecForToken, UnknownEppKey}
use Rattle.validation.specs.declared.ValidityError.{ValidityError}
use Rattle.validation.specs.declared.ValidityError.TheVariants.{Invalid}
use Rattle.validation.specs.declared.FaultsError.TheVariants.{FaultsNoRoom}
use Rattle.validation.proofs.Laws.{of_other}

abbrev pub walked : Result ℕ Flaw → List ℕ → Walked
walked w t = record { answer = w; cells = t }

-- what a `?` returns is the error itself
pub err_is : {A : Type 0} (w : Result A Flaw) (f : Flaw) → IsErrAnd w (λ x. x ≡ f) → w ≡ Err f
err_is w f h =
    let x = err_from_is_err_and w h in
    x.1 ∙ ap Err x.2

-- ---- one fault

pub fits_yes : (at : ℕ) (t : List ℕ) → at < length t / fault_width → fits at t ≡ true
unfolding fits
fits_yes at t h = lt-ltb _ _ h

pub fits_no : (at : ℕ) (t : List ℕ) → length t / fault_width ≤ at → fits at t ≡ false
unfolding fits
fits_no at t h = le-ltb _ _ h

pub note_met : (at : ℕ) (t : List ℕ) (v : Result (Unit {0}) Flaw) → v ≡ Ok tt → walked (Ok at) t ≡ noted (failing v) at t
unfolding noted
note_met at t v k = rw k

module _ (f : Flaw) (at : ℕ) (t : List ℕ) (v : Result (Unit {0}) Flaw) (k : v ≡ Err f) where
  pub note_full : length t / fault_width ≤ at → walked (Err f) t ≡ noted (failing v) at t
  unfolding noted
  note_full h = rw (k, noted, fits_no at t h)

  -- its three cells, stored one by one
  pub note_row : (row : List ℕ) → row ≡ fault_cells f → at < length t / fault_width
      → walked (Ok (at + 1)) (set (set (set t (at * fault_width) (get_or row 0 0)) (at * fault_width + 1) (get_or row 1 0)) (at * fault_width + 2) (get_or row 2 0)) ≡ noted (failing v) at t
  unfolding noted
  note_row row e h = rw (k, noted, fits_yes at t h, e) (ap (walked (Ok (at + 1))) (three f))
    where
      two : at * fault_width + 2 ≡ at * fault_width + 1 + 1
      two = omega arith

      three : (f : Flaw) → set (set (set t (at * fault_width) (get_or (fault_cells f) 0 0)) (at * fault_width + 1) (get_or (fault_cells f) 1 0)) (at * fault_width + 2) (get_or (fault_cells f) 2 0) ≡ put t (at * fault_width) (fault_cells f)
      three NoStartRule = rw two
      three (InvalidStartRule a b) = rw two
      three (UnknownRuleRef a b) = rw two
      three (UnknownTokenRef a b) = rw two
      three (UnknownPrecToken a b) = rw two
      three (NoPrecForToken a b) = rw two
      three (UnknownEppKey a b) = rw two

-- ---- one part of the tests behind another

abbrev onward : Result ℕ Flaw → List ℕ → List Flaw → Walked
onward (Ok n) t gs = noted gs n t
onward (Err f) t gs = walked (Err f) t

noted_append : (fs gs : List Flaw) (at : ℕ) (t : List ℕ) → noted (fs ++ gs) at t ≡ onward (noted fs at t).answer (noted fs at t).cells gs
unfolding noted
noted_append [] gs at t = refl
noted_append (f ∷ fs) gs at t = go (fits at t) refl (noted_append fs gs (at + 1) (put t (at * fault_width) (fault_cells f)))
  where
    go : (b : Bool) → fits at t ≡ b → noted (fs ++ gs) (at + 1) (put t (at * fault_width) (fault_cells f)) ≡ onward (noted fs (at + 1) (put t (at * fault_width) (fault_cells f))).answer (noted fs (at + 1) (put t (at * fault_width) (fault_cells f))).cells gs → noted (f ∷ (fs ++ gs)) at t ≡ onward (noted (f ∷ fs) at t).answer (noted (f ∷ fs) at t).cells gs
    go true e k = rw (noted, e) k
    go false e k = rw (noted, e)

module _ (fs gs hs : List Flaw) (x : fs ++ gs ≡ hs) (at : ℕ) (t₀ t : List ℕ) (w : Result ℕ Flaw) (e : walked w t ≡ noted fs at t₀) where
  both : noted hs at t₀ ≡ onward w t gs
  both = rw (← x, noted_append fs gs at t₀, ← e)

  pub part_on : (n : ℕ) → w ≡ Ok n → (u : List ℕ) (v : Result ℕ Flaw) → walked v u ≡ noted gs n t → walked v u ≡ noted hs at t₀
  part_on n h u v k = k ∙ sym (rw h at both)

  pub part_over : (f : Flaw) → w ≡ Err f → walked (Err f) t ≡ noted hs at t₀
  part_over f h = sym (rw h at both)

-- the table keeps its size
pub noted_length : (fs : List Flaw) (at : ℕ) (t : List ℕ) → length (noted fs at t).cells ≡ length t
unfolding noted
noted_length [] at t = refl
noted_length (f ∷ fs) at t = go (fits at t) refl (noted_length fs (at + 1) (put t (at * fault_width) (fault_cells f)) ∙ put_length (fault_cells f) t (at * fault_width))
  where
    go : (b : Bool) → fits at t ≡ b → length (noted fs (at + 1) (put t (at * fault_width) (fault_cells f))).cells ≡ length t → length (noted (f ∷ fs) at t).cells ≡ length t
    go true e k = rw (noted, e) k
    go false e k = rw (noted, e)

pub walked_length : (fs : List Flaw) (at : ℕ) (t₀ t : List ℕ) (w : Result ℕ Flaw) → walked w t ≡ noted fs at t₀ → length t ≡ length t₀
walked_length fs at t₀ t w e = ap (λ (x : Walked). length x.cells) e ∙ noted_length fs at t₀

-- no faults, by another name
pub note_none : (fs : List Flaw) (at : ℕ) (t : List ℕ) → [] ≡ fs → walked (Ok at) t ≡ noted fs at t
unfolding noted
note_none fs at t x = rw (← x)

-- ---- number by number

pub walk_start : (f : ℕ → List Flaw) (at : ℕ) (t : List ℕ) → walked (Ok at) t ≡ noted (upto 0 f) at t
unfolding upto noted
walk_start f at t = refl

module _ (f : ℕ → List Flaw) (at : ℕ) (t₀ : List ℕ) (i next : ℕ) (t : List ℕ) (inv : walked (Ok next) t ≡ noted (upto i f) at t₀) where
  pub walk_all : (n : ℕ) → i ≤ n → n ≤ i → walked (Ok next) t ≡ noted (upto n f) at t₀
  walk_all n h k =
      let e : n ≡ i = omega arith in
      rw e inv

  module _ (fs : List Flaw) (d : fs ≡ f i) (u : List ℕ) (w : Result ℕ Flaw) (e : walked w u ≡ noted fs next t) where
    step : walked w u ≡ noted (upto (suc i) f) at t₀
    unfolding upto
    step = part_on (upto i f) (f i) _ refl at t₀ t (Ok next) inv next refl u w (rw d at e)

    pub walk_on : (m : ℕ) → w ≡ Ok m → walked (Ok m) u ≡ noted (upto (i + 1) f) at t₀
    walk_on m h = rw (add-one i, ← h) step

    pub walk_over : (n : ℕ) (x : Flaw) → i < n → w ≡ Err x → walked (Err x) u ≡ noted (upto n f) at t₀
    unfolding upto
    walk_over n x h k = go n h
      where
        go : (n : ℕ) → i < n → walked (Err x) u ≡ noted (upto n f) at t₀
        go zero h = absurd (omega arith)
        go (suc n) h =
            elim (ℕ_discrete i n) [
              | yes p ↦ rw (← p, ← k) step
              | no p ↦ part_over (upto n f) (f n) _ refl at t₀ u (Err x) (go n (omega arith)) x refl
            ]

-- numbers without faults are passed over
upto_skip : (f : ℕ → List Flaw) (i j : ℕ) → i ≤ j → ((r : ℕ) → i ≤ r → r < j → [] ≡ f r) → upto i f ≡ upto j f
unfolding upto
upto_skip f i zero h none = let e : i ≡ 0 = omega arith in rw e
upto_skip f i (suc j) h none =
    elim (ℕ_discrete i (suc j)) [
      | yes e ↦ rw e
      | no e ↦ upto_skip f i j (omega arith) (λ r a b. none r a (omega arith)) ∙ rw (← none j (omega arith) (omega arith), append-nil (upto j f))
    ]

-- from one production of a rule to the next
pub walk_next : (t8 : List ℕ) (k n from r : ℕ) → r ≡ next_of_rule t8 from n k → from ≤ n → (f : ℕ → List Flaw) (at : ℕ) (t₀ : List ℕ) (w : Result ℕ Flaw) (t : List ℕ)
    → walked w t ≡ noted (upto from (λ i. of_rule (eqb (cell_of t8 i rule_row) k) (f i))) at t₀
    → (r ≤ n) × (r < n → is_of_rule t8 k r ≡ true) × (walked w t ≡ noted (upto r (λ i. of_rule (eqb (cell_of t8 i rule_row) k) (f i))) at t₀)
walk_next t8 k n from r e h f at t₀ w t inv =
    let x = next_cases t8 from n k h in
    let s = upto_skip (λ i. of_rule (eqb (cell_of t8 i rule_row) k) (f i)) from r (rw e x.0) (λ i a b. of_other t8 k i (f i) (x.2 i a (rw e at b))) in
    (rw e x.1, rw e x.3, rw (← s) inv)

-- the same of the numbers from a on
pub from_start : (g : ℕ → List Flaw) (at a : ℕ) (t : List ℕ) → walked (Ok at) t ≡ noted (upto (a - a) (λ i. g (a + i))) at t
from_start g at a t =
    let e : a - a ≡ 0 = omega arith in
    rw e (walk_start (λ i. g (a + i)) at t)

module _ (g : ℕ → List Flaw) (at : ℕ) (t₀ : List ℕ) (a r next : ℕ) (t : List ℕ) (h : a ≤ r) (inv : walked (Ok next) t ≡ noted (upto (r - a) (λ i. g (a + i))) at t₀) (fs : List Flaw) (d : fs ≡ g r) (u : List ℕ) (w : Result ℕ Flaw) (e : walked w u ≡ noted fs next t) where
  here : fs ≡ g (a + (r - a))
  here =
      let p : a + (r - a) ≡ r = omega arith in
      rw p d

  pub from_on : (m : ℕ) → w ≡ Ok m → walked (Ok m) u ≡ noted (upto (r + 1 - a) (λ i. g (a + i))) at t₀
  from_on m k =
      let q : r + 1 - a ≡ r - a + 1 = omega arith in
      rw q (walk_on (λ i. g (a + i)) at t₀ (r - a) next t inv fs here u w e m k)

  pub from_over : (b : ℕ) (x : Flaw) → r < b → w ≡ Err x → walked (Err x) u ≡ noted (upto (b - a) (λ i. g (a + i))) at t₀
  from_over b x l = walk_over (λ i. g (a + i)) at t₀ (r - a) next t inv fs here u w e (b - a) x (omega arith)

-- ---- the whole walk

-- over a table without a row: the first fault
abbrev found_by : Result ℕ Flaw → Result (Unit {0}) ValidityError
found_by (Ok n) = Ok tt
found_by (Err f) = Err (Invalid f)

first_found : (fs : List Flaw) (t : List ℕ) → length t < fault_width → found_by (noted fs 0 t).answer ≡ first fs
unfolding noted
first_found [] t h = refl
first_found (f ∷ fs) t h = rw (noted, fits_no 0 t (omega arith))

module _ (fs : List Flaw) (t u : List ℕ) (w : Result ℕ Flaw) (h : length t < fault_width) (e : walked w u ≡ noted fs 0 t) where
  found : found_by w ≡ first fs
  found = ap (λ (x : Walked). found_by x.answer) e ∙ first_found fs t h

  pub found_none : (n : ℕ) → w ≡ Ok n → Ok tt ≡ first fs
  found_none n k = rw k at found

  pub found_one : (f : Flaw) → w ≡ Err f → Err (Invalid f) ≡ first fs
  found_one f k = rw k at found

-- over zeros: all faults, or too many
cells_three : (f : Flaw) → length (fault_cells f) ≡ fault_width
cells_three NoStartRule = refl
cells_three (InvalidStartRule a b) = refl
cells_three (UnknownRuleRef a b) = refl
cells_three (UnknownTokenRef a b) = refl
cells_three (UnknownPrecToken a b) = refl
cells_three (NoPrecForToken a b) = refl
cells_three (UnknownEppKey a b) = refl

pub rows_length : (fs : List Flaw) → length (fault_rows fs) ≡ length fs * fault_width
rows_length [] = refl
rows_length (f ∷ fs) = omega (arith, length-append (fault_cells f) (fault_rows fs), cells_three f, rows_length fs)

noted_fits : (fs : List Flaw) (at : ℕ) (t : List ℕ) → (at + length fs) * fault_width ≤ length t → noted fs at t ≡ walked (Ok (at + length fs)) (put t (at * fault_width) (fault_rows fs))
unfolding noted
noted_fits [] at t h = rw (add-zero at)
noted_fits (f ∷ fs) at t h =
    let n : at + 1 + length fs ≡ at + suc (length fs) = omega arith in
    let a : (at + 1) * fault_width ≡ at * fault_width + length (fault_cells f) = omega (arith, cells_three f) in
    rw (noted, fits_yes at t (omega arith)) (noted_fits fs (at + 1) (put t (at * fault_width) (fault_cells f)) (omega (arith, put_length (fault_cells f) t (at * fault_width))) ∙ rw (n, a, ← put_append (fault_cells f) (fault_rows fs) t (at * fault_width)))

noted_crowded : (fs : List Flaw) (at : ℕ) (t : List ℕ) → at * fault_width ≤ length t → length t < (at + length fs) * fault_width → (f : Flaw) × ((noted fs at t).answer ≡ Err f)
unfolding noted
noted_crowded [] at t l h = absurd (omega arith)
noted_crowded (f ∷ fs) at t l h =
    elim (dec_lt at (length t / fault_width)) [
      | yes d ↦
          let s = put_length (fault_cells f) t (at * fault_width) in
          rw (noted, fits_yes at t d) (noted_crowded fs (at + 1) (put t (at * fault_width) (fault_cells f)) (omega (arith, s, d)) (omega (arith, s)))
      | no d ↦ rw (noted, fits_no at t (omega (arith, d))) (f, refl)
    ]

abbrev listed_by : Result ℕ Flaw → List ℕ → List ℕ → AllFaults
listed_by (Ok n) u t = record { answer = Ok n; cells = u }
listed_by (Err f) u t = record { answer = Err FaultsNoRoom; cells = zeroed t }

listed_is : (fs : List Flaw) (t : List ℕ) → listed_by (noted fs 0 (zeroed t)).answer (noted fs 0 (zeroed t)).cells t ≡ all_faults fs t
listed_is fs t =
    let z = length-replicate {A = ℕ} (length t) 0 in
    elim (dec_lt (length t) (length fs * fault_width)) [
      | yes d ↦
          let x = noted_crowded fs 0 (zeroed t) (omega arith) (omega (arith, z, d)) in
          rw (x.1, lt-leb _ _ d)
      | no d ↦
          let n : 0 + length fs ≡ length fs = omega arith in
          let m : 0 * fault_width ≡ 0 = omega arith in
          rw (noted_fits fs 0 (zeroed t) (omega (arith, z, d)), n, m, put_zeros (fault_rows fs) (length t) (omega (arith, rows_length fs, d)), rows_length fs, le-leb (length fs * fault_width) (length t) (omega (arith, d)))
    ]

module _ (fs : List Flaw) (t z u : List ℕ) (w : Result ℕ Flaw) (h : z ≡ zeroed t) (e : walked w u ≡ noted fs 0 z) where
  listed : listed_by w u t ≡ all_faults fs t
  listed = ap (λ (x : Walked). listed_by x.answer x.cells t) (rw h at e) ∙ listed_is fs t

  pub listed_all : (n : ℕ) → w ≡ Ok n → ◌≡◌ {A = AllFaults} (record { answer = Ok n; cells = u }) (all_faults fs t)
  listed_all n k = rw k at listed

  -- zeros again, as many as there were
  pub listed_crowded : (f : Flaw) → w ≡ Err f → (v : List ℕ) → v ≡ zeroed u → ◌≡◌ {A = AllFaults} (record { answer = Err FaultsNoRoom; cells = v }) (all_faults fs t)
  listed_crowded f k v x =
      let n : length u ≡ length t = walked_length fs 0 z u w e ∙ ap length h ∙ length-replicate {A = ℕ} (length t) 0 in
      rw (x, n) (rw k at listed)
