-- The head as numbers, and back: which numbers are a head. Assumes nothing.
use Rattle.std.specs.Prelude.{Option, Some, None}
use Prim.Native.Nat.{ℕ, zero, suc, ◌+◌, ◌*◌, ◌/◌, ◌%◌, ◌≤◌, ◌<◌}
use mathlib.Core.Path.{◌≡◌, refl, sym, ap, ◌∙◌}
use mathlib.Core.List.{List, [], ◌∷◌, ◌++◌}
use mathlib.Core.Bool.{Bool, true, ◌&&◌}
use mathlib.Core.Logic.Iff
use mathlib.Core.Logic.{◌↔◌, ◌⊎◌, inl, inr, ⊎_elim}
use native.Mathlib.Omega.{arith}
use native.Mathlib.Nat.{add-zero}
use lib.ListN.{length, get_or, drop, length-append, drop_of_length-le}
use lib.Seq.{drop-cons, get_or_at}
use Rattle.tables.proofs.Tells.{both_iff, either_iff, le_iff, eq_iff}
use Rattle.grammar.specs.Numbers.{part_numbers, param_numbers}
use Rattle.singles.specs.Singles.{expect_cells, singles_cells, counts_cells, posix_cells, part_from, expect_from, param_from}
use Rattle.singles.proofs.Laws.{three, five, fourteen, part_three, expect_five, param_five, singles_length, cells_back}
use Rattle.catalogue.specs.declared.Head.{Head}
use Rattle.catalogue.specs.Catalogue.{Fit32, head_cells, head_of, zero_cells, lead_test, head_test}

-- a list by its cells from cell k on
abbrev cells_from : List ℕ → ℕ → ℕ → List ℕ
cells_from l k zero = []
cells_from l k (suc n) = get_or l k 0 ∷ cells_from l (suc k) n

from_drop : (l : List ℕ) (k n : ℕ) → k + n ≡ length l → cells_from l k n ≡ drop k l
from_drop l k zero e = sym (drop_of_length-le l {i = k} (omega arith))
from_drop l k (suc n) e = rw (from_drop l (suc k) n (omega arith)) (sym (drop-cons l k 0 (omega arith)))

by_cells : (l : List ℕ) (n : ℕ) → length l ≡ n → cells_from l 0 n ≡ l
by_cells l n e = from_drop l 0 n (omega arith)

-- ---- written, and read back

-- what stands before the singles
abbrev count_cells : Head → List ℕ
count_cells h = counts_cells h.counts ++ posix_cells h.posix ++ (h.length ∷ [])

pub head_length : (h : Head) → length (head_cells h) ≡ 39
unfolding head_cells
head_length h = rw (length-append (count_cells h ++ singles_cells h.singles) (h.kind ∷ []), length-append (count_cells h) (singles_cells h.singles), singles_length h.singles)

pub head_back : (h : Head) → length h.counts.n ≡ 10 → length h.posix.n ≡ 3 → head_of (head_cells h) ≡ h
unfolding head_cells
head_back h ten few =
    let l : length (count_cells h ++ singles_cells h.singles) ≡ 38 = rw (length-append (count_cells h) (singles_cells h.singles), singles_length h.singles) in
    let k : get_or ((count_cells h ++ singles_cells h.singles) ++ (h.kind ∷ [])) 38 0 ≡ h.kind = get_or_at (count_cells h ++ singles_cells h.singles) h.kind [] 0 38 l in
    rw (k, cells_back (count_cells h) (h.kind ∷ []) h.singles refl, by_cells h.counts.n 10 ten, by_cells h.posix.n 3 few)

-- ---- leads

zero_cells_lem : (m : List ℕ) (k n : ℕ) → zero_cells m k n ≡ true → (j : ℕ) → j < n → get_or m (k + j) 0 ≡ 0
unfolding zero_cells
zero_cells_lem m k zero e j h = absurd (omega arith)
zero_cells_lem m k (suc n) e zero h = rw (add-zero k) ((both_iff (eq_iff (get_or m k 0) 0) Iff.rfl).0 e).0
zero_cells_lem m k (suc n) e (suc j) h =
    let z : k + 1 + j ≡ k + suc j = omega arith in
    rw z at (zero_cells_lem m (k + 1) n ((both_iff (eq_iff (get_or m k 0) 0) Iff.rfl).0 e).1 j (omega arith))

-- a lead that passes is 1, or 0 with zeros behind it
lead_cases : (m : List ℕ) (k n : ℕ) → lead_test m k n ≡ true → (get_or m k 0 ≡ 1) ⊎ ((j : ℕ) → j < suc n → get_or m (k + j) 0 ≡ 0)
unfolding lead_test
lead_cases m k n e = ⊎_elim inl (λ z. inr (zero_cells_lem m k (suc n) z)) ((either_iff (eq_iff (get_or m k 0) 1) Iff.rfl).0 e)

-- cells with such a lead are a single's
part_again : (f a b : ℕ) → lead_test (f ∷ a ∷ b ∷ []) 0 2 ≡ true → part_numbers (part_from f a b) ≡ f ∷ a ∷ b ∷ []
unfolding part_from
part_again f a b e = ⊎_elim (λ h. rw h) (λ h. rw (h 0 (omega arith), h 1 (omega arith), h 2 (omega arith))) (lead_cases (f ∷ a ∷ b ∷ []) 0 2 e)

expect_again : (f low high a b : ℕ) → low < 4294967296 → lead_test (f ∷ low ∷ high ∷ a ∷ b ∷ []) 0 4 ≡ true → expect_cells (expect_from f low high a b) ≡ f ∷ low ∷ high ∷ a ∷ b ∷ []
unfolding expect_from
expect_again f low high a b l e =
    let v = high * 4294967296 + low in
    let q : v % 4294967296 ≡ low = omega arith in
    let r : v / 4294967296 ≡ high = omega arith in
    ⊎_elim (λ h. rw h (rw (q, r))) (λ h. rw (h 0 (omega arith), h 1 (omega arith), h 2 (omega arith), h 3 (omega arith), h 4 (omega arith))) (lead_cases (f ∷ low ∷ high ∷ a ∷ b ∷ []) 0 4 e)

param_again : (f a b c d : ℕ) → lead_test (f ∷ a ∷ b ∷ c ∷ d ∷ []) 0 4 ≡ true → param_numbers (param_from f a b c d) ≡ f ∷ a ∷ b ∷ c ∷ d ∷ []
unfolding param_from
param_again f a b c d e =
    ⊎_elim (λ h. rw h) (λ h. rw (h 0 (omega arith), h 1 (omega arith), h 2 (omega arith), h 3 (omega arith), h 4 (omega arith))) (lead_cases (f ∷ a ∷ b ∷ c ∷ d ∷ []) 0 4 e)

-- and a single's cells have such a lead
part_lead : (p : Option (ℕ × ℕ)) → lead_test (part_numbers p) 0 2 ≡ true
unfolding lead_test zero_cells
part_lead None = refl
part_lead (Some (a, b)) = refl

expect_lead : (e : Option (ℕ × ℕ × ℕ)) → lead_test (expect_cells e) 0 4 ≡ true
unfolding lead_test zero_cells
expect_lead None = refl
expect_lead (Some (v, a, b)) = refl

param_lead : (p : Option (ℕ × ℕ × ℕ × ℕ)) → lead_test (param_numbers p) 0 4 ≡ true
unfolding lead_test zero_cells
param_lead None = refl
param_lead (Some (a, b, c, d)) = refl

-- the six leads
abbrev leads : List ℕ → Bool
leads m = lead_test m 14 2 && (lead_test m 17 4 && (lead_test m 22 4 && (lead_test m 27 4 && (lead_test m 32 2 && lead_test m 35 2))))

-- each seen in its own single
six_leads : (f a e r p n q z : List ℕ) → f ≡ fourteen f → a ≡ three a → e ≡ five e → r ≡ five r → p ≡ five p → n ≡ three n → q ≡ three q
    → leads ((f ++ (a ++ e ++ r ++ p ++ n ++ q)) ++ z) ≡ (lead_test a 0 2 && (lead_test e 0 4 && (lead_test r 0 4 && (lead_test p 0 4 && (lead_test n 0 2 && lead_test q 0 2)))))
unfolding lead_test zero_cells
six_leads f a e r p n q z hf ha he hr hp hn hq = rw (hf, ha, he, hr, hp, hn, hq)

-- a head's pass
head_leads : (h : Head) → leads (head_cells h) ≡ true
unfolding head_cells
head_leads h =
    let g = h.singles in
    six_leads (count_cells h) (part_numbers g.start) (expect_cells g.expect) (expect_cells g.expect_rr) (param_numbers g.param) (part_numbers g.generics) (part_numbers g.programs) (h.kind ∷ [])
    refl (part_three g.start) (expect_five g.expect) (expect_five g.expect_rr) (param_five g.param) (part_three g.generics) (part_three g.programs)
    ∙ rw (part_lead g.start, expect_lead g.expect, expect_lead g.expect_rr, param_lead g.param, part_lead g.generics, part_lead g.programs)

leads_each : (m : List ℕ) → leads m ≡ true
    → (lead_test m 14 2 ≡ true) × (lead_test m 17 4 ≡ true) × (lead_test m 22 4 ≡ true) × (lead_test m 27 4 ≡ true) × (lead_test m 32 2 ≡ true) × (lead_test m 35 2 ≡ true)
leads_each m e =
    let x = (both_iff Iff.rfl (both_iff Iff.rfl (both_iff Iff.rfl (both_iff Iff.rfl (both_iff Iff.rfl Iff.rfl))))).0 e in
    (x.0, x.1.0, x.1.1.0, x.1.1.1.0, x.1.1.1.1.0, x.1.1.1.1.1)

-- numbers whose leads pass are a head's
leads_head : (m : List ℕ) → length m ≡ 39 → Fit32 m → leads m ≡ true → m ≡ head_cells (head_of m)
unfolding head_cells lead_test zero_cells
leads_head m l low e =
    let x = leads_each m e in
    sym (by_cells m 39 l)
    ∙ sym (rw (
      part_again (get_or m 14 0) (get_or m 15 0) (get_or m 16 0) x.0,
      expect_again (get_or m 17 0) (get_or m 18 0) (get_or m 19 0) (get_or m 20 0) (get_or m 21 0) (low 18) x.1,
      expect_again (get_or m 22 0) (get_or m 23 0) (get_or m 24 0) (get_or m 25 0) (get_or m 26 0) (low 23) x.2,
      param_again (get_or m 27 0) (get_or m 28 0) (get_or m 29 0) (get_or m 30 0) (get_or m 31 0) x.3,
      part_again (get_or m 32 0) (get_or m 33 0) (get_or m 34 0) x.4,
      part_again (get_or m 35 0) (get_or m 36 0) (get_or m 37 0) x.5,
    ))

-- the 39 numbers that pass are exactly those that writing gives, of a kind that there is
pub head_iff : (m : List ℕ) → length m ≡ 39 → Fit32 m → (head_test m ≡ true) ↔ ((m ≡ head_cells (head_of m)) × (1 ≤ get_or m 38 0) × (get_or m 38 0 ≤ 4))
unfolding head_test
head_iff m l low =
    let f = both_iff (both_iff (le_iff 1 (get_or m 38 0)) (le_iff (get_or m 38 0) 4)) (leads_head m l low, λ e. ap leads e ∙ head_leads (head_of m)) in
    (λ e. let x = f.0 e in (x.1, x.0.0, x.0.1), λ x. f.1 ((x.1, x.2), x.0))
