-- What the functions' proofs cite: the next production of a rule, here or further on, and cells stored one at a time. Assumes nothing.
use Rattle.std.specs.Prelude.{Option, Some, None}
use Rattle.std.specs.Option.{option_map, unwrap_or}
use Prim.Native.Nat.{ℕ, ◌+◌, ◌-◌, ◌≤◌, ◌<◌}
use mathlib.Core.Path.{◌≡◌, refl, sym, ap, ◌∙◌}
use mathlib.Core.List.{List}
use mathlib.Core.Bool.{true, false}
use native.Mathlib.Omega.{arith}
use borrow.Author.Tests.{eq-eqb, ne_eqb, eqb-true}
use native.Mathlib.Decide.{ℕ_discrete}
use lib.ListN.{length, get_or, set, replicate, length-set, length-replicate, get_or-replicate}
use lib.Seq.{get_or-set_same, get_or-set_other}
use Rattle.tables.specs.Table.{cell, first_row}
use Rattle.tables.specs.Layout.{productions, rule_row, width}
use Rattle.tables.proofs.Laws.{first_hit, first_on, first_end}
use Rattle.tables.proofs.Cases.{first_cases}
use Rattle.links.specs.Links.{is_of_rule, row_or, next_of_rule, Heads, Nexts, Linked}

-- a production of a rule, or of another one
module _ (t8 : List ℕ) (k r x : ℕ) (e : x ≡ cell (width productions) t8 r rule_row) where
  pub is_of_rule_lem : x ≡ k → is_of_rule t8 k r ≡ true
  unfolding is_of_rule
  is_of_rule_lem h = rw (← e) (eq-eqb x k h)

  pub is_of_other : (x ≡ k → ⊥) → is_of_rule t8 k r ≡ false
  unfolding is_of_rule
  is_of_other h = rw (← e) (ne_eqb x k h)

pub rule_of_lem : (t8 : List ℕ) (k r : ℕ) → is_of_rule t8 k r ≡ true → cell (width productions) t8 r rule_row ≡ k
unfolding is_of_rule
rule_of_lem t8 k r h = eqb-true _ k h

-- the row that a search found, or n
pub found_or : (n : ℕ) (f g : Option ℕ) → option_map (λ x. x) f ≡ g → unwrap_or f n ≡ row_or n g
found_or n None g e = ap (row_or n) e
found_or n (Some r) g e = ap (row_or n) e

-- the next production of a rule
module _ (t8 : List ℕ) (from n k : ℕ) where
  pub next_is : (f : Option ℕ) → f ≡ first_row (is_of_rule t8 k) (n - from) from → row_or n f ≡ next_of_rule t8 from n k
  unfolding next_of_rule
  next_is f e = ap (row_or n) e

  -- here, if this one is of the rule,
  pub next_here : from < n → is_of_rule t8 k from ≡ true → next_of_rule t8 from n k ≡ from
  next_here h e = sym (next_is _ (first_hit (is_of_rule t8 k) n from _ refl h e))

  -- or further on
  pub next_on : from < n → is_of_rule t8 k from ≡ false → next_of_rule t8 from n k ≡ next_of_rule t8 (from + 1) n k
  unfolding next_of_rule
  next_on h e = ap (row_or n) (sym (first_on (is_of_rule t8 k) n from _ refl h e))

  -- and behind the last there is none
  pub next_end : n ≤ from → next_of_rule t8 from n k ≡ n
  next_end h = sym (next_is _ (first_end (is_of_rule t8 k) n from _ refl h))

  -- without a search: none before it from there on is of the rule, and it is, unless there is none
  pub next_cases : from ≤ n → (from ≤ next_of_rule t8 from n k) × (next_of_rule t8 from n k ≤ n) × ((r : ℕ) → from ≤ r → r < next_of_rule t8 from n k → is_of_rule t8 k r ≡ false) × (next_of_rule t8 from n k < n → is_of_rule t8 k (next_of_rule t8 from n k) ≡ true)
  unfolding next_of_rule
  next_cases h =
      first_cases (is_of_rule t8 k)
      (λ (f : Option ℕ). (from ≤ row_or n f) × (row_or n f ≤ n) × ((r : ℕ) → from ≤ r → r < row_or n f → is_of_rule t8 k r ≡ false) × (row_or n f < n → is_of_rule t8 k (row_or n f) ≡ true))
      from (n - from) from (omega arith) (λ q l x. absurd (omega arith))
      (λ r l x e none. (l, omega arith, none, λ y. e))
      (λ none. (h, omega arith, λ r l x. none r l (omega arith), λ y. absurd (omega arith)))

-- the row behind a production is nearer to the end, and so is the next production of the rule
pub next_less : (t8 : List ℕ) (k r n q : ℕ) → q ≡ next_of_rule t8 (r + 1) n k → r < n → n - q < n - r
next_less t8 k r n q e h =
    let x = next_cases t8 (r + 1) n k (omega arith) in
    omega (arith, e, x.0)

-- no row that is found lies behind the last
pub next_most : (t8 : List ℕ) (k r n q : ℕ) → q ≡ next_of_rule t8 (r + 1) n k → r < n → q ≤ n
next_most t8 k r n q e h =
    let x = next_cases t8 (r + 1) n k (omega arith) in
    omega (arith, e, x.1)

-- behind the last production every rule is at its end, and nothing is linked
pub linked_none : (t8 : List ℕ) (n m : ℕ) (heads nexts : List ℕ) → heads ≡ replicate m n → Linked t8 n n heads nexts
linked_none t8 n m heads nexts e = record {
  first = λ k h. ap (λ (x : List ℕ). get_or x k 0) e ∙ get_or-replicate m k n 0 (omega (arith, ap length e, length-replicate m n)) ∙ sym (next_end t8 n n k (omega arith));
  later = λ r l h j. absurd (omega arith);
}

pub linked_at : (t8 : List ℕ) (n a b : ℕ) (heads nexts : List ℕ) → Linked t8 a n heads nexts → b ≡ a → Linked t8 b n heads nexts
linked_at t8 n a b heads nexts x e = rw e x

-- one production is linked before those behind it: behind it comes what its rule had first so far, and it is the first of its rule now
module _ (t8 : List ℕ) (n r k q : ℕ) (heads nexts : List ℕ) (rest : Linked t8 (r + 1) n heads nexts) (h : r < n) (e : k ≡ cell (width productions) t8 r rule_row) where
  pub heads_on : Heads t8 r n (set heads k r)
  heads_on j l =
      elim (ℕ_discrete j k) [
        | yes x ↦ ap (λ (y : ℕ). get_or (set heads k r) y 0) x ∙ get_or-set_same heads k r 0 (omega (arith, length-set heads k r)) ∙ sym (next_here t8 r n j h (is_of_rule_lem t8 j r k e (sym x)))
        | no x ↦ get_or-set_other heads k j r 0 x ∙ rest.first j (omega (arith, length-set heads k r)) ∙ sym (next_on t8 r n j h (is_of_other t8 j r k e (λ y. x (sym y))))
      ]

  pub nexts_on : q ≡ next_of_rule t8 (r + 1) n k → Nexts t8 r n (set nexts r q)
  nexts_on f i l j m =
      elim (ℕ_discrete i r) [
        | yes x ↦ rw x (get_or-set_same nexts r q 0 (omega (arith, length-set nexts r q)) ∙ f ∙ ap (next_of_rule t8 (r + 1) n) e)
        | no x ↦ get_or-set_other nexts r i q 0 x ∙ rest.later i (omega arith) j (omega (arith, length-set nexts r q))
      ]

  pub linked_on : q ≡ next_of_rule t8 (r + 1) n k → (hs ns : List ℕ) → ns ≡ set nexts r q → hs ≡ set heads k r → Linked t8 r n hs ns
  linked_on f hs ns x y = rw (x, y) (record { first = heads_on; later = nexts_on f })
