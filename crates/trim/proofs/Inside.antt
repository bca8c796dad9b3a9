-- Where the trimmed place lies, of any bytes: what every turn of the scan keeps, the scan keeps. Assumes nothing.
use Prim.Native.Nat.{ℕ, suc, ◌-◌, ◌≤◌, ◌<◌}
use mathlib.Core.Path.{◌≡◌, refl}
use mathlib.Core.List.{List}
use mathlib.Core.Bool.{Bool, true, false}
use native.Mathlib.Omega.{arith}
use lib.Dec.{ltb, eqb}
use lib.ListN.{length}
use borrow.Author.Tests.{ltb-true}
use Rattle.scan.specs.Loop.{stop}
use Rattle.scan.specs.declared.Place.{Place}
use Rattle.scan.proofs.Loop.{Either, turns_keep}
use Rattle.trim.specs.declared.Passed.{Passed}
use Rattle.trim.specs.declared.Passed.TheVariants.{White, Kept}
use Rattle.trim.specs.Trim.{passed_at, end_of, Trim, kept, moved, trim_turn, trimmed, Inside}
use Rattle.trim.proofs.Laws.{pass_inside, at}

-- the kept text starts at an index between the old start and the index reached
kept_between : (a b i : ℕ) → a ≤ b → b ≤ i → (a ≤ kept a b i) × (kept a b i ≤ i)
unfolding kept
kept_between a b i h k = go (eqb a b)
  where
    go : (t : Bool) → (a ≤ elim t [ true ↦ i | false ↦ a ]) × (elim t [ true ↦ i | false ↦ a ] ≤ i)
    go true = (omega arith, omega arith)
    go false = (omega arith, omega arith)

-- a scan under way
record Under (s : List ℕ) (from : ℕ) (t : Trim) : Type 0 where
  first : from ≤ t.from
  order : t.from ≤ t.to
  reached : t.to ≤ t.i
  bound : from ≤ length s → t.to ≤ length s

module _ (s : List ℕ) (from to : ℕ) (h : to ≤ length s) where
  turn_keeps : (t : Trim) → Under s from t → Either (Under s from) (Under s from) (trim_turn s to t)
  unfolding trim_turn moved
  turn_keeps t u = by_test (ltb t.i to) refl
    where
      by_end : (p : Passed) → t.i < end_of p → end_of p ≤ length s → Either (Under s from) (Under s from) (moved t p)
      by_end (White j) l m =
          let a = u.reached in
          record { first = u.first; order = u.order; reached = omega arith; bound = u.bound }
      by_end (Kept j) l m =
          let a = u.first in
          let k = kept_between t.from t.to t.i u.order u.reached in
          record { first = omega arith; order = omega arith; reached = omega arith; bound = λ b. m }

      by_test : (q : Bool) → ltb t.i to ≡ q → Either (Under s from) (Under s from) (elim q [ true ↦ moved t (passed_at s t.i) | false ↦ stop t ])
      by_test true e =
          let l = ltb-true t.i to e in
          let p = pass_inside s t.i in
          by_end (passed_at s t.i) p.0 (p.1 (omega arith))
      by_test false e = u

  pub trim_inside : Inside s from (trimmed s from to)
  unfolding trimmed
  trim_inside =
      let u = turns_keep (Under s from) (trim_turn s to) turn_keeps (suc (to - from)) (at from from from) (record { first = omega arith; order = omega arith; reached = omega arith; bound = λ b. b }) in
      (u.first, u.order, u.bound)

-- the same, of an answer that is known to be the definition's
pub inside : (s : List ℕ) (from to : ℕ) (r : Place) → to ≤ length s → r ≡ trimmed s from to → Inside s from r
inside s from to r h e = rw e (trim_inside s from to h)
