-- Names sought one by one among the rows before them, which a finder holds. Assumes nothing.
use Rattle.std.specs.Prelude.{Option, Some, None}
use Prim.Native.Nat.{ℕ, ◌+◌, ◌<◌}
use mathlib.Core.Path.{◌≡◌, refl, sym, ap, ◌∙◌}
use mathlib.Core.List.{List}
use mathlib.Core.Bool.{Bool, true, false, not, true≢false}
use native.Mathlib.Omega.{arith}
use native.Mathlib.Decide.{ℕ_discrete}
use Rattle.std.specs.Option.{is_some}
use Rattle.tables.specs.Table.{cell, find_name}
use Rattle.tables.specs.Below.{below}
use Rattle.tables.proofs.Below.{below_on, below_not}
use Rattle.tables.proofs.Cases.{none_iff}
use Rattle.index.specs.Index.{unfound, fresh_name}
use Rattle.finder.specs.Finder.{LeadsTo, Held, Grown}
use Rattle.finder.proofs.Laws.{held_grown}

found_some : (f : Option ℕ) → is_some f ≡ true → not (unfound f) ≡ true
found_some None e = absurd (true≢false (sym e))
found_some (Some q) e = refl

pub found_none : (f : Option ℕ) → is_some f ≡ false → f ≡ None
found_none None e = refl
found_none (Some q) e = absurd (true≢false e)

-- what was found of row r's name among the rows before it
module _ (src : List ℕ) (w r : ℕ) (t : List ℕ) (a b : ℕ) (x : a ≡ cell w t r 0) (y : b ≡ cell w t r 1) (f : Option ℕ) (e : f ≡ find_name src w 0 r t a b) where
  told : unfound f ≡ fresh_name src w 0 t r
  unfolding fresh_name
  told = rw (← x, ← y) (ap unfound e)

  pub name_again : (q : Bool) → q ≡ is_some f → q ≡ true → (n : ℕ) → r < n → false ≡ below n (fresh_name src w 0 t)
  name_again q g h n l = below_not _ r n (unfound f) l told (found_some f (sym g ∙ h))

  module _ (g : f ≡ None) where
    pub name_new : below r (fresh_name src w 0 t) ≡ true → below (r + 1) (fresh_name src w 0 t) ≡ true
    name_new h = below_on _ r true h (sym (ap unfound g) ∙ told) refl

    -- the row stands in the table already, and is entered
    pub held_row : (ix : List ℕ) → Held src w 0 r t ix → (jx : List ℕ) → Grown ix jx → LeadsTo src w 0 t jx r → Held src w 0 (r + 1) t jx
    held_row ix H jx G L =
        record {
          led = λ q h. elim (ℕ_discrete q r) [ yes z ↦ rw z L | no z ↦ J.led q (omega arith) ];
          apart = λ p q h l. elim (ℕ_discrete q r) [ yes z ↦ rw (z, ← x, ← y) ((none_iff src w 0 r t a b).0 (sym e ∙ g) p (omega arith)) | no z ↦ J.apart p q h (omega arith) ];
        }
      where
        J : Held src w 0 r t jx
        J = held_grown src w 0 r t ix H jx G
