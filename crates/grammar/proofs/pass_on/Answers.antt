-- `grammar::pass_on`.
use native.Mathlib.Omega.{arith}
use mathlib.Core.Path.{◌≡◌}
use Prim.Native.Nat.{ℕ}
use Rattle.grammar.proofs.Steps.{on_going, on_done, on_refused, stays}
use Rattle.grammar.proofs.pass_on.Goals as goal

pub returns-in-Going : goal.returns-in-Going
returns-in-Going c =
    record {
      is = on_going _ _ _ _ _ _ c.in-Going.is c.past_gap.ensures.is;
      moved = c.past_gap.ensures.moved;
    }

pub returns-in-Done : goal.returns-in-Done
returns-in-Done c =
    record {
      is = on_done _ _ _ _ _ c.in-Done.is;
      moved = stays _ _ _ _ (λ e. let z : ◌≡◌ {A = ℕ} 0 1 = cc in omega arith);
    }

pub returns-in-Refused : goal.returns-in-Refused
returns-in-Refused c =
    record {
      is = on_refused _ _ _ _ _ _ c.in-Refused.is;
      moved = stays _ _ _ _ (λ e. let z : ◌≡◌ {A = ℕ} 0 1 = cc in omega arith);
    }
