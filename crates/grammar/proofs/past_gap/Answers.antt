-- `grammar::past_gap`: spacing's answer, put into the state.
use native.Mathlib.Omega.{arith}
use mathlib.Core.Path.{◌≡◌}
use Prim.Native.Nat.{ℕ}
use Rattle.grammar.proofs.Steps.{past_done, past_going, past_refused, gap_onward, stays}
use Rattle.grammar.proofs.past_gap.Goals as goal

pub returns-then-line-n : goal.returns-then-line-n
returns-then-line-n c =
    let e = c.in-Ok.is in
    record {
      is = past_done _ _ _ _ _ c.pass_gap.ensures.is _ _ e c.if-line-n.true;
      moved = gap_onward _ _ _ _ _ _ _ c.pass_gap.ensures.moved e;
    }

pub returns-else-line-n : goal.returns-else-line-n
returns-else-line-n c =
    let e = c.in-Ok.is in
    record {
      is = past_going _ _ _ _ _ c.pass_gap.ensures.is _ _ e c.if-line-n.false;
      moved = gap_onward _ _ _ _ _ _ _ c.pass_gap.ensures.moved e;
    }

pub returns-in-Err : goal.returns-in-Err
returns-in-Err c =
    record {
      is = past_refused _ _ _ _ _ c.pass_gap.ensures.is _ c.in-Err.is;
      moved = stays _ _ _ _ (λ e. let z : ◌≡◌ {A = ℕ} 0 1 = cc in omega arith);
    }
