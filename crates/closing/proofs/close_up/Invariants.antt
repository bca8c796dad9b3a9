use Rattle.closing.specs.Close.{by_bit, Shut}
use Rattle.closing.proofs.close_up.Given as goal

abbrev pub invariant-loop-r : goal.invariant-loop-r
invariant-loop-r l = Shut (by_bit l.keep l.base) l.w l.initial.t l.r l.m l.t
