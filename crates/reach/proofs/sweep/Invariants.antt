use Rattle.reach.specs.Reach.{named, net, rule_sort}
use Rattle.reach.proofs.Sweeps.{SweptTo}
use Rattle.reach.proofs.sweep.Given as goal

abbrev pub invariant-loop-p : goal.invariant-loop-p
invariant-loop-p l = SweptTo (net l.src l.c l.prods l.syms) (named l.rules (rule_sort l.c)) l.p l.initial.w l.w l.news
