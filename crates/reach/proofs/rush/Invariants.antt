use Rattle.reach.specs.Reach.{named, net, rule_sort, Rushed}
use Rattle.reach.proofs.rush.Given as goal

abbrev pub invariant-loop : goal.invariant-loop
invariant-loop l = Rushed (net l.src l.c l.prods l.syms) (named l.rules (rule_sort l.c)) l.initial.w l.w
