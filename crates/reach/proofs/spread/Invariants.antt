use Prim.Native.Nat.{◌*◌, ◌-◌}
use mathlib.Core.Path.{◌≡◌}
use lib.ListN.{length}
use Rattle.bits.specs.Bits.{ones}
use Rattle.reach.specs.Reach.{named, net, rule_sort, Rushed, Done}
use Rattle.reach.proofs.spread.Given as goal

abbrev pub invariant-loop-c : goal.invariant-loop-c
invariant-loop-c l =
    Rushed (net l.src l.c l.prods l.syms) (named l.rules (rule_sort l.c)) l.initial.w l.w × Done (net l.src l.c l.prods l.syms) (named l.rules (rule_sort l.c)) l.done l.w × (length l.done ≡ 512)

-- how many bits are 0
abbrev pub decreases-loop-c : goal.decreases-loop-c
decreases-loop-c l = length l.w * 32 - ones l.w
