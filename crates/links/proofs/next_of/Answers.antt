-- `links::next_of`: what the array holds, or what is sought.
use Prim.Native.Nat.{◌+◌}
use mathlib.Core.Path.{◌∙◌, ap}
use native.Mathlib.Omega.{arith}
use Rattle.links.specs.Links.{next_of_rule}
use Rattle.links.proofs.Laws.{rule_of_lem}
use Rattle.links.proofs.next_of.Goals as goal

pub returns-then-i-nexts : goal.returns-then-i-nexts
returns-then-i-nexts c =
    c.wide.ensures ∙ c.requires.0 _ (omega arith) c.requires.1 c.if-i-nexts.true ∙ ap (next_of_rule _ (c.args.r + 1) c.args.n) (rule_of_lem _ _ _ c.requires.2)
