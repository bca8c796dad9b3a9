-- `shipper::put_part`: what is still to be written behind what is there gives the whole.
use mathlib.Core.Path.{refl}
use borrow.Author.Rules.{rules}
use Rattle.shipper.proofs.Laws.{part_on, part_end}
use Rattle.shipper.proofs.put_part.Goals as goal

pub loop-i-init : goal.loop-i-init
loop-i-init c = (refl, refl)

pub loop-i-preserved : goal.loop-i-preserved
loop-i-preserved c = search (part_on, rules)

pub returns : goal.returns
returns c = part_end _ _ _ _ _ _ c.requires c.loop-i.invariant.1 c.loop-i-test.false
