-- `links::first_of`: what the array holds, or what is sought.
use mathlib.Core.Path.{◌∙◌}
use Rattle.links.proofs.first_of.Goals as goal

pub returns-then-i-heads : goal.returns-then-i-heads
returns-then-i-heads c = c.wide.ensures ∙ c.requires _ c.if-i-heads.true
