-- `blocks::content_at`.
use borrow.Author.Rules.{rules}
use Rattle.blocks.specs.Blocks.{content_at}
use Rattle.blocks.proofs.content_at.Goals as goal

pub returns : goal.returns
unfolding content_at
returns c = search rules
