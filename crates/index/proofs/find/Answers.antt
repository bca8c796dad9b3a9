-- `index::find`: a lookup is the search.
use Rattle.std.proofs.Common.{◌∙◌}
use Rattle.index.proofs.Theorems.{lookup_is_search}
use Rattle.index.proofs.find.Goals as goal

pub returns : goal.returns
returns c = c.probe.ensures ∙ lookup_is_search _ _ _ _ _ _ c.requires c.if-ix-n.false _ _
