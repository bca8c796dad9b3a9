-- `trim::plain_end`: it is the end in the part in front of `to`.
use borrow.Author.Rules.{rules}
use Rattle.trim.specs.Trim.{plain_end}
use Rattle.trim.proofs.Laws.{part_long, part_fits}
use Rattle.trim.proofs.plain_end.Goals as goal

pub slice_bounds-far_end-end : goal.slice_bounds-far_end-end
slice_bounds-far_end-end c = part_long _ _ (search rules)

pub far_end-requires : goal.far_end-requires
far_end-requires c = search (part_fits, rules)

pub returns : goal.returns
unfolding plain_end
returns c = c.far_end.ensures.value
