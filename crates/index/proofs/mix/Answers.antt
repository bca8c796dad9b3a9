-- `index::mix`.
use Rattle.std.proofs.Common.{rules}
use Rattle.index.proofs.Laws.{mix_is}
use Rattle.index.proofs.mix.Goals as goal

pub returns : goal.returns
returns c = search (mix_is, rules)
