-- `words::is_quote`: it is the definition.
use mathlib.Core.Path.{refl}
use Rattle.words.specs.Words.{is_quote}
use Rattle.words.proofs.is_quote.Goals as goal

pub returns : goal.returns
unfolding is_quote
returns c = refl
