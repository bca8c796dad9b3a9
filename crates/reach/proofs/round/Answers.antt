-- `reach::round`: what was marked before the pass is done after it.
use Rattle.reach.proofs.round.Goals as goal

pub returns : goal.returns
returns c = (c.sweep-news.ensures, λ a b e n. c.sweep-news.ensures.closed a b (c.copy_words.ensures a (c.copy_words-2.ensures a e)) n)
