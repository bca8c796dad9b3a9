-- `pruner::close_none`: without slots every name leads to the search.
use mathlib.Core.Path.{refl}
use Rattle.tables.specs.Layout.{tokens, width}
use Rattle.sound.specs.Test.{count_at}
use Rattle.finder.proofs.Laws.{led_empty}
use Rattle.pruner.proofs.close_none.Goals as goal

pub close_held-requires : goal.close_held-requires
close_held-requires c =
    (c.requires, record { led = led_empty c.args.src.now (width tokens) 0 c.args.t1.now _ (count_at c.args.c tokens) refl; apart = c.requires.apart })
