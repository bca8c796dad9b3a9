-- `reach::mark_tokens_none`: without slots every name leads to the search.
use mathlib.Core.Path.{refl}
use Rattle.finder.proofs.Laws.{led_empty}
use Rattle.reach.specs.Reach.{token_sort}
use Rattle.reach.proofs.mark_tokens_none.Goals as goal

pub mark_tokens_led-requires : goal.mark_tokens_led-requires
mark_tokens_led-requires c =
    let z = token_sort c.args.c in
    (c.requires.0, c.requires.1, c.requires.2, c.requires.3, led_empty c.args.src.now z.wide 0 c.args.tokens.now _ z.count refl)
