-- `validator::find_fault`: a finder without slots leads every name to the search.
use mathlib.Core.Path.{refl}
use Rattle.tables.specs.Layout.{tokens, precedences, implicit, rules, width}
use Rattle.finder.proofs.Laws.{led_empty}
use Rattle.validator.proofs.find_fault.Goals as goal

pub find_led-requires : goal.find_led-requires
find_led-requires c = (
  c.requires,
  record {
    tokens = led_empty _ (width tokens) 0 c.args.t1.now _ _ refl;
    precedences = led_empty _ (width precedences) 0 c.args.t2.now _ _ refl;
    implicit = led_empty _ (width implicit) 0 c.args.t4.now _ _ refl;
    rules = led_empty _ (width rules) 0 c.args.t7.now _ _ refl;
  },
)
