-- `validator::note_rules`: a finder without slots leads every name to the search.
use mathlib.Core.Path.{refl}
use Rattle.tables.specs.Layout.{tokens, precedences, width}
use Rattle.finder.proofs.Laws.{led_empty}
use Rattle.validator.proofs.note_rules.Goals as goal

pub note_led-requires : goal.note_led-requires
note_led-requires c = (c.requires, (led_empty _ (width tokens) 0 c.args.t1.now _ _ refl, led_empty _ (width precedences) 0 c.args.t2.now _ _ refl))
