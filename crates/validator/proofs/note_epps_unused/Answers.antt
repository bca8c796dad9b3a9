-- `validator::note_epps_unused`: a finder without slots leads every name to the search.
use mathlib.Core.Path.{refl}
use Rattle.tables.specs.Layout.{tokens, implicit, rules, width}
use Rattle.finder.proofs.Laws.{led_empty}
use Rattle.validator.proofs.note_epps_unused.Goals as goal

pub note_named-requires : goal.note_named-requires
note_named-requires c =
    let a = c.args in
    let t = led_empty _ (width tokens) 0 a.t1.now _ _ refl in
    ((t, led_empty _ (width implicit) 0 a.t4.now _ _ refl), (t, led_empty _ (width rules) 0 a.t7.now _ _ refl))
