-- `validation::guide_names`: what led to the rows of one table still does where those of another are entered too.
use mathlib.Core.Path.{sym}
use Rattle.tables.specs.Layout.{tokens, implicit, rules, width}
use Rattle.finder.proofs.Laws.{grown_on, led_since, led_all}
use Rattle.validation.proofs.guide_names.Goals as goal

pub returns : goal.returns
returns c =
    let a = c.args in
    let t = led_all a.src.now (width tokens) 0 a.t1.now _ _ _ (led_since a.src.now (width tokens) 0 a.t1.now _ _ c.enter_rows.ensures.led _ (grown_on _ _ _ c.enter_rows-2.ensures.grown c.enter_rows-3.ensures.grown)) (sym c.rows_of-tokens.ensures) in
    let m = led_all a.src.now (width implicit) 0 a.t4.now _ _ _ (led_since a.src.now (width implicit) 0 a.t4.now _ _ c.enter_rows-2.ensures.led _ c.enter_rows-3.ensures.grown) (sym c.rows_of-implicit.ensures) in
    ((t, m), (t, led_all a.src.now (width rules) 0 a.t7.now _ _ _ c.enter_rows-3.ensures.led (sym c.rows_of-rules.ensures)))
