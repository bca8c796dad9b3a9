-- `validator::guide_all`: what led to the rows of one table still does where those of another are entered too.
use mathlib.Core.Path.{sym}
use Rattle.tables.specs.Layout.{tokens, precedences, implicit, rules, width}
use Rattle.finder.proofs.Laws.{grown_on, led_since, led_all}
use Rattle.validator.proofs.guide_all.Goals as goal

pub returns : goal.returns
returns c =
    let a = c.args in
    record {
      tokens = led_all a.src.now (width tokens) 0 a.t1.now _ _ _ (led_since a.src.now (width tokens) 0 a.t1.now _ _ c.enter_rows.ensures.led _ (grown_on _ _ _ c.enter_rows-2.ensures.grown (grown_on _ _ _ c.enter_rows-3.ensures.grown c.enter_rows-4.ensures.grown))) (sym c.rows_of-tokens.ensures);
      precedences = led_all a.src.now (width precedences) 0 a.t2.now _ _ _ (led_since a.src.now (width precedences) 0 a.t2.now _ _ c.enter_rows-2.ensures.led _ (grown_on _ _ _ c.enter_rows-3.ensures.grown c.enter_rows-4.ensures.grown)) (sym c.rows_of-precedences.ensures);
      implicit = led_all a.src.now (width implicit) 0 a.t4.now _ _ _ (led_since a.src.now (width implicit) 0 a.t4.now _ _ c.enter_rows-3.ensures.led _ c.enter_rows-4.ensures.grown) (sym c.rows_of-implicit.ensures);
      rules = led_all a.src.now (width rules) 0 a.t7.now _ _ _ c.enter_rows-4.ensures.led (sym c.rows_of-rules.ensures);
    }
