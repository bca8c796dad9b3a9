-- `validation::guide_precs`: what led to the precedences still does where the tokens are entered too.
use Rattle.tables.specs.Layout.{precedences, width}
use Rattle.finder.proofs.Laws.{led_since}
use Rattle.validation.proofs.guide_precs.Goals as goal

pub returns : goal.returns
returns c =
    let a = c.args in
    (c.enter_rows-2.ensures.led, led_since a.src.now (width precedences) 0 a.t2.now _ _ c.enter_rows.ensures.led _ c.enter_rows-2.ensures.grown)
