-- `reach::sweep`: production by production.
use mathlib.Core.Path.{◌≡◌, refl}
use mathlib.Core.Bool.{◌||◌}
use Rattle.reach.specs.Reach.{named, net, rule_sort}
use Rattle.reach.proofs.Laws.{fits_on}
use Rattle.reach.proofs.Sweeps.{swept_none, swept_more, swept_all}
use Rattle.reach.proofs.sweep.Goals as goal

pub loop-p-init : goal.loop-p-init
loop-p-init c = swept_none _ _ _

pub visit-one-requires : goal.visit-one-requires
visit-one-requires c =
    rw c.rule_sort-z.ensures (fits_on _ c.args.w.now _ c.loop-p.invariant.size c.requires.0, c.requires.1, rw c.rows_of-n.ensures at c.loop-p-test.true)

pub loop-p-preserved : goal.loop-p-preserved
loop-p-preserved c =
    let a = c.args in
    let flag : c.either-news.result ≡ (c.visit-one.result || c.loop-p.news) = c.either-news.ensures in
    rw flag
    (swept_more (net a.src.now a.c a.prods.now a.syms.now) (named a.rules.now (rule_sort a.c)) refl c.loop-p.p a.w.now c.loop-p.w _ c.loop-p.news c.visit-one.result
    (rw c.rows_of-n.ensures at c.loop-p-test.true) a.done.now c.requires.2 c.loop-p.invariant (rw c.rule_sort-z.ensures at c.visit-one.ensures))

pub returns : goal.returns
returns c = swept_all _ _ c.loop-p.p _ _ _ (rw c.rows_of-n.ensures at c.loop-p-test.false) c.loop-p.invariant
