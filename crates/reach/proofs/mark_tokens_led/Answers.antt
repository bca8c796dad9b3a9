-- `reach::mark_tokens_led`: production by production.
use mathlib.Core.Path.{◌∙◌}
use native.Mathlib.Omega.{arith}
use Rattle.reach.specs.Reach.{named, net, rule_sort, token_sort}
use Rattle.reach.proofs.Laws.{fits_on}
use Rattle.reach.proofs.Works.{tokens_none, tokens_more, tokens_done}
use Rattle.reach.proofs.mark_tokens_led.Goals as goal

pub loop-p-init : goal.loop-p-init
loop-p-init c = tokens_none _ _ _

pub mark_production-requires : goal.mark_production-requires
mark_production-requires c =
    rw c.token_sort-z.ensures (fits_on _ c.args.w.now _ c.loop-p.invariant.size c.requires.0, c.requires.2, rw c.rows_of-n.ensures at c.loop-p-test.true)

pub mark_prec-requires : goal.mark_prec-requires
mark_prec-requires c =
    let q = rw c.token_sort-z.ensures at c.mark_production.ensures in
    rw c.token_sort-z.ensures (fits_on _ c.args.w.now _ (q.adds.size ∙ c.loop-p.invariant.size) c.requires.0, c.requires.1, c.requires.4)

pub loop-p-preserved : goal.loop-p-preserved
loop-p-preserved c =
    let a = c.args in
    tokens_more (net a.src.now a.c a.prods.now a.syms.now) (named a.tokens.now (token_sort a.c)) (rule_sort a.c).count (omega arith) c.requires.3 c.loop-p.p a.w.now c.loop-p.w _ _ _ _
    (rw c.rows_of-n.ensures at c.loop-p-test.true) c.loop-p.invariant (rw c.token_sort-z.ensures at c.mark_production.ensures) (rw c.token_sort-z.ensures at c.mark_prec.ensures)

pub returns : goal.returns
returns c = tokens_done _ _ c.loop-p.p _ _ (rw c.rows_of-n.ensures at c.loop-p-test.false) c.loop-p.invariant
