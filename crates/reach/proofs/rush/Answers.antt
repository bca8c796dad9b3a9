-- `reach::rush`: whatever is visited, production by production.
use mathlib.Core.Path.{refl}
use Rattle.reach.proofs.Laws.{fits_on}
use Rattle.reach.proofs.Sweeps.{rushed_none, rushed_more}
use Rattle.reach.proofs.rush.Goals as goal
use Rattle.reach.proofs.rush.Goals.{then-p-eq0+else-top-eq0, else-p-eq0+then-q-n, else-p-eq0+else-q-n}

pub loop-init : goal.loop-init
loop-init c = rushed_none _ _ _

pub visit_production-top-requires : goal.visit_production-top-requires
visit_production-top-requires c =
    rw c.rule_sort-z.ensures (fits_on _ c.args.w.now _ c.loop.invariant.size c.requires.0, c.requires.1, rw c.rows_of-n.ensures at c.if-q-n.true)

pub loop-preserved : goal.loop-preserved
loop-preserved c =
    elim c.if-p-eq0.branch [
      | then-p-eq0+else-top-eq0 s ↦ rw s.w-is c.loop.invariant
      | else-p-eq0+then-q-n s ↦
          rw s.w-is (rushed_more refl (rw c.rows_of-n.ensures at s.if-q-n.true) c.loop.invariant (rw c.rule_sort-z.ensures at s.visit_production-top.ensures))
      | else-p-eq0+else-q-n s ↦ rw s.w-is c.loop.invariant
    ]
