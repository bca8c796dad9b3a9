-- `validator::fault_led`: the foremost fault so far is known, with its rule.
use Prim.Native.Nat.{ℕ}
use native.Mathlib.Omega.{arith}
use Rattle.tables.specs.Layout.{rule_row}
use Rattle.productions.specs.Cells.{cell_of}
use Rattle.validation.specs.Faults.{production_faults, rule_faults, rules_faults}
use Rattle.validation.proofs.Laws.{fewer_known}
use Rattle.validation.proofs.Foremost.{foremost_start, foremost_behind, foremost_met, foremost_failed, foremost_first}
use Rattle.validator.proofs.fault_led.Goals as goal
use Rattle.validator.proofs.fault_led.Goals.{then-rule-owner+in-Err, then-rule-owner+in_default, else-rule-owner}

pub loop-r-init : goal.loop-r-init
loop-r-init c = foremost_start _ _ _

pub production_fault-v-requires : goal.production_fault-v-requires
production_fault-v-requires c = (fewer_known _ _ _ _ _ _ _ _ _ c.loop-r-test.true c.requires.0, c.requires.1)

pub loop-r-preserved : goal.loop-r-preserved
loop-r-preserved c =
    let a = c.args in
    let faults = production_faults a.src.now a.t1.now a.tokens a.t2.now a.precedences a.t7.now a.rules a.t8.now a.t9.now in
    let rule = λ (p : ℕ). cell_of a.t8.now p rule_row in
    elim c.if-rule-owner.branch [
      | then-rule-owner+in-Err s ↦
          rw (s.best-is, s.owner-is) (foremost_failed faults rule a.rules c.loop-r.r c.loop-r.owner c.loop-r.best c.loop-r.invariant _ s.production_fault-v.ensures _ s.in-Err.is _ c.cell-rule.ensures s.if-rule-owner.true)
      | then-rule-owner+in_default s ↦
          rw (s.best-is, s.owner-is) (foremost_met faults rule a.rules c.loop-r.r c.loop-r.owner c.loop-r.best c.loop-r.invariant _ s.production_fault-v.ensures s.in_default.is)
      | else-rule-owner s ↦
          rw (s.best-is, s.owner-is) (foremost_behind faults rule a.rules c.loop-r.r c.loop-r.owner c.loop-r.best c.loop-r.invariant _ c.cell-rule.ensures s.if-rule-owner.false)
    ]

pub returns : goal.returns
unfolding rules_faults rule_faults
returns c =
    let a = c.args in
    foremost_first (production_faults a.src.now a.t1.now a.tokens a.t2.now a.precedences a.t7.now a.rules a.t8.now a.t9.now) (λ p. cell_of a.t8.now p rule_row) a.rules c.loop-r.r c.loop-r.owner c.loop-r.best c.loop-r.invariant a.n (omega arith)
