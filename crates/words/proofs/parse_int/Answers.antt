-- `words::parse_int`: the value so far is that of the digits so far.
use native.Mathlib.Nat.{add-zero}
use native.Mathlib.Omega.{arith}
use borrow.Author.Rules.{rules}
use Rattle.words.proofs.Numbers.{value_none, int_none, int_all, int_digit, int_next, int_over}
use Rattle.words.proofs.parse_int.Goals as goal

pub returns-then-to-from-clause-value : goal.returns-then-to-from-clause-value
returns-then-to-from-clause-value c = search (int_none, rules)

pub loop-b-init : goal.loop-b-init
loop-b-init c = rw add-zero (search (value_none, rules))

pub overflow_sub-d : goal.overflow_sub-d
overflow_sub-d c = search (int_digit, rules)

pub returns-in_default-clause-value : goal.returns-in_default-clause-value
returns-in_default-clause-value c =
    let n = c.in_default.ensures in
    int_over _ _ _ c.run_end-to.ensures.value c.run_end-to.ensures.runs _ _ c.loop-b.invariant.1 c.loop-b-test.true (omega arith)

pub returns-in_default-checked_add-clause-value : goal.returns-in_default-checked_add-clause-value
returns-in_default-checked_add-clause-value c =
    let n = c.in_default-checked_add.ensures in
    let w = c.in-Some.ensures in
    int_over _ _ _ c.run_end-to.ensures.value c.run_end-to.ensures.runs _ _ c.loop-b.invariant.1 c.loop-b-test.true (omega arith)

pub loop-b-preserved : goal.loop-b-preserved
loop-b-preserved c =
    let n = c.in-Some-checked_add.ensures in
    let w = c.in-Some.ensures in
    let h = int_next _ _ _ c.run_end-to.ensures.value c.run_end-to.ensures.runs _ _ c.loop-b.invariant.1 c.loop-b-test.true in
    (omega arith, omega arith)

pub returns-clause-value : goal.returns-clause-value
returns-clause-value c =
    int_all _ _ _ c.run_end-to.ensures.value c.run_end-to.ensures.runs c.if-to-from.false _ _ c.loop-b.invariant.1 c.loop-b.invariant.0 c.loop-b.auto.b-index-end c.loop-b-test.false
