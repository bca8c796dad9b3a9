-- `scan::far_end`: eight bytes of the run at a time, what is left of it is the rest of it.
use borrow.Author.Rules.{rules}
use Rattle.scan.proofs.Runs.{eight_fits, eight_less, eight_on, run_far}
use Rattle.scan.proofs.far_end.Goals as goal

pub overflow_add-i : goal.overflow_add-i
overflow_add-i c = search (eight_fits, rules)

pub loop-i-smaller : goal.loop-i-smaller
loop-i-smaller c = search (eight_less, rules)

pub loop-i-preserved : goal.loop-i-preserved
loop-i-preserved c = search (eight_fits, eight_on, rules)

pub returns : goal.returns
returns c =
    let it = run_far _ _ _ _ _ (search rules) c.loop-i.invariant.1 c.run_end.ensures.value in
    record { value = it.0; runs = it.1 }
