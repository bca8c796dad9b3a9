-- `scan::starts`: so far the word stands there.
use native.Mathlib.Nat.{add-zero, add_assoc}
use borrow.Author.Rules.{rules}
use Rattle.scan.proofs.Bytes.{starts_first, starts_not, starts_on, starts_all}
use Rattle.scan.proofs.starts.Goals as goal

pub loop-k-init : goal.loop-k-init
loop-k-init c = rw add-zero (search (starts_first, rules))

pub returns-then-not-is_at : goal.returns-then-not-is_at
returns-then-not-is_at c = search (starts_not, rules)

pub loop-k-preserved : goal.loop-k-preserved
loop-k-preserved c =
    let h = starts_on _ _ _ _ _ c.loop-k.invariant.1 _ c.loop-k-test.true c.is_at.ensures c.if-not-is_at.false in
    rw (← add_assoc) (search (h.0, h.1, rules))

pub returns : goal.returns
returns c = search (starts_all, rules)
