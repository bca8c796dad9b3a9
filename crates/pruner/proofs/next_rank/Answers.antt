-- `pruner::next_rank`: one more than before, if the row stays.
use native.Mathlib.Omega.{arith}
use Rattle.closing.specs.Close.{by_bit}
use Rattle.closing.proofs.Numbers.{rank_most}
use Rattle.pruner.proofs.Laws.{rank_more, rank_same}
use Rattle.pruner.proofs.next_rank.Goals as goal

pub overflow_add-result : goal.overflow_add-result
overflow_add-result c = omega (arith, rank_most (by_bit c.args.ws.now c.args.base) c.args.r)

pub returns-then-test_bit : goal.returns-then-test_bit
returns-then-test_bit c =
    let a = c.args in
    rank_more (by_bit a.ws.now a.base) a.r a.m c.requires.0 _ c.test_bit.ensures c.if-test_bit.true

pub returns : goal.returns
returns c =
    let a = c.args in
    rank_same (by_bit a.ws.now a.base) a.r a.m c.requires.0 _ c.test_bit.ensures c.if-test_bit.false
