-- `blocks::block_fault`: one law for each answer.
use Rattle.blocks.proofs.Laws.{fault_number, fault_none, fault_check}
use Rattle.blocks.proofs.block_fault.Goals as goal

pub returns-then-number-k : goal.returns-then-number-k
returns-then-number-k c = fault_number c.args.s.now c.args.k _ c.number_at-number.ensures c.if-number-k.true

pub returns-then-block_ok : goal.returns-then-block_ok
returns-then-block_ok c = fault_none c.args.s.now c.args.k _ c.number_at-number.ensures _ c.if-number-k.false c.block_ok.ensures c.if-block_ok.true

pub returns : goal.returns
returns c = fault_check c.args.s.now c.args.k _ c.number_at-number.ensures _ c.if-number-k.false c.block_ok.ensures c.if-block_ok.false
