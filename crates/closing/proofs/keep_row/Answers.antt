use borrow.Author.Tests.{not-true, not-false}
use Rattle.closing.proofs.Laws.{keep_no, keep_yes}
use Rattle.closing.proofs.keep_row.Goals as goal

-- src/lib.rt:30:9
pub returns-then-not-stays : goal.returns-then-not-stays
returns-then-not-stays c = keep_no _ _ _ _ _ (not-true _ c.if-not-stays.true-raw)

-- src/lib.rt:25:1
pub returns : goal.returns
returns c = keep_yes _ _ _ _ _ _ (not-false _ c.if-not-stays.false-raw) c.move_row.ensures
