-- `values::write_text`: zeros, then the text, then zeros again where it has no room.
use borrow.Author.Rules.{rules}
use Rattle.values.proofs.Laws.{text_within, write_none, write_whole, write_no_room}
use Rattle.values.proofs.write_text.Goals as goal

pub copy_text-n-requires : goal.copy_text-n-requires
copy_text-n-requires c = text_within _ _ _ _ c.requires c.in-Some.is

pub returns-then-out-n : goal.returns-then-out-n
returns-then-out-n c = write_no_room _ _ _ _ c.zero.ensures _ _ c.in-Some.is _ _ c.copy_text-n.ensures c.if-out-n.true _ (search rules)

pub returns-else-out-n : goal.returns-else-out-n
returns-else-out-n c = write_whole _ _ _ _ c.zero.ensures _ _ c.in-Some.is _ _ c.copy_text-n.ensures c.if-out-n.false

pub returns-in-None : goal.returns-in-None
returns-in-None c = write_none _ _ _ _ c.zero.ensures c.in-None.is
