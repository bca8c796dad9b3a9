-- `reach::mark_tokens_by`: all tokens are in the finder.
use Rattle.reach.proofs.mark_tokens_by.Goals as goal

pub mark_tokens_led-requires : goal.mark_tokens_led-requires
mark_tokens_led-requires c = (c.requires.0, c.requires.1, c.requires.2, c.requires.3, rw c.rows_of-n.ensures at c.enter_rows.ensures.led)
