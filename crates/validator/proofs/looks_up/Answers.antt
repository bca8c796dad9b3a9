-- `validator::looks_up`: its three tests.
use Rattle.validator.proofs.looks_up.Goals as goal

pub returns : goal.returns
returns c = rw (c.rows_of.ensures, c.rows_of-2.ensures, c.has_precs.ensures, c.rows_of-3.ensures)
