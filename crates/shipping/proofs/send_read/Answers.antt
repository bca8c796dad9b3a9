-- `shipping::send_read`, by the verdict.
use Rattle.shipping.proofs.Laws.{mailed_accepted, mailed_rejected, accepted_here}
use Rattle.shipping.proofs.send_read.Goals as goal

pub send-requires : goal.send-requires
send-requires c = accepted_here c.args.src.now c.args.v _ c.requires c.in-Ok.is

pub returns-in-Ok : goal.returns-in-Ok
returns-in-Ok c = mailed_accepted c.args.v _ _ _ _ c.in-Ok.is c.send.ensures

pub returns-in-Err : goal.returns-in-Err
returns-in-Err c = mailed_rejected c.args.v _ _ _ _ c.in-Err.is c.zero.ensures
