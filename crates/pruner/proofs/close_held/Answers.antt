-- `pruner::close_held`: table 3, then table 5.
use Rattle.pruner.proofs.All.{mentions_by}
use Rattle.pruner.proofs.close_held.Goals as goal

pub returns : goal.returns
returns c =
    let a = c.args in
    mentions_by a.src.now a.c a.t1.now a.t3.now a.t5.now a.ws.now _ _ _ _ _ _ c.rows_of.ensures c.close_named-avoided.ensures c.rows_of-2.ensures c.close_named-epps.ensures
