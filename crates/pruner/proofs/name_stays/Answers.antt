-- `pruner::name_stays`: the token that is found has its bit, and no token is no reason to go.
use native.Mathlib.Omega.{arith}
use Rattle.pruner.proofs.Laws.{name_found, name_unfound}
use Rattle.pruner.proofs.name_stays.Goals as goal

pub find-requires : goal.find-requires
find-requires c = rw c.rows_of-n.ensures c.requires

pub overflow_add-base : goal.overflow_add-base
overflow_add-base c = omega (arith, c.token_base-base.ensures.low)

pub returns-in-Some : goal.returns-in-Some
returns-in-Some c =
    let a = c.args in
    name_found a.src.now a.c a.t1.now a.ws.now a.a a.b _ c.rows_of-n.ensures _ c.find.ensures _ c.token_base-base.ensures.is _ c.in-Some.is _ c.test_bit.ensures

pub returns-in-None : goal.returns-in-None
returns-in-None c =
    let a = c.args in
    name_unfound a.src.now a.c a.t1.now a.ws.now a.a a.b _ c.rows_of-n.ensures _ c.find.ensures c.in-None.is
