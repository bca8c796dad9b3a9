-- `reach::mark_named`: the row that is found is the only one of the name.
use native.Mathlib.Omega.{arith}
use Rattle.reach.specs.Reach.{named}
use Rattle.reach.proofs.Laws.{name_calls, calls_held, mark_found, mark_unfound}
use Rattle.reach.proofs.mark_named.Goals as goal

pub find-requires : goal.find-requires
find-requires c = calls_held c.args.src.now (named c.args.names.now c.args.z) c.requires.1 c.args.fx.now c.requires.2

-- the row's bit lies in the words
pub mark-requires : goal.mark-requires
mark-requires c =
    let a = c.args in
    omega (arith, c.requires.0.inside, (name_calls a.src.now (named a.names.now a.z) a.a a.b _ c.find.ensures _ c.in-Some.is).inside)

pub returns-in-Some : goal.returns-in-Some
returns-in-Some c =
    let a = c.args in
    mark_found a.src.now (named a.names.now a.z) a.a a.b _ c.find.ensures _ _ _ _ c.requires.1 c.in-Some.is c.mark.ensures

pub returns-in-None : goal.returns-in-None
returns-in-None c =
    let a = c.args in
    mark_unfound a.src.now (named a.names.now a.z) a.a a.b _ c.find.ensures _ c.in-None.is
