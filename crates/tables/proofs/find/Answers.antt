-- `tables::find`.
use Rattle.std.proofs.Common.{rules, tests, refl}
use native.Mathlib.Nat.{sub-zero}
use Rattle.std.proofs.lemmas.Iterator.{YieldsList-from_range}
use Rattle.std.proofs.lemmas.Iterator.Search.{find_from_yields_List}
use Rattle.tables.specs.Table.{has_name, find_name}
use Rattle.tables.proofs.Laws.{find_first}
use Rattle.tables.proofs.find.Goals as goal

pub returns : goal.returns
unfolding has_name find_name
returns c =
    let a = c.args in
    let test = has_name a.src.now a.w a.k a.t.now a.from a.to in
    let found = find_from_yields_List test _ _ c.find.result c.find.ensures.ran (YieldsList-from_range 0 a.n a.n refl (sub-zero a.n)) (λ x b q k. search (rules, tests)) in
    search (found, find_first, rules)
