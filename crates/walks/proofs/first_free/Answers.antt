-- `walks::first_free`.
use Rattle.std.proofs.Common.{rules, tests, refl, ◌-◌}
use Rattle.std.proofs.lemmas.Iterator.{YieldsList-from_range, first_from_find}
use Rattle.reach.specs.Reach.{named}
use Rattle.usage.specs.Report.{excuses_of, Free}
use Rattle.walks.proofs.Laws.{sought}
use Rattle.walks.proofs.first_free.Goals as goal

pub returns : goal.returns
returns c =
    let a = c.args in
    let P = Free a.w.now (excuses_of a.src.now a.c a.t4.now a.t6.now) (named a.names.now a.z) in
    sought P a.from a.z.count c.find.result (first_from_find _ _ c.find.result P (λ i. P i → ⊥) c.find.ensures.ran (YieldsList-from_range a.from a.z.count (a.z.count - a.from) refl refl) (λ x q k. search (rules, tests)) (λ x q k. search (rules, tests)))
