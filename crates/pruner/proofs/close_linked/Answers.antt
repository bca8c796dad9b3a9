-- `pruner::close_linked`: ranks first, then table 9 by table 8 as it was, then table 8.
use native.Mathlib.Omega.{arith}
use Rattle.pruner.proofs.All.{ranks_read, ranked_tokens, ranked_rules, links_by}
use Rattle.pruner.proofs.close_linked.Goals as goal

pub write_ranks-requires : goal.write_ranks-requires
write_ranks-requires c = (omega (arith, c.requires.token_slots, c.rows_of.ensures), c.token_base.ensures.low)

pub write_ranks-requires-2 : goal.write_ranks-requires-2
write_ranks-requires-2 c = (omega (arith, c.requires.rule_slots, c.rows_of-2.ensures), omega arith)

pub close_symbols-symbols-requires : goal.close_symbols-symbols-requires
close_symbols-symbols-requires c =
    let a = c.args in
    ranks_read a.c a.ws.now a.t8.now a.t9.now a.i1.now a.i7.now c.requires _ _
    (ranked_tokens a.c a.ws.now _ _ _ c.token_base.ensures.is c.rows_of.ensures c.write_ranks.ensures)
    (ranked_rules a.c a.ws.now _ _ c.rows_of-2.ensures c.write_ranks-2.ensures)

pub close_productions-rows-requires : goal.close_productions-rows-requires
close_productions-rows-requires c =
    let a = c.args in
    (c.requires.productions_fit, c.requires.ranges, c.requires.owned, ranked_rules a.c a.ws.now _ _ c.rows_of-2.ensures c.write_ranks-2.ensures)

pub returns : goal.returns
returns c =
    let a = c.args in
    links_by a.c a.ws.now a.t8.now a.t9.now _ _ _ _ c.close_symbols-symbols.ensures c.close_productions-rows.ensures
