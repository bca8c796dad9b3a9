-- `pruner::close_all`: each part leaves what pruning gives.
use native.Mathlib.Omega.{arith}
use Rattle.tables.specs.Layout.{tokens, rules, width}
use Rattle.sound.specs.Test.{count_at}
use Rattle.pruning.specs.Pruned.{rule_stays, token_stays}
use Rattle.pruner.specs.Asked.{Changing}
use Rattle.pruner.proofs.All.{closed_count, all_closed, closed_base, same_slots}
use Rattle.pruner.proofs.close_all.Goals as goal

pub close_mentions-m-requires : goal.close_mentions-m-requires
close_mentions-m-requires c = c.requires.mentioned

pub close_linked-l-requires : goal.close_linked-l-requires
close_linked-l-requires c = c.requires.linked

pub close_names-e-requires : goal.close_names-e-requires
close_names-e-requires c = (omega (arith, c.requires.rules_fit, c.rows_of-rules.ensures), omega arith)

pub close_names-a-requires : goal.close_names-a-requires
close_names-a-requires c = (omega (arith, c.requires.tokens_fit, c.rows_of-tokens.ensures), c.token_base.ensures.low)

pub shape_of-t3 : goal.shape_of-t3
shape_of-t3 c = c.close_mentions-m.auto.t3

pub shape_of-t5 : goal.shape_of-t5
shape_of-t5 c = c.close_mentions-m.auto.t5

pub returns : goal.returns
returns c =
    let a = c.args in
    let src = a.src.now in
    let ws = a.ws.now in
    let x : Changing = record { t1 = a.t1.now; t3 = a.t3.now; t5 = a.t5.now; t7 = a.t7.now; t8 = a.t8.now; t9 = a.t9.now; i1 = a.i1.now; i7 = a.i7.now } in
    let y : Changing = record { t1 = c.close_names-a.new.t; t3 = c.close_mentions-m.new.t3; t5 = c.close_mentions-m.new.t5; t7 = c.close_names-e.new.t; t8 = c.close_linked-l.new.t8; t9 = c.close_linked-l.new.t9; i1 = c.close_names-a.new.ix; i7 = c.close_names-e.new.ix } in
    all_closed src a.c ws x y c.close_names-a.result c.close_mentions-m.result.avoided c.close_mentions-m.result.epps c.close_names-e.result c.close_linked-l.result.rows c.close_linked-l.result.symbols
    (closed_count (token_stays a.c ws) (width tokens) _ (count_at a.c tokens) x.t1 (record { count = c.close_names-a.result; cells = y.t1 }) c.rows_of-tokens.ensures (closed_base a.c ws _ (width tokens) _ x.t1 (record { count = c.close_names-a.result; cells = y.t1 }) c.token_base.ensures.is c.close_names-a.ensures.is))
    c.close_mentions-m.ensures
    (closed_count (rule_stays ws) (width rules) _ (count_at a.c rules) x.t7 (record { count = c.close_names-e.result; cells = y.t7 }) c.rows_of-rules.ensures c.close_names-e.ensures.is)
    c.close_linked-l.ensures
    (same_slots src (width tokens) y.t1 c.close_linked-l.new.i1 x.i1 y.i1 c.close_names-a.result c.close_names-a.ensures.indexed c.close_linked-l.auto.i1)
    (same_slots src (width rules) y.t7 c.close_linked-l.new.i7 x.i7 y.i7 c.close_names-e.result c.close_names-e.ensures.indexed c.close_linked-l.auto.i7)
    c.counts_left.result
    c.counts_left.ensures
