-- `symbols::named_row`.
use mathlib.Core.Path.{ap, ◌∙◌}
use Rattle.symbols.specs.Symbols.{row_number, lexicon}
use Rattle.symbols.proofs.Laws.{named_rule, named_token}
use Rattle.symbols.proofs.named_row.Goals as goal

pub returns-then-kind-eq1 : goal.returns-then-kind-eq1
returns-then-kind-eq1 c =
    let x = c.args in
    named_rule (lexicon x.src.now x.t1.now x.n x.t7.now x.m) _ _ _ _ c.if-kind-eq1.true (c.row_or.ensures ∙ ap row_number c.find-f.ensures)

pub returns : goal.returns
returns c =
    let x = c.args in
    named_token (lexicon x.src.now x.t1.now x.n x.t7.now x.m) _ _ _ _ c.if-kind-eq1.false (c.row_or-2.ensures ∙ ap row_number c.find-f-2.ensures)
