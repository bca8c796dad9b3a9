-- `texts::closing_brace`: what is left gives the whole's answer, with the braces open so far.
use borrow.Author.Rules.{rules}
use Rattle.texts.proofs.Laws.{b_end, b_open, b_last, b_close, b_eol, b_run, brace_placed}
use Rattle.texts.proofs.closing_brace.Goals as goal

pub loop-j-preserved-in-123 : goal.loop-j-preserved-in-123
loop-j-preserved-in-123 c = search (b_open, rules)

pub returns-then-depth-eq0 : goal.returns-then-depth-eq0
returns-then-depth-eq0 c =
    let it = brace_placed _ _ (search rules) _ (search (b_last, rules)) in
    record { value = it.0; braced = it.1 }

pub loop-j-preserved-in-125 : goal.loop-j-preserved-in-125
loop-j-preserved-in-125 c = search (b_close, rules)

pub loop-j-preserved-in-10 : goal.loop-j-preserved-in-10
loop-j-preserved-in-10 c = search (b_eol, rules)

pub loop-j-preserved : goal.loop-j-preserved
loop-j-preserved c = search (b_run, rules)

pub returns : goal.returns
returns c =
    let it = brace_placed _ _ (search rules) _ (search (b_end, rules)) in
    record { value = it.0; braced = it.1 }
