-- `texts::closing_mark`: what is left gives the whole's answer.
use borrow.Author.Rules.{rules}
use Rattle.texts.proofs.Laws.{m_end, m_eol, m_found, m_percent, m_run, mark_placed}
use Rattle.texts.proofs.closing_mark.Goals as goal

pub returns-then-is_at : goal.returns-then-is_at
returns-then-is_at c =
    let it = mark_placed _ _ _ (search (m_found, rules)) in
    record { value = it.0; marked = it.1 }

pub loop-j-preserved-in-37 : goal.loop-j-preserved-in-37
loop-j-preserved-in-37 c = search (m_percent, rules)

pub loop-j-preserved-in-10 : goal.loop-j-preserved-in-10
loop-j-preserved-in-10 c = search (m_eol, rules)

pub loop-j-preserved : goal.loop-j-preserved
loop-j-preserved c = search (m_run, rules)

pub returns : goal.returns
returns c =
    let it = mark_placed _ _ _ (search (m_end, rules)) in
    record { value = it.0; marked = it.1 }
