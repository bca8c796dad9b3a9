-- `grammar::pass_gap`: spacing's answer, with its refusal.
use native.Mathlib.Omega.{arith}
use borrow.Author.Rules.{rules}
use Rattle.scan.proofs.Tuples.{err_is}
use Rattle.grammar.proofs.Steps.{gap_to, gap_line, gap_comment, gap_moved, line_inside, comment_inside}
use Rattle.grammar.proofs.pass_gap.Goals as goal

pub overflow_cast-result : goal.overflow_cast-result
overflow_cast-result c =
    let h = line_inside _ _ _ c.parse_ws.ensures.spaces _ (err_is c.in-Err-LineEnd.is c.in-Err-LineEnd.field-0-is) in
    omega (arith, c.requires.short)

pub overflow_cast-result-in-Err-OpenComment : goal.overflow_cast-result-in-Err-OpenComment
overflow_cast-result-in-Err-OpenComment c =
    let h = comment_inside _ _ _ c.parse_ws.ensures.spaces _ (err_is c.in-Err-OpenComment.is c.in-Err-OpenComment.field-0-is) in
    omega (arith, c.requires.short)

pub returns-in-Ok : goal.returns-in-Ok
returns-in-Ok c =
    record {
      is = search (gap_to, rules);
      moved = search (gap_moved, rules);
    }

pub returns-in-Err-LineEnd : goal.returns-in-Err-LineEnd
returns-in-Err-LineEnd c =
    record {
      is = search (gap_line, rules);
      moved = tt;
    }

pub returns-in-Err-OpenComment : goal.returns-in-Err-OpenComment
returns-in-Err-OpenComment c =
    record {
      is = search (gap_comment, rules);
      moved = tt;
    }
