-- `scan::lines_at`.
use borrow.Author.Rules.{rules}
use Rattle.scan.proofs.Lines.{lines_past, lines_lf, lines_pair, lines_cr, lines_none}
use Rattle.scan.proofs.lines_at.Goals as goal

pub returns-then-s-k : goal.returns-then-s-k
returns-then-s-k c =
    record {
      value = search (lines_past, rules);
      upper_bound = search rules;
    }

pub returns-then-starts : goal.returns-then-starts
returns-then-starts c =
    record {
      value = search (lines_pair, rules);
      upper_bound = search rules;
    }

pub returns-in-10 : goal.returns-in-10
returns-in-10 c =
    record {
      value = search (lines_lf, rules);
      upper_bound = search rules;
    }

pub returns-else-starts : goal.returns-else-starts
returns-else-starts c =
    record {
      value = search (lines_cr, rules);
      upper_bound = search rules;
    }

pub returns-in_default : goal.returns-in_default
returns-in_default c =
    record {
      value = search (lines_none, rules);
      upper_bound = search rules;
    }
