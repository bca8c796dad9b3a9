-- `rules::rule_head`.
use native.Mathlib.Omega.{arith}
use Rattle.grammar.proofs.Steps.{passed_here, refused_put}
use Rattle.settings.proofs.Laws.{name_passed, name_none}
use Rattle.rules.proofs.Laws.{head_named, head_none, named_moves}
use Rattle.rules.proofs.rule_head.Goals as goal

pub named_head-requires : goal.named_head-requires
named_head-requires c =
    let y = name_passed _ _ _ _ c.parse_name.ensures.named c.in-Ok.is in
    record {
      here = passed_here _ _ _ c.requires.0 y;
      passed = y;
      rules = c.requires.1;
    }

pub overflow_cast-result : goal.overflow_cast-result
overflow_cast-result c =
    let e = name_none _ _ _ _ c.parse_name.ensures.named c.in-Err.is in let q = c.requires.0 in
    omega (arith, q.within, q.short)

pub returns-in-Ok : goal.returns-in-Ok
returns-in-Ok c =
    record {
      is = head_named _ _ _ _ c.parse_name.ensures.value _ _ c.in-Ok.is c.named_head.ensures.is;
      moved = named_moves _ _ _ _ _ _ c.parse_name.ensures.named c.in-Ok.is c.named_head.ensures.moved;
      indexed = c.named_head.ensures.indexed;
    }

pub returns-in-Err : goal.returns-in-Err
returns-in-Err c =
    record {
      is = head_none _ _ _ _ c.parse_name.ensures.value _ c.in-Err.is;
      moved = refused_put _ _ _ c.requires.0.within;
      indexed = c.requires.1;
    }
