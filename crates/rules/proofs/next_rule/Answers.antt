-- `rules::next_rule`.
use mathlib.Core.Bool.{false}
use Rattle.grammar.proofs.Spares.{tracked_passed}
use Rattle.rules.proofs.Laws.{rule_spaced_lem, spaced_moves, went}
use Rattle.rules.proofs.next_rule.Goals as goal

pub rule-r-requires : goal.rule-r-requires
rule-r-requires c = c.requires

pub pass_on-requires : goal.pass_on-requires
pass_on-requires c = record { within = c.rule-r.ensures.moved.inside; short = c.requires.0.short }

pub returns : goal.returns
returns c =
    record {
      is = rule_spaced_lem _ _ _ _ _ _ _ _ c.rule-r.ensures.is c.pass_on.ensures.is;
      moved = spaced_moves _ _ _ _ _ _ c.rule-r.ensures.moved c.pass_on.ensures.moved (went _ _ _ _ _ c.pass_on.ensures.is);
      indexed = (tracked_passed c.args.src.now 0 3 0 false c.rule-r.result.state.at c.rule-r.result.answer c.rule-r.result.state _ _ _ _ c.pass_on.ensures.is c.rule-r.ensures.indexed.0, tracked_passed c.args.src.now 6 5 0 false c.rule-r.result.state.at c.rule-r.result.answer c.rule-r.result.state _ _ _ _ c.pass_on.ensures.is c.rule-r.ensures.indexed.1);
    }
