-- `grammar::enter`, and the finder follows.
use mathlib.Core.Path.{ap}
use borrow.Author.Rules.{rules}
use Rattle.grammar.specs.declared.State.{State}
use Rattle.grammar.proofs.Steps.{enter_rows, enter_full, enter_tracked, full_tracked}
use Rattle.grammar.proofs.enter.Goals as goal

pub enter_token-requires : goal.enter_token-requires
enter_token-requires c = rw c.count_of-n.ensures c.requires.held

pub returns-in-Some : goal.returns-in-Some
returns-in-Some c =
    record {
      is = enter_rows _ _ _ _ _ _ _ _ _ c.count_of-n.ensures c.enter_token.ensures.is _ _ c.in-Some.is c.with_count.ensures;
      kept = ap (λ (x : State). x.at) c.with_count.ensures;
      indexed = enter_tracked _ c.args.s _ _ _ _ _ _ _ c.count_of-n.ensures c.enter_token.ensures.is c.requires.ten _ _ c.in-Some.is c.with_count.ensures _ c.enter_token.ensures.held.0;
    }

pub returns-in-None : goal.returns-in-None
returns-in-None c =
    record {
      is = enter_full _ _ _ _ _ _ _ _ _ c.count_of-n.ensures c.enter_token.ensures.is _ c.in-None.is c.no_room.ensures;
      kept = search rules;
      indexed = full_tracked _ c.args.s _ _ _ _ _ _ _ c.count_of-n.ensures c.enter_token.ensures.is c.requires.ten c.in-None.is _ c.enter_token.ensures.held.0;
    }
