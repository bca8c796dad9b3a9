-- `items::token_symbol`.
use mathlib.Core.Path.{◌∙◌}
use native.Mathlib.Omega.{arith}
use Rattle.grammar.proofs.Spares.{tracked_pushed}
use Rattle.items.proofs.Symbols.{symbol_entered_lem, symbol_done, symbol_refused}
use Rattle.items.proofs.token_symbol.Goals as goal

pub enter-e-requires : goal.enter-e-requires
enter-e-requires c = c.requires

pub returns-in-Going : goal.returns-in-Going
returns-in-Going c =
    record {
      is = symbol_entered_lem _ _ _ _ _ _ _ c.enter-e.ensures.is _ c.in-Going.is c.push.ensures.is;
      kept = c.push.ensures.kept ∙ c.enter-e.ensures.kept;
      indexed = tracked_pushed _ 0 3 0 c.enter-e.result.state 8 _ _ _ _ _ _ _ (λ z. omega arith) c.push.ensures.is c.enter-e.ensures.indexed;
    }

pub returns-in-Done : goal.returns-in-Done
returns-in-Done c =
    record {
      is = symbol_done _ _ _ _ _ _ _ c.enter-e.ensures.is c.in-Done.is;
      kept = c.enter-e.ensures.kept;
      indexed = c.enter-e.ensures.indexed;
    }

pub returns-in-Refused : goal.returns-in-Refused
returns-in-Refused c =
    record {
      is = symbol_refused _ _ _ _ _ _ _ c.enter-e.ensures.is _ c.in-Refused.is;
      kept = c.enter-e.ensures.kept;
      indexed = c.enter-e.ensures.indexed;
    }
