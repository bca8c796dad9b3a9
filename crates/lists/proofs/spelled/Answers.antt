-- `lists::spelled`.
use Rattle.lists.proofs.Laws.{spelled_name_lem, name_spells, spelled_token_lem, spelled_none, token_spells, none_spells}
use Rattle.lists.proofs.spelled.Goals as goal

pub returns-in-Ok : goal.returns-in-Ok
returns-in-Ok c =
    record {
      is = spelled_name_lem _ _ _ c.parse_name.ensures.value _ c.in-Ok.is;
      moved = name_spells _ _ _ c.parse_name.ensures.value _ c.parse_name.ensures.named c.in-Ok.is;
    }

pub returns-in-Ok-parse_token : goal.returns-in-Ok-parse_token
returns-in-Ok-parse_token c =
    record {
      is = spelled_token_lem _ _ _ c.parse_name.ensures.value _ c.in-Err.is _ c.parse_token.ensures.value _ _ _ c.in-Ok-parse_token.is;
      moved = token_spells _ _ _ _ _ _ c.parse_token.ensures.tokened c.in-Ok-parse_token.is;
    }

pub returns-in-Err-parse_token : goal.returns-in-Err-parse_token
returns-in-Err-parse_token c =
    record {
      is = spelled_none _ _ _ c.parse_name.ensures.value _ c.in-Err.is _ c.parse_token.ensures.value _ c.in-Err-parse_token.is;
      moved = none_spells _ _ _ _ c.parse_token.ensures.tokened c.in-Err-parse_token.is;
    }
