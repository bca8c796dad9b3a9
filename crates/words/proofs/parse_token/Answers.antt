-- `words::parse_token`.
use borrow.Author.Rules.{rules}
use Rattle.words.proofs.Words.{token_end, token_quoted, token_bare, token_no, token_placed}
use Rattle.words.proofs.parse_token.Goals as goal

pub returns-then-s-from : goal.returns-then-s-from
returns-then-s-from c =
    let it = token_placed _ _ _ (search (token_end, rules)) in
    record { value = it.0; tokened = it.1 }

pub returns-then-is_quote : goal.returns-then-is_quote
returns-then-is_quote c =
    let it = token_placed _ _ _ (search (token_quoted, rules)) in
    record { value = it.0; tokened = it.1 }

pub returns-in-Some : goal.returns-in-Some
returns-in-Some c =
    let it = token_placed _ _ _ (search (token_bare, rules)) in
    record { value = it.0; tokened = it.1 }

pub returns-in-None : goal.returns-in-None
returns-in-None c =
    let it = token_placed _ _ _ (search (token_no, rules)) in
    record { value = it.0; tokened = it.1 }
