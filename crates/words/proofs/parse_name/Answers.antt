-- `words::parse_name`.
use borrow.Author.Rules.{rules}
use Rattle.words.proofs.Words.{name_to, name_no, name_placed}
use Rattle.words.proofs.parse_name.Goals as goal

pub returns-in-Some : goal.returns-in-Some
returns-in-Some c =
    let it = name_placed _ _ _ (search (name_to, rules)) in
    record { value = it.0; named = it.1 }

pub returns-in-None : goal.returns-in-None
returns-in-None c =
    let it = name_placed _ _ _ (search (name_no, rules)) in
    record { value = it.0; named = it.1 }
