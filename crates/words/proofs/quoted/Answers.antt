-- `words::quoted`.
use borrow.Author.Rules.{rules}
use Rattle.words.proofs.Words.{quoted_short, quoted_lf, quoted_found_lem, quoted_open, quoted_placed}
use Rattle.words.proofs.quoted.Goals as goal

pub returns-then-s-i : goal.returns-then-s-i
returns-then-s-i c =
    let it = quoted_placed _ _ _ _ (search (quoted_short, rules)) in
    record { value = it.0; tokened = it.1 }

pub returns-then-s-i-eq10 : goal.returns-then-s-i-eq10
returns-then-s-i-eq10 c =
    let it = quoted_placed _ _ _ _ (search (quoted_lf, rules)) in
    record { value = it.0; tokened = it.1 }

pub returns-then-is_at : goal.returns-then-is_at
returns-then-is_at c =
    let it = quoted_placed _ _ _ _ (search (quoted_found_lem, rules)) in
    record { value = it.0; tokened = it.1 }

pub returns-else-is_at : goal.returns-else-is_at
returns-else-is_at c =
    let it = quoted_placed _ _ _ _ (search (quoted_open, rules)) in
    record { value = it.0; tokened = it.1 }
