-- `words::word_at`.
use borrow.Author.Rules.{rules}
use Rattle.words.proofs.Words.{word_end, word_no, word_to, word_placed}
use Rattle.words.proofs.word_at.Goals as goal

pub returns-then-s-from : goal.returns-then-s-from
returns-then-s-from c =
    let it = word_placed _ _ _ _ _ (search (word_end, rules)) in
    record { value = it.0; worded = it.1 }

pub returns-then-in_class : goal.returns-then-in_class
returns-then-in_class c =
    let it = word_placed _ _ _ _ _ (search (word_to, rules)) in
    record { value = it.0; worded = it.1 }

pub returns-else-in_class : goal.returns-else-in_class
returns-else-in_class c =
    let it = word_placed _ _ _ _ _ (search (word_no, rules)) in
    record { value = it.0; worded = it.1 }
