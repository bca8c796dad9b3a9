-- `words::parse_tag`.
use borrow.Author.Rules.{rules}
use Rattle.words.proofs.Tags.{tag_none, tag_next, tag_found_lem, tag_open, tag_placed}
use Rattle.words.proofs.parse_tag.Goals as goal

pub returns-then-not-is_at : goal.returns-then-not-is_at
returns-then-not-is_at c =
    let it = tag_placed _ _ _ (search (tag_none, rules)) in
    record { value = it.0; tagged = it.1 }

pub run_end-to-requires : goal.run_end-to-requires
run_end-to-requires c = search (tag_next, rules)

pub returns-then-is_at : goal.returns-then-is_at
returns-then-is_at c =
    let it = tag_placed _ _ _ (search (tag_found_lem, rules)) in
    record { value = it.0; tagged = it.1 }

pub returns-else-is_at : goal.returns-else-is_at
returns-else-is_at c =
    let it = tag_placed _ _ _ (search (tag_open, rules)) in
    record { value = it.0; tagged = it.1 }
