-- `lists::list_item`: an item of the list that it is asked for.
use mathlib.Core.Path.{ap}
use Rattle.lists.specs.Written.{of_tokens}
use Rattle.lists.proofs.Tracks.{tracked, untracked}
use Rattle.lists.proofs.Laws.{item_token, item_unused, item_type}
use Rattle.lists.proofs.list_item.Goals as goal

pub token_item-requires : goal.token_item-requires
token_item-requires c = (c.requires.0, c.requires.1.keeps (ap of_tokens c.in-TokenList.is))

pub returns-in-TokenList : goal.returns-in-TokenList
returns-in-TokenList c =
    let h = c.in-TokenList.is in
    record {
      is = item_token _ _ _ _ _ _ _ _ h c.token_item.ensures.is;
      moved = c.token_item.ensures.moved;
      indexed = tracked (ap of_tokens h) c.token_item.ensures.indexed;
    }

pub returns-in-UnusedList : goal.returns-in-UnusedList
returns-in-UnusedList c =
    let h = c.in-UnusedList.is in
    record {
      is = item_unused _ _ _ _ _ _ _ _ h c.unused_item.ensures.is;
      moved = c.unused_item.ensures.moved;
      indexed = untracked (ap of_tokens h);
    }

pub returns-in-TypeList : goal.returns-in-TypeList
returns-in-TypeList c =
    let h = c.in-TypeList.is in
    record {
      is = item_type _ _ _ _ _ _ _ _ h c.type_item.ensures.is;
      moved = c.type_item.ensures.moved;
      indexed = untracked (ap of_tokens h);
    }
