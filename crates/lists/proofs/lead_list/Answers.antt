-- `lists::lead_list`.
use mathlib.Core.Path.{refl}
use Rattle.marks.proofs.Laws.{standing}
use Rattle.lists.proofs.Laws.{lead_tokens, lead_types, lead_unused}
use Rattle.lists.proofs.lead_list.Goals as goal

pub returns-in-TokenList : goal.returns-in-TokenList
returns-in-TokenList c =
    record {
      is = lead_tokens _ _ _ _ c.in-TokenList.is c.lead_tag.ensures.is;
      moved = c.lead_tag.ensures.moved;
      counted = c.lead_tag.ensures.counted;
    }

pub returns-in-UnusedList : goal.returns-in-UnusedList
returns-in-UnusedList c =
    record {
      is = lead_unused _ _ _ c.in-UnusedList.is;
      moved = standing _ _ _;
      counted = refl;
    }

pub returns-in-TypeList : goal.returns-in-TypeList
returns-in-TypeList c =
    record {
      is = lead_types _ _ _ _ c.in-TypeList.is c.lead_tag-in-TypeList.ensures.is;
      moved = c.lead_tag-in-TypeList.ensures.moved;
      counted = c.lead_tag-in-TypeList.ensures.counted;
    }
