-- `texts::single_colon`: what is left of the text gives the whole's answer.
use borrow.Author.Rules.{rules}
use Rattle.texts.proofs.Laws.{c_end, c_eol, c_on, c_twice, c_single, twice_below, single_placed}
use Rattle.texts.proofs.single_colon.Goals as goal

pub returns-then-not-is_at : goal.returns-then-not-is_at
returns-then-not-is_at c =
    let it = single_placed _ _ (search rules) _ (search (c_single, rules)) in
    record { value = it.0; singled = it.1 }

pub loop-j-preserved-in-58 : goal.loop-j-preserved-in-58
loop-j-preserved-in-58 c = search (twice_below, c_twice, rules)

pub loop-j-preserved-in-10 : goal.loop-j-preserved-in-10
loop-j-preserved-in-10 c = search (c_eol, rules)

pub loop-j-preserved : goal.loop-j-preserved
loop-j-preserved c = search (c_on, rules)

pub returns : goal.returns
returns c =
    let it = single_placed _ _ (search rules) _ (search (c_end, rules)) in
    record { value = it.0; singled = it.1 }
