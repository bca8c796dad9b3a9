-- `texts::parse_action`: the scan, then trimming.
use native.Mathlib.Omega.{arith}
use borrow.Author.Rules.{rules}
use Rattle.texts.proofs.Laws.{brace_below, brace_fits, action_body, action_open, action_placed}
use Rattle.texts.proofs.parse_action.Goals as goal

pub trim-text-requires : goal.trim-text-requires
trim-text-requires c = search (brace_below, rules)

pub overflow_add-result : goal.overflow_add-result
overflow_add-result c = let h = (brace_fits _ _ _ _ _ c.closing_brace.ensures.braced c.in-Some.is).0 in omega arith

pub returns-in-Some : goal.returns-in-Some
returns-in-Some c =
    let it = action_placed _ _ (search rules) _ (search (action_body, rules)) in
    record { value = it.0; acted = it.1 }

pub returns-in-None : goal.returns-in-None
returns-in-None c =
    let it = action_placed _ _ (search rules) _ (search (action_open, rules)) in
    record { value = it.0; acted = it.1 }
