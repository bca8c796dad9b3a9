-- `utf8::decode`: what the loop has still to follow gives the definition's answer.
use native.Mathlib.Omega.{arith}
use borrow.Author.Rules.{rules}
use Rattle.utf8.proofs.Utf8.{decode_end, decode_one, decode_more, decode_never, follow_done, follow_short, follow_low, follow_high, follow_on, cap_top, cap_next, fitting_more, decodes}
use Rattle.utf8.proofs.decode.Goals as goal

pub returns-then-s-i : goal.returns-then-s-i
returns-then-s-i c = search (decode_end, rules)

pub loop-n-init : goal.loop-n-init
loop-n-init c =
    let x = fitting_more _ _ _ _ _ c.lead_of.ensures.fitting c.in-More.is in
    (search rules, x.0, x.1, x.2, search (decode_more, rules))

pub returns-then-s-j : goal.returns-then-s-j
returns-then-s-j c = search (follow_short, rules)

pub returns-then-b-lo : goal.returns-then-b-lo
returns-then-b-lo c = search (follow_low, rules)

pub returns-then-hi-b : goal.returns-then-hi-b
returns-then-hi-b c = search (follow_high, rules)

pub overflow_mul-v : goal.overflow_mul-v
overflow_mul-v c = omega (arith, cap_top _ _ c.loop-n-test.true c.loop-n.invariant.1)

pub overflow_add-v : goal.overflow_add-v
overflow_add-v c = omega (arith, cap_top _ _ c.loop-n-test.true c.loop-n.invariant.1)

pub loop-n-preserved : goal.loop-n-preserved
loop-n-preserved c =
    (search rules, cap_next _ _ _ c.loop-n-test.true c.loop-n.invariant.1 (omega arith), search rules, search rules, search (follow_on, rules))

pub returns-in-One : goal.returns-in-One
returns-in-One c = search (decode_one, decodes, rules)

pub returns-after-loop-n : goal.returns-after-loop-n
returns-after-loop-n c = search (follow_done, decodes, rules)

pub returns-in-Never : goal.returns-in-Never
returns-in-Never c = search (decode_never, rules)
