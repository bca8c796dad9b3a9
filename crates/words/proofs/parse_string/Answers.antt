-- `words::parse_string`: what is left of the string gives the whole's answer.
use borrow.Author.Rules.{rules}
use Rattle.words.proofs.Strings.{string_end_lem, string_no, string_opens, s_end, s_closed, s_line, s_on, s_last, s_bad, s_escaped, string_placed}
use Rattle.words.proofs.parse_string.Goals as goal

pub returns-then-s-from : goal.returns-then-s-from
returns-then-s-from c =
    let it = string_placed _ _ _ (search (string_end_lem, rules)) in
    record { value = it.0; stringed = it.1 }

pub returns-then-not-is_quote : goal.returns-then-not-is_quote
returns-then-not-is_quote c =
    let it = string_placed _ _ _ (search (string_no, rules)) in
    record { value = it.0; stringed = it.1 }

pub loop-j-init : goal.loop-j-init
loop-j-init c = search (string_opens, rules)

pub returns-then-c-q : goal.returns-then-c-q
returns-then-c-q c =
    let it = string_placed _ _ _ (search (s_closed, rules)) in
    record { value = it.0; stringed = it.1 }

pub returns-in-10 : goal.returns-in-10
returns-in-10 c =
    let it = string_placed _ _ _ (search (s_line, rules)) in
    record { value = it.0; stringed = it.1 }

pub returns-then-s-k : goal.returns-then-s-k
returns-then-s-k c =
    let it = string_placed _ _ _ (search (s_last, rules)) in
    record { value = it.0; stringed = it.1 }

pub returns-then-not-is_quote-2 : goal.returns-then-not-is_quote-2
returns-then-not-is_quote-2 c =
    let it = string_placed _ _ _ (s_bad _ _ _ _ c.loop-j.invariant.1 c.loop-j-test.true c.if-c-q.false c.in-92.is c.if-s-k.false _ c.is_quote-in-92.ensures c.if-not-is_quote-2.true-raw) in
    record { value = it.0; stringed = it.1 }

pub loop-j-preserved-in-92 : goal.loop-j-preserved-in-92
loop-j-preserved-in-92 c = search (s_escaped, rules)

pub loop-j-preserved : goal.loop-j-preserved
loop-j-preserved c = search (s_on, rules)

pub returns : goal.returns
returns c =
    let it = string_placed _ _ _ (search (s_end, rules)) in
    record { value = it.0; stringed = it.1 }
