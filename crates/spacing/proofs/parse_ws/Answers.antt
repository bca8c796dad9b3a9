-- `spacing::parse_ws`: what is left of the spacing gives the whole's answer, in a comment too.
use borrow.Author.Rules.{rules}
use Rattle.scan.proofs.Bytes.{at_next}
use Rattle.spacing.proofs.Laws.{a_blank, a_comment, a_end, c_end, a_eol, a_line_last, a_line_counted, a_other, a_refused, a_slash_end, a_slash_other, c_eol_close, c_eol_next, c_eol_on, c_run, c_refused, c_star_close, c_star_on}
use Rattle.spacing.proofs.Places.{placed}
use Rattle.spacing.proofs.parse_ws.Goals as goal

pub gap-init : goal.gap-init
gap-init c = search rules

pub bounds-s-i : goal.bounds-s-i
bounds-s-i c = search rules

pub overflow_add-i : goal.overflow_add-i
overflow_add-i c = search rules

pub gap-smaller-in-9 : goal.gap-smaller-in-9
gap-smaller-in-9 c = search rules

pub gap-preserved-in-9 : goal.gap-preserved-in-9
gap-preserved-in-9 c = search (a_blank, rules)

pub returns-then-not-ends_allowed : goal.returns-then-not-ends_allowed
returns-then-not-ends_allowed c =
    let it = placed _ _ _ _ _ (search rules) (search (a_refused, rules)) in
    record { value = it.0; spaces = it.1 }

pub lines_at-n-requires : goal.lines_at-n-requires
lines_at-n-requires c = search rules

pub overflow_add-n : goal.overflow_add-n
overflow_add-n c = search rules

pub overflow_add-i-in-10 : goal.overflow_add-i-in-10
overflow_add-i-in-10 c = search rules

pub gap-smaller-in-10 : goal.gap-smaller-in-10
gap-smaller-in-10 c = search rules

pub gap-preserved-in-10 : goal.gap-preserved-in-10
gap-preserved-in-10 c = search (a_eol, rules)

pub overflow_add-j : goal.overflow_add-j
overflow_add-j c = search rules

pub bounds-s-j : goal.bounds-s-j
bounds-s-j c = search rules

pub far_end-e-requires : goal.far_end-e-requires
far_end-e-requires c = search rules

pub gap-smaller-then-s-e : goal.gap-smaller-then-s-e
gap-smaller-then-s-e c = search rules

pub gap-preserved-then-s-e : goal.gap-preserved-then-s-e
gap-preserved-then-s-e c = search (a_line_last, rules)

pub lines_at-n-requires-else-s-e : goal.lines_at-n-requires-else-s-e
lines_at-n-requires-else-s-e c = search rules

pub overflow_add-n-else-s-e : goal.overflow_add-n-else-s-e
overflow_add-n-else-s-e c = search rules

pub overflow_add-i-else-s-e : goal.overflow_add-i-else-s-e
overflow_add-i-else-s-e c = search rules

pub gap-smaller-else-s-e : goal.gap-smaller-else-s-e
gap-smaller-else-s-e c = search rules

pub gap-preserved-else-s-e : goal.gap-preserved-else-s-e
gap-preserved-else-s-e c = search (a_line_counted, rules)

pub overflow_add-k : goal.overflow_add-k
overflow_add-k c = search rules

pub comment-init : goal.comment-init
comment-init c = search (a_comment, rules)

pub returns-then-s-k : goal.returns-then-s-k
returns-then-s-k c =
    let it = placed _ _ _ _ _ (search rules) (search (c_end, rules)) in
    record { value = it.0; spaces = it.1 }

pub bounds-s-k : goal.bounds-s-k
bounds-s-k c = search rules

pub overflow_add-k-in-comment : goal.overflow_add-k-in-comment
overflow_add-k-in-comment c = search rules

pub returns-then-not-ends_allowed-2 : goal.returns-then-not-ends_allowed-2
returns-then-not-ends_allowed-2 c =
    let it = placed _ _ _ _ _ (search rules) (c_refused _ _ _ _ _ _ _ c.comment.invariant.3 c.if-s-k.false c.in-10-e.is c.if-not-ends_allowed-2.true-raw) in
    record { value = it.0; spaces = it.1 }

pub lines_at-n-requires-in-10-e : goal.lines_at-n-requires-in-10-e
lines_at-n-requires-in-10-e c = search rules

pub overflow_add-n-in-10-e : goal.overflow_add-n-in-10-e
overflow_add-n-in-10-e c = search rules

pub is_at-requires : goal.is_at-requires
is_at-requires c = search rules

pub overflow_add-k-then-kind-is_at : goal.overflow_add-k-then-kind-is_at
overflow_add-k-then-kind-is_at c = search rules

pub comment-smaller-else-kind-is_at : goal.comment-smaller-else-kind-is_at
comment-smaller-else-kind-is_at c = search rules

pub comment-preserved-else-kind-is_at : goal.comment-preserved-else-kind-is_at
comment-preserved-else-kind-is_at c = search (c_eol_on, rules)

pub is_at-requires-in-42-e : goal.is_at-requires-in-42-e
is_at-requires-in-42-e c = search rules

pub overflow_add-k-then-is_at : goal.overflow_add-k-then-is_at
overflow_add-k-then-is_at c = search rules

pub comment-smaller-else-is_at : goal.comment-smaller-else-is_at
comment-smaller-else-is_at c = search rules

pub comment-preserved-else-is_at : goal.comment-preserved-else-is_at
comment-preserved-else-is_at c = search (c_star_on, rules)

pub far_end-k-requires : goal.far_end-k-requires
far_end-k-requires c = search rules

pub comment-smaller : goal.comment-smaller
comment-smaller c = search rules

pub comment-preserved : goal.comment-preserved
comment-preserved c = search (c_run, rules)

pub gap-smaller-then-kind-is_at : goal.gap-smaller-then-kind-is_at
gap-smaller-then-kind-is_at c = search rules

pub gap-preserved-then-kind-is_at : goal.gap-preserved-then-kind-is_at
gap-preserved-then-kind-is_at c =
    let g = c.comment.invariant.3 in (
      c_eol_next _ _ _ _ _ _ _ g c.if-s-k.false _ c.is_at.ensures c.if-kind-is_at.true,
      search rules,
      c_eol_close _ _ _ _ _ _ _ g c.if-s-k.false _ c.is_at.ensures _ c.in-10-e.is c.if-not-ends_allowed-2.false-raw c.if-kind-is_at.true c.lines_at-n-in-10-e.ensures.value,
    )

pub gap-smaller : goal.gap-smaller
gap-smaller c = search rules

pub gap-preserved : goal.gap-preserved
gap-preserved c =
    (at_next _ _ _ _ c.is_at-in-42-e.ensures c.if-is_at.true, search rules, c_star_close _ _ _ _ _ _ _ c.comment.invariant.3 c.if-s-k.false _ c.is_at-in-42-e.ensures c.in-42-e.is c.if-is_at.true)

pub returns-after-gap : goal.returns-after-gap
returns-after-gap c =
    let it = placed _ _ _ _ _ (search rules) (search (a_end, rules)) in
    record { value = it.0; spaces = it.1 }

pub returns-then-s-j : goal.returns-then-s-j
returns-then-s-j c =
    let it = placed _ _ _ _ _ (search rules) (search (a_slash_end, rules)) in
    record { value = it.0; spaces = it.1 }

pub returns-in_default-d : goal.returns-in_default-d
returns-in_default-d c =
    let it = placed _ _ _ _ _ (search rules) (search (a_slash_other, rules)) in
    record { value = it.0; spaces = it.1 }

pub returns-in_default : goal.returns-in_default
returns-in_default c =
    let it = placed _ _ _ _ _ (search rules) (search (a_other, rules)) in
    record { value = it.0; spaces = it.1 }
