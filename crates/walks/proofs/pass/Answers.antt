-- `walks::pass`: rules are sought first, and tokens where none of them is left.
use native.Mathlib.Omega.{arith}
use Rattle.reach.specs.Reach.{named, rule_sort, token_sort}
use Rattle.usage.specs.Report.{excuses_of}
use Rattle.usage.proofs.Passes.{base_low}
use Rattle.walks.proofs.Laws.{passed_rule, passed_token, passed_all, found_below}
use Rattle.walks.proofs.pass.Goals as goal

-- a count is a 32-bit number, so the bits lie low
pub first_free-requires : goal.first_free-requires
first_free-requires c = rw ((c.rule_sort-rules.ensures)) (omega arith)

pub overflow_add-result : goal.overflow_add-result
overflow_add-result c = record { fits = omega (arith, found_below _ _ _ _ _ c.first_free.ensures c.in-Some.is, c.rule_sort-rules.type_inv.1.1.1.1.0.1) }

pub first_free-requires-in-None : goal.first_free-requires-in-None
first_free-requires-in-None c = rw ((c.token_sort-tokens.ensures)) (base_low _ (rw ((c.rule_sort-rules.ensures)) at c.rule_sort-rules.type_inv.1.1.1.1.0.1))

pub overflow_add-result-in-Some-first_free : goal.overflow_add-result-in-Some-first_free
overflow_add-result-in-Some-first_free c =
    record { fits = omega (arith, found_below _ _ _ _ _ c.first_free-in-None.ensures c.in-Some-first_free.is, c.token_sort-tokens.type_inv.1.1.1.1.0.1) }

pub returns-in-Some : goal.returns-in-Some
returns-in-Some c =
    passed_rule c.args.w.now (excuses_of c.args.src.now c.args.c c.args.t4.now c.args.t6.now) (named c.args.t7.now (rule_sort c.args.c)) (named c.args.t1.now (token_sort c.args.c)) c.args.at _ _ (rw ((c.rule_sort-rules.ensures)) at c.first_free.ensures) c.in-Some.is

pub returns-in-Some-first_free : goal.returns-in-Some-first_free
returns-in-Some-first_free c =
    passed_token c.args.w.now (excuses_of c.args.src.now c.args.c c.args.t4.now c.args.t6.now) (named c.args.t7.now (rule_sort c.args.c)) (named c.args.t1.now (token_sort c.args.c)) c.args.at _ (rw ((c.rule_sort-rules.ensures)) at c.first_free.ensures) c.in-None.is _ _ (rw ((c.token_sort-tokens.ensures)) at c.first_free-in-None.ensures) c.in-Some-first_free.is

pub returns-in-None-first_free : goal.returns-in-None-first_free
returns-in-None-first_free c =
    passed_all c.args.w.now (excuses_of c.args.src.now c.args.c c.args.t4.now c.args.t6.now) (named c.args.t7.now (rule_sort c.args.c)) (named c.args.t1.now (token_sort c.args.c)) c.args.at _ (rw ((c.rule_sort-rules.ensures)) at c.first_free.ensures) c.in-None.is _ (rw ((c.token_sort-tokens.ensures)) at c.first_free-in-None.ensures) c.in-None-first_free.is
