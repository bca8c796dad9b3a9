-- `usage::is_crowded`: where every row has room nothing is counted, else both sorts are.
use Prim.Native.Nat.{◌<◌, ◌^◌}
use mathlib.Core.Path.{refl, ap}
use native.Mathlib.Omega.{arith}
use Rattle.reach.specs.declared.Sort.{Sort}
use Rattle.usage.proofs.Picked.{picks_bound}
use Rattle.usage.proofs.Passes.{base_low, fits_all, crowds_counted}
use Rattle.usage.proofs.is_crowded.Goals as goal

pub returns-then-rules-tokens : goal.returns-then-rules-tokens
returns-then-rules-tokens c =
    fits_all _ (omega (arith, c.if-rules-tokens.true, ap (λ (z : Sort). z.count) ((c.rule_sort-rules.ensures)), ap (λ (z : Sort). z.count) ((c.token_sort-tokens.ensures))))

pub count_sort-first-requires : goal.count_sort-first-requires
count_sort-first-requires c = (let it : c.rule_sort-rules.result.base < 2 ^ 40 = rw ((c.rule_sort-rules.ensures)) (omega arith) in it)

pub count_sort-second-requires : goal.count_sort-second-requires
count_sort-second-requires c =
    (let it : c.token_sort-tokens.result.base < 2 ^ 40 = rw ((c.token_sort-tokens.ensures)) (base_low _ (rw ((c.rule_sort-rules.ensures)) at c.rule_sort-rules.type_inv.1.1.1.1.0.1)) in it)

pub overflow_add-result : goal.overflow_add-result
overflow_add-result c =
    omega (arith, picks_bound c.count_sort-first.ensures.picks, c.count_sort-first.ensures.count_is, c.rule_sort-rules.type_inv.1.1.1.1.0.1, picks_bound c.count_sort-second.ensures.picks, c.count_sort-second.ensures.count_is, c.token_sort-tokens.type_inv.1.1.1.1.0.1)

pub returns : goal.returns
returns c =
    crowds_counted _ (rw ((c.rule_sort-rules.ensures)) at c.count_sort-first.ensures) (rw ((c.token_sort-tokens.ensures)) at c.count_sort-second.ensures) _ refl
