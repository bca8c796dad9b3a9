use Rattle.reach.specs.Reach.{named, net, token_sort}
use Rattle.reach.proofs.Works.{TokensTo}
use Rattle.reach.proofs.mark_tokens_led.Given as goal

abbrev pub invariant-loop-p : goal.invariant-loop-p
invariant-loop-p l = TokensTo (net l.src l.c l.prods l.syms) (named l.tokens (token_sort l.c)) l.p l.initial.w l.w
