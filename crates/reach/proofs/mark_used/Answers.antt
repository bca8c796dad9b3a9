-- `reach::mark_used`: zeros, the start, along every chain, the tokens.
use Prim.Native.Nat.{ℕ}
use mathlib.Core.Path.{◌≡◌, ap, ◌∙◌}
use native.Mathlib.Omega.{arith}
use borrow.Author.Rules.{rules}
use lib.ListN.{length, length-replicate}
use Rattle.reach.specs.Reach.{grammar_of}
use Rattle.reach.proofs.Works.{works}
use Rattle.reach.proofs.mark_used.Goals as goal

pub mark_tokens-requires : goal.mark_tokens-requires
mark_tokens-requires c = (search rules, c.requires.0.tokens_apart, c.requires.0.tokens_told, c.requires.0.owned)

pub returns : goal.returns
returns c =
    let a = c.args in
    let same : length c.zero.new.t ≡ length a.w.now = ap length c.zero.ensures ∙ length-replicate {A = ℕ} _ 0 in (
      omega (arith, c.if-w-rules.false, c.words_for-tokens.ensures, c.rows_of-2.ensures, c.words_for-rules.ensures, c.rows_of.ensures),
      c.mark_tokens.ensures.size ∙ c.spread.ensures.size ∙ c.mark_start.ensures.size ∙ same,
      works (grammar_of a.src.now a.c a.start a.t1.now a.t7.now a.t8.now a.t9.now) (length a.w.now) c.mark_start.new.w c.spread.new.w c.mark_tokens.new.w
          (rw c.zero.ensures at c.mark_start.ensures) c.spread.ensures c.mark_tokens.ensures (λ i. (c.slice_known-5-1.given i).fits),
    )
