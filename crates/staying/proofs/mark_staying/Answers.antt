-- `staying::mark_staying`: zeros, the start and the excused rules, along every chain, the tokens, the excused tokens.
use Prim.Native.Nat.{ℕ, ◌+◌, ◌≤◌, ◌<◌, ◌^◌}
use mathlib.Core.Path.{refl, ap, ◌∙◌}
use native.Mathlib.Omega.{arith}
use lib.ListN.{length, length-replicate}
use Rattle.tables.specs.Layout.{tokens, rules}
use Rattle.sound.specs.Test.{count_at}
use Rattle.reach.specs.Reach.{words_for, grammar_of}
use Rattle.usage.specs.Report.{excuses_of}
use Rattle.staying.proofs.Laws.{fits_rules, fits_tokens, stays}
use Rattle.staying.proofs.mark_staying.Goals as goal

pub mark_excused-requires : goal.mark_excused-requires
mark_excused-requires c =
    let size = c.mark_start.ensures.size ∙ (ap length c.zero.ensures ∙ length-replicate {A = ℕ} _ 0) in
    rw c.rule_sort.ensures (fits_rules c.args.c _ (rw size ((let it : words_for (count_at c.args.c rules) + words_for (count_at c.args.c tokens) ≤ length c.args.w.now = omega (arith, c.if-w-rules.false, c.words_for-tokens.ensures, c.rows_of-2.ensures, c.words_for-rules.ensures, c.rows_of.ensures) in it))), c.requires.0.rules_apart)

pub spread-requires : goal.spread-requires
spread-requires c =
    let size = c.mark_excused.ensures.size ∙ c.mark_start.ensures.size ∙ (ap length c.zero.ensures ∙ length-replicate {A = ℕ} _ 0) in
    (fits_rules c.args.c _ (rw size ((let it : words_for (count_at c.args.c rules) + words_for (count_at c.args.c tokens) ≤ length c.args.w.now = omega (arith, c.if-w-rules.false, c.words_for-tokens.ensures, c.rows_of-2.ensures, c.words_for-rules.ensures, c.rows_of.ensures) in it))), c.requires.0.rules_told)

pub mark_tokens-requires : goal.mark_tokens-requires
mark_tokens-requires c =
    let size = c.spread.ensures.size ∙ c.mark_excused.ensures.size ∙ c.mark_start.ensures.size ∙ (ap length c.zero.ensures ∙ length-replicate {A = ℕ} _ 0) in
    (fits_tokens c.args.c _ (rw size ((let it : words_for (count_at c.args.c rules) + words_for (count_at c.args.c tokens) ≤ length c.args.w.now = omega (arith, c.if-w-rules.false, c.words_for-tokens.ensures, c.rows_of-2.ensures, c.words_for-rules.ensures, c.rows_of.ensures) in it))) ((let it : count_at c.args.c rules < 2 ^ 32 = omega (arith, c.rows_of.ensures, c.rows_of.type_inv) in it)), c.requires.0.tokens_apart, c.requires.0.tokens_told, c.requires.0.owned)

pub mark_excused-requires-2 : goal.mark_excused-requires-2
mark_excused-requires-2 c =
    let size = c.mark_tokens.ensures.size ∙ c.spread.ensures.size ∙ c.mark_excused.ensures.size ∙ c.mark_start.ensures.size ∙ (ap length c.zero.ensures ∙ length-replicate {A = ℕ} _ 0) in
    rw c.token_sort.ensures (fits_tokens c.args.c _ (rw size ((let it : words_for (count_at c.args.c rules) + words_for (count_at c.args.c tokens) ≤ length c.args.w.now = omega (arith, c.if-w-rules.false, c.words_for-tokens.ensures, c.rows_of-2.ensures, c.words_for-rules.ensures, c.rows_of.ensures) in it))) ((let it : count_at c.args.c rules < 2 ^ 32 = omega (arith, c.rows_of.ensures, c.rows_of.type_inv) in it)), c.requires.0.tokens_apart)

pub shape_of-w : goal.shape_of-w
shape_of-w c =
    c.mark_excused-2.ensures.size ∙ c.mark_tokens.ensures.size ∙ c.spread.ensures.size ∙ c.mark_excused.ensures.size ∙ c.mark_start.ensures.size ∙ (ap length c.zero.ensures ∙ length-replicate {A = ℕ} _ 0)

pub returns : goal.returns
returns c =
    let a = c.args in (
      (let it : words_for (count_at c.args.c rules) + words_for (count_at c.args.c tokens) ≤ length c.args.w.now = omega (arith, c.if-w-rules.false, c.words_for-tokens.ensures, c.rows_of-2.ensures, c.words_for-rules.ensures, c.rows_of.ensures) in it),
      shape_of-w c,
      stays (grammar_of a.src.now a.c a.start a.t1.now a.t7.now a.t8.now a.t9.now) (excuses_of a.src.now a.c a.t4.now a.t6.now) (length a.w.now) c.mark_start.new.w c.mark_excused.new.w c.spread.new.w c.mark_tokens.new.w c.mark_excused-2.new.w refl
          (rw c.zero.ensures at c.mark_start.ensures) (rw c.rule_sort.ensures at c.mark_excused.ensures) c.spread.ensures c.mark_tokens.ensures (rw c.token_sort.ensures at c.mark_excused-2.ensures) (λ i. (c.slice_known-7-1.given i).fits),
    )
