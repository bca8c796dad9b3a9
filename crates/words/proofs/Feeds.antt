-- A token holds no LF, from where it was sought to its end, its quotes with it; a tag no line end. Assumes nothing.
use Rattle.std.specs.Prelude.{Ok}
use Prim.Native.Nat.{ℕ, ◌+◌, ◌≤◌, ◌<◌}
use mathlib.Core.Path.{◌≡◌, sym, ◌∙◌}
use mathlib.Core.List.{List}
use mathlib.Core.Bool.{Bool, true, false, not, false≢true, and-false, and-eq-true_iff}
use native.Mathlib.Omega.{arith}
use native.Mathlib.Decide.{ℕ_discrete}
use lib.Dec.{eqb}
use lib.ListN.{get_or}
use borrow.Author.Tests.{not-true}
use Rattle.scan.specs.declared.Place.{Place}
use Rattle.scan.specs.declared.Class.TheVariants.{TokenStart, TokenByte, Unquoted, TagByte}
use Rattle.scan.specs.Scan.{is_letter, is_digit, is_eol, in_class}
use Rattle.words.specs.Words.{is_quote, token_at, IsWord, IsQuoted, IsToken, bare_token, quoted_token}
use Rattle.words.specs.Tags.{tag_at, IsTag}
use Rattle.words.proofs.Meaning.{token_iff, tag_iff}

-- a quote is no LF, and neither is what a quoted token holds
quote_no_feed : (c : ℕ) → is_quote c ≡ true → c ≡ 10 → ⊥
unfolding is_quote
quote_no_feed c t e = false≢true (rw e at t)

inner_no_feed : (q c : ℕ) → in_class (Unquoted q) c ≡ true → c ≡ 10 → ⊥
unfolding in_class
inner_no_feed q c t e = false≢true (sym (and-false (not (eqb 10 q))) ∙ (rw e at t))

module _ (s : List ℕ) (from k : ℕ) (h : from ≤ k) (f : get_or s k 0 ≡ 10) where
  in-bare : (to : ℕ) → k < to → IsWord TokenStart TokenByte s from to → ⊥
  unfolding in_class is_letter is_digit
  in-bare to l w =
      elim (ℕ_discrete k from) [
        | yes q ↦ false≢true (rw (← q, f) at w.begins)
        | no q ↦ false≢true (rw f at (w.goes_on.each k (omega arith) l))
      ]

  in-quoted : (to : ℕ) → k < to + 1 → IsQuoted s from to → ⊥
  in-quoted to l x =
      elim (ℕ_discrete k from) [
        | yes q ↦ quote_no_feed _ x.opens (rw q at f)
        | no q ↦
            elim (ℕ_discrete k (from + 1)) [
              | yes r ↦ x.first (rw r at f)
              | no r ↦ elim (ℕ_discrete k to) [ yes u ↦ quote_no_feed _ x.opens (sym x.closes ∙ (rw u at f)) | no u ↦ inner_no_feed _ _ (x.goes_on.each k (omega arith) (omega arith)) f ]
            ]
      ]

  in-token : {p : Place} {end : ℕ} {quoted : Bool} → k < end → IsToken s from p end quoted → ⊥
  in-token l (bare_token x) = in-bare _ l x
  in-token l (quoted_token x) = in-quoted _ l x

-- No byte of a token, its quotes with it, is LF.
pub token_no_feed : (s : List ℕ) (from : ℕ) (p : Place) (end : ℕ) (quoted : Bool) → token_at s from ≡ Ok (p, end, quoted) → (k : ℕ) → from ≤ k → k < end → get_or s k 0 ≡ 10 → ⊥
token_no_feed s from p end quoted e k h l f = in-token s from k h f l ((token_iff s from p end quoted).0 e)

inner_no_end : (c : ℕ) → in_class TagByte c ≡ true → is_eol c ≡ false
unfolding in_class
inner_no_end c t = not-true _ ((and-eq-true_iff _ _).0 t).0

-- "50 tag not closed on its line": no byte of a tag, its brackets with it, is a line end's.
pub tag_no_end : (s : List ℕ) (from : ℕ) (p : Place) (end : ℕ) → tag_at s from ≡ Ok (p, end) → (k : ℕ) → from ≤ k → k < end → is_eol (get_or s k 0) ≡ false
unfolding is_eol
tag_no_end s from p end e k h l = go ((tag_iff s from p end).0 e)
  where
    go : IsTag s from p end → is_eol (get_or s k 0) ≡ false
    go x =
        let b = x.behind in
        let d = x.ended in
        elim (ℕ_discrete k from) [
          | yes q ↦ rw (q, x.opens)
          | no q ↦ elim (ℕ_discrete k p.to) [ yes r ↦ rw (r, x.closes) | no r ↦ inner_no_end _ (x.each k (omega arith) (omega arith)) ]
        ]
