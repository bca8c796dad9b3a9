-- Tags and numbers of kind 4 stand in the source, and their refusals are fatal ones of the source. Assumes nothing.
use Rattle.std.specs.Prelude.{Option, Some, None, Result, Ok, Err}
use Prim.Native.Nat.{ℕ, ◌≤◌}
use mathlib.Core.Path.{◌≡◌, refl, sym, ◌∙◌}
use mathlib.Core.List.{List}
use mathlib.Core.Logic.{inr}
use mathlib.Core.Bool.{Bool, true, false}
use native.Mathlib.Omega.{arith}
use lib.Dec.{eqb, ltb}
use lib.ListN.{length}
use borrow.Author.Tests.{eqb-true}
use Rattle.scan.proofs.Bytes.{on_test}
use Rattle.words.specs.declared.IntError.{IntError}
use Rattle.words.specs.declared.IntError.TheVariants.{NoDigits, TooLarge}
use Rattle.words.specs.declared.TagError.{TagError}
use Rattle.scan.specs.declared.Place.{Place}
use Rattle.words.specs.declared.TagError.TheVariants.{OpenTag, NoTag}
use Rattle.words.specs.Numbers.{int_at, Counted}
use Rattle.words.specs.Tags.{tag_at, Tagged}
use Rattle.words.proofs.Numbers.{int_placed}
use Rattle.words.proofs.Tags.{tag_placed}
use Rattle.tables.specs.Layout.{tags, token_numbers}
use Rattle.grammar.specs.declared.State.{State}
use Rattle.grammar.specs.declared.Answer.{Answer}
use Rattle.grammar.specs.declared.Answer.TheVariants.{Going, Done, Refused}
use Rattle.grammar.specs.Cells.{tag_cells, number_cells}
use Rattle.grammar.specs.State.{Out0, Passed, pass_on}
use Rattle.grammar.proofs.SameKind.{pass_kind}
use Rattle.marks.specs.Marks.{Leading, no_tag, tag_found, lead_tag, tag_given, tag_row, number_given, number_behind, number_after, behind_word}
use Rattle.refusals.specs.Steps.{Sited, Sited1}
use Rattle.refusals.proofs.Steps.{past_in, pass_in, push_to}

-- a tag there is where P alone
abbrev pub Tags : Type 0 → Option (ℕ × ℕ) → Type 0
Tags P None = Unit {0}
Tags P (Some (i, j)) = P

-- behind a list's tag
pub record SitedLead (src : List ℕ) (P : Type 0) (l : Leading) : Type 0 where
  pub read : Sited src P l.answer l.state
  pub tag : Tags P l.tag

module _ (src : List ℕ) (P : Type 0) (s : State) (h : s.at ≤ length src) where
  -- the tag in front of a list's words: 50 is at its `<`, or where it was sought
  pub lead_in : (s.kind ≡ 4 → P) → (wanted line : Bool) → SitedLead src P (lead_tag src s wanted line)
  unfolding lead_tag
  lead_in k wanted line = on_test (SitedLead src P) (eqb s.kind 4) _ _ (λ e. tag (k (eqb-true s.kind 4 e)) (tag_at src s.at) (tag_placed src s.at (tag_at src s.at) refl).1) (λ e. record { read = record { here = h; stops = tt }; tag = tt })
    where
      none : P → (w : Bool) (i : ℕ) → i ≤ length src → SitedLead src P (no_tag w i s)
      none q true i l = record { read = record { here = h; stops = (q, l) }; tag = tt }
      none q false i l = record { read = record { here = h; stops = tt }; tag = tt }

      tag : P → (t : Result (Place × ℕ) TagError) → Tagged src s.at t → SitedLead src P (tag_found t src s wanted line)
      tag q (Ok (p, end)) x = record { read = past_in src P line end s h x.3; tag = q }
      tag q (Err (OpenTag i)) x = record { read = record { here = h; stops = (q, omega arith) }; tag = tt }
      tag q (Err (NoTag i)) x = none q wanted i (omega arith)

  -- the row of a word's tag: 42 gives the word's place
  pub given_in : (g : Option (ℕ × ℕ)) → Tags P g → (from to : ℕ) (t : List ℕ) → Passed src from to → Sited1 src P (tag_given g s from to t)
  given_in None q from to t p = record { here = h; stops = tt }
  given_in (Some (i, j)) q from to t p = push_to src P s h tags (tag_cells from to i j) t (inr (q, omega arith, omega arith)) p

  -- a number that stands here: 1 is where it begins, and 42 gives the word's place
  pub number_in : (s.kind ≡ 4 → P) → (line : Bool) (from to : ℕ) (t : List ℕ) → Passed src from to → Sited1 src P (number_behind src line from to s t)
  unfolding number_behind
  number_in k line from to t p = on_test (Sited1 src P) (eqb s.kind 4) _ _ (λ e. int (k (eqb-true s.kind 4 e)) (int_at src s.at) (int_placed src s.at h (int_at src s.at) refl).1) (λ e. record { here = h; stops = tt })
    where
      int : P → (i : Result (ℕ × ℕ) IntError) → Counted src s.at i → Sited1 src P (number_given i src line from to s t)
      int q (Ok (v, end)) x =
          on_test (Sited1 src P) (ltb 4294967295 v) _ _ (λ e. record { here = h; stops = h })
          (λ e. pass_in src P line end x.1 (push_to src P s h token_numbers (number_cells from to v) t (inr (q, omega arith, omega arith)) p))
      int q (Err (NoDigits k)) x = record { here = h; stops = tt }
      int q (Err (TooLarge k)) x = record { here = h; stops = omega arith }

module _ (src : List ℕ) (P : Type 0) where
  -- the row of a tag behind a step
  pub tag_in : (a : Answer) (s : State) → Sited src P a s → (g : Option (ℕ × ℕ)) → Tags P g → (from to : ℕ) (t : List ℕ) → Passed src from to → Sited1 src P (tag_row a s g from to t)
  unfolding tag_row
  tag_in Going s x g q from to t p = given_in src P s x.here g q from to t p
  tag_in Done s x g q from to t p = x
  tag_in (Refused f) s x g q from to t p = x

  -- the spacing behind a word, and what number follows it
  pub behind_in : (line : Bool) (from to end : ℕ) (a : Answer) (s : State) (t : List ℕ) → (s.kind ≡ 4 → P) → Sited src P a s → Passed src from to → end ≤ length src → Sited1 src P (behind_word src line from to end a s t)
  unfolding behind_word
  behind_in line from to end a s t q x p k = go (pass_on src line end a s) (pass_on src line end a s).answer (λ e. q (sym (pass_kind s src line end a) ∙ e)) (pass_in src P line end k x)
    where
      go : (o : Out0) (b : Answer) → (o.state.kind ≡ 4 → P) → Sited src P b o.state → Sited1 src P (number_after o src line from to b t)
      go o Going z y = number_in src P o.state y.here z line from to t p
      go o Done z y = y
      go o (Refused f) z y = y
