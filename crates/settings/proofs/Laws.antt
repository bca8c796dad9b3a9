-- Declarations that give one thing: one law for each answer, and where a name, a number and a text end. Assumes nothing.
use Rattle.std.specs.Prelude.{Option, Some, None, Result, Ok, Err}
use Prim.Native.Nat.{ℕ, ◌+◌}
use mathlib.Core.Path.{◌≡◌, sym, ◌∙◌, ap}
use mathlib.Core.List.{List}
use mathlib.Core.Bool.{Bool, false}
use native.Mathlib.Omega.{arith}
use lib.ListN.{length}
use Rattle.scan.specs.declared.Place.{Place}
use Rattle.words.specs.declared.IntError.{IntError}
use Rattle.words.specs.declared.IntError.TheVariants.{NoDigits, TooLarge}
use Rattle.words.specs.Words.{name_at, Named}
use Rattle.words.specs.Numbers.{int_at, Counted}
use Rattle.texts.specs.Colon.{colon_text_at, ColonTexts}
use Rattle.texts.specs.Line.{line_end_at, Lined}
use Rattle.grammar.specs.declared.Singles.{Singles}
use Rattle.grammar.specs.declared.State.{State}
use Rattle.grammar.specs.declared.Cause.TheVariants.{IllegalName, IntegerEmpty, IntegerTooLarge, ReachedEnd}
use Rattle.grammar.specs.declared.Refusal.{Refusal}
use Rattle.grammar.specs.declared.Refusal.TheVariants.{Fault}
use Rattle.grammar.specs.declared.Answer.{Answer}
use Rattle.grammar.specs.declared.Answer.TheVariants.{Going}
use Rattle.grammar.specs.declared.Repeat.{Repeat}
use Rattle.grammar.specs.declared.Repeat.TheVariants.{RepeatedStart, RepeatedActiontype}
use Rattle.grammar.specs.State.{Out0, Out1, Passed, with_singles, with_actiontype, gap_at, list_repeat, past_gap, pass_on, tied1, refused, behind1}
use Rattle.settings.specs.Singles.{with_start, with_expected, expected_of, with_param, with_generics}
use Rattle.settings.specs.Settings.{start_given, start_named, start_decl, repeated_expect, expect_given, expect_decl, actiontype_given, actiontype_named, actiontype_decl, param_typed, param_decl, generics_decl}

-- where a part ends
module _ (src : List ℕ) (i : ℕ) where
  pub name_passed : (w : Result ℕ ℕ) (j : ℕ) → Named src i w → w ≡ Ok j → Passed src i j
  name_passed w j x e =
      let y = rw e at x in
      let k = y.0 in
      record { onward = omega arith; inside = y.1 }

  pub name_none : (w : Result ℕ ℕ) (k : ℕ) → Named src i w → w ≡ Err k → k ≡ i
  name_none w k x e = rw e at x

  pub int_passed : (w : Result (ℕ × ℕ) IntError) (v j : ℕ) → Counted src i w → w ≡ Ok (v, j) → Passed src i j
  int_passed w v j x e =
      let y = rw e at x in
      let k = y.0 in
      record { onward = omega arith; inside = y.1 }

  pub int_none : (w : Result (ℕ × ℕ) IntError) (k : ℕ) → Counted src i w → w ≡ Err (NoDigits k) → k ≡ i
  int_none w k x e = rw e at x

  pub int_large : (w : Result (ℕ × ℕ) IntError) (k : ℕ) → Counted src i w → w ≡ Err (TooLarge k) → k ≡ i
  int_large w k x e = rw e at x

  pub line_passed : (j : ℕ) → Lined src i j → Passed src i j
  line_passed j x = record { onward = x.onward; inside = x.inside }

  pub colon_passed : (w : Result (ℕ × ℕ × Place) ℕ) (j n : ℕ) (p : Place) → ColonTexts src i w → w ≡ Ok (j, n, p) → Passed src i (j + 1)
  colon_passed w j n p x e =
      let y = rw e at x in
      let k = y.0 in
      let l = y.1 in
      record { onward = omega arith; inside = omega arith }

  pub colon_from : (w : Result (ℕ × ℕ × Place) ℕ) (j n : ℕ) (p : Place) → ColonTexts src i w → w ≡ Ok (j, n, p) → Passed src i p.from
  colon_from w j n p x e =
      let y = rw e at x in
      let k = y.4 in
      let l = y.5 in
      record { onward = y.3; inside = omega arith }

  pub colon_to : (w : Result (ℕ × ℕ × Place) ℕ) (j n : ℕ) (p : Place) → ColonTexts src i w → w ≡ Ok (j, n, p) → Passed src p.from p.to
  colon_to w j n p x e =
      let y = rw e at x in
      record { onward = y.4; inside = y.5 }

  pub colon_none : (w : Result (ℕ × ℕ × Place) ℕ) (k : ℕ) → ColonTexts src i w → w ≡ Err k → k ≡ length src
  colon_none w k x e = rw e at x

-- what is given first, and what repeats it
module _ (s : State) (i j : ℕ) (t : List ℕ) where
  pub start_first : (g : Singles) → s.singles.start ≡ None → g ≡ with_start s.singles (Some (i, j)) → record { answer = Going; state = with_singles s g; a = t } ≡ start_named s i j t
  unfolding start_named
  start_first g e h = rw (e, h)

  pub start_again : (a b : ℕ) (o : Out1) → s.singles.start ≡ Some (a, b) → o ≡ list_repeat s RepeatedStart a b i j t → o ≡ start_named s i j t
  unfolding start_named
  start_again a b o e h = h ∙ ap (λ (p : Option (ℕ × ℕ)). start_given p s i j t) (sym e)

  pub actiontype_first : s.actiontype ≡ None → record { answer = Going; state = with_actiontype s (Some (i, j)); a = t } ≡ actiontype_named s i j t
  unfolding actiontype_named
  actiontype_first e = rw e

  pub actiontype_again : (a b : ℕ) (o : Out1) → s.actiontype ≡ Some (a, b) → o ≡ list_repeat s RepeatedActiontype a b i j t → o ≡ actiontype_named s i j t
  unfolding actiontype_named
  actiontype_again a b o e h = h ∙ ap (λ (p : Option (ℕ × ℕ)). actiontype_given p s i j t) (sym e)

  module _ (rr : Bool) (v : ℕ) (x : Option (ℕ × ℕ × ℕ)) (is : x ≡ expected_of rr s.singles) where
    pub expect_first : (g : Singles) → x ≡ None → g ≡ with_expected s.singles rr (Some (v, i, j)) → record { answer = Going; state = with_singles s g; a = t } ≡ expect_given s rr v i j t
    unfolding expect_given
    expect_first g e h = rw (← is, e, h)

    pub expect_again : (w a b : ℕ) (what : Repeat) (o : Out1) → x ≡ Some (w, a, b) → what ≡ repeated_expect rr → o ≡ list_repeat s what a b i j t → o ≡ expect_given s rr v i j t
    unfolding expect_given
    expect_again w a b what o e f h = rw (← is, e, ← f) h

-- spacing behind a step on table 10
behind_on : (src : List ℕ) (j : ℕ) (n : Out1) (a : Answer) (x : State) (cells : List ℕ) (o : Out0) → record { answer = a; state = x; a = cells } ≡ n → o ≡ pass_on src false j a x → tied1 o cells ≡ behind1 src false j n
behind_on src j n a x cells o e h = rw (← e, h)

-- the declarations on table 10, by what follows their keyword
module _ (src : List ℕ) (s : State) (t : List ℕ) (g : Result (ℕ × ℕ) Refusal) (q : g ≡ gap_at s.kind false src s.at) where
  pub start_refused : (f : Refusal) → g ≡ Err f → tied1 (refused f s) t ≡ start_decl src s t
  unfolding start_decl
  start_refused f e = rw (← q, e)

  pub actiontype_refused : (f : Refusal) → g ≡ Err f → tied1 (refused f s) t ≡ actiontype_decl src s t
  unfolding actiontype_decl
  actiontype_refused f e = rw (← q, e)

  module _ (i n : ℕ) (e : g ≡ Ok (i, n)) where
    pub start_unnamed : (w : Result ℕ ℕ) (k : ℕ) → w ≡ name_at src i → w ≡ Err k → tied1 (refused (Fault IllegalName k) s) t ≡ start_decl src s t
    unfolding start_decl
    start_unnamed w k p h = rw (← q, e, ← p, h)

    pub start_named_lem : (w : Result ℕ ℕ) (j : ℕ) (a : Answer) (x : State) (cells : List ℕ) (o : Out0) → w ≡ name_at src i → w ≡ Ok j → record { answer = a; state = x; a = cells } ≡ start_named s i j t → o ≡ pass_on src false j a x → tied1 o cells ≡ start_decl src s t
    unfolding start_decl
    start_named_lem w j a x cells o p h k l = rw (← q, e, ← p, h) (behind_on src j _ a x cells o k l)

    pub actiontype_given_lem : (j : ℕ) (a : Answer) (x : State) (cells : List ℕ) (o : Out0) → j ≡ line_end_at src i → record { answer = a; state = x; a = cells } ≡ actiontype_named s i j t → o ≡ pass_on src false j a x → tied1 o cells ≡ actiontype_decl src s t
    unfolding actiontype_decl
    actiontype_given_lem j a x cells o p k l = rw (← q, e, ← p) (behind_on src j _ a x cells o k l)

  module _ (rr : Bool) where
    pub expect_refused : (f : Refusal) → g ≡ Err f → tied1 (refused f s) t ≡ expect_decl src s rr t
    unfolding expect_decl
    expect_refused f e = rw (← q, e)

    module _ (i n : ℕ) (e : g ≡ Ok (i, n)) (w : Result (ℕ × ℕ) IntError) (p : w ≡ int_at src i) where
      pub expect_empty : (k : ℕ) → w ≡ Err (NoDigits k) → tied1 (refused (Fault IntegerEmpty k) s) t ≡ expect_decl src s rr t
      unfolding expect_decl
      expect_empty k h = rw (← q, e, ← p, h)

      pub expect_large : (k : ℕ) → w ≡ Err (TooLarge k) → tied1 (refused (Fault IntegerTooLarge k) s) t ≡ expect_decl src s rr t
      unfolding expect_decl
      expect_large k h = rw (← q, e, ← p, h)

      pub expect_value : (v j : ℕ) (a : Answer) (x : State) (cells : List ℕ) (o : Out0) → w ≡ Ok (v, j) → record { answer = a; state = x; a = cells } ≡ expect_given s rr v i j t → o ≡ pass_on src false j a x → tied1 o cells ≡ expect_decl src s rr t
      unfolding expect_decl
      expect_value v j a x cells o h k l = rw (← q, e, ← p, h) (behind_on src j _ a x cells o k l)

-- the parse parameter's type, by what follows the colon
module _ (src : List ℕ) (s : State) (at : ℕ) (g : Result (ℕ × ℕ) Refusal) (q : g ≡ gap_at s.kind false src at) (a b : ℕ) where
  pub typed_refused : (f : Refusal) → g ≡ Err f → refused f s ≡ param_typed src s a b at
  unfolding param_typed
  typed_refused f e = rw (← q, e)

  pub typed_given : (i n j : ℕ) (x : Singles) (o : Out0) → g ≡ Ok (i, n) → j ≡ line_end_at src i → x ≡ with_param s.singles (Some (a, b, i, j)) → o ≡ past_gap src false j (with_singles s x) → o ≡ param_typed src s a b at
  unfolding param_typed
  typed_given i n j x o e p w h = rw (← q, e, ← p, ← w) h

-- the parse parameter and the generics, by what follows their keyword
module _ (src : List ℕ) (s : State) (g : Result (ℕ × ℕ) Refusal) (q : g ≡ gap_at s.kind false src s.at) where
  pub param_refused : (f : Refusal) → g ≡ Err f → refused f s ≡ param_decl src s
  unfolding param_decl
  param_refused f e = rw (← q, e)

  pub generics_refused : (f : Refusal) → g ≡ Err f → refused f s ≡ generics_decl src s
  unfolding generics_decl
  generics_refused f e = rw (← q, e)

  module _ (i n : ℕ) (e : g ≡ Ok (i, n)) where
    pub generics_given : (j : ℕ) (x : Singles) (o : Out0) → j ≡ line_end_at src i → x ≡ with_generics s.singles (Some (i, j)) → o ≡ past_gap src false j (with_singles s x) → o ≡ generics_decl src s
    unfolding generics_decl
    generics_given j x o p w h = rw (← q, e, ← p, ← w) h

    module _ (w : Result (ℕ × ℕ × Place) ℕ) (p : w ≡ colon_text_at src i) where
      pub param_open : (k : ℕ) → w ≡ Err k → refused (Fault ReachedEnd k) s ≡ param_decl src s
      unfolding param_decl
      param_open k h = rw (← q, e, ← p, h)

      pub param_text_lem : (j m : ℕ) (x : Place) (o : Out0) → w ≡ Ok (j, m, x) → o ≡ param_typed src s x.from x.to (j + 1) → o ≡ param_decl src s
      unfolding param_decl
      param_text_lem j m x o h k = rw (← q, e, ← p, h) k
