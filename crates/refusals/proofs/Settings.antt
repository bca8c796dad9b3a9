-- Declarations that give one thing: each stands in the source, and its refusals are fatal ones of the source. Assumes nothing.
use Rattle.std.specs.Prelude.{Option, Some, None, Result, Ok, Err}
use Prim.Native.Nat.{ℕ, ◌+◌, ◌≤◌}
use mathlib.Core.Path.{refl}
use mathlib.Core.List.{List}
use mathlib.Core.Bool.{Bool, false}
use native.Mathlib.Omega.{arith}
use lib.ListN.{length}
use Rattle.words.specs.declared.IntError.{IntError}
use Rattle.words.specs.declared.IntError.TheVariants.{NoDigits, TooLarge}
use Rattle.words.specs.Words.{name_at, Named}
use Rattle.words.specs.Numbers.{int_at, Counted}
use Rattle.words.proofs.Words.{name_placed}
use Rattle.words.proofs.Numbers.{int_placed}
use Rattle.scan.specs.declared.Place.{Place}
use Rattle.texts.specs.Colon.{colon_text_at, ColonTexts}
use Rattle.texts.specs.Line.{line_end_at}
use Rattle.texts.proofs.Laws.{colon_placed}
use Rattle.grammar.specs.declared.State.{State}
use Rattle.grammar.specs.declared.Refusal.{Refusal}
use Rattle.grammar.specs.State.{Passed, gap_at}
use Rattle.settings.specs.Singles.{expected_of}
use Rattle.settings.specs.Settings.{start_given, start_named, start_name, start_from, start_decl, expect_seen, expect_given, expect_int, expect_from, expect_decl, actiontype_given, actiontype_named, actiontype_from, actiontype_decl, param_given, param_typed, param_text, param_from, param_decl, generics_from, generics_decl}
use Rattle.settings.proofs.Far.{line_end_lem}
use Rattle.refusals.specs.Steps.{GapIn, Sited0, Sited1}
use Rattle.refusals.proofs.Steps.{gap_in, past_in, pass_in, repeat_in}

module _ (src : List ℕ) (P : Type 0) (s : State) (h : s.at ≤ length src) where
  -- `%start`
  start_named_lem : (i j : ℕ) (t : List ℕ) → Passed src i j → Sited1 src P (start_named s i j t)
  unfolding start_named
  start_named_lem i j t p = go s.singles.start
    where
      go : (q : Option (ℕ × ℕ)) → Sited1 src P (start_given q s i j t)
      go None = record { here = h; stops = tt }
      go (Some (a, b)) = repeat_in src P s h _ a b i j t p

  pub start_in : (t : List ℕ) → Sited1 src P (start_decl src s t)
  unfolding start_decl
  start_in t = go (gap_at s.kind false src s.at) (gap_in s.kind false src P s.at h)
    where
      named : (i : ℕ) → i ≤ length src → (n : Result ℕ ℕ) → Named src i n → Sited1 src P (start_name n i src s t)
      named i l (Ok j) x = let a = x.0 in let b = x.1 in pass_in src P false j b (start_named_lem i j t (record { onward = omega arith; inside = b }))
      named i l (Err k) x = record { here = h; stops = omega arith }

      go : (g : Result (ℕ × ℕ) Refusal) → GapIn src P s.at g → Sited1 src P (start_from g src s t)
      go (Ok (i, n)) x = named i x.inside (name_at src i) (name_placed src i (name_at src i) refl).1
      go (Err e) x = record { here = h; stops = x }

  -- `%expect` and `%expect_rr`
  expect_given_lem : (rr : Bool) (v i j : ℕ) (t : List ℕ) → Passed src i j → Sited1 src P (expect_given s rr v i j t)
  unfolding expect_given
  expect_given_lem rr v i j t p = go (expected_of rr s.singles)
    where
      go : (q : Option (ℕ × ℕ × ℕ)) → Sited1 src P (expect_seen q s rr v i j t)
      go None = record { here = h; stops = tt }
      go (Some (w, a, b)) = repeat_in src P s h _ a b i j t p

  pub expect_in : (rr : Bool) (t : List ℕ) → Sited1 src P (expect_decl src s rr t)
  unfolding expect_decl
  expect_in rr t = go (gap_at s.kind false src s.at) (gap_in s.kind false src P s.at h)
    where
      counted : (i : ℕ) → i ≤ length src → (n : Result (ℕ × ℕ) IntError) → Counted src i n → Sited1 src P (expect_int n i src s rr t)
      counted i l (Ok (v, j)) x = let a = x.0 in let b = x.1 in pass_in src P false j b (expect_given_lem rr v i j t (record { onward = omega arith; inside = b }))
      counted i l (Err (NoDigits k)) x = record { here = h; stops = omega arith }
      counted i l (Err (TooLarge k)) x = record { here = h; stops = omega arith }

      go : (g : Result (ℕ × ℕ) Refusal) → GapIn src P s.at g → Sited1 src P (expect_from g src s rr t)
      go (Ok (i, n)) x = counted i x.inside (int_at src i) (int_placed src i x.inside (int_at src i) refl).1
      go (Err e) x = record { here = h; stops = x }

  -- `%actiontype`
  actiontype_named_lem : (i j : ℕ) (t : List ℕ) → Passed src i j → Sited1 src P (actiontype_named s i j t)
  unfolding actiontype_named
  actiontype_named_lem i j t p = go s.actiontype
    where
      go : (q : Option (ℕ × ℕ)) → Sited1 src P (actiontype_given q s i j t)
      go None = record { here = h; stops = tt }
      go (Some (a, b)) = repeat_in src P s h _ a b i j t p

  pub actiontype_in : (t : List ℕ) → Sited1 src P (actiontype_decl src s t)
  unfolding actiontype_decl
  actiontype_in t = go (gap_at s.kind false src s.at) (gap_in s.kind false src P s.at h)
    where
      go : (g : Result (ℕ × ℕ) Refusal) → GapIn src P s.at g → Sited1 src P (actiontype_from g src s t)
      go (Ok (i, n)) x = let e = line_end_lem src i x.inside in pass_in src P false (line_end_at src i) e.1 (actiontype_named_lem i (line_end_at src i) t (record { onward = e.0; inside = e.1 }))
      go (Err e) x = record { here = h; stops = x }

  -- `%parse-param`
  typed_in : (a b k : ℕ) → k ≤ length src → Sited0 src P (param_typed src s a b k)
  unfolding param_typed
  typed_in a b k l = go (gap_at s.kind false src k) (gap_in s.kind false src P k l)
    where
      go : (g : Result (ℕ × ℕ) Refusal) → GapIn src P k g → Sited0 src P (param_given g src s a b)
      go (Ok (i, n)) x = past_in src P false (line_end_at src i) _ h (line_end_lem src i x.inside).1
      go (Err e) x = record { here = h; stops = x }

  pub param_in : Sited0 src P (param_decl src s)
  unfolding param_decl
  param_in = go (gap_at s.kind false src s.at) (gap_in s.kind false src P s.at h)
    where
      text : (i : ℕ) (t : Result (ℕ × ℕ × Place) ℕ) → ColonTexts src i t → Sited0 src P (param_text t src s)
      text i (Ok (j, n, p)) x = let b = x.1 in typed_in p.from p.to (j + 1) (omega arith)
      text i (Err k) x = record { here = h; stops = omega arith }

      go : (g : Result (ℕ × ℕ) Refusal) → GapIn src P s.at g → Sited0 src P (param_from g src s)
      go (Ok (i, n)) x = text i (colon_text_at src i) (colon_placed src i x.inside (colon_text_at src i) refl).1
      go (Err e) x = record { here = h; stops = x }

  -- `%parse-generics`
  pub generics_in : Sited0 src P (generics_decl src s)
  unfolding generics_decl
  generics_in = go (gap_at s.kind false src s.at) (gap_in s.kind false src P s.at h)
    where
      go : (g : Result (ℕ × ℕ) Refusal) → GapIn src P s.at g → Sited0 src P (generics_from g src s)
      go (Ok (i, n)) x = past_in src P false (line_end_at src i) _ h (line_end_lem src i x.inside).1
      go (Err e) x = record { here = h; stops = x }
