-- The declarations that give one thing leave the count of every table but 10. Assumes nothing.
use Rattle.std.specs.Prelude.{Option, Some, None, Result, Ok, Err}
use Prim.Native.Nat.{ℕ, ◌+◌}
use mathlib.Core.Path.{◌≡◌}
use mathlib.Core.List.{List}
use mathlib.Core.Bool.{Bool, false}
use Rattle.texts.specs.Colon.{colon_text_at}
use Rattle.texts.specs.Line.{line_end_at}
use Rattle.scan.specs.declared.Place.{Place}
use Rattle.words.specs.Numbers.{int_at}
use Rattle.words.specs.Words.{name_at}
use Rattle.words.specs.declared.IntError.{IntError}
use Rattle.words.specs.declared.IntError.TheVariants.{NoDigits, TooLarge}
use Rattle.tables.specs.Layout.{repeats}
use Rattle.grammar.specs.declared.State.{State}
use Rattle.grammar.specs.declared.Answer.TheVariants.{Going}
use Rattle.grammar.specs.declared.Refusal.{Refusal}
use Rattle.grammar.specs.declared.Repeat.TheVariants.{RepeatedStart, RepeatedActiontype}
use Rattle.grammar.specs.State.{gap_at, with_singles}
use Rattle.grammar.proofs.Spares.{Spares, spares_none, spares_repeat, spares_pass, spares_behind}
use Rattle.settings.specs.Singles.{with_param, with_generics, expected_of}
use Rattle.settings.specs.Settings.{start_given, start_named, start_name, start_from, start_decl, repeated_expect, expect_seen, expect_given, expect_int, expect_from, expect_decl, actiontype_given, actiontype_named, actiontype_from, actiontype_decl, param_given, param_typed, param_text, param_from, param_decl, generics_from, generics_decl}

module _ (k : ℕ) (src : List ℕ) (s : State) where
  param_typed_lem : (a b j : ℕ) → Spares k s.counts (param_typed src s a b j).state.counts
  unfolding param_typed
  param_typed_lem a b j = go (gap_at s.kind false src j)
    where
      go : (g : Result (ℕ × ℕ) Refusal) → Spares k s.counts (param_given g src s a b).state.counts
      go (Ok (i, n)) = spares_pass k src false (line_end_at src i) Going (with_singles s (with_param s.singles (Some (a, b, i, line_end_at src i))))
      go (Err f) = spares_none k s.counts

  pub param_spares : Spares k s.counts (param_decl src s).state.counts
  unfolding param_decl
  param_spares = go (gap_at s.kind false src s.at)
    where
      text : (x : Result (ℕ × ℕ × Place) ℕ) → Spares k s.counts (param_text x src s).state.counts
      text (Ok (j, n, p)) = param_typed_lem p.from p.to (j + 1)
      text (Err e) = spares_none k s.counts

      go : (g : Result (ℕ × ℕ) Refusal) → Spares k s.counts (param_from g src s).state.counts
      go (Ok (i, n)) = text (colon_text_at src i)
      go (Err f) = spares_none k s.counts

  pub generics_spares : Spares k s.counts (generics_decl src s).state.counts
  unfolding generics_decl
  generics_spares = go (gap_at s.kind false src s.at)
    where
      go : (g : Result (ℕ × ℕ) Refusal) → Spares k s.counts (generics_from g src s).state.counts
      go (Ok (i, n)) = spares_pass k src false (line_end_at src i) Going (with_singles s (with_generics s.singles (Some (i, line_end_at src i))))
      go (Err f) = spares_none k s.counts

  module _ (tenth : repeats ≡ k → ⊥) (t10 : List ℕ) where
    start_named_lem : (i j : ℕ) → Spares k s.counts (start_named s i j t10).state.counts
    unfolding start_named
    start_named_lem i j = go s.singles.start
      where
        go : (p : Option (ℕ × ℕ)) → Spares k s.counts (start_given p s i j t10).state.counts
        go None = spares_none k s.counts
        go (Some (a, b)) = spares_repeat k s RepeatedStart a b i j t10 tenth

    pub start_spares : Spares k s.counts (start_decl src s t10).state.counts
    unfolding start_decl
    start_spares = go (gap_at s.kind false src s.at)
      where
        name : (i : ℕ) (x : Result ℕ ℕ) → Spares k s.counts (start_name x i src s t10).state.counts
        name i (Ok j) = spares_behind k src false j (start_named s i j t10).answer (start_named s i j t10).state (start_named_lem i j)
        name i (Err e) = spares_none k s.counts

        go : (g : Result (ℕ × ℕ) Refusal) → Spares k s.counts (start_from g src s t10).state.counts
        go (Ok (i, n)) = name i (name_at src i)
        go (Err f) = spares_none k s.counts

    expect_given_lem : (rr : Bool) (v i j : ℕ) → Spares k s.counts (expect_given s rr v i j t10).state.counts
    unfolding expect_given
    expect_given_lem rr v i j = go (expected_of rr s.singles)
      where
        go : (e : Option (ℕ × ℕ × ℕ)) → Spares k s.counts (expect_seen e s rr v i j t10).state.counts
        go None = spares_none k s.counts
        go (Some (w, a, b)) = spares_repeat k s (repeated_expect rr) a b i j t10 tenth

    pub expect_spares : (rr : Bool) → Spares k s.counts (expect_decl src s rr t10).state.counts
    unfolding expect_decl
    expect_spares rr = go (gap_at s.kind false src s.at)
      where
        int : (i : ℕ) (x : Result (ℕ × ℕ) IntError) → Spares k s.counts (expect_int x i src s rr t10).state.counts
        int i (Ok (v, j)) = spares_behind k src false j (expect_given s rr v i j t10).answer (expect_given s rr v i j t10).state (expect_given_lem rr v i j)
        int i (Err (NoDigits e)) = spares_none k s.counts
        int i (Err (TooLarge e)) = spares_none k s.counts

        go : (g : Result (ℕ × ℕ) Refusal) → Spares k s.counts (expect_from g src s rr t10).state.counts
        go (Ok (i, n)) = int i (int_at src i)
        go (Err f) = spares_none k s.counts

    type_named : (i j : ℕ) → Spares k s.counts (actiontype_named s i j t10).state.counts
    unfolding actiontype_named
    type_named i j = go s.actiontype
      where
        go : (p : Option (ℕ × ℕ)) → Spares k s.counts (actiontype_given p s i j t10).state.counts
        go None = spares_none k s.counts
        go (Some (a, b)) = spares_repeat k s RepeatedActiontype a b i j t10 tenth

    pub actiontype_spares : Spares k s.counts (actiontype_decl src s t10).state.counts
    unfolding actiontype_decl
    actiontype_spares = go (gap_at s.kind false src s.at)
      where
        go : (g : Result (ℕ × ℕ) Refusal) → Spares k s.counts (actiontype_from g src s t10).state.counts
        go (Ok (i, n)) =
            let j = line_end_at src i in
            spares_behind k src false j (actiontype_named s i j t10).answer (actiontype_named s i j t10).state (type_named i j)
        go (Err f) = spares_none k s.counts
