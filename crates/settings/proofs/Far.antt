-- Each of these declarations keeps soundness so far, whatever its answer. Assumes nothing.
use Rattle.std.specs.Prelude.{Option, Some, None, Result, Ok, Err}
use Prim.Native.Nat.{ℕ, ◌+◌, ◌≤◌}
use mathlib.Core.Path.{refl}
use mathlib.Core.List.{List}
use mathlib.Core.Bool.{Bool, true, false}
use native.Mathlib.Omega.{arith}
use lib.ListN.{length}
use Rattle.scan.specs.declared.Class.TheVariants.{LineByte}
use Rattle.scan.specs.Scan.{in_class}
use Rattle.scan.proofs.Runs.{run_is}
use Rattle.words.specs.declared.IntError.{IntError}
use Rattle.words.specs.declared.IntError.TheVariants.{NoDigits, TooLarge}
use Rattle.words.specs.Words.{name_at, Named}
use Rattle.words.specs.Numbers.{int_at, Counted}
use Rattle.words.proofs.Words.{name_placed}
use Rattle.words.proofs.Numbers.{int_placed}
use Rattle.scan.specs.declared.Place.{Place}
use Rattle.texts.specs.Colon.{colon_text_at, ColonTexts}
use Rattle.texts.specs.Line.{line_end_at}
use Rattle.texts.proofs.Laws.{colon_placed}
use Rattle.tables.specs.Layout.{repeats}
use Rattle.grammar.specs.declared.State.{State}
use Rattle.grammar.specs.declared.Refusal.{Refusal}
use Rattle.grammar.specs.State.{Passed, gap_at, Gapped}
use Rattle.grammar.specs.Sound.{AllTables, Lies, LiesExpected, Lie, Far}
use Rattle.grammar.proofs.Far.{far_singles, far_actiontype}
use Rattle.grammar.proofs.Kept.{gapped, Far1, Held, repeat_held, past_far, behind1_far}
use Rattle.settings.specs.Singles.{with_start, with_expected, expected_of, with_param, with_generics}
use Rattle.settings.specs.Settings.{start_given, start_named, start_name, start_from, start_decl, expect_seen, expect_given, expect_int, expect_from, expect_decl, actiontype_given, actiontype_named, actiontype_from, actiontype_decl, param_given, param_typed, param_text, param_from, param_decl, generics_from, generics_decl}

-- the text to the line end
pub line_end_lem : (src : List ℕ) (i : ℕ) → i ≤ length src → (i ≤ line_end_at src i) × (line_end_at src i ≤ length src)
unfolding line_end_at
line_end_lem src i h = let x = run_is (in_class LineByte) src i h in (x.onward, x.inside)

module _ {src : List ℕ} {done : ℕ} {s : State} {T : AllTables} (f : Far src done s T) where
  -- `%start`
  pub start_held : (i j : ℕ) → Passed src i j → Held src done T repeats s (start_named s i j T.t10)
  unfolding start_named
  start_held i j p = go s.singles.start f.singles.start
    where
      l : Lie src (with_start s.singles (Some (i, j)))
      l = let g = f.singles in record { start = p; expect = g.expect; expect_rr = g.expect_rr; param = g.param; generics = g.generics; programs = g.programs }

      go : (q : Option (ℕ × ℕ)) → Lies src q → Held src done T repeats s (start_given q s i j T.t10)
      go None x = record { far = far_singles f _ l; stays = refl; level = refl }
      go (Some (a, b)) x = repeat_held f _ a b i j x p

  pub start_far : Far1 src done T repeats (start_decl src s T.t10)
  unfolding start_decl
  start_far = go (gap_at s.kind false src s.at) (gapped s.kind false src s.at f.here)
    where
      named : (i : ℕ) → s.at ≤ i → (n : Result ℕ ℕ) → Named src i n → Far1 src done T repeats (start_name n i src s T.t10)
      named i h (Ok j) x = let a = x.0 in let b = x.1 in behind1_far false j _ (omega arith) b (start_held i j (record { onward = omega arith; inside = b }))
      named i h (Err k) x = f

      go : (g : Result (ℕ × ℕ) Refusal) → Gapped src s.at g → Far1 src done T repeats (start_from g src s T.t10)
      go (Ok (i, n)) x = let a = x.0 in named i (omega arith) (name_at src i) (name_placed src i (name_at src i) refl).1
      go (Err e) x = f

  -- `%expect` and `%expect_rr`
  pub expect_held : (rr : Bool) (v i j : ℕ) → Passed src i j → Held src done T repeats s (expect_given s rr v i j T.t10)
  unfolding expect_given
  expect_held rr v i j p = go (expected_of rr s.singles) (old rr)
    where
      old : (r : Bool) → LiesExpected src (expected_of r s.singles)
      old true = f.singles.expect_rr
      old false = f.singles.expect

      l : (r : Bool) → Lie src (with_expected s.singles r (Some (v, i, j)))
      l true = let g = f.singles in record { start = g.start; expect = g.expect; expect_rr = p; param = g.param; generics = g.generics; programs = g.programs }
      l false = let g = f.singles in record { start = g.start; expect = p; expect_rr = g.expect_rr; param = g.param; generics = g.generics; programs = g.programs }

      go : (e : Option (ℕ × ℕ × ℕ)) → LiesExpected src e → Held src done T repeats s (expect_seen e s rr v i j T.t10)
      go None x = record { far = far_singles f _ (l rr); stays = refl; level = refl }
      go (Some (w, a, b)) x = repeat_held f _ a b i j x p

  pub expect_far : (rr : Bool) → Far1 src done T repeats (expect_decl src s rr T.t10)
  unfolding expect_decl
  expect_far rr = go (gap_at s.kind false src s.at) (gapped s.kind false src s.at f.here)
    where
      counted : (i : ℕ) → s.at ≤ i → (n : Result (ℕ × ℕ) IntError) → Counted src i n → Far1 src done T repeats (expect_int n i src s rr T.t10)
      counted i h (Ok (v, j)) x = let a = x.0 in let b = x.1 in behind1_far false j _ (omega arith) b (expect_held rr v i j (record { onward = omega arith; inside = b }))
      counted i h (Err (NoDigits k)) x = f
      counted i h (Err (TooLarge k)) x = f

      go : (g : Result (ℕ × ℕ) Refusal) → Gapped src s.at g → Far1 src done T repeats (expect_from g src s rr T.t10)
      go (Ok (i, n)) x = let a = x.0 in counted i (omega arith) (int_at src i) (int_placed src i x.1 (int_at src i) refl).1
      go (Err e) x = f

  -- `%actiontype`
  pub actiontype_held : (i j : ℕ) → Passed src i j → Held src done T repeats s (actiontype_named s i j T.t10)
  unfolding actiontype_named
  actiontype_held i j p = go s.actiontype f.actiontype
    where
      go : (q : Option (ℕ × ℕ)) → Lies src q → Held src done T repeats s (actiontype_given q s i j T.t10)
      go None x = record { far = far_actiontype f (Some (i, j)) p; stays = refl; level = refl }
      go (Some (a, b)) x = repeat_held f _ a b i j x p

  pub actiontype_far : Far1 src done T repeats (actiontype_decl src s T.t10)
  unfolding actiontype_decl
  actiontype_far = go (gap_at s.kind false src s.at) (gapped s.kind false src s.at f.here)
    where
      go : (g : Result (ℕ × ℕ) Refusal) → Gapped src s.at g → Far1 src done T repeats (actiontype_from g src s T.t10)
      go (Ok (i, n)) x =
          let a = x.0 in
          let e = line_end_lem src i x.1 in
          let b = e.0 in
          behind1_far false (line_end_at src i) _ (omega arith) e.1 (actiontype_held i (line_end_at src i) (record { onward = b; inside = e.1 }))
      go (Err e) x = f

  -- `%parse-generics`
  pub generics_far : Far src done (generics_decl src s).state T
  unfolding generics_decl
  generics_far = go (gap_at s.kind false src s.at) (gapped s.kind false src s.at f.here)
    where
      go : (g : Result (ℕ × ℕ) Refusal) → Gapped src s.at g → Far src done (generics_from g src s).state T
      go (Ok (i, n)) x =
          let a = x.0 in
          let e = line_end_lem src i x.1 in
          let b = e.0 in
          let g = f.singles in
          past_far (far_singles f (with_generics s.singles (Some (i, line_end_at src i))) (record { start = g.start; expect = g.expect; expect_rr = g.expect_rr; param = g.param; generics = record { onward = b; inside = e.1 }; programs = g.programs })) false (line_end_at src i) (omega arith) e.1
      go (Err e) x = f

  -- `%parse-param`
  typed_far : (a b k : ℕ) → Passed src a b → s.at ≤ k → k ≤ length src → Far src done (param_typed src s a b k).state T
  unfolding param_typed
  typed_far a b k p h l = go (gap_at s.kind false src k) (gapped s.kind false src k l)
    where
      go : (g : Result (ℕ × ℕ) Refusal) → Gapped src k g → Far src done (param_given g src s a b).state T
      go (Ok (i, n)) x =
          let c = x.0 in
          let e = line_end_lem src i x.1 in
          let d = e.0 in
          let g = f.singles in
          past_far (far_singles f (with_param s.singles (Some (a, b, i, line_end_at src i))) (record { start = g.start; expect = g.expect; expect_rr = g.expect_rr; param = (p, record { onward = d; inside = e.1 }); generics = g.generics; programs = g.programs })) false (line_end_at src i) (omega arith) e.1
      go (Err e) x = f

  pub param_far : Far src done (param_decl src s).state T
  unfolding param_decl
  param_far = go (gap_at s.kind false src s.at) (gapped s.kind false src s.at f.here)
    where
      text : (i : ℕ) → s.at ≤ i → (t : Result (ℕ × ℕ × Place) ℕ) → ColonTexts src i t → Far src done (param_text t src s).state T
      text i h (Ok (j, n, p)) x = let a = x.0 in let b = x.1 in typed_far p.from p.to (j + 1) (record { onward = x.4; inside = x.5 }) (omega arith) (omega arith)
      text i h (Err k) x = f

      go : (g : Result (ℕ × ℕ) Refusal) → Gapped src s.at g → Far src done (param_from g src s).state T
      go (Ok (i, n)) x = let a = x.0 in text i (omega arith) (colon_text_at src i) (colon_placed src i x.1 (colon_text_at src i) refl).1
      go (Err e) x = f
