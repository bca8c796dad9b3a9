-- Spacing, and the steps that add a row: each stands in the source, and its refusals are fatal ones of the source. Assumes nothing.
use Rattle.std.specs.Prelude.{Option, Some, None, Result, Ok, Err}
use Prim.Native.Nat.{ℕ, ◌+◌, ◌≤◌, ◌<◌}
use mathlib.Core.List.{List}
use mathlib.Core.Logic.{inl}
use mathlib.Core.Bool.{Bool, true, false, ◌&&◌, not}
use native.Mathlib.Omega.{arith}
use lib.Dec.{eqb, ltb}
use lib.ListN.{length, get_or}
use borrow.Author.Tests.{ltb-false}
use Rattle.scan.proofs.Bytes.{on_test}
use Rattle.spacing.specs.declared.SpacingError.{SpacingError}
use Rattle.spacing.specs.declared.SpacingError.TheVariants.{LineEnd, OpenComment}
use Rattle.spacing.specs.Spacing.{spaces_at, Spaces}
use Rattle.spacing.proofs.Places.{spaces}
use Rattle.tables.specs.Table.{add_row, flag, enter_token, find_name}
use Rattle.tables.specs.Layout.{tokens, repeats, posix_from, table_number, row_place}
use Rattle.grammar.specs.declared.State.{State}
use Rattle.grammar.specs.declared.Answer.{Answer}
use Rattle.grammar.specs.declared.Answer.TheVariants.{Going, Done, Refused}
use Rattle.grammar.specs.declared.Repeat.{Repeat}
use Rattle.grammar.specs.declared.Refusal.{Refusal}
use Rattle.grammar.specs.Refusals.{number_of_repeat}
use Rattle.grammar.specs.Cells.{token_cells, repeat_cells}
use Rattle.grammar.specs.State.{Passed, count, gap_of, gap_at, pushed, push_row, list_repeat, entered, enter_step, once_found, once_step, past, past_gap, pass_on}
use Rattle.refusals.specs.Steps.{ReadTable, Stops, GapIn, Sited, Sited0, Sited1, Sited2}

-- the number of one of the ten tables
numbered : (P : Type 0) (k : ℕ) → k < 10 → ReadTable P (table_number k)
numbered P k h =
    on_test (ReadTable P) (ltb k posix_from) _ _ (λ e. inl (omega arith, omega arith))
    (λ e. let l = ltb-false k posix_from e in absurd (omega arith))

-- where spacing leads, or stops
pub gap_in : (kind : ℕ) (ok : Bool) (src : List ℕ) (P : Type 0) (at : ℕ) → at ≤ length src → GapIn src P at (gap_at kind ok src at)
unfolding gap_at gap_of
gap_in kind ok src P at h = go (spaces_at kind ok src at) (spaces kind ok src at h)
  where
    go : (r : Result (ℕ × ℕ) SpacingError) → Spaces src at r → GapIn src P at (gap_of r)
    go (Ok (i, n)) x = let a = x.0 in record { onward = omega arith; inside = x.1 }
    go (Err (LineEnd i)) x = let a = x.1 in omega arith
    go (Err (OpenComment i)) x = let a = x.1 in omega arith

module _ (src : List ℕ) (P : Type 0) where
  -- spacing behind a step
  pub past_in : (line : Bool) (j : ℕ) (s : State) → s.at ≤ length src → j ≤ length src → Sited0 src P (past_gap src line j s)
  unfolding past_gap
  past_in line j s h k = go (gap_at s.kind true src j) (gap_in s.kind true src P j k)
    where
      go : (g : Result (ℕ × ℕ) Refusal) → GapIn src P j g → Sited0 src P (past line g s)
      go (Ok (i, n)) x = record { here = x.inside; stops = on_test (Stops src P) (line && not (eqb n 0)) Done Going (λ e. tt) (λ e. tt) }
      go (Err f) x = record { here = h; stops = x }

  pub pass_in : (line : Bool) (j : ℕ) {a : Answer} {s : State} → j ≤ length src → Sited src P a s → Sited0 src P (pass_on src line j a s)
  pass_in line j {a = Going} {s} k x = past_in line j s x.here k
  pass_in line j {a = Done} k x = x
  pass_in line j {a = Refused f} k x = x

  -- from here on the state stands in the source
  module _ (s : State) (h : s.at ≤ length src) where
    -- a row more: 42 gives its place
    pub push_to : (k : ℕ) (row t : List ℕ) → ReadTable P (table_number k) → Passed src (get_or row (row_place k) 0) (get_or row (row_place k + 1) 0) → Sited1 src P (push_row s k row t)
    unfolding push_row
    push_to k row t b p = go (add_row (count s k) row t).ok (add_row (count s k) row t).cells
      where
        go : (q : Bool) (x : List ℕ) → Sited1 src P (pushed q s k row x)
        go true x = record { here = h; stops = tt }
        go false x = record { here = h; stops = (b, p) }

    pub push_in : (k : ℕ) (row t : List ℕ) → k < 10 → Passed src (get_or row (row_place k) 0) (get_or row (row_place k + 1) 0) → Sited1 src P (push_row s k row t)
    push_in k row t b p = push_to k row t (numbered P k b) p

    -- a repeat listed: 42 gives the repeated place
    pub repeat_in : (what : Repeat) (a b c d : ℕ) (t : List ℕ) → Passed src c d → Sited1 src P (list_repeat s what a b c d t)
    unfolding list_repeat
    repeat_in what a b c d t p = push_in repeats (repeat_cells (number_of_repeat what) a b c d) t (omega arith) p

    -- a token entered
    pub enter_in : (a b : ℕ) (d : Bool) (t : List ℕ) → Passed src a b → Sited1 src P (enter_step src s a b d t)
    unfolding enter_step
    enter_in a b d t p = go (enter_token src (count s tokens) a b d t).entered (enter_token src (count s tokens) a b d t).cells
      where
        go : (q : Option ℕ) (x : List ℕ) → Sited1 src P (entered q s (token_cells a b (flag d)) x)
        go (Some m) x = record { here = h; stops = tt }
        go None x = record { here = h; stops = (numbered P tokens (omega arith), p) }

    -- what may be given once to a name
    pub once_in : (k w name : ℕ) (what : Repeat) (row t t10 : List ℕ) → k < 10 → Passed src (get_or row (row_place k) 0) (get_or row (row_place k + 1) 0) → Sited2 src P (once_step src s k w name what row t t10)
    unfolding once_step
    once_in k w name what row t t10 b p = go (find_name src w name (count s k) t (get_or row name 0) (get_or row (name + 1) 0))
      where
        go : (r : Option ℕ) → Sited2 src P (once_found r s k w what row t t10)
        go (Some r) = repeat_in what _ _ _ _ t10 p
        go None = push_in k row t b p
