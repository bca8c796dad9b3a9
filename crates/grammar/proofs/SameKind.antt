-- No step changes the kind of the reading. Assumes nothing.
use Rattle.std.specs.Prelude.{Option, Some, None, Result, Ok, Err}
use Prim.Native.Nat.{ℕ}
use mathlib.Core.Path.{◌≡◌, refl}
use mathlib.Core.List.{List}
use mathlib.Core.Bool.{Bool, true, false}
use Rattle.tables.specs.Table.{add_row, enter_token, flag, find_name}
use Rattle.grammar.specs.declared.State.{State}
use Rattle.grammar.specs.declared.Answer.{Answer}
use Rattle.grammar.specs.declared.Answer.TheVariants.{Going, Done, Refused}
use Rattle.grammar.specs.declared.Repeat.{Repeat}
use Rattle.grammar.specs.declared.Refusal.{Refusal}
use Rattle.tables.specs.Layout.{tokens, repeats}
use Rattle.grammar.specs.Cells.{token_cells}
use Rattle.grammar.specs.State.{count, gap_at, pushed, push_row, list_repeat, entered, enter_step, once_found, once_step, past, past_gap, pass_on}

module _ (s : State) where
  -- neither a row more,
  pub push_kind : (k : ℕ) (row t : List ℕ) → (push_row s k row t).state.kind ≡ s.kind
  unfolding push_row
  push_kind k row t = go (add_row (count s k) row t).ok
    where
      go : (b : Bool) → (pushed b s k row (add_row (count s k) row t).cells).state.kind ≡ s.kind
      go true = refl
      go false = refl

  pub repeat_kind : (what : Repeat) (a b c d : ℕ) (t : List ℕ) → (list_repeat s what a b c d t).state.kind ≡ s.kind
  unfolding list_repeat
  repeat_kind what a b c d t = push_kind repeats _ t

  -- nor a token,
  pub enter_kind : (src : List ℕ) (a b : ℕ) (d : Bool) (t : List ℕ) → (enter_step src s a b d t).state.kind ≡ s.kind
  unfolding enter_step
  enter_kind src a b d t = go (enter_token src (count s tokens) a b d t).entered
    where
      go : (e : Option ℕ) → (entered e s (token_cells a b (flag d)) (enter_token src (count s tokens) a b d t).cells).state.kind ≡ s.kind
      go (Some m) = refl
      go None = refl

  -- nor what may be given once,
  pub once_kind : (src : List ℕ) (k w name : ℕ) (what : Repeat) (row t t10 : List ℕ) → (once_step src s k w name what row t t10).state.kind ≡ s.kind
  unfolding once_step
  once_kind src k w name what row t t10 = go (find_name src w name (count s k) t _ _)
    where
      go : (f : Option ℕ) → (once_found f s k w what row t t10).state.kind ≡ s.kind
      go (Some r) = repeat_kind what _ _ _ _ t10
      go None = push_kind k row t

  -- nor spacing.
  pub past_kind : (src : List ℕ) (line : Bool) (j : ℕ) → (past_gap src line j s).state.kind ≡ s.kind
  unfolding past_gap
  past_kind src line j = go (gap_at s.kind true src j)
    where
      go : (g : Result (ℕ × ℕ) Refusal) → (past line g s).state.kind ≡ s.kind
      go (Ok (i, n)) = refl
      go (Err e) = refl

  pub pass_kind : (src : List ℕ) (line : Bool) (j : ℕ) (a : Answer) → (pass_on src line j a s).state.kind ≡ s.kind
  pass_kind src line j Going = past_kind src line j
  pass_kind src line j Done = refl
  pass_kind src line j (Refused f) = refl
