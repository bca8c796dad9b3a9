-- A production under way: what holds of its draft between any two items, so that its row will be sound.
use Rattle.std.specs.Prelude.{ℕ, ◌≤◌, ◌<◌, ◌≡◌, List, Option, Some, None}
use Rattle.tables.specs.Layout.{rules}
use Rattle.grammar.specs.declared.State.{State}
use Rattle.grammar.specs.State.{Passed, count}
use Rattle.productions.specs.declared.Production.{Production}

-- a `%prec` name lies in the source, if there is one
abbrev pub LiesPrec : List ℕ → Option (ℕ × ℕ) → Type 0
LiesPrec src None = Unit {0}
LiesPrec src (Some (a, b)) = Passed src a b

-- an action's text and its crate's span lie in the source, if there is one
abbrev pub LiesAction : List ℕ → Option (ℕ × ℕ × ℕ × ℕ) → Type 0
LiesAction src None = Unit {0}
LiesAction src (Some (a, b, c, d)) = Passed src a b × Passed src c d

-- The draft d where a reading stands at s and the ranges of the productions before it end at `done`.
pub record Draft (src : List ℕ) (done : ℕ) (s : State) (d : Production) : Type 0 where
  -- its rule has a row
  pub rule : d.rule < count s rules
  -- it begins where the reading stands, or before
  pub begins : d.from ≤ s.at
  -- its place lies in the source
  pub span : Passed src d.from d.to
  -- its symbols begin where those of the productions before end
  pub first : d.first ≡ done
  -- the name of its `%prec` lies in the source
  pub prec : LiesPrec src d.prec
  -- and so does its action
  pub action : LiesAction src d.action
