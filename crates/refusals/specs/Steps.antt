-- What holds behind each step of a reading, whatever its answer: it stands in the source, and a refusal ends the reading, at a place of the source.
use Rattle.std.specs.Prelude.{ℕ, ◌≤◌, List, ◌⊎◌, Bool, true, false, ltb, length, Result, Ok, Err}
use Rattle.grammar.specs.declared.State.{State}
use Rattle.grammar.specs.declared.Refusal.{Refusal}
use Rattle.grammar.specs.declared.Refusal.TheVariants.{Fault, Repeated, NoRoom, TooLong, BadKind, BadIndex}
use Rattle.grammar.specs.declared.Answer.{Answer}
use Rattle.grammar.specs.declared.Answer.TheVariants.{Going, Done, Refused}
use Rattle.grammar.specs.Refusals.{number_of_cause}
use Rattle.grammar.specs.State.{Out0, Out1, Out2, Out3, Out4, Passed}
use Rattle.productions.specs.declared.Production.{Production}
use Rattle.declarations.specs.Declarations.{Out}
use Rattle.items.specs.Items.{Itemed}
use Rattle.rules.specs.Rules.{Ruled}

-- the tables that a read fills: one of the ten, or of those of kind 4, where P
abbrev pub ReadTable : Type 0 → ℕ → Type 0
ReadTable P t = ((1 ≤ t) × (t ≤ 10)) ⊎ (P × (15 ≤ t) × (t ≤ 17))

-- 50 to 52 are those of kind 4
abbrev pub CausedIn : Bool → Type 0 → Type 0 → Type 0
CausedIn true P X = X
CausedIn false P X = P × X

-- "One fatal error ends reading; repeats met before it stay listed": no step is refused for a repeat, and for what only kind 4 has where P alone
abbrev pub Fatal : List ℕ → Type 0 → Refusal → Type 0
Fatal src P (Fault c i) = CausedIn (ltb (number_of_cause c) 50) P (i ≤ length src)
Fatal src P (Repeated what a b) = ⊥
Fatal src P (NoRoom t a b) = ReadTable P t × Passed src a b
Fatal src P TooLong = Unit {0}
Fatal src P BadKind = Unit {0}
Fatal src P BadIndex = Unit {0}

abbrev pub Stops : List ℕ → Type 0 → Answer → Type 0
Stops src P Going = Unit {0}
Stops src P Done = Unit {0}
Stops src P (Refused f) = Fatal src P f

abbrev pub GapIn : List ℕ → Type 0 → ℕ → Result (ℕ × ℕ) Refusal → Type 0
GapIn src P from (Ok (i, n)) = Passed src from i
GapIn src P from (Err f) = Fatal src P f

pub record Sited (src : List ℕ) (P : Type 0) (a : Answer) (s : State) : Type 0 where
  pub here : s.at ≤ length src
  pub stops : Stops src P a

-- of a step on no table, on one, on two, on three and on four
abbrev pub Sited0 : List ℕ → Type 0 → Out0 → Type 0
Sited0 src P o = Sited src P o.answer o.state

abbrev pub Sited1 : List ℕ → Type 0 → Out1 → Type 0
Sited1 src P o = Sited src P o.answer o.state

abbrev pub Sited2 : List ℕ → Type 0 → Out2 → Type 0
Sited2 src P o = Sited src P o.answer o.state

abbrev pub Sited3 : List ℕ → Type 0 → Out3 → Type 0
Sited3 src P o = Sited src P o.answer o.state

abbrev pub Sited4 : List ℕ → Type 0 → Out4 → Type 0
Sited4 src P o = Sited src P o.answer o.state

-- of a declaration, of a rule's items and of rules
abbrev pub SitedOut : List ℕ → Type 0 → Out → Type 0
SitedOut src P o = Sited src P o.answer o.state

abbrev pub SitedItems : List ℕ → Type 0 → Itemed → Type 0
SitedItems src P o = Sited src P o.answer o.state

abbrev pub SitedRules : List ℕ → Type 0 → Ruled → Type 0
SitedRules src P o = Sited src P o.answer o.state

-- behind an item of a production: its place, which 42 of table 8 gives, lies in the source too, and begins where the reading stands or before
pub record SitedItem (src : List ℕ) (P : Type 0) (a : Answer) (s : State) (d : Production) : Type 0 where
  pub read : Sited src P a s
  pub begins : d.from ≤ s.at
  pub span : Passed src d.from d.to
