-- A run of symbols, read with the few numbers that they change: where it stands, how many tokens and symbols there are, and where the draft ends. It has no
-- definition of its own: it is so many turns of a rule's items, whatever else the state and the draft hold.
use Rattle.std.specs.Prelude.{ℕ, ◌+◌, ◌-◌, ◌≤◌, ◌<◌, ◌≡◌, List, length, Option, Some, None}
use Rattle.scan.specs.Loop.{Left}
use Rattle.tables.specs.Layout.{tokens, symbols}
use Rattle.grammar.specs.declared.State.{State}
use Rattle.grammar.specs.declared.Answer.TheVariants.{Going}
use Rattle.grammar.specs.State.{count, with_at, with_count}
use Rattle.productions.specs.declared.Production.{Production}
use Rattle.items.specs.Items.{Made3, with_to, item_step, item_turn}

-- the state come to `at`, with m tokens and n symbols
abbrev pub ran_state : State → ℕ → ℕ → ℕ → State
ran_state s at m n = with_at (with_count (with_count s tokens m) symbols n) at

-- where a rule's items go on
abbrev pub going : State → Production → List ℕ → List ℕ → List ℕ → Made3
going s d t1 t8 t9 = record { answer = Going; state = s; draft = d; t1 = t1; t8 = t8; t9 = t9 }

-- a state of which the numbers kind, at, m and n tell
pub record NumbersOf (s : State) (kind at m n : ℕ) : Type 0 where
  pub same : s.kind ≡ kind
  pub stands : s.at ≡ at
  pub first : count s tokens ≡ m
  pub ninth : count s symbols ≡ n

-- In a reading of the kind the symbol at `at` is an item that goes on at j, with k tokens and one symbol more, and its word ends at `end`; u1 and u9 are what tables 1 and 9 are then.
pub record Reads (kind : ℕ) (src : List ℕ) (at m n : ℕ) (t1 t9 : List ℕ) (j k end : ℕ) (u1 u9 : List ℕ) : Type 0 where
  pub further : at < j
  pub inside : j ≤ length src
  pub counted : n < 4294967295
  pub step : (s : State) (d : Production) (t8 : List ℕ) → NumbersOf s kind at m n → going (ran_state s j k (n + 1)) (with_to d end) u1 t8 u9 ≡ item_step src s d t1 t8 t9

-- what was not read left the tables as they stood
abbrev pub Quickly : ℕ → List ℕ → ℕ → ℕ → ℕ → List ℕ → List ℕ → List ℕ → List ℕ → Option (ℕ × ℕ × ℕ) → Type 0
Quickly kind src at m n t1 t9 u1 u9 (Some (j, k, end)) = Reads kind src at m n t1 t9 j k end u1 u9
Quickly kind src at m n t1 t9 u1 u9 None = (u1 ≡ t1) × (u9 ≡ t9)

-- how many tokens there are behind it
abbrev pub tokens_now : ℕ → Option (ℕ × ℕ × ℕ) → ℕ
tokens_now m (Some (j, k, end)) = k
tokens_now m None = m

-- A run from `at`, with m tokens, n symbols and a draft that ends at `to`, up to j, with k, l and `end`: what is left of a rule's items where it begins
-- is what is left of them where it ends.
abbrev pub Ran : ℕ → List ℕ → ℕ → ℕ → ℕ → ℕ → List ℕ → List ℕ → ℕ → ℕ → ℕ → ℕ → List ℕ → List ℕ → Type 0
Ran kind src at m n to t1 t9 j k l end u1 u9 =
    (s : State) (d : Production) (t8 : List ℕ) (o : Made3) (most : ℕ) → length s.counts.n ≡ 10 → NumbersOf s kind at m n → d.to ≡ to
    → Left (item_turn src) o most (length src - at) (going s d t1 t8 t9)
    → Left (item_turn src) o most (length src - j) (going (ran_state s j k l) (with_to d end) u1 t8 u9)
