-- What the shared steps touch and what they leave: a row more changes one table and its count, spacing changes the position alone. Assumes nothing.
use Rattle.std.specs.Prelude.{Result, Ok, Err}
use Prim.Native.Nat.{ℕ, ◌+◌, ◌≤◌}
use mathlib.Core.Path.{◌≡◌, refl, sym, ap}
use mathlib.Core.List.{List, [], ◌∷◌, ◌++◌}
use mathlib.Core.Bool.{Bool, true, false}
use native.Mathlib.Omega.{arith}
use native.Mathlib.Numerals.{add-one}
use lib.ListN.{length}
use Rattle.tables.specs.Layout.{posix_from}
use Rattle.tables.specs.Table.{Added, add_row, room}
use Rattle.tables.specs.Rows.{rows_of}
use Rattle.tables.proofs.Rows.{rows_of_add}
use Rattle.tables.proofs.Cases.{add_cases}
use Rattle.grammar.specs.declared.State.{State}
use Rattle.grammar.specs.declared.Answer.{Answer}
use Rattle.grammar.specs.declared.Answer.TheVariants.{Going, Done, Refused}
use Rattle.grammar.specs.declared.Refusal.{Refusal}
use Rattle.grammar.specs.State.{count, with_at, with_count, gap_at, pushed, push_row, past, past_gap, pass_on}
use Rattle.grammar.proofs.Counting.{with_high, with_ten, with_three, count_other}
use Rattle.grammar.proofs.Steps.{past_going, on_going}

-- answers differ
pub refused_going : (f : Refusal) → Refused f ≡ Going → ⊥
refused_going f e = let z : ◌≡◌ {A = ℕ} 0 1 = cc in omega arith

pub done_going : Done ≡ Going → ⊥
done_going e = let z : ◌≡◌ {A = ℕ} 0 1 = cc in omega arith

-- a step on table k + 1 touches no other table's count
pub record Apart (k : ℕ) (s u : State) : Type 0 where
  pub ten : length u.counts.n ≡ length s.counts.n
  pub three : length u.posix.n ≡ length s.posix.n
  pub level : u.level ≡ s.level
  pub count : (j : ℕ) → (j ≡ k → ⊥) → count u j ≡ count s j

-- table k + 1 has one row more: those before, and then this one
pub record More (k : ℕ) (row : List ℕ) (s : State) (t : List ℕ) (u : State) (x : List ℕ) : Type 0 where
  pub counted : count u k ≡ count s k + 1
  pub rows : rows_of (length row) (count u k) x ≡ rows_of (length row) (count s k) t ++ (row ∷ [])

module _ (s : State) (k : ℕ) (row : List ℕ) (t : List ℕ) where
  pub push_apart : Apart k s (push_row s k row t).state
  unfolding push_row
  push_apart =
      add_cases (λ (o : Added). Apart k s (pushed o.ok s k row o.cells).state) (count s k) row t
      (λ room low. record { ten = with_ten s k (count s k + 1); three = with_three s k (count s k + 1); level = refl; count = λ j d. count_other s k (count s k + 1) j d })
      (λ full. record { ten = refl; three = refl; level = refl; count = λ j d. refl })

  -- where it goes on, there is that row more, if the table is one that is counted
  pub push_more : count (with_count s k (count s k + 1)) k ≡ count s k + 1 → (push_row s k row t).answer ≡ Going → More k row s t (push_row s k row t).state (push_row s k row t).a
  unfolding push_row
  push_more same =
      add_cases (λ (o : Added). (pushed o.ok s k row o.cells).answer ≡ Going → More k row s t (pushed o.ok s k row o.cells).state (pushed o.ok s k row o.cells).a) (count s k) row t
      (λ room low g. record { counted = same; rows = rw (same, add-one) (rows_of_add (length row) (count s k) row t refl room) })
      (λ full g. absurd (refused_going _ g))

  -- a row behind the ten leaves their counts
  pub push_ten : posix_from ≤ k → (push_row s k row t).state.counts ≡ s.counts
  unfolding push_row
  push_ten h =
      add_cases (λ (o : Added). (pushed o.ok s k row o.cells).state.counts ≡ s.counts) (count s k) row t
      (λ room low. ap (λ (u : State). u.counts) (with_high s k (count s k + 1) h))
      (λ full. refl)

  -- and it goes on where there is room
  pub push_goes : room (length row) (count s k) t ≡ true → (push_row s k row t).answer ≡ Going
  unfolding push_row add_row
  push_goes h = rw h

-- spacing behind a step
module _ (src : List ℕ) (line : Bool) (j : ℕ) where
  pub pass_counts : (a : Answer) (s : State) → (pass_on src line j a s).state.counts ≡ s.counts
  unfolding past_gap
  pass_counts Going s = go (gap_at s.kind true src j)
    where
      go : (g : Result (ℕ × ℕ) Refusal) → (past line g s).state.counts ≡ s.counts
      go (Ok (i, n)) = refl
      go (Err e) = refl
  pass_counts Done s = refl
  pass_counts (Refused f) s = refl

  pub pass_count : (a : Answer) (s : State) (k : ℕ) → count (pass_on src line j a s).state k ≡ count s k
  unfolding past_gap
  pass_count Going s k = go (gap_at s.kind true src j)
    where
      go : (g : Result (ℕ × ℕ) Refusal) → count (past line g s).state k ≡ count s k
      go (Ok (i, n)) = refl
      go (Err e) = refl
  pass_count Done s k = refl
  pass_count (Refused f) s k = refl

  -- where it goes on, the step before it did, and there is spacing to the new position
  pub record Passes (a : Answer) (s : State) : Type 0 where
    pub to : ℕ
    pub lines : ℕ
    pub went : a ≡ Going
    pub gap : gap_at s.kind true src j ≡ Ok (to, lines)
    pub at : (pass_on src line j a s).state.at ≡ to

  pub pass_going : (a : Answer) (s : State) → (pass_on src line j a s).answer ≡ Going → Passes a s
  unfolding past_gap
  pass_going Going s h = go (gap_at s.kind true src j) refl h
    where
      go : (g : Result (ℕ × ℕ) Refusal) → gap_at s.kind true src j ≡ g → (past line g s).answer ≡ Going → Passes Going s
      go (Ok (i, n)) e x = record { to = i; lines = n; went = refl; gap = e; at = ap (λ (y : Result (ℕ × ℕ) Refusal). (past line y s).state.at) e }
      go (Err f) e x = absurd (refused_going f x)
  pass_going Done s h = absurd (done_going h)
  pass_going (Refused f) s h = absurd (refused_going f h)

-- and it goes on to where the spacing ends
pub pass_to : (src : List ℕ) (j : ℕ) (a : Answer) (s : State) (to lines : ℕ) → gap_at s.kind true src j ≡ Ok (to, lines) → a ≡ Going → pass_on src false j a s ≡ record { answer = Going; state = with_at s to }
pass_to src j a s to lines g h = sym (on_going src false j a s _ h (past_going src false j s (Ok (to, lines)) (sym g) to lines refl refl))
