-- What leaves the count of a table alone leaves its finder. Assumes nothing.
use Rattle.std.specs.Prelude.{Option, Some, None}
use Prim.Native.Nat.{ℕ, ◌+◌, ◌<◌}
use mathlib.Core.Path.{◌≡◌, refl, sym, ap, subst, ◌∙◌}
use mathlib.Core.List.{List}
use mathlib.Core.Bool.{Bool, true, false}
use mathlib.Core.Logic.{⊎_elim}
use native.Mathlib.Omega.{arith}
use lib.ListN.{length, length-set, get_or}
use lib.Seq.{get_or-set_other}
use Rattle.scan.proofs.Bytes.{le_or_lt}
use Rattle.tables.specs.Table.{add_row, enter_token, find_name, flag}
use Rattle.tables.specs.Layout.{tokens, repeats, posix_from}
use Rattle.grammar.specs.declared.Counts.{Counts}
use Rattle.grammar.specs.declared.State.{State}
use Rattle.grammar.specs.declared.Repeat.{Repeat}
use Rattle.grammar.specs.declared.Answer.{Answer}
use Rattle.grammar.specs.Cells.{token_cells}
use Rattle.grammar.specs.State.{Out0, Out1, Tracked, count, with_count, pushed, push_row, list_repeat, entered, enter_step, once_found, once_step, pass_on}
use Rattle.grammar.proofs.Counting.{with_low, with_high}
use Rattle.grammar.proofs.Touch.{pass_counts}

-- counts that have the same number of rows in table k + 1
pub record Spares (k : ℕ) (c d : Counts) : Type 0 where
  pub long : length d.n ≡ length c.n
  pub same : get_or d.n k 0 ≡ get_or c.n k 0

pub spares_none : (k : ℕ) (c : Counts) → Spares k c c
spares_none k c = record { long = refl; same = refl }

pub spares_on : {k : ℕ} {c d e : Counts} → Spares k c d → Spares k d e → Spares k c e
spares_on x y = record { long = y.long ∙ x.long; same = y.same ∙ x.same }

-- so the finder stays
pub spared : {src : List ℕ} {k w name : ℕ} {c d : Counts} {t ix : List ℕ} → Spares k c d → Tracked src k w name c t ix → Tracked src k w name d t ix
spared x I = record { ten = x.long ∙ I.ten; held = rw x.same I.held }

pub spares_count : (k : ℕ) (s : State) (j n : ℕ) → (j ≡ k → ⊥) → Spares k s.counts (with_count s j n).counts
spares_count k s j n d =
    ⊎_elim (λ h. subst (λ (u : State). Spares k s.counts u.counts) (sym (with_high s j n h)) (spares_none k s.counts))
    (λ h. subst (λ (u : State). Spares k s.counts u.counts) (sym (with_low s j n h)) (record { long = length-set s.counts.n j n; same = get_or-set_other s.counts.n j k n 0 (λ e. d (sym e)) }))
    (le_or_lt posix_from j)

-- a row of another table
pub spares_push : (k : ℕ) (s : State) (j : ℕ) (row t : List ℕ) → (j ≡ k → ⊥) → Spares k s.counts (push_row s j row t).state.counts
unfolding push_row
spares_push k s j row t d = go (add_row (count s j) row t).ok (add_row (count s j) row t).cells
  where
    go : (q : Bool) (u : List ℕ) → Spares k s.counts (pushed q s j row u).state.counts
    go true u = spares_count k s j (count s j + 1) d
    go false u = spares_none k s.counts

pub spares_repeat : (k : ℕ) (s : State) (what : Repeat) (a b c d : ℕ) (t : List ℕ) → (repeats ≡ k → ⊥) → Spares k s.counts (list_repeat s what a b c d t).state.counts
unfolding list_repeat
spares_repeat k s what a b c d t x = spares_push k s repeats _ t x

-- what is given once to a name, in another table
pub spares_once : (k : ℕ) (src : List ℕ) (s : State) (j w name : ℕ) (what : Repeat) (row t t10 : List ℕ) → (j ≡ k → ⊥) → (repeats ≡ k → ⊥) → Spares k s.counts (once_step src s j w name what row t t10).state.counts
unfolding once_step
spares_once k src s j w name what row t t10 d x = go (find_name src w name (count s j) t (get_or row name 0) (get_or row (name + 1) 0))
  where
    go : (f : Option ℕ) → Spares k s.counts (once_found f s j w what row t t10).state.counts
    go (Some r) = spares_repeat k s what _ _ _ _ t10 x
    go None = spares_push k s j row t d

-- a token
pub spares_enter : (k : ℕ) (src : List ℕ) (s : State) (a b : ℕ) (declared : Bool) (t : List ℕ) → (tokens ≡ k → ⊥) → Spares k s.counts (enter_step src s a b declared t).state.counts
unfolding enter_step
spares_enter k src s a b declared t d = go (enter_token src (count s tokens) a b declared t).entered
  where
    go : (o : Option ℕ) → Spares k s.counts (entered o s (token_cells a b (flag declared)) (enter_token src (count s tokens) a b declared t).cells).state.counts
    go (Some m) = spares_count k s tokens m d
    go None = spares_none k s.counts

-- spacing
pub spares_pass : (k : ℕ) (src : List ℕ) (line : Bool) (j : ℕ) (a : Answer) (s : State) → Spares k s.counts (pass_on src line j a s).state.counts
spares_pass k src line j a s = rw (pass_counts src line j a s) (spares_none k s.counts)

-- behind a step
pub spares_behind : (k : ℕ) (src : List ℕ) (line : Bool) (j : ℕ) (a : Answer) (s : State) {c : Counts} → Spares k c s.counts → Spares k c (pass_on src line j a s).state.counts
spares_behind k src line j a s x = spares_on x (spares_pass k src line j a s)

-- the finder stays behind spacing, and with a row of another table
pub tracked_passed : (src : List ℕ) (k w name : ℕ) (line : Bool) (j : ℕ) (a : Answer) (s : State) (b : Answer) (q : State) (t ix : List ℕ) → ◌≡◌ {A = Out0} (record { answer = b; state = q }) (pass_on src line j a s) → Tracked src k w name s.counts t ix → Tracked src k w name q.counts t ix
tracked_passed src k w name line j a s b q t ix e I = rw (ap (λ (o : Out0). o.state.counts) e) (spared (spares_pass k src line j a s) I)

pub tracked_pushed : (src : List ℕ) (k w name : ℕ) (s : State) (j : ℕ) (row u : List ℕ) (answer : Answer) (next : State) (cells t ix : List ℕ) → (j ≡ k → ⊥) → record { answer = answer; state = next; a = cells } ≡ push_row s j row u → Tracked src k w name s.counts t ix → Tracked src k w name next.counts t ix
tracked_pushed src k w name s j row u answer next cells t ix d e I = rw (ap (λ (o : Out1). o.state.counts) e) (spared (spares_push k s j row u d) I)

-- a repeat is a row of table 10
pub tracked_repeated : (src : List ℕ) (k w name : ℕ) (s : State) (what : Repeat) (a b c d : ℕ) (u : List ℕ) (answer : Answer) (next : State) (cells t ix : List ℕ) → k < 9 → record { answer = answer; state = next; a = cells } ≡ list_repeat s what a b c d u → Tracked src k w name s.counts t ix → Tracked src k w name next.counts t ix
tracked_repeated src k w name s what a b c d u answer next cells t ix l e I = rw (ap (λ (o : Out1). o.state.counts) e) (spared (spares_repeat k s what a b c d u (λ z. omega arith)) I)
