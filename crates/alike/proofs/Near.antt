-- All thirteen tables of two readings by number: a step on one or two of them keeps them alike, and no step says that the others stay. Assumes nothing.
use Rattle.std.specs.Prelude.{Option}
use Prim.Native.Nat.{ℕ, zero, suc, ◌-◌, ◌<◌}
use mathlib.Core.Path.{◌≡◌, refl, ◌∙◌}
use mathlib.Core.List.{List}
use mathlib.Core.Logic.{⊎_elim}
use native.Mathlib.Omega.{arith}
use native.Mathlib.Decide.{ℕ_discrete}
use lib.ListN.{get_or, replicate}
use Rattle.scan.proofs.Bytes.{le_or_lt}
use Rattle.tables.specs.Layout.{repeats, posix_from}
use Rattle.grammar.specs.declared.Singles.{Singles}
use Rattle.grammar.specs.declared.State.{State}
use Rattle.grammar.specs.Sound.{AllTables, set_tab, zero_all}
use Rattle.grammar.specs.State.{Out1, Out2, count, with_at, with_level, with_singles, with_actiontype, fresh}
use Rattle.grammar.proofs.Counting.{count_low, count_high}
use Rattle.grammar.proofs.Far.{tab_same, tab_other}
use Rattle.alike.specs.Like.{Kind, Table, LikePart, LikeSingles, Like, Near}
use Rattle.alike.proofs.Steps.{Both1, Both2, like_at, like_level, like_singles, like_actiontype}

-- nothing but where they stand, the level, the singles or the action type changes
module _ (src out : List ℕ) (s u : State) (T W : AllTables) (n : Near src out s u T W) where
  pub near_at : (i j : ℕ) → Near src out (with_at s i) (with_at u j) T W
  near_at i j = record { like = like_at src out s u n.like i j; tables = n.tables }

  pub near_level : (i : ℕ) → Near src out (with_level s i) (with_level u i) T W
  near_level i = record { like = like_level src out s u n.like i; tables = n.tables }

  pub near_singles : (g h : Singles) → LikeSingles src out g h → Near src out (with_singles s g) (with_singles u h) T W
  near_singles g h x = record { like = like_singles src out s u n.like g h x; tables = n.tables }

  pub near_actiontype : (p q : Option (ℕ × ℕ)) → LikePart src out p q → Near src out (with_actiontype s p) (with_actiontype u q) T W
  near_actiontype p q x = record { like = like_actiontype src out s u n.like p q x; tables = n.tables }

-- table k is replaced in both
replaced : (src out : List ℕ) (s u s' u' : State) (T W : AllTables) → Near src out s u T W → (k : ℕ) → k < 13 → (x y : List ℕ) → Like src out s' u' → Table src out k (count s' k) x y
    → ((j : ℕ) → (j ≡ k → ⊥) → count s' j ≡ count s j) → Near src out s' u' (set_tab T k x) (set_tab W k y)
replaced src out s u s' u' T W n k b x y l t others =
    record {
      like = l;
      tables = λ j. elim (ℕ_discrete j k) [
        | yes e ↦ rw (e, tab_same T k x b, tab_same W k y b) t
        | no e ↦ rw (others j e, tab_other T k j x e, tab_other W k j y e) (n.tables j)
      ];
    }

pub near_one : (src out : List ℕ) (s u : State) (T W : AllTables) → Near src out s u T W → (k : ℕ) → k < 13 → (o z : Out1) → Both1 src out k s u o z → Near src out o.state z.state (set_tab T k o.a) (set_tab W k z.a)
near_one src out s u T W n k b o z r = replaced src out s u o.state z.state T W n k b o.a z.a r.states r.table r.others

pub near_two : (src out : List ℕ) (s u : State) (T W : AllTables) → Near src out s u T W → (k : ℕ) → k < 13 → (k ≡ repeats → ⊥) → (o z : Out2) → Both2 src out k s o z
    → Near src out o.state z.state (set_tab (set_tab T k o.a) repeats o.b) (set_tab (set_tab W k z.a) repeats z.b)
near_two src out s u T W n k b d o z r =
    record {
      like = r.states;
      tables = λ j. elim (ℕ_discrete j repeats) [
        | yes e ↦ rw (e, tab_same (set_tab T k o.a) repeats o.b (omega arith), tab_same (set_tab W k z.a) repeats z.b (omega arith)) r.again
        | no e ↦ rw (tab_other (set_tab T k o.a) repeats j o.b e, tab_other (set_tab W k z.a) repeats j z.b e)
            (elim (ℕ_discrete j k) [
              | yes f ↦ rw (f, tab_same T k o.a b, tab_same W k z.a b) r.table
              | no f ↦ rw (r.others j f e, tab_other T k j o.a f, tab_other W k j z.a f) (n.tables j)
            ])
      ];
    }

zeros : (n k : ℕ) → ◌≡◌ {A = ℕ} (get_or (replicate n 0) k 0) 0
zeros zero k = refl
zeros (suc n) zero = refl
zeros (suc n) (suc k) = zeros n k

-- nothing is counted where a reading begins
none : (kind k : ℕ) → count (fresh kind) k ≡ 0
none kind k =
    ⊎_elim (λ h. count_high (fresh kind) k h ∙ zeros 3 (k - posix_from)) (λ h. count_low (fresh kind) k h ∙ zeros 10 k) (le_or_lt posix_from k)

-- Two readings of one kind that are lent the same tables begin alike.
pub near_fresh : (src out : List ℕ) (kind : ℕ) (T : AllTables) → Kind kind → Near src out (fresh kind) (fresh kind) (zero_all T) (zero_all T)
near_fresh src out kind T x =
    record {
      like = record { shipped = x; kind = refl; level = refl; ten = refl; counts = refl; posix = refl; singles = record { start = tt; expect = tt; expect_rr = tt; param = tt; generics = tt; programs = tt }; actiontype = tt };
      tables = λ k. rw (none kind k) (record { long = refl; fits = omega arith; rows = λ r l. absurd (omega arith) });
    }
