-- The finder of tables 2 to 5 leads to their rows where a declaration leaves their counts, and where it fills one of them. Assumes nothing.
use Prim.Native.Nat.{ℕ, ◌<◌}
use mathlib.Core.Path.{◌≡◌}
use mathlib.Core.List.{List}
use native.Mathlib.Omega.{arith}
use Rattle.tables.specs.Layout.{tokens, precedences, avoided, implicit, epps, width}
use Rattle.finder.specs.Finder.{Grown}
use Rattle.finder.proofs.Laws.{held_grown}
use Rattle.grammar.specs.declared.Counts.{Counts}
use Rattle.grammar.specs.State.{Tokens, Tracked, Follows}
use Rattle.grammar.proofs.Spares.{Spares, spared}
use Rattle.declarations.specs.Declarations.{Givens}

-- slots that a row of another table has taken
pub tracked_grown : {src : List ℕ} {k w name : ℕ} {c : Counts} {t ix jx : List ℕ} → Grown ix jx → Tracked src k w name c t ix → Tracked src k w name c t jx
tracked_grown {src} {k} {w} {name} {c} {t} {ix} {jx} G I = record { ten = I.ten; held = held_grown src w name _ t ix I.held jx G }

-- the counts of tables 2 to 5 stay, but for that of table j + 1
abbrev pub Leaves : ℕ → Counts → Counts → Type 0
Leaves j c d = (k : ℕ) → 0 < k → k < 5 → (j ≡ k → ⊥) → Spares k c d

module _ {src : List ℕ} {c d : Counts} {t2 t3 t4 t5 fx : List ℕ} (G : Givens src c t2 t3 t4 t5 fx) where
  -- no table is filled
  pub givens_spared : ((k : ℕ) → 0 < k → k < 5 → Spares k c d) → Givens src d t2 t3 t4 t5 fx
  givens_spared f =
      record {
        second = spared (f precedences (omega arith) (omega arith)) G.second;
        third = spared (f avoided (omega arith) (omega arith)) G.third;
        fourth = spared (f implicit (omega arith) (omega arith)) G.fourth;
        fifth = spared (f epps (omega arith) (omega arith)) G.fifth;
      }

  module _ {u jx : List ℕ} where
    -- one of them is
    pub second_filled : Leaves precedences c d → Follows src precedences (width precedences) 0 d u fx jx → Givens src d u t3 t4 t5 jx
    second_filled f F =
        record {
          second = F.0;
          third = tracked_grown F.1 (spared (f avoided (omega arith) (omega arith) (λ z. omega arith)) G.third);
          fourth = tracked_grown F.1 (spared (f implicit (omega arith) (omega arith) (λ z. omega arith)) G.fourth);
          fifth = tracked_grown F.1 (spared (f epps (omega arith) (omega arith) (λ z. omega arith)) G.fifth);
        }

    pub third_filled : Leaves avoided c d → Follows src avoided (width avoided) 0 d u fx jx → Givens src d t2 u t4 t5 jx
    third_filled f F =
        record {
          second = tracked_grown F.1 (spared (f precedences (omega arith) (omega arith) (λ z. omega arith)) G.second);
          third = F.0;
          fourth = tracked_grown F.1 (spared (f implicit (omega arith) (omega arith) (λ z. omega arith)) G.fourth);
          fifth = tracked_grown F.1 (spared (f epps (omega arith) (omega arith) (λ z. omega arith)) G.fifth);
        }

    pub fourth_filled : Leaves implicit c d → Follows src implicit (width avoided) 0 d u fx jx → Givens src d t2 t3 u t5 jx
    fourth_filled f F =
        record {
          second = tracked_grown F.1 (spared (f precedences (omega arith) (omega arith) (λ z. omega arith)) G.second);
          third = tracked_grown F.1 (spared (f avoided (omega arith) (omega arith) (λ z. omega arith)) G.third);
          fourth = F.0;
          fifth = tracked_grown F.1 (spared (f epps (omega arith) (omega arith) (λ z. omega arith)) G.fifth);
        }

    pub fifth_filled : Leaves epps c d → Follows src epps (width epps) 2 d u fx jx → Givens src d t2 t3 t4 u jx
    fifth_filled f F =
        record {
          second = tracked_grown F.1 (spared (f precedences (omega arith) (omega arith) (λ z. omega arith)) G.second);
          third = tracked_grown F.1 (spared (f avoided (omega arith) (omega arith) (λ z. omega arith)) G.third);
          fourth = tracked_grown F.1 (spared (f implicit (omega arith) (omega arith) (λ z. omega arith)) G.fourth);
          fifth = F.0;
        }

-- and where table 1 is left too
pub both_spared : {src : List ℕ} {c d : Counts} {t1 t2 t3 t4 t5 ix fx : List ℕ} → ((k : ℕ) → k < 5 → Spares k c d) → Tokens src c t1 ix × Givens src c t2 t3 t4 t5 fx → Tokens src d t1 ix × Givens src d t2 t3 t4 t5 fx
both_spared f P = (spared (f tokens (omega arith)) P.0, givens_spared P.1 (λ k l m. f k m))

pub both_counted : {src : List ℕ} {c d : Counts} {t1 t2 t3 t4 t5 ix fx : List ℕ} → d ≡ c → Tokens src c t1 ix × Givens src c t2 t3 t4 t5 fx → Tokens src d t1 ix × Givens src d t2 t3 t4 t5 fx
both_counted e P = rw e P
