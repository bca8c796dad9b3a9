-- Tables that pass their tests have one row for a name, so that a symbol's row is told by its bytes. Assumes nothing.
use Prim.Native.Nat.{ℕ}
use mathlib.Core.Path.{◌≡◌}
use mathlib.Core.List.{List}
use mathlib.Core.Bool.{Bool, true}
use native.Mathlib.Omega.{arith}
use Rattle.tables.specs.Layout.{tokens, rules, width}
use Rattle.tables.specs.Below.{below}
use Rattle.tables.proofs.Below.{below_each}
use Rattle.index.specs.Index.{fresh_name}
use Rattle.symbols.specs.Symbols.{lexicon, knows_test, Single}
use Rattle.symbols.proofs.Laws.{fresh_single}
use Rattle.grammar.specs.declared.Counts.{Counts}
use Rattle.grammar.specs.Sound.{Tables}
use Rattle.sound.specs.Test.{count_at, tables_test}
use Rattle.sound.proofs.Iff.{apart_iff, tables_iff}

pub tables_single : (src : List ℕ) (c : Counts) (T : Tables) → tables_test src c T ≡ true → Single src (width tokens) (count_at c tokens) T.t1 × Single src (width rules) (count_at c rules) T.t7
tables_single src c T h =
    let R = (tables_iff src c T).0 h in (
      fresh_single src (width tokens) (count_at c tokens) T.t1 (below_each (fresh_name src (width tokens) 0 T.t1) (count_at c tokens) ((apart_iff src (width tokens) T.t1 (omega arith) (count_at c tokens)).1 (R tokens (omega arith)).pairs)),
      fresh_single src (width rules) (count_at c rules) T.t7 (below_each (fresh_name src (width rules) 0 T.t7) (count_at c rules) ((apart_iff src (width rules) T.t7 (omega arith) (count_at c rules)).1 (R rules (omega arith)).pairs)),
    )

-- the counts by another name
pub known_counts : (src t1 t7 t9 : List ℕ) (n m k n' m' k' : ℕ) → n ≡ n' → m ≡ m' → k ≡ k' → (q : Bool) → q ≡ below k (knows_test (lexicon src t1 n t7 m) t9) → q ≡ below k' (knows_test (lexicon src t1 n' t7 m') t9)
known_counts src t1 t7 t9 n m k n' m' k' x y z q e = rw (← x, ← y, ← z) e
