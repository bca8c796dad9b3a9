-- A production that is stored as a row is the one that is loaded from it. Assumes nothing.
use Rattle.std.specs.Prelude.{Option, Some, None}
use Prim.Native.Nat.{ℕ, ◌+◌, ◌*◌, ◌≤◌, ◌<◌}
use mathlib.Core.Path.{◌≡◌, refl}
use mathlib.Core.List.{List}
use native.Mathlib.Omega.{arith}
use lib.ListN.{length, get_or}
use Rattle.tables.specs.Table.{put}
use Rattle.tables.specs.Layout.{productions, width}
use Rattle.tables.proofs.Rows.{cell_new}
use Rattle.productions.specs.declared.Production.{Production}
use Rattle.productions.specs.Cells.{prec_cells, action_cells, production_cells, prec_of, action_of, cell_of, production_at}

prec_back : (q : Option (ℕ × ℕ)) → prec_of (get_or (prec_cells q) 0 0) (get_or (prec_cells q) 1 0) (get_or (prec_cells q) 2 0) ≡ q
unfolding prec_of
prec_back None = refl
prec_back (Some (a, b)) = refl

action_back : (q : Option (ℕ × ℕ × ℕ × ℕ)) → action_of (get_or (action_cells q) 0 0) (get_or (action_cells q) 1 0) (get_or (action_cells q) 2 0) (get_or (action_cells q) 3 0) (get_or (action_cells q) 4 0) ≡ q
unfolding action_of
action_back None = refl
action_back (Some (a, b, c, d)) = refl

pub stored : (p : Production) (n : ℕ) (t : List ℕ) → n * width productions + width productions ≤ length t → production_at (put t (n * width productions) (production_cells p)) n ≡ p
unfolding production_at
stored p n t h =
    let f : (k : ℕ) → k < width productions → cell_of (put t (n * width productions) (production_cells p)) n k ≡ get_or (production_cells p) k 0 = cell_new (width productions) n (production_cells p) t refl h in
    rw (f 0 (omega arith), f 1 (omega arith), f 2 (omega arith), f 3 (omega arith), f 4 (omega arith), f 5 (omega arith), f 6 (omega arith), f 7 (omega arith), f 8 (omega arith), f 9 (omega arith), f 10 (omega arith), f 11 (omega arith), f 12 (omega arith), prec_back p.prec, action_back p.action)
