-- Symbols' rows filled in keep what holds of a reading under way. Assumes nothing.
use Prim.Native.Nat.{ℕ, zero, suc, ◌+◌, ◌≤◌, ◌<◌}
use mathlib.Core.Path.{◌≡◌}
use mathlib.Core.List.{List}
use native.Mathlib.Omega.{arith}
use lib.ListN.{get_or, set}
use lib.Seq.{get_or-set_other}
use Rattle.tables.specs.Layout.{symbols, kind_name, known_row, width}
use Rattle.tables.proofs.Rows.{rows_set}
use Rattle.symbols.specs.Symbols.{Lexicon, row_for, filled_rows}
use Rattle.grammar.specs.declared.State.{State}
use Rattle.grammar.specs.State.{count}
use Rattle.grammar.specs.Sound.{AllTables, set_tab, View, view, KindRow, Table, Far}
use Rattle.grammar.proofs.Far.{far_cells}

-- a symbol's kind and place stand before its row number
filled_row : (src x : List ℕ) (v : ℕ) → KindRow src x → KindRow src (set x known_row v)
filled_row src x v k = record { least = rw (same 0 (omega arith)) k.least; most = rw (same 0 (omega arith)) k.most; name = rw (same kind_name (omega arith), same (kind_name + 1) (omega arith)) k.name }
  where
    same : (i : ℕ) → i < known_row → get_or (set x known_row v) i 0 ≡ get_or x i 0
    same i h = get_or-set_other x known_row i v 0 (λ z. omega arith)

pub filled_table_lem : (src : List ℕ) (v : View) (g : Lexicon) (n : ℕ) (t : List ℕ) → Table src v symbols n t → (m : ℕ) → m ≤ n → Table src v symbols n (filled_rows g t m)
unfolding filled_rows
filled_table_lem src v g n t R zero h = R
filled_table_lem src v g n t R (suc m) h =
    rows_set (width symbols) n m known_row (row_for g t m) (filled_rows g t m) (omega arith) (omega arith) (filled_table_lem src v g n t R m (omega arith))
    (λ x w p. filled_row src x (row_for g t m) p) (λ x y w q. q) (λ x y w q. q)

pub far_filled : {src : List ℕ} {done : ℕ} {s : State} {T : AllTables} → Far src done s T → (g : Lexicon) → Far src done s (set_tab T symbols (filled_rows g T.t9 (count s symbols)))
far_filled {src} {done} {s} {T} f g = far_cells f symbols (omega arith) (λ e. omega arith) _ (filled_table_lem src (view s) g (count s symbols) T.t9 (f.tables symbols) (count s symbols) (omega arith))
