-- Tables 8 and 9 under way: what a row becomes that moves up with its new numbers, and which new numbers are read.
use Rattle.std.specs.Prelude.{ℕ, zero, suc, ◌+◌, ◌-◌, ◌<◌, ◌≡◌, List, Bool, true, false, eqb, get_or}
use Rattle.tables.specs.Table.{cell, set_cell}
use Rattle.tables.specs.Layout.{productions, symbols, rule_row, symbols_from, symbols_to, known_row, width}
use Rattle.closing.specs.Close.{Step, rank, moved}

-- slot r holds the new number of row r, for each of n rows
pub record Ranked (stays : ℕ → Bool) (n : ℕ) (ix : List ℕ) : Type 0 where
  pub each : (r : ℕ) → r < n → get_or ix r 0 ≡ rank stays r

-- "1 rule, 2 token": the number that such slots give a symbol's row
unfoldable pub number_in : List ℕ → List ℕ → ℕ → ℕ → ℕ
number_in i1 i7 kind r = elim (eqb kind 1) [ true ↦ get_or i7 r 0 | false ↦ get_or i1 r 0 ]

-- symbol `from` with its new number, copied over symbol `to`,
unfoldable pub moved_symbol : List ℕ → List ℕ → ℕ → ℕ → List ℕ → List ℕ
moved_symbol i1 i7 from to t = moved (width symbols) from to (set_cell (width symbols) t from known_row (number_in i1 i7 (cell (width symbols) t from 0) (cell (width symbols) t from known_row)))

-- and n symbols so
unfoldable pub moved_symbols : List ℕ → List ℕ → ℕ → ℕ → ℕ → List ℕ → List ℕ
moved_symbols i1 i7 from to zero t = t
moved_symbols i1 i7 from to (suc n) t = moved_symbol i1 i7 (from + n) (to + n) (moved_symbols i1 i7 from to n t)

-- the symbols of a production join the m before them, or are passed over
unfoldable pub symbols_step : Bool → List ℕ → List ℕ → ℕ → ℕ → ℕ → List ℕ → Step
symbols_step true i1 i7 from to m t = record { count = m + (to - from); cells = moved_symbols i1 i7 from m (to - from) t }
symbols_step false i1 i7 from to m t = record { count = m; cells = t }

-- row p of table 8 with its rule's new number, its symbols from e on
abbrev pub numbered : List ℕ → ℕ → ℕ → List ℕ → List ℕ
numbered i7 p e t =
    set_cell (width productions) (set_cell (width productions) (set_cell (width productions) t p rule_row (get_or i7 (cell (width productions) t p rule_row) 0)) p symbols_from e) p symbols_to (e + (cell (width productions) t p symbols_to - cell (width productions) t p symbols_from))

-- a production read: how many stay so far, how many symbols they have, and the cells
pub record LinkStep : Type 0 where
  pub rows : ℕ
  pub symbols : ℕ
  pub cells : List ℕ

-- it joins the m that stay, with its new numbers, or is passed over
unfoldable pub link_step : Bool → List ℕ → ℕ → ℕ → ℕ → List ℕ → LinkStep
link_step true i7 p m e t =
    record {
      rows = m + 1;
      symbols = e + (cell (width productions) t p symbols_to - cell (width productions) t p symbols_from);
      cells = moved (width productions) p m (numbered i7 p e t);
    }
link_step false i7 p m e t = record { rows = m; symbols = e; cells = t }
