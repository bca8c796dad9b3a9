-- What pruning asks of valid tables, and what it leaves of those that it changes.
use Rattle.std.specs.Prelude.{ℕ, ◌*◌, ◌≤◌, ◌<◌, ◌≡◌, List, length}
use Rattle.tables.specs.Table.{cell}
use Rattle.tables.specs.Rows.{Chained}
use Rattle.tables.specs.Layout.{tokens, avoided, epps, rules, productions, symbols, key_name, rule_row, symbols_from, symbols_to, known_row, width}
use Rattle.finder.specs.Finder.{Apart}
use Rattle.grammar.specs.declared.Counts.{Counts}
use Rattle.grammar.specs.Sound.{Tables, Indexes}
use Rattle.sound.specs.Test.{count_at}
use Rattle.closing.specs.Close.{table_of, closed}
use Rattle.pruning.specs.Pruned.{new_number, row_stays, chained, productions_left, symbols_left, Pruned, pruned}
use Rattle.pruner.specs.Moving.{number_in}

-- tables 3 and 5, which name tokens, and table 1, whose names are pairwise different
pub record Mentioned (src : List ℕ) (c : Counts) (t1 t3 t5 : List ℕ) : Type 0 where
  pub avoided_fit : count_at c avoided * width avoided ≤ length t3
  pub epps_fit : count_at c epps * width epps ≤ length t5
  pub apart : Apart src (width tokens) 0 (count_at c tokens) t1

-- "row numbers lie inside counts"
abbrev pub Owned : Counts → List ℕ → Type 0
Owned c t8 = (p : ℕ) → p < count_at c productions → cell (width productions) t8 p rule_row < count_at c rules

-- ranges follow one another and lie in table 9; every symbol's new number is read from the slots
pub record Movable (c : Counts) (ws i1 i7 t8 t9 : List ℕ) : Type 0 where
  pub fits : count_at c symbols * width symbols ≤ length t9
  pub ranges : Chained (width productions) symbols_from symbols_to (count_at c productions) t8 (count_at c symbols)
  pub read : (p s : ℕ) → p < count_at c productions → cell (width productions) t8 p symbols_from ≤ s → s < cell (width productions) t8 p symbols_to → number_in i1 i7 (cell (width symbols) t9 s 0) (cell (width symbols) t9 s known_row) ≡ new_number c ws (cell (width symbols) t9 s 0) (cell (width symbols) t9 s known_row)

-- tables 8 and 9 of valid tables, with slots enough for a number of each row
pub record Linked (c : Counts) (t8 t9 i1 i7 : List ℕ) : Type 0 where
  pub productions_fit : count_at c productions * width productions ≤ length t8
  pub symbols_fit : count_at c symbols * width symbols ≤ length t9
  pub ranges : Chained (width productions) symbols_from symbols_to (count_at c productions) t8 (count_at c symbols)
  pub owned : Owned c t8
  pub rule : (p s : ℕ) → p < count_at c productions → cell (width productions) t8 p symbols_from ≤ s → s < cell (width productions) t8 p symbols_to → cell (width symbols) t9 s 0 ≡ 1 → cell (width symbols) t9 s known_row < count_at c rules
  pub token : (p s : ℕ) → p < count_at c productions → cell (width productions) t8 p symbols_from ≤ s → s < cell (width productions) t8 p symbols_to → (cell (width symbols) t9 s 0 ≡ 1 → ⊥) → cell (width symbols) t9 s known_row < count_at c tokens
  pub token_slots : count_at c tokens ≤ length i1
  pub rule_slots : count_at c rules ≤ length i7

-- the tables that pruning changes, and both indexes
pub record Changing : Type 0 where
  pub t1 : List ℕ
  pub t3 : List ℕ
  pub t5 : List ℕ
  pub t7 : List ℕ
  pub t8 : List ℕ
  pub t9 : List ℕ
  pub i1 : List ℕ
  pub i7 : List ℕ

-- those of valid tables
pub record Closable (src : List ℕ) (c : Counts) (x : Changing) : Type 0 where
  pub tokens_fit : count_at c tokens * width tokens ≤ length x.t1
  pub mentioned : Mentioned src c x.t1 x.t3 x.t5
  pub rules_fit : count_at c rules * width rules ≤ length x.t7
  pub linked : Linked c x.t8 x.t9 x.i1 x.i7

-- tables 3 and 5 afterwards, with their counts
pub record Mentions : Type 0 where
  pub avoided : ℕ
  pub epps : ℕ
  pub t3 : List ℕ
  pub t5 : List ℕ

abbrev pub mentions_left : List ℕ → Counts → List ℕ → List ℕ → List ℕ → List ℕ → Mentions
mentions_left src c t1 t3 t5 ws =
    record {
      avoided = (closed (row_stays src c t1 ws (width avoided) 0 t3) (width avoided) (count_at c avoided) t3).count;
      epps = (closed (row_stays src c t1 ws (width epps) key_name t5) (width epps) (count_at c epps) t5).count;
      t3 = (closed (row_stays src c t1 ws (width avoided) 0 t3) (width avoided) (count_at c avoided) t3).cells;
      t5 = (closed (row_stays src c t1 ws (width epps) key_name t5) (width epps) (count_at c epps) t5).cells;
    }

-- tables 8 and 9 afterwards, with their counts
pub record Links : Type 0 where
  pub productions : ℕ
  pub symbols : ℕ
  pub t8 : List ℕ
  pub t9 : List ℕ

abbrev pub links_left : Counts → List ℕ → List ℕ → List ℕ → Links
links_left c t8 t9 ws =
    record {
      productions = length (productions_left c t8 ws);
      symbols = length (symbols_left c t8 t9 ws);
      t8 = table_of (length t8) (chained ws 0 (productions_left c t8 ws));
      t9 = table_of (length t9) (symbols_left c t8 t9 ws);
    }

-- with the four tables that pruning leaves
abbrev pub tables_with : Changing → List ℕ → List ℕ → List ℕ → List ℕ → Tables
tables_with x t2 t4 t6 t10 = record { t1 = x.t1; t2 = t2; t3 = x.t3; t4 = t4; t5 = x.t5; t6 = t6; t7 = x.t7; t8 = x.t8; t9 = x.t9; t10 = t10 }

abbrev pub indexes_of : Changing → Indexes
indexes_of x = record { tokens = x.i1; rules = x.i7 }

-- what is left is what pruning gives, whatever those four hold
abbrev pub Leaves : List ℕ → Counts → Changing → List ℕ → Counts → Changing → Type 0
Leaves src c x ws d y = (t2 t4 t6 t10 : List ℕ) → ◌≡◌ {A = Pruned} (record { counts = d; tables = tables_with y t2 t4 t6 t10; indexes = indexes_of y }) (pruned src c (tables_with x t2 t4 t6 t10) (indexes_of x) ws)
