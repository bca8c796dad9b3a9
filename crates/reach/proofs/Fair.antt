-- Sound tables are fair: what use goes by holds of them, and each symbol's cell is the row that has its name. Assumes nothing.
use Rattle.std.specs.Prelude.{Option}
use Prim.Native.Nat.{ℕ, ◌+◌, ◌≤◌, ◌<◌}
use mathlib.Core.Path.{◌≡◌, refl, sym, ◌∙◌}
use mathlib.Core.List.{List}
use mathlib.Core.Bool.{false, false≢true}
use mathlib.Core.Logic.{◌↔◌, ◌⊎◌, inl, inr, ⊎_elim}
use native.Mathlib.Omega.{arith}
use Rattle.scan.proofs.Bytes.{le_or_lt}
use Rattle.tables.specs.Table.{cell, same_part, has_name, find_name}
use Rattle.tables.specs.Layout.{tokens, rules, productions, symbols, rule_row, symbols_from, symbols_to, kind_name, known_row, no_row, width}
use Rattle.tables.specs.Rows.{row_at}
use Rattle.tables.proofs.Cases.{same_part_sym, same_part_trans, find_cases}
use Rattle.tables.proofs.Ends.{chained_inside}
use Rattle.tables.proofs.Rows.{row_cell}
use Rattle.symbols.specs.Symbols.{row_number}
use Rattle.symbols.proofs.Laws.{named_rule, named_token, symbol_is}
use Rattle.grammar.specs.declared.Counts.{Counts}
use Rattle.grammar.specs.declared.Singles.{Singles}
use Rattle.grammar.specs.Sound.{Indexes, Tables, Sound, Differ, lexicon_of}
use Rattle.sound.specs.Test.{count_at}
use Rattle.reach.specs.Reach.{Named, Calls, Apart, Informed, net, grammar_of, named, rule_sort, token_sort, Fair}

-- rows whose names are pairwise different have no name in common
module _ (src : List ℕ) (d : Named) (two : 1 < d.sort.wide) (differ : (q r : ℕ) → q < r → r < d.sort.count → Differ src (row_at d.sort.wide d.cells q) (row_at d.sort.wide d.cells r)) where
  not_both : (a b q r : ℕ) → Calls src d a b q → Calls src d a b r → q < r → ⊥
  unfolding has_name
  not_both a b q r x y l =
      let w = d.sort.wide in
      let t = d.cells in
      let no : same_part src (cell w t q 0) (cell w t q 1) (cell w t r 0) (cell w t r 1) ≡ false =
      rw (← row_cell w t q 0 (omega arith), ← row_cell w t q 1 two, ← row_cell w t r 0 (omega arith), ← row_cell w t r 1 two) (differ q r l y.inside).differ in
      false≢true (sym no ∙ same_part_trans src (cell w t q 0) (cell w t q 1) a b (cell w t r 0) (cell w t r 1) x.same (same_part_sym src a b (cell w t r 0) (cell w t r 1) ∙ y.same))

  apart : Apart src d
  apart a b q r x y = ⊎_elim (λ h. ⊎_elim (λ l. omega arith) (λ l. absurd (not_both a b r q y x l)) (le_or_lt q r)) (λ h. absurd (not_both a b q r x y h)) (le_or_lt r q)

-- the row of a name, as a symbol's cell has it: none of the rows is `no_row`
module _ (src : List ℕ) (d : Named) (one : Apart src d) (low : d.sort.count ≤ no_row) where
  row_calls : (a b v : ℕ) → v ≡ row_number (find_name src d.sort.wide 0 d.sort.count d.cells a b) → (r : ℕ) → Calls src d a b r ↔ ((v ≡ r) × (r < d.sort.count))
  row_calls a b v e r =
      rw e
      (find_cases (λ (o : Option ℕ). Calls src d a b r ↔ ((row_number o ≡ r) × (r < d.sort.count))) src d.sort.wide 0 d.sort.count d.cells a b
      (λ q h u before. let x : Calls src d a b q = record { inside = h; same = u } in (λ y. (one a b q r x y, y.inside), λ y. rw y.0 at x))
      (λ none. (λ y. absurd (false≢true (sym (none r y.inside) ∙ y.same)), λ y. absurd (omega (arith, y.0, y.1)))))

module _ (src : List ℕ) (c : Counts) (g : Singles) (T : Tables) (X : Indexes) (s : Sound src c g T X) where
  rules_differ : Apart src (named T.t7 (rule_sort c))
  rules_differ = apart src (named T.t7 (rule_sort c)) (omega arith) (λ q r l h. s.names rules q r (omega arith) l h)

  tokens_differ : Apart src (named T.t1 (token_sort c))
  tokens_differ = apart src (named T.t1 (token_sort c)) (omega arith) (λ q r l h. s.names tokens q r (omega arith) l h)

  -- Without a search: row r of the symbol's sort has its name exactly where its cell is r, and there is such a row.
  pub symbol_calls : (d : Named) → (d ≡ named T.t7 (rule_sort c)) ⊎ (d ≡ named T.t1 (token_sort c)) → (i : ℕ) → i < count_at c symbols → cell (width symbols) T.t9 i 0 ≡ d.sort.kind → (r : ℕ)
      → Calls src d (cell (width symbols) T.t9 i kind_name) (cell (width symbols) T.t9 i (kind_name + 1)) r ↔ ((cell (width symbols) T.t9 i known_row ≡ r) × (r < d.sort.count))
  symbol_calls d (inl e) i h k r =
      rw e
      (row_calls src (named T.t7 (rule_sort c)) rules_differ (s.low rules (omega arith)) _ _ _
      (s.known.row i h ∙ sym (symbol_is (lexicon_of src c T) T.t9 i _ _ _ _ refl refl refl (named_rule (lexicon_of src c T) _ _ _ _ (rw e at k) refl))) r)
  symbol_calls d (inr e) i h k r =
      rw e
      (row_calls src (named T.t1 (token_sort c)) tokens_differ (s.low tokens (omega arith)) _ _ _
      (s.known.row i h ∙ sym (symbol_is (lexicon_of src c T) T.t9 i _ _ _ _ refl refl refl (named_token (lexicon_of src c T) _ _ _ _ (λ q. omega (arith, q, rw e at k)) refl))) r)

  -- the symbols of a production lie below their count
  symbol_in : (p i : ℕ) → p < count_at c productions → i < cell (width productions) T.t8 p symbols_to → i < count_at c symbols
  symbol_in p i h l = omega (arith, chained_inside (width productions) symbols_from symbols_to (count_at c productions) T.t8 (count_at c symbols) s.ranges p h (omega arith))

  told : (d : Named) → (d ≡ named T.t7 (rule_sort c)) ⊎ (d ≡ named T.t1 (token_sort c)) → Informed (net src c T.t8 T.t9) d
  told d w p i h l k = record {
    calls = λ n. (symbol_calls d w i (symbol_in p i h l) k _).1 (refl, n);
    only = λ r x. ((symbol_calls d w i (symbol_in p i h l) k r).0 x).0;
  }

  pub fair_sound : Fair (grammar_of src c g.start T.t1 T.t7 T.t8 T.t9)
  fair_sound = record {
    rules_apart = rules_differ;
    tokens_apart = tokens_differ;
    owned = λ p h. rw (← row_cell (width productions) T.t8 p rule_row (omega arith)) (s.rows productions p (omega arith) h).rule;
    rules_told = told (named T.t7 (rule_sort c)) (inl refl);
    tokens_told = told (named T.t1 (token_sort c)) (inr refl);
  }
