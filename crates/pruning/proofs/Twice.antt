-- "pruning twice gives the tables of pruning once". Assumes nothing.
use Rattle.std.specs.Prelude.{Option}
use Prim.Native.Nat.{ℕ, ◌+◌, ◌≤◌, ◌<◌}
use mathlib.Core.Path.{◌≡◌, refl, sym, ap, ◌∙◌}
use mathlib.Core.List.{List, []}
use mathlib.Core.Bool.{true}
use native.Mathlib.Omega.{arith}
use native.Mathlib.Decide.{ℕ_discrete}
use lib.ListN.{length, get_or}
use lib.Seq.{set-get_or}
use borrow.Author.Tests.{eq-eqb}
use Rattle.tables.specs.Table.{cell}
use Rattle.tables.specs.Rows.{row_at, rows_of}
use Rattle.tables.specs.Layout.{tokens, avoided, epps, rules, productions, symbols, key_name, rule_row, symbols_from, symbols_to, known_row, width}
use Rattle.tables.proofs.Rows.{row_cell, row_length}
use Rattle.tables.proofs.Cases.{find_cases}
use Rattle.index.specs.Index.{entries}
use Rattle.index.proofs.Theorems.{entries_length}
use Rattle.grammar.specs.declared.Counts.{Counts}
use Rattle.grammar.specs.Sound.{Tables, Indexes}
use Rattle.sound.specs.Test.{count_at}
use Rattle.bits.specs.Bits.{bit}
use Rattle.reach.specs.Reach.{token_sort}
use Rattle.closing.specs.Close.{Step, rank, table_of}
use Rattle.closing.proofs.Numbers.{From, rank_from, rank_below, rank_all, rank_up, kept_at, kept_all, kept_length, table_row, closed_same, closed_clean, closed_fits}
use Rattle.pruning.specs.Stays.{rule, token, StayWork}
use Rattle.pruning.specs.Pruned.{rule_stays, token_stays, found_stays, name_stays, row_stays, rules_left, tokens_left, avoided_left, epps_left, productions_left, symbols_left, production_stays, chained, new_number, renumbered_symbol, symbols_of, index_left, counts_left, Pruned, pruned}
use Rattle.pruning.proofs.Forth.{Ready, Resolved, count_avoided, count_epps, count_symbols, count_productions, rows, rows_wide, chained_wide, ranges_in}
use Rattle.pruning.proofs.Rows.{size_of, offset, chained_at, chained_length, symbols_length, symbols_at, symbols_wide, offset_up, made_rule, number_rule, number_token}
use Rattle.pruning.proofs.Fixed.{rows_back, chained_fixed, symbol_fixed, symbols_fixed}
use Rattle.pruning.proofs.Sizes.{long_8, long_9}
use Rattle.pruning.proofs.Reached.{before, after, excuses, excuses_after, rules_count, tokens_count, every_rule_stays, every_token_stays}

module _ (src : List ℕ) (c : Counts) (from : Option (ℕ × ℕ)) (T : Tables) (X : Indexes) (ws : List ℕ) (ready : Ready c T) (resolved : Resolved c T) (work : StayWork (before src c from T X ws ready) (excuses src c from T X ws ready) ws) (vs : List ℕ) (again : StayWork (after src c from T X ws ready) (excuses_after src c from T X ws ready) vs) where
  unfoldable pub once : Pruned
  once = pruned src c T X ws

  -- all stay
  rules_all_lem : (r : ℕ) → r < count_at once.counts rules → rule_stays vs r ≡ true
  unfolding once after
  rules_all_lem r h = let e : 0 + r ≡ r = omega arith in rw e (eq-eqb (bit vs r) 1 (again.all r (rule h (every_rule_stays src c from T X ws ready work r h))))

  tokens_all : (t : ℕ) → t < count_at once.counts tokens → token_stays once.counts vs t ≡ true
  unfolding once after
  tokens_all t h = eq-eqb (bit vs ((token_sort once.counts).base + t)) 1 (again.all ((token_sort once.counts).base + t) (token t h refl (every_token_stays src c from T X ws ready work t h)))

  -- so tables 7 and 1 are as they were
  rules_same : rules_left once.counts once.tables.t7 vs ≡ record { count = count_at once.counts rules; cells = once.tables.t7 }
  unfolding once pruned before after
  rules_same =
      let n = rules_count src c from T X ws ready in
      closed_same (rule_stays vs) (width rules) (count_at once.counts rules) once.tables.t7
      (rw n (closed_fits (rule_stays ws) (width rules) (count_at c rules) T.t7 ready.rules_fit))
      (rw n (closed_clean (rule_stays ws) (width rules) T.t7 (count_at c rules) ready.rules_fit))
      rules_all_lem

  tokens_same : tokens_left once.counts once.tables.t1 vs ≡ record { count = count_at once.counts tokens; cells = once.tables.t1 }
  unfolding once pruned before after
  tokens_same =
      let n = tokens_count src c from T X ws ready in
      closed_same (token_stays once.counts vs) (width tokens) (count_at once.counts tokens) once.tables.t1
      (rw n (closed_fits (token_stays c ws) (width tokens) (count_at c tokens) T.t1 ready.tokens_fit))
      (rw n (closed_clean (token_stays c ws) (width tokens) T.t1 (count_at c tokens) ready.tokens_fit))
      tokens_all

  -- a name that a token has stays, and so does one that none has
  names_all : (a b : ℕ) → name_stays src once.counts once.tables.t1 vs a b ≡ true
  unfolding name_stays
  names_all a b = find_cases (λ (f : Option ℕ). found_stays f once.counts vs ≡ true) src (width tokens) 0 (count_at once.counts tokens) once.tables.t1 a b (λ r l e q. tokens_all r l) (λ q. refl)

  pub named_all : (w k : ℕ) (t : List ℕ) (r : ℕ) → row_stays src once.counts once.tables.t1 vs w k t r ≡ true
  unfolding row_stays
  named_all w k t r = names_all (cell w t r k) (cell w t r (k + 1))

  -- tables 3 and 5
  avoided_same : avoided_left src once.counts once.tables.t1 once.tables.t3 vs ≡ record { count = count_at once.counts avoided; cells = once.tables.t3 }
  unfolding once pruned
  avoided_same =
      let n : count_at once.counts avoided ≡ rank (row_stays src c T.t1 ws (width avoided) 0 T.t3) (count_at c avoided) = count_avoided c _ _ _ _ _ _ ready.ten in
      closed_same (row_stays src once.counts once.tables.t1 vs (width avoided) 0 once.tables.t3) (width avoided) (count_at once.counts avoided) once.tables.t3
      (rw n (closed_fits (row_stays src c T.t1 ws (width avoided) 0 T.t3) (width avoided) (count_at c avoided) T.t3 ready.avoided_fit))
      (rw n (closed_clean (row_stays src c T.t1 ws (width avoided) 0 T.t3) (width avoided) T.t3 (count_at c avoided) ready.avoided_fit))
      (λ r h. named_all (width avoided) 0 once.tables.t3 r)

  epps_same : epps_left src once.counts once.tables.t1 once.tables.t5 vs ≡ record { count = count_at once.counts epps; cells = once.tables.t5 }
  unfolding once pruned
  epps_same =
      let n : count_at once.counts epps ≡ rank (row_stays src c T.t1 ws (width epps) key_name T.t5) (count_at c epps) = count_epps c _ _ _ _ _ _ ready.ten in
      closed_same (row_stays src once.counts once.tables.t1 vs (width epps) key_name once.tables.t5) (width epps) (count_at once.counts epps) once.tables.t5
      (rw n (closed_fits (row_stays src c T.t1 ws (width epps) key_name T.t5) (width epps) (count_at c epps) T.t5 ready.epps_fit))
      (rw n (closed_clean (row_stays src c T.t1 ws (width epps) key_name T.t5) (width epps) T.t5 (count_at c epps) ready.epps_fit))
      (λ r h. named_all (width epps) key_name once.tables.t5 r)

  -- table 8
  made : List (List ℕ)
  made = chained ws 0 (rows src c T ws ready)

  count_made : count_at once.counts productions ≡ length made
  unfolding once pruned rows made
  count_made = count_productions c _ _ _ _ _ _ ready.ten ∙ sym (chained_length ws 0 (rows src c T ws ready))

  -- the rule of a production that stayed is a row
  rule_low : (j : ℕ) → j < length (rows src c T ws ready) → rank (rule_stays ws) (get_or (get_or (rows src c T ws ready) j []) rule_row 0) < count_at once.counts rules
  unfolding rows once pruned before after production_stays
  rule_low j h = go (rank_from (production_stays ws T.t8) (count_at c productions) j (let n = kept_length (production_stays ws T.t8) (width productions) T.t8 (count_at c productions) in omega arith))
    where
      go : From (production_stays ws T.t8) (count_at c productions) j → rank (rule_stays ws) (get_or (get_or (rows src c T ws ready) j []) rule_row 0) < count_at once.counts rules
      go x =
          let e = kept_at (production_stays ws T.t8) (width productions) T.t8 (count_at c productions) x.row x.there x.kept in
          let f : get_or (get_or (rows src c T ws ready) j []) rule_row 0 ≡ cell (width productions) T.t8 x.row rule_row = ap (λ (k : ℕ). get_or (get_or (rows src c T ws ready) k []) rule_row 0) (sym x.same) ∙ (ap (λ (y : List ℕ). get_or y rule_row 0) e ∙ row_cell (width productions) T.t8 x.row rule_row (omega arith)) in
          let n = rules_count src c from T X ws ready in
          let b = rank_below (rule_stays ws) (cell (width productions) T.t8 x.row rule_row) (count_at c rules) (ready.owned x.row x.there) (kept_rule x.row x.kept) in
          rw f (omega arith)
        where
          kept_rule : (p : ℕ) → production_stays ws T.t8 p ≡ true → rule_stays ws (cell (width productions) T.t8 p rule_row) ≡ true
          kept_rule p s = s

  made_rules : (j : ℕ) → j < length made → get_or (get_or made j []) rule_row 0 < count_at once.counts rules
  unfolding made
  made_rules j h =
      let l : j < length (rows src c T ws ready) = omega (arith, chained_length ws 0 (rows src c T ws ready)) in
      let e = ap (λ (y : List ℕ). get_or y rule_row 0) (chained_at ws 0 (rows src c T ws ready) j l) ∙ made_rule ws (0 + offset (rows src c T ws ready) j) (get_or (rows src c T ws ready) j []) (rows_wide src c T ws ready j l) in
      let r = rule_low j l in
      omega arith

  productions_same : productions_left once.counts once.tables.t8 vs ≡ made
  unfolding once pruned made rows production_stays
  productions_same =
      kept_all (production_stays vs once.tables.t8) (width productions) once.tables.t8 (count_at once.counts productions) all
      ∙ (ap (λ (n : ℕ). rows_of (width productions) n once.tables.t8) count_made ∙ rows_back (length T.t8) (width productions) made (chained_wide src c T ws ready))
    where
      all : (p : ℕ) → p < count_at once.counts productions → production_stays vs once.tables.t8 p ≡ true
      all p h =
          let l : p < length made = omega (arith, count_made) in
          let e : cell (width productions) once.tables.t8 p rule_row ≡ get_or (get_or made p []) rule_row 0 = sym (row_cell (width productions) once.tables.t8 p rule_row (omega arith)) ∙ ap (λ (y : List ℕ). get_or y rule_row 0) (table_row (length T.t8) (width productions) made p (chained_wide src c T ws ready) l) in
          rw e (rules_all_lem (get_or (get_or made p []) rule_row 0) (made_rules p l))

  chained_same : chained vs 0 made ≡ made
  unfolding made
  chained_same = chained_fixed ws vs 0 (rows src c T ws ready) (rows_wide src c T ws ready) (λ j h. rank_all (rule_stays vs) _ (λ r l. rules_all_lem r (let b = rule_low j h in omega arith)))

  -- table 9
  -- a symbol that stayed has a row that stayed
  number_fixed : (kind r : ℕ) → (kind ≡ 1 → r < count_at c rules) → ((kind ≡ 1 → ⊥) → r < count_at c tokens) → new_number once.counts vs kind (new_number c ws kind r) ≡ new_number c ws kind r
  unfolding once pruned before after
  number_fixed kind r f g = go (ℕ_discrete kind 1)
    where
      go : Dec (kind ≡ 1) → new_number once.counts vs kind (new_number c ws kind r) ≡ new_number c ws kind r
      go (yes e) =
          let n = rules_count src c from T X ws ready in
          let l = rank_up (rule_stays ws) r (count_at c rules) (let b = f e in omega arith) in
          ap (new_number once.counts vs kind) (number_rule c ws kind r e)
          ∙ (number_rule once.counts vs kind (rank (rule_stays ws) r) e ∙ (rank_all (rule_stays vs) (rank (rule_stays ws) r) (λ q k. rules_all_lem q (omega arith)) ∙ sym (number_rule c ws kind r e)))
      go (no e) =
          let n = tokens_count src c from T X ws ready in
          let l = rank_up (token_stays c ws) r (count_at c tokens) (let b = g e in omega arith) in
          ap (new_number once.counts vs kind) (number_token c ws kind r e)
          ∙ (number_token once.counts vs kind (rank (token_stays c ws) r) e ∙ (rank_all (token_stays once.counts vs) (rank (token_stays c ws) r) (λ q k. tokens_all q (omega arith)) ∙ sym (number_token c ws kind r e)))

  -- symbol k of production j that stayed
  again_symbol : (j k : ℕ) → j < length (rows src c T ws ready) → k < size_of (get_or (rows src c T ws ready) j []) → renumbered_symbol once.counts vs (renumbered_symbol c ws (row_at (width symbols) T.t9 (get_or (get_or (rows src c T ws ready) j []) symbols_from 0 + k))) ≡ renumbered_symbol c ws (row_at (width symbols) T.t9 (get_or (get_or (rows src c T ws ready) j []) symbols_from 0 + k))
  unfolding rows
  again_symbol j k h l = go (rank_from (production_stays ws T.t8) (count_at c productions) j (let n = kept_length (production_stays ws T.t8) (width productions) T.t8 (count_at c productions) in omega arith))
    where
      go : From (production_stays ws T.t8) (count_at c productions) j → renumbered_symbol once.counts vs (renumbered_symbol c ws (row_at (width symbols) T.t9 (get_or (get_or (rows src c T ws ready) j []) symbols_from 0 + k))) ≡ renumbered_symbol c ws (row_at (width symbols) T.t9 (get_or (get_or (rows src c T ws ready) j []) symbols_from 0 + k))
      go x =
          let e = ap (λ (n : ℕ). get_or (rows src c T ws ready) n []) (sym x.same) ∙ kept_at (production_stays ws T.t8) (width productions) T.t8 (count_at c productions) x.row x.there x.kept in
          let a : get_or (get_or (rows src c T ws ready) j []) symbols_from 0 ≡ cell (width productions) T.t8 x.row symbols_from = ap (λ (y : List ℕ). get_or y symbols_from 0) e ∙ row_cell (width productions) T.t8 x.row symbols_from (omega arith) in
          let b : get_or (get_or (rows src c T ws ready) j []) symbols_to 0 ≡ cell (width productions) T.t8 x.row symbols_to = ap (λ (y : List ℕ). get_or y symbols_to 0) e ∙ row_cell (width productions) T.t8 x.row symbols_to (omega arith) in
          let s = get_or (get_or (rows src c T ws ready) j []) symbols_from 0 + k in
          let low : cell (width productions) T.t8 x.row symbols_from ≤ s = omega arith in
          let high : s < cell (width productions) T.t8 x.row symbols_to = omega arith in
          let in9 = ready.ranges x.row x.there in
          let fit = ready.symbols_fit in
          let z = row_cell (width symbols) T.t9 s 0 (omega arith) in
          let v = row_cell (width symbols) T.t9 s known_row (omega arith) in
          let y = row_at (width symbols) T.t9 s in
          symbol_fixed c once.counts ws vs y (row_length (width symbols) T.t9 s (omega arith))
          (number_fixed (get_or y 0 0) (get_or y known_row 0)
          (λ q. let r = resolved.rule x.row s x.there low high (sym z ∙ q) in omega arith)
          (λ q. let r = resolved.token x.row s x.there low high (λ p. q (z ∙ p)) in omega arith))

  symbols_same : symbols_of once.counts vs once.tables.t9 made ≡ symbols_of c ws T.t9 (rows src c T ws ready)
  unfolding once pruned made rows
  symbols_same =
      symbols_fixed c once.counts ws vs T.t9 once.tables.t9 0 (rows src c T ws ready) (rows_wide src c T ws ready)
      (λ j k h l.
      let z : 0 + offset (rows src c T ws ready) j + k ≡ offset (rows src c T ws ready) j + k = omega arith in
      ap (λ (n : ℕ). renumbered_symbol once.counts vs (row_at (width symbols) once.tables.t9 n)) z
      ∙ (ap (renumbered_symbol once.counts vs)
      (table_row (length T.t9) (width symbols) (symbols_of c ws T.t9 (rows src c T ws ready)) (offset (rows src c T ws ready) j + k) (symbols_wide c ws T.t9 (count_at c symbols) ready.symbols_fit (rows src c T ws ready) (ranges_in src c T ws ready)) (omega (arith, symbols_length c ws T.t9 (rows src c T ws ready), offset_up (rows src c T ws ready) j h))
      ∙ symbols_at c ws T.t9 (rows src c T ws ready) j k h l)
      ∙ again_symbol j k h l))

  -- six counts put back
  counts_same : (d : Counts) → counts_left d (count_at d tokens) (count_at d avoided) (count_at d epps) (count_at d rules) (count_at d productions) (count_at d symbols) ≡ d
  counts_same d =
      let a = set-get_or d.n tokens 0 in
      let b = set-get_or d.n avoided 0 in
      let e = set-get_or d.n epps 0 in
      let f = set-get_or d.n rules 0 in
      let g = set-get_or d.n productions 0 in
      let h = set-get_or d.n symbols 0 in
      rw (a, b, e, f, g, h)

  count_nine : count_at once.counts symbols ≡ length (symbols_of c ws T.t9 (rows src c T ws ready))
  unfolding once pruned rows
  count_nine = count_symbols c _ _ _ _ _ _ ready.ten

  eight_is : table_of (length T.t8) made ≡ once.tables.t8
  unfolding once pruned made rows
  eight_is = refl

  nine_is : table_of (length T.t9) (symbols_of c ws T.t9 (rows src c T ws ready)) ≡ once.tables.t9
  unfolding once pruned rows
  nine_is = refl

  -- the lengths
  once_8 : length once.tables.t8 ≡ length T.t8
  unfolding once pruned rows
  once_8 = long_8 src c T ws ready

  once_9 : length once.tables.t9 ≡ length T.t9
  unfolding once pruned rows
  once_9 = long_9 src c T ws ready

  counts_twice : (pruned src once.counts once.tables once.indexes vs).counts ≡ once.counts
  unfolding pruned
  counts_twice =
      let C = once.counts in
      let a = ap (λ (z : Step). z.count) tokens_same in
      let b = ap (λ (z : Step). z.count) avoided_same in
      let d = ap (λ (z : Step). z.count) epps_same in
      let e = ap (λ (z : Step). z.count) rules_same in
      let f : length (productions_left C once.tables.t8 vs) ≡ count_at C productions = ap length productions_same ∙ sym count_made in
      let g : length (symbols_left C once.tables.t8 once.tables.t9 vs) ≡ count_at C symbols = ap (λ (l : List (List ℕ)). length (symbols_of once.counts vs once.tables.t9 l)) productions_same ∙ (ap length symbols_same ∙ sym count_nine) in
      let k : counts_left C _ _ _ _ _ _ ≡ counts_left C (count_at C tokens) (count_at C avoided) (count_at C epps) (count_at C rules) (count_at C productions) (count_at C symbols) = λ i. counts_left C (a i) (b i) (d i) (e i) (f i) (g i) in
      k ∙ counts_same C

  eight_twice : table_of (length once.tables.t8) (chained vs 0 (productions_left once.counts once.tables.t8 vs)) ≡ once.tables.t8
  eight_twice =
      ap (λ (l : List (List ℕ)). table_of (length once.tables.t8) (chained vs 0 l)) productions_same
      ∙ (ap (λ (l : List (List ℕ)). table_of (length once.tables.t8) l) chained_same ∙ (ap (λ (n : ℕ). table_of n made) once_8 ∙ eight_is))

  nine_twice : table_of (length once.tables.t9) (symbols_left once.counts once.tables.t8 once.tables.t9 vs) ≡ once.tables.t9
  nine_twice =
      ap (λ (l : List (List ℕ)). table_of (length once.tables.t9) (symbols_of once.counts vs once.tables.t9 l)) productions_same
      ∙ (ap (λ (l : List (List ℕ)). table_of (length once.tables.t9) l) symbols_same ∙ (ap (λ (n : ℕ). table_of n (symbols_of c ws T.t9 (rows src c T ws ready))) once_9 ∙ nine_is))

  -- the indexes
  token_index_twice : index_left src (width tokens) (tokens_left once.counts once.tables.t1 vs) once.indexes.tokens ≡ once.indexes.tokens
  unfolding once pruned before after
  token_index_twice =
      ap (λ (z : Step). index_left src (width tokens) z once.indexes.tokens) tokens_same
      ∙ λ i. entries src (width tokens) 0 once.tables.t1 (entries_length src (width tokens) 0 once.tables.t1 (length X.tokens) (rank (token_stays c ws) (count_at c tokens)) i) (tokens_count src c from T X ws ready i)

  rule_index_twice : index_left src (width rules) (rules_left once.counts once.tables.t7 vs) once.indexes.rules ≡ once.indexes.rules
  unfolding once pruned before after
  rule_index_twice =
      ap (λ (z : Step). index_left src (width rules) z once.indexes.rules) rules_same
      ∙ λ i. entries src (width rules) 0 once.tables.t7 (entries_length src (width rules) 0 once.tables.t7 (length X.rules) (rank (rule_stays ws) (count_at c rules)) i) (rules_count src c from T X ws ready i)

  -- "pruning twice gives the tables of pruning once"
  pub twice : pruned src once.counts once.tables once.indexes vs ≡ once
  unfolding pruned
  twice =
      let a = ap (λ (z : Step). z.cells) tokens_same in
      let b = ap (λ (z : Step). z.cells) avoided_same in
      let d = ap (λ (z : Step). z.cells) epps_same in
      let e = ap (λ (z : Step). z.cells) rules_same in
      λ i. record {
        counts = counts_twice i;
        tables = record { t1 = a i; t2 = once.tables.t2; t3 = b i; t4 = once.tables.t4; t5 = d i; t6 = once.tables.t6; t7 = e i; t8 = eight_twice i; t9 = nine_twice i; t10 = once.tables.t10 };
        indexes = record { tokens = token_index_twice i; rules = rule_index_twice i };
      }
