-- Tables 8 and 9 after pruning: they are as long as they were, zero behind their rows, and each symbol is one of a production that stayed. Assumes nothing.
use Prim.Native.Nat.{ℕ, zero, suc, ◌+◌, ◌*◌, ◌-◌, ◌≤◌, ◌<◌}
use mathlib.Core.Path.{◌≡◌, refl, sym, ap, ◌∙◌}
use mathlib.Core.List.{List, [], ◌∷◌, ◌++◌}
use mathlib.Core.Bool.{Bool, true, false}
use native.Mathlib.Omega.{arith}
use native.Mathlib.Nat.{mul-le-mul_right}
use native.Mathlib.Decide.{dec_lt}
use lib.ListN.{length, get_or}
use Rattle.tables.specs.Table.{cell}
use Rattle.tables.specs.Rows.{row_at, end_before, Chained, Clean}
use Rattle.tables.specs.Layout.{productions, symbols, symbols_from, symbols_to, width}
use Rattle.tables.proofs.Rows.{row_cell}
use Rattle.grammar.specs.declared.Counts.{Counts}
use Rattle.grammar.specs.Sound.{Tables}
use Rattle.sound.specs.Test.{count_at}
use Rattle.closing.specs.Close.{kept_rows}
use Rattle.closing.proofs.Numbers.{Wide, From, rank_from, rank_most, kept_at, kept_length, table_row, table_length, table_clean, flat_length}
use Rattle.pruning.specs.Pruned.{production_stays, renumbered_rule, rechained, chained, symbols_of}
use Rattle.pruning.proofs.Rows.{size_of, offset, chained_at, chained_length, symbols_length, symbols_wide, symbols_snoc, made_from, made_to}
use Rattle.pruning.proofs.Forth.{Ready, rows, eight, nine, rows_wide, chained_wide, ranges_in, new_production}

offset_none : (xs : List (List ℕ)) → offset xs 0 ≡ 0
unfolding offset
offset_none [] = refl
offset_none (x ∷ xs) = refl

offset_next : (xs : List (List ℕ)) (j : ℕ) → j < length xs → offset xs (suc j) ≡ offset xs j + size_of (get_or xs j [])
unfolding offset
offset_next [] j h = absurd (omega arith)
offset_next (x ∷ xs) zero h = let e = offset_none xs in omega arith
offset_next (x ∷ xs) (suc j) h = let e = offset_next xs j (omega arith) in omega arith

-- every symbol is one of a production
record Owner (xs : List (List ℕ)) (s : ℕ) : Type 0 where
  number : ℕ
  there : number < length xs
  k : ℕ
  small : k < size_of (get_or xs number [])
  same : s ≡ offset xs number + k

owner : (xs : List (List ℕ)) (s : ℕ) → s < offset xs (length xs) → Owner xs s
unfolding offset
owner [] s h = absurd (omega arith)
owner (x ∷ xs) s h = go (dec_lt s (size_of x)) (owner xs (s - size_of x))
  where
    go : Dec (s < size_of x) → (s - size_of x < offset xs (length xs) → Owner xs (s - size_of x)) → Owner (x ∷ xs) s
    go (yes l) f = record { number = 0; there = omega arith; k = s; small = l; same = omega arith }
    go (no l) f =
        let o = f (omega arith) in
        let a = o.there in
        let b = o.same in
        record { number = suc o.number; there = omega arith; k = o.k; small = o.small; same = omega arith }

module _ (src : List ℕ) (c : Counts) (T : Tables) (ws : List ℕ) (ready : Ready c T) where
  abbrev kept : List (List ℕ)
  kept = rows src c T ws ready

  abbrev t8 : List ℕ
  t8 = eight src c T ws ready

  abbrev t9 : List ℕ
  t9 = nine src c T ws ready

  pub few_productions : length kept ≤ count_at c productions
  unfolding rows
  few_productions = let d = kept_length (production_stays ws T.t8) (width productions) T.t8 (count_at c productions) in let e = rank_most (production_stays ws T.t8) (count_at c productions) in omega arith

  pub few_symbols : length (symbols_of c ws T.t9 kept) ≤ count_at c symbols
  unfolding rows kept_rows symbols_of
  few_symbols = upto (count_at c productions) (omega arith) (count_at c symbols) (λ p h. ready.ranges p h)
    where
      upto : (n : ℕ) → n ≤ count_at c productions → (b : ℕ) → ((p : ℕ) → p < n → cell (width productions) T.t8 p symbols_to ≤ b) → length (symbols_of c ws T.t9 (kept_rows (production_stays ws T.t8) (width productions) n T.t8)) ≤ b
      upto zero h b f = omega arith
      upto (suc n) h b f = go (production_stays ws T.t8 n) (upto n (omega arith))
        where
          go : (q : Bool) → ((b : ℕ) → ((p : ℕ) → p < n → cell (width productions) T.t8 p symbols_to ≤ b) → length (symbols_of c ws T.t9 (kept_rows (production_stays ws T.t8) (width productions) n T.t8)) ≤ b) → length (symbols_of c ws T.t9 (elim q [ true ↦ kept_rows (production_stays ws T.t8) (width productions) n T.t8 ++ (row_at (width productions) T.t8 n ∷ []) | false ↦ kept_rows (production_stays ws T.t8) (width productions) n T.t8 ])) ≤ b
          go true ih =
              let l = ih (cell (width productions) T.t8 n symbols_from) (λ p k. ready.apart p n k (omega arith)) in
              let e = symbols_snoc c ws T.t9 (kept_rows (production_stays ws T.t8) (width productions) n T.t8) (row_at (width productions) T.t8 n) in
              let u = row_cell (width productions) T.t8 n symbols_from (omega arith) in
              let v = row_cell (width productions) T.t8 n symbols_to (omega arith) in
              let o = ready.onward n (omega arith) in
              let g = f n (omega arith) in
              omega arith
          go false ih = ih b (λ p k. f p (omega arith))

  made_wide : Wide (width symbols) (symbols_of c ws T.t9 kept)
  made_wide = symbols_wide c ws T.t9 (count_at c symbols) ready.symbols_fit kept (ranges_in src c T ws ready)

  -- the rows fit
  fit_8 : length (chained ws 0 kept) * width productions ≤ length T.t8
  fit_8 =
      let b = chained_length ws 0 kept in
      let e = mul-le-mul_right (width productions) few_productions in
      let f = ready.productions_fit in
      omega arith

  fit_9 : length (symbols_of c ws T.t9 kept) * width symbols ≤ length T.t9
  fit_9 = let b = mul-le-mul_right (width symbols) few_symbols in let f = ready.symbols_fit in omega arith

  pub long_8 : length t8 ≡ length T.t8
  long_8 = let a = flat_length (width productions) (chained ws 0 kept) (chained_wide src c T ws ready) in let f = fit_8 in table_length (length T.t8) (chained ws 0 kept) (omega arith)

  pub long_9 : length t9 ≡ length T.t9
  long_9 = let a = flat_length (width symbols) (symbols_of c ws T.t9 kept) made_wide in let f = fit_9 in table_length (length T.t9) (symbols_of c ws T.t9 kept) (omega arith)

  pub fits_8 : length kept * width productions ≤ length t8
  fits_8 = let a = long_8 in let b = fit_8 in let d = chained_length ws 0 kept in omega arith

  pub fits_9 : length (symbols_of c ws T.t9 kept) * width symbols ≤ length t9
  fits_9 = let a = long_9 in let b = fit_9 in omega arith

  pub clean_8 : Clean (width productions) (length kept) t8
  clean_8 = rw chained_length at (table_clean (length T.t8) (width productions) (chained ws 0 kept) (chained_wide src c T ws ready) fit_8)

  pub clean_9 : Clean (width symbols) (length (symbols_of c ws T.t9 kept)) t9
  clean_9 = table_clean (length T.t9) (width symbols) (symbols_of c ws T.t9 kept) made_wide fit_9

  -- the ranges follow one another
  pub row_8 : (j : ℕ) → j < length kept → row_at (width productions) t8 j ≡ rechained (0 + offset kept j) (renumbered_rule ws (get_or kept j []))
  row_8 j h = table_row (length T.t8) (width productions) (chained ws 0 kept) j (chained_wide src c T ws ready) (let d = chained_length ws 0 kept in omega arith) ∙ chained_at ws 0 kept j h

  from_8 : (j : ℕ) → j < length kept → get_or (row_at (width productions) t8 j) symbols_from 0 ≡ offset kept j
  from_8 j h = let a = ap (λ (x : List ℕ). get_or x symbols_from 0) (row_8 j h) ∙ made_from ws (0 + offset kept j) (get_or kept j []) (rows_wide src c T ws ready j h) in omega arith

  to_8 : (j : ℕ) → j < length kept → get_or (row_at (width productions) t8 j) symbols_to 0 ≡ offset kept (suc j)
  to_8 j h =
      let a = ap (λ (x : List ℕ). get_or x symbols_to 0) (row_8 j h) ∙ made_to ws (0 + offset kept j) (get_or kept j []) (rows_wide src c T ws ready j h) in
      let b = offset_next kept j h in
      omega arith

  ends : (j : ℕ) → j ≤ length kept → end_before (width productions) symbols_to t8 j ≡ offset kept j
  unfolding end_before
  ends zero h = sym (offset_none kept)
  ends (suc j) h = to_8 j (omega arith)

  pub chained_after : Chained (width productions) symbols_from symbols_to (length kept) t8 (length (symbols_of c ws T.t9 kept))
  chained_after =
      record {
        begins = λ j h. from_8 j h ∙ sym (ends j (omega arith));
        onward = λ j h. let a = from_8 j h in let b = to_8 j h in let d = offset_next kept j h in omega arith;
        last = ends (length kept) (omega arith) ∙ sym (symbols_length c ws T.t9 kept);
      }

  -- a symbol afterwards is symbol k of a production that stayed
  pub record Came (s : ℕ) : Type 0 where
    pub prod : ℕ
    pub there : prod < count_at c productions
    pub stays : production_stays ws T.t8 prod ≡ true
    pub k : ℕ
    pub small : k < cell (width productions) T.t8 prod symbols_to - cell (width productions) T.t8 prod symbols_from
    pub same : offset kept (new_production src c T ws ready prod there stays) + k ≡ s

  pub came : (s : ℕ) → s < length (symbols_of c ws T.t9 kept) → Came s
  unfolding rows new_production
  came s h = go (owner kept s (let e = symbols_length c ws T.t9 kept in omega arith))
    where
      by : (o : Owner kept s) → From (production_stays ws T.t8) (count_at c productions) o.number → Came s
      by o x =
          let e = ap (λ (n : ℕ). get_or kept n []) (sym x.same) ∙ kept_at (production_stays ws T.t8) (width productions) T.t8 (count_at c productions) x.row x.there x.kept in
          let a : get_or (get_or kept o.number []) symbols_from 0 ≡ cell (width productions) T.t8 x.row symbols_from = ap (λ (y : List ℕ). get_or y symbols_from 0) e ∙ row_cell (width productions) T.t8 x.row symbols_from (omega arith) in
          let b : get_or (get_or kept o.number []) symbols_to 0 ≡ cell (width productions) T.t8 x.row symbols_to = ap (λ (y : List ℕ). get_or y symbols_to 0) e ∙ row_cell (width productions) T.t8 x.row symbols_to (omega arith) in
          let l = o.small in
          record { prod = x.row; there = x.there; stays = x.kept; k = o.k; small = omega arith; same = ap (λ (n : ℕ). offset kept n + o.k) x.same ∙ sym o.same }

      go : Owner kept s → Came s
      go o = by o (rank_from (production_stays ws T.t8) (count_at c productions) o.number (let n = kept_length (production_stays ws T.t8) (width productions) T.t8 (count_at c productions) in let l = o.there in omega arith))
