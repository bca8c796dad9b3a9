-- Table 8 under way: productions that stay are laid in front, with their new numbers. Assumes nothing.
use Prim.Native.Nat.{ℕ, suc, ◌+◌, ◌*◌, ◌-◌, ◌≤◌, ◌<◌}
use mathlib.Core.Path.{◌≡◌, refl, sym, ap, ◌∙◌}
use mathlib.Core.List.{List, [], ◌∷◌, ◌++◌}
use mathlib.Core.Bool.{Bool, true, false}
use native.Mathlib.Omega.{arith}
use lib.ListN.{length, get_or, set, length-append}
use lib.Seq.{get_or-set_other}
use Rattle.tables.specs.Table.{cell, set_cell}
use Rattle.tables.specs.Rows.{row_at, end_before, Chained}
use Rattle.tables.specs.Layout.{rules, productions, symbols, rule_row, symbols_from, symbols_to, width}
use Rattle.tables.proofs.Rows.{row_cell, row_below}
use Rattle.grammar.specs.declared.Counts.{Counts}
use Rattle.sound.specs.Test.{count_at}
use Rattle.closing.specs.Close.{Step, kept_rows, rank, moved, table_of, zero_from}
use Rattle.closing.proofs.Laws.{kept_yes, kept_no}
use Rattle.pruning.specs.Pruned.{rule_stays, production_stays, renumbered_rule, rechained, chained, productions_left}
use Rattle.pruning.proofs.Rows.{size_of, chained_length}
use Rattle.pruner.specs.Moving.{Ranked, numbered, LinkStep, link_step}
use Rattle.pruner.specs.Asked.{Owned}
use Rattle.pruner.proofs.Laid.{Laid, Row, row_same, row_put, laid_none, laid_on, laid_cell, laid_row, laid_join, laid_end}
use Rattle.pruner.proofs.Symbols.{end_next}

-- ---- what a production read becomes

module _ (i7 : List ℕ) (p m e : ℕ) (t : List ℕ) (b s : Bool) (q : b ≡ s) where
  pub link_pass : b ≡ false → ◌≡◌ {A = LinkStep} (record { rows = m; symbols = e; cells = t }) (link_step s i7 p m e t)
  unfolding link_step
  link_pass h = rw (← q, h)

  module _ (h : b ≡ true) (rule from to new : ℕ) (e1 : rule ≡ cell (width productions) t p rule_row) (e2 : from ≡ cell (width productions) t p symbols_from) (e3 : to ≡ cell (width productions) t p symbols_to) (e4 : new ≡ get_or i7 rule 0) where
    pub link_join : (u v x y : List ℕ) → u ≡ set_cell (width productions) t p rule_row new → v ≡ set_cell (width productions) u p symbols_from e → x ≡ set_cell (width productions) v p symbols_to (e + (to - from)) → y ≡ moved (width productions) p m x → ◌≡◌ {A = LinkStep} (record { rows = m + 1; symbols = e + (to - from); cells = y }) (link_step s i7 p m e t)
    unfolding link_step
    link_join u v x y f1 f2 f3 f4 = rw (← q, h, ← e1, ← e2, ← e3, ← e4, ← f1, ← f2, ← f3, ← f4)

-- ---- productions, one more

-- how many symbols productions have
unfoldable pub total : List (List ℕ) → ℕ
total [] = 0
total (x ∷ xs) = size_of x + total xs

total_snoc : (rows : List (List ℕ)) (x : List ℕ) → total (rows ++ (x ∷ [])) ≡ total rows + size_of x
unfolding total
total_snoc [] x = omega arith
total_snoc (y ∷ rows) x = let e = total_snoc rows x in omega arith

chained_snoc : (ws : List ℕ) (e : ℕ) (rows : List (List ℕ)) (x : List ℕ) → chained ws e (rows ++ (x ∷ [])) ≡ chained ws e rows ++ (rechained (e + total rows) (renumbered_rule ws x) ∷ [])
unfolding chained total
chained_snoc ws e [] x = let n : e + 0 ≡ e = omega arith in rw n
chained_snoc ws e (y ∷ rows) x = let n : e + (size_of y + total rows) ≡ e + size_of y + total rows = omega arith in rw n (ap (λ (l : List (List ℕ)). rechained e (renumbered_rule ws y) ∷ l) (chained_snoc ws (e + size_of y) rows x))

-- ---- the loop

-- p productions are read: those that stay stand in front with their new numbers, and have e symbols
pub record ProductionsTo (ws t₀ : List ℕ) (p m e : ℕ) (t : List ℕ) : Type 0 where
  pub rows : m ≡ length (kept_rows (production_stays ws t₀) (width productions) p t₀)
  pub symbols : e ≡ total (kept_rows (production_stays ws t₀) (width productions) p t₀)
  pub few : e ≤ end_before (width productions) symbols_to t₀ p
  pub laid : Laid (width productions) t₀ (chained ws 0 (kept_rows (production_stays ws t₀) (width productions) p t₀)) p t

pub productions_none : (ws t₀ : List ℕ) → ProductionsTo ws t₀ 0 0 0 t₀
unfolding kept_rows chained end_before total
productions_none ws t₀ = record { rows = refl; symbols = refl; few = omega arith; laid = laid_none (width productions) t₀ }

module _ (c : Counts) (ws i7 t₀ : List ℕ) (fits : count_at c productions * width productions ≤ length t₀) (ranges : Chained (width productions) symbols_from symbols_to (count_at c productions) t₀ (count_at c symbols)) (owned : Owned c t₀) (ranked : Ranked (rule_stays ws) (count_at c rules) i7) (p m e : ℕ) (t : List ℕ) (x : ProductionsTo ws t₀ p m e t) where
  abbrev kept : List (List ℕ)
  kept = kept_rows (production_stays ws t₀) (width productions) p t₀

  abbrev made : List (List ℕ)
  made = chained ws 0 kept

  pub few_rows : m ≤ p
  few_rows = let l = x.laid.low in let n = chained_length ws 0 kept in let k = x.rows in omega arith

  pub productions_fit : p ≤ count_at c productions → m * width productions ≤ length t
  productions_fit h =
      let l = few_rows in
      let s = x.laid.size in
      omega arith

  same : (k : ℕ) → cell (width productions) t p k ≡ cell (width productions) t₀ p k
  same = laid_cell (width productions) t₀ made p t x.laid

  stays_same : production_stays ws t p ≡ production_stays ws t₀ p
  unfolding production_stays
  stays_same = ap (λ (r : ℕ). rule_stays ws r) (same rule_row)

  module _ (h : p < count_at c productions) where
    abbrev row : List ℕ
    row = row_at (width productions) t₀ p

    of_row : (k : ℕ) → k < width productions → cell (width productions) t p k ≡ get_or row k 0
    of_row k l = same k ∙ sym (row_cell (width productions) t₀ p k l)

    pub productions_asks : (m ≤ p) × (p * width productions + width productions ≤ length t) × (cell (width productions) t p symbols_from ≤ cell (width productions) t p symbols_to) × (e ≤ cell (width productions) t p symbols_from)
    productions_asks =
        let s = x.laid.size in
        let a = of_row symbols_from (omega arith) in
        let b = of_row symbols_to (omega arith) in
        let o = ranges.onward p h in
        let g = ranges.begins p h in
        let f = x.few in
        (few_rows, omega arith, omega arith, omega arith)

    end_is : end_before (width productions) symbols_to t₀ (suc p) ≡ get_or row symbols_to 0
    end_is = end_next (width productions) symbols_to t₀ p

    passed : production_stays ws t₀ p ≡ false → ProductionsTo ws t₀ (suc p) m e t
    passed q = go (kept_no (production_stays ws t₀) (width productions) t₀ p q)
      where
        go : kept_rows (production_stays ws t₀) (width productions) (suc p) t₀ ≡ kept → ProductionsTo ws t₀ (suc p) m e t
        go k =
            let f = x.few in
            let g = ranges.begins p h in
            let o = ranges.onward p h in
            let d = end_is in
            record { rows = rw k x.rows; symbols = rw k x.symbols; few = omega arith; laid = rw k (laid_on (width productions) t₀ made p t x.laid (suc p) (omega arith)) }

    abbrev first : ℕ
    first = cell (width productions) t p symbols_from

    abbrev last : ℕ
    last = cell (width productions) t p symbols_to

    -- the row's new cells
    new_rule_lem : get_or i7 (cell (width productions) t p rule_row) 0 ≡ rank (rule_stays ws) (get_or row rule_row 0)
    new_rule_lem =
        let a = of_row rule_row (omega arith) in
        let b = row_cell (width productions) t₀ p rule_row (omega arith) in
        ap (λ (r : ℕ). get_or i7 r 0) (same rule_row) ∙ (ranked.each (cell (width productions) t₀ p rule_row) (owned p h) ∙ ap (rank (rule_stays ws)) (sym b))

    is_row : set (set (set (row_at (width productions) t p) rule_row (get_or i7 (cell (width productions) t p rule_row) 0)) symbols_from e) symbols_to (e + (last - first)) ≡ rechained e (renumbered_rule ws row)
    is_row =
        let r = rank (rule_stays ws) (get_or row rule_row 0) in
        let a : get_or (set row rule_row r) symbols_to 0 ≡ get_or row symbols_to 0 = get_or-set_other row rule_row symbols_to r 0 (λ z. omega arith) in
        let b : get_or (set row rule_row r) symbols_from 0 ≡ get_or row symbols_from 0 = get_or-set_other row rule_row symbols_from r 0 (λ z. omega arith) in
        rw (laid_row (width productions) t₀ made p t x.laid, new_rule_lem, of_row symbols_to (omega arith), of_row symbols_from (omega arith), a, b)

    changed : Row (width productions) p t (rechained e (renumbered_rule ws row)) (numbered i7 p e t)
    changed =
        rw is_row at
        (row_put (width productions) p symbols_to (e + (last - first)) t _ _ (omega arith)
        (row_put (width productions) p symbols_from e t _ _ (omega arith)
        (row_put (width productions) p rule_row (get_or i7 (cell (width productions) t p rule_row) 0) t (row_at (width productions) t p) t (omega arith) (row_same (width productions) p t))))

    joined : production_stays ws t₀ p ≡ true → ProductionsTo ws t₀ (suc p) (m + 1) (e + (last - first)) (moved (width productions) p m (numbered i7 p e t))
    joined q =
        let k : kept_rows (production_stays ws t₀) (width productions) (suc p) t₀ ≡ kept ++ (row ∷ []) = kept_yes (production_stays ws t₀) (width productions) t₀ p q in
        let a = of_row symbols_from (omega arith) in
        let b = of_row symbols_to (omega arith) in
        let f = x.few in
        let g = ranges.begins p h in
        let o = ranges.onward p h in
        let d = end_is in
        let z : 0 + total kept ≡ e = omega (arith, x.symbols) in
        let n : length made ≡ m = chained_length ws 0 kept ∙ sym x.rows in
        let y = laid_join (width productions) t₀ made p t x.laid (rechained e (renumbered_rule ws row)) (numbered i7 p e t) (omega (arith, row_below (width productions) p (count_at c productions) h)) changed in
        let l : chained ws 0 (kept ++ (row ∷ [])) ≡ made ++ (rechained e (renumbered_rule ws row) ∷ []) = chained_snoc ws 0 kept row ∙ ap (λ (v : ℕ). made ++ (rechained v (renumbered_rule ws row) ∷ [])) z in
        record {
          rows = rw (k, length-append) (omega (arith, x.rows));
          symbols = rw (k, total_snoc) (omega (arith, x.symbols));
          few = omega arith;
          laid = rw (k, l, ← n) y;
        }

    pub productions_step : (o : LinkStep) → o ≡ link_step (production_stays ws t p) i7 p m e t → ProductionsTo ws t₀ (p + 1) o.rows o.symbols o.cells
    unfolding link_step
    productions_step o q = let n : p + 1 ≡ suc p = omega arith in rw (n, q, stays_same) (go (production_stays ws t₀ p) refl)
      where
        go : (b : Bool) → production_stays ws t₀ p ≡ b → ProductionsTo ws t₀ (suc p) (link_step b i7 p m e t).rows (link_step b i7 p m e t).symbols (link_step b i7 p m e t).cells
        go true d = joined d
        go false d = passed d

-- at the end it is the table of the productions that stay
pub productions_end : (c : Counts) (ws t₀ : List ℕ) → count_at c productions * width productions ≤ length t₀ → (m e : ℕ) (t : List ℕ) → ProductionsTo ws t₀ (count_at c productions) m e t → ◌≡◌ {A = Step} (record { count = m; cells = zero_from (m * width productions) t }) (record { count = length (productions_left c t₀ ws); cells = table_of (length t₀) (chained ws 0 (productions_left c t₀ ws)) })
productions_end c ws t₀ fits m e t x =
    let n : length (chained ws 0 (productions_left c t₀ ws)) ≡ length (productions_left c t₀ ws) = chained_length ws 0 (productions_left c t₀ ws) in
    let l = laid_end (width productions) t₀ (chained ws 0 (productions_left c t₀ ws)) (count_at c productions) t x.laid fits in
    rw (x.rows, ← n, l)
