-- What a rule that stays names, it names after pruning, by new numbers. Assumes nothing.
use Prim.Native.Nat.{ℕ, ◌+◌, ◌*◌, ◌-◌, ◌≤◌, ◌<◌}
use mathlib.Core.Path.{◌≡◌, sym, ap, ap₂, ◌∙◌}
use mathlib.Core.List.{List, []}
use mathlib.Core.Bool.{Bool, true}
use native.Mathlib.Omega.{arith}
use lib.ListN.{length, get_or, set, length-set}
use lib.Seq.{get_or-set_same, get_or-set_other}
use Rattle.tables.specs.Table.{cell, has_name}
use Rattle.tables.specs.Rows.{row_at}
use Rattle.tables.specs.Layout.{tokens, avoided, epps, rules, productions, symbols, rule_row, symbols_from, symbols_to, prec, kind_name, known_row, width}
use Rattle.tables.proofs.Rows.{row_cell, row_length, row_below}
use Rattle.grammar.specs.declared.Counts.{Counts}
use Rattle.grammar.specs.Sound.{Tables}
use Rattle.sound.specs.Test.{count_at}
use Rattle.reach.specs.Reach.{Named, Net, net, Calls, Names, NamesPrec}
use Rattle.closing.specs.Close.{rank, table_of, closed}
use Rattle.closing.proofs.Numbers.{Wide, From, rank_from, table_row, rank_below, kept_length, kept_at, kept_wide_each, closed_row}
use Rattle.pruning.specs.Pruned.{rule_stays, production_stays, renumbered_rule, rechained, chained, new_number, renumbered_symbol, symbols_of, productions_left, counts_left}
use Rattle.pruning.proofs.Rows.{size_of, offset, symbols_at, symbols_length, symbols_wide, offset_up, chained_at, chained_length, made_rule, made_from, made_to, made_other}

-- one row, by its cells
pub same_cell : (w : ℕ) (t u : List ℕ) (r q k : ℕ) → k < w → row_at w u q ≡ row_at w t r → cell w u q k ≡ cell w t r k
same_cell w t u r q k h e = sym (row_cell w u q k h) ∙ (ap (λ (x : List ℕ). get_or x k 0) e ∙ row_cell w t r k h)

-- the new counts
module _ (c : Counts) (a b d e f g : ℕ) (ten : length c.n ≡ 10) where
  -- ten counts are left
  pub count_ten : length (counts_left c a b d e f g).n ≡ 10
  count_ten = simp length-set ten

  pub count_tokens : count_at (counts_left c a b d e f g) tokens ≡ a
  count_tokens =
      get_or-set_other (set (set (set (set (set c.n tokens a) avoided b) epps d) rules e) productions f) symbols tokens g 0 (λ q. omega arith)
      ∙ (get_or-set_other (set (set (set (set c.n tokens a) avoided b) epps d) rules e) productions tokens f 0 (λ q. omega arith)
      ∙ (get_or-set_other (set (set (set c.n tokens a) avoided b) epps d) rules tokens e 0 (λ q. omega arith)
      ∙ (get_or-set_other (set (set c.n tokens a) avoided b) epps tokens d 0 (λ q. omega arith)
      ∙ (get_or-set_other (set c.n tokens a) avoided tokens b 0 (λ q. omega arith) ∙ get_or-set_same c.n tokens a 0 (omega arith)))))

  pub count_avoided : count_at (counts_left c a b d e f g) avoided ≡ b
  count_avoided = get_or-set_other (set (set (set (set (set c.n tokens a) avoided b) epps d) rules e) productions f) symbols avoided g 0 (λ q. omega arith) ∙ (get_or-set_other (set (set (set (set c.n tokens a) avoided b) epps d) rules e) productions avoided f 0 (λ q. omega arith) ∙ (get_or-set_other (set (set (set c.n tokens a) avoided b) epps d) rules avoided e 0 (λ q. omega arith) ∙ (get_or-set_other (set (set c.n tokens a) avoided b) epps avoided d 0 (λ q. omega arith) ∙ get_or-set_same (set c.n tokens a) avoided b 0 (simp length-set (omega arith)))))

  pub count_epps : count_at (counts_left c a b d e f g) epps ≡ d
  count_epps = get_or-set_other (set (set (set (set (set c.n tokens a) avoided b) epps d) rules e) productions f) symbols epps g 0 (λ q. omega arith) ∙ (get_or-set_other (set (set (set (set c.n tokens a) avoided b) epps d) rules e) productions epps f 0 (λ q. omega arith) ∙ (get_or-set_other (set (set (set c.n tokens a) avoided b) epps d) rules epps e 0 (λ q. omega arith) ∙ get_or-set_same (set (set c.n tokens a) avoided b) epps d 0 (simp length-set (omega arith))))

  pub count_symbols : count_at (counts_left c a b d e f g) symbols ≡ g
  count_symbols = get_or-set_same (set (set (set (set (set c.n tokens a) avoided b) epps d) rules e) productions f) symbols g 0 (simp length-set (omega arith))

  pub count_rules : count_at (counts_left c a b d e f g) rules ≡ e
  count_rules =
      get_or-set_other (set (set (set (set (set c.n tokens a) avoided b) epps d) rules e) productions f) symbols rules g 0 (λ q. omega arith)
      ∙ (get_or-set_other (set (set (set (set c.n tokens a) avoided b) epps d) rules e) productions rules f 0 (λ q. omega arith) ∙ get_or-set_same (set (set (set c.n tokens a) avoided b) epps d) rules e 0 (simp length-set (omega arith)))

  pub count_productions : count_at (counts_left c a b d e f g) productions ≡ f
  count_productions =
      get_or-set_other (set (set (set (set (set c.n tokens a) avoided b) epps d) rules e) productions f) symbols productions g 0 (λ q. omega arith)
      ∙ get_or-set_same (set (set (set (set c.n tokens a) avoided b) epps d) rules e) productions f 0 (simp length-set (omega arith))

-- what of soundness is needed
pub record Ready (c : Counts) (T : Tables) : Type 0 where
  pub ten : length c.n ≡ 10
  pub tokens_fit : count_at c tokens * width tokens ≤ length T.t1
  pub avoided_fit : count_at c avoided * width avoided ≤ length T.t3
  pub epps_fit : count_at c epps * width epps ≤ length T.t5
  pub rules_fit : count_at c rules * width rules ≤ length T.t7
  pub productions_fit : count_at c productions * width productions ≤ length T.t8
  pub symbols_fit : count_at c symbols * width symbols ≤ length T.t9
  pub owned : (p : ℕ) → p < count_at c productions → cell (width productions) T.t8 p rule_row < count_at c rules
  pub onward : (p : ℕ) → p < count_at c productions → cell (width productions) T.t8 p symbols_from ≤ cell (width productions) T.t8 p symbols_to
  pub apart : (p q : ℕ) → p < q → q < count_at c productions → cell (width productions) T.t8 p symbols_to ≤ cell (width productions) T.t8 q symbols_from
  pub ranges : (p : ℕ) → p < count_at c productions → cell (width productions) T.t8 p symbols_to ≤ count_at c symbols

-- what of validity they go by besides: the row that a symbol has is a row
pub record Resolved (c : Counts) (T : Tables) : Type 0 where
  pub rule : (p s : ℕ) → p < count_at c productions → cell (width productions) T.t8 p symbols_from ≤ s → s < cell (width productions) T.t8 p symbols_to → cell (width symbols) T.t9 s 0 ≡ 1 → cell (width symbols) T.t9 s known_row < count_at c rules
  pub token : (p s : ℕ) → p < count_at c productions → cell (width productions) T.t8 p symbols_from ≤ s → s < cell (width productions) T.t8 p symbols_to → (cell (width symbols) T.t9 s 0 ≡ 1 → ⊥) → cell (width symbols) T.t9 s known_row < count_at c tokens

module _ (src : List ℕ) (c : Counts) (T : Tables) (ws : List ℕ) (ready : Ready c T) where
  -- the productions that stay
  unfoldable pub rows : List (List ℕ)
  rows = productions_left c T.t8 ws

  -- tables 8 and 9 afterwards
  abbrev pub eight : List ℕ
  eight = table_of (length T.t8) (chained ws 0 rows)

  abbrev pub nine : List ℕ
  nine = table_of (length T.t9) (symbols_of c ws T.t9 rows)

  abbrev pub net_left : Net
  net_left = record { src = src; prods = eight; count = length rows; syms = nine }

  pub rows_wide : Wide (width productions) rows
  unfolding rows
  rows_wide = kept_wide_each (production_stays ws T.t8) (width productions) T.t8 (count_at c productions) ready.productions_fit

  pub chained_wide : Wide (width productions) (chained ws 0 rows)
  chained_wide i h =
      let l : i < length rows = omega (arith, chained_length ws 0 rows) in
      ap length (chained_at ws 0 rows i l) ∙ simp length-set (rows_wide i l)

  -- production p that stays,
  module _ (p : ℕ) (there : p < count_at c productions) (stays : production_stays ws T.t8 p ≡ true) where
    unfoldable pub new_production : ℕ
    new_production = rank (production_stays ws T.t8) p

    pub low : new_production < length rows
    unfolding new_production rows
    low = let n = kept_length (production_stays ws T.t8) (width productions) T.t8 (count_at c productions) in let l = rank_below (production_stays ws T.t8) p (count_at c productions) there stays in omega arith

    pub old : get_or rows new_production [] ≡ row_at (width productions) T.t8 p
    unfolding new_production rows
    old = kept_at (production_stays ws T.t8) (width productions) T.t8 (count_at c productions) p there stays

    -- is another production afterwards
    new : row_at (width productions) eight new_production ≡ rechained (offset rows new_production) (renumbered_rule ws (row_at (width productions) T.t8 p))
    new =
        table_row (length T.t8) (width productions) (chained ws 0 rows) new_production chained_wide (omega (arith, chained_length ws 0 rows, low))
        ∙ (chained_at ws 0 rows new_production low ∙ ap₂ (λ (e : ℕ) (x : List ℕ). rechained e (renumbered_rule ws x)) (omega arith) old)

    -- its cells
    cell_new : (k : ℕ) → k < width productions → cell (width productions) eight new_production k ≡ get_or (rechained (offset rows new_production) (renumbered_rule ws (row_at (width productions) T.t8 p))) k 0
    cell_new k h = sym (row_cell (width productions) eight new_production k h) ∙ ap (λ (x : List ℕ). get_or x k 0) new

    wide : length (row_at (width productions) T.t8 p) ≡ width productions
    wide = let b = row_below (width productions) p (count_at c productions) there in let r = ready.productions_fit in row_length (width productions) T.t8 p (omega arith)

    old_cell : (k : ℕ) → k < width productions → get_or (row_at (width productions) T.t8 p) k 0 ≡ cell (width productions) T.t8 p k
    old_cell k h = row_cell (width productions) T.t8 p k h

    pub new_rule_lem : cell (width productions) eight new_production rule_row ≡ rank (rule_stays ws) (cell (width productions) T.t8 p rule_row)
    new_rule_lem = cell_new rule_row (omega arith) ∙ (made_rule ws (offset rows new_production) (row_at (width productions) T.t8 p) wide ∙ ap (rank (rule_stays ws)) (old_cell rule_row (omega arith)))

    pub new_from : cell (width productions) eight new_production symbols_from ≡ offset rows new_production
    new_from = cell_new symbols_from (omega arith) ∙ made_from ws (offset rows new_production) (row_at (width productions) T.t8 p) wide

    pub new_to : cell (width productions) eight new_production symbols_to ≡ offset rows new_production + (cell (width productions) T.t8 p symbols_to - cell (width productions) T.t8 p symbols_from)
    new_to =
        cell_new symbols_to (omega arith)
        ∙ (made_to ws (offset rows new_production) (row_at (width productions) T.t8 p) wide ∙ ap₂ (λ (x y : ℕ). offset rows new_production + (x - y)) (old_cell symbols_to (omega arith)) (old_cell symbols_from (omega arith)))

    -- and those that are neither
    pub new_other : (k : ℕ) → k < width productions → (k ≡ rule_row → ⊥) → (k ≡ symbols_from → ⊥) → (k ≡ symbols_to → ⊥) → cell (width productions) eight new_production k ≡ cell (width productions) T.t8 p k
    new_other k h a b d = cell_new k h ∙ (made_other ws (offset rows new_production) (row_at (width productions) T.t8 p) k a b d ∙ old_cell k h)

  -- the ranges of the productions that stay lie in table 9
  pub ranges_in : (j : ℕ) → j < length rows → get_or (get_or rows j []) symbols_to 0 ≤ count_at c symbols
  unfolding rows
  ranges_in j h = go (rank_from (production_stays ws T.t8) (count_at c productions) j (let n = kept_length (production_stays ws T.t8) (width productions) T.t8 (count_at c productions) in omega arith))
    where
      go : From (production_stays ws T.t8) (count_at c productions) j → get_or (get_or rows j []) symbols_to 0 ≤ count_at c symbols
      go x =
          let e = kept_at (production_stays ws T.t8) (width productions) T.t8 (count_at c productions) x.row x.there x.kept in
          let f : get_or (get_or rows j []) symbols_to 0 ≡ cell (width productions) T.t8 x.row symbols_to = ap (λ (k : ℕ). get_or (get_or rows k []) symbols_to 0) (sym x.same) ∙ (ap (λ (y : List ℕ). get_or y symbols_to 0) e ∙ row_cell (width productions) T.t8 x.row symbols_to (omega arith)) in
          let r = ready.ranges x.row x.there in
          omega arith

  -- symbol k of production p is symbol offset + k afterwards
  pub new_symbol : (p : ℕ) (there : p < count_at c productions) (stays : production_stays ws T.t8 p ≡ true) (k : ℕ) → k < cell (width productions) T.t8 p symbols_to - cell (width productions) T.t8 p symbols_from → row_at (width symbols) nine (offset rows (new_production p there stays) + k) ≡ renumbered_symbol c ws (row_at (width symbols) T.t9 (cell (width productions) T.t8 p symbols_from + k))
  new_symbol p there stays k h =
      let j = new_production p there stays in
      let o = old p there stays in
      let l = low p there stays in
      let a : get_or (get_or rows j []) symbols_to 0 ≡ cell (width productions) T.t8 p symbols_to = ap (λ (y : List ℕ). get_or y symbols_to 0) o ∙ row_cell (width productions) T.t8 p symbols_to (omega arith) in
      let b : get_or (get_or rows j []) symbols_from 0 ≡ cell (width productions) T.t8 p symbols_from = ap (λ (y : List ℕ). get_or y symbols_from 0) o ∙ row_cell (width productions) T.t8 p symbols_from (omega arith) in
      let m : k < size_of (get_or rows j []) = omega arith in
      table_row (length T.t9) (width symbols) (symbols_of c ws T.t9 rows) (offset rows j + k) (symbols_wide c ws T.t9 (count_at c symbols) ready.symbols_fit rows ranges_in) (omega (arith, symbols_length c ws T.t9 rows, offset_up rows j l))
      ∙ (symbols_at c ws T.t9 rows j k l m ∙ ap (λ (n : ℕ). renumbered_symbol c ws (row_at (width symbols) T.t9 (n + k))) b)

  -- the same but for its row
  pub new_symbol_cell : (p : ℕ) (there : p < count_at c productions) (stays : production_stays ws T.t8 p ≡ true) (k : ℕ) → k < cell (width productions) T.t8 p symbols_to - cell (width productions) T.t8 p symbols_from → (q : ℕ) → q < known_row → cell (width symbols) nine (offset rows (new_production p there stays) + k) q ≡ cell (width symbols) T.t9 (cell (width productions) T.t8 p symbols_from + k) q
  new_symbol_cell p there stays k h q l =
      let s = cell (width productions) T.t8 p symbols_from + k in
      let x = row_at (width symbols) T.t9 s in
      sym (row_cell (width symbols) nine (offset rows (new_production p there stays) + k) q (omega arith))
      ∙ (ap (λ (y : List ℕ). get_or y q 0) (new_symbol p there stays k h)
      ∙ (get_or-set_other x known_row q (new_number c ws (get_or x 0 0) (get_or x known_row 0)) 0 (λ e. omega arith) ∙ row_cell (width symbols) T.t9 s q (omega arith)))

  -- What a rule that stays names, it names afterwards.
  pub names_forth : (d d' : Named) (new-number : ℕ → ℕ) → d'.sort.kind ≡ d.sort.kind → {a b : ℕ} → rule_stays ws a ≡ true → ((x y : ℕ) → Calls src d x y b → Calls src d' x y (new-number b)) → Names (net src c T.t8 T.t9) d a b → Names net_left d' (rank (rule_stays ws) a) (new-number b)
  unfolding production_stays
  names_forth d d' new-number same {a} {b} stays f n =
      let p = n.prod in
      let from = cell (width productions) T.t8 p symbols_from in
      let g : production_stays ws T.t8 p ≡ true = stays_too n.prod n.of in
      let j = new_production p n.there g in
      let k = n.sym - from in
      let h = n.holds.from in
      let t = n.holds.to in
      let e : from + k ≡ n.sym = omega arith in
      let u = new_from p n.there g in
      let v = new_to p n.there g in
      let row : (q : ℕ) → q < known_row → cell (width symbols) nine (offset rows j + k) q ≡ cell (width symbols) T.t9 n.sym q = λ q l. new_symbol_cell p n.there g k (omega arith) q l ∙ ap (λ (m : ℕ). cell (width symbols) T.t9 m q) e in
      record {
        prod = j;
        there = low p n.there g;
        of = new_rule_lem p n.there g ∙ ap (rank (rule_stays ws)) n.of;
        sym = offset rows j + k;
        holds = record { from = omega arith; to = omega arith; kind = row 0 (omega arith) ∙ (n.holds.kind ∙ sym same); row = rw (row kind_name (omega arith), row (kind_name + 1) (omega arith)) (f _ _ n.holds.row) };
      }
    where
      stays_too : (p : ℕ) → cell (width productions) T.t8 p rule_row ≡ a → production_stays ws T.t8 p ≡ true
      stays_too p e = rw e stays

  -- The same of a `%prec`.
  pub precs_forth : (d d' : Named) (new-number : ℕ → ℕ) → {a b : ℕ} → rule_stays ws a ≡ true → ((x y : ℕ) → Calls src d x y b → Calls src d' x y (new-number b)) → NamesPrec (net src c T.t8 T.t9) d a b → NamesPrec net_left d' (rank (rule_stays ws) a) (new-number b)
  unfolding production_stays
  precs_forth d d' new-number {a} {b} stays f n =
      let p = n.prod in
      let g : production_stays ws T.t8 p ≡ true = stays_too n.prod n.of in
      let same : (k : ℕ) → k < 3 → cell (width productions) eight (new_production p n.there g) (prec + k) ≡ cell (width productions) T.t8 p (prec + k) = λ k l. new_other p n.there g (prec + k) (omega arith) (λ q. omega arith) (λ q. omega arith) (λ q. omega arith) in
      record {
        prod = new_production p n.there g;
        there = low p n.there g;
        of = new_rule_lem p n.there g ∙ ap (rank (rule_stays ws)) n.of;
        holds = record { given = same 0 (omega arith) ∙ n.holds.given; row = rw (same 1 (omega arith), same 2 (omega arith)) (f _ _ n.holds.row) };
      }
    where
      stays_too : (p : ℕ) → cell (width productions) T.t8 p rule_row ≡ a → production_stays ws T.t8 p ≡ true
      stays_too p e = rw e stays

-- The name of a row that stays is that of its new row.
pub calls_forth : (src : List ℕ) (stays : ℕ → Bool) (d d' : Named) → d'.cells ≡ (closed stays d.sort.wide d.sort.count d.cells).cells → d'.sort.wide ≡ d.sort.wide → d'.sort.count ≡ rank stays d.sort.count → d.sort.count * d.sort.wide ≤ length d.cells → 1 < d.sort.wide → {x y r : ℕ} → stays r ≡ true → Calls src d x y r → Calls src d' x y (rank stays r)
unfolding has_name
calls_forth src stays d d' cells wide count fits two {x} {y} {r} s q =
    let w = d.sort.wide in
    let e = closed_row stays w d.sort.count d.cells r fits q.inside s in
    let u = (closed stays w d.sort.count d.cells).cells in
    let a = same_cell w d.cells u r (rank stays r) 0 (omega arith) e in
    let b = same_cell w d.cells u r (rank stays r) 1 (omega arith) e in
    record { inside = rw count (rank_below stays r d.sort.count q.inside s); same = rw (cells, wide, a, b) q.same }
