-- Places that nest so far, under each change that an item makes: one law for each. Assumes nothing.
use Rattle.std.specs.Prelude.{Option, Some, None}
use Prim.Native.Nat.{ℕ, ◌+◌, ◌*◌, ◌≤◌, ◌<◌}
use mathlib.Core.Path.{◌≡◌, refl}
use mathlib.Core.List.{List}
use mathlib.Core.Bool.{true}
use native.Mathlib.Omega.{arith}
use native.Mathlib.Decide.{dec_lt}
use lib.ListN.{length, get_or}
use Rattle.tables.specs.Table.{put}
use Rattle.tables.specs.Rows.{row_at}
use Rattle.tables.specs.Layout.{productions, symbols, kind_name, width}
use Rattle.tables.proofs.Rows.{row_new, row_old, rows_add, rows_map}
use Rattle.productions.specs.declared.Production.{Production}
use Rattle.productions.specs.Cells.{action_cells, production_cells}
use Rattle.items.specs.Items.{may_end, with_last}
use Rattle.nesting.specs.Nest.{InSpan}
use Rattle.nesting.specs.Under.{SymbolSeen, ProductionOver, Lain, Shut, Lying}

-- the reading goes on
seen_on : (a b : ℕ) → a ≤ b → (x : List ℕ) → SymbolSeen a x → SymbolSeen b x
seen_on a b h x s = let e = s.ends in record { inked = s.inked; ends = omega arith }

over_on : (a b i j : ℕ) → a ≤ b → i ≤ j → (t9 x : List ℕ) → ProductionOver a i t9 x → ProductionOver b j t9 x
over_on a b i j h k t9 x o =
    let e = o.span in
    let l = o.last in
    record { span = omega arith; acted = λ q. let c = o.acted q in omega arith; behind = o.behind; last = omega arith; inside = o.inside }

pub lain_on : {at limit first m n : ℕ} {t8 t9 : List ℕ} (at' limit' first' : ℕ) → at ≤ at' → limit ≤ limit' → first ≤ first' → Lain at limit first m n t8 t9 → Lain at' limit' first' m n t8 t9
lain_on {at} {limit} {first} {t9 = t9} at' limit' first' a l f x =
    record { symbols = rows_map (seen_on at at' a) x.symbols; productions = rows_map (over_on limit limit' first first' l f t9) x.productions }

-- a production without an action
abbrev pub Actionless : Option (ℕ × ℕ × ℕ × ℕ) → Type 0
Actionless None = Unit {0}
Actionless (Some (a, b, c, d)) = ⊥

free_shut : (src : List ℕ) (at to : ℕ) (act : Option (ℕ × ℕ × ℕ × ℕ)) → Actionless act → Shut src at to act
free_shut src at to None f = tt
free_shut src at to (Some (a, b, c, d)) f = absurd f

-- what stands where neither `|` nor `;` does has no action before it
pub shut_free : (src : List ℕ) (at to : ℕ) (act : Option (ℕ × ℕ × ℕ × ℕ)) → Shut src at to act → (may_end src at ≡ true → ⊥) → Actionless act
shut_free src at to None x n = tt
shut_free src at to (Some (a, b, c, d)) x n = n x.3

-- a row more in table 9
module _ (n : ℕ) (row t9 : List ℕ) (wide : length row ≡ width symbols) (room : n * width symbols + width symbols ≤ length t9) (small : n < 4294967295) where
  over_row : (limit first : ℕ) → first ≤ n → (x : List ℕ) → ProductionOver limit first t9 x → ProductionOver limit first (put t9 (n * width symbols) row) x
  over_row limit first h x o =
      let l = o.last in
      record { span = o.span; acted = o.acted; behind = o.behind; last = l; inside = λ q a b. rw (row_old (width symbols) n row t9 wide room q (omega arith)) (o.inside q a b) }

  module _ {src : List ℕ} {at m from to first : ℕ} {act : Option (ℕ × ℕ × ℕ × ℕ)} {t8 : List ℕ} (x : Lying src at m n from to first act t8 t9) (free : Actionless act) (end at' : ℕ) (a : at ≤ get_or row kind_name 0) (b : get_or row kind_name 0 < get_or row (kind_name + 1) 0) (c : get_or row (kind_name + 1) 0 ≤ end) (d : end ≤ at') where
    lain_symbol : Lain at' from first m (n + 1) t8 (put t9 (n * width symbols) row)
    lain_symbol =
        record {
          symbols =
              rows_add (width symbols) n row t9 wide room small (rows_map (seen_on at at' (omega arith)) x.lain.symbols)
              (record { inked = record { some = b }; ends = omega arith })
              (λ r l. let e = (x.lain.symbols.each r l).ends in record { apart = omega arith });
          productions = rows_map (over_row from first x.since) x.lain.productions;
        }

    -- a symbol joins the production
    pub lying_symbol : Lying src at' m (n + 1) from end first act t8 (put t9 (n * width symbols) row)
    lying_symbol =
        let s = x.span in
        let h = x.here in
        let i = x.since in
        record {
          lain = lain_symbol;
          span = omega arith;
          here = d;
          since = omega arith;
          inside = λ q l k. in-it q l k (dec_lt q n);
          shut = free_shut src at' end act free;
        }
      where
        in-it : (q : ℕ) → first ≤ q → q < n + 1 → Dec (q < n) → InSpan from end (row_at (width symbols) (put t9 (n * width symbols) row) q)
        in-it q l k (yes e) =
            let w = x.inside q l e in
            let u = w.starts in
            let v = w.ends in
            let h = x.here in
            let z : InSpan from end (row_at (width symbols) t9 q) = record { starts = u; ends = omega arith } in
            rw (row_old (width symbols) n row t9 wide room q e) z
        in-it q l k (no e) =
            let s = x.span in
            let h = x.here in
            let g : q ≡ n = omega arith in
            let z : InSpan from end row = record { starts = omega arith; ends = c } in
            rw (g, row_new (width symbols) n row t9 wide room) z

module _ {src : List ℕ} {at m n from to first : ℕ} {act : Option (ℕ × ℕ × ℕ × ℕ)} {t8 t9 : List ℕ} (x : Lying src at m n from to first act t8 t9) where
  widened : (end : ℕ) → to ≤ end → (q : ℕ) → first ≤ q → q < n → InSpan from end (row_at (width symbols) t9 q)
  widened end h q l k = let w = x.inside q l k in let v = w.ends in record { starts = w.starts; ends = omega arith }

  -- another item
  pub lying_to : Actionless act → (end at' : ℕ) → at ≤ end → end ≤ at' → Lying src at' m n from end first act t8 t9
  lying_to free end at' h k =
      let s = x.span in
      let t = x.here in
      record { lain = lain_on at' from first (omega arith) (omega arith) (omega arith) x.lain; span = omega arith; here = k; since = x.since; inside = widened end (omega arith); shut = free_shut src at' end act free }

  -- none
  pub lying_on : Actionless act → (at' : ℕ) → at ≤ at' → Lying src at' m n from to first act t8 t9
  lying_on free at' h =
      let t = x.here in
      record { lain = lain_on at' from first h (omega arith) (omega arith) x.lain; span = x.span; here = omega arith; since = x.since; inside = x.inside; shut = free_shut src at' to act free }

  -- an action
  pub lying_action : (a b c d at' : ℕ) → at < a → a ≤ b → b < at' → may_end src at' ≡ true → Lying src at' m n from at first (Some (a, b, c, d)) t8 t9
  lying_action a b c d at' h k l e =
      let s = x.span in
      let t = x.here in
      record { lain = lain_on at' from first (omega arith) (omega arith) (omega arith) x.lain; span = omega arith; here = omega arith; since = x.since; inside = widened at t; shut = (h, k, l, e) }

  -- the cells of its action
  acted_cells : (z : Option (ℕ × ℕ × ℕ × ℕ)) → Shut src at to z → (get_or (action_cells z) 0 0 ≡ 1 → get_or (action_cells z) 2 0 < at) × (get_or (action_cells z) 0 0 ≡ 1 → to < get_or (action_cells z) 1 0) × (get_or (action_cells z) 0 0 ≡ 1 → get_or (action_cells z) 1 0 ≤ get_or (action_cells z) 2 0)
  acted_cells None s = (λ e. absurd (omega arith), λ e. absurd (omega arith), λ e. absurd (omega arith))
  acted_cells (Some (a, b, c, d)) s = (λ e. s.2, λ e. s.0, λ e. s.1)

-- the production is over, and its row joins table 8
pub lying_over : {src : List ℕ} {at m n : ℕ} {t8 t9 : List ℕ} (d : Production) → Lying src at m n d.from d.to d.first d.action t8 t9 → m * width productions + width productions ≤ length t8 → m < 4294967295 → (at' : ℕ) → at < at' → Lain at' at' n (m + 1) n (put t8 (m * width productions) (production_cells (with_last d n))) t9
lying_over {src} {at} {m} {n} {t8} {t9} d x room small at' h =
    let c = acted_cells x d.action x.shut in
    let s = x.span in
    let t = x.here in
    let y = lain_on at' at' n (omega arith) (omega arith) x.since x.lain in
    record {
      symbols = y.symbols;
      productions =
          rows_add (width productions) m (production_cells (with_last d n)) t8 refl room small y.productions
          (record { span = omega arith; acted = λ e. let k = c.0 e in omega arith; behind = record { after = c.1; onward = c.2 }; last = omega arith; inside = x.inside })
          (λ r l. let o = x.lain.productions.each r l in record { span = o.span; action = o.acted });
    }

-- the next one begins where the reading stands
pub lying_begun : {src : List ℕ} {at m n : ℕ} {t8 t9 : List ℕ} → Lain at at n m n t8 t9 → Lying src at m n at at n None t8 t9
lying_begun x = record { lain = x; span = omega arith; here = omega arith; since = omega arith; inside = λ q a b. absurd (omega arith); shut = tt }
