-- What a rule names after pruning, its old row named: so use is the same before and after. Assumes nothing.
use Prim.Native.Nat.{ℕ, ◌+◌, ◌*◌, ◌-◌, ◌≤◌, ◌<◌}
use mathlib.Core.Path.{◌≡◌, refl, sym, ap, ◌∙◌}
use mathlib.Core.List.{List}
use mathlib.Core.Bool.{Bool, true}
use native.Mathlib.Omega.{arith}
use lib.ListN.{length}
use Rattle.scan.proofs.Bytes.{told}
use Rattle.tables.specs.Table.{cell, has_name}
use Rattle.tables.specs.Layout.{productions, symbols, rule_row, symbols_from, symbols_to, prec, kind_name, known_row, width}
use Rattle.grammar.specs.declared.Counts.{Counts}
use Rattle.grammar.specs.Sound.{Tables}
use Rattle.sound.specs.Test.{count_at}
use Rattle.reach.specs.Reach.{Named, Net, net, Calls, Holds, Names, HoldsPrec, NamesPrec}
use Rattle.closing.specs.Close.{rank, closed}
use Rattle.closing.proofs.Numbers.{From, rank_from, rank_inject, kept_length, closed_row}
use Rattle.pruning.specs.Pruned.{rule_stays, production_stays}
use Rattle.pruning.proofs.Rows.{offset}
use Rattle.pruning.proofs.Forth.{Ready, same_cell, rows, eight, nine, net_left, new_production, new_rule_lem, new_from, new_to, new_other, new_symbol_cell}

-- a row that stays, whose new number is j, has the name
pub record Was (src : List ℕ) (stays : ℕ → Bool) (d : Named) (x y j : ℕ) : Type 0 where
  pub row : ℕ
  pub kept : stays row ≡ true
  pub same : rank stays row ≡ j
  pub calls : Calls src d x y row

pub calls_back : (src : List ℕ) (stays : ℕ → Bool) (d d' : Named) → d'.cells ≡ (closed stays d.sort.wide d.sort.count d.cells).cells → d'.sort.wide ≡ d.sort.wide → d'.sort.count ≡ rank stays d.sort.count → d.sort.count * d.sort.wide ≤ length d.cells → 1 < d.sort.wide → {x y j : ℕ} → Calls src d' x y j → Was src stays d x y j
unfolding has_name
calls_back src stays d d' cells wide count fits two {x} {y} {j} q = go (rank_from stays d.sort.count j (let l = q.inside in omega arith))
  where
    go : From stays d.sort.count j → Was src stays d x y j
    go f =
        let w = d.sort.wide in
        let e = closed_row stays w d.sort.count d.cells f.row fits f.there f.kept in
        let u = (closed stays w d.sort.count d.cells).cells in
        let a = same_cell w d.cells u f.row (rank stays f.row) 0 (omega arith) e in
        let b = same_cell w d.cells u f.row (rank stays f.row) 1 (omega arith) e in
        let z : Calls src d' x y (rank stays f.row) = told (Calls src d' x y) (sym f.same) q in
        let s = rw (cells, wide) at z.same in
        record { row = f.row; kept = f.kept; same = f.same; calls = record { inside = f.there; same = rw (← a, ← b) s } }

-- what was named, by a symbol or by a `%prec`
pub record NamedBy (N : Net → Named → ℕ → ℕ → Type 0) (src : List ℕ) (c : Counts) (T : Tables) (ws : List ℕ) (stays : ℕ → Bool) (d : Named) (a' b' : ℕ) : Type 0 where
  pub by : ℕ
  pub by_kept : rule_stays ws by ≡ true
  pub by_same : rank (rule_stays ws) by ≡ a'
  pub row : ℕ
  pub row_kept : stays row ≡ true
  pub row_same : rank stays row ≡ b'
  pub names : N (net src c T.t8 T.t9) d by row

-- of rows that stay it is what their new numbers say
pub named_exact : {N : Net → Named → ℕ → ℕ → Type 0} {src : List ℕ} {c : Counts} {T : Tables} (ws : List ℕ) (stays : ℕ → Bool) {d : Named} (a b : ℕ) → rule_stays ws a ≡ true → stays b ≡ true → NamedBy N src c T ws stays d (rank (rule_stays ws) a) (rank stays b) → N (net src c T.t8 T.t9) d a b
named_exact {N} {src} {c} {T} ws stays {d} a b s t w =
    let g = rank_inject (rule_stays ws) w.by a w.by_kept s w.by_same in
    let h = rank_inject stays w.row b w.row_kept t w.row_same in
    told (N (net src c T.t8 T.t9) d a) h (told (λ (k : ℕ). N (net src c T.t8 T.t9) d k w.row) g w.names)

module _ (src : List ℕ) (c : Counts) (T : Tables) (ws : List ℕ) (ready : Ready c T) where
  prods' : List ℕ
  prods' = eight src c T ws ready

  syms' : List ℕ
  syms' = nine src c T ws ready

  -- a symbol of production p by its new numbers
  back_of : (stays : ℕ → Bool) (d d' : Named) → d'.sort.kind ≡ d.sort.kind → ((x y j : ℕ) → Calls src d' x y j → Was src stays d x y j) → (p : ℕ) (there : p < count_at c productions) (kept : production_stays ws T.t8 p ≡ true) {a' b' : ℕ} → cell (width productions) prods' (new_production src c T ws ready p there kept) rule_row ≡ a' → (m : ℕ) → Holds src syms' d' (cell (width productions) prods' (new_production src c T ws ready p there kept) symbols_from) (cell (width productions) prods' (new_production src c T ws ready p there kept) symbols_to) m b' → NamedBy Names src c T ws stays d a' b'
  unfolding prods' syms' production_stays
  back_of stays d d' kinds f p there kept {a'} {b'} of m h =
      let j = new_production src c T ws ready p there kept in
      let o = offset (rows src c T ws ready) j in
      let from = cell (width productions) T.t8 p symbols_from in
      let u = new_from src c T ws ready p there kept in
      let v = new_to src c T ws ready p there kept in
      let a = h.from in
      let b = h.to in
      let k = m - o in
      let e : o + k ≡ m = omega arith in
      let row : (q : ℕ) → q < known_row → cell (width symbols) syms' m q ≡ cell (width symbols) T.t9 (from + k) q = λ q l. ap (λ (z : ℕ). cell (width symbols) syms' z q) (sym e) ∙ new_symbol_cell src c T ws ready p there kept k (omega arith) q l in
      let z = rw (row kind_name (omega arith), row (kind_name + 1) (omega arith)) at h.row in
      let w = f (cell (width symbols) T.t9 (from + k) kind_name) (cell (width symbols) T.t9 (from + k) (kind_name + 1)) b' z in
      record {
        by = cell (width productions) T.t8 p rule_row;
        by_kept = kept;
        by_same = sym (new_rule_lem src c T ws ready p there kept) ∙ of;
        row = w.row;
        row_kept = w.kept;
        row_same = w.same;
        names = record { prod = p; there = there; of = refl; sym = from + k; holds = record { from = omega arith; to = omega arith; kind = sym (row 0 (omega arith)) ∙ (h.kind ∙ kinds); row = w.calls } };
      }

  -- What a rule names afterwards, its old row named.
  pub names_back : (stays : ℕ → Bool) (d d' : Named) → d'.sort.kind ≡ d.sort.kind → ((x y j : ℕ) → Calls src d' x y j → Was src stays d x y j) → {a' b' : ℕ} → Names (net_left src c T ws ready) d' a' b' → NamedBy Names src c T ws stays d a' b'
  unfolding prods' syms' rows new_production
  names_back stays d d' kinds f {a'} {b'} n =
      go (rank_from (production_stays ws T.t8) (count_at c productions) n.prod (let l = n.there in omega (arith, kept_length (production_stays ws T.t8) (width productions) T.t8 (count_at c productions))))
    where
      go : From (production_stays ws T.t8) (count_at c productions) n.prod → NamedBy Names src c T ws stays d a' b'
      go x =
          back_of stays d d' kinds f x.row x.there x.kept (ap (λ (k : ℕ). cell (width productions) prods' k rule_row) x.same ∙ n.of) n.sym
          (told (λ (k : ℕ). Holds src syms' d' (cell (width productions) prods' k symbols_from) (cell (width productions) prods' k symbols_to) n.sym b') (sym x.same) n.holds)

  -- The same of a `%prec`.
  prec_of_lem : (stays : ℕ → Bool) (d d' : Named) → ((x y j : ℕ) → Calls src d' x y j → Was src stays d x y j) → (p : ℕ) (there : p < count_at c productions) (kept : production_stays ws T.t8 p ≡ true) {a' b' : ℕ} → cell (width productions) prods' (new_production src c T ws ready p there kept) rule_row ≡ a' → HoldsPrec src prods' d' (new_production src c T ws ready p there kept) b' → NamedBy NamesPrec src c T ws stays d a' b'
  unfolding prods' production_stays
  prec_of_lem stays d d' f p there kept {a'} {b'} of h =
      let j = new_production src c T ws ready p there kept in
      let same : (k : ℕ) → k < 3 → cell (width productions) prods' j (prec + k) ≡ cell (width productions) T.t8 p (prec + k) = λ k l. new_other src c T ws ready p there kept (prec + k) (omega arith) (λ q. omega arith) (λ q. omega arith) (λ q. omega arith) in
      let z = rw (same 1 (omega arith), same 2 (omega arith)) at h.row in
      let w = f (cell (width productions) T.t8 p (prec + 1)) (cell (width productions) T.t8 p (prec + 2)) b' z in
      record {
        by = cell (width productions) T.t8 p rule_row;
        by_kept = kept;
        by_same = sym (new_rule_lem src c T ws ready p there kept) ∙ of;
        row = w.row;
        row_kept = w.kept;
        row_same = w.same;
        names = record { prod = p; there = there; of = refl; holds = record { given = sym (same 0 (omega arith)) ∙ h.given; row = w.calls } };
      }

  pub precs_back : (stays : ℕ → Bool) (d d' : Named) → ((x y j : ℕ) → Calls src d' x y j → Was src stays d x y j) → {a' b' : ℕ} → NamesPrec (net_left src c T ws ready) d' a' b' → NamedBy NamesPrec src c T ws stays d a' b'
  unfolding prods' rows new_production
  precs_back stays d d' f {a'} {b'} n =
      go (rank_from (production_stays ws T.t8) (count_at c productions) n.prod (let l = n.there in omega (arith, kept_length (production_stays ws T.t8) (width productions) T.t8 (count_at c productions))))
    where
      go : From (production_stays ws T.t8) (count_at c productions) n.prod → NamedBy NamesPrec src c T ws stays d a' b'
      go x =
          prec_of_lem stays d d' f x.row x.there x.kept (ap (λ (k : ℕ). cell (width productions) prods' k rule_row) x.same ∙ n.of)
          (told (λ (k : ℕ). HoldsPrec src prods' d' k b') (sym x.same) n.holds)
