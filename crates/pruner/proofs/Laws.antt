-- Small laws of pruning's functions: whether a row stays, and what its new number is. Assumes nothing.
use Rattle.std.specs.Prelude.{Option, Some, None}
use Prim.Native.Nat.{ℕ, suc, ◌+◌, ◌*◌, ◌<◌}
use mathlib.Core.Path.{◌≡◌, refl, sym, ap, ◌∙◌}
use mathlib.Core.List.{List, []}
use mathlib.Core.Bool.{Bool, true, false}
use native.Mathlib.Omega.{arith}
use native.Mathlib.Decide.{dec_lt}
use native.Mathlib.Nat.{zero-add}
use lib.ListN.{length, get_or, set, length-replicate}
use lib.Dec.{eqb}
use lib.Seq.{get_or-drop, get_or-set_same, get_or-set_other}
use borrow.Author.Tests.{eq-eqb, ne_eqb}
use Rattle.bits.specs.Bits.{bit}
use Rattle.tables.specs.Table.{cell, find_name, zeroed}
use Rattle.tables.specs.Layout.{tokens, productions, rule_row, width}
use Rattle.grammar.specs.declared.Counts.{Counts}
use Rattle.sound.specs.Test.{count_at}
use Rattle.reach.specs.Reach.{token_sort}
use Rattle.closing.specs.Close.{rank, Shut}
use Rattle.closing.proofs.Laws.{rank_yes, rank_no}
use Rattle.pruning.specs.Pruned.{found_stays, name_stays, row_stays, production_stays}
use Rattle.pruner.specs.Moving.{Ranked, number_in}

-- ---- whether a name, a row, a production stays

module _ (src : List ℕ) (c : Counts) (t1 ws : List ℕ) (a b n : ℕ) (m : n ≡ count_at c tokens) (f : Option ℕ) (e : f ≡ find_name src (width tokens) 0 n t1 a b) where
  found_is : f ≡ find_name src (width tokens) 0 (count_at c tokens) t1 a b
  found_is = e ∙ ap (λ (k : ℕ). find_name src (width tokens) 0 k t1 a b) m

  pub name_found : (base : ℕ) → base ≡ (token_sort c).base → (t : ℕ) → f ≡ Some t → (q : Bool) → q ≡ eqb (bit ws (base + t)) 1 → q ≡ name_stays src c t1 ws a b
  unfolding name_stays
  name_found base d t h q k = k ∙ (ap (λ (y : ℕ). eqb (bit ws (y + t)) 1) d ∙ ap (λ (y : Option ℕ). found_stays y c ws) (sym h ∙ found_is))

  pub name_unfound : f ≡ None → true ≡ name_stays src c t1 ws a b
  unfolding name_stays
  name_unfound h = ap (λ (y : Option ℕ). found_stays y c ws) (sym h ∙ found_is)

-- rows that are not read yet are as they were
pub shut_cell : {stays : ℕ → Bool} (w : ℕ) (t₀ : List ℕ) (r m : ℕ) (t : List ℕ) → Shut stays w t₀ r m t → (k : ℕ) → cell w t r k ≡ cell w t₀ r k
shut_cell w t₀ r m t x k = sym (get_or-drop (r * w) t k 0) ∙ (ap (λ (l : List ℕ). get_or l k 0) x.rest ∙ get_or-drop (r * w) t₀ k 0)

pub row_stays_lem : (src : List ℕ) (c : Counts) (t1 ws : List ℕ) (w k : ℕ) (t₀ : List ℕ) {stays : ℕ → Bool} (r m : ℕ) (t : List ℕ) → Shut stays w t₀ r m t → (a b : ℕ) → a ≡ cell w t r k → b ≡ cell w t r (k + 1) → (q : Bool) → q ≡ name_stays src c t1 ws a b → q ≡ row_stays src c t1 ws w k t₀ r
unfolding row_stays
row_stays_lem src c t1 ws w k t₀ r m t x a b e f q h =
    let d : a ≡ cell w t₀ r k = e ∙ shut_cell w t₀ r m t x k in
    let g : b ≡ cell w t₀ r (k + 1) = f ∙ shut_cell w t₀ r m t x (k + 1) in
    h ∙ (ap (λ (y : ℕ). name_stays src c t1 ws y b) d ∙ ap (λ (y : ℕ). name_stays src c t1 ws (cell w t₀ r k) y) g)

pub rule_stays_lem : (ws t8 : List ℕ) (p x : ℕ) (q : Bool) → x ≡ cell (width productions) t8 p rule_row → q ≡ eqb (bit ws x) 1 → q ≡ production_stays ws t8 p
unfolding production_stays
rule_stays_lem ws t8 p x q e h = h ∙ ap (λ (y : ℕ). eqb (bit ws y) 1) (e ∙ sym (zero-add (cell (width productions) t8 p rule_row)))

-- ---- new numbers

module _ (stays : ℕ → Bool) (r m : ℕ) (h : m ≡ rank stays r) (q : Bool) (e : q ≡ stays r) where
  pub rank_more : q ≡ true → m + 1 ≡ rank stays (r + 1)
  rank_more t = let k = rank_yes stays 0 [] r (sym e ∙ t) in let n : r + 1 ≡ suc r = omega arith in rw n (omega arith)

  pub rank_same : q ≡ false → m ≡ rank stays (r + 1)
  rank_same t = let k = rank_no stays 0 [] r (sym e ∙ t) in let n : r + 1 ≡ suc r = omega arith in rw n (omega arith)

pub ranked_none : (stays : ℕ → Bool) (ix : List ℕ) → Ranked stays 0 ix
ranked_none stays ix = record { each = λ r h. absurd (omega arith) }

pub ranked_more : (stays : ℕ → Bool) (r m : ℕ) (ix : List ℕ) → r < length ix → m ≡ rank stays r → Ranked stays r ix → Ranked stays (r + 1) (set ix r m)
ranked_more stays r m ix l e x = record { each = λ q h. go q h (dec_lt q r) }
  where
    go : (q : ℕ) → q < r + 1 → Dec (q < r) → get_or (set ix r m) q 0 ≡ rank stays q
    go q h (yes k) = get_or-set_other ix r q m 0 (λ z. omega arith) ∙ x.each q k
    go q h (no k) = let z : q ≡ r = omega arith in rw z (get_or-set_same ix r m 0 l ∙ e)

module _ (i1 i7 : List ℕ) (kind r q : ℕ) where
  pub number_rule : kind ≡ 1 → q ≡ get_or i7 r 0 → q ≡ number_in i1 i7 kind r
  unfolding number_in
  number_rule e h = rw (number_in, eq-eqb kind 1 e) h

  pub number_token : (kind ≡ 1 → ⊥) → q ≡ get_or i1 r 0 → q ≡ number_in i1 i7 kind r
  unfolding number_in
  number_token e h = rw (number_in, ne_eqb kind 1 e) h

pub rank_none : (stays : ℕ → Bool) → 0 ≡ rank stays 0
unfolding rank
rank_none stays = refl

-- ---- an index anew

pub zeros_size : (ix u : List ℕ) → u ≡ zeroed ix → length u ≡ length ix
zeros_size ix u e = ap length e ∙ length-replicate (length ix) 0
