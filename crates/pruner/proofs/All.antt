-- The tables together: what the parts leave is what pruning gives. Assumes nothing.
use Prim.Native.Nat.{ℕ, ◌≤◌, ◌<◌}
use mathlib.Core.Path.{◌≡◌, refl, sym, ap, ◌∙◌}
use mathlib.Core.List.{List}
use mathlib.Core.Bool.{Bool, true, false}
use lib.ListN.{length}
use lib.Dec.{eqb}
use borrow.Author.Tests.{eqb-true, eqb-false}
use Rattle.tables.specs.Table.{cell}
use Rattle.tables.specs.Layout.{tokens, avoided, epps, rules, productions, symbols, key_name, known_row, width}
use Rattle.index.specs.Index.{entries}
use Rattle.grammar.specs.declared.Counts.{Counts}
use Rattle.sound.specs.Test.{count_at}
use Rattle.reach.specs.Reach.{token_sort}
use Rattle.closing.specs.Close.{Step, rank, table_of, by_bit, closed, close_up}
use Rattle.pruning.specs.Pruned.{row_stays, rule_stays, token_stays, new_number, chained, productions_left, symbols_left, counts_left, pruned}
use Rattle.pruning.proofs.Rows.{number_rule as new_rule_lem, number_token as new-token}
use Rattle.pruner.specs.Moving.{Ranked, number_in}
use Rattle.pruner.specs.Asked.{Mentions, mentions_left, Movable, Linked, Changing, Links, links_left, Leaves}
use Rattle.pruner.proofs.Laws.{number_rule, number_token}

-- of n rows, n being the count
pub closed_count : (stays : ℕ → Bool) (w n k : ℕ) (t : List ℕ) (s : Step) → n ≡ k → s ≡ closed stays w n t → (s.count ≡ (closed stays w k t).count) × (s.cells ≡ (closed stays w k t).cells)
closed_count stays w n k t s e p = let q : s ≡ closed stays w k t = p ∙ ap (λ (m : ℕ). closed stays w m t) e in (ap (λ (x : Step). x.count) q, ap (λ (x : Step). x.cells) q)

-- ---- tables 8 and 9

-- with the ranks in their slots the symbols' new numbers are read there
module _ (c : Counts) (ws t8 t9 i1 i7 : List ℕ) (x : Linked c t8 t9 i1 i7) where
  pub ranks_read : (j1 j7 : List ℕ) → Ranked (token_stays c ws) (count_at c tokens) j1 → Ranked (rule_stays ws) (count_at c rules) j7 → Movable c ws j1 j7 t8 t9
  ranks_read j1 j7 a b = record { fits = x.symbols_fit; ranges = x.ranges; read = λ p s h l k. go p s h l k (eqb (cell (width symbols) t9 s 0) 1) refl }
    where
      go : (p s : ℕ) → p < count_at c productions → cell (width productions) t8 p 3 ≤ s → s < cell (width productions) t8 p 4 → (q : Bool) → eqb (cell (width symbols) t9 s 0) 1 ≡ q → number_in j1 j7 (cell (width symbols) t9 s 0) (cell (width symbols) t9 s known_row) ≡ new_number c ws (cell (width symbols) t9 s 0) (cell (width symbols) t9 s known_row)
      go p s h l k true e =
          let y = eqb-true (cell (width symbols) t9 s 0) 1 e in
          sym (number_rule j1 j7 (cell (width symbols) t9 s 0) (cell (width symbols) t9 s known_row) _ y refl) ∙ (b.each (cell (width symbols) t9 s known_row) (x.rule p s h l k y) ∙ sym (new_rule_lem c ws (cell (width symbols) t9 s 0) (cell (width symbols) t9 s known_row) y))
      go p s h l k false e =
          let y = eqb-false (cell (width symbols) t9 s 0) 1 e in
          sym (number_token j1 j7 (cell (width symbols) t9 s 0) (cell (width symbols) t9 s known_row) _ y refl) ∙ (a.each (cell (width symbols) t9 s known_row) (x.token p s h l k y) ∙ sym (new-token c ws (cell (width symbols) t9 s 0) (cell (width symbols) t9 s known_row) y))

pub ranked_tokens : (c : Counts) (ws j : List ℕ) (base n : ℕ) → base ≡ (token_sort c).base → n ≡ count_at c tokens → Ranked (by_bit ws base) n j → Ranked (token_stays c ws) (count_at c tokens) j
ranked_tokens c ws j base n e f x = record { each = λ r h. x.each r (rw f h) ∙ ap (λ (b : ℕ). rank (by_bit ws b) r) e }

pub ranked_rules : (c : Counts) (ws j : List ℕ) (n : ℕ) → n ≡ count_at c rules → Ranked (by_bit ws 0) n j → Ranked (rule_stays ws) (count_at c rules) j
ranked_rules c ws j n f x = record { each = λ r h. x.each r (rw f h) }

pub links_by : (c : Counts) (ws t8 t9 u8 u9 : List ℕ) (f g : ℕ) → ◌≡◌ {A = Step} (record { count = g; cells = u9 }) (record { count = length (symbols_left c t8 t9 ws); cells = table_of (length t9) (symbols_left c t8 t9 ws) }) → ◌≡◌ {A = Step} (record { count = f; cells = u8 }) (record { count = length (productions_left c t8 ws); cells = table_of (length t8) (chained ws 0 (productions_left c t8 ws)) }) → ◌≡◌ {A = Links} (record { productions = f; symbols = g; t8 = u8; t9 = u9 }) (links_left c t8 t9 ws)
links_by c ws t8 t9 u8 u9 f g p q =
    let a : g ≡ length (symbols_left c t8 t9 ws) = ap (λ (s : Step). s.count) p in
    let b : u9 ≡ table_of (length t9) (symbols_left c t8 t9 ws) = ap (λ (s : Step). s.cells) p in
    let d : f ≡ length (productions_left c t8 ws) = ap (λ (s : Step). s.count) q in
    let e : u8 ≡ table_of (length t8) (chained ws 0 (productions_left c t8 ws)) = ap (λ (s : Step). s.cells) q in
    rw (a, b, d, e)

-- ---- tables 3 and 5

module _ (src : List ℕ) (c : Counts) (t1 t3 t5 ws u3 u5 : List ℕ) (b d m n : ℕ) where
  pub mentions_by : m ≡ count_at c avoided → ◌≡◌ {A = Step} (record { count = b; cells = u3 }) (closed (row_stays src c t1 ws (width avoided) 0 t3) (width avoided) m t3) → n ≡ count_at c epps → ◌≡◌ {A = Step} (record { count = d; cells = u5 }) (closed (row_stays src c t1 ws (width epps) key_name t5) (width epps) n t5) → ◌≡◌ {A = Mentions} (record { avoided = b; epps = d; t3 = u3; t5 = u5 }) (mentions_left src c t1 t3 t5 ws)
  mentions_by e p f q =
      let x = closed_count (row_stays src c t1 ws (width avoided) 0 t3) (width avoided) m (count_at c avoided) t3 (record { count = b; cells = u3 }) e p in
      let y = closed_count (row_stays src c t1 ws (width epps) key_name t5) (width epps) n (count_at c epps) t5 (record { count = d; cells = u5 }) f q in
      rw (x.0, x.1, y.0, y.1)

-- ---- all of them

module _ (src : List ℕ) (c : Counts) (ws : List ℕ) (x y : Changing) (a b d e f g : ℕ) where
  pub all_closed :
      (s1 : (a ≡ (closed (token_stays c ws) (width tokens) (count_at c tokens) x.t1).count) × (y.t1 ≡ (closed (token_stays c ws) (width tokens) (count_at c tokens) x.t1).cells))
      → ◌≡◌ {A = Mentions} (record { avoided = b; epps = d; t3 = y.t3; t5 = y.t5 }) (mentions_left src c x.t1 x.t3 x.t5 ws)
      → (s7 : (e ≡ (closed (rule_stays ws) (width rules) (count_at c rules) x.t7).count) × (y.t7 ≡ (closed (rule_stays ws) (width rules) (count_at c rules) x.t7).cells))
      → ◌≡◌ {A = Links} (record { productions = f; symbols = g; t8 = y.t8; t9 = y.t9 }) (links_left c x.t8 x.t9 ws)
      → y.i1 ≡ entries src (width tokens) 0 y.t1 (length x.i1) a
      → y.i7 ≡ entries src (width rules) 0 y.t7 (length x.i7) e
      → (k : Counts) → k ≡ counts_left c a b d e f g → Leaves src c x ws k y
  unfolding pruned
  all_closed s1 m s7 l j1 j7 k q t2 t4 t6 t10 =
      let m1 : b ≡ (mentions_left src c x.t1 x.t3 x.t5 ws).avoided = ap (λ (z : Mentions). z.avoided) m in
      let m2 : d ≡ (mentions_left src c x.t1 x.t3 x.t5 ws).epps = ap (λ (z : Mentions). z.epps) m in
      let m3 : y.t3 ≡ (mentions_left src c x.t1 x.t3 x.t5 ws).t3 = ap (λ (z : Mentions). z.t3) m in
      let m4 : y.t5 ≡ (mentions_left src c x.t1 x.t3 x.t5 ws).t5 = ap (λ (z : Mentions). z.t5) m in
      let l1 : f ≡ length (productions_left c x.t8 ws) = ap (λ (z : Links). z.productions) l in
      let l2 : g ≡ length (symbols_left c x.t8 x.t9 ws) = ap (λ (z : Links). z.symbols) l in
      let l3 : y.t8 ≡ table_of (length x.t8) (chained ws 0 (productions_left c x.t8 ws)) = ap (λ (z : Links). z.t8) l in
      let l4 : y.t9 ≡ table_of (length x.t9) (symbols_left c x.t8 x.t9 ws) = ap (λ (z : Links). z.t9) l in
      rw (q, j1, j7, s1.0, s1.1, m1, m2, m3, m4, s7.0, s7.1, l1, l2, l3, l4)

pub closed_base : (c : Counts) (ws : List ℕ) (base w n : ℕ) (t : List ℕ) (s : Step) → base ≡ (token_sort c).base → s ≡ close_up ws base w n t → s ≡ closed (token_stays c ws) w n t
closed_base c ws base w n t s e p = p ∙ ap (λ (b : ℕ). closed (by_bit ws b) w n t) e

-- an index has as many slots as before
pub same_slots : (src : List ℕ) (w : ℕ) (t z ix u : List ℕ) (n : ℕ) → u ≡ entries src w 0 t (length z) n → length z ≡ length ix → u ≡ entries src w 0 t (length ix) n
same_slots src w t z ix u n p e = rw e at p
