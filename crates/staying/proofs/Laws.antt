-- The rows that declarations excuse, one declaration after the other, and what the bits are in the end. Assumes nothing.
use Prim.Native.Nat.{ℕ, ◌+◌, ◌<◌, ◌≤◌, ◌^◌}
use mathlib.Core.Path.{◌≡◌, sym, ◌∙◌}
use mathlib.Core.List.{List}
use mathlib.Core.Bool.{true}
use mathlib.Core.Logic.{◌⊎◌, inl, inr, ⊎_elim}
use native.Mathlib.Omega.{arith}
use native.Mathlib.Decide.{dec_lt}
use lib.ListN.{length, get_or, replicate}
use Rattle.bits.specs.Bits.{bit}
use Rattle.bits.proofs.Bits.{bit_zeros}
use Rattle.tables.specs.Table.{cell, has_name}
use Rattle.tables.specs.Layout.{tokens, implicit, unused, rules, kind_name, width}
use Rattle.tables.proofs.Cases.{same_part_sym}
use Rattle.grammar.specs.declared.Counts.{Counts}
use Rattle.sound.specs.Test.{count_at}
use Rattle.reach.specs.Reach.{words_for, rule_sort, token_sort, Named, Grammar, Begins, symbol, precedence, Adds, Fits, Called, Spread, TokenOf}
use Rattle.reach.proofs.Laws.{added_none, adds_same}
use Rattle.reach.proofs.Chains.{begins_in, chain_in}
use Rattle.usage.specs.Report.{Excuses, Expected, Implicit, Excused, expected, implied}
use Rattle.pruning.specs.Stays.{Root, start_rule, excused_rule, StaysRule, StaysToken, used_token, excused_token, Staying, rule, token, StayWork}
use Rattle.staying.specs.Marks.{RowBit, EntryBit}

-- ---- what steps add

pub adds_none : {Q : ℕ → Type 0} (ws : List ℕ) → ((k : ℕ) → Q k → ⊥) → Adds Q ws ws
adds_none ws never = (added_none ws (λ k q. absurd (never k q))).adds

-- two steps, whose rows are those of which P or Q holds
pub rows_then : {P Q : ℕ → ℕ → Type 0} (R : ℕ → ℕ → Type 0) (d : Named) (ws vs us : List ℕ) → ((a b : ℕ) → P a b → R a b) → ((a b : ℕ) → Q a b → R a b) → ((a b : ℕ) → R a b → P a b ⊎ Q a b)
    → Adds (RowBit d P) ws vs → Adds (RowBit d Q) vs us → Adds (RowBit d R) ws us
rows_then {P} {Q} R d ws vs us p q r x y = record {
  size = y.size ∙ x.size;
  kept = λ k e. y.kept k (x.kept k e);
  only = λ k e. ⊎_elim (λ v. ⊎_elim (λ u. inl u) (λ z. inr (row k z.row z.inside z.bit_is (p _ _ z.holds))) (x.only k v)) (λ z. inr (row k z.row z.inside z.bit_is (q _ _ z.holds))) (y.only k e);
  all = λ k z. ⊎_elim (λ h. y.kept k (x.all k (row k z.row z.inside z.bit_is h))) (λ h. y.all k (row k z.row z.inside z.bit_is h)) (r _ _ z.holds);
}
  where
    row : {S : ℕ → ℕ → Type 0} (k i : ℕ) → i < d.sort.count → k ≡ d.sort.base + i → S (cell d.sort.wide d.cells i 0) (cell d.sort.wide d.cells i 1) → RowBit d S k
    row k i h e s = record { row = i; inside = h; holds = s; bit_is = e }

-- ---- one declaration: the row that has its name is the row whose name it has

module _ (src : List ℕ) (d : Named) (w at : ℕ) (t : List ℕ) (e : ℕ) where
  turned : (r : ℕ) → has_name src d.sort.wide 0 d.cells (cell w t e at) (cell w t e (at + 1)) r ≡ has_name src w at t (cell d.sort.wide d.cells r 0) (cell d.sort.wide d.cells r 1) e
  unfolding has_name
  turned r = same_part_sym src _ _ _ _

  pub name_rows : {P : ℕ → ℕ → Type 0} (a b : ℕ) (ws vs : List ℕ) → a ≡ cell w t e at → b ≡ cell w t e (at + 1) → ((x y : ℕ) → has_name src w at t x y e ≡ true → P x y) → ((x y : ℕ) → P x y → has_name src w at t x y e ≡ true)
      → Adds (Called src d a b) ws vs → Adds (RowBit d P) ws vs
  name_rows {P} a b ws vs f g to from m = rows (rw (← f, ← g) m)
    where
      rows : Adds (Called src d (cell w t e at) (cell w t e (at + 1))) ws vs → Adds (RowBit d P) ws vs
      rows n =
          adds_same
          (λ k z. record { row = z.row; inside = z.calls.inside; holds = to _ _ (sym (turned z.row) ∙ z.calls.same); bit_is = z.bit_is })
          (λ k z. record { row = z.row; calls = record { inside = z.inside; same = turned z.row ∙ from _ _ z.holds }; bit_is = z.bit_is })
          n

-- ---- table 6

module _ (src : List ℕ) (d : Named) (t : List ℕ) where
  pub entry_other : (e x : ℕ) (ws : List ℕ) → x ≡ cell (width unused) t e 0 → (x ≡ d.sort.kind → ⊥) → Adds (EntryBit src d t e) ws ws
  entry_other e x ws f ne = adds_none ws (λ k q. ne (f ∙ q.holds.kind))

  pub entry_named : (e x a b : ℕ) (ws vs : List ℕ) → x ≡ cell (width unused) t e 0 → x ≡ d.sort.kind → a ≡ cell (width unused) t e kind_name → b ≡ cell (width unused) t e (kind_name + 1)
      → Adds (Called src d a b) ws vs → Adds (EntryBit src d t e) ws vs
  entry_named e x a b ws vs f h u v m =
      name_rows src d (width unused) kind_name t e a b ws vs u v (λ i j s. record { kind = sym f ∙ h; same = s }) (λ i j s. s.same) m

  pub expected_none : (ws : List ℕ) → Adds (RowBit d (Expected src t 0 d.sort.kind)) ws ws
  expected_none ws = adds_none ws (λ k q. omega (arith, q.holds.there))

  pub expected_more : (e : ℕ) (ws vs us : List ℕ) → Adds (RowBit d (Expected src t e d.sort.kind)) ws vs → Adds (EntryBit src d t e) vs us → Adds (RowBit d (Expected src t (e + 1) d.sort.kind)) ws us
  expected_more e ws vs us x y =
      rows_then (Expected src t (e + 1) d.sort.kind) d ws vs us
      (λ a b q. record { entry = q.entry; there = omega (arith, q.there); expects = q.expects })
      (λ a b q. record { entry = e; there = omega arith; expects = q })
      (λ a b q.
      elim (dec_lt q.entry e) [
        | yes l ↦ inl (record { entry = q.entry; there = l; expects = q.expects })
        | no l ↦ let i : q.entry ≡ e = omega (arith, q.there) in inr (rw (← i) q.expects)
      ])
      x
      y

-- ---- table 4

module _ (src : List ℕ) (d : Named) (t : List ℕ) where
  pub implicit_other : (n : ℕ) (ws : List ℕ) → (d.sort.kind ≡ 2 → ⊥) → Adds (RowBit d (Implicit src t n d.sort.kind)) ws ws
  implicit_other n ws ne = adds_none ws (λ k q. ne q.holds.token)

  pub implicit_none : (ws : List ℕ) → Adds (RowBit d (Implicit src t 0 d.sort.kind)) ws ws
  implicit_none ws = adds_none ws (λ k q. omega (arith, q.holds.there))

  pub implicit_more : (e a b : ℕ) (ws vs us : List ℕ) → d.sort.kind ≡ 2 → a ≡ cell (width implicit) t e 0 → b ≡ cell (width implicit) t e 1
      → Adds (RowBit d (Implicit src t e d.sort.kind)) ws vs → Adds (Called src d a b) vs us → Adds (RowBit d (Implicit src t (e + 1) d.sort.kind)) ws us
  implicit_more e a b ws vs us two u v x m =
      rows_then (Implicit src t (e + 1) d.sort.kind) d ws vs us
      (λ i j z. record { token = z.token; entry = z.entry; there = omega (arith, z.there); same = z.same })
      (λ i j z. record { token = two; entry = e; there = omega arith; same = z })
      (λ i j z.
      elim (dec_lt z.entry e) [
        | yes l ↦ inl (record { token = z.token; entry = z.entry; there = l; same = z.same })
        | no l ↦ let n : z.entry ≡ e = omega (arith, z.there) in inr (rw (← n) z.same)
      ])
      x
      (name_rows src d (width implicit) 0 t e a b vs us u v (λ i j s. s) (λ i j s. s) m)

-- ---- both tables

pub excused_both : (x : Excuses) (d : Named) (ws vs us : List ℕ) → Adds (RowBit d (Expected x.src x.expecteds x.expected_count d.sort.kind)) ws vs
    → Adds (RowBit d (Implicit x.src x.implicits x.implicit_count d.sort.kind)) vs us → Adds (RowBit d (Excused x d.sort.kind)) ws us
excused_both x d ws vs us p q = rows_then (Excused x d.sort.kind) d ws vs us (λ a b z. expected z) (λ a b z. implied z) parts p q
  where
    parts : (a b : ℕ) → Excused x d.sort.kind a b → Expected x.src x.expecteds x.expected_count d.sort.kind a b ⊎ Implicit x.src x.implicits x.implicit_count d.sort.kind a b
    parts a b (expected z) = inl z
    parts a b (implied z) = inr z

-- nothing is declared
pub excused_none : (x : Excuses) (d : Named) (ws : List ℕ) → x.expected_count ≡ 0 → x.implicit_count ≡ 0 → Adds (RowBit d (Excused x d.sort.kind)) ws ws
excused_none x d ws m n = adds_none ws (λ k q. never _ _ q.holds)
  where
    never : (a b : ℕ) → Excused x d.sort.kind a b → ⊥
    never a b (expected z) = omega (arith, z.there)
    never a b (implied z) = omega (arith, z.there)

-- ---- where there are words enough, the bits of both sorts lie in them

module _ (c : Counts) (ws : List ℕ) (enough : words_for (count_at c rules) + words_for (count_at c tokens) ≤ length ws) where
  pub fits_rules : Fits (rule_sort c) ws
  fits_rules = record { low = omega arith; inside = omega (arith, enough) }

  pub fits_tokens : count_at c rules < 2 ^ 32 → Fits (token_sort c) ws
  fits_tokens low = record { low = omega (arith, low); inside = omega (arith, enough) }

-- ---- zeros, then the start rule's bit and those of excused rules, then along every chain, then the tokens, then excused tokens

module _ (g : Grammar) (x : Excuses) (n : ℕ) (w1 w2 w3 w4 w5 : List ℕ) (first : g.rules.sort.base ≡ 0)
    (b : Adds (Begins g.net.src g.rules g.start) (replicate n 0) w1) (e : Adds (RowBit g.rules (Excused x g.rules.sort.kind)) w1 w2)
    (s : Spread g.net g.rules w2 w3) (t : Adds (TokenOf g.net g.tokens w3) w3 w4) (f : Adds (RowBit g.tokens (Excused x g.tokens.sort.kind)) w4 w5) where
  root_of : (k : ℕ) → bit w2 k ≡ 1 → Root g x k
  root_of k o =
      ⊎_elim
      (λ u. ⊎_elim (λ z. absurd (omega (arith, bit_zeros n k))) (λ y. start_rule y) (b.only k u))
      (λ q. let i : q.row ≡ k = omega (arith, q.bit_is, first) in rw (← i) (excused_rule q.inside q.holds))
      (e.only k o)

  root_on : (k : ℕ) → Root g x k → bit w2 k ≡ 1
  root_on k (start_rule y) = e.kept k (b.all k y)
  root_on k (excused_rule h y) = e.all k (record { row = k; inside = h; holds = y; bit_is = omega (arith, first) })

  root_in : (k : ℕ) → Root g x k → k < g.rules.sort.count
  root_in k (start_rule y) = begins_in g.net.src g.rules g.start k y
  root_in k (excused_rule h y) = h

  reached : (k : ℕ) → bit w3 k ≡ 1 → StaysRule g x k
  reached k o = let z = s.only k o in record { root = z.root; begins = root_of z.root z.marked; chain = z.chain }

  stays_on : (k : ℕ) → StaysRule g x k → bit w3 k ≡ 1
  stays_on k u = s.all k (record { root = u.root; marked = root_on u.root u.begins; chain = u.chain })

  token_on : (k i : ℕ) → k ≡ g.tokens.sort.base + i → StaysToken g x i → bit w5 k ≡ 1
  token_on k i h (used_token a u (symbol y)) = f.kept k (t.all k (record { by = a; tok = i; marked = stays_on a u; names = inl y; bit_is = h }))
  token_on k i h (used_token a u (precedence y)) = f.kept k (t.all k (record { by = a; tok = i; marked = stays_on a u; names = inr y; bit_is = h }))
  token_on k i h (excused_token l y) = f.all k (record { row = i; inside = l; holds = y; bit_is = h })

  stay_all : (k : ℕ) → Staying g x k → bit w5 k ≡ 1
  stay_all k (rule h u) = f.kept k (t.kept k (stays_on k u))
  stay_all k (token i l h m) = token_on k i h m

  used_token_lem : (k : ℕ) → TokenOf g.net g.tokens w3 k → Staying g x k
  used_token_lem k m =
      let u = reached m.by m.marked in
      ⊎_elim
      (λ y. token m.tok y.holds.row.inside m.bit_is (used_token m.by u (symbol y)))
      (λ y. token m.tok y.holds.row.inside m.bit_is (used_token m.by u (precedence y)))
      m.names

  stay_only : (k : ℕ) → bit w5 k ≡ 1 → Staying g x k
  stay_only k o =
      ⊎_elim
      (λ v. ⊎_elim (λ u. let z = reached k u in rule (chain_in (root_in z.root z.begins) z.chain) z) (used_token_lem k) (t.only k v))
      (λ q. token q.row q.inside q.bit_is (excused_token q.inside q.holds))
      (f.only k o)

  pub stays : ((i : ℕ) → get_or w5 i 0 < 2 ^ 32) → StayWork g x w5
  stays words = record { words = words; only = stay_only; all = stay_all }
