-- The pass that marks tokens, what the bits are in the end, and that nothing else could be. Assumes nothing.
use Prim.Native.Nat.{ℕ, ◌+◌, ◌<◌, ◌≤◌, ◌^◌}
use mathlib.Core.Path.{◌≡◌, refl, sym, ◌∙◌}
use mathlib.Core.List.{List}
use mathlib.Core.Bool.{Bool}
use mathlib.Core.Logic.{◌⊎◌, inl, inr, ⊎_elim}
use native.Mathlib.Omega.{arith}
use native.Mathlib.Decide.{dec_lt}
use lib.ListN.{length, get_or, replicate}
use Rattle.bits.specs.Bits.{bit}
use Rattle.bits.proofs.Bits.{bit_zeros, bits_ext, bit_cases}
use Rattle.tables.specs.Table.{cell}
use Rattle.tables.specs.Layout.{productions, rule_row, width}
use Rattle.reach.specs.Reach.{Net, Named, Grammar, Names, NamesPrec, From, Begins, UsedRule, Uses, symbol, precedence, Owned, Adds, Added, Held, HeldPrec, Spread, TokenOf, Marked, rule, token, Work}
use Rattle.reach.proofs.Chains.{used_in}

-- the pass over the productions below p
pub record TokensTo (g : Net) (d : Named) (p : ℕ) (ws vs : List ℕ) : Type 0 where
  pub size : length vs ≡ length ws
  pub kept : (k : ℕ) → bit ws k ≡ 1 → bit vs k ≡ 1
  pub only : (k : ℕ) → bit vs k ≡ 1 → (bit ws k ≡ 1) ⊎ TokenOf g d ws k
  pub all : (q : ℕ) → q < p → (k : ℕ) → Held g d ws q k ⊎ HeldPrec g.src g.prods d ws q k → bit vs k ≡ 1

pub tokens_none : (g : Net) (d : Named) (ws : List ℕ) → TokensTo g d 0 ws ws
tokens_none g d ws = record {
  size = refl;
  kept = λ k e. e;
  only = λ k e. inl e;
  all = λ q h k n. absurd (omega arith);
}

module _ (g : Net) (d : Named) (m : ℕ) (below : m ≤ d.sort.base) (owned : Owned g m) (p : ℕ) (ws vs us ts : List ℕ) (a b : Bool) (h : p < g.count) (x : TokensTo g d p ws vs) (y : Added (Held g d vs p) vs us a) (z : Added (HeldPrec g.src g.prods d us p) us ts b) where
  -- a rule's bit is no token's
  was_marked : bit vs (cell (width productions) g.prods p rule_row) ≡ 1 → bit ws (cell (width productions) g.prods p rule_row) ≡ 1
  was_marked e =
      ⊎_elim
      (λ o. o)
      (λ t. absurd (omega (arith, owned p h, t.bit_is)))
      (x.only (cell (width productions) g.prods p rule_row) e)

  still_marked : bit us (cell (width productions) g.prods p rule_row) ≡ 1 → bit ws (cell (width productions) g.prods p rule_row) ≡ 1
  still_marked e =
      ⊎_elim
      was_marked
      (λ t. absurd (omega (arith, owned p h, t.among.bit_is)))
      (y.adds.only (cell (width productions) g.prods p rule_row) e)

  by_symbol : (k : ℕ) → Held g d vs p k → TokenOf g d ws k
  by_symbol k q = record {
    by = cell (width productions) g.prods p rule_row;
    tok = q.among.row;
    marked = was_marked q.marked;
    names = inl (record { prod = p; there = h; of = refl; sym = q.among.sym; holds = q.among.holds });
    bit_is = q.among.bit_is;
  }

  by_prec : (k : ℕ) → HeldPrec g.src g.prods d us p k → TokenOf g d ws k
  by_prec k q = record {
    by = cell (width productions) g.prods p rule_row;
    tok = q.row;
    marked = still_marked q.marked;
    names = inr (record { prod = p; there = h; of = refl; holds = q.holds });
    bit_is = q.bit_is;
  }

  tokens_only : (k : ℕ) → bit ts k ≡ 1 → (bit ws k ≡ 1) ⊎ TokenOf g d ws k
  tokens_only k e =
      ⊎_elim
      (λ u. ⊎_elim (λ o. x.only k o) (λ q. inr (by_symbol k q)) (y.adds.only k u))
      (λ q. inr (by_prec k q))
      (z.adds.only k e)

  of_symbol : (k : ℕ) → Held g d ws p k → bit ts k ≡ 1
  of_symbol k n = z.adds.kept k (y.adds.all k (record { marked = x.kept _ n.marked; among = n.among }))

  of_prec : (k : ℕ) → HeldPrec g.src g.prods d ws p k → bit ts k ≡ 1
  of_prec k n = z.adds.all k (record { marked = y.adds.kept _ (x.kept _ n.marked); row = n.row; holds = n.holds; bit_is = n.bit_is })

  tokens_all : (q : ℕ) → q < p + 1 → (k : ℕ) → Held g d ws q k ⊎ HeldPrec g.src g.prods d ws q k → bit ts k ≡ 1
  tokens_all q l k n =
      elim (dec_lt q p) [
        | yes l' ↦ z.adds.kept k (y.adds.kept k (x.all q l' k n))
        | no l' ↦
            let eq : q ≡ p = omega arith in
            ⊎_elim (of_symbol k) (of_prec k) (rw eq at n)
      ]

  pub tokens_more : TokensTo g d (p + 1) ws ts
  tokens_more = record {
    size = z.adds.size ∙ y.adds.size ∙ x.size;
    kept = λ k e. z.adds.kept k (y.adds.kept k (x.kept k e));
    only = tokens_only;
    all = tokens_all;
  }

pub tokens_done : (g : Net) (d : Named) (p : ℕ) (ws vs : List ℕ) → g.count ≤ p → TokensTo g d p ws vs → Adds (TokenOf g d ws) ws vs
tokens_done g d p ws vs h x = record { size = x.size; kept = x.kept; only = x.only; all = λ k t. ⊎_elim (symbols k t) (precs k t) t.names }
  where
    symbols : (k : ℕ) (t : TokenOf g d ws k) → Names g d t.by t.tok → bit vs k ≡ 1
    symbols k t n = x.all n.prod (omega (arith, n.there)) k (inl (record { marked = rw n.of t.marked; among = record { sym = n.sym; row = t.tok; holds = n.holds; bit_is = t.bit_is } }))

    precs : (k : ℕ) (t : TokenOf g d ws k) → NamesPrec g d t.by t.tok → bit vs k ≡ 1
    precs k t n = x.all n.prod (omega (arith, n.there)) k (inr (record { marked = rw n.of t.marked; row = t.tok; holds = n.holds; bit_is = t.bit_is }))

-- ---- zeros, then the start rule's bit, then along every chain, then the tokens

module _ (g : Grammar) (n : ℕ) (w1 w2 w3 : List ℕ) (b : Adds (Begins g.net.src g.rules g.start) (replicate n 0) w1) (s : Spread g.net g.rules w1 w2) (t : Adds (TokenOf g.net g.tokens w2) w2 w3) where
  reached : (k : ℕ) → From g.net g.rules w1 k → UsedRule g k
  reached k f =
      ⊎_elim
      (λ o. absurd (omega (arith, bit_zeros n f.root)))
      (λ q. record { first = f.root; begins = q; chain = f.chain })
      (b.only f.root f.marked)

  used_on : (k : ℕ) → UsedRule g k → bit w2 k ≡ 1
  used_on k u = s.all k (record { root = u.first; marked = b.all u.first u.begins; chain = u.chain })

  works_all : (k : ℕ) → Marked g k → bit w3 k ≡ 1
  works_all k (rule h u) = t.kept k (used_on k u)
  works_all k (token i h e m) = token_on m.by m.used m.uses
    where
      token_on : (a : ℕ) → UsedRule g a → Uses g a i → bit w3 k ≡ 1
      token_on a u (symbol x) = t.all k (record { by = a; tok = i; marked = used_on a u; names = inl x; bit_is = e })
      token_on a u (precedence x) = t.all k (record { by = a; tok = i; marked = used_on a u; names = inr x; bit_is = e })

  works_only : (k : ℕ) → bit w3 k ≡ 1 → Marked g k
  works_only k e =
      ⊎_elim
      (λ o. let u = reached k (s.only k o) in rule (used_in g k u) u)
      (λ m.
      let u = reached m.by (s.only m.by m.marked) in
      ⊎_elim
      (λ n. token m.tok n.holds.row.inside m.bit_is (record { by = m.by; used = u; uses = symbol n }))
      (λ n. token m.tok n.holds.row.inside m.bit_is (record { by = m.by; used = u; uses = precedence n }))
      m.names)
      (t.only k e)

  pub works : ((i : ℕ) → get_or w3 i 0 < 2 ^ 32) → Work g w3
  works f = record { words = f; only = works_only; all = works_all }

-- ---- any two outcomes are equal

pub work_one : (g : Grammar) (ws vs : List ℕ) → length ws ≡ length vs → Work g ws → Work g vs → ws ≡ vs
work_one g ws vs l x y =
    bits_ext ws vs l x.words y.words (λ k.
    bit_cases ws k
    (λ o. bit_cases vs k (λ p. o ∙ sym p) (λ p. absurd (omega (arith, x.all k (y.only k p)))))
    (λ o. o ∙ sym (y.all k (x.only k o))))
