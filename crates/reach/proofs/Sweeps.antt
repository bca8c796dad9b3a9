-- A sweep, production by production; sweeps one after the other, and the round before them. Assumes nothing.
use Prim.Native.Nat.{ℕ, ◌+◌, ◌*◌, ◌-◌, ◌<◌, ◌≤◌}
use mathlib.Core.Path.{◌≡◌, refl, sym, ◌∙◌}
use mathlib.Core.List.{List}
use mathlib.Core.Bool.{Bool, true, false, ◌||◌, false≢true}
use mathlib.Core.Logic.{◌⊎◌, ⊎_elim}
use native.Mathlib.Omega.{arith}
use native.Mathlib.Decide.{dec_lt}
use lib.ListN.{length}
use Rattle.bits.specs.Bits.{bit, ones}
use Rattle.bits.proofs.Bits.{ones_le}
use Rattle.tables.specs.Table.{cell}
use Rattle.tables.specs.Layout.{productions, rule_row, symbols_from, symbols_to, width}
use Rattle.reach.specs.Reach.{Net, Named, Holds, here, From, Grew, Adds, Held, Swept, Rushed, Spread, Done, Visited}
use Rattle.reach.proofs.Laws.{grew_then}
use Rattle.reach.proofs.Chains.{chain_then, chain_closed, from_next}

-- where nothing changed, the words are the same
grew_same : (b : Bool) (ws vs : List ℕ) → b ≡ false → Grew b ws vs → vs ≡ ws
grew_same true ws vs e h = absurd (false≢true (sym e))
grew_same false ws vs e h = h

-- the rule of production q
abbrev rule_of : Net → ℕ → ℕ
rule_of g q = cell (width productions) g.prods q rule_row

-- symbol s of production q names row b
abbrev HoldsOf : Net → Named → ℕ → ℕ → ℕ → Type 0
HoldsOf g d q s b = Holds g.src g.syms d (cell (width productions) g.prods q symbols_from) (cell (width productions) g.prods q symbols_to) s b

-- a mark, or what production p adds to the marks, is at the end of a chain
held_from : {g : Net} {d : Named} {p : ℕ} (ws vs : List ℕ) → d.sort.base ≡ 0 → p < g.count → ((b : ℕ) → bit vs b ≡ 1 → From g d ws b) → (k : ℕ) → (bit vs k ≡ 1) ⊎ Held g d vs p k → From g d ws k
held_from {g} {d} {p} ws vs zero h from k =
    ⊎_elim
    (λ o. from k o)
    (λ m.
    let i : m.among.row ≡ k = omega (arith, m.among.bit_is) in
    rw (← i) (from_next (from (rule_of g p) m.marked) (record { prod = p; there = h; of = refl; sym = m.among.sym; holds = m.among.holds })))

-- the sweep over the productions below p
pub record SweptTo (g : Net) (d : Named) (p : ℕ) (ws vs : List ℕ) (changed : Bool) : Type 0 where
  pub size : length vs ≡ length ws
  pub kept : (k : ℕ) → bit ws k ≡ 1 → bit vs k ≡ 1
  pub only : (b : ℕ) → bit vs b ≡ 1 → From g d ws b
  pub grew : Grew changed ws vs
  pub closed : (q : ℕ) → q < p → (s b : ℕ) → bit ws (cell (width productions) g.prods q rule_row) ≡ 1
      → Holds g.src g.syms d (cell (width productions) g.prods q symbols_from) (cell (width productions) g.prods q symbols_to) s b → bit vs b ≡ 1

pub swept_none : (g : Net) (d : Named) (ws : List ℕ) → SweptTo g d 0 ws ws false
swept_none g d ws = record {
  size = refl;
  kept = λ k e. e;
  only = λ b e. record { root = b; marked = e; chain = here };
  grew = refl;
  closed = λ q h s b e n. absurd (omega arith);
}

module _ (g : Net) (d : Named) (zero : d.sort.base ≡ 0) (p : ℕ) (ws vs us : List ℕ) (a b : Bool) (h : p < g.count) (ds : List ℕ) (done : Done g d ds ws) (x : SweptTo g d p ws vs a) (y : Visited g d ds p vs us b) where
  swept_closed : (q : ℕ) → q < p + 1 → (s k : ℕ) → bit ws (rule_of g q) ≡ 1 → HoldsOf g d q s k → bit us k ≡ 1
  swept_closed q l s k e n =
      elim (dec_lt q p) [
        | yes l' ↦ y.kept k (x.closed q l' s k e n)
        | no l' ↦
            let eq : q ≡ p = omega arith in
            ⊎_elim
            (λ f. y.kept k (x.kept k (done _ k f (record { prod = p; there = h; of = refl; sym = s; holds = rw eq at n }))))
            (λ f. f)
            (y.all k (record {
              marked = x.kept _ (rw eq at e);
              among = record { sym = s; row = k; holds = rw eq at n; bit_is = omega arith };
            }))
      ]

  pub swept_more : SweptTo g d (p + 1) ws us (b || a)
  swept_more = record {
    size = y.size ∙ x.size;
    kept = λ k e. y.kept k (x.kept k e);
    only = λ k e. held_from ws vs zero h x.only k (y.only k e);
    grew = grew_then a b ws vs us x.grew y.grew;
    closed = swept_closed;
  }

pub swept_all : (g : Net) (d : Named) (p : ℕ) (ws vs : List ℕ) (a : Bool) → g.count ≤ p → SweptTo g d p ws vs a → Swept g d ws vs a
swept_all g d p ws vs a h x = record {
  size = x.size;
  kept = x.kept;
  only = x.only;
  grew = x.grew;
  closed = λ r b e n. x.closed n.prod (omega (arith, n.there)) n.sym b (rw n.of e) n.holds;
}

-- ---- one after the other

pub rushed_none : (g : Net) (d : Named) (ws : List ℕ) → Rushed g d ws ws
rushed_none g d ws = record { size = refl; kept = λ k e. e; only = λ b e. record { root = b; marked = e; chain = here } }

-- one production more
pub rushed_more : {g : Net} {d : Named} {p : ℕ} {ws vs us : List ℕ} → d.sort.base ≡ 0 → p < g.count → Rushed g d ws vs → Adds (Held g d vs p) vs us → Rushed g d ws us
rushed_more {g} {d} {p} {ws} {vs} {us} zero h x y = record {
  size = y.size ∙ x.size;
  kept = λ k e. y.kept k (x.kept k e);
  only = λ k e. held_from ws vs zero h x.only k (y.only k e);
}

pub rushed_then : {g : Net} {d : Named} {ws vs us : List ℕ} → Rushed g d ws vs → Rushed g d vs us → Rushed g d ws us
rushed_then x y = record {
  size = y.size ∙ x.size;
  kept = λ k e. y.kept k (x.kept k e);
  only = λ b e.
      let f = y.only b e in
      let f' = x.only f.root f.marked in
      record { root = f'.root; marked = f'.marked; chain = chain_then f'.chain f.chain };
}

-- one sweep more
pub rushed_swept : {g : Net} {d : Named} {ws vs us : List ℕ} {c : Bool} → Rushed g d ws vs → Swept g d vs us c → Rushed g d ws us
rushed_swept x y = rushed_then x (record { size = y.size; kept = y.kept; only = y.only })

-- until one adds nothing
pub rushed_done : {g : Net} {d : Named} {ws vs us : List ℕ} {c : Bool} → c ≡ false → Rushed g d ws vs → Swept g d vs us c → Spread g d ws us
rushed_done {g} {d} {ws} {vs} {us} {c} e x y =
    let xy = rushed_swept x y in
    let same : us ≡ vs = grew_same c vs us e y.grew in
    record {
      size = xy.size;
      only = xy.only;
      all = λ b f. chain_closed us (rw same (rw same at y.closed)) (xy.kept f.root f.marked) f.chain;
    }

-- a sweep that says so leaves fewer zeros
pub fewer : (ws vs : List ℕ) (b : Bool) → length vs ≡ length ws → b ≡ true → Grew b ws vs → length vs * 32 - ones vs < length ws * 32 - ones ws
unfolding ones
fewer ws vs true l e h = omega (arith, ones_le vs (length vs * 32))
fewer ws vs false l e h = absurd (false≢true e)
