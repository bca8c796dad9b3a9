-- What the marking steps cite: a bit set, the row of a name, symbols one by one, and steps one after the other. Assumes nothing.
use Rattle.std.specs.Prelude.{Option, Some, None}
use Prim.Native.Nat.{ℕ, ◌+◌, ◌*◌, ◌/◌, ◌%◌, ◌^◌, ◌<◌, ◌≤◌}
use mathlib.Core.Path.{◌≡◌, refl, sym, ap, ◌∙◌}
use mathlib.Core.List.{List}
use mathlib.Core.Bool.{Bool, true, false, ◌||◌, false≢true}
use mathlib.Core.Logic.{◌⊎◌, inl, inr, ⊎_elim}
use native.Mathlib.Omega.{arith}
use native.Mathlib.Decide.{dec_lt}
use native.Mathlib.Nat.{zero-div}
use borrow.Author.Tests.{eqb-true, eqb-false}
use lib.ListN.{length, get_or, get_or-eq_default}
use lib.Dec.{eqb}
use Rattle.bits.specs.Bits.{bit, set_bit, BitSet}
use Rattle.bits.proofs.Bits.{bit_cases, set_there, ones_more, set_again, set_only}
use Rattle.tables.specs.Table.{cell, has_name, find_name}
use Rattle.tables.specs.Layout.{productions, symbols, rule_row, symbols_from, symbols_to, prec, known_row, width}
use Rattle.tables.proofs.Cases.{same_part_iff, find_iff, none_iff}
use Rattle.finder.specs.Finder.{Led, Held as FinderOf, Apart as Different}
use Rattle.reach.specs.declared.Sort.{Sort}
use Rattle.reach.specs.Reach.{Named, Net, Calls, Begins, Apart, Grew, Adds, Added, Fits, Called, Knowing, Informed, InRow, Among, Held, HeldPrec, Within, Visited}

-- ---- what a step adds, and whether something is new

pub grew_then : (a b : Bool) (ws vs us : List ℕ) → Grew a ws vs → Grew b vs us → Grew (b || a) ws us
grew_then true true ws vs us p q = omega arith
grew_then true false ws vs us p q = rw q p
grew_then false true ws vs us p q = rw p at q
grew_then false false ws vs us p q = q ∙ p

pub added_none : {Q : ℕ → Type 0} (ws : List ℕ) → ((k : ℕ) → Q k → bit ws k ≡ 1) → Added Q ws ws false
added_none ws already = record {
  adds = record { size = refl; kept = λ k e. e; only = λ k e. inl e; all = already };
  grew = refl;
}

pub adds_same : {Q R : ℕ → Type 0} {ws vs : List ℕ} → ((k : ℕ) → Q k → R k) → ((k : ℕ) → R k → Q k) → Adds Q ws vs → Adds R ws vs
adds_same to from a = record {
  size = a.size;
  kept = a.kept;
  only = λ k e. ⊎_elim (λ x. inl x) (λ q. inr (to k q)) (a.only k e);
  all = λ k q. a.all k (from k q);
}

pub added_same : {Q R : ℕ → Type 0} {ws vs : List ℕ} {r : Bool} → ((k : ℕ) → Q k → R k) → ((k : ℕ) → R k → Q k) → Added Q ws vs r → Added R ws vs r
added_same to from a = record { adds = adds_same to from a.adds; grew = a.grew }

-- one step more
pub adds_then : {Q R : ℕ → Type 0} (S : ℕ → Type 0) {ws vs us : List ℕ} → ((k : ℕ) → Q k → S k) → ((k : ℕ) → R k → S k) → ((k : ℕ) → S k → Q k ⊎ R k) → Adds Q ws vs → Adds R vs us → Adds S ws us
adds_then S q r s x y = record {
  size = y.size ∙ x.size;
  kept = λ k e. y.kept k (x.kept k e);
  only = λ k e. ⊎_elim (λ v. ⊎_elim (λ w. inl w) (λ p. inr (q k p)) (x.only k v)) (λ p. inr (r k p)) (y.only k e);
  all = λ k p. ⊎_elim (λ v. y.kept k (x.all k v)) (λ v. y.all k v) (s k p);
}

-- the words keep their size, so the bits still lie in them
pub fits_on : (z : Sort) (ws vs : List ℕ) → length vs ≡ length ws → Fits z ws → Fits z vs
fits_on z ws vs l f = record { low = f.low; inside = omega (arith, f.inside) }

-- ---- one bit

pub is_one : (ws : List ℕ) (k : ℕ) (b : Bool) → b ≡ eqb (bit ws k) 1 → b ≡ true → bit ws k ≡ 1
is_one ws k b e h = eqb-true (bit ws k) 1 (sym e ∙ h)

pub is_zero : (ws : List ℕ) (k : ℕ) (b : Bool) → b ≡ eqb (bit ws k) 1 → b ≡ false → bit ws k ≡ 0
is_zero ws k b e h = bit_cases ws k (λ z. z) (λ o. absurd (eqb-false (bit ws k) 1 (sym e ∙ h) o))

-- bit k is there already
pub mark_there : (ws : List ℕ) (k : ℕ) (b : Bool) → b ≡ eqb (bit ws k) 1 → b ≡ true → Added (λ (j : ℕ). j ≡ k) ws ws false
mark_there ws k b e h = added_none ws (λ j q. ap (bit ws) q ∙ is_one ws k b e h)

-- or it is new
pub mark_new : (ws vs : List ℕ) (k : ℕ) (b : Bool) → k < length ws * 32 → b ≡ eqb (bit ws k) 1 → b ≡ false → vs ≡ set_bit k ws → Added (λ (j : ℕ). j ≡ k) ws vs true
mark_new ws vs k b h e f s = rw s (new (set_bit k ws) (set_there ws k h))
  where
    new : (us : List ℕ) → BitSet k ws us → Added (λ (j : ℕ). j ≡ k) ws us true
    new us x = record {
      adds = record {
        size = x.size;
        kept = set_again k ws us x;
        only = λ j o. set_only k ws us x j o (λ q. inr q) (λ q. inl q);
        all = λ j q. ap (bit us) q ∙ x.there;
      };
      grew = omega (arith, ones_more k ws us x (is_zero ws k b e f) h);
    }

-- ---- the row of a name

module _ (src : List ℕ) (d : Named) (a b : ℕ) (f : Option ℕ) (e : f ≡ find_name src d.sort.wide 0 d.sort.count d.cells a b) where
  pub name_calls : (r : ℕ) → f ≡ Some r → Calls src d a b r
  name_calls r h =
      let x = (find_iff src d.sort.wide 0 d.sort.count d.cells a b r).0 (sym e ∙ h) in
      record { inside = x.inside; same = x.named }

  pub name_none : f ≡ None → (r : ℕ) → Calls src d a b r → ⊥
  name_none h r x = false≢true (sym ((none_iff src d.sort.wide 0 d.sort.count d.cells a b).0 (sym e ∙ h) r x.inside) ∙ x.same)

  pub mark_found : (r : ℕ) (ws vs : List ℕ) (q : Bool) → Apart src d → f ≡ Some r → Added (λ (j : ℕ). j ≡ d.sort.base + r) ws vs q → Added (Called src d a b) ws vs q
  mark_found r ws vs q one h x =
      added_same
      (λ k j. record { row = r; calls = name_calls r h; bit_is = j })
      (λ k y. y.bit_is ∙ ap (λ (n : ℕ). d.sort.base + n) (one a b y.row r y.calls (name_calls r h)))
      x

  pub mark_unfound : (ws : List ℕ) → f ≡ None → Added (Called src d a b) ws ws false
  mark_unfound ws h = added_none ws (λ k y. absurd (name_none h y.row y.calls))

-- names that are each of one row differ, and a finder that leads to all rows finds them
module _ (src : List ℕ) (d : Named) (one : Apart src d) where
  pub calls_differ : Different src d.sort.wide 0 d.sort.count d.cells
  unfolding has_name
  calls_differ q r l m = go (has_name src d.sort.wide 0 d.cells (cell d.sort.wide d.cells r 0) (cell d.sort.wide d.cells r 1) q) refl
    where
      go : (x : Bool) → has_name src d.sort.wide 0 d.cells (cell d.sort.wide d.cells r 0) (cell d.sort.wide d.cells r 1) q ≡ x → x ≡ false
      go true h =
          let x = (same_part_iff src _ _ _ _).0 h in
          let e : q ≡ r = one (cell d.sort.wide d.cells r 0) (cell d.sort.wide d.cells r 1) q r (record { inside = omega arith; same = h }) (record { inside = m; same = (same_part_iff src _ _ _ _).1 (x.2, x.3, x.2, x.3, refl) }) in
          absurd (omega arith)
      go false h = refl

  pub calls_held : (ix : List ℕ) → Led src d.sort.wide 0 d.sort.count d.cells ix → FinderOf src d.sort.wide 0 d.sort.count d.cells ix
  calls_held ix led = record { led = led; apart = calls_differ }

-- ---- symbols

module _ (ss : List ℕ) (z : Sort) where
  -- the one symbol s is of another sort,
  pub symbol_other : (s x : ℕ) (ws : List ℕ) → x ≡ cell (width symbols) ss s 0 → (x ≡ z.kind → ⊥) → Added (InRow ss z s (s + 1)) ws ws false
  symbol_other s x ws e ne =
      added_none ws (λ k q.
      let i : q.sym ≡ s = omega (arith, q.from, q.to) in
      absurd (ne (e ∙ rw (← i) q.kind)))

  -- or has no row,
  pub symbol_rowless : (s x : ℕ) (ws : List ℕ) → x ≡ cell (width symbols) ss s known_row → z.count ≤ x → Added (InRow ss z s (s + 1)) ws ws false
  symbol_rowless s x ws e l =
      added_none ws (λ k q.
      let i : q.sym ≡ s = omega (arith, q.from, q.to) in
      absurd (omega (arith, rw i at q.inside)))

  -- or its row is marked
  pub symbol_marked : (s x r : ℕ) (ws vs : List ℕ) (b : Bool) → x ≡ cell (width symbols) ss s 0 → x ≡ z.kind → r ≡ cell (width symbols) ss s known_row → r < z.count
      → Added (λ (j : ℕ). j ≡ z.base + r) ws vs b → Added (InRow ss z s (s + 1)) ws vs b
  symbol_marked s x r ws vs b e h f l m =
      added_same
      (λ k q. record { sym = s; from = omega arith; to = omega arith; kind = sym e ∙ h; inside = rw (← f) l; bit_is = rw (← f) q })
      (λ k q.
      let i : q.sym ≡ s = omega (arith, q.from, q.to) in
      rw f (rw i at q.bit_is))
      m

  -- no symbol
  pub symbols_none : (f t : ℕ) (ws : List ℕ) → t ≤ f → Added (InRow ss z f t) ws ws false
  symbols_none f t ws h = added_none ws (λ k q. absurd (omega (arith, q.from, q.to)))

  -- the same symbol, from other ends
  between : (f t f' t' k : ℕ) (q : InRow ss z f t k) → f' ≤ q.sym → q.sym < t' → InRow ss z f' t' k
  between f t f' t' k q h l = record { sym = q.sym; from = h; to = l; kind = q.kind; inside = q.inside; bit_is = q.bit_is }

  pub symbols_add : (f s : ℕ) {ws vs us : List ℕ} → f ≤ s → Adds (InRow ss z f s) ws vs → Adds (InRow ss z s (s + 1)) vs us → Adds (InRow ss z f (s + 1)) ws us
  symbols_add f s h x y =
      adds_then (InRow ss z f (s + 1))
      (λ k q. between f s f (s + 1) k q q.from (omega (arith, q.to)))
      (λ k q. between s (s + 1) f (s + 1) k q (omega (arith, q.from)) q.to)
      (λ k q. elim (dec_lt q.sym s) [ yes l ↦ inl (between f (s + 1) f s k q q.from l) | no l ↦ inr (between f (s + 1) s (s + 1) k q (omega arith) q.to) ])
      x
      y

  pub symbols_more : (f s : ℕ) (a b : Bool) (ws vs us : List ℕ) → f ≤ s → Added (InRow ss z f s) ws vs a → Added (InRow ss z s (s + 1)) vs us b → Added (InRow ss z f (s + 1)) ws us (b || a)
  symbols_more f s a b ws vs us h x y = record { adds = symbols_add f s h x.adds y.adds; grew = grew_then a b ws vs us x.grew y.grew }

  -- the end, at or past `to`, past which the walk only is where it never began
  pub symbols_end : (f t s : ℕ) {ws vs : List ℕ} → t ≤ s → (f < s → s ≤ t) → Adds (InRow ss z f s) ws vs → Adds (InRow ss z f t) ws vs
  symbols_end f t s h l x =
      adds_same
      (λ k q. between f s f t k q q.from (omega (arith, q.to, l (omega (arith, q.from, q.to)))))
      (λ k q. between f t f s k q q.from (omega (arith, q.to)))
      x

  pub symbols_all : (f t s : ℕ) (a : Bool) (ws vs : List ℕ) → t ≤ s → (f < s → s ≤ t) → Added (InRow ss z f s) ws vs a → Added (InRow ss z f t) ws vs a
  symbols_all f t s a ws vs h l x = record { adds = symbols_end f t s h l x.adds; grew = x.grew }

-- where symbols know their rows, the rows that they have are those that they name
pub rows_named : (src ss : List ℕ) (d : Named) (f t : ℕ) {ws vs : List ℕ} → ((s : ℕ) → s < t → cell (width symbols) ss s 0 ≡ d.sort.kind → Knowing src ss d s)
    → Adds (InRow ss d.sort f t) ws vs → Adds (Among src ss d f t) ws vs
rows_named src ss d f t told x =
    adds_same
    (λ k q. record {
      sym = q.sym;
      row = cell (width symbols) ss q.sym known_row;
      holds = record { from = q.from; to = q.to; kind = q.kind; row = (told q.sym q.to q.kind).calls q.inside };
      bit_is = q.bit_is;
    })
    (λ k q.
    let e = (told q.sym q.holds.to q.holds.kind).only q.row q.holds.row in
    record { sym = q.sym; from = q.holds.from; to = q.holds.to; kind = q.holds.kind; inside = rw e q.holds.row.inside; bit_is = rw e q.bit_is })
    x

-- ---- a production

module _ (g : Net) (d : Named) (p rule : ℕ) (e : rule ≡ cell (width productions) g.prods p rule_row) where
  pub rule_unmarked : (ws : List ℕ) (b : Bool) → b ≡ eqb (bit ws rule) 1 → b ≡ false → Added (Held g d ws p) ws ws false
  rule_unmarked ws b t h =
      added_none ws (λ k q. absurd (omega (arith, q.marked, ap (bit ws) e, is_zero ws rule b t h)))

  pub rule_adds : (ws vs : List ℕ) (from to : ℕ) (b : Bool) → Informed g d → p < g.count → b ≡ eqb (bit ws rule) 1 → b ≡ true → from ≡ cell (width productions) g.prods p symbols_from → to ≡ cell (width productions) g.prods p symbols_to
      → Adds (InRow g.syms d.sort from to) ws vs → Adds (Held g d ws p) ws vs
  rule_adds ws vs from to b told there t h ef et x =
      let on : bit ws (cell (width productions) g.prods p rule_row) ≡ 1 = sym (ap (bit ws) e) ∙ is_one ws rule b t h in
      adds_same (λ k q. record { marked = on; among = q }) (λ k q. q.among)
      (rows_named g.src g.syms d _ _ (λ s l. told p s there l) (rw (← ef, ← et) x))

  pub rule_marked : (ws vs : List ℕ) (from to : ℕ) (b r : Bool) → Informed g d → p < g.count → b ≡ eqb (bit ws rule) 1 → b ≡ true → from ≡ cell (width productions) g.prods p symbols_from → to ≡ cell (width productions) g.prods p symbols_to
      → Added (InRow g.syms d.sort from to) ws vs r → Added (Held g d ws p) ws vs r
  rule_marked ws vs from to b r told there t h ef et x = record { adds = rule_adds ws vs from to b told there t h ef et x.adds; grew = x.grew }

  -- its rule is done, or not
  pub visit_done : (ws ds : List ℕ) (b : Bool) → b ≡ eqb (bit ds rule) 1 → b ≡ true → Visited g d ds p ws ws false
  visit_done ws ds b t h = record {
    size = refl;
    kept = λ k o. o;
    only = λ k o. inl o;
    all = λ k q. inl (sym (ap (bit ds) e) ∙ is_one ds rule b t h);
    grew = refl;
  }

pub visit_held : (g : Net) (d : Named) (p : ℕ) (ws vs ds : List ℕ) (r : Bool) → Added (Held g d ws p) ws vs r → Visited g d ds p ws vs r
visit_held g d p ws vs ds r x = record { size = x.adds.size; kept = x.adds.kept; only = x.adds.only; all = λ k q. inr (x.adds.all k q); grew = x.grew }

-- ---- a production's `%prec`

module _ (src ps : List ℕ) (d : Named) (p : ℕ) where
  pub prec_absent : (x : ℕ) (ws : List ℕ) → x ≡ cell (width productions) ps p prec → (x ≡ 1 → ⊥) → Added (HeldPrec src ps d ws p) ws ws false
  prec_absent x ws e ne = added_none ws (λ k q. absurd (ne (e ∙ q.holds.given)))

  pub prec_unmarked : (rule : ℕ) (ws : List ℕ) (b : Bool) → rule ≡ cell (width productions) ps p rule_row → b ≡ eqb (bit ws rule) 1 → b ≡ false → Added (HeldPrec src ps d ws p) ws ws false
  prec_unmarked rule ws b e t h = added_none ws (λ k q. absurd (omega (arith, q.marked, ap (bit ws) e, is_zero ws rule b t h)))

  pub prec_named : (x rule from to : ℕ) (ws vs : List ℕ) (b r : Bool) → x ≡ cell (width productions) ps p prec → x ≡ 1 → rule ≡ cell (width productions) ps p rule_row → b ≡ eqb (bit ws rule) 1 → b ≡ true
      → from ≡ cell (width productions) ps p (prec + 1) → to ≡ cell (width productions) ps p (prec + 2) → Added (Called src d from to) ws vs r → Added (HeldPrec src ps d ws p) ws vs r
  prec_named x rule from to ws vs b r ex one e t h ef et m =
      let on : bit ws (cell (width productions) ps p rule_row) ≡ 1 = sym (ap (bit ws) e) ∙ is_one ws rule b t h in
      added_same
      (λ k q. record { marked = on; row = q.row; holds = record { given = sym ex ∙ one; row = rw (← ef, ← et) q.calls }; bit_is = q.bit_is })
      (λ k q. record { row = q.row; calls = rw (ef, et) q.holds.row; bit_is = q.bit_is })
      m

-- ---- the start

pub start_none : (src : List ℕ) (d : Named) (s : Option (ℕ × ℕ)) (ws : List ℕ) → s ≡ None → Adds (Begins src d s) ws ws
start_none src d s ws h = rw h (added_none ws (λ k (q : ⊥). absurd q)).adds

pub start_at : (src : List ℕ) (d : Named) (s : Option (ℕ × ℕ)) (a b : ℕ) (ws vs : List ℕ) (r : Bool) → d.sort.base ≡ 0 → s ≡ Some (a, b) → Added (Called src d a b) ws vs r → Adds (Begins src d s) ws vs
start_at src d s a b ws vs r z h x =
    rw h
    (adds_same
    (λ k q. let e : q.row ≡ k = omega (arith, q.bit_is) in rw (← e) q.calls)
    (λ k q. record { row = k; calls = q; bit_is = omega arith })
    x.adds)

-- ---- words copied

-- words that agree as far as ds goes
pub within_by : (ds ws : List ℕ) → ((j : ℕ) → j < length ds → get_or ds j 0 ≡ get_or ws j 0) → Within ds ws
unfolding bit
within_by ds ws h k e =
    elim (dec_lt (k / 32) (length ds)) [
      | yes l ↦ rw (h (k / 32) l) at e
      | no l ↦
          let z : get_or ds (k / 32) 0 ≡ 0 = get_or-eq_default ds 0 (omega arith) in
          let q : 0 / 2 ^ (k % 32) % 2 ≡ 1 = rw z at e in
          let r : ◌≡◌ {A = ℕ} 0 1 = sym (ap (λ (x : ℕ). x % 2) (zero-div (2 ^ (k % 32)))) ∙ q in
          absurd (omega arith)
    ]
