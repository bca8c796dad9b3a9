-- The items that add symbols and productions: one law for each answer. Assumes nothing.
use Rattle.std.specs.Prelude.{Option, Some, None, Result, Ok, Err}
use Prim.Native.Nat.{ℕ}
use mathlib.Core.Path.{◌≡◌}
use mathlib.Core.List.{List}
use mathlib.Core.Bool.{Bool, true, false}
use native.Mathlib.Omega.{arith}
use borrow.Author.Tests.{eq-eqb, ne_eqb}
use Rattle.scan.specs.declared.Place.{Place}
use Rattle.words.specs.Words.{token_at, Tokened}
use Rattle.tables.specs.Table.{cell, find_name}
use Rattle.tables.specs.Layout.{tokens, symbols, declared, width}
use Rattle.grammar.specs.declared.State.{State}
use Rattle.grammar.specs.declared.Step.{Step}
use Rattle.grammar.specs.declared.Cause.TheVariants.{IllegalString}
use Rattle.grammar.specs.declared.Refusal.{Refusal}
use Rattle.grammar.specs.declared.Refusal.TheVariants.{Fault}
use Rattle.grammar.specs.declared.Answer.{Answer}
use Rattle.grammar.specs.declared.Answer.TheVariants.{Going, Done, Refused}
use Rattle.grammar.specs.State.{Out0, Out1, Out2, Here, Passed, Onward, Moves, count, with_at, gap_at, push_row, enter_step, pass_on, second2}
use Rattle.grammar.specs.Cells.{symbol_cells}
use Rattle.grammar.proofs.Steps.{moves}
use Rattle.productions.specs.declared.Production.{Production}
use Rattle.productions.specs.Cells.{push_production}
use Rattle.items.specs.declared.Drafted.{Drafted}
use Rattle.items.specs.Items.{Made1, Made2, made1, made2, refused1, refused2, begun, with_to, with_prec, with_last, token_symbol, quoted_rows, quoted_item, prec_name, prec_item, kind_found, symbol_kind, bare_item, end_production, bar_item, end_item}

-- a step carried with its production, on one table and on two
module _ (r : Drafted) (q : Step) (d : Production) (e : r ≡ record { answer = q.answer; state = q.state; draft = d }) where
  pub carried1 : (a : List ℕ) → ◌≡◌ {A = Made1} (record { answer = r.answer; state = r.state; draft = r.draft; a = a }) (record { answer = q.answer; state = q.state; draft = d; a = a })
  carried1 a = rw e

  pub carried2 : (a b : List ℕ) → ◌≡◌ {A = Made2} (record { answer = r.answer; state = r.state; draft = r.draft; a = a; b = b }) (record { answer = q.answer; state = q.state; draft = d; a = a; b = b })
  carried2 a b = rw e

  pub carried_passed : (src : List ℕ) (at : ℕ) → Passed src at q.state.at → Passed src at r.state.at
  carried_passed src at h = rw e h

  pub carried_onward : (src : List ℕ) (j at : ℕ) → Onward src j at q.answer q.state.at → Onward src j at r.answer r.state.at
  carried_onward src j at h = rw e h

  pub carried_moves : (src : List ℕ) (at : ℕ) → Moves src at q.answer q.state.at → Moves src at r.answer r.state.at
  carried_moves src at h = rw e h

-- where a token's parts lie
module _ (src : List ℕ) (at : ℕ) (r : Result (Place × ℕ × Bool) ℕ) (x : Tokened src at r) where
  module _ (p : Place) (end : ℕ) (b : Bool) (e : r ≡ Ok (p, end, b)) where
    pub from_passed : Passed src at p.from
    from_passed = let y = rw e at x in record { onward = y.0; inside = omega (arith, y.1, y.2, y.3) }

    pub to_passed : Passed src at p.to
    to_passed = let y = rw e at x in record { onward = omega (arith, y.0, y.1); inside = omega (arith, y.2, y.3) }

    pub end_passed : Passed src at end
    end_passed = let y = rw e at x in record { onward = omega (arith, y.0, y.1, y.2); inside = y.3 }

    pub token_moves : (before after : ℕ) (a : Answer) → Onward src end before a after → before ≡ at → Moves src at a after
    token_moves before after a o k = let y = rw e at x in moves src at end before after a k (omega (arith, y.0, y.1, y.2)) y.3 o

  pub none_passed : (k : ℕ) → Here src at → r ≡ Err k → Passed src at k
  none_passed k h e = let y = rw e at x in record { onward = omega (arith, y); inside = omega (arith, y, h.within) }

-- a quoted symbol's rows
module _ (src : List ℕ) (s : State) (from to : ℕ) (t1 t9 : List ℕ) (o : Out1) (q : o ≡ enter_step src s from to false t1) where
  pub symbol_entered_lem : (z : Out1) → o.answer ≡ Going → z ≡ push_row o.state symbols (symbol_cells 2 from to) t9 → second2 o.a z ≡ token_symbol src s from to t1 t9
  unfolding token_symbol
  symbol_entered_lem z g e = rw (← q, g, ← e)

  pub symbol_done : o.answer ≡ Done → record { answer = Done; state = o.state; a = o.a; b = t9 } ≡ token_symbol src s from to t1 t9
  unfolding token_symbol
  symbol_done g = rw (← q, g)

  pub symbol_refused : (f : Refusal) → o.answer ≡ Refused f → record { answer = Refused f; state = o.state; a = o.a; b = t9 } ≡ token_symbol src s from to t1 t9
  unfolding token_symbol
  symbol_refused f g = rw (← q, g)

-- a quoted symbol behind its spacing
module _ (src : List ℕ) (s : State) (d : Production) (from to end : ℕ) (t1 t9 : List ℕ) (r : Result (ℕ × ℕ) Refusal) (q : r ≡ gap_at s.kind true src end) where
  pub quoted_spaced : (i n : ℕ) (o : Out2) → r ≡ Ok (i, n) → o ≡ token_symbol src (with_at s i) from to t1 t9 → made2 o (with_to d end) ≡ quoted_rows src s d from to end t1 t9
  unfolding quoted_rows
  quoted_spaced i n o e h = rw (← q, e, h)

  pub quoted_gap_lem : (f : Refusal) → r ≡ Err f → refused2 f s d t1 t9 ≡ quoted_rows src s d from to end t1 t9
  unfolding quoted_rows
  quoted_gap_lem f e = rw (← q, e)

-- a quoted symbol
module _ (src : List ℕ) (s : State) (d : Production) (t1 t9 : List ℕ) (r : Result (Place × ℕ × Bool) ℕ) (q : r ≡ token_at src s.at) where
  pub quoted_found_lem : (p : Place) (end : ℕ) (b : Bool) (o : Made2) → r ≡ Ok (p, end, b) → o ≡ quoted_rows src s d p.from p.to end t1 t9 → o ≡ quoted_item src s d t1 t9
  unfolding quoted_item
  quoted_found_lem p end b o e h = rw (← q, e) h

  pub quoted_none : (k : ℕ) → r ≡ Err k → refused2 (Fault IllegalString k) s d t1 t9 ≡ quoted_item src s d t1 t9
  unfolding quoted_item
  quoted_none k e = rw (← q, e)

-- the name behind `%prec`
module _ (src : List ℕ) (s : State) (d : Production) (t1 : List ℕ) (r : Result (Place × ℕ × Bool) ℕ) (q : r ≡ token_at src s.at) where
  pub prec_found_lem : (p : Place) (end : ℕ) (b : Bool) (o : Out1) (z : Out0) (m : Production) → r ≡ Ok (p, end, b) → o ≡ enter_step src s p.from p.to false t1
      → z ≡ pass_on src false end o.answer o.state → m ≡ with_prec d p.from p.to → made1 z (with_to m end) o.a ≡ prec_name src s d t1
  unfolding prec_name
  prec_found_lem p end b o z m e w h k = rw (← q, e, ← w, ← h, k)

  pub prec_none : (k : ℕ) → r ≡ Err k → refused1 (Fault IllegalString k) s d t1 ≡ prec_name src s d t1
  unfolding prec_name
  prec_none k e = rw (← q, e)

-- `%prec`
module _ (src : List ℕ) (s : State) (d : Production) (t1 : List ℕ) (r : Result (ℕ × ℕ) Refusal) (q : r ≡ gap_at s.kind true src s.at) where
  pub prec_spaced : (i n : ℕ) (o : Made1) → r ≡ Ok (i, n) → o ≡ prec_name src (with_at s i) d t1 → o ≡ prec_item src s d t1
  unfolding prec_item
  prec_spaced i n o e h = rw (← q, e) h

  pub prec_gap_lem : (f : Refusal) → r ≡ Err f → refused1 f s d t1 ≡ prec_item src s d t1
  unfolding prec_item
  prec_gap_lem f e = rw (← q, e)

-- the kind of a bare symbol
module _ (src : List ℕ) (n : ℕ) (t1 : List ℕ) (from to : ℕ) (f : Option ℕ) (q : f ≡ find_name src (width tokens) 0 n t1 from to) where
  module _ (r k : ℕ) (e : f ≡ Some r) (c : k ≡ cell (width tokens) t1 r declared) where
    pub kind_token : k ≡ 1 → 2 ≡ symbol_kind src n t1 from to
    unfolding symbol_kind
    kind_token h = rw (← q, e, kind_found, ← c, eq-eqb _ _ h)

    pub kind_rule : (k ≡ 1 → ⊥) → 1 ≡ symbol_kind src n t1 from to
    unfolding symbol_kind
    kind_rule h = rw (← q, e, kind_found, ← c, ne_eqb _ _ h)

  pub kind_new : f ≡ None → 1 ≡ symbol_kind src n t1 from to
  unfolding symbol_kind
  kind_new e = rw (← q, e)

-- a bare symbol
module _ (src : List ℕ) (s : State) (d : Production) (t1 t9 : List ℕ) (r : Result (Place × ℕ × Bool) ℕ) (q : r ≡ token_at src s.at) where
  pub bare_found_lem : (p : Place) (end : ℕ) (b : Bool) (n kind : ℕ) (o : Out1) (z : Out0) → r ≡ Ok (p, end, b) → n ≡ count s tokens → kind ≡ symbol_kind src n t1 p.from p.to
      → o ≡ push_row s symbols (symbol_cells kind p.from p.to) t9 → z ≡ pass_on src false end o.answer o.state
      → made1 z (with_to d end) o.a ≡ bare_item src s d t1 t9
  unfolding bare_item
  bare_found_lem p end b n kind o z e c k w h = rw (← q, e, ← c, ← k, ← w, ← h)

  pub bare_none : (k : ℕ) → r ≡ Err k → refused1 (Fault IllegalString k) s d t9 ≡ bare_item src s d t1 t9
  unfolding bare_item
  bare_none k e = rw (← q, e)

-- a production's end
pub ended : (s : State) (d : Production) (t8 : List ℕ) (n : ℕ) (o : Out1) → n ≡ count s symbols → o ≡ push_production s (with_last d n) t8 → o ≡ end_production s d t8
unfolding end_production
ended s d t8 n o c e = rw c at e

module _ (s : State) (d : Production) (t8 : List ℕ) (o : Out1) (q : o ≡ end_production s d t8) where
  -- behind `|`
  pub barred : (src : List ℕ) (z : Out0) (n : ℕ) (next : Production) → z ≡ pass_on src false s.at o.answer o.state
      → n ≡ count z.state symbols → next ≡ begun d.rule z.state.at n → made1 z next o.a ≡ bar_item src s d t8
  unfolding bar_item
  barred src z n next h c e = rw (← q, ← h, ← c, e)

  -- at `;`
  pub end_going : o.answer ≡ Going → record { answer = Done; state = o.state; draft = d; a = o.a } ≡ end_item s d t8
  unfolding end_item
  end_going g = rw (← q, g)

  pub end_done : o.answer ≡ Done → record { answer = Done; state = o.state; draft = d; a = o.a } ≡ end_item s d t8
  unfolding end_item
  end_done g = rw (← q, g)

  pub end_refused : (f : Refusal) → o.answer ≡ Refused f → record { answer = Refused f; state = o.state; draft = d; a = o.a } ≡ end_item s d t8
  unfolding end_item
  end_refused f g = rw (← q, g)
