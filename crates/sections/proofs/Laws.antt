-- The sections of a source: what they came to, one law for each answer. Assumes nothing.
use Rattle.std.specs.Prelude.{Result, Ok, Err}
use Prim.Native.Nat.{ℕ, ◌≤◌, ◌<◌}
use mathlib.Core.Path.{◌≡◌, refl, sym, ap}
use mathlib.Core.List.{List}
use mathlib.Core.Bool.{Bool, true, false, ◌||◌, ◌&&◌, not}
use native.Mathlib.Omega.{arith}
use mir.Syntax.{w32}
use mir.Val.{Fits}
use lib.Dec.{ltb}
use lib.ListN.{length, get_or}
use borrow.Author.Tests.{lt-ltb, le-ltb, not-true, not-false}
use Rattle.scan.proofs.Bytes.{told}
use Rattle.whole.specs.Whole.{check_at, Below}
use Rattle.tables.specs.Layout.{tokens, precedences, avoided, implicit, epps, rules, width}
use Rattle.index.specs.Index.{size_test}
use Rattle.finder.proofs.Laws.{held_none}
use Rattle.grammar.specs.declared.State.{State}
use Rattle.grammar.specs.declared.Cause.TheVariants.{NotUtf8, PrematureEnd}
use Rattle.grammar.specs.declared.Refusal.{Refusal}
use Rattle.grammar.specs.declared.Refusal.TheVariants.{Fault, TooLong, BadKind, BadIndex}
use Rattle.grammar.specs.declared.Answer.TheVariants.{Going, Done, Refused}
use Rattle.grammar.specs.State.{Out0, Here, Passed, Tracked, fresh, no_counts}
use Rattle.grammar.specs.Sound.{AllTables}
use Rattle.declarations.specs.Declarations.{Givens, Out, decl_all}
use Rattle.rules.specs.Rules.{Ruled, rules_all, programs_from}
use Rattle.sections.specs.Sections.{Run, Short, sizes_fit, sized_text, admitted, ran_program, rest_all, declared, with_declared, with_ruled, sections_all, attempted}

-- kind, sizes, length, UTF-8
module _ (src : List ℕ) (kind : ℕ) (fit : Bool) where
  pub bad_kind : (ltb kind 1 || ltb 4 kind) ≡ true → Err BadKind ≡ admitted src kind fit
  unfolding admitted
  bad_kind e = rw (admitted, e)

  module _ (k : (ltb kind 1 || ltb 4 kind) ≡ false) where
    pub bad_index : not fit ≡ true → Err BadIndex ≡ admitted src kind fit
    unfolding admitted
    bad_index g = rw (admitted, k, not-true fit g)

    module _ (g : not fit ≡ false) where
      pub too_long : 65536 < length src → Err TooLong ≡ admitted src kind fit
      unfolding admitted
      too_long h = rw (admitted, k, not-false fit g, sized_text, lt-ltb _ _ h)

      module _ (h : length src ≤ 65536) (w : Result (Unit {0}) ℕ) (q : w ≡ check_at src 0) where
        pub is_text : w ≡ Ok tt → Ok tt ≡ admitted src kind fit
        unfolding admitted
        is_text e = rw (admitted, k, not-false fit g, sized_text, le-ltb _ _ h, ← q, e)

        pub no_text : (i : ℕ) → w ≡ Err i → Err (Fault NotUtf8 i) ≡ admitted src kind fit
        unfolding admitted
        no_text i e = rw (admitted, k, not-false fit g, sized_text, le-ltb _ _ h, ← q, e)

-- a byte of a source that is not too long is a 32-bit place
pub bad_byte : (src : List ℕ) (w : Result (Unit {0}) ℕ) (i : ℕ) → length src ≤ 65536 → Below (length src) w → w ≡ Err i → Fits w32 i
bad_byte src w i h x e = let k = told (Below (length src)) e x in omega arith

-- rules, then programs
module _ (src : List ℕ) (s : State) (t1 t7 t8 t9 : List ℕ) (o : Ruled) (q : o ≡ rules_all src s t1 t7 t8 t9) where
  pub rest_going : (z : Out0) → o.answer ≡ Going → z ≡ programs_from src o.state → ran_program z o ≡ rest_all src s t1 t7 t8 t9
  unfolding rest_all
  rest_going z e h = rw (← q, e) (ap (λ (y : Out0). ran_program y o) h)

  pub rest_done : o.answer ≡ Done → ran_program (record { answer = Done; state = o.state }) o ≡ rest_all src s t1 t7 t8 t9
  unfolding rest_all
  rest_done e = rw (← q, e)

  pub rest_refused : (f : Refusal) → o.answer ≡ Refused f → ran_program (record { answer = Refused f; state = o.state }) o ≡ rest_all src s t1 t7 t8 t9
  unfolding rest_all
  rest_refused f e = rw (← q, e)

-- declarations, then the rest
module _ (src : List ℕ) (s : State) (T : AllTables) (o : Out) (q : o ≡ decl_all src s (declared T)) where
  pub sections_going : o.answer ≡ Going → record { answer = Refused (Fault PrematureEnd o.state.at); state = o.state; tables = with_declared T o.tables } ≡ sections_all src s T
  unfolding sections_all
  sections_going e = rw (← q, e)

  pub sections_done : (r : Ruled) → o.answer ≡ Done → r ≡ rest_all src o.state o.tables.t1 T.t7 T.t8 T.t9 → with_ruled o.tables r ≡ sections_all src s T
  unfolding sections_all
  sections_done r e h = rw (← q, e) (ap (with_ruled o.tables) h)

  pub sections_refused : (f : Refusal) → o.answer ≡ Refused f → record { answer = Refused f; state = o.state; tables = with_declared T o.tables } ≡ sections_all src s T
  unfolding sections_all
  sections_refused f e = rw (← q, e)

-- a source that can be read is begun at its begin, and no reading leaves it
module _ (src : List ℕ) (a : Result (Unit {0}) Refusal) (x : Short src a) (e : a ≡ Ok tt) where
  pub fit_here : (s : State) (kind : ℕ) → s ≡ fresh kind → Here src s.at
  fit_here s kind b = told (λ (y : State). Here src y.at) (sym b) (record { within = omega arith; short = told (Short src) e x })

  pub fit_near : (i j : ℕ) → Passed src i j → j ≤ 65536
  fit_near i j p =
      let h = told (Short src) e x in
      let k = p.inside in
      omega arith

pub begun_near : (s : State) (kind : ℕ) → s ≡ fresh kind → s.at ≤ 65536
begun_near s kind b = told (λ (y : State). y.at ≤ 65536) (sym b) (omega arith)

-- its sections
module _ (src : List ℕ) (kind : ℕ) (T : AllTables) (s : State) (b : s ≡ fresh kind) (fit fits : Bool) (z : fit ≡ fits) (a : Result (Unit {0}) Refusal) (q : a ≡ admitted src kind fit) where
  pub attempt_fit : (r : Run) → a ≡ Ok tt → r ≡ sections_all src s T → r ≡ attempted src kind fits T
  unfolding attempted
  attempt_fit r e h = rw (← z, ← q, e) (rw b at h)

  pub attempt_unfit : (f : Refusal) → a ≡ Err f → record { answer = Refused f; state = s; tables = T } ≡ attempted src kind fits T
  unfolding attempted
  attempt_unfit f e = rw (← z, ← q, e, b)

-- where a reading begins, any finder leads to all rows, which are none
pub none_tracked : (src : List ℕ) (k w name : ℕ) (s : State) (kind : ℕ) (t ix : List ℕ) → get_or no_counts.n k 0 ≡ 0 → s ≡ fresh kind → Tracked src k w name s.counts t ix
none_tracked src k w name s kind t ix z b = told (λ (y : State). Tracked src k w name y.counts t ix) (sym b) (record { ten = refl; held = rw z (held_none src w name t ix) })

pub none_given : (src : List ℕ) (s : State) (kind : ℕ) (t2 t3 t4 t5 fx : List ℕ) → s ≡ fresh kind → Givens src s.counts t2 t3 t4 t5 fx
none_given src s kind t2 t3 t4 t5 fx b =
    record {
      second = none_tracked src precedences (width precedences) 0 s kind t2 fx refl b;
      third = none_tracked src avoided (width avoided) 0 s kind t3 fx refl b;
      fourth = none_tracked src implicit (width avoided) 0 s kind t4 fx refl b;
      fifth = none_tracked src epps (width epps) 2 s kind t5 fx refl b;
    }

-- both sizes
pub sizes_are : (m₁ n₁ m₇ n₇ : ℕ) (p q : Bool) → p ≡ size_test m₁ n₁ (width tokens) → q ≡ size_test m₇ n₇ (width rules) → (p && q) ≡ sizes_fit m₁ n₁ m₇ n₇
unfolding sizes_fit
sizes_are m₁ n₁ m₇ n₇ p q e f = rw (e, f)
