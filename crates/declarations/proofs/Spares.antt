-- The finders behind each declaration: those of the tables that it does not fill stay, or grow with another's. Assumes nothing.
use Prim.Native.Nat.{ℕ, ◌<◌}
use mathlib.Core.Path.{◌≡◌, ap}
use mathlib.Core.List.{List}
use mathlib.Core.Bool.{Bool}
use native.Mathlib.Omega.{arith}
use Rattle.tables.specs.Layout.{tokens, precedences, avoided, implicit, epps, width}
use Rattle.grammar.specs.declared.Answer.{Answer}
use Rattle.grammar.specs.declared.Repeat.{Repeat}
use Rattle.grammar.specs.declared.State.{State}
use Rattle.grammar.specs.State.{Out0, Out1, Out2, Out3, Out4, Tokens, Follows}
use Rattle.grammar.proofs.Spares.{Spares, spared}
use Rattle.settings.specs.Settings.{start_decl, expect_decl, actiontype_decl, param_decl, generics_decl}
use Rattle.settings.proofs.Spares.{start_spares, expect_spares, actiontype_spares, param_spares, generics_spares}
use Rattle.lists.specs.declared.WordList.TheVariants.{TokenList, UnusedList, TypeList}
use Rattle.lists.specs.Lists.{list_decl}
use Rattle.lines.specs.Precedences.{prec_decl}
use Rattle.lines.specs.Avoided.{avoid_decl}
use Rattle.lines.proofs.Spares.{prec_spares}
use Rattle.epps.specs.Epps.{epp_decl}
use Rattle.epps.proofs.Spares.{epp_spares}
use Rattle.declarations.specs.Declarations.{Givens}
use Rattle.declarations.proofs.Counts.{list_spares, avoid_spares}
use Rattle.declarations.proofs.Givens.{Leaves, givens_spared, second_filled, third_filled, fourth_filled, fifth_filled, both_spared}

module _ (src : List ℕ) (n : State) (t1 ix t2 t3 t4 t5 fx : List ℕ) (I : Tokens src n.counts t1 ix) (G : Givens src n.counts t2 t3 t4 t5 fx) (a : Answer) (s : State) where
  pub by_param : ◌≡◌ {A = Out0} (record { answer = a; state = s }) (param_decl src n) → Tokens src s.counts t1 ix × Givens src s.counts t2 t3 t4 t5 fx
  by_param e = rw (ap (λ (o : Out0). o.state.counts) e) (both_spared (λ k l. param_spares k src n) (I, G))

  pub by_generics : ◌≡◌ {A = Out0} (record { answer = a; state = s }) (generics_decl src n) → Tokens src s.counts t1 ix × Givens src s.counts t2 t3 t4 t5 fx
  by_generics e = rw (ap (λ (o : Out0). o.state.counts) e) (both_spared (λ k l. generics_spares k src n) (I, G))

  module _ (t u : List ℕ) where
    pub by_start : record { answer = a; state = s; a = u } ≡ start_decl src n t → Tokens src s.counts t1 ix × Givens src s.counts t2 t3 t4 t5 fx
    by_start e = rw (ap (λ (o : Out1). o.state.counts) e) (both_spared (λ k l. start_spares k src n (λ z. omega arith) t) (I, G))

    pub by_actiontype : record { answer = a; state = s; a = u } ≡ actiontype_decl src n t → Tokens src s.counts t1 ix × Givens src s.counts t2 t3 t4 t5 fx
    by_actiontype e = rw (ap (λ (o : Out1). o.state.counts) e) (both_spared (λ k l. actiontype_spares k src n (λ z. omega arith) t) (I, G))

    pub by_expect : (rr : Bool) → record { answer = a; state = s; a = u } ≡ expect_decl src n rr t → Tokens src s.counts t1 ix × Givens src s.counts t2 t3 t4 t5 fx
    by_expect rr e = rw (ap (λ (o : Out1). o.state.counts) e) (both_spared (λ k l. expect_spares k src n (λ z. omega arith) t rr) (I, G))

  -- these are lent the finder of table 1, and leave it
  module _ (t u v w x y jx : List ℕ) (f : jx ≡ ix) where
    pub by_unused : record { answer = a; state = s; a = u; b = v; c = w } ≡ list_decl src n UnusedList t x y → Tokens src s.counts t1 jx × Givens src s.counts t2 t3 t4 t5 fx
    by_unused e = rw (ap (λ (o : Out3). o.state.counts) e, f) (both_spared (λ k l. list_spares k src UnusedList (λ z. omega arith) n t x y) (I, G))

    pub by_type : record { answer = a; state = s; a = u; b = v; c = w } ≡ list_decl src n TypeList t x y → Tokens src s.counts t1 jx × Givens src s.counts t2 t3 t4 t5 fx
    by_type e = rw (ap (λ (o : Out3). o.state.counts) e, f) (both_spared (λ k l. list_spares k src TypeList tt n t x y) (I, G))

  module _ (u v w jx : List ℕ) where
    pub by_epp : record { answer = a; state = s; a = u; b = w } ≡ epp_decl src n t5 v → Follows src epps (width epps) 2 s.counts u fx jx → Tokens src s.counts t1 ix × Givens src s.counts t2 t3 t4 u jx
    by_epp e F =
        let spares : (k : ℕ) → k < 5 → (epps ≡ k → ⊥) → Spares k n.counts s.counts = λ k l d. rw (ap (λ (o : Out2). o.state.counts) e) (epp_spares k d (λ z. omega arith) src n t5 v) in
        (spared (spares tokens (omega arith) (λ z. omega arith)) I, fifth_filled G (λ k l. spares k) F)

    pub by_prec : (x y p q : List ℕ) (assoc : ℕ) → record { answer = a; state = s; a = u; b = w; c = p; d = q } ≡ prec_decl src n assoc t2 v x y → Follows src precedences (width precedences) 0 s.counts u fx jx → Tokens src s.counts t1 ix × Givens src s.counts u t3 t4 t5 jx
    by_prec x y p q assoc e F =
        let spares : (k : ℕ) → k < 5 → (precedences ≡ k → ⊥) → Spares k n.counts s.counts = λ k l d. rw (ap (λ (o : Out4). o.state.counts) e) (prec_spares k d (λ z. omega arith) src n assoc t2 v x y) in
        (spared (spares tokens (omega arith) (λ z. omega arith)) I, second_filled G (λ k l. spares k) F)

-- those that fill table 1 keep its finder themselves
module _ (src : List ℕ) (n : State) (t1 t2 t3 t4 t5 fx : List ℕ) (G : Givens src n.counts t2 t3 t4 t5 fx) (a : Answer) (s : State) (u : List ℕ) where
  pub by_tokens : (v w x y : List ℕ) → record { answer = a; state = s; a = u; b = v; c = w } ≡ list_decl src n TokenList t1 x y → Givens src s.counts t2 t3 t4 t5 fx
  by_tokens v w x y e = rw (ap (λ (o : Out3). o.state.counts) e) (givens_spared G (λ k l m. list_spares k src TokenList (λ z. omega arith) n t1 x y))

  module _ (v w t10 jx : List ℕ) (what : Repeat) where
    leaves : (j : ℕ) (t : List ℕ) → record { answer = a; state = s; a = u; b = v; c = w } ≡ avoid_decl src n j what t1 t t10 → Leaves j n.counts s.counts
    leaves j t e = λ k l m d. rw (ap (λ (o : Out3). o.state.counts) e) (avoid_spares k src (λ z. omega arith) (λ z. omega arith) j d what n t1 t t10)

    pub by_avoided : record { answer = a; state = s; a = u; b = v; c = w } ≡ avoid_decl src n avoided what t1 t3 t10 → Follows src avoided (width avoided) 0 s.counts v fx jx → Givens src s.counts t2 v t4 t5 jx
    by_avoided e F = third_filled G (leaves avoided t3 e) F

    pub by_implicit : record { answer = a; state = s; a = u; b = v; c = w } ≡ avoid_decl src n implicit what t1 t4 t10 → Follows src implicit (width avoided) 0 s.counts v fx jx → Givens src s.counts t2 t3 v t5 jx
    by_implicit e F = fourth_filled G (leaves implicit t4 e) F
