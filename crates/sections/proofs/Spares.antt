-- Declarations leave the count of table 7, and so its index. Assumes nothing.
use Rattle.std.specs.Prelude.{Option, Some, None, Result, Ok, Err}
use Prim.Native.Nat.{ℕ, suc, ◌+◌}
use mathlib.Core.Path.{◌≡◌, refl, ap}
use mathlib.Core.List.{List}
use mathlib.Core.Bool.{Bool, true, false}
use native.Mathlib.Omega.{arith}
use lib.Dec.{leb}
use lib.ListN.{length}
use Rattle.scan.specs.Scan.{is_at}
use Rattle.scan.proofs.Loop.{Either, turns_keep}
use Rattle.texts.specs.Action.{braced_at}
use Rattle.texts.specs.Mark.{marked_at}
use Rattle.tables.specs.Layout.{rules, avoided, implicit}
use Rattle.grammar.specs.declared.Answer.{Answer}
use Rattle.grammar.specs.declared.Counts.{Counts}
use Rattle.grammar.specs.declared.State.{State}
use Rattle.grammar.specs.declared.Refusal.{Refusal}
use Rattle.grammar.specs.declared.Repeat.TheVariants.{RepeatedAvoidInsert, RepeatedImplicitTokens}
use Rattle.grammar.specs.State.{Out0, Tracked, Rules, with_at, gap_at}
use Rattle.grammar.proofs.Kept.{onward_keep}
use Rattle.grammar.proofs.Spares.{Spares, spares_none, spares_on, spared}
use Rattle.keywords.specs.declared.Keyword.{Keyword}
use Rattle.keywords.specs.declared.Keyword.TheVariants.{Percents, TokenWord, ActiontypeWord, StartWord, EppWord, ExpectRrWord, ExpectUnusedWord, ExpectWord, AvoidInsertWord, ParseParamWord, ParseGenericsWord, ImplicitTokensWord, LeftWord, RightWord, NonassocWord, PrologueWord, UnionWord, TypeWord, NoKeyword}
use Rattle.keywords.specs.Keywords.{seen_at}
use Rattle.settings.proofs.Spares.{start_spares, expect_spares, actiontype_spares, param_spares, generics_spares}
use Rattle.lists.specs.declared.WordList.TheVariants.{TokenList, UnusedList, TypeList}
use Rattle.lines.proofs.Spares.{prec_spares}
use Rattle.epps.proofs.Spares.{epp_spares}
use Rattle.bodies.specs.Bodies.{prologue_closed, prologue_decl, union_closed, union_opened, union_body, union_from, union_decl}
use Rattle.bodies.proofs.Laws.{row_counts}
use Rattle.declarations.specs.Declarations.{Declared, Out, by_keyword, decl_step, after_end, decl_turn, decl_run, all_from, decl_all}
use Rattle.declarations.proofs.Counts.{list_spares, avoid_spares}
use Rattle.rules.specs.Rules.{programs_from}
use Rattle.rules.proofs.Spares.{programs_spares}

module _ (src : List ℕ) where
  -- bodies leave the ten counts
  prologue_counts : (s : State) (at : ℕ) (t : List ℕ) → (prologue_decl src s at t).state.counts ≡ s.counts
  unfolding prologue_decl
  prologue_counts s at t = go (marked_at src s.at)
    where
      go : (b : Option (ℕ × ℕ)) → (prologue_closed b src s at t).state.counts ≡ s.counts
      go (Some (to, n)) = row_counts src s 1 s.at to (to + 2) t
      go None = refl

  union_counts : (s : State) (at : ℕ) (t : List ℕ) → (union_decl src s at t).state.counts ≡ s.counts
  unfolding union_decl union_body
  union_counts s at t = gap (gap_at s.kind false src s.at)
    where
      closed : (i : ℕ) (b : Option (ℕ × ℕ)) → (union_closed b src s at i t).state.counts ≡ s.counts
      closed i (Some (to, n)) = row_counts src s 2 (i + 1) to (to + 1) t
      closed i None = refl

      opened : (i : ℕ) (b : Bool) → (union_opened b src s at i t).state.counts ≡ s.counts
      opened i true = closed i (braced_at src (i + 1))
      opened i false = refl

      gap : (g : Result (ℕ × ℕ) Refusal) → (union_from g src s at t).state.counts ≡ s.counts
      gap (Ok (i, n)) = opened i (is_at 123 src i)
      gap (Err f) = refl

  -- a declaration
  by_keyword_lem : (w : Keyword) (s n : State) (D : Declared) → s.counts ≡ n.counts → Spares rules n.counts (by_keyword w src s n D).state.counts
  by_keyword_lem Percents s n D e = rw e (spares_none rules n.counts)
  by_keyword_lem TokenWord s n D e = list_spares rules src TokenList (λ z. omega arith) n D.t1 D.t15 D.t16
  by_keyword_lem ActiontypeWord s n D e = actiontype_spares rules src n (λ z. omega arith) D.t10
  by_keyword_lem StartWord s n D e = start_spares rules src n (λ z. omega arith) D.t10
  by_keyword_lem EppWord s n D e = epp_spares rules (λ z. omega arith) (λ z. omega arith) src n D.t5 D.t10
  by_keyword_lem ExpectRrWord s n D e = expect_spares rules src n (λ z. omega arith) D.t10 true
  by_keyword_lem ExpectUnusedWord s n D e = list_spares rules src UnusedList (λ z. omega arith) n D.t6 D.t15 D.t16
  by_keyword_lem ExpectWord s n D e = expect_spares rules src n (λ z. omega arith) D.t10 false
  by_keyword_lem AvoidInsertWord s n D e = avoid_spares rules src (λ z. omega arith) (λ z. omega arith) avoided (λ z. omega arith) RepeatedAvoidInsert n D.t1 D.t3 D.t10
  by_keyword_lem ParseParamWord s n D e = param_spares rules src n
  by_keyword_lem ParseGenericsWord s n D e = generics_spares rules src n
  by_keyword_lem ImplicitTokensWord s n D e = avoid_spares rules src (λ z. omega arith) (λ z. omega arith) implicit (λ z. omega arith) RepeatedImplicitTokens n D.t1 D.t4 D.t10
  by_keyword_lem LeftWord s n D e = prec_spares rules (λ z. omega arith) (λ z. omega arith) src n 1 D.t2 D.t10 D.t15 D.t16
  by_keyword_lem RightWord s n D e = prec_spares rules (λ z. omega arith) (λ z. omega arith) src n 2 D.t2 D.t10 D.t15 D.t16
  by_keyword_lem NonassocWord s n D e = prec_spares rules (λ z. omega arith) (λ z. omega arith) src n 3 D.t2 D.t10 D.t15 D.t16
  by_keyword_lem PrologueWord s n D e = rw (prologue_counts n s.at D.t17) (spares_none rules n.counts)
  by_keyword_lem UnionWord s n D e = rw (union_counts n s.at D.t17) (spares_none rules n.counts)
  by_keyword_lem TypeWord s n D e = list_spares rules src TypeList tt n D.t6 D.t15 D.t16
  by_keyword_lem NoKeyword s n D e = rw e (spares_none rules n.counts)

  step : (s : State) (D : Declared) → Spares rules s.counts (decl_step src s D).state.counts
  unfolding decl_step
  step s D = by_keyword_lem (seen_at s.kind src s.at).word s (with_at s (seen_at s.kind src s.at).end) D refl

  abbrev Since : Counts → Out → Type 0
  Since c o = Spares rules c o.state.counts

  turn : (c : Counts) (o : Out) → Since c o → Either (Since c) (Since c) (decl_turn src o)
  unfolding decl_turn
  turn c o x = go (leb (length src) o.state.at)
    where
      go : (b : Bool) → Either (Since c) (Since c) (after_end b o (decl_step src o.state o.tables))
      go true = x
      go false = onward_keep (Since c) (decl_step src o.state o.tables).answer (decl_step src o.state o.tables) (spares_on x (step o.state o.tables))

  -- the section
  pub declarations_spare : (s : State) (D : Declared) → Spares rules s.counts (decl_all src s D).state.counts
  unfolding decl_all decl_run
  declarations_spare s D = go (gap_at s.kind true src s.at)
    where
      go : (g : Result (ℕ × ℕ) Refusal) → Spares rules s.counts (all_from g src s D).state.counts
      go (Ok (i, n)) = turns_keep (Since s.counts) (decl_turn src) (turn s.counts) (suc (length src)) _ (spares_none rules s.counts)
      go (Err f) = spares_none rules s.counts

-- so the index of table 7 stays; and programs leave every index
module _ (src : List ℕ) (s : State) (t ix : List ℕ) (a : Answer) (q : State) where
  pub by_declarations : (D E : Declared) → ◌≡◌ {A = Out} (record { answer = a; state = q; tables = E }) (decl_all src s D) → Rules src s.counts t ix → Rules src q.counts t ix
  by_declarations D E e I = rw (ap (λ (o : Out). o.state.counts) e) (spared (declarations_spare src s D) I)

  pub by_programs : (k w name : ℕ) → ◌≡◌ {A = Out0} (record { answer = a; state = q }) (programs_from src s) → Tracked src k w name s.counts t ix → Tracked src k w name q.counts t ix
  by_programs k w name e I = rw (ap (λ (o : Out0). o.state.counts) e) (spared (programs_spares k src s) I)
