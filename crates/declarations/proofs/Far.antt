-- Every declaration keeps soundness so far, and so does the section. Assumes nothing.
use Rattle.std.specs.Prelude.{Result, Ok, Err}
use Prim.Native.Nat.{ℕ, suc, ◌+◌, ◌≤◌, ◌<◌}
use mathlib.Core.Path.{◌≡◌}
use mathlib.Core.List.{List}
use mathlib.Core.Bool.{Bool, true, false}
use native.Mathlib.Omega.{arith}
use lib.Dec.{leb}
use lib.ListN.{length}
use Rattle.scan.proofs.Loop.{Either, turns_keep}
use Rattle.keywords.specs.declared.Keyword.{Keyword}
use Rattle.keywords.specs.declared.Keyword.TheVariants.{Percents, TokenWord, ActiontypeWord, StartWord, EppWord, ExpectRrWord, ExpectUnusedWord, ExpectWord, AvoidInsertWord, ParseParamWord, ParseGenericsWord, ImplicitTokensWord, LeftWord, RightWord, NonassocWord, PrologueWord, UnionWord, TypeWord, NoKeyword}
use Rattle.keywords.specs.Keywords.{seen_at}
use Rattle.keywords.proofs.Laws.{sees}
use Rattle.grammar.specs.declared.State.{State}
use Rattle.grammar.specs.declared.Repeat.TheVariants.{RepeatedAvoidInsert, RepeatedImplicitTokens}
use Rattle.grammar.specs.declared.Refusal.{Refusal}
use Rattle.grammar.specs.State.{with_at, gap_at, Gapped}
use Rattle.grammar.specs.Sound.{AllTables, Far}
use Rattle.grammar.proofs.Far.{far_at}
use Rattle.grammar.proofs.Kept.{gapped, onward_keep}
use Rattle.settings.proofs.Far.{start_far, expect_far, actiontype_far, param_far, generics_far}
use Rattle.lists.specs.declared.WordList.TheVariants.{TokenList, UnusedList, TypeList}
use Rattle.lists.proofs.Far.{list_far}
use Rattle.lines.specs.Grown.{third, fourth}
use Rattle.lines.proofs.Far.{prec_far, avoid_far}
use Rattle.epps.proofs.Far.{epp_far}
use Rattle.bodies.proofs.Far.{prologue_far, union_far}
use Rattle.declarations.specs.Declarations.{Declared, Out, by_keyword, decl_step, after_end, decl_turn, decl_run, all_from, decl_all}

-- the thirteen tables, of which declarations leave three as they were
abbrev pub all : Declared → AllTables → AllTables
all D T = record { t1 = D.t1; t2 = D.t2; t3 = D.t3; t4 = D.t4; t5 = D.t5; t6 = D.t6; t7 = T.t7; t8 = T.t8; t9 = T.t9; t10 = D.t10; t15 = D.t15; t16 = D.t16; t17 = D.t17 }

abbrev pub FarAll : List ℕ → ℕ → AllTables → Out → Type 0
FarAll src done T o = Far src done o.state (all o.tables T)

module _ {src : List ℕ} {done : ℕ} {s : State} {D : Declared} (T : AllTables) (f : Far src done s (all D T)) where
  pub by_keyword_lem : (w : Keyword) (j : ℕ) → s.at ≤ j → j ≤ length src → ((w ≡ NoKeyword → ⊥) → s.at + 1 < j) → FarAll src done T (by_keyword w src s (with_at s j) D)
  by_keyword_lem Percents j h k b = f
  by_keyword_lem TokenWord j h k b = list_far TokenList (far_at f j h k)
  by_keyword_lem ActiontypeWord j h k b = actiontype_far (far_at f j h k)
  by_keyword_lem StartWord j h k b = start_far (far_at f j h k)
  by_keyword_lem EppWord j h k b = epp_far (far_at f j h k)
  by_keyword_lem ExpectRrWord j h k b = expect_far (far_at f j h k) true
  by_keyword_lem ExpectUnusedWord j h k b = list_far UnusedList (far_at f j h k)
  by_keyword_lem ExpectWord j h k b = expect_far (far_at f j h k) false
  by_keyword_lem AvoidInsertWord j h k b = avoid_far _ third RepeatedAvoidInsert (far_at f j h k)
  by_keyword_lem ParseParamWord j h k b = param_far (far_at f j h k)
  by_keyword_lem ParseGenericsWord j h k b = generics_far (far_at f j h k)
  by_keyword_lem ImplicitTokensWord j h k b = avoid_far _ fourth RepeatedImplicitTokens (far_at f j h k)
  by_keyword_lem LeftWord j h k b = let r = f.risen in let x = b (λ z. let y : ◌≡◌ {A = ℕ} 0 1 = cc in omega arith) in prec_far 1 (omega arith) (omega arith) (omega arith) (far_at f j h k)
  by_keyword_lem RightWord j h k b = let r = f.risen in let x = b (λ z. let y : ◌≡◌ {A = ℕ} 0 1 = cc in omega arith) in prec_far 2 (omega arith) (omega arith) (omega arith) (far_at f j h k)
  by_keyword_lem NonassocWord j h k b = let r = f.risen in let x = b (λ z. let y : ◌≡◌ {A = ℕ} 0 1 = cc in omega arith) in prec_far 3 (omega arith) (omega arith) (omega arith) (far_at f j h k)
  by_keyword_lem PrologueWord j h k b = prologue_far (far_at f j h k) s.at
  by_keyword_lem UnionWord j h k b = union_far (far_at f j h k) s.at
  by_keyword_lem TypeWord j h k b = list_far TypeList (far_at f j h k)
  by_keyword_lem NoKeyword j h k b = f

  pub step_far : FarAll src done T (decl_step src s D)
  unfolding decl_step
  step_far = let x = sees s.kind src s.at f.here in by_keyword_lem (seen_at s.kind src s.at).word (seen_at s.kind src s.at).end x.onward x.inside x.beyond

turn_far : (src : List ℕ) (done : ℕ) (T : AllTables) (o : Out) → FarAll src done T o → Either (FarAll src done T) (FarAll src done T) (decl_turn src o)
unfolding decl_turn
turn_far src done T o f = go (leb (length src) o.state.at)
  where
    go : (b : Bool) → Either (FarAll src done T) (FarAll src done T) (after_end b o (decl_step src o.state o.tables))
    go true = f
    go false = onward_keep (FarAll src done T) (decl_step src o.state o.tables).answer (decl_step src o.state o.tables) (step_far T f)

-- The declarations section keeps soundness so far, whatever its answer.
pub declarations_far : (src : List ℕ) (done : ℕ) (s : State) (D : Declared) (T : AllTables) → Far src done s (all D T) → FarAll src done T (decl_all src s D)
unfolding decl_all decl_run
declarations_far src done s D T f = go (gap_at s.kind true src s.at) (gapped s.kind true src s.at f.here)
  where
    go : (g : Result (ℕ × ℕ) Refusal) → Gapped src s.at g → FarAll src done T (all_from g src s D)
    go (Ok (i, n)) x = let a = x.0 in turns_keep (FarAll src done T) (decl_turn src) (turn_far src done T) (suc (length src)) _ (far_at f i (omega arith) x.1)
    go (Err e) x = f
