-- The declarations section stands in the source, and its refusals are fatal ones of the source. Assumes nothing.
use Rattle.std.specs.Prelude.{Result, Ok, Err}
use Prim.Native.Nat.{ℕ, suc, ◌≤◌}
use mathlib.Core.Path.{◌≡◌, refl, sym, ◌∙◌}
use mathlib.Core.List.{List, [], ◌∷◌}
use mathlib.Core.Bool.{Bool, true, false, ◌&&◌, or-false, and-eq-true_iff}
use lib.Dec.{leb, eqb}
use lib.ListN.{length}
use borrow.Author.Tests.{eqb-true}
use Rattle.scan.specs.Scan.{starts_at}
use Rattle.scan.proofs.Bytes.{on_test}
use Rattle.scan.proofs.Loop.{Either, turns_keep}
use Rattle.keywords.specs.declared.Keyword.{Keyword}
use Rattle.keywords.specs.declared.Keyword.TheVariants.{Percents, TokenWord, ActiontypeWord, StartWord, EppWord, ExpectRrWord, ExpectUnusedWord, ExpectWord, AvoidInsertWord, ParseParamWord, ParseGenericsWord, ImplicitTokensWord, LeftWord, RightWord, NonassocWord, PrologueWord, UnionWord, TypeWord, NoKeyword}
use Rattle.keywords.specs.declared.Seen.{Seen}
use Rattle.keywords.specs.Keywords.{Entry, keywords, knows, first_of, seen_at}
use Rattle.keywords.proofs.Laws.{sees}
use Rattle.grammar.specs.declared.State.{State}
use Rattle.grammar.specs.declared.Repeat.TheVariants.{RepeatedAvoidInsert, RepeatedImplicitTokens}
use Rattle.grammar.specs.declared.Refusal.{Refusal}
use Rattle.grammar.specs.State.{with_at, gap_at}
use Rattle.grammar.proofs.Kept.{onward_keep}
use Rattle.lists.specs.declared.WordList.TheVariants.{TokenList, UnusedList, TypeList}
use Rattle.lines.specs.Grown.{third, fourth}
use Rattle.declarations.specs.Declarations.{Declared, Out, by_keyword, decl_step, after_end, decl_turn, decl_run, all_from, decl_all}
use Rattle.refusals.specs.Steps.{GapIn, SitedOut}
use Rattle.refusals.proofs.Steps.{gap_in}
use Rattle.refusals.proofs.Settings.{start_in, expect_in, actiontype_in, param_in, generics_in}
use Rattle.refusals.proofs.Bodies.{prologue_in, union_in}
use Rattle.refusals.proofs.Lists.{list_in}
use Rattle.refusals.proofs.Lines.{prec_in, avoid_in}
use Rattle.refusals.proofs.Epps.{epp_in}
use Rattle.refusals.proofs.KindKept.{by_kind}

-- a keyword of a body is there where P alone
abbrev Allows : Type 0 → Keyword → Type 0
Allows P Percents = Unit {0}
Allows P TokenWord = Unit {0}
Allows P ActiontypeWord = Unit {0}
Allows P StartWord = Unit {0}
Allows P EppWord = Unit {0}
Allows P ExpectRrWord = Unit {0}
Allows P ExpectUnusedWord = Unit {0}
Allows P ExpectWord = Unit {0}
Allows P AvoidInsertWord = Unit {0}
Allows P ParseParamWord = Unit {0}
Allows P ParseGenericsWord = Unit {0}
Allows P ImplicitTokensWord = Unit {0}
Allows P LeftWord = Unit {0}
Allows P RightWord = Unit {0}
Allows P NonassocWord = Unit {0}
Allows P PrologueWord = P
Allows P UnionWord = P
Allows P TypeWord = Unit {0}
Allows P NoKeyword = Unit {0}

module _ (P : Type 0) (kind : ℕ) (k : kind ≡ 4 → P) (src : List ℕ) (at : ℕ) where
  abbrev Telling : List Entry → Type 0
  Telling [] = Unit {0}
  Telling (e ∷ es) = (knows kind e.kinds ≡ true → Allows P e.is) × Telling es

  first_allowed : (es : List Entry) → Telling es → Allows P (first_of es kind src at).word
  unfolding first_of
  first_allowed [] x = tt
  first_allowed (e ∷ es) x =
      on_test (λ (r : Seen). Allows P r.word) (knows kind e.kinds && starts_at e.word src at) _ _
      (λ t. x.0 ((and-eq-true_iff (knows kind e.kinds) _).0 t).0)
      (λ t. first_allowed es x.1)

  posix : knows kind (4 ∷ []) ≡ true → P
  posix h = k (eqb-true kind 4 (sym (or-false (eqb kind 4)) ∙ h))

  allowed : Allows P (seen_at kind src at).word
  unfolding seen_at
  allowed = first_allowed keywords (λ h. tt, (λ h. tt, (λ h. tt, (λ h. tt, (λ h. tt, (λ h. tt, (λ h. tt, (λ h. tt, (λ h. tt, (λ h. tt, (λ h. tt, (λ h. tt, (λ h. tt, (λ h. tt, (λ h. tt, (posix, (posix, (λ h. tt, tt))))))))))))))))))

module _ (src : List ℕ) (P : Type 0) (s : State) (h : s.at ≤ length src) (f : s.kind ≡ 4 → P) (D : Declared) where
  by_keyword_lem : (w : Keyword) → Allows P w → (j : ℕ) → j ≤ length src → SitedOut src P (by_keyword w src s (with_at s j) D)
  by_keyword_lem Percents q j k = record { here = h; stops = tt }
  by_keyword_lem TokenWord q j k = list_in src P (with_at s j) k f TokenList D.t1 D.t15 D.t16
  by_keyword_lem ActiontypeWord q j k = actiontype_in src P (with_at s j) k D.t10
  by_keyword_lem StartWord q j k = start_in src P (with_at s j) k D.t10
  by_keyword_lem EppWord q j k = epp_in src P (with_at s j) k D.t5 D.t10
  by_keyword_lem ExpectRrWord q j k = expect_in src P (with_at s j) k true D.t10
  by_keyword_lem ExpectUnusedWord q j k = list_in src P (with_at s j) k f UnusedList D.t6 D.t15 D.t16
  by_keyword_lem ExpectWord q j k = expect_in src P (with_at s j) k false D.t10
  by_keyword_lem AvoidInsertWord q j k = avoid_in src P _ third RepeatedAvoidInsert (with_at s j) k D.t1 D.t3 D.t10
  by_keyword_lem ParseParamWord q j k = param_in src P (with_at s j) k
  by_keyword_lem ParseGenericsWord q j k = generics_in src P (with_at s j) k
  by_keyword_lem ImplicitTokensWord q j k = avoid_in src P _ fourth RepeatedImplicitTokens (with_at s j) k D.t1 D.t4 D.t10
  by_keyword_lem LeftWord q j k = prec_in src P (with_at s j) k f 1 D.t2 D.t10 D.t15 D.t16
  by_keyword_lem RightWord q j k = prec_in src P (with_at s j) k f 2 D.t2 D.t10 D.t15 D.t16
  by_keyword_lem NonassocWord q j k = prec_in src P (with_at s j) k f 3 D.t2 D.t10 D.t15 D.t16
  by_keyword_lem PrologueWord q j k = prologue_in src P (with_at s j) k q s.at h D.t17
  by_keyword_lem UnionWord q j k = union_in src P (with_at s j) k q s.at h D.t17
  by_keyword_lem TypeWord q j k = list_in src P (with_at s j) k f TypeList D.t6 D.t15 D.t16
  by_keyword_lem NoKeyword q j k = record { here = h; stops = h }

  step_in : SitedOut src P (decl_step src s D)
  unfolding decl_step
  step_in = by_keyword_lem (seen_at s.kind src s.at).word (allowed P s.kind f src s.at) (seen_at s.kind src s.at).end (sees s.kind src s.at h).inside

-- the section under way, of a kind
abbrev Declaring : List ℕ → Type 0 → ℕ → Out → Type 0
Declaring src P kind o = SitedOut src P o × (o.state.kind ≡ kind)

turn_in : (src : List ℕ) (P : Type 0) (kind : ℕ) → (kind ≡ 4 → P) → (o : Out) → Declaring src P kind o → Either (Declaring src P kind) (Declaring src P kind) (decl_turn src o)
unfolding decl_turn decl_step
turn_in src P kind f o x = go (leb (length src) o.state.at)
  where
    next : Out
    next = decl_step src o.state o.tables

    kept : let r = seen_at o.state.kind src o.state.at in (by_keyword r.word src o.state (with_at o.state r.end) o.tables).state.kind ≡ kind
    kept = let r = seen_at o.state.kind src o.state.at in by_kind src kind o.state x.1 o.tables r.word r.end

    go : (b : Bool) → Either (Declaring src P kind) (Declaring src P kind) (after_end b o (decl_step src o.state o.tables))
    go true = (record { here = x.0.here; stops = x.0.here }, x.1)
    go false = onward_keep (Declaring src P kind) next.answer next (step_in src P o.state x.0.here (λ e. f (sym x.1 ∙ e)) o.tables, kept)

-- What only kind 4 has is refused in kind 4 alone.
pub declarations_in : (src : List ℕ) (P : Type 0) (s : State) (D : Declared) → s.at ≤ length src → (s.kind ≡ 4 → P) → SitedOut src P (decl_all src s D)
unfolding decl_all decl_run
declarations_in src P s D h f = go (gap_at s.kind true src s.at) (gap_in s.kind true src P s.at h)
  where
    go : (g : Result (ℕ × ℕ) Refusal) → GapIn src P s.at g → SitedOut src P (all_from g src s D)
    go (Ok (i, n)) x = (turns_keep (Declaring src P s.kind) (decl_turn src) (turn_in src P s.kind f) (suc (length src)) _ (record { here = x.inside; stops = tt }, refl)).0
    go (Err e) x = record { here = h; stops = x }
