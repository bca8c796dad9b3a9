-- The declarations section lays down the rows of table 2 by lines: a precedence line adds its own, and no other declaration adds one. Assumes nothing.
use Rattle.std.specs.Prelude.{Option, Result, Ok, Err}
use Prim.Native.Nat.{ℕ, suc, ◌+◌, ◌-◌, ◌≤◌, ◌<◌}
use mathlib.Core.Path.{◌≡◌, refl, sym, ◌∙◌}
use mathlib.Core.List.{List}
use mathlib.Core.Bool.{Bool, true, false}
use native.Mathlib.Omega.{arith}
use lib.Dec.{leb}
use lib.ListN.{length, get_or}
use Rattle.scan.proofs.Bytes.{told}
use Rattle.scan.proofs.Loop.{Either, turns_keep, turns_end}
use Rattle.keywords.specs.declared.Keyword.{Keyword}
use Rattle.keywords.specs.declared.Keyword.TheVariants.{Percents, TokenWord, ActiontypeWord, StartWord, EppWord, ExpectRrWord, ExpectUnusedWord, ExpectWord, AvoidInsertWord, ParseParamWord, ParseGenericsWord, ImplicitTokensWord, LeftWord, RightWord, NonassocWord, PrologueWord, UnionWord, TypeWord, NoKeyword}
use Rattle.keywords.specs.Keywords.{seen_at}
use Rattle.keywords.proofs.Laws.{sees}
use Rattle.tables.specs.Layout.{precedences, avoided, implicit, level}
use Rattle.grammar.specs.declared.State.{State}
use Rattle.grammar.specs.declared.Answer.{Answer}
use Rattle.grammar.specs.declared.Answer.TheVariants.{Going, Done, Refused}
use Rattle.grammar.specs.declared.Refusal.{Refusal}
use Rattle.grammar.specs.declared.Repeat.TheVariants.{RepeatedAvoidInsert, RepeatedImplicitTokens}
use Rattle.grammar.specs.State.{Out4, count, with_at, gap_at, Gapped, onward}
use Rattle.grammar.specs.Sound.{AllTables, Far}
use Rattle.grammar.proofs.Far.{far_at}
use Rattle.grammar.proofs.Kept.{gapped}
use Rattle.grammar.proofs.Touch.{refused_going, done_going}
use Rattle.lists.specs.declared.WordList.TheVariants.{TokenList, UnusedList, TypeList}
use Rattle.lines.specs.Precedences.{prec_item, line_end, after_end, prec_turn, prec_list, prec_decl}
use Rattle.lines.proofs.Cases.{prec_cases}
use Rattle.lines.specs.Grown.{third, fourth}
use Rattle.declarations.specs.Declarations.{Declared, Out, in2_10_15_16, by_keyword, decl_step, after_end as section_end, decl_turn, decl_run, all_from, decl_all}
use Rattle.declarations.proofs.Far.{all, FarAll, by_keyword_lem, step_far}
use Rattle.levels.proofs.Onward.{start_onward, expect_onward, actiontype_onward, generics_onward, param_onward, list_onward, avoid_onward, epp_onward, prologue_onward, union_onward}
use Rattle.levels.proofs.Laid.{precedence_row, AllApart, Laid, laid_on, line_onward, laid_line, Numbered, numbered_one}

-- two constructors are never equal
clash : ◌≡◌ {A = ℕ} 0 1 → ⊥
clash z = omega arith

refused_done : (f : Refusal) → Refused f ≡ Done → ⊥
refused_done f e = clash (cc)

-- a precedence list that ends goes on or is refused
abbrev Undone : Out4 → Type 0
Undone o = o.answer ≡ Done → ⊥

turn_undone : (src : List ℕ) (lev assoc : ℕ) (tag : Option (ℕ × ℕ)) (o : Out4) → Undone o → Either Undone Undone (prec_turn src lev assoc tag o)
unfolding prec_turn
turn_undone src lev assoc tag o x = go (leb (length src) o.state.at)
  where
    next : (a : Answer) (p : Out4) → p.answer ≡ a → Either Undone Undone (line_end a p)
    next Going p e = λ d. done_going (sym d ∙ e)
    next Done p e = λ d. done_going (sym d)
    next (Refused f) p e = λ d. refused_done f (sym e ∙ d)

    go : (q : Bool) → Either Undone Undone (after_end q o (prec_item src o.state lev assoc tag o.a o.b o.c o.d))
    go true = x
    go false = let p = prec_item src o.state lev assoc tag o.a o.b o.c o.d in next p.answer p refl

line_undone : (src : List ℕ) (s : State) (assoc : ℕ) (t2 t10 t15 t16 : List ℕ) → Undone (prec_decl src s assoc t2 t10 t15 t16)
unfolding prec_list
line_undone src s assoc t2 t10 t15 t16 =
    prec_cases Undone src s assoc t2 t10 t15 t16
    (λ i n e j tag l. turns_keep Undone (prec_turn src s.level assoc tag) (turn_undone src s.level assoc tag) (suc (length src)) _ (λ d. done_going (sym d)))
    (λ i n e j m tag l c d. done_going (sym d))
    (λ i n e f none. refused_done f)
    (λ f e. refused_done f)

-- the rows' number, from soundness so far
pub far_numbered : {src : List ℕ} {done : ℕ} {s : State} {T : AllTables} → Far src done s T → Numbered (count s precedences) T.t2
far_numbered f = let t = f.tables precedences in record { clean = t.clean; least = λ r h. (t.each r h).least }

abbrev LaidOut : List ℕ → Out → Type 0
LaidOut src o = Laid src o.state.at (count o.state precedences) o.tables.t2

abbrev pub ApartIn : List ℕ → Out → Type 0
ApartIn src o = AllApart src (count o.state precedences) o.tables.t2

-- what a step from the index `at` leaves: where it goes on it is further on, and the section is done with its rows laid down
record Next (src : List ℕ) (at : ℕ) (o : Out) : Type 0 where
  going : o.answer ≡ Going → (at < o.state.at) × LaidOut src o
  done : o.answer ≡ Done → ApartIn src o

module _ {src : List ℕ} {done : ℕ} {s : State} {D : Declared} (T : AllTables) (f : Far src done s (all D T)) (x : Laid src s.at (count s precedences) D.t2) where
  -- a step that leaves table 2 as it was, whose keyword ends at j
  quiet : (j : ℕ) → s.at + 1 < j → (o : Out) → FarAll src done T o → o.tables.t2 ≡ D.t2 → (o.answer ≡ Going → j ≤ o.state.at) → Next src s.at o
  quiet j h o g e on = record { going = λ a. let l = on a in (omega arith, laid_on s.at o.state.at (omega arith) g.here stays); done = λ a. stays.pairs }
    where
      stays : Laid src s.at (count o.state precedences) o.tables.t2
      stays =
          let n = numbered_one (count s precedences) (count o.state precedences) D.t2 (far_numbered f) (told (Numbered (count o.state precedences)) e (far_numbered g)) in
          rw (e, ← n) x

  -- a precedence line
  line : (j : ℕ) → s.at + 1 < j → j ≤ length src → (assoc : ℕ) → Next src s.at (in2_10_15_16 D (prec_decl src (with_at s j) assoc D.t2 D.t10 D.t15 D.t16))
  line j h k assoc = record { going = λ g. (let l = line_onward src (with_at s j) assoc D.t2 D.t10 D.t15 D.t16 k f.ten g s.at (omega arith) x low in omega arith, laid_line src (with_at s j) assoc D.t2 D.t10 D.t15 D.t16 k f.ten g s.at (omega arith) x low); done = λ d. absurd (line_undone src (with_at s j) assoc D.t2 D.t10 D.t15 D.t16 d) }
    where
      low : (r : ℕ) → r < count s precedences → get_or (precedence_row D.t2 r) level 0 < s.level
      low r l = ((f.tables precedences).each r l).earlier

  arm : (w : Keyword) (j : ℕ) → s.at ≤ j → j ≤ length src → ((w ≡ NoKeyword → ⊥) → s.at + 1 < j) → Next src s.at (by_keyword w src s (with_at s j) D)
  arm Percents j h k b = record { going = λ g. absurd (done_going g); done = λ g. x.pairs }
  arm TokenWord j h k b = quiet j (b (λ z. clash (cc))) _ (by_keyword_lem T f TokenWord j h k b) refl (list_onward src (with_at s j) k f.ten TokenList D.t1 D.t15 D.t16)
  arm ActiontypeWord j h k b = quiet j (b (λ z. clash (cc))) _ (by_keyword_lem T f ActiontypeWord j h k b) refl (λ g. actiontype_onward (far_at f j h k))
  arm StartWord j h k b = quiet j (b (λ z. clash (cc))) _ (by_keyword_lem T f StartWord j h k b) refl (λ g. start_onward (far_at f j h k))
  arm EppWord j h k b = quiet j (b (λ z. clash (cc))) _ (by_keyword_lem T f EppWord j h k b) refl (epp_onward src (with_at s j) k f.ten D.t5 D.t10)
  arm ExpectRrWord j h k b = quiet j (b (λ z. clash (cc))) _ (by_keyword_lem T f ExpectRrWord j h k b) refl (λ g. expect_onward (far_at f j h k) true)
  arm ExpectUnusedWord j h k b = quiet j (b (λ z. clash (cc))) _ (by_keyword_lem T f ExpectUnusedWord j h k b) refl (list_onward src (with_at s j) k f.ten UnusedList D.t6 D.t15 D.t16)
  arm ExpectWord j h k b = quiet j (b (λ z. clash (cc))) _ (by_keyword_lem T f ExpectWord j h k b) refl (λ g. expect_onward (far_at f j h k) false)
  arm AvoidInsertWord j h k b = quiet j (b (λ z. clash (cc))) _ (by_keyword_lem T f AvoidInsertWord j h k b) refl (avoid_onward src (with_at s j) k f.ten avoided third RepeatedAvoidInsert D.t1 D.t3 D.t10)
  arm ParseParamWord j h k b = quiet j (b (λ z. clash (cc))) _ (by_keyword_lem T f ParseParamWord j h k b) refl (λ g. param_onward (far_at f j h k))
  arm ParseGenericsWord j h k b = quiet j (b (λ z. clash (cc))) _ (by_keyword_lem T f ParseGenericsWord j h k b) refl (λ g. generics_onward (far_at f j h k))
  arm ImplicitTokensWord j h k b = quiet j (b (λ z. clash (cc))) _ (by_keyword_lem T f ImplicitTokensWord j h k b) refl (avoid_onward src (with_at s j) k f.ten implicit fourth RepeatedImplicitTokens D.t1 D.t4 D.t10)
  arm LeftWord j h k b = line j (b (λ z. clash (cc))) k 1
  arm RightWord j h k b = line j (b (λ z. clash (cc))) k 2
  arm NonassocWord j h k b = line j (b (λ z. clash (cc))) k 3
  arm PrologueWord j h k b = quiet j (b (λ z. clash (cc))) _ (by_keyword_lem T f PrologueWord j h k b) refl (λ g. prologue_onward (far_at f j h k) s.at)
  arm UnionWord j h k b = quiet j (b (λ z. clash (cc))) _ (by_keyword_lem T f UnionWord j h k b) refl (λ g. union_onward (far_at f j h k) s.at)
  arm TypeWord j h k b = quiet j (b (λ z. clash (cc))) _ (by_keyword_lem T f TypeWord j h k b) refl (list_onward src (with_at s j) k f.ten TypeList D.t6 D.t15 D.t16)
  arm NoKeyword j h k b = record { going = λ g. absurd (refused_going _ g); done = λ d. absurd (refused_done _ d) }

  step : Next src s.at (decl_step src s D)
  unfolding decl_step
  step = let y = sees s.kind src s.at f.here in arm (seen_at s.kind src s.at).word (seen_at s.kind src s.at).end y.onward y.inside y.beyond

-- the section under way, and where it stops
record Both (src : List ℕ) (done : ℕ) (T : AllTables) (o : Out) : Type 0 where
  far : FarAll src done T o
  laid : LaidOut src o

abbrev Ends : List ℕ → Out → Type 0
Ends src o = o.answer ≡ Done → ApartIn src o

turn : (src : List ℕ) (done : ℕ) (T : AllTables) (o : Out) → Both src done T o → Either (λ (p : Out). Both src done T p × (length src - p.state.at < length src - o.state.at)) (Ends src) (decl_turn src o)
unfolding decl_turn
turn src done T o z = go (leb (length src) o.state.at)
  where
    next : (a : Answer) (p : Out) → p.answer ≡ a → FarAll src done T p → Next src o.state.at p → Either (λ (p : Out). Both src done T p × (length src - p.state.at < length src - o.state.at)) (Ends src) (onward a p)
    next Going p e f x = let k = x.going e in let l = k.0 in let h = f.here in (record { far = f; laid = k.1 }, omega arith)
    next Done p e f x = x.done
    next (Refused r) p e f x = x.done

    go : (b : Bool) → Either (λ (p : Out). Both src done T p × (length src - p.state.at < length src - o.state.at)) (Ends src) (section_end b o (decl_step src o.state o.tables))
    go true = λ d. absurd (refused_done _ d)
    go false = let p = decl_step src o.state o.tables in next p.answer p refl (step_far T z.far) (step T z.far z.laid)

-- Where the section is done, any two rows of table 2 stand so.
pub section_pairs : (src : List ℕ) (done : ℕ) (s : State) (D : Declared) (T : AllTables) → Far src done s (all D T) → Laid src s.at (count s precedences) D.t2 → (decl_all src s D).answer ≡ Done → ApartIn src (decl_all src s D)
unfolding decl_all decl_run
section_pairs src done s D T f x = go (gap_at s.kind true src s.at) (gapped s.kind true src s.at f.here)
  where
    go : (g : Result (ℕ × ℕ) Refusal) → Gapped src s.at g → Ends src (all_from g src s D)
    go (Ok (i, n)) y =
        let a = y.0 in
        turns_end (Both src done T) (Ends src) (λ o. length src - o.state.at) (decl_turn src) (turn src done T) (suc (length src)) _ (omega arith)
        (record { far = far_at f i (omega arith) y.1; laid = laid_on s.at i (omega arith) y.1 x })
    go (Err e) y = λ d. absurd (refused_done _ d)
