-- The declarations of a section that was read, and where they stand in the source. Assumes nothing.
use Rattle.std.specs.Prelude.{Result, Ok, Err}
use Prim.Native.Nat.{ℕ, zero, suc, ◌≤◌, ◌<◌}
use mathlib.Core.Path.{◌≡◌, refl, sym, ◌∙◌, ap}
use mathlib.Core.List.{List, [], ◌∷◌}
use mathlib.Core.Bool.{Bool, true, false}
use mathlib.Core.Logic.{⊎_elim}
use native.Mathlib.Omega.{arith}
use borrow.Author.Tests.{leb-false, le-leb}
use lib.Dec.{leb}
use lib.ListN.{length}
use Rattle.scan.specs.Loop.{stop, turns}
use Rattle.scan.proofs.Bytes.{told, le_or_lt}
use Rattle.whole.specs.Encode.{Text}
use Rattle.keywords.specs.declared.Keyword.{Keyword}
use Rattle.keywords.specs.declared.Keyword.TheVariants.{Percents, TokenWord, ActiontypeWord, StartWord, EppWord, ExpectRrWord, ExpectUnusedWord, ExpectWord, AvoidInsertWord, ParseParamWord, ParseGenericsWord, ImplicitTokensWord, LeftWord, RightWord, NonassocWord, PrologueWord, UnionWord, TypeWord, NoKeyword}
use Rattle.keywords.specs.Keywords.{seen_at}
use Rattle.tables.specs.Layout.{avoided, implicit}
use Rattle.grammar.specs.declared.State.{State}
use Rattle.grammar.specs.declared.Answer.{Answer}
use Rattle.grammar.specs.declared.Answer.TheVariants.{Going, Done, Refused}
use Rattle.grammar.specs.declared.Refusal.{Refusal}
use Rattle.grammar.specs.declared.Refusal.TheVariants.{Fault}
use Rattle.grammar.specs.declared.Cause.TheVariants.{PrematureEnd}
use Rattle.grammar.specs.declared.Repeat.{Repeat}
use Rattle.grammar.specs.declared.Repeat.TheVariants.{RepeatedAvoidInsert, RepeatedImplicitTokens}
use Rattle.grammar.specs.Sound.{AllTables, Far}
use Rattle.grammar.specs.State.{Gapped, with_at, gap_at, onward}
use Rattle.grammar.proofs.Far.{far_at}
use Rattle.grammar.proofs.Kept.{gapped}
use Rattle.grammar.proofs.Touch.{refused_going, done_going}
use Rattle.lists.specs.declared.WordList.{WordList}
use Rattle.lists.specs.declared.WordList.TheVariants.{TokenList, UnusedList}
use Rattle.lines.specs.Grown.{third, fourth}
use Rattle.lines.specs.Avoided.{avoid_decl}
use Rattle.declarations.specs.Declarations.{Declared, Out, by_keyword, decl_step, decl_turn, decl_run, all_from, decl_all}
use Rattle.declarations.proofs.Far.{all, step_far}
use Rattle.alike.specs.Like.{Kind}
use Rattle.alike.proofs.Steps.{not_four}
use Rattle.alike.proofs.Again.{turns_more, turns_stop}
use Rattle.alike.proofs.Agree.{clash}
use Rattle.printed.specs.Stands.{Spelled}
use Rattle.printed.specs.Decls.{Decl, list_keyword, left, right, nonassoc, avoid_insert, implicit_tokens, SeenTo, Decl1, listed1, prec1, names1, start1, expect1, actiontype1, generics1, epp1, param1, Decls1, end1, skip1, decl1, Section1}
use Rattle.printed.proofs.Seen.{known, seen_edge}
use Rattle.printed.proofs.Lists.{token_spelled, unused_spelled_lem}
use Rattle.printed.proofs.PrecLine.{prec_spelled}
use Rattle.printed.proofs.AvoidLine.{avoid_spelled}
use Rattle.printed.proofs.Settings.{start_spelled, expect_spelled, actiontype_spelled, generics_spelled}
use Rattle.printed.proofs.Epp.{epp_spelled}
use Rattle.printed.proofs.Param.{param_spelled}
use Rattle.printed.proofs.Arms.{seen_inside}
use Rattle.printed.proofs.Lines.{Open}
use Rattle.printed.proofs.Undone.{Stepped, fine, over, step_fine}

-- what stands from i to k: a declaration, or a list with no word
pub data Step1 (kind : ℕ) (src : List ℕ) (i k : ℕ) : Type 0 where
  some : {d : Decl} → Decl1 kind src i k d → Step1 kind src i k
  nothing : (what : WordList) (e : ℕ) → SeenTo kind src i (list_keyword what) e → Spelled what kind src e k [] → Step1 kind src i k

-- T1: a declaration that was read, with something behind it
module _ (src : List ℕ) (text : Text src) (s : State) (D : Declared) (kinds : Kind s.kind) (ten : length s.counts.n ≡ 10) (here : s.at ≤ length src) where
  list_one : (what : WordList) (j k : ℕ) → SeenTo s.kind src s.at (list_keyword what) j → (xs : List (List ℕ)) → Spelled what s.kind src j k xs → Step1 s.kind src s.at k
  list_one what j k e [] l = nothing what j e l
  list_one what j k e (x ∷ xs) l = some (listed1 what j e tt l)

  -- a list of names at the source's end stays there
  avoid_low : (k : ℕ) (what : Repeat) (v : State) (t1 t t10 : List ℕ) → (avoid_decl src v k what t1 t t10).state.at < length src → v.at < length src
  unfolding avoid_decl
  avoid_low k what v t1 t t10 l = ⊎_elim (λ h. let z : v.at < length src = rw (le-leb (length src) v.at h, avoid_decl) at l in z) (λ h. h) (le_or_lt (length src) v.at)

  by_word : (w : Keyword) (j : ℕ) → SeenTo s.kind src s.at w j → let o = by_keyword w src s (with_at s j) D in o.answer ≡ Going → o.state.at < length src → Step1 s.kind src s.at o.state.at
  by_word Percents j e g l = absurd (done_going g)
  by_word TokenWord j e g l = let (xs, y) = token_spelled src (with_at s j) D.t1 D.t15 D.t16 ten (not_four kinds) g in list_one TokenList j _ e xs y
  by_word ActiontypeWord j e g l = let (x, y) = actiontype_spelled src (with_at s j) D.t10 (seen_inside s.kind src s.at j _ here e) g l in some (actiontype1 j e y)
  by_word StartWord j e g l = let (x, y) = start_spelled src (with_at s j) D.t10 g in some (start1 j e y)
  by_word EppWord j e g l = let (x, z, y) = epp_spelled src (with_at s j) D.t5 D.t10 ten g in some (epp1 j e y)
  by_word ExpectRrWord j e g l = let (v, x, y) = expect_spelled src (with_at s j) D.t10 true g in some (expect1 true v j e y)
  by_word ExpectUnusedWord j e g l = let (xs, y) = unused_spelled_lem src (with_at s j) D.t6 D.t15 D.t16 ten g in list_one UnusedList j _ e xs y
  by_word ExpectWord j e g l = let (v, x, y) = expect_spelled src (with_at s j) D.t10 false g in some (expect1 false v j e y)
  by_word AvoidInsertWord j e g l = let (xs, y) = avoid_spelled src avoided third RepeatedAvoidInsert (with_at s j) D.t1 D.t3 D.t10 ten (avoid_low avoided RepeatedAvoidInsert (with_at s j) D.t1 D.t3 D.t10 l) g l in some (names1 j avoid_insert e y)
  by_word ParseParamWord j e g l = let (x, z, y) = param_spelled src (with_at s j) text (seen_edge src text s.kind s.at j _ e (λ z. clash cc)) (seen_inside s.kind src s.at j _ here e) g l in some (param1 j e y)
  by_word ParseGenericsWord j e g l = let (x, y) = generics_spelled src (with_at s j) [] (seen_inside s.kind src s.at j _ here e) g l in some (generics1 j e y)
  by_word ImplicitTokensWord j e g l = let (xs, y) = avoid_spelled src implicit fourth RepeatedImplicitTokens (with_at s j) D.t1 D.t4 D.t10 ten (avoid_low implicit RepeatedImplicitTokens (with_at s j) D.t1 D.t4 D.t10 l) g l in some (names1 j implicit_tokens e y)
  by_word LeftWord j e g l = let (xs, y) = prec_spelled src (with_at s j) 1 D.t2 D.t10 D.t15 D.t16 (not_four kinds) ten (seen_inside s.kind src s.at j _ here e) g l in some (prec1 j left e y)
  by_word RightWord j e g l = let (xs, y) = prec_spelled src (with_at s j) 2 D.t2 D.t10 D.t15 D.t16 (not_four kinds) ten (seen_inside s.kind src s.at j _ here e) g l in some (prec1 j right e y)
  by_word NonassocWord j e g l = let (xs, y) = prec_spelled src (with_at s j) 3 D.t2 D.t10 D.t15 D.t16 (not_four kinds) ten (seen_inside s.kind src s.at j _ here e) g l in some (prec1 j nonassoc e y)
  by_word PrologueWord j e g l = absurd (known kinds src s.at j PrologueWord e (λ z. clash cc))
  by_word UnionWord j e g l = absurd (known kinds src s.at j UnionWord e (λ z. clash cc))
  by_word TypeWord j e g l = absurd (known kinds src s.at j TypeWord e (λ z. clash cc))
  by_word NoKeyword j e g l = absurd (refused_going _ g)

  step_spelled : (decl_step src s D).answer ≡ Going → (decl_step src s D).state.at < length src → Step1 s.kind src s.at (decl_step src s D).state.at
  unfolding decl_step
  step_spelled g l = by_word (seen_at s.kind src s.at).word (seen_at s.kind src s.at).end refl g l

-- a turn of the section, by whether the source ends and by its declaration
pub turn_end : (src : List ℕ) (o : Out) → leb (length src) o.state.at ≡ true → decl_turn src o ≡ stop (record { answer = Refused (Fault PrematureEnd o.state.at); state = o.state; tables = o.tables })
unfolding decl_turn
turn_end src o h = rw h

pub turn_step : (src : List ℕ) (o : Out) (a : Answer) → leb (length src) o.state.at ≡ false → (decl_step src o.state o.tables).answer ≡ a → decl_turn src o ≡ onward a (decl_step src o.state o.tables)
unfolding decl_turn
turn_step src o a h e = rw h (ap (λ (b : Answer). onward b (decl_step src o.state o.tables)) e)

pub refused_done : (f : Refusal) → Refused f ≡ Done → ⊥
refused_done f e = clash cc

-- a section that comes to its end does not stand at the source's end before
pub low_before : (src : List ℕ) (n : ℕ) (o : Out) → o.answer ≡ Going → (turns n (decl_turn src) o).answer ≡ Done → o.state.at < length src
unfolding turns
low_before src zero o g h = absurd (done_going (sym h ∙ g))
low_before src (suc n) o g h = go (leb (length src) o.state.at) refl
  where
    go : (b : Bool) → leb (length src) o.state.at ≡ b → o.state.at < length src
    go true e = absurd (refused_done _ (told (λ (x : Out). x.answer ≡ Done) (turns_stop (decl_turn src) n o _ (turn_end src o e)) h))
    go false e = leb-false _ _ e

-- The declarations that a section holds, up to its `%%`.
module _ (src : List ℕ) (text : Text src) (done : ℕ) (T : AllTables) where
  abbrev Held : Out → ℕ → Type 0
  Held o k = (ds : List Decl) × Decls1 o.state.kind src o.state.at k ds

  add : (kind i j k : ℕ) → Step1 kind src i j → (ds : List Decl) × Decls1 kind src j k ds → (ds : List Decl) × Decls1 kind src i k ds
  add kind i j k (some {d} x) (ds, y) = (d ∷ ds, decl1 x y)
  add kind i j k (nothing what e z l) (ds, y) = (ds, skip1 what e z l y)

  run_spelled : (n : ℕ) (o : Out) → Kind o.state.kind → Far src done o.state (all o.tables T) → o.answer ≡ Going → (turns n (decl_turn src) o).answer ≡ Done → Held o (turns n (decl_turn src) o).state.at
  unfolding turns
  run_spelled zero o kinds f g h = absurd (done_going (sym h ∙ g))
  run_spelled (suc n) o kinds f g h = go (run_spelled n) (leb (length src) o.state.at) refl
    where
      Rest : Type 0
      Rest = (o : Out) → Kind o.state.kind → Far src done o.state (all o.tables T) → o.answer ≡ Going → (turns n (decl_turn src) o).answer ≡ Done → Held o (turns n (decl_turn src) o).state.at

      s : State
      s = o.state

      p : Out
      p = decl_step src o.state o.tables

      w : Keyword
      w = (seen_at s.kind src s.at).word

      j : ℕ
      j = (seen_at s.kind src s.at).end

      stepped : Stepped src s o.tables (not_four kinds) w p
      stepped = step_fine src s o.tables (not_four kinds) w j refl (λ d. known kinds src s.at j w refl d)

      go : Rest → (b : Bool) → leb (length src) s.at ≡ b → Held o (turns (suc n) (decl_turn src) o).state.at
      go rest true e = absurd (refused_done _ (told (λ (x : Out). x.answer ≡ Done) (turns_stop (decl_turn src) n o _ (turn_end src o e)) h))
      go rest false e = next p.answer refl stepped
        where
          next : (a : Answer) → p.answer ≡ a → Stepped src s o.tables (not_four kinds) w p → Held o (turns (suc n) (decl_turn src) o).state.at
          next Going q (over z y) = absurd (done_going (sym (ap (λ (x : Out). x.answer) y) ∙ q))
          next Going q (fine x) =
              let t = turns_more (decl_turn src) n o p (turn_step src o Going e q) in
              let h' = told (λ (x : Out). x.answer ≡ Done) t h in
              let l = low_before src n p q h' in
              let one = step_spelled src text s o.tables kinds f.ten f.here q l in
              let (ds, y) = rest p (told Kind (sym x.kept) kinds) (step_far T f) q h' in
              rw t (add s.kind s.at p.state.at _ one (ds, told (λ (kd : ℕ). Decls1 kd src p.state.at (turns n (decl_turn src) p).state.at ds) x.kept y))
          next Done q (fine x) = absurd (told Open q x.undone)
          next Done q (over z y) =
              let t = turns_stop (decl_turn src) n o p (turn_step src o Done e q) ∙ y in
              rw t ([], end1 j (told (λ (v : Keyword). SeenTo s.kind src s.at v j) z refl))
          next (Refused r) q x = absurd (refused_done r (sym q ∙ told (λ (x : Out). x.answer ≡ Done) (turns_stop (decl_turn src) n o p (turn_step src o (Refused r) e q)) h))

  pub section_spelled : (s : State) (D : Declared) → Kind s.kind → Far src done s (all D T) → (decl_all src s D).answer ≡ Done → (ds : List Decl) × Section1 s.kind src s.at (decl_all src s D).state.at ds
  unfolding decl_all decl_run
  section_spelled s D kinds f = go (gap_at s.kind true src s.at) refl (gapped s.kind true src s.at f.here)
    where
      go : (g : Result (ℕ × ℕ) Refusal) → gap_at s.kind true src s.at ≡ g → Gapped src s.at g → (all_from g src s D).answer ≡ Done → (ds : List Decl) × Section1 s.kind src s.at (all_from g src s D).state.at ds
      go (Ok (i, n)) e x h =
          let a = x.0 in
          let (ds, y) = run_spelled (suc (length src)) (record { answer = Going; state = with_at s i; tables = D }) kinds (far_at f i (omega arith) x.1) refl h in
          (ds, record { from = i; lines = n; gap = e; decls = y })
      go (Err r) e x h = absurd (refused_done r h)
