-- The declarations of a section that was read, shipped in front of `%%`, are read as the same declarations, and the readings are alike. Assumes nothing.
use Rattle.std.specs.Prelude.{Result}
use Prim.Native.Nat.{ℕ, zero, suc, ◌+◌, ◌-◌, ◌<◌}
use mathlib.Core.Path.{◌≡◌, refl, sym, ◌∙◌, ap}
use mathlib.Core.List.{List, [], ◌∷◌, ◌++◌}
use mathlib.Core.Bool.{true, false}
use native.Mathlib.Omega.{arith}
use borrow.Author.Tests.{lt-leb}
use lib.ListN.{length, drop, length-append, length-drop}
use Rattle.scan.specs.Loop.{turns}
use Rattle.scan.proofs.Bytes.{told, drop_below}
use Rattle.keywords.specs.declared.Keyword.{Keyword}
use Rattle.keywords.specs.declared.Keyword.TheVariants.{Percents, TokenWord, ExpectUnusedWord, TypeWord}
use Rattle.grammar.specs.declared.State.{State}
use Rattle.grammar.specs.declared.Answer.{Answer}
use Rattle.grammar.specs.declared.Answer.TheVariants.{Going, Done, Refused}
use Rattle.grammar.specs.declared.Refusal.{Refusal}
use Rattle.grammar.specs.Sound.{AllTables}
use Rattle.grammar.specs.State.{with_at}
use Rattle.grammar.proofs.Touch.{done_going}
use Rattle.lists.specs.declared.WordList.{WordList}
use Rattle.lists.specs.declared.WordList.TheVariants.{TokenList, UnusedList, TypeList}
use Rattle.declarations.specs.Declarations.{Out, decl_step, decl_turn, decl_run, all_from, decl_all}
use Rattle.sections.specs.Sections.{declared, with_declared}
use Rattle.alike.specs.Like.{Kind, Near}
use Rattle.alike.proofs.Steps.{not_four}
use Rattle.alike.proofs.Near.{near_at}
use Rattle.alike.proofs.Again.{turns_more, turns_stop}
use Rattle.alike.proofs.Solid.{gap_none}
use Rattle.alike.proofs.Front.{percent_solid}
use Rattle.alike.proofs.Agree.{clash}
use Rattle.printed.specs.Print.{words}
use Rattle.printed.specs.Stands.{Spelled}
use Rattle.printed.specs.Decls.{Decl, listed, lined, single, paired, param, spell, list_keyword, keyword_of, body_text, decl_text, decls_text, left, right, nonassoc, avoid_insert, implicit_tokens, SeenTo, Decl1, listed1, prec1, names1, start1, expect1, actiontype1, generics1, epp1, param1, Decls1, end1, skip1, decl1, Section1}
use Rattle.printed.proofs.Seen.{seen_percents, known}
use Rattle.printed.proofs.Loops.{told_both}
use Rattle.printed.proofs.Lists.{list_none}
use Rattle.printed.proofs.Lines.{Open}
use Rattle.printed.proofs.Arms.{step_is, decl_ships}
use Rattle.printed.proofs.Undone.{Stepped, fine, over, step_fine}
use Rattle.printed.proofs.Section.{turn_step, refused_done, low_before}

-- a declaration begins with `%`, has more bytes than what stands behind it, and is not `%%`
module _ (kind : ℕ) (kinds : Kind kind) (src : List ℕ) (i k : ℕ) where
  decl_front : (d : Decl) → Decl1 kind src i k d → (rest : List ℕ) → (c : List ℕ) × (decl_text d rest ≡ 37 ∷ c)
  decl_front d (listed1 TokenList j e some l) rest = (_, refl)
  decl_front d (listed1 UnusedList j e some l) rest = (_, refl)
  decl_front d (listed1 TypeList j e some l) rest = absurd (known kinds src i j TypeWord e (λ z. clash cc))
  decl_front d (prec1 j left e l) rest = (_, refl)
  decl_front d (prec1 j right e l) rest = (_, refl)
  decl_front d (prec1 j nonassoc e l) rest = (_, refl)
  decl_front d (names1 j avoid_insert e l) rest = (_, refl)
  decl_front d (names1 j implicit_tokens e l) rest = (_, refl)
  decl_front d (start1 j e l) rest = (_, refl)
  decl_front d (expect1 true v j e l) rest = (_, refl)
  decl_front d (expect1 false v j e l) rest = (_, refl)
  decl_front d (actiontype1 j e l) rest = (_, refl)
  decl_front d (generics1 j e l) rest = (_, refl)
  decl_front d (epp1 j e l) rest = (_, refl)
  decl_front d (param1 j e l) rest = (_, refl)

  record Other : Type 0 where
    word : Keyword
    end : ℕ
    seen : SeenTo kind src i word end
    apart : word ≡ Percents → ⊥

  decl_other : (d : Decl) → Decl1 kind src i k d → Other
  decl_other d (listed1 TokenList j e some l) = record { word = _; end = j; seen = e; apart = λ z. clash cc }
  decl_other d (listed1 UnusedList j e some l) = record { word = _; end = j; seen = e; apart = λ z. clash cc }
  decl_other d (listed1 TypeList j e some l) = record { word = _; end = j; seen = e; apart = λ z. clash cc }
  decl_other d (prec1 j left e l) = record { word = _; end = j; seen = e; apart = λ z. clash cc }
  decl_other d (prec1 j right e l) = record { word = _; end = j; seen = e; apart = λ z. clash cc }
  decl_other d (prec1 j nonassoc e l) = record { word = _; end = j; seen = e; apart = λ z. clash cc }
  decl_other d (names1 j avoid_insert e l) = record { word = _; end = j; seen = e; apart = λ z. clash cc }
  decl_other d (names1 j implicit_tokens e l) = record { word = _; end = j; seen = e; apart = λ z. clash cc }
  decl_other d (start1 j e l) = record { word = _; end = j; seen = e; apart = λ z. clash cc }
  decl_other d (expect1 true v j e l) = record { word = _; end = j; seen = e; apart = λ z. clash cc }
  decl_other d (expect1 false v j e l) = record { word = _; end = j; seen = e; apart = λ z. clash cc }
  decl_other d (actiontype1 j e l) = record { word = _; end = j; seen = e; apart = λ z. clash cc }
  decl_other d (generics1 j e l) = record { word = _; end = j; seen = e; apart = λ z. clash cc }
  decl_other d (epp1 j e l) = record { word = _; end = j; seen = e; apart = λ z. clash cc }
  decl_other d (param1 j e l) = record { word = _; end = j; seen = e; apart = λ z. clash cc }

body_longer : (d : Decl) (rest : List ℕ) → length rest < length (body_text d rest)
body_longer (listed what xs) rest = rw (length-append (words xs) (10 ∷ rest)) (omega arith)
body_longer (lined w xs) rest = rw (length-append (words xs) (10 ∷ rest)) (omega arith)
body_longer (single w x) rest = rw (length-append x (10 ∷ rest)) (omega arith)
body_longer (paired x y) rest = rw (length-append x (32 ∷ (y ++ (10 ∷ rest))), length-append y (10 ∷ rest)) (omega arith)
body_longer (param x y) rest = rw (length-append x (58 ∷ (32 ∷ (y ++ (10 ∷ rest)))), length-append y (10 ∷ rest)) (omega arith)

text_longer : (d : Decl) (rest : List ℕ) → length rest < length (decl_text d rest)
text_longer d rest = let b = body_longer d rest in rw (length-append (spell (keyword_of d)) (body_text d rest)) (omega arith)

-- so there is less to go behind it
further : (out : List ℕ) (i j : ℕ) (d : Decl) (rest : List ℕ) → drop i out ≡ decl_text d rest → drop j out ≡ rest → length out - j < length out - i
further out i j d rest p q =
    let a = length-drop i out in
    let b = length-drop j out in
    let c : length (drop i out) ≡ length (decl_text d rest) = ap length p in
    let e : length (drop j out) ≡ length rest = ap length q in
    let l = text_longer d rest in
    omega arith

-- declarations begin with `%`
pub decls_front : (kind : ℕ) → Kind kind → (src : List ℕ) {i k : ℕ} {ds : List Decl} → Decls1 kind src i k ds → (cs : List ℕ) → (c : List ℕ) × (decls_text ds (37 ∷ 37 ∷ cs) ≡ 37 ∷ c)
unfolding decls_text
decls_front kind kinds src (end1 j e) cs = (37 ∷ cs, refl)
decls_front kind kinds src (skip1 what e z l rest) cs = decls_front kind kinds src rest cs
decls_front kind kinds src (decl1 {i = i} {j = j} {d = d} {ds = ds} x rest) cs = decl_front kind kinds src i j d x (decls_text ds (37 ∷ 37 ∷ cs))

module _ (src out : List ℕ) (T W : AllTables) (cs : List ℕ) where
  abbrev Both : Out → Out → Type 0
  Both o z = Near src out o.state z.state (with_declared T o.tables) (with_declared W z.tables)

  -- both sections come to their ends
  pub record Done2 (kind i : ℕ) (ds : List Decl) (x y : Out) : Type 0 where
    pub ended : y.answer ≡ Done
    pub near : Both x y
    pub left : drop y.state.at out ≡ 37 ∷ 37 ∷ cs
    pub there : Decls1 kind out i y.state.at ds

  percents_step : (r : List ℕ) (o : Out) (j : ℕ) → SeenTo o.state.kind r o.state.at Percents j → decl_step r o.state o.tables ≡ record { answer = Done; state = o.state; tables = o.tables }
  percents_step r o j e = step_is r o.state o.tables Percents j e

  percents_end : (r : List ℕ) (n : ℕ) (o : Out) (j : ℕ) → SeenTo o.state.kind r o.state.at Percents j → o.state.at < length r → turns (suc n) (decl_turn r) o ≡ record { answer = Done; state = o.state; tables = o.tables }
  percents_end r n o j e l =
      let p = percents_step r o j e in
      turns_stop (decl_turn r) n o _ (turn_step r o Done (lt-leb (length r) o.state.at l) (ap (λ (x : Out). x.answer) p)) ∙ p

  -- a list with no word: the first reading moves on
  skipped : (o z : Out) → Both o z → (what : WordList) (e k : ℕ) → SeenTo o.state.kind src o.state.at (list_keyword what) e → Spelled what o.state.kind src e k []
      → let p = decl_step src o.state o.tables in (p.answer ≡ Going) × (p.state.at ≡ k) × Both p z
  skipped o z n TokenList e k h l = rw (step_is src o.state o.tables TokenWord e h) (list_none TokenList src out (with_at o.state e) z.state (with_declared T o.tables) (with_declared W z.tables) (near_at src out o.state z.state _ _ n e z.state.at) k l)
  skipped o z n UnusedList e k h l = rw (step_is src o.state o.tables ExpectUnusedWord e h) (list_none UnusedList src out (with_at o.state e) z.state (with_declared T o.tables) (with_declared W z.tables) (near_at src out o.state z.state _ _ n e z.state.at) k l)
  skipped o z n TypeList e k h l = absurd (known n.like.shipped src o.state.at e TypeWord h (λ z. clash cc))

  -- a declaration of a section that comes to its end goes on
  step_goes : (n : ℕ) (o : Out) → Kind o.state.kind → (k : ℕ) (d : Decl) → Decl1 o.state.kind src o.state.at k d → o.state.at < length src → (turns (suc n) (decl_turn src) o).answer ≡ Done
      → let p = decl_step src o.state o.tables in (p.answer ≡ Going) × (p.state.kind ≡ o.state.kind)
  step_goes n o kinds k d x l h = go p.answer refl (step_fine src o.state o.tables (not_four kinds) y.word y.end y.seen (λ z. known kinds src o.state.at y.end y.word y.seen z))
    where
      p : Out
      p = decl_step src o.state o.tables

      y : Other o.state.kind kinds src o.state.at k
      y = decl_other o.state.kind kinds src o.state.at k d x

      go : (a : Answer) → p.answer ≡ a → Stepped src o.state o.tables (not_four kinds) y.word p → (p.answer ≡ Going) × (p.state.kind ≡ o.state.kind)
      go Going e (fine z) = (e, z.kept)
      go Going e (over z q) = absurd (y.apart z)
      go Done e (fine z) = absurd (told Open e z.undone)
      go Done e (over z q) = absurd (y.apart z)
      go (Refused f) e z = absurd (refused_done f (sym e ∙ told (λ (x : Out). x.answer ≡ Done) (turns_stop (decl_turn src) n o p (turn_step src o (Refused f) (lt-leb (length src) o.state.at l) e)) h))

  run_ships : (n m : ℕ) (o z : Out) {k : ℕ} {ds : List Decl} → Decls1 o.state.kind src o.state.at k ds → o.answer ≡ Going → Both o z → drop z.state.at out ≡ decls_text ds (37 ∷ 37 ∷ cs) → length out - z.state.at < m
      → (turns n (decl_turn src) o).answer ≡ Done → Done2 z.state.kind z.state.at ds (turns n (decl_turn src) o) (turns m (decl_turn out) z)
  unfolding turns decls_text
  run_ships zero m o z x g i q l h = absurd (done_going (sym h ∙ g))
  run_ships (suc n) zero o z x g i q l h = absurd (omega arith)
  run_ships (suc n) (suc m) o z (end1 j e) g i q l h =
      let b = drop_below out z.state.at 37 (37 ∷ cs) q in
      let s = seen_percents out z.state.at cs z.state.kind q in
      rw (percents_end src n o j e (low_before src (suc n) o g h), percents_end out m z (z.state.at + 2) s b) (record { ended = refl; near = i; left = q; there = end1 (z.state.at + 2) s })
  run_ships (suc n) (suc m) o z (skip1 {j = j} {k = k} {ds = ds} what e s l' rest) g i q l h =
      let low = low_before src (suc n) o g h in
      let p = decl_step src o.state o.tables in
      let y = skipped o z i what e j s l' in
      let t = turns_more (decl_turn src) n o p (turn_step src o Going (lt-leb (length src) o.state.at low) y.0) in
      let same : o.state.kind ≡ p.state.kind = i.like.kind ∙ sym y.2.like.kind in
      let rest' : Decls1 p.state.kind src p.state.at k ds = told (λ (a : ℕ). Decls1 p.state.kind src a k ds) (sym y.1) (told (λ (kd : ℕ). Decls1 kd src j k ds) same rest) in
      let r = run_ships n (suc m) p z rest' y.0 y.2 q l (told (λ (x : Out). x.answer ≡ Done) t h) in
      told (λ (x : Out). Done2 z.state.kind z.state.at ds x (turns (suc m) (decl_turn out) z)) (sym t) r
  run_ships (suc n) (suc m) o z (decl1 {j = j} {k = k} {d = d} {ds = ds} x rest) g i q l h =
      let low = low_before src (suc n) o g h in
      let kinds = i.like.shipped in
      let p = decl_step src o.state o.tables in
      let v = decl_step out z.state z.tables in
      let (ans, kept) = step_goes n o kinds j d x low h in
      let (c, f) = decls_front o.state.kind kinds src rest cs in
      let q' : drop z.state.at out ≡ decl_text d (37 ∷ c) = q ∙ ap (λ (y : List ℕ). decl_text d y) f in
      let y = decl_ships src out o.state z.state (with_declared T o.tables) (with_declared W z.tables) i (omega arith) c j d x q' ans in
      let t = turns_more (decl_turn src) n o p (turn_step src o Going (lt-leb (length src) o.state.at low) ans) in
      let (b, w) = decl_front o.state.kind kinds src o.state.at j d x (37 ∷ c) in
      let low' = drop_below out z.state.at 37 b (q' ∙ w) in
      let t' = turns_more (decl_turn out) m z v (turn_step out z Going (lt-leb (length out) z.state.at low') y.going) in
      let left = y.left ∙ sym f in
      let less = further out z.state.at v.state.at d (37 ∷ c) q' y.left in
      let rest' : Decls1 p.state.kind src p.state.at k ds = told (λ (a : ℕ). Decls1 p.state.kind src a k ds) (sym y.here) (told (λ (kd : ℕ). Decls1 kd src j k ds) (sym kept) rest) in
      let r = run_ships n m p v rest' ans y.near left (omega arith) (told (λ (x : Out). x.answer ≡ Done) t h) in
      let same : v.state.kind ≡ z.state.kind = sym y.near.like.kind ∙ kept ∙ i.like.kind in
      told_both (λ (a b : Out). Done2 z.state.kind z.state.at (d ∷ ds) a b) t t'
      (record { ended = r.ended; near = r.near; left = r.left; there = decl1 y.there (told (λ (kd : ℕ). Decls1 kd out v.state.at (turns m (decl_turn out) v).state.at ds) same r.there) })

-- The section: the reading of what is shipped ends where the rules begin, alike, and the same declarations stand in it.
module _ (src out : List ℕ) (s u : State) (T W : AllTables) (n : Near src out s u T W) (cs : List ℕ) where
  pub record SectionShips (ds : List Decl) (x y : Out) : Type 0 where
    pub ended : y.answer ≡ Done
    pub near : Near src out x.state y.state (with_declared T x.tables) (with_declared W y.tables)
    pub left : drop y.state.at out ≡ 37 ∷ 37 ∷ cs
    pub there : Section1 u.kind out u.at y.state.at ds

  pub section_ships : (k : ℕ) (ds : List Decl) → Section1 s.kind src s.at k ds → drop u.at out ≡ decls_text ds (37 ∷ 37 ∷ cs) → (decl_all src s (declared T)).answer ≡ Done → SectionShips ds (decl_all src s (declared T)) (decl_all out u (declared W))
  unfolding decl_all decl_run
  section_ships k ds x q h =
      let (c, f) = decls_front s.kind n.like.shipped src x.decls cs in
      let g = gap_none out u.at (37 ∷ c) (percent_solid c) u.kind true (q ∙ f) in
      let i = x.from in
      let o : Out = record { answer = Going; state = with_at s i; tables = declared T } in
      let z : Out = record { answer = Going; state = u; tables = declared W } in
      let a : decl_all src s (declared T) ≡ turns (suc (length src)) (decl_turn src) o = ap (λ (y : Result (ℕ × ℕ) Refusal). all_from y src s (declared T)) x.gap in
      let b : decl_all out u (declared W) ≡ turns (suc (length out)) (decl_turn out) z = ap (λ (y : Result (ℕ × ℕ) Refusal). all_from y out u (declared W)) g in
      let r = run_ships src out T W cs (suc (length src)) (suc (length out)) o z x.decls refl (near_at src out s u T W n i u.at) q (omega arith) (told (λ (y : Out). y.answer ≡ Done) a h) in
      told_both (SectionShips ds) a b (record { ended = r.ended; near = r.near; left = r.left; there = record { from = u.at; lines = 0; gap = g; decls = r.there } })
