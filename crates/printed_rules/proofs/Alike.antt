-- The items of a rule that two sources have alike are read alike. Assumes nothing.
use Rattle.std.specs.Prelude.{Option, Some, None, Result, Ok}
use Prim.Native.Nat.{ℕ, ◌<◌}
use mathlib.Core.Path.{◌≡◌, refl, sym, ◌∙◌, ap}
use mathlib.Core.List.{List}
use mathlib.Core.Bool.{Bool, true, false, ◌&&◌, and-eq-true_iff}
use native.Mathlib.Omega.{arith}
use lib.Dec.{eqb}
use lib.ListN.{length, get_or}
use lib.Seq.{slice_empty}
use borrow.Author.Tests.{lt-leb}
use Rattle.scan.specs.declared.Place.{Place}
use Rattle.scan.proofs.Bytes.{told}
use Rattle.texts.specs.Action.{action_at}
use Rattle.tables.specs.Layout.{tokens, symbols, productions}
use Rattle.tables.specs.Table.{cell, find_name}
use Rattle.tables.proofs.Rows.{row_cell}
use Rattle.tables.proofs.Cases.{find_iff}
use Rattle.grammar.specs.declared.State.{State}
use Rattle.grammar.specs.declared.Answer.{Answer}
use Rattle.grammar.specs.declared.Answer.TheVariants.{Going, Done, Refused}
use Rattle.grammar.specs.declared.Refusal.{Refusal}
use Rattle.grammar.specs.Sound.{AllTables, set_tab}
use Rattle.grammar.specs.Cells.{symbol_cells}
use Rattle.grammar.specs.State.{Out0, Out1, Out2, count, with_at, gap_at, push_row, enter_step}
use Rattle.grammar.proofs.SameKind.{push_kind, enter_kind}
use Rattle.grammar.proofs.Touch.{pass_to, pass_going, refused_going, done_going}
use Rattle.productions.specs.declared.Production.{Production}
use Rattle.productions.specs.Cells.{prec_cells, action_cells, production_cells, push_production}
use Rattle.items.specs.declared.Sort.TheVariants.{EndSort}
use Rattle.items.specs.declared.Spotted.{Spotted}
use Rattle.items.specs.Items.{Made3, symbol_entered, token_symbol, quoted_item, quoted_rows, prec_item, prec_name, action_item, action_gap, after_action, empty_gap, empty_item, on_none, on_1, on_8, on_9, on_1_9, bar_passed, bare_item, symbol_kind, kind_found, end_production, bar_item, end_item, begun, with_to, with_prec, with_action, with_last, made1, made2, by_spotted, sort_at, item_step, item_next, item_turn, may_end, may_follow, name_entered}
use Rattle.items.proofs.Far.{filled}
use Rattle.alike.specs.Like.{Same, Fields, fields, Table, Like, Near}
use Rattle.alike.specs.Stands.{TokenAt}
use Rattle.alike.proofs.Rows.{find_like, names_like}
use Rattle.alike.proofs.Near.{near_at, near_one}
use Rattle.alike.proofs.Steps.{Both1, push_like, enter_like, same_count, like_at}
use Rattle.printed_rules.specs.Items.{Item, Follows, Item2, quoted2, bare2, named2, empty2, action2, bar2, LikePrec, LikeAct, LikeDraft}

-- A rule's items under way in two sources; T and W are the tables before them.
pub record Like3 (kind : ℕ) (src out : List ℕ) (T W : AllTables) (o z : Made3) : Type 0 where
  pub of : o.state.kind ≡ kind
  pub near : Near src out o.state z.state (filled T o.t1 o.t8 o.t9) (filled W z.t1 z.t8 z.t9)
  pub draft : LikeDraft src out o.draft z.draft

-- and a step of both
pub record Step3 (kind : ℕ) (src out : List ℕ) (T W : AllTables) (o z : Made3) (k l : ℕ) : Type 0 where
  pub going : z.answer ≡ Going
  pub at : o.state.at ≡ k
  pub to : z.state.at ≡ l
  pub like : Like3 kind src out T W o z

module _ (src out : List ℕ) where
  -- a token and its symbol
  record Symbol2 (s u : State) (T W : AllTables) (o z : Out2) : Type 0 where
    going : z.answer ≡ Going
    stays : o.state.at ≡ s.at
    stays' : z.state.at ≡ u.at
    of : o.state.kind ≡ s.kind
    near : Near src out o.state z.state (set_tab (set_tab T tokens o.a) symbols o.b) (set_tab (set_tab W tokens z.a) symbols z.b)

  symbol_like : (s u : State) (T W : AllTables) → Near src out s u T W → (a b c e : ℕ) → Same src out a b c e → (token_symbol src s a b T.t1 T.t9).answer ≡ Going
      → Symbol2 s u T W (token_symbol src s a b T.t1 T.t9) (token_symbol out u c e W.t1 W.t9)
  unfolding token_symbol
  symbol_like s u T W l a b c e x g = go (enter_step src s a b false T.t1).answer refl g
    where
      p : Out1
      p = enter_step src s a b false T.t1

      q : Out1
      q = enter_step out u c e false W.t1

      there : p.answer ≡ Going → Symbol2 s u T W (symbol_entered Going p a b T.t9) (symbol_entered Going q c e W.t9) → Symbol2 s u T W (symbol_entered Going p a b T.t9) (symbol_entered q.answer q c e W.t9)
      there h r = rw (enter_like src out s u l.like a b c e false T.t1 W.t1 x (l.tables tokens) h).going r

      go : (w : Answer) → p.answer ≡ w → (symbol_entered w p a b T.t9).answer ≡ Going → Symbol2 s u T W (symbol_entered w p a b T.t9) (symbol_entered q.answer q c e W.t9)
      go Going h k =
          let o = enter_like src out s u l.like a b c e false T.t1 W.t1 x (l.tables tokens) h in
          let n = near_one src out s u T W l tokens (omega arith) p q o in
          let r = push_like src out p.state q.state o.states symbols (omega arith) (symbol_cells 2 a b) (symbol_cells 2 c e) T.t9 W.t9 refl refl (refl, (x, (refl, tt))) (n.tables symbols) k in
          there h (record {
            going = r.going;
            stays = r.stays ∙ o.stays;
            stays' = r.stays' ∙ o.stays';
            of = push_kind p.state symbols (symbol_cells 2 a b) T.t9 ∙ enter_kind s src a b false T.t1;
            near = near_one src out p.state q.state (set_tab T tokens p.a) (set_tab W tokens q.a) n symbols (omega arith) _ _ r;
          })
      go Done h k = absurd (done_going k)
      go (Refused f) h k = absurd (refused_going f k)

  -- the row of a production that both have
  cells_like : (d b : Production) → LikeDraft src out d b → d.last ≡ b.last → Fields src out (fields productions) (production_cells d) (production_cells b)
  cells_like d b x e =
      let g = given d.prec b.prec x.prec in
      let h = acted d.action b.action x.action in
      (x.rule, (x.first, (e, (g.0, (g.1, (h.0, (h.1, (h.2, tt))))))))
    where
      none : Same src out 0 0 0 0
      none = record { here = (omega arith, omega arith); there = (omega arith, omega arith); bytes = slice_empty 0 src ∙ sym (slice_empty 0 out) }

      given : (p q : Option (ℕ × ℕ)) → LikePrec src out p q → (get_or (prec_cells p) 0 0 ≡ get_or (prec_cells q) 0 0) × Same src out (get_or (prec_cells p) 1 0) (get_or (prec_cells p) 2 0) (get_or (prec_cells q) 1 0) (get_or (prec_cells q) 2 0)
      given None None x = (refl, none)
      given None (Some (c, d)) x = absurd x
      given (Some (a, b)) None x = absurd x
      given (Some (a, b)) (Some (c, d)) x = (refl, x)

      acted : (p q : Option (ℕ × ℕ × ℕ × ℕ)) → LikeAct src out p q → (get_or (action_cells p) 0 0 ≡ get_or (action_cells q) 0 0) × Same src out (get_or (action_cells p) 1 0) (get_or (action_cells p) 2 0) (get_or (action_cells q) 1 0) (get_or (action_cells q) 2 0)
          × Same src out (get_or (action_cells p) 3 0) (get_or (action_cells p) 4 0) (get_or (action_cells q) 3 0) (get_or (action_cells q) 4 0)
      acted None None x = (refl, none, none)
      acted None (Some (a, b, c, d)) x = absurd x
      acted (Some (a, b, c, d)) None x = absurd x
      acted (Some (a, b, c, d)) (Some (e, f, g, h)) x = (refl, x.0, x.1)

  -- a production joins table 8 in both
  pub end_like : (s u : State) → Like src out s u → (d b : Production) → LikeDraft src out d b → (t8 v8 : List ℕ) → Table src out productions (count s productions) t8 v8 → (end_production s d t8).answer ≡ Going
      → Both1 src out productions s u (end_production s d t8) (end_production u b v8)
  unfolding end_production push_production
  end_like s u l d b x t8 v8 y g =
      let f = cells_like (with_last d (count s symbols)) (with_last b (count u symbols)) (record { rule = x.rule; first = x.first; prec = x.prec; action = x.action }) (same_count src out s u l symbols) in
      push_like src out s u l productions (omega arith) (production_cells (with_last d (count s symbols))) (production_cells (with_last b (count u symbols))) t8 v8 refl refl f y g

  -- a bare symbol is of the same kind in both
  kind_like : (s u : State) → Like src out s u → (t1 v1 : List ℕ) → Table src out tokens (count s tokens) t1 v1 → (a b c e : ℕ) → Same src out a b c e
      → symbol_kind src (count s tokens) t1 a b ≡ symbol_kind out (count u tokens) v1 c e
  unfolding symbol_kind
  kind_like s u l t1 v1 y a b c e x = rw (← found) (go (find_name src 3 0 n t1 a b) refl)
    where
      n : ℕ
      n = count s tokens

      found : find_name src 3 0 n t1 a b ≡ find_name out 3 0 (count u tokens) v1 c e
      found = rw (← same_count src out s u l tokens) (find_like src out 3 0 n t1 v1 (omega arith) (names_like src out (fields tokens) 3 0 n t1 v1 (omega arith) y (λ x y f. f.0)) a b c e x)

      go : (r : Option ℕ) → find_name src 3 0 n t1 a b ≡ r → kind_found r t1 ≡ kind_found r v1
      go (Some r) h =
          let i = ((find_iff src 3 0 n t1 a b r).0 h).inside in
          let f : cell 3 t1 r 2 ≡ cell 3 v1 r 2 = rw (row_cell 3 t1 r 2 (omega arith), row_cell 3 v1 r 2 (omega arith)) at (y.rows r i).1.0 in
          ap (λ (w : ℕ). elim (eqb w 1) [ true ↦ 2 | false ↦ 1 ]) f
      go None h = refl

-- nor does a production change the kind
pub end_kind : (s : State) (d : Production) (t8 : List ℕ) → (end_production s d t8).state.kind ≡ s.kind
unfolding end_production push_production
end_kind s d t8 = push_kind s productions _ t8

-- a step by its item
module _ (kind : ℕ) (src : List ℕ) (s : State) (of : s.kind ≡ kind) (d : Production) (t1 t8 t9 : List ℕ) where
  pub step_is : (r : Spotted) → sort_at src s.at ≡ r → item_step src s d t1 t8 t9 ≡ by_spotted r src s d t1 t8 t9
  unfolding item_step
  step_is r e = rw e

  pub quoted_is : (e k n : ℕ) (x : List ℕ) (w : TokenAt src s.at e x) → gap_at kind true src e ≡ Ok (k, n) → quoted_item src s d t1 t9 ≡ made2 (token_symbol src (with_at s k) w.place.from w.place.to t1 t9) (with_to d e)
  unfolding quoted_item quoted_rows
  quoted_is e k n x w g = rw (w.is, of, g)

  pub bare_is : (e : ℕ) (x : List ℕ) (w : TokenAt src s.at e x) → bare_item src s d t1 t9 ≡ name_entered src e (push_row s symbols (symbol_cells (symbol_kind src (count s tokens) t1 w.place.from w.place.to) w.place.from w.place.to) t9) (with_to d e)
  unfolding bare_item
  bare_is e x w = rw w.is

  pub prec_is : (e c m : ℕ) (x : List ℕ) → gap_at kind true src s.at ≡ Ok (c, m) → (w : TokenAt src c e x) → prec_item src s d t1 ≡ name_entered src e (enter_step src (with_at s c) w.place.from w.place.to false t1) (with_to (with_prec d w.place.from w.place.to) e)
  unfolding prec_item prec_name
  prec_is e c m x g w = rw (of, g, w.is)

  pub action_is : (e m k n : ℕ) (p q : Place) → action_at src s.at ≡ Ok (e, m, p, q) → gap_at kind true src e ≡ Ok (k, n) → may_end src k ≡ true → action_item src s d ≡ record { answer = Going; state = with_at s k; draft = with_action (with_to d s.at) p.from p.to q.from q.to }
  unfolding action_item after_action
  action_is e m k n p q a g h = rw (a, of, g, action_gap, h)

  empty_is : (k n first : ℕ) → gap_at kind true src s.at ≡ Ok (k, n) → (eqb (count s symbols) d.first && may_follow src k) ≡ true → empty_item src s d first ≡ record { answer = Going; state = with_at s k; draft = with_to d s.at }
  unfolding empty_item
  empty_is k n first g h = rw (of, g, empty_gap, h)

  -- where `%empty` goes on, it may stand there
  empty_test : (k n first : ℕ) → gap_at kind true src s.at ≡ Ok (k, n) → (empty_item src s d first).answer ≡ Going → (eqb (count s symbols) d.first && may_follow src k) ≡ true
  unfolding empty_item
  empty_test k n first g r = go (eqb (count s symbols) d.first && may_follow src k) refl (told (λ (x : Result (ℕ × ℕ) Refusal). (empty_gap x src s d first).answer ≡ Going) (told (λ (v : ℕ). gap_at v true src s.at ≡ Ok (k, n)) (sym of) g) r)
    where
      go : (b : Bool) → (eqb (count s symbols) d.first && may_follow src k) ≡ b → (empty_gap (Ok (k, n)) src s d first).answer ≡ Going → (eqb (count s symbols) d.first && may_follow src k) ≡ true
      go true e h = e
      go false e h = absurd (refused_going _ (rw (empty_gap, e) at h))

  bar_is : (k n : ℕ) → (end_production s d t8).answer ≡ Going → gap_at kind true src s.at ≡ Ok (k, n)
      → bar_item src s d t8 ≡ record { answer = Going; state = with_at (end_production s d t8).state k; draft = begun d.rule k (count (end_production s d t8).state symbols); a = (end_production s d t8).a }
  unfolding bar_item
  bar_is k n h g = ap (λ (x : Out0). bar_passed x d (end_production s d t8).a) (pass_to src s.at (end_production s d t8).answer (end_production s d t8).state k n (rw (end_kind s d t8, of) g) h)

  bar_going : (bar_item src s d t8).answer ≡ Going → (end_production s d t8).answer ≡ Going
  unfolding bar_item
  bar_going r = (pass_going src false s.at (end_production s d t8).answer (end_production s d t8).state r).went

module _ (kind : ℕ) (src out : List ℕ) (T W : AllTables) (o z : Made3) (like : Like3 kind src out T W o z) where
  abbrev pub here : Made3
  here = item_step src o.state o.draft o.t1 o.t8 o.t9

  abbrev pub there : Made3
  there = item_step out z.state z.draft z.t1 z.t8 z.t9

  abbrev before : AllTables
  before = filled T o.t1 o.t8 o.t9

  abbrev before' : AllTables
  before' = filled W z.t1 z.t8 z.t9

  -- both steps, by what they are
  by : (x y : Made3) (k l : ℕ) → here ≡ x → there ≡ y → Step3 kind src out T W x y k l → Step3 kind src out T W here there k l
  by x y k l e f r = told (λ (w : Made3). Step3 kind src out T W w there k l) (sym e) (told (λ (w : Made3). Step3 kind src out T W x w k l) (sym f) r)

  there_of : z.state.kind ≡ kind
  there_of = sym like.near.like.kind ∙ like.of

  -- the spacing behind a step on one table
  passes : (src : List ℕ) (e k n : ℕ) (w : Out1) (d : Production) → w.state.kind ≡ kind → gap_at kind true src e ≡ Ok (k, n) → w.answer ≡ Going → name_entered src e w d ≡ record { answer = Going; state = with_at w.state k; draft = d; a = w.a }
  passes src e k n w d of g h = ap (λ (x : Out0). made1 x d w.a) (pass_to src e w.answer w.state k n (rw of g) h)

  drafted : (p q : ℕ) → LikeDraft src out (with_to o.draft p) (with_to z.draft q)
  drafted p q = let x = like.draft in record { rule = x.rule; first = x.first; prec = x.prec; action = x.action }

  pub item_like : (e f k l m n : ℕ) (x : Item) → Item2 kind src out o.state.at z.state.at e f x → gap_at kind true src e ≡ Ok (k, m) → gap_at kind true out f ≡ Ok (l, n) → Follows src k x → Follows out l x
      → here.answer ≡ Going → Step3 kind src out T W here there k l
  item_like e f k l m n x (quoted2 s1 s2 w v same) g g' h h' r =
      let p = step_is kind src o.state like.of o.draft o.t1 o.t8 o.t9 _ s1 ∙ ap (on_1_9 o.t8) (quoted_is kind src o.state like.of o.draft o.t1 o.t8 o.t9 e k m _ w g) in
      let q = step_is kind out z.state there_of z.draft z.t1 z.t8 z.t9 _ s2 ∙ ap (on_1_9 z.t8) (quoted_is kind out z.state there_of z.draft z.t1 z.t8 z.t9 f l n _ v g') in
      let y = symbol_like src out (with_at o.state k) (with_at z.state l) before before' (near_at src out o.state z.state before before' like.near k l) w.place.from w.place.to v.place.from v.place.to same (told (λ (y : Made3). y.answer ≡ Going) p r) in
      by _ _ k l p q (record { going = y.going; at = y.stays; to = y.stays'; like = record { of = y.of ∙ like.of; near = y.near; draft = drafted e f } })
  item_like e f k l m n x (bare2 s1 s2 w v same) g g' h h' r =
      let s = o.state in
      let u = z.state in
      let a = w.place.from in
      let b = w.place.to in
      let c = v.place.from in
      let d = v.place.to in
      let sort = symbol_kind src (count s tokens) o.t1 a b in
      let sort' = symbol_kind out (count u tokens) z.t1 c d in
      let p = step_is kind src s like.of o.draft o.t1 o.t8 o.t9 _ s1 ∙ ap (on_9 o.t1 o.t8) (bare_is kind src s like.of o.draft o.t1 o.t8 o.t9 e _ w) in
      let q = step_is kind out u there_of z.draft z.t1 z.t8 z.t9 _ s2 ∙ ap (on_9 z.t1 z.t8) (bare_is kind out u there_of z.draft z.t1 z.t8 z.t9 f _ v) in
      let o1 = push_row s symbols (symbol_cells sort a b) o.t9 in
      let z1 = push_row u symbols (symbol_cells sort' c d) z.t9 in
      let ok = push_kind s symbols (symbol_cells sort a b) o.t9 ∙ like.of in
      let ok' = push_kind u symbols (symbol_cells sort' c d) z.t9 ∙ there_of in
      let went = (pass_going src false e o1.answer o1.state (told (λ (y : Made3). y.answer ≡ Going) p r)).went in
      let y = push_like src out s u like.near.like symbols (omega arith) (symbol_cells sort a b) (symbol_cells sort' c d) o.t9 z.t9 refl refl (kind_like src out s u like.near.like o.t1 z.t1 (like.near.tables tokens) a b c d same, (same, (refl, tt))) (like.near.tables symbols) went in
      by _ _ k l (p ∙ ap (on_9 o.t1 o.t8) (passes src e k m o1 (with_to o.draft e) ok g went)) (q ∙ ap (on_9 z.t1 z.t8) (passes out f l n z1 (with_to z.draft f) ok' g' y.going))
      (record { going = refl; at = refl; to = refl; like = record { of = ok; near = near_at src out o1.state z1.state _ _ (near_one src out s u before before' like.near symbols (omega arith) o1 z1 y) k l; draft = drafted e f } })
  item_like e f k l m n x (named2 {a = a} {b = b} {c = c} {d = d} {m = m'} {n = n'} s1 s2 g1 g2 w v same) g g' h h' r =
      let p = step_is kind src o.state like.of o.draft o.t1 o.t8 o.t9 _ s1 ∙ ap (on_1 o.t8 o.t9) (prec_is kind src (with_at o.state a) like.of o.draft o.t1 o.t8 o.t9 e c m' _ g1 w) in
      let q = step_is kind out z.state there_of z.draft z.t1 z.t8 z.t9 _ s2 ∙ ap (on_1 z.t8 z.t9) (prec_is kind out (with_at z.state b) there_of z.draft z.t1 z.t8 z.t9 f d n' _ g2 v) in
      let s = with_at o.state c in
      let u = with_at z.state d in
      let o1 = enter_step src s w.place.from w.place.to false o.t1 in
      let z1 = enter_step out u v.place.from v.place.to false z.t1 in
      let ok = enter_kind s src w.place.from w.place.to false o.t1 ∙ like.of in
      let ok' = enter_kind u out v.place.from v.place.to false z.t1 ∙ there_of in
      let went = (pass_going src false e o1.answer o1.state (told (λ (y : Made3). y.answer ≡ Going) p r)).went in
      let y = enter_like src out s u (like_at src out _ _ like.near.like c d) w.place.from w.place.to v.place.from v.place.to false o.t1 z.t1 same (like.near.tables tokens) went in
      by _ _ k l (p ∙ ap (on_1 o.t8 o.t9) (passes src e k m o1 _ ok g went)) (q ∙ ap (on_1 z.t8 z.t9) (passes out f l n z1 _ ok' g' y.going))
      (record { going = refl; at = refl; to = refl; like = record { of = ok; near = near_at src out o1.state z1.state _ _ (near_one src out s u before before' (near_at src out _ _ before before' like.near c d) tokens (omega arith) o1 z1 y) k l; draft = record { rule = like.draft.rule; first = like.draft.first; prec = same; action = like.draft.action } } })
  item_like e f k l m n x (empty2 {e = e'} {f = f'} s1 s2) g g' h h' r =
      let s = with_at o.state e' in
      let u = with_at z.state f' in
      let p = step_is kind src o.state like.of o.draft o.t1 o.t8 o.t9 _ s1 in
      let q = step_is kind out z.state there_of z.draft z.t1 z.t8 z.t9 _ s2 in
      let t = empty_test kind src s like.of o.draft o.t1 o.t8 o.t9 k m o.state.at g (told (λ (y : Made3). y.answer ≡ Going) p r) in
      let t1 = ((and-eq-true_iff _ _).0 t).0 in
      let t2 : eqb (count u symbols) z.draft.first ≡ true = rw (← same_count src out o.state z.state like.near.like symbols, ← like.draft.first) t1 in
      let t3 = (and-eq-true_iff _ _).1 (t2, h') in
      by _ _ k l (p ∙ ap (on_none o.t1 o.t8 o.t9) (empty_is kind src s like.of o.draft o.t1 o.t8 o.t9 k m o.state.at g t)) (q ∙ ap (on_none z.t1 z.t8 z.t9) (empty_is kind out u there_of z.draft z.t1 z.t8 z.t9 l n z.state.at g' t3))
      (record { going = refl; at = refl; to = refl; like = record { of = like.of; near = near_at src out _ _ before before' like.near k l; draft = drafted e' f' } })
  item_like e f k l m n x (action2 {a = a} {b = b} {m = m'} {n = n'} {p = p} {q = q} {u = u} {v = v} s1 s2 a1 a2 t1 t2 is text) g g' h h' r =
      by _ _ k l (step_is kind src o.state like.of o.draft o.t1 o.t8 o.t9 _ s1 ∙ ap (on_none o.t1 o.t8 o.t9) (action_is kind src o.state like.of o.draft o.t1 o.t8 o.t9 e m' k m p q a1 g h))
      (step_is kind out z.state there_of z.draft z.t1 z.t8 z.t9 _ s2 ∙ ap (on_none z.t1 z.t8 z.t9) (action_is kind out z.state there_of z.draft z.t1 z.t8 z.t9 f n' l n u v a2 g' h'))
      (record { going = refl; at = refl; to = refl; like = record { of = like.of; near = near_at src out _ _ before before' like.near k l; draft = record { rule = like.draft.rule; first = like.draft.first; prec = like.draft.prec; action = (t1, t2) } } })
  item_like e f k l m n x (bar2 {e = e'} {f = f'} s1 s2) g g' h h' r =
      let s = with_at o.state e' in
      let u = with_at z.state f' in
      let p = step_is kind src o.state like.of o.draft o.t1 o.t8 o.t9 _ s1 in
      let q = step_is kind out z.state there_of z.draft z.t1 z.t8 z.t9 _ s2 in
      let went = bar_going kind src s like.of o.draft o.t1 o.t8 o.t9 (told (λ (y : Made3). y.answer ≡ Going) p r) in
      let y = end_like src out s u (like_at src out _ _ like.near.like e' f') o.draft z.draft like.draft o.t8 z.t8 (like.near.tables productions) went in
      by _ _ k l (p ∙ ap (on_8 o.t1 o.t9) (bar_is kind src s like.of o.draft o.t1 o.t8 o.t9 k m went g)) (q ∙ ap (on_8 z.t1 z.t9) (bar_is kind out u there_of z.draft z.t1 z.t8 z.t9 l n y.going g'))
      (record {
        going = refl;
        at = refl;
        to = refl;
        like = record {
          of = end_kind s o.draft o.t8 ∙ like.of;
          near = near_at src out _ _ _ _ (near_one src out s u before before' (near_at src out _ _ before before' like.near e' f') productions (omega arith) _ _ y) k l;
          draft = record { rule = like.draft.rule; first = same_count src out _ _ y.states symbols; prec = tt; action = tt };
        };
      })

-- a turn at an item
pub turn_is : (src : List ℕ) (o : Made3) → o.state.at < length src → item_turn src o ≡ item_next (item_step src o.state o.draft o.t1 o.t8 o.t9).answer (item_step src o.state o.draft o.t1 o.t8 o.t9)
unfolding item_turn
turn_is src o h = rw (lt-leb (length src) o.state.at h)

-- and at the `;`
pub end_is : (src : List ℕ) (s : State) (d : Production) (t1 t8 t9 : List ℕ) (e : ℕ) → sort_at src s.at ≡ record { sort = EndSort; end = e } → item_step src s d t1 t8 t9 ≡ on_8 t1 t9 (end_item (with_at s e) d t8)
unfolding item_step
end_is src s d t1 t8 t9 e h = rw h
