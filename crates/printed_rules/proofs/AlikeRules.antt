-- Rules and programs that two sources have alike are read alike. Assumes nothing.
use Rattle.std.specs.Prelude.{Option, Some, None, Result, Ok}
use Prim.Native.Nat.{ℕ, zero, suc, ◌+◌, ◌-◌, ◌<◌}
use mathlib.Core.Path.{◌≡◌, refl, sym, ◌∙◌, ap}
use mathlib.Core.List.{List, [], ◌∷◌}
use mathlib.Core.Bool.{true, false}
use native.Mathlib.Omega.{arith}
use lib.Dec.{eqb}
use lib.ListN.{length, drop}
use lib.Seq.{slice, take-length}
use Rattle.scan.specs.declared.Place.{Place}
use Rattle.scan.specs.Scan.{starts_at}
use Rattle.scan.specs.Loop.{more, turns}
use Rattle.scan.proofs.Bytes.{told, starts_fits}
use Rattle.words.specs.Words.{name_at}
use Rattle.tables.specs.Layout.{rules, symbols}
use Rattle.grammar.specs.declared.State.{State}
use Rattle.grammar.specs.declared.Cause.TheVariants.{MissingColon, MissingRightArrow, UnknownDeclaration}
use Rattle.grammar.specs.declared.Answer.{Answer}
use Rattle.grammar.specs.declared.Answer.TheVariants.{Going, Done, Refused}
use Rattle.grammar.specs.Sound.{AllTables, set_tab}
use Rattle.grammar.specs.State.{Out0, Out1, count, with_at, with_singles, gap_at, onward}
use Rattle.grammar.proofs.Touch.{refused_going, done_going, pass_going, pass_to}
use Rattle.settings.specs.Singles.{with_start}
use Rattle.items.specs.Items.{Itemed, begun, item_list}
use Rattle.rules.specs.Rules.{Typing, Heading, Ruled, start_or, first_start, colon_given, colon_type, arrow_out, arrow_type, rule_type, enter_rule, head_out, head_found, named_head, rule_head, body_out, rule_body, with_body, rule_headed, rule_out, rule_step, spaced_out, next_rule, percents, rules_turn, rules_run, rules_out, rules_all, with_programs, programs_from}
use Rattle.rules.proofs.Far.{ruled}
use Rattle.sections.specs.Sections.{rest_from, rest_all}
use Rattle.alike.specs.Like.{Same, LikePart, LikeSingles, Near}
use Rattle.alike.proofs.Steps.{rule_like, same_count}
use Rattle.alike.proofs.Near.{near_at, near_singles, near_one}
use Rattle.alike.proofs.Again.{turns_more, turns_stop}
use Rattle.printed_rules.specs.Rules.{Rule, Programs, end_of, MarkAt, TypeAt, over, Type2, untyped2, typed2, Rule2, Rules2, over2, rule2, Programs2, none2, given2, Rest2}
use Rattle.printed_rules.proofs.Loop.{items_like}
use Rattle.printed_rules.proofs.ReadRules.{mark_is, start_kind, row_kind, turn_over, turn_next}
use Rattle.printed_rules.proofs.Onward.{gap_forth, rule_forth}

-- a step by what stands there: a type,
module _ (src : List ℕ) (s : State) where
  type_none : eqb s.kind 2 ≡ false → rule_type src s ≡ record { answer = Going; state = s; given = s.actiontype }
  unfolding rule_type
  type_none k = rw (k, rule_type)

  type_is : (from to : ℕ) (p : Place) → eqb s.kind 2 ≡ true → TypeAt s.kind src s.at from to p → rule_type src s ≡ record { answer = Going; state = with_at s to; given = Some (p.from, p.to) }
  unfolding rule_type arrow_type colon_type
  type_is from to p k t =
      rw (k, rule_type) (ap (arrow_out src) (mark_is src s (45 ∷ 62 ∷ []) MissingRightArrow from t.arrow) ∙ ap (λ (c : Result (ℕ × ℕ × Place) ℕ). colon_given c (with_at s from)) t.text)

  -- a head,
  head_is : (to head : ℕ) (part : Option (ℕ × ℕ)) (t7 : List ℕ) → name_at src s.at ≡ Ok to
      → rule_type src (with_at (first_start s s.at to) to) ≡ record { answer = Going; state = with_at (first_start s s.at to) head; given = part }
      → rule_head src s t7 ≡ enter_rule src (with_at (first_start s s.at to) head) s.at to part t7
  unfolding rule_head named_head
  head_is to head part t7 n e = ap (λ (x : Result ℕ ℕ). head_found x src s t7) n ∙ ap (λ (o : Typing). head_out src o s.at to t7) e

  -- a body,
  body_is : (row from : ℕ) (t1 t8 t9 : List ℕ) → MarkAt s.kind src (58 ∷ []) s.at from → rule_body src s row t1 t8 t9 ≡ item_list src (with_at s from) (begun row from (count s symbols)) t1 t8 t9
  unfolding rule_body
  body_is row from t1 t8 t9 m = ap (λ (o : Out0). body_out src o row t1 t8 t9) (mark_is src s (58 ∷ []) MissingColon from m)

  -- both, if the head goes on,
  rule_is : (h : Heading) (t1 t7 t8 t9 : List ℕ) → rule_head src s t7 ≡ h → h.answer ≡ Going → rule_step src s t1 t7 t8 t9 ≡ with_body h.t7 (rule_body src h.state h.row t1 t8 t9)
  unfolding rule_step
  rule_is h t1 t7 t8 t9 e g = ap (λ (x : Heading). rule_out src x t1 t8 t9) e ∙ ap (λ (a : Answer). rule_headed a src h t1 t8 t9) g

  -- as it does where the rule does,
  head_goes : (t1 t7 t8 t9 : List ℕ) → (rule_step src s t1 t7 t8 t9).answer ≡ Going → (rule_head src s t7).answer ≡ Going
  unfolding rule_step
  head_goes t1 t7 t8 t9 = go (rule_head src s t7) (rule_head src s t7).answer refl
    where
      go : (h : Heading) (a : Answer) → h.answer ≡ a → (rule_headed a src h t1 t8 t9).answer ≡ Going → h.answer ≡ Going
      go h Going e r = e
      go h Done e r = absurd (done_going r)
      go h (Refused f) e r = absurd (refused_going f r)

  -- and the spacing behind a rule.
  next_is : (k m : ℕ) (t1 t7 t8 t9 : List ℕ) → let o = rule_step src s t1 t7 t8 t9 in o.answer ≡ Going → gap_at o.state.kind true src o.state.at ≡ Ok (k, m)
      → next_rule src s t1 t7 t8 t9 ≡ record { answer = Going; state = with_at o.state k; t1 = o.t1; t7 = o.t7; t8 = o.t8; t9 = o.t9 }
  unfolding next_rule
  next_is k m t1 t7 t8 t9 h g =
      let o = rule_step src s t1 t7 t8 t9 in
      ap (λ (x : Out0). spaced_out x o) (pass_to src o.state.at o.answer o.state k m g h)

  next_goes : (t1 t7 t8 t9 : List ℕ) → (next_rule src s t1 t7 t8 t9).answer ≡ Going → (rule_step src s t1 t7 t8 t9).answer ≡ Going
  unfolding next_rule
  next_goes t1 t7 t8 t9 r = let o = rule_step src s t1 t7 t8 t9 in (pass_going src false o.state.at o.answer o.state r).went

-- a mark as a state has it
mark_as : (src word : List ℕ) (i i' j k k' : ℕ) → k ≡ k' → i ≡ i' → MarkAt k src word i j → MarkAt k' src word i' j
mark_as src word i i' j k k' e f m = rw (e, f) at m

module _ (src out : List ℕ) (s u : State) (T W : AllTables) (n : Near src out s u T W) where
  -- the first rule is the start in both, or in neither
  start_like : (a b c d : ℕ) → Same src out a b c d → Near src out (first_start s a b) (first_start u c d) T W
  unfolding first_start
  start_like a b c d x = go s.singles.start u.singles.start n.like.singles.start
    where
      l : LikeSingles src out s.singles u.singles
      l = n.like.singles

      go : (p q : Option (ℕ × ℕ)) → LikePart src out p q → Near src out (start_or p s a b) (start_or q u c d) T W
      go None None y =
          near_singles src out s u T W n (with_start s.singles (Some (a, b))) (with_start u.singles (Some (c, d)))
          (record { start = x; expect = l.expect; expect_rr = l.expect_rr; param = l.param; generics = l.generics; programs = l.programs })
      go None (Some (g, h)) y = absurd y
      go (Some (e, f)) None y = absurd y
      go (Some (e, f)) (Some (g, h)) y = n

  -- the type of a head, in both
  record TypesLike (e f : ℕ) : Type 0 where
    part : Option (ℕ × ℕ)
    part' : Option (ℕ × ℕ)
    is : rule_type src s ≡ record { answer = Going; state = with_at s e; given = part }
    is' : rule_type out u ≡ record { answer = Going; state = with_at u f; given = part' }
    parts : LikePart src out part part'

  types_like : (i j e f : ℕ) → Type2 s.kind src out i j e f → i ≡ s.at → j ≡ u.at → TypesLike e f
  types_like i j e f (untyped2 k) p q =
      rw (p, q)
      (record { part = s.actiontype; part' = u.actiontype; is = type_none src s k; is' = type_none out u (rw n.like.kind at k); parts = n.like.actiontype })
  types_like i j e f (typed2 {a = a} {b = b} {p = v} {q = w} k t t' x) p q =
      record {
        part = Some (v.from, v.to);
        part' = Some (w.from, w.to);
        is = type_is src s a e v k (rw p at t);
        is' = type_is out u b f w (rw n.like.kind at k) (rw (n.like.kind, q) at t');
        parts = x;
      }

-- a step of both, on the four tables that rules fill
pub record Step4 (kind : ℕ) (src out : List ℕ) (T W : AllTables) (o z : Ruled) (k l : ℕ) : Type 0 where
  pub going : z.answer ≡ Going
  pub at : o.state.at ≡ k
  pub to : z.state.at ≡ l
  pub of : o.state.kind ≡ kind
  pub near : Near src out o.state z.state (ruled T o) (ruled W z)

module _ (kind : ℕ) (src out : List ℕ) (T W : AllTables) where
  -- both steps, by what they are
  by : (o z x y : Ruled) (k l : ℕ) → o ≡ x → z ≡ y → Step4 kind src out T W x y k l → Step4 kind src out T W o z k l
  by o z x y k l e f r = told (λ (w : Ruled). Step4 kind src out T W w z k l) (sym e) (told (λ (w : Ruled). Step4 kind src out T W x w k l) (sym f) r)

  -- A rule's body in both: from h and g on, the heads that both have.
  bodies_like : (h g : Heading) (e f : ℕ) (r : Rule) (i j : ℕ) (w : Rule2 kind src out i j e f r)
      → h.state.kind ≡ kind → h.state.at ≡ w.here.head → g.state.at ≡ w.there.head → h.row ≡ g.row
      → Near src out h.state g.state (set_tab T rules h.t7) (set_tab W rules g.t7)
      → (rule_body src h.state h.row T.t1 T.t8 T.t9).answer ≡ Going
      → Step4 kind src out T W (with_body h.t7 (rule_body src h.state h.row T.t1 T.t8 T.t9)) (with_body g.t7 (rule_body out g.state g.row W.t1 W.t8 W.t9)) e f
  unfolding item_list
  bodies_like h g e f r i j w of at to row n going =
      let s = h.state in
      let u = g.state in
      let a = w.here.from in
      let b = w.there.from in
      let p = body_is src s h.row a T.t1 T.t8 T.t9 (mark_as src (58 ∷ []) _ _ a _ _ (sym of) (sym at) w.here.colon) in
      let q = body_is out u g.row b W.t1 W.t8 W.t9 (mark_as out (58 ∷ []) _ _ b _ _ (sym of ∙ n.like.kind) (sym to) w.there.colon) in
      let x = items_like kind src out (set_tab T rules h.t7) (set_tab W rules g.t7) (suc (length src)) (suc (length out))
      (record { answer = Going; state = with_at s a; draft = begun h.row a (count s symbols); t1 = T.t1; t8 = T.t8; t9 = T.t9 })
      (record { answer = Going; state = with_at u b; draft = begun g.row b (count u symbols); t1 = W.t1; t8 = W.t8; t9 = W.t9 })
      e f r.items w.items (omega arith) (omega arith)
      (record { of = of; near = near_at src out s u _ _ n a b; draft = record { rule = row; first = same_count src out s u n.like symbols; prec = tt; action = tt } })
      (told (λ (y : Itemed). y.answer ≡ Going) p going) in
      by _ _ _ _ e f (ap (with_body h.t7) p) (ap (with_body g.t7) q) (record { going = x.going; at = x.at; to = x.to; of = x.like.of; near = x.like.near })

  -- A rule in both.
  rules_step : (s u : State) → s.kind ≡ kind → Near src out s u T W → (e f : ℕ) (r : Rule) → Rule2 kind src out s.at u.at e f r
      → (rule_step src s T.t1 T.t7 T.t8 T.t9).answer ≡ Going
      → Step4 kind src out T W (rule_step src s T.t1 T.t7 T.t8 T.t9) (rule_step out u W.t1 W.t7 W.t8 W.t9) e f
  rules_step s u of n e f r w going =
      let i = s.at in
      let j = u.at in
      let a = w.here.to in
      let b = w.there.to in
      let c = w.here.head in
      let d = w.there.head in
      let n1 = near_at src out _ _ T W (start_like src out s u T W n i a j b w.name) a b in
      let s1 = with_at (first_start s i a) a in
      let u1 = with_at (first_start u j b) b in
      let k : kind ≡ s1.kind = sym (start_kind s i a ∙ of) in
      let y = types_like src out s1 u1 T W n1 a b c d (told (λ (v : ℕ). Type2 v src out a b c d) k w.type) refl refl in
      let h = enter_rule src (with_at s1 c) i a y.part T.t7 in
      let g = enter_rule out (with_at u1 d) j b y.part' W.t7 in
      let p = head_is src s a c y.part T.t7 w.here.named y.is in
      let q = head_is out u b d y.part' W.t7 w.there.named y.is' in
      let n2 = near_at src out s1 u1 T W n1 c d in
      let went = told (λ (x : Heading). x.answer ≡ Going) p (head_goes src s T.t1 T.t7 T.t8 T.t9 going) in
      let x = rule_like src out (with_at s1 c) (with_at u1 d) n2.like i a j b y.part y.part' T.t7 W.t7 w.name y.parts (n2.tables rules) went in
      let n3 = near_one src out (with_at s1 c) (with_at u1 d) T W n2 rules (omega arith) (heading h) (heading g) (record { going = x.going; stays = x.stays; stays' = x.stays'; states = x.states; table = x.table; others = x.others }) in
      let v = rule_is src s h T.t1 T.t7 T.t8 T.t9 p went in
      let z = rule_is out u g W.t1 W.t7 W.t8 W.t9 q x.going in
      by _ _ _ _ e f v z
      (bodies_like h g e f r i j w (row_kind src (with_at s1 c) i a y.part T.t7 ∙ sym k) x.stays x.stays' x.row n3 (told (λ (o : Ruled). o.answer ≡ Going) v going))
    where
      heading : Heading → Out1
      heading h = record { answer = h.answer; state = h.state; a = h.t7 }

  -- A rule and the spacing behind it, in both.
  next_like : (s u : State) → s.kind ≡ kind → Near src out s u T W → (e f k l m n : ℕ) (r : Rule) → Rule2 kind src out s.at u.at e f r
      → gap_at kind true src e ≡ Ok (k, m) → gap_at kind true out f ≡ Ok (l, n)
      → (next_rule src s T.t1 T.t7 T.t8 T.t9).answer ≡ Going
      → Step4 kind src out T W (next_rule src s T.t1 T.t7 T.t8 T.t9) (next_rule out u W.t1 W.t7 W.t8 W.t9) k l
  next_like s u of near e f k l m n r w g g' going =
      let o = rule_step src s T.t1 T.t7 T.t8 T.t9 in
      let z = rule_step out u W.t1 W.t7 W.t8 W.t9 in
      let went = next_goes src s T.t1 T.t7 T.t8 T.t9 going in
      let x = rules_step s u of near e f r w went in
      let of' : z.state.kind ≡ kind = sym x.near.like.kind ∙ x.of in
      by _ _ _ _ k l (next_is src s k m T.t1 T.t7 T.t8 T.t9 went (rw (x.of, x.at) g)) (next_is out u l n W.t1 W.t7 W.t8 W.t9 x.going (rw (of', x.to) g'))
      (record { going = refl; at = refl; to = refl; of = x.of; near = near_at src out o.state z.state (ruled T o) (ruled W z) x.near k l })

-- where the loop over rules goes on to its end, the first rule did
module _ (src : List ℕ) (n : ℕ) (o : Ruled) (e : over src o.state.at ≡ false) where
  abbrev first : Ruled
  first = next_rule src o.state o.t1 o.t7 o.t8 o.t9

  turn_more : first.answer ≡ Going → rules_turn src o ≡ more first
  turn_more g = turn_next src o e ∙ ap (λ (a : Answer). onward a first) g

  step_goes : (turns (suc n) (rules_turn src) o).answer ≡ Going → first.answer ≡ Going
  step_goes r = go first.answer refl
    where
      go : (a : Answer) → first.answer ≡ a → first.answer ≡ Going
      go Going f = f
      go Done f = rw (turns_stop (rules_turn src) n o first (turn_next src o e ∙ ap (λ (a : Answer). onward a first) f)) at r
      go (Refused q) f = rw (turns_stop (rules_turn src) n o first (turn_next src o e ∙ ap (λ (a : Answer). onward a first) f)) at r

module _ (kind : ℕ) (src out : List ℕ) (T W : AllTables) where
  -- All rules in both.
  pub run_like : (n m : ℕ) (o z : Ruled) (c d : ℕ) (rs : List Rule) → Rules2 kind src out o.state.at z.state.at c d rs → length src - o.state.at < n → length out - z.state.at < m
      → o.state.kind ≡ kind → Near src out o.state z.state (ruled T o) (ruled W z) → z.answer ≡ Going → (turns n (rules_turn src) o).answer ≡ Going
      → Step4 kind src out T W (turns n (rules_turn src) o) (turns m (rules_turn out) z) c d
  run_like zero m o z c d rs p h i of near g r = absurd (omega arith)
  run_like (suc n) zero o z c d rs p h i of near g r = absurd (omega arith)
  run_like (suc n) (suc m) o z c d rs (over2 e f) h i of near g r =
      rw (turns_stop (rules_turn src) n o o (turn_over src o e), turns_stop (rules_turn out) m z z (turn_over out z f)) (record { going = g; at = refl; to = refl; of = of; near = near })
  run_like (suc n) (suc m) o z c d rs (rule2 {e = e} {f = f} {k = k} {l = l} {m = a} {n = b} {r = q} {rs = qs} s t w g1 g2 rest) h i of near g r =
      let going = step_goes src n o s r in
      let x = next_like kind src out (ruled T o) (ruled W z) o.state z.state of near e f k l a b q w g1 g2 going in
      let one = turn_more src n o s going in
      let two = turn_more out m z t x.going in
      let u = rule_forth kind src o.state.at e k a q w.here g1 in
      let v = rule_forth kind out z.state.at f l b q w.there g2 in
      let u0 = u.0 in
      let u1 = u.1 in
      let v0 = v.0 in
      let v1 = v.1 in
      let y = run_like n m (first src n o s) (first out m z t) c d qs (rw (x.at, x.to) rest) (rw x.at (omega arith)) (rw x.to (omega arith)) x.of x.near x.going (rw (turns_more (rules_turn src) n o _ one) at r) in
      rw (turns_more (rules_turn src) n o _ one, turns_more (rules_turn out) m z _ two) y

  module _ (s u : State) (of : s.kind ≡ kind) (near : Near src out s u T W) where
    of' : u.kind ≡ kind
    of' = sym near.like.kind ∙ of

    -- The rules section in both, from its `%%` on.
    pub section_like : (a b c d : ℕ) (rs : List Rule) → MarkAt kind src percents s.at a → MarkAt kind out percents u.at b → Rules2 kind src out a b c d rs
        → (rules_all src s T.t1 T.t7 T.t8 T.t9).answer ≡ Going
        → Step4 kind src out T W (rules_all src s T.t1 T.t7 T.t8 T.t9) (rules_all out u W.t1 W.t7 W.t8 W.t9) c d
    unfolding rules_all rules_run
    section_like a b c d rs m m' w going =
        let p = mark_is src s percents UnknownDeclaration a (mark_as src percents _ _ a _ _ (sym of) refl m) in
        let q = mark_is out u percents UnknownDeclaration b (mark_as out percents _ _ b _ _ (sym of') refl m') in
        by kind src out T W _ _ _ _ c d (ap (λ (o : Out0). rules_out src o T.t1 T.t7 T.t8 T.t9) p) (ap (λ (o : Out0). rules_out out o W.t1 W.t7 W.t8 W.t9) q)
        (run_like (suc (length src)) (suc (length out))
        (record { answer = Going; state = with_at s a; t1 = T.t1; t7 = T.t7; t8 = T.t8; t9 = T.t9 })
        (record { answer = Going; state = with_at u b; t1 = W.t1; t7 = W.t7; t8 = W.t8; t9 = W.t9 })
        c d rs w (omega arith) (omega arith) of (near_at src out s u T W near a b) refl
        (told (λ (o : Out0). (rules_out src o T.t1 T.t7 T.t8 T.t9).answer ≡ Going) p going))

-- programs by what stands there
module _ (src : List ℕ) (s : State) where
  programs_none : starts_at percents src s.at ≡ false → programs_from src s ≡ record { answer = Going; state = s }
  unfolding programs_from
  programs_none e = rw (e, programs_from)

  programs_given : (k m : ℕ) → starts_at percents src s.at ≡ true → gap_at s.kind true src (s.at + 2) ≡ Ok (k, m)
      → programs_from src s ≡ record { answer = Going; state = with_singles (with_at s (length src)) (with_programs s.singles (Some (k, length src))) }
  unfolding programs_from
  programs_given k m e g = rw (e, programs_from, g)

-- the bytes from an index to the end
pub rest_slice : (k : ℕ) (s : List ℕ) → slice k (length s) s ≡ drop k s
rest_slice k s = ap (drop k) (take-length s)

module _ (kind : ℕ) (src out : List ℕ) (T W : AllTables) where
  pub record ProgramsLike (o z : Out0) (k l : ℕ) : Type 0 where
    pub going : z.answer ≡ Going
    pub at : o.state.at ≡ k
    pub to : z.state.at ≡ l
    pub near : Near src out o.state z.state T W

  -- Programs in both.
  pub programs_like : (s u : State) → s.kind ≡ kind → Near src out s u T W → (p : Programs) → Programs2 kind src out s.at u.at p
      → ProgramsLike (programs_from src s) (programs_from out u) (end_of p src s.at) (end_of p out u.at)
  programs_like s u of near p (none2 e f) = rw (programs_none src s e, programs_none out u f) (record { going = refl; at = refl; to = refl; near = near })
  programs_like s u of near p (given2 {k = k} {l = l} {m = m} {n = n} e f g g' d d') =
      let of' : u.kind ≡ kind = sym near.like.kind ∙ of in
      let a = gap_forth kind src (s.at + 2) k m (starts_fits percents src s.at e (omega arith)) g in
      let b = gap_forth kind out (u.at + 2) l n (starts_fits percents out u.at f (omega arith)) g' in
      let x : Same src out k (length src) l (length out) = record { here = (a.1, omega arith); there = (b.1, omega arith); bytes = rest_slice k src ∙ d ∙ sym d' ∙ sym (rest_slice l out) } in
      let y = near.like.singles in
      rw (programs_given src s k m e (rw of g), programs_given out u l n f (rw of' g'))
      (record {
        going = refl;
        at = refl;
        to = refl;
        near = near_singles src out (with_at s (length src)) (with_at u (length out)) T W (near_at src out s u T W near (length src) (length out)) (with_programs s.singles (Some (k, length src))) (with_programs u.singles (Some (l, length out)))
            (record { start = y.start; expect = y.expect; expect_rr = y.expect_rr; param = y.param; generics = y.generics; programs = x });
      })

module _ (kind : ℕ) (src out : List ℕ) (T W : AllTables) where
  both : (s u : State) (a b : ℕ) → s.at ≡ a → u.at ≡ b → s.kind ≡ kind → (T W : AllTables) → Near src out s u T W → (p : Programs) → Programs2 kind src out a b p
      → ProgramsLike kind src out T W (programs_from src s) (programs_from out u) (end_of p src a) (end_of p out b)
  both s u a b e f k T W n p w = rw (← e, ← f) (programs_like kind src out T W s u k n p (rw (← e, ← f) at w))

  -- All behind the declarations in both: the source goes on, so does what is shipped of it, and the readings are alike.
  pub rest_like : (s u : State) → s.kind ≡ kind → Near src out s u T W → (rs : List Rule) (p : Programs) (w : Rest2 kind src out s.at u.at rs p)
      → (rest_all src s T.t1 T.t7 T.t8 T.t9).answer ≡ Going
      → let o = rest_all src s T.t1 T.t7 T.t8 T.t9 in let z = rest_all out u W.t1 W.t7 W.t8 W.t9 in
      (z.answer ≡ Going) × (o.state.at ≡ end_of p src w.to) × (z.state.at ≡ end_of p out w.to') × Near src out o.state z.state (ruled T o) (ruled W z)
  unfolding rest_all
  rest_like s u of near rs p w going =
      let o = rules_all src s T.t1 T.t7 T.t8 T.t9 in
      let z = rules_all out u W.t1 W.t7 W.t8 W.t9 in
      let went = goes_on o o.answer refl going in
      let x = section_like kind src out T W s u of near w.from w.from' w.to w.to' rs w.mark w.mark' w.rules went in
      ended o z went x.going w.to w.to' x.at x.to x.of x.near p w.programs
    where
      goes_on : (o : Ruled) (a : Answer) → o.answer ≡ a → (rest_from a src o).answer ≡ Going → o.answer ≡ Going
      goes_on o Going e r = e
      goes_on o Done e r = absurd (done_going r)
      goes_on o (Refused f) e r = absurd (refused_going f r)

      ended : (o z : Ruled) → o.answer ≡ Going → z.answer ≡ Going → (a b : ℕ) → o.state.at ≡ a → z.state.at ≡ b → o.state.kind ≡ kind → Near src out o.state z.state (ruled T o) (ruled W z)
          → (p : Programs) → Programs2 kind src out a b p
          → ((rest_from z.answer out z).answer ≡ Going) × ((rest_from o.answer src o).state.at ≡ end_of p src a) × ((rest_from z.answer out z).state.at ≡ end_of p out b)
          × Near src out (rest_from o.answer src o).state (rest_from z.answer out z).state (ruled T (rest_from o.answer src o)) (ruled W (rest_from z.answer out z))
      ended o z g g' a b e f k n p w =
          let x = both o.state z.state a b e f k (ruled T o) (ruled W z) n p w in
          rw (g, g') (x.going, x.at, x.to, x.near)
