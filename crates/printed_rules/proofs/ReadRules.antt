-- What a reading took for rules and programs are rules and programs that stand in its source. Assumes nothing.
use Rattle.std.specs.Prelude.{Option, Some, None, Result, Ok, Err}
use Prim.Native.Nat.{ℕ, zero, suc, ◌+◌, ◌-◌, ◌<◌}
use mathlib.Core.Path.{◌≡◌, refl, sym, ◌∙◌, ap}
use mathlib.Core.List.{List, [], ◌∷◌}
use mathlib.Core.Bool.{Bool, true, false, ◌||◌, false≢true}
use native.Mathlib.Omega.{arith}
use lib.Dec.{eqb, leb}
use lib.ListN.{length, drop}
use lib.Seq.{slice}
use Rattle.scan.specs.Scan.{starts_at}
use Rattle.scan.specs.Loop.{more, stop, turns}
use Rattle.scan.proofs.Bytes.{told, on_test}
use Rattle.words.specs.Words.{name_at}
use Rattle.scan.specs.declared.Place.{Place}
use Rattle.texts.specs.Colon.{colon_text_at}
use Rattle.tables.specs.Layout.{rules, symbols, width}
use Rattle.tables.specs.Table.{find_name}
use Rattle.grammar.specs.declared.State.{State}
use Rattle.grammar.specs.declared.Cause.{Cause}
use Rattle.grammar.specs.declared.Cause.TheVariants.{MissingColon, MissingRightArrow, UnknownDeclaration}
use Rattle.grammar.specs.declared.Answer.{Answer}
use Rattle.grammar.specs.declared.Answer.TheVariants.{Going, Done, Refused}
use Rattle.grammar.specs.declared.Refusal.{Refusal}
use Rattle.grammar.specs.Cells.{rule_cells}
use Rattle.grammar.specs.State.{Out0, count, with_at, gap_at, past, past_gap, onward}
use Rattle.grammar.proofs.SameKind.{push_kind, pass_kind}
use Rattle.grammar.proofs.Touch.{refused_going, done_going, pass_going}
use Rattle.items.specs.Items.{begun}
use Rattle.rules.specs.Rules.{Typing, Heading, Ruled, mark_gap, pass_mark, start_or, first_start, colon_given, colon_type, arrow_passed, arrow_type, rule_type, rule_found, enter_rule, typed_head, named_head, head_found, rule_head, body_passed, rule_body, rule_headed, rule_step, next_rule, percents, rule_or_end, rules_turn, rules_run, rules_passed, rules_all, programs_gap, programs_from}
use Rattle.sections.specs.Sections.{rest_from, rest_all}
use Rattle.alike.proofs.Again.{turns_more, turns_stop}
use Rattle.printed_rules.specs.Items.{Item, Items1}
use Rattle.printed_rules.specs.Rules.{Rule, Programs, none, given, MarkAt, Type1, untyped1, typed1, Rule1, over, Rules1, over1, rule1, Programs1, none1, given1, Rest1}
use Rattle.printed_rules.proofs.Read.{Opens, goes, halts, push_opens, list_read}
use Rattle.printed_rules.proofs.Onward.{rule_forth}

-- a mark that was passed stands there, and nothing but the position changed
pub record MarkRead (src : List ℕ) (s : State) (word : List ℕ) (o : Out0) : Type 0 where
  pub to : ℕ
  pub stands : MarkAt s.kind src word s.at to
  pub is : o ≡ record { answer = Going; state = with_at s to }

module _ (src : List ℕ) (s : State) (word : List ℕ) (cause : Cause) where
  pub mark_read : (pass_mark src s word cause).answer ≡ Going → MarkRead src s word (pass_mark src s word cause)
  unfolding pass_mark past_gap
  mark_read = go (gap_at s.kind true src s.at) refl
    where
      behind : (i n : ℕ) → gap_at s.kind true src s.at ≡ Ok (i, n) → starts_at word src i ≡ true → (g : Result (ℕ × ℕ) Refusal) → gap_at s.kind true src (i + length word) ≡ g
          → (past false g s).answer ≡ Going → MarkRead src s word (past false g s)
      behind i n e m (Ok (k, l)) f r = record { to = k; stands = record { at = i; before = n; after = l; gap = e; is = m; next = f }; is = refl }
      behind i n e m (Err x) f r = absurd (refused_going x r)

      go : (g : Result (ℕ × ℕ) Refusal) → gap_at s.kind true src s.at ≡ g → (mark_gap g src s word cause).answer ≡ Going → MarkRead src s word (mark_gap g src s word cause)
      go (Ok (i, n)) e =
          on_test (λ (o : Out0). o.answer ≡ Going → MarkRead src s word o) (starts_at word src i) _ _
          (λ m. behind i n e m (gap_at s.kind true src (i + length word)) refl) (λ m r. absurd (refused_going _ r))
      go (Err f) e = λ r. absurd (refused_going f r)

  -- and where it stands it is passed
  pub mark_is : (to : ℕ) → MarkAt s.kind src word s.at to → pass_mark src s word cause ≡ record { answer = Going; state = with_at s to }
  unfolding pass_mark past_gap
  mark_is to m = rw (m.gap, mark_gap, m.is, m.next)

-- The type of a head that was read.
pub record TypeRead (src : List ℕ) (s : State) (o : Typing) : Type 0 where
  pub to : ℕ
  pub type : List ℕ
  pub stands : Type1 s.kind src s.at to type
  pub is : o.state ≡ with_at s to

module _ (src : List ℕ) (s : State) where
  arrow_read : eqb s.kind 2 ≡ true → (arrow_type src s).answer ≡ Going → TypeRead src s (arrow_type src s)
  unfolding arrow_type colon_type
  arrow_read k = go (pass_mark src s (45 ∷ 62 ∷ []) MissingRightArrow) (mark_read src s (45 ∷ 62 ∷ []) MissingRightArrow)
    where
      texted : (from : ℕ) → MarkAt s.kind src (45 ∷ 62 ∷ []) s.at from → (c : Result (ℕ × ℕ × Place) ℕ) → colon_text_at src from ≡ c
          → (colon_given c (with_at s from)).answer ≡ Going → TypeRead src s (colon_given c (with_at s from))
      texted from m (Ok (to, n, p)) e r =
          record { to = to; type = slice from to src; stands = typed1 k (record { lines = n; arrow = m; text = e }) refl; is = refl }
      texted from m (Err i) e r = absurd (refused_going _ r)

      by : (o : Out0) → MarkRead src s (45 ∷ 62 ∷ []) o → (arrow_passed o.answer src o.state).answer ≡ Going → TypeRead src s (arrow_passed o.answer src o.state)
      by o m r =
          told (λ (w : Out0). TypeRead src s (arrow_passed w.answer src w.state)) (sym m.is)
          (texted m.to m.stands (colon_text_at src m.to) refl (told (λ (w : Out0). (arrow_passed w.answer src w.state).answer ≡ Going) m.is r))

      goes_on : (a : Answer) (u : State) → (arrow_passed a src u).answer ≡ Going → a ≡ Going
      goes_on Going u r = refl
      goes_on Done u r = absurd (done_going r)
      goes_on (Refused f) u r = absurd (refused_going f r)

      go : (o : Out0) → (o.answer ≡ Going → MarkRead src s (45 ∷ 62 ∷ []) o) → (arrow_passed o.answer src o.state).answer ≡ Going → TypeRead src s (arrow_passed o.answer src o.state)
      go o f r = by o (f (goes_on o.answer o.state r)) r

  pub type_read : (rule_type src s).answer ≡ Going → TypeRead src s (rule_type src s)
  unfolding rule_type
  type_read =
      on_test (λ (o : Typing). o.answer ≡ Going → TypeRead src s o) (eqb s.kind 2) _ _ (λ k. arrow_read k)
      (λ k r. record { to = s.at; type = []; stands = untyped1 k; is = refl })

-- a rule's row leaves the reading where it stands, and its kind
module _ (src : List ℕ) (s : State) (from to : ℕ) (part : Option (ℕ × ℕ)) (t7 : List ℕ) where
  pub row_kind : (enter_rule src s from to part t7).state.kind ≡ s.kind
  unfolding enter_rule
  row_kind = go (find_name src (width rules) 0 (count s rules) t7 from to)
    where
      go : (f : Option ℕ) → (rule_found f s from to part t7).state.kind ≡ s.kind
      go (Some r) = refl
      go None = push_kind s rules (rule_cells from to part) t7

  pub row_stays : (enter_rule src s from to part t7).answer ≡ Going → (enter_rule src s from to part t7).state.at ≡ s.at
  unfolding enter_rule
  row_stays = go (find_name src (width rules) 0 (count s rules) t7 from to)
    where
      stays : (a : Answer) (u : State) → Opens s.at a u → a ≡ Going → u.at ≡ s.at
      stays _ u (goes e) r = e
      stays _ u halts r = absurd (refused_going _ r)

      go : (f : Option ℕ) → (rule_found f s from to part t7).answer ≡ Going → (rule_found f s from to part t7).state.at ≡ s.at
      go (Some r) g = refl
      go None g = stays _ _ (push_opens s rules (rule_cells from to part) t7) g

-- nor does the start that the first rule gives
pub start_kind : (s : State) (from to : ℕ) → (first_start s from to).kind ≡ s.kind
unfolding first_start
start_kind s from to = go s.singles.start
  where
    go : (p : Option (ℕ × ℕ)) → (start_or p s from to).kind ≡ s.kind
    go None = refl
    go (Some (a, b)) = refl

-- A head that was read.
record HeadRead (src : List ℕ) (s u : State) : Type 0 where
  to : ℕ
  head : ℕ
  type : List ℕ
  named : name_at src s.at ≡ Ok to
  typed : Type1 s.kind src to head type
  at : u.at ≡ head
  of : u.kind ≡ s.kind

module _ (src : List ℕ) (s : State) (t7 : List ℕ) where
  head_read : (rule_head src s t7).answer ≡ Going → HeadRead src s (rule_head src s t7).state
  unfolding rule_head named_head
  head_read = go (name_at src s.at) refl
    where
      goes_on : (a : Answer) (u : State) (part : Option (ℕ × ℕ)) (j : ℕ) → (typed_head a src u part s.at j t7).answer ≡ Going → a ≡ Going
      goes_on Going u part j r = refl
      goes_on Done u part j r = absurd (done_going r)
      goes_on (Refused f) u part j r = absurd (refused_going f r)

      by : (j : ℕ) → name_at src s.at ≡ Ok j → (o : Typing) → o.answer ≡ Going → TypeRead src (with_at (first_start s s.at j) j) o → (a : Answer) → a ≡ Going
          → (typed_head a src o.state o.given s.at j t7).answer ≡ Going → HeadRead src s (typed_head a src o.state o.given s.at j t7).state
      by j e o q w Going x r =
          record {
            to = j;
            head = w.to;
            type = w.type;
            named = e;
            typed = told (λ (k : ℕ). Type1 k src j w.to w.type) (start_kind s s.at j) w.stands;
            at = row_stays src o.state s.at j o.given t7 r ∙ ap (λ (u : State). u.at) w.is;
            of = row_kind src o.state s.at j o.given t7 ∙ ap (λ (u : State). u.kind) w.is ∙ start_kind s s.at j;
          }
      by j e o q w Done x r = absurd (done_going r)
      by j e o q w (Refused f) x r = absurd (refused_going f r)

      go : (n : Result ℕ ℕ) → name_at src s.at ≡ n → (head_found n src s t7).answer ≡ Going → HeadRead src s (head_found n src s t7).state
      go (Ok j) e r =
          let o = rule_type src (with_at (first_start s s.at j) j) in
          let a = goes_on o.answer o.state o.given j r in
          by j e o a (type_read src (with_at (first_start s s.at j) j) a) o.answer a r
      go (Err k) e r = absurd (refused_going _ r)

-- A body that was read.
record BodyRead (src : List ℕ) (s u : State) : Type 0 where
  from : ℕ
  items : List Item
  colon : MarkAt s.kind src (58 ∷ []) s.at from
  stand : Items1 s.kind src from u.at items
  of : u.kind ≡ s.kind

module _ (src : List ℕ) (s : State) (row : ℕ) (t1 t8 t9 : List ℕ) where
  body_read : (rule_body src s row t1 t8 t9).answer ≡ Going → BodyRead src s (rule_body src s row t1 t8 t9).state
  unfolding rule_body
  body_read r =
      let m = mark_read src s (58 ∷ []) MissingColon (goes_on (pass_mark src s (58 ∷ []) MissingColon).answer (pass_mark src s (58 ∷ []) MissingColon).state r) in
      told (λ (o : Out0). BodyRead src s (body_passed o.answer src o.state row t1 t8 t9).state) (sym m.is)
      (by m.to m.stands (told (λ (o : Out0). (body_passed o.answer src o.state row t1 t8 t9).answer ≡ Going) m.is r))
    where
      goes_on : (a : Answer) (u : State) → (body_passed a src u row t1 t8 t9).answer ≡ Going → a ≡ Going
      goes_on Going u r = refl
      goes_on Done u r = absurd (done_going r)
      goes_on (Refused f) u r = absurd (refused_going f r)

      by : (j : ℕ) → MarkAt s.kind src (58 ∷ []) s.at j → (body_passed Going src (with_at s j) row t1 t8 t9).answer ≡ Going → BodyRead src s (body_passed Going src (with_at s j) row t1 t8 t9).state
      by j m r =
          let w = list_read src (with_at s j) (begun row j (count s symbols)) t1 t8 t9 r in
          record { from = j; items = w.items; colon = m; stand = w.stand; of = w.of }

-- A rule that was read, and the spacing behind it.
record NextRead (src : List ℕ) (s u : State) : Type 0 where
  end : ℕ
  lines : ℕ
  rule : Rule
  stands : Rule1 s.kind src s.at end rule
  gap : gap_at s.kind true src end ≡ Ok (u.at, lines)
  of : u.kind ≡ s.kind

module _ (src : List ℕ) (s : State) (t1 t7 t8 t9 : List ℕ) where
  record StepRead (u : State) : Type 0 where
    rule : Rule
    stands : Rule1 s.kind src s.at u.at rule
    of : u.kind ≡ s.kind

  -- its head and its body
  join : (v u : State) → HeadRead src s v → BodyRead src v u → StepRead u
  join v u x y =
      record {
        rule = record { name = slice s.at x.to src; type = x.type; items = y.items };
        stands = record {
          to = x.to;
          head = x.head;
          from = y.from;
          named = x.named;
          spelled = refl;
          typed = x.typed;
          colon = rw (x.of, x.at) at y.colon;
          items = rw x.of at y.stand;
        };
        of = y.of ∙ x.of;
      }

  step_read : (rule_step src s t1 t7 t8 t9).answer ≡ Going → StepRead (rule_step src s t1 t7 t8 t9).state
  unfolding rule_step
  step_read r = go (rule_head src s t7) (rule_head src s t7).answer refl (head_read src s t7) r
    where
      go : (h : Heading) (a : Answer) → h.answer ≡ a → (h.answer ≡ Going → HeadRead src s h.state) → (rule_headed a src h t1 t8 t9).answer ≡ Going → StepRead (rule_headed a src h t1 t8 t9).state
      go h Going e f r = join h.state _ (f e) (body_read src h.state h.row t1 t8 t9 r)
      go h Done e f r = absurd (done_going r)
      go h (Refused q) e f r = absurd (refused_going q r)

  next_read : (next_rule src s t1 t7 t8 t9).answer ≡ Going → NextRead src s (next_rule src s t1 t7 t8 t9).state
  unfolding next_rule
  next_read r =
      let o = rule_step src s t1 t7 t8 t9 in
      let p = pass_going src false o.state.at o.answer o.state r in
      let x = step_read p.went in
      record {
        end = o.state.at;
        lines = p.lines;
        rule = x.rule;
        stands = x.stands;
        gap = rw (x.of, ← p.at) at p.gap;
        of = pass_kind o.state src false o.state.at o.answer ∙ x.of;
      }

-- where the rules are over, the loop stops; else it takes a rule
module _ (src : List ℕ) (o : Ruled) where
  pub turn_over : over src o.state.at ≡ true → rules_turn src o ≡ stop o
  unfolding rules_turn
  turn_over = go (leb (length src) o.state.at) (starts_at percents src o.state.at)
    where
      go : (b c : Bool) → (b || c) ≡ true → rule_or_end b c o (next_rule src o.state o.t1 o.t7 o.t8 o.t9) ≡ stop o
      go true c e = refl
      go false true e = refl
      go false false e = absurd (false≢true e)

  pub turn_next : over src o.state.at ≡ false
      → rules_turn src o ≡ onward (next_rule src o.state o.t1 o.t7 o.t8 o.t9).answer (next_rule src o.state o.t1 o.t7 o.t8 o.t9)
  unfolding rules_turn
  turn_next = go (leb (length src) o.state.at) (starts_at percents src o.state.at) (next_rule src o.state o.t1 o.t7 o.t8 o.t9)
    where
      go : (b c : Bool) (p : Ruled) → (b || c) ≡ false → rule_or_end b c o p ≡ onward p.answer p
      go true c p e = absurd (false≢true (sym e))
      go false true p e = absurd (false≢true (sym e))
      go false false p e = refl

-- The rules that were read stand in the source.
pub record RulesRead (kind : ℕ) (src : List ℕ) (i : ℕ) (u : State) : Type 0 where
  pub of : u.kind ≡ kind
  pub rules : List Rule
  pub stand : Rules1 kind src i u.at rules

-- one more, with the spacing behind it
more_read : (src : List ℕ) (s v u : State) → over src s.at ≡ false → NextRead src s v → RulesRead v.kind src v.at u → RulesRead s.kind src s.at u
more_read src s v u e x y = record { of = y.of ∙ x.of; rules = x.rule ∷ y.rules; stand = rule1 e x.stands x.gap (rw x.of at y.stand) }

pub run_read : (src : List ℕ) (n : ℕ) (o : Ruled) → length src - o.state.at < n → (turns n (rules_turn src) o).answer ≡ Going
    → RulesRead o.state.kind src o.state.at (turns n (rules_turn src) o).state
run_read src zero o h r = absurd (omega arith)
run_read src (suc n) o h r = go (over src o.state.at) refl (run_read src n (next_rule src o.state o.t1 o.t7 o.t8 o.t9))
  where
    next : Ruled
    next = next_rule src o.state o.t1 o.t7 o.t8 o.t9

    After : Type 0
    After = length src - next.state.at < n → (turns n (rules_turn src) next).answer ≡ Going → RulesRead next.state.kind src next.state.at (turns n (rules_turn src) next).state

    by : After → over src o.state.at ≡ false → (a : Answer) → next.answer ≡ a → RulesRead o.state.kind src o.state.at (turns (suc n) (rules_turn src) o).state
    by again e Going f =
        let t : rules_turn src o ≡ more next = turn_next src o e ∙ ap (λ (a : Answer). onward a next) f in
        let x = next_read src o.state o.t1 o.t7 o.t8 o.t9 f in
        let z = rule_forth o.state.kind src o.state.at x.end next.state.at x.lines x.rule x.stands x.gap in
        let z0 = z.0 in
        let z1 = z.1 in
        rw (turns_more (rules_turn src) n o next t) (more_read src o.state next.state _ e x (again (omega arith) (rw (turns_more (rules_turn src) n o next t) at r)))
    by again e Done f =
        let t : rules_turn src o ≡ stop next = turn_next src o e ∙ ap (λ (a : Answer). onward a next) f in
        absurd (done_going (sym f ∙ (rw (turns_stop (rules_turn src) n o next t) at r)))
    by again e (Refused q) f =
        let t : rules_turn src o ≡ stop next = turn_next src o e ∙ ap (λ (a : Answer). onward a next) f in
        absurd (refused_going q (sym f ∙ (rw (turns_stop (rules_turn src) n o next t) at r)))

    go : (b : Bool) → over src o.state.at ≡ b → After → RulesRead o.state.kind src o.state.at (turns (suc n) (rules_turn src) o).state
    go true e again = rw (turns_stop (rules_turn src) n o o (turn_over src o e)) (record { of = refl; rules = []; stand = over1 e })
    go false e again = by again e next.answer refl

-- The programs text that was read stands there.
pub programs_read : (src : List ℕ) (s : State) → (programs_from src s).answer ≡ Going → (p : Programs) × Programs1 s.kind src s.at p
unfolding programs_from
programs_read src s =
    on_test (λ (o : Out0). o.answer ≡ Going → (p : Programs) × Programs1 s.kind src s.at p) (starts_at percents src s.at) _ _
    (λ e. go e (gap_at s.kind true src (s.at + 2)) refl) (λ e r. (none, none1 e))
  where
    go : starts_at percents src s.at ≡ true → (g : Result (ℕ × ℕ) Refusal) → gap_at s.kind true src (s.at + 2) ≡ g → (programs_gap g src s).answer ≡ Going → (p : Programs) × Programs1 s.kind src s.at p
    go e (Ok (k, m)) f r = (given (drop k src), given1 e f refl)
    go e (Err q) f r = absurd (refused_going q r)

-- T1 of all behind the declarations
module _ (src : List ℕ) (s : State) (t1 t7 t8 t9 : List ℕ) where
  -- the rules section from its `%%` on
  pub record SectionRead (u : State) : Type 0 where
    pub from : ℕ
    pub mark : MarkAt s.kind src percents s.at from
    pub section : RulesRead s.kind src from u

  pub section_read : (rules_all src s t1 t7 t8 t9).answer ≡ Going → SectionRead (rules_all src s t1 t7 t8 t9).state
  unfolding rules_all rules_run
  section_read r =
      let m = mark_read src s percents UnknownDeclaration (goes_on (pass_mark src s percents UnknownDeclaration).answer (pass_mark src s percents UnknownDeclaration).state r) in
      told (λ (o : Out0). SectionRead (rules_passed o.answer src o.state t1 t7 t8 t9).state) (sym m.is)
      (record {
        from = m.to;
        mark = m.stands;
        section = run_read src (suc (length src)) (record { answer = Going; state = with_at s m.to; t1 = t1; t7 = t7; t8 = t8; t9 = t9 }) (omega arith)
            (told (λ (o : Out0). (rules_passed o.answer src o.state t1 t7 t8 t9).answer ≡ Going) m.is r);
      })
    where
      goes_on : (a : Answer) (u : State) → (rules_passed a src u t1 t7 t8 t9).answer ≡ Going → a ≡ Going
      goes_on Going u r = refl
      goes_on Done u r = absurd (done_going r)
      goes_on (Refused f) u r = absurd (refused_going f r)

  both_read : (u : State) → SectionRead u → (p : Programs) → Programs1 u.kind src u.at p → (rs : List Rule) × (p : Programs) × Rest1 s.kind src s.at rs p
  both_read u x p y = (x.section.rules, p, record { from = x.from; to = u.at; mark = x.mark; rules = x.section.stand; programs = rw x.section.of at y })

  -- The rules and programs of a source that was read stand there.
  pub rest_read : (rest_all src s t1 t7 t8 t9).answer ≡ Going → (rs : List Rule) × (p : Programs) × Rest1 s.kind src s.at rs p
  unfolding rest_all
  rest_read = go (rules_all src s t1 t7 t8 t9) (rules_all src s t1 t7 t8 t9).answer refl section_read
    where
      go : (o : Ruled) (a : Answer) → o.answer ≡ a → (o.answer ≡ Going → SectionRead o.state) → (rest_from a src o).answer ≡ Going → (rs : List Rule) × (p : Programs) × Rest1 s.kind src s.at rs p
      go o Going e f r = let y = programs_read src o.state r in both_read o.state (f e) y.0 y.1
      go o Done e f r = absurd (done_going r)
      go o (Refused q) e f r = absurd (refused_going q r)
