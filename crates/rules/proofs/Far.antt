-- Each step of the rules section keeps soundness so far, whatever its answer; so does the section, and unless it was refused the productions' ranges end behind
-- the last symbol. Assumes nothing.
use Rattle.std.specs.Prelude.{Option, Some, None, Result, Ok, Err}
use Prim.Native.Nat.{ℕ, suc, ◌+◌, ◌-◌, ◌≤◌, ◌<◌}
use mathlib.Core.Path.{◌≡◌, refl, sym, ◌∙◌}
use mathlib.Core.List.{List, [], ◌∷◌}
use mathlib.Core.Bool.{Bool, true, false}
use mathlib.Core.Logic.{inl, inr}
use native.Mathlib.Omega.{arith}
use lib.Dec.{leb, eqb}
use lib.ListN.{length, get_or}
use Rattle.scan.specs.Scan.{starts_at}
use Rattle.scan.proofs.Bytes.{on_test, told}
use Rattle.scan.proofs.Loop.{Either, turns_end}
use Rattle.words.specs.Words.{name_at, Named}
use Rattle.words.proofs.Words.{name_placed}
use Rattle.scan.specs.declared.Place.{Place}
use Rattle.texts.specs.Colon.{colon_text_at, ColonTexts}
use Rattle.texts.proofs.Laws.{colon_placed}
use Rattle.tables.specs.Table.{has_name}
use Rattle.tables.specs.Rows.{row_at}
use Rattle.tables.specs.Layout.{rules, symbols, width}
use Rattle.tables.proofs.Rows.{row_cell}
use Rattle.tables.proofs.Cases.{find_cases}
use Rattle.grammar.specs.declared.State.{State}
use Rattle.grammar.specs.declared.Cause.{Cause}
use Rattle.grammar.specs.declared.Cause.TheVariants.{MissingColon, MissingRightArrow, UnknownDeclaration}
use Rattle.grammar.specs.declared.Answer.{Answer}
use Rattle.grammar.specs.declared.Answer.TheVariants.{Going, Done, Refused}
use Rattle.grammar.specs.declared.Refusal.{Refusal}
use Rattle.grammar.specs.Cells.{rule_cells}
use Rattle.grammar.specs.Numbers.{part_numbers}
use Rattle.grammar.specs.State.{Out0, Passed, count, with_at, gap_at, Gapped, past_gap, onward}
use Rattle.grammar.specs.Sound.{AllTables, set_tab, Given, Lies, Differ, Far}
use Rattle.grammar.proofs.Far.{far_at, far_singles}
use Rattle.grammar.proofs.Counting.{same_low}
use Rattle.grammar.proofs.Touch.{refused_going, done_going, push_apart, push_more, pass_counts, pass_going}
use Rattle.grammar.proofs.Kept.{gapped, push_held, past_far, pass_far}
use Rattle.items.specs.Items.{begun, item_list}
use Rattle.items.proofs.Far.{Taken, going_taken, taken_going, pass_onward, pass_taken, begun_draft, filled, items_far, items_undone}
use Rattle.rules.specs.Rules.{Typing, Heading, Ruled, mark_gap, pass_mark, start_or, first_start, colon_given, colon_type, arrow_passed, arrow_type, rule_type, rule_found, enter_rule, typed_head, named_head, head_found, rule_head, body_passed, rule_body, rule_headed, rule_step, next_rule, percents, rule_or_end, rules_turn, rules_run, rules_passed, rules_all, with_programs, programs_gap, programs_from}
use Rattle.rules.proofs.Laws.{mark_fits}

-- A step that counts nothing: sound so far, and not back.
pub record Uncounted (src : List ℕ) (done : ℕ) (T : AllTables) (s u : State) : Type 0 where
  pub far : Far src done u T
  pub forth : s.at ≤ u.at
  pub counts : u.counts ≡ s.counts

-- the type of a rule lies in the source
pub record TypeFar (src : List ℕ) (done : ℕ) (T : AllTables) (s : State) (o : Typing) : Type 0 where
  pub to : Uncounted src done T s o.state
  pub given : Lies src o.given

uncounted_on : {src : List ℕ} {done : ℕ} {T : AllTables} {s u v : State} → Uncounted src done T s u → Uncounted src done T u v → Uncounted src done T s v
uncounted_on x y = let a = x.forth in let b = y.forth in record { far = y.far; forth = omega arith; counts = y.counts ∙ x.counts }

module _ {src : List ℕ} {done : ℕ} {s : State} {T : AllTables} (f : Far src done s T) where
  still : Uncounted src done T s s
  still = record { far = f; forth = omega arith; counts = refl }

  moved : (i : ℕ) → s.at ≤ i → i ≤ length src → Uncounted src done T s (with_at s i)
  moved i h k = record { far = far_at f i h k; forth = h; counts = refl }

  -- spacing, a mark, and spacing again
  pub mark_far : (word : List ℕ) (cause : Cause) → Uncounted src done T s (pass_mark src s word cause).state
  unfolding pass_mark
  mark_far word cause = go (gap_at s.kind true src s.at) (gapped s.kind true src s.at f.here)
    where
      past : (j : ℕ) → s.at ≤ j → j ≤ length src → Uncounted src done T s (past_gap src false j s).state
      past j h k = record { far = past_far f false j h k; forth = (pass_onward src j s Going k).forth h; counts = pass_counts src false j Going s }

      go : (g : Result (ℕ × ℕ) Refusal) → Gapped src s.at g → Uncounted src done T s (mark_gap g src s word cause).state
      go (Ok (i, n)) x =
          let a = x.0 in
          on_test (λ (o : Out0). Uncounted src done T s o.state) (starts_at word src i) _ _ (λ e. past (i + length word) (omega arith) (mark_fits word src i x.1 e)) (λ e. still)
      go (Err e) x = still

  -- the start
  pub start_far : (from to : ℕ) → Passed src from to → Uncounted src done T s (first_start s from to)
  unfolding first_start
  start_far from to p = go s.singles.start
    where
      go : (q : Option (ℕ × ℕ)) → Uncounted src done T s (start_or q s from to)
      go None =
          let g = f.singles in
          record { far = far_singles f _ (record { start = p; expect = g.expect; expect_rr = g.expect_rr; param = g.param; generics = g.generics; programs = g.programs }); forth = omega arith; counts = refl }
      go (Some (a, b)) = still

  start_at : (from to : ℕ) → (first_start s from to).at ≡ s.at
  unfolding first_start
  start_at from to = go s.singles.start
    where
      go : (q : Option (ℕ × ℕ)) → (start_or q s from to).at ≡ s.at
      go None = refl
      go (Some (a, b)) = refl

  -- a type up to a colon
  colon_far : TypeFar src done T s (colon_type src s)
  unfolding colon_type
  colon_far = go (colon_text_at src s.at) (colon_placed src s.at f.here (colon_text_at src s.at) refl).1
    where
      go : (t : Result (ℕ × ℕ × Place) ℕ) → ColonTexts src s.at t → TypeFar src done T s (colon_given t s)
      go (Ok (to, n, p)) x = let a = x.0 in let b = x.1 in record { to = moved to (omega arith) (omega arith); given = record { onward = x.4; inside = x.5 } }
      go (Err i) x = record { to = still; given = tt }

  -- the programs
  pub programs_far : Uncounted src done T s (programs_from src s).state
  unfolding programs_from
  programs_far =
      on_test (λ (o : Out0). Uncounted src done T s o.state) (starts_at percents src s.at) _ _
      (λ e. let h = mark_fits percents src s.at f.here e in go (gap_at s.kind true src (s.at + 2)) (gapped s.kind true src (s.at + 2) h))
      (λ e. still)
    where
      go : (g : Result (ℕ × ℕ) Refusal) → Gapped src (s.at + 2) g → Uncounted src done T s (programs_gap g src s).state
      go (Ok (i, n)) x =
          let g = f.singles in
          let h = f.here in
          record {
            far = far_singles (far_at f (length src) h (omega arith)) (with_programs s.singles (Some (i, length src))) (record { start = g.start; expect = g.expect; expect_rr = g.expect_rr; param = g.param; generics = g.generics; programs = record { onward = x.1; inside = omega arith } });
            forth = h;
            counts = refl;
          }
      go (Err e) x = still

-- the type of a rule, by the kind
pub type_far : {src : List ℕ} {done : ℕ} {s : State} {T : AllTables} → Far src done s T → TypeFar src done T s (rule_type src s)
unfolding rule_type arrow_type
type_far {src} {done} {s} {T} f =
    on_test (TypeFar src done T s) (eqb s.kind 2) _ _
    (λ e. let o = pass_mark src s (45 ∷ 62 ∷ []) MissingRightArrow in go o.answer o.state (mark_far f (45 ∷ 62 ∷ []) MissingRightArrow))
    (λ e. record { to = still f; given = f.actiontype })
  where
    go : (a : Answer) (u : State) → Uncounted src done T s u → TypeFar src done T s (arrow_passed a src u)
    go Going u x = let y = colon_far x.far in record { to = uncounted_on x y.to; given = y.given }
    go Done u x = record { to = x; given = tt }
    go (Refused e) u x = record { to = x; given = tt }

-- A rule's head: sound so far with table 7 as it left it, and no symbol counted; where the reading goes on it is behind `least`, and the rule's row is one of
-- table 7.
pub record HeadFar (src : List ℕ) (done : ℕ) (T : AllTables) (s : State) (least : ℕ) (h : Heading) : Type 0 where
  pub far : Far src done h.state (set_tab T rules h.t7)
  pub beyond : h.answer ≡ Going → least ≤ h.state.at
  pub symbols : count h.state symbols ≡ count s symbols
  pub row : h.answer ≡ Going → h.row < count h.state rules

-- the cells of a type
part_wide : (p : Option (ℕ × ℕ)) → length (part_numbers p) ≡ 3
part_wide None = refl
part_wide (Some (a, b)) = refl

given_part : (src : List ℕ) (p : Option (ℕ × ℕ)) → Lies src p → Given src (get_or (part_numbers p) 0 0) (get_or (part_numbers p) 1 0) (get_or (part_numbers p) 2 0)
given_part src None x = inl (refl, refl, refl)
given_part src (Some (a, b)) x = inr (refl, x)

-- a rule whose name no row has
new_name : (src t : List ℕ) (from to : ℕ) (given : Option (ℕ × ℕ)) (r : ℕ) → has_name src (width rules) 0 t from to r ≡ false → Differ src (row_at (width rules) t r) (rule_cells from to given)
unfolding has_name
new_name src t from to given r e = record { differ = rw (row_cell (width rules) t r 0 (omega arith), row_cell (width rules) t r 1 (omega arith)) e }

-- a rule's row
pub rule_far : {src : List ℕ} {done : ℕ} {s : State} {T : AllTables} → Far src done s T → (from to : ℕ) (given : Option (ℕ × ℕ)) → Passed src from to → Lies src given → HeadFar src done T s s.at (enter_rule src s from to given T.t7)
unfolding enter_rule
rule_far {src} {done} {s} {T} f from to given p q =
    find_cases (λ (x : Option ℕ). HeadFar src done T s s.at (rule_found x s from to given T.t7)) src (width rules) 0 (count s rules) T.t7 from to
    (λ r l e none. record { far = f; beyond = λ g. omega arith; symbols = refl; row = λ g. l })
    (λ none.
    let row = rule_cells from to given in
    let w = part_wide given in
    let x = push_held f rules (omega arith) (λ e. omega arith) row (rw w) (record { name = p; type = given_part src given q }) (λ r l. new_name src T.t7 from to given r (none r l)) in
    let e = x.stays in
    record {
      far = x.far;
      beyond = λ g. omega arith;
      symbols = (push_apart s rules row T.t7).count symbols (λ e. omega arith);
      row = λ g. let c = (push_more s rules row T.t7 (same_low s rules _ (omega arith) (rw f.ten (omega arith))) g).counted in omega arith;
    })

-- the head of a rule, behind its name and from it on
module _ {src : List ℕ} {done : ℕ} {s : State} {T : AllTables} (f : Far src done s T) where
  named_far : (j : ℕ) → s.at < j → j ≤ length src → HeadFar src done T s (s.at + 1) (named_head src s j T.t7)
  unfolding named_head
  named_far j h k = go (rule_type src v).answer (rule_type src v) (type_far w)
    where
      p : Passed src s.at j
      p = record { onward = omega arith; inside = k }

      v : State
      v = with_at (first_start s s.at j) j

      w : Far src done v T
      w = let e = start_at f s.at j in far_at (start_far f s.at j p).far j (omega arith) k

      same : (u : State) → u.counts ≡ v.counts → count u symbols ≡ count s symbols
      same u e = rw (e, (start_far f s.at j p).counts)

      go : (a : Answer) (o : Typing) → TypeFar src done T v o → HeadFar src done T s (s.at + 1) (typed_head a src o.state o.given s.at j T.t7)
      go Going o x =
          let r = rule_far x.to.far s.at j o.given p x.given in
          let a = x.to.forth in
          record { far = r.far; beyond = λ g. let b = r.beyond g in omega arith; symbols = r.symbols ∙ same o.state x.to.counts; row = r.row }
      go Done o x = record { far = x.to.far; beyond = λ g. absurd (done_going g); symbols = same o.state x.to.counts; row = λ g. absurd (done_going g) }
      go (Refused e) o x = record { far = x.to.far; beyond = λ g. absurd (refused_going e g); symbols = same o.state x.to.counts; row = λ g. absurd (refused_going e g) }

  pub head_far : HeadFar src done T s (s.at + 1) (rule_head src s T.t7)
  unfolding rule_head
  head_far = go (name_at src s.at) (name_placed src s.at (name_at src s.at) refl).1
    where
      go : (n : Result ℕ ℕ) → Named src s.at n → HeadFar src done T s (s.at + 1) (head_found n src s T.t7)
      go (Ok j) x = named_far j x.0 x.1
      go (Err k) x = record { far = f; beyond = λ g. absurd (refused_going _ g); symbols = refl; row = λ g. absurd (refused_going _ g) }

-- Rules that were read: sound so far, and the productions' ranges end behind the last symbol unless a rule was refused.
pub record Whole (src : List ℕ) (T : AllTables) (a : Answer) (s : State) : Type 0 where
  pub done : ℕ
  pub far : Far src done s T
  pub whole : Taken a → done ≡ count s symbols

-- One rule: where the reading goes on it is further on.
pub record RuleFar (src : List ℕ) (T : AllTables) (at : ℕ) (a : Answer) (s : State) : Type 0 where
  pub read : Whole src T a s
  pub further : a ≡ Going → at < s.at

-- a rule's body: the colon and the productions
pub body_far : {src : List ℕ} {done : ℕ} {s : State} (T : AllTables) → Far src done s T → done ≡ count s symbols → (row : ℕ) → row < count s rules → let o = rule_body src s row T.t1 T.t8 T.t9 in RuleFar src (filled T o.t1 o.t8 o.t9) s.at o.answer o.state
unfolding rule_body
body_far {src} {done} {s} T f e row h = let o = pass_mark src s (58 ∷ []) MissingColon in go o.answer o.state (mark_far f (58 ∷ []) MissingColon)
  where
    go : (a : Answer) (u : State) → Uncounted src done T s u → let o = body_passed a src u row T.t1 T.t8 T.t9 in RuleFar src (filled T o.t1 o.t8 o.t9) s.at o.answer o.state
    go Going u x =
        let d = begun row u.at (count u symbols) in
        let o = item_list src u d T.t1 T.t8 T.t9 in
        let c = x.counts in
        let y = items_far T x.far (begun_draft row u.at (count u symbols) (rw c h) refl x.far.here (rw c (sym e))) in
        let l = x.forth in
        record {
          read = record { done = y.done; far = y.far; whole = λ t. y.whole (taken_going o.answer t (items_undone src u d T.t1 T.t8 T.t9)) };
          further = λ g. let m = y.further g in omega arith;
        }
    go Done u x = record { read = record { done = done; far = x.far; whole = λ t. rw x.counts e }; further = λ g. absurd (done_going g) }
    go (Refused r) u x = record { read = record { done = done; far = x.far; whole = λ t. rw x.counts e }; further = λ g. absurd (refused_going r g) }

-- the four tables that rules fill, and the six others
abbrev pub ruled : AllTables → Ruled → AllTables
ruled T o = filled (set_tab T rules o.t7) o.t1 o.t8 o.t9

abbrev pub RuledFar : List ℕ → AllTables → ℕ → Ruled → Type 0
RuledFar src T at o = RuleFar src (ruled T o) at o.answer o.state

abbrev pub WholeFar : List ℕ → AllTables → Ruled → Type 0
WholeFar src T o = Whole src (ruled T o) o.answer o.state

module _ {src : List ℕ} {done : ℕ} {s : State} (T : AllTables) (f : Far src done s T) (e : done ≡ count s symbols) where
  -- a rule,
  pub step_far : RuledFar src T s.at (rule_step src s T.t1 T.t7 T.t8 T.t9)
  unfolding rule_step
  step_far = let h = rule_head src s T.t7 in go h.answer h refl (head_far f)
    where
      go : (a : Answer) (h : Heading) → h.answer ≡ a → HeadFar src done T s (s.at + 1) h → RuledFar src T s.at (rule_headed a src h T.t1 T.t8 T.t9)
      go Going h q x =
          let b = body_far (set_tab T rules h.t7) x.far (e ∙ sym x.symbols) h.row (x.row q) in
          let l = x.beyond q in
          record { read = b.read; further = λ g. let m = b.further g in omega arith }
      go Done h q x = record { read = record { done = done; far = x.far; whole = λ t. e ∙ sym x.symbols }; further = λ g. absurd (done_going g) }
      go (Refused r) h q x = record { read = record { done = done; far = x.far; whole = λ t. e ∙ sym x.symbols }; further = λ g. absurd (refused_going r g) }

  -- and the spacing behind it
  pub next_far : RuledFar src T s.at (next_rule src s T.t1 T.t7 T.t8 T.t9)
  unfolding next_rule
  next_far =
      let o = rule_step src s T.t1 T.t7 T.t8 T.t9 in
      let j = o.state.at in
      let x = step_far in
      let h = x.read.far.here in
      record {
        read = record { done = x.read.done; far = pass_far x.read.far false j o.answer (omega arith) h; whole = λ t. rw (pass_counts src false j o.answer o.state) (x.read.whole (pass_taken src j o.state o.answer t)) };
        further = λ g. let l = x.further (pass_going src false j o.answer o.state g).went in let m = (pass_onward src j o.state o.answer h).forth (omega arith) in omega arith;
      }

-- rules under way, and with less to go
abbrev Sofar : List ℕ → AllTables → Ruled → Type 0
Sofar src T o = Far src (count o.state symbols) o.state (ruled T o)

abbrev Onto : List ℕ → AllTables → Ruled → Ruled → Type 0
Onto src T o p = Sofar src T p × (length src - p.state.at < length src - o.state.at)

turn_far : (src : List ℕ) (T : AllTables) (o : Ruled) → Sofar src T o → Either (Onto src T o) (WholeFar src T) (rules_turn src o)
unfolding rules_turn
turn_far src T o f = go (leb (length src) o.state.at) (starts_at percents src o.state.at)
  where
    next : (a : Answer) (p : Ruled) → p.answer ≡ a → RuledFar src T o.state.at p → Either (Onto src T o) (WholeFar src T) (onward a p)
    next Going p q x =
        let l = x.further q in
        let h = x.read.far.here in
        (told (λ (n : ℕ). Far src n p.state (ruled T p)) (x.read.whole (going_taken p.answer q)) x.read.far, omega arith)
    next Done p q x = x.read
    next (Refused r) p q x = x.read

    go : (b c : Bool) → Either (Onto src T o) (WholeFar src T) (rule_or_end b c o (next_rule src o.state o.t1 o.t7 o.t8 o.t9))
    go true c = record { done = _; far = f; whole = λ t. refl }
    go false true = record { done = _; far = f; whole = λ t. refl }
    go false false = let p = next_rule src o.state o.t1 o.t7 o.t8 o.t9 in next p.answer p refl (next_far (ruled T o) f refl)

-- Rules up to the next `%%` or the source's end.
pub run_far : {src : List ℕ} {done : ℕ} {s : State} (T : AllTables) → Far src done s T → done ≡ count s symbols → WholeFar src T (rules_run src s T.t1 T.t7 T.t8 T.t9)
unfolding rules_run
run_far {src} {done} {s} T f e =
    turns_end (Sofar src T) (WholeFar src T) (λ o. length src - o.state.at) (rules_turn src) (turn_far src T) (suc (length src)) _ (omega arith)
    (told (λ (n : ℕ). Far src n s T) e f)

-- The rules section keeps soundness so far, whatever its answer; unless it was refused, the productions' ranges end behind the last symbol.
pub rules_far : {src : List ℕ} {done : ℕ} {s : State} (T : AllTables) → Far src done s T → done ≡ count s symbols → WholeFar src T (rules_all src s T.t1 T.t7 T.t8 T.t9)
unfolding rules_all
rules_far {src} {done} {s} T f e = let o = pass_mark src s percents UnknownDeclaration in go o.answer o.state (mark_far f percents UnknownDeclaration)
  where
    go : (a : Answer) (u : State) → Uncounted src done T s u → WholeFar src T (rules_passed a src u T.t1 T.t7 T.t8 T.t9)
    go Going u x = run_far T x.far (rw x.counts e)
    go Done u x = record { done = done; far = x.far; whole = λ t. rw x.counts e }
    go (Refused r) u x = record { done = done; far = x.far; whole = λ t. rw x.counts e }
