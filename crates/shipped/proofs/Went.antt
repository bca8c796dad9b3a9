-- An accepted read of kinds 1 to 3: what it went through, and what stands in its source. Assumes nothing.
use Rattle.std.specs.Prelude.{Option, Some, None, Result, Ok, Err}
use Prim.Native.Nat.{ℕ, suc, ◌+◌, ◌≤◌}
use mathlib.Core.Path.{◌≡◌, refl, sym, ◌∙◌, ap}
use mathlib.Core.List.{List, [], ◌∷◌}
use mathlib.Core.Bool.{Bool, true, false, ◌||◌}
use borrow.Author.Tests.{eqb-true, ltb-false}
use lib.Dec.{eqb, ltb, leb}
use lib.ListN.{length}
use Rattle.scan.specs.Scan.{starts_at}
use Rattle.scan.proofs.Bytes.{told, on_test}
use Rattle.scan.proofs.Loop.{Either, turns_keep}
use Rattle.whole.specs.Whole.{check_at}
use Rattle.whole.specs.Encode.{Text}
use Rattle.whole.proofs.Theorems.{good_text, text_good}
use Rattle.words.specs.Words.{name_at}
use Rattle.scan.specs.declared.Place.{Place}
use Rattle.texts.specs.Colon.{colon_text_at}
use Rattle.tables.specs.Layout.{rules, symbols, repeats, width}
use Rattle.tables.specs.Table.{find_name}
use Rattle.grammar.specs.declared.State.{State}
use Rattle.grammar.specs.declared.Cause.{Cause}
use Rattle.grammar.specs.declared.Cause.TheVariants.{MissingColon, MissingRightArrow, UnknownDeclaration}
use Rattle.grammar.specs.declared.Refusal.TheVariants.{Fault}
use Rattle.grammar.specs.declared.Answer.{Answer}
use Rattle.grammar.specs.declared.Answer.TheVariants.{Going, Done, Refused}
use Rattle.grammar.specs.declared.Refusal.{Refusal}
use Rattle.grammar.specs.Cells.{rule_cells}
use Rattle.grammar.specs.Sound.{AllTables, zero_all}
use Rattle.grammar.specs.State.{Out0, count, with_at, gap_at, past_gap, refused, fresh}
use Rattle.grammar.proofs.Far.{fresh_far}
use Rattle.grammar.proofs.Kept.{onward_keep}
use Rattle.items.specs.Items.{begun, item_list}
use Rattle.items.proofs.Far.{items_undone}
use Rattle.declarations.specs.Declarations.{Out, decl_all}
use Rattle.declarations.proofs.Posix.{posix_arms}
use Rattle.rules.specs.Rules.{Typing, Heading, Ruled, mark_gap, pass_mark, first_start, colon_given, colon_type, arrow_passed, arrow_type, rule_type, rule_found, enter_rule, typed_head, named_head, head_found, rule_head, body_passed, rule_body, rule_headed, rule_step, next_rule, percents, rule_or_end, rules_turn, rules_run, rules_passed, rules_all, programs_gap, programs_from}
use Rattle.sections.specs.Sections.{as_text, sized_text, admitted, rest_from, rest_all, declared, with_ruled, sections_from, sections_all, attempt_of, attempted}
use Rattle.sections.proofs.Laws.{is_text}
use Rattle.reader.specs.declared.Reading.{Reading}
use Rattle.reader.specs.Read.{Outcome, ended_at, result, finished, finished_run}
use Rattle.reader.proofs.Laws.{accepted}
use Rattle.alike.specs.Like.{Kind, original, grmtools, eco}
use Rattle.alike.proofs.Steps.{not_four}
use Rattle.alike.proofs.Agree.{clash}
use Rattle.printed.specs.Decls.{Decl, Section1}
use Rattle.printed.proofs.Lines.{Open, push_open}
use Rattle.printed.proofs.Undone.{pass_open}
use Rattle.printed.proofs.Section.{section_spelled}
use Rattle.printed_rules.specs.Rules.{Rule, Programs, Rest1}
use Rattle.printed_rules.proofs.ReadRules.{rest_read}

-- No step of the rules section answers that it is done: it goes on or is refused.
undone_open : (a : Answer) → (a ≡ Done → ⊥) → Open a
undone_open Going h = tt
undone_open Done h = h refl
undone_open (Refused f) h = tt

module _ (src : List ℕ) (s : State) where
  -- a mark,
  mark_open : (word : List ℕ) (cause : Cause) → Open (pass_mark src s word cause).answer
  unfolding pass_mark
  mark_open word cause = go (gap_at s.kind true src s.at)
    where
      go : (g : Result (ℕ × ℕ) Refusal) → Open (mark_gap g src s word cause).answer
      go (Ok (i, n)) =
          on_test (λ (o : Out0). Open o.answer) (starts_at word src i) (past_gap src false (i + length word) s) (refused (Fault cause i) s)
          (λ e. pass_open src (i + length word) Going s tt) (λ e. tt)
      go (Err f) = tt

  -- the type of a rule,
  type_open : Open (rule_type src s).answer
  unfolding rule_type arrow_type colon_type
  type_open =
      let o = pass_mark src s (45 ∷ 62 ∷ []) MissingRightArrow in
      on_test (λ (o : Typing). Open o.answer) (eqb s.kind 2) (arrow_type src s) (record { answer = Going; state = s; given = s.actiontype })
      (λ e. go o.answer o.state (mark_open (45 ∷ 62 ∷ []) MissingRightArrow)) (λ e. tt)
    where
      colon : (c : Result (ℕ × ℕ × Place) ℕ) (u : State) → Open (colon_given c u).answer
      colon (Ok (to, n, p)) u = tt
      colon (Err i) u = tt

      go : (a : Answer) (u : State) → Open a → Open (arrow_passed a src u).answer
      go Going u h = colon (colon_text_at src u.at) u
      go Done u h = h
      go (Refused f) u h = h

  -- its row,
  row_open : (from to : ℕ) (part : Option (ℕ × ℕ)) (t7 : List ℕ) → Open (enter_rule src s from to part t7).answer
  unfolding enter_rule
  row_open from to part t7 = go (find_name src (width rules) 0 (count s rules) t7 from to)
    where
      go : (f : Option ℕ) → Open (rule_found f s from to part t7).answer
      go (Some r) = tt
      go None = push_open s rules (rule_cells from to part) t7

  -- programs,
  programs_open : Open (programs_from src s).answer
  unfolding programs_from
  programs_open =
      on_test (λ (o : Out0). Open o.answer) (starts_at percents src s.at) (programs_gap (gap_at s.kind true src (s.at + 2)) src s) (record { answer = Going; state = s })
      (λ e. go (gap_at s.kind true src (s.at + 2))) (λ e. tt)
    where
      go : (g : Result (ℕ × ℕ) Refusal) → Open (programs_gap g src s).answer
      go (Ok (i, n)) = tt
      go (Err f) = tt

module _ (src : List ℕ) (s : State) where
  -- a rule's head,
  head_open : (t7 : List ℕ) → Open (rule_head src s t7).answer
  unfolding rule_head named_head
  head_open t7 = go (name_at src s.at)
    where
      typed : (a : Answer) (u : State) (part : Option (ℕ × ℕ)) (j : ℕ) → Open a → Open (typed_head a src u part s.at j t7).answer
      typed Going u part j h = row_open src u s.at j part t7
      typed Done u part j h = h
      typed (Refused f) u part j h = h

      go : (n : Result ℕ ℕ) → Open (head_found n src s t7).answer
      go (Ok j) =
          let u = with_at (first_start s s.at j) j in
          let o = rule_type src u in
          typed o.answer o.state o.given j (type_open src u)
      go (Err k) = tt

  -- its body,
  body_open : (row : ℕ) (t1 t8 t9 : List ℕ) → Open (rule_body src s row t1 t8 t9).answer
  unfolding rule_body
  body_open row t1 t8 t9 = let o = pass_mark src s (58 ∷ []) MissingColon in go o.answer o.state (mark_open src s (58 ∷ []) MissingColon)
    where
      go : (a : Answer) (u : State) → Open a → Open (body_passed a src u row t1 t8 t9).answer
      go Going u h = let d = begun row u.at (count u symbols) in undone_open (item_list src u d t1 t8 t9).answer (items_undone src u d t1 t8 t9)
      go Done u h = h
      go (Refused f) u h = h

module _ (src : List ℕ) (s : State) (t1 t7 t8 t9 : List ℕ) where
  -- a rule with the spacing behind it,
  next_open : Open (next_rule src s t1 t7 t8 t9).answer
  unfolding next_rule rule_step
  next_open =
      let h = rule_head src s t7 in
      let o = rule_step src s t1 t7 t8 t9 in
      pass_open src o.state.at o.answer o.state (go h.answer h (head_open src s t7))
    where
      go : (a : Answer) (h : Heading) → Open a → Open (rule_headed a src h t1 t8 t9).answer
      go Going h x = body_open src h.state h.row t1 t8 t9
      go Done h x = x
      go (Refused f) h x = x

module _ (src : List ℕ) where
  abbrev Opened : Ruled → Type 0
  Opened o = Open o.answer

  -- a turn over rules,
  turn_open : (o : Ruled) → Opened o → Either Opened Opened (rules_turn src o)
  unfolding rules_turn
  turn_open o h = go (leb (length src) o.state.at) (starts_at percents src o.state.at)
    where
      p : Ruled
      p = next_rule src o.state o.t1 o.t7 o.t8 o.t9

      go : (b c : Bool) → Either Opened Opened (rule_or_end b c o p)
      go true c = h
      go false true = h
      go false false = onward_keep Opened p.answer p (next_open src o.state o.t1 o.t7 o.t8 o.t9)

  -- and all behind the declarations.
  rest_open : (s : State) (t1 t7 t8 t9 : List ℕ) → Open (rest_all src s t1 t7 t8 t9).answer
  unfolding rest_all rules_all rules_run
  rest_open s t1 t7 t8 t9 =
      let m = pass_mark src s percents UnknownDeclaration in
      let r = rules_all src s t1 t7 t8 t9 in
      rest r.answer r (section m.answer m.state (mark_open src s percents UnknownDeclaration))
    where
      section : (a : Answer) (u : State) → Open a → Open (rules_passed a src u t1 t7 t8 t9).answer
      section Going u h = turns_keep Opened (rules_turn src) turn_open (suc (length src)) (record { answer = Going; state = u; t1 = t1; t7 = t7; t8 = t8; t9 = t9 }) tt
      section Done u h = h
      section (Refused f) u h = h

      rest : (a : Answer) (r : Ruled) → Open a → Open (rest_from a src r).answer
      rest Going r h = programs_open src r.state
      rest Done r h = h
      rest (Refused f) r h = h

-- A source that can be read: its indexes have right sizes, it is not too long, and it is a text;
abbrev Admits : List ℕ → Bool → Result (Unit {0}) Refusal → Type 0
Admits src fit (Ok _) = (fit ≡ true) × (length src ≤ 65536) × Text src
Admits src fit (Err f) = Unit {0}

admits : (src : List ℕ) (kind : ℕ) (fit : Bool) → Admits src fit (admitted src kind fit)
unfolding admitted
admits src kind fit = on_test (Admits src fit) (ltb kind 1 || ltb 4 kind) _ _ (λ e. tt) (λ e. by fit refl)
  where
    go : fit ≡ true → length src ≤ 65536 → (c : Result (Unit {0}) ℕ) → check_at src 0 ≡ c → Admits src fit (as_text c)
    go f h (Ok _) e = (f, h, good_text src e)
    go f h (Err i) e = tt

    by : (b : Bool) → fit ≡ b → Admits src fit (sized_text b src)
    by true e = on_test (Admits src fit) (ltb 65536 (length src)) _ _ (λ h. tt) (λ h. go e (ltb-false _ _ h) (check_at src 0) refl)
    by false e = tt

-- and one that is all that, of a kind that is shipped, can be read.
pub admit : (src : List ℕ) {kind : ℕ} (fit : Bool) → Kind kind → fit ≡ true → length src ≤ 65536 → Text src → admitted src kind fit ≡ Ok tt
admit src {kind} fit k f h t = sym (is_text src kind fit (known k) (rw f) h (check_at src 0) refl (text_good src t))
  where
    known : {kind : ℕ} → Kind kind → (ltb kind 1 || ltb 4 kind) ≡ false
    known original = refl
    known grmtools = refl
    known eco = refl

-- The declarations of a read on tables of zeros, and what is behind them.
abbrev pub decls_of : List ℕ → ℕ → AllTables → Out
decls_of src kind T = decl_all src (fresh kind) (declared (zero_all T))

abbrev pub rest_of : List ℕ → ℕ → AllTables → Ruled
rest_of src kind T = rest_all src (decls_of src kind T).state (decls_of src kind T).tables.t1 (zero_all T).t7 (zero_all T).t8 (zero_all T).t9

-- what is accepted of them
abbrev pub accepted_as : State → AllTables → Outcome
accepted_as s T = record { answer = Ok s.at; counts = s.counts; posix = s.posix; singles = s.singles; tables = T }

-- a reading that ended and was accepted met no repeat
none_repeated : (s : State) (t10 : List ℕ) (e : ℕ) → (ended_at s t10).answer ≡ Ok e → count s repeats ≡ 0
unfolding ended_at
none_repeated s t10 e = on_test (λ (r : Reading). r.answer ≡ Ok e → count s repeats ≡ 0) (eqb (count s repeats) 0) _ _ (λ q h. eqb-true _ _ q) (λ q h. absurd (clash cc))

module _ (src : List ℕ) (kind : ℕ) (fit : Bool) (T : AllTables) where
  -- what a read that is accepted goes through
  pub record Went : Type 0 where
    pub fits : fit ≡ true
    pub short : length src ≤ 65536
    pub text : Text src
    pub admits : admitted src kind fit ≡ Ok tt
    pub done : (decls_of src kind T).answer ≡ Done
    pub going : (rest_of src kind T).answer ≡ Going
    pub none : count (rest_of src kind T).state repeats ≡ 0

  -- A read that was accepted went through it,
  pub went : (e : ℕ) → (finished_run (attempted src kind fit (zero_all T))).answer ≡ Ok e → Went
  unfolding attempted sections_all
  went e = go (admitted src kind fit) refl (admits src kind fit)
    where
      r : Ruled
      r = rest_of src kind T

      rest : admitted src kind fit ≡ Ok tt → Admits src fit (Ok tt) → (decls_of src kind T).answer ≡ Done → (a : Answer) → r.answer ≡ a → (finished a r.state (with_ruled (decls_of src kind T).tables r).tables).answer ≡ Ok e → Went
      rest m x d Going q h = record { fits = x.0; short = x.1; text = x.2; admits = m; done = d; going = q; none = none_repeated r.state _ e h }
      rest m x d Done q h = absurd (told Open q (rest_open src (decls_of src kind T).state (decls_of src kind T).tables.t1 (zero_all T).t7 (zero_all T).t8 (zero_all T).t9))
      rest m x d (Refused f) q h = absurd (clash cc)

      section : admitted src kind fit ≡ Ok tt → Admits src fit (Ok tt) → (a : Answer) → (decls_of src kind T).answer ≡ a → (finished_run (sections_from a src (decls_of src kind T) (zero_all T))).answer ≡ Ok e → Went
      section m x Going q h = absurd (clash cc)
      section m x Done q h = rest m x q r.answer refl h
      section m x (Refused f) q h = absurd (clash cc)

      go : (m : Result (Unit {0}) Refusal) → admitted src kind fit ≡ m → Admits src fit m → (finished_run (attempt_of m src kind (zero_all T))).answer ≡ Ok e → Went
      go (Ok _) m x h = section m x (decls_of src kind T).answer refl h
      go (Err f) m x h = absurd (clash cc)

  -- and one that goes through it comes to this.
  pub went_is : Went → finished_run (attempted src kind fit (zero_all T)) ≡ accepted_as (rest_of src kind T).state (with_ruled (decls_of src kind T).tables (rest_of src kind T)).tables
  unfolding attempted sections_all
  went_is w =
      let o = decls_of src kind T in
      let r = rest_of src kind T in
      let U = (with_ruled o.tables r).tables in
      ap (λ (m : Result (Unit {0}) Refusal). finished_run (attempt_of m src kind (zero_all T))) w.admits
      ∙ ap (λ (a : Answer). finished_run (sections_from a src o (zero_all T))) w.done
      ∙ ap (λ (a : Answer). finished a r.state U) w.going
      ∙ ap (λ (x : Reading). result x U) (sym (accepted r.state U.t10 (count r.state repeats) refl w.none))

  -- the declarations, rules and programs that such a read takes, where they stand
  pub record Held : Type 0 where
    pub decls : List Decl
    pub rules : List Rule
    pub programs : Programs
    pub section : Section1 kind src 0 (decls_of src kind T).state.at decls
    pub rest : Rest1 kind src (decls_of src kind T).state.at rules programs

  -- declarations leave the kind
  pub decls_kind : Kind kind → (decls_of src kind T).state.kind ≡ kind
  decls_kind k = (posix_arms src (fresh kind) (declared (zero_all T)) (not_four k)).kind

  -- They stand there.
  pub held : Kind kind → Went → Held
  held k w =
      let o = decls_of src kind T in
      let (ds, x) = section_spelled src w.text 0 (zero_all T) (fresh kind) (declared (zero_all T)) k (fresh_far src kind T w.short) w.done in
      let (rs, p, y) = rest_read src o.state o.tables.t1 (zero_all T).t7 (zero_all T).t8 (zero_all T).t9 w.going in
      record { decls = ds; rules = rs; programs = p; section = x; rest = told (λ (v : ℕ). Rest1 v src o.state.at rs p) (decls_kind k) y }
