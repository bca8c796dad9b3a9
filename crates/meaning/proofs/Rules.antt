-- The rules section keeps what is known of a reading's rows, whatever its answer. Assumes nothing.
use Rattle.std.specs.Prelude.{Option, Some, None, Result, Ok, Err}
use Prim.Native.Nat.{ℕ, suc, ◌+◌}
use mathlib.Core.Path.{◌≡◌, refl, ◌∙◌}
use mathlib.Core.List.{List, [], ◌∷◌}
use mathlib.Core.Bool.{Bool, true, false}
use native.Mathlib.Omega.{arith}
use lib.Dec.{leb, eqb}
use lib.ListN.{length}
use borrow.Author.Tests.{eqb-false}
use Rattle.scan.specs.Scan.{starts_at}
use Rattle.scan.proofs.Bytes.{on_test, told}
use Rattle.scan.proofs.Loop.{Either, turns_keep}
use Rattle.whole.specs.Encode.{Text}
use Rattle.words.specs.Words.{name_at}
use Rattle.scan.specs.declared.Place.{Place}
use Rattle.texts.specs.Colon.{colon_text_at}
use Rattle.tables.specs.Table.{find_name}
use Rattle.tables.specs.Layout.{rules, symbols, width}
use Rattle.grammar.specs.declared.State.{State}
use Rattle.grammar.specs.declared.Cause.{Cause}
use Rattle.grammar.specs.declared.Cause.TheVariants.{MissingColon, MissingRightArrow, UnknownDeclaration}
use Rattle.grammar.specs.declared.Answer.{Answer}
use Rattle.grammar.specs.declared.Answer.TheVariants.{Going, Done, Refused}
use Rattle.grammar.specs.declared.Refusal.{Refusal}
use Rattle.grammar.specs.State.{Out0, count, with_at, gap_at, past, past_gap}
use Rattle.grammar.proofs.Touch.{refused_going}
use Rattle.grammar.proofs.Kept.{onward_keep}
use Rattle.items.specs.Items.{begun}
use Rattle.rules.specs.Rules.{Typing, Heading, Ruled, mark_gap, pass_mark, start_or, first_start, colon_given, colon_type, arrow_passed, arrow_out, arrow_type, rule_type, rule_found, enter_rule, typed_head, named_head, head_found, rule_head, body_passed, rule_body, rule_headed, rule_step, next_rule, percents, rule_or_end, rules_turn, rules_run, rules_passed, rules_all, programs_gap, programs_from}
use Rattle.meaning.specs.Regions.{arrow_word}
use Rattle.meaning.specs.Made.{MadeAt}
use Rattle.meaning.proofs.Regions.{gap_spaces, word_region}
use Rattle.meaning.proofs.Rows.{TypeGiven, pass_made, rule_made}
use Rattle.meaning.proofs.Items.{items_made}

module _ (src : List ℕ) (t : Text src) where
  -- The type that stands behind a rule's name in kind 2.
  abbrev Typed : ℕ → ℕ → Typing → Type 0
  Typed kind end o = o.answer ≡ Going → TypeGiven kind src end o.given

  arrow_typed : (s : State) → Typed s.kind s.at (arrow_type src s)
  unfolding arrow_type pass_mark past_gap colon_type
  arrow_typed s = go (gap_at s.kind true src s.at) refl
    where
      text : (i n k m : ℕ) → gap_at s.kind true src s.at ≡ Ok (i, n) → starts_at arrow_word src i ≡ true → gap_at s.kind true src (i + 2) ≡ Ok (k, m) → (c : Result (ℕ × ℕ × Place) ℕ) → colon_text_at src k ≡ c → Typed s.kind s.at (colon_given c (with_at s k))
      text i n k m g a h (Ok (to, l, p)) e = λ q. record { at = i; lines = n; spacing = gap_spaces s.kind true src s.at i n g; arrow = a; type = word_region src t s.kind arrow_word true i k m to l p a (omega arith) (omega arith) h e }
      text i n k m g a h (Err j) e = λ q. absurd (refused_going _ q)

      behind : (i n : ℕ) → gap_at s.kind true src s.at ≡ Ok (i, n) → starts_at arrow_word src i ≡ true → (h : Result (ℕ × ℕ) Refusal) → gap_at s.kind true src (i + 2) ≡ h → Typed s.kind s.at (arrow_out src (past false h s))
      behind i n g a (Ok (k, m)) h = text i n k m g a h (colon_text_at src k) refl
      behind i n g a (Err f) h = λ q. absurd (refused_going f q)

      go : (g : Result (ℕ × ℕ) Refusal) → gap_at s.kind true src s.at ≡ g → Typed s.kind s.at (arrow_out src (mark_gap g src s arrow_word MissingRightArrow))
      go (Ok (i, n)) g = on_test (λ (o : Out0). Typed s.kind s.at (arrow_out src o)) (starts_at arrow_word src i) _ _ (λ a. behind i n g a (gap_at s.kind true src (i + 2)) refl) (λ a q. absurd (refused_going _ q))
      go (Err f) g = λ q. absurd (refused_going f q)

  type_typed : (s : State) → s.kind ≡ 2 → Typed s.kind s.at (rule_type src s)
  unfolding rule_type
  type_typed s k = on_test (Typed s.kind s.at) (eqb s.kind 2) _ _ (λ e. arrow_typed s) (λ e q. absurd (eqb-false s.kind 2 e k))

  module _ (kind : ℕ) where
    -- spacing, a mark, and spacing again
    mark_made : (s : State) (t7 t8 t9 : List ℕ) → MadeAt src kind s t7 t8 t9 → (word : List ℕ) (cause : Cause) → MadeAt src kind (pass_mark src s word cause).state t7 t8 t9
    unfolding pass_mark
    mark_made s t7 t8 t9 x word cause = go (gap_at s.kind true src s.at)
      where
        go : (g : Result (ℕ × ℕ) Refusal) → MadeAt src kind (mark_gap g src s word cause).state t7 t8 t9
        go (Ok (i, n)) = on_test (λ (o : Out0). MadeAt src kind o.state t7 t8 t9) (starts_at word src i) _ _ (λ e. pass_made src kind s t7 t8 t9 x false (i + length word) Going) (λ e. x)
        go (Err f) = x

    -- the start
    start_made : (s : State) (t7 t8 t9 : List ℕ) → MadeAt src kind s t7 t8 t9 → (from to : ℕ) → MadeAt src kind (first_start s from to) t7 t8 t9
    unfolding first_start
    start_made s t7 t8 t9 x from to = go s.singles.start
      where
        go : (q : Option (ℕ × ℕ)) → MadeAt src kind (start_or q s from to) t7 t8 t9
        go None = x
        go (Some (a, b)) = x

    -- the type of a rule
    type_made : (s : State) (t7 t8 t9 : List ℕ) → MadeAt src kind s t7 t8 t9 → MadeAt src kind (rule_type src s).state t7 t8 t9
    unfolding rule_type arrow_type colon_type
    type_made s t7 t8 t9 x =
        on_test (λ (o : Typing). MadeAt src kind o.state t7 t8 t9) (eqb s.kind 2) _ _
        (λ e. let o = pass_mark src s arrow_word MissingRightArrow in go o.answer o.state (mark_made s t7 t8 t9 x arrow_word MissingRightArrow))
        (λ e. x)
      where
        text : (c : Result (ℕ × ℕ × Place) ℕ) (u : State) → MadeAt src kind u t7 t8 t9 → MadeAt src kind (colon_given c u).state t7 t8 t9
        text (Ok (to, n, p)) u y = y
        text (Err i) u y = y

        go : (a : Answer) (u : State) → MadeAt src kind u t7 t8 t9 → MadeAt src kind (arrow_passed a src u).state t7 t8 t9
        go Going u y = text (colon_text_at src u.at) u y
        go Done u y = y
        go (Refused f) u y = y

    -- a rule's row
    entered_made : (s : State) (t7 t8 t9 : List ℕ) → MadeAt src kind s t7 t8 t9 → (from to : ℕ) (given : Option (ℕ × ℕ)) → (kind ≡ 2 → TypeGiven kind src to given) → let h = enter_rule src s from to given t7 in MadeAt src kind h.state h.t7 t8 t9
    unfolding enter_rule
    entered_made s t7 t8 t9 x from to given y = go (find_name src (width rules) 0 (count s rules) t7 from to)
      where
        go : (f : Option ℕ) → let h = rule_found f s from to given t7 in MadeAt src kind h.state h.t7 t8 t9
        go (Some r) = x
        go None = rule_made src kind s t7 t8 t9 x from to given y

    -- the head of a rule,
    head_made : (s : State) (t7 t8 t9 : List ℕ) → MadeAt src kind s t7 t8 t9 → let h = rule_head src s t7 in MadeAt src kind h.state h.t7 t8 t9
    unfolding rule_head named_head
    head_made s t7 t8 t9 x = name (name_at src s.at)
      where
        go : (j : ℕ) (a : Answer) (o : Typing) → o.answer ≡ a → MadeAt src kind o.state t7 t8 t9 → (kind ≡ 2 → Typed kind j o) → let h = typed_head a src o.state o.given s.at j t7 in MadeAt src kind h.state h.t7 t8 t9
        go j Going o e y z = entered_made o.state t7 t8 t9 y s.at j o.given (λ k. z k e)
        go j Done o e y z = y
        go j (Refused f) o e y z = y

        name : (n : Result ℕ ℕ) → let h = head_found n src s t7 in MadeAt src kind h.state h.t7 t8 t9
        name (Ok j) =
            let v = with_at (first_start s s.at j) j in
            let o = rule_type src v in
            let y = start_made s t7 t8 t9 x s.at j in
            go j o.answer o refl (type_made v t7 t8 t9 y) (λ k. told (λ (q : ℕ). Typed q j o) y.1 (type_typed v (y.1 ∙ k)))
        name (Err k) = x

    -- its body,
    body_made : (s : State) (t7 t8 t9 : List ℕ) → MadeAt src kind s t7 t8 t9 → (row : ℕ) (t1 : List ℕ) → let o = rule_body src s row t1 t8 t9 in MadeAt src kind o.state t7 o.t8 o.t9
    unfolding rule_body
    body_made s t7 t8 t9 x row t1 = let o = pass_mark src s (58 ∷ []) MissingColon in go o.answer o.state (mark_made s t7 t8 t9 x (58 ∷ []) MissingColon)
      where
        go : (a : Answer) (u : State) → MadeAt src kind u t7 t8 t9 → let o = body_passed a src u row t1 t8 t9 in MadeAt src kind o.state t7 o.t8 o.t9
        go Going u y = items_made src t kind t7 u (begun row u.at (count u symbols)) t1 t8 t9 y tt
        go Done u y = y
        go (Refused f) u y = y

    abbrev pub MadeIn : Ruled → Type 0
    MadeIn o = MadeAt src kind o.state o.t7 o.t8 o.t9

    module _ (s : State) (t1 t7 t8 t9 : List ℕ) (x : MadeAt src kind s t7 t8 t9) where
      -- both,
      step_made : MadeIn (rule_step src s t1 t7 t8 t9)
      unfolding rule_step
      step_made = let h = rule_head src s t7 in go h.answer h (head_made s t7 t8 t9 x)
        where
          go : (a : Answer) (h : Heading) → MadeAt src kind h.state h.t7 t8 t9 → MadeIn (rule_headed a src h t1 t8 t9)
          go Going h y = body_made h.state h.t7 t8 t9 y h.row t1
          go Done h y = y
          go (Refused f) h y = y

      -- and the spacing behind it
      next_made : MadeIn (next_rule src s t1 t7 t8 t9)
      unfolding next_rule
      next_made = let o = rule_step src s t1 t7 t8 t9 in pass_made src kind o.state o.t7 o.t8 o.t9 step_made false o.state.at o.answer

    turn_made : (o : Ruled) → MadeIn o → Either MadeIn MadeIn (rules_turn src o)
    unfolding rules_turn
    turn_made o x = go (leb (length src) o.state.at) (starts_at percents src o.state.at)
      where
        go : (b c : Bool) → Either MadeIn MadeIn (rule_or_end b c o (next_rule src o.state o.t1 o.t7 o.t8 o.t9))
        go true c = x
        go false true = x
        go false false = let p = next_rule src o.state o.t1 o.t7 o.t8 o.t9 in onward_keep MadeIn p.answer p (next_made o.state o.t1 o.t7 o.t8 o.t9 x)

    -- The rules section.
    pub rules_made : (s : State) (t1 t7 t8 t9 : List ℕ) → MadeAt src kind s t7 t8 t9 → MadeIn (rules_all src s t1 t7 t8 t9)
    unfolding rules_all rules_run
    rules_made s t1 t7 t8 t9 x = let o = pass_mark src s percents UnknownDeclaration in go o.answer o.state (mark_made s t7 t8 t9 x percents UnknownDeclaration)
      where
        go : (a : Answer) (u : State) → MadeAt src kind u t7 t8 t9 → MadeIn (rules_passed a src u t1 t7 t8 t9)
        go Going u y = turns_keep MadeIn (rules_turn src) turn_made (suc (length src)) _ y
        go Done u y = y
        go (Refused f) u y = y

    -- The programs.
    pub programs_made : (s : State) (t7 t8 t9 : List ℕ) → MadeAt src kind s t7 t8 t9 → MadeAt src kind (programs_from src s).state t7 t8 t9
    unfolding programs_from
    programs_made s t7 t8 t9 x = on_test (λ (o : Out0). MadeAt src kind o.state t7 t8 t9) (starts_at percents src s.at) _ _ (λ e. go (gap_at s.kind true src (s.at + 2))) (λ e. x)
      where
        go : (g : Result (ℕ × ℕ) Refusal) → MadeAt src kind (programs_gap g src s).state t7 t8 t9
        go (Ok (i, n)) = x
        go (Err f) = x
