-- The rules section: one law for each answer of its steps. Assumes nothing.
use Rattle.std.specs.Prelude.{Option, Some, None, Ok, Err, Result}
use Prim.Native.Nat.{ℕ, ◌+◌, ◌≤◌, ◌<◌}
use mathlib.Core.Path.{◌≡◌, refl, sym, ◌∙◌, ap}
use mathlib.Core.List.{List, [], ◌∷◌}
use mathlib.Core.Bool.{Bool, true, false}
use native.Mathlib.Omega.{arith}
use lib.Dec.{eqb}
use borrow.Author.Tests.{le-leb, lt-leb}
use lib.ListN.{length, get_or}
use Rattle.scan.specs.Scan.{starts_at}
use Rattle.scan.specs.Loop.{more, stop}
use Rattle.scan.proofs.Bytes.{starts_fits}
use Rattle.scan.specs.declared.Place.{Place}
use Rattle.words.specs.Words.{name_at, Named}
use Rattle.texts.specs.Colon.{colon_text_at, ColonTexts}
use Rattle.tables.specs.Table.{find_name}
use Rattle.tables.specs.Layout.{rules, symbols, width}
use Rattle.grammar.specs.declared.Singles.{Singles}
use Rattle.grammar.specs.declared.Answer.{Answer}
use Rattle.grammar.specs.declared.Answer.TheVariants.{Going, Done, Refused}
use Rattle.grammar.specs.declared.Cause.TheVariants.{IllegalName, MissingColon, MissingRightArrow, ReachedEnd, UnknownDeclaration}
use Rattle.grammar.specs.declared.State.{State}
use Rattle.grammar.specs.declared.Cause.{Cause}
use Rattle.grammar.specs.declared.Refusal.{Refusal}
use Rattle.grammar.specs.declared.Refusal.TheVariants.{Fault}
use Rattle.grammar.specs.Numbers.{part_numbers}
use Rattle.grammar.specs.State.{Out0, Out1, Passed, Onward, Moves, pass_on, count, with_at, with_singles, gap_at, push_row, past_gap, refused}
use Rattle.grammar.proofs.Touch.{pass_going}
use Rattle.settings.specs.Singles.{with_start}
use Rattle.productions.specs.declared.Production.{Production}
use Rattle.items.specs.Items.{Itemed, begun, item_list}
use Rattle.rules.specs.Rules.{Typing, Heading, Ruled, mark_gap, pass_mark, first_start, colon_type, arrow_type, rule_type, new_rule, enter_rule, named_head, rule_head, rule_body, with_body, rule_step, spaced_out, next_rule, percents, rules_turn, rules_run, rules_all, with_programs, programs_from}

-- a mark that stands at an index of the source ends in the source
pub mark_fits : (w s : List ℕ) (i : ℕ) → i ≤ length s → starts_at w s i ≡ true → i + length w ≤ length s
mark_fits [] s i h e = omega arith
mark_fits (c ∷ cs) s i h e = starts_fits (c ∷ cs) s i e (omega arith)

-- spacing, a mark, and spacing again
module _ (src : List ℕ) (s : State) (word : List ℕ) (cause : Cause) (g : Result (ℕ × ℕ) Refusal) (q : g ≡ gap_at s.kind true src s.at) where
  module _ (i n : ℕ) (e : g ≡ Ok (i, n)) (b : Bool) (is : b ≡ starts_at word src i) where
    pub mark_passed : (o : Out0) → b ≡ true → o ≡ past_gap src false (i + length word) s → o ≡ pass_mark src s word cause
    unfolding pass_mark
    mark_passed o t h = rw (← q, e, mark_gap, ← is, t) h

    pub mark_missing : b ≡ false → refused (Fault cause i) s ≡ pass_mark src s word cause
    unfolding pass_mark
    mark_missing t = rw (← q, e, mark_gap, ← is, t)

  pub mark_refused : (f : Refusal) → g ≡ Err f → refused f s ≡ pass_mark src s word cause
  unfolding pass_mark
  mark_refused f e = rw (← q, e)

-- the start
module _ (s : State) (from to : ℕ) where
  pub start_none : (g : Singles) → s.singles.start ≡ None → g ≡ with_start s.singles (Some (from, to)) → with_singles s g ≡ first_start s from to
  unfolding first_start
  start_none g e h = rw (e, h)

  pub start_given_lem : (a b : ℕ) → s.singles.start ≡ Some (a, b) → s ≡ first_start s from to
  unfolding first_start
  start_given_lem a b e = rw e

-- the type ends at a colon of the source
pub colon_at : (src : List ℕ) (i : ℕ) (w : Result (ℕ × ℕ × Place) ℕ) (j n : ℕ) (p : Place) → ColonTexts src i w → w ≡ Ok (j, n, p) → Passed src i j
colon_at src i w j n p x e =
    let y = rw e at x in
    let k = y.0 in
    let l = y.1 in
    record { onward = omega arith; inside = omega arith }

module _ (src : List ℕ) (s : State) (w : Result (ℕ × ℕ × Place) ℕ) (q : w ≡ colon_text_at src s.at) where
  pub colon_upto : (to n : ℕ) (p : Place) → w ≡ Ok (to, n, p) → record { answer = Going; state = with_at s to; given = Some (p.from, p.to) } ≡ colon_type src s
  unfolding colon_type
  colon_upto to n p e = rw (← q, e)

  pub colon_open : (i : ℕ) → w ≡ Err i → record { answer = Refused (Fault ReachedEnd i); state = s; given = None } ≡ colon_type src s
  unfolding colon_type
  colon_open i e = rw (← q, e)

module _ (src : List ℕ) (s : State) (o : Out0) (q : o ≡ pass_mark src s (45 ∷ 62 ∷ []) MissingRightArrow) where
  pub arrow_going : (z : Typing) → o.answer ≡ Going → z ≡ colon_type src o.state → z ≡ arrow_type src s
  unfolding arrow_type
  arrow_going z e h = rw (← q, e) h

  pub arrow_done : o.answer ≡ Done → record { answer = Done; state = o.state; given = None } ≡ arrow_type src s
  unfolding arrow_type
  arrow_done e = rw (← q, e)

  pub arrow_refused : (f : Refusal) → o.answer ≡ Refused f → record { answer = Refused f; state = o.state; given = None } ≡ arrow_type src s
  unfolding arrow_type
  arrow_refused f e = rw (← q, e)

module _ (src : List ℕ) (s : State) where
  pub type_arrow : (z : Typing) → eqb s.kind 2 ≡ true → z ≡ arrow_type src s → z ≡ rule_type src s
  unfolding rule_type
  type_arrow z e h = rw (rule_type, e) h

  pub type_given : eqb s.kind 2 ≡ false → record { answer = Going; state = s; given = s.actiontype } ≡ rule_type src s
  unfolding rule_type
  type_given e = rw (rule_type, e)

-- the rule's row
three : (p : Option (ℕ × ℕ)) → get_or (part_numbers p) 0 0 ∷ get_or (part_numbers p) 1 0 ∷ get_or (part_numbers p) 2 0 ∷ [] ≡ part_numbers p
three None = refl
three (Some (a, b)) = refl

module _ (src : List ℕ) (s : State) (from to : ℕ) (given : Option (ℕ × ℕ)) (t7 : List ℕ) (n : ℕ) (w : Option ℕ) (c : n ≡ count s rules) (q : w ≡ find_name src (width rules) 0 n t7 from to) where
  pub rule_again : (r : ℕ) → w ≡ Some r → record { answer = Going; state = s; row = r; t7 = t7 } ≡ enter_rule src s from to given t7
  unfolding enter_rule
  rule_again r e = rw (← c, ← q, e)

  pub rule_new : (x : List ℕ) (o : Out1) → w ≡ None → x ≡ part_numbers given → o ≡ push_row s rules (from ∷ to ∷ get_or x 0 0 ∷ get_or x 1 0 ∷ get_or x 2 0 ∷ []) t7
      → record { answer = o.answer; state = o.state; row = n; t7 = o.a } ≡ enter_rule src s from to given t7
  unfolding enter_rule
  rule_new x o e k h =
      let p = rw c at q in
      rw (← p, e, c) (ap (new_rule (count s rules)) ((rw k at h) ∙ ap (λ (y : List ℕ). push_row s rules (from ∷ to ∷ y) t7) (three given)))

-- the head behind the name
module _ (src : List ℕ) (s : State) (j : ℕ) (t7 : List ℕ) (first : State) (z : Typing) (k : first ≡ first_start s s.at j) (q : z ≡ rule_type src (with_at first j)) where
  pub head_going : (h : Heading) → z.answer ≡ Going → h ≡ enter_rule src z.state s.at j z.given t7 → h ≡ named_head src s j t7
  unfolding named_head
  head_going h e w = rw (← k, ← q, e) w

  pub head_done : z.answer ≡ Done → record { answer = Done; state = z.state; row = 0; t7 = t7 } ≡ named_head src s j t7
  unfolding named_head
  head_done e = rw (← k, ← q, e)

  pub head_refused : (f : Refusal) → z.answer ≡ Refused f → record { answer = Refused f; state = z.state; row = 0; t7 = t7 } ≡ named_head src s j t7
  unfolding named_head
  head_refused f e = rw (← k, ← q, e)

module _ (src : List ℕ) (s : State) (t7 : List ℕ) (w : Result ℕ ℕ) (q : w ≡ name_at src s.at) where
  pub head_named : (j : ℕ) (h : Heading) → w ≡ Ok j → h ≡ named_head src s j t7 → h ≡ rule_head src s t7
  unfolding rule_head
  head_named j h e z = rw (← q, e) z

  pub head_none : (k : ℕ) → w ≡ Err k → record { answer = Refused (Fault IllegalName k); state = s; row = 0; t7 = t7 } ≡ rule_head src s t7
  unfolding rule_head
  head_none k e = rw (← q, e)

-- behind its name a head is further on
pub named_moves : (src : List ℕ) (at j after : ℕ) (w : Result ℕ ℕ) (a : Answer) → Named src at w → w ≡ Ok j → Passed src j after → Moves src at a after
named_moves src at j after w a x e p =
    let y = rw e at x in
    let k = y.0 in
    let l = p.onward in
    record { onward = omega arith; inside = p.inside; beyond = λ g. omega arith }

-- the programs
module _ (src : List ℕ) (s : State) (b : Bool) (is : b ≡ starts_at percents src s.at) where
  pub no_programs : b ≡ false → record { answer = Going; state = s } ≡ programs_from src s
  unfolding programs_from
  no_programs e = rw (programs_from, ← is, e)

  module _ (t : b ≡ true) (g : Result (ℕ × ℕ) Refusal) (q : g ≡ gap_at s.kind true src (s.at + 2)) where
    pub programs_text_lem : (i n : ℕ) (y : Singles) → g ≡ Ok (i, n) → y ≡ with_programs s.singles (Some (i, length src)) → record { answer = Going; state = with_singles (with_at s (length src)) y } ≡ programs_from src s
    unfolding programs_from
    programs_text_lem i n y e h = rw (programs_from, ← is, t, ← q, e, h)

    pub programs_refused : (f : Refusal) → g ≡ Err f → refused f s ≡ programs_from src s
    unfolding programs_from
    programs_refused f e = rw (programs_from, ← is, t, ← q, e)

-- the colon, and the productions
module _ (src : List ℕ) (s : State) (row : ℕ) (t1 t8 t9 : List ℕ) (o : Out0) (q : o ≡ pass_mark src s (58 ∷ []) MissingColon) where
  pub body_going : (d : Production) (n : ℕ) (z : Itemed) → o.answer ≡ Going → n ≡ count o.state symbols → d ≡ begun row o.state.at n → z ≡ item_list src o.state d t1 t8 t9 → z ≡ rule_body src s row t1 t8 t9
  unfolding rule_body
  body_going d n z e c k h = rw (← q, e) (rw (k, c) at h)

  pub body_done : o.answer ≡ Done → record { answer = Done; state = o.state; t1 = t1; t8 = t8; t9 = t9 } ≡ rule_body src s row t1 t8 t9
  unfolding rule_body
  body_done e = rw (← q, e)

  pub body_refused : (f : Refusal) → o.answer ≡ Refused f → record { answer = Refused f; state = o.state; t1 = t1; t8 = t8; t9 = t9 } ≡ rule_body src s row t1 t8 t9
  unfolding rule_body
  body_refused f e = rw (← q, e)

-- a rule
module _ (src : List ℕ) (s : State) (t1 t7 t8 t9 : List ℕ) (h : Heading) (q : h ≡ rule_head src s t7) where
  pub rule_going : (z : Itemed) → h.answer ≡ Going → z ≡ rule_body src h.state h.row t1 t8 t9 → with_body h.t7 z ≡ rule_step src s t1 t7 t8 t9
  unfolding rule_step
  rule_going z e k = rw (← q, e) (ap (with_body h.t7) k)

  pub rule_done : h.answer ≡ Done → record { answer = Done; state = h.state; t1 = t1; t7 = h.t7; t8 = t8; t9 = t9 } ≡ rule_step src s t1 t7 t8 t9
  unfolding rule_step
  rule_done e = rw (← q, e)

  pub rule_refused : (f : Refusal) → h.answer ≡ Refused f → record { answer = Refused f; state = h.state; t1 = t1; t7 = h.t7; t8 = t8; t9 = t9 } ≡ rule_step src s t1 t7 t8 t9
  unfolding rule_step
  rule_refused f e = rw (← q, e)

-- a body behind a head that is further on
pub body_moves : (src : List ℕ) (at mid after : ℕ) (a b : Answer) → Moves src at a mid → a ≡ Going → Passed src mid after → Moves src at b after
body_moves src at mid after a b m e p =
    let k = m.beyond e in
    let l = p.onward in
    record { onward = omega arith; inside = p.inside; beyond = λ g. omega arith }

-- an answer that is told
pub moves_as : {src : List ℕ} {at after : ℕ} {a b : Answer} → a ≡ b → Moves src at a after → Moves src at b after
moves_as e m = rw e at m

-- and the spacing behind it
pub rule_spaced_lem : (src : List ℕ) (s : State) (t1 t7 t8 t9 : List ℕ) (o : Ruled) (z : Out0) → o ≡ rule_step src s t1 t7 t8 t9 → z ≡ pass_on src false o.state.at o.answer o.state → spaced_out z o ≡ next_rule src s t1 t7 t8 t9
unfolding next_rule
rule_spaced_lem src s t1 t7 t8 t9 o z q h = rw (← q) (ap (λ (x : Out0). spaced_out x o) h)

-- which is further on where the rule is, and goes on only where it does
pub spaced_moves : (src : List ℕ) (at mid after : ℕ) (a b : Answer) → Moves src at a mid → Onward src mid mid b after → (b ≡ Going → a ≡ Going) → Moves src at b after
spaced_moves src at mid after a b m o h =
    let k = m.onward in
    let l = o.forth (omega arith) in
    record { onward = omega arith; inside = o.inside m.inside; beyond = λ g. let x = m.beyond (h g) in omega arith }

pub went : (src : List ℕ) (j : ℕ) (a : Answer) (s : State) (z : Out0) → z ≡ pass_on src false j a s → z.answer ≡ Going → a ≡ Going
went src j a s z e g = (pass_going src false j a s (sym (ap (λ (x : Out0). x.answer) e) ∙ g)).went

-- a turn of the rules
module _ (src : List ℕ) (s : State) (t1 t7 t8 t9 : List ℕ) where
  abbrev here : Ruled
  here = record { answer = Going; state = s; t1 = t1; t7 = t7; t8 = t8; t9 = t9 }

  pub turn_end : length src ≤ s.at → rules_turn src here ≡ stop here
  unfolding rules_turn
  turn_end h = rw (le-leb (length src) s.at h)

  module _ (h : s.at < length src) (b : Bool) (is : b ≡ starts_at percents src s.at) where
    pub turn_percents : b ≡ true → rules_turn src here ≡ stop here
    unfolding rules_turn
    turn_percents e = rw (lt-leb (length src) s.at h, ← is, e)

    module _ (n : b ≡ false) (x : Answer) (u : State) (u1 u7 u8 u9 : List ℕ) (q : record { answer = x; state = u; t1 = u1; t7 = u7; t8 = u8; t9 = u9 } ≡ next_rule src s t1 t7 t8 t9) where
      pub turn_more : x ≡ Going → rules_turn src here ≡ more (record { answer = Going; state = u; t1 = u1; t7 = u7; t8 = u8; t9 = u9 })
      unfolding rules_turn
      turn_more e = rw (lt-leb (length src) s.at h, ← is, n, ← q, e)

      pub turn_done : x ≡ Done → rules_turn src here ≡ stop (record { answer = x; state = u; t1 = u1; t7 = u7; t8 = u8; t9 = u9 })
      unfolding rules_turn
      turn_done e = rw (lt-leb (length src) s.at h, ← is, n, ← q, e)

      pub turn_refused : (f : Refusal) → x ≡ Refused f → rules_turn src here ≡ stop (record { answer = x; state = u; t1 = u1; t7 = u7; t8 = u8; t9 = u9 })
      unfolding rules_turn
      turn_refused f e = rw (lt-leb (length src) s.at h, ← is, n, ← q, e)

-- the section
module _ (src : List ℕ) (s : State) (t1 t7 t8 t9 : List ℕ) (o : Out0) (q : o ≡ pass_mark src s percents UnknownDeclaration) where
  pub all_going : (z : Ruled) → o.answer ≡ Going → z ≡ rules_run src o.state t1 t7 t8 t9 → z ≡ rules_all src s t1 t7 t8 t9
  unfolding rules_all
  all_going z e h = rw (← q, e) h

  pub all_done : o.answer ≡ Done → record { answer = Done; state = o.state; t1 = t1; t7 = t7; t8 = t8; t9 = t9 } ≡ rules_all src s t1 t7 t8 t9
  unfolding rules_all
  all_done e = rw (← q, e)

  pub all_refused : (f : Refusal) → o.answer ≡ Refused f → record { answer = Refused f; state = o.state; t1 = t1; t7 = t7; t8 = t8; t9 = t9 } ≡ rules_all src s t1 t7 t8 t9
  unfolding rules_all
  all_refused f e = rw (← q, e)
