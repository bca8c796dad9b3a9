-- The rules section and the programs stand in the source, and their refusals are fatal ones of the source. Assumes nothing.
use Rattle.std.specs.Prelude.{Option, Some, None, Result, Ok, Err}
use Prim.Native.Nat.{ℕ, suc, ◌+◌, ◌≤◌}
use mathlib.Core.Path.{refl}
use mathlib.Core.List.{List, [], ◌∷◌}
use mathlib.Core.Bool.{Bool, true, false}
use native.Mathlib.Omega.{arith}
use lib.Dec.{leb, eqb}
use lib.ListN.{length}
use Rattle.scan.specs.Scan.{starts_at}
use Rattle.scan.proofs.Bytes.{on_test}
use Rattle.scan.proofs.Loop.{Either, turns_keep}
use Rattle.words.specs.Words.{name_at, Named}
use Rattle.words.proofs.Words.{name_placed}
use Rattle.scan.specs.declared.Place.{Place}
use Rattle.texts.specs.Colon.{colon_text_at, ColonTexts}
use Rattle.texts.proofs.Laws.{colon_placed}
use Rattle.tables.specs.Table.{find_name}
use Rattle.tables.specs.Layout.{rules, symbols, width}
use Rattle.grammar.specs.declared.State.{State}
use Rattle.grammar.specs.declared.Cause.{Cause}
use Rattle.grammar.specs.declared.Cause.TheVariants.{MissingColon, MissingRightArrow, UnknownDeclaration}
use Rattle.grammar.specs.declared.Refusal.TheVariants.{Fault}
use Rattle.grammar.specs.declared.Answer.{Answer}
use Rattle.grammar.specs.declared.Answer.TheVariants.{Going, Done, Refused}
use Rattle.grammar.specs.declared.Refusal.{Refusal}
use Rattle.grammar.specs.Cells.{rule_cells}
use Rattle.grammar.specs.State.{Passed, count, with_at, gap_at}
use Rattle.grammar.proofs.Kept.{onward_keep}
use Rattle.rules.specs.Rules.{Typing, Heading, Ruled, mark_gap, pass_mark, first_start, colon_given, colon_type, arrow_passed, arrow_type, rule_type, rule_found, enter_rule, typed_head, named_head, head_found, rule_head, body_passed, rule_body, rule_headed, rule_step, next_rule, percents, rule_or_end, rules_turn, rules_run, rules_passed, rules_all, programs_gap, programs_from}
use Rattle.rules.proofs.Laws.{mark_fits}
use Rattle.refusals.specs.Steps.{Fatal, GapIn, Sited, Sited0, SitedItems, SitedRules}
use Rattle.refusals.proofs.Steps.{gap_in, past_in, pass_in, push_in}
use Rattle.refusals.proofs.Items.{items_in}

abbrev SitedType : List ℕ → Type 0 → Typing → Type 0
SitedType src P o = Sited src P o.answer o.state

abbrev SitedHead : List ℕ → Type 0 → Heading → Type 0
SitedHead src P o = Sited src P o.answer o.state

module _ (src : List ℕ) (P : Type 0) (s : State) (h : s.at ≤ length src) where
  -- spacing, a mark, and spacing again
  mark_in_lem : (word : List ℕ) (cause : Cause) → ((i : ℕ) → i ≤ length src → Fatal src P (Fault cause i)) → Sited0 src P (pass_mark src s word cause)
  unfolding pass_mark
  mark_in_lem word cause f = go (gap_at s.kind true src s.at) (gap_in s.kind true src P s.at h)
    where
      go : (g : Result (ℕ × ℕ) Refusal) → GapIn src P s.at g → Sited0 src P (mark_gap g src s word cause)
      go (Ok (i, n)) x =
          on_test (Sited0 src P) (starts_at word src i) _ _
          (λ e. past_in src P false (i + length word) s h (mark_fits word src i x.inside e))
          (λ e. record { here = h; stops = f i x.inside })
      go (Err e) x = record { here = h; stops = x }

  -- a type up to a colon
  colon_in : SitedType src P (colon_type src s)
  unfolding colon_type
  colon_in = go (colon_text_at src s.at) (colon_placed src s.at h (colon_text_at src s.at) refl).1
    where
      go : (t : Result (ℕ × ℕ × Place) ℕ) → ColonTexts src s.at t → SitedType src P (colon_given t s)
      go (Ok (to, n, p)) x = let b = x.1 in record { here = omega arith; stops = tt }
      go (Err i) x = record { here = h; stops = omega arith }

  -- a rule's row
  rule_in : (from to : ℕ) (given : Option (ℕ × ℕ)) (t7 : List ℕ) → Passed src from to → SitedHead src P (enter_rule src s from to given t7)
  unfolding enter_rule
  rule_in from to given t7 p = go (find_name src (width rules) 0 (count s rules) t7 from to)
    where
      go : (r : Option ℕ) → SitedHead src P (rule_found r s from to given t7)
      go (Some r) = record { here = h; stops = tt }
      go None = push_in src P s h rules (rule_cells from to given) t7 (omega arith) p

  -- the programs
  pub programs_in : Sited0 src P (programs_from src s)
  unfolding programs_from
  programs_in =
      on_test (Sited0 src P) (starts_at percents src s.at) _ _
      (λ e. go (gap_at s.kind true src (s.at + 2)) (gap_in s.kind true src P (s.at + 2) (mark_fits percents src s.at h e)))
      (λ e. record { here = h; stops = tt })
    where
      go : (g : Result (ℕ × ℕ) Refusal) → GapIn src P (s.at + 2) g → Sited0 src P (programs_gap g src s)
      go (Ok (i, n)) x = record { here = omega arith; stops = tt }
      go (Err f) x = record { here = h; stops = x }

-- the type of a rule, by the kind
type_in : (src : List ℕ) (P : Type 0) (s : State) → s.at ≤ length src → SitedType src P (rule_type src s)
unfolding rule_type arrow_type
type_in src P s h =
    on_test (SitedType src P) (eqb s.kind 2) _ _
    (λ e. let o = pass_mark src s (45 ∷ 62 ∷ []) MissingRightArrow in go o.answer o.state (mark_in_lem src P s h (45 ∷ 62 ∷ []) MissingRightArrow (λ i l. l)))
    (λ e. record { here = h; stops = tt })
  where
    go : (a : Answer) (u : State) → Sited src P a u → SitedType src P (arrow_passed a src u)
    go Going u x = colon_in src P u x.here
    go Done u x = x
    go (Refused f) u x = x

module _ (src : List ℕ) (P : Type 0) (s : State) (h : s.at ≤ length src) where
  -- the head of a rule
  head_in : (t7 : List ℕ) → SitedHead src P (rule_head src s t7)
  unfolding rule_head named_head
  head_in t7 = go (name_at src s.at) (name_placed src s.at (name_at src s.at) refl).1
    where
      typed : (j : ℕ) → Passed src s.at j → (a : Answer) (o : Typing) → Sited src P a o.state → SitedHead src P (typed_head a src o.state o.given s.at j t7)
      typed j p Going o x = rule_in src P o.state x.here s.at j o.given t7 p
      typed j p Done o x = x
      typed j p (Refused f) o x = x

      go : (n : Result ℕ ℕ) → Named src s.at n → SitedHead src P (head_found n src s t7)
      go (Ok j) x =
          let a = x.0 in
          let b = x.1 in
          let o = rule_type src (with_at (first_start s s.at j) j) in
          typed j (record { onward = omega arith; inside = b }) o.answer o (type_in src P (with_at (first_start s s.at j) j) b)
      go (Err k) x = record { here = h; stops = omega arith }

  -- its body
  body_in : (row : ℕ) (t1 t8 t9 : List ℕ) → SitedItems src P (rule_body src s row t1 t8 t9)
  unfolding rule_body
  body_in row t1 t8 t9 = let o = pass_mark src s (58 ∷ []) MissingColon in go o.answer o.state (mark_in_lem src P s h (58 ∷ []) MissingColon (λ i l. l))
    where
      go : (a : Answer) (u : State) → Sited src P a u → SitedItems src P (body_passed a src u row t1 t8 t9)
      go Going u x = items_in src P u row (count u symbols) t1 t8 t9 x.here
      go Done u x = x
      go (Refused f) u x = x

-- a rule, and the spacing behind it
next_in : (src : List ℕ) (P : Type 0) (s : State) → s.at ≤ length src → (t1 t7 t8 t9 : List ℕ) → SitedRules src P (next_rule src s t1 t7 t8 t9)
unfolding next_rule rule_step
next_in src P s h t1 t7 t8 t9 =
    let p = rule_head src s t7 in
    let x = go p.answer p (head_in src P s h t7) in
    pass_in src P false (rule_step src s t1 t7 t8 t9).state.at x.here x
  where
    go : (a : Answer) (p : Heading) → Sited src P a p.state → SitedRules src P (rule_headed a src p t1 t8 t9)
    go Going p x = body_in src P p.state x.here p.row t1 t8 t9
    go Done p x = x
    go (Refused f) p x = x

turn_in : (src : List ℕ) (P : Type 0) (o : Ruled) → SitedRules src P o → Either (SitedRules src P) (SitedRules src P) (rules_turn src o)
unfolding rules_turn
turn_in src P o x = go (leb (length src) o.state.at) (starts_at percents src o.state.at)
  where
    go : (b c : Bool) → Either (SitedRules src P) (SitedRules src P) (rule_or_end b c o (next_rule src o.state o.t1 o.t7 o.t8 o.t9))
    go true c = x
    go false true = x
    go false false = let p = next_rule src o.state o.t1 o.t7 o.t8 o.t9 in onward_keep (SitedRules src P) p.answer p (next_in src P o.state x.here o.t1 o.t7 o.t8 o.t9)

-- The rules section.
pub rules_in : (src : List ℕ) (P : Type 0) (s : State) (t1 t7 t8 t9 : List ℕ) → s.at ≤ length src → SitedRules src P (rules_all src s t1 t7 t8 t9)
unfolding rules_all rules_run
rules_in src P s t1 t7 t8 t9 h = let o = pass_mark src s percents UnknownDeclaration in go o.answer o.state (mark_in_lem src P s h percents UnknownDeclaration (λ i l. l))
  where
    go : (a : Answer) (u : State) → Sited src P a u → SitedRules src P (rules_passed a src u t1 t7 t8 t9)
    go Going u x = turns_keep (SitedRules src P) (rules_turn src) (turn_in src P) (suc (length src)) _ (record { here = x.here; stops = tt })
    go Done u x = x
    go (Refused f) u x = x
