-- What heads and bodies of rules leave of the counts, and so of the indexes. Assumes nothing.
use Rattle.std.specs.Prelude.{Option, Some, None, Result, Ok, Err}
use Prim.Native.Nat.{ℕ, ◌+◌}
use mathlib.Core.Path.{◌≡◌, refl, ap}
use mathlib.Core.List.{List, [], ◌∷◌}
use mathlib.Core.Bool.{Bool, true, false}
use native.Mathlib.Omega.{arith}
use lib.Dec.{eqb}
use lib.ListN.{length}
use Rattle.scan.specs.Scan.{starts_at}
use Rattle.scan.specs.declared.Place.{Place}
use Rattle.texts.specs.Colon.{colon_text_at}
use Rattle.words.specs.Words.{name_at}
use Rattle.tables.specs.Table.{find_name}
use Rattle.tables.specs.Layout.{tokens, rules, productions, symbols, width}
use Rattle.grammar.specs.declared.Answer.{Answer}
use Rattle.grammar.specs.declared.Answer.TheVariants.{Going, Done, Refused}
use Rattle.grammar.specs.declared.Cause.{Cause}
use Rattle.grammar.specs.declared.Cause.TheVariants.{MissingColon, MissingRightArrow}
use Rattle.grammar.specs.declared.Refusal.{Refusal}
use Rattle.grammar.specs.declared.State.{State}
use Rattle.grammar.specs.Cells.{rule_cells}
use Rattle.grammar.specs.State.{Out0, Tracked, Tokens, Rules, count, with_at, gap_at}
use Rattle.grammar.proofs.Spares.{Spares, spares_none, spares_on, spares_push, spares_pass, spared}
use Rattle.items.specs.Items.{Itemed, begun}
use Rattle.items.proofs.Spares.{items_spares}
use Rattle.rules.specs.Rules.{Typing, Heading, mark_gap, pass_mark, start_or, first_start, colon_given, colon_type, arrow_passed, arrow_type, rule_type, rule_found, enter_rule, typed_head, named_head, head_found, rule_head, body_passed, rule_body, percents, programs_gap, programs_from}

module _ (k : ℕ) (src : List ℕ) where
  -- a mark, the start and the type leave every count
  pub mark_spares : (s : State) (word : List ℕ) (cause : Cause) → Spares k s.counts (pass_mark src s word cause).state.counts
  unfolding pass_mark
  mark_spares s word cause = go (gap_at s.kind true src s.at)
    where
      by : (i : ℕ) (b : Bool) → starts_at word src i ≡ b → Spares k s.counts (mark_gap (Ok (i, 0)) src s word cause).state.counts
      by i true e = rw (e, mark_gap) (spares_pass k src false (i + length word) Going s)
      by i false e = rw (e, mark_gap) (spares_none k s.counts)

      go : (g : Result (ℕ × ℕ) Refusal) → Spares k s.counts (mark_gap g src s word cause).state.counts
      go (Ok (i, n)) = by i (starts_at word src i) refl
      go (Err f) = spares_none k s.counts

  first_spares : (s : State) (from to : ℕ) → Spares k s.counts (first_start s from to).counts
  unfolding first_start
  first_spares s from to = go s.singles.start
    where
      go : (p : Option (ℕ × ℕ)) → Spares k s.counts (start_or p s from to).counts
      go None = spares_none k s.counts
      go (Some (a, b)) = spares_none k s.counts

  colon : (s : State) → Spares k s.counts (colon_type src s).state.counts
  unfolding colon_type
  colon s = go (colon_text_at src s.at)
    where
      go : (x : Result (ℕ × ℕ × Place) ℕ) → Spares k s.counts (colon_given x s).state.counts
      go (Ok (to, n, p)) = spares_none k s.counts
      go (Err i) = spares_none k s.counts

  arrow : (s : State) → Spares k s.counts (arrow_type src s).state.counts
  unfolding arrow_type
  arrow s = spares_on (mark_spares s (45 ∷ 62 ∷ []) MissingRightArrow) (go (pass_mark src s (45 ∷ 62 ∷ []) MissingRightArrow).answer (pass_mark src s (45 ∷ 62 ∷ []) MissingRightArrow).state)
    where
      go : (a : Answer) (u : State) → Spares k u.counts (arrow_passed a src u).state.counts
      go Going u = colon u
      go Done u = spares_none k u.counts
      go (Refused f) u = spares_none k u.counts

  type_spares : (s : State) → Spares k s.counts (rule_type src s).state.counts
  unfolding rule_type
  type_spares s = go (eqb s.kind 2) refl
    where
      go : (b : Bool) → eqb s.kind 2 ≡ b → Spares k s.counts (rule_type src s).state.counts
      go true e = rw (e, rule_type) (arrow s)
      go false e = rw (e, rule_type) (spares_none k s.counts)

  -- programs too
  pub programs_spares : (s : State) → Spares k s.counts (programs_from src s).state.counts
  unfolding programs_from
  programs_spares s = by (starts_at percents src s.at) refl
    where
      go : (g : Result (ℕ × ℕ) Refusal) → Spares k s.counts (programs_gap g src s).state.counts
      go (Ok (i, n)) = spares_none k s.counts
      go (Err f) = spares_none k s.counts

      by : (b : Bool) → starts_at percents src s.at ≡ b → Spares k s.counts (programs_from src s).state.counts
      by true e = rw (e, programs_from) (go (gap_at s.kind true src (s.at + 2)))
      by false e = rw (e, programs_from) (spares_none k s.counts)

  -- a head leaves every count but that of table 7
  module _ (seventh : rules ≡ k → ⊥) where
    enter : (s : State) (from to : ℕ) (given : Option (ℕ × ℕ)) (t7 : List ℕ) → Spares k s.counts (enter_rule src s from to given t7).state.counts
    unfolding enter_rule
    enter s from to given t7 = go (find_name src (width rules) 0 (count s rules) t7 from to)
      where
        go : (f : Option ℕ) → Spares k s.counts (rule_found f s from to given t7).state.counts
        go (Some r) = spares_none k s.counts
        go None = spares_push k s rules (rule_cells from to given) t7 seventh

    named : (s : State) (j : ℕ) (t7 : List ℕ) → Spares k s.counts (named_head src s j t7).state.counts
    unfolding named_head
    named s j t7 =
        let ty = rule_type src (with_at (first_start s s.at j) j) in
        spares_on (spares_on (first_spares s s.at j) (type_spares (with_at (first_start s s.at j) j))) (go ty.answer ty.state ty.given)
      where
        go : (a : Answer) (u : State) (given : Option (ℕ × ℕ)) → Spares k u.counts (typed_head a src u given s.at j t7).state.counts
        go Going u given = enter u s.at j given t7
        go Done u given = spares_none k u.counts
        go (Refused f) u given = spares_none k u.counts

    pub head_spares : (s : State) (t7 : List ℕ) → Spares k s.counts (rule_head src s t7).state.counts
    unfolding rule_head
    head_spares s t7 = go (name_at src s.at)
      where
        go : (x : Result ℕ ℕ) → Spares k s.counts (head_found x src s t7).state.counts
        go (Ok j) = named s j t7
        go (Err i) = spares_none k s.counts

  -- a body leaves every count but those of tables 1, 8 and 9
  module _ (first : tokens ≡ k → ⊥) (eighth : productions ≡ k → ⊥) (ninth : symbols ≡ k → ⊥) where
    pub body_spares : (s : State) (row : ℕ) (t1 t8 t9 : List ℕ) → Spares k s.counts (rule_body src s row t1 t8 t9).state.counts
    unfolding rule_body
    body_spares s row t1 t8 t9 = spares_on (mark_spares s (58 ∷ []) MissingColon) (go (pass_mark src s (58 ∷ []) MissingColon).answer (pass_mark src s (58 ∷ []) MissingColon).state)
      where
        go : (a : Answer) (u : State) → Spares k u.counts (body_passed a src u row t1 t8 t9).state.counts
        go Going u = items_spares k ninth src first eighth u (begun row u.at (count u symbols)) t1 t8 t9
        go Done u = spares_none k u.counts
        go (Refused f) u = spares_none k u.counts

-- so an index stays where a step is not lent it
module _ (src : List ℕ) (s : State) (t ix : List ℕ) (a : Answer) (q : State) where
  pub by_mark : (k w name : ℕ) (word : List ℕ) (cause : Cause) → ◌≡◌ {A = Out0} (record { answer = a; state = q }) (pass_mark src s word cause) → Tracked src k w name s.counts t ix → Tracked src k w name q.counts t ix
  by_mark k w name word cause e I = rw (ap (λ (o : Out0). o.state.counts) e) (spared (mark_spares k src s word cause) I)

  pub by_type : (given : Option (ℕ × ℕ)) → ◌≡◌ {A = Typing} (record { answer = a; state = q; given = given }) (rule_type src s) → Rules src s.counts t ix → Rules src q.counts t ix
  by_type given e I = rw (ap (λ (o : Typing). o.state.counts) e) (spared (type_spares 6 src s) I)

  pub by_head : (row : ℕ) (t7 u7 : List ℕ) → ◌≡◌ {A = Heading} (record { answer = a; state = q; row = row; t7 = u7 }) (rule_head src s t7) → Tokens src s.counts t ix → Tokens src q.counts t ix
  by_head row t7 u7 e I = rw (ap (λ (o : Heading). o.state.counts) e) (spared (head_spares 0 src (λ z. omega arith) s t7) I)

  pub by_body : (row : ℕ) (t1 t8 t9 u1 u8 u9 : List ℕ) → ◌≡◌ {A = Itemed} (record { answer = a; state = q; t1 = u1; t8 = u8; t9 = u9 }) (rule_body src s row t1 t8 t9) → Rules src s.counts t ix → Rules src q.counts t ix
  by_body row t1 t8 t9 u1 u8 u9 e I = rw (ap (λ (o : Itemed). o.state.counts) e) (spared (body_spares 6 src (λ z. omega arith) (λ z. omega arith) (λ z. omega arith) s row t1 t8 t9) I)

pub by_start : (src : List ℕ) (s : State) (from to : ℕ) (n : State) (t ix : List ℕ) → n ≡ first_start s from to → Rules src s.counts t ix → Rules src n.counts t ix
by_start src s from to n t ix e I = rw (ap (λ (u : State). u.counts) e) (spared (first_spares 6 src s from to) I)
