-- Each item of a production, and the items of a rule, keep what is known of a reading's rows, whatever their answer. Assumes nothing.
use Rattle.std.specs.Prelude.{Option, Some, None, Result, Ok, Err}
use Prim.Native.Nat.{ℕ, zero, suc, ◌+◌, ◌<◌}
use mathlib.Core.Path.{◌≡◌, refl, sym, ◌∙◌}
use mathlib.Core.List.{List, [], ◌∷◌}
use mathlib.Core.Bool.{Bool, true, false, ◌&&◌, ◌||◌, false≢true}
use native.Mathlib.Omega.{arith}
use lib.Dec.{leb, eqb}
use lib.ListN.{length, get_or}
use Rattle.scan.specs.declared.Place.{Place}
use Rattle.scan.specs.Scan.{starts_at}
use Rattle.scan.specs.Loop.{Turn, more, stop, turns}
use Rattle.scan.proofs.Bytes.{on_test, told, at_here, starts_fits, starts_byte}
use Rattle.scan.proofs.Loop.{Either}
use Rattle.whole.specs.Encode.{Text}
use Rattle.words.specs.Words.{is_quote, token_at, Tokened, IsToken, bare_token, quoted_token}
use Rattle.words.proofs.Words.{token_placed}
use Rattle.words.proofs.Meaning.{token_iff, token_no_dot}
use Rattle.texts.specs.Action.{action_at}
use Rattle.tables.specs.Layout.{tokens, symbols}
use Rattle.grammar.specs.declared.State.{State}
use Rattle.grammar.specs.declared.Answer.{Answer}
use Rattle.grammar.specs.declared.Answer.TheVariants.{Going, Done, Refused}
use Rattle.grammar.specs.declared.Refusal.{Refusal}
use Rattle.grammar.specs.Cells.{symbol_cells}
use Rattle.grammar.specs.State.{Out1, count, with_at, gap_at, push_row, enter_step}
use Rattle.grammar.proofs.Touch.{refused_going}
use Rattle.productions.specs.declared.Production.{Production}
use Rattle.productions.specs.Cells.{action_cells, production_cells, push_production}
use Rattle.items.specs.declared.Sort.{Sort}
use Rattle.items.specs.declared.Sort.TheVariants.{BarSort, EndSort, QuotedSort, PrecSort, ActionSort, EmptySort, BareSort}
use Rattle.items.specs.declared.Spotted.{Spotted}
use Rattle.items.proofs.Marks.{starts_one, ends_not}
use Rattle.items.proofs.Far.{rule_end_never}
use Rattle.items.specs.Items.{Made0, Made3, prec_word, first_mark, sort_at, with_to, with_last, with_action, symbol_entered, token_symbol, quoted_gap, quoted_rows, quoted_found, quoted_item, prec_found, prec_name, prec_gap, prec_item, may_end, action_gap, after_action, action_found, action_item, may_follow, empty_gap, empty_item, symbol_kind, bare_found, bare_item, end_production, bar_item, end_item, by_sort, item_step, item_next, item_or_end, item_turn, item_list}
use Rattle.meaning.specs.Regions.{ActionMade}
use Rattle.meaning.specs.Made.{SymbolMade, ProductionMade, MadeAt}
use Rattle.meaning.proofs.Regions.{action_region}
use Rattle.meaning.proofs.Rows.{enter_made, pass_made, symbol_made, production_made}

-- what holds before each turn holds, in another form, where the loop stops or runs out of turns
turns_through : {X : Type 0} (I J : X → Type 0) (f : X → Turn X) → ((x : X) → I x → J x) → ((x : X) → I x → Either I J (f x)) → (n : ℕ) (x : X) → I x → J (turns n f x)
unfolding turns
turns_through I J f out step zero x i = out x i
turns_through {X} I J f out step (suc n) x i = go (f x) (step x i) (turns_through I J f out step n)
  where
    go : (t : Turn X) → Either I J t → ((y : X) → I y → J (turns n f y)) → J (elim t [ more y ↦ turns n f y | stop y ↦ y ])
    go (more y) k ih = ih y k
    go (stop y) k ih = k

-- the action of a production under way that ends at `to`: it opens there, and "only `|` or `;` may stand" where the reading stands
abbrev pub Acts : List ℕ → ℕ → ℕ → Option (ℕ × ℕ × ℕ × ℕ) → Type 0
Acts src at to None = Unit {0}
Acts src at to (Some (a, b, c, d)) = ActionMade src to a b c d × (may_end src at ≡ true)

-- where neither stands, there is no action
acts_on : (src : List ℕ) (at to i end : ℕ) (act : Option (ℕ × ℕ × ℕ × ℕ)) → Acts src at to act → (may_end src at ≡ true → ⊥) → Acts src i end act
acts_on src at to i end None x n = tt
acts_on src at to i end (Some (a, b, c, d)) x n = absurd (n x.1)

-- the row of a production
production_row_lem : (src : List ℕ) (at n : ℕ) (d : Production) → Acts src at d.to d.action → ProductionMade src (production_cells (with_last d n))
production_row_lem src at n d x = record { acted = go d.action x }
  where
    go : (z : Option (ℕ × ℕ × ℕ × ℕ)) → Acts src at d.to z → get_or (action_cells z) 0 0 ≡ 1 → ActionMade src d.to (get_or (action_cells z) 1 0) (get_or (action_cells z) 2 0) (get_or (action_cells z) 3 0) (get_or (action_cells z) 4 0)
    go None y e = absurd (omega arith)
    go (Some (a, b, c, e)) y q = y.0

-- the row of a symbol
symbol_row_lem : (src : List ℕ) (at kind end : ℕ) (p : Place) (quoted : Bool) → token_at src at ≡ Ok (p, end, quoted) → (kind ≡ 1 → quoted ≡ false) → SymbolMade src (symbol_cells kind p.from p.to)
symbol_row_lem src at kind end p quoted e h =
    record { at = at; end = end; quoted = quoted; token = e; rule = h; plain = λ q. token_no_dot src at p end (told (λ (b : Bool). token_at src at ≡ Ok (p, end, b)) q e) }

-- what is read where no quote stands is bare
bare_of : (src : List ℕ) (at end : ℕ) (p : Place) (quoted : Bool) → is_quote (get_or src at 0) ≡ false → token_at src at ≡ Ok (p, end, quoted) → quoted ≡ false
bare_of src at end p quoted u e = go ((token_iff src at p end quoted).0 e)
  where
    go : {p : Place} {end : ℕ} {quoted : Bool} → IsToken src at p end quoted → quoted ≡ false
    go (bare_token x) = refl
    go (quoted_token x) = absurd (false≢true (sym u ∙ x.opens))

-- What the sort of an item tells of the place where it stands.
abbrev Tells : List ℕ → ℕ → Sort → Type 0
Tells src at BarSort = Unit {0}
Tells src at EndSort = Unit {0}
Tells src at QuotedSort = may_end src at ≡ true → ⊥
Tells src at PrecSort = may_end src at ≡ true → ⊥
Tells src at ActionSort = (may_end src at ≡ true → ⊥) × (at < length src) × (get_or src at 0 ≡ 123)
Tells src at EmptySort = may_end src at ≡ true → ⊥
Tells src at BareSort = (may_end src at ≡ true → ⊥) × (at < length src → is_quote (get_or src at 0) ≡ false)

module _ (src : List ℕ) (at : ℕ) where
  quote_not : starts_at (34 ∷ []) src at ≡ false → starts_at (39 ∷ []) src at ≡ false → at < length src → is_quote (get_or src at 0) ≡ false
  unfolding is_quote
  quote_not f g l = go (eqb (get_or src at 0) 34) (eqb (get_or src at 0) 39) refl refl
    where
      go : (x y : Bool) → eqb (get_or src at 0) 34 ≡ x → eqb (get_or src at 0) 39 ≡ y → (x || y) ≡ false
      go true y p q = absurd (false≢true (sym f ∙ starts_one 34 src at (sym (at_here src at 34 l) ∙ p)))
      go false true p q = absurd (false≢true (sym g ∙ starts_one 39 src at (sym (at_here src at 39 l) ∙ q)))
      go false false p q = refl

  tells : Tells src at (sort_at src at).sort
  unfolding sort_at first_mark
  tells =
      on_test T (starts_at (124 ∷ []) src at) _ _ (λ t. tt)
      (λ a. on_test T (starts_at (59 ∷ []) src at) _ _ (λ t. tt)
      (λ b. on_test T (starts_at (34 ∷ []) src at) _ _ (λ t. ends_not src at a b)
      (λ c. on_test T (starts_at (39 ∷ []) src at) _ _ (λ t. ends_not src at a b)
      (λ d. on_test T (starts_at prec_word src at) _ _ (λ t. ends_not src at a b)
      (λ e. on_test T (starts_at (123 ∷ []) src at) _ _ (λ t. (ends_not src at a b, (brace t).0, (brace t).1))
      (λ f. on_test T (starts_at (37 ∷ 101 ∷ 109 ∷ 112 ∷ 116 ∷ 121 ∷ []) src at) _ _ (λ t. ends_not src at a b) (λ g. (ends_not src at a b, quote_not c d))))))))
    where
      T : Spotted → Type 0
      T r = Tells src at r.sort

      brace : starts_at (123 ∷ []) src at ≡ true → (at < length src) × (get_or src at 0 ≡ 123)
      brace t =
          let h = starts_fits (123 ∷ []) src at t (omega arith) in
          let z : at + 0 ≡ at = omega arith in
          (omega arith, rw z at (starts_byte (123 ∷ []) src at t 0 (omega arith)))

-- An item: its rows are made as they should be, and where the reading goes on so is the action of the production under way.
pub record ItemMade (src : List ℕ) (kind : ℕ) (t7 : List ℕ) (o : Made3) : Type 0 where
  pub made : MadeAt src kind o.state t7 o.t8 o.t9
  pub acts : o.answer ≡ Going → Acts src o.state.at o.draft.to o.draft.action

module _ (src : List ℕ) (t : Text src) (kind : ℕ) (t7 : List ℕ) where
  -- the rows that each item leaves
  module _ (s : State) (d : Production) (t8 t9 : List ℕ) (x : MadeAt src kind s t7 t8 t9) where
    -- a bare symbol,
    bare_made : (t1 : List ℕ) → (s.at < length src → is_quote (get_or src s.at 0) ≡ false) → let o = bare_item src s d t1 t9 in MadeAt src kind o.state t7 t8 o.a
    unfolding bare_item
    bare_made t1 n = go (token_at src s.at) refl (token_placed src s.at (token_at src s.at) refl).1
      where
        go : (r : Result (Place × ℕ × Bool) ℕ) → token_at src s.at ≡ r → Tokened src s.at r → let o = bare_found r src s d t1 t9 in MadeAt src kind o.state t7 t8 o.a
        go (Ok (p, end, q)) e y =
            let a = y.0 in
            let b = y.1 in
            let c = y.2 in
            let l = y.3 in
            let k = symbol_kind src (count s tokens) t1 p.from p.to in
            let o = push_row s symbols (symbol_cells k p.from p.to) t9 in
            pass_made src kind o.state t7 t8 o.a (symbol_made src kind s t7 t8 t9 x (symbol_cells k p.from p.to) refl (symbol_row_lem src s.at k end p q e (λ z. bare_of src s.at end p q (n (omega arith)) e))) false end o.answer
        go (Err k) e y = x

    -- a quoted one,
    token_symbol_made : (t1 : List ℕ) (from to : ℕ) → SymbolMade src (symbol_cells 2 from to) → let o = token_symbol src s from to t1 t9 in MadeAt src kind o.state t7 t8 o.b
    unfolding token_symbol
    token_symbol_made t1 from to p = let e = enter_step src s from to false t1 in go e.answer e (enter_made src kind s t7 t8 t9 x from to false t1)
      where
        go : (a : Answer) (e : Out1) → MadeAt src kind e.state t7 t8 t9 → let o = symbol_entered a e from to t9 in MadeAt src kind o.state t7 t8 o.b
        go Going e y = symbol_made src kind e.state t7 t8 t9 y (symbol_cells 2 from to) refl p
        go Done e y = y
        go (Refused f) e y = y

    -- the name of a `%prec`,
    prec_name_made : (t1 : List ℕ) → MadeAt src kind (prec_name src s d t1).state t7 t8 t9
    unfolding prec_name
    prec_name_made t1 = go (token_at src s.at)
      where
        go : (r : Result (Place × ℕ × Bool) ℕ) → MadeAt src kind (prec_found r src s d t1).state t7 t8 t9
        go (Ok (p, end, q)) = let e = enter_step src s p.from p.to false t1 in pass_made src kind e.state t7 t8 t9 (enter_made src kind s t7 t8 t9 x p.from p.to false t1) false end e.answer
        go (Err k) = x

    -- an action,
    after_made : (end : ℕ) → MadeAt src kind (after_action src s d end).state t7 t8 t9
    unfolding after_action
    after_made end = go (gap_at s.kind true src end)
      where
        go : (g : Result (ℕ × ℕ) Refusal) → MadeAt src kind (action_gap g src s d).state t7 t8 t9
        go (Ok (i, n)) = on_test (λ (o : Made0). MadeAt src kind o.state t7 t8 t9) (may_end src i) _ _ (λ e. x) (λ e. x)
        go (Err f) = x

    -- and `%empty`.
    empty_made : (first : ℕ) → MadeAt src kind (empty_item src s d first).state t7 t8 t9
    unfolding empty_item
    empty_made first = go (gap_at s.kind true src s.at)
      where
        go : (g : Result (ℕ × ℕ) Refusal) → MadeAt src kind (empty_gap g src s d first).state t7 t8 t9
        go (Ok (k, n)) = on_test (λ (o : Made0). MadeAt src kind o.state t7 t8 t9) (eqb (count s symbols) d.first && may_follow src k) _ _ (λ e. x) (λ e. x)
        go (Err f) = x

  module _ (s : State) (d : Production) (t8 t9 : List ℕ) (x : MadeAt src kind s t7 t8 t9) where
    quoted_made : (t1 : List ℕ) → let o = quoted_item src s d t1 t9 in MadeAt src kind o.state t7 t8 o.b
    unfolding quoted_item quoted_rows
    quoted_made t1 = go (token_at src s.at) refl
      where
        rows : (p : Place) (end : ℕ) → SymbolMade src (symbol_cells 2 p.from p.to) → (g : Result (ℕ × ℕ) Refusal) → let o = quoted_gap g src s d p.from p.to end t1 t9 in MadeAt src kind o.state t7 t8 o.b
        rows p end y (Ok (i, n)) = token_symbol_made (with_at s i) d t8 t9 x t1 p.from p.to y
        rows p end y (Err f) = x

        go : (r : Result (Place × ℕ × Bool) ℕ) → token_at src s.at ≡ r → let o = quoted_found r src s d t1 t9 in MadeAt src kind o.state t7 t8 o.b
        go (Ok (p, end, q)) e = rows p end (symbol_row_lem src s.at 2 end p q e (λ z. absurd (omega arith))) (gap_at s.kind true src end)
        go (Err k) e = x

    prec_made : (t1 : List ℕ) → MadeAt src kind (prec_item src s d t1).state t7 t8 t9
    unfolding prec_item
    prec_made t1 = go (gap_at s.kind true src s.at)
      where
        go : (g : Result (ℕ × ℕ) Refusal) → MadeAt src kind (prec_gap g src s d t1).state t7 t8 t9
        go (Ok (i, n)) = prec_name_made (with_at s i) d t8 t9 x t1
        go (Err f) = x

    action_made : MadeAt src kind (action_item src s d).state t7 t8 t9
    unfolding action_item
    action_made = go (action_at src s.at)
      where
        go : (r : Result (ℕ × ℕ × Place × Place) ℕ) → MadeAt src kind (action_found r src s d).state t7 t8 t9
        go (Ok (end, n, p, q)) = after_made s (with_action (with_to d s.at) p.from p.to q.from q.to) t8 t9 x end
        go (Err i) = x

    -- a production's end
    end_made : (at : ℕ) → Acts src at d.to d.action → let o = end_production s d t8 in MadeAt src kind o.state t7 o.a t9
    unfolding end_production push_production
    end_made at y = production_made src kind s t7 t8 t9 x (production_cells (with_last d (count s symbols))) refl (production_row_lem src at (count s symbols) d y)

  -- the action of a production under way, behind an item that stands where it had none
  module _ (s : State) (d : Production) (none : (i to : ℕ) → Acts src i to d.action) where
    quoted_acts : (t1 t9 : List ℕ) → let o = quoted_item src s d t1 t9 in Acts src o.state.at o.draft.to o.draft.action
    unfolding quoted_item quoted_rows
    quoted_acts t1 t9 = go (token_at src s.at)
      where
        rows : (from to end : ℕ) (g : Result (ℕ × ℕ) Refusal) → let o = quoted_gap g src s d from to end t1 t9 in Acts src o.state.at o.draft.to o.draft.action
        rows from to end (Ok (i, n)) = none _ _
        rows from to end (Err f) = none _ _

        go : (r : Result (Place × ℕ × Bool) ℕ) → let o = quoted_found r src s d t1 t9 in Acts src o.state.at o.draft.to o.draft.action
        go (Ok (p, end, q)) = rows p.from p.to end (gap_at s.kind true src end)
        go (Err k) = none _ _

    prec_acts : (t1 : List ℕ) → let o = prec_item src s d t1 in Acts src o.state.at o.draft.to o.draft.action
    unfolding prec_item prec_name
    prec_acts t1 = go (gap_at s.kind true src s.at)
      where
        name : (i : ℕ) (r : Result (Place × ℕ × Bool) ℕ) → let o = prec_found r src (with_at s i) d t1 in Acts src o.state.at o.draft.to o.draft.action
        name i (Ok (p, end, q)) = none _ _
        name i (Err k) = none _ _

        go : (g : Result (ℕ × ℕ) Refusal) → let o = prec_gap g src s d t1 in Acts src o.state.at o.draft.to o.draft.action
        go (Ok (i, n)) = name i (token_at src i)
        go (Err f) = none _ _

    empty_acts : (first : ℕ) → let o = empty_item src s d first in Acts src o.state.at o.draft.to o.draft.action
    unfolding empty_item
    empty_acts first = go (gap_at s.kind true src s.at)
      where
        go : (g : Result (ℕ × ℕ) Refusal) → let o = empty_gap g src s d first in Acts src o.state.at o.draft.to o.draft.action
        go (Ok (k, n)) = on_test (λ (o : Made0). Acts src o.state.at o.draft.to o.draft.action) (eqb (count s symbols) d.first && may_follow src k) _ _ (λ e. none _ _) (λ e. none _ _)
        go (Err f) = none _ _

    bare_acts : (t1 t9 : List ℕ) → let o = bare_item src s d t1 t9 in Acts src o.state.at o.draft.to o.draft.action
    unfolding bare_item
    bare_acts t1 t9 = go (token_at src s.at)
      where
        go : (r : Result (Place × ℕ × Bool) ℕ) → let o = bare_found r src s d t1 t9 in Acts src o.state.at o.draft.to o.draft.action
        go (Ok (p, end, q)) = none _ _
        go (Err k) = none _ _

  -- behind an action where the reading goes on, it is one as it stands in the source
  action_acts : (s : State) (d : Production) → s.at < length src → get_or src s.at 0 ≡ 123 → let o = action_item src s d in o.answer ≡ Going → Acts src o.state.at o.draft.to o.draft.action
  unfolding action_item after_action
  action_acts s d h b = go (action_at src s.at) refl
    where
      Goes : Made0 → Type 0
      Goes o = o.answer ≡ Going → Acts src o.state.at o.draft.to o.draft.action

      gap : (a b c e : ℕ) → ActionMade src s.at a b c e → (g : Result (ℕ × ℕ) Refusal) → Goes (action_gap g src s (with_action (with_to d s.at) a b c e))
      gap a b c e y (Ok (i, n)) = on_test Goes (may_end src i) _ _ (λ m g. (y, m)) (λ m g. absurd (refused_going _ g))
      gap a b c e y (Err f) = λ g. absurd (refused_going f g)

      go : (r : Result (ℕ × ℕ × Place × Place) ℕ) → action_at src s.at ≡ r → Goes (action_found r src s d)
      go (Ok (end, n, p, q)) e = gap p.from p.to q.from q.to (action_region src t s.at end n p q h b e) (gap_at s.kind true src end)
      go (Err i) e = λ g. absurd (refused_going _ g)

  module _ (s : State) (d : Production) (t1 t8 t9 : List ℕ) (x : MadeAt src kind s t7 t8 t9) (y : Acts src s.at d.to d.action) where
    none : (may_end src s.at ≡ true → ⊥) → (i to : ℕ) → Acts src i to d.action
    none n i to = acts_on src s.at d.to i to d.action y n

    by_sort_lem : (k : Sort) (j : ℕ) → Tells src s.at k → ItemMade src kind t7 (by_sort k src s (with_at s j) d t1 t8 t9)
    unfolding bar_item end_item
    by_sort_lem BarSort j h =
        let e = end_production (with_at s j) d t8 in
        record { made = pass_made src kind e.state t7 e.a t9 (end_made (with_at s j) d t8 t9 x s.at y) false j e.answer; acts = λ g. tt }
    by_sort_lem EndSort j h = record { made = end_made (with_at s j) d t8 t9 x s.at y; acts = λ g. absurd (rule_end_never (end_production (with_at s j) d t8).answer g) }
    by_sort_lem QuotedSort j h = record { made = quoted_made s d t8 t9 x t1; acts = λ g. quoted_acts s d (none h) t1 t9 }
    by_sort_lem PrecSort j h = record { made = prec_made (with_at s j) d t8 t9 x t1; acts = λ g. prec_acts (with_at s j) d (none h) t1 }
    by_sort_lem ActionSort j h = record { made = action_made s d t8 t9 x; acts = action_acts s d h.1 h.2 }
    by_sort_lem EmptySort j h = record { made = empty_made (with_at s j) d t8 t9 x s.at; acts = λ g. empty_acts (with_at s j) d (none h) s.at }
    by_sort_lem BareSort j h = record { made = bare_made s d t8 t9 x t1 h.1; acts = λ g. bare_acts s d (none h.0) t1 t9 }

    -- one item
    pub item_made : ItemMade src kind t7 (item_step src s d t1 t8 t9)
    unfolding item_step
    item_made = by_sort_lem (sort_at src s.at).sort (sort_at src s.at).end (tells src s.at)

  -- a rule under way, and one whose items are over
  abbrev Under : Made3 → Type 0
  Under o = MadeAt src kind o.state t7 o.t8 o.t9 × Acts src o.state.at o.draft.to o.draft.action

  abbrev Over : Made3 → Type 0
  Over o = MadeAt src kind o.state t7 o.t8 o.t9

  turn_made : (o : Made3) → Under o → Either Under Over (item_turn src o)
  unfolding item_turn
  turn_made o x = go (leb (length src) o.state.at)
    where
      next : (a : Answer) (p : Made3) → p.answer ≡ a → ItemMade src kind t7 p → Either Under Over (item_next a p)
      next Going p e y = (y.made, y.acts e)
      next Done p e y = y.made
      next (Refused f) p e y = y.made

      go : (b : Bool) → Either Under Over (item_or_end b o (item_step src o.state o.draft o.t1 o.t8 o.t9))
      go true = x.0
      go false = let p = item_step src o.state o.draft o.t1 o.t8 o.t9 in next p.answer p refl (item_made o.state o.draft o.t1 o.t8 o.t9 x.0 x.1)

  -- The items of a rule.
  pub items_made : (s : State) (d : Production) (t1 t8 t9 : List ℕ) → MadeAt src kind s t7 t8 t9 → Acts src s.at d.to d.action → let o = item_list src s d t1 t8 t9 in MadeAt src kind o.state t7 o.t8 o.t9
  unfolding item_list
  items_made s d t1 t8 t9 x y = turns_through Under Over (item_turn src) (λ o z. z.0) turn_made (suc (length src)) _ (x, y)
