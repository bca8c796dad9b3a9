-- The items of a rule stand in the source, and their refusals are fatal ones of the source. Assumes nothing.
use Rattle.std.specs.Prelude.{Option, Some, None, Result, Ok, Err}
use Prim.Native.Nat.{ℕ, suc, ◌≤◌, ◌<◌}
use mathlib.Core.Path.{◌≡◌, refl, ◌∙◌}
use mathlib.Core.List.{List}
use mathlib.Core.Bool.{Bool, true, false, ◌&&◌}
use native.Mathlib.Omega.{arith}
use lib.Dec.{leb, eqb}
use lib.ListN.{length}
use Rattle.scan.proofs.Bytes.{on_test}
use Rattle.scan.proofs.Loop.{Either, turns_keep}
use Rattle.scan.specs.declared.Place.{Place}
use Rattle.words.specs.Words.{token_at, Tokened}
use Rattle.words.proofs.Words.{token_placed}
use Rattle.texts.specs.Action.{action_at, Acted}
use Rattle.texts.proofs.Laws.{action_placed}
use Rattle.tables.specs.Table.{add_row, flag, enter_token}
use Rattle.tables.specs.Layout.{tokens, productions, symbols}
use Rattle.grammar.specs.declared.State.{State}
use Rattle.grammar.specs.declared.Refusal.{Refusal}
use Rattle.grammar.specs.declared.Answer.{Answer}
use Rattle.grammar.specs.declared.Answer.TheVariants.{Going, Done, Refused}
use Rattle.grammar.specs.Cells.{symbol_cells, token_cells}
use Rattle.grammar.specs.State.{Out1, Passed, count, with_at, gap_at, pushed, push_row, entered, enter_step, pass_on}
use Rattle.productions.specs.declared.Production.{Production}
use Rattle.productions.specs.Cells.{production_cells, push_production}
use Rattle.items.specs.declared.Sort.{Sort}
use Rattle.items.specs.declared.Sort.TheVariants.{BarSort, EndSort, QuotedSort, PrecSort, ActionSort, EmptySort, BareSort}
use Rattle.items.specs.Items.{Made0, Made1, Made2, Made3, sort_at, begun, with_to, with_prec, with_last, symbol_entered, token_symbol, quoted_gap, quoted_rows, quoted_found, quoted_item, prec_found, prec_name, prec_gap, prec_item, may_end, action_gap, after_action, action_found, action_item, may_follow, empty_gap, empty_item, symbol_kind, bare_found, bare_item, end_production, bar_item, rule_end, end_item, by_sort, item_step, item_next, item_or_end, item_turn, item_list}
use Rattle.items.proofs.Far.{pass_onward}
use Rattle.items.proofs.Marks.{spots}
use Rattle.refusals.specs.Steps.{Stops, Fatal, GapIn, Sited, Sited1, SitedItem, SitedItems}
use Rattle.refusals.proofs.Steps.{gap_in, pass_in, push_in, enter_in}

-- a row more moves nothing
push_stays : (s : State) (k : ℕ) (row t : List ℕ) → (push_row s k row t).state.at ≡ s.at
unfolding push_row
push_stays s k row t = go (add_row (count s k) row t).ok
  where
    go : (q : Bool) → (pushed q s k row (add_row (count s k) row t).cells).state.at ≡ s.at
    go true = refl
    go false = refl

enter_stays : (src : List ℕ) (s : State) (a b : ℕ) (d : Bool) (t : List ℕ) → (enter_step src s a b d t).state.at ≡ s.at
unfolding enter_step
enter_stays src s a b d t = go (enter_token src (count s tokens) a b d t).entered
  where
    go : (q : Option ℕ) → (entered q s (token_cells a b (flag d)) (enter_token src (count s tokens) a b d t).cells).state.at ≡ s.at
    go (Some m) = refl
    go None = refl

abbrev Item0 : List ℕ → Type 0 → Made0 → Type 0
Item0 src P o = SitedItem src P o.answer o.state o.draft

abbrev Item1 : List ℕ → Type 0 → Made1 → Type 0
Item1 src P o = SitedItem src P o.answer o.state o.draft

abbrev Item2 : List ℕ → Type 0 → Made2 → Type 0
Item2 src P o = SitedItem src P o.answer o.state o.draft

abbrev Item3 : List ℕ → Type 0 → Made3 → Type 0
Item3 src P o = SitedItem src P o.answer o.state o.draft

-- a production under way, where the reading stands in the source
record Open (src : List ℕ) (P : Type 0) (s : State) (d : Production) : Type 0 where
  here : s.at ≤ length src
  begins : d.from ≤ s.at
  span : Passed src d.from d.to

module _ (src : List ℕ) (P : Type 0) (s : State) (d : Production) (x : Open src P s d) where
  -- where the reading moves on
  open_at : (i : ℕ) → s.at ≤ i → i ≤ length src → Open src P (with_at s i) d
  open_at i h k = let b = x.begins in record { here = k; begins = omega arith; span = x.span }

  -- and where an item is taken in
  open_to : (end : ℕ) → s.at ≤ end → end ≤ length src → Passed src d.from end
  open_to end h k = let b = x.begins in record { onward = omega arith; inside = k }

  -- a refusal keeps the production
  shut : (f : Refusal) → Fatal src P f → SitedItem src P (Refused f) s d
  shut f y = record { read = record { here = x.here; stops = y }; begins = x.begins; span = x.span }

  -- spacing behind a step that stayed where it stood
  behind_in : (e : Production) (end : ℕ) (a : Answer) (u : State) → e.from ≡ d.from → e.to ≡ end → u.at ≡ s.at → s.at ≤ end → end ≤ length src → Sited src P a u → let o = pass_on src false end a u in SitedItem src P o.answer o.state e
  behind_in e end a u m n q h k y =
      let b = x.begins in
      let f = (pass_onward src end u a k).forth (omega arith) in
      record { read = pass_in src P false end k y; begins = omega arith; span = record { onward = omega arith; inside = omega arith } }

-- a quoted symbol's two rows
token_symbol_in : (src : List ℕ) (P : Type 0) (s : State) → s.at ≤ length src → (from to : ℕ) (t1 t9 : List ℕ) → Passed src from to → let o = token_symbol src s from to t1 t9 in Sited src P o.answer o.state × (o.state.at ≡ s.at)
unfolding token_symbol
token_symbol_in src P s h from to t1 t9 p = let e = enter_step src s from to false t1 in go e.answer e (enter_in src P s h from to false t1 p) (enter_stays src s from to false t1)
  where
    go : (a : Answer) (o : Out1) → Sited src P a o.state → o.state.at ≡ s.at → let z = symbol_entered a o from to t9 in Sited src P z.answer z.state × (z.state.at ≡ s.at)
    go Going o y e = (push_in src P o.state y.here symbols (symbol_cells 2 from to) t9 (omega arith) p, push_stays o.state symbols (symbol_cells 2 from to) t9 ∙ e)
    go Done o y e = (y, e)
    go (Refused f) o y e = (y, e)

module _ (src : List ℕ) (P : Type 0) (s : State) (d : Production) (x : Open src P s d) where
  -- a quoted symbol,
  quoted_rows_in : (from to end : ℕ) (t1 t9 : List ℕ) → Passed src from to → s.at ≤ end → end ≤ length src → Item2 src P (quoted_rows src s d from to end t1 t9)
  unfolding quoted_rows
  quoted_rows_in from to end t1 t9 p h k = go (gap_at s.kind true src end) (gap_in s.kind true src P end k)
    where
      go : (g : Result (ℕ × ℕ) Refusal) → GapIn src P end g → Item2 src P (quoted_gap g src s d from to end t1 t9)
      go (Ok (i, n)) y =
          let l = y.onward in
          let b = x.begins in
          let z = token_symbol_in src P (with_at s i) y.inside from to t1 t9 p in
          let e = z.1 in
          record { read = z.0; begins = omega arith; span = open_to src P s d x end h k }
      go (Err f) y = shut src P s d x f y

  quoted_in : (t1 t9 : List ℕ) → Item2 src P (quoted_item src s d t1 t9)
  unfolding quoted_item
  quoted_in t1 t9 = go (token_at src s.at) (token_placed src s.at (token_at src s.at) refl).1
    where
      go : (r : Result (Place × ℕ × Bool) ℕ) → Tokened src s.at r → Item2 src P (quoted_found r src s d t1 t9)
      go (Ok (p, end, q)) y =
          let a = y.0 in
          let b = y.1 in
          let c = y.2 in
          let e = y.3 in
          quoted_rows_in p.from p.to end t1 t9 (record { onward = omega arith; inside = omega arith }) (omega arith) e
      go (Err k) y = let h = x.here in shut src P s d x _ (omega arith)

  -- the name of a `%prec`,
  prec_name_in : (t1 : List ℕ) → Item1 src P (prec_name src s d t1)
  unfolding prec_name
  prec_name_in t1 = go (token_at src s.at) (token_placed src s.at (token_at src s.at) refl).1
    where
      go : (r : Result (Place × ℕ × Bool) ℕ) → Tokened src s.at r → Item1 src P (prec_found r src s d t1)
      go (Ok (p, end, q)) y =
          let a = y.0 in
          let b = y.1 in
          let c = y.2 in
          let e = y.3 in
          let o = enter_step src s p.from p.to false t1 in
          behind_in src P s d x (with_to (with_prec d p.from p.to) end) end o.answer o.state refl refl (enter_stays src s p.from p.to false t1) (omega arith) e (enter_in src P s x.here p.from p.to false t1 (record { onward = omega arith; inside = omega arith }))
      go (Err k) y = let h = x.here in shut src P s d x _ (omega arith)

  -- what stands behind an action,
  after_action_in : (end : ℕ) → s.at ≤ end → end ≤ length src → Item0 src P (after_action src s d end)
  unfolding after_action
  after_action_in end h k = go (gap_at s.kind true src end) (gap_in s.kind true src P end k)
    where
      go : (g : Result (ℕ × ℕ) Refusal) → GapIn src P end g → Item0 src P (action_gap g src s d)
      go (Ok (i, n)) y =
          let l = y.onward in
          let z = open_at src P s d x i (omega arith) y.inside in
          on_test (Item0 src P) (may_end src i) _ _
          (λ e. record { read = record { here = y.inside; stops = tt }; begins = z.begins; span = x.span })
          (λ e. shut src P (with_at s i) d z _ y.inside)
      go (Err f) y = shut src P s d x f y

  -- `%empty`, which begins at `first`,
  empty_in : (first : ℕ) → first ≤ length src → Item0 src P (empty_item src s d first)
  unfolding empty_item
  empty_in first h = go (gap_at s.kind true src s.at) (gap_in s.kind true src P s.at x.here)
    where
      go : (g : Result (ℕ × ℕ) Refusal) → GapIn src P s.at g → Item0 src P (empty_gap g src s d first)
      go (Ok (k, n)) y =
          let l = y.onward in
          let b = x.begins in
          on_test (Item0 src P) (eqb (count s symbols) d.first && may_follow src k) _ _
          (λ e. record { read = record { here = y.inside; stops = tt }; begins = omega arith; span = open_to src P s d x s.at (omega arith) x.here })
          (λ e. shut src P s d x _ h)
      go (Err f) y = shut src P s d x f y

  -- a bare symbol,
  bare_in : (t1 t9 : List ℕ) → Item1 src P (bare_item src s d t1 t9)
  unfolding bare_item
  bare_in t1 t9 = go (token_at src s.at) (token_placed src s.at (token_at src s.at) refl).1
    where
      go : (r : Result (Place × ℕ × Bool) ℕ) → Tokened src s.at r → Item1 src P (bare_found r src s d t1 t9)
      go (Ok (p, end, q)) y =
          let a = y.0 in
          let b = y.1 in
          let c = y.2 in
          let e = y.3 in
          let row = symbol_cells (symbol_kind src (count s tokens) t1 p.from p.to) p.from p.to in
          let o = push_row s symbols row t9 in
          behind_in src P s d x (with_to d end) end o.answer o.state refl refl (push_stays s symbols row t9) (omega arith) e (push_in src P s x.here symbols row t9 (omega arith) (record { onward = omega arith; inside = omega arith }))
      go (Err k) y = let h = x.here in shut src P s d x _ (omega arith)

  -- and the end of a production: 42 of table 8 gives its place.
  production_in : (t8 : List ℕ) → Sited1 src P (end_production s d t8)
  unfolding end_production push_production
  production_in t8 = push_in src P s x.here productions (production_cells (with_last d (count s symbols))) t8 (omega arith) x.span

  production_stays_lem : (t8 : List ℕ) → (end_production s d t8).state.at ≡ s.at
  unfolding end_production push_production
  production_stays_lem t8 = push_stays s productions (production_cells (with_last d (count s symbols))) t8

  bar_in : (t8 : List ℕ) → Item1 src P (bar_item src s d t8)
  unfolding bar_item
  bar_in t8 =
      let z = pass_in src P false s.at x.here (production_in t8) in
      record { read = z; begins = omega arith; span = record { onward = omega arith; inside = z.here } }

  end_in : (t8 : List ℕ) → Item1 src P (end_item s d t8)
  unfolding end_item
  end_in t8 = let y = production_in t8 in let e = production_stays_lem t8 in let b = x.begins in record { read = record { here = y.here; stops = go (end_production s d t8).answer y.stops }; begins = omega arith; span = x.span }
    where
      go : (a : Answer) → Stops src P a → Stops src P (rule_end a)
      go Going y = tt
      go Done y = tt
      go (Refused f) y = y

-- the steps above from another state, or on a production that took their part in
module _ (src : List ℕ) (P : Type 0) (s : State) (d : Production) (x : Open src P s d) where
  -- `%prec`, behind its keyword
  prec_in : (t1 : List ℕ) → Item1 src P (prec_item src s d t1)
  unfolding prec_item
  prec_in t1 = go (gap_at s.kind true src s.at) (gap_in s.kind true src P s.at x.here)
    where
      go : (g : Result (ℕ × ℕ) Refusal) → GapIn src P s.at g → Item1 src P (prec_gap g src s d t1)
      go (Ok (i, n)) y = prec_name_in src P (with_at s i) d (open_at src P s d x i y.onward y.inside) t1
      go (Err f) y = shut src P s d x f y

  -- an action
  action_in : s.at < length src → Item0 src P (action_item src s d)
  unfolding action_item
  action_in h = go (action_at src s.at) (action_placed src s.at h (action_at src s.at) refl).1
    where
      go : (r : Result (ℕ × ℕ × Place × Place) ℕ) → Acted src s.at r → Item0 src P (action_found r src s d)
      go (Ok (end, n, p, q)) y =
          let a = y.0 in
          after_action_in src P s _ (record { here = x.here; begins = x.begins; span = open_to src P s d x s.at (omega arith) x.here }) end (omega arith) y.1
      go (Err i) y = shut src P s d x _ (omega arith)

module _ (src : List ℕ) (P : Type 0) (s : State) (d : Production) (x : Open src P s d) (t1 t8 t9 : List ℕ) where
  by_sort_lem : (k : Sort) (j : ℕ) → s.at ≤ j → j ≤ length src → ((k ≡ BareSort → ⊥) → s.at < j) → Item3 src P (by_sort k src s (with_at s j) d t1 t8 t9)
  by_sort_lem BarSort j h l b = bar_in src P (with_at s j) d (open_at src P s d x j h l) t8
  by_sort_lem EndSort j h l b = end_in src P (with_at s j) d (open_at src P s d x j h l) t8
  by_sort_lem QuotedSort j h l b = quoted_in src P s d x t1 t9
  by_sort_lem PrecSort j h l b = prec_in src P (with_at s j) d (open_at src P s d x j h l) t1
  by_sort_lem ActionSort j h l b = let y = b (λ z. let y : ◌≡◌ {A = ℕ} 0 1 = cc in omega arith) in action_in src P s d x (omega arith)
  by_sort_lem EmptySort j h l b = empty_in src P (with_at s j) d (open_at src P s d x j h l) s.at x.here
  by_sort_lem BareSort j h l b = bare_in src P s d x t1 t9

  -- one item
  item_in : Item3 src P (item_step src s d t1 t8 t9)
  unfolding item_step
  item_in = let y = spots src s.at x.here in by_sort_lem (sort_at src s.at).sort (sort_at src s.at).end y.onward y.inside y.beyond

turn_in : (src : List ℕ) (P : Type 0) (o : Made3) → Item3 src P o → Either (Item3 src P) (Item3 src P) (item_turn src o)
unfolding item_turn
turn_in src P o x = go (leb (length src) o.state.at)
  where
    next : (a : Answer) (p : Made3) → Item3 src P p → Either (Item3 src P) (Item3 src P) (item_next a p)
    next Going p y = y
    next Done p y = record { read = record { here = y.read.here; stops = tt }; begins = y.begins; span = y.span }
    next (Refused f) p y = y

    go : (b : Bool) → Either (Item3 src P) (Item3 src P) (item_or_end b o (item_step src o.state o.draft o.t1 o.t8 o.t9))
    go true = record { read = record { here = x.read.here; stops = x.read.here }; begins = x.begins; span = x.span }
    go false =
        let p = item_step src o.state o.draft o.t1 o.t8 o.t9 in
        next p.answer p (item_in src P o.state o.draft (record { here = x.read.here; begins = x.begins; span = x.span }) o.t1 o.t8 o.t9)

-- The items of a rule, from where its first production begins.
pub items_in : (src : List ℕ) (P : Type 0) (s : State) (row first : ℕ) (t1 t8 t9 : List ℕ) → s.at ≤ length src → SitedItems src P (item_list src s (begun row s.at first) t1 t8 t9)
unfolding item_list
items_in src P s row first t1 t8 t9 h =
    (turns_keep (Item3 src P) (item_turn src) (turn_in src P) (suc (length src)) (record { answer = Going; state = s; draft = begun row s.at first; t1 = t1; t8 = t8; t9 = t9 })
    (record { read = record { here = h; stops = tt }; begins = omega arith; span = record { onward = omega arith; inside = h } })).read
