-- The items of a rule leave the count of every table but 1, 8 and 9. Assumes nothing.
use Rattle.std.specs.Prelude.{Result, Ok, Err}
use Prim.Native.Nat.{ℕ, suc}
use mathlib.Core.Path.{◌≡◌, refl, ap}
use mathlib.Core.List.{List}
use mathlib.Core.Bool.{Bool, true, false, ◌&&◌}
use native.Mathlib.Omega.{arith}
use lib.Dec.{leb, eqb}
use lib.ListN.{length}
use Rattle.scan.proofs.Loop.{Either, turns_keep}
use Rattle.scan.specs.declared.Place.{Place}
use Rattle.words.specs.Words.{token_at}
use Rattle.texts.specs.Action.{action_at}
use Rattle.tables.specs.Layout.{tokens, productions, symbols}
use Rattle.grammar.specs.declared.Answer.{Answer}
use Rattle.grammar.specs.declared.Answer.TheVariants.{Going, Done, Refused}
use Rattle.grammar.specs.declared.Counts.{Counts}
use Rattle.grammar.specs.declared.State.{State}
use Rattle.grammar.specs.declared.Refusal.{Refusal}
use Rattle.grammar.specs.Cells.{symbol_cells}
use Rattle.grammar.specs.declared.Step.{Step}
use Rattle.grammar.specs.State.{Tokens, count, with_at, gap_at, push_row, enter_step}
use Rattle.grammar.proofs.Spares.{Spares, spares_none, spares_on, spares_push, spares_enter, spares_behind, spared}
use Rattle.productions.specs.declared.Production.{Production}
use Rattle.productions.specs.Cells.{push_production, production_cells}
use Rattle.items.specs.declared.Drafted.{Drafted}
use Rattle.items.specs.declared.Sort.{Sort}
use Rattle.items.specs.declared.Sort.TheVariants.{BarSort, EndSort, QuotedSort, PrecSort, ActionSort, EmptySort, BareSort}
use Rattle.items.specs.Items.{Made0, Made1, Made3, with_last, sort_at, symbol_entered, token_symbol, quoted_gap, quoted_rows, quoted_found, quoted_item, prec_found, prec_name, prec_gap, prec_item, may_end, action_gap, after_action, action_found, action_item, may_follow, empty_gap, empty_item, symbol_kind, bare_found, bare_item, end_production, bar_item, end_item, by_sort, item_step, item_next, item_or_end, item_turn, item_list}

-- an action and `%empty` leave every count
module _ (k : ℕ) (src : List ℕ) (s : State) where
  after : (d : Production) (end : ℕ) → Spares k s.counts (after_action src s d end).state.counts
  unfolding after_action
  after d end = go (gap_at s.kind true src end)
    where
      by : (i : ℕ) (b : Bool) → may_end src i ≡ b → Spares k s.counts (action_gap (Ok (i, 0)) src s d).state.counts
      by i true e = rw (e, action_gap) (spares_none k s.counts)
      by i false e = rw (e, action_gap) (spares_none k s.counts)

      go : (g : Result (ℕ × ℕ) Refusal) → Spares k s.counts (action_gap g src s d).state.counts
      go (Ok (i, n)) = by i (may_end src i) refl
      go (Err f) = spares_none k s.counts

  pub action_spares : (d : Production) → Spares k s.counts (action_item src s d).state.counts
  unfolding action_item
  action_spares d = go (action_at src s.at)
    where
      go : (a : Result (ℕ × ℕ × Place × Place) ℕ) → Spares k s.counts (action_found a src s d).state.counts
      go (Ok (end, n, p, q)) = after _ end
      go (Err i) = spares_none k s.counts

  pub empty_spares : (d : Production) (first : ℕ) → Spares k s.counts (empty_item src s d first).state.counts
  unfolding empty_item
  empty_spares d first = go (gap_at s.kind true src s.at)
    where
      by : (i : ℕ) (b : Bool) → (eqb (count s symbols) d.first && may_follow src i) ≡ b → Spares k s.counts (empty_gap (Ok (i, 0)) src s d first).state.counts
      by i true e = rw (e, empty_gap) (spares_none k s.counts)
      by i false e = rw (e, empty_gap) (spares_none k s.counts)

      go : (g : Result (ℕ × ℕ) Refusal) → Spares k s.counts (empty_gap g src s d first).state.counts
      go (Ok (i, n)) = by i (eqb (count s symbols) d.first && may_follow src i) refl
      go (Err f) = spares_none k s.counts

-- the end of a production leaves every count but that of table 8
module _ (k : ℕ) (eighth : productions ≡ k → ⊥) where
  ended : (s : State) (d : Production) (t8 : List ℕ) → Spares k s.counts (end_production s d t8).state.counts
  unfolding end_production push_production
  ended s d t8 = spares_push k s productions (production_cells (with_last d (count s symbols))) t8 eighth

  pub bar_spares : (src : List ℕ) (s : State) (d : Production) (t8 : List ℕ) → Spares k s.counts (bar_item src s d t8).state.counts
  unfolding bar_item
  bar_spares src s d t8 = spares_behind k src false s.at (end_production s d t8).answer (end_production s d t8).state (ended s d t8)

  pub end_spares : (s : State) (d : Production) (t8 : List ℕ) → Spares k s.counts (end_item s d t8).state.counts
  unfolding end_item
  end_spares s d t8 = ended s d t8

-- a symbol that is bare leaves every count but that of table 9
module _ (k : ℕ) (ninth : symbols ≡ k → ⊥) (src : List ℕ) where
  pub bare_spares : (s : State) (d : Production) (t1 t9 : List ℕ) → Spares k s.counts (bare_item src s d t1 t9).state.counts
  unfolding bare_item
  bare_spares s d t1 t9 = go (token_at src s.at)
    where
      go : (x : Result (Place × ℕ × Bool) ℕ) → Spares k s.counts (bare_found x src s d t1 t9).state.counts
      go (Ok (p, end, q)) =
          let row = symbol_cells (symbol_kind src (count s tokens) t1 p.from p.to) p.from p.to in
          spares_behind k src false end (push_row s symbols row t9).answer (push_row s symbols row t9).state (spares_push k s symbols row t9 ninth)
      go (Err i) = spares_none k s.counts

  module _ (first : tokens ≡ k → ⊥) where
    token : (s : State) (from to : ℕ) (t1 t9 : List ℕ) → Spares k s.counts (token_symbol src s from to t1 t9).state.counts
    unfolding token_symbol
    token s from to t1 t9 = go (enter_step src s from to false t1).answer
      where
        e : Spares k s.counts (enter_step src s from to false t1).state.counts
        e = spares_enter k src s from to false t1 first

        go : (a : Answer) → Spares k s.counts (symbol_entered a (enter_step src s from to false t1) from to t9).state.counts
        go Going = spares_on e (spares_push k (enter_step src s from to false t1).state symbols (symbol_cells 2 from to) t9 ninth)
        go Done = e
        go (Refused f) = e

    rows : (s : State) (d : Production) (from to end : ℕ) (t1 t9 : List ℕ) → Spares k s.counts (quoted_rows src s d from to end t1 t9).state.counts
    unfolding quoted_rows
    rows s d from to end t1 t9 = go (gap_at s.kind true src end)
      where
        go : (g : Result (ℕ × ℕ) Refusal) → Spares k s.counts (quoted_gap g src s d from to end t1 t9).state.counts
        go (Ok (i, n)) = token (with_at s i) from to t1 t9
        go (Err f) = spares_none k s.counts

    quoted_spares : (s : State) (d : Production) (t1 t9 : List ℕ) → Spares k s.counts (quoted_item src s d t1 t9).state.counts
    unfolding quoted_item
    quoted_spares s d t1 t9 = go (token_at src s.at)
      where
        go : (x : Result (Place × ℕ × Bool) ℕ) → Spares k s.counts (quoted_found x src s d t1 t9).state.counts
        go (Ok (p, end, q)) = rows s d p.from p.to end t1 t9
        go (Err i) = spares_none k s.counts

    name : (s : State) (d : Production) (t1 : List ℕ) → Spares k s.counts (prec_name src s d t1).state.counts
    unfolding prec_name
    name s d t1 = go (token_at src s.at)
      where
        go : (x : Result (Place × ℕ × Bool) ℕ) → Spares k s.counts (prec_found x src s d t1).state.counts
        go (Ok (p, end, q)) =
            let o = enter_step src s p.from p.to false t1 in
            spares_behind k src false end o.answer o.state (spares_enter k src s p.from p.to false t1 first)
        go (Err i) = spares_none k s.counts

    prec_spares : (s : State) (d : Production) (t1 : List ℕ) → Spares k s.counts (prec_item src s d t1).state.counts
    unfolding prec_item
    prec_spares s d t1 = go (gap_at s.kind true src s.at)
      where
        go : (g : Result (ℕ × ℕ) Refusal) → Spares k s.counts (prec_gap g src s d t1).state.counts
        go (Ok (i, n)) = name (with_at s i) d t1
        go (Err f) = spares_none k s.counts

    -- all of a rule's items
    module _ (eighth : productions ≡ k → ⊥) where
      item : (s : State) (d : Production) (t1 t8 t9 : List ℕ) → Spares k s.counts (item_step src s d t1 t8 t9).state.counts
      unfolding item_step
      item s d t1 t8 t9 = go (sort_at src s.at).sort (sort_at src s.at).end
        where
          go : (q : Sort) (j : ℕ) → Spares k s.counts (by_sort q src s (with_at s j) d t1 t8 t9).state.counts
          go BarSort j = bar_spares k eighth src (with_at s j) d t8
          go EndSort j = end_spares k eighth (with_at s j) d t8
          go QuotedSort j = quoted_spares s d t1 t9
          go PrecSort j = prec_spares (with_at s j) d t1
          go ActionSort j = action_spares k src s d
          go EmptySort j = empty_spares k src (with_at s j) d s.at
          go BareSort j = bare_spares s d t1 t9

      abbrev Since : Counts → Made3 → Type 0
      Since c o = Spares k c o.state.counts

      turn : (c : Counts) (o : Made3) → Since c o → Either (Since c) (Since c) (item_turn src o)
      unfolding item_turn
      turn c o x = go (leb (length src) o.state.at)
        where
          next : (a : Answer) (p : Made3) → Since c p → Either (Since c) (Since c) (item_next a p)
          next Going p y = y
          next Done p y = y
          next (Refused f) p y = y

          go : (b : Bool) → Either (Since c) (Since c) (item_or_end b o (item_step src o.state o.draft o.t1 o.t8 o.t9))
          go true = x
          go false = next (item_step src o.state o.draft o.t1 o.t8 o.t9).answer (item_step src o.state o.draft o.t1 o.t8 o.t9) (spares_on x (item o.state o.draft o.t1 o.t8 o.t9))

      pub items_spares : (s : State) (d : Production) (t1 t8 t9 : List ℕ) → Spares k s.counts (item_list src s d t1 t8 t9).state.counts
      unfolding item_list
      items_spares s d t1 t8 t9 = turns_keep (Since s.counts) (item_turn src) (turn s.counts) (suc (length src)) _ (spares_none k s.counts)

-- so they leave the index of table 1 where they are not lent it
module _ (src : List ℕ) (n : State) (d : Production) (t1 ix : List ℕ) (a : Answer) (s : State) (e : Production) where
  pub by_action : ◌≡◌ {A = Made0} (record { answer = a; state = s; draft = e }) (action_item src n d) → Tokens src n.counts t1 ix → Tokens src s.counts t1 ix
  by_action q I = rw (ap (λ (o : Made0). o.state.counts) q) (spared (action_spares 0 src n d) I)

  pub by_empty : (first : ℕ) → ◌≡◌ {A = Made0} (record { answer = a; state = s; draft = e }) (empty_item src n d first) → Tokens src n.counts t1 ix → Tokens src s.counts t1 ix
  by_empty first q I = rw (ap (λ (o : Made0). o.state.counts) q) (spared (empty_spares 0 src n d first) I)

  module _ (t u : List ℕ) where
    pub by_bar : ◌≡◌ {A = Made1} (record { answer = a; state = s; draft = e; a = u }) (bar_item src n d t) → Tokens src n.counts t1 ix → Tokens src s.counts t1 ix
    by_bar q I = rw (ap (λ (o : Made1). o.state.counts) q) (spared (bar_spares 0 (λ z. omega arith) src n d t) I)

    pub by_end : ◌≡◌ {A = Made1} (record { answer = a; state = s; draft = e; a = u }) (end_item n d t) → Tokens src n.counts t1 ix → Tokens src s.counts t1 ix
    by_end q I = rw (ap (λ (o : Made1). o.state.counts) q) (spared (end_spares 0 (λ z. omega arith) n d t) I)

-- and a step carries it
pub carried_tracked : (r : Drafted) (q : Step) (d : Production) → r ≡ record { answer = q.answer; state = q.state; draft = d } → (src t ix : List ℕ) → Tokens src q.state.counts t ix → Tokens src r.state.counts t ix
carried_tracked r q d e src t ix I = rw e I
