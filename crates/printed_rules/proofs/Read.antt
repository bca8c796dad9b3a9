-- What a reading took for the items of a rule are items that stand in its source. Assumes nothing.
use Rattle.std.specs.Prelude.{Result, Ok, Err}
use Prim.Native.Nat.{ℕ, zero, suc, ◌-◌, ◌<◌}
use mathlib.Core.Path.{◌≡◌, refl, sym, ◌∙◌, ap}
use mathlib.Core.List.{List, [], ◌∷◌}
use mathlib.Core.Bool.{Bool, true, false, ◌&&◌, and-eq-true_iff}
use native.Mathlib.Omega.{arith}
use lib.Dec.{leb, eqb}
use lib.ListN.{length}
use lib.Seq.{slice}
use borrow.Author.Tests.{leb-false}
use Rattle.scan.specs.declared.Place.{Place}
use Rattle.scan.specs.Loop.{more, turns}
use Rattle.scan.proofs.Bytes.{told, on_test}
use Rattle.words.specs.Words.{token_at}
use Rattle.texts.specs.Action.{action_at}
use Rattle.tables.specs.Layout.{tokens, symbols, productions}
use Rattle.tables.specs.Table.{Added, Inserted, flag}
use Rattle.tables.proofs.Cases.{add_cases, enter_cases}
use Rattle.grammar.specs.declared.State.{State}
use Rattle.grammar.specs.declared.Answer.{Answer}
use Rattle.grammar.specs.declared.Answer.TheVariants.{Going, Done, Refused}
use Rattle.grammar.specs.declared.Refusal.{Refusal}
use Rattle.grammar.specs.Cells.{token_cells, symbol_cells}
use Rattle.grammar.specs.State.{Out1, count, with_at, gap_at, push_row, pushed, enter_step, entered, past, past_gap, pass_on}
use Rattle.grammar.proofs.SameKind.{push_kind, enter_kind}
use Rattle.grammar.proofs.Touch.{refused_going}
use Rattle.productions.specs.declared.Production.{Production}
use Rattle.productions.specs.Cells.{push_production}
use Rattle.items.specs.declared.Sort.{Sort}
use Rattle.items.specs.declared.Sort.TheVariants.{BarSort, EndSort, QuotedSort, PrecSort, ActionSort, EmptySort, BareSort}
use Rattle.items.specs.Items.{Made0, Made3, sort_at, symbol_entered, token_symbol, quoted_gap, quoted_rows, quoted_found, quoted_item, prec_found, prec_name, prec_gap, prec_item, may_end, action_gap, after_action, action_found, action_item, may_follow, empty_gap, empty_item, symbol_kind, bare_found, bare_item, end_production, bar_item, rule_end, end_item, by_sort, item_step, item_next, item_or_end, item_turn, item_list}
use Rattle.alike.specs.Stands.{TokenAt}
use Rattle.alike.proofs.Again.{turns_more, turns_stop}
use Rattle.printed_rules.specs.Items.{Item, action, bar, Follows, Item1, quoted1, bare1, named1, empty1, action1, bar1, Items1, end1, item1}
use Rattle.printed_rules.proofs.Onward.{item_forth}
use Rattle.printed_rules.proofs.Alike.{end_kind, turn_is}

-- A step of a rule's items that went on took one that stands there, and passed the spacing behind it; one that says that the rule is done took its `;`.
pub data Step1 (kind : ℕ) (src : List ℕ) (i : ℕ) : Answer → State → Type 0 where
  went : {u : State} {e m : ℕ} {x : Item} → u.kind ≡ kind → Item1 kind src i e x → gap_at kind true src e ≡ Ok (u.at, m) → Follows src u.at x → Step1 kind src i Going u
  over : {u : State} → u.kind ≡ kind → sort_at src i ≡ record { sort = EndSort; end = u.at } → Step1 kind src i Done u
  halted : {f : Refusal} {u : State} → Step1 kind src i (Refused f) u

-- a step that adds a row goes on from where it stood, or is refused
pub data Opens (i : ℕ) : Answer → State → Type 0 where
  goes : {u : State} → u.at ≡ i → Opens i Going u
  halts : {f : Refusal} {u : State} → Opens i (Refused f) u

pub push_opens : (s : State) (k : ℕ) (row t : List ℕ) → Opens s.at (push_row s k row t).answer (push_row s k row t).state
unfolding push_row
push_opens s k row t = add_cases (λ (o : Added). Opens s.at (pushed o.ok s k row o.cells).answer (pushed o.ok s k row o.cells).state) (count s k) row t (λ h l. goes refl) (λ f. halts)

enter_opens : (src : List ℕ) (s : State) (a b : ℕ) (d : Bool) (t : List ℕ) → Opens s.at (enter_step src s a b d t).answer (enter_step src s a b d t).state
unfolding enter_step
enter_opens src s a b d t =
    enter_cases (λ (x : Inserted). Opens s.at (entered x.entered s (token_cells a b (flag d)) x.cells).answer (entered x.entered s (token_cells a b (flag d)) x.cells).state) src (count s tokens) a b d t
    (λ r l h. goes refl) (λ n r l. goes refl) (λ n f. halts)

pub end_opens : (s : State) (d : Production) (t8 : List ℕ) → Opens s.at (end_production s d t8).answer (end_production s d t8).state
unfolding end_production push_production
end_opens s d t8 = push_opens s productions _ t8

module _ (src : List ℕ) (s : State) (d : Production) (t1 t8 t9 : List ℕ) where
  -- an item with the spacing behind a step
  passed : (i e : ℕ) (x : Item) → Item1 s.kind src i e x → ((k : ℕ) → Follows src k x) → (j : ℕ) (a : Answer) (u : State) → u.kind ≡ s.kind → Opens j a u
      → Step1 s.kind src i (pass_on src false e a u).answer (pass_on src false e a u).state
  unfolding past_gap
  passed i e x w f j _ u of (goes h) = go (gap_at u.kind true src e) (ap (λ (v : ℕ). gap_at v true src e) (sym of))
    where
      go : (g : Result (ℕ × ℕ) Refusal) → gap_at s.kind true src e ≡ g → Step1 s.kind src i (past false g u).answer (past false g u).state
      go (Ok (k, n)) q = went of w q (f k)
      go (Err r) q = halted
  passed i e x w f j _ u of halts = halted

  symbol_opens : (v : State) (a b : ℕ) → v.kind ≡ s.kind → let o = token_symbol src v a b t1 t9 in Opens v.at o.answer o.state × (o.state.kind ≡ s.kind)
  unfolding token_symbol
  symbol_opens v a b of = go (enter_step src v a b false t1).answer (enter_opens src v a b false t1)
    where
      p : Out1
      p = enter_step src v a b false t1

      go : (w : Answer) → Opens v.at w p.state → Opens v.at (symbol_entered w p a b t9).answer (symbol_entered w p a b t9).state × ((symbol_entered w p a b t9).state.kind ≡ s.kind)
      go _ (goes h) = (rw h at (push_opens p.state symbols (symbol_cells 2 a b) t9), push_kind p.state symbols (symbol_cells 2 a b) t9 ∙ enter_kind v src a b false t1 ∙ of)
      go _ halts = (halts, enter_kind v src a b false t1 ∙ of)

  word : (i e : ℕ) (p : Place) (q : Bool) → token_at src i ≡ Ok (p, e, q) → TokenAt src i e (slice i e src)
  word i e p q h = record { place = p; quoted = q; is = h; spelled = refl }

  -- a quoted symbol,
  quoted_read : (a : ℕ) → sort_at src s.at ≡ record { sort = QuotedSort; end = a } → let o = quoted_item src s d t1 t9 in Step1 s.kind src s.at o.answer o.state
  unfolding quoted_item quoted_rows
  quoted_read a h = go (token_at src s.at) refl
    where
      gap : (p : Place) (e : ℕ) (q : Bool) → token_at src s.at ≡ Ok (p, e, q) → (g : Result (ℕ × ℕ) Refusal) → gap_at s.kind true src e ≡ g
          → let o = quoted_gap g src s d p.from p.to e t1 t9 in Step1 s.kind src s.at o.answer o.state
      gap p e q t (Ok (k, n)) z = let x = symbol_opens (with_at s k) p.from p.to refl in on _ _ x.0 x.1
        where
          on : (b : Answer) (u : State) → Opens k b u → u.kind ≡ s.kind → Step1 s.kind src s.at b u
          on _ u (goes w) of = went {u = u} {m = n} of (quoted1 h (word s.at e p q t)) (rw w z) tt
          on _ u halts of = halted
      gap p e q t (Err f) z = halted

      go : (t : Result (Place × ℕ × Bool) ℕ) → token_at src s.at ≡ t → let o = quoted_found t src s d t1 t9 in Step1 s.kind src s.at o.answer o.state
      go (Ok (p, e, q)) t = gap p e q t (gap_at s.kind true src e) refl
      go (Err k) t = halted

  -- a bare one,
  bare_read : (a : ℕ) → sort_at src s.at ≡ record { sort = BareSort; end = a } → let o = bare_item src s d t1 t9 in Step1 s.kind src s.at o.answer o.state
  unfolding bare_item
  bare_read a h = go (token_at src s.at) refl
    where
      go : (t : Result (Place × ℕ × Bool) ℕ) → token_at src s.at ≡ t → let o = bare_found t src s d t1 t9 in Step1 s.kind src s.at o.answer o.state
      go (Ok (p, e, q)) t =
          let row = symbol_cells (symbol_kind src (count s tokens) t1 p.from p.to) p.from p.to in
          passed s.at e _ (bare1 h (word s.at e p q t)) (λ k. tt) s.at (push_row s symbols row t9).answer (push_row s symbols row t9).state (push_kind s symbols row t9) (push_opens s symbols row t9)
      go (Err k) t = halted

  -- a `%prec`,
  prec_read : (a : ℕ) → sort_at src s.at ≡ record { sort = PrecSort; end = a } → let o = prec_item src (with_at s a) d t1 in Step1 s.kind src s.at o.answer o.state
  unfolding prec_item prec_name
  prec_read a h = gap (gap_at s.kind true src a) refl
    where
      named_read : (c m : ℕ) → gap_at s.kind true src a ≡ Ok (c, m) → (t : Result (Place × ℕ × Bool) ℕ) → token_at src c ≡ t → let o = prec_found t src (with_at s c) d t1 in Step1 s.kind src s.at o.answer o.state
      named_read c m g (Ok (p, e, q)) t =
          let o = enter_step src (with_at s c) p.from p.to false t1 in
          passed s.at e _ (named1 h g (word c e p q t)) (λ k. tt) c o.answer o.state (enter_kind (with_at s c) src p.from p.to false t1) (enter_opens src (with_at s c) p.from p.to false t1)
      named_read c m g (Err k) t = halted

      gap : (g : Result (ℕ × ℕ) Refusal) → gap_at s.kind true src a ≡ g → let o = prec_gap g src (with_at s a) d t1 in Step1 s.kind src s.at o.answer o.state
      gap (Ok (c, m)) g = named_read c m g (token_at src c) refl
      gap (Err f) g = halted

  -- an action,
  action_read : (a : ℕ) → sort_at src s.at ≡ record { sort = ActionSort; end = a } → let o = action_item src s d in Step1 s.kind src s.at o.answer o.state
  unfolding action_item after_action
  action_read a h = go (action_at src s.at) refl
    where
      stands : (e n : ℕ) (p q : Place) → action_at src s.at ≡ Ok (e, n, p, q) → Item1 s.kind src s.at e (action (slice s.at e src))
      stands e n p q t = action1 h t refl

      gap : (e n : ℕ) (p q : Place) → action_at src s.at ≡ Ok (e, n, p, q) → (m : Production) (g : Result (ℕ × ℕ) Refusal) → gap_at s.kind true src e ≡ g → let o = action_gap g src s m in Step1 s.kind src s.at o.answer o.state
      gap e n p q t m (Ok (k, l)) g =
          on_test (λ (o : Made0). Step1 s.kind src s.at o.answer o.state) (may_end src k) _ _ (λ b. went refl (stands e n p q t) g b) (λ b. halted)
      gap e n p q t m (Err f) g = halted

      go : (r : Result (ℕ × ℕ × Place × Place) ℕ) → action_at src s.at ≡ r → let o = action_found r src s d in Step1 s.kind src s.at o.answer o.state
      go (Ok (e, n, p, q)) t = gap e n p q t _ (gap_at s.kind true src e) refl
      go (Err i) t = halted

  -- an `%empty`,
  empty_read : (a : ℕ) → sort_at src s.at ≡ record { sort = EmptySort; end = a } → let o = empty_item src (with_at s a) d s.at in Step1 s.kind src s.at o.answer o.state
  unfolding empty_item
  empty_read a h = gap (gap_at s.kind true src a) refl
    where
      gap : (g : Result (ℕ × ℕ) Refusal) → gap_at s.kind true src a ≡ g → let o = empty_gap g src (with_at s a) d s.at in Step1 s.kind src s.at o.answer o.state
      gap (Ok (k, n)) g =
          on_test (λ (o : Made0). Step1 s.kind src s.at o.answer o.state) (eqb (count s symbols) d.first && may_follow src k) _ _
          (λ b. went refl (empty1 h) g ((and-eq-true_iff (eqb (count s symbols) d.first) (may_follow src k)).0 b).1) (λ b. halted)
      gap (Err f) g = halted

  -- a `|`,
  bar_read : (a : ℕ) → sort_at src s.at ≡ record { sort = BarSort; end = a } → let o = bar_item src (with_at s a) d t8 in Step1 s.kind src s.at o.answer o.state
  unfolding bar_item
  bar_read a h =
      let o = end_production (with_at s a) d t8 in
      passed s.at a bar (bar1 h) (λ k. tt) a o.answer o.state (end_kind (with_at s a) d t8) (end_opens (with_at s a) d t8)

  -- or the `;`.
  end_read : (a : ℕ) → sort_at src s.at ≡ record { sort = EndSort; end = a } → let o = end_item (with_at s a) d t8 in Step1 s.kind src s.at o.answer o.state
  unfolding end_item
  end_read a h = go (end_production (with_at s a) d t8).answer (end_production (with_at s a) d t8).state (end_opens (with_at s a) d t8) (end_kind (with_at s a) d t8)
    where
      go : (b : Answer) (u : State) → Opens a b u → u.kind ≡ s.kind → Step1 s.kind src s.at (rule_end b) u
      go _ u (goes w) of = over {u = u} of (rw w h)
      go _ u halts of = halted

  pub step_read : let o = item_step src s d t1 t8 t9 in Step1 s.kind src s.at o.answer o.state
  unfolding item_step
  step_read = go (sort_at src s.at).sort (sort_at src s.at).end refl
    where
      go : (x : Sort) (a : ℕ) → sort_at src s.at ≡ record { sort = x; end = a } → let o = by_sort x src s (with_at s a) d t1 t8 t9 in Step1 s.kind src s.at o.answer o.state
      go BarSort a h = bar_read a h
      go EndSort a h = end_read a h
      go QuotedSort a h = quoted_read a h
      go PrecSort a h = prec_read a h
      go ActionSort a h = action_read a h
      go EmptySort a h = empty_read a h
      go BareSort a h = bare_read a h

-- where the source ends, no item is taken
turn_ends : (src : List ℕ) (o : Made3) → leb (length src) o.state.at ≡ true → item_turn src o ≡ item_or_end true o (item_step src o.state o.draft o.t1 o.t8 o.t9)
unfolding item_turn
turn_ends src o e = rw e

-- The items of a rule that were read stand in the source, up to the `;`.
pub record ItemsRead (kind : ℕ) (src : List ℕ) (i : ℕ) (u : State) : Type 0 where
  pub of : u.kind ≡ kind
  pub items : List Item
  pub stand : Items1 kind src i u.at items

items_read : (src : List ℕ) (n : ℕ) (o : Made3) → length src - o.state.at < n → (turns n (item_turn src) o).answer ≡ Going
    → ItemsRead o.state.kind src o.state.at (turns n (item_turn src) o).state
items_read src zero o h r = absurd (omega arith)
items_read src (suc n) o h r = go (leb (length src) o.state.at) refl (items_read src n (item_step src o.state o.draft o.t1 o.t8 o.t9))
  where
    next : Made3
    next = item_step src o.state o.draft o.t1 o.t8 o.t9

    After : Type 0
    After = length src - next.state.at < n → (turns n (item_turn src) next).answer ≡ Going → ItemsRead next.state.kind src next.state.at (turns n (item_turn src) next).state

    by : After → (a : Answer) → next.answer ≡ a → o.state.at < length src → Step1 o.state.kind src o.state.at a next.state → ItemsRead o.state.kind src o.state.at (turns (suc n) (item_turn src) o).state
    by again _ e low (went {e = f} {m = m} {x = x} of w g y) =
        let t : item_turn src o ≡ more next = turn_is src o low ∙ ap (λ (a : Answer). item_next a next) e in
        let z = item_forth o.state.kind src o.state.at f next.state.at m x w g in
        let i = again (omega arith) (rw (turns_more (item_turn src) n o next t) at r) in
        rw (turns_more (item_turn src) n o next t) (record { of = i.of ∙ of; items = x ∷ i.items; stand = item1 w g y (told (λ (k : ℕ). Items1 k src next.state.at (turns n (item_turn src) next).state.at i.items) of i.stand) })
    by again _ e low (over of s) =
        let t = turn_is src o low ∙ ap (λ (a : Answer). item_next a next) e in
        rw (turns_stop (item_turn src) n o _ t) (record { of = of; items = []; stand = end1 s })
    by again _ e low halted =
        let t = turn_is src o low ∙ ap (λ (a : Answer). item_next a next) e in
        absurd (refused_going _ (sym e ∙ (rw (turns_stop (item_turn src) n o next t) at r)))

    go : (b : Bool) → leb (length src) o.state.at ≡ b → After → ItemsRead o.state.kind src o.state.at (turns (suc n) (item_turn src) o).state
    go true e again = absurd (refused_going _ (rw (turns_stop (item_turn src) n o _ (turn_ends src o e)) at r))
    go false e again = by again next.answer refl (leb-false _ _ e) (step_read src o.state o.draft o.t1 o.t8 o.t9)

-- all of a rule's items, from where its first production was drafted
pub list_read : (src : List ℕ) (s : State) (d : Production) (t1 t8 t9 : List ℕ) → (item_list src s d t1 t8 t9).answer ≡ Going → ItemsRead s.kind src s.at (item_list src s d t1 t8 t9).state
unfolding item_list
list_read src s d t1 t8 t9 r = items_read src (suc (length src)) (record { answer = Going; state = s; draft = d; t1 = t1; t8 = t8; t9 = t9 }) (omega arith) r
