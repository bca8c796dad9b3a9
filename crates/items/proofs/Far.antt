-- Each item of a production, and the items of a rule, keep soundness so far, whatever their answer. Assumes nothing.
use Rattle.std.specs.Prelude.{Option, Some, None, Result, Ok, Err}
use Prim.Native.Nat.{ℕ, suc, ◌+◌, ◌-◌, ◌≤◌, ◌<◌}
use mathlib.Core.Path.{◌≡◌, refl, sym, ◌∙◌}
use mathlib.Core.List.{List}
use mathlib.Core.Bool.{Bool, true, false, ◌&&◌}
use mathlib.Core.Logic.{inl, inr}
use native.Mathlib.Omega.{arith}
use lib.Dec.{leb, eqb}
use lib.ListN.{length, get_or}
use lib.Seq.{get_or-set_other}
use Rattle.scan.proofs.Bytes.{on_test}
use Rattle.scan.proofs.Loop.{Either, turns_keep, turns_end}
use Rattle.scan.specs.declared.Place.{Place}
use Rattle.words.specs.Words.{token_at, Tokened}
use Rattle.words.proofs.Words.{token_placed}
use Rattle.texts.specs.Action.{action_at, Acted}
use Rattle.texts.proofs.Laws.{action_placed}
use Rattle.tables.specs.Table.{Added, add_row, flag, enter_token, cell, find_name}
use Rattle.tables.specs.Layout.{tokens, rules, productions, symbols, declared, width}
use Rattle.tables.proofs.Cases.{add_cases}
use Rattle.grammar.specs.declared.State.{State}
use Rattle.grammar.specs.declared.Refusal.{Refusal}
use Rattle.grammar.specs.declared.Answer.{Answer}
use Rattle.grammar.specs.declared.Answer.TheVariants.{Going, Done, Refused}
use Rattle.grammar.specs.Cells.{symbol_cells, token_cells}
use Rattle.grammar.specs.State.{Out1, Out2, Passed, Onward, count, with_at, gap_at, Gapped, pushed, push_row, entered, enter_step, past, past_gap, pass_on}
use Rattle.grammar.specs.Sound.{AllTables, set_tab, Given, GivenAction, Far}
use Rattle.grammar.proofs.Far.{far_at, far_production}
use Rattle.grammar.proofs.Steps.{gap_onward, stays, refused_stays}
use Rattle.grammar.proofs.Counting.{count_other}
use Rattle.grammar.proofs.Touch.{pass_counts}
use Rattle.grammar.proofs.Kept.{gapped, Held, Held2, push_held, enter_held, pass_far}
use Rattle.productions.specs.declared.Production.{Production}
use Rattle.productions.specs.Cells.{prec_cells, action_cells, production_cells, push_production}
use Rattle.items.specs.declared.Sort.{Sort}
use Rattle.items.specs.declared.Sort.TheVariants.{BarSort, EndSort, QuotedSort, PrecSort, ActionSort, EmptySort, BareSort}
use Rattle.items.specs.Items.{Made0, Made1, Made2, Made3, sort_at, begun, with_to, with_prec, with_action, with_last, symbol_entered, token_symbol, quoted_gap, quoted_rows, quoted_found, quoted_item, prec_found, prec_name, prec_gap, prec_item, may_end, action_gap, after_action, action_found, action_item, may_follow, empty_gap, empty_item, kind_found, symbol_kind, bare_found, bare_item, end_production, bar_item, rule_end, end_item, by_sort, item_step, item_next, item_or_end, item_turn, item_list}
use Rattle.items.specs.Draft.{LiesPrec, LiesAction, Draft}
use Rattle.items.proofs.Marks.{spots}

-- A production of which nothing was read yet is a draft;
pub begun_draft : {src : List ℕ} {done : ℕ} {s : State} (rule from first : ℕ) → rule < count s rules → from ≡ s.at → s.at ≤ length src → first ≡ done → Draft src done s (begun rule from first)
begun_draft rule from first r a h e = record { rule = r; begins = omega arith; span = record { onward = omega arith; inside = omega arith }; first = e; prec = tt; action = tt }

module _ {src : List ℕ} {done : ℕ} {s : State} {d : Production} (x : Draft src done s d) where
  -- so is one while the reading goes on,
  pub draft_on : (u : State) → s.at ≤ u.at → count u rules ≡ count s rules → Draft src done u d
  draft_on u h e = let r = x.rule in let b = x.begins in record { rule = omega arith; begins = omega arith; span = x.span; first = x.first; prec = x.prec; action = x.action }

  -- and one that takes an item in.
  pub draft_to : (end : ℕ) → s.at ≤ end → end ≤ length src → Draft src done s (with_to d end)
  draft_to end h k = let b = x.begins in record { rule = x.rule; begins = b; span = record { onward = omega arith; inside = k }; first = x.first; prec = x.prec; action = x.action }

  pub draft_prec : (a b : ℕ) → Passed src a b → Draft src done s (with_prec d a b)
  draft_prec a b p = record { rule = x.rule; begins = x.begins; span = x.span; first = x.first; prec = p; action = x.action }

  pub draft_action : (a b c e : ℕ) → Passed src a b → Passed src c e → Draft src done s (with_action d a b c e)
  draft_action a b c e p q = record { rule = x.rule; begins = x.begins; span = x.span; first = x.first; prec = x.prec; action = (p, q) }

-- an answer that refuses nothing
abbrev pub Taken : Answer → Type 0
Taken a = (f : Refusal) → a ≡ Refused f → ⊥

pub going_taken : (a : Answer) → a ≡ Going → Taken a
going_taken a e f g = let z : ◌≡◌ {A = ℕ} 0 1 = cc in omega arith

pub done_taken : (a : Answer) → a ≡ Done → Taken a
done_taken a e f g = let z : ◌≡◌ {A = ℕ} 0 1 = cc in omega arith

pub taken_going : (a : Answer) → Taken a → (a ≡ Done → ⊥) → a ≡ Going
taken_going Going t h = refl
taken_going Done t h = absurd (h refl)
taken_going (Refused f) t h = absurd (t f refl)

-- a step that leaves table 7's count as it was, and isn't done
pub record Quiet (s : State) (a : Answer) (u : State) : Type 0 where
  pub rules : count u rules ≡ count s rules
  pub undone : a ≡ Done → ⊥

going_undone : Going ≡ Done → ⊥
going_undone e = let z : ◌≡◌ {A = ℕ} 0 1 = cc in omega arith

pub refused_undone : (f : Refusal) → Refused f ≡ Done → ⊥
refused_undone f e = let z : ◌≡◌ {A = ℕ} 0 1 = cc in omega arith

quiet_push : (s : State) (k : ℕ) (row : List ℕ) (t : List ℕ) → (rules ≡ k → ⊥) → Quiet s (push_row s k row t).answer (push_row s k row t).state
unfolding push_row
quiet_push s k row t h = go (add_row (count s k) row t).ok (add_row (count s k) row t).cells
  where
    go : (q : Bool) (x : List ℕ) → Quiet s (pushed q s k row x).answer (pushed q s k row x).state
    go true x = record { rules = count_other s k (count s k + 1) rules h; undone = going_undone }
    go false x = record { rules = refl; undone = refused_undone _ }

quiet_enter : (src : List ℕ) (s : State) (a b : ℕ) (d : Bool) (t : List ℕ) → Quiet s (enter_step src s a b d t).answer (enter_step src s a b d t).state
unfolding enter_step
quiet_enter src s a b d t = go (enter_token src (count s tokens) a b d t).entered (enter_token src (count s tokens) a b d t).cells
  where
    go : (q : Option ℕ) (x : List ℕ) → Quiet s (entered q s (token_cells a b (flag d)) x).answer (entered q s (token_cells a b (flag d)) x).state
    go (Some m) x = record { rules = get_or-set_other s.counts.n tokens rules m 0 (λ e. omega arith); undone = going_undone }
    go None x = record { rules = refl; undone = refused_undone _ }

-- spacing behind a step: where it comes to stand, what it leaves
module _ (src : List ℕ) (j : ℕ) (s : State) where
  pub pass_onward : (a : Answer) → j ≤ length src → Onward src j s.at (pass_on src false j a s).answer (pass_on src false j a s).state.at
  unfolding past_gap
  pass_onward Going h = go (gap_at s.kind true src j) (gapped s.kind true src j h)
    where
      go : (g : Result (ℕ × ℕ) Refusal) → Gapped src j g → Onward src j s.at (past false g s).answer (past false g s).state.at
      go (Ok (i, n)) x = gap_onward src j s.at i n Going (Ok (i, n)) x refl
      go (Err f) x = refused_stays src j s.at f
  pass_onward Done h = stays src j s.at Done (λ e. going_undone (sym e))
  pass_onward (Refused f) h = refused_stays src j s.at f

  pub pass_taken : (a : Answer) → Taken (pass_on src false j a s).answer → Taken a
  pass_taken Going t = going_taken Going refl
  pass_taken Done t = done_taken Done refl
  pass_taken (Refused f) t = t

  pass_undone : (a : Answer) → (a ≡ Done → ⊥) → (pass_on src false j a s).answer ≡ Done → ⊥
  unfolding past_gap
  pass_undone Going h = go (gap_at s.kind true src j)
    where
      go : (g : Result (ℕ × ℕ) Refusal) → (past false g s).answer ≡ Done → ⊥
      go (Ok (i, n)) = going_undone
      go (Err f) = refused_undone f
  pass_undone Done h = h
  pass_undone (Refused f) h = h

-- An item that does not end its production: sound so far, the ranges end where they did, the production is still a draft, the rule isn't done; and behind
-- `least` if the reading goes on.
pub record Item (src : List ℕ) (done : ℕ) (T : AllTables) (least : ℕ) (a : Answer) (s : State) (d : Production) : Type 0 where
  pub far : Far src done s T
  pub draft : Draft src done s d
  pub undone : a ≡ Done → ⊥
  pub beyond : a ≡ Going → least ≤ s.at

-- on no table, on table k + 1, and on tables 1 and 9
abbrev pub Item0 : List ℕ → ℕ → AllTables → ℕ → Made0 → Type 0
Item0 src done T least o = Item src done T least o.answer o.state o.draft

abbrev pub Item1 : List ℕ → ℕ → AllTables → ℕ → ℕ → Made1 → Type 0
Item1 src done T k least o = Item src done (set_tab T k o.a) least o.answer o.state o.draft

abbrev pub Item2 : List ℕ → ℕ → AllTables → ℕ → Made2 → Type 0
Item2 src done T least o = Item src done (set_tab (set_tab T tokens o.a) symbols o.b) least o.answer o.state o.draft

item_sooner : {src : List ℕ} {done : ℕ} {T : AllTables} {least : ℕ} {a : Answer} {s : State} {d : Production} (m : ℕ) → m ≤ least → Item src done T least a s d → Item src done T m a s d
item_sooner m h i = record { far = i.far; draft = i.draft; undone = i.undone; beyond = λ e. let l = i.beyond e in omega arith }

-- a refusal keeps all
item_refused : {src : List ℕ} {done : ℕ} {T : AllTables} {s : State} {d : Production} (least : ℕ) (f : Refusal) → Far src done s T → Draft src done s d → Item src done T least (Refused f) s d
item_refused least f x y = record { far = x; draft = y; undone = refused_undone f; beyond = λ e. let z : ◌≡◌ {A = ℕ} 0 1 = cc in absurd (omega arith) }

-- spacing behind a step that stayed where it stood
item_behind : {src : List ℕ} {done : ℕ} {T : AllTables} {s : State} {d : Production} (end : ℕ) (a : Answer) (u : State) → Far src done u T → u.at ≡ s.at → Quiet s a u → Draft src done s d → s.at ≤ end → end ≤ length src → Item src done T end (pass_on src false end a u).answer (pass_on src false end a u).state d
item_behind {src} end a u f e q x h k =
    let o = pass_onward src end u a k in
    let l = o.forth (omega arith) in
    let c = pass_counts src false end a u in
    record { far = pass_far f false end a (omega arith) k; draft = draft_on x (pass_on src false end a u).state (omega arith) (rw c q.rules); undone = pass_undone src end u a q.undone; beyond = o.beyond }

-- a bare symbol's kind is listed: a rule or a token
kind_listed : (src : List ℕ) (n : ℕ) (t1 : List ℕ) (from to : ℕ) → (1 ≤ symbol_kind src n t1 from to) × (symbol_kind src n t1 from to ≤ 2)
unfolding symbol_kind
kind_listed src n t1 from to = go (find_name src (width tokens) 0 n t1 from to)
  where
    go : (r : Option ℕ) → (1 ≤ kind_found r t1) × (kind_found r t1 ≤ 2)
    go (Some r) = on_test (λ (k : ℕ). (1 ≤ k) × (k ≤ 2)) (eqb (cell (width tokens) t1 r declared) 1) 2 1 (λ e. (omega arith, omega arith)) (λ e. (omega arith, omega arith))
    go None = (omega arith, omega arith)

-- a quoted symbol's rows
pub record Rowed (src : List ℕ) (done : ℕ) (T : AllTables) (s : State) (o : Out2) : Type 0 where
  pub held : Held2 src done T tokens symbols s o
  pub quiet : Quiet s o.answer o.state

symbol_held : {src : List ℕ} {done : ℕ} {s : State} {T : AllTables} → Far src done s T → (kind from to : ℕ) → 1 ≤ kind → kind ≤ 2 → Passed src from to → Held src done T symbols s (push_row s symbols (symbol_cells kind from to) T.t9)
symbol_held f kind from to l m p = push_held f symbols (omega arith) (λ e. omega arith) (symbol_cells kind from to) refl (record { least = l; most = m; name = p }) (λ r l. tt)

pub token_symbol_far : {src : List ℕ} {done : ℕ} {s : State} {T : AllTables} → Far src done s T → (from to : ℕ) → Passed src from to → Rowed src done T s (token_symbol src s from to T.t1 T.t9)
unfolding token_symbol
token_symbol_far {src} {done} {s} {T} f from to p =
    let q = quiet_enter src s from to false T.t1 in
    go (enter_step src s from to false T.t1).answer (enter_step src s from to false T.t1) (enter_held f from to false p) q.rules q.undone
  where
    go : (a : Answer) (o : Out1) → Held src done T tokens s o → count o.state rules ≡ count s rules → (a ≡ Done → ⊥) → Rowed src done T s (symbol_entered a o from to T.t9)
    go Going o x q h =
        let y = symbol_held x.far 2 from to (omega arith) (omega arith) p in
        let z = quiet_push o.state symbols (symbol_cells 2 from to) T.t9 (λ e. omega arith) in
        record { held = record { far = y.far; stays = y.stays ∙ x.stays; level = y.level ∙ x.level }; quiet = record { rules = z.rules ∙ q; undone = z.undone } }
    go Done o x q h = absurd (h refl)
    go (Refused e) o x q h = record { held = record { far = x.far; stays = x.stays; level = x.level }; quiet = record { rules = q; undone = refused_undone e } }

module _ {src : List ℕ} {done : ℕ} {s : State} {T : AllTables} {d : Production} (f : Far src done s T) (x : Draft src done s d) where
  -- a quoted symbol,
  pub quoted_rows_far : (from to end : ℕ) → Passed src from to → s.at ≤ end → end ≤ length src → Item2 src done T end (quoted_rows src s d from to end T.t1 T.t9)
  unfolding quoted_rows
  quoted_rows_far from to end p h k = go (gap_at s.kind true src end) (gapped s.kind true src end k)
    where
      go : (g : Result (ℕ × ℕ) Refusal) → Gapped src end g → Item2 src done T end (quoted_gap g src s d from to end T.t1 T.t9)
      go (Ok (i, n)) y =
          let b = y.0 in
          let r = token_symbol_far (far_at f i (omega arith) y.1) from to p in
          let e = r.held.stays in
          record { far = r.held.far; draft = draft_on (draft_to x end h k) (token_symbol src (with_at s i) from to T.t1 T.t9).state (omega arith) r.quiet.rules; undone = r.quiet.undone; beyond = λ w. omega arith }
      go (Err e) y = item_refused end e f x

  pub quoted_far : Item2 src done T (s.at + 1) (quoted_item src s d T.t1 T.t9)
  unfolding quoted_item
  quoted_far = go (token_at src s.at) (token_placed src s.at (token_at src s.at) refl).1
    where
      go : (t : Result (Place × ℕ × Bool) ℕ) → Tokened src s.at t → Item2 src done T (s.at + 1) (quoted_found t src s d T.t1 T.t9)
      go (Ok (p, end, q)) y =
          let a = y.0 in
          let b = y.1 in
          let c = y.2 in
          item_sooner (s.at + 1) (omega arith) (quoted_rows_far p.from p.to end (record { onward = omega arith; inside = omega arith }) (omega arith) y.3)
      go (Err k) y = item_refused (s.at + 1) _ f x

  -- `%prec`, its name,
  pub prec_name_far : Item1 src done T tokens s.at (prec_name src s d T.t1)
  unfolding prec_name
  prec_name_far = go (token_at src s.at) (token_placed src s.at (token_at src s.at) refl).1
    where
      go : (t : Result (Place × ℕ × Bool) ℕ) → Tokened src s.at t → Item1 src done T tokens s.at (prec_found t src s d T.t1)
      go (Ok (p, end, q)) y =
          let a = y.0 in
          let b = y.1 in
          let c = y.2 in
          let z : Passed src p.from p.to = record { onward = omega arith; inside = omega arith } in
          let e = enter_step src s p.from p.to false T.t1 in
          let w = enter_held f p.from p.to false z in
          item_sooner s.at (omega arith) (item_behind end e.answer e.state w.far w.stays (quiet_enter src s p.from p.to false T.t1) (draft_to (draft_prec x p.from p.to z) end (omega arith) y.3) (omega arith) y.3)
      go (Err k) y = item_refused s.at _ f x

  -- behind an action,
  pub after_action_far : (end : ℕ) → s.at ≤ end → end ≤ length src → Item0 src done T end (after_action src s d end)
  unfolding after_action
  after_action_far end h k = go (gap_at s.kind true src end) (gapped s.kind true src end k)
    where
      go : (g : Result (ℕ × ℕ) Refusal) → Gapped src end g → Item0 src done T end (action_gap g src s d)
      go (Ok (i, n)) y =
          let b = y.0 in
          let w = far_at f i (omega arith) y.1 in
          let z = draft_on x (with_at s i) (omega arith) refl in
          on_test (Item0 src done T end) (may_end src i) _ _
          (λ e. record { far = w; draft = z; undone = going_undone; beyond = λ e. omega arith })
          (λ e. item_refused end _ w z)
      go (Err e) y = item_refused end e f x

  -- `%empty`,
  pub empty_far : (first : ℕ) → Item0 src done T s.at (empty_item src s d first)
  unfolding empty_item
  empty_far first = go (gap_at s.kind true src s.at) (gapped s.kind true src s.at f.here)
    where
      go : (g : Result (ℕ × ℕ) Refusal) → Gapped src s.at g → Item0 src done T s.at (empty_gap g src s d first)
      go (Ok (k, n)) y =
          let b = y.0 in
          on_test (Item0 src done T s.at) (eqb (count s symbols) d.first && may_follow src k) _ _
          (λ e. record { far = far_at f k (omega arith) y.1; draft = draft_on (draft_to x s.at (omega arith) f.here) (with_at s k) (omega arith) refl; undone = going_undone; beyond = λ e. omega arith })
          (λ e. item_refused s.at _ f x)
      go (Err e) y = item_refused s.at e f x

  -- and a bare symbol.
  pub bare_far : Item1 src done T symbols (s.at + 1) (bare_item src s d T.t1 T.t9)
  unfolding bare_item
  bare_far = go (token_at src s.at) (token_placed src s.at (token_at src s.at) refl).1
    where
      go : (t : Result (Place × ℕ × Bool) ℕ) → Tokened src s.at t → Item1 src done T symbols (s.at + 1) (bare_found t src s d T.t1 T.t9)
      go (Ok (p, end, q)) y =
          let a = y.0 in
          let b = y.1 in
          let c = y.2 in
          let z : Passed src p.from p.to = record { onward = omega arith; inside = omega arith } in
          let k = symbol_kind src (count s tokens) T.t1 p.from p.to in
          let e = push_row s symbols (symbol_cells k p.from p.to) T.t9 in
          let r = kind_listed src (count s tokens) T.t1 p.from p.to in
          let w = symbol_held f k p.from p.to r.0 r.1 z in
          item_sooner (s.at + 1) (omega arith) (item_behind end e.answer e.state w.far w.stays (quiet_push s symbols (symbol_cells k p.from p.to) T.t9 (λ e. omega arith)) (draft_to x end (omega arith) y.3) (omega arith) y.3)
      go (Err k) y = item_refused (s.at + 1) _ f x

-- the steps above from another state, or on a draft that took their part in
module _ {src : List ℕ} {done : ℕ} {s : State} {T : AllTables} {d : Production} (f : Far src done s T) (x : Draft src done s d) where
  -- `%prec`, behind its keyword
  pub prec_far : Item1 src done T tokens s.at (prec_item src s d T.t1)
  unfolding prec_item
  prec_far = go (gap_at s.kind true src s.at) (gapped s.kind true src s.at f.here)
    where
      go : (g : Result (ℕ × ℕ) Refusal) → Gapped src s.at g → Item1 src done T tokens s.at (prec_gap g src s d T.t1)
      go (Ok (i, n)) y =
          let b = y.0 in
          item_sooner s.at (omega arith) (prec_name_far (far_at f i (omega arith) y.1) (draft_on x (with_at s i) (omega arith) refl))
      go (Err e) y = item_refused s.at e f x

  -- an action
  pub action_far : s.at < length src → Item0 src done T (s.at + 1) (action_item src s d)
  unfolding action_item
  action_far h = go (action_at src s.at) (action_placed src s.at h (action_at src s.at) refl).1
    where
      go : (t : Result (ℕ × ℕ × Place × Place) ℕ) → Acted src s.at t → Item0 src done T (s.at + 1) (action_found t src s d)
      go (Ok (end, n, p, q)) y =
          let a = y.0 in
          let b = y.1 in
          let c = y.4 in
          let e = y.7 in
          let z = draft_action (draft_to x s.at (omega arith) f.here) p.from p.to q.from q.to (record { onward = y.3; inside = c }) (record { onward = y.6; inside = omega arith }) in
          item_sooner (s.at + 1) (omega arith) (after_action_far f z end (omega arith) b)
      go (Err i) y = item_refused (s.at + 1) _ f x

-- a draft's places, as cells of its row
given_prec : (src : List ℕ) (p : Option (ℕ × ℕ)) → LiesPrec src p → Given src (get_or (prec_cells p) 0 0) (get_or (prec_cells p) 1 0) (get_or (prec_cells p) 2 0)
given_prec src None x = inl (refl, refl, refl)
given_prec src (Some (a, b)) x = inr (refl, x)

given_action : (src : List ℕ) (p : Option (ℕ × ℕ × ℕ × ℕ)) → LiesAction src p → GivenAction src (get_or (action_cells p) 0 0) (get_or (action_cells p) 1 0) (get_or (action_cells p) 2 0) (get_or (action_cells p) 3 0) (get_or (action_cells p) 4 0)
given_action src None x = inl (refl, refl, refl, refl, refl)
given_action src (Some (a, b, c, d)) x = inr (refl, x.0, x.1)

-- A production that joined table 8, or found no room: sound so far, and the ranges end behind the last symbol unless it was refused.
pub record Joined (src : List ℕ) (T : AllTables) (s : State) (o : Out1) : Type 0 where
  pub done : ℕ
  pub far : Far src done o.state (set_tab T productions o.a)
  pub stays : o.state.at ≡ s.at
  pub rules : count o.state rules ≡ count s rules
  pub whole : Taken o.answer → done ≡ count o.state symbols

pub end_production_far : {src : List ℕ} {done : ℕ} {s : State} {T : AllTables} {d : Production} → Far src done s T → Draft src done s d → Joined src T s (end_production s d T.t8)
unfolding end_production push_production push_row
end_production_far {src} {done} {s} {T} {d} f x =
    add_cases (λ (o : Added). Joined src T s (pushed o.ok s productions row o.cells)) (count s productions) row T.t8
    (λ room low.
    record {
      done = count s symbols;
      far = far_production f row refl room low (record { rule = x.rule; span = x.span; precedence = given_prec src d.prec x.prec; body = given_action src d.action x.action }) x.first refl;
      stays = refl;
      rules = get_or-set_other s.counts.n productions rules (count s productions + 1) 0 (λ e. omega arith);
      whole = λ t. sym (get_or-set_other s.counts.n productions symbols (count s productions + 1) 0 (λ e. omega arith));
    })
    (λ full. record { done = done; far = f; stays = refl; rules = refl; whole = λ t. absurd (t _ refl) })
  where
    row : List ℕ
    row = production_cells (with_last d (count s symbols))

-- behind a `;` a rule does not go on
pub rule_end_never : (a : Answer) → rule_end a ≡ Going → ⊥
rule_end_never Going r = going_undone (sym r)
rule_end_never Done r = going_undone (sym r)
rule_end_never (Refused e) r = let z : ◌≡◌ {A = ℕ} 0 1 = cc in omega arith

-- An item that ends its production: the ranges end at some `done`, which is behind the last symbol unless it was refused; a next production is a draft. It
-- stands at `least` or behind it.
pub record Ended (src : List ℕ) (T : AllTables) (least : ℕ) (a : Answer) (s : State) (d : Production) : Type 0 where
  pub done : ℕ
  pub far : Far src done s T
  pub next : a ≡ Going → Draft src done s d
  pub whole : Taken a → done ≡ count s symbols
  pub forth : least ≤ s.at

abbrev pub Ended1 : List ℕ → AllTables → ℕ → Made1 → Type 0
Ended1 src T least o = Ended src (set_tab T productions o.a) least o.answer o.state o.draft

module _ {src : List ℕ} {done : ℕ} {s : State} {T : AllTables} {d : Production} (f : Far src done s T) (x : Draft src done s d) where
  -- behind a `|`
  pub bar_far : Ended1 src T s.at (bar_item src s d T.t8)
  unfolding bar_item
  bar_far =
      let e = end_production s d T.t8 in
      let j = end_production_far f x in
      let h = j.stays in
      let o = pass_onward src s.at e.state e.answer f.here in
      let c = pass_counts src false s.at e.answer e.state in
      let g = pass_far j.far false s.at e.answer (omega arith) f.here in
      let w : Taken (pass_on src false s.at e.answer e.state).answer → j.done ≡ count (pass_on src false s.at e.answer e.state).state symbols = λ t. rw c (j.whole (pass_taken src s.at e.state e.answer t)) in
      record {
        done = j.done;
        far = g;
        next = λ r. begun_draft d.rule _ _ (rw (c, j.rules) x.rule) refl g.here (sym (w (going_taken _ r)));
        whole = w;
        forth = let l = o.forth (omega arith) in omega arith;
      }

  -- and behind a `;`
  pub end_far : Ended1 src T s.at (end_item s d T.t8)
  unfolding end_item
  end_far =
      let e = end_production s d T.t8 in
      let j = end_production_far f x in
      record { done = j.done; far = j.far; next = λ r. absurd (rule_end_never e.answer r); whole = λ t. j.whole (taken e.answer t); forth = let h = j.stays in omega arith }
    where
      taken : (a : Answer) → Taken (rule_end a) → Taken a
      taken Going t = going_taken Going refl
      taken Done t = done_taken Done refl
      taken (Refused e) t = t

-- Any item: the ranges end at some `done`, behind the last symbol where the rule is done; the production under way is a draft where the reading goes on; and
-- it stands further on unless it was refused.
pub record Stepped (src : List ℕ) (T : AllTables) (at : ℕ) (a : Answer) (s : State) (d : Production) : Type 0 where
  pub done : ℕ
  pub far : Far src done s T
  pub next : a ≡ Going → Draft src done s d
  pub whole : a ≡ Done → done ≡ count s symbols
  pub further : Taken a → at < s.at

module _ {src : List ℕ} {T : AllTables} {least : ℕ} {a : Answer} {s : State} {d : Production} (at : ℕ) (h : at < least) where
  item_stepped : {done : ℕ} → Item src done T least a s d → Stepped src T at a s d
  item_stepped {done} i = record { done = done; far = i.far; next = λ e. i.draft; whole = λ e. absurd (i.undone e); further = λ t. let l = i.beyond (taken_going a t i.undone) in omega arith }

  ended_stepped : Ended src T least a s d → Stepped src T at a s d
  ended_stepped i = record { done = i.done; far = i.far; next = i.next; whole = λ e. i.whole (done_taken a e); further = λ t. let l = i.forth in omega arith }

-- the three tables that a rule's items fill, and the seven others
abbrev pub filled : AllTables → List ℕ → List ℕ → List ℕ → AllTables
filled T t1 t8 t9 = set_tab (set_tab (set_tab T tokens t1) productions t8) symbols t9

abbrev pub Steps : List ℕ → AllTables → ℕ → Made3 → Type 0
Steps src T at o = Stepped src (filled T o.t1 o.t8 o.t9) at o.answer o.state o.draft

module _ {src : List ℕ} {done : ℕ} {s : State} {d : Production} (T : AllTables) (f : Far src done s T) (x : Draft src done s d) where
  by_sort_lem : (k : Sort) (j : ℕ) → s.at ≤ j → j ≤ length src → ((k ≡ BareSort → ⊥) → s.at < j) → Steps src T s.at (by_sort k src s (with_at s j) d T.t1 T.t8 T.t9)
  by_sort_lem BarSort j h l b = ended_stepped s.at (b (λ z. let y : ◌≡◌ {A = ℕ} 0 1 = cc in omega arith)) (bar_far (far_at f j h l) (draft_on x (with_at s j) h refl))
  by_sort_lem EndSort j h l b = ended_stepped s.at (b (λ z. let y : ◌≡◌ {A = ℕ} 0 1 = cc in omega arith)) (end_far (far_at f j h l) (draft_on x (with_at s j) h refl))
  by_sort_lem QuotedSort j h l b = item_stepped s.at (omega arith) (quoted_far f x)
  by_sort_lem PrecSort j h l b = item_stepped s.at (b (λ z. let y : ◌≡◌ {A = ℕ} 0 1 = cc in omega arith)) (prec_far (far_at f j h l) (draft_on x (with_at s j) h refl))
  by_sort_lem ActionSort j h l b = let y = b (λ z. let y : ◌≡◌ {A = ℕ} 0 1 = cc in omega arith) in item_stepped s.at (omega arith) (action_far f x (omega arith))
  by_sort_lem EmptySort j h l b = item_stepped s.at (b (λ z. let y : ◌≡◌ {A = ℕ} 0 1 = cc in omega arith)) (empty_far (far_at f j h l) (draft_on x (with_at s j) h refl) s.at)
  by_sort_lem BareSort j h l b = item_stepped s.at (omega arith) (bare_far f x)

  -- one item
  pub item_far : Steps src T s.at (item_step src s d T.t1 T.t8 T.t9)
  unfolding item_step
  item_far = let y = spots src s.at f.here in by_sort_lem (sort_at src s.at).sort (sort_at src s.at).end y.onward y.inside y.beyond

-- a rule under way that began at `at`,
pub record Ongoing (src : List ℕ) (T : AllTables) (at : ℕ) (o : Made3) : Type 0 where
  pub done : ℕ
  pub far : Far src done o.state (filled T o.t1 o.t8 o.t9)
  pub draft : Draft src done o.state o.draft
  pub forth : at ≤ o.state.at

-- with less to go,
abbrev Onto : List ℕ → AllTables → ℕ → Made3 → Made3 → Type 0
Onto src T at o p = Ongoing src T at p × (length src - p.state.at < length src - o.state.at)

-- and one whose items are over: where they ended with `;`, the ranges end behind the last symbol, further on in the source
pub record Over (src : List ℕ) (T : AllTables) (at : ℕ) (a : Answer) (s : State) : Type 0 where
  pub done : ℕ
  pub far : Far src done s T
  pub whole : a ≡ Going → done ≡ count s symbols
  pub further : a ≡ Going → at < s.at

abbrev Ends : List ℕ → AllTables → ℕ → Made3 → Type 0
Ends src T at o = Over src (filled T o.t1 o.t8 o.t9) at o.answer o.state

turn_far : (src : List ℕ) (T : AllTables) (at : ℕ) (o : Made3) → Ongoing src T at o → Either (Onto src T at o) (Ends src T at) (item_turn src o)
unfolding item_turn
turn_far src T at o x = go (leb (length src) o.state.at)
  where
    next : (a : Answer) (p : Made3) → p.answer ≡ a → Steps src T o.state.at p → Either (Onto src T at o) (Ends src T at) (item_next a p)
    next Going p e y =
        let l = y.further (going_taken p.answer e) in
        let h = y.far.here in
        let b = x.forth in
        (record { done = y.done; far = y.far; draft = y.next e; forth = omega arith }, omega arith)
    next Done p e y = let b = x.forth in record { done = y.done; far = y.far; whole = λ r. y.whole e; further = λ r. let l = y.further (done_taken p.answer e) in omega arith }
    next (Refused f) p e y = record { done = y.done; far = y.far; whole = λ r. absurd (going_taken p.answer r f e); further = λ r. absurd (going_taken p.answer r f e) }

    go : (b : Bool) → Either (Onto src T at o) (Ends src T at) (item_or_end b o (item_step src o.state o.draft o.t1 o.t8 o.t9))
    go true = record { done = x.done; far = x.far; whole = λ r. absurd (going_taken _ r _ refl); further = λ r. absurd (going_taken _ r _ refl) }
    go false =
        next (item_step src o.state o.draft o.t1 o.t8 o.t9).answer (item_step src o.state o.draft o.t1 o.t8 o.t9) refl (item_far (filled T o.t1 o.t8 o.t9) x.far x.draft)

-- The items of a rule keep soundness so far, whatever their answer; where the rule ended with `;`, the ranges end behind the last symbol.
pub items_far : {src : List ℕ} {done : ℕ} {s : State} {d : Production} (T : AllTables) → Far src done s T → Draft src done s d → let o = item_list src s d T.t1 T.t8 T.t9 in Over src (filled T o.t1 o.t8 o.t9) s.at o.answer o.state
unfolding item_list
items_far {src} {done} {s} {d} T f x =
    turns_end (Ongoing src T s.at) (Ends src T s.at) (λ o. length src - o.state.at) (item_turn src) (turn_far src T s.at) (suc (length src)) _ (omega arith)
    (record { done = done; far = f; draft = x; forth = omega arith })

-- They go on or are refused: a rule that is done is told by its `;`, behind which the reading goes on.
pub items_undone : (src : List ℕ) (s : State) (d : Production) (t1 t8 t9 : List ℕ) → (item_list src s d t1 t8 t9).answer ≡ Done → ⊥
unfolding item_list item_turn
items_undone src s d t1 t8 t9 = turns_keep Undone (item_turn src) turn (suc (length src)) _ going_undone
  where
    Undone : Made3 → Type 0
    Undone o = o.answer ≡ Done → ⊥

    next : (a : Answer) (p : Made3) → p.answer ≡ a → Either Undone Undone (item_next a p)
    next Going p e = λ g. going_undone (sym e ∙ g)
    next Done p e = going_undone
    next (Refused f) p e = λ g. refused_undone f (sym e ∙ g)

    go : (b : Bool) (o p : Made3) → Either Undone Undone (item_or_end b o p)
    go true o p = refused_undone _
    go false o p = next p.answer p refl

    turn : (o : Made3) → Undone o → Either Undone Undone (item_turn src o)
    turn o h = go (leb (length src) o.state.at) o (item_step src o.state o.draft o.t1 o.t8 o.t9)
