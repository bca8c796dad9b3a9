-- The rules section keeps places nested while it is not refused. Assumes nothing.
use Rattle.std.specs.Prelude.{Option, Some, None, Result, Ok, Err}
use Prim.Native.Nat.{ℕ, suc, ◌+◌, ◌-◌, ◌≤◌, ◌<◌}
use mathlib.Core.Path.{◌≡◌, refl, sym, ◌∙◌}
use mathlib.Core.List.{List, [], ◌∷◌}
use mathlib.Core.Bool.{Bool, true, false}
use native.Mathlib.Omega.{arith}
use lib.Dec.{leb}
use lib.ListN.{length}
use Rattle.scan.specs.Scan.{starts_at}
use Rattle.scan.proofs.Bytes.{told}
use Rattle.scan.proofs.Loop.{Either, turns_end}
use Rattle.words.specs.Words.{name_at, Named}
use Rattle.words.proofs.Words.{name_placed}
use Rattle.tables.specs.Table.{find_name}
use Rattle.tables.specs.Layout.{rules, productions, symbols, width}
use Rattle.grammar.specs.declared.State.{State}
use Rattle.grammar.specs.declared.Cause.TheVariants.{MissingColon, UnknownDeclaration}
use Rattle.grammar.specs.declared.Refusal.{Refusal}
use Rattle.grammar.specs.declared.Answer.{Answer}
use Rattle.grammar.specs.declared.Answer.TheVariants.{Going, Done, Refused}
use Rattle.grammar.specs.Cells.{rule_cells}
use Rattle.grammar.specs.State.{Passed, count, with_at, pass_on, onward}
use Rattle.grammar.specs.Sound.{AllTables, set_tab, Far}
use Rattle.grammar.proofs.Far.{far_at}
use Rattle.grammar.proofs.Touch.{refused_going, done_going, push_apart, pass_counts}
use Rattle.items.specs.Items.{begun}
use Rattle.items.proofs.Far.{going_taken, pass_onward, begun_draft, items_undone}
use Rattle.rules.specs.Rules.{Typing, Heading, Ruled, pass_mark, start_or, first_start, rule_type, rule_found, enter_rule, typed_head, named_head, head_found, rule_head, body_passed, rule_body, rule_headed, rule_step, next_rule, percents, rule_or_end, rules_turn, rules_run, rules_passed, rules_all}
use Rattle.rules.proofs.Far.{Uncounted, TypeFar, mark_far, start_far, type_far, HeadFar, head_far, RuledFar, step_far, next_far, ruled}
use Rattle.nesting.specs.Under.{Lain, Settled}
use Rattle.nesting.proofs.Laws.{lain_on, lying_begun}
use Rattle.nesting.proofs.Items.{pass_undone, items_nested}

-- where no production and no symbol was counted, what was settled stays so
pub settled_on : (s u : State) {t8 t9 : List ℕ} → s.at ≤ u.at → count u symbols ≡ count s symbols → count u productions ≡ count s productions → Settled s t8 t9 → Settled u t8 t9
settled_on s u h n m x = rw (n, m) (lain_on u.at u.at (count s symbols) h h (omega arith) x)

-- the start single moves nothing
start_stays : (s : State) (from to : ℕ) → (first_start s from to).at ≡ s.at
unfolding first_start
start_stays s from to = go s.singles.start
  where
    go : (q : Option (ℕ × ℕ)) → (start_or q s from to).at ≡ s.at
    go None = refl
    go (Some (a, b)) = refl

-- a rule's head counts no production
module _ {src : List ℕ} {done : ℕ} {s : State} {T : AllTables} (f : Far src done s T) where
  rule_count : (u : State) (from to : ℕ) (given : Option (ℕ × ℕ)) (t7 : List ℕ) → count (enter_rule src u from to given t7).state productions ≡ count u productions
  unfolding enter_rule
  rule_count u from to given t7 = go (find_name src (width rules) 0 (count u rules) t7 from to)
    where
      go : (r : Option ℕ) → count (rule_found r u from to given t7).state productions ≡ count u productions
      go (Some r) = refl
      go None = (push_apart u rules (rule_cells from to given) t7).count productions (λ e. omega arith)

  named_count : (j : ℕ) → s.at < j → j ≤ length src → count (named_head src s j T.t7).state productions ≡ count s productions
  unfolding named_head
  named_count j h k = go (rule_type src v).answer (rule_type src v) (type_far w)
    where
      p : Passed src s.at j
      p = record { onward = omega arith; inside = k }

      v : State
      v = with_at (first_start s s.at j) j

      w : Far src done v T
      w = let x = start_far f s.at j p in let e = start_stays s s.at j in far_at x.far j (omega arith) k

      same : (u : State) → u.counts ≡ v.counts → count u productions ≡ count s productions
      same u e = rw (e, (start_far f s.at j p).counts)

      go : (a : Answer) (o : Typing) → TypeFar src done T v o → count (typed_head a src o.state o.given s.at j T.t7).state productions ≡ count s productions
      go Going o x = rule_count o.state s.at j o.given T.t7 ∙ same o.state x.to.counts
      go Done o x = same o.state x.to.counts
      go (Refused e) o x = same o.state x.to.counts

  head_count : count (rule_head src s T.t7).state productions ≡ count s productions
  unfolding rule_head
  head_count = go (name_at src s.at) (name_placed src s.at (name_at src s.at) refl).1
    where
      go : (n : Result ℕ ℕ) → Named src s.at n → count (head_found n src s T.t7).state productions ≡ count s productions
      go (Ok j) x = named_count j x.0 x.1
      go (Err k) x = refl

-- What is settled where the reading goes on; the answer `Done`, which does not come of rules, leaves what some earlier position settled.
pub record LainUnless (a : Answer) (s : State) (t8 t9 : List ℕ) : Type 0 where
  pub going : a ≡ Going → Settled s t8 t9
  pub done : a ≡ Done → (at : ℕ) × Lain at at (count s symbols) (count s productions) (count s symbols) t8 t9

pub lies_refused : (r : Refusal) (s : State) (t8 t9 : List ℕ) → LainUnless (Refused r) s t8 t9
lies_refused r s t8 t9 = record { going = λ g. absurd (refused_going r g); done = λ g. let z : ◌≡◌ {A = ℕ} 0 1 = cc in absurd (omega arith) }

lies_done : (s u : State) {t8 t9 : List ℕ} → count u symbols ≡ count s symbols → count u productions ≡ count s productions → Settled s t8 t9 → LainUnless Done u t8 t9
lies_done s u n m x = record { going = λ g. absurd (done_going g); done = λ g. (s.at, rw (n, m) x) }

-- a rule's body
body_nested : {src : List ℕ} {done : ℕ} {s : State} (T : AllTables) → Far src done s T → done ≡ count s symbols → (row : ℕ) → row < count s rules → Settled s T.t8 T.t9 → let o = rule_body src s row T.t1 T.t8 T.t9 in LainUnless o.answer o.state o.t8 o.t9
unfolding rule_body
body_nested {src} {done} {s} T f e row h x = let o = pass_mark src s (58 ∷ []) MissingColon in go o.answer o.state (mark_far f (58 ∷ []) MissingColon)
  where
    go : (a : Answer) (u : State) → Uncounted src done T s u → let o = body_passed a src u row T.t1 T.t8 T.t9 in LainUnless o.answer o.state o.t8 o.t9
    go Going u y =
        let c = y.counts in
        record {
          going = items_nested T y.far (begun_draft row u.at (count u symbols) (rw c h) refl y.far.here (rw c (sym e))) (lying_begun (settled_on s u y.forth (rw c) (rw c) x));
          done = λ g. absurd (items_undone src u (begun row u.at (count u symbols)) T.t1 T.t8 T.t9 g);
        }
    go Done u y = let c = y.counts in lies_done s u (rw c) (rw c) x
    go (Refused r) u y = lies_refused r u T.t8 T.t9

abbrev pub LiesIn : Ruled → Type 0
LiesIn o = LainUnless o.answer o.state o.t8 o.t9

module _ {src : List ℕ} {done : ℕ} {s : State} (T : AllTables) (f : Far src done s T) (e : done ≡ count s symbols) (x : Settled s T.t8 T.t9) where
  -- a rule,
  rule_nested : LiesIn (rule_step src s T.t1 T.t7 T.t8 T.t9)
  unfolding rule_step
  rule_nested = let h = rule_head src s T.t7 in go h.answer h refl (head_far f) (head_count f)
    where
      go : (a : Answer) (h : Heading) → h.answer ≡ a → HeadFar src done T s (s.at + 1) h → count h.state productions ≡ count s productions → LiesIn (rule_headed a src h T.t1 T.t8 T.t9)
      go Going h q y c =
          let l = y.beyond q in
          body_nested (set_tab T rules h.t7) y.far (e ∙ sym y.symbols) h.row (y.row q) (settled_on s h.state (omega arith) y.symbols c x)
      go Done h q y c = lies_done s h.state y.symbols c x
      go (Refused r) h q y c = lies_refused r h.state T.t8 T.t9

  -- and the spacing behind it
  next_nested : LiesIn (next_rule src s T.t1 T.t7 T.t8 T.t9)
  unfolding next_rule
  next_nested =
      let o = rule_step src s T.t1 T.t7 T.t8 T.t9 in
      let j = o.state.at in
      let c = pass_counts src false j o.answer o.state in
      let h = (step_far T f e).read.far.here in
      spaced o.answer o.state ((pass_onward src j o.state o.answer h).forth (omega arith)) rule_nested
    where
      spaced : (a : Answer) (u : State) {t8 t9 : List ℕ} → (u.at ≤ (pass_on src false u.at a u).state.at) → LainUnless a u t8 t9 → LainUnless (pass_on src false u.at a u).answer (pass_on src false u.at a u).state t8 t9
      spaced Going u h y =
          let c = pass_counts src false u.at Going u in
          record { going = λ g. settled_on u (pass_on src false u.at Going u).state h (rw c) (rw c) (y.going refl); done = λ g. absurd (pass_undone src u.at u Going (λ z. done_going (sym z)) g) }
      spaced Done u h y = y
      spaced (Refused r) u h y = y

-- rules under way
record Both (src : List ℕ) (T : AllTables) (o : Ruled) : Type 0 where
  far : Far src (count o.state symbols) o.state (ruled T o)
  settled : Settled o.state o.t8 o.t9

turn_nested : (src : List ℕ) (T : AllTables) (o : Ruled) → Both src T o → Either (λ (p : Ruled). Both src T p × (length src - p.state.at < length src - o.state.at)) LiesIn (rules_turn src o)
unfolding rules_turn
turn_nested src T o z = go (leb (length src) o.state.at) (starts_at percents src o.state.at)
  where
    next : (a : Answer) (p : Ruled) → p.answer ≡ a → RuledFar src T o.state.at p → LiesIn p → Either (λ (p : Ruled). Both src T p × (length src - p.state.at < length src - o.state.at)) LiesIn (onward a p)
    next Going p q x y =
        let l = x.further q in
        let h = x.read.far.here in
        (record { far = told (λ (n : ℕ). Far src n p.state (ruled T p)) (x.read.whole (going_taken p.answer q)) x.read.far; settled = y.going q }, omega arith)
    next Done p q x y = y
    next (Refused r) p q x y = y

    go : (b c : Bool) → Either (λ (p : Ruled). Both src T p × (length src - p.state.at < length src - o.state.at)) LiesIn (rule_or_end b c o (next_rule src o.state o.t1 o.t7 o.t8 o.t9))
    go true c = record { going = λ g. z.settled; done = λ g. (o.state.at, z.settled) }
    go false true = record { going = λ g. z.settled; done = λ g. (o.state.at, z.settled) }
    go false false = let p = next_rule src o.state o.t1 o.t7 o.t8 o.t9 in next p.answer p refl (next_far (ruled T o) z.far refl) (next_nested (ruled T o) z.far refl z.settled)

-- The rules section.
pub rules_nested : {src : List ℕ} {done : ℕ} {s : State} (T : AllTables) → Far src done s T → done ≡ count s symbols → Settled s T.t8 T.t9 → LiesIn (rules_all src s T.t1 T.t7 T.t8 T.t9)
unfolding rules_all rules_run
rules_nested {src} {done} {s} T f e x = let o = pass_mark src s percents UnknownDeclaration in go o.answer o.state (mark_far f percents UnknownDeclaration)
  where
    go : (a : Answer) (u : State) → Uncounted src done T s u → LiesIn (rules_passed a src u T.t1 T.t7 T.t8 T.t9)
    go Going u y =
        let c = y.counts in
        turns_end (Both src T) LiesIn (λ o. length src - o.state.at) (rules_turn src) (turn_nested src T) (suc (length src)) _ (omega arith)
        (record { far = told (λ (n : ℕ). Far src n u T) (rw c e) y.far; settled = settled_on s u y.forth (rw c) (rw c) x })
    go Done u y = let c = y.counts in lies_done s u (rw c) (rw c) x
    go (Refused r) u y = lies_refused r u T.t8 T.t9
