-- Each item of a production that is taken, and the items of a rule, keep places nested. Assumes nothing.
use Rattle.std.specs.Prelude.{Option, Some, None, Result, Ok, Err}
use Prim.Native.Nat.{ℕ, suc, ◌+◌, ◌-◌, ◌*◌, ◌≤◌, ◌<◌}
use mathlib.Core.Path.{◌≡◌, refl, sym, ◌∙◌}
use mathlib.Core.List.{List, [], ◌∷◌}
use mathlib.Core.Bool.{Bool, true, false, ◌&&◌}
use native.Mathlib.Omega.{arith}
use lib.Dec.{leb, eqb}
use lib.ListN.{length, length-set}
use Rattle.scan.specs.Scan.{starts_at}
use Rattle.scan.proofs.Bytes.{on_test}
use Rattle.scan.proofs.Loop.{Either, turns_end}
use Rattle.scan.specs.declared.Place.{Place}
use Rattle.words.specs.Words.{token_at, Tokened}
use Rattle.words.proofs.Words.{token_placed}
use Rattle.texts.specs.Action.{action_at, Acted}
use Rattle.texts.proofs.Laws.{action_placed}
use Rattle.tables.specs.Table.{Added, put, flag, enter_token}
use Rattle.tables.specs.Layout.{tokens, productions, symbols, posix_from}
use Rattle.tables.proofs.Cases.{add_cases}
use Rattle.grammar.specs.declared.State.{State}
use Rattle.grammar.specs.declared.Answer.{Answer}
use Rattle.grammar.specs.declared.Answer.TheVariants.{Going, Done, Refused}
use Rattle.grammar.specs.declared.Refusal.{Refusal}
use Rattle.grammar.specs.Cells.{symbol_cells, token_cells}
use Rattle.grammar.specs.State.{Out1, count, with_at, gap_at, Gapped, pushed, push_row, entered, enter_step, past, past_gap, pass_on}
use Rattle.grammar.proofs.Far.{far_at}
use Rattle.grammar.specs.Sound.{AllTables, Far}
use Rattle.grammar.proofs.Counting.{same_low, count_other}
use Rattle.grammar.proofs.Touch.{refused_going, done_going, pass_counts, pass_going}
use Rattle.grammar.proofs.Kept.{gapped}
use Rattle.productions.specs.declared.Production.{Production}
use Rattle.productions.specs.Cells.{production_cells, push_production}
use Rattle.items.specs.declared.Sort.{Sort}
use Rattle.items.specs.declared.Sort.TheVariants.{BarSort, EndSort, QuotedSort, PrecSort, ActionSort, EmptySort, BareSort}
use Rattle.items.specs.declared.Spotted.{Spotted}
use Rattle.items.specs.Items.{Made0, Made3, first_mark, sort_at, with_to, with_action, with_last, symbol_entered, token_symbol, quoted_gap, quoted_rows, quoted_found, quoted_item, prec_found, prec_name, prec_gap, prec_item, may_end, action_gap, after_action, action_found, action_item, may_follow, empty_gap, empty_item, symbol_kind, bare_found, bare_item, end_production, bar_item, rule_end, end_item, by_sort, item_step, item_next, item_or_end, item_turn, item_list}
use Rattle.items.specs.Draft.{Draft}
use Rattle.items.proofs.Marks.{ends_not, spots}
use Rattle.items.proofs.Far.{refused_undone, rule_end_never, going_taken, pass_onward, draft_on, quoted_far, prec_far, action_far, empty_far, bare_far, filled, Steps, item_far, Ongoing}
use Rattle.nesting.specs.Under.{Settled, Nested}
use Rattle.nesting.proofs.Closes.{ActionEnded, action_ended}
use Rattle.nesting.proofs.Laws.{Actionless, shut_free, lying_symbol, lying_to, lying_on, lying_action, lying_over, lying_begun}

-- a row more, where there was room
pub record RowPushed (s : State) (k : ℕ) (row t : List ℕ) (o : Out1) : Type 0 where
  pub room : count s k * length row + length row ≤ length t
  pub low : count s k < 4294967295
  pub cells : o.a ≡ put t (count s k * length row) row
  pub counted : count o.state k ≡ count s k + 1
  pub other : (j : ℕ) → (j ≡ k → ⊥) → count o.state j ≡ count s j
  pub at : o.state.at ≡ s.at

pub push_is : (s : State) (k : ℕ) (row t : List ℕ) → k < posix_from → k < length s.counts.n → (push_row s k row t).answer ≡ Going → RowPushed s k row t (push_row s k row t)
unfolding push_row
push_is s k row t b h =
    add_cases (λ (o : Added). (pushed o.ok s k row o.cells).answer ≡ Going → RowPushed s k row t (pushed o.ok s k row o.cells)) (count s k) row t
    (λ room low g. record { room = room; low = low; cells = refl; counted = same_low s k (count s k + 1) b h; other = count_other s k (count s k + 1); at = refl })
    (λ full g. absurd (refused_going _ g))

-- a token entered counts tokens alone
pub record TokensAlone (s u : State) : Type 0 where
  pub other : (j : ℕ) → (j ≡ tokens → ⊥) → count u j ≡ count s j
  pub ten : length u.counts.n ≡ length s.counts.n
  pub at : u.at ≡ s.at

enter_still : (src : List ℕ) (s : State) (a b : ℕ) (d : Bool) (t : List ℕ) → TokensAlone s (enter_step src s a b d t).state
unfolding enter_step
enter_still src s a b d t = go (enter_token src (count s tokens) a b d t).entered (enter_token src (count s tokens) a b d t).cells
  where
    go : (q : Option ℕ) (x : List ℕ) → TokensAlone s (entered q s (token_cells a b (flag d)) x).state
    go (Some m) x = record { other = count_other s tokens m; ten = length-set s.counts.n tokens m; at = refl }
    go None x = record { other = λ j e. refl; ten = refl; at = refl }

-- A symbol's row is added behind those counted in v, and the reading comes to stand at u.
symbol_nested : {src : List ℕ} (s : State) (d : Production) {t8 t9 : List ℕ} → Nested src s d t8 t9 → Actionless d.action → (v : State) → length v.counts.n ≡ 10 → count v symbols ≡ count s symbols → count v productions ≡ count s productions → (kind from to end : ℕ) → s.at ≤ from → from < to → to ≤ end → let o = push_row v symbols (symbol_cells kind from to) t9 in o.answer ≡ Going → (u : State) → u.counts ≡ o.state.counts → end ≤ u.at → Nested src u (with_to d end) t8 o.a
symbol_nested {src} s d {t8} {t9} x free v ten c9 c8 kind from to end a b c g u k l =
    let row = symbol_cells kind from to in
    let p = push_is v symbols row t9 (omega arith) (rw ten (omega arith)) g in
    let room = p.room in
    let low = p.low in
    let n : count u symbols ≡ count s symbols + 1 = rw k (p.counted ∙ rw c9) in
    let m : count u productions ≡ count s productions = rw k (p.other productions (λ e. omega arith) ∙ c8) in
    let y = lying_symbol (count s symbols) row t9 refl (omega arith) (omega arith) x free end u.at a b c l in
    rw (n, m, p.cells, c9) y

-- items that are taken
abbrev pub Nests0 : List ℕ → List ℕ → List ℕ → Made0 → Type 0
Nests0 src t8 t9 o = o.answer ≡ Going → Nested src o.state o.draft t8 t9

module _ {src : List ℕ} (s : State) (d : Production) {t8 t9 : List ℕ} (here : s.at ≤ length src) (ten : length s.counts.n ≡ 10) (x : Nested src s d t8 t9) (free : Actionless d.action) where
  -- a bare symbol,
  bare_nested : (t1 : List ℕ) → let o = bare_item src s d t1 t9 in o.answer ≡ Going → Nested src o.state o.draft t8 o.a
  unfolding bare_item
  bare_nested t1 = go (token_at src s.at) (token_placed src s.at (token_at src s.at) refl).1
    where
      go : (t : Result (Place × ℕ × Bool) ℕ) → Tokened src s.at t → let o = bare_found t src s d t1 t9 in o.answer ≡ Going → Nested src o.state o.draft t8 o.a
      go (Ok (p, end, q)) y g =
          let k = symbol_kind src (count s tokens) t1 p.from p.to in
          let o = push_row s symbols (symbol_cells k p.from p.to) t9 in
          let w = (pass_going src false end o.answer o.state g).went in
          symbol_nested s d x free s ten refl refl k p.from p.to end y.0 y.1 y.2 w (pass_on src false end o.answer o.state).state (pass_counts src false end o.answer o.state) ((pass_onward src end o.state o.answer y.3).beyond g)
      go (Err k) y g = absurd (refused_going _ g)

  -- a quoted one,
  quoted_rows_lem : (t1 : List ℕ) (from to end : ℕ) → s.at ≤ from → from < to → to ≤ end → end ≤ length src → let o = quoted_rows src s d from to end t1 t9 in o.answer ≡ Going → Nested src o.state o.draft t8 o.b
  unfolding quoted_rows token_symbol
  quoted_rows_lem t1 from to end a b c e = go (gap_at s.kind true src end) (gapped s.kind true src end e)
    where
      entry : (i : ℕ) → end ≤ i → (r : Answer) (v : Out1) → TokensAlone (with_at s i) v.state → let o = symbol_entered r v from to t9 in o.answer ≡ Going → Nested src o.state (with_to d end) t8 o.b
      entry i h Going v z g =
          let o = push_row v.state symbols (symbol_cells 2 from to) t9 in
          let tens = z.ten ∙ ten in
          let p = push_is v.state symbols (symbol_cells 2 from to) t9 (omega arith) (rw tens (omega arith)) g in
          let l = z.at in
          let k = p.at in
          symbol_nested s d x free v.state tens (z.other symbols (λ e. omega arith)) (z.other productions (λ e. omega arith)) 2 from to end a b c g o.state refl (omega arith)
      entry i h Done v z g = absurd (done_going g)
      entry i h (Refused f) v z g = absurd (refused_going f g)

      go : (q : Result (ℕ × ℕ) Refusal) → Gapped src end q → let o = quoted_gap q src s d from to end t1 t9 in o.answer ≡ Going → Nested src o.state o.draft t8 o.b
      go (Ok (i, n)) y g =
          let h = y.0 in
          let v = enter_step src (with_at s i) from to false t1 in
          entry i (omega arith) v.answer v (enter_still src (with_at s i) from to false t1) g
      go (Err f) y g = absurd (refused_going f g)

  quoted_nested : (t1 : List ℕ) → let o = quoted_item src s d t1 t9 in o.answer ≡ Going → Nested src o.state o.draft t8 o.b
  unfolding quoted_item
  quoted_nested t1 = go (token_at src s.at) (token_placed src s.at (token_at src s.at) refl).1
    where
      go : (t : Result (Place × ℕ × Bool) ℕ) → Tokened src s.at t → let o = quoted_found t src s d t1 t9 in o.answer ≡ Going → Nested src o.state o.draft t8 o.b
      go (Ok (p, end, q)) y g = quoted_rows_lem t1 p.from p.to end y.0 y.1 y.2 y.3 g
      go (Err k) y g = absurd (refused_going _ g)

  -- the name of a `%prec`,
  prec_name_lem : (t1 : List ℕ) → let o = prec_name src s d t1 in o.answer ≡ Going → Nested src o.state o.draft t8 t9
  unfolding prec_name
  prec_name_lem t1 = go (token_at src s.at) (token_placed src s.at (token_at src s.at) refl).1
    where
      go : (t : Result (Place × ℕ × Bool) ℕ) → Tokened src s.at t → let o = prec_found t src s d t1 in o.answer ≡ Going → Nested src o.state o.draft t8 t9
      go (Ok (p, end, q)) y g =
          let a = y.0 in
          let b = y.1 in
          let c = y.2 in
          let v = enter_step src s p.from p.to false t1 in
          let z = enter_still src s p.from p.to false t1 in
          let u = (pass_on src false end v.answer v.state).state in
          let k = pass_counts src false end v.answer v.state in
          let n : count u symbols ≡ count s symbols = rw k (z.other symbols (λ e. omega arith)) in
          let m : count u productions ≡ count s productions = rw k (z.other productions (λ e. omega arith)) in
          rw (n, m) (lying_to x free end u.at (omega arith) ((pass_onward src end v.state v.answer y.3).beyond g))
      go (Err k) y g = absurd (refused_going _ g)

  -- an action,
  action_nested : s.at < length src → Nests0 src t8 t9 (action_item src s d)
  unfolding action_item after_action
  action_nested h = go (action_at src s.at) (action_placed src s.at h (action_at src s.at) refl).1 (action_ended src s.at h)
    where
      go : (t : Result (ℕ × ℕ × Place × Place) ℕ) → Acted src s.at t → ActionEnded t → Nests0 src t8 t9 (action_found t src s d)
      go (Ok (end, n, p, q)) y z = gap (gap_at s.kind true src end) (gapped s.kind true src end y.1)
        where
          gap : (r : Result (ℕ × ℕ) Refusal) → Gapped src end r → Nests0 src t8 t9 (action_gap r src s (with_action (with_to d s.at) p.from p.to q.from q.to))
          gap (Ok (i, n)) w =
              let a = w.0 in
              let b = y.2 in
              on_test (Nests0 src t8 t9) (may_end src i) _ _
              (λ e g. lying_action x p.from p.to q.from q.to i (omega arith) y.3 (omega arith) e)
              (λ e g. absurd (refused_going _ g))
          gap (Err f) w = λ g. absurd (refused_going f g)
      go (Err i) y z = λ g. absurd (refused_going _ g)

  -- and `%empty`, behind its keyword
  empty_nested : (first : ℕ) → Nests0 src t8 t9 (empty_item src s d first)
  unfolding empty_item
  empty_nested first = go (gap_at s.kind true src s.at) (gapped s.kind true src s.at here)
    where
      go : (g : Result (ℕ × ℕ) Refusal) → Gapped src s.at g → Nests0 src t8 t9 (empty_gap g src s d first)
      go (Ok (k, n)) y =
          let b = y.0 in
          on_test (Nests0 src t8 t9) (eqb (count s symbols) d.first && may_follow src k) _ _
          (λ e g. lying_to x free s.at k (omega arith) (omega arith))
          (λ e g. absurd (refused_going _ g))
      go (Err f) y = λ g. absurd (refused_going f g)

-- `%prec`, behind its keyword
prec_nested : {src : List ℕ} (s : State) (d : Production) {t8 t9 : List ℕ} → s.at ≤ length src → length s.counts.n ≡ 10 → Nested src s d t8 t9 → Actionless d.action → (t1 : List ℕ) → let o = prec_item src s d t1 in o.answer ≡ Going → Nested src o.state o.draft t8 t9
unfolding prec_item
prec_nested {src} s d {t8} {t9} here ten x free t1 = go (gap_at s.kind true src s.at) (gapped s.kind true src s.at here)
  where
    go : (g : Result (ℕ × ℕ) Refusal) → Gapped src s.at g → let o = prec_gap g src s d t1 in o.answer ≡ Going → Nested src o.state o.draft t8 t9
    go (Ok (i, n)) y = let b = y.0 in prec_name_lem (with_at s i) d y.1 ten (lying_on x free i (omega arith)) free t1
    go (Err f) y = λ g. absurd (refused_going f g)

end_undone : (s : State) (d : Production) (t8 : List ℕ) → (end_production s d t8).answer ≡ Done → ⊥
unfolding end_production push_production push_row
end_undone s d t8 = add_cases (λ (o : Added). (pushed o.ok s productions (production_cells (with_last d (count s symbols))) o.cells).answer ≡ Done → ⊥) (count s productions) _ t8 (λ room low e. done_going (sym e)) (λ full e. refused_undone _ e)

end_at : (s : State) (d : Production) (t8 : List ℕ) → (end_production s d t8).state.at ≡ s.at
unfolding end_production push_production push_row
end_at s d t8 = add_cases (λ (o : Added). (pushed o.ok s productions (production_cells (with_last d (count s symbols))) o.cells).state.at ≡ s.at) (count s productions) _ t8 (λ room low. refl) (λ full. refl)

-- A production that ends: what is over where the reading stands behind its `|` or `;`.
module _ {src : List ℕ} (s : State) (d : Production) {t8 t9 : List ℕ} (ten : length s.counts.n ≡ 10) (x : Nested src s d t8 t9) (j : ℕ) (h : s.at < j) where
  end_nested : let o = end_production (with_at s j) d t8 in o.answer ≡ Going → (u : State) → u.counts ≡ o.state.counts → j ≤ u.at → Settled u o.a t9
  unfolding end_production push_production
  end_nested g u k l =
      let p = push_is (with_at s j) productions _ t8 (omega arith) (rw ten (omega arith)) g in
      let n : count u symbols ≡ count s symbols = rw k (p.other symbols (λ e. omega arith)) in
      let m : count u productions ≡ count s productions + 1 = rw k p.counted in
      rw (n, m, p.cells) (lying_over d x p.room p.low u.at (omega arith))

  -- behind a `|` the next one begins,
  bar_nested : let o = bar_item src (with_at s j) d t8 in j ≤ length src → o.answer ≡ Going → Nested src o.state o.draft o.a t9
  unfolding bar_item
  bar_nested i g =
      let e = end_production (with_at s j) d t8 in
      let w = (pass_going src false j e.answer e.state g).went in
      lying_begun (end_nested w (pass_on src false j e.answer e.state).state (pass_counts src false j e.answer e.state) ((pass_onward src j e.state e.answer i).beyond g))

  -- behind a `;` none
  semi_nested : let o = end_item (with_at s j) d t8 in o.answer ≡ Done → Settled o.state o.a t9
  unfolding end_item
  semi_nested g =
      let e = end_production (with_at s j) d t8 in
      let w = went e.answer (end_undone (with_at s j) d t8) g in
      end_nested w e.state refl (omega (arith, end_at (with_at s j) d t8))
    where
      went : (a : Answer) → (a ≡ Done → ⊥) → rule_end a ≡ Done → a ≡ Going
      went Going n z = refl
      went Done n z = absurd (n refl)
      went (Refused f) n z = let y : ◌≡◌ {A = ℕ} 0 1 = cc in absurd (omega arith)

-- Where `|` or `;` stands, that is the item.
abbrev Ending : Sort → Type 0
Ending BarSort = Unit {0}
Ending EndSort = Unit {0}
Ending QuotedSort = ⊥
Ending PrecSort = ⊥
Ending ActionSort = ⊥
Ending EmptySort = ⊥
Ending BareSort = ⊥

ending : (src : List ℕ) (at : ℕ) → may_end src at ≡ true → Ending (sort_at src at).sort
unfolding sort_at first_mark may_end
ending src at e =
    on_test (λ (r : Spotted). Ending r.sort) (starts_at (124 ∷ []) src at) _ _ (λ t. tt)
    (λ f. on_test (λ (r : Spotted). Ending r.sort) (starts_at (59 ∷ []) src at) _ _ (λ t. tt)
    (λ g. absurd (ends_not src at f g e)))

-- spacing behind a step that isn't done isn't
pub pass_undone : (src : List ℕ) (j : ℕ) (s : State) (a : Answer) → (a ≡ Done → ⊥) → (pass_on src false j a s).answer ≡ Done → ⊥
unfolding past_gap
pass_undone src j s Going h = go (gap_at s.kind true src j)
  where
    go : (g : Result (ℕ × ℕ) Refusal) → (past false g s).answer ≡ Done → ⊥
    go (Ok (i, n)) e = let z : ◌≡◌ {A = ℕ} 0 1 = cc in omega arith
    go (Err f) e = let z : ◌≡◌ {A = ℕ} 0 1 = cc in omega arith
pass_undone src j s Done h = h
pass_undone src j s (Refused f) h = h

-- Any item: places stay nested where the reading goes on, and all is settled where the rule is done.
pub record Kept (src : List ℕ) (o : Made3) : Type 0 where
  pub next : o.answer ≡ Going → Nested src o.state o.draft o.t8 o.t9
  pub over : o.answer ≡ Done → Settled o.state o.t8 o.t9

module _ {src : List ℕ} {done : ℕ} {s : State} {d : Production} (T : AllTables) (f : Far src done s T) (w : Draft src done s d) (x : Nested src s d T.t8 T.t9) where
  by_sort_lem : (k : Sort) (j : ℕ) → s.at ≤ j → j ≤ length src → ((k ≡ BareSort → ⊥) → s.at < j) → (may_end src s.at ≡ true → Ending k) → Kept src (by_sort k src s (with_at s j) d T.t1 T.t8 T.t9)
  unfolding bar_item end_item
  by_sort_lem BarSort j h l b e =
      let a = b (λ z. let y : ◌≡◌ {A = ℕ} 0 1 = cc in omega arith) in
      let p = end_production (with_at s j) d T.t8 in
      record { next = bar_nested s d f.ten x j a l; over = λ g. absurd (pass_undone src j p.state p.answer (end_undone (with_at s j) d T.t8) g) }
  by_sort_lem EndSort j h l b e =
      let a = b (λ z. let y : ◌≡◌ {A = ℕ} 0 1 = cc in omega arith) in
      record { next = λ g. absurd (rule_end_never (end_production (with_at s j) d T.t8).answer g); over = semi_nested s d f.ten x j a }
  by_sort_lem QuotedSort j h l b e =
      let free = shut_free src s.at d.to d.action x.shut e in
      record { next = quoted_nested s d f.here f.ten x free T.t1; over = λ g. absurd ((quoted_far f w).undone g) }
  by_sort_lem PrecSort j h l b e =
      let free = shut_free src s.at d.to d.action x.shut e in
      record { next = prec_nested (with_at s j) d l f.ten (lying_on x free j h) free T.t1; over = λ g. absurd ((prec_far (far_at f j h l) (draft_on w (with_at s j) h refl)).undone g) }
  by_sort_lem ActionSort j h l b e =
      let a = b (λ z. let y : ◌≡◌ {A = ℕ} 0 1 = cc in omega arith) in
      let free = shut_free src s.at d.to d.action x.shut e in
      record { next = action_nested s d f.here f.ten x free (omega arith); over = λ g. absurd ((action_far f w (omega arith)).undone g) }
  by_sort_lem EmptySort j h l b e =
      let free = shut_free src s.at d.to d.action x.shut e in
      record { next = empty_nested (with_at s j) d l f.ten (lying_on x free j h) free s.at; over = λ g. absurd ((empty_far (far_at f j h l) (draft_on w (with_at s j) h refl) s.at).undone g) }
  by_sort_lem BareSort j h l b e =
      let free = shut_free src s.at d.to d.action x.shut e in
      record { next = bare_nested s d f.here f.ten x free T.t1; over = λ g. absurd ((bare_far f w).undone g) }

  -- one item
  pub item_nested : Kept src (item_step src s d T.t1 T.t8 T.t9)
  unfolding item_step
  item_nested = let y = spots src s.at f.here in by_sort_lem (sort_at src s.at).sort (sort_at src s.at).end y.onward y.inside y.beyond (ending src s.at)

-- A rule under way: sound so far and nested; and one whose items are over.
pub record Both (src : List ℕ) (T : AllTables) (at : ℕ) (o : Made3) : Type 0 where
  pub going : Ongoing src T at o
  pub nested : Nested src o.state o.draft o.t8 o.t9

abbrev Onto : List ℕ → AllTables → ℕ → Made3 → Made3 → Type 0
Onto src T at o p = Both src T at p × (length src - p.state.at < length src - o.state.at)

abbrev Ends : Made3 → Type 0
Ends o = o.answer ≡ Going → Settled o.state o.t8 o.t9

turn_nested : (src : List ℕ) (T : AllTables) (at : ℕ) (o : Made3) → Both src T at o → Either (Onto src T at o) Ends (item_turn src o)
unfolding item_turn
turn_nested src T at o z = go (leb (length src) o.state.at)
  where
    x : Ongoing src T at o
    x = z.going

    next : (a : Answer) (p : Made3) → p.answer ≡ a → Steps src T o.state.at p → Kept src p → Either (Onto src T at o) Ends (item_next a p)
    next Going p e y k =
        let l = y.further (going_taken p.answer e) in
        let h = y.far.here in
        let b = x.forth in
        (record { going = record { done = y.done; far = y.far; draft = y.next e; forth = omega arith }; nested = k.next e }, omega arith)
    next Done p e y k = λ g. k.over e
    next (Refused f) p e y k = λ g. absurd (going_taken p.answer g f e)

    go : (b : Bool) → Either (Onto src T at o) Ends (item_or_end b o (item_step src o.state o.draft o.t1 o.t8 o.t9))
    go true = λ g. absurd (refused_going _ g)
    go false =
        let U = filled T o.t1 o.t8 o.t9 in
        next (item_step src o.state o.draft o.t1 o.t8 o.t9).answer (item_step src o.state o.draft o.t1 o.t8 o.t9) refl (item_far U x.far x.draft) (item_nested U x.far x.draft z.nested)

-- The items of a rule: where it ended with `;`, all is settled.
pub items_nested : {src : List ℕ} {done : ℕ} {s : State} {d : Production} (T : AllTables) → Far src done s T → Draft src done s d → Nested src s d T.t8 T.t9 → let o = item_list src s d T.t1 T.t8 T.t9 in o.answer ≡ Going → Settled o.state o.t8 o.t9
unfolding item_list
items_nested {src} {done} {s} {d} T f w x =
    turns_end (Both src T s.at) Ends (λ o. length src - o.state.at) (item_turn src) (turn_nested src T s.at) (suc (length src)) _ (omega arith)
    (record { going = record { done = done; far = f; draft = w; forth = omega arith }; nested = x })
