-- The items of a rule that two sources have alike are read alike, up to the `;`. Assumes nothing.
use Prim.Native.Nat.{ℕ, zero, suc, ◌-◌, ◌<◌}
use mathlib.Core.Path.{◌≡◌, refl, sym, ◌∙◌, ap}
use mathlib.Core.List.{List}
use native.Mathlib.Omega.{arith}
use lib.ListN.{length}
use Rattle.scan.specs.Loop.{more, stop, turns}
use Rattle.scan.proofs.Bytes.{told}
use Rattle.tables.specs.Layout.{productions}
use Rattle.grammar.specs.declared.State.{State}
use Rattle.grammar.specs.declared.Answer.{Answer}
use Rattle.grammar.specs.declared.Answer.TheVariants.{Going, Done, Refused}
use Rattle.grammar.specs.Sound.{AllTables}
use Rattle.items.proofs.Far.{filled}
use Rattle.grammar.specs.State.{Out1, with_at}
use Rattle.grammar.proofs.Touch.{refused_going}
use Rattle.productions.specs.declared.Production.{Production}
use Rattle.items.specs.declared.Sort.{Sort}
use Rattle.items.specs.declared.Sort.TheVariants.{BarSort, EndSort, QuotedSort, PrecSort, ActionSort, EmptySort, BareSort}
use Rattle.items.specs.declared.Spotted.{Spotted}
use Rattle.items.specs.Items.{Made3, end_production, rule_end, end_item, sort_at, item_step, item_next, item_turn}
use Rattle.alike.proofs.Near.{near_at, near_one}
use Rattle.alike.proofs.Again.{turns_more, turns_stop}
use Rattle.printed_rules.specs.Items.{Item, Item1, quoted1, bare1, named1, empty1, action1, bar1, Items2, end2, item2}
use Rattle.printed_rules.proofs.Onward.{item_low, end_low, item_forth}
use Rattle.printed_rules.proofs.Read.{Step1, went, over, halted, step_read, Opens, goes, halts, end_opens}
use Rattle.printed_rules.proofs.Back.{item_here, item_there}
use Rattle.printed_rules.proofs.Alike.{Like3, Step3, end_like, end_kind, item_like, turn_is, end_is}

-- only the `;` says that a rule is done
item_undone : (src : List ℕ) (o : Made3) → ((sort_at src o.state.at).sort ≡ EndSort → ⊥) → (item_step src o.state o.draft o.t1 o.t8 o.t9).answer ≡ Done → ⊥
item_undone src o n = go _ _ (step_read src o.state o.draft o.t1 o.t8 o.t9)
  where
    go : (a : Answer) (u : State) → Step1 o.state.kind src o.state.at a u → a ≡ Done → ⊥
    go _ u (went of w g f) e = let z : ◌≡◌ {A = ℕ} 0 1 = cc in omega arith
    go _ u (over of s) e = n (ap (λ (x : Spotted). x.sort) s)
    go _ u halted e = let z : ◌≡◌ {A = ℕ} 0 1 = cc in omega arith

pushed_undone : (s : State) (d : Production) (t8 : List ℕ) → (end_production s d t8).answer ≡ Done → ⊥
pushed_undone s d t8 = go _ _ (end_opens s d t8)
  where
    go : (a : Answer) (u : State) → Opens s.at a u → a ≡ Done → ⊥
    go _ u (goes h) e = let z : ◌≡◌ {A = ℕ} 0 1 = cc in omega arith
    go _ u halts e = let z : ◌≡◌ {A = ℕ} 0 1 = cc in omega arith

-- an item is no `;`
abbrev Unended : Sort → Type 0
Unended BarSort = Unit {0}
Unended EndSort = ⊥
Unended QuotedSort = Unit {0}
Unended PrecSort = Unit {0}
Unended ActionSort = Unit {0}
Unended EmptySort = Unit {0}
Unended BareSort = Unit {0}

no : (x : Sort) → x ≡ EndSort → Unended x → ⊥
no x e u = told Unended e u

item_sort : (kind : ℕ) (src : List ℕ) (i e : ℕ) (x : Item) → Item1 kind src i e x → (sort_at src i).sort ≡ EndSort → ⊥
item_sort kind src i e x (quoted1 s w) h = no QuotedSort (sym (ap (λ (y : Spotted). y.sort) s) ∙ h) tt
item_sort kind src i e x (bare1 s w) h = no BareSort (sym (ap (λ (y : Spotted). y.sort) s) ∙ h) tt
item_sort kind src i e x (named1 s g w) h = no PrecSort (sym (ap (λ (y : Spotted). y.sort) s) ∙ h) tt
item_sort kind src i e x (empty1 s) h = no EmptySort (sym (ap (λ (y : Spotted). y.sort) s) ∙ h) tt
item_sort kind src i e x (action1 s a is) h = no ActionSort (sym (ap (λ (y : Spotted). y.sort) s) ∙ h) tt
item_sort kind src i e x (bar1 s) h = no BarSort (sym (ap (λ (y : Spotted). y.sort) s) ∙ h) tt

-- where the items go on to their `;`, the first did
module _ (src : List ℕ) (n : ℕ) (o : Made3) (h : o.state.at < length src) where
  abbrev first : Made3
  first = item_step src o.state o.draft o.t1 o.t8 o.t9

  step_goes : (first.answer ≡ Done → ⊥) → (turns (suc n) (item_turn src) o).answer ≡ Going → first.answer ≡ Going
  step_goes un r = go first.answer refl
    where
      go : (a : Answer) → first.answer ≡ a → first.answer ≡ Going
      go Going e = e
      go Done e = absurd (un e)
      go (Refused f) e = rw (turns_stop (item_turn src) n o first (turn_is src o h ∙ ap (λ (a : Answer). item_next a first) e)) at r

  turn_more : first.answer ≡ Going → item_turn src o ≡ more first
  turn_more e = turn_is src o h ∙ ap (λ (a : Answer). item_next a first) e

-- the `;`
module _ (src : List ℕ) (o : Made3) (e : ℕ) (h : o.state.at < length src) (s : sort_at src o.state.at ≡ record { sort = EndSort; end = e }) where
  abbrev ended : Out1
  ended = end_production (with_at o.state e) o.draft o.t8

  abbrev after : Made3
  after = record { answer = Going; state = ended.state; draft = o.draft; t1 = o.t1; t8 = ended.a; t9 = o.t9 }

  end_step : item_step src o.state o.draft o.t1 o.t8 o.t9 ≡ record { answer = rule_end ended.answer; state = ended.state; draft = o.draft; t1 = o.t1; t8 = ended.a; t9 = o.t9 }
  unfolding end_item
  end_step = end_is src o.state o.draft o.t1 o.t8 o.t9 e s

  end_turn : ended.answer ≡ Going → item_turn src o ≡ stop after
  end_turn g = turn_is src o h ∙ ap (λ (x : Made3). item_next x.answer x) end_step ∙ ap (λ (a : Answer). item_next (rule_end a) (record { answer = rule_end a; state = ended.state; draft = o.draft; t1 = o.t1; t8 = ended.a; t9 = o.t9 })) g

  end_goes : (n : ℕ) → (ended.answer ≡ Done → ⊥) → (turns (suc n) (item_turn src) o).answer ≡ Going → ended.answer ≡ Going
  end_goes n un r = go ended.answer refl
    where
      go : (a : Answer) → ended.answer ≡ a → ended.answer ≡ Going
      go Going k = k
      go Done k = absurd (un k)
      go (Refused f) k =
          let t = turn_is src o h ∙ ap (λ (x : Made3). item_next x.answer x) end_step ∙ ap (λ (a : Answer). item_next (rule_end a) (record { answer = rule_end a; state = ended.state; draft = o.draft; t1 = o.t1; t8 = ended.a; t9 = o.t9 })) k in
          absurd (refused_going f (rw (turns_stop (item_turn src) n o _ t) at r))

module _ (kind : ℕ) (src out : List ℕ) (T W : AllTables) where
  pub items_like : (n m : ℕ) (o z : Made3) (c d : ℕ) (xs : List Item) → Items2 kind src out o.state.at z.state.at c d xs → length src - o.state.at < n → length out - z.state.at < m
      → Like3 kind src out T W o z → (turns n (item_turn src) o).answer ≡ Going → Step3 kind src out T W (turns n (item_turn src) o) (turns m (item_turn out) z) c d
  items_like zero m o z c d xs p h i l r = absurd (omega arith)
  items_like (suc n) zero o z c d xs p h i l r = absurd (omega arith)
  items_like (suc n) (suc m) o z c d xs (end2 {e = e} {f = f} s1 s2) h i l r =
      let b0 = end_low src o.state.at e s1 in
      let b1 = end_low out z.state.at f s2 in
      let g = end_goes src o e b0 s1 n (pushed_undone _ _ _) r in
      let at = near_at src out o.state z.state (filled T o.t1 o.t8 o.t9) (filled W z.t1 z.t8 z.t9) l.near e f in
      let y = end_like src out (with_at o.state e) (with_at z.state f) at.like o.draft z.draft l.draft o.t8 z.t8 (l.near.tables productions) g in
      rw (turns_stop (item_turn src) n o _ (end_turn src o e b0 s1 g), turns_stop (item_turn out) m z _ (end_turn out z f b1 s2 y.going))
      (record { going = refl; at = y.stays; to = y.stays'; like = record { of = end_kind (with_at o.state e) o.draft o.t8 ∙ l.of; near = near_one src out (with_at o.state e) (with_at z.state f) _ _ at productions (omega arith) _ _ y; draft = l.draft } })
  items_like (suc n) (suc m) o z c d xs (item2 {e = e} {f = f} {k = k} {l = k'} {m = a} {n = b} {x = x} {xs = ys} w g g' q q' rest) h i l r =
      let w1 = item_here kind src out w in
      let w2 = item_there kind src out w in
      let u0 = item_low kind src o.state.at e x w1 in
      let u1 = item_low kind out z.state.at f x w2 in
      let v0 = item_forth kind src o.state.at e k a x w1 g in
      let v1 = item_forth kind out z.state.at f k' b x w2 g' in
      let ans = step_goes src n o u0 (item_undone src o (item_sort kind src o.state.at e x w1)) r in
      let y = item_like kind src out T W o z l e f k k' a b x w g g' q q' ans in
      let one = turn_more src n o u0 ans in
      let two = turn_more out m z u1 y.going in
      let t = items_like n m (item_step src o.state o.draft o.t1 o.t8 o.t9) (item_step out z.state z.draft z.t1 z.t8 z.t9) c d ys (rw (y.at, y.to) rest) (rw y.at (omega arith)) (rw y.to (omega arith)) y.like (rw (turns_more (item_turn src) n o _ one) at r) in
      rw (turns_more (item_turn src) n o _ one, turns_more (item_turn out) m z _ two) t
