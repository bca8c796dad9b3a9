-- The first of the marks: it stands here, or the later ones are tried; where a mark lies. Actions and `%empty`: one law for each answer. Assumes nothing.
use Rattle.std.specs.Prelude.{Result, Ok, Err}
use Prim.Native.Nat.{ℕ, ◌+◌, ◌≤◌}
use mathlib.Core.Path.{◌≡◌, refl, sym, ◌∙◌}
use mathlib.Core.List.{List, [], ◌∷◌}
use mathlib.Core.Bool.{Bool, true, false, ◌&&◌, ◌||◌, and-eq-true_iff, false≢true}
use native.Mathlib.Omega.{arith}
use lib.Dec.{ltb, eqb}
use lib.ListN.{length}
use borrow.Author.Tests.{ltb-true, eq-eqb}
use Rattle.scan.specs.Scan.{is_at, begins, starts_at}
use Rattle.scan.proofs.Bytes.{on_test, starts_fits, drop_key, at_true}
use Rattle.scan.specs.declared.Place.{Place}
use Rattle.texts.specs.Action.{action_at}
use Rattle.tables.specs.Layout.{symbols}
use Rattle.grammar.specs.declared.State.{State}
use Rattle.grammar.specs.declared.Cause.TheVariants.{IncompleteAction, NonEmptyProduction, NotTerminated}
use Rattle.grammar.specs.declared.Refusal.{Refusal}
use Rattle.grammar.specs.declared.Refusal.TheVariants.{Fault}
use Rattle.grammar.specs.declared.Answer.TheVariants.{Going}
use Rattle.grammar.specs.State.{count, with_at, gap_at}
use Rattle.productions.specs.declared.Production.{Production}
use Rattle.items.specs.declared.Sort.TheVariants.{BareSort}
use Rattle.items.specs.declared.Spotted.{Spotted}
use Rattle.items.specs.Items.{Made0, Mark, marks, prec_word, first_mark, sort_at, Spots, with_to, with_action, refused0, may_end, action_gap, after_action, action_item, may_follow, empty_gap, empty_item}

module _ (m : Mark) (ms : List Mark) (src : List ℕ) (at : ℕ) (b : Bool) (is : b ≡ starts_at m.word src at) where
  pub mark_hit : b ≡ true → record { sort = m.is; end = at + length m.word } ≡ first_mark (m ∷ ms) src at
  unfolding first_mark
  mark_hit h = rw (first_mark, ← is, h)

  pub mark_miss : b ≡ false → first_mark ms src at ≡ first_mark (m ∷ ms) src at
  unfolding first_mark
  mark_miss h = rw (first_mark, ← is, h)

-- a word of one byte stands where the byte does
pub starts_one : (b : ℕ) (s : List ℕ) (k : ℕ) → is_at b s k ≡ true → starts_at (b ∷ []) s k ≡ true
unfolding starts_at begins
starts_one b s k t = let h = at_true s k b t in rw (drop_key s k b h.0 h.1, begins, eq-eqb b b refl)

-- where neither mark stands, neither `|` nor `;` does
pub ends_not : (src : List ℕ) (at : ℕ) → starts_at (124 ∷ []) src at ≡ false → starts_at (59 ∷ []) src at ≡ false → may_end src at ≡ true → ⊥
unfolding may_end
ends_not src at f g = go (is_at 124 src at) (is_at 59 src at) refl refl
  where
    go : (x y : Bool) → is_at 124 src at ≡ x → is_at 59 src at ≡ y → (x || y) ≡ true → ⊥
    go true y p q h = false≢true (sym f ∙ starts_one 124 src at p)
    go false true p q h = false≢true (sym g ∙ starts_one 59 src at q)
    go false false p q h = false≢true h

pub mark_none : (src : List ℕ) (at : ℕ) → record { sort = BareSort; end = at } ≡ first_mark [] src at
unfolding first_mark
mark_none src at = refl

-- each mark has a byte
abbrev filled : List Mark → Bool
filled [] = true
filled (m ∷ ms) = ltb 0 (length m.word) && filled ms

-- so that what is spotted lies in the source, behind where it was sought
module _ (src : List ℕ) (at : ℕ) (h : at ≤ length src) where
  first_spots : (ms : List Mark) → filled ms ≡ true → Spots src at (first_mark ms src at)
  unfolding first_mark
  first_spots [] l = record { onward = omega arith; inside = h; beyond = λ d. absurd (d refl) }
  first_spots (m ∷ ms) l =
      let k = (and-eq-true_iff (ltb 0 (length m.word)) (filled ms)).0 l in
      let one = ltb-true 0 (length m.word) k.0 in
      on_test (Spots src at) (starts_at m.word src at) _ _
      (λ t. let f = starts_fits m.word src at t one in record { onward = omega arith; inside = f; beyond = λ d. omega arith })
      (λ t. first_spots ms k.1)

  pub spots : Spots src at (sort_at src at)
  unfolding sort_at
  spots = first_spots marks refl

  pub sort_placed : (r : Spotted) → r ≡ sort_at src at → (r ≡ sort_at src at) × Spots src at r
  sort_placed r e = (e, rw e spots)

-- what may stand behind an action, and behind `%empty`
module _ (src : List ℕ) (k : ℕ) where
  pub may_end_is : (x y : Bool) → x ≡ is_at 124 src k → y ≡ is_at 59 src k → (x || y) ≡ may_end src k
  unfolding may_end
  may_end_is x y p q = rw (← p, ← q)

  pub may_follow_is : (x y z : Bool) → x ≡ may_end src k → y ≡ is_at 123 src k → z ≡ starts_at prec_word src k → ((x || y) || z) ≡ may_follow src k
  unfolding may_follow
  may_follow_is x y z p q r = rw (← p, ← q, ← r)

-- behind an action
module _ (src : List ℕ) (s : State) (d : Production) (end : ℕ) (g : Result (ℕ × ℕ) Refusal) (q : g ≡ gap_at s.kind true src end) where
  module _ (i n : ℕ) (e : g ≡ Ok (i, n)) (b : Bool) (p : b ≡ may_end src i) where
    pub action_ends : b ≡ true → record { answer = Going; state = with_at s i; draft = d } ≡ after_action src s d end
    unfolding after_action
    action_ends h = rw (← q, e, action_gap, ← p, h)

    pub action_more : b ≡ false → refused0 (Fault NotTerminated i) (with_at s i) d ≡ after_action src s d end
    unfolding after_action
    action_more h = rw (← q, e, action_gap, ← p, h)

  pub action_gap_lem : (f : Refusal) → g ≡ Err f → refused0 f s d ≡ after_action src s d end
  unfolding after_action
  action_gap_lem f e = rw (← q, e)

-- an action
module _ (src : List ℕ) (s : State) (d : Production) (r : Result (ℕ × ℕ × Place × Place) ℕ) (q : r ≡ action_at src s.at) where
  pub action_body : (end n : ℕ) (x y : Place) (m : Production) (o : Made0) → r ≡ Ok (end, n, x, y) → m ≡ with_action d x.from x.to y.from y.to → o ≡ after_action src s (with_to m s.at) end → o ≡ action_item src s d
  unfolding action_item
  action_body end n x y m o e w h = rw (← q, e) (rw w at h)

  pub action_open : (i : ℕ) → r ≡ Err i → refused0 (Fault IncompleteAction i) s d ≡ action_item src s d
  unfolding action_item
  action_open i e = rw (← q, e)

-- `%empty`
module _ (src : List ℕ) (s : State) (d : Production) (first : ℕ) (g : Result (ℕ × ℕ) Refusal) (q : g ≡ gap_at s.kind true src s.at) where
  module _ (k n : ℕ) (e : g ≡ Ok (k, n)) (m : ℕ) (c : m ≡ count s symbols) (b : Bool) (p : b ≡ may_follow src k) where
    pub empty_stands : (eqb m d.first && b) ≡ true → record { answer = Going; state = with_at s k; draft = with_to d s.at } ≡ empty_item src s d first
    unfolding empty_item
    empty_stands h = rw (← q, e, empty_gap, ← c, ← p, h)

    pub empty_not : (eqb m d.first && b) ≡ false → refused0 (Fault NonEmptyProduction first) s d ≡ empty_item src s d first
    unfolding empty_item
    empty_not h = rw (← q, e, empty_gap, ← c, ← p, h)

  pub empty_gap_lem : (f : Refusal) → g ≡ Err f → refused0 f s d ≡ empty_item src s d first
  unfolding empty_item
  empty_gap_lem f e = rw (← q, e)
