-- One item: what its sort's arm gives is what the step gives, and the reading moves on; and the turns of a rule's items. Assumes nothing.
use Prim.Native.Nat.{ℕ, ◌≤◌, ◌<◌}
use mathlib.Core.Path.{◌≡◌, sym, ◌∙◌, ap}
use mathlib.Core.List.{List}
use native.Mathlib.Omega.{arith}
use lib.ListN.{length}
use borrow.Author.Tests.{le-leb, lt-leb}
use Rattle.scan.specs.Loop.{more, stop}
use Rattle.grammar.specs.declared.State.{State}
use Rattle.grammar.specs.declared.Cause.TheVariants.{IncompleteRule}
use Rattle.grammar.specs.declared.Refusal.{Refusal}
use Rattle.grammar.specs.declared.Refusal.TheVariants.{Fault}
use Rattle.grammar.specs.declared.Answer.{Answer}
use Rattle.grammar.specs.declared.Answer.TheVariants.{Going, Done, Refused}
use Rattle.grammar.specs.State.{with_at, Passed, Moves}
use Rattle.productions.specs.declared.Production.{Production}
use Rattle.items.specs.declared.Sort.{Sort}
use Rattle.items.specs.declared.Sort.TheVariants.{BareSort}
use Rattle.items.specs.declared.Spotted.{Spotted}
use Rattle.items.specs.Items.{Made3, sort_at, Spots, by_sort, by_spotted, item_step, item_turn}

module _ (src : List ℕ) (s : State) (d : Production) (t1 t8 t9 : List ℕ) (r : Spotted) (q : r ≡ sort_at src s.at) where
  pub arm : (w : Sort) (o : Made3) → r.sort ≡ w → o ≡ by_sort w src s (with_at s r.end) d t1 t8 t9 → o ≡ item_step src s d t1 t8 t9
  unfolding item_step
  arm w o p e = e ∙ ap (λ (x : Sort). by_sort x src s (with_at s r.end) d t1 t8 t9) (sym p) ∙ ap (λ (x : Spotted). by_spotted x src s d t1 t8 t9) q

-- behind a mark the reading is further on
pub further : (src : List ℕ) (at : ℕ) (r : Spotted) (w : Sort) (a : Answer) (after : ℕ) → Spots src at r → r.sort ≡ w → (w ≡ BareSort → ⊥) → Passed src r.end after → Moves src at a after
further src at r w a after x e d p =
    let h = x.beyond (λ z. d (sym e ∙ z)) in
    let k = p.onward in
    record { onward = omega arith; inside = p.inside; beyond = λ g. omega arith }

pub at_mark : (src : List ℕ) (at after : ℕ) (r : Spotted) → Spots src at r → after ≡ r.end → Passed src r.end after
at_mark src at after r x e = rw e (record { onward = omega arith; inside = x.inside })

-- a turn: the items end with the source, which is 4, else there is an item
module _ (src : List ℕ) (s : State) (d : Production) (t1 t8 t9 : List ℕ) where
  abbrev here : Made3
  here = record { answer = Going; state = s; draft = d; t1 = t1; t8 = t8; t9 = t9 }

  pub turn_end : length src ≤ s.at → item_turn src here ≡ stop (record { answer = Refused (Fault IncompleteRule s.at); state = s; draft = d; t1 = t1; t8 = t8; t9 = t9 })
  unfolding item_turn
  turn_end h = rw (le-leb (length src) s.at h)

  module _ (h : s.at < length src) (x : Answer) (u : State) (e : Production) (u1 u8 u9 : List ℕ) (q : record { answer = x; state = u; draft = e; t1 = u1; t8 = u8; t9 = u9 } ≡ item_step src s d t1 t8 t9) where
    pub turn_more : x ≡ Going → item_turn src here ≡ more (record { answer = Going; state = u; draft = e; t1 = u1; t8 = u8; t9 = u9 })
    unfolding item_turn
    turn_more g = rw (lt-leb (length src) s.at h, ← q, g)

    pub turn_done : x ≡ Done → item_turn src here ≡ stop (record { answer = Going; state = u; draft = e; t1 = u1; t8 = u8; t9 = u9 })
    unfolding item_turn
    turn_done g = rw (lt-leb (length src) s.at h, ← q, g)

    pub turn_refused : (f : Refusal) → x ≡ Refused f → item_turn src here ≡ stop (record { answer = Refused f; state = u; draft = e; t1 = u1; t8 = u8; t9 = u9 })
    unfolding item_turn
    turn_refused f g = rw (lt-leb (length src) s.at h, ← q, g)
