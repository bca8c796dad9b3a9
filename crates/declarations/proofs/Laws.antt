-- One declaration: what the keyword's arm gives is what the step gives, and the reading moves on. Assumes nothing.
use Rattle.std.specs.Prelude.{Result, Ok, Err}
use Prim.Native.Nat.{ℕ, ◌≤◌, ◌<◌}
use mathlib.Core.Path.{◌≡◌, sym, ◌∙◌, ap}
use mathlib.Core.List.{List}
use mathlib.Core.Bool.{true}
use native.Mathlib.Omega.{arith}
use lib.ListN.{length}
use Rattle.keywords.specs.declared.Keyword.{Keyword}
use Rattle.keywords.specs.declared.Keyword.TheVariants.{NoKeyword}
use Rattle.keywords.specs.declared.Seen.{Seen}
use Rattle.keywords.specs.Keywords.{seen_at, Sees}
use Rattle.grammar.specs.declared.State.{State}
use Rattle.grammar.specs.declared.Answer.{Answer}
use Rattle.grammar.specs.declared.Answer.TheVariants.{Going, Done, Refused}
use Rattle.grammar.specs.declared.Cause.TheVariants.{PrematureEnd}
use Rattle.grammar.specs.declared.Refusal.{Refusal}
use Rattle.grammar.specs.declared.Refusal.TheVariants.{Fault}
use Rattle.scan.specs.Loop.{more, stop}
use borrow.Author.Tests.{le-leb, lt-leb}
use Rattle.grammar.specs.State.{with_at, gap_at, Passed, Moves}
use Rattle.declarations.specs.Declarations.{Declared, Out, by_keyword, by_seen, decl_step, decl_turn, decl_run, decl_all}

module _ (src : List ℕ) (s : State) (D : Declared) (r : Seen) (q : r ≡ seen_at s.kind src s.at) where
  pub arm : (w : Keyword) (o : Out) → r.word ≡ w → o ≡ by_keyword w src s (with_at s r.end) D → o ≡ decl_step src s D
  unfolding decl_step
  arm w o p e = e ∙ ap (λ (x : Keyword). by_keyword x src s (with_at s r.end) D) (sym p) ∙ ap (λ (x : Seen). by_seen x src s D) q

-- behind a keyword the reading is further on
pub further : (src : List ℕ) (at : ℕ) (r : Seen) (w : Keyword) (a : Answer) (after : ℕ) → Sees src at r → r.word ≡ w → (w ≡ NoKeyword → ⊥) → Passed src r.end after → Moves src at a after
further src at r w a after x e d p =
    let h = x.beyond (λ z. d (sym e ∙ z)) in
    let k = p.onward in
    record { onward = omega arith; inside = p.inside; beyond = λ g. omega arith }

-- a turn of the section: it ends with the source, which is 10, else there is a declaration
module _ (src : List ℕ) (s : State) (D : Declared) where
  abbrev here : Out
  here = record { answer = Going; state = s; tables = D }

  pub turn_end : length src ≤ s.at → decl_turn src here ≡ stop (record { answer = Refused (Fault PrematureEnd s.at); state = s; tables = D })
  unfolding decl_turn
  turn_end h = rw (le-leb (length src) s.at h)

  module _ (h : s.at < length src) (x : Answer) (u : State) (E : Declared) (q : record { answer = x; state = u; tables = E } ≡ decl_step src s D) where
    pub turn_more : x ≡ Going → decl_turn src here ≡ more (record { answer = Going; state = u; tables = E })
    unfolding decl_turn
    turn_more e = rw (lt-leb (length src) s.at h, ← q, e)

    pub turn_done : x ≡ Done → decl_turn src here ≡ stop (record { answer = x; state = u; tables = E })
    unfolding decl_turn
    turn_done e = rw (lt-leb (length src) s.at h, ← q, e)

    pub turn_refused : (f : Refusal) → x ≡ Refused f → decl_turn src here ≡ stop (record { answer = x; state = u; tables = E })
    unfolding decl_turn
    turn_refused f e = rw (lt-leb (length src) s.at h, ← q, e)

-- spacing, then the declarations
module _ (src : List ℕ) (s : State) (D : Declared) (g : Result (ℕ × ℕ) Refusal) (q : g ≡ gap_at s.kind true src s.at) where
  pub all_from : (i n : ℕ) (o : Out) → g ≡ Ok (i, n) → o ≡ decl_run src (with_at s i) D → o ≡ decl_all src s D
  unfolding decl_all
  all_from i n o e h = rw (← q, e) h

  pub all_refused : (f : Refusal) → g ≡ Err f → record { answer = Refused f; state = s; tables = D } ≡ decl_all src s D
  unfolding decl_all
  all_refused f e = rw (← q, e)
