-- Bodies: one law for each answer. Assumes nothing.
use Rattle.std.specs.Prelude.{Option, Some, None, Result, Ok, Err}
use Prim.Native.Nat.{ℕ, ◌+◌, ◌≤◌, ◌<◌}
use mathlib.Core.Path.{◌≡◌, sym, ap, ◌∙◌}
use mathlib.Core.List.{List}
use mathlib.Core.Bool.{Bool, true, false}
use native.Mathlib.Omega.{arith}
use lib.ListN.{length}
use Rattle.scan.specs.Scan.{is_at}
use Rattle.texts.specs.Action.{braced_at, Braced}
use Rattle.texts.specs.Mark.{marked_at, Marked}
use Rattle.tables.specs.Layout.{bodies}
use Rattle.grammar.specs.declared.State.{State}
use Rattle.grammar.specs.declared.Cause.TheVariants.{PrologueNotClosed, UnionNotOpened, UnionNotClosed}
use Rattle.grammar.specs.declared.Refusal.{Refusal}
use Rattle.grammar.specs.declared.Refusal.TheVariants.{Fault}
use Rattle.grammar.specs.declared.Answer.TheVariants.{Refused}
use Rattle.grammar.specs.Cells.{body_cells}
use Rattle.grammar.specs.State.{Out1, gap_at, push_row, behind1}
use Rattle.grammar.proofs.Touch.{pass_counts, push_ten}
use Rattle.bodies.specs.Bodies.{body_row, prologue_closed, prologue_decl, union_closed, union_body, union_from, union_decl}

-- No body changes a count of the ten.
pub row_counts : (src : List ℕ) (s : State) (sort from to end : ℕ) (t : List ℕ) → (body_row src s sort from to end t).state.counts ≡ s.counts
unfolding body_row
row_counts src s sort from to end t =
    pass_counts src false end (push_row s bodies (body_cells sort from to) t).answer (push_row s bodies (body_cells sort from to) t).state ∙ push_ten s bodies (body_cells sort from to) t (omega arith)

pub row_is : (src : List ℕ) (s : State) (sort from to end : ℕ) (t : List ℕ) (o : Out1) → o ≡ behind1 src false end (push_row s bodies (body_cells sort from to) t) → o ≡ body_row src s sort from to end t
unfolding body_row
row_is src s sort from to end t o e = e

module _ (src : List ℕ) (s : State) (at : ℕ) (t : List ℕ) where
  -- a prologue
  module _ (r : Option (ℕ × ℕ)) (q : r ≡ marked_at src s.at) where
    pub prologue_row : (to n : ℕ) (o : Out1) → r ≡ Some (to, n) → o ≡ body_row src s 1 s.at to (to + 2) t → o ≡ prologue_decl src s at t
    unfolding prologue_decl
    prologue_row to n o e h = h ∙ ap (λ (b : Option (ℕ × ℕ)). prologue_closed b src s at t) (sym e ∙ q)

    pub prologue_open : r ≡ None → ◌≡◌ {A = Out1} (record { answer = Refused (Fault PrologueNotClosed at); state = s; a = t }) (prologue_decl src s at t)
    unfolding prologue_decl
    prologue_open e = ap (λ (b : Option (ℕ × ℕ)). prologue_closed b src s at t) (sym e ∙ q)

  -- a union whose brace opens at i, or not
  module _ (i : ℕ) where
    module _ (b : Bool) (here : b ≡ is_at 123 src i) where
      module _ (stands : b ≡ true) (r : Option (ℕ × ℕ)) (q : r ≡ braced_at src (i + 1)) where
        union_by : (x : Option (ℕ × ℕ)) → r ≡ x → union_closed x src s at i t ≡ union_body src s at i t
        unfolding union_body
        union_by x e = rw (sym here ∙ stands) (ap (λ (y : Option (ℕ × ℕ)). union_closed y src s at i t) (sym e ∙ q))

        pub union_row : (to n : ℕ) (o : Out1) → r ≡ Some (to, n) → o ≡ body_row src s 2 (i + 1) to (to + 1) t → o ≡ union_body src s at i t
        union_row to n o e k = k ∙ union_by (Some (to, n)) e

        pub union_open : r ≡ None → ◌≡◌ {A = Out1} (record { answer = Refused (Fault UnionNotClosed at); state = s; a = t }) (union_body src s at i t)
        union_open e = union_by None e

      pub union_none : b ≡ false → ◌≡◌ {A = Out1} (record { answer = Refused (Fault UnionNotOpened at); state = s; a = t }) (union_body src s at i t)
      unfolding union_body
      union_none e = rw (sym here ∙ e)

  -- behind the keyword
  module _ (g : Result (ℕ × ℕ) Refusal) (q : g ≡ gap_at s.kind false src s.at) where
    pub union_from_lem : (i n : ℕ) (o : Out1) → g ≡ Ok (i, n) → o ≡ union_body src s at i t → o ≡ union_decl src s at t
    unfolding union_decl
    union_from_lem i n o e h = h ∙ ap (λ (x : Result (ℕ × ℕ) Refusal). union_from x src s at t) (sym e ∙ q)

    pub union_refused : (f : Refusal) → g ≡ Err f → ◌≡◌ {A = Out1} (record { answer = Refused f; state = s; a = t }) (union_decl src s at t)
    unfolding union_decl
    union_refused f e = ap (λ (x : Result (ℕ × ℕ) Refusal). union_from x src s at t) (sym e ∙ q)

-- where the mark and the brace stand
module _ (src : List ℕ) (from : ℕ) (r : Option (ℕ × ℕ)) where
  pub mark_inside : (to n : ℕ) → Marked src from r → r ≡ Some (to, n) → (from ≤ to) × (to + 2 ≤ length src)
  mark_inside to n x e =
      let y = rw e at x in
      let a = y.0 in
      (omega arith, y.1)

  pub brace_inside : (to n : ℕ) → Braced src from r → r ≡ Some (to, n) → (from ≤ to) × (to < length src)
  brace_inside to n x e =
      let y = rw e at x in
      let a = y.0 in
      (omega arith, y.1)
