-- Bodies of kind 4 stand in the source, and their refusals are fatal ones of the source. Assumes nothing.
use Rattle.std.specs.Prelude.{Option, Some, None, Result, Ok, Err}
use Prim.Native.Nat.{ℕ, ◌+◌, ◌≤◌}
use mathlib.Core.Path.{◌≡◌, refl}
use mathlib.Core.List.{List}
use mathlib.Core.Logic.{inr}
use mathlib.Core.Bool.{Bool, true, false}
use native.Mathlib.Omega.{arith}
use lib.ListN.{length}
use Rattle.scan.specs.Scan.{is_at}
use Rattle.scan.proofs.Bytes.{at_below}
use Rattle.texts.specs.Action.{braced_at, Braced}
use Rattle.texts.specs.Mark.{marked_at, Marked}
use Rattle.texts.proofs.Laws.{mark_placed, braces}
use Rattle.tables.specs.Layout.{bodies}
use Rattle.grammar.specs.declared.State.{State}
use Rattle.grammar.specs.declared.Refusal.{Refusal}
use Rattle.grammar.specs.Cells.{body_cells}
use Rattle.grammar.specs.State.{Passed, gap_at}
use Rattle.bodies.specs.Bodies.{body_row, prologue_closed, prologue_decl, union_closed, union_opened, union_body, union_from, union_decl}
use Rattle.bodies.proofs.Laws.{mark_inside, brace_inside}
use Rattle.refusals.specs.Steps.{GapIn, Sited1}
use Rattle.refusals.proofs.Steps.{gap_in, pass_in, push_to}

-- the state stands behind the keyword, which begins at `at` and is there where P alone
module _ (src : List ℕ) (P : Type 0) (s : State) (h : s.at ≤ length src) (q : P) (at : ℕ) (w : at ≤ length src) (t : List ℕ) where
  -- 42 gives the body's place
  row_in : (sort from to end : ℕ) → Passed src from to → end ≤ length src → Sited1 src P (body_row src s sort from to end t)
  unfolding body_row
  row_in sort from to end p k = pass_in src P false end k (push_to src P s h bodies (body_cells sort from to) t (inr (q, omega arith, omega arith)) p)

  -- `%{`: 51 is at it
  pub prologue_in : Sited1 src P (prologue_decl src s at t)
  unfolding prologue_decl
  prologue_in = go (marked_at src s.at) (mark_placed src s.at (marked_at src s.at) refl).1
    where
      go : (b : Option (ℕ × ℕ)) → Marked src s.at b → Sited1 src P (prologue_closed b src s at t)
      go (Some (to, n)) x =
          let y = mark_inside src s.at (Some (to, n)) to n x refl in
          let a = y.0 in
          let b = y.1 in
          row_in 1 s.at to (to + 2) (record { onward = a; inside = omega arith }) b
      go None x = record { here = h; stops = (q, w) }

  -- `%union`: 52 is at it
  pub union_in : Sited1 src P (union_decl src s at t)
  unfolding union_decl union_body
  union_in = gap (gap_at s.kind false src s.at) (gap_in s.kind false src P s.at h)
    where
      brace : (i : ℕ) → (b : Option (ℕ × ℕ)) → Braced src (i + 1) b → Sited1 src P (union_closed b src s at i t)
      brace i (Some (to, n)) x =
          let y = brace_inside src (i + 1) (Some (to, n)) to n x refl in
          let a = y.0 in
          let b = y.1 in
          row_in 2 (i + 1) to (to + 1) (record { onward = a; inside = omega arith }) (omega arith)
      brace i None x = record { here = h; stops = (q, w) }

      opened : (i : ℕ) (b : Bool) → is_at 123 src i ≡ b → Sited1 src P (union_opened b src s at i t)
      opened i true e = let l = at_below src i 123 e in brace i (braced_at src (i + 1)) (braces src (i + 1) (omega arith))
      opened i false e = record { here = h; stops = (q, w) }

      gap : (g : Result (ℕ × ℕ) Refusal) → GapIn src P s.at g → Sited1 src P (union_from g src s at t)
      gap (Ok (i, n)) x = opened i (is_at 123 src i) refl
      gap (Err e) x = record { here = h; stops = x }
