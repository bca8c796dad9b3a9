-- Bodies keep soundness so far, whatever their answer. Assumes nothing.
use Rattle.std.specs.Prelude.{Option, Some, None, Result, Ok, Err}
use Prim.Native.Nat.{ℕ, ◌+◌, ◌≤◌}
use mathlib.Core.Path.{◌≡◌, refl}
use mathlib.Core.List.{List}
use mathlib.Core.Bool.{Bool, true, false}
use native.Mathlib.Omega.{arith}
use lib.ListN.{length}
use Rattle.scan.specs.Scan.{is_at}
use Rattle.scan.proofs.Bytes.{at_below}
use Rattle.texts.specs.Action.{braced_at, Braced}
use Rattle.texts.specs.Mark.{marked_at, Marked}
use Rattle.texts.proofs.Laws.{mark_placed, braces}
use Rattle.tables.specs.Layout.{bodies}
use Rattle.grammar.specs.declared.State.{State}
use Rattle.grammar.specs.declared.Refusal.{Refusal}
use Rattle.grammar.specs.Cells.{body_cells}
use Rattle.grammar.specs.State.{Passed, gap_at, Gapped}
use Rattle.grammar.specs.Sound.{AllTables, Far}
use Rattle.grammar.proofs.Kept.{gapped, Far1, push_held, behind1_far}
use Rattle.bodies.specs.Bodies.{body_row, prologue_closed, prologue_decl, union_closed, union_opened, union_body, union_from, union_decl}
use Rattle.bodies.proofs.Laws.{mark_inside, brace_inside}

module _ {src : List ℕ} {done : ℕ} {s : State} {T : AllTables} (f : Far src done s T) where
  row_far : (sort from to end : ℕ) → 1 ≤ sort → sort ≤ 2 → Passed src from to → s.at ≤ end → end ≤ length src → Far1 src done T bodies (body_row src s sort from to end T.t17)
  unfolding body_row
  row_far sort from to end l m p h k =
      behind1_far false end _ h k (push_held f bodies (omega arith) (λ e. omega arith) (body_cells sort from to) refl (record { least = l; most = m; text = p }) (λ r l. tt))

  -- `%{`
  pub prologue_far : (at : ℕ) → Far1 src done T bodies (prologue_decl src s at T.t17)
  unfolding prologue_decl
  prologue_far at = go (marked_at src s.at) (mark_placed src s.at (marked_at src s.at) refl).1
    where
      go : (b : Option (ℕ × ℕ)) → Marked src s.at b → Far1 src done T bodies (prologue_closed b src s at T.t17)
      go (Some (to, n)) x =
          let y = mark_inside src s.at (Some (to, n)) to n x refl in
          let a = y.0 in
          let b = y.1 in
          row_far 1 s.at to (to + 2) (omega arith) (omega arith) (record { onward = a; inside = omega arith }) (omega arith) b
      go None x = f

  -- `%union`
  pub union_far : (at : ℕ) → Far1 src done T bodies (union_decl src s at T.t17)
  unfolding union_decl union_body
  union_far at = gap (gap_at s.kind false src s.at) (gapped s.kind false src s.at f.here)
    where
      brace : (i : ℕ) → s.at ≤ i → (b : Option (ℕ × ℕ)) → Braced src (i + 1) b → Far1 src done T bodies (union_closed b src s at i T.t17)
      brace i h (Some (to, n)) x =
          let y = brace_inside src (i + 1) (Some (to, n)) to n x refl in
          let a = y.0 in
          let b = y.1 in
          row_far 2 (i + 1) to (to + 1) (omega arith) (omega arith) (record { onward = a; inside = omega arith }) (omega arith) (omega arith)
      brace i h None x = f

      open_at : (i : ℕ) → s.at ≤ i → (b : Bool) → is_at 123 src i ≡ b → Far1 src done T bodies (union_opened b src s at i T.t17)
      open_at i h true e = let l = at_below src i 123 e in brace i h (braced_at src (i + 1)) (braces src (i + 1) (omega arith))
      open_at i h false e = f

      gap : (g : Result (ℕ × ℕ) Refusal) → Gapped src s.at g → Far1 src done T bodies (union_from g src s at T.t17)
      gap (Ok (i, n)) x = let a = x.0 in open_at i (omega arith) (is_at 123 src i) refl
      gap (Err e) x = f
