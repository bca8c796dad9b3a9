-- What a body is in the source: where the declaration goes on, its text stands there and table 17 has exactly its row more. Assumes nothing.
use Rattle.std.specs.Prelude.{Option, Some, None, Result, Ok, Err}
use Prim.Native.Nat.{ℕ, ◌+◌, ◌-◌, ◌<◌}
use mathlib.Core.Path.{◌≡◌, refl, ap}
use mathlib.Core.List.{List}
use mathlib.Core.Bool.{Bool, true, false}
use native.Mathlib.Omega.{arith}
use lib.ListN.{length, get_or}
use Rattle.scan.specs.Scan.{is_at}
use Rattle.scan.proofs.Bytes.{at_true}
use Rattle.trim.specs.Trim.{trimmed}
use Rattle.texts.specs.Action.{braced_at, span_of, acted, action_at}
use Rattle.texts.specs.Balance.{IsAction}
use Rattle.texts.specs.Mark.{marked_at}
use Rattle.texts.proofs.Balance.{action_is}
use Rattle.texts.proofs.Marks.{mark_first}
use Rattle.tables.specs.Layout.{bodies}
use Rattle.grammar.specs.declared.State.{State}
use Rattle.grammar.specs.declared.Answer.TheVariants.{Going}
use Rattle.grammar.specs.declared.Refusal.{Refusal}
use Rattle.grammar.specs.Cells.{body_cells}
use Rattle.grammar.specs.State.{Out1, gap_at, push_row}
use Rattle.grammar.proofs.Counting.{same_high}
use Rattle.grammar.proofs.Touch.{refused_going, push_more, pass_count, pass_going}
use Rattle.bodies.specs.Bodies.{body_row, prologue_closed, prologue_decl, union_closed, union_opened, union_body, union_from, union_decl, OneBody, PrologueRead, UnionRead}

-- what stands between a brace and the one that is found to close it balances
pub balanced : (src : List ℕ) (i to n : ℕ) → i < length src → braced_at src (i + 1) ≡ Some (to, n) → IsAction src i to
unfolding action_at acted
balanced src i to n h e = let z : to + 1 - 1 ≡ to = omega arith in rw z at (action_is src i h (to + 1) n (trimmed src (i + 1) to) (span_of (i + 1) (trimmed src (i + 1) to)) (ap (acted src i) e)).0

module _ (src : List ℕ) (s : State) (at : ℕ) (t : List ℕ) (three : length s.posix.n ≡ 3) where
  one_row : (sort from to end : ℕ) → (body_row src s sort from to end t).answer ≡ Going → OneBody s t (body_row src s sort from to end t) sort from to
  unfolding body_row
  one_row sort from to end g =
      let o = push_row s bodies (body_cells sort from to) t in
      let y = pass_going src false end o.answer o.state g in
      rw (pass_count src false end o.answer o.state bodies) (push_more s bodies (body_cells sort from to) t (same_high s bodies _ (omega arith) (rw three (omega arith))) y.went).rows

  abbrev IsPrologue : Out1 → Type 0
  IsPrologue o = o.answer ≡ Going → PrologueRead src s t o

  -- Where `%{` goes on, its text is what stands before the first `%}`.
  pub prologue_read : IsPrologue (prologue_decl src s at t)
  unfolding prologue_decl
  prologue_read = go (marked_at src s.at) refl
    where
      go : (b : Option (ℕ × ℕ)) → marked_at src s.at ≡ b → IsPrologue (prologue_closed b src s at t)
      go (Some (to, n)) e g = record { to = to; text = ((mark_first src s.at to n).0 e).0; row = one_row 1 s.at to (to + 2) g }
      go None e g = absurd (refused_going _ g)

  -- Where `%union` goes on, spacing without a line end leads to a brace, and its text is what stands balanced between that and the one that closes it.
  abbrev IsUnion : Out1 → Type 0
  IsUnion o = o.answer ≡ Going → UnionRead src s t o

  pub union_read : IsUnion (union_decl src s at t)
  unfolding union_decl union_body
  union_read = gap (gap_at s.kind false src s.at) refl
    where
      brace : (i n : ℕ) → gap_at s.kind false src s.at ≡ Ok (i, n) → (i < length src) × (get_or src i 0 ≡ 123) → (b : Option (ℕ × ℕ)) → braced_at src (i + 1) ≡ b → IsUnion (union_closed b src s at i t)
      brace i n q o (Some (to, m)) e g = record { opens = i; lines = n; to = to; gap = q; brace = o.1; text = balanced src i to m o.0 e; row = one_row 2 (i + 1) to (to + 1) g }
      brace i n q o None e g = absurd (refused_going _ g)

      open_at : (i n : ℕ) → gap_at s.kind false src s.at ≡ Ok (i, n) → (b : Bool) → is_at 123 src i ≡ b → IsUnion (union_opened b src s at i t)
      open_at i n q true e = brace i n q (at_true src i 123 e) (braced_at src (i + 1)) refl
      open_at i n q false e = λ g. absurd (refused_going _ g)

      gap : (g : Result (ℕ × ℕ) Refusal) → gap_at s.kind false src s.at ≡ g → IsUnion (union_from g src s at t)
      gap (Ok (i, n)) q = open_at i n q (is_at 123 src i) refl
      gap (Err f) q = λ g. absurd (refused_going _ g)
