-- A body is read exactly where its text stands, its row finds room and spacing follows it; 51 is given exactly where no `%}` stands behind `%{`, and 52 exactly where no brace opens behind `%union`, or none closes it. Assumes nothing.
use Rattle.std.specs.Prelude.{Option, Some, None, Result, Ok, Err}
use Prim.Native.Nat.{ℕ, ◌+◌, ◌≤◌, ◌<◌}
use mathlib.Core.Path.{◌≡◌, refl, sym, ap, ◌∙◌}
use mathlib.Core.List.{List}
use mathlib.Core.Bool.{Bool, true, false, false≢true}
use mathlib.Core.Logic.{◌↔◌}
use native.Mathlib.Omega.{arith}
use lib.ListN.{length, get_or}
use Rattle.scan.proofs.Tuples.{ok_2}
use Rattle.scan.specs.Scan.{is_at}
use Rattle.scan.proofs.Bytes.{at_true, at_yes}
use Rattle.spacing.specs.declared.SpacingError.{SpacingError}
use Rattle.spacing.specs.declared.SpacingError.TheVariants.{LineEnd, OpenComment}
use Rattle.spacing.specs.Spacing.{spaces_at}
use Rattle.texts.specs.Action.{braced_at, acted, action_at}
use Rattle.texts.specs.Balance.{IsAction}
use Rattle.texts.specs.Mark.{marked_at, MarkAt, FirstMark}
use Rattle.texts.proofs.Balance.{action_one, open_iff}
use Rattle.texts.proofs.Marks.{mark_one, mark_first, no_mark_iff}
use Rattle.tables.specs.Layout.{bodies, width}
use Rattle.tables.specs.Table.{Added, room}
use Rattle.tables.proofs.Cases.{add_cases, room_iff}
use Rattle.grammar.specs.declared.State.{State}
use Rattle.grammar.specs.declared.Cause.{Cause}
use Rattle.grammar.specs.declared.Cause.TheVariants.{ReachedEol, IncompleteComment, PrologueNotClosed, UnionNotOpened, UnionNotClosed}
use Rattle.grammar.specs.declared.Refusal.{Refusal}
use Rattle.grammar.specs.declared.Refusal.TheVariants.{Fault}
use Rattle.grammar.specs.declared.Answer.TheVariants.{Going, Refused}
use Rattle.grammar.specs.Cells.{body_cells}
use Rattle.grammar.specs.State.{Out0, Out1, count, gap_of, gap_at, pushed, push_row, past, past_gap, pass_on}
use Rattle.grammar.proofs.SameKind.{push_kind}
use Rattle.grammar.proofs.Touch.{refused_going, push_goes, pass_going, pass_to}
use Rattle.bodies.specs.Bodies.{body_row, prologue_closed, prologue_decl, union_closed, union_opened, union_body, union_from, union_decl, BodyFits, UnionOpens}
use Rattle.bodies.proofs.Meaning.{balanced}

-- a cause that spacing is not refused for
abbrev OfBodies : Cause → Type 0
OfBodies x = (ReachedEol ≡ x → ⊥) × (IncompleteComment ≡ x → ⊥)

prologue_own : OfBodies PrologueNotClosed
prologue_own = (λ q. let z : ◌≡◌ {A = ℕ} 0 1 = cc in omega arith, λ q. let z : ◌≡◌ {A = ℕ} 0 1 = cc in omega arith)

open_own : OfBodies UnionNotClosed
open_own = (λ q. let z : ◌≡◌ {A = ℕ} 0 1 = cc in omega arith, λ q. let z : ◌≡◌ {A = ℕ} 0 1 = cc in omega arith)

none_own : OfBodies UnionNotOpened
none_own = (λ q. let z : ◌≡◌ {A = ℕ} 0 1 = cc in omega arith, λ q. let z : ◌≡◌ {A = ℕ} 0 1 = cc in omega arith)

gap_fault : (kind : ℕ) (ok : Bool) (src : List ℕ) (j : ℕ) (x : Cause) (at : ℕ) → OfBodies x → gap_at kind ok src j ≡ Err (Fault x at) → ⊥
unfolding gap_at gap_of
gap_fault kind ok src j x at d = go (spaces_at kind ok src j)
  where
    go : (r : Result (ℕ × ℕ) SpacingError) → gap_of r ≡ Err (Fault x at) → ⊥
    go (Ok (i, n)) h = let z : ◌≡◌ {A = ℕ} 0 1 = cc in omega arith
    go (Err (LineEnd k)) h = d.0 cc
    go (Err (OpenComment k)) h = d.1 cc

-- the row of a body, and the spacing behind it
module _ (src : List ℕ) (s : State) (t : List ℕ) (sort from to end : ℕ) where
  abbrev row : List ℕ
  row = body_cells sort from to

  row_room : (push_row s bodies row t).answer ≡ Going → room (width bodies) (count s bodies) t ≡ true
  unfolding push_row
  row_room =
      add_cases (λ (o : Added). (pushed o.ok s bodies row o.cells).answer ≡ Going → room (width bodies) (count s bodies) t ≡ true) (count s bodies) row t
      (λ fits low g. (room_iff (width bodies) (count s bodies) t (omega arith)).1 (fits, low))
      (λ full g. absurd (refused_going _ g))

  row_goes : ((body_row src s sort from to end t).answer ≡ Going) ↔ BodyFits src s t end
  unfolding body_row
  row_goes = (
    λ g.
        let y = pass_going src false end (push_row s bodies row t).answer (push_row s bodies row t).state g in
        record { free = row_room y.went; to = y.to; lines = y.lines; gap = ap (λ (k : ℕ). gap_at k true src end) (sym (push_kind s bodies row t)) ∙ y.gap },
    λ x.
        let k = ap (λ (k : ℕ). gap_at k true src end) (push_kind s bodies row t) in
        ap (λ (o : Out0). o.answer) (pass_to src end (push_row s bodies row t).answer (push_row s bodies row t).state x.to x.lines (k ∙ x.gap) (push_goes s bodies row t x.free)),
  )

  -- they are refused for want of room or for spacing alone
  row_fault : (x : Cause) (at : ℕ) → OfBodies x → (body_row src s sort from to end t).answer ≡ Refused (Fault x at) → ⊥
  unfolding body_row push_row past_gap
  row_fault x at d =
      add_cases (λ (o : Added). let p = pushed o.ok s bodies row o.cells in (pass_on src false end p.answer p.state).answer ≡ Refused (Fault x at) → ⊥) (count s bodies) row t
      (λ fits low. go (pushed true s bodies row t).state (gap_at (pushed true s bodies row t).state.kind true src end) refl)
      (λ full h. let z : ◌≡◌ {A = ℕ} 0 1 = cc in omega arith)
    where
      go : (u : State) (g : Result (ℕ × ℕ) Refusal) → gap_at u.kind true src end ≡ g → (past false g u).answer ≡ Refused (Fault x at) → ⊥
      go u (Ok (i, n)) e h = let z : ◌≡◌ {A = ℕ} 0 1 = cc in omega arith
      go u (Err f) e h = let z : f ≡ Fault x at = cc in gap_fault u.kind true src end x at d (e ∙ ap Err z)

module _ (src : List ℕ) (s : State) (at : ℕ) (t : List ℕ) where
  -- `%{` goes on exactly where a mark stands behind it and the rest fits,
  pub prologue_goes : ((prologue_decl src s at t).answer ≡ Going) ↔ ((to : ℕ) × FirstMark src s.at to × BodyFits src s t (to + 2))
  unfolding prologue_decl
  prologue_goes = (there (marked_at src s.at) refl, back (marked_at src s.at) refl)
    where
      there : (b : Option (ℕ × ℕ)) → marked_at src s.at ≡ b → (prologue_closed b src s at t).answer ≡ Going → (to : ℕ) × FirstMark src s.at to × BodyFits src s t (to + 2)
      there (Some (to, n)) e g = (to, ((mark_first src s.at to n).0 e).0, (row_goes src s t 1 s.at to (to + 2)).0 g)
      there None e g = absurd (refused_going _ g)

      back : (b : Option (ℕ × ℕ)) → marked_at src s.at ≡ b → (to : ℕ) × FirstMark src s.at to × BodyFits src s t (to + 2) → (prologue_closed b src s at t).answer ≡ Going
      back (Some (j, n)) e x = let z = mark_one src s.at j x.0 ((mark_first src s.at j n).0 e).0 x.1 in (row_goes src s t 1 s.at j (j + 2)).1 (rw z x.2)
      back None e x = absurd ((no_mark_iff src s.at).0 e x.0 x.1.onward x.1.stands)

  -- and "51 `%{` not closed, at `%{`" is given exactly where none does.
  pub prologue_open_iff : ((prologue_decl src s at t).answer ≡ Refused (Fault PrologueNotClosed at)) ↔ ((k : ℕ) → s.at ≤ k → MarkAt src k → ⊥)
  unfolding prologue_decl
  prologue_open_iff = (there (marked_at src s.at) refl, λ f. ap (λ (b : Option (ℕ × ℕ)). (prologue_closed b src s at t).answer) ((no_mark_iff src s.at).1 f))
    where
      there : (b : Option (ℕ × ℕ)) → marked_at src s.at ≡ b → (prologue_closed b src s at t).answer ≡ Refused (Fault PrologueNotClosed at) → (k : ℕ) → s.at ≤ k → MarkAt src k → ⊥
      there (Some (to, n)) e h = absurd (row_fault src s t 1 s.at to (to + 2) PrologueNotClosed at prologue_own h)
      there None e h = (no_mark_iff src s.at).0 e

-- no brace closes the one at i exactly where none balances
module _ (src : List ℕ) (i : ℕ) (h : i < length src) where
  no_close : (braced_at src (i + 1) ≡ None) ↔ ((to : ℕ) → IsAction src i to → ⊥)
  unfolding action_at acted
  no_close = (λ e. (open_iff src i h).0 (ap (acted src i) e), λ f. go (braced_at src (i + 1)) refl f)
    where
      go : (b : Option (ℕ × ℕ)) → braced_at src (i + 1) ≡ b → ((to : ℕ) → IsAction src i to → ⊥) → b ≡ None
      go (Some (to, n)) e f = absurd (f to (balanced src i to n h e))
      go None e f = refl

-- what a union comes to: by the spacing behind its keyword, its brace, and the brace that closes it
module _ (src : List ℕ) (s : State) (at : ℕ) (t : List ℕ) where
  union_cases : (C : Out1 → Type 0)
      → ((i to : ℕ) → UnionOpens src s i → IsAction src i to → C (body_row src s 2 (i + 1) to (to + 1) t))
      → ((i : ℕ) → UnionOpens src s i → ((to : ℕ) → IsAction src i to → ⊥) → C (record { answer = Refused (Fault UnionNotClosed at); state = s; a = t }))
      → ((i n : ℕ) → gap_at s.kind false src s.at ≡ Ok (i, n) → (get_or src i 0 ≡ 123 → ⊥) → C (record { answer = Refused (Fault UnionNotOpened at); state = s; a = t }))
      → ((f : Refusal) → gap_at s.kind false src s.at ≡ Err f → C (record { answer = Refused f; state = s; a = t }))
      → C (union_decl src s at t)
  unfolding union_decl union_body
  union_cases C row unclosed unopened spacing = gap (gap_at s.kind false src s.at) refl
    where
      brace : (i : ℕ) → i < length src → UnionOpens src s i → (b : Option (ℕ × ℕ)) → braced_at src (i + 1) ≡ b → C (union_closed b src s at i t)
      brace i h o (Some (to, n)) e = row i to o (balanced src i to n h e)
      brace i h o None e = unclosed i o ((no_close src i h).0 e)

      open_at : (i n : ℕ) → gap_at s.kind false src s.at ≡ Ok (i, n) → (b : Bool) → is_at 123 src i ≡ b → C (union_opened b src s at i t)
      open_at i n q true e = let x = at_true src i 123 e in brace i x.0 (record { lines = n; gap = q; brace = x.1 }) (braced_at src (i + 1)) refl
      open_at i n q false e = unopened i n q (λ x. false≢true (sym e ∙ at_yes src i 123 (omega arith) x))

      gap : (g : Result (ℕ × ℕ) Refusal) → gap_at s.kind false src s.at ≡ g → C (union_from g src s at t)
      gap (Ok (i, n)) q = open_at i n q (is_at 123 src i) refl
      gap (Err f) q = spacing f q

  -- spacing ends at one index
  opens_one : (i j n : ℕ) → UnionOpens src s i → gap_at s.kind false src s.at ≡ Ok (j, n) → i ≡ j
  opens_one i j n o e = (ok_2 (sym o.gap ∙ e)).0

  -- `%union` goes on exactly where a brace opens behind it that a brace closes, and the rest fits,
  pub union_goes : ((union_decl src s at t).answer ≡ Going) ↔ ((i : ℕ) × (to : ℕ) × UnionOpens src s i × IsAction src i to × BodyFits src s t (to + 1))
  union_goes = (there, back)
    where
      Stands : Type 0
      Stands = (i : ℕ) × (to : ℕ) × UnionOpens src s i × IsAction src i to × BodyFits src s t (to + 1)

      there : (union_decl src s at t).answer ≡ Going → Stands
      there =
          union_cases (λ (o : Out1). o.answer ≡ Going → Stands)
          (λ i to o x g. (i, to, o, x, (row_goes src s t 2 (i + 1) to (to + 1)).0 g))
          (λ i o f g. absurd (refused_going _ g))
          (λ i n q f g. absurd (refused_going _ g))
          (λ f q g. absurd (refused_going _ g))

      back : Stands → (union_decl src s at t).answer ≡ Going
      back x =
          union_cases (λ (o : Out1). o.answer ≡ Going)
          (λ i to o y.
          let e = opens_one x.0 i o.lines x.2 o.gap in
          let z = action_one src i to x.1 y (rw e at x.3) in
          (row_goes src s t 2 (i + 1) to (to + 1)).1 (rw z x.4))
          (λ i o f. let e = opens_one x.0 i o.lines x.2 o.gap in absurd (f x.1 (rw e at x.3)))
          (λ i n q f. let e = opens_one x.0 i n x.2 q in absurd (f (rw e at x.2.brace)))
          (λ f q. let g = x.2.gap in let z : ◌≡◌ {A = ℕ} 0 1 = cc in absurd (omega arith))

  -- and "52 union not opened or not closed, at `%union`" is given exactly where no brace closes the one that opens,
  pub union_open_iff : ((union_decl src s at t).answer ≡ Refused (Fault UnionNotClosed at)) ↔ ((i : ℕ) × UnionOpens src s i × ((to : ℕ) → IsAction src i to → ⊥))
  union_open_iff = (
    union_cases (λ (o : Out1). o.answer ≡ Refused (Fault UnionNotClosed at) → (i : ℕ) × UnionOpens src s i × ((to : ℕ) → IsAction src i to → ⊥))
        (λ i to o x h. absurd (row_fault src s t 2 (i + 1) to (to + 1) UnionNotClosed at open_own h))
        (λ i o f h. (i, o, f))
        (λ i n q f h. let z : ◌≡◌ {A = ℕ} 0 1 = cc in absurd (omega arith))
        (λ f q h. let z : f ≡ Fault UnionNotClosed at = cc in absurd (gap_fault s.kind false src s.at UnionNotClosed at open_own (q ∙ ap Err z))),
    λ x.
        union_cases (λ (o : Out1). o.answer ≡ Refused (Fault UnionNotClosed at))
        (λ i to o y. let e = opens_one x.0 i o.lines x.1 o.gap in absurd (x.2 to (rw e y)))
        (λ i o f. refl)
        (λ i n q f. let e = opens_one x.0 i n x.1 q in absurd (f (rw e at x.1.brace)))
        (λ f q. let g = x.1.gap in let z : ◌≡◌ {A = ℕ} 0 1 = cc in absurd (omega arith)),
  )

  -- or none opens where the spacing behind the keyword ends.
  pub union_none_iff : ((union_decl src s at t).answer ≡ Refused (Fault UnionNotOpened at)) ↔ ((i : ℕ) × (n : ℕ) × (gap_at s.kind false src s.at ≡ Ok (i, n)) × (get_or src i 0 ≡ 123 → ⊥))
  union_none_iff = (
    union_cases (λ (o : Out1). o.answer ≡ Refused (Fault UnionNotOpened at) → (i : ℕ) × (n : ℕ) × (gap_at s.kind false src s.at ≡ Ok (i, n)) × (get_or src i 0 ≡ 123 → ⊥))
        (λ i to o x h. absurd (row_fault src s t 2 (i + 1) to (to + 1) UnionNotOpened at none_own h))
        (λ i o f h. let z : ◌≡◌ {A = ℕ} 0 1 = cc in absurd (omega arith))
        (λ i n q f h. (i, n, q, f))
        (λ f q h. let z : f ≡ Fault UnionNotOpened at = cc in absurd (gap_fault s.kind false src s.at UnionNotOpened at none_own (q ∙ ap Err z))),
    λ x.
        union_cases (λ (o : Out1). o.answer ≡ Refused (Fault UnionNotOpened at))
        (λ i to o y. let e = opens_one i x.0 x.1 o x.2 in absurd (x.3 (rw e at o.brace)))
        (λ i o f. let e = opens_one i x.0 x.1 o x.2 in absurd (x.3 (rw e at o.brace)))
        (λ i n q f. refl)
        (λ f q. let g = x.2 in let z : ◌≡◌ {A = ℕ} 0 1 = cc in absurd (omega arith)),
  )
