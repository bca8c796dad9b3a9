-- Document 02, request Nine: "`%{` to `%}`, `%union` with a balanced body", and table 17's rows of both.
use Rattle.std.specs.Prelude.{ℕ, ◌+◌, ◌≡◌, List, [], ◌∷◌, ◌++◌, Bool, true, false, get_or, Option, Some, None, Result, Ok, Err}
use Rattle.scan.specs.Scan.{is_at}
use Rattle.texts.specs.Action.{braced_at}
use Rattle.texts.specs.Balance.{IsAction}
use Rattle.texts.specs.Mark.{marked_at, FirstMark}
use Rattle.tables.specs.Layout.{bodies, width}
use Rattle.tables.specs.Rows.{rows_of}
use Rattle.tables.specs.Table.{room}
use Rattle.grammar.specs.declared.State.{State}
use Rattle.grammar.specs.declared.Cause.TheVariants.{PrologueNotClosed, UnionNotOpened, UnionNotClosed}
use Rattle.grammar.specs.declared.Refusal.TheVariants.{Fault}
use Rattle.grammar.specs.declared.Refusal.{Refusal}
use Rattle.grammar.specs.Cells.{body_cells}
use Rattle.grammar.specs.State.{Out1, count, gap_at, push_row, behind1, tied1, refused}

-- "17 bodies (1 for `%{`, 2 for union; place)", then spacing
unfoldable pub body_row : List ℕ → State → ℕ → ℕ → ℕ → ℕ → List ℕ → Out1
body_row src s sort from to end t = behind1 src false end (push_row s bodies (body_cells sort from to) t)

-- "51 `%{` not closed, at `%{`", which begins at `at`; the state stands behind it
abbrev pub prologue_closed : Option (ℕ × ℕ) → List ℕ → State → ℕ → List ℕ → Out1
prologue_closed (Some (to, n)) src s at t = body_row src s 1 s.at to (to + 2) t
prologue_closed None src s at t = tied1 (refused (Fault PrologueNotClosed at) s) t

unfoldable pub prologue_decl : List ℕ → State → ℕ → List ℕ → Out1
prologue_decl src s at t = prologue_closed (marked_at src s.at) src s at t

-- "52 union not opened or not closed, at `%union`", which begins at `at`; its brace stands at i
abbrev pub union_closed : Option (ℕ × ℕ) → List ℕ → State → ℕ → ℕ → List ℕ → Out1
union_closed (Some (to, n)) src s at i t = body_row src s 2 (i + 1) to (to + 1) t
union_closed None src s at i t = tied1 (refused (Fault UnionNotClosed at) s) t

abbrev pub union_opened : Bool → List ℕ → State → ℕ → ℕ → List ℕ → Out1
union_opened true src s at i t = union_closed (braced_at src (i + 1)) src s at i t
union_opened false src s at i t = tied1 (refused (Fault UnionNotOpened at) s) t

unfoldable pub union_body : List ℕ → State → ℕ → ℕ → List ℕ → Out1
union_body src s at i t = union_opened (is_at 123 src i) src s at i t

-- no line end directly behind the keyword
abbrev pub union_from : Result (ℕ × ℕ) Refusal → List ℕ → State → ℕ → List ℕ → Out1
union_from (Ok (i, n)) src s at t = union_body src s at i t
union_from (Err f) src s at t = tied1 (refused f s) t

unfoldable pub union_decl : List ℕ → State → ℕ → List ℕ → Out1
union_decl src s at t = union_from (gap_at s.kind false src s.at) src s at t

-- table 17 has exactly one row more, of this sort and place
abbrev pub OneBody : State → List ℕ → Out1 → ℕ → ℕ → ℕ → Type 0
OneBody s t o sort from to = rows_of (width bodies) (count o.state bodies) o.a ≡ rows_of (width bodies) (count s bodies) t ++ (body_cells sort from to ∷ [])

-- What is read, without a scan: of a prologue the bytes up to the first mark behind `%{`,
pub record PrologueRead (src : List ℕ) (s : State) (t : List ℕ) (o : Out1) : Type 0 where
  pub to : ℕ
  pub text : FirstMark src s.at to
  pub row : OneBody s t o 1 s.at to

-- of a union the balanced bytes between its brace, which spacing without a line end leads to, and the one that closes it
pub record UnionRead (src : List ℕ) (s : State) (t : List ℕ) (o : Out1) : Type 0 where
  pub opens : ℕ
  pub lines : ℕ
  pub to : ℕ
  pub gap : gap_at s.kind false src s.at ≡ Ok (opens, lines)
  pub brace : get_or src opens 0 ≡ 123
  pub text : IsAction src opens to
  pub row : OneBody s t o 2 (opens + 1) to

-- Where they go on: table 17 has room for the row, and spacing follows the body, all of which ends at `end`;
pub record BodyFits (src : List ℕ) (s : State) (t : List ℕ) (end : ℕ) : Type 0 where
  pub free : room (width bodies) (count s bodies) t ≡ true
  pub to : ℕ
  pub lines : ℕ
  pub gap : gap_at s.kind true src end ≡ Ok (to, lines)

-- and of a union, spacing without a line end leads from its keyword to this brace.
pub record UnionOpens (src : List ℕ) (s : State) (opens : ℕ) : Type 0 where
  pub lines : ℕ
  pub gap : gap_at s.kind false src s.at ≡ Ok (opens, lines)
  pub brace : get_or src opens 0 ≡ 123
