-- The state that a reading step takes and gives, and the steps that add a row.
use Rattle.std.specs.Prelude.{ℕ, ◌+◌, ◌-◌, ◌≤◌, ◌<◌, ◌≡◌, List, Bool, true, false, ◌&&◌, not, length, get_or, set, replicate, ltb, eqb, Option, Some, None, Result, Ok, Err}
use Rattle.scan.specs.Scan.{Edge}
use Rattle.scan.specs.Loop.{Turn, more, stop}
use Rattle.spacing.specs.declared.SpacingError.{SpacingError}
use Rattle.spacing.specs.declared.SpacingError.TheVariants.{LineEnd, OpenComment}
use Rattle.spacing.specs.Spacing.{spaces_at}
use Rattle.tables.specs.Table.{add_row, flag, enter_token, cell, find_name}
use Rattle.grammar.specs.declared.Counts.{Counts}
use Rattle.grammar.specs.declared.PosixCounts.{PosixCounts}
use Rattle.grammar.specs.declared.Singles.{Singles}
use Rattle.grammar.specs.declared.State.{State}
use Rattle.grammar.specs.declared.Cause.TheVariants.{ReachedEol, IncompleteComment}
use Rattle.grammar.specs.declared.Refusal.{Refusal}
use Rattle.grammar.specs.declared.Refusal.TheVariants.{Fault, NoRoom}
use Rattle.grammar.specs.declared.Answer.{Answer}
use Rattle.grammar.specs.declared.Answer.TheVariants.{Going, Done, Refused}
use Rattle.grammar.specs.declared.Repeat.{Repeat}
use Rattle.tables.specs.Layout.{tokens, rules, repeats, posix_from, table_number, row_place, width}
use Rattle.finder.specs.Finder.{Held, Grown}
use Rattle.grammar.specs.Refusals.{number_of_repeat}
use Rattle.grammar.specs.Cells.{token_cells, repeat_cells}

-- what a step on no table, on one, on two, on three and on four gives
pub record Out0 : Type 0 where
  pub answer : Answer
  pub state : State

pub record Out1 : Type 0 where
  pub answer : Answer
  pub state : State
  pub a : List ℕ

pub record Out2 : Type 0 where
  pub answer : Answer
  pub state : State
  pub a : List ℕ
  pub b : List ℕ

pub record Out3 : Type 0 where
  pub answer : Answer
  pub state : State
  pub a : List ℕ
  pub b : List ℕ
  pub c : List ℕ

pub record Out4 : Type 0 where
  pub answer : Answer
  pub state : State
  pub a : List ℕ
  pub b : List ℕ
  pub c : List ℕ
  pub d : List ℕ

-- the state with one part changed
abbrev pub with_at : State → ℕ → State
with_at s i = record { kind = s.kind; at = i; level = s.level; counts = s.counts; posix = s.posix; singles = s.singles; actiontype = s.actiontype }

abbrev pub with_level : State → ℕ → State
with_level s n = record { kind = s.kind; at = s.at; level = n; counts = s.counts; posix = s.posix; singles = s.singles; actiontype = s.actiontype }

abbrev pub with_counts : State → Counts → State
with_counts s c = record { kind = s.kind; at = s.at; level = s.level; counts = c; posix = s.posix; singles = s.singles; actiontype = s.actiontype }

abbrev pub with_posix : State → PosixCounts → State
with_posix s p = record { kind = s.kind; at = s.at; level = s.level; counts = s.counts; posix = p; singles = s.singles; actiontype = s.actiontype }

abbrev pub with_singles : State → Singles → State
with_singles s g = record { kind = s.kind; at = s.at; level = s.level; counts = s.counts; posix = s.posix; singles = g; actiontype = s.actiontype }

abbrev pub with_actiontype : State → Option (ℕ × ℕ) → State
with_actiontype s p = record { kind = s.kind; at = s.at; level = s.level; counts = s.counts; posix = s.posix; singles = s.singles; actiontype = p }

-- the count of the table of index k, of the ten or of the three, and the state with another
abbrev pub count : State → ℕ → ℕ
count s k = elim (ltb k posix_from) [ true ↦ get_or s.counts.n k 0 | false ↦ get_or s.posix.n (k - posix_from) 0 ]

abbrev pub with_count : State → ℕ → ℕ → State
with_count s k n =
    record {
      kind = s.kind;
      at = s.at;
      level = s.level;
      counts = record { n = elim (ltb k posix_from) [ true ↦ set s.counts.n k n | false ↦ s.counts.n ] };
      posix = record { n = elim (ltb k posix_from) [ true ↦ s.posix.n | false ↦ set s.posix.n (k - posix_from) n ] };
      singles = s.singles;
      actiontype = s.actiontype;
    }

-- the finder of table k + 1, whose rows are w wide and have their names in the cells `name` and `name + 1`, leads to the rows that are counted
pub record Tracked (src : List ℕ) (k w name : ℕ) (c : Counts) (t ix : List ℕ) : Type 0 where
  pub ten : length c.n ≡ 10
  pub held : Held src w name (get_or c.n k 0) t ix

-- a finder that was ix and is jx follows its table, and keeps what it leads to for others that share it
abbrev pub Follows : List ℕ → ℕ → ℕ → ℕ → Counts → List ℕ → List ℕ → List ℕ → Type 0
Follows src k w name c t ix jx = Tracked src k w name c t jx × Grown ix jx

-- that of table 1, and that of table 7
abbrev pub Tokens : List ℕ → Counts → List ℕ → List ℕ → Type 0
Tokens src c t ix = Tracked src tokens (width tokens) 0 c t ix

abbrev pub Rules : List ℕ → Counts → List ℕ → List ℕ → Type 0
Rules src c t ix = Tracked src rules (width rules) 0 c t ix

-- a list of tokens keeps the finder of table 1, which was ix and is jx; another list leaves it
pub record Tracks (listed : Bool) (src : List ℕ) (c : Counts) (t ix jx : List ℕ) : Type 0 where
  pub keeps : listed ≡ true → Tokens src c t jx
  pub leaves : listed ≡ false → jx ≡ ix

-- a row that can be entered into such a finder
pub record Enters (k w name : ℕ) (row : List ℕ) : Type 0 where
  pub table : k < 9
  pub wide : length row ≡ w
  pub named : name + 1 < w

-- a position of a source that is not too long: all that a reading step requires
pub record Here (src : List ℕ) (at : ℕ) : Type 0 where
  pub within : at ≤ length src
  pub short : length src ≤ 65536

-- a position behind another one, in the source
pub record Passed (src : List ℕ) (from to : ℕ) : Type 0 where
  pub onward : from ≤ to
  pub inside : to ≤ length src

-- spacing, with the refusal that it gives: "13 ReachedEOL", "5 IncompleteComment"
unfoldable pub gap_of : Result (ℕ × ℕ) SpacingError → Result (ℕ × ℕ) Refusal
gap_of (Ok (i, n)) = Ok (i, n)
gap_of (Err (LineEnd i)) = Err (Fault ReachedEol i)
gap_of (Err (OpenComment i)) = Err (Fault IncompleteComment i)

unfoldable pub gap_at : ℕ → Bool → List ℕ → ℕ → Result (ℕ × ℕ) Refusal
gap_at kind ok src at = gap_of (spaces_at kind ok src at)

abbrev pub Gapped : List ℕ → ℕ → Result (ℕ × ℕ) Refusal → Type 0
Gapped src from (Ok (i, n)) = (from + n ≤ i) × (i ≤ length src) × Edge src from i
Gapped src from (Err f) = Unit {0}

-- "42 no room: first place of the row that didn't fit, for 10 its repeated one, and table number": all of it comes from the table and the row
abbrev pub no_room : ℕ → List ℕ → Refusal
no_room k row = NoRoom (table_number k) (get_or row (row_place k) 0) (get_or row (row_place k + 1) 0)

abbrev pub pushed : Bool → State → ℕ → List ℕ → List ℕ → Out1
pushed true s k row t = record { answer = Going; state = with_count s k (count s k + 1); a = t }
pushed false s k row t = record { answer = Refused (no_room k row); state = s; a = t }

-- a row is added to the table of index k
unfoldable pub push_row : State → ℕ → List ℕ → List ℕ → Out1
push_row s k row t = pushed (add_row (count s k) row t).ok s k row (add_row (count s k) row t).cells

-- "10 repeats (number, first place, repeated place)"
unfoldable pub list_repeat : State → Repeat → ℕ → ℕ → ℕ → ℕ → List ℕ → Out1
list_repeat s what a b c d t = push_row s repeats (repeat_cells (number_of_repeat what) a b c d) t

abbrev pub entered : Option ℕ → State → List ℕ → List ℕ → Out1
entered (Some m) s row t = record { answer = Going; state = with_count s tokens m; a = t }
entered None s row t = record { answer = Refused (no_room tokens row); state = s; a = t }

-- a token joins table 1, declared by `%token` or not
unfoldable pub enter_step : List ℕ → State → ℕ → ℕ → Bool → List ℕ → Out1
enter_step src s a b d t =
    entered (enter_token src (count s tokens) a b d t).entered s (token_cells a b (flag d)) (enter_token src (count s tokens) a b d t).cells

-- "Levels start at 0", one a line; they stop where 32 bits do, which no reading comes near
unfoldable pub next_level : ℕ → ℕ
next_level n = elim (ltb n 4294967295) [ true ↦ n + 1 | false ↦ n ]

-- where a reading of a kind begins: nothing counted, the singles absent
abbrev pub no_singles : Singles
no_singles = record { start = None; expect = None; expect_rr = None; param = None; generics = None; programs = None }

abbrev pub no_counts : Counts
no_counts = record { n = replicate 10 0 }

abbrev pub no_posix : PosixCounts
no_posix = record { n = replicate 3 0 }

abbrev pub fresh : ℕ → State
fresh kind = record { kind = kind; at = 0; level = 0; counts = no_counts; posix = no_posix; singles = no_singles; actiontype = None }

-- what spacing makes of a state; a list that ends with its line is done "until a line end was counted"
abbrev pub past : Bool → Result (ℕ × ℕ) Refusal → State → Out0
past line (Ok (i, n)) s = record { answer = elim (line && not (eqb n 0)) [ true ↦ Done | false ↦ Going ]; state = with_at s i }
past line (Err f) s = record { answer = Refused f; state = s }

-- spacing of the state's kind from index j on, where line ends are allowed
unfoldable pub past_gap : List ℕ → Bool → ℕ → State → Out0
past_gap src line j s = past line (gap_at s.kind true src j) s

-- the same behind a step, if it goes on
abbrev pub pass_on : List ℕ → Bool → ℕ → Answer → State → Out0
pass_on src line j Going s = past_gap src line j s
pass_on src line j Done s = record { answer = Done; state = s }
pass_on src line j (Refused f) s = record { answer = Refused f; state = s }

-- where such a step comes to stand: not before where it stood, in the source, and behind j if the reading goes on
pub record Onward (src : List ℕ) (j before : ℕ) (answer : Answer) (after : ℕ) : Type 0 where
  pub forth : before ≤ j → before ≤ after
  pub inside : before ≤ length src → after ≤ length src
  pub beyond : answer ≡ Going → j ≤ after

-- an outcome with the tables it left
abbrev pub tied1 : Out0 → List ℕ → Out1
tied1 o a = record { answer = o.answer; state = o.state; a = a }

abbrev pub tied2 : Out0 → List ℕ → List ℕ → Out2
tied2 o a b = record { answer = o.answer; state = o.state; a = a; b = b }

abbrev pub tied3 : Out0 → List ℕ → List ℕ → List ℕ → Out3
tied3 o a b c = record { answer = o.answer; state = o.state; a = a; b = b; c = c }

abbrev pub tied4 : Out0 → List ℕ → List ℕ → List ℕ → List ℕ → Out4
tied4 o a b c d = record { answer = o.answer; state = o.state; a = a; b = b; c = c; d = d }

-- behind a step on tables, spacing
abbrev pub behind1 : List ℕ → Bool → ℕ → Out1 → Out1
behind1 src line j o = tied1 (pass_on src line j o.answer o.state) o.a

abbrev pub behind2 : List ℕ → Bool → ℕ → Out2 → Out2
behind2 src line j o = tied2 (pass_on src line j o.answer o.state) o.a o.b

-- a refusal leaves state and tables as they were
abbrev pub refused : Refusal → State → Out0
refused f s = record { answer = Refused f; state = s }

-- the outcome of a step on the first of two tables, and on the second
abbrev pub first2 : Out1 → List ℕ → Out2
first2 o b = record { answer = o.answer; state = o.state; a = o.a; b = b }

abbrev pub second2 : List ℕ → Out1 → Out2
second2 a o = record { answer = o.answer; state = o.state; a = a; b = o.a }

abbrev pub once_found : Option ℕ → State → ℕ → ℕ → Repeat → List ℕ → List ℕ → List ℕ → Out2
once_found (Some r) s k w what row t t10 =
    second2 t (list_repeat s what (cell w t r (row_place k)) (cell w t r (row_place k + 1)) (get_or row (row_place k) 0) (get_or row (row_place k + 1) 0) t10)
once_found None s k w what row t t10 = first2 (push_row s k row t) t10

-- What may be given once to a name, which a row has in its cells `name` and `name + 1`: a row more, or a repeat with "first place, repeated place", that of the
-- row that has the name and that of this one.
unfoldable pub once_step : List ℕ → State → ℕ → ℕ → ℕ → Repeat → List ℕ → List ℕ → List ℕ → Out2
once_step src s k w name what row t t10 =
    once_found (find_name src w name (count s k) t (get_or row name 0) (get_or row (name + 1) 0)) s k w what row t t10

-- a loop goes on behind a step that goes on
abbrev pub onward : {X : Type 0} → Answer → X → Turn X
onward Going x = more x
onward Done x = stop x
onward (Refused f) x = stop x

-- where an item of a list comes to stand: not before where it stood, in the source, and further on if the reading goes on
pub record Moves (src : List ℕ) (at : ℕ) (answer : Answer) (after : ℕ) : Type 0 where
  pub onward : at ≤ after
  pub inside : after ≤ length src
  pub beyond : answer ≡ Going → at < after
