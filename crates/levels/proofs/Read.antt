-- The levels that a read leaves follow the lines of its source, whatever the source, the kind and the lent tables. Assumes nothing.
use Rattle.std.specs.Prelude.{Ok, Err, Result}
use Prim.Native.Nat.{ℕ, ◌≤◌, ◌<◌}
use mathlib.Core.Path.{◌≡◌, refl, sym, ◌∙◌}
use mathlib.Core.List.{List}
use mathlib.Core.Bool.{Bool, true, false, false≢true, ◌||◌}
use native.Mathlib.Omega.{arith}
use native.Mathlib.Decide.{ℕ_discrete}
use lib.Dec.{ltb, eqb}
use lib.ListN.{length, get_or}
use borrow.Author.Tests.{ltb-false}
use Rattle.scan.proofs.Bytes.{on_test}
use Rattle.whole.specs.Whole.{check_at}
use Rattle.tables.specs.Layout.{precedences, repeats, level, width}
use Rattle.tables.proofs.Rows.{row_cell}
use Rattle.grammar.specs.declared.State.{State}
use Rattle.grammar.specs.declared.Answer.{Answer}
use Rattle.grammar.specs.declared.Answer.TheVariants.{Going, Done, Refused}
use Rattle.grammar.specs.State.{count, fresh}
use Rattle.grammar.specs.Sound.{AllTables, Indexes, zero_all}
use Rattle.grammar.proofs.Far.{fresh_far}
use Rattle.declarations.specs.Declarations.{Out, decl_all}
use Rattle.declarations.proofs.Far.{FarAll, declarations_far}
use Rattle.lines.specs.Line.{is_feed}
use Rattle.grammar.specs.declared.Refusal.{Refusal}
use Rattle.sections.specs.Sections.{as_text, sized, sized_text, admitted, Short, rest_all, declared, sections_from, sections_all, attempt_of, attempted}
use Rattle.reader.specs.declared.Reading.{Reading}
use Rattle.reader.specs.Read.{ReadResult, ended_at, result, finished, finished_run, indexed, filled_in, read_names, read_all}
use Rattle.reader.specs.Allowed.{Full}
use Rattle.reader.proofs.Sound.{read_sound}
use Rattle.levels.specs.Levels.{token_from, token_to, level_of, TwoRows, NoFeedBetween, NoLineEndBetween}
use Rattle.levels.proofs.Laid.{precedence_row, LinesApart, AllApart, laid_none, Numbered, numbered_one}
use Rattle.levels.proofs.Section.{far_numbered, ApartIn, section_pairs}

-- What a read leaves of table 2: no row, or those of the declarations.
data Left (src : List ℕ) (o : ReadResult) : Type 0 where
  none : get_or o.counts.n precedences 0 ≡ 0 → Left src o
  full : Full o.answer → (n : ℕ) → Numbered n o.tables.t2 → AllApart src n o.tables.t2 → Left src o

-- a reading that ended, behind the declarations
ended : (src : List ℕ) (X : Indexes) (d : Out) → Numbered (count d.state precedences) d.tables.t2 → ApartIn src d → (s : State) (T : AllTables) → T.t2 ≡ d.tables.t2 → Left src (filled_in src (indexed src X (finished Going s T)))
unfolding ended_at
ended src X d f p s T e =
    on_test (λ (r : Reading). Left src (filled_in src (indexed src X (result r T)))) (eqb (count s repeats) 0) _ _
    (λ q. full tt (count d.state precedences) (rw e f) (rw e p))
    (λ q. full tt (count d.state precedences) (rw e f) (rw e p))

sections_left : (src : List ℕ) (kind : ℕ) (T : AllTables) (X : Indexes) → length src ≤ 65536 → Left src (filled_in src (indexed src X (finished_run (sections_all src (fresh kind) (zero_all T)))))
unfolding sections_all
sections_left src kind T X h =
    let U = zero_all T in
    let o = decl_all src (fresh kind) (declared U) in
    let f = fresh_far src kind T h in
    go o.answer o (declarations_far src 0 (fresh kind) (declared U) U f) (section_pairs src 0 (fresh kind) (declared U) U f (laid_none src 0 U.t2))
  where
    rest : (a : Answer) (d : Out) → FarAll src 0 (zero_all T) d → ApartIn src d → (s : State) (U : AllTables) → U.t2 ≡ d.tables.t2 → Left src (filled_in src (indexed src X (finished a s U)))
    rest Going d f p s U e = ended src X d (far_numbered f) p s U e
    rest Done d f p s U e = ended src X d (far_numbered f) p s U e
    rest (Refused r) d f p s U e = none refl

    go : (a : Answer) (o : Out) → FarAll src 0 (zero_all T) o → (a ≡ Done → ApartIn src o) → Left src (filled_in src (indexed src X (finished_run (sections_from a src o (zero_all T)))))
    go Going o f p = none refl
    go Done o f p = let r = rest_all src o.state o.tables.t1 (zero_all T).t7 (zero_all T).t8 (zero_all T).t9 in rest r.answer o f (p refl) r.state _ refl
    go (Refused r) o f p = none refl

-- a source that can be read is not too long
admits : (src : List ℕ) (kind : ℕ) (fit : Bool) → Short src (admitted src kind fit)
unfolding admitted
admits src kind fit = on_test (Short src) (ltb kind 1 || ltb 4 kind) _ _ (λ e. tt) (λ e. by fit)
  where
    go : (c : Result (Unit {0}) ℕ) → length src ≤ 65536 → Short src (as_text c)
    go (Ok _) h = h
    go (Err i) h = tt

    by : (b : Bool) → Short src (sized_text b src)
    by true = on_test (Short src) (ltb 65536 (length src)) _ _ (λ h. tt) (λ h. go (check_at src 0) (ltb-false _ _ h))
    by false = tt

left : (src : List ℕ) (kind : ℕ) (T : AllTables) (X : Indexes) → Left src (read_all src kind T X)
unfolding read_all read_names attempted
left src kind T X = go (admitted src kind (sized T X)) (admits src kind (sized T X))
  where
    go : (m : Result (Unit {0}) Refusal) → Short src m → Left src (filled_in src (indexed src X (finished_run (attempt_of m src kind (zero_all T)))))
    go (Ok _) h = sections_left src kind T X h
    go (Err f) h = none refl

-- In any reading, whatever its answer; where it was refused for more than repeats, there are no rows.
module _ (src : List ℕ) (kind : ℕ) (T : AllTables) (X : Indexes) (q r : ℕ) (two : TwoRows (read_all src kind T X) q r) where
  abbrev o : ReadResult
  o = read_all src kind T X

  sound_numbered : Full o.answer → Numbered (get_or o.counts.n precedences 0) o.tables.t2
  sound_numbered x =
      let s = read_sound src kind T X x in
      record { clean = s.clean precedences (omega arith); least = λ r h. (s.rows precedences r (omega arith) h).least }

  apart : LinesApart src (precedence_row o.tables.t2 q) (precedence_row o.tables.t2 r)
  apart = go (left src kind T X)
    where
      go : Left src o → LinesApart src (precedence_row o.tables.t2 q) (precedence_row o.tables.t2 r)
      go (none e) = let h = two.inside in absurd (omega arith)
      go (full x n f p) = let e = numbered_one _ n o.tables.t2 (sound_numbered x) f in let h = two.inside in p q r two.earlier (omega arith)

  from_cell : (k : ℕ) → get_or (precedence_row o.tables.t2 k) 0 0 ≡ token_from o k
  from_cell k = row_cell (width precedences) o.tables.t2 k 0 (omega arith)

  to_cell : (k : ℕ) → get_or (precedence_row o.tables.t2 k) 1 0 ≡ token_to o k
  to_cell k = row_cell (width precedences) o.tables.t2 k 1 (omega arith)

  level_cell : (k : ℕ) → get_or (precedence_row o.tables.t2 k) level 0 ≡ level_of o k
  level_cell k = row_cell (width precedences) o.tables.t2 k level (omega arith)

  -- Rows stand in the source's order,
  pub rows_ordered : token_to o q ≤ token_from o r
  rows_ordered = rw (← to_cell q, ← from_cell r) apart.ordered

  -- and their levels do not fall.
  pub levels_rise : level_of o q ≤ level_of o r
  levels_rise = rw (← level_cell q, ← level_cell r) apart.rising

  -- Tokens of one level stand on one line: no LF is between them.
  pub one_level_one_line : level_of o q ≡ level_of o r → NoFeedBetween src o q r
  one_level_one_line e = rw (← to_cell q, ← from_cell r) (apart.one (rw (level_cell q, level_cell r) e))

  -- Tokens with no LF and no CR between them have one level. A CR inside a quoted token ends no line, so tokens of one level may have one between them: the two are
  -- as near to an iff as it comes.
  pub one_line_one_level : NoLineEndBetween src o q r → level_of o q ≡ level_of o r
  one_line_one_level f = elim (ℕ_discrete (level_of o q) (level_of o r)) [ yes e ↦ e | no e ↦ absurd (met e) ]
    where
      met : (level_of o q ≡ level_of o r → ⊥) → ⊥
      met e =
          let k = apart.two (λ d. e (rw (← level_cell q, ← level_cell r) d)) in
          false≢true (sym (f k.0 (rw (← to_cell q) k.1) (rw (← from_cell r) k.2)) ∙ k.3)

  -- So an LF between two tokens raises the level, whatever stands beside it, such as a comment that it ends.
  pub feed_raises : (k : ℕ) → token_to o q ≤ k → k < token_from o r → is_feed (get_or src k 0) ≡ true → level_of o q < level_of o r
  feed_raises k a b e =
      let h = levels_rise in
      elim (ℕ_discrete (level_of o q) (level_of o r)) [ yes d ↦ absurd (false≢true (sym (one_level_one_line d k a b) ∙ e)) | no d ↦ omega arith ]
