-- Each precedence line has a level of its own: the rows that a line adds all have its level, and every row that stood before has a lower one. Assumes nothing.
use Rattle.std.specs.Prelude.{Option, Ok}
use Prim.Native.Nat.{ℕ, ◌≤◌, ◌<◌}
use mathlib.Core.Path.{◌≡◌, refl, ap, ◌∙◌, sym}
use mathlib.Core.List.{List}
use mathlib.Core.Bool.{Bool, true}
use native.Mathlib.Omega.{arith}
use lib.ListN.{length, get_or}
use Rattle.scan.proofs.Tuples.{ok_2}
use Rattle.scan.specs.declared.Place.{Place}
use Rattle.spacing.specs.Spacing.{spaces_at}
use Rattle.words.specs.Words.{token_at}
use Rattle.tables.specs.Rows.{row_at}
use Rattle.tables.specs.Layout.{precedences, level, width}
use Rattle.grammar.specs.declared.State.{State}
use Rattle.grammar.specs.declared.Answer.{Answer}
use Rattle.grammar.specs.declared.Answer.TheVariants.{Going, Done, Refused}
use Rattle.grammar.specs.declared.Repeat.TheVariants.{RepeatedPrecedence}
use Rattle.grammar.specs.Cells.{precedence_cells}
use Rattle.grammar.specs.State.{Out0, Out1, Out2, Out4, count, once_step}
use Rattle.grammar.specs.Sound.{AllTables, Far}
use Rattle.grammar.proofs.SameKind.{push_kind, once_kind}
use Rattle.grammar.proofs.Touch.{refused_going, done_going}
use Rattle.marks.specs.Marks.{tag_row, number_after, behind_word}
use Rattle.marks.proofs.Laws.{tag_keeps}
use Rattle.lines.proofs.Grown.{past_cases}
use Rattle.lines.proofs.Read.{line_kept}
use Rattle.lines.specs.Grown.{level_at}
use Rattle.lines.specs.Precedences.{prec_item, prec_decl}

-- A line behind its keyword, on any tables.
module _ (src : List ℕ) (s : State) (assoc : ℕ) (t2 t10 t15 t16 : List ℕ) (ten : length s.counts.n ≡ 10) where
  abbrev after : Out4
  after = prec_decl src s assoc t2 t10 t15 t16

  -- All rows that it adds have one level, its own.
  pub one_level : (r : ℕ) → count s precedences ≤ r → r < count after.state precedences → level_at after.a r ≡ s.level
  one_level r a b = ap (λ (x : List ℕ). get_or x level 0) ((line_kept src s assoc t2 t10 t15 t16 ten 0 (λ i n e. omega arith)).new r a b).is

  -- The rows that stood before stay.
  pub rows_stay : (r : ℕ) → r < count s precedences → row_at (width precedences) after.a r ≡ row_at (width precedences) t2 r
  rows_stay r a = (line_kept src s assoc t2 t10 t15 t16 ten 0 (λ i n e. omega arith)).old r a

-- In a reading, a row that an earlier line gave and a row that a later line gives have different levels, whatever stands between the lines.
pub lines_differ : (src : List ℕ) (done : ℕ) (s : State) (T : AllTables) (assoc : ℕ) → Far src done s T → (q r : ℕ) → q < count s precedences → count s precedences ≤ r → r < count (prec_decl src s assoc T.t2 T.t10 T.t15 T.t16).state precedences → level_at (prec_decl src s assoc T.t2 T.t10 T.t15 T.t16).a q < level_at (prec_decl src s assoc T.t2 T.t10 T.t15 T.t16).a r
lines_differ src done s T assoc f q r a b c =
    let e = one_level src s assoc T.t2 T.t10 T.t15 T.t16 f.ten r b c in
    let g = rows_stay src s assoc T.t2 T.t10 T.t15 T.t16 f.ten q a in
    rw (e, g) ((f.tables precedences).each q a).earlier

-- Where the spacing behind a token counts a line end, its line is at its end: the list does not go on, and what follows is not read with this level.
pub counted_ends : (src : List ℕ) (s : State) (lev assoc : ℕ) (tag : Option (ℕ × ℕ)) (t2 t10 t15 t16 : List ℕ) (p : Place) (end : ℕ) (quoted : Bool) (i n : ℕ) → token_at src s.at ≡ Ok (p, end, quoted) → spaces_at s.kind true src end ≡ Ok (i, n) → 0 < n → (prec_item src s lev assoc tag t2 t10 t15 t16).answer ≡ Going → ⊥
unfolding prec_item behind_word
counted_ends src s lev assoc tag t2 t10 t15 t16 p end quoted i n e g h d =
    passed row.answer row.state (tag_keeps (λ u. u.kind) (λ u i. refl) (λ u k cells t l. push_kind u k cells t) made.answer made.state tag p.from p.to t15 ∙ once_kind s src _ _ _ _ _ _ _) (rw e at d)
  where
    made : Out2
    made = once_step src s precedences (width precedences) 0 RepeatedPrecedence (precedence_cells p.from p.to lev assoc) t2 t10

    row : Out1
    row = tag_row made.answer made.state tag p.from p.to t15

    passed : (a : Answer) (u : State) → u.kind ≡ s.kind → (behind_word src true p.from p.to end a u t16).answer ≡ Going → ⊥
    passed Going u q y =
        past_cases (λ (o : Out0). (number_after o src true p.from p.to o.answer t16).answer ≡ Going → ⊥) src end u s.kind q
        (λ j c y. let z : n ≡ 0 = (ok_2 (sym g ∙ c)).1 in omega arith)
        (λ j m c l y. done_going y)
        (λ f none y. refused_going f y)
        y
    passed Done u q y = done_going y
    passed (Refused f) u q y = refused_going f y
