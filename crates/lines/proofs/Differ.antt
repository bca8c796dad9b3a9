-- Two precedence lists in one source: a line end that is counted ends the first, and the second has a level of its own. Assumes nothing.
use Rattle.std.specs.Prelude.{Ok}
use Prim.Native.Nat.{ℕ, ◌+◌, ◌≤◌, ◌<◌}
use mathlib.Core.Path.{◌≡◌, ap}
use mathlib.Core.List.{List}
use mathlib.Core.Bool.{Bool, false}
use native.Mathlib.Omega.{arith}
use lib.ListN.{length, get_or}
use Rattle.scan.specs.declared.Place.{Place}
use Rattle.scan.proofs.Bytes.{told}
use Rattle.spacing.specs.Spacing.{Spaces}
use Rattle.spacing.proofs.Places.{spaces}
use Rattle.words.specs.Words.{token_at}
use Rattle.tables.specs.Rows.{row_at}
use Rattle.tables.specs.Layout.{precedences, level, width}
use Rattle.grammar.specs.declared.State.{State}
use Rattle.grammar.specs.declared.Answer.TheVariants.{Going}
use Rattle.grammar.specs.State.{Out4, count, with_at}
use Rattle.grammar.proofs.Steps.{level_up}
use Rattle.lines.specs.Line.{PrecLine}
use Rattle.lines.specs.Grown.{Grown, RowOf, prec_row, RowFrom, TwoLists}
use Rattle.lines.specs.Precedences.{prec_decl}
use Rattle.lines.proofs.Worded.{word_placed, prec_words}
use Rattle.lines.proofs.Line.{words_inside, counted_last}
use Rattle.lines.proofs.Read.{line_kept, line_words_lem, line_level, line_ten, line_rows}

module _ (src : List ℕ) (s : State) (a : ℕ) (t2 t10 t15 t16 : List ℕ) (here : s.at ≤ length src) (ten : length s.counts.n ≡ 10) (low : s.level < 4294967295) (g : (prec_decl src s a t2 t10 t15 t16).answer ≡ Going) where
  abbrev one : Out4
  one = prec_decl src s a t2 t10 t15 t16

  -- the second list's keyword may end at any index
  module _ (i : ℕ) (inside : i ≤ length src) (b : ℕ) where
    abbrev two : Out4
    two = prec_decl src (with_at one.state i) b one.a one.b one.c one.d

    -- Two precedence lists never share a level, and what stands behind a line end that is counted is not in the first.
    pub left_lists_differ : TwoLists src s.at a i b s one.state two.state two.a
    left_lists_differ =
        record {
          line = l;
          stops = λ w h k n e c. (counted_last s.kind src (prec_words s.kind src) l.line w h k n e c).0;
          first = first;
          behind = behind;
          second = second;
          levels = λ q r x y z v. let e = level_of (first q x y).is in let f = level_of (second r z v).is in rw (e, f) (omega arith);
        }
      where
        l : PrecLine s.kind src s.at one.state.at
        l = line_words_lem src s a t2 t10 t15 t16 here ten g

        rest : Grown (RowFrom src one.state.level b i) (width precedences) (count one.state precedences) one.a (count two.state precedences) two.a
        rest = line_kept src (with_at one.state i) b one.a one.b one.c one.d (line_ten src s a t2 t10 t15 t16 here ten g) i (λ k n e. let x = told (Spaces src i) e (spaces one.state.kind false src i inside) in omega (arith, x.0))

        first : (r : ℕ) → count s precedences ≤ r → r < count one.state precedences → RowOf (prec_row s.level a) l.words (row_at (width precedences) two.a r)
        first r x y = rw (rest.old r y) ((line_rows src s a t2 t10 t15 t16 here ten g l).rows.new r x y)

        behind : (r : ℕ) → count s precedences ≤ r → r < count one.state precedences → (i : ℕ) → one.state.at ≤ i → (p : Place) (end : ℕ) (quoted : Bool) → token_at src i ≡ Ok (p, end, quoted) → get_or (row_at (width precedences) two.a r) 0 0 < p.from
        behind r x y i h p end quoted e =
            let w = first r x y in
            let n = words_inside s.kind src (prec_words s.kind src) l.line w.word w.listed in
            let m = word_placed src i p end quoted e in
            rw w.is (omega (arith, n.some, n.ends, n.before, m.0))

        second : (r : ℕ) → count one.state precedences ≤ r → r < count two.state precedences → RowFrom src (s.level + 1) b i (row_at (width precedences) two.a r)
        second r x y = rw (level_up s.level low, ← line_level src s a t2 t10 t15 t16 here ten g) (rest.new r x y)

        level_of : {x : List ℕ} {lev assoc : ℕ} {p : Place} → x ≡ prec_row lev assoc p → get_or x level 0 ≡ lev
        level_of e = ap (λ (z : List ℕ). get_or z level 0) e
