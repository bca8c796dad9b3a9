-- `%start`, `%expect`, `%expect_rr`, `%actiontype`, `%parse-generics`: what is shipped of each is read as what it was. Assumes nothing.
use Rattle.std.specs.Prelude.{Ok}
use Prim.Native.Nat.{ℕ, suc, ◌+◌, ◌≤◌, ◌<◌}
use mathlib.Core.Path.{◌≡◌, refl, sym, ◌∙◌, ap}
use mathlib.Core.List.{List, ◌∷◌, ◌++◌}
use mathlib.Core.Bool.{false}
use native.Mathlib.Omega.{arith}
use lib.ListN.{length, get_or, drop}
use lib.Seq.{slice, length-slice, slice-cons}
use Rattle.scan.specs.declared.Class.TheVariants.{LineByte}
use Rattle.scan.specs.Scan.{in_class, is_eol, is_letter, is_digit, Runs}
use Rattle.scan.proofs.Bytes.{told, drop_below, drop_next, drop_byte}
use Rattle.scan.proofs.Runs.{run_is, run_one}
use Rattle.words.specs.Words.{name_at, Named}
use Rattle.words.proofs.Words.{name_placed}
use Rattle.words.proofs.Meaning.{int_iff}
use Rattle.texts.specs.Line.{line_end_at}
use Rattle.grammar.specs.State.{Gapped}
use Rattle.grammar.proofs.Kept.{gapped}
use Rattle.alike.specs.Like.{Same}
use Rattle.alike.proofs.Agree.{Agree, agree_slice, slice_agree, runs_move, name_move, int_move}
use Rattle.alike.proofs.Solid.{Solid, Stops, stops_solid, stops_text, gap_stops, gap_space, gap_line}
use Rattle.alike.proofs.Front.{percent_solid}
use Rattle.alike.proofs.Again.{behind, parts}
use Rattle.printed.specs.Stands.{Single, name, integer, line, SingleAt, Given}

pub line_runs : (s : List ℕ) (i : ℕ) → i ≤ length s → Runs (in_class LineByte) s i (line_end_at s i)
unfolding line_end_at
line_runs s i h = run_is (in_class LineByte) s i h

-- where it lies
single_lies : (w : Single) (s : List ℕ) (i e : ℕ) → i ≤ length s → SingleAt w s i e → (i < e) × (e ≤ length s)
single_lies name s i e h x = told (Named s i) x (name_placed s i (name_at s i) refl).1
single_lies (integer v) s i e h x = let y = (int_iff s i e v h).0 x in (y.some, y.digits.inside)
single_lies line s i e h x = let a = x.2 in (x.1, omega arith)

-- and it is the same where its bytes stand with a line end behind them
module _ (s t : List ℕ) (i j m : ℕ) (g : Agree s t i j m) (r : List ℕ) (q : drop (j + m) t ≡ 10 ∷ r) where
  end_byte : get_or t (j + m) 0 ≡ 10
  end_byte = drop_byte t (j + m) 10 r q

  single_move : (w : Single) → SingleAt w s i (i + m) → SingleAt w t j (j + m)
  unfolding in_class is_eol is_letter is_digit
  single_move name x = name_move s t i j m g x (λ l. rw end_byte)
  single_move (integer v) x = int_move s t i j m g v x (λ l. rw end_byte)
  single_move line x =
      let a = g.here in
      let b = g.there in
      let e = x.0 in
      let c = x.1 in
      let l = drop_below t (j + m) 10 r q in
      let run : Runs (in_class LineByte) s i (i + m) = rw e at (line_runs s i (omega arith)) in
      let moved = runs_move s t i j m g (in_class LineByte) i (i + m) j (j + m) run (omega arith) (omega arith) (omega arith) (omega arith) (λ l. rw end_byte) in
      (run_one (in_class LineByte) t j _ _ (line_runs t j (omega arith)) moved, omega arith, l)

-- T3: what was shipped of it
module _ (w : Single) (kind : ℕ) (src out : List ℕ) (at k f : ℕ) (x cs : List ℕ) (here : at ≤ length src) (g : Given w kind src at k x) (q : drop f out ≡ 32 ∷ (x ++ (10 ∷ (37 ∷ cs)))) where
  pub record Again : Type 0 where
    pub to : ℕ
    pub there : Given w kind out f to x
    pub same : Same src out g.from g.to there.from there.to
    pub left : drop to out ≡ 37 ∷ cs

  begun : Gapped src at (Ok (g.from, g.lines))
  begun = told (Gapped src at) g.gap (gapped kind false src at here)

  lies : (g.from < g.to) × (g.to ≤ length src)
  lies = single_lies w src g.from g.to begun.1 g.is

  size : g.from + length x ≡ g.to
  size =
      let a = lies.0 in
      let b = lies.1 in
      let n = length-slice g.from g.to src b in
      let m : length x ≡ length (slice g.from g.to src) = ap length (sym g.spelled) in
      omega arith

  -- no spacing stands in front of it, with the line end behind it
  solid : Solid (x ++ (10 ∷ (37 ∷ cs)))
  solid =
      let i = g.from in
      let e = g.to in
      let a = lies.0 in
      let b = lies.1 in
      let h : x ≡ get_or src i 0 ∷ slice (suc i) e src = sym g.spelled ∙ slice-cons i e src 0 (omega arith) (omega arith) in
      let p : drop i src ≡ (get_or src i 0 ∷ slice (suc i) e src) ++ drop e src = parts src i e (omega arith) ∙ ap (λ (y : List ℕ). y ++ drop e src) (g.spelled ∙ h) in
      let y = stops_text (get_or src i 0) (slice (suc i) e src) (drop e src) 10 (37 ∷ cs) (rw p at (gap_stops kind false src at i g.lines g.gap)) refl refl in
      stops_solid (x ++ (10 ∷ (37 ∷ cs))) (told Stops (ap (λ (z : List ℕ). z ++ (10 ∷ (37 ∷ cs))) (sym h)) y)

  pub single_again : Again
  single_again =
      let i = g.from in
      let e = g.to in
      let a = lies.0 in
      let b = lies.1 in
      let z = size in
      let m = length x in
      let d = drop_next out f 32 (x ++ (10 ∷ (37 ∷ cs))) q in
      let c = drop_below out f 32 (x ++ (10 ∷ (37 ∷ cs))) q in
      let y = agree_slice src out i m (f + 1) (10 ∷ (37 ∷ cs)) (omega arith) (rw (z, g.spelled) d) (omega arith) in
      let t = behind out (f + 1) x (10 ∷ (37 ∷ cs)) d in
      let o = y.there in
      let bytes = slice_agree src out i (f + 1) m i e (f + 1) (f + 1 + m) y (omega arith) (omega arith) (omega arith) (omega arith) (omega arith) in
      record {
        to = f + 1 + m + 1;
        there = record {
          from = f + 1;
          to = f + 1 + m;
          lines = 0;
          more = 1;
          gap = gap_space out f (x ++ (10 ∷ (37 ∷ cs))) solid kind false q;
          is = single_move src out i (f + 1) m y (37 ∷ cs) t w (rw z g.is);
          spelled = sym bytes ∙ g.spelled;
          on = gap_line out (f + 1 + m) (37 ∷ cs) (percent_solid cs) kind t;
        };
        same = record { here = (omega arith, b); there = (omega arith, omega arith); bytes = bytes };
        left = drop_next out (f + 1 + m) 10 (37 ∷ cs) t;
      }
