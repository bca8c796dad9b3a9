-- The words of a line stand one behind the other with no LF between them, and behind the last one is a line end or the source's end. Assumes nothing.
use Rattle.std.specs.Prelude.{Ok}
use Prim.Native.Nat.{ℕ, ◌≤◌, ◌<◌}
use mathlib.Core.Path.{◌≡◌}
use mathlib.Core.List.{List}
use mathlib.Core.Bool.{true}
use mathlib.Core.Logic.{inl, inr}
use native.Mathlib.Decide.{ℕ_discrete}
use native.Mathlib.Omega.{arith}
use lib.ListN.{length}
use Rattle.scan.specs.Scan.{is_eol}
use Rattle.scan.specs.Tally.{tally_at}
use Rattle.scan.proofs.Tally.{tally_split, tally_zero}
use Rattle.spacing.specs.Spacing.{spaces_at}
use Rattle.spacing.proofs.Lines.{counted_iff}
use Rattle.marks.specs.Worded.{ListWord}
use Rattle.lines.specs.Line.{LineWord, In, Earlier, is_feed, Without, LineOver, Line, closed, ended, word}
use Rattle.lines.proofs.Worded.{Words, without_on, without_in, gap_plain}
use Rattle.lines.proofs.Line.{gap_placed, line_passed, words_inside}

module _ (src : List ℕ) where
  -- more bytes hold more line ends
  pub ends_on : (a b c d : ℕ) → a ≤ b → b ≤ c → c ≤ d → d ≤ length src → tally_at is_eol src b c ≤ tally_at is_eol src a d
  ends_on a b c d h k l m =
      let x = tally_split is_eol src a b d h (omega arith) m in
      let y = tally_split is_eol src b c d k l m in
      omega arith

  -- what is over stays so from an earlier index on
  pub over_on : (a b j : ℕ) → a ≤ b → b ≤ j → j ≤ length src → LineOver src b j → LineOver src a j
  over_on a b j h k l (inl x) = inl (let y = ends_on a b j j h k (omega arith) l in omega arith)
  over_on a b j h k l (inr x) = inr x

module _ (kind : ℕ) (src : List ℕ) {Word : ℕ → ℕ → ListWord → Type 0} (W : Words src Word) where
  -- a word that another one follows holds no LF, and neither does the spacing between them
  word_plain : {i end k m j n : ℕ} {w : ListWord} {ws : List LineWord} → Word i end w → spaces_at kind true src end ≡ Ok (k, m) → Line kind Word src m k j n ws → (v : LineWord) → In v ws → Without is_feed src i k
  word_plain e g (closed h) v x = absurd x
  word_plain e g (ended h) v x = absurd x
  word_plain {i} {end} {k} e g (word e' g' l) v x = without_on is_feed src i end k (W.plain e) (gap_plain kind src end k g)

  -- from where a line begins to one of its words
  begin_plain : {m i j n : ℕ} {ws : List LineWord} → Line kind Word src m i j n ws → (w : LineWord) → In w ws → Without is_feed src i w.place.from
  begin_plain (closed h) w x = absurd x
  begin_plain (ended h) w x = absurd x
  begin_plain (word {i} {end = end} {w = v} e g l) w (inl q) =
      let a = W.placed e in
      rw q (without_in is_feed src i i v.place.from end (omega arith) (omega (arith, a.1, a.2)) (W.plain e))
  begin_plain (word {i} {k} e g l) w (inr x) = without_on is_feed src i k w.place.from (word_plain e g l w x) (begin_plain l w x)

  -- Of two words of a line the first ends before the second begins,
  pub words_ordered : {m i j n : ℕ} {ws : List LineWord} → Line kind Word src m i j n ws → (v w : LineWord) → Earlier v w ws → v.place.to ≤ w.place.from
  words_ordered (closed h) v w x = absurd x
  words_ordered (ended h) v w x = absurd x
  words_ordered (word {i} {k} {j} {m} {n} {end} e g l) v w (inl x) =
      let a = W.placed e in
      let c = gap_placed kind src end k m a.3 g in
      let d = words_inside kind src W l w x.1 in
      rw x.0 (omega (arith, a.2, c.0, d.begins))
  words_ordered (word e g l) v w (inr x) = words_ordered l v w x

  -- and no LF stands between them.
  pub words_plain : {m i j n : ℕ} {ws : List LineWord} → Line kind Word src m i j n ws → (v w : LineWord) → Earlier v w ws → Without is_feed src v.place.to w.place.from
  words_plain (closed h) v w x = absurd x
  words_plain (ended h) v w x = absurd x
  words_plain (word {i} {k} {w = u} e g l) v w (inl x) =
      let a = W.placed e in
      rw x.0
      (without_in is_feed src i u.place.to w.place.from w.place.from (omega (arith, a.0, a.1)) (omega arith)
      (without_on is_feed src i k w.place.from (word_plain e g l w x.1) (begin_plain l w x.1)))
  words_plain (word e g l) v w (inr x) = words_plain l v w x

  -- spacing that counts a line passes a line end
  gap_ends : (end j n : ℕ) → end ≤ length src → spaces_at kind true src end ≡ Ok (j, n) → 0 < n → 0 < tally_at is_eol src end j
  gap_ends end j n h e p =
      let x = gap_placed kind src end j n h e in
      let y = x.0 in
      elim (ℕ_discrete (tally_at is_eol src end j) 0) [
        | yes z ↦ let o = (counted_iff kind true src end j n e).1 (tally_zero is_eol src end j (omega arith) x.1 z) in absurd (omega arith)
        | no z ↦ omega arith
      ]

  -- from before the spacing behind a word, where n line ends are counted, to where the line ends
  behind_over : (end : ℕ) → end ≤ length src → {k m j n : ℕ} {ws : List LineWord} → spaces_at kind true src end ≡ Ok (k, m) → Line kind Word src m k j n ws → LineOver src end j
  behind_over end b {k} {m} g (closed h) = inl (gap_ends end k m b g h)
  behind_over end b g (ended h) = inr h
  behind_over end b {k} {m} g (word {j = j} {end = end'} e g' l) =
      let x = gap_placed kind src end k m b g in
      let a = W.placed e in
      let c = gap_placed kind src end' _ _ a.3 g' in
      let d = line_passed kind src W c.1 l in
      over_on src end end' j (omega (arith, x.0, a.0, a.1, a.2)) (omega (arith, c.0, d.onward)) d.inside (behind_over end' a.3 g' l)

  -- Behind each of its words, up to where it ends, is a line end or the source's end.
  pub words_over : {m i j n : ℕ} {ws : List LineWord} → Line kind Word src m i j n ws → (w : LineWord) → In w ws → LineOver src w.place.to j
  words_over (closed h) w x = absurd x
  words_over (ended h) w x = absurd x
  words_over (word {i} {k} {j} {m} {n} {end} {w = v} e g l) w (inl q) =
      let a = W.placed e in
      let c = gap_placed kind src end k m a.3 g in
      let d = line_passed kind src W c.1 l in
      rw q (over_on src v.place.to end j a.2 (omega (arith, c.0, d.onward)) d.inside (behind_over end a.3 g l))
  words_over (word e g l) w (inr x) = words_over l w x
