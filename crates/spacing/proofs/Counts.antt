-- Lines that spacing has counted stay counted, a line end that it passed is counted, and so is that of a `//` comment. Assumes nothing.
use Prim.Native.Nat.{ℕ, ◌+◌, ◌≤◌, ◌<◌}
use mathlib.Core.Path.{◌≡◌, refl}
use mathlib.Core.List.{List, [], ◌∷◌}
use mathlib.Core.Bool.{Bool, true, false, not, ◌&&◌, false≢true}
use mathlib.Core.Logic.{⊎_elim}
use native.Mathlib.Omega.{arith}
use lib.Dec.{eqb}
use lib.ListN.{length, get_or, drop}
use borrow.Author.Tests.{eqb-true, not-false}
use Rattle.scan.specs.declared.Class.TheVariants.{LineByte}
use Rattle.scan.specs.Scan.{is_eol, in_class, begins, starts_at, Runs}
use Rattle.scan.specs.Lines.{lines_here, lines_at}
use Rattle.scan.proofs.Bytes.{on_test, told, starts_fits, starts_byte}
use Rattle.scan.proofs.Lines.{here_pair}
use Rattle.scan.proofs.Runs.{run_past, run_tail}
use Rattle.spacing.specs.Spacing.{slash_closes, is_blank, Mode, gap, slash, line, comment, spacing, spacing_at, spaces_at, AtLeast}
use Rattle.spacing.proofs.Laws.{a_line_counted}

module _ (kind : ℕ) (ok : Bool) where
  more : (l : List ℕ) (mode : Mode) (i n k : ℕ) → k ≤ n → AtLeast k (spacing kind ok mode l i n)
  unfolding spacing
  more [] gap i n k h = h
  more [] (slash b) i n k h = h
  more [] line i n k h = h
  more [] (comment b behind) i n k h = tt
  more (c ∷ cs) gap i n k h =
      on_test (AtLeast k) (is_blank c) _ _ (λ e. more cs gap (i + 1) n k h)
      (λ f. on_test (AtLeast k) (is_eol c) _ _
      (λ e. on_test (AtLeast k) (not ok) _ _ (λ r. tt) (λ r. more cs gap (i + 1) (n + lines_here c cs) k (omega arith)))
      (λ g. on_test (AtLeast k) (eqb c 47) _ _ (λ e. more cs (slash i) (i + 1) n k h) (λ e. h)))
  more (c ∷ cs) (slash b) i n k h =
      on_test (AtLeast k) (eqb c 47) _ _ (λ e. more cs line (i + 1) n k h)
      (λ f. on_test (AtLeast k) (eqb c 42) _ _ (λ e. more cs (comment b false) (i + 1) n k h) (λ e. h))
  more (c ∷ cs) line i n k h = on_test (AtLeast k) (is_eol c) _ _ (λ e. more cs gap (i + 1) (n + lines_here c cs) k (omega arith)) (λ e. more cs line (i + 1) n k h)
  more (c ∷ cs) (comment b behind) i n k h =
      on_test (AtLeast k) (behind && eqb c 47) _ _ (λ e. more cs gap (i + 1) n k h)
      (λ f. on_test (AtLeast k) (is_eol c) _ _
      (λ e. on_test (AtLeast k) (not ok) _ _ (λ r. tt) (λ r. more cs (comment b (slash_closes kind)) (i + 1) (n + lines_here c cs) k (omega arith)))
      (λ g. more cs (comment b (eqb c 42)) (i + 1) n k h))

  -- an LF is counted, or refused
  lf_counted : (cs : List ℕ) (i n : ℕ) → begins (10 ∷ []) cs ≡ true → AtLeast 1 (spacing kind ok gap cs i n)
  unfolding spacing begins lines_here is_blank is_eol
  lf_counted [] i n b = absurd (false≢true b)
  lf_counted (d ∷ ds) i n b = go d (eqb d 10) refl b
    where
      go : (c : ℕ) (x : Bool) → eqb c 10 ≡ x → elim x [ true ↦ true | false ↦ false ] ≡ true → AtLeast 1 (spacing kind ok gap (c ∷ ds) i n)
      go c true e b = let z = eqb-true c 10 e in rw z (on_test (AtLeast 1) (not ok) _ _ (λ r. tt) (λ r. more ds gap (i + 1) (n + 1) 1 (omega arith)))
      go c false e b = absurd (false≢true b)

  -- Behind an LF or a CR that was passed a line is counted: with that byte, or with the LF that follows it, unless that one is refused.
  pub end_counted : (c : ℕ) (cs : List ℕ) (i n : ℕ) → is_eol c ≡ true → AtLeast 1 (spacing kind ok gap cs i (n + lines_here c cs))
  end_counted c cs i n e = ⊎_elim (λ q. more cs gap i _ 1 (omega arith)) (λ b. lf_counted cs i _ b) (here_pair c cs e)

  -- Spacing that begins with a `//` comment which ends with a line end, at the index e, counts at least one line, unless it is refused.
  pub comment_counted : (s : List ℕ) (i e : ℕ) → starts_at (47 ∷ 47 ∷ []) s i ≡ true → Runs (in_class LineByte) s i e → e < length s → AtLeast 1 (spaces_at kind ok s i)
  unfolding spacing_at in_class is_eol lines_at
  comment_counted s i e h x l =
      let f = starts_fits (47 ∷ 47 ∷ []) s i h (omega arith) in
      let z : i + 0 ≡ i = omega arith in
      let a : get_or s i 0 ≡ 47 = rw z at (starts_byte (47 ∷ 47 ∷ []) s i h 0 (omega arith)) in
      let b : get_or s (i + 1) 0 ≡ 47 = starts_byte (47 ∷ 47 ∷ []) s i h 1 (omega arith) in
      told (AtLeast 1) (a_line_counted kind ok s 0 (spaces_at kind ok s i) i e refl (omega arith) a (omega arith) b (behind a) (lines_at s e) l refl) (end_counted (get_or s e 0) (drop (e + 1) s) (e + 1) 0 (not-false (is_eol (get_or s e 0)) (x.stops l)))
    where
      slash_on : (c : ℕ) → c ≡ 47 → in_class LineByte c ≡ true
      slash_on c q = rw q

      -- the first byte of the comment is no line end, so the run goes on behind it
      behind : get_or s i 0 ≡ 47 → Runs (in_class LineByte) s (i + 1) e
      behind q = run_tail (in_class LineByte) s i e x (run_past (in_class LineByte) s i e x (let u = x.onward in omega arith) (slash_on _ q))
