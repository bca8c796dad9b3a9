-- One law for each turn of the trimming loop, as a rule for `search`, and where what is passed ends. Assumes nothing.
use Rattle.std.specs.Prelude.{Option, Some, None}
use Prim.Native.Nat.{ℕ, suc, ◌+◌, ◌-◌, ◌≤◌, ◌<◌}
use mathlib.Core.Path.{◌≡◌, refl, sym, ◌∙◌, ap}
use mathlib.Core.List.{List}
use mathlib.Core.Bool.{Bool, true, false, and-eq-true_iff}
use mathlib.Core.Logic.{◌⊎◌, inl, inr, ⊎_elim}
use native.Mathlib.Omega.{arith}
use lib.ListN.{length, get_or, take}
use lib.Seq.{length-take-le, get_or-take}
use borrow.Author.Tests.{lt-ltb, le-ltb, ltb-true, eq-eqb, ne_eqb}
use types.Run.{OneOf}
use Rattle.scan.specs.Loop.{Left}
use Rattle.scan.specs.declared.Class.TheVariants.{Graphic}
use Rattle.scan.specs.Scan.{in_class, Runs}
use Rattle.scan.specs.declared.Place.{Place}
use Rattle.scan.proofs.Loop.{left_start, left_more, left_stop}
use Rattle.scan.proofs.Runs.{run_runs, run_keeps, run_tail}
use Rattle.utf8.specs.White.{is_white}
use Rattle.utf8.specs.Utf8.{decode_at, Decodes}
use Rattle.utf8.proofs.White.{singles, white_no}
use Rattle.utf8.proofs.Utf8.{decode_inside}
use Rattle.whole.proofs.Laws.{decode_plain}
use Rattle.trim.specs.declared.Passed.{Passed}
use Rattle.trim.specs.declared.Passed.TheVariants.{White, Kept}
use Rattle.trim.specs.Trim.{passed, passed_at, end_of, Passes, plain_end, Trim, kept, moved, trim_turn, place_of, trimmed}

-- `pass`
module _ (s : List ℕ) (i : ℕ) (d : Option (ℕ × ℕ)) (q : d ≡ decode_at s i) where
  pub pass_white : (p j : ℕ) (w : Bool) → d ≡ Some (p, j) → w ≡ is_white p → w ≡ true → White j ≡ passed_at s i
  unfolding passed_at passed
  pass_white p j w e f t = rw (sym q ∙ e, sym f ∙ t, passed)

  pub pass_kept : (p j : ℕ) (w : Bool) → d ≡ Some (p, j) → w ≡ is_white p → w ≡ false → Kept j ≡ passed_at s i
  unfolding passed_at passed
  pass_kept p j w e f t = rw (sym q ∙ e, sym f ∙ t, passed)

  pub pass_bad : d ≡ None → Kept (i + 1) ≡ passed_at s i
  unfolding passed_at passed
  pass_bad e = rw (sym q ∙ e)

-- What is passed ends behind where it begins, and within the source if it begins there.
pub pass_inside : (s : List ℕ) (i : ℕ) → (i < end_of (passed_at s i)) × (i < length s → end_of (passed_at s i) ≤ length s)
unfolding passed_at passed
pass_inside s i = go (decode_at s i) (decode_inside s i)
  where
    by_test : (j : ℕ) (w : Bool) → i < j → j ≤ length s → (i < end_of (elim w [ true ↦ White j | false ↦ Kept j ])) × (i < length s → end_of (elim w [ true ↦ White j | false ↦ Kept j ]) ≤ length s)
    by_test j true h k = (h, λ l. k)
    by_test j false h k = (h, λ l. k)

    go : (d : Option (ℕ × ℕ)) → Decodes s i d → (i < end_of (passed d i)) × (i < length s → end_of (passed d i) ≤ length s)
    go (Some (p, j)) h = by_test j (is_white p) h.0 h.1
    go None h = (omega arith, λ l. omega arith)

-- the same, of an answer that is known to be the definition's
pub passes : (s : List ℕ) (i : ℕ) (r : Passed) → i < length s → r ≡ passed_at s i → Passes s i r
passes s i r h e = let x = pass_inside s i in rw e (x.0, x.1 h)

abbrev pub at : ℕ → ℕ → ℕ → Trim
at start end i = record { from = start; to = end; i = i }

-- what is left of the trimming of a region, where index i is reached and what was kept so far runs from `start` to `end`
abbrev pub Going : List ℕ → ℕ → ℕ → ℕ → ℕ → ℕ → Type 0
Going s from to start end i = Left (trim_turn s to) (at from from from) (suc (to - from)) (to - i) (at start end i)

pub trim_first : (s : List ℕ) (from to : ℕ) → Going s from to from from from
trim_first s from to = left_start (trim_turn s to) (at from from from) (suc (to - from)) (to - from) (omega arith)

turn_past : (s : List ℕ) (i j : ℕ) (q : Passed) → q ≡ passed_at s i → end_of q ≡ j → i < j
turn_past s i j q e f =
    let p = (pass_inside s i).0 in
    let g : end_of (passed_at s i) ≡ j = sym (ap end_of e) ∙ f in
    omega arith

turn_less : (s : List ℕ) (to i j : ℕ) (q : Passed) → i < to → q ≡ passed_at s i → end_of q ≡ j → to - j < to - i
turn_less s to i j q h e f = let p = turn_past s i j q e f in omega arith

module _ (s : List ℕ) (from to start end i : ℕ) (inv : Going s from to start end i) where
  pub trim_done : to ≤ i → ◌≡◌ {A = Place} (record { from = start; to = end }) (trimmed s from to)
  unfolding trim_turn trimmed
  trim_done h = ap place_of (sym (left_stop (trim_turn s to) (at start end i) inv (rw (le-ltb i to h, trim_turn))))

  module _ (q : Passed) (j : ℕ) (h : i < to) (e : q ≡ passed_at s i) where
    pub turn_white : q ≡ White j → Going s from to start end j
    unfolding trim_turn moved
    turn_white f = left_more (trim_turn s to) _ inv _ (rw (lt-ltb i to h, sym e ∙ f, trim_turn)) (turn_less s to i j q h e (ap end_of f))

    pub turn_start : q ≡ Kept j → start ≡ end → Going s from to i j j
    unfolding trim_turn moved kept
    turn_start f g = left_more (trim_turn s to) _ inv _ (rw (lt-ltb i to h, sym e ∙ f, trim_turn, eq-eqb start end g, kept)) (turn_less s to i j q h e (ap end_of f))

    pub turn_kept : q ≡ Kept j → (start ≡ end → ⊥) → Going s from to start j j
    unfolding trim_turn moved kept
    turn_kept f g = left_more (trim_turn s to) _ inv _ (rw (lt-ltb i to h, sym e ∙ f, trim_turn, ne_eqb start end g, kept)) (turn_less s to i j q h e (ap end_of f))

pub white_less : (s : List ℕ) (to i j : ℕ) (q : Passed) → i < to → q ≡ passed_at s i → q ≡ White j → to - j < to - i
white_less s to i j q h e f = turn_less s to i j q h e (ap end_of f)

pub kept_less : (s : List ℕ) (to i j : ℕ) (q : Passed) → i < to → q ≡ passed_at s i → q ≡ Kept j → to - j < to - i
kept_less s to i j q h e f = turn_less s to i j q h e (ap end_of f)

-- what lies in front of an index lies in front of what is passed there
pub white_over : (s : List ℕ) (b i j : ℕ) (q : Passed) → q ≡ passed_at s i → q ≡ White j → b ≤ i → b ≤ j
white_over s b i j q e f h = let p = turn_past s i j q e (ap end_of f) in omega arith

pub kept_past : (s : List ℕ) (i j : ℕ) (q : Passed) → q ≡ passed_at s i → q ≡ Kept j → i ≤ j
kept_past s i j q e f = let p = turn_past s i j q e (ap end_of f) in omega arith

pub kept_over : (s : List ℕ) (a b i j : ℕ) (q : Passed) → q ≡ passed_at s i → q ≡ Kept j → a ≤ b → b ≤ i → a ≤ j
kept_over s a b i j q e f g h = let p = kept_past s i j q e f in omega arith

-- a graphic byte is no blank
no_single : (p : ℕ) → 32 < p → p < 127 → OneOf singles p → ⊥
no_single p u v o =
    let out : (k : ℕ) → (k < 33) ⊎ (126 < k) → p ≡ k → ⊥ = λ k h e. ⊎_elim (λ l. absurd (omega arith)) (λ l. absurd (omega arith)) h in
    ⊎_elim (out 32 (inl (omega arith)))
    (⊎_elim (out 133 (inr (omega arith)))
    (⊎_elim (out 160 (inr (omega arith)))
    (⊎_elim (out 5760 (inr (omega arith)))
    (⊎_elim (out 8232 (inr (omega arith)))
    (⊎_elim (out 8233 (inr (omega arith)))
    (⊎_elim (out 8239 (inr (omega arith)))
    (⊎_elim (out 8287 (inr (omega arith))) (out 12288 (inr (omega arith)))))))))) o

-- it is a code point by itself, and kept
graphic_kept : (s : List ℕ) (k : ℕ) → k < length s → in_class Graphic (get_or s k 0) ≡ true → Kept (k + 1) ≡ passed_at s k
unfolding in_class
graphic_kept s k h t =
    let b = (and-eq-true_iff _ _).0 t in
    let u : 32 < get_or s k 0 = ltb-true _ _ b.0 in
    let v : get_or s k 0 < 127 = ltb-true _ _ b.1 in
    pass_kept s k _ refl (get_or s k 0) (k + 1) false (decode_plain s k h (omega arith)) (white_no _ (no_single _ u v) (λ a b. omega arith) (λ a b. omega arith)) refl

-- the part of a source in front of an index
pub part_long : (s : List ℕ) (to : ℕ) → to ≤ length s → to ≡ length (take to s)
part_long s to m = sym (length-take-le to s m)

pub part_fits : (s : List ℕ) (i to : ℕ) → i ≤ to → to ≤ length s → i ≤ length (take to s)
part_fits s i to h m = let z = length-take-le to s m in omega arith

-- a run of graphic bytes in a region, all kept
module _ (s : List ℕ) (i to e : ℕ) (m : to ≤ length s) (q : e ≡ plain_end s i to) (h : i < to) (past : i < e) where
  run : Runs (in_class Graphic) (take to s) i e
  unfolding plain_end
  run = run_runs (in_class Graphic) (take to s) i e (part_fits s i to (omega arith) m) q

  byte_kept : (k : ℕ) → k < to → in_class Graphic (get_or (take to s) k 0) ≡ true → Kept (k + 1) ≡ passed_at s k
  byte_kept k l t = graphic_kept s k (omega arith) (rw (get_or-take to s k 0 l) at t)

  first : Kept (i + 1) ≡ passed_at s i
  first = byte_kept i h (run.each i (omega arith) past)

  module _ (from : ℕ) where
    -- from the second byte on
    on : (b : ℕ) → b < i + 1 → Going s from to b (i + 1) (i + 1) → Going s from to b e e
    on b l x =
        (run_keeps (λ k. (b < k) × Going s from to b k k) (in_class Graphic) (take to s) (i + 1) e (run_tail (in_class Graphic) (take to s) i e run past)
        (λ k o t y.
        let z = part_long s to m in
        let n : k < to = omega arith in
        let u = y.0 in
        (omega arith, turn_kept s from to b k k y.1 _ (k + 1) n (byte_kept k n t) refl (λ v. absurd (omega arith))))
        (l, x)).1

    module _ (start end : ℕ) (inv : Going s from to start end i) where
      pub run_start : start ≡ end → Going s from to i e e
      run_start g = on i (omega arith) (turn_start s from to start end i inv _ (i + 1) h first refl g)

      pub run_kept : start ≤ end → end ≤ i → (start ≡ end → ⊥) → Going s from to start e e
      run_kept a b g = on start (omega arith) (turn_kept s from to start end i inv _ (i + 1) h first refl g)
