-- An action that stands in one source stands in any where its bytes do: its trimmed text and its span are the same bytes. Assumes nothing.
use Rattle.std.specs.Prelude.{Option, Some, None, Ok}
use Prim.Native.Nat.{ℕ, zero, suc, ◌+◌, ◌-◌, ◌≤◌, ◌<◌}
use mathlib.Core.Path.{◌≡◌, refl, sym, ◌∙◌, ap}
use mathlib.Core.List.{List, [], ◌∷◌, ◌++◌}
use mathlib.Core.Logic.{inl}
use native.Mathlib.Omega.{arith}
use native.Mathlib.Nat.{zero-add, suc-add}
use lib.ListN.{length, get_or, drop, take, length-drop}
use lib.Seq.{slice, length-slice, slice-cons, take-nil}
use Rattle.scan.proofs.Tuples.{ok_4}
use Rattle.scan.specs.declared.Place.{Place}
use Rattle.scan.proofs.Bytes.{told, drop_below, drop_byte, drop_next}
use Rattle.whole.specs.Encode.{Text}
use Rattle.whole.proofs.Boundaries.{between, begins_boundary, ascii_behind}
use Rattle.trim.specs.Trim.{trimmed}
use Rattle.trim.specs.Trims.{size}
use Rattle.trim.proofs.Theorem.{trims, trims_inside}
use Rattle.trim.proofs.Inside.{inside}
use Rattle.texts.specs.Action.{braced, braced_from, span_of, acted, action_at}
use Rattle.texts.proofs.Balance.{action_is}
use Rattle.alike.specs.Like.{Same}
use Rattle.alike.proofs.Agree.{clash, Agree, agree_slice, slice_agree}
use Rattle.alike.proofs.Texts.{brace_move, trim_move}

pub slice_take : (a n : ℕ) (s : List ℕ) → slice a (a + n) s ≡ take n (drop a s)
slice_take zero n s = rw (zero-add n)
slice_take (suc a) n [] = rw (suc-add a n) (sym (take-nil n))
slice_take (suc a) n (x ∷ xs) = rw (suc-add a n) (slice_take a n xs)

cut : (s : List ℕ) (i e n : ℕ) → e ≡ i + 1 + suc n → slice (suc i) e s ≡ take (suc n) (drop (i + 1) s)
cut s i e n z = let z1 : suc i ≡ i + 1 = omega arith in rw (z1, z) (slice_take (i + 1) (suc n) s)

-- where a brace closes
pub record Stood (s : List ℕ) (i e m : ℕ) (p q : Place) : Type 0 where
  pub size : ℕ
  pub ends : e ≡ i + 1 + size + 1
  pub low : i + 1 + size < length s
  pub text : p ≡ trimmed s (i + 1) (i + 1 + size)
  pub span : q ≡ span_of (i + 1) p
  pub moves : (r : List ℕ) (j n : ℕ) → (k : ℕ) × (braced 0 (take (suc size) (drop (i + 1) s) ++ r) j n ≡ Some (j + size, k))

pub stood : (s : List ℕ) (i e m : ℕ) (p q : Place) → action_at s i ≡ Ok (e, m, p, q) → Stood s i e m p q
unfolding action_at acted braced_from
stood s i e m p q = go (braced 0 (drop (i + 1) s) (i + 1) 0) refl
  where
    go : (b : Option (ℕ × ℕ)) → braced 0 (drop (i + 1) s) (i + 1) 0 ≡ b → acted s i b ≡ Ok (e, m, p, q) → Stood s i e m p q
    go (Some (to, n)) h r =
        let w = brace_move 0 (drop (i + 1) s) (i + 1) 0 to n h in
        let z = w.ends in
        let o = w.inside in
        let l = length-drop (i + 1) s in
        let d = ok_4 r in
        let a : to + 1 ≡ e = d.0 in
        let b : trimmed s (i + 1) to ≡ p = d.2 in
        let c : span_of (i + 1) (trimmed s (i + 1) to) ≡ q = d.3 in
        record { size = w.size; ends = omega arith; low = omega arith; text = rw (← z) (sym b); span = sym c ∙ ap (span_of (i + 1)) b; moves = w.moves }
    go None h r = absurd (clash cc)

pub record ActionAgain (s t : List ℕ) (j f : ℕ) (x : List ℕ) (p q : Place) : Type 0 where
  pub lines : ℕ
  pub text : Place
  pub span : Place
  pub is : action_at t j ≡ Ok (f, lines, text, span)
  pub same : Same s t p.from p.to text.from text.to
  pub alike : Same s t q.from q.to span.from span.to
  pub spelled : slice j f t ≡ x

pub action_again : (s t : List ℕ) (i e m j : ℕ) (p q : Place) (x r : List ℕ) → action_at s i ≡ Ok (e, m, p, q) → Text (slice (i + 1) (e - 1) s) → slice i e s ≡ x → drop j t ≡ x ++ r → j ≤ length t → ActionAgain s t j (j + length x) x p q
unfolding action_at acted braced_from
action_again s t i e m j p q x r h text is d l =
    let w = stood s i e m p q h in
    let n = w.size in
    let a = w.ends in
    let b = w.low in
    let c = length-slice i e s (omega arith) in
    let c' : length x ≡ length (slice i e s) = ap length (sym is) in
    let g : Agree s t i j (n + 2) = agree_slice s t i (n + 2) j r (omega arith) (let z : i + (n + 2) ≡ e = omega arith in rw (z, is) d) l in
    let g' : Agree s t (i + 1) (j + 1) n = record { here = omega arith; there = (let y = g.there in omega arith); same = λ u v o k y. g.same u v (omega arith) (omega arith) (omega arith) } in
    let head : x ≡ get_or s i 0 ∷ slice (suc i) e s = sym is ∙ slice-cons i e s 0 (omega arith) (omega arith) in
    let d' : drop j t ≡ get_or s i 0 ∷ (slice (suc i) e s ++ r) = d ∙ ap (λ (y : List ℕ). y ++ r) head in
    let d2 : drop (j + 1) t ≡ slice (suc i) e s ++ r = drop_next t j _ _ d' in
    let z2 : e ≡ i + 1 + suc n = omega arith in
    let sl : slice (suc i) e s ≡ take (suc n) (drop (i + 1) s) = cut s i e n z2 in
    let d3 : drop (j + 1) t ≡ take (suc n) (drop (i + 1) s) ++ r = d2 ∙ ap (λ (y : List ℕ). y ++ r) sl in
    let mv = w.moves r (j + 1) 0 in
    let br : braced 0 (drop (j + 1) t) (j + 1) 0 ≡ Some (j + 1 + n, mv.0) = rw d3 mv.1 in
    let z3 : e - 1 ≡ i + 1 + n = omega arith in
    let tm = trim_move s t (i + 1) (j + 1) n g' (rw z3 at text) in
    let z4 : j + 1 + n + 1 ≡ j + length x = omega arith in
    record {
      lines = mv.0;
      text = trimmed t (j + 1) (j + 1 + n);
      span = span_of (j + 1) (trimmed t (j + 1) (j + 1 + n));
      is = rw (br, z4);
      same = told (λ (y : Place). Same s t y.from y.to (trimmed t (j + 1) (j + 1 + n)).from (trimmed t (j + 1) (j + 1 + n)).to) (sym w.text) tm;
      alike = spans g' tm (trims_within n g' (rw z3 at text)) w.text w.span;
      spelled = sym (slice_agree s t i j (n + 2) i e j (j + length x) g (omega arith) (omega arith) (omega arith) (omega arith) (omega arith)) ∙ is;
    }
  where
    trims_within : (n : ℕ) → Agree s t (i + 1) (j + 1) n → Text (slice (i + 1) (i + 1 + n) s) → (trimmed s (i + 1) (i + 1 + n)).to ≤ i + 1 + n
    trims_within n g x =
        let u = g.here in
        let k : size x.points ≡ length (slice (i + 1) (i + 1 + n) s) = ap length x.same in
        let o = length-slice (i + 1) (i + 1 + n) s u in
        (trims_inside (i + 1) (i + 1 + n) x.points _ (trims s (i + 1) (i + 1 + n) x (omega arith) u) (omega arith)).2

    long : (a b c d : ℕ) → Same s t a b c d → b - a ≡ d - c
    long a b c d y =
        let k = length-slice a b s y.here.1 in
        let o = length-slice c d t y.there.1 in
        let z : length (slice a b s) ≡ length (slice c d t) = ap length y.bytes in
        omega arith

    -- the span has the trimmed length, from behind the brace
    spans : {n : ℕ} → Agree s t (i + 1) (j + 1) n → Same s t (trimmed s (i + 1) (i + 1 + n)).from (trimmed s (i + 1) (i + 1 + n)).to (trimmed t (j + 1) (j + 1 + n)).from (trimmed t (j + 1) (j + 1 + n)).to
        → (trimmed s (i + 1) (i + 1 + n)).to ≤ i + 1 + n → p ≡ trimmed s (i + 1) (i + 1 + n) → q ≡ span_of (i + 1) p
        → Same s t q.from q.to (span_of (j + 1) (trimmed t (j + 1) (j + 1 + n))).from (span_of (j + 1) (trimmed t (j + 1) (j + 1 + n))).to
    spans {n} g y h e f =
        let u = g.here in
        let v = g.there in
        let o = long _ _ _ _ y in
        let a = (inside s (i + 1) (i + 1 + n) (trimmed s (i + 1) (i + 1 + n)) (let w = g.here in omega arith) refl).0 in
        rw (f, e)
        (record {
          here = (omega arith, omega arith);
          there = (omega arith, omega arith);
          bytes = slice_agree s t (i + 1) (j + 1) n (i + 1) (i + 1 + ((trimmed s (i + 1) (i + 1 + n)).to - (trimmed s (i + 1) (i + 1 + n)).from)) (j + 1) (j + 1 + ((trimmed t (j + 1) (j + 1 + n)).to - (trimmed t (j + 1) (j + 1 + n)).from)) g (omega arith) (omega arith) (omega arith) (omega arith) (omega arith);
        })

-- What an action holds between its braces, which are ASCII, is UTF-8 if the source is.
pub action_text : (s : List ℕ) → Text s → (i e n : ℕ) (p q : Place) (l : List ℕ) → drop i s ≡ 123 ∷ l → action_at s i ≡ Ok (e, n, p, q) → Text (slice (i + 1) (e - 1) s)
action_text s text i e n p q l d h =
    let b = drop_below s i 123 l d in
    let z = drop_byte s i 123 l d in
    let x = (action_is s i b e n p q h).0 in
    let a = x.onward in
    let c = x.closes in
    between s (i + 1) (e - 1) (omega arith) (ascii_behind s text i b (omega arith)) (begins_boundary s text (e - 1) x.inside (inl (omega arith)))
