-- The scan finds what trimming is. Assumes nothing.
use Rattle.std.specs.Prelude.{Some}
use Prim.Native.Nat.{ℕ, ◌+◌, ◌≤◌, ◌<◌}
use mathlib.Core.Path.{◌≡◌, refl, sym, ◌∙◌, ap}
use mathlib.Core.List.{List, [], ◌∷◌, ◌++◌, append_assoc, append-nil}
use mathlib.Core.Bool.{Bool, true, false}
use native.Mathlib.Omega.{arith}
use lib.ListN.{length, take, drop, length-append, take-append-drop}
use lib.Seq.{drop-append_seam, drop-drop, append_snoc, drop-append-le, length-take-le, slice, length-slice}
use Rattle.scan.specs.declared.Place.{Place}
use Rattle.utf8.specs.White.{is_white}
use Rattle.utf8.specs.Utf8.{decode_at}
use Rattle.utf8.proofs.Utf8.{decode_past}
use Rattle.whole.specs.Encode.{Scalars, encode, encoded, Text}
use Rattle.whole.proofs.Encode.{decode_encode}
use Rattle.whole.proofs.Boundaries.{encoded_append, between}
use Rattle.trim.specs.declared.Passed.TheVariants.{White, Kept}
use Rattle.trim.specs.Trim.{passed, passed_at, trimmed}
use Rattle.trim.specs.Trims.{Blank, last_of, size, Trims}
use Rattle.trim.proofs.Laws.{Going, trim_first, trim_done, turn_white, turn_start, turn_kept}

-- lists of code points
size_cons : (c : ℕ) (cs : List ℕ) → size (c ∷ cs) ≡ length (encode c) + size cs
unfolding encoded
size_cons c cs = length-append (encode c) (encoded cs)

size_append : (xs ys : List ℕ) → size (xs ++ ys) ≡ size xs + size ys
size_append xs ys = ap length (encoded_append xs ys) ∙ length-append (encoded xs) (encoded ys)

size_one : (c : ℕ) → size (c ∷ []) ≡ length (encode c)
unfolding encoded
size_one c = omega (arith, size_cons c [])

blank_snoc : (xs : List ℕ) (c : ℕ) → Blank xs → is_white c ≡ true → Blank (xs ++ (c ∷ []))
blank_snoc [] c b h = (h, tt)
blank_snoc (x ∷ xs) c b h = (b.0, blank_snoc xs c b.1 h)

last_append : (d : ℕ) (xs : List ℕ) (c : ℕ) (ys : List ℕ) → last_of d (xs ++ c ∷ ys) ≡ last_of c ys
unfolding last_of
last_append d [] c ys = refl
last_append d (x ∷ xs) c ys = last_append x xs c ys

-- the code points that are still to come stand at index i
record Ahead (s : List ℕ) (to i : ℕ) (cs : List ℕ) : Type 0 where
  scalars : Scalars cs
  rest : List ℕ
  same : drop i s ≡ encoded cs ++ rest
  end : to ≡ i + size cs

module _ (s : List ℕ) (to : ℕ) where
  -- one of them is decoded
  module _ (i c : ℕ) (cs : List ℕ) (h : Ahead s to i (c ∷ cs)) where
    point : decode_at s i ≡ Some (c, i + length (encode c))
    unfolding decode_at encoded
    point = rw (h.same, append_assoc (encode c) (encoded cs) h.rest) (decode_encode c (encoded cs ++ h.rest) i h.scalars.0)

    wide : i < i + length (encode c)
    unfolding decode_at
    wide = decode_past (drop i s) i c (i + length (encode c)) point

    more : i < to
    more = let w = wide in let e = h.end in omega (arith, size_cons c cs)

    onward : Ahead s to (i + length (encode c)) cs
    unfolding encoded
    onward =
        record {
          scalars = h.scalars.1;
          rest = h.rest;
          same =
              sym (drop-drop (length (encode c)) i s) ∙ (ap (drop (length (encode c))) (h.same ∙ append_assoc (encode c) (encoded cs) h.rest) ∙ drop-append_seam (encode c) (encoded cs ++ h.rest));
          end = let e = h.end in omega (arith, size_cons c cs);
        }

    white : is_white c ≡ true → White (i + length (encode c)) ≡ passed_at s i
    unfolding passed_at passed
    white w = rw (point, w, passed)

    kept : is_white c ≡ false → Kept (i + length (encode c)) ≡ passed_at s i
    unfolding passed_at passed
    kept w = rw (point, w, passed)

  -- behind a kept code point d that ends at `end`, past the blanks ws: what is kept is m more code points
  record Later (d start end : ℕ) (cs : List ℕ) (r : Place) : Type 0 where
    m : List ℕ
    after : List ℕ
    parts : cs ≡ m ++ after
    blank : Blank after
    last : is_white (last_of d m) ≡ false
    starts : r.from ≡ start
    ends : r.to ≡ end + size m

  module _ (from : ℕ) where
    later : (cs : List ℕ) (d start end i : ℕ) (ws : List ℕ) → Ahead s to i cs → start < end → is_white d ≡ false → Blank ws → i ≡ end + size ws → Going s from to start end i → Later d start end (ws ++ cs) (trimmed s from to)
    unfolding last_of encoded
    later [] d start end i ws a h k b e g =
        let x = a.end in
        let q = trim_done s from to start end i g (omega arith) in
        record {
          m = [];
          after = ws;
          parts = append-nil ws;
          blank = b;
          last = k;
          starts = ap (λ (p : Place). p.from) (sym q);
          ends = ap (λ (p : Place). p.to) (sym q) ∙ omega arith;
        }
    later (c ∷ cs) d start end i ws a h k b e g = go (is_white c) refl (later cs)
      where
        j : ℕ
        j = i + length (encode c)

        kept_one : Later c start j cs (trimmed s from to) → Later d start end (ws ++ (c ∷ cs)) (trimmed s from to)
        kept_one x =
            let y = x.ends in
            record {
              m = ws ++ (c ∷ x.m);
              after = x.after;
              parts = ap (λ l. ws ++ (c ∷ l)) x.parts ∙ sym (append_assoc ws (c ∷ x.m) x.after);
              blank = x.blank;
              last = rw (last_append d ws c x.m) x.last;
              starts = x.starts;
              ends = omega (arith, size_append ws (c ∷ x.m), size_cons c x.m);
            }

        go : (t : Bool) → is_white c ≡ t → ((d start end i : ℕ) (ws : List ℕ) → Ahead s to i cs → start < end → is_white d ≡ false → Blank ws → i ≡ end + size ws → Going s from to start end i → Later d start end (ws ++ cs) (trimmed s from to)) → Later d start end (ws ++ (c ∷ cs)) (trimmed s from to)
        go true w ih =
            let n : j ≡ end + size (ws ++ (c ∷ [])) = omega (arith, size_append ws (c ∷ []), size_one c) in
            let x = ih d start end j (ws ++ (c ∷ [])) (onward i c cs a) h k (blank_snoc ws c b w) n (turn_white s from to start end i g _ j (more i c cs a) (white i c cs a w) refl) in
            rw (append_snoc ws c cs) at x
        go false w ih =
            let p = wide i c cs a in
            let z : j ≡ j + 0 = omega arith in
            kept_one (ih c start j j [] (onward i c cs a) (omega arith) w tt z (turn_kept s from to start end i g _ j (more i c cs a) (kept i c cs a w) refl (λ f. omega arith)))

    -- before anything is kept, past the blanks ws
    first : (cs : List ℕ) (i : ℕ) (ws : List ℕ) → Ahead s to i cs → Blank ws → i ≡ from + size ws → Going s from to from from i → Trims from (ws ++ cs) (trimmed s from to)
    unfolding encoded
    first [] i ws a b e g =
        let x = a.end in
        let q = trim_done s from to from from i g (omega arith) in
        record {
          before = [];
          mid = [];
          after = ws;
          parts = append-nil ws;
          blank_before = tt;
          blank_after = b;
          edges = tt;
          empty = λ f. refl;
          starts = ap (λ (p : Place). p.from) (sym q) ∙ omega arith;
          ends = ap (λ (p : Place). p.to) (sym q) ∙ omega arith;
        }
    first (c ∷ cs) i ws a b e g = go (is_white c) refl (first cs)
      where
        j : ℕ
        j = i + length (encode c)

        kept_one : is_white c ≡ false → Later c i j cs (trimmed s from to) → Trims from (ws ++ (c ∷ cs)) (trimmed s from to)
        kept_one w x =
            let u = x.starts in
            let y = x.ends in
            record {
              before = ws;
              mid = c ∷ x.m;
              after = x.after;
              parts = ap (λ l. ws ++ (c ∷ l)) x.parts;
              blank_before = b;
              blank_after = x.blank;
              edges = (w, x.last);
              empty = λ f. let q : ◌≡◌ {A = ℕ} 0 1 = cc in absurd (omega arith);
              starts = omega arith;
              ends = omega (arith, size_cons c x.m);
            }

        go : (t : Bool) → is_white c ≡ t → ((i : ℕ) (ws : List ℕ) → Ahead s to i cs → Blank ws → i ≡ from + size ws → Going s from to from from i → Trims from (ws ++ cs) (trimmed s from to)) → Trims from (ws ++ (c ∷ cs)) (trimmed s from to)
        go true w ih =
            let n : j ≡ from + size (ws ++ (c ∷ [])) = omega (arith, size_append ws (c ∷ []), size_one c) in
            let x = ih j (ws ++ (c ∷ [])) (onward i c cs a) (blank_snoc ws c b w) n (turn_white s from to from from i g _ j (more i c cs a) (white i c cs a w) refl) in
            rw (append_snoc ws c cs) at x
        go false w ih =
            let z : j ≡ j + 0 = omega arith in
            kept_one w (later cs c i j j [] (onward i c cs a) (wide i c cs a) w tt z (turn_start s from to from from i g _ j (more i c cs a) (kept i c cs a w) refl refl))

-- a region that is the octets of a text lies ahead
region : (s : List ℕ) (from to : ℕ) (t : Text (slice from to s)) → from ≤ to → to ≤ length s → Ahead s to from t.points
region s from to t h k = record { scalars = t.scalars; rest = drop to s; same = same; end = omega (arith, ap length t.same, length-slice from to s k) }
  where
    same : drop from s ≡ encoded t.points ++ drop to s
    same =
        ap (drop from) (sym (take-append-drop to s))
        ∙ (drop-append-le from (take to s) (drop to s) (omega (arith, length-take-le to s k)) ∙ ap (λ l. l ++ drop to s) (sym t.same))

-- In a region of a source that is the octets of a text, trimming is what it should be.
pub trims : (s : List ℕ) (from to : ℕ) (t : Text (slice from to s)) → from ≤ to → to ≤ length s → Trims from t.points (trimmed s from to)
unfolding encoded
trims s from to t h k = first s to from t.points from [] (region s from to t h k) tt (omega arith) (trim_first s from to)

-- The same in a source that was accepted, between two code point boundaries.
pub trims_between : (s : List ℕ) (from to : ℕ) → Text (take from s) → Text (take to s) → from ≤ to → to ≤ length s → (cs : List ℕ) × (encoded cs ≡ slice from to s) × Trims from cs (trimmed s from to)
trims_between s from to x y h k = let t = between s from to h x y in (t.points, t.same, trims s from to t h k)

-- The trimmed place lies in the region.
pub trims_inside : (from to : ℕ) (cs : List ℕ) (r : Place) → Trims from cs r → to ≡ from + size cs → (from ≤ r.from) × (r.from ≤ r.to) × (r.to ≤ to)
trims_inside from to cs r x h =
    let a = x.starts in
    let b = x.ends in
    let n : size cs ≡ size (x.before ++ (x.mid ++ x.after)) = ap size x.parts in
    let u = size_append x.before (x.mid ++ x.after) in
    let v = size_append x.mid x.after in
    (omega arith, omega arith, omega arith)
