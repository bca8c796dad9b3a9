-- A text is determined by its octets; a byte below 80 in a text is a code point of its own; what lies between two boundaries is a text. Assumes nothing.
use Rattle.std.specs.Prelude.{Some}
use Prim.Native.Nat.{ℕ, zero, suc, ◌+◌, ◌-◌, ◌/◌, ◌%◌, ◌≤◌, ◌<◌}
use mathlib.Core.Path.{◌≡◌, refl, sym, ◌∙◌, ap, ap₂}
use mathlib.Core.List.{List, [], ◌∷◌, ◌++◌, append_assoc, append_cancel_left, tail-eq_of_cons-eq}
use mathlib.Core.Logic.{◌⊎◌, inl, inr}
use native.Mathlib.Numerals.{add-one}
use native.Mathlib.Omega.{arith}
use native.Mathlib.Decide.{dec_lt}
use lib.ListN.{length, get_or, take, drop, length-append, length-drop, take-append-drop, get_or-append}
use lib.Seq.{take_at, get_or-append-add, slice, take-take, take-length, take-suc, get_or-drop}
use Rattle.scan.proofs.Tuples.{some_2}
use Rattle.utf8.specs.Utf8.{decode}
use Rattle.utf8.proofs.Utf8.{decode_past}
use Rattle.whole.specs.Encode.{Scalar, Scalars, encode, encoded, Text}
use Rattle.whole.proofs.Encode.{decode_encode, encode_1, encode_2, encode_3, encode_4}

encode_long : (c : ℕ) → Scalar c → 0 < length (encode c)
encode_long c s = let h = decode_past (encode c ++ []) 0 c (0 + length (encode c)) (decode_encode c [] 0 s) in omega arith

-- a byte that begins a code point, in a text
abbrev pub Begins : ℕ → Type 0
Begins b = (b < 128) ⊎ (191 < b)

-- the octets determine the text
first_same : (x y : ℕ) (l m : List ℕ) → Scalar x → Scalar y → encode x ++ l ≡ encode y ++ m → x ≡ y
first_same x y l m s t e =
    let a : decode (encode y ++ m) 0 ≡ Some (x, 0 + length (encode x)) = rw e at (decode_encode x l 0 s) in
    let b = decode_encode y m 0 t in
    (some_2 (sym a ∙ b)).0

pub encoded_same : (xs ys : List ℕ) → Scalars xs → Scalars ys → encoded xs ≡ encoded ys → xs ≡ ys
unfolding encoded
encoded_same [] [] s t e = refl
encoded_same [] (y ∷ ys) s t e =
    let h = encode_long y t.0 in
    let n : 0 ≡ length (encode y ++ encoded ys) = ap length e in
    absurd (omega (arith, length-append (encode y) (encoded ys)))
encoded_same (x ∷ xs) [] s t e =
    let h = encode_long x s.0 in
    let n : length (encode x ++ encoded xs) ≡ 0 = ap length e in
    absurd (omega (arith, length-append (encode x) (encoded xs)))
encoded_same (x ∷ xs) (y ∷ ys) s t e =
    let q = first_same x y (encoded xs) (encoded ys) s.0 t.0 e in
    let f : encode y ++ encoded xs ≡ encode y ++ encoded ys = rw q at e in
    let g = encoded_same xs ys s.1 t.1 (append_cancel_left (encode y) (encoded xs) (encoded ys) f) in
    rw (q, g)

pub encoded_append : (xs ys : List ℕ) → encoded (xs ++ ys) ≡ encoded xs ++ encoded ys
unfolding encoded
encoded_append [] ys = refl
encoded_append (x ∷ xs) ys = rw (encoded_append xs ys) (sym (append_assoc (encode x) (encoded xs) (encoded ys)))

-- the octets of a code point: one that begins it, and others from 80 to BF
abbrev Tail : List ℕ → Type 0
Tail [] = Unit {0}
Tail (b ∷ bs) = (128 ≤ b) × (b ≤ 191) × Tail bs

record Shape (c : ℕ) : Type 0 where
  a : ℕ
  tail : List ℕ
  same : encode c ≡ a ∷ tail
  begins : Begins a
  goes_on : Tail tail
  alone : a < 128 → tail ≡ []

shape : (c : ℕ) → Shape c
shape c =
    elim (dec_lt c 0x80) [
      | yes h ↦ record { a = c; tail = []; same = encode_1 c h; begins = inl h; goes_on = tt; alone = λ k. refl }
      | no f ↦
          elim (dec_lt c 0x800) [
            | yes h ↦
                record {
                  a = 192 + c / 64;
                  tail = (128 + c % 64) ∷ [];
                  same = encode_2 c (omega arith) h;
                  begins = inr (omega arith);
                  goes_on = (omega arith, omega arith, tt);
                  alone = λ k. absurd (omega arith);
                }
            | no g ↦
                elim (dec_lt c 0x10000) [
                  | yes h ↦
                      record {
                        a = 224 + c / 4096;
                        tail = (128 + c / 64 % 64) ∷ (128 + c % 64) ∷ [];
                        same = encode_3 c (omega arith) h;
                        begins = inr (omega arith);
                        goes_on = (omega arith, omega arith, (omega arith, omega arith, tt));
                        alone = λ k. absurd (omega arith);
                      }
                  | no h ↦
                      record {
                        a = 240 + c / 262144;
                        tail = (128 + c / 4096 % 64) ∷ (128 + c / 64 % 64) ∷ (128 + c % 64) ∷ [];
                        same = encode_4 c (omega arith);
                        begins = inr (omega arith);
                        goes_on = (omega arith, omega arith, (omega arith, omega arith, (omega arith, omega arith, tt)));
                        alone = λ k. absurd (omega arith);
                      }
                ]
          ]
    ]

tail_at : (l : List ℕ) (i : ℕ) → Tail l → i < length l → Begins (get_or l i 0) → ⊥
tail_at [] i h k b = omega arith
tail_at (x ∷ xs) zero h k b = elim b [ inl u ↦ let v = h.0 in omega arith | inr u ↦ let v = h.1 in omega arith ]
tail_at (x ∷ xs) (suc i) h k b = tail_at xs i h.2 (omega arith) b

shape_at : (l : List ℕ) (a : ℕ) (t : List ℕ) (i : ℕ) → l ≡ a ∷ t → Tail t → i < length l → Begins (get_or l i 0) → i ≡ 0
shape_at [] a t i e h k b = omega arith
shape_at (x ∷ xs) a t zero e h k b = refl
shape_at (x ∷ xs) a t (suc i) e h k b = absurd (tail_at xs i (rw (sym (tail-eq_of_cons-eq e)) at h) (omega arith) b)

-- a code point begins at index i of the octets
record Split (cs : List ℕ) (i : ℕ) : Type 0 where
  before : List ℕ
  c : ℕ
  after : List ℕ
  parts : cs ≡ before ++ (c ∷ after)
  place : length (encoded before) ≡ i

split : (cs : List ℕ) → Scalars cs → (i : ℕ) → i < length (encoded cs) → Begins (get_or (encoded cs) i 0) → Split cs i
unfolding encoded
split [] s i h k = absurd (omega arith)
split (c ∷ cs) s i h k = elim (dec_lt i (length (encode c))) [ yes m ↦ here m | no f ↦ beyond (omega arith) (split cs s.1 (i - length (encode c)) (inside (omega arith)) (low (omega arith))) ]
  where
    here : i < length (encode c) → Split (c ∷ cs) i
    here m =
        let x = shape c in
        let z = shape_at (encode c) x.a x.tail i x.same x.goes_on m (rw (get_or-append (encode c) (encoded cs) 0 i m) at k) in
        record { before = []; c = c; after = cs; parts = refl; place = omega arith }

    inside : length (encode c) ≤ i → i - length (encode c) < length (encoded cs)
    inside m = omega (arith, length-append (encode c) (encoded cs))

    low : length (encode c) ≤ i → Begins (get_or (encoded cs) (i - length (encode c)) 0)
    low m =
        let e : length (encode c) + (i - length (encode c)) ≡ i = omega arith in
        let f = rw e at (get_or-append-add (encode c) (encoded cs) (i - length (encode c)) 0) in
        rw f at k

    beyond : length (encode c) ≤ i → Split cs (i - length (encode c)) → Split (c ∷ cs) i
    beyond m x =
        let e = x.place in
        record {
          before = c ∷ x.before;
          c = x.c;
          after = x.after;
          parts = ap (◌∷◌ c) x.parts;
          place = omega (arith, length-append (encode c) (encoded x.before));
        }

scalars_front : (xs ys : List ℕ) → Scalars (xs ++ ys) → Scalars xs
scalars_front [] ys s = tt
scalars_front (x ∷ xs) ys s = (s.0, scalars_front xs ys s.1)

scalars_snoc : (xs : List ℕ) (c : ℕ) → Scalars xs → Scalar c → Scalars (xs ++ (c ∷ []))
scalars_snoc [] c s h = (h, tt)
scalars_snoc (x ∷ xs) c s h = (s.0, scalars_snoc xs c s.1 h)

-- What lies between two boundaries is a text.
prefix : (xs ys l : List ℕ) → Scalars xs → Scalars ys → encoded xs ++ l ≡ encoded ys → Text l
unfolding encoded
prefix [] ys l s t e = record { points = ys; scalars = t; same = sym e }
prefix (x ∷ xs) [] l s t e =
    let h = encode_long x s.0 in
    let n : length (encode x ++ encoded xs ++ l) ≡ 0 = ap length e in
    absurd (omega (arith, length-append (encode x ++ encoded xs) l, length-append (encode x) (encoded xs)))
prefix (x ∷ xs) (y ∷ ys) l s t e =
    let d : encode x ++ (encoded xs ++ l) ≡ encode y ++ encoded ys = sym (append_assoc (encode x) (encoded xs) l) ∙ e in
    let q = first_same x y (encoded xs ++ l) (encoded ys) s.0 t.0 d in
    let f : encode y ++ (encoded xs ++ l) ≡ encode y ++ encoded ys = rw q at d in
    prefix xs ys l s.1 t.1 (append_cancel_left (encode y) (encoded xs ++ l) (encoded ys) f)

pub between : (s : List ℕ) (a b : ℕ) → a ≤ b → Text (take a s) → Text (take b s) → Text (slice a b s)
between s a b h x y =
    prefix x.points y.points (slice a b s) x.scalars y.scalars
    (ap (λ l. l ++ slice a b s) (x.same ∙ sym (take-take a b s h)) ∙ (take-append-drop a (take b s) ∙ sym y.same))

module _ (s : List ℕ) (t : Text s) (i : ℕ) (h : i < length s) where
  -- An index is a boundary exactly when the byte there is one that begins a code point.
  pub begins_boundary : Begins (get_or s i 0) → Text (take i s)
  begins_boundary k = go (split t.points t.scalars i (rw t.same h) (rw t.same k))
    where
      go : Split t.points i → Text (take i s)
      go x =
          let e : s ≡ encoded x.before ++ encoded (x.c ∷ x.after) = sym t.same ∙ (ap encoded x.parts ∙ encoded_append x.before (x.c ∷ x.after)) in
          record {
            points = x.before;
            scalars = scalars_front x.before (x.c ∷ x.after) (rw x.parts at t.scalars);
            same = sym (ap (take i) e ∙ take_at (encoded x.before) (encoded (x.c ∷ x.after)) i x.place);
          }

  -- the text from i on
  onward : Text (take i s) → Text (drop i s)
  onward x = rw (take-length s) at (between s i (length s) (omega arith) x (rw (take-length s) t))

  first_of : (l : List ℕ) (cs : List ℕ) → encoded cs ≡ l → 0 < length l → Begins (get_or l 0 0)
  unfolding encoded
  first_of l [] e k = let n = ap length e in absurd (omega arith)
  first_of l (c ∷ cs) e k =
      let x = shape c in
      let f : l ≡ x.a ∷ (x.tail ++ encoded cs) = sym e ∙ ap (λ m. m ++ encoded cs) x.same in
      rw f x.begins

  pub boundary_begins : Text (take i s) → Begins (get_or s i 0)
  boundary_begins x =
      let y = onward x in
      let e : i + 0 ≡ i = omega arith in
      rw (rw e at (get_or-drop i s 0 0)) at (first_of (drop i s) y.points y.same (omega (arith, length-drop i s)))

  -- Behind a byte below 80 there is a boundary too.
  pub ascii_behind : get_or s i 0 < 128 → Text (take (i + 1) s)
  unfolding encoded
  ascii_behind k =
      let x = begins_boundary (inl k) in
      let b = get_or s i 0 in
      let e : take (i + 1) s ≡ take i s ++ (b ∷ []) = rw (add-one i) (take-suc s i 0 h) in
      let f : encoded (b ∷ []) ≡ b ∷ [] = ap (λ l. l ++ []) (encode_1 b k) in
      record {
        points = x.points ++ (b ∷ []);
        scalars = scalars_snoc x.points b x.scalars (inl (omega arith));
        same = encoded_append x.points (b ∷ []) ∙ (ap₂ ◌++◌ x.same f ∙ sym e);
      }
