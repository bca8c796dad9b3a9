-- The decoder's definition and RFC 3629's encoding are inverse to one another. Assumes nothing.
use Rattle.std.specs.Prelude.{Option, Some, None}
use Prim.Native.Nat.{ℕ, suc, ◌+◌, ◌-◌, ◌*◌, ◌/◌, ◌%◌, ◌≤◌, ◌<◌}
use mathlib.Core.Path.{◌≡◌, refl, sym, ◌∙◌, ap, ap₂}
use mathlib.Core.List.{List, [], ◌∷◌, ◌++◌}
use mathlib.Core.Logic.{◌⊎◌, inl, inr}
use mathlib.Core.Bool.{Bool, true, false, ◌&&◌}
use native.Mathlib.Omega.{arith}
use native.Mathlib.Decide.{dec_lt, ℕ_discrete}
use lib.ListN.{length}
use lib.Dec.{leb}
use borrow.Author.Tests.{lt-ltb, le-ltb, le-leb, leb-true}
use Rattle.scan.proofs.Tuples.{some_2}
use Rattle.utf8.specs.Utf8.{lead_of, follow, begun, decode}
use Rattle.utf8.proofs.Utf8 as lead
use Rattle.utf8.specs.declared.Lead.TheVariants.{One, More, Never}
use Rattle.whole.specs.Encode.{Scalar, encode}

-- the four lengths
module _ (c : ℕ) where
  pub encode_1 : c < 0x80 → encode c ≡ c ∷ []
  unfolding encode
  encode_1 h = rw (lt-ltb c 0x80 h, encode)

  pub encode_2 : 0x80 ≤ c → c < 0x800 → encode c ≡ (192 + c / 64) ∷ (128 + c % 64) ∷ []
  unfolding encode
  encode_2 h k = rw (le-ltb c 0x80 h, lt-ltb c 0x800 k, encode)

  pub encode_3 : 0x800 ≤ c → c < 0x10000 → encode c ≡ (224 + c / 4096) ∷ (128 + c / 64 % 64) ∷ (128 + c % 64) ∷ []
  unfolding encode
  encode_3 h k = rw (le-ltb c 0x80 (omega arith), le-ltb c 0x800 h, lt-ltb c 0x10000 k, encode)

  pub encode_4 : 0x10000 ≤ c → encode c ≡ (240 + c / 262144) ∷ (128 + c / 4096 % 64) ∷ (128 + c / 64 % 64) ∷ (128 + c % 64) ∷ []
  unfolding encode
  encode_4 h = rw (le-ltb c 0x80 (omega arith), le-ltb c 0x800 (omega arith), le-ltb c 0x10000 h, encode)

-- one more byte
follow_in : (n low high v b : ℕ) (bs : List ℕ) (i : ℕ) → low ≤ b → b ≤ high → follow (suc n) low high v (b ∷ bs) i ≡ follow n 128 191 (v * 64 + (b - 128)) bs (i + 1)
unfolding follow
follow_in n low high v b bs i h k = rw (le-leb low b h, le-leb b high k, follow)

follow_end : (low high v : ℕ) (l : List ℕ) (i : ℕ) → follow 0 low high v l i ≡ Some (v, i)
unfolding follow
follow_end low high v l i = refl

-- sequences of two, three and four bytes
module _ (a low high v b : ℕ) (h : low ≤ b) (k : b ≤ high) where
  decode_2 : (l : List ℕ) (i : ℕ) → More 1 low high v ≡ lead_of a → decode (a ∷ b ∷ l) i ≡ Some (v * 64 + (b - 128), i + 1 + 1)
  unfolding decode begun
  decode_2 l i e = rw (← e, follow_in 0 low high v b l (i + 1) h k) (follow_end _ _ _ _ _)

  module _ (b' : ℕ) (h' : 128 ≤ b') (k' : b' ≤ 191) where
    decode_3 : (l : List ℕ) (i : ℕ) → More 2 low high v ≡ lead_of a → decode (a ∷ b ∷ b' ∷ l) i ≡ Some ((v * 64 + (b - 128)) * 64 + (b' - 128), i + 1 + 1 + 1)
    unfolding decode begun
    decode_3 l i e = rw (← e, follow_in 1 low high v b (b' ∷ l) (i + 1) h k, follow_in 0 _ _ _ b' l _ h' k') (follow_end _ _ _ _ _)

    module _ (b'' : ℕ) (h'' : 128 ≤ b'') (k'' : b'' ≤ 191) where
      decode_4 : (l : List ℕ) (i : ℕ) → More 3 low high v ≡ lead_of a → decode (a ∷ b ∷ b' ∷ b'' ∷ l) i ≡ Some (((v * 64 + (b - 128)) * 64 + (b' - 128)) * 64 + (b'' - 128), i + 1 + 1 + 1 + 1)
      unfolding decode begun
      decode_4 l i e =
          rw (← e, follow_in 2 low high v b (b' ∷ b'' ∷ l) (i + 1) h k, follow_in 1 _ _ _ b' (b'' ∷ l) _ h' k', follow_in 0 _ _ _ b'' l _ h'' k'') (follow_end _ _ _ _ _)

point : {p q i j : ℕ} → p ≡ q → i ≡ j → ◌≡◌ {A = Option (ℕ × ℕ)} (Some (p, i)) (Some (q, j))
point e f = rw (e, f)

-- the arithmetic of the lengths
module _ (c : ℕ) where
  sum_2 : 0x80 ≤ c → c < 0x800 → (192 + c / 64 - 192) * 64 + (128 + c % 64 - 128) ≡ c
  sum_2 h k = omega arith

  sum_3 : (c / 4096 * 64 + (128 + c / 64 % 64 - 128)) * 64 + (128 + c % 64 - 128) ≡ c
  sum_3 = omega arith

  quarter : c / 262144 ≡ c / 4096 / 64
  quarter = omega arith

  sum_4 : ((c / 262144 * 64 + (128 + c / 4096 % 64 - 128)) * 64 + (128 + c / 64 % 64 - 128)) * 64 + (128 + c % 64 - 128) ≡ c
  sum_4 = omega (arith, quarter)

  tail_low : 128 ≤ 128 + c % 64
  tail_low = omega arith

  tail_high : 128 + c % 64 ≤ 191
  tail_high = omega arith

-- (a) An encoding, with anything behind it, is decoded to its scalar value and its length.
abbrev Back : ℕ → List ℕ → ℕ → Type 0
Back c l i = decode (encode c ++ l) i ≡ Some (c, i + length (encode c))

module _ (c : ℕ) (l : List ℕ) (i : ℕ) where
  back_1 : c < 0x80 → Back c l i
  unfolding decode begun
  back_1 h = rw (encode_1 c h, ← lead.one c h)

  back_2 : 0x80 ≤ c → c < 0x800 → Back c l i
  back_2 h k =
      rw (encode_2 c h k) (decode_2 _ 128 191 (192 + c / 64 - 192) _ (omega arith) (omega arith) l i (lead.two _ (omega arith) (omega arith)) ∙ point (sum_2 c h k) (omega arith))

  module _ (h : 0x800 ≤ c) (k : c < 0x10000) where
    row_3 : (low high v : ℕ) → More 2 low high v ≡ lead_of (224 + c / 4096) → v ≡ c / 4096 → low ≤ 128 + c / 64 % 64 → 128 + c / 64 % 64 ≤ high → Back c l i
    row_3 low high v e f g m =
        rw (encode_3 c h k) (decode_3 _ low high v _ g m _ (tail_low c) (tail_high c) l i e ∙ point (rw f (sum_3 c)) (omega arith))

    back_3 : Scalar c → Back c l i
    back_3 s =
        elim (ℕ_discrete (c / 4096) 0) [
          | yes e ↦ row_3 160 191 0 (lead.three_E0 _ (omega arith)) (omega arith) (omega arith) (omega arith)
          | no f ↦
              elim (ℕ_discrete (c / 4096) 13) [
                | yes e ↦
                    row_3 128 159 13 (lead.three_ED _ (omega arith)) (omega arith) (omega arith) (elim s [ inl a ↦ omega arith | inr b ↦ omega arith ])
                | no g ↦
                    row_3 128 191 (224 + c / 4096 - 224) (lead.three _ (omega arith) (λ e. omega arith) (omega arith)) (omega arith) (omega arith) (omega arith)
              ]
        ]

  module _ (h : 0x10000 ≤ c) (k : c ≤ 0x10FFFF) where
    row_4 : (low high v : ℕ) → More 3 low high v ≡ lead_of (240 + c / 262144) → v ≡ c / 262144 → low ≤ 128 + c / 4096 % 64 → 128 + c / 4096 % 64 ≤ high → Back c l i
    row_4 low high v e f g m =
        rw (encode_4 c h) (decode_4 _ low high v _ g m _ (tail_low (c / 64)) (tail_high (c / 64)) _ (tail_low c) (tail_high c) l i e ∙ point (rw f (sum_4 c)) (omega arith))

    back_4 : Back c l i
    back_4 =
        elim (ℕ_discrete (c / 262144) 0) [
          | yes e ↦ row_4 144 191 0 (lead.four_F0 _ (omega arith)) (omega arith) (omega arith) (omega arith)
          | no f ↦
              elim (ℕ_discrete (c / 262144) 4) [
                | yes e ↦ row_4 128 143 4 (lead.four_F4 _ (omega arith)) (omega arith) (omega arith) (omega arith)
                | no g ↦
                    row_4 128 191 (240 + c / 262144 - 240) (lead.four _ (omega arith) (omega arith)) (omega arith) (omega arith) (omega arith)
              ]
        ]

  pub decode_encode : Scalar c → decode (encode c ++ l) i ≡ Some (c, i + length (encode c))
  decode_encode s =
      elim (dec_lt c 0x80) [
        | yes h ↦ back_1 h
        | no f ↦
            elim (dec_lt c 0x800) [
              | yes h ↦ back_2 (omega arith) h
              | no g ↦
                  elim (dec_lt c 0x10000) [
                    | yes h ↦ back_3 (omega arith) h s
                    | no m ↦ back_4 (omega arith) (elim s [ inl a ↦ omega arith | inr b ↦ omega arith ])
                  ]
            ]
      ]

-- (b) What is decoded is the encoding of the scalar value that is given, with something behind it.
pub record Front (l : List ℕ) (i p j : ℕ) : Type 0 where
  pub rest : List ℕ
  pub same : l ≡ encode p ++ rest
  pub scalar : Scalar p
  pub end : j ≡ i + length (encode p)

-- the rows of the table of first bytes, by length
data Rows (a : ℕ) : Type 0 where
  never : Never ≡ lead_of a → Rows a
  in-1 : One a ≡ lead_of a → a < 0x80 → Rows a
  in-2 : More 1 128 191 (a - 192) ≡ lead_of a → 194 ≤ a → a < 224 → Rows a
  in-3 : (low high : ℕ) → More 2 low high (a - 224) ≡ lead_of a → 224 ≤ a → a < 240 → 128 ≤ low → high ≤ 191 → 32 ≤ (a - 224) * 64 + (low - 128) → ((a - 224) * 64 + (high - 128) < 864) ⊎ (895 < (a - 224) * 64 + (low - 128)) → Rows a
  in-4 : (low high : ℕ) → More 3 low high (a - 240) ≡ lead_of a → 240 ≤ a → a < 245 → 128 ≤ low → high ≤ 191 → 16 ≤ (a - 240) * 64 + (low - 128) → (a - 240) * 64 + (high - 128) < 272 → Rows a

rows : (a : ℕ) → Rows a
rows a =
    elim (dec_lt a 128) [
      | yes h ↦ in-1 (lead.one a h) h
      | no f1 ↦
          elim (dec_lt a 194) [
            | yes h ↦ never (lead.none_low a (omega arith) h)
            | no f2 ↦
                elim (dec_lt a 224) [
                  | yes h ↦ in-2 (lead.two a (omega arith) h) (omega arith) h
                  | no f3 ↦
                      elim (ℕ_discrete a 224) [
                        | yes e ↦
                            in-3 160 191 (rw e (lead.three_E0 224 refl)) (omega arith) (omega arith) (omega arith) (omega arith) (omega arith) (inl (omega arith))
                        | no f4 ↦
                            elim (dec_lt a 237) [
                              | yes h ↦
                                  in-3 128 191 (lead.three a (omega arith) (λ e. omega arith) (omega arith)) (omega arith) (omega arith) (omega arith) (omega arith) (omega arith) (inl (omega arith))
                              | no f5 ↦
                                  elim (ℕ_discrete a 237) [
                                    | yes e ↦
                                        in-3 128 159 (rw e (lead.three_ED 237 refl)) (omega arith) (omega arith) (omega arith) (omega arith) (omega arith) (inl (omega arith))
                                    | no f6 ↦
                                        elim (dec_lt a 240) [
                                          | yes h ↦
                                              in-3 128 191 (lead.three a (omega arith) f6 h) (omega arith) h (omega arith) (omega arith) (omega arith) (inr (omega arith))
                                          | no f7 ↦
                                              elim (ℕ_discrete a 240) [
                                                | yes e ↦
                                                    in-4 144 191 (rw e (lead.four_F0 240 refl)) (omega arith) (omega arith) (omega arith) (omega arith) (omega arith) (omega arith)
                                                | no f8 ↦
                                                    elim (dec_lt a 244) [
                                                      | yes h ↦
                                                          in-4 128 191 (lead.four a (omega arith) h) (omega arith) (omega arith) (omega arith) (omega arith) (omega arith) (omega arith)
                                                      | no f9 ↦
                                                          elim (ℕ_discrete a 244) [
                                                            | yes e ↦
                                                                in-4 128 143 (rw e (lead.four_F4 244 refl)) (omega arith) (omega arith) (omega arith) (omega arith) (omega arith) (omega arith)
                                                            | no f10 ↦ never (lead.none_high a (omega arith))
                                                          ]
                                                    ]
                                              ]
                                        ]
                                  ]
                            ]
                      ]
                ]
          ]
    ]

-- a byte that was followed: it lies between the bounds, and the rest is followed
record Next (n low high v : ℕ) (l : List ℕ) (i : ℕ) (d : Option (ℕ × ℕ)) : Type 0 where
  b : ℕ
  bs : List ℕ
  same : l ≡ b ∷ bs
  above : low ≤ b
  below : b ≤ high
  then : follow n 128 191 (v * 64 + (b - 128)) bs (i + 1) ≡ d

next : (n low high v : ℕ) (l : List ℕ) (i p j : ℕ) → follow (suc n) low high v l i ≡ Some (p, j) → Next n low high v l i (Some (p, j))
unfolding follow
next n low high v [] i p j e = let z : ◌≡◌ {A = ℕ} 0 1 = cc in absurd (omega arith)
next n low high v (b ∷ bs) i p j e = go (leb low b) (leb b high) refl refl e
  where
    go : (t u : Bool) → leb low b ≡ t → leb b high ≡ u → ◌≡◌ {A = Option (ℕ × ℕ)} (elim (t && u) [ true ↦ follow n 128 191 (v * 64 + (b - 128)) bs (i + 1) | false ↦ None ]) (Some (p, j)) → Next n low high v (b ∷ bs) i (Some (p, j))
    go true true f g d = record { b = b; bs = bs; same = refl; above = leb-true low b f; below = leb-true b high g; then = d }
    go true false f g d = let z : ◌≡◌ {A = ℕ} 0 1 = cc in absurd (omega arith)
    go false u f g d = let z : ◌≡◌ {A = ℕ} 0 1 = cc in absurd (omega arith)

over : (low high v : ℕ) (l : List ℕ) (i p j : ℕ) → follow 0 low high v l i ≡ Some (p, j) → (v ≡ p) × (i ≡ j)
unfolding follow
over low high v l i p j e = some_2 e

-- the arithmetic backwards: the octets of the sum are the bytes
module _ (a b p : ℕ) where
  octets_2 : p ≡ (a - 192) * 64 + (b - 128) → 194 ≤ a → a < 224 → 128 ≤ b → b ≤ 191 → encode p ≡ a ∷ b ∷ []
  octets_2 e h k m n =
      let x : 192 + p / 64 ≡ a = omega arith in
      let y : 128 + p % 64 ≡ b = omega arith in
      rw (encode_2 p (omega arith) (omega arith), x, y)

  octets_3 : (b' : ℕ) → p ≡ ((a - 224) * 64 + (b - 128)) * 64 + (b' - 128) → 224 ≤ a → a < 240 → 128 ≤ b → b ≤ 191 → 128 ≤ b' → b' ≤ 191 → 0x800 ≤ p → encode p ≡ a ∷ b ∷ b' ∷ []
  octets_3 b' e h k m n m' n' g =
      let x : 224 + p / 4096 ≡ a = omega arith in
      let y : 128 + p / 64 % 64 ≡ b = omega arith in
      let z : 128 + p % 64 ≡ b' = omega arith in
      rw (encode_3 p g (omega arith), x, y, z)

  octets_4 : (b' b'' : ℕ) → p ≡ (((a - 240) * 64 + (b - 128)) * 64 + (b' - 128)) * 64 + (b'' - 128) → 240 ≤ a → 128 ≤ b → b ≤ 191 → 128 ≤ b' → b' ≤ 191 → 128 ≤ b'' → b'' ≤ 191 → 0x10000 ≤ p → encode p ≡ a ∷ b ∷ b' ∷ b'' ∷ []
  octets_4 b' b'' e h m n m' n' m'' n'' g =
      let x : 240 + p / 262144 ≡ a = omega arith in
      let w : 128 + p / 4096 % 64 ≡ b = omega arith in
      let y : 128 + p / 64 % 64 ≡ b' = omega arith in
      let z : 128 + p % 64 ≡ b'' = omega arith in
      rw (encode_4 p g, x, w, y, z)

module _ (a i p j : ℕ) where
  front_2 : (l : List ℕ) → 194 ≤ a → a < 224 → follow 1 128 191 (a - 192) l (i + 1) ≡ Some (p, j) → Front (a ∷ l) i p j
  front_2 l h k e =
      let x = next 0 128 191 (a - 192) l (i + 1) p j e in
      let o = over _ _ _ _ _ _ _ x.then in
      let q : p ≡ (a - 192) * 64 + (x.b - 128) = sym o.0 in
      let f = octets_2 a x.b p q h k x.above x.below in
      record { rest = x.bs; same = rw f (ap (◌∷◌ a) x.same); scalar = inl (omega arith); end = rw f (sym o.1 ∙ omega arith) }

  module _ (low high : ℕ) where
    front_3 : (l : List ℕ) → 224 ≤ a → a < 240 → 128 ≤ low → high ≤ 191 → 32 ≤ (a - 224) * 64 + (low - 128) → ((a - 224) * 64 + (high - 128) < 864) ⊎ (895 < (a - 224) * 64 + (low - 128)) → follow 2 low high (a - 224) l (i + 1) ≡ Some (p, j) → Front (a ∷ l) i p j
    front_3 l h k m n least gap e =
        let x = next 1 low high (a - 224) l (i + 1) p j e in
        let y = next 0 128 191 _ x.bs _ p j x.then in
        let o = over _ _ _ _ _ _ _ y.then in
        let q : p ≡ ((a - 224) * 64 + (x.b - 128)) * 64 + (y.b - 128) = sym o.0 in
        let f = octets_3 a x.b p y.b q h k (omega arith) (omega arith) y.above y.below (omega arith) in
        let s : Scalar p = elim gap [ inl g ↦ inl (omega arith) | inr g ↦ inr (omega arith, omega arith) ] in
        record { rest = y.bs; same = rw f (ap (◌∷◌ a) (x.same ∙ ap (◌∷◌ x.b) y.same)); scalar = s; end = rw f (sym o.1 ∙ omega arith) }

    front_4 : (l : List ℕ) → 240 ≤ a → 128 ≤ low → high ≤ 191 → 16 ≤ (a - 240) * 64 + (low - 128) → (a - 240) * 64 + (high - 128) < 272 → follow 3 low high (a - 240) l (i + 1) ≡ Some (p, j) → Front (a ∷ l) i p j
    front_4 l h m n least most e =
        let x = next 2 low high (a - 240) l (i + 1) p j e in
        let y = next 1 128 191 _ x.bs _ p j x.then in
        let z = next 0 128 191 _ y.bs _ p j y.then in
        let o = over _ _ _ _ _ _ _ z.then in
        let q : p ≡ (((a - 240) * 64 + (x.b - 128)) * 64 + (y.b - 128)) * 64 + (z.b - 128) = sym o.0 in
        let f = octets_4 a x.b p y.b z.b q h (omega arith) (omega arith) y.above y.below z.above z.below (omega arith) in
        record { rest = z.bs; same = rw f (ap (◌∷◌ a) (x.same ∙ ap (◌∷◌ x.b) (y.same ∙ ap (◌∷◌ y.b) z.same))); scalar = inr (omega arith, omega arith); end = rw f (sym o.1 ∙ omega arith) }

pub decode_front : (l : List ℕ) (i p j : ℕ) → decode l i ≡ Some (p, j) → Front l i p j
unfolding decode begun
decode_front [] i p j e = let z : ◌≡◌ {A = ℕ} 0 1 = cc in absurd (omega arith)
decode_front (a ∷ l) i p j e = go (rows a)
  where
    go : Rows a → Front (a ∷ l) i p j
    go (never r) = let d : ◌≡◌ {A = Option (ℕ × ℕ)} None (Some (p, j)) = rw (← r) at e in let z : ◌≡◌ {A = ℕ} 0 1 = cc in absurd (omega arith)
    go (in-1 r h) =
        let d : ◌≡◌ {A = Option (ℕ × ℕ)} (Some (a, i + 1)) (Some (p, j)) = rw (← r) at e in
        let q : a ≡ p = (some_2 d).0 in
        let k : i + 1 ≡ j = (some_2 d).1 in
        let f : encode p ≡ p ∷ [] = encode_1 p (omega arith) in
        record { rest = l; same = rw (f, q); scalar = inl (omega arith); end = rw f (sym k) }
    go (in-2 r h k) = front_2 a i p j l h k (rw (← r) at e)
    go (in-3 low high r h k m n least gap) = front_3 a i p j low high l h k m n least gap (rw (← r) at e)
    go (in-4 low high r h k m n least most) = front_4 a i p j low high l h m n least most (rw (← r) at e)
