-- RFC 3629, section 3: the octets of a scalar value, by arithmetic. Nothing here knows of the decoder.
use Rattle.std.specs.Prelude.{ℕ, ◌+◌, ◌/◌, ◌%◌, ◌<◌, ◌≤◌, List, [], ◌∷◌, ◌++◌, ◌⊎◌, true, false, ◌≡◌, ltb, length, take}

-- RFC 3629, 3: "the U+0000..U+10FFFF range", without the "character numbers between U+D800 and U+DFFF", which it prohibits.
abbrev pub Scalar : ℕ → Type 0
Scalar c = (c < 0xD800) ⊎ ((0xDFFF < c) × (c ≤ 0x10FFFF))

-- RFC 3629, 3: each of a text's character numbers is such.
abbrev pub Scalars : List ℕ → Type 0
Scalars [] = Unit {0}
Scalars (c ∷ cs) = Scalar c × Scalars cs

-- RFC 3629, 3, the table: 0-7F is 0xxxxxxx; 80-7FF is 110xxxxx 10xxxxxx; 800-FFFF is 1110xxxx and two more; 10000-10FFFF is 11110xxx and three more.
unfoldable pub encode : ℕ → List ℕ
encode c =
    elim (ltb c 0x80) [
      | true ↦ c ∷ []
      | false ↦
          elim (ltb c 0x800) [
            | true ↦ (192 + c / 64) ∷ (128 + c % 64) ∷ []
            | false ↦
                elim (ltb c 0x10000) [
                  | true ↦ (224 + c / 4096) ∷ (128 + c / 64 % 64) ∷ (128 + c % 64) ∷ []
                  | false ↦ (240 + c / 262144) ∷ (128 + c / 4096 % 64) ∷ (128 + c / 64 % 64) ∷ (128 + c % 64) ∷ []
                ]
          ]
    ]

-- RFC 3629, 4: "UTF8-octets = *( UTF8-char )": the octets of a text.
unfoldable pub encoded : List ℕ → List ℕ
encoded [] = []
encoded (c ∷ cs) = encode c ++ encoded cs

-- RFC 3629, 4: "A UTF-8 string is a sequence of octets representing a sequence of UCS characters": the list is the octets of some text.
pub record Text (l : List ℕ) : Type 0 where
  pub points : List ℕ
  pub scalars : Scalars points
  pub same : encoded points ≡ l

-- Document 01's place for 40, without the decoder: the first p bytes are the octets of some text, and no longer beginning of the list is.
pub record Longest (l : List ℕ) (p : ℕ) : Type 0 where
  pub text : Text (take p l)
  pub short : p < length l
  pub most : (q : ℕ) → q ≤ length l → Text (take q l) → q ≤ p
