-- RFC 3629, sections 3 and 4: the well-formed sequences, and the code point of each.
use Rattle.std.specs.Prelude.{ℕ, zero, suc, ◌+◌, ◌-◌, ◌*◌, ◌<◌, ◌≤◌, List, [], ◌∷◌, true, false, ltb, eqb, length, drop, Option, Some, None}
use Rattle.scan.specs.Scan.{within}
use Rattle.utf8.specs.declared.Lead.{Lead}
use Rattle.utf8.specs.declared.Lead.TheVariants.{One, More, Never}

-- RFC 3629, 4, the first octets: 00-7F; C2-DF; E0 (then A0-BF), E1-EC, ED (then 80-9F), EE-EF; F0 (then 90-BF), F1-F3, F4 (then 80-8F).
unfoldable pub lead_of : ℕ → Lead
lead_of a =
    elim (ltb a 128) [
      | true ↦ One a
      | false ↦
          elim (ltb a 194) [
            | true ↦ Never
            | false ↦
                elim (ltb a 224) [
                  | true ↦ More 1 128 191 (a - 192)
                  | false ↦
                      elim (eqb a 224) [
                        | true ↦ More 2 160 191 0
                        | false ↦
                            elim (eqb a 237) [
                              | true ↦ More 2 128 159 13
                              | false ↦
                                  elim (ltb a 240) [
                                    | true ↦ More 2 128 191 (a - 224)
                                    | false ↦
                                        elim (eqb a 240) [
                                          | true ↦ More 3 144 191 0
                                          | false ↦
                                              elim (ltb a 244) [
                                                | true ↦ More 3 128 191 (a - 240)
                                                | false ↦
                                                    elim (eqb a 244) [ true ↦ More 3 128 143 4 | false ↦ Never ]
                                              ]
                                        ]
                                  ]
                            ]
                      ]
                ]
          ]
    ]

-- RFC 3629, 3: n following octets, the next between low and high and the others (UTF8-tail) 80-BF, "leaving 6 bits in each" for the character number v.
unfoldable pub follow : ℕ → ℕ → ℕ → ℕ → List ℕ → ℕ → Option (ℕ × ℕ)
follow zero low high v l i = Some (v, i)
follow (suc n) low high v [] i = None
follow (suc n) low high v (b ∷ bs) i =
    elim (within low high b) [ true ↦ follow n 128 191 (v * 64 + (b - 128)) bs (i + 1) | false ↦ None ]

-- RFC 3629, 3: the same following octets, of a whole source from an index on.
unfoldable pub follow_at : ℕ → ℕ → ℕ → ℕ → List ℕ → ℕ → Option (ℕ × ℕ)
follow_at n low high v s i = follow n low high v (drop i s) i

-- RFC 3629, 4: "UTF8-char = UTF8-1 / UTF8-2 / UTF8-3 / UTF8-4", by what its first octet says; the octets bs stand behind it.
unfoldable pub begun : Lead → List ℕ → ℕ → Option (ℕ × ℕ)
begun (One p) bs i = Some (p, i + 1)
begun (More n low high v) bs i = follow n low high v bs (i + 1)
begun Never bs i = None

-- RFC 3629, 3, "Decoding a UTF-8 character": the one a list begins with, whose first octet has index i, and the index behind it.
unfoldable pub decode : List ℕ → ℕ → Option (ℕ × ℕ)
decode [] i = None
decode (a ∷ bs) i = begun (lead_of a) bs i

-- RFC 3629, 3: the same, of a whole source and an index in it.
unfoldable pub decode_at : List ℕ → ℕ → Option (ℕ × ℕ)
decode_at s i = decode (drop i s) i

-- Document 01's numbers: "0 accepted", with the code point and the index behind it; "40 not UTF-8".
unfoldable pub numbers : Option (ℕ × ℕ) → List ℕ
numbers (Some (p, j)) = 0 ∷ p ∷ j ∷ []
numbers None = 40 ∷ []

-- Document 01: "All places are byte offsets, half open": a code point has at least one byte and lies in the source.
abbrev pub Decodes : List ℕ → ℕ → Option (ℕ × ℕ) → Type 0
Decodes s i (Some (p, j)) = (i < j) × (j ≤ length s)
Decodes s i None = Unit {0}

-- RFC 3629, 3: "Up to 21 bits may be needed": how large v may be where n octets still follow.
abbrev pub cap : ℕ → ℕ
cap zero = 2097152
cap (suc zero) = 32768
cap (suc (suc zero)) = 512
cap (suc (suc (suc zero))) = 8
cap (suc (suc (suc (suc n)))) = 0

-- RFC 3629, 4: the bits fit, and the bounds of the next octet lie within "UTF8-tail = %x80-BF".
abbrev pub Fitting : Lead → Type 0
Fitting (One p) = Unit {0}
Fitting (More n low high v) = (v < cap n) × (128 ≤ low) × (high ≤ 191)
Fitting Never = Unit {0}
