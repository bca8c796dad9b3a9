-- Small inputs, one table and one statement for each function: sequences at the edges of RFC 3629's table, and each blank with its neighbours.
use Rattle.std.specs.Prelude.{ℕ, ◌≡◌, refl, List, [], ◌∷◌, true, false}
use Rattle.scan.specs.Table.{same, Case, all}
use Rattle.utf8.specs.White.{is_white}
use Rattle.utf8.specs.Utf8.{lead_of, follow, begun, decode, decode_at, numbers}

-- Document 01's numbers and values for the code point that a source begins with.
unfoldable pub first_of : List ℕ → List ℕ
first_of s = numbers (decode_at s 0)

-- RFC 3629, 4: the smallest and the largest character of each length and beside the surrogates; then what begins none: no octet, a tail, overlong, surrogate, too large, cut short.
unfoldable pub sequences : List (Case (List ℕ))
sequences =
    record { input = 0x00 ∷ []; gives = 0 ∷ 0 ∷ 1 ∷ [] }
    ∷ record { input = 0x41 ∷ []; gives = 0 ∷ 0x41 ∷ 1 ∷ [] }
    ∷ record { input = 0x7F ∷ []; gives = 0 ∷ 0x7F ∷ 1 ∷ [] }
    ∷ record { input = 0xC2 ∷ 0x80 ∷ []; gives = 0 ∷ 0x80 ∷ 2 ∷ [] }
    ∷ record { input = 0xC2 ∷ 0xA0 ∷ []; gives = 0 ∷ 0xA0 ∷ 2 ∷ [] }
    ∷ record { input = 0xDF ∷ 0xBF ∷ []; gives = 0 ∷ 0x7FF ∷ 2 ∷ [] }
    ∷ record { input = 0xE0 ∷ 0xA0 ∷ 0x80 ∷ []; gives = 0 ∷ 0x800 ∷ 3 ∷ [] }
    ∷ record { input = 0xE2 ∷ 0x80 ∷ 0x8A ∷ []; gives = 0 ∷ 0x200A ∷ 3 ∷ [] }
    ∷ record { input = 0xED ∷ 0x9F ∷ 0xBF ∷ []; gives = 0 ∷ 0xD7FF ∷ 3 ∷ [] }
    ∷ record { input = 0xEE ∷ 0x80 ∷ 0x80 ∷ []; gives = 0 ∷ 0xE000 ∷ 3 ∷ [] }
    ∷ record { input = 0xEF ∷ 0xBF ∷ 0xBF ∷ []; gives = 0 ∷ 0xFFFF ∷ 3 ∷ [] }
    ∷ record { input = 0xF0 ∷ 0x90 ∷ 0x80 ∷ 0x80 ∷ []; gives = 0 ∷ 0x10000 ∷ 4 ∷ [] }
    ∷ record { input = 0xF4 ∷ 0x8F ∷ 0xBF ∷ 0xBF ∷ []; gives = 0 ∷ 0x10FFFF ∷ 4 ∷ [] }
    ∷ record { input = []; gives = 40 ∷ [] }
    ∷ record { input = 0x80 ∷ []; gives = 40 ∷ [] }
    ∷ record { input = 0xC0 ∷ 0x80 ∷ []; gives = 40 ∷ [] }
    ∷ record { input = 0xC1 ∷ 0xBF ∷ []; gives = 40 ∷ [] }
    ∷ record { input = 0xE0 ∷ 0x9F ∷ 0xBF ∷ []; gives = 40 ∷ [] }
    ∷ record { input = 0xED ∷ 0xA0 ∷ 0x80 ∷ []; gives = 40 ∷ [] }
    ∷ record { input = 0xED ∷ 0xBF ∷ 0xBF ∷ []; gives = 40 ∷ [] }
    ∷ record { input = 0xF0 ∷ 0x8F ∷ 0xBF ∷ 0xBF ∷ []; gives = 40 ∷ [] }
    ∷ record { input = 0xF4 ∷ 0x90 ∷ 0x80 ∷ 0x80 ∷ []; gives = 40 ∷ [] }
    ∷ record { input = 0xF5 ∷ 0x80 ∷ 0x80 ∷ 0x80 ∷ []; gives = 40 ∷ [] }
    ∷ record { input = 0xE2 ∷ 0x80 ∷ []; gives = 40 ∷ [] }
    ∷ record { input = 0xE2 ∷ 0x80 ∷ 0xC0 ∷ []; gives = 40 ∷ [] }
    ∷ []

pub sequences_hold : all first_of sequences ≡ true
unfolding all same sequences first_of numbers lead_of follow begun decode decode_at
sequences_hold = refl

-- Document 01, "by ranges": 1 for each code point that is a blank for trimming, 0 for each other.
unfoldable pub whites : List ℕ → List ℕ
whites [] = []
whites (p ∷ ps) = elim (is_white p) [ true ↦ 1 | false ↦ 0 ] ∷ whites ps

-- Document 01: each of "9 to 13, 32, 133, 160, 5760, 8192 to 8202, 8232, 8233, 8239, 8287, 12288" between its neighbours, and others that look like blanks.
unfoldable pub ranges : List (Case (List ℕ))
ranges =
    record { input = 8 ∷ 9 ∷ 10 ∷ 11 ∷ 12 ∷ 13 ∷ 14 ∷ []; gives = 0 ∷ 1 ∷ 1 ∷ 1 ∷ 1 ∷ 1 ∷ 0 ∷ [] }
    ∷ record { input = 31 ∷ 32 ∷ 33 ∷ []; gives = 0 ∷ 1 ∷ 0 ∷ [] }
    ∷ record { input = 132 ∷ 133 ∷ 134 ∷ []; gives = 0 ∷ 1 ∷ 0 ∷ [] }
    ∷ record { input = 159 ∷ 160 ∷ 161 ∷ []; gives = 0 ∷ 1 ∷ 0 ∷ [] }
    ∷ record { input = 5759 ∷ 5760 ∷ 5761 ∷ []; gives = 0 ∷ 1 ∷ 0 ∷ [] }
    ∷ record { input = 8191 ∷ 8192 ∷ 8193 ∷ 8194 ∷ 8195 ∷ 8196 ∷ []; gives = 0 ∷ 1 ∷ 1 ∷ 1 ∷ 1 ∷ 1 ∷ [] }
    ∷ record { input = 8197 ∷ 8198 ∷ 8199 ∷ 8200 ∷ 8201 ∷ 8202 ∷ 8203 ∷ []; gives = 1 ∷ 1 ∷ 1 ∷ 1 ∷ 1 ∷ 1 ∷ 0 ∷ [] }
    ∷ record { input = 8231 ∷ 8232 ∷ 8233 ∷ 8234 ∷ []; gives = 0 ∷ 1 ∷ 1 ∷ 0 ∷ [] }
    ∷ record { input = 8238 ∷ 8239 ∷ 8240 ∷ []; gives = 0 ∷ 1 ∷ 0 ∷ [] }
    ∷ record { input = 8286 ∷ 8287 ∷ 8288 ∷ []; gives = 0 ∷ 1 ∷ 0 ∷ [] }
    ∷ record { input = 12287 ∷ 12288 ∷ 12289 ∷ []; gives = 0 ∷ 1 ∷ 0 ∷ [] }
    ∷ record { input = 0 ∷ 65 ∷ 6158 ∷ 65279 ∷ 1114111 ∷ []; gives = 0 ∷ 0 ∷ 0 ∷ 0 ∷ 0 ∷ [] }
    ∷ []

pub ranges_hold : all whites ranges ≡ true
unfolding all same ranges whites is_white
ranges_hold = refl
