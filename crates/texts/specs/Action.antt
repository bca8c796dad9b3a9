-- Document 01, "Words": "Actions balance braces and look at nothing else."; lines are counted by document 02, request Ten.
use Rattle.std.specs.Prelude.{ℕ, ◌+◌, ◌-◌, ◌≤◌, ◌<◌, ◌≡◌, List, [], ◌∷◌, true, false, eqb, length, get_or, drop, Option, Some, None, Result, Ok, Err}
use Rattle.scan.specs.declared.Place.{Place}
use Rattle.scan.specs.Scan.{is_eol}
use Rattle.scan.specs.Lines.{lines_here}
use Rattle.trim.specs.Trim.{trimmed}

-- Where the brace stands that closes the first one, d more being open; the bytes that are left stand from index i on, and n lines were counted before them:
-- "CR LF as one, lone CR as one, lone LF as one; the pair counts at its LF".
unfoldable pub braced : ℕ → List ℕ → ℕ → ℕ → Option (ℕ × ℕ)
braced d [] i n = None
braced d (c ∷ cs) i n =
    elim (eqb c 123) [
      | true ↦ braced (d + 1) cs (i + 1) n
      | false ↦
          elim (eqb c 125) [
            | true ↦ elim (eqb d 0) [ true ↦ Some (i, n) | false ↦ braced (d - 1) cs (i + 1) n ]
            | false ↦ elim (is_eol c) [ true ↦ braced d cs (i + 1) (n + lines_here c cs) | false ↦ braced d cs (i + 1) n ]
          ]
    ]

-- the same, of a whole source and an index in it
unfoldable pub braced_from : ℕ → List ℕ → ℕ → ℕ → Option (ℕ × ℕ)
braced_from d s i n = braced d (drop i s) i n

abbrev pub braced_at : List ℕ → ℕ → Option (ℕ × ℕ)
braced_at s i = braced_from 0 s i 0

-- "An action's crate span starts after `{` and has the trimmed length."
abbrev pub span_of : ℕ → Place → Place
span_of from p = record { from = from; to = from + (p.to - p.from) }

unfoldable pub acted : List ℕ → ℕ → Option (ℕ × ℕ) → Result (ℕ × ℕ × Place × Place) ℕ
acted s at (Some (to, n)) = Ok (to + 1, n, trimmed s (at + 1) to, span_of (at + 1) (trimmed s (at + 1) to))
acted s at None = Err at

-- the action whose brace opens at an index: "the place of its trimmed text beside the crate's span"
unfoldable pub action_at : List ℕ → ℕ → Result (ℕ × ℕ × Place × Place) ℕ
action_at s at = acted s at (braced_at s (at + 1))

-- Places: the brace found is a closing brace of the source; both places begin behind the opening brace, and lie in the source; 6 is at the action's first
-- byte.
abbrev pub Braced : List ℕ → ℕ → Option (ℕ × ℕ) → Type 0
Braced s from (Some (to, n)) = (from + n ≤ to) × (to < length s) × (get_or s to 0 ≡ 125)
Braced s from None = Unit {0}

abbrev pub Acted : List ℕ → ℕ → Result (ℕ × ℕ × Place × Place) ℕ → Type 0
Acted s at (Ok (end, n, p, q)) =
    (at + 1 + n < end) × (end ≤ length s) × (at + 1 ≤ p.from) × (p.from ≤ p.to) × (p.to ≤ length s) × (q.from ≡ at + 1) × (q.from ≤ q.to) × (q.to ≤ p.to)
Acted s at (Err i) = i ≡ at

-- document 01's number and values: 0, the end, the lines, the trimmed place and the crate's span; 6 IncompleteAction at its first byte
unfoldable pub action_numbers : Result (ℕ × ℕ × Place × Place) ℕ → List ℕ
action_numbers (Ok (end, n, p, q)) = 0 ∷ end ∷ n ∷ p.from ∷ p.to ∷ q.from ∷ q.to ∷ []
action_numbers (Err i) = 6 ∷ i ∷ []
