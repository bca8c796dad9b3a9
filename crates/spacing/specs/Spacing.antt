-- Document 01, "Spacing (parse_ws)"; its count of lines is that of document 02, request Ten.
use Rattle.std.specs.Prelude.{ℕ, ◌+◌, ◌≤◌, ◌<◌, ◌≡◌, List, [], ◌∷◌, Bool, true, false, ◌||◌, ◌&&◌, not, eqb, length, drop, Result, Ok, Err}
use Rattle.scan.specs.Scan.{is_eol, starts_at, Edge}
use Rattle.scan.specs.Lines.{lines_here}
use Rattle.spacing.specs.declared.SpacingError.{SpacingError}
use Rattle.spacing.specs.declared.SpacingError.TheVariants.{LineEnd, OpenComment}

-- "Space and tab pass."
unfoldable pub is_blank : ℕ → Bool
is_blank c = eqb c 9 || eqb c 32

-- Where in spacing an index stands
pub data Mode : Type 0 where
  -- between words
  gap : Mode
  -- behind a `/` at this index
  slash : ℕ → Mode
  -- in a comment that runs through its line end
  line : Mode
  -- in a comment that starts at this index, behind a `*` or a line end that is the byte before, or not
  comment : ℕ → Bool → Mode

-- Whether a line end directly followed by `/` closes a comment: in kinds 1 to 3. In kind 4 "A comment closes only at `*/`" (document 02, request Nine).
abbrev pub slash_closes : ℕ → Bool
slash_closes kind = not (eqb kind 4)

-- What spacing comes to in a kind, where line ends are allowed, or not; the bytes that are left stand from index i on, and n lines were counted before them.
-- "A line end (LF or CR [..]) passes where line ends are allowed, else 13. `//` runs through its line end, even where line ends are not allowed.
-- `/*` is left from inside at the first `*` or line end directly followed by `/`. A line end inside, where not allowed, is 13 at the comment's start.
-- Other `/` stops." What is counted is "how many lines they passed, CR LF as one, lone CR as one, lone LF as one; the pair counts at its LF".
unfoldable pub spacing : ℕ → Bool → Mode → List ℕ → ℕ → ℕ → Result (ℕ × ℕ) SpacingError
spacing kind ok gap [] i n = Ok (i, n)
spacing kind ok (slash b) [] i n = Ok (b, n)
spacing kind ok line [] i n = Ok (i, n)
spacing kind ok (comment b behind) [] i n = Err (OpenComment b)
spacing kind ok gap (c ∷ cs) i n =
    elim (is_blank c) [
      | true ↦ spacing kind ok gap cs (i + 1) n
      | false ↦
          elim (is_eol c) [
            | true ↦ elim (not ok) [ true ↦ Err (LineEnd i) | false ↦ spacing kind ok gap cs (i + 1) (n + lines_here c cs) ]
            | false ↦
                elim (eqb c 47) [ true ↦ spacing kind ok (slash i) cs (i + 1) n | false ↦ Ok (i, n) ]
          ]
    ]
spacing kind ok (slash b) (c ∷ cs) i n =
    elim (eqb c 47) [
      | true ↦ spacing kind ok line cs (i + 1) n
      | false ↦
          elim (eqb c 42) [ true ↦ spacing kind ok (comment b false) cs (i + 1) n | false ↦ Ok (b, n) ]
    ]
spacing kind ok line (c ∷ cs) i n =
    elim (is_eol c) [ true ↦ spacing kind ok gap cs (i + 1) (n + lines_here c cs) | false ↦ spacing kind ok line cs (i + 1) n ]
spacing kind ok (comment b behind) (c ∷ cs) i n =
    elim (behind && eqb c 47) [
      | true ↦ spacing kind ok gap cs (i + 1) n
      | false ↦
          elim (is_eol c) [
            | true ↦ elim (not ok) [ true ↦ Err (LineEnd b) | false ↦ spacing kind ok (comment b (slash_closes kind)) cs (i + 1) (n + lines_here c cs) ]
            | false ↦
                spacing kind ok (comment b (eqb c 42)) cs (i + 1) n
          ]
    ]

-- the same, of a whole source and an index in it
unfoldable pub spacing_at : ℕ → Bool → Mode → List ℕ → ℕ → ℕ → Result (ℕ × ℕ) SpacingError
spacing_at kind ok mode s i n = spacing kind ok mode (drop i s) i n

-- the spacing that begins at an index
abbrev pub spaces_at : ℕ → Bool → List ℕ → ℕ → Result (ℕ × ℕ) SpacingError
spaces_at kind ok s i = spacing_at kind ok gap s i 0

-- Places: spacing goes onward and stays in the source, counts at most the bytes it passes, and ends where a code point begins if it began at one; 13 and 5
-- are at a byte of it.
abbrev pub Spaces : List ℕ → ℕ → Result (ℕ × ℕ) SpacingError → Type 0
Spaces s from (Ok (i, n)) = (from + n ≤ i) × (i ≤ length s) × Edge s from i
Spaces s from (Err (LineEnd i)) = (from ≤ i) × (i < length s)
Spaces s from (Err (OpenComment i)) = (from ≤ i) × (i < length s)

-- at least n lines are counted, where spacing is not refused
abbrev pub AtLeast : ℕ → Result (ℕ × ℕ) SpacingError → Type 0
AtLeast n (Ok (i, m)) = n ≤ m
AtLeast n (Err (LineEnd i)) = Unit {0}
AtLeast n (Err (OpenComment i)) = Unit {0}

-- What a comment of kind 4 is, without a scan: `/*` stands at b, the first `*/` behind that at k.
pub record Starred (s : List ℕ) (b k : ℕ) : Type 0 where
  pub opens : starts_at (47 ∷ 42 ∷ []) s b ≡ true
  pub apart : b + 2 ≤ k
  pub closes : starts_at (42 ∷ 47 ∷ []) s k ≡ true
  pub first : (j : ℕ) → b + 2 ≤ j → j < k → starts_at (42 ∷ 47 ∷ []) s j ≡ false

-- spacing of kind 4 that begins with a comment at b and ends at i: behind the comment it goes on as spacing that begins there
pub record Leaves (ok : Bool) (s : List ℕ) (b i : ℕ) : Type 0 where
  pub star : ℕ
  pub comment : Starred s b star
  pub lines : ℕ
  pub behind : spaces_at 4 ok s (star + 2) ≡ Ok (i, lines)

-- document 01's number and values: 0, the end and the lines; 13 ReachedEOL and its place; 5 IncompleteComment and its place
unfoldable pub numbers : Result (ℕ × ℕ) SpacingError → List ℕ
numbers (Ok (i, n)) = 0 ∷ i ∷ n ∷ []
numbers (Err (LineEnd i)) = 13 ∷ i ∷ []
numbers (Err (OpenComment i)) = 5 ∷ i ∷ []
