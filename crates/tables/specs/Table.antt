-- Document 01: "Lent tables of 32-bit numbers", as lists of all their cells. Row r of width w is the w cells from r * w on.
use Rattle.std.specs.Prelude.{ℕ, zero, suc, ◌+◌, ◌*◌, ◌/◌, ◌<◌, min, ◌≡◌, List, [], ◌∷◌, Bool, true, false, ◌&&◌, length, get_or, set, replicate, ltb, leb, Option, Some, None}
use Rattle.std.proofs.Math.Seq.{slice}
use Rattle.scan.specs.Table.{same}
use Rattle.tables.specs.Layout.{tokens, declared, width}

-- cell k of row r
abbrev pub cell : ℕ → List ℕ → ℕ → ℕ → ℕ
cell w t r k = get_or t (r * w + k) 0

abbrev pub set_cell : ℕ → List ℕ → ℕ → ℕ → ℕ → List ℕ
set_cell w t r k v = set t (r * w + k) v

-- "Cells past a count are zero": a table with no rows
abbrev pub zeroed : List ℕ → List ℕ
zeroed t = replicate (length t) 0

-- the cells with vs stored from the index at on
abbrev pub put : List ℕ → ℕ → List ℕ → List ℕ
put t at [] = t
put t at (v ∷ vs) = put (set t at v) (at + 1) vs

-- whether a whole row of width w is free behind n rows, and can be counted in 32 bits; "42 comes exactly where [..] that table has no whole free row"
unfoldable pub room : ℕ → ℕ → List ℕ → Bool
room w n t = ltb n (min (length t / w) 4294967295)

pub record Added : Type 0 where
  pub ok : Bool
  pub cells : List ℕ

abbrev pub added : Bool → ℕ → List ℕ → List ℕ → Added
added true n row t = record { ok = true; cells = put t (n * length row) row }
added false n row t = record { ok = false; cells = t }

-- row n written, where there is room for it
unfoldable pub add_row : ℕ → List ℕ → List ℕ → Added
add_row n row t = added (room (length row) n t) n row t

-- "each place [..] has from ≤ to ≤ source length"
abbrev pub lies : List ℕ → ℕ → ℕ → Bool
lies src a b = leb a b && leb b (length src)

-- whether two places hold the same bytes; no, where one does not lie in the source
unfoldable pub same_part : List ℕ → ℕ → ℕ → ℕ → ℕ → Bool
same_part src a b c d =
    elim (lies src a b) [ true ↦ elim (lies src c d) [ true ↦ same (slice a b src) (slice c d src) | false ↦ false ] | false ↦ false ]

-- whether row r has the name from a to b, its own place being in the cells k and k + 1
unfoldable pub has_name : List ℕ → ℕ → ℕ → List ℕ → ℕ → ℕ → ℕ → Bool
has_name src w k t a b r = same_part src (cell w t r k) (cell w t r (k + 1)) a b

-- the first of the n rows from row r on that passes the test
unfoldable pub first_row : (ℕ → Bool) → ℕ → ℕ → Option ℕ
first_row p zero r = None
first_row p (suc n) r = elim (p r) [ true ↦ Some r | false ↦ first_row p n (r + 1) ]

-- "the lent tables with linear search": the first row of a name
unfoldable pub find_name : List ℕ → ℕ → ℕ → ℕ → List ℕ → ℕ → ℕ → Option ℕ
find_name src w k n t a b = first_row (has_name src w k t a b) n 0

-- What is found, without a search: one of the n rows that has the name, where no earlier row has it.
pub record First (src : List ℕ) (w k n : ℕ) (t : List ℕ) (a b r : ℕ) : Type 0 where
  pub inside : r < n
  pub named : has_name src w k t a b r ≡ true
  pub earlier : (q : ℕ) → q < r → has_name src w k t a b q ≡ false

pub record Inserted : Type 0 where
  pub entered : Option ℕ
  pub cells : List ℕ

abbrev pub flag : Bool → ℕ
flag true = 1
flag false = 0

abbrev pub marked : Bool → ℕ → List ℕ → List ℕ
marked true r t = set_cell (width tokens) t r declared 1
marked false r t = t

abbrev pub entered : Bool → ℕ → List ℕ → Inserted
entered true n t = record { entered = Some (n + 1); cells = t }
entered false n t = record { entered = None; cells = t }

abbrev pub enter_at : Option ℕ → ℕ → ℕ → ℕ → Bool → List ℕ → Inserted
enter_at (Some r) n a b d t = record { entered = Some n; cells = marked d r t }
enter_at None n a b d t = entered (add_row n (a ∷ b ∷ flag d ∷ []) t).ok n (add_row n (a ∷ b ∷ flag d ∷ []) t).cells

-- "1 tokens (place, declared by `%token` or not)": the token's row, new or found; a found one is marked if it is declared now
unfoldable pub enter_token : List ℕ → ℕ → ℕ → ℕ → Bool → List ℕ → Inserted
enter_token src n a b d t = enter_at (find_name src (width tokens) 0 n t a b) n a b d t

-- document 01's number and values: 1 and the row that was found, or 0; how many rows there are now, or "42 no room"
abbrev pub found_numbers : Option ℕ → List ℕ
found_numbers (Some r) = 1 ∷ r ∷ []
found_numbers None = 0 ∷ 0 ∷ []

abbrev pub entered_numbers : Option ℕ → List ℕ
entered_numbers (Some n) = 0 ∷ n ∷ []
entered_numbers None = 42 ∷ 0 ∷ []
