-- Small inputs of the number of a name and of entering rows, each under one statement; the numbers and slots are document 02's, by a count of their own.
use Rattle.std.specs.Prelude.{◌≡◌, ℕ, true, List, [], ◌∷◌, length, refl}
use Rattle.scan.specs.Table.{Case, same, all}
use Rattle.index.specs.Hash.{hash_from, hash_of}
use Rattle.index.specs.Index.{next_slot, free_slot, enter_row, entries}

unfoldable pub number : List ℕ → ℕ → Case (List ℕ)
number src gives = record { input = src; gives = gives ∷ [] }

unfoldable pub hashes : List (Case (List ℕ))
hashes =
    -- nothing
    number [] 5381
    -- `a`
    ∷ number (97 ∷ []) 177670
    -- `ab`
    ∷ number (97 ∷ 98 ∷ []) 5863208
    -- `b_a`, whose number is that of `ab`
    ∷ number (98 ∷ 65 ∷ []) 5863208
    -- `select_item`, whose number passes 2 to the 32
    ∷ number (115 ∷ 101 ∷ 108 ∷ 101 ∷ 99 ∷ 116 ∷ 95 ∷ 105 ∷ 116 ∷ 101 ∷ 109 ∷ []) 2701241715
    -- eight bytes 255
    ∷ number (255 ∷ 255 ∷ 255 ∷ 255 ∷ 255 ∷ 255 ∷ 255 ∷ 255 ∷ []) 3824348797
    ∷ []

pub hashes_hold : all (λ src. hash_of src 0 (length src) ∷ []) hashes ≡ true
unfolding all same number hashes hash_from hash_of
hashes_hold = refl

-- a source, a table of rows of two cells, how many rows are entered, and into how many slots
pub record Rows : Type 0 where
  pub src : List ℕ
  pub cells : List ℕ
  pub count : ℕ
  pub slots : ℕ

unfoldable pub row : List ℕ → List ℕ → ℕ → ℕ → List ℕ → Case Rows
row src cells count slots gives = record { input = record { src = src; cells = cells; count = count; slots = slots }; gives = gives }

unfoldable pub rows : List (Case Rows)
rows =
    -- three names, two of which have one number
    row (97 ∷ 98 ∷ 98 ∷ 65 ∷ 99 ∷ []) (0 ∷ 2 ∷ 2 ∷ 4 ∷ 4 ∷ 5 ∷ []) 3 8 (1 ∷ 2 ∷ 3 ∷ 0 ∷ 0 ∷ 0 ∷ 0 ∷ 0 ∷ [])
    -- one that goes round the end
    ∷ row (97 ∷ 105 ∷ 113 ∷ []) (0 ∷ 1 ∷ 1 ∷ 2 ∷ 2 ∷ 3 ∷ []) 3 4 (3 ∷ 0 ∷ 1 ∷ 2 ∷ [])
    -- no name
    ∷ row [] [] 0 4 (0 ∷ 0 ∷ 0 ∷ 0 ∷ [])
    -- more names than slots: the last has no slot
    ∷ row (97 ∷ 98 ∷ 99 ∷ []) (0 ∷ 1 ∷ 1 ∷ 2 ∷ 2 ∷ 3 ∷ []) 3 2 (1 ∷ 2 ∷ [])
    ∷ []

pub rows_hold : all (λ x. entries x.src 2 0 x.cells x.slots x.count) rows ≡ true
unfolding all same row rows hash_from hash_of next_slot free_slot enter_row entries
rows_hold = refl
