-- Document 02, "An index beside the names": slots, "each 0 or a row number plus one". The rows of a table are w wide, and their names stand in the cells k and k + 1.
use Rattle.std.specs.Prelude.{◌≡◌, ℕ, zero, suc, ◌+◌, ◌-◌, ◌*◌, ◌/◌, ◌%◌, ◌^◌, ◌<◌, ◌≤◌, min, Bool, true, false, ◌&&◌, List, [], ◌∷◌, length, replicate, ◌==◌, nat_eq, nat_le, nat_lt, slice_index, slice_set, Option, Some, None}
use Rattle.tables.specs.Below.{below}
use Rattle.tables.specs.Table.{cell, has_name, find_name}
use Rattle.index.specs.Hash.{hash_of}

-- "The home slot is the remainder by the slots"
abbrev pub home : List ℕ → ℕ → ℕ → ℕ → ℕ
home src m a b = hash_of src a b % m

-- "the next, round the end"
unfoldable pub next_slot : ℕ → ℕ → ℕ
next_slot m p = elim (nat_lt (p + 1) m) [ true ↦ p + 1 | false ↦ 0 ]

-- "a taken slot means the next": the first free slot of f slots from p on; as many as there are slots, where none is free
unfoldable pub free_slot : List ℕ → ℕ → ℕ → ℕ
free_slot ix zero p = length ix
free_slot ix (suc f) p = elim (slice_index ix p == 0) [ true ↦ p | false ↦ free_slot ix f (next_slot (length ix) p) ]

-- row r is entered
unfoldable pub enter_row : List ℕ → ℕ → ℕ → List ℕ → ℕ → List ℕ → List ℕ
enter_row src w k t r ix = slice_set ix (free_slot ix (length ix) (home src (length ix) (cell w t r k) (cell w t r (k + 1)))) (r + 1)

-- "exactly what entering its table's rows in order gives": n rows, into m slots
unfoldable pub entries : List ℕ → ℕ → ℕ → List ℕ → ℕ → ℕ → List ℕ
entries src w k t m zero = replicate m 0
entries src w k t m (suc n) = enter_row src w k t n (entries src w k t m n)

-- the index holds that
pub record Indexed (src : List ℕ) (w k n : ℕ) (t ix : List ℕ) : Type 0 where
  pub holds : ix ≡ entries src w k t (length ix) n

-- a lookup: f slots from p on, up to a row that passes the test or a free slot
unfoldable pub probed : (ℕ → Bool) → List ℕ → ℕ → ℕ → Option ℕ
probed has ix zero p = None
probed has ix (suc f) p =
    elim (slice_index ix p == 0) [
      | true ↦ None
      | false ↦ elim (has (slice_index ix p - 1)) [ true ↦ Some (slice_index ix p - 1) | false ↦ probed has ix f (next_slot (length ix) p) ]
    ]

unfoldable pub lookup : List ℕ → ℕ → ℕ → List ℕ → List ℕ → ℕ → ℕ → Option ℕ
lookup src w k t ix a b = probed (has_name src w k t a b) ix (length ix) (home src (length ix) a b)

-- ---- the same as a test that needs no second index

-- whether, of f slots from p on, one holds row r and those before it hold earlier rows
unfoldable pub stands : List ℕ → ℕ → ℕ → ℕ → Bool
stands ix r zero p = false
stands ix r (suc f) p =
    elim (slice_index ix p == r + 1) [
      | true ↦ true
      | false ↦ elim (slice_index ix p == 0) [ true ↦ false | false ↦ elim (nat_lt r (slice_index ix p)) [ true ↦ false | false ↦ stands ix r f (next_slot (length ix) p) ] ]
    ]

-- row r stands where entering it puts it
unfoldable pub row_stands : List ℕ → ℕ → ℕ → List ℕ → List ℕ → ℕ → Bool
row_stands src w k t ix r = stands ix r (length ix) (home src (length ix) (cell w t r k) (cell w t r (k + 1)))

-- the slot in which that is: the first of f slots from p on that no row before row r has; as many as there are slots, where they have all
unfoldable pub open_slot : List ℕ → ℕ → ℕ → ℕ → ℕ
open_slot ix r zero p = length ix
open_slot ix r (suc f) p = elim (nat_lt 0 (slice_index ix p) && nat_le (slice_index ix p) r) [ true ↦ open_slot ix r f (next_slot (length ix) p) | false ↦ p ]

unfoldable pub row_slot : List ℕ → ℕ → ℕ → List ℕ → List ℕ → ℕ → ℕ
row_slot src w k t ix r = open_slot ix r (length ix) (home src (length ix) (cell w t r k) (cell w t r (k + 1)))

-- rows before row r have the slots from a up to b
pub record Taken (ix : List ℕ) (r a b : ℕ) : Type 0 where
  pub each : (q : ℕ) → a ≤ q → q < b → (0 < slice_index ix q) × (slice_index ix q ≤ r)

-- and what a list of blocks tells of them: all from block k on, up to the block that it names
abbrev pub block : ℕ
block = 16

pub record Skips (ix : List ℕ) (r : ℕ) (skips : List ℕ) : Type 0 where
  pub taken : (k : ℕ) → Taken ix r (block * k) (block * slice_index skips k)

-- how many slots are taken
unfoldable pub filled : List ℕ → ℕ
filled [] = 0
filled (v ∷ vs) = elim (v == 0) [ true ↦ filled vs | false ↦ suc (filled vs) ]

-- n slots are taken, and each of the n rows stands where entering it puts it
unfoldable pub index_test : List ℕ → ℕ → ℕ → ℕ → List ℕ → List ℕ → Bool
index_test src w k n t ix = filled ix == n && below n (row_stands src w k t ix)

-- What entering gives, said of the slots: each of the n rows stands on the way from its home, no other number is there, and n slots are taken.
pub record AllStand (src : List ℕ) (w k n : ℕ) (t ix : List ℕ) : Type 0 where
  pub each : (r : ℕ) → r < n → row_stands src w k t ix r ≡ true
  pub bound : (p : ℕ) → slice_index ix p ≤ n
  pub taken : filled ix ≡ n

-- how many rows there are after a token was entered
abbrev pub rows_now : ℕ → Option ℕ → ℕ
rows_now n (Some m) = m
rows_now n None = n

-- "names in 1 and in 7 are pairwise different": no row before row r has its name
abbrev pub unfound : Option ℕ → Bool
unfound (Some r) = false
unfound None = true

unfoldable pub fresh_name : List ℕ → ℕ → ℕ → List ℕ → ℕ → Bool
fresh_name src w k t r = unfound (find_name src w k r t (cell w t r k) (cell w t r (k + 1)))

-- ---- "a power of two of slots"

unfoldable pub halved : ℕ → ℕ → Bool
halved zero x = false
halved (suc f) x = elim (x % 2 == 0) [ true ↦ halved f (x / 2) | false ↦ nat_eq x 1 ]

unfoldable pub is_power : ℕ → Bool
is_power m = halved m m

pub record Power (m : ℕ) : Type 0 where
  pub exponent : ℕ
  pub is : m ≡ 2 ^ exponent

-- "45, index not a power of two or below twice the rows its table has room for": m slots for a table of n cells in rows of w
unfoldable pub size_test : ℕ → ℕ → ℕ → Bool
size_test m n w = is_power m && nat_le (min (n / w) 4294967295 * 2) m

-- the same without a test
pub record Sized (m n w : ℕ) : Type 0 where
  pub power : Power m
  pub roomy : min (n / w) 4294967295 * 2 ≤ m
