-- A finder: a working index beside a table, for the time of one call. No document speaks of it and no answer depends on how it spreads the names: what is found is what the search finds.
use Rattle.std.specs.Prelude.{ℕ, zero, suc, ◌+◌, ◌*◌, ◌/◌, ◌%◌, ◌<◌, min, ◌≡◌, List, [], ◌∷◌, Bool, true, false, ◌⊎◌, length, get_or, Option, Some, None}
use Rattle.std.proofs.Math.Seq.{slice}
use Rattle.tables.specs.Table.{cell, lies, has_name}
use Rattle.index.specs.Index.{next_slot}
use Rattle.finder.specs.declared.Sought.{Sought}
use Rattle.finder.specs.declared.Sought.TheVariants.{Seated, Unseated, Untold}

-- a number of the bytes of a name, one byte more at a time
abbrev pub stirred : ℕ → ℕ → ℕ
stirred h b = (h * 16777619 + b) % 4294967296

unfoldable pub stir_from : ℕ → List ℕ → ℕ
stir_from h [] = h
stir_from h (b ∷ bs) = stir_from (stirred h b) bs

-- of a place of the source; a place that does not lie in it has no bytes
unfoldable pub number_of : List ℕ → ℕ → ℕ → ℕ
number_of src a b = elim (lies src a b) [ true ↦ stir_from 2166136261 (slice a b src) | false ↦ 2166136261 ]

-- the seat of a number among m slots: its product with the golden ratio says how far on
unfoldable pub seat_of : ℕ → ℕ → ℕ
seat_of m x = x * 2654435769 % 4294967296 * (m % 4294967296) / 4294967296

-- what a slot holds for row r; from row 65534 on all rows have one mark, which sends to the search
abbrev pub last_mark : ℕ
last_mark = 65535

unfoldable pub mark_of : ℕ → ℕ
mark_of r = min (r + 1) last_mark

-- f slots from p on lead to the mark v: it is there, and the slots before it are taken; or all are taken
pub data Leads (ix : List ℕ) (v : ℕ) : ℕ → ℕ → Type 0 where
  out : {p : ℕ} → Leads ix v zero p
  here : {f p : ℕ} → get_or ix p 0 ≡ v → Leads ix v (suc f) p
  on : {f p : ℕ} → (get_or ix p 0 ≡ 0 → ⊥) → Leads ix v f (next_slot (length ix) p) → Leads ix v (suc f) p

-- the row's name leads to the row
abbrev pub LeadsTo : List ℕ → ℕ → ℕ → List ℕ → List ℕ → ℕ → Type 0
LeadsTo src w k t ix r = Leads ix (mark_of r) (length ix) (seat_of (length ix) (number_of src (cell w t r k) (cell w t r (k + 1))))

-- the names of the n rows do, of all that are asked for
abbrev pub LedOf : (ℕ → Bool) → List ℕ → ℕ → ℕ → ℕ → List ℕ → List ℕ → Type 0
LedOf asked src w k n t ix = (r : ℕ) → r < n → asked r ≡ true → LeadsTo src w k t ix r

abbrev pub Led : List ℕ → ℕ → ℕ → ℕ → List ℕ → List ℕ → Type 0
Led src w k n t ix = (r : ℕ) → r < n → LeadsTo src w k t ix r

-- no row has the name of one before it
abbrev pub Apart : List ℕ → ℕ → ℕ → ℕ → List ℕ → Type 0
Apart src w k n t = (q r : ℕ) → q < r → r < n → has_name src w k t (cell w t r k) (cell w t r (k + 1)) q ≡ false

-- the finder of a table whose names are pairwise different
pub record Held (src : List ℕ) (w k n : ℕ) (t ix : List ℕ) : Type 0 where
  pub led : Led src w k n t ix
  pub apart : Apart src w k n t

-- a row that has the name, or none of the n rows has it that are asked for
abbrev pub Met : (ℕ → Bool) → List ℕ → ℕ → ℕ → ℕ → List ℕ → ℕ → ℕ → Option ℕ → Type 0
Met asked src w k n t a b (Some r) = (r < n) × (has_name src w k t a b r ≡ true)
Met asked src w k n t a b None = (q : ℕ) → q < n → asked q ≡ true → has_name src w k t a b q ≡ false

-- what the slots tell of a name: a row that has it and to which they lead, or that they lead to no such row of those that are asked for
abbrev pub Tells : (ℕ → Bool) → List ℕ → ℕ → ℕ → ℕ → List ℕ → List ℕ → ℕ → ℕ → Sought → Type 0
Tells asked src w k n t ix a b (Seated r) = (r < n) × (has_name src w k t a b r ≡ true) × LeadsTo src w k t ix r
Tells asked src w k n t ix a b Unseated = (q : ℕ) → q < n → asked q ≡ true → has_name src w k t a b q ≡ false
Tells asked src w k n t ix a b Untold = Unit {0}

-- slots were filled, and none was changed
pub record Grown (ix jx : List ℕ) : Type 0 where
  pub size : length jx ≡ length ix
  pub kept : (p : ℕ) → (get_or ix p 0 ≡ 0) ⊎ (get_or jx p 0 ≡ get_or ix p 0)
