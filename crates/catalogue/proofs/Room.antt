-- What the tests of room and of padding tell, without a search. Assumes nothing.
use Prim.Native.Nat.{ℕ, zero, suc, ◌+◌, ◌*◌, ◌-◌, ◌≤◌, ◌<◌}
use mathlib.Core.Path.{◌≡◌, refl}
use mathlib.Core.List.{List, []}
use mathlib.Core.Bool.{Bool, true, false}
use mathlib.Core.Logic.{◌↔◌}
use native.Mathlib.Omega.{arith}
use native.Mathlib.Decide.{dec_lt, ℕ_discrete}
use borrow.Author.Tests.{leb-true, leb-false}
use lib.Dec.{leb}
use lib.ListN.{length, get_or, drop, replicate, get_or-map}
use Rattle.tables.specs.Layout.{table_number}
use Rattle.tables.proofs.Tells.{both_iff, eq_iff}
use Rattle.tables.proofs.Laws.{number_low, number_high}
use Rattle.grammar.specs.declared.Counts.{Counts}
use Rattle.grammar.specs.declared.PosixCounts.{PosixCounts}
use Rattle.grammar.specs.Sound.{AllTables, list_of, cells_of}
use Rattle.blocks.specs.Blocks.{blocks_for}
use Rattle.blocks.proofs.Content.{zero_bytes_iff}
use Rattle.catalogue.specs.Catalogue.{cells_at, first_short, ShortAt, filled_test, lengths_of}

-- no table has number 0
pub number_some : (k : ℕ) → table_number k ≡ 0 → ⊥
number_some k e = elim (dec_lt k 10) [ yes h ↦ omega (arith, number_low k h) | no h ↦ omega (arith, number_high k (omega arith)) ]

module _ (c : Counts) (p : PosixCounts) (ls : List ℕ) where
  -- one table is the first that is short, or all fit
  pub short_cases {κ} : (C : ℕ → Type κ) (k n : ℕ)
      → ((j : ℕ) → k ≤ j → j < k + n → get_or ls j 0 < cells_at c p j → ((i : ℕ) → k ≤ i → i < j → cells_at c p i ≤ get_or ls i 0) → C (table_number j))
      → (((j : ℕ) → k ≤ j → j < k + n → cells_at c p j ≤ get_or ls j 0) → C 0)
      → C (first_short c p ls k n)
  unfolding first_short
  short_cases C k zero f g = g (λ j h l. absurd (omega arith))
  short_cases C k (suc n) f g = go (leb (cells_at c p k) (get_or ls k 0)) refl (short_cases C (suc k) n)
    where
      also : cells_at c p k ≤ get_or ls k 0 → (m : ℕ) → ((j : ℕ) → suc k ≤ j → j < m → cells_at c p j ≤ get_or ls j 0) → (j : ℕ) → k ≤ j → j < m → cells_at c p j ≤ get_or ls j 0
      also h m r j a b = elim (ℕ_discrete j k) [ yes e ↦ rw e h | no e ↦ r j (omega arith) b ]

      go : (b : Bool) → leb (cells_at c p k) (get_or ls k 0) ≡ b
          → (((j : ℕ) → suc k ≤ j → j < suc k + n → get_or ls j 0 < cells_at c p j → ((i : ℕ) → suc k ≤ i → i < j → cells_at c p i ≤ get_or ls i 0) → C (table_number j))
          → (((j : ℕ) → suc k ≤ j → j < suc k + n → cells_at c p j ≤ get_or ls j 0) → C 0)
          → C (first_short c p ls (suc k) n))
          → C (elim b [ true ↦ first_short c p ls (suc k) n | false ↦ table_number k ])
      go true e rest =
          let h = leb-true (cells_at c p k) (get_or ls k 0) e in
          rest (λ j a b s r. f j (omega arith) (omega arith) s (also h j r)) (λ r. g (λ j a b. also h (suc k + n) r j a (omega arith)))
      go false e rest = f k (omega arith) (omega arith) (leb-false (cells_at c p k) (get_or ls k 0) e) (λ i a b. absurd (omega arith))

  pub short_none : (k n : ℕ) → (first_short c p ls k n ≡ 0) ↔ ((j : ℕ) → k ≤ j → j < k + n → cells_at c p j ≤ get_or ls j 0)
  short_none k n =
      short_cases (λ (q : ℕ). (q ≡ 0) ↔ ((j : ℕ) → k ≤ j → j < k + n → cells_at c p j ≤ get_or ls j 0)) k n
      (λ j a b s r. (λ e. absurd (number_some j e), λ f. absurd (omega (arith, f j a b))))
      (λ f. (λ e. f, λ g. refl))

  pub short_first : (k n q : ℕ) → first_short c p ls k n ≡ q → (q ≡ 0 → ⊥) → ShortAt c p ls k n q
  short_first k n q e d =
      rw e at
      (short_cases (λ (x : ℕ). (x ≡ 0 → ⊥) → ShortAt c p ls k n x) k n (λ j a b s r _. record { index = j; from = a; inside = b; number = refl; short = s; earlier = r }) (λ f z. absurd (z refl)) (rw e d))

-- content of n bytes fills the blocks, and zeros are behind it
pub filled_iff : (b : List ℕ) (n : ℕ) → (filled_test b n ≡ true) ↔ ((blocks_for n * 504 ≡ length b) × (drop n b ≡ replicate (length b - n) 0))
unfolding filled_test
filled_iff b n =
    let f = both_iff (eq_iff (blocks_for n * 504) (length b)) (λ e. e, λ e. e) in (
      λ h. let x = f.0 h in (x.0, (zero_bytes_iff b n (length b - n) (omega (arith, x.0))).0 x.1),
      λ x. f.1 (x.0, (zero_bytes_iff b n (length b - n) (omega (arith, x.0))).1 x.1),
    )

-- the lent lengths are the tables'
pub lengths_at : (T : AllTables) (k : ℕ) → get_or (lengths_of T) k 0 ≡ length (cells_of T k)
lengths_at T k = get_or-map length (list_of T) k []
