-- All blocks: what the first fault says, and "one altered byte anywhere is refused". Assumes nothing.
use Rattle.std.specs.Prelude.{Result, Ok, Err}
use Prim.Native.Nat.{ℕ, zero, suc, ◌+◌, ◌*◌, ◌/◌, ◌%◌, ◌≤◌, ◌<◌}
use mathlib.Core.Path.{◌≡◌, refl, sym, ◌∙◌}
use mathlib.Core.List.{List}
use mathlib.Core.Bool.{Bool, true, false, true≢false}
use mathlib.Core.Logic.{◌↔◌}
use native.Mathlib.Omega.{arith}
use native.Mathlib.Decide.{dec_lt}
use lib.Dec.{eqb}
use lib.ListN.{length, get_or, set}
use lib.Seq.{get_or-set_same}
use borrow.Author.Tests.{eqb-true, eqb-false}
use Rattle.blocks.specs.declared.BlockFault.{BlockFault}
use Rattle.blocks.specs.declared.BlockFault.TheVariants.{WrongNumber, WrongCheck}
use Rattle.blocks.specs.Blocks.{word_in, ok_at, block_fault, or_else, first_fault, BlockHas, FaultAt}
use Rattle.blocks.proofs.Altered.{Same, set_same, set_each, number_same, number_one, ok_same, altered}

-- ---- a block

block_has : (s : List ℕ) (k : ℕ) → BlockHas (block_fault s k) s k
unfolding block_fault
block_has s k = go (eqb (word_in s (k * 512)) k) (ok_at s (k * 512)) refl refl
  where
    go : (a b : Bool) → eqb (word_in s (k * 512)) k ≡ a → ok_at s (k * 512) ≡ b → BlockHas (elim a [ true ↦ elim b [ true ↦ Ok tt | false ↦ Err WrongCheck ] | false ↦ Err WrongNumber ]) s k
    go true true p q = (eqb-true _ k p, q)
    go true false p q = (eqb-true _ k p, q)
    go false b p q = eqb-false _ k p

-- it has one fault only
has_one : (f g : Result (Unit {0}) BlockFault) (s : List ℕ) (k : ℕ) → BlockHas f s k → BlockHas g s k → f ≡ g
has_one (Ok _) (Ok _) s k p q = refl
has_one (Ok _) (Err WrongNumber) s k p q = absurd (q p.0)
has_one (Ok _) (Err WrongCheck) s k p q = absurd (true≢false (sym p.1 ∙ q.1))
has_one (Err WrongNumber) (Ok _) s k p q = absurd (p q.0)
has_one (Err WrongNumber) (Err WrongNumber) s k p q = refl
has_one (Err WrongNumber) (Err WrongCheck) s k p q = absurd (p q.0)
has_one (Err WrongCheck) (Ok _) s k p q = absurd (true≢false (sym q.1 ∙ p.1))
has_one (Err WrongCheck) (Err WrongNumber) s k p q = absurd (q p.0)
has_one (Err WrongCheck) (Err WrongCheck) s k p q = refl

pub block_iff : (f : Result (Unit {0}) BlockFault) (s : List ℕ) (k : ℕ) → (block_fault s k ≡ f) ↔ BlockHas f s k
block_iff f s k = (λ e. rw e at (block_has s k), λ h. has_one (block_fault s k) f s k (block_has s k) h)

-- a block is right by its own bytes
pub right_same : (s t : List ℕ) (k : ℕ) → Same s t (k * 512) (k * 512 + 512) → BlockHas (Ok tt) t k → BlockHas (Ok tt) s k
right_same s t k d h = (number_same s t (k * 512) (λ i a b. d i a (omega arith)) ∙ h.0, ok_same s t (k * 512) d ∙ h.1)

-- ---- the first fault

or_none : (f g : Result (Unit {0}) BlockFault) → or_else f g ≡ Ok tt → (f ≡ Ok tt) × (g ≡ Ok tt)
or_none (Ok _) g e = (refl, e)
or_none (Err WrongNumber) g e = (e, cc)
or_none (Err WrongCheck) g e = (e, cc)

or_some : (f g : Result (Unit {0}) BlockFault) → (f ≡ Ok tt → ⊥) → or_else f g ≡ f
or_some (Ok _) g d = absurd (d refl)
or_some (Err WrongNumber) g d = refl
or_some (Err WrongCheck) g d = refl

-- no fault: every block is right
pub right_iff : (n : ℕ) (s : List ℕ) → (first_fault n s ≡ Ok tt) ↔ ((k : ℕ) → k < n → (word_in s (k * 512) ≡ k) × (ok_at s (k * 512) ≡ true))
unfolding first_fault
right_iff n s = (there n, back n)
  where
    there : (n : ℕ) → first_fault n s ≡ Ok tt → (k : ℕ) → k < n → BlockHas (Ok tt) s k
    there zero e k h = absurd (omega arith)
    there (suc n) e k h =
        let o = or_none (first_fault n s) (block_fault s n) e in
        elim (dec_lt k n) [ yes l ↦ there n o.0 k l | no l ↦ let z : k ≡ n = omega arith in rw z ((block_iff (Ok tt) s n).0 o.1) ]

    back : (n : ℕ) → ((k : ℕ) → k < n → BlockHas (Ok tt) s k) → first_fault n s ≡ Ok tt
    back zero f = refl
    back (suc n) f = rw (back n (λ k h. f k (omega arith))) ((block_iff (Ok tt) s n).1 (f n (omega arith)))

-- another: a block has it, and every earlier block is right
pub fault_first : (n : ℕ) (s : List ℕ) (f : Result (Unit {0}) BlockFault) → (f ≡ Ok tt → ⊥) → (first_fault n s ≡ f) ↔ FaultAt n s f
unfolding first_fault
fault_first n s f d = (there n, back n)
  where
    there : (n : ℕ) → first_fault n s ≡ f → FaultAt n s f
    there zero e = absurd (d (sym e))
    there (suc n) e = go (first_fault n s) refl e (there n)
      where
        later : FaultAt n s f → FaultAt (suc n) s f
        later r = record { block = r.block; inside = omega (arith, r.inside); earlier = r.earlier; here = r.here }

        go : (g : Result (Unit {0}) BlockFault) → first_fault n s ≡ g → or_else g (block_fault s n) ≡ f → (first_fault n s ≡ f → FaultAt n s f) → FaultAt (suc n) s f
        go (Ok _) q e r = record { block = n; inside = omega arith; earlier = (right_iff n s).0 q; here = (block_iff f s n).0 e }
        go (Err WrongNumber) q e r = later (r (q ∙ e))
        go (Err WrongCheck) q e r = later (r (q ∙ e))

    back : (n : ℕ) → FaultAt n s f → first_fault n s ≡ f
    back zero r = absurd (omega (arith, r.inside))
    back (suc n) r =
        elim (dec_lt r.block n) [
          | yes l ↦ rw (back n (record { block = r.block; inside = l; earlier = r.earlier; here = r.here })) (or_some f (block_fault s n) d)
          | no l ↦ let z : r.block ≡ n = omega (arith, r.inside) in rw ((right_iff n s).1 (rw z at r.earlier)) ((block_iff f s n).1 (rw z at r.here))
        ]

-- for the premise of fault_first
pub number_fault : ◌≡◌ {A = Result (Unit {0}) BlockFault} (Err WrongNumber) (Ok tt) → ⊥
number_fault e = let z : ◌≡◌ {A = ℕ} 0 1 = cc in omega arith

pub check_fault : ◌≡◌ {A = Result (Unit {0}) BlockFault} (Err WrongCheck) (Ok tt) → ⊥
check_fault e = let z : ◌≡◌ {A = ℕ} 0 1 = cc in omega arith

-- ---- one altered byte of blocks that are all right

module _ (n : ℕ) (s : List ℕ) (k v : ℕ) (long : n * 512 ≤ length s) (bytes : (i : ℕ) → get_or s i 0 < 256) (low : v < 256) (new : v ≡ get_or s k 0 → ⊥) (h : k < n * 512) (e : first_fault n s ≡ Ok tt) where
  -- the blocks before it are right,
  before : (j : ℕ) → j < k / 512 → BlockHas (Ok tt) (set s k v) j
  before j l = right_same (set s k v) s j (set_same s k v (j * 512) (j * 512 + 512) (λ a b. omega arith)) ((right_iff n s).0 e j (omega arith))

  -- and its own was
  own : BlockHas (Ok tt) s (k / 512)
  own = (right_iff n s).0 e (k / 512) (omega arith)

  -- in a number
  pub altered_number : k % 512 < 4 → first_fault n (set s k v) ≡ Err WrongNumber
  altered_number l =
      (fault_first n (set s k v) (Err WrongNumber) number_fault).1
      (record {
        block = k / 512;
        inside = omega arith;
        earlier = before;
        here = λ f. new (sym (get_or-set_same s k v 0 (omega arith)) ∙ number_one (set s k v) s (k / 512 * 512) (λ i. set_each (λ (x : ℕ). x < 256) s k v i low (bytes i)) bytes (f ∙ sym own.0) k (omega arith) (omega arith));
      })

  -- in content or in a check
  pub altered_check : 4 ≤ k % 512 → first_fault n (set s k v) ≡ Err WrongCheck
  altered_check l =
      (fault_first n (set s k v) (Err WrongCheck) check_fault).1
      (record {
        block = k / 512;
        inside = omega arith;
        earlier = before;
        here = (
          number_same (set s k v) s (k / 512 * 512) (set_same s k v (k / 512 * 512) (k / 512 * 512 + 4) (λ a b. omega arith)) ∙ own.0,
          altered s (k / 512 * 512) k v (omega arith) bytes low new (omega arith) (omega arith) own.1,
        );
      })
