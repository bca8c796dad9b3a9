-- Repeats and their numbers: each is told by its number. Assumes nothing.
use Prim.Native.Nat.{ℕ, zero, suc, ◌+◌, ◌-◌, ◌≤◌}
use mathlib.Core.Path.{◌≡◌, refl, sym, ◌∙◌}
use mathlib.Core.List.{List, ◌∷◌}
use native.Mathlib.Omega.{arith}
use lib.ListN.{drop}
use borrow.Author.Tests.{ne_eqb}
use Rattle.grammar.specs.declared.Repeat.{Repeat}
use Rattle.grammar.specs.declared.Repeat.TheVariants.{RepeatedPrecedence, RepeatedAvoidInsert, RepeatedImplicitTokens, RepeatedExpect, RepeatedExpectRr, RepeatedStart, RepeatedActiontype, RepeatedEpp}
use Rattle.grammar.specs.Refusals.{number_of_repeat, repeats_in_order, of_number, repeat_of}

-- a number that is not that of the first repeat
miss : (n : ℕ) (what : Repeat) (rest : List Repeat) → (n ≡ number_of_repeat what → ⊥) → of_number n (what ∷ rest) ≡ of_number n rest
unfolding of_number
miss n what rest f = rw (ne_eqb n (number_of_repeat what) f, of_number)

-- a number that is none of the first seven
pub repeat_else : (n : ℕ) → (n ≡ 20 → ⊥) → (n ≡ 21 → ⊥) → (n ≡ 22 → ⊥) → (n ≡ 23 → ⊥) → (n ≡ 24 → ⊥) → (n ≡ 25 → ⊥) → (n ≡ 26 → ⊥) → RepeatedEpp ≡ repeat_of n
unfolding repeat_of of_number
repeat_else n a b c d e f g =
    sym (miss n RepeatedPrecedence (drop 1 repeats_in_order) a ∙ miss n RepeatedAvoidInsert (drop 2 repeats_in_order) b ∙ miss n RepeatedImplicitTokens (drop 3 repeats_in_order) c ∙ miss n RepeatedExpect (drop 4 repeats_in_order) d ∙ miss n RepeatedExpectRr (drop 5 repeats_in_order) e ∙ miss n RepeatedStart (drop 6 repeats_in_order) f ∙ miss n RepeatedActiontype (drop 7 repeats_in_order) g)

-- A repeat is the one of its number,
pub repeat_back : (what : Repeat) → repeat_of (number_of_repeat what) ≡ what
unfolding repeat_of of_number
repeat_back RepeatedPrecedence = refl
repeat_back RepeatedAvoidInsert = refl
repeat_back RepeatedImplicitTokens = refl
repeat_back RepeatedExpect = refl
repeat_back RepeatedExpectRr = refl
repeat_back RepeatedStart = refl
repeat_back RepeatedActiontype = refl
repeat_back RepeatedEpp = refl

pub repeat_here : (n : ℕ) (what : Repeat) → n ≡ number_of_repeat what → what ≡ repeat_of n
repeat_here n what e = rw e (sym (repeat_back what))

-- numbers of repeats are 20 to 27,
pub repeat_least : (what : Repeat) → 20 ≤ number_of_repeat what
repeat_least RepeatedPrecedence = omega arith
repeat_least RepeatedAvoidInsert = omega arith
repeat_least RepeatedImplicitTokens = omega arith
repeat_least RepeatedExpect = omega arith
repeat_least RepeatedExpectRr = omega arith
repeat_least RepeatedStart = omega arith
repeat_least RepeatedActiontype = omega arith
repeat_least RepeatedEpp = omega arith

pub repeat_most : (what : Repeat) → number_of_repeat what ≤ 27
repeat_most RepeatedPrecedence = omega arith
repeat_most RepeatedAvoidInsert = omega arith
repeat_most RepeatedImplicitTokens = omega arith
repeat_most RepeatedExpect = omega arith
repeat_most RepeatedExpectRr = omega arith
repeat_most RepeatedStart = omega arith
repeat_most RepeatedActiontype = omega arith
repeat_most RepeatedEpp = omega arith

-- and each of those numbers is the number of its repeat.
pub number_back : (n : ℕ) → 20 ≤ n → n ≤ 27 → number_of_repeat (repeat_of n) ≡ n
unfolding repeat_of of_number
number_back n h k = let z : 20 + (n - 20) ≡ n = omega arith in rw z at (go (n - 20) (omega arith))
  where
    go : (m : ℕ) → m ≤ 7 → number_of_repeat (repeat_of (20 + m)) ≡ 20 + m
    go zero l = refl
    go (suc zero) l = refl
    go (suc (suc zero)) l = refl
    go (suc (suc (suc zero))) l = refl
    go (suc (suc (suc (suc zero)))) l = refl
    go (suc (suc (suc (suc (suc zero))))) l = refl
    go (suc (suc (suc (suc (suc (suc zero)))))) l = refl
    go (suc (suc (suc (suc (suc (suc (suc zero))))))) l = refl
    go (suc (suc (suc (suc (suc (suc (suc (suc m)))))))) l = absurd (omega arith)
