-- `utf8::is_white`: each arm of the `match` tells what `is_white` comes to.
use Prim.Native.Nat.{ℕ}
use mathlib.Core.Path.{◌≡◌, refl}
use mathlib.Core.Logic.{inl, inr}
use native.Mathlib.Omega.{arith}
use types.Run.{OneOf}
use Rattle.utf8.specs.White.{is_white}
use Rattle.utf8.proofs.White.{singles, white_no, white_range, white_quads, white_single}
use Rattle.utf8.proofs.is_white.Goals as goal

-- none of the single code points, by what each arm left
none : (p : ℕ) → (p ≡ 32 → ⊥) → (p ≡ 133 → ⊥) → (p ≡ 160 → ⊥) → (p ≡ 5760 → ⊥) → (p ≡ 8232 → ⊥) → (p ≡ 8233 → ⊥) → (p ≡ 8239 → ⊥) → (p ≡ 8287 → ⊥) → (p ≡ 12288 → ⊥) → OneOf singles p → ⊥
none p a b c d e f g h i (inl x) = a x
none p a b c d e f g h i (inr (inl x)) = b x
none p a b c d e f g h i (inr (inr (inl x))) = c x
none p a b c d e f g h i (inr (inr (inr (inl x)))) = d x
none p a b c d e f g h i (inr (inr (inr (inr (inl x))))) = e x
none p a b c d e f g h i (inr (inr (inr (inr (inr (inl x)))))) = f x
none p a b c d e f g h i (inr (inr (inr (inr (inr (inr (inl x))))))) = g x
none p a b c d e f g h i (inr (inr (inr (inr (inr (inr (inr (inl x)))))))) = h x
none p a b c d e f g h i (inr (inr (inr (inr (inr (inr (inr (inr x)))))))) = i x

pub returns-in-32 : goal.returns-in-32
unfolding is_white
returns-in-32 c = white_single _ 32 refl c.in-32.is

pub returns-in-133 : goal.returns-in-133
unfolding is_white
returns-in-133 c = white_single _ 133 refl c.in-133.is

pub returns-in-160 : goal.returns-in-160
unfolding is_white
returns-in-160 c = white_single _ 160 refl c.in-160.is

pub returns-in-5760 : goal.returns-in-5760
unfolding is_white
returns-in-5760 c = white_single _ 5760 refl c.in-5760.is

pub returns-in-8232 : goal.returns-in-8232
unfolding is_white
returns-in-8232 c = white_single _ 8232 refl c.in-8232.is

pub returns-in-8233 : goal.returns-in-8233
unfolding is_white
returns-in-8233 c = white_single _ 8233 refl c.in-8233.is

pub returns-in-8239 : goal.returns-in-8239
unfolding is_white
returns-in-8239 c = white_single _ 8239 refl c.in-8239.is

pub returns-in-8287 : goal.returns-in-8287
unfolding is_white
returns-in-8287 c = white_single _ 8287 refl c.in-8287.is

pub returns-in-12288 : goal.returns-in-12288
unfolding is_white
returns-in-12288 c = white_single _ 12288 refl c.in-12288.is

pub returns-in-9-to-13 : goal.returns-in-9-to-13
returns-in-9-to-13 c = white_range _ (omega arith) (omega arith)

pub returns-in-8192-to-8202 : goal.returns-in-8192-to-8202
returns-in-8192-to-8202 c = white_quads _ (omega arith) (omega arith)

pub returns-in_default : goal.returns-in_default
returns-in_default c = white_no _ (λ z. omega arith) (λ a b. omega arith) (λ a b. omega arith)

pub returns-in_default-2 : goal.returns-in_default-2
returns-in_default-2 c = white_no _ (λ z. omega arith) (λ a b. omega arith) (λ a b. omega arith)

pub returns-in_default-3 : goal.returns-in_default-3
returns-in_default-3 c = white_no _ (λ z. omega arith) (λ a b. omega arith) (λ a b. omega arith)
