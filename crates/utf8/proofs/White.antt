-- What `is_white` comes to, from what the arms of a `match` know. Assumes nothing.
use Prim.Native.Nat.{ℕ, ◌≤◌}
use mathlib.Core.Path.{◌≡◌, sym}
use mathlib.Core.List.{List, [], ◌∷◌}
use mathlib.Core.Logic.{inl, inr}
use mathlib.Core.Bool.{true, false, or-true}
use borrow.Author.Tests.{ne_eqb}
use types.Run.{OneOf}
use Rattle.scan.proofs.Bytes.{within_no, within_yes}
use Rattle.utf8.specs.White.{is_white}

-- the code points that stand alone in a line of PropList.txt
abbrev pub singles : List ℕ
singles = 32 ∷ 133 ∷ 160 ∷ 5760 ∷ 8232 ∷ 8233 ∷ 8239 ∷ 8287 ∷ 12288 ∷ []

module _ (p : ℕ) where
  pub white_no : (OneOf singles p → ⊥) → (9 ≤ p → p ≤ 13 → ⊥) → (8192 ≤ p → p ≤ 8202 → ⊥) → false ≡ is_white p
  unfolding is_white
  white_no k a b =
      simp (
        within_no 9 13 p a,
        within_no 8192 8202 p b,
        ne_eqb p 32 (λ e. k (inl e)),
        ne_eqb p 133 (λ e. k (inr (inl e))),
        ne_eqb p 160 (λ e. k (inr (inr (inl e)))),
        ne_eqb p 5760 (λ e. k (inr (inr (inr (inl e))))),
        ne_eqb p 8232 (λ e. k (inr (inr (inr (inr (inl e)))))),
        ne_eqb p 8233 (λ e. k (inr (inr (inr (inr (inr (inl e))))))),
        ne_eqb p 8239 (λ e. k (inr (inr (inr (inr (inr (inr (inl e)))))))),
        ne_eqb p 8287 (λ e. k (inr (inr (inr (inr (inr (inr (inr (inl e))))))))),
        ne_eqb p 12288 (λ e. k (inr (inr (inr (inr (inr (inr (inr (inr e))))))))),
      )

  pub white_range : 9 ≤ p → p ≤ 13 → true ≡ is_white p
  unfolding is_white
  white_range h k = rw (within_yes 9 13 p h k)

  pub white_quads : 8192 ≤ p → p ≤ 8202 → true ≡ is_white p
  unfolding is_white
  white_quads h k = simp (within_yes 8192 8202 p h k, or-true)

-- one of the single code points
pub white_single : (p k : ℕ) → is_white k ≡ true → p ≡ k → true ≡ is_white p
white_single p k h e = rw e (sym h)
