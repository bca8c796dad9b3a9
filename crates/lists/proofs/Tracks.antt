-- A list of tokens keeps the index, and another list leaves it. Assumes nothing.
use Prim.Native.Nat.{ℕ}
use mathlib.Core.Path.{◌≡◌, refl, ◌∙◌}
use mathlib.Core.List.{List}
use mathlib.Core.Bool.{Bool, true, false, true≢false}
use Rattle.grammar.specs.declared.Counts.{Counts}
use Rattle.grammar.specs.State.{Tokens, Tracks}

module _ {src : List ℕ} {c : Counts} {t ix jx : List ℕ} {q : Bool} where
  pub tracked : q ≡ true → Tokens src c t jx → Tracks q src c t ix jx
  tracked h x = record { keeps = λ e. x; leaves = λ e. absurd (true≢false (rw h at e)) }

  -- from where a list has come it may go on
  pub tracks_here : Tracks q src c t ix jx → Tracks q src c t jx jx
  tracks_here x = record { keeps = x.keeps; leaves = λ e. refl }

pub untracked : {src : List ℕ} {c : Counts} {t ix : List ℕ} {q : Bool} → q ≡ false → Tracks q src c t ix ix
untracked h = record { keeps = λ e. absurd (true≢false (rw e at h)); leaves = λ e. refl }

pub tracks_on : {src : List ℕ} {q : Bool} {c d : Counts} {t u ix jx kx : List ℕ} → Tracks q src c t ix jx → Tracks q src d u jx kx → Tracks q src d u ix kx
tracks_on x y = record { keeps = y.keeps; leaves = λ e. y.leaves e ∙ x.leaves e }
