-- A call allows one outcome, whatever bits are lent. Assumes nothing.
use Rattle.std.specs.Prelude.{Option, Result}
use Prim.Native.Nat.{ℕ}
use mathlib.Core.Path.{◌≡◌, sym, ◌∙◌}
use mathlib.Core.List.{List}
use native.Mathlib.Omega.{arith}
use native.Mathlib.Decide.{dec_lt}
use Rattle.grammar.specs.declared.Counts.{Counts}
use Rattle.grammar.specs.declared.Singles.{Singles}
use Rattle.grammar.specs.Sound.{Tables, Indexes}
use Rattle.reach.specs.Reach.{Named}
use Rattle.usage.specs.Report.{Excuses}
use Rattle.walks.specs.declared.NextError.{NextError}
use Rattle.walks.specs.declared.Standing.{Standing}
use Rattle.walks.specs.Walk.{FirstFrom, NoneFrom, Passes, rule_next, token_next, none_next, Advanced, fitting, unfitting}

-- one row is the first,
pub first_one : {P : ℕ → Type 0} {a n q r : ℕ} → FirstFrom P a n q → FirstFrom P a n r → q ≡ r
first_one {P} {a} {n} {q} {r} x y =
    elim (dec_lt q r) [
      | yes d ↦ absurd (y.first q x.from d x.holds)
      | no d ↦ elim (dec_lt r q) [
        | yes e ↦ absurd (x.first r y.from e y.holds)
        | no e ↦ omega arith
      ]
    ]

-- or none is
pub first_none : {P : ℕ → Type 0} {a n r : ℕ} → FirstFrom P a n r → NoneFrom P a n → ⊥
first_none {r = r} x h = h r x.from x.inside x.holds

passes_one : (ws : List ℕ) (x : Excuses) (d e : Named) (s : Standing) (n m : Result (Option (ℕ × ℕ)) NextError) (t u : Standing) → Passes ws x d e s n t → Passes ws x d e s m u → (n ≡ m) × (t ≡ u)
passes_one ws x d e s n m t u (rule_next q f a b) (rule_next r h k l) = let y = first_one f h in (a ∙ rw y (sym k), b ∙ rw y (sym l))
passes_one ws x d e s n m t u (rule_next q f a b) (token_next r o h k l) = absurd (first_none f o)
passes_one ws x d e s n m t u (rule_next q f a b) (none_next o p k l) = absurd (first_none f o)
passes_one ws x d e s n m t u (token_next q o f a b) (rule_next r h k l) = absurd (first_none h o)
passes_one ws x d e s n m t u (token_next q o f a b) (token_next r p h k l) = let y = first_one f h in (a ∙ rw y (sym k), b ∙ rw y (sym l))
passes_one ws x d e s n m t u (token_next q o f a b) (none_next p h k l) = absurd (first_none f h)
passes_one ws x d e s n m t u (none_next o p a b) (rule_next r h k l) = absurd (first_none h o)
passes_one ws x d e s n m t u (none_next o p a b) (token_next r q h k l) = absurd (first_none h p)
passes_one ws x d e s n m t u (none_next o p a b) (none_next q h k l) = (a ∙ sym k, b ∙ sym l)

-- the contract allows one outcome only: answer and record
pub next_one : (src : List ℕ) (c : Counts) (g : Singles) (T : Tables) (X : Indexes) (ws : List ℕ) (s : Standing) (n m : Result (Option (ℕ × ℕ)) NextError) (t u : Standing) → Advanced src c g T X ws s n t → Advanced src c g T X ws s m u → (n ≡ m) × (t ≡ u)
next_one src c g T X ws s n m t u (fitting f p) (fitting h q) = passes_one _ _ _ _ s n m t u p q
next_one src c g T X ws s n m t u (fitting f p) (unfitting h a b) = absurd (h f)
next_one src c g T X ws s n m t u (unfitting f a b) (fitting h q) = absurd (f h)
next_one src c g T X ws s n m t u (unfitting f a b) (unfitting h k l) = (a ∙ sym k, b ∙ sym l)
