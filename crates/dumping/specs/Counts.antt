-- How much of a table is lent.
use Rattle.std.specs.Prelude.{◌≡◌, ℕ, ◌≤◌, List, length, take}

-- `xs` has `n` first elements, and so has what is lent of it.
abbrev pub Leading : ℕ → List ℕ → Type 0
Leading n xs = (n ≤ length xs) × (n ≡ length (take n xs))
