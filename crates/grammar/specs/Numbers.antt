-- Document 01's number and values for each case of the answers and singles of a reading.
use Rattle.std.specs.Prelude.{ℕ, List, [], ◌∷◌, ◌++◌, Option, Some, None, Result, Ok, Err}
use Rattle.grammar.specs.declared.Singles.{Singles}
use Rattle.grammar.specs.declared.Refusal.{Refusal}
use Rattle.grammar.specs.declared.Answer.{Answer}
use Rattle.grammar.specs.declared.Answer.TheVariants.{Going, Done, Refused}
use Rattle.grammar.specs.Refusals.{number_of, from_of, to_of, table_of}

-- "0 undeclared or absent (its cells zero), else 1", and the place
abbrev pub part_numbers : Option (ℕ × ℕ) → List ℕ
part_numbers None = 0 ∷ 0 ∷ 0 ∷ []
part_numbers (Some (a, b)) = 1 ∷ a ∷ b ∷ []

-- `%expect` and `%expect_rr`: the value and its place
abbrev pub expect_numbers : Option (ℕ × ℕ × ℕ) → List ℕ
expect_numbers None = 0 ∷ 0 ∷ 0 ∷ 0 ∷ []
expect_numbers (Some (v, a, b)) = 1 ∷ v ∷ a ∷ b ∷ []

-- the parse parameter: its name's place and its type's
abbrev pub param_numbers : Option (ℕ × ℕ × ℕ × ℕ) → List ℕ
param_numbers None = 0 ∷ 0 ∷ 0 ∷ 0 ∷ 0 ∷ []
param_numbers (Some (a, b, c, d)) = 1 ∷ a ∷ b ∷ c ∷ d ∷ []

-- "start, `%expect`, `%expect_rr`, parse parameter, generics and programs, each absent or given"
abbrev pub singles_numbers : Singles → List ℕ
singles_numbers g =
    part_numbers g.start ++ expect_numbers g.expect ++ expect_numbers g.expect_rr ++ param_numbers g.param ++ part_numbers g.generics ++ part_numbers g.programs

-- "number, place, table number (0 unless 42)" of a refusal
abbrev pub refusal_numbers : Refusal → List ℕ
refusal_numbers f = number_of f ∷ from_of f ∷ to_of f ∷ table_of f ∷ []

-- a step that goes on or is done refuses nothing
abbrev pub answer_numbers : Answer → List ℕ
answer_numbers Going = 0 ∷ 0 ∷ 0 ∷ 0 ∷ []
answer_numbers Done = 0 ∷ 0 ∷ 0 ∷ 0 ∷ []
answer_numbers (Refused f) = refusal_numbers f

-- spacing: 0, its end and the line ends it counted, or its refusal
abbrev pub gap_numbers : Result (ℕ × ℕ) Refusal → List ℕ
gap_numbers (Ok (i, n)) = 0 ∷ i ∷ n ∷ []
gap_numbers (Err f) = refusal_numbers f
