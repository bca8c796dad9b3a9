-- Document 01: "A read's answer holds number, place, table number (0 unless 42)".
use Rattle.std.specs.Prelude.{ℕ, List, [], ◌∷◌, get_or}
use Rattle.places.specs.declared.Spot.{Spot}
use Rattle.places.specs.Places.{Spotted, spot_at}
use Rattle.grammar.specs.declared.Told.{Told}

-- number, place and table number as a list
abbrev pub told_numbers : Told → List ℕ
told_numbers t = t.number ∷ t.from ∷ t.to ∷ t.table ∷ []

-- "a line and a byte column, both from 1, with the start of every answer's place" (document 02, request Ten): of an answer whose numbers begin with its number and its place
abbrev pub answer_spot : List ℕ → List ℕ → Spot
answer_spot src told = spot_at src (get_or told 1 0)

-- they are what the lines of the source say, without a scan
abbrev pub AnswerSpotted : List ℕ → List ℕ → Type 0
AnswerSpotted src told = Spotted src (get_or told 1 0) (answer_spot src told)
