-- Line and column of an answer are those of its place's start, of any answer whose place lies in the source. Assumes nothing.
use Prim.Native.Nat.{ℕ, ◌≤◌}
use mathlib.Core.List.{List}
use lib.ListN.{length, get_or}
use Rattle.places.proofs.Meaning.{spotted}
use Rattle.numbers.specs.Numbers.{AnswerSpotted}

pub answer_spotted : (src told : List ℕ) → length src ≤ 65536 → get_or told 1 0 ≤ length src → AnswerSpotted src told
answer_spotted src told short h = spotted src (get_or told 1 0) short h
