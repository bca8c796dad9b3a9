-- Words as they stand in a source, with their bytes.
use Rattle.std.specs.Prelude.{ℕ, ◌≡◌, List, [], ◌∷◌, Bool, false, Ok}
use Rattle.std.proofs.Math.Seq.{slice}
use Rattle.scan.specs.declared.Place.{Place}
use Rattle.scan.specs.declared.Class.TheVariants.{NameByte, TokenByte}
use Rattle.scan.specs.Scan.{in_class}
use Rattle.words.specs.Words.{token_at}

-- from i to end stands a token, spelled x
pub record TokenAt (s : List ℕ) (i end : ℕ) (x : List ℕ) : Type 0 where
  pub place : Place
  pub quoted : Bool
  pub is : token_at s i ≡ Ok (place, end, quoted)
  pub spelled : slice i end s ≡ x

-- what ends a name or a bare token
abbrev pub Breaks : List ℕ → Type 0
Breaks [] = Unit {0}
Breaks (c ∷ cs) = (in_class NameByte c ≡ false) × (in_class TokenByte c ≡ false)
