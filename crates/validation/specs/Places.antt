-- Where faults lie.
use Rattle.std.specs.Prelude.{ℕ, List, [], ◌∷◌, get_or}
use Rattle.grammar.specs.State.{Passed}
use Rattle.validation.specs.declared.Flaw.{Flaw}
use Rattle.validation.specs.Faults.{fault_place}

-- a fault's place lies in the source
abbrev pub FaultInside : List ℕ → Flaw → Type 0
FaultInside src f = Passed src (get_or (fault_place f) 0 0) (get_or (fault_place f) 1 0)

-- and so do those of all
abbrev pub FaultsInside : List ℕ → List Flaw → Type 0
FaultsInside src [] = Unit {0}
FaultsInside src (f ∷ fs) = FaultInside src f × FaultsInside src fs
