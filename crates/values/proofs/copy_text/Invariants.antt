use Prim.Native.Nat.{◌≤◌}
use mathlib.Core.Path.{◌≡◌}
use Rattle.values.specs.Value.{copied}
use Rattle.values.proofs.Laws.{copy_from}
use Rattle.values.proofs.copy_text.Given as goal

abbrev pub invariant-loop-i : goal.invariant-loop-i
invariant-loop-i l =
    (l.k ≤ l.i) × (copy_from l.src l.i l.to l.out l.k ≡ copied l.src l.from l.to l.initial.out)
