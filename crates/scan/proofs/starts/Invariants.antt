use Prim.Native.Nat.{◌+◌}
use mathlib.Core.Path.{◌≡◌}
use mir.Syntax.{w64}
use mir.Val.{Fits}
use Rattle.scan.specs.Scan.{starts_at}
use Rattle.scan.proofs.Bytes.{starts_from}
use Rattle.scan.proofs.starts.Given as goal

abbrev pub invariant-loop-k : goal.invariant-loop-k
invariant-loop-k l = Fits w64 (l.at + l.k) × (starts_from l.word l.k l.s (l.at + l.k) ≡ starts_at l.word l.s l.at)
