use mathlib.Core.Path.{◌≡◌}
use Rattle.scan.specs.Scan.{in_class, run_end_at}
use Rattle.scan.proofs.run_end.Given as goal

abbrev pub invariant-loop-i : goal.invariant-loop-i
invariant-loop-i l = run_end_at (in_class l.class) l.s l.i ≡ run_end_at (in_class l.class) l.s l.from
