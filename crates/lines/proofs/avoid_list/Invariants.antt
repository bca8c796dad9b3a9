use Prim.Native.Nat.{suc, ◌≤◌, ◌-◌}
use mathlib.Core.Path.{◌≡◌}
use lib.ListN.{length}
use Rattle.scan.specs.Loop.{Left}
use Rattle.tables.specs.Layout.{avoided, width}
use Rattle.finder.specs.Finder.{Grown}
use Rattle.grammar.specs.State.{Tokens, Tracked}
use Rattle.grammar.specs.declared.Answer.TheVariants.{Going}
use Rattle.lines.specs.Avoided.{avoid_turn}
use Rattle.lines.proofs.avoid_list.Given as goal

abbrev pub invariant-loop-st : goal.invariant-loop-st
invariant-loop-st l =
    (length l.t1 ≡ length l.initial.t1) × (length l.t ≡ length l.initial.t) × (length l.t10 ≡ length l.initial.t10) × (length l.i1 ≡ length l.initial.i1) × (length l.fx ≡ length l.initial.fx) × Tokens l.src l.st.counts l.t1 l.i1 × Tracked l.src l.k (width avoided) 0 l.st.counts l.t l.fx × Grown l.initial.fx l.fx × (l.initial.st.at ≤ l.st.at) × (l.st.at ≤ length l.src) ×
    Left (avoid_turn l.src l.k l.what) (record { answer = Going; state = l.initial.st; a = l.initial.t1; b = l.initial.t; c = l.initial.t10 }) (suc (length l.src)) (length l.src - l.st.at) (record { answer = Going; state = l.st; a = l.t1; b = l.t; c = l.t10 })

abbrev pub decreases-loop-st : goal.decreases-loop-st
decreases-loop-st l = length l.src - l.st.at
