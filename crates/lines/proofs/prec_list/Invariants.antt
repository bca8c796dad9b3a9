use Prim.Native.Nat.{suc, ◌≤◌, ◌-◌}
use mathlib.Core.Path.{◌≡◌}
use lib.ListN.{length}
use Rattle.scan.specs.Loop.{Left}
use Rattle.tables.specs.Layout.{precedences, width}
use Rattle.finder.specs.Finder.{Grown}
use Rattle.grammar.specs.State.{Tracked}
use Rattle.grammar.specs.declared.Answer.TheVariants.{Going}
use Rattle.lines.specs.Precedences.{prec_turn}
use Rattle.lines.proofs.prec_list.Given as goal

abbrev pub invariant-loop-tag : goal.invariant-loop-tag
invariant-loop-tag l =
    (length l.t2 ≡ length l.initial.t2) × (length l.t10 ≡ length l.initial.t10) × (length l.t15 ≡ length l.initial.t15) × (length l.t16 ≡ length l.initial.t16) × (length l.fx ≡ length l.initial.fx) × Tracked l.src precedences (width precedences) 0 l.st.counts l.t2 l.fx × Grown l.initial.fx l.fx × (l.initial.st.at ≤ l.st.at) × (l.st.at ≤ length l.src) ×
    Left (prec_turn l.src l.level l.assoc l.tag) (record { answer = Going; state = l.initial.st; a = l.initial.t2; b = l.initial.t10; c = l.initial.t15; d = l.initial.t16 }) (suc (length l.src)) (length l.src - l.st.at) (record { answer = Going; state = l.st; a = l.t2; b = l.t10; c = l.t15; d = l.t16 })

abbrev pub decreases-loop-tag : goal.decreases-loop-tag
decreases-loop-tag l = length l.src - l.st.at
