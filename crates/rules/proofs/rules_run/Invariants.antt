use Prim.Native.Nat.{suc, ◌≤◌, ◌-◌}
use mathlib.Core.Path.{◌≡◌}
use lib.ListN.{length}
use Rattle.scan.specs.Loop.{Left}
use Rattle.grammar.specs.State.{Tokens, Rules}
use Rattle.grammar.specs.declared.Answer.TheVariants.{Going}
use Rattle.rules.specs.Rules.{rules_turn}
use Rattle.rules.proofs.rules_run.Given as goal

abbrev pub invariant-loop-st : goal.invariant-loop-st
invariant-loop-st l =
    (length l.t1 ≡ length l.initial.t1) × (length l.t7 ≡ length l.initial.t7) × (length l.t8 ≡ length l.initial.t8) × (length l.t9 ≡ length l.initial.t9) × (length l.i1 ≡ length l.initial.i1) × (length l.i7 ≡ length l.initial.i7) × Tokens l.src l.st.counts l.t1 l.i1 × Rules l.src l.st.counts l.t7 l.i7 × (l.initial.st.at ≤ l.st.at) × (l.st.at ≤ length l.src) ×
    Left (rules_turn l.src) (record { answer = Going; state = l.initial.st; t1 = l.initial.t1; t7 = l.initial.t7; t8 = l.initial.t8; t9 = l.initial.t9 }) (suc (length l.src)) (length l.src - l.st.at) (record { answer = Going; state = l.st; t1 = l.t1; t7 = l.t7; t8 = l.t8; t9 = l.t9 })

abbrev pub decreases-loop-st : goal.decreases-loop-st
decreases-loop-st l = length l.src - l.st.at
