use Rattle.scan.specs.Loop.{Left}
use Rattle.grammar.specs.State.{Tokens}
use Rattle.grammar.specs.declared.Answer.TheVariants.{Going}
use Rattle.declarations.specs.Declarations.{Givens, decl_turn}
use Prim.Native.Nat.{suc, ◌≤◌, ◌-◌}
use mathlib.Core.Path.{◌≡◌}
use lib.ListN.{length}
use Rattle.declarations.proofs.declaration_run.Given as goal

abbrev pub invariant-loop-st : goal.invariant-loop-st
invariant-loop-st l =
    (length l.t1 ≡ length l.initial.t1) × (length l.t2 ≡ length l.initial.t2) × (length l.t3 ≡ length l.initial.t3) × (length l.t4 ≡ length l.initial.t4) × (length l.t5 ≡ length l.initial.t5) × (length l.t6 ≡ length l.initial.t6) × (length l.t10 ≡ length l.initial.t10) × (length l.t15 ≡ length l.initial.t15) × (length l.t16 ≡ length l.initial.t16) × (length l.t17 ≡ length l.initial.t17) × (length l.i1 ≡ length l.initial.i1) × (length l.fx ≡ length l.initial.fx) × Tokens l.src l.st.counts l.t1 l.i1 × Givens l.src l.st.counts l.t2 l.t3 l.t4 l.t5 l.fx × (l.initial.st.at ≤ l.st.at) × (l.st.at ≤ length l.src) ×
    Left (decl_turn l.src) (record { answer = Going; state = l.initial.st; tables = record { t1 = l.initial.t1; t2 = l.initial.t2; t3 = l.initial.t3; t4 = l.initial.t4; t5 = l.initial.t5; t6 = l.initial.t6; t10 = l.initial.t10; t15 = l.initial.t15; t16 = l.initial.t16; t17 = l.initial.t17 } }) (suc (length l.src)) (length l.src - l.st.at) (record { answer = Going; state = l.st; tables = record { t1 = l.t1; t2 = l.t2; t3 = l.t3; t4 = l.t4; t5 = l.t5; t6 = l.t6; t10 = l.t10; t15 = l.t15; t16 = l.t16; t17 = l.t17 } })

abbrev pub decreases-loop-st : goal.decreases-loop-st
decreases-loop-st l = length l.src - l.st.at
