use Prim.Native.Nat.{suc, ◌≤◌, ◌-◌}
use mathlib.Core.Path.{◌≡◌}
use lib.ListN.{length}
use Rattle.scan.specs.Loop.{Left}
use Rattle.grammar.specs.State.{Tracks}
use Rattle.grammar.specs.declared.Answer.TheVariants.{Going}
use Rattle.lists.specs.Lists.{list_turn}
use Rattle.lists.specs.Written.{of_tokens}
use Rattle.lists.proofs.percent_list.Given as goal

abbrev pub invariant-loop-what : goal.invariant-loop-what
invariant-loop-what l =
    (length l.t ≡ length l.initial.t) × (length l.t15 ≡ length l.initial.t15) × (length l.t16 ≡ length l.initial.t16) × (length l.ix ≡ length l.initial.ix) × Tracks (of_tokens l.what) l.src l.st.counts l.t l.initial.ix l.ix × (l.initial.st.at ≤ l.st.at) × (l.st.at ≤ length l.src) ×
    Left (list_turn l.src l.what l.tag) (record { answer = Going; state = l.initial.st; a = l.initial.t; b = l.initial.t15; c = l.initial.t16 }) (suc (length l.src)) (length l.src - l.st.at) (record { answer = Going; state = l.st; a = l.t; b = l.t15; c = l.t16 })

abbrev pub decreases-loop-what : goal.decreases-loop-what
decreases-loop-what l = length l.src - l.st.at
