-- `validation::is_led`: what is met tells it, for the finder leads to every row.
use Prim.Native.Nat.{ℕ}
use mathlib.Core.Bool.{true}
use Rattle.validation.proofs.Led.{met_known}
use Rattle.validation.proofs.is_led.Goals as goal

pub returns-in-Some : goal.returns-in-Some
returns-in-Some c = met_known _ _ _ _ _ _ _ _ (c.meet.ensures (λ (q : ℕ). true) (λ r l y. c.requires r l)) c.in-Some.is

pub returns-in-None : goal.returns-in-None
returns-in-None c = met_known _ _ _ _ _ _ _ _ (c.meet.ensures (λ (q : ℕ). true) (λ r l y. c.requires r l)) c.in-None.is
