-- `numbers::of_flaw`: each arm is its line of the definition.
use mathlib.Core.Path.{sym, ap}
use mathlib.Core.List.{[], ◌∷◌, ◌++◌}
use Rattle.validation.specs.Faults.{flaw_numbers}
use Rattle.numbers.proofs.of_flaw.Goals as goal

pub returns-in-NoStartRule : goal.returns-in-NoStartRule
returns-in-NoStartRule c = sym (ap (λ x. flaw_numbers x ++ (0 ∷ [])) c.in-NoStartRule.is)

pub returns-in-InvalidStartRule : goal.returns-in-InvalidStartRule
returns-in-InvalidStartRule c = sym (ap (λ x. flaw_numbers x ++ (0 ∷ [])) c.in-InvalidStartRule.is)

pub returns-in-UnknownRuleRef : goal.returns-in-UnknownRuleRef
returns-in-UnknownRuleRef c = sym (ap (λ x. flaw_numbers x ++ (0 ∷ [])) c.in-UnknownRuleRef.is)

pub returns-in-UnknownTokenRef : goal.returns-in-UnknownTokenRef
returns-in-UnknownTokenRef c = sym (ap (λ x. flaw_numbers x ++ (0 ∷ [])) c.in-UnknownTokenRef.is)

pub returns-in-UnknownPrecToken : goal.returns-in-UnknownPrecToken
returns-in-UnknownPrecToken c = sym (ap (λ x. flaw_numbers x ++ (0 ∷ [])) c.in-UnknownPrecToken.is)

pub returns-in-NoPrecForToken : goal.returns-in-NoPrecForToken
returns-in-NoPrecForToken c = sym (ap (λ x. flaw_numbers x ++ (0 ∷ [])) c.in-NoPrecForToken.is)

pub returns-in-UnknownEppKey : goal.returns-in-UnknownEppKey
returns-in-UnknownEppKey c = sym (ap (λ x. flaw_numbers x ++ (0 ∷ [])) c.in-UnknownEppKey.is)
