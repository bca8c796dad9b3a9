-- `validation::fault_row`: each arm is its line of the definition.
use mathlib.Core.Path.{sym, ap}
use Rattle.validation.specs.Faults.{fault_cells}
use Rattle.validation.proofs.fault_row.Goals as goal

pub returns-in-NoStartRule : goal.returns-in-NoStartRule
returns-in-NoStartRule c = sym (ap fault_cells c.in-NoStartRule.is)

pub returns-in-InvalidStartRule : goal.returns-in-InvalidStartRule
returns-in-InvalidStartRule c = sym (ap fault_cells c.in-InvalidStartRule.is)

pub returns-in-UnknownRuleRef : goal.returns-in-UnknownRuleRef
returns-in-UnknownRuleRef c = sym (ap fault_cells c.in-UnknownRuleRef.is)

pub returns-in-UnknownTokenRef : goal.returns-in-UnknownTokenRef
returns-in-UnknownTokenRef c = sym (ap fault_cells c.in-UnknownTokenRef.is)

pub returns-in-UnknownPrecToken : goal.returns-in-UnknownPrecToken
returns-in-UnknownPrecToken c = sym (ap fault_cells c.in-UnknownPrecToken.is)

pub returns-in-NoPrecForToken : goal.returns-in-NoPrecForToken
returns-in-NoPrecForToken c = sym (ap fault_cells c.in-NoPrecForToken.is)

pub returns-in-UnknownEppKey : goal.returns-in-UnknownEppKey
returns-in-UnknownEppKey c = sym (ap fault_cells c.in-UnknownEppKey.is)
