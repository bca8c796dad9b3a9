-- `grammar::tell`: each arm is its line of the definitions.
use mathlib.Core.Path.{sym, ap}
use Rattle.grammar.specs.Refusals.{told}
use Rattle.grammar.proofs.tell.Goals as goal

pub returns-in-Fault : goal.returns-in-Fault
returns-in-Fault c = rw c.cause_number.ensures (sym (ap told c.in-Fault.is))

pub returns-in-Repeated : goal.returns-in-Repeated
returns-in-Repeated c = rw c.repeat_number.ensures (sym (ap told c.in-Repeated.is))

pub returns-in-NoRoom : goal.returns-in-NoRoom
returns-in-NoRoom c = sym (ap told c.in-NoRoom.is)

pub returns-in-TooLong : goal.returns-in-TooLong
returns-in-TooLong c = sym (ap told c.in-TooLong.is)

pub returns-in-BadKind : goal.returns-in-BadKind
returns-in-BadKind c = sym (ap told c.in-BadKind.is)

pub returns-in-BadIndex : goal.returns-in-BadIndex
returns-in-BadIndex c = sym (ap told c.in-BadIndex.is)
