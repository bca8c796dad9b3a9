-- `grammar::cause_number`: each arm is its line of the definition.
use mathlib.Core.Path.{sym, ap}
use Rattle.grammar.specs.Refusals.{number_of_cause}
use Rattle.grammar.proofs.cause_number.Goals as goal

pub returns-in-IntegerEmpty : goal.returns-in-IntegerEmpty
returns-in-IntegerEmpty c = sym (ap number_of_cause c.in-IntegerEmpty.is)

pub returns-in-IntegerTooLarge : goal.returns-in-IntegerTooLarge
returns-in-IntegerTooLarge c = sym (ap number_of_cause c.in-IntegerTooLarge.is)

pub returns-in-IllegalName : goal.returns-in-IllegalName
returns-in-IllegalName c = sym (ap number_of_cause c.in-IllegalName.is)

pub returns-in-IllegalString : goal.returns-in-IllegalString
returns-in-IllegalString c = sym (ap number_of_cause c.in-IllegalString.is)

pub returns-in-IncompleteRule : goal.returns-in-IncompleteRule
returns-in-IncompleteRule c = sym (ap number_of_cause c.in-IncompleteRule.is)

pub returns-in-IncompleteComment : goal.returns-in-IncompleteComment
returns-in-IncompleteComment c = sym (ap number_of_cause c.in-IncompleteComment.is)

pub returns-in-IncompleteAction : goal.returns-in-IncompleteAction
returns-in-IncompleteAction c = sym (ap number_of_cause c.in-IncompleteAction.is)

pub returns-in-MissingColon : goal.returns-in-MissingColon
returns-in-MissingColon c = sym (ap number_of_cause c.in-MissingColon.is)

pub returns-in-MissingRightArrow : goal.returns-in-MissingRightArrow
returns-in-MissingRightArrow c = sym (ap number_of_cause c.in-MissingRightArrow.is)

pub returns-in-NonEmptyProduction : goal.returns-in-NonEmptyProduction
returns-in-NonEmptyProduction c = sym (ap number_of_cause c.in-NonEmptyProduction.is)

pub returns-in-PrematureEnd : goal.returns-in-PrematureEnd
returns-in-PrematureEnd c = sym (ap number_of_cause c.in-PrematureEnd.is)

pub returns-in-NotTerminated : goal.returns-in-NotTerminated
returns-in-NotTerminated c = sym (ap number_of_cause c.in-NotTerminated.is)

pub returns-in-UnknownDeclaration : goal.returns-in-UnknownDeclaration
returns-in-UnknownDeclaration c = sym (ap number_of_cause c.in-UnknownDeclaration.is)

pub returns-in-ReachedEol : goal.returns-in-ReachedEol
returns-in-ReachedEol c = sym (ap number_of_cause c.in-ReachedEol.is)

pub returns-in-ReachedEnd : goal.returns-in-ReachedEnd
returns-in-ReachedEnd c = sym (ap number_of_cause c.in-ReachedEnd.is)

pub returns-in-StringNotOpened : goal.returns-in-StringNotOpened
returns-in-StringNotOpened c = sym (ap number_of_cause c.in-StringNotOpened.is)

pub returns-in-StringLineEnd : goal.returns-in-StringLineEnd
returns-in-StringLineEnd c = sym (ap number_of_cause c.in-StringLineEnd.is)

pub returns-in-StringEscape : goal.returns-in-StringEscape
returns-in-StringEscape c = sym (ap number_of_cause c.in-StringEscape.is)

pub returns-in-StringNotClosed : goal.returns-in-StringNotClosed
returns-in-StringNotClosed c = sym (ap number_of_cause c.in-StringNotClosed.is)

pub returns-in-UnknownSymbol : goal.returns-in-UnknownSymbol
returns-in-UnknownSymbol c = sym (ap number_of_cause c.in-UnknownSymbol.is)

pub returns-in-TagNotClosed : goal.returns-in-TagNotClosed
returns-in-TagNotClosed c = sym (ap number_of_cause c.in-TagNotClosed.is)

pub returns-in-TagMissing : goal.returns-in-TagMissing
returns-in-TagMissing c = sym (ap number_of_cause c.in-TagMissing.is)

pub returns-in-PrologueNotClosed : goal.returns-in-PrologueNotClosed
returns-in-PrologueNotClosed c = sym (ap number_of_cause c.in-PrologueNotClosed.is)

pub returns-in-UnionNotOpened : goal.returns-in-UnionNotOpened
returns-in-UnionNotOpened c = sym (ap number_of_cause c.in-UnionNotOpened.is)

pub returns-in-UnionNotClosed : goal.returns-in-UnionNotClosed
returns-in-UnionNotClosed c = sym (ap number_of_cause c.in-UnionNotClosed.is)

pub returns-in-NotUtf8 : goal.returns-in-NotUtf8
returns-in-NotUtf8 c = sym (ap number_of_cause c.in-NotUtf8.is)
