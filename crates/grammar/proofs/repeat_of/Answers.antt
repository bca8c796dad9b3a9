-- `grammar::repeat_of`: each arm is its number of the definition, and the last one what is left.
use Rattle.grammar.specs.declared.Repeat.TheVariants.{RepeatedPrecedence, RepeatedAvoidInsert, RepeatedImplicitTokens, RepeatedExpect, RepeatedExpectRr, RepeatedStart, RepeatedActiontype}
use Rattle.grammar.proofs.Repeats.{repeat_here, repeat_else}
use Rattle.grammar.proofs.repeat_of.Goals as goal

pub returns-in-20 : goal.returns-in-20
returns-in-20 c = repeat_here _ RepeatedPrecedence c.in-20.is

pub returns-in-21 : goal.returns-in-21
returns-in-21 c = repeat_here _ RepeatedAvoidInsert c.in-21.is

pub returns-in-22 : goal.returns-in-22
returns-in-22 c = repeat_here _ RepeatedImplicitTokens c.in-22.is

pub returns-in-23 : goal.returns-in-23
returns-in-23 c = repeat_here _ RepeatedExpect c.in-23.is

pub returns-in-24 : goal.returns-in-24
returns-in-24 c = repeat_here _ RepeatedExpectRr c.in-24.is

pub returns-in-25 : goal.returns-in-25
returns-in-25 c = repeat_here _ RepeatedStart c.in-25.is

pub returns-in-26 : goal.returns-in-26
returns-in-26 c = repeat_here _ RepeatedActiontype c.in-26.is

pub returns-in_default : goal.returns-in_default
returns-in_default c =
    let r = c.in_default.in_default-own.rest in
    repeat_else _ r.0.0.0.0.0.0.1 r.0.0.0.0.0.1 r.0.0.0.0.1 r.0.0.0.1 r.0.0.1 r.0.1 r.1
