-- `scan::eight_in`: the eight answers are the definition's.
use borrow.Author.Rules.{rules}
use Rattle.scan.proofs.Runs.{eight_few, eight_all}
use Rattle.scan.proofs.eight_in.Goals as goal

pub returns-then-s-i-lt8 : goal.returns-then-s-i-lt8
returns-then-s-i-lt8 c = search (eight_few, rules)

pub returns : goal.returns
returns c =
    eight_all _ _ _ c.if-s-i-lt8.false _ _ _ _ _ _ _ _
    c.in_class.ensures
    c.in_class-2.ensures
    c.in_class-3.ensures
    c.in_class-4.ensures
    c.in_class-5.ensures
    c.in_class-6.ensures
    c.in_class-7.ensures
    c.in_class-8.ensures
