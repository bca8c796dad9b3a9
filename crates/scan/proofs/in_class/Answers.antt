-- `scan::in_class`: each arm is its line of the definition.
use Rattle.scan.specs.Scan.{in_class}
use Rattle.scan.proofs.in_class.Goals as goal

pub returns-in-NameStart : goal.returns-in-NameStart
unfolding in_class
returns-in-NameStart c = rw (c.is_letter.ensures, c.in-NameStart.is)

pub returns-in-NameByte : goal.returns-in-NameByte
unfolding in_class
returns-in-NameByte c = rw (c.is_letter.ensures, c.is_digit.ensures, c.in-NameByte.is)

pub returns-in-TokenStart : goal.returns-in-TokenStart
unfolding in_class
returns-in-TokenStart c = rw (c.is_letter.ensures, c.in-TokenStart.is)

pub returns-in-TokenByte : goal.returns-in-TokenByte
unfolding in_class
returns-in-TokenByte c = rw (c.is_letter.ensures, c.is_digit-in-TokenByte.ensures, c.in-TokenByte.is)

pub returns-in-Digit : goal.returns-in-Digit
unfolding in_class
returns-in-Digit c = rw (c.is_digit-in-Digit.ensures, c.in-Digit.is)

pub returns-in-LineByte : goal.returns-in-LineByte
unfolding in_class
returns-in-LineByte c = rw (c.is_eol.ensures, c.in-LineByte.is)

pub returns-in-Unquoted : goal.returns-in-Unquoted
unfolding in_class
returns-in-Unquoted c = rw c.in-Unquoted.is

pub returns-in-CommentByte : goal.returns-in-CommentByte
unfolding in_class
returns-in-CommentByte c = rw (c.is_eol-in-CommentByte.ensures, c.in-CommentByte.is)

pub returns-in-TagByte : goal.returns-in-TagByte
unfolding in_class
returns-in-TagByte c = rw (c.is_eol-in-TagByte.ensures, c.in-TagByte.is)

pub returns-in-CodeByte : goal.returns-in-CodeByte
unfolding in_class
returns-in-CodeByte c = rw (c.is_eol-in-CodeByte.ensures, c.in-CodeByte.is)

pub returns-in-TextByte : goal.returns-in-TextByte
unfolding in_class
returns-in-TextByte c = rw c.in-TextByte.is

pub returns-in-Graphic : goal.returns-in-Graphic
unfolding in_class
returns-in-Graphic c = rw c.in-Graphic.is

pub returns-in-Ascii : goal.returns-in-Ascii
unfolding in_class
returns-in-Ascii c = rw c.in-Ascii.is
