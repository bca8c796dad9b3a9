-- Document 01, "Numbers given back": the number, place and table of each refusal.
use Rattle.std.specs.Prelude.{ℕ, List, [], ◌∷◌, true, false, eqb}
use Rattle.grammar.specs.declared.Cause.{Cause}
use Rattle.grammar.specs.declared.Cause.TheVariants.{IntegerEmpty, IntegerTooLarge, IllegalName, IllegalString, IncompleteRule, IncompleteComment, IncompleteAction, MissingColon, MissingRightArrow, NonEmptyProduction, PrematureEnd, NotTerminated, UnknownDeclaration, ReachedEol, ReachedEnd, StringNotOpened, StringLineEnd, StringEscape, StringNotClosed, UnknownSymbol, TagNotClosed, TagMissing, PrologueNotClosed, UnionNotOpened, UnionNotClosed, NotUtf8}
use Rattle.grammar.specs.declared.Refusal.{Refusal}
use Rattle.grammar.specs.declared.Refusal.TheVariants.{Fault, Repeated, NoRoom, TooLong, BadKind, BadIndex}
use Rattle.grammar.specs.declared.Repeat.{Repeat}
use Rattle.grammar.specs.declared.Repeat.TheVariants.{RepeatedPrecedence, RepeatedAvoidInsert, RepeatedImplicitTokens, RepeatedExpect, RepeatedExpectRr, RepeatedStart, RepeatedActiontype, RepeatedEpp}
use Rattle.grammar.specs.declared.Told.{Told}

-- "1 IllegalInteger, 2 IllegalName, 3 IllegalString", and so on; and by document 02, request Four, "16 where no single colon follows", "17 is a line end
-- inside, 18 a backslash before anything but a quote or at the end, 19 a string that isn't closed"; by request Nine, "50 tag not closed on its line, at `<`, or
-- none after `%type`, where it was sought; 51 `%{` not closed, at `%{`; 52 union not opened or not closed, at `%union`"
abbrev pub number_of_cause : Cause → ℕ
number_of_cause IntegerEmpty = 1
number_of_cause IntegerTooLarge = 1
number_of_cause IllegalName = 2
number_of_cause IllegalString = 3
number_of_cause IncompleteRule = 4
number_of_cause IncompleteComment = 5
number_of_cause IncompleteAction = 6
number_of_cause MissingColon = 7
number_of_cause MissingRightArrow = 8
number_of_cause NonEmptyProduction = 9
number_of_cause PrematureEnd = 10
number_of_cause NotTerminated = 11
number_of_cause UnknownDeclaration = 12
number_of_cause ReachedEol = 13
number_of_cause ReachedEnd = 16
number_of_cause StringNotOpened = 14
number_of_cause StringLineEnd = 17
number_of_cause StringEscape = 18
number_of_cause StringNotClosed = 19
number_of_cause UnknownSymbol = 15
number_of_cause TagNotClosed = 50
number_of_cause TagMissing = 50
number_of_cause PrologueNotClosed = 51
number_of_cause UnionNotOpened = 52
number_of_cause UnionNotClosed = 52
number_of_cause NotUtf8 = 40

-- "20 Precedence, 21 AvoidInsert, 22 ImplicitTokens, 23 Expect, 24 ExpectRR, 25 Start, 26 Actiontype, 27 EPP repeated"
abbrev pub number_of_repeat : Repeat → ℕ
number_of_repeat RepeatedPrecedence = 20
number_of_repeat RepeatedAvoidInsert = 21
number_of_repeat RepeatedImplicitTokens = 22
number_of_repeat RepeatedExpect = 23
number_of_repeat RepeatedExpectRr = 24
number_of_repeat RepeatedStart = 25
number_of_repeat RepeatedActiontype = 26
number_of_repeat RepeatedEpp = 27

abbrev pub repeats_in_order : List Repeat
repeats_in_order = RepeatedPrecedence ∷ RepeatedAvoidInsert ∷ RepeatedImplicitTokens ∷ RepeatedExpect ∷ RepeatedExpectRr ∷ RepeatedStart ∷ RepeatedActiontype ∷ []

-- the first of some repeats that has the number
unfoldable pub of_number : ℕ → List Repeat → Repeat
of_number n [] = RepeatedEpp
of_number n (what ∷ rest) = elim (eqb n (number_of_repeat what)) [ true ↦ what | false ↦ of_number n rest ]

-- the repeat that has a number, as a row of table 10 holds it; 27 is what is left
unfoldable pub repeat_of : ℕ → Repeat
repeat_of n = of_number n repeats_in_order

-- "41 too long", "42 no room", "43 bad kind", and document 02's "45, index not a power of two or below twice the rows its table has room for"
abbrev pub number_of : Refusal → ℕ
number_of (Fault c i) = number_of_cause c
number_of (Repeated what a b) = number_of_repeat what
number_of (NoRoom t a b) = 42
number_of TooLong = 41
number_of BadKind = 43
number_of BadIndex = 45

-- where the place begins, and where it ends: "a single offset stands twice"; "41 too long, 43 bad kind: 0..0"
abbrev pub from_of : Refusal → ℕ
from_of (Fault c i) = i
from_of (Repeated what a b) = a
from_of (NoRoom t a b) = a
from_of TooLong = 0
from_of BadKind = 0
from_of BadIndex = 0

abbrev pub to_of : Refusal → ℕ
to_of (Fault c i) = i
to_of (Repeated what a b) = b
to_of (NoRoom t a b) = b
to_of TooLong = 0
to_of BadKind = 0
to_of BadIndex = 0

-- "table number (0 unless 42)"
abbrev pub table_of : Refusal → ℕ
table_of (Fault c i) = 0
table_of (Repeated what a b) = 0
table_of (NoRoom t a b) = t
table_of TooLong = 0
table_of BadKind = 0
table_of BadIndex = 0

abbrev pub told : Refusal → Told
told f = record { number = number_of f; from = from_of f; to = to_of f; table = table_of f }
