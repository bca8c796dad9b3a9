-- What the rows and the parse parameter that a read left are in its source.
use Rattle.std.specs.Prelude.{ℕ, List}
use Rattle.reader.specs.Read.{ReadResult}
use Rattle.meaning.specs.Made.{Made}

abbrev pub MadeOf : List ℕ → ℕ → ReadResult → Type 0
MadeOf src kind o = Made src kind o.counts o.singles.param o.tables.t7 o.tables.t8 o.tables.t9
