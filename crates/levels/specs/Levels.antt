-- Document 01: "2 precedences (place, level, association)". What the levels that a read left have to do with the lines of its source.
use Rattle.std.specs.Prelude.{ℕ, ◌<◌, List, get_or}
use Rattle.scan.specs.Scan.{is_eol}
use Rattle.tables.specs.Table.{cell}
use Rattle.tables.specs.Layout.{precedences, level, width}
use Rattle.lines.specs.Line.{is_feed, Without}
use Rattle.reader.specs.Read.{ReadResult}

-- "2 precedences (place, level, association)": where the token of row r begins, where it ends, and its level
abbrev pub token_from : ReadResult → ℕ → ℕ
token_from o r = cell (width precedences) o.tables.t2 r 0

abbrev pub token_to : ReadResult → ℕ → ℕ
token_to o r = cell (width precedences) o.tables.t2 r 1

abbrev pub level_of : ReadResult → ℕ → ℕ
level_of o r = cell (width precedences) o.tables.t2 r level

-- rows q and r of table 2, the first before the second
pub record TwoRows (o : ReadResult) (q r : ℕ) : Type 0 where
  pub earlier : q < r
  pub inside : r < get_or o.counts.n precedences 0

-- "A line end (LF or CR, each counted)": no LF stands between the tokens of the two rows,
abbrev pub NoFeedBetween : List ℕ → ReadResult → ℕ → ℕ → Type 0
NoFeedBetween src o q r = Without is_feed src (token_to o q) (token_from o r)

-- and no line end at all does
abbrev pub NoLineEndBetween : List ℕ → ReadResult → ℕ → ℕ → Type 0
NoLineEndBetween src o q r = Without is_eol src (token_to o q) (token_from o r)
