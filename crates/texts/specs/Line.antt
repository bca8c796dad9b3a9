-- Document 01: the text to the line end of `%actiontype`, `%parse-param` and `%parse-generics`.
use Rattle.std.specs.Prelude.{ℕ, List}
use Rattle.scan.specs.declared.Class.TheVariants.{LineByte}
use Rattle.scan.specs.Scan.{in_class, run_end_at, Runs}

-- "then an untrimmed one to the line end": the next line end, or the source's end
unfoldable pub line_end_at : List ℕ → ℕ → ℕ
line_end_at s i = run_end_at (in_class LineByte) s i

-- Places, and without a scan: no byte of the text is a line end, and the next byte is one.
abbrev pub Lined : List ℕ → ℕ → ℕ → Type 0
Lined s from to = Runs (in_class LineByte) s from to
