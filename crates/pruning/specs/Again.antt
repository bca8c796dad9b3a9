-- Document 02, request Eight: "the report afterwards is the earlier one limited to rows that stayed, renumbered".
use Rattle.std.specs.Prelude.{ℕ, List, [], ◌∷◌, Bool, true, false, Option}
use Rattle.grammar.specs.declared.Counts.{Counts}
use Rattle.grammar.specs.Sound.{Tables}
use Rattle.reach.specs.Reach.{Grammar, grammar_of}
use Rattle.usage.specs.Report.{Excuses, excuses_of}
use Rattle.closing.specs.Close.{rank}

-- what use and excuses go by, in tables before pruning and after it
abbrev pub grammar_in : List ℕ → Option (ℕ × ℕ) → Counts → Tables → Grammar
grammar_in src start c T = grammar_of src c start T.t1 T.t7 T.t8 T.t9

abbrev pub excuses_in : List ℕ → Counts → Tables → Excuses
excuses_in src c T = excuses_of src c T.t4 T.t6

-- the numbers of rows that stay, as new numbers
unfoldable pub renumbered : (ℕ → Bool) → List ℕ → List ℕ
renumbered stays [] = []
renumbered stays (r ∷ l) = elim (stays r) [ true ↦ rank stays r ∷ renumbered stays l | false ↦ renumbered stays l ]
