-- The third demand: "The unused report holds exactly the rules and tokens that no chain of productions from the start rule reaches and no declaration excuses, each once, in
-- order."
use Rattle.std.specs.Prelude.{ℕ, ◌+◌, ◌*◌, ◌≤◌, ◌≡◌, List, length, Result, Ok}
use Rattle.loading.specs.Load.{LoadResult}
use Rattle.reach.specs.Reach.{Grammar, grammar_of, need}
use Rattle.usage.specs.declared.ListingError.{ListingError}
use Rattle.usage.specs.Report.{Excuses, excuses_of}
use Rattle.usage.specs.Standing.{UnusedRows}

-- what use and excuses go by in a reading
abbrev pub grammar_read : List ℕ → LoadResult → Grammar
grammar_read src o = grammar_of src o.counts o.singles.start o.tables.t1 o.tables.t7 o.tables.t8 o.tables.t9

abbrev pub excuses_read : List ℕ → LoadResult → Excuses
excuses_read src o = excuses_of src o.counts o.tables.t4 o.tables.t6

-- words and room enough for every row
pub record Roomy (g : Grammar) (work out : List ℕ) : Type 0 where
  pub words : need g ≤ length work
  pub rows : (g.rules.sort.count + g.tokens.sort.count) * 2 ≤ length out

-- the report has n rows, and they are the unused rows
pub record Exactly (g : Grammar) (x : Excuses) (l : Result ℕ ListingError) (out : List ℕ) : Type 0 where
  pub count : ℕ
  pub listed : l ≡ Ok count
  pub rows : UnusedRows g x count out
