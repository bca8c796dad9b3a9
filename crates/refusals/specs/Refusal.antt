-- Document 01, "Numbers given back": what a refusal of a read tells, and the repeats that a read leaves.
use Rattle.std.specs.Prelude.{ℕ, ◌+◌, ◌≤◌, ◌<◌, ◌≡◌, List, ◌⊎◌, get_or}
use Rattle.tables.specs.Table.{cell}
use Rattle.tables.specs.Rows.{Rows}
use Rattle.tables.specs.Layout.{repeats, first_place, width}
use Rattle.grammar.specs.declared.Refusal.{Refusal}
use Rattle.grammar.specs.declared.Repeat.{Repeat}
use Rattle.grammar.specs.Refusals.{number_of_repeat, number_of, from_of, to_of, table_of}
use Rattle.grammar.specs.State.{Passed}
use Rattle.grammar.specs.Sound.{RepeatRow}
use Rattle.reader.specs.Read.{ReadResult}
use Rattle.refusals.specs.Steps.{ReadTable}

-- read's own: "1 IllegalInteger" to "15 UnknownSymbol", 16 to 19 by document 02, request Four, "20 Precedence" to "27 EPP repeated", "40 not UTF-8" to "43 bad kind", document 02's 45, and of kind 4 "50 tag not closed" to "52 union not opened or not closed"
abbrev pub ReadNumber : ℕ → ℕ → Type 0
ReadNumber kind n = ((1 ≤ n) × (n ≤ 19)) ⊎ (((20 ≤ n) × (n ≤ 27)) ⊎ (((40 ≤ n) × (n ≤ 43)) ⊎ ((n ≡ 45) ⊎ ((kind ≡ 4) × (50 ≤ n) × (n ≤ 52)))))

-- that of a cause, which a refusal gives together with one place
abbrev pub CauseNumber : ℕ → Type 0
CauseNumber n = ((1 ≤ n) × (n ≤ 19)) ⊎ ((n ≡ 40) ⊎ ((50 ≤ n) × (n ≤ 52)))

-- "number, place, table number (0 unless 42)": a place in the source, and 42's table is one of the ten, or in kind 4 of 15 to 17
pub record Documented (src : List ℕ) (kind : ℕ) (f : Refusal) : Type 0 where
  pub number : ReadNumber kind (number_of f)
  pub place : Passed src (from_of f) (to_of f)
  pub other : (number_of f ≡ 42 → ⊥) → table_of f ≡ 0
  pub full : number_of f ≡ 42 → ReadTable (kind ≡ 4) (table_of f)

-- "10 repeats (number, first place, repeated place)", as a read left them: whole rows, each of a repeat, "cells past a count are zero"
abbrev pub RepeatsListed : List ℕ → ReadResult → Type 0
RepeatsListed src o = Rows (RepeatRow src) (λ x y. Unit) (width repeats) (get_or o.counts.n repeats 0) o.tables.t10

-- "With repeats only, the number is the first repeat's": the first row of table 10 has this number and, as its first place, this one
pub record FirstRepeat (what : Repeat) (a b : ℕ) (o : ReadResult) : Type 0 where
  pub some : 0 < get_or o.counts.n repeats 0
  pub number : cell (width repeats) o.tables.t10 0 0 ≡ number_of_repeat what
  pub from : cell (width repeats) o.tables.t10 0 first_place ≡ a
  pub to : cell (width repeats) o.tables.t10 0 (first_place + 1) ≡ b
