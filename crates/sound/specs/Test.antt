-- Document 01, "Tables are sound when", as a test that computes. That it says yes exactly where they are is a theorem (`sound_iff`).
use Rattle.std.specs.Prelude.{ℕ, zero, suc, ◌+◌, ◌*◌, List, [], ◌∷◌, Bool, true, false, ◌||◌, ◌&&◌, leb, ltb, eqb, length, get_or, drop, Option, Some, None}
use Rattle.tables.specs.Below.{below}
use Rattle.tables.specs.Table.{cell, lies}
use Rattle.index.specs.Index.{index_test, size_test, fresh_name}
use Rattle.symbols.specs.Symbols.{knows_test}
use Rattle.tables.specs.Layout.{tokens, precedences, avoided, implicit, epps, unused, rules, productions, symbols, repeats, declared, association, key_name, value, typed, rule_row, place, symbols_from, symbols_to, prec, action, kind_name, tags, tag_place, token_numbers, bodies, width}
use Rattle.grammar.specs.declared.Counts.{Counts}
use Rattle.grammar.specs.declared.Singles.{Singles}
use Rattle.grammar.specs.declared.PosixCounts.{PosixCounts}
use Rattle.grammar.specs.Sound.{Tables, Indexes, lexicon_of, tab}

-- "cells past them are zero"
unfoldable pub zeros : List ℕ → Bool
zeros [] = true
zeros (v ∷ vs) = eqb v 0 && zeros vs

unfoldable pub zeros_from : List ℕ → ℕ → Bool
zeros_from t i = zeros (drop i t)

-- "0 undeclared or absent (its cells zero), else 1": a flag and a place, or two places
unfoldable pub given_test : List ℕ → ℕ → ℕ → ℕ → Bool
given_test src f a b = ((eqb f 0 && eqb a 0) && eqb b 0) || (eqb f 1 && lies src a b)

unfoldable pub action_test : List ℕ → ℕ → ℕ → ℕ → ℕ → ℕ → Bool
action_test src f a b c d = ((((eqb f 0 && eqb a 0) && eqb b 0) && eqb c 0) && eqb d 0) || ((eqb f 1 && lies src a b) && lies src c d)

-- a row of each table: "each place [..] has from ≤ to ≤ source length, kinds and flags are listed values, row numbers lie inside counts"
unfoldable pub token_test : List ℕ → List ℕ → ℕ → Bool
token_test src t r = lies src (cell (width tokens) t r 0) (cell (width tokens) t r 1) && leb (cell (width tokens) t r declared) 1

unfoldable pub prec_test : List ℕ → List ℕ → ℕ → Bool
prec_test src t r =
    (lies src (cell (width precedences) t r 0) (cell (width precedences) t r 1) && leb 1 (cell (width precedences) t r association)) && leb (cell (width precedences) t r association) 3

-- tables 3, 4 and 16, whose rows are w wide
unfoldable pub name_test : List ℕ → ℕ → List ℕ → ℕ → Bool
name_test src w t r = lies src (cell w t r 0) (cell w t r 1)

unfoldable pub epp_test : List ℕ → List ℕ → ℕ → Bool
epp_test src t r =
    (lies src (cell (width epps) t r 0) (cell (width epps) t r 1) && lies src (cell (width epps) t r key_name) (cell (width epps) t r (key_name + 1)))
    && lies src (cell (width epps) t r value) (cell (width epps) t r (value + 1))

-- tables 6, 9 and 17, whose rows are w wide
unfoldable pub kind_test : List ℕ → ℕ → List ℕ → ℕ → Bool
kind_test src w t r = (leb 1 (cell w t r 0) && leb (cell w t r 0) 2) && lies src (cell w t r kind_name) (cell w t r (kind_name + 1))

unfoldable pub rule_test : List ℕ → List ℕ → ℕ → Bool
rule_test src t r =
    lies src (cell (width rules) t r 0) (cell (width rules) t r 1)
    && given_test src (cell (width rules) t r typed) (cell (width rules) t r (typed + 1)) (cell (width rules) t r (typed + 2))

-- n is the count of table 7
unfoldable pub production_test : List ℕ → ℕ → List ℕ → ℕ → Bool
production_test src n t r =
    ((ltb (at rule_row) n && lies src (at place) (at (place + 1))) && given_test src (at prec) (at (prec + 1)) (at (prec + 2)))
    && action_test src (at action) (at (action + 1)) (at (action + 2)) (at (action + 3)) (at (action + 4))
  where
    at : ℕ → ℕ
    at k = cell (width productions) t r k

unfoldable pub repeat_test : List ℕ → List ℕ → ℕ → Bool
repeat_test src t r =
    ((leb 20 (cell (width repeats) t r 0) && leb (cell (width repeats) t r 0) 27) && lies src (cell (width repeats) t r 1) (cell (width repeats) t r 2))
    && lies src (cell (width repeats) t r 3) (cell (width repeats) t r 4)

unfoldable pub tag_test : List ℕ → List ℕ → ℕ → Bool
tag_test src t r =
    lies src (cell (width tags) t r 0) (cell (width tags) t r 1) && lies src (cell (width tags) t r tag_place) (cell (width tags) t r (tag_place + 1))

abbrev any : ℕ → Bool
any r = true

-- the tests in number order
abbrev pub row_test : List ℕ → ℕ → ℕ → List ℕ → ℕ → Bool
row_test src n k t =
    get_or (token_test src t ∷ prec_test src t ∷ name_test src (width avoided) t ∷ name_test src (width implicit) t ∷ epp_test src t ∷ kind_test src (width unused) t ∷ rule_test src t ∷ production_test src n t ∷ kind_test src (width symbols) t ∷ repeat_test src t ∷ tag_test src t ∷ name_test src (width token_numbers) t ∷ kind_test src (width bodies) t ∷ []) k any

abbrev pub width_of : ℕ → ℕ
width_of k = width k

-- a table with n rows: "counts fit, cells past them are zero", its rows, its names, which "in 1 and in 7 are pairwise different"
abbrev pub names_test : Bool → List ℕ → ℕ → ℕ → List ℕ → Bool
names_test true src w n t = below n (fresh_name src w 0 t)
names_test false src w n t = true

unfoldable pub table_test : List ℕ → ℕ → ℕ → ℕ → List ℕ → Bool
table_test src m k n t =
    leb n 4294967295 && (leb (n * width k) (length t) && (zeros_from t (n * width k) && (below n (row_test src m k t) && names_test (eqb k tokens || eqb k rules) src (width k) n t)))

-- "symbol ranges follow one another in production order and fill table 9"
unfoldable pub before : List ℕ → ℕ → ℕ
before t zero = 0
before t (suc r) = cell (width productions) t r symbols_to

unfoldable pub range_test : List ℕ → ℕ → Bool
range_test t r =
    eqb (cell (width productions) t r symbols_from) (before t r) && leb (cell (width productions) t r symbols_from) (cell (width productions) t r symbols_to)

unfoldable pub ranges_test : List ℕ → ℕ → ℕ → Bool
ranges_test t n m = below n (range_test t) && eqb (before t n) m

-- "each place, singles' too"
abbrev pub part_test : List ℕ → Option (ℕ × ℕ) → Bool
part_test src None = true
part_test src (Some (a, b)) = lies src a b

abbrev pub expect_test : List ℕ → Option (ℕ × ℕ × ℕ) → Bool
expect_test src None = true
expect_test src (Some (v, a, b)) = lies src a b

abbrev pub param_test : List ℕ → Option (ℕ × ℕ × ℕ × ℕ) → Bool
param_test src None = true
param_test src (Some (a, b, c, d)) = lies src a b && lies src c d

unfoldable pub singles_test : List ℕ → Singles → Bool
singles_test src g =
    ((((part_test src g.start && expect_test src g.expect) && expect_test src g.expect_rr) && param_test src g.param) && part_test src g.generics) && part_test src g.programs

abbrev pub count_at : Counts → ℕ → ℕ
count_at c k = get_or c.n k 0

-- document 02: an index with a right size that is "exactly what entering its table's rows in order gives"
unfoldable pub index_right : List ℕ → ℕ → ℕ → List ℕ → List ℕ → Bool
index_right src w n t ix = size_test (length ix) (length t) w && index_test src w 0 n t ix

unfoldable pub indexes_test : List ℕ → Counts → List ℕ → List ℕ → List ℕ → List ℕ → Bool
indexes_test src c t1 t7 i1 i7 = index_right src (width tokens) (count_at c tokens) t1 i1 && index_right src (width rules) (count_at c rules) t7 i7

-- document 02, request Five: each symbol has the row number that the search gives
unfoldable pub known_test : List ℕ → Counts → Tables → Bool
known_test src c T = below (count_at c symbols) (knows_test (lexicon_of src c T) T.t9)

-- all ten tables by themselves
unfoldable pub tables_test : List ℕ → Counts → Tables → Bool
tables_test src c T =
    one 0 && (one 1 && (one 2 && (one 3 && (one 4 && (one 5 && (one 6 && (one 7 && (one 8 && one 9))))))))
  where
    one : ℕ → Bool
    one k = table_test src (count_at c rules) k (count_at c k) (tab T k)

-- tables 15 to 17, which the catalogue alone tests; no row of theirs asks for a rule
unfoldable pub posix_test : List ℕ → PosixCounts → List ℕ → List ℕ → List ℕ → Bool
posix_test src p t15 t16 t17 =
    table_test src 0 tags (get_or p.n 0 0) t15 && (table_test src 0 token_numbers (get_or p.n 1 0) t16 && table_test src 0 bodies (get_or p.n 2 0) t17)

-- "the source has at most 65,536 bytes", and all parts
unfoldable pub sound_test : List ℕ → Counts → Singles → Tables → Indexes → Bool
sound_test src c g T X =
    leb (length src) 65536
    && (tables_test src c T && (indexes_test src c T.t1 T.t7 X.tokens X.rules && (known_test src c T && (ranges_test T.t8 (count_at c productions) (count_at c symbols) && singles_test src g))))
