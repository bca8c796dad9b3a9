-- Document 01, "Tables are sound when", as a record of named parts; and the same of a reading under way.
use Rattle.std.specs.Prelude.{ℕ, ◌+◌, ◌*◌, ◌≤◌, ◌<◌, ◌≡◌, List, [], ◌∷◌, false, ◌⊎◌, length, get_or, set, Option, Some, None, Ok}
use Rattle.words.specs.Strings.{string_at}
use Rattle.tables.specs.Table.{same_part, zeroed}
use Rattle.tables.specs.Rows.{Clean, row_at, Rows, Chained}
use Rattle.index.specs.Index.{Indexed, Sized}
use Rattle.symbols.specs.Symbols.{Lexicon, lexicon, Knows}
use Rattle.tables.specs.Layout.{tokens, rules, productions, symbols, declared, level, association, key_name, value, typed, rule_row, place, symbols_from, symbols_to, prec, action, kind_name, posix_from, tag_place, body_place, width}
use Rattle.grammar.specs.declared.Counts.{Counts}
use Rattle.grammar.specs.declared.PosixCounts.{PosixCounts}
use Rattle.grammar.specs.declared.Singles.{Singles}
use Rattle.grammar.specs.declared.State.{State}
use Rattle.grammar.specs.State.{Passed, count}

-- the ten tables, and by number
pub record Tables : Type 0 where
  pub t1 : List ℕ
  pub t2 : List ℕ
  pub t3 : List ℕ
  pub t4 : List ℕ
  pub t5 : List ℕ
  pub t6 : List ℕ
  pub t7 : List ℕ
  pub t8 : List ℕ
  pub t9 : List ℕ
  pub t10 : List ℕ

abbrev pub tab : Tables → ℕ → List ℕ
tab T k = get_or (T.t1 ∷ T.t2 ∷ T.t3 ∷ T.t4 ∷ T.t5 ∷ T.t6 ∷ T.t7 ∷ T.t8 ∷ T.t9 ∷ T.t10 ∷ []) k []

-- the thirteen that a read fills: behind the ten those of kind 4; by index, and with one of them replaced
pub record AllTables : Type 0 where
  pub t1 : List ℕ
  pub t2 : List ℕ
  pub t3 : List ℕ
  pub t4 : List ℕ
  pub t5 : List ℕ
  pub t6 : List ℕ
  pub t7 : List ℕ
  pub t8 : List ℕ
  pub t9 : List ℕ
  pub t10 : List ℕ
  pub t15 : List ℕ
  pub t16 : List ℕ
  pub t17 : List ℕ

abbrev pub ten_of : AllTables → Tables
ten_of T = record { t1 = T.t1; t2 = T.t2; t3 = T.t3; t4 = T.t4; t5 = T.t5; t6 = T.t6; t7 = T.t7; t8 = T.t8; t9 = T.t9; t10 = T.t10 }

abbrev pub list_of : AllTables → List (List ℕ)
list_of T = T.t1 ∷ T.t2 ∷ T.t3 ∷ T.t4 ∷ T.t5 ∷ T.t6 ∷ T.t7 ∷ T.t8 ∷ T.t9 ∷ T.t10 ∷ T.t15 ∷ T.t16 ∷ T.t17 ∷ []

abbrev pub of_list : List (List ℕ) → AllTables
of_list l = record { t1 = get_or l 0 []; t2 = get_or l 1 []; t3 = get_or l 2 []; t4 = get_or l 3 []; t5 = get_or l 4 []; t6 = get_or l 5 []; t7 = get_or l 6 []; t8 = get_or l 7 []; t9 = get_or l 8 []; t10 = get_or l 9 []; t15 = get_or l 10 []; t16 = get_or l 11 []; t17 = get_or l 12 [] }

abbrev pub cells_of : AllTables → ℕ → List ℕ
cells_of T k = get_or (list_of T) k []

abbrev pub set_tab : AllTables → ℕ → List ℕ → AllTables
set_tab T k x = of_list (set (list_of T) k x)

abbrev pub zero_all : AllTables → AllTables
zero_all T = record { t1 = zeroed T.t1; t2 = zeroed T.t2; t3 = zeroed T.t3; t4 = zeroed T.t4; t5 = zeroed T.t5; t6 = zeroed T.t6; t7 = zeroed T.t7; t8 = zeroed T.t8; t9 = zeroed T.t9; t10 = zeroed T.t10; t15 = zeroed T.t15; t16 = zeroed T.t16; t17 = zeroed T.t17 }

-- the names that symbols are known by
abbrev pub lexicon_of : List ℕ → Counts → Tables → Lexicon
lexicon_of src c T = lexicon src T.t1 (get_or c.n tokens 0) T.t7 (get_or c.n rules 0)

-- document 02, request Three: "a lent index for tokens and one for rules"
pub record Indexes : Type 0 where
  pub tokens : List ℕ
  pub rules : List ℕ

-- the indexes have right sizes, and hold the names of tables 1 and 7
pub record SoundIndexes (src : List ℕ) (c : Counts) (T : Tables) (X : Indexes) : Type 0 where
  pub token_size : Sized (length X.tokens) (length T.t1) (width tokens)
  pub rule_size : Sized (length X.rules) (length T.t7) (width rules)
  pub tokens : Indexed src (width tokens) 0 (get_or c.n tokens 0) T.t1 X.tokens
  pub rules : Indexed src (width rules) 0 (get_or c.n rules 0) T.t7 X.rules

-- "0 undeclared or absent (its cells zero), else 1": a flag and a place
abbrev pub Given : List ℕ → ℕ → ℕ → ℕ → Type 0
Given src f a b = ((f ≡ 0) × (a ≡ 0) × (b ≡ 0)) ⊎ ((f ≡ 1) × Passed src a b)

-- an action: a flag, the place of its trimmed text and the crate's span
abbrev pub GivenAction : List ℕ → ℕ → ℕ → ℕ → ℕ → ℕ → Type 0
GivenAction src f a b c d = ((f ≡ 0) × (a ≡ 0) × (b ≡ 0) × (c ≡ 0) × (d ≡ 0)) ⊎ ((f ≡ 1) × Passed src a b × Passed src c d)

-- What a row says of other tables, of levels and of `%epp` values: the rows of tables 7 and 9, what a level may be, and what place of a source a value may have.
pub record View : Type 1 where
  pub low : ℕ → Type 0
  pub whole : List ℕ → ℕ → ℕ → Type 0
  pub rules : ℕ
  pub symbols : ℕ

-- A row of Each table: "Each place [..] has from ≤ to ≤ source length, kinds and flags are listed values, row numbers lie inside counts".
pub record TokenRow (src x : List ℕ) : Type 0 where
  pub name : Passed src (get_or x 0 0) (get_or x 1 0)
  pub flag : get_or x declared 0 ≤ 1

pub record PrecRow (src : List ℕ) (v : View) (x : List ℕ) : Type 0 where
  pub name : Passed src (get_or x 0 0) (get_or x 1 0)
  pub earlier : v.low (get_or x level 0)
  pub least : 1 ≤ get_or x association 0
  pub most : get_or x association 0 ≤ 3

pub record NameRow (src x : List ℕ) : Type 0 where
  pub name : Passed src (get_or x 0 0) (get_or x 1 0)

pub record EppRow (src : List ℕ) (v : View) (x : List ℕ) : Type 0 where
  pub key : Passed src (get_or x 0 0) (get_or x 1 0)
  pub name : Passed src (get_or x key_name 0) (get_or x (key_name + 1) 0)
  pub text : Passed src (get_or x value 0) (get_or x (value + 1) 0)
  pub closed : v.whole src (get_or x value 0) (get_or x (value + 1) 0)

pub record KindRow (src x : List ℕ) : Type 0 where
  pub least : 1 ≤ get_or x 0 0
  pub most : get_or x 0 0 ≤ 2
  pub name : Passed src (get_or x kind_name 0) (get_or x (kind_name + 1) 0)

pub record RuleRow (src x : List ℕ) : Type 0 where
  pub name : Passed src (get_or x 0 0) (get_or x 1 0)
  pub type : Given src (get_or x typed 0) (get_or x (typed + 1) 0) (get_or x (typed + 2) 0)

pub record ProductionRow (src : List ℕ) (v : View) (x : List ℕ) : Type 0 where
  pub rule : get_or x rule_row 0 < v.rules
  pub span : Passed src (get_or x place 0) (get_or x (place + 1) 0)
  pub precedence : Given src (get_or x prec 0) (get_or x (prec + 1) 0) (get_or x (prec + 2) 0)
  pub body : GivenAction src (get_or x action 0) (get_or x (action + 1) 0) (get_or x (action + 2) 0) (get_or x (action + 3) 0) (get_or x (action + 4) 0)

pub record RepeatRow (src x : List ℕ) : Type 0 where
  pub least : 20 ≤ get_or x 0 0
  pub most : get_or x 0 0 ≤ 27
  pub first : Passed src (get_or x 1 0) (get_or x 2 0)
  pub again : Passed src (get_or x 3 0) (get_or x 4 0)

-- of tables 15, 16 and 17, with the sorts of a body: "1 for `%{`, 2 for union"
pub record TagRow (src x : List ℕ) : Type 0 where
  pub name : Passed src (get_or x 0 0) (get_or x 1 0)
  pub tag : Passed src (get_or x tag_place 0) (get_or x (tag_place + 1) 0)

pub record BodyRow (src x : List ℕ) : Type 0 where
  pub least : 1 ≤ get_or x 0 0
  pub most : get_or x 0 0 ≤ 2
  pub text : Passed src (get_or x body_place 0) (get_or x (body_place + 1) 0)

-- "names in 1 and in 7 are pairwise different"
pub record Differ (src x y : List ℕ) : Type 0 where
  pub differ : same_part src (get_or x 0 0) (get_or x 1 0) (get_or y 0 0) (get_or y 1 0) ≡ false

abbrev Any : List ℕ → Type 0
Any x = Unit

abbrev Any₂ : List ℕ → List ℕ → Type 0
Any₂ x y = Unit

-- the rows of Each table in number order, and what two rows of one are to Each other
abbrev pub Each : List ℕ → View → ℕ → List ℕ → Type 0
Each src v k =
    get_or (TokenRow src ∷ PrecRow src v ∷ NameRow src ∷ NameRow src ∷ EppRow src v ∷ KindRow src ∷ RuleRow src ∷ ProductionRow src v ∷ KindRow src ∷ RepeatRow src ∷ TagRow src ∷ NameRow src ∷ BodyRow src ∷ []) k Any

abbrev pub Pairs : List ℕ → ℕ → List ℕ → List ℕ → Type 0
Pairs src k = get_or (Differ src ∷ Any₂ ∷ Any₂ ∷ Any₂ ∷ Any₂ ∷ Any₂ ∷ Differ src ∷ []) k Any₂

abbrev pub Table : List ℕ → View → ℕ → ℕ → List ℕ → Type 0
Table src v k n t = Rows (Each src v k) (Pairs src k) (width k) n t

-- "Each place, singles' too"
abbrev pub Lies : List ℕ → Option (ℕ × ℕ) → Type 0
Lies src None = Unit {0}
Lies src (Some (a, b)) = Passed src a b

abbrev pub LiesExpected : List ℕ → Option (ℕ × ℕ × ℕ) → Type 0
LiesExpected src None = Unit {0}
LiesExpected src (Some (v, a, b)) = Passed src a b

abbrev pub LiesParam : List ℕ → Option (ℕ × ℕ × ℕ × ℕ) → Type 0
LiesParam src None = Unit {0}
LiesParam src (Some (a, b, c, d)) = Passed src a b × Passed src c d

pub record Lie (src : List ℕ) (g : Singles) : Type 0 where
  pub start : Lies src g.start
  pub expect : LiesExpected src g.expect
  pub expect_rr : LiesExpected src g.expect_rr
  pub param : LiesParam src g.param
  pub generics : Lies src g.generics
  pub programs : Lies src g.programs

-- levels are free, and so are values within their places
abbrev pub sound_view : Counts → View
sound_view c = record { low = λ n. Unit; whole = λ src a b. Unit; rules = get_or c.n rules 0; symbols = get_or c.n symbols 0 }

-- "Tables are sound when"
pub record Sound (src : List ℕ) (c : Counts) (g : Singles) (T : Tables) (X : Indexes) : Type 0 where
  -- "the source has at most 65,536 bytes"
  pub short : length src ≤ 65536
  -- "counts fit"
  pub fits : (k : ℕ) → k < 10 → get_or c.n k 0 * width k ≤ length (tab T k)
  pub low : (k : ℕ) → k < 10 → get_or c.n k 0 ≤ 4294967295
  -- "cells past them are zero"
  pub clean : (k : ℕ) → k < 10 → Clean (width k) (get_or c.n k 0) (tab T k)
  -- "Each place [..] has from ≤ to ≤ source length, kinds and flags are listed values, row numbers lie inside counts"
  pub rows : (k r : ℕ) → k < 10 → r < get_or c.n k 0 → Each src (sound_view c) k (row_at (width k) (tab T k) r)
  -- "Each place, singles' too"
  pub singles : Lie src g
  -- "symbol ranges follow one another in production order and fill table 9"
  pub ranges : Chained (width productions) symbols_from symbols_to (get_or c.n productions 0) T.t8 (get_or c.n symbols 0)
  -- "names in 1 and in 7 are pairwise different"
  pub names : (k q r : ℕ) → k < 10 → q < r → r < get_or c.n k 0 → Pairs src k (row_at (width k) (tab T k) q) (row_at (width k) (tab T k) r)
  -- document 02, request Three: "soundness (44) now includes this and the size"
  pub indexes : SoundIndexes src c T X
  -- document 02, request Five: "Soundness includes it, 4294967295 being the one row number allowed outside the counts."
  pub known : Knows (lexicon_of src c T) (get_or c.n symbols 0) T.t9

-- The same of tables 15 to 17, which no operation but the catalogue's tests: counts fit, cells past them are zero, and Each place lies in the source.
pub record PosixSound (src : List ℕ) (c : Counts) (p : PosixCounts) (T : AllTables) : Type 0 where
  pub tables : (k : ℕ) → k < 3 → Table src (sound_view c) (posix_from + k) (get_or p.n k 0) (cells_of T (posix_from + k))

-- levels that were given are below the next one, and values are strings
abbrev pub view : State → View
view s = record { low = λ n. n < s.level; whole = λ src a b. string_at src a ≡ Ok b; rules = count s rules; symbols = count s symbols }

-- Sound so far: what holds between Any two steps of a reading, whatever their answers. The productions' ranges end at `done`; the symbols behind it are
-- those of the production that is being read.
pub record Far (src : List ℕ) (done : ℕ) (s : State) (T : AllTables) : Type 0 where
  pub here : s.at ≤ length src
  pub short : length src ≤ 65536
  pub ten : length s.counts.n ≡ 10
  pub three : length s.posix.n ≡ 3
  pub risen : s.level ≤ s.at
  pub tables : (k : ℕ) → Table src (view s) k (count s k) (cells_of T k)
  pub ranges : Chained (width productions) symbols_from symbols_to (count s productions) (cells_of T productions) done
  pub since : done ≤ count s symbols
  pub singles : Lie src s.singles
  pub actiontype : Lies src s.actiontype
