-- Document 01, "Declarations": what is given once to a name, by a line of words: which words are met first, and which are repeats.
use Rattle.std.specs.Prelude.{ℕ, ◌≡◌, Bool, true, false, ◌⊎◌, length, get_or, Option, Some, None}
use mathlib.Core.List.{List, [], ◌∷◌, ◌++◌, map, Memᴰ}
use Rattle.scan.specs.declared.Place.{Place}
use Rattle.tables.specs.Table.{same_part}
use Rattle.tables.specs.Rows.{rows_of}
use Rattle.tables.specs.Layout.{tokens, precedences, avoided, repeats, tags, token_numbers, width}
use Rattle.grammar.specs.declared.State.{State}
use Rattle.grammar.specs.declared.Repeat.{Repeat}
use Rattle.grammar.specs.declared.Repeat.TheVariants.{RepeatedPrecedence}
use Rattle.grammar.specs.declared.Answer.TheVariants.{Going}
use Rattle.grammar.specs.Cells.{repeat_cells}
use Rattle.grammar.specs.Refusals.{number_of_repeat}
use Rattle.grammar.specs.State.{Out3, Out4, count, with_at, with_level, next_level}
use Rattle.marks.specs.Appended.{Appended, FreeRows}
use Rattle.marks.specs.Worded.{ListWord, tag_rows, number_rows}
use Rattle.lines.specs.Line.{LineWord}
use Rattle.lines.specs.Grown.{prec_row, token_row, name_row}

-- whether place q has the bytes of p
abbrev pub alike : List ℕ → Place → Place → Bool
alike src q p = same_part src q.from q.to p.from p.to

-- the first of these places that has the bytes of p
unfoldable pub namesake : List ℕ → List Place → Place → Option Place
namesake src [] p = None
namesake src (q ∷ qs) p = elim (alike src q p) [ true ↦ Some q | false ↦ namesake src qs p ]

-- What it is, without a recursion: q is one of the places and has the bytes of p, and no place before it has them.
pub record Namesake (src : List ℕ) (xs : List Place) (p q : Place) : Type 0 where
  pub before : List Place
  pub after : List Place
  pub stands : xs ≡ before ++ (q ∷ after)
  pub same : alike src q p ≡ true
  pub none : (x : Place) → Memᴰ x before → alike src x p ≡ false

-- of the places ps, in order, those whose name neither a known place nor an earlier one has
abbrev pub unless_known : Option Place → Place → List Place → List Place
unless_known None p rest = p ∷ rest
unless_known (Some q) p rest = rest

unfoldable pub first_met : List ℕ → List Place → List Place → List Place
first_met src known [] = []
first_met src known (p ∷ ps) = unless_known (namesake src known p) p (first_met src (known ++ (p ∷ [])) ps)

-- the others, in order, each with the first place of its name: "10 repeats (number, first place, repeated place)"
pub record RepeatPlaces : Type 0 where
  pub first : Place
  pub repeated : Place

abbrev pub where_known : Option Place → Place → List RepeatPlaces → List RepeatPlaces
where_known None p rest = rest
where_known (Some q) p rest = record { first = q; repeated = p } ∷ rest

unfoldable pub met_again : List ℕ → List Place → List Place → List RepeatPlaces
met_again src known [] = []
met_again src known (p ∷ ps) = where_known (namesake src known p) p (met_again src (known ++ (p ∷ [])) ps)

-- What they are, without a recursion: p is one of the places ps, and neither a known one nor one of ps before it has its bytes;
pub record MetFirst (src : List ℕ) (known ps : List Place) (p : Place) : Type 0 where
  pub before : List Place
  pub after : List Place
  pub stands : ps ≡ before ++ (p ∷ after)
  pub none : (x : Place) → Memᴰ x (known ++ before) → alike src x p ≡ false

-- the repeated place is one of ps, and the first place is the first of the known ones and those of ps before it that has its bytes.
pub record MetLater (src : List ℕ) (known ps : List Place) (a : RepeatPlaces) : Type 0 where
  pub before : List Place
  pub after : List Place
  pub stands : ps ≡ before ++ (a.repeated ∷ after)
  pub first : Namesake src (known ++ before) a.repeated a.first

-- the place in a row's first two cells, and the places of n rows
abbrev pub place_in : List ℕ → Place
place_in x = record { from = get_or x 0 0; to = get_or x 1 0 }

abbrev pub places_of : ℕ → ℕ → List ℕ → List Place
places_of w n t = map place_in (rows_of w n t)

abbrev pub word_places : List LineWord → List Place
word_places ws = map (λ (w : LineWord). w.place) ws

-- words of a line as words of a list, which leaves out where they end
abbrev pub listed : List LineWord → List ListWord
listed ws = map (λ (w : LineWord). record { place = w.place; number = w.number }) ws

-- "10 repeats (number, first place, repeated place)"
abbrev pub repeat_row : Repeat → RepeatPlaces → List ℕ
repeat_row what a = repeat_cells (number_of_repeat what) a.first.from a.first.to a.repeated.from a.repeated.to

-- Places are given to table k + 1, once to a name, which rows have in their first two cells. There is room for the rows of those that are met first, and in
-- table 10 for those of the others;
pub record OnceFree (src : List ℕ) (k w : ℕ) (ps : List Place) (s : State) (t t10 : List ℕ) : Type 0 where
  pub own : FreeRows w (count s k) t (length (first_met src (places_of w (count s k) t) ps))
  pub again : FreeRows (width repeats) (count s repeats) t10 (length (met_again src (places_of w (count s k) t) ps))

-- and these are the rows that both tables then have more.
pub record OnceGiven (src : List ℕ) (k w : ℕ) (cells : Place → List ℕ) (what : Repeat) (ps : List Place) (s : State) (t t10 : List ℕ) (u : State) (a b : List ℕ) : Type 0 where
  pub own : Appended w (count s k) t (map cells (first_met src (places_of w (count s k) t) ps)) (count u k) a
  pub again : Appended (width repeats) (count s repeats) t10 (map (repeat_row what) (met_again src (places_of w (count s k) t) ps)) (count u repeats) b

-- the tables that are given rows by what is given once to a name in table k + 1
abbrev pub OnceTables : ℕ → ℕ → Type 0
OnceTables k j = (j ≡ k) ⊎ (j ≡ repeats)

-- the state is as it was, but for the counts of the tables that P tells
pub record Still (P : ℕ → Type 0) (s u : State) : Type 0 where
  pub kind : u.kind ≡ s.kind
  pub at : u.at ≡ s.at
  pub level : u.level ≡ s.level
  pub ten : length u.counts.n ≡ length s.counts.n
  pub three : length u.posix.n ≡ length s.posix.n
  pub others : (k : ℕ) → (P k → ⊥) → count u k ≡ count s k
  pub singles : u.singles ≡ s.singles
  pub actiontype : u.actiontype ≡ s.actiontype

-- the tables that a precedence line gives rows
abbrev pub PrecTables : ℕ → Type 0
PrecTables j = OnceTables precedences j ⊎ ((j ≡ tags) ⊎ (j ≡ token_numbers))

-- The words of a precedence line with this tag or none find room: in tables 2 and 10 as above, in 15 and 16 for their rows.
pub record PrecFree (src : List ℕ) (s : State) (t2 t10 t15 t16 : List ℕ) (tag : Option (ℕ × ℕ)) (ws : List LineWord) : Type 0 where
  pub once : OnceFree src precedences (width precedences) (word_places ws) s t2 t10
  pub tagged : FreeRows (width tags) (count s tags) t15 (length (tag_rows tag (word_places ws)))
  pub numbered : FreeRows (width token_numbers) (count s token_numbers) t16 (length (number_rows (listed ws)))

-- A precedence line of these words, up to j, was read: a row for each word that is the first of its name, with the line's level and association, and a repeat for
-- each other one; for each word, repeated ones too, a row for the line's tag and one for its number, if there are such; the next line has the next level, and all else is as it was.
pub record PrecRead (src : List ℕ) (s : State) (assoc : ℕ) (t2 t10 t15 t16 : List ℕ) (j : ℕ) (tag : Option (ℕ × ℕ)) (ws : List LineWord) (o : Out4) : Type 0 where
  pub going : o.answer ≡ Going
  pub rows : OnceGiven src precedences (width precedences) (prec_row s.level assoc) RepeatedPrecedence (word_places ws) s t2 t10 o.state o.a o.b
  pub tagged : Appended (width tags) (count s tags) t15 (tag_rows tag (word_places ws)) (count o.state tags) o.c
  pub numbered : Appended (width token_numbers) (count s token_numbers) t16 (number_rows (listed ws)) (count o.state token_numbers) o.d
  pub state : Still PrecTables (with_level (with_at s j) (next_level s.level)) o.state

-- only kind 4 has tags and numbers: tables 15 and 16 are as they were, and so are the counts of the three tables behind the ten
pub record Unmarked (s : State) (t15 t16 : List ℕ) (o : Out4) : Type 0 where
  pub tagged : o.c ≡ t15
  pub numbered : o.d ≡ t16
  pub counts : o.state.posix ≡ s.posix

-- The words of an avoid or implicit list find room: in table 1 those whose name has no row there, in table k + 1 and table 10 as above.
pub record AvoidFree (src : List ℕ) (s : State) (k : ℕ) (t1 t t10 : List ℕ) (ws : List LineWord) : Type 0 where
  pub entered : FreeRows (width tokens) (count s tokens) t1 (length (first_met src (places_of (width tokens) (count s tokens) t1) (word_places ws)))
  pub once : OnceFree src k (width avoided) (word_places ws) s t t10

-- An avoid or implicit list of these words, up to j, was read: "avoid and implicit lists add theirs, undeclared", those whose name has no row in table 1; in table
-- k + 1 a row for each word that is the first of its name there, and a repeat for each other one.
pub record AvoidRead (src : List ℕ) (s : State) (k : ℕ) (what : Repeat) (t1 t t10 : List ℕ) (j : ℕ) (ws : List LineWord) (o : Out3) : Type 0 where
  pub going : o.answer ≡ Going
  pub entered : Appended (width tokens) (count s tokens) t1 (map token_row (first_met src (places_of (width tokens) (count s tokens) t1) (word_places ws))) (count o.state tokens) o.a
  pub once : OnceGiven src k (width avoided) name_row what (word_places ws) s t t10 o.state o.b o.c
  pub state : Still (λ (i : ℕ). (i ≡ tokens) ⊎ OnceTables k i) (with_at s j) o.state
