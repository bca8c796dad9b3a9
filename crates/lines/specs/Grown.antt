-- What a line of words leaves of the tables, in words that are no step of a reading.
use Rattle.std.specs.Prelude.{ℕ, ◌+◌, ◌≤◌, ◌<◌, ◌≡◌, List, Bool, true, get_or, Ok}
use Rattle.scan.specs.declared.Place.{Place}
use Rattle.spacing.specs.Spacing.{spaces_at}
use Rattle.words.specs.Words.{token_at}
use Rattle.tables.specs.Table.{same_part}
use Rattle.tables.specs.Rows.{row_at}
use Rattle.tables.specs.Layout.{precedences, avoided, implicit, level, declared, width}
use Rattle.grammar.specs.declared.State.{State}
use Rattle.grammar.specs.Cells.{token_cells, precedence_cells, name_cells}
use Rattle.grammar.specs.State.{count}
use Rattle.lines.specs.Line.{LineWord, In, Earlier, PrecLine}

-- n rows of t have become m rows of u: those before stay, and P holds of each new one
pub record Grown (P : List ℕ → Type 0) (w n : ℕ) (t : List ℕ) (m : ℕ) (u : List ℕ) : Type 0 where
  pub onward : n ≤ m
  pub old : (r : ℕ) → r < n → row_at w u r ≡ row_at w t r
  pub new : (r : ℕ) → n ≤ r → r < m → P (row_at w u r)

-- one of the n rows has the bytes from a to b
pub record Has (src : List ℕ) (w n : ℕ) (t : List ℕ) (a b : ℕ) : Type 0 where
  pub row : ℕ
  pub inside : row < n
  pub same : same_part src (get_or (row_at w t row) 0 0) (get_or (row_at w t row) 1 0) a b ≡ true

-- the row of one of the words
pub record RowOf (cells : Place → List ℕ) (ws : List LineWord) (x : List ℕ) : Type 0 where
  pub word : LineWord
  pub listed : In word ws
  pub is : x ≡ cells word.place

-- the rows of two of the words, the first before the second
pub record InOrder (cells : Place → List ℕ) (ws : List LineWord) (x y : List ℕ) : Type 0 where
  pub first : LineWord
  pub second : LineWord
  pub earlier : Earlier first second ws
  pub is_first : x ≡ cells first.place
  pub is_second : y ≡ cells second.place

-- n rows of t have become m rows of u by the words of a line: those before stay, each new one is a row of a word, in the words' order, and each word has a row
pub record Written (src : List ℕ) (cells : Place → List ℕ) (w : ℕ) (ws : List LineWord) (n : ℕ) (t : List ℕ) (m : ℕ) (u : List ℕ) : Type 0 where
  pub rows : Grown (RowOf cells ws) w n t m u
  pub order : (q r : ℕ) → n ≤ q → q < r → r < m → InOrder cells ws (row_at w u q) (row_at w u r)
  pub has : (v : LineWord) → In v ws → Has src w m u v.place.from v.place.to

-- "2 precedences (place, level, association)": the row of a token on a line of this level and association
abbrev pub prec_row : ℕ → ℕ → Place → List ℕ
prec_row lev assoc p = precedence_cells p.from p.to lev assoc

-- the row of a token that stands at an index from i on
pub record RowFrom (src : List ℕ) (lev assoc i : ℕ) (x : List ℕ) : Type 0 where
  pub index : ℕ
  pub from : i ≤ index
  pub place : Place
  pub end : ℕ
  pub quoted : Bool
  pub stands : token_at src index ≡ Ok (place, end, quoted)
  pub is : x ≡ prec_row lev assoc place

-- the level of row r of table 2
abbrev pub level_at : List ℕ → ℕ → ℕ
level_at t r = get_or (row_at (width precedences) t r) level 0

-- Two lists: the first stands behind a keyword that ends at the index at₁, with the association a, and is read from s₀ to s₁; the second stands behind one that
-- ends at at₂, with b, and ends in s₂, whatever its answer. Table 2 behind both is t.
pub record TwoLists (src : List ℕ) (at₁ a at₂ b : ℕ) (s₀ s₁ s₂ : State) (t : List ℕ) : Type 0 where
  -- the first is a line as it stands in the source,
  pub line : PrecLine s₀.kind src at₁ s₁.at
  -- and where a line end is counted behind a word of it, it is at its end;
  pub stops : (w : LineWord) → In w line.words → (k n : ℕ) → spaces_at s₀.kind true src w.end ≡ Ok (k, n) → 0 < n → k ≡ s₁.at
  -- its rows are rows of its words, with its level and association,
  pub first : (r : ℕ) → count s₀ precedences ≤ r → r < count s₁ precedences → RowOf (prec_row s₀.level a) line.words (row_at (width precedences) t r)
  -- and not of a token that stands behind it;
  pub behind : (r : ℕ) → count s₀ precedences ≤ r → r < count s₁ precedences → (i : ℕ) → s₁.at ≤ i → (p : Place) (end : ℕ) (quoted : Bool) → token_at src i ≡ Ok (p, end, quoted) → get_or (row_at (width precedences) t r) 0 0 < p.from
  -- the rows of the second are rows of tokens behind its keyword, with the next level and its association,
  pub second : (r : ℕ) → count s₁ precedences ≤ r → r < count s₂ precedences → RowFrom src (s₀.level + 1) b at₂ (row_at (width precedences) t r)
  -- so no row of the one has the level of a row of the other.
  pub levels : (q r : ℕ) → count s₀ precedences ≤ q → q < count s₁ precedences → count s₁ precedences ≤ r → r < count s₂ precedences → level_at t q < level_at t r

-- "3 avoid, 4 implicit": a table of names
pub data NameTable : ℕ → Type 0 where
  third : NameTable avoided
  fourth : NameTable implicit

-- "avoid and implicit lists add theirs, Undeclared"
abbrev pub Undeclared : List ℕ → Type 0
Undeclared x = get_or x declared 0 ≡ 0

-- "1 tokens (place, declared by `%token` or not)": the row of a token that an avoid or implicit list adds
abbrev pub token_row : Place → List ℕ
token_row p = token_cells p.from p.to 0

-- "3 avoid, 4 implicit": its row there
abbrev pub name_row : Place → List ℕ
name_row p = name_cells p.from p.to
