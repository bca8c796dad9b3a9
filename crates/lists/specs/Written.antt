-- Document 01, "Declarations": which words a list holds, by the words and not by a scan of them.
use Rattle.std.specs.Prelude.{ℕ, ◌≤◌, ◌<◌, ◌≡◌, Bool, true, false, ◌⊎◌, length, Option, None, Result, Ok, Err}
use mathlib.Core.List.{List, [], ◌∷◌, Memᴰ}
use Rattle.scan.specs.declared.Place.{Place}
use Rattle.words.specs.Words.{name_at, token_at}
use Rattle.tables.specs.Layout.{tokens, declared, width}
use Rattle.tables.specs.Table.{cell, same_part}
use Rattle.grammar.specs.Cells.{kind_cells}
use Rattle.grammar.specs.State.{gap_at}
use Rattle.marks.specs.Worded.{ListWord, Worded, TagBefore}
use Rattle.lists.specs.declared.WordList.{WordList}
use Rattle.lists.specs.declared.WordList.TheVariants.{TokenList, UnusedList, TypeList}
use Rattle.lists.specs.Lists.{ends}

-- the list whose own table is table 1
abbrev pub of_tokens : WordList → Bool
of_tokens TokenList = true
of_tokens UnusedList = false
of_tokens TypeList = false

-- Places: a name or a quoted token has at least one byte, and its place lies in it; 15 is where the word was sought.
abbrev pub Spells : List ℕ → ℕ → Result (ℕ × ℕ × ℕ × ℕ) ℕ → Type 0
Spells src at (Ok (kind, from, to, end)) = (1 ≤ kind) × (kind ≤ 2) × (at ≤ from) × (from ≤ to) × (to ≤ end) × (at < end) × (end ≤ length src)
Spells src at (Err k) = k ≡ at

-- "`%token` and `%expect-unused` lists run to the next `%`": from i on stand these words, each with spacing behind it, and then at j the next `%` or the source's end.
-- What a word is, is the list's, and what spacing is, goes by the kind: `Word i end x` is that the word x stands at i and ends at `end`. Of the spacing: "Line ends are not allowed directly behind a declaration
-- keyword [..]; elsewhere they are".
pub data Written (kind : ℕ) {A : Type 0} (Word : ℕ → ℕ → A → Type 0) (src : List ℕ) : ℕ → ℕ → List A → Type 0 where
  over : {i : ℕ} → ends src i ≡ true → Written kind Word src i i []
  word : {i end k n j : ℕ} {x : A} {xs : List A} → ends src i ≡ false → Word i end x → gap_at kind true src end ≡ Ok (k, n) → Written kind Word src k j xs → Written kind Word src i j (x ∷ xs)

-- In front of the words, from i to j, stands this tag or none: "a `<tag>` [..] in `%token`" may stand, that of `%type` has to, and `%expect-unused` has none.
abbrev pub Leads : WordList → ℕ → List ℕ → ℕ → ℕ → Option (ℕ × ℕ) → Type 0
Leads TokenList kind src i j tag = TagBefore kind false false src i j tag
Leads UnusedList kind src i j tag = (j ≡ i) × (tag ≡ None)
Leads TypeList kind src i j tag = TagBefore kind true false src i j tag

-- the same from behind the keyword on, "directly behind" which line ends are not allowed, with the tag in front of the words
pub record Listed (what : WordList) (kind : ℕ) {A : Type 0} (Word : ℕ → ℕ → A → Type 0) (src : List ℕ) (at j : ℕ) (tag : Option (ℕ × ℕ)) (xs : List A) : Type 0 where
  pub from : ℕ
  pub lines : ℕ
  pub head : ℕ
  pub gap : gap_at kind false src at ≡ Ok (from, lines)
  pub lead : Leads what kind src from head tag
  pub words : Written kind Word src head j xs

-- a word of a `%token` list: a token, bare or quoted, whose "span leaves out the quotes", and in kind 4 the number that may follow it
abbrev pub TokenWord : ℕ → List ℕ → ℕ → ℕ → ListWord → Type 0
TokenWord kind src i end w = Worded kind false src i end w

-- "In `%expect-unused` a word that reads as a name is a rule, else it is a quoted token": its row of table 6, "expected unused (kind, place)"; "1 rule, 2 token"
pub data UnusedWord (src : List ℕ) : ℕ → ℕ → List ℕ → Type 0 where
  rule : {i end : ℕ} → name_at src i ≡ Ok end → UnusedWord src i end (kind_cells 1 i end)
  quote : {i end k : ℕ} {p : Place} → name_at src i ≡ Err k → token_at src i ≡ Ok (p, end, true) → UnusedWord src i end (kind_cells 2 p.from p.to)

-- "`%type` with words spelled as in `%expect-unused`": a word's place
abbrev pub TypeWord : List ℕ → ℕ → ℕ → Place → Type 0
TypeWord src i end p = (kind : ℕ) × UnusedWord src i end (kind_cells kind p.from p.to)

-- the lists of each sort that stand behind a keyword which ends at the index at
abbrev pub TokensListed : ℕ → List ℕ → ℕ → ℕ → Option (ℕ × ℕ) → List ListWord → Type 0
TokensListed kind src at j tag ws = Listed TokenList kind (TokenWord kind src) src at j tag ws

abbrev pub UnusedListed : ℕ → List ℕ → ℕ → ℕ → List (List ℕ) → Type 0
UnusedListed kind src at j rows = Listed UnusedList kind (UnusedWord src) src at j None rows

abbrev pub TypesListed : ℕ → List ℕ → ℕ → ℕ → Option (ℕ × ℕ) → List Place → Type 0
TypesListed kind src at j tag ps = Listed TypeList kind (TypeWord src) src at j tag ps

-- "1 tokens (place, declared by `%token` or not)": among the n rows is one with the bytes of p, and it is declared
pub record Declared (src : List ℕ) (n : ℕ) (t : List ℕ) (p : Place) : Type 0 where
  pub row : ℕ
  pub inside : row < n
  pub named : same_part src (cell (width tokens) t row 0) (cell (width tokens) t row 1) p.from p.to ≡ true
  pub marked : cell (width tokens) t row declared ≡ 1

-- "declared by `%token` or not": a row that stood before keeps its place, and is declared now or what it was
pub record Kept (t u : List ℕ) (r : ℕ) : Type 0 where
  pub from : cell (width tokens) u r 0 ≡ cell (width tokens) t r 0
  pub to : cell (width tokens) u r 1 ≡ cell (width tokens) t r 1
  pub flag : (cell (width tokens) u r declared ≡ 1) ⊎ (cell (width tokens) u r declared ≡ cell (width tokens) t r declared)

-- "1 tokens (place, [..])": row r has the place of one of the words
pub record Placed (t : List ℕ) (r : ℕ) (ws : List Place) : Type 0 where
  pub word : Place
  pub stands : Memᴰ word ws
  pub from : cell (width tokens) t r 0 ≡ word.from
  pub to : cell (width tokens) t r 1 ≡ word.to

-- row r has the bytes of one of the words; "names in 1 and in 7 are pairwise different", so it is the only one
pub record Named (src t : List ℕ) (r : ℕ) (ws : List Place) : Type 0 where
  pub word : Place
  pub stands : Memᴰ word ws
  pub same : same_part src (cell (width tokens) t r 0) (cell (width tokens) t r 1) word.from word.to ≡ true
