-- Document 02, request Nine: "a `<tag>` and token numbers in `%token` and the precedence lines": a word with its number, and the tag in front of the words, as they stand in the source, without the
-- steps that read them. `line` says of a list that it ends with its line: a line end behind a word, or behind the tag, comes before anything else.
use Rattle.std.specs.Prelude.{ℕ, ◌≤◌, ◌<◌, ◌≡◌, List, [], ◌∷◌, ◌++◌, map, Bool, true, false, Some, None, Ok, Err, Option}
use Rattle.scan.specs.declared.Place.{Place}
use Rattle.words.specs.declared.IntError.TheVariants.{NoDigits}
use Rattle.words.specs.declared.TagError.TheVariants.{NoTag}
use Rattle.words.specs.Words.{token_at}
use Rattle.words.specs.Numbers.{int_at}
use Rattle.words.specs.Tags.{tag_at}
use Rattle.grammar.specs.Cells.{tag_cells, number_cells}
use Rattle.grammar.specs.State.{gap_at}

-- a word of a list: its token's place, which leaves out the quotes, and the number that follows it, if one does
pub record ListWord : Type 0 where
  pub place : Place
  pub number : Option ℕ

-- no number follows a word that ends at `end`: no kind but 4 has numbers, the word's line ends there, or no digit stands behind the spacing
pub data Numberless (kind : ℕ) (line : Bool) (src : List ℕ) (end : ℕ) : Type 0 where
  elsewhere : (kind ≡ 4 → ⊥) → Numberless kind line src end
  parted : {j n : ℕ} → line ≡ true → gap_at kind true src end ≡ Ok (j, n) → 0 < n → Numberless kind line src end
  digitless : {j n k : ℕ} → gap_at kind true src end ≡ Ok (j, n) → int_at src j ≡ Err (NoDigits k) → Numberless kind line src end

-- a word stands at i, and all of it, its number included, ends at `end`; a number is at most 32 bits wide
pub data Worded (kind : ℕ) (line : Bool) (src : List ℕ) : ℕ → ℕ → ListWord → Type 0 where
  plain : {i end : ℕ} {p : Place} {quoted : Bool} → token_at src i ≡ Ok (p, end, quoted) → Numberless kind line src end → Worded kind line src i end (record { place = p; number = None })
  numbered : {i e j n end v : ℕ} {p : Place} {quoted : Bool} → kind ≡ 4 → token_at src i ≡ Ok (p, e, quoted) → gap_at kind true src e ≡ Ok (j, n) → (line ≡ true → n ≡ 0) → int_at src j ≡ Ok (v, end) → v ≤ 4294967295 → Worded kind line src i end (record { place = p; number = Some v })

-- in front of the words, from i to j, stands this tag or none: only kind 4 has tags, and where one is wanted it has to stand
pub data TagBefore (kind : ℕ) (wanted line : Bool) (src : List ℕ) : ℕ → ℕ → Option (ℕ × ℕ) → Type 0 where
  headless : {i : ℕ} → (kind ≡ 4 → ⊥) → TagBefore kind wanted line src i i None
  bare : {i k : ℕ} → kind ≡ 4 → wanted ≡ false → tag_at src i ≡ Err (NoTag k) → TagBefore kind wanted line src i i None
  tagged : {i end j n : ℕ} {p : Place} → kind ≡ 4 → tag_at src i ≡ Ok (p, end) → gap_at kind true src end ≡ Ok (j, n) → (line ≡ true → n ≡ 0) → TagBefore kind wanted line src i j (Some (p.from, p.to))

abbrev pub word_places : List ListWord → List Place
word_places ws = map (λ (w : ListWord). w.place) ws

-- "15 takes tags (name, tag)": the rows of the words at these places, one each, where their list has a tag
abbrev pub tag_rows : Option (ℕ × ℕ) → List Place → List (List ℕ)
tag_rows None ps = []
tag_rows (Some (i, j)) ps = map (λ (p : Place). tag_cells p.from p.to i j) ps

-- "16 numbers (name, number [..])": the row of a word that a number follows, and those of words, in order
abbrev pub number_of : Place → Option ℕ → List (List ℕ)
number_of p None = []
number_of p (Some v) = number_cells p.from p.to v ∷ []

unfoldable pub number_rows : List ListWord → List (List ℕ)
number_rows [] = []
number_rows (w ∷ ws) = number_of w.place w.number ++ number_rows ws
