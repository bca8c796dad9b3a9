-- Document 01, "Declarations": a line of words as it stands in the source, without the loop that reads it.
use Rattle.std.specs.Prelude.{ℕ, ◌≤◌, ◌<◌, ◌≡◌, List, [], ◌∷◌, Bool, true, false, ◌⊎◌, eqb, length, get_or, Some, None, Ok, Option}
use Rattle.scan.specs.declared.Place.{Place}
use Rattle.scan.specs.Scan.{is_eol}
use Rattle.scan.specs.Tally.{tally_at}
use Rattle.spacing.specs.Spacing.{spaces_at}
use Rattle.words.specs.Words.{token_at}
use Rattle.words.specs.Tags.{tag_at}
use Rattle.grammar.specs.State.{gap_at}
use Rattle.marks.specs.Worded.{ListWord, Worded, TagBefore}

-- a word of a line: its token's place, where "its span leaves out the quotes", the number that follows it, if one does, and where all of the word ends
pub record LineWord : Type 0 where
  pub place : Place
  pub number : Option ℕ
  pub end : ℕ

abbrev pub line_word : ListWord → ℕ → LineWord
line_word w end = record { place = w.place; number = w.number; end = end }

-- one of the words that such "lists" have
abbrev pub In : LineWord → List LineWord → Type 0
In w [] = ⊥
In w (v ∷ vs) = (w ≡ v) ⊎ In w vs

-- a word that stands before another one among them
abbrev pub Earlier : LineWord → LineWord → List LineWord → Type 0
Earlier v w [] = ⊥
Earlier v w (x ∷ xs) = ((v ≡ x) × In w xs) ⊎ Earlier v w xs

-- a word of an avoid or implicit list: a token, which no number follows in any kind; a word of a precedence line is `Worded kind true src`
pub data Alone (src : List ℕ) : ℕ → ℕ → ListWord → Type 0 where
  alone : {i end : ℕ} {p : Place} {quoted : Bool} → token_at src i ≡ Ok (p, end, quoted) → Alone src i end (record { place = p; number = None })

-- "Precedence, avoid and implicit lists run until a line end was counted after the spacing behind their keyword": from i on, where m line ends have just been counted, stand
-- the words ws, each followed by spacing of the kind, up to j. Line ends that were counted end the line, n of them, or the source ends at j and n is 0. What a word is, is the
-- list's: `Word i end w` is that w stands at i and ends at `end`.
pub data Line (kind : ℕ) (Word : ℕ → ℕ → ListWord → Type 0) (src : List ℕ) : ℕ → ℕ → ℕ → ℕ → List LineWord → Type 0 where
  -- a line end was counted
  closed : {i n : ℕ} → 0 < n → Line kind Word src n i i n []
  -- no word is left where the source ends; of precedence lists only, since "the last two also go on at the source end and so give 3 there"
  ended : {i : ℕ} → length src ≤ i → Line kind Word src 0 i i 0 []
  -- a word and what stands behind it
  word : {i k j m n end : ℕ} {w : ListWord} {ws : List LineWord} → Word i end w → spaces_at kind true src end ≡ Ok (k, m) → Line kind Word src m k j n ws → Line kind Word src 0 i j n (line_word w end ∷ ws)

-- Document 02, request Nine: "a `<tag>` [..] in `%token` and the precedence lines": from i on stands a tag or none, and the words begin at j. Behind a tag n line ends are
-- counted, and where there are some the line ends before its first word.
pub data Lead (kind : ℕ) (src : List ℕ) : ℕ → ℕ → ℕ → Option (ℕ × ℕ) → Type 0 where
  onward : {i j : ℕ} {tag : Option (ℕ × ℕ)} → TagBefore kind false true src i j tag → Lead kind src i j 0 tag
  cut : {i end j n : ℕ} {p : Place} → kind ≡ 4 → tag_at src i ≡ Ok (p, end) → gap_at kind true src end ≡ Ok (j, n) → 0 < n → Lead kind src i j n (Some (p.from, p.to))

-- avoid and implicit lists have no tag in any kind
pub data Untagged : ℕ → ℕ → ℕ → Option (ℕ × ℕ) → Type 0 where
  untagged : {i : ℕ} → Untagged i i 0 None

-- LF, the one of "A line end (LF or CR, each counted)" that no token holds: "A quoted token has at least one character, none LF"
abbrev pub is_feed : ℕ → Bool
is_feed c = eqb c 10

-- no byte from index a on and before index b passes a test, such as that for a line end
abbrev pub Without : (ℕ → Bool) → List ℕ → ℕ → ℕ → Type 0
Without p src a b = (k : ℕ) → a ≤ k → k < b → p (get_or src k 0) ≡ false

-- "until a line end was counted": one stands from index a on and before index j, or the source ends at j
abbrev pub LineOver : List ℕ → ℕ → ℕ → Type 0
LineOver src a j = (0 < tally_at is_eol src a j) ⊎ (length src ≤ j)

-- a line behind its keyword, which ends at the index at: "Line ends are not allowed directly behind a declaration keyword", then what leads its words, as `Led` says, with the
-- line ends that were passed there, and the words, up to j
pub record LineAt (kind : ℕ) (Led : ℕ → ℕ → ℕ → Option (ℕ × ℕ) → Type 0) (Word : ℕ → ℕ → ListWord → Type 0) (src : List ℕ) (at j : ℕ) : Type 0 where
  pub start : ℕ
  pub ends : ℕ
  pub gap : spaces_at kind false src at ≡ Ok (start, ends)
  pub head : ℕ
  pub passed : ℕ
  pub tag : Option (ℕ × ℕ)
  pub lead : Led start head passed tag
  pub words : List LineWord
  pub counted : ℕ
  pub line : Line kind Word src passed head j counted words

-- "Precedence [..] lists"; "avoid and implicit lists"
abbrev pub PrecLine : ℕ → List ℕ → ℕ → ℕ → Type 0
PrecLine kind src at j = LineAt kind (Lead kind src) (Worded kind true src) src at j

abbrev pub NameLine : ℕ → List ℕ → ℕ → ℕ → Type 0
NameLine kind src at j = LineAt kind Untagged (Alone src) src at j

-- where a word lies in a line from i to j
pub record Inside (i j : ℕ) (w : LineWord) : Type 0 where
  pub begins : i ≤ w.place.from
  pub some : w.place.from < w.place.to
  pub ends : w.place.to ≤ w.end
  pub before : w.end ≤ j
