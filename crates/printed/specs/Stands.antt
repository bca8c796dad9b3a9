-- Lists and lines of declarations as they stand in a source of kinds 1 to 3, and the same ones in two sources, with the bytes of their words.
use Rattle.std.specs.Prelude.{ℕ, ◌+◌, ◌<◌, ◌≡◌, List, [], ◌∷◌, Bool, true, false, length, None, Ok}
use Rattle.std.proofs.Math.Seq.{slice}
use Rattle.whole.specs.Encode.{Text}
use Rattle.words.specs.Words.{name_at}
use Rattle.words.specs.Numbers.{int_at}
use Rattle.words.specs.Strings.{string_at}
use Rattle.texts.specs.Line.{line_end_at}
use Rattle.texts.specs.Colon.{single_at}
use Rattle.tables.specs.Layout.{unused}
use Rattle.grammar.specs.State.{gap_at}
use Rattle.lists.specs.declared.WordList.{WordList}
use Rattle.lists.specs.declared.WordList.TheVariants.{TokenList, UnusedList, TypeList}
use Rattle.lists.specs.Lists.{ends}
use Rattle.lists.specs.Written.{Listed, UnusedWord}
use Rattle.alike.specs.Like.{Same, Fields, fields}
use Rattle.alike.specs.Stands.{TokenAt}

-- a word of an `%expect-unused` list, spelled x, with its row of table 6
pub record UnusedAt (s : List ℕ) (i end : ℕ) (x : List ℕ) : Type 0 where
  pub row : List ℕ
  pub is : UnusedWord s i end row
  pub spelled : slice i end s ≡ x

-- the words of a list; kind 4 alone has lists of types
abbrev pub WordAt : WordList → List ℕ → ℕ → ℕ → List ℕ → Type 0
WordAt TokenList s i end x = TokenAt s i end x
WordAt UnusedList s i end x = UnusedAt s i end x
WordAt TypeList s i end x = ⊥

-- a list behind its keyword, which ends at `at`, up to j
abbrev pub Spelled : WordList → ℕ → List ℕ → ℕ → ℕ → List (List ℕ) → Type 0
Spelled what kind s at j xs = Listed what kind (WordAt what s) s at j None xs

-- the same word, from i to e in one source and from j to f in another
pub record Tokens2 (src out : List ℕ) (i e j f : ℕ) (x : List ℕ) : Type 0 where
  pub here : TokenAt src i e x
  pub there : TokenAt out j f x
  pub same : Same src out here.place.from here.place.to there.place.from there.place.to

pub record Unused2 (src out : List ℕ) (i e j f : ℕ) (x : List ℕ) : Type 0 where
  pub here : UnusedAt src i e x
  pub there : UnusedAt out j f x
  pub same : Fields src out (fields unused) here.row there.row

abbrev pub Words2 : WordList → List ℕ → List ℕ → ℕ → ℕ → ℕ → ℕ → List ℕ → Type 0
Words2 TokenList src out i e j f x = Tokens2 src out i e j f x
Words2 UnusedList src out i e j f x = Unused2 src out i e j f x
Words2 TypeList src out i e j f x = ⊥

-- two lists of the same words: from i in one source and from j in the other, up to k and l
pub data Pairs (what : WordList) (kind : ℕ) (src out : List ℕ) : ℕ → ℕ → ℕ → ℕ → List (List ℕ) → Type 0 where
  none : {i j : ℕ} → ends src i ≡ true → ends out j ≡ true → Pairs what kind src out i j i j []
  pair : {i j m n o p k l : ℕ} {x : List ℕ} {xs : List (List ℕ)} (e f : ℕ) → ends src i ≡ false → ends out j ≡ false → Words2 what src out i e j f x
      → gap_at kind true src e ≡ Ok (m, n) → gap_at kind true out f ≡ Ok (o, p) → Pairs what kind src out m o k l xs → Pairs what kind src out i j k l (x ∷ xs)

-- whether the spacing behind a word ends its line, by the lines that it counts
abbrev pub Ends : Bool → ℕ → Type 0
Ends true n = 0 < n
Ends false n = n ≡ 0

-- the words of a line from i on, with spacing behind each, which ends the line behind the last one, at k
pub data Row1 (kind : ℕ) (src : List ℕ) : ℕ → ℕ → List (List ℕ) → Type 0 where
  end1 : {i e k n : ℕ} {x : List ℕ} → TokenAt src i e x → gap_at kind true src e ≡ Ok (k, n) → Ends true n → Row1 kind src i k (x ∷ [])
  more1 : {i e m k n : ℕ} {x : List ℕ} {xs : List (List ℕ)} → TokenAt src i e x → gap_at kind true src e ≡ Ok (m, n) → Ends false n → Row1 kind src m k xs → Row1 kind src i k (x ∷ xs)

-- the same behind the keyword
pub record Lined (kind : ℕ) (src : List ℕ) (at k : ℕ) (xs : List (List ℕ)) : Type 0 where
  pub from : ℕ
  pub lines : ℕ
  pub gap : gap_at kind false src at ≡ Ok (from, lines)
  pub row : Row1 kind src from k xs

-- two lines of the same words
pub data Row2 (kind : ℕ) (src out : List ℕ) : ℕ → ℕ → ℕ → ℕ → List (List ℕ) → Type 0 where
  end2 : {i j e f k n l o : ℕ} {x : List ℕ} → Tokens2 src out i e j f x
      → gap_at kind true src e ≡ Ok (k, n) → Ends true n → gap_at kind true out f ≡ Ok (l, o) → Ends true o → Row2 kind src out i j k l (x ∷ [])
  more2 : {i j e f m n o p k l : ℕ} {x : List ℕ} {xs : List (List ℕ)} → Tokens2 src out i e j f x
      → gap_at kind true src e ≡ Ok (m, n) → Ends false n → gap_at kind true out f ≡ Ok (o, p) → Ends false p → Row2 kind src out m o k l xs → Row2 kind src out i j k l (x ∷ xs)

-- what stands behind the keyword of a declaration that gives one thing: a name, an integer of a value, or a text to the line end, which is not empty
pub data Single : Type 0 where
  name : Single
  integer : ℕ → Single
  line : Single

abbrev pub SingleAt : Single → List ℕ → ℕ → ℕ → Type 0
SingleAt name s i e = name_at s i ≡ Ok e
SingleAt (integer v) s i e = int_at s i ≡ Ok (v, e)
SingleAt line s i e = (line_end_at s i ≡ e) × (i < e) × (e < length s)

-- it stands behind a keyword that ends at `at`, spelled x, and the spacing behind it ends at k
pub record Given (w : Single) (kind : ℕ) (s : List ℕ) (at k : ℕ) (x : List ℕ) : Type 0 where
  pub from : ℕ
  pub to : ℕ
  pub lines : ℕ
  pub more : ℕ
  pub gap : gap_at kind false s at ≡ Ok (from, lines)
  pub is : SingleAt w s from to
  pub spelled : slice from to s ≡ x
  pub on : gap_at kind true s to ≡ Ok (k, more)

-- `%epp`: a key, spelled x, and a string, spelled y with its quotes
pub record Epped (kind : ℕ) (s : List ℕ) (at k : ℕ) (x y : List ℕ) : Type 0 where
  pub from : ℕ
  pub to : ℕ
  pub lines : ℕ
  pub gap : gap_at kind false s at ≡ Ok (from, lines)
  pub key : TokenAt s from to x
  pub value : ℕ
  pub end : ℕ
  pub apart : ℕ
  pub between : gap_at kind false s to ≡ Ok (value, apart)
  pub text : string_at s value ≡ Ok end
  pub spelled : slice value end s ≡ y
  pub more : ℕ
  pub on : gap_at kind true s end ≡ Ok (k, more)

-- `%parse-param`: a text to a single colon, spelled x, and behind the colon one to the line end, spelled y
pub record Params (kind : ℕ) (s : List ℕ) (at k : ℕ) (x y : List ℕ) : Type 0 where
  pub from : ℕ
  pub lines : ℕ
  pub gap : gap_at kind false s at ≡ Ok (from, lines)
  pub colon : ℕ
  pub counted : ℕ
  pub is : single_at s from ≡ Ok (colon, counted)
  pub spelled : slice from colon s ≡ x
  pub text : Text x
  pub type : Given line kind s (colon + 1) k y
