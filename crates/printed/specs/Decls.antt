-- Request eleven: the declarations of a specification by their words, the text that they are shipped as, and where they stand in a source.
use Rattle.std.specs.Prelude.{ℕ, ◌≡◌, List, [], ◌∷◌, ◌++◌, Bool, true, false, Some, Ok}
use Rattle.keywords.specs.declared.Keyword.{Keyword}
use Rattle.keywords.specs.declared.Keyword.TheVariants.{Percents, TokenWord, ActiontypeWord, StartWord, EppWord, ExpectRrWord, ExpectUnusedWord, ExpectWord, AvoidInsertWord, ParseParamWord, ParseGenericsWord, ImplicitTokensWord, LeftWord, RightWord, NonassocWord, PrologueWord, UnionWord, TypeWord, NoKeyword}
use Rattle.keywords.specs.Keywords.{seen_at}
use Rattle.tables.specs.Layout.{avoided, implicit}
use Rattle.grammar.specs.declared.Repeat.{Repeat}
use Rattle.grammar.specs.declared.Repeat.TheVariants.{RepeatedAvoidInsert, RepeatedImplicitTokens}
use Rattle.grammar.specs.State.{gap_at}
use Rattle.lists.specs.declared.WordList.{WordList}
use Rattle.lists.specs.declared.WordList.TheVariants.{TokenList, UnusedList, TypeList}
use Rattle.printed.specs.Print.{words}
use Rattle.printed.specs.Stands.{name, integer, line, Spelled, Lined, Given, Epped, Params}

-- a list that runs to the next `%`, one that ends with its line, one name, integer or text, a key and its string, a parameter and its type
pub data Decl : Type 0 where
  listed : WordList → List (List ℕ) → Decl
  lined : Keyword → List (List ℕ) → Decl
  single : Keyword → List ℕ → Decl
  paired : List ℕ → List ℕ → Decl
  param : List ℕ → List ℕ → Decl

-- keywords as they are spelled; those of kind 4 are not shipped
abbrev pub spell : Keyword → List ℕ
-- `%%`
spell Percents = 37 ∷ 37 ∷ []
-- `%token`
spell TokenWord = 37 ∷ 116 ∷ 111 ∷ 107 ∷ 101 ∷ 110 ∷ []
-- `%actiontype`
spell ActiontypeWord = 37 ∷ 97 ∷ 99 ∷ 116 ∷ 105 ∷ 111 ∷ 110 ∷ 116 ∷ 121 ∷ 112 ∷ 101 ∷ []
-- `%start`
spell StartWord = 37 ∷ 115 ∷ 116 ∷ 97 ∷ 114 ∷ 116 ∷ []
-- `%epp`
spell EppWord = 37 ∷ 101 ∷ 112 ∷ 112 ∷ []
-- `%expect_rr`
spell ExpectRrWord = 37 ∷ 101 ∷ 120 ∷ 112 ∷ 101 ∷ 99 ∷ 116 ∷ 45 ∷ 114 ∷ 114 ∷ []
-- `%expect-unused`
spell ExpectUnusedWord = 37 ∷ 101 ∷ 120 ∷ 112 ∷ 101 ∷ 99 ∷ 116 ∷ 45 ∷ 117 ∷ 110 ∷ 117 ∷ 115 ∷ 101 ∷ 100 ∷ []
-- `%expect`
spell ExpectWord = 37 ∷ 101 ∷ 120 ∷ 112 ∷ 101 ∷ 99 ∷ 116 ∷ []
-- `%avoid_insert`
spell AvoidInsertWord = 37 ∷ 97 ∷ 118 ∷ 111 ∷ 105 ∷ 100 ∷ 95 ∷ 105 ∷ 110 ∷ 115 ∷ 101 ∷ 114 ∷ 116 ∷ []
-- `%parse-param`
spell ParseParamWord = 37 ∷ 112 ∷ 97 ∷ 114 ∷ 115 ∷ 101 ∷ 45 ∷ 112 ∷ 97 ∷ 114 ∷ 97 ∷ 109 ∷ []
-- `%parse-generics`
spell ParseGenericsWord = 37 ∷ 112 ∷ 97 ∷ 114 ∷ 115 ∷ 101 ∷ 45 ∷ 103 ∷ 101 ∷ 110 ∷ 101 ∷ 114 ∷ 105 ∷ 99 ∷ 115 ∷ []
-- `%implicit_tokens`
spell ImplicitTokensWord = 37 ∷ 105 ∷ 109 ∷ 112 ∷ 108 ∷ 105 ∷ 99 ∷ 105 ∷ 116 ∷ 95 ∷ 116 ∷ 111 ∷ 107 ∷ 101 ∷ 110 ∷ 115 ∷ []
-- `%left`
spell LeftWord = 37 ∷ 108 ∷ 101 ∷ 102 ∷ 116 ∷ []
-- `%right`
spell RightWord = 37 ∷ 114 ∷ 105 ∷ 103 ∷ 104 ∷ 116 ∷ []
-- `%nonassoc`
spell NonassocWord = 37 ∷ 110 ∷ 111 ∷ 110 ∷ 97 ∷ 115 ∷ 115 ∷ 111 ∷ 99 ∷ []
spell PrologueWord = []
spell UnionWord = []
spell TypeWord = []
spell NoKeyword = []

-- the keywords that kinds 1 to 3 know: "Kind 1 alone knows `%actiontype` [..], kind 3 alone `%implicit_tokens`"
abbrev pub Known : ℕ → Keyword → Type 0
Known kind Percents = Unit {0}
Known kind TokenWord = Unit {0}
Known kind ActiontypeWord = kind ≡ 1
Known kind StartWord = Unit {0}
Known kind EppWord = Unit {0}
Known kind ExpectRrWord = Unit {0}
Known kind ExpectUnusedWord = Unit {0}
Known kind ExpectWord = Unit {0}
Known kind AvoidInsertWord = Unit {0}
Known kind ParseParamWord = Unit {0}
Known kind ParseGenericsWord = Unit {0}
Known kind ImplicitTokensWord = kind ≡ 3
Known kind LeftWord = Unit {0}
Known kind RightWord = Unit {0}
Known kind NonassocWord = Unit {0}
Known kind PrologueWord = ⊥
Known kind UnionWord = ⊥
Known kind TypeWord = ⊥
Known kind NoKeyword = ⊥

abbrev pub list_keyword : WordList → Keyword
list_keyword TokenList = TokenWord
list_keyword UnusedList = ExpectUnusedWord
list_keyword TypeList = TypeWord

abbrev pub expect_keyword : Bool → Keyword
expect_keyword true = ExpectRrWord
expect_keyword false = ExpectWord

abbrev pub keyword_of : Decl → Keyword
keyword_of (listed what xs) = list_keyword what
keyword_of (lined w xs) = w
keyword_of (single w x) = w
keyword_of (paired x y) = EppWord
keyword_of (param x y) = ParseParamWord

-- a declaration on its line, in front of a text: behind the keyword single spaces, and a line end behind the last word
abbrev pub body_text : Decl → List ℕ → List ℕ
body_text (listed what xs) rest = words xs ++ (10 ∷ rest)
body_text (lined w xs) rest = words xs ++ (10 ∷ rest)
body_text (single w x) rest = 32 ∷ (x ++ (10 ∷ rest))
body_text (paired x y) rest = 32 ∷ (x ++ (32 ∷ (y ++ (10 ∷ rest))))
body_text (param x y) rest = 32 ∷ (x ++ (58 ∷ (32 ∷ (y ++ (10 ∷ rest)))))

abbrev pub decl_text : Decl → List ℕ → List ℕ
decl_text d rest = spell (keyword_of d) ++ body_text d rest

unfoldable pub decls_text : List Decl → List ℕ → List ℕ
decls_text [] rest = rest
decls_text (d ∷ ds) rest = decl_text d (decls_text ds rest)

-- the precedence lines with their association; the lists of names with their table and their repeat
pub data Assoc : Keyword → ℕ → Type 0 where
  left : Assoc LeftWord 1
  right : Assoc RightWord 2
  nonassoc : Assoc NonassocWord 3

pub data Names : Keyword → ℕ → Repeat → Type 0 where
  avoid_insert : Names AvoidInsertWord avoided RepeatedAvoidInsert
  implicit_tokens : Names ImplicitTokensWord implicit RepeatedImplicitTokens

-- a list with a word in it
abbrev pub NonEmpty : {A : Type 0} → List A → Type 0
NonEmpty [] = ⊥
NonEmpty (x ∷ xs) = Unit {0}

-- at i stands a keyword that ends at j
abbrev pub SeenTo : ℕ → List ℕ → ℕ → Keyword → ℕ → Type 0
SeenTo kind src i w j = seen_at kind src i ≡ record { word = w; end = j }

-- from i to k stands a declaration
pub data Decl1 (kind : ℕ) (src : List ℕ) (i k : ℕ) : Decl → Type 0 where
  listed1 : (what : WordList) {xs : List (List ℕ)} (j : ℕ) → SeenTo kind src i (list_keyword what) j → NonEmpty xs → Spelled what kind src j k xs → Decl1 kind src i k (listed what xs)
  prec1 : {w : Keyword} {assoc : ℕ} {xs : List (List ℕ)} (j : ℕ) → Assoc w assoc → SeenTo kind src i w j → Lined kind src j k xs → Decl1 kind src i k (lined w xs)
  names1 : {w : Keyword} {t : ℕ} {what : Repeat} {xs : List (List ℕ)} (j : ℕ) → Names w t what → SeenTo kind src i w j → Lined kind src j k xs → Decl1 kind src i k (lined w xs)
  start1 : {x : List ℕ} (j : ℕ) → SeenTo kind src i StartWord j → Given name kind src j k x → Decl1 kind src i k (single StartWord x)
  expect1 : (rr : Bool) (v : ℕ) {x : List ℕ} (j : ℕ) → SeenTo kind src i (expect_keyword rr) j → Given (integer v) kind src j k x → Decl1 kind src i k (single (expect_keyword rr) x)
  actiontype1 : {x : List ℕ} (j : ℕ) → SeenTo kind src i ActiontypeWord j → Given line kind src j k x → Decl1 kind src i k (single ActiontypeWord x)
  generics1 : {x : List ℕ} (j : ℕ) → SeenTo kind src i ParseGenericsWord j → Given line kind src j k x → Decl1 kind src i k (single ParseGenericsWord x)
  epp1 : {x y : List ℕ} (j : ℕ) → SeenTo kind src i EppWord j → Epped kind src j k x y → Decl1 kind src i k (paired x y)
  param1 : {x y : List ℕ} (j : ℕ) → SeenTo kind src i ParseParamWord j → Params kind src j k x y → Decl1 kind src i k (param x y)

-- from i on stand declarations, and then `%%` at k; a list with no word is left out
pub data Decls1 (kind : ℕ) (src : List ℕ) : ℕ → ℕ → List Decl → Type 0 where
  end1 : {i : ℕ} (j : ℕ) → SeenTo kind src i Percents j → Decls1 kind src i i []
  skip1 : {i j k : ℕ} {ds : List Decl} (what : WordList) (e : ℕ) → SeenTo kind src i (list_keyword what) e → Spelled what kind src e j [] → Decls1 kind src j k ds → Decls1 kind src i k ds
  decl1 : {i j k : ℕ} {d : Decl} {ds : List Decl} → Decl1 kind src i j d → Decls1 kind src j k ds → Decls1 kind src i k (d ∷ ds)

-- the section: spacing, and then the declarations
pub record Section1 (kind : ℕ) (src : List ℕ) (at k : ℕ) (ds : List Decl) : Type 0 where
  pub from : ℕ
  pub lines : ℕ
  pub gap : gap_at kind true src at ≡ Ok (from, lines)
  pub decls : Decls1 kind src from k ds
