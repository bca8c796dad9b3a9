-- Document 01, "Declarations": "Keywords match by prefix and in the order of document 000: `%expect_rr`, `%expect-unused`, `%expect`."
use Rattle.std.specs.Prelude.{ℕ, ◌+◌, ◌≤◌, ◌<◌, ◌≡◌, List, [], ◌∷◌, Bool, true, false, ◌&&◌, ◌||◌, eqb, length}
use Rattle.scan.specs.Scan.{starts_at}
use Rattle.keywords.specs.declared.Keyword.{Keyword}
use Rattle.keywords.specs.declared.Keyword.TheVariants.{Percents, TokenWord, ActiontypeWord, StartWord, EppWord, ExpectRrWord, ExpectUnusedWord, ExpectWord, AvoidInsertWord, ParseParamWord, ParseGenericsWord, ImplicitTokensWord, LeftWord, RightWord, NonassocWord, PrologueWord, UnionWord, TypeWord, NoKeyword}
use Rattle.keywords.specs.declared.Seen.{Seen}

-- a keyword as it is spelled, and the kinds that know it, or [] for all
pub record Entry : Type 0 where
  pub word : List ℕ
  pub is : Keyword
  pub kinds : List ℕ

abbrev entry : List ℕ → Keyword → List ℕ → Entry
entry word is kinds = record { word = word; is = is; kinds = kinds }

-- "Kind 1 alone knows `%actiontype` (an untrimmed text), kind 3 alone `%implicit_tokens`; elsewhere each is 12."
-- Document 02, request Nine: kind 4 knows `%{`, `%union` and `%type` besides what kind 1 knows.
abbrev pub keywords : List Entry
keywords =
    -- `%%`
    entry (37 ∷ 37 ∷ []) Percents []
    -- `%token`
    ∷ entry (37 ∷ 116 ∷ 111 ∷ 107 ∷ 101 ∷ 110 ∷ []) TokenWord []
    -- `%actiontype`
    ∷ entry (37 ∷ 97 ∷ 99 ∷ 116 ∷ 105 ∷ 111 ∷ 110 ∷ 116 ∷ 121 ∷ 112 ∷ 101 ∷ []) ActiontypeWord (1 ∷ 4 ∷ [])
    -- `%start`
    ∷ entry (37 ∷ 115 ∷ 116 ∷ 97 ∷ 114 ∷ 116 ∷ []) StartWord []
    -- `%epp`
    ∷ entry (37 ∷ 101 ∷ 112 ∷ 112 ∷ []) EppWord []
    -- `%expect_rr`
    ∷ entry (37 ∷ 101 ∷ 120 ∷ 112 ∷ 101 ∷ 99 ∷ 116 ∷ 45 ∷ 114 ∷ 114 ∷ []) ExpectRrWord []
    -- `%expect-unused`
    ∷ entry (37 ∷ 101 ∷ 120 ∷ 112 ∷ 101 ∷ 99 ∷ 116 ∷ 45 ∷ 117 ∷ 110 ∷ 117 ∷ 115 ∷ 101 ∷ 100 ∷ []) ExpectUnusedWord []
    -- `%expect`
    ∷ entry (37 ∷ 101 ∷ 120 ∷ 112 ∷ 101 ∷ 99 ∷ 116 ∷ []) ExpectWord []
    -- `%avoid_insert`
    ∷ entry (37 ∷ 97 ∷ 118 ∷ 111 ∷ 105 ∷ 100 ∷ 95 ∷ 105 ∷ 110 ∷ 115 ∷ 101 ∷ 114 ∷ 116 ∷ []) AvoidInsertWord []
    -- `%parse-param`
    ∷ entry (37 ∷ 112 ∷ 97 ∷ 114 ∷ 115 ∷ 101 ∷ 45 ∷ 112 ∷ 97 ∷ 114 ∷ 97 ∷ 109 ∷ []) ParseParamWord []
    -- `%parse-generics`
    ∷ entry (37 ∷ 112 ∷ 97 ∷ 114 ∷ 115 ∷ 101 ∷ 45 ∷ 103 ∷ 101 ∷ 110 ∷ 101 ∷ 114 ∷ 105 ∷ 99 ∷ 115 ∷ []) ParseGenericsWord []
    -- `%implicit_tokens`
    ∷ entry (37 ∷ 105 ∷ 109 ∷ 112 ∷ 108 ∷ 105 ∷ 99 ∷ 105 ∷ 116 ∷ 95 ∷ 116 ∷ 111 ∷ 107 ∷ 101 ∷ 110 ∷ 115 ∷ []) ImplicitTokensWord (3 ∷ [])
    -- `%left`
    ∷ entry (37 ∷ 108 ∷ 101 ∷ 102 ∷ 116 ∷ []) LeftWord []
    -- `%right`
    ∷ entry (37 ∷ 114 ∷ 105 ∷ 103 ∷ 104 ∷ 116 ∷ []) RightWord []
    -- `%nonassoc`
    ∷ entry (37 ∷ 110 ∷ 111 ∷ 110 ∷ 97 ∷ 115 ∷ 115 ∷ 111 ∷ 99 ∷ []) NonassocWord []
    -- `%{`
    ∷ entry (37 ∷ 123 ∷ []) PrologueWord (4 ∷ [])
    -- `%union`
    ∷ entry (37 ∷ 117 ∷ 110 ∷ 105 ∷ 111 ∷ 110 ∷ []) UnionWord (4 ∷ [])
    -- `%type`
    ∷ entry (37 ∷ 116 ∷ 121 ∷ 112 ∷ 101 ∷ []) TypeWord (4 ∷ [])
    ∷ []

abbrev pub one_of : ℕ → List ℕ → Bool
one_of kind [] = false
one_of kind (k ∷ ks) = eqb kind k || one_of kind ks

abbrev pub knows : ℕ → List ℕ → Bool
knows kind [] = true
knows kind (k ∷ ks) = one_of kind (k ∷ ks)

-- the first of the entries that stands at this place
unfoldable pub first_of : List Entry → ℕ → List ℕ → ℕ → Seen
first_of [] kind src at = record { word = NoKeyword; end = at }
first_of (e ∷ es) kind src at =
    elim (knows kind e.kinds && starts_at e.word src at) [
      | true ↦ record { word = e.is; end = at + length e.word }
      | false ↦ first_of es kind src at
    ]

unfoldable pub seen_at : ℕ → List ℕ → ℕ → Seen
seen_at kind src at = first_of keywords kind src at

-- Places: a keyword has at least two bytes, and lies in the source
pub record Sees (src : List ℕ) (at : ℕ) (r : Seen) : Type 0 where
  pub onward : at ≤ r.end
  pub inside : r.end ≤ length src
  pub beyond : (r.word ≡ NoKeyword → ⊥) → at + 1 < r.end
