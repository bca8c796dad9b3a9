-- Small inputs of `look`, under one statement: the source, the index, the kind; the keyword's number and its end.
use Rattle.std.specs.Prelude.{ℕ, ◌≡◌, refl, true, List, [], ◌∷◌}
use Rattle.scan.specs.Scan.{begins, starts_at}
use Rattle.scan.specs.Table.{Case, same, all}
use Rattle.keywords.specs.declared.Keyword.{Keyword}
use Rattle.keywords.specs.declared.Keyword.TheVariants.{Percents, TokenWord, ActiontypeWord, StartWord, EppWord, ExpectRrWord, ExpectUnusedWord, ExpectWord, AvoidInsertWord, ParseParamWord, ParseGenericsWord, ImplicitTokensWord, LeftWord, RightWord, NonassocWord, PrologueWord, UnionWord, TypeWord, NoKeyword}
use Rattle.keywords.specs.declared.Seen.{Seen}
use Rattle.keywords.specs.Keywords.{first_of, seen_at}

pub record Input : Type 0 where
  pub src : List ℕ
  pub at : ℕ
  pub kind : ℕ

unfoldable pub row : List ℕ → ℕ → ℕ → ℕ → ℕ → Case Input
row src at kind number end = record { input = record { src = src; at = at; kind = kind }; gives = number ∷ end ∷ [] }

-- a keyword's position in the list of keywords, from 0 on; 18 for none
unfoldable pub number_of : Keyword → ℕ
number_of Percents = 0
number_of TokenWord = 1
number_of ActiontypeWord = 2
number_of StartWord = 3
number_of EppWord = 4
number_of ExpectRrWord = 5
number_of ExpectUnusedWord = 6
number_of ExpectWord = 7
number_of AvoidInsertWord = 8
number_of ParseParamWord = 9
number_of ParseGenericsWord = 10
number_of ImplicitTokensWord = 11
number_of LeftWord = 12
number_of RightWord = 13
number_of NonassocWord = 14
number_of PrologueWord = 15
number_of UnionWord = 16
number_of TypeWord = 17
number_of NoKeyword = 18

unfoldable pub answer : Seen → List ℕ
answer r = number_of r.word ∷ r.end ∷ []

unfoldable pub places : List (Case Input)
places =
    -- `%%` at 0, kind 1
    row (37 ∷ 37 ∷ []) 0 1 0 2
    -- ` %% a` at 1, kind 2
    ∷ row (32 ∷ 37 ∷ 37 ∷ 32 ∷ 97 ∷ []) 1 2 0 3
    -- `ab%%` at 2, kind 3
    ∷ row (97 ∷ 98 ∷ 37 ∷ 37 ∷ []) 2 3 0 4
    -- `%token` at 0, kind 1
    ∷ row (37 ∷ 116 ∷ 111 ∷ 107 ∷ 101 ∷ 110 ∷ []) 0 1 1 6
    -- ` %token a` at 1, kind 2
    ∷ row (32 ∷ 37 ∷ 116 ∷ 111 ∷ 107 ∷ 101 ∷ 110 ∷ 32 ∷ 97 ∷ []) 1 2 1 7
    -- `ab%token` at 2, kind 3
    ∷ row (97 ∷ 98 ∷ 37 ∷ 116 ∷ 111 ∷ 107 ∷ 101 ∷ 110 ∷ []) 2 3 1 8
    -- `%actiontype` at 0, kind 1
    ∷ row (37 ∷ 97 ∷ 99 ∷ 116 ∷ 105 ∷ 111 ∷ 110 ∷ 116 ∷ 121 ∷ 112 ∷ 101 ∷ []) 0 1 2 11
    -- `%start` at 0, kind 1
    ∷ row (37 ∷ 115 ∷ 116 ∷ 97 ∷ 114 ∷ 116 ∷ []) 0 1 3 6
    -- ` %start a` at 1, kind 2
    ∷ row (32 ∷ 37 ∷ 115 ∷ 116 ∷ 97 ∷ 114 ∷ 116 ∷ 32 ∷ 97 ∷ []) 1 2 3 7
    -- `ab%start` at 2, kind 3
    ∷ row (97 ∷ 98 ∷ 37 ∷ 115 ∷ 116 ∷ 97 ∷ 114 ∷ 116 ∷ []) 2 3 3 8
    -- `%epp` at 0, kind 1
    ∷ row (37 ∷ 101 ∷ 112 ∷ 112 ∷ []) 0 1 4 4
    -- ` %epp a` at 1, kind 2
    ∷ row (32 ∷ 37 ∷ 101 ∷ 112 ∷ 112 ∷ 32 ∷ 97 ∷ []) 1 2 4 5
    -- `ab%epp` at 2, kind 3
    ∷ row (97 ∷ 98 ∷ 37 ∷ 101 ∷ 112 ∷ 112 ∷ []) 2 3 4 6
    -- `%expect_rr` at 0, kind 1
    ∷ row (37 ∷ 101 ∷ 120 ∷ 112 ∷ 101 ∷ 99 ∷ 116 ∷ 45 ∷ 114 ∷ 114 ∷ []) 0 1 5 10
    -- ` %expect_rr a` at 1, kind 2
    ∷ row (32 ∷ 37 ∷ 101 ∷ 120 ∷ 112 ∷ 101 ∷ 99 ∷ 116 ∷ 45 ∷ 114 ∷ 114 ∷ 32 ∷ 97 ∷ []) 1 2 5 11
    -- `ab%expect_rr` at 2, kind 3
    ∷ row (97 ∷ 98 ∷ 37 ∷ 101 ∷ 120 ∷ 112 ∷ 101 ∷ 99 ∷ 116 ∷ 45 ∷ 114 ∷ 114 ∷ []) 2 3 5 12
    -- `%expect-unused` at 0, kind 1
    ∷ row (37 ∷ 101 ∷ 120 ∷ 112 ∷ 101 ∷ 99 ∷ 116 ∷ 45 ∷ 117 ∷ 110 ∷ 117 ∷ 115 ∷ 101 ∷ 100 ∷ []) 0 1 6 14
    -- ` %expect-unused a` at 1, kind 2
    ∷ row (32 ∷ 37 ∷ 101 ∷ 120 ∷ 112 ∷ 101 ∷ 99 ∷ 116 ∷ 45 ∷ 117 ∷ 110 ∷ 117 ∷ 115 ∷ 101 ∷ 100 ∷ 32 ∷ 97 ∷ []) 1 2 6 15
    -- `ab%expect-unused` at 2, kind 3
    ∷ row (97 ∷ 98 ∷ 37 ∷ 101 ∷ 120 ∷ 112 ∷ 101 ∷ 99 ∷ 116 ∷ 45 ∷ 117 ∷ 110 ∷ 117 ∷ 115 ∷ 101 ∷ 100 ∷ []) 2 3 6 16
    -- `%expect` at 0, kind 1
    ∷ row (37 ∷ 101 ∷ 120 ∷ 112 ∷ 101 ∷ 99 ∷ 116 ∷ []) 0 1 7 7
    -- ` %expect a` at 1, kind 2
    ∷ row (32 ∷ 37 ∷ 101 ∷ 120 ∷ 112 ∷ 101 ∷ 99 ∷ 116 ∷ 32 ∷ 97 ∷ []) 1 2 7 8
    -- `ab%expect` at 2, kind 3
    ∷ row (97 ∷ 98 ∷ 37 ∷ 101 ∷ 120 ∷ 112 ∷ 101 ∷ 99 ∷ 116 ∷ []) 2 3 7 9
    -- `%avoid_insert` at 0, kind 1
    ∷ row (37 ∷ 97 ∷ 118 ∷ 111 ∷ 105 ∷ 100 ∷ 95 ∷ 105 ∷ 110 ∷ 115 ∷ 101 ∷ 114 ∷ 116 ∷ []) 0 1 8 13
    -- ` %avoid_insert a` at 1, kind 2
    ∷ row (32 ∷ 37 ∷ 97 ∷ 118 ∷ 111 ∷ 105 ∷ 100 ∷ 95 ∷ 105 ∷ 110 ∷ 115 ∷ 101 ∷ 114 ∷ 116 ∷ 32 ∷ 97 ∷ []) 1 2 8 14
    -- `ab%avoid_insert` at 2, kind 3
    ∷ row (97 ∷ 98 ∷ 37 ∷ 97 ∷ 118 ∷ 111 ∷ 105 ∷ 100 ∷ 95 ∷ 105 ∷ 110 ∷ 115 ∷ 101 ∷ 114 ∷ 116 ∷ []) 2 3 8 15
    -- `%parse-param` at 0, kind 1
    ∷ row (37 ∷ 112 ∷ 97 ∷ 114 ∷ 115 ∷ 101 ∷ 45 ∷ 112 ∷ 97 ∷ 114 ∷ 97 ∷ 109 ∷ []) 0 1 9 12
    -- ` %parse-param a` at 1, kind 2
    ∷ row (32 ∷ 37 ∷ 112 ∷ 97 ∷ 114 ∷ 115 ∷ 101 ∷ 45 ∷ 112 ∷ 97 ∷ 114 ∷ 97 ∷ 109 ∷ 32 ∷ 97 ∷ []) 1 2 9 13
    -- `ab%parse-param` at 2, kind 3
    ∷ row (97 ∷ 98 ∷ 37 ∷ 112 ∷ 97 ∷ 114 ∷ 115 ∷ 101 ∷ 45 ∷ 112 ∷ 97 ∷ 114 ∷ 97 ∷ 109 ∷ []) 2 3 9 14
    -- `%parse-generics` at 0, kind 1
    ∷ row (37 ∷ 112 ∷ 97 ∷ 114 ∷ 115 ∷ 101 ∷ 45 ∷ 103 ∷ 101 ∷ 110 ∷ 101 ∷ 114 ∷ 105 ∷ 99 ∷ 115 ∷ []) 0 1 10 15
    -- ` %parse-generics a` at 1, kind 2
    ∷ row (32 ∷ 37 ∷ 112 ∷ 97 ∷ 114 ∷ 115 ∷ 101 ∷ 45 ∷ 103 ∷ 101 ∷ 110 ∷ 101 ∷ 114 ∷ 105 ∷ 99 ∷ 115 ∷ 32 ∷ 97 ∷ []) 1 2 10 16
    -- `ab%parse-generics` at 2, kind 3
    ∷ row (97 ∷ 98 ∷ 37 ∷ 112 ∷ 97 ∷ 114 ∷ 115 ∷ 101 ∷ 45 ∷ 103 ∷ 101 ∷ 110 ∷ 101 ∷ 114 ∷ 105 ∷ 99 ∷ 115 ∷ []) 2 3 10 17
    -- `ab%implicit_tokens` at 2, kind 3
    ∷ row (97 ∷ 98 ∷ 37 ∷ 105 ∷ 109 ∷ 112 ∷ 108 ∷ 105 ∷ 99 ∷ 105 ∷ 116 ∷ 95 ∷ 116 ∷ 111 ∷ 107 ∷ 101 ∷ 110 ∷ 115 ∷ []) 2 3 11 18
    -- `%left` at 0, kind 1
    ∷ row (37 ∷ 108 ∷ 101 ∷ 102 ∷ 116 ∷ []) 0 1 12 5
    -- ` %left a` at 1, kind 2
    ∷ row (32 ∷ 37 ∷ 108 ∷ 101 ∷ 102 ∷ 116 ∷ 32 ∷ 97 ∷ []) 1 2 12 6
    -- `ab%left` at 2, kind 3
    ∷ row (97 ∷ 98 ∷ 37 ∷ 108 ∷ 101 ∷ 102 ∷ 116 ∷ []) 2 3 12 7
    -- `%right` at 0, kind 1
    ∷ row (37 ∷ 114 ∷ 105 ∷ 103 ∷ 104 ∷ 116 ∷ []) 0 1 13 6
    -- ` %right a` at 1, kind 2
    ∷ row (32 ∷ 37 ∷ 114 ∷ 105 ∷ 103 ∷ 104 ∷ 116 ∷ 32 ∷ 97 ∷ []) 1 2 13 7
    -- `ab%right` at 2, kind 3
    ∷ row (97 ∷ 98 ∷ 37 ∷ 114 ∷ 105 ∷ 103 ∷ 104 ∷ 116 ∷ []) 2 3 13 8
    -- `%nonassoc` at 0, kind 1
    ∷ row (37 ∷ 110 ∷ 111 ∷ 110 ∷ 97 ∷ 115 ∷ 115 ∷ 111 ∷ 99 ∷ []) 0 1 14 9
    -- ` %nonassoc a` at 1, kind 2
    ∷ row (32 ∷ 37 ∷ 110 ∷ 111 ∷ 110 ∷ 97 ∷ 115 ∷ 115 ∷ 111 ∷ 99 ∷ 32 ∷ 97 ∷ []) 1 2 14 10
    -- `ab%nonassoc` at 2, kind 3
    ∷ row (97 ∷ 98 ∷ 37 ∷ 110 ∷ 111 ∷ 110 ∷ 97 ∷ 115 ∷ 115 ∷ 111 ∷ 99 ∷ []) 2 3 14 11
    -- `%actiontype` at 0, kind 2
    ∷ row (37 ∷ 97 ∷ 99 ∷ 116 ∷ 105 ∷ 111 ∷ 110 ∷ 116 ∷ 121 ∷ 112 ∷ 101 ∷ []) 0 2 18 0
    -- `%actiontype` at 0, kind 3
    ∷ row (37 ∷ 97 ∷ 99 ∷ 116 ∷ 105 ∷ 111 ∷ 110 ∷ 116 ∷ 121 ∷ 112 ∷ 101 ∷ []) 0 3 18 0
    -- `%implicit_tokens` at 0, kind 1
    ∷ row (37 ∷ 105 ∷ 109 ∷ 112 ∷ 108 ∷ 105 ∷ 99 ∷ 105 ∷ 116 ∷ 95 ∷ 116 ∷ 111 ∷ 107 ∷ 101 ∷ 110 ∷ 115 ∷ []) 0 1 18 0
    -- `%implicit_tokens` at 0, kind 2
    ∷ row (37 ∷ 105 ∷ 109 ∷ 112 ∷ 108 ∷ 105 ∷ 99 ∷ 105 ∷ 116 ∷ 95 ∷ 116 ∷ 111 ∷ 107 ∷ 101 ∷ 110 ∷ 115 ∷ []) 0 2 18 0
    -- `%expectx` at 0, kind 1
    ∷ row (37 ∷ 101 ∷ 120 ∷ 112 ∷ 101 ∷ 99 ∷ 116 ∷ 120 ∷ []) 0 1 7 7
    -- `%expect-` at 0, kind 1
    ∷ row (37 ∷ 101 ∷ 120 ∷ 112 ∷ 101 ∷ 99 ∷ 116 ∷ 45 ∷ []) 0 1 7 7
    -- `%expect-r` at 0, kind 2
    ∷ row (37 ∷ 101 ∷ 120 ∷ 112 ∷ 101 ∷ 99 ∷ 116 ∷ 45 ∷ 114 ∷ []) 0 2 7 7
    -- `%expect-unuse` at 0, kind 3
    ∷ row (37 ∷ 101 ∷ 120 ∷ 112 ∷ 101 ∷ 99 ∷ 116 ∷ 45 ∷ 117 ∷ 110 ∷ 117 ∷ 115 ∷ 101 ∷ []) 0 3 7 7
    -- `%expect-rrx` at 0, kind 1
    ∷ row (37 ∷ 101 ∷ 120 ∷ 112 ∷ 101 ∷ 99 ∷ 116 ∷ 45 ∷ 114 ∷ 114 ∷ 120 ∷ []) 0 1 5 10
    -- `%tokens` at 0, kind 1
    ∷ row (37 ∷ 116 ∷ 111 ∷ 107 ∷ 101 ∷ 110 ∷ 115 ∷ []) 0 1 1 6
    -- `%%%` at 1, kind 1
    ∷ row (37 ∷ 37 ∷ 37 ∷ []) 1 1 0 3
    -- `%%token` at 0, kind 1
    ∷ row (37 ∷ 37 ∷ 116 ∷ 111 ∷ 107 ∷ 101 ∷ 110 ∷ []) 0 1 0 2
    -- `%lef` at 0, kind 1
    ∷ row (37 ∷ 108 ∷ 101 ∷ 102 ∷ []) 0 1 18 0
    -- `%Left` at 0, kind 1
    ∷ row (37 ∷ 76 ∷ 101 ∷ 102 ∷ 116 ∷ []) 0 1 18 0
    -- `% left` at 0, kind 1
    ∷ row (37 ∷ 32 ∷ 108 ∷ 101 ∷ 102 ∷ 116 ∷ []) 0 1 18 0
    -- `%parse-para` at 0, kind 2
    ∷ row (37 ∷ 112 ∷ 97 ∷ 114 ∷ 115 ∷ 101 ∷ 45 ∷ 112 ∷ 97 ∷ 114 ∷ 97 ∷ []) 0 2 18 0
    -- `left` at 0, kind 1
    ∷ row (108 ∷ 101 ∷ 102 ∷ 116 ∷ []) 0 1 18 0
    -- `a%left` at 0, kind 1
    ∷ row (97 ∷ 37 ∷ 108 ∷ 101 ∷ 102 ∷ 116 ∷ []) 0 1 18 0
    -- nothing at 0, kind 1
    ∷ row [] 0 1 18 0
    -- `%` at 0, kind 1
    ∷ row (37 ∷ []) 0 1 18 0
    -- `a%` at 1, kind 3
    ∷ row (97 ∷ 37 ∷ []) 1 3 18 1
    -- `a%%` at 1, kind 1
    ∷ row (97 ∷ 37 ∷ 37 ∷ []) 1 1 0 3
    -- `a%%` at 2, kind 1
    ∷ row (97 ∷ 37 ∷ 37 ∷ []) 2 1 18 2
    -- `a%%` at 3, kind 2
    ∷ row (97 ∷ 37 ∷ 37 ∷ []) 3 2 18 3
    -- `%{` at 0, kind 4
    ∷ row (37 ∷ 123 ∷ []) 0 4 15 2
    -- ` %{ a` at 1, kind 4
    ∷ row (32 ∷ 37 ∷ 123 ∷ 32 ∷ 97 ∷ []) 1 4 15 3
    -- `ab%{` at 2, kind 4
    ∷ row (97 ∷ 98 ∷ 37 ∷ 123 ∷ []) 2 4 15 4
    -- `%union` at 0, kind 4
    ∷ row (37 ∷ 117 ∷ 110 ∷ 105 ∷ 111 ∷ 110 ∷ []) 0 4 16 6
    -- ` %union a` at 1, kind 4
    ∷ row (32 ∷ 37 ∷ 117 ∷ 110 ∷ 105 ∷ 111 ∷ 110 ∷ 32 ∷ 97 ∷ []) 1 4 16 7
    -- `ab%union` at 2, kind 4
    ∷ row (97 ∷ 98 ∷ 37 ∷ 117 ∷ 110 ∷ 105 ∷ 111 ∷ 110 ∷ []) 2 4 16 8
    -- `%type` at 0, kind 4
    ∷ row (37 ∷ 116 ∷ 121 ∷ 112 ∷ 101 ∷ []) 0 4 17 5
    -- ` %type a` at 1, kind 4
    ∷ row (32 ∷ 37 ∷ 116 ∷ 121 ∷ 112 ∷ 101 ∷ 32 ∷ 97 ∷ []) 1 4 17 6
    -- `ab%type` at 2, kind 4
    ∷ row (97 ∷ 98 ∷ 37 ∷ 116 ∷ 121 ∷ 112 ∷ 101 ∷ []) 2 4 17 7
    -- `%{` at 0, kind 1
    ∷ row (37 ∷ 123 ∷ []) 0 1 18 0
    -- `%{` at 0, kind 2
    ∷ row (37 ∷ 123 ∷ []) 0 2 18 0
    -- `%{` at 0, kind 3
    ∷ row (37 ∷ 123 ∷ []) 0 3 18 0
    -- `%union` at 0, kind 1
    ∷ row (37 ∷ 117 ∷ 110 ∷ 105 ∷ 111 ∷ 110 ∷ []) 0 1 18 0
    -- `%union` at 0, kind 2
    ∷ row (37 ∷ 117 ∷ 110 ∷ 105 ∷ 111 ∷ 110 ∷ []) 0 2 18 0
    -- `%union` at 0, kind 3
    ∷ row (37 ∷ 117 ∷ 110 ∷ 105 ∷ 111 ∷ 110 ∷ []) 0 3 18 0
    -- `%type` at 0, kind 1
    ∷ row (37 ∷ 116 ∷ 121 ∷ 112 ∷ 101 ∷ []) 0 1 18 0
    -- `%type` at 0, kind 2
    ∷ row (37 ∷ 116 ∷ 121 ∷ 112 ∷ 101 ∷ []) 0 2 18 0
    -- `%type` at 0, kind 3
    ∷ row (37 ∷ 116 ∷ 121 ∷ 112 ∷ 101 ∷ []) 0 3 18 0
    -- `%actiontype` at 0, kind 4
    ∷ row (37 ∷ 97 ∷ 99 ∷ 116 ∷ 105 ∷ 111 ∷ 110 ∷ 116 ∷ 121 ∷ 112 ∷ 101 ∷ []) 0 4 2 11
    -- `ab%actiontype` at 2, kind 4
    ∷ row (97 ∷ 98 ∷ 37 ∷ 97 ∷ 99 ∷ 116 ∷ 105 ∷ 111 ∷ 110 ∷ 116 ∷ 121 ∷ 112 ∷ 101 ∷ []) 2 4 2 13
    -- `%implicit_tokens` at 0, kind 4
    ∷ row (37 ∷ 105 ∷ 109 ∷ 112 ∷ 108 ∷ 105 ∷ 99 ∷ 105 ∷ 116 ∷ 95 ∷ 116 ∷ 111 ∷ 107 ∷ 101 ∷ 110 ∷ 115 ∷ []) 0 4 18 0
    -- `%token` at 0, kind 4
    ∷ row (37 ∷ 116 ∷ 111 ∷ 107 ∷ 101 ∷ 110 ∷ []) 0 4 1 6
    -- `%typex` at 0, kind 4
    ∷ row (37 ∷ 116 ∷ 121 ∷ 112 ∷ 101 ∷ 120 ∷ []) 0 4 17 5
    -- `%unio` at 0, kind 4
    ∷ row (37 ∷ 117 ∷ 110 ∷ 105 ∷ 111 ∷ []) 0 4 18 0
    -- `%{%}` at 0, kind 4
    ∷ row (37 ∷ 123 ∷ 37 ∷ 125 ∷ []) 0 4 15 2
    ∷ []

pub places_hold : all (λ x. answer (seen_at x.kind x.src x.at)) places ≡ true
unfolding all same row places number_of answer seen_at first_of starts_at begins
places_hold = refl
