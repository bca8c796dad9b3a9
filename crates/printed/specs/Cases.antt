-- An example of declarations as they are shipped.
use Rattle.std.specs.Prelude.{◌≡◌, refl, [], ◌∷◌}
use Rattle.keywords.specs.declared.Keyword.TheVariants.{ExpectRrWord, ParseGenericsWord, LeftWord}
use Rattle.lists.specs.declared.WordList.TheVariants.{TokenList}
use Rattle.printed.specs.Print.{words}
use Rattle.printed.specs.Decls.{listed, lined, single, paired, param, decls_text}

-- `%token A 'b'`, `%left '+' '-'`, `%epp A "x"`, `%expect_rr 01`, `%parse-param p::q : &T`, `%parse-generics /`, each on its line, and `%%`
pub ships_hold :
    decls_text
    (listed TokenList ((65 ∷ []) ∷ (39 ∷ 98 ∷ 39 ∷ []) ∷ [])
    ∷ lined LeftWord ((39 ∷ 43 ∷ 39 ∷ []) ∷ (39 ∷ 45 ∷ 39 ∷ []) ∷ [])
    ∷ paired (65 ∷ []) (34 ∷ 120 ∷ 34 ∷ [])
    ∷ single ExpectRrWord (48 ∷ 49 ∷ [])
    ∷ param (112 ∷ 58 ∷ 58 ∷ 113 ∷ 32 ∷ []) (38 ∷ 84 ∷ [])
    ∷ single ParseGenericsWord (47 ∷ [])
    ∷ [])
    (37 ∷ 37 ∷ 10 ∷ [])
    ≡ 37 ∷ 116 ∷ 111 ∷ 107 ∷ 101 ∷ 110 ∷ 32 ∷ 65 ∷ 32 ∷ 39 ∷ 98 ∷ 39 ∷ 10 ∷ 37 ∷ 108 ∷ 101 ∷ 102 ∷ 116 ∷ 32 ∷ 39 ∷ 43 ∷ 39 ∷ 32 ∷ 39 ∷ 45 ∷ 39 ∷ 10 ∷ 37 ∷ 101 ∷ 112 ∷ 112 ∷ 32 ∷ 65 ∷ 32 ∷ 34 ∷ 120 ∷ 34 ∷ 10 ∷ 37 ∷ 101 ∷ 120 ∷ 112 ∷ 101 ∷ 99 ∷ 116 ∷ 45 ∷ 114 ∷ 114 ∷ 32 ∷ 48 ∷ 49 ∷ 10 ∷ 37 ∷ 112 ∷ 97 ∷ 114 ∷ 115 ∷ 101 ∷ 45 ∷ 112 ∷ 97 ∷ 114 ∷ 97 ∷ 109 ∷ 32 ∷ 112 ∷ 58 ∷ 58 ∷ 113 ∷ 32 ∷ 58 ∷ 32 ∷ 38 ∷ 84 ∷ 10 ∷ 37 ∷ 112 ∷ 97 ∷ 114 ∷ 115 ∷ 101 ∷ 45 ∷ 103 ∷ 101 ∷ 110 ∷ 101 ∷ 114 ∷ 105 ∷ 99 ∷ 115 ∷ 32 ∷ 47 ∷ 10 ∷ 37 ∷ 37 ∷ 10 ∷ []
unfolding decls_text words
ships_hold = refl
