-- Small inputs of the words: for each word a table under one statement.
use Rattle.std.specs.Prelude.{ℕ, ◌≡◌, refl, true, List, [], ◌∷◌}
use Rattle.scan.specs.Scan.{is_at, is_letter, is_digit, is_eol, in_class, run_end, run_end_at}
use Rattle.scan.specs.Table.{Case, same, all}
use Rattle.words.specs.Words.{word_at, named, name_at, is_quote, closed, quoted_at, bare, token_at, name_numbers, token_numbers}
use Rattle.words.specs.Tags.{tag_closed, tag_at, tag_numbers}
use Rattle.words.specs.Numbers.{decimal, decimal_at, counted, int_at, int_numbers}
use Rattle.words.specs.Strings.{string, string_from, string_at, string_numbers}

-- a source, and the index where the word is sought
pub record Input : Type 0 where
  pub src : List ℕ
  pub at : ℕ

unfoldable pub row : List ℕ → ℕ → List ℕ → Case Input
row src at gives = record { input = record { src = src; at = at }; gives = gives }

unfoldable pub names : List (Case Input)
names =
    -- nothing at 0
    row [] 0 (2 ∷ 0 ∷ [])
    -- `a` at 0
    ∷ row (97 ∷ []) 0 (0 ∷ 1 ∷ [])
    -- `.a_9-` at 0
    ∷ row (46 ∷ 97 ∷ 95 ∷ 57 ∷ 45 ∷ []) 0 (0 ∷ 4 ∷ [])
    -- `9a` at 0
    ∷ row (57 ∷ 97 ∷ []) 0 (2 ∷ 0 ∷ [])
    -- `a.b c` at 0
    ∷ row (97 ∷ 46 ∷ 98 ∷ 32 ∷ 99 ∷ []) 0 (0 ∷ 3 ∷ [])
    -- `xs:` at 1
    ∷ row (120 ∷ 115 ∷ 58 ∷ []) 1 (0 ∷ 2 ∷ [])
    -- `xs` at 2
    ∷ row (120 ∷ 115 ∷ []) 2 (2 ∷ 2 ∷ [])
    -- `sé` at 0
    ∷ row (115 ∷ 195 ∷ 169 ∷ []) 0 (0 ∷ 1 ∷ [])
    -- `é` at 0
    ∷ row (195 ∷ 169 ∷ []) 0 (2 ∷ 0 ∷ [])
    -- `a\r\n` at 0
    ∷ row (97 ∷ 13 ∷ 10 ∷ []) 0 (0 ∷ 1 ∷ [])
    -- `\r` at 0
    ∷ row (13 ∷ []) 0 (2 ∷ 0 ∷ [])
    ∷ []

pub names_hold : all (λ x. name_numbers (name_at x.src x.at)) names ≡ true
unfolding all same row names name_numbers name_at named word_at in_class is_letter is_digit run_end run_end_at
names_hold = refl

unfoldable pub tokens : List (Case Input)
tokens =
    -- nothing at 0
    row [] 0 (3 ∷ 0 ∷ [])
    -- `A` at 0
    ∷ row (65 ∷ []) 0 (0 ∷ 0 ∷ 1 ∷ 1 ∷ 0 ∷ [])
    -- `%token_a%%s:A;` at 11
    ∷ row (37 ∷ 116 ∷ 111 ∷ 107 ∷ 101 ∷ 110 ∷ 65 ∷ 37 ∷ 37 ∷ 115 ∷ 58 ∷ 65 ∷ 59 ∷ []) 11 (0 ∷ 11 ∷ 12 ∷ 12 ∷ 0 ∷ [])
    -- `a.b` at 0
    ∷ row (97 ∷ 46 ∷ 98 ∷ []) 0 (0 ∷ 0 ∷ 1 ∷ 1 ∷ 0 ∷ [])
    -- `.a` at 0
    ∷ row (46 ∷ 97 ∷ []) 0 (3 ∷ 0 ∷ [])
    -- `_9` at 0
    ∷ row (95 ∷ 57 ∷ []) 0 (0 ∷ 0 ∷ 2 ∷ 2 ∷ 0 ∷ [])
    -- `%%s:""x";` at 4
    ∷ row (37 ∷ 37 ∷ 115 ∷ 58 ∷ 34 ∷ 34 ∷ 120 ∷ 34 ∷ 59 ∷ []) 4 (0 ∷ 5 ∷ 7 ∷ 8 ∷ 1 ∷ [])
    -- `''` at 0
    ∷ row (39 ∷ 39 ∷ []) 0 (3 ∷ 0 ∷ [])
    -- `'''` at 0
    ∷ row (39 ∷ 39 ∷ 39 ∷ []) 0 (0 ∷ 1 ∷ 2 ∷ 3 ∷ 1 ∷ [])
    -- `'a` at 0
    ∷ row (39 ∷ 97 ∷ []) 0 (3 ∷ 0 ∷ [])
    -- `'` at 0
    ∷ row (39 ∷ []) 0 (3 ∷ 0 ∷ [])
    -- `"a'` at 0
    ∷ row (34 ∷ 97 ∷ 39 ∷ []) 0 (3 ∷ 0 ∷ [])
    -- `'a\nb'` at 0
    ∷ row (39 ∷ 97 ∷ 10 ∷ 98 ∷ 39 ∷ []) 0 (3 ∷ 0 ∷ [])
    -- `'\n'` at 0
    ∷ row (39 ∷ 10 ∷ 39 ∷ []) 0 (3 ∷ 0 ∷ [])
    -- `'\r'` at 0
    ∷ row (39 ∷ 13 ∷ 39 ∷ []) 0 (0 ∷ 1 ∷ 2 ∷ 3 ∷ 1 ∷ [])
    -- `'a\r\n'` at 0
    ∷ row (39 ∷ 97 ∷ 13 ∷ 10 ∷ 39 ∷ []) 0 (3 ∷ 0 ∷ [])
    -- `'é'` at 0
    ∷ row (39 ∷ 195 ∷ 169 ∷ 39 ∷ []) 0 (0 ∷ 1 ∷ 3 ∷ 4 ∷ 1 ∷ [])
    -- `é` at 0
    ∷ row (195 ∷ 169 ∷ []) 0 (3 ∷ 0 ∷ [])
    -- `:A` at 1
    ∷ row (58 ∷ 65 ∷ []) 1 (0 ∷ 1 ∷ 2 ∷ 2 ∷ 0 ∷ [])
    -- `%avoid_insert'a'` at 16
    ∷ row (37 ∷ 97 ∷ 118 ∷ 111 ∷ 105 ∷ 100 ∷ 95 ∷ 105 ∷ 110 ∷ 115 ∷ 101 ∷ 114 ∷ 116 ∷ 39 ∷ 97 ∷ 39 ∷ []) 16 (3 ∷ 16 ∷ [])
    ∷ []

pub tokens_hold : all (λ x. token_numbers (token_at x.src x.at)) tokens ≡ true
unfolding all same row tokens token_numbers token_at bare quoted_at closed is_quote is_at word_at in_class is_letter is_digit run_end run_end_at
tokens_hold = refl

unfoldable pub tags : List (Case Input)
tags =
    -- nothing at 0
    row [] 0 (0 ∷ [])
    -- `<` at 0
    ∷ row (60 ∷ []) 0 (50 ∷ 0 ∷ [])
    -- `A` at 0
    ∷ row (65 ∷ []) 0 (0 ∷ [])
    -- `<t>A` at 0
    ∷ row (60 ∷ 116 ∷ 62 ∷ 65 ∷ []) 0 (0 ∷ 1 ∷ 2 ∷ 3 ∷ [])
    -- `%token<t>A` at 6
    ∷ row (37 ∷ 116 ∷ 111 ∷ 107 ∷ 101 ∷ 110 ∷ 60 ∷ 116 ∷ 62 ∷ 65 ∷ []) 6 (0 ∷ 7 ∷ 8 ∷ 9 ∷ [])
    -- `<>` at 0
    ∷ row (60 ∷ 62 ∷ []) 0 (0 ∷ 1 ∷ 1 ∷ 2 ∷ [])
    -- `< t >` at 0
    ∷ row (60 ∷ 32 ∷ 116 ∷ 32 ∷ 62 ∷ []) 0 (0 ∷ 1 ∷ 4 ∷ 5 ∷ [])
    -- `<a<b>` at 0
    ∷ row (60 ∷ 97 ∷ 60 ∷ 98 ∷ 62 ∷ []) 0 (0 ∷ 1 ∷ 4 ∷ 5 ∷ [])
    -- `<a>>` at 0
    ∷ row (60 ∷ 97 ∷ 62 ∷ 62 ∷ []) 0 (0 ∷ 1 ∷ 2 ∷ 3 ∷ [])
    -- `%token<t` at 6
    ∷ row (37 ∷ 116 ∷ 111 ∷ 107 ∷ 101 ∷ 110 ∷ 60 ∷ 116 ∷ []) 6 (50 ∷ 6 ∷ [])
    -- `%token <t\r>A` at 7
    ∷ row (37 ∷ 116 ∷ 111 ∷ 107 ∷ 101 ∷ 110 ∷ 32 ∷ 60 ∷ 116 ∷ 13 ∷ 62 ∷ 65 ∷ []) 7 (50 ∷ 7 ∷ [])
    -- `<\nt>` at 0
    ∷ row (60 ∷ 10 ∷ 116 ∷ 62 ∷ []) 0 (50 ∷ 0 ∷ [])
    -- `<é>` at 0
    ∷ row (60 ∷ 195 ∷ 169 ∷ 62 ∷ []) 0 (0 ∷ 1 ∷ 3 ∷ 4 ∷ [])
    -- ` <t>` at 0
    ∷ row (32 ∷ 60 ∷ 116 ∷ 62 ∷ []) 0 (0 ∷ [])
    -- `%type ` at 6
    ∷ row (37 ∷ 116 ∷ 121 ∷ 112 ∷ 101 ∷ 32 ∷ []) 6 (6 ∷ [])
    -- `<t>` at 2
    ∷ row (60 ∷ 116 ∷ 62 ∷ []) 2 (2 ∷ [])
    ∷ []

pub tags_hold : all (λ x. tag_numbers (tag_at x.src x.at)) tags ≡ true
unfolding all same row tags tag_numbers tag_at tag_closed is_at in_class is_eol run_end run_end_at
tags_hold = refl

unfoldable pub integers : List (Case Input)
integers =
    -- nothing at 0
    row [] 0 (1 ∷ 0 ∷ [])
    -- `x` at 0
    ∷ row (120 ∷ []) 0 (1 ∷ 0 ∷ [])
    -- `-1` at 0
    ∷ row (45 ∷ 49 ∷ []) 0 (1 ∷ 0 ∷ [])
    -- `0` at 0
    ∷ row (48 ∷ []) 0 (0 ∷ 0 ∷ 1 ∷ [])
    -- `007x` at 0
    ∷ row (48 ∷ 48 ∷ 55 ∷ 120 ∷ []) 0 (0 ∷ 7 ∷ 3 ∷ [])
    -- `18446744073709551615` at 0
    ∷ row (49 ∷ 56 ∷ 52 ∷ 52 ∷ 54 ∷ 55 ∷ 52 ∷ 52 ∷ 48 ∷ 55 ∷ 51 ∷ 55 ∷ 48 ∷ 57 ∷ 53 ∷ 53 ∷ 49 ∷ 54 ∷ 49 ∷ 53 ∷ []) 0 (0 ∷ 18446744073709551615 ∷ 20 ∷ [])
    -- `18446744073709551616` at 0
    ∷ row (49 ∷ 56 ∷ 52 ∷ 52 ∷ 54 ∷ 55 ∷ 52 ∷ 52 ∷ 48 ∷ 55 ∷ 51 ∷ 55 ∷ 48 ∷ 57 ∷ 53 ∷ 53 ∷ 49 ∷ 54 ∷ 49 ∷ 54 ∷ []) 0 (1 ∷ 0 ∷ [])
    -- `%expect18446744073709551616` at 7
    ∷ row (37 ∷ 101 ∷ 120 ∷ 112 ∷ 101 ∷ 99 ∷ 116 ∷ 49 ∷ 56 ∷ 52 ∷ 52 ∷ 54 ∷ 55 ∷ 52 ∷ 52 ∷ 48 ∷ 55 ∷ 51 ∷ 55 ∷ 48 ∷ 57 ∷ 53 ∷ 53 ∷ 49 ∷ 54 ∷ 49 ∷ 54 ∷ []) 7 (1 ∷ 7 ∷ [])
    -- `%expect18446744073709551615` at 7
    ∷ row (37 ∷ 101 ∷ 120 ∷ 112 ∷ 101 ∷ 99 ∷ 116 ∷ 49 ∷ 56 ∷ 52 ∷ 52 ∷ 54 ∷ 55 ∷ 52 ∷ 52 ∷ 48 ∷ 55 ∷ 51 ∷ 55 ∷ 48 ∷ 57 ∷ 53 ∷ 53 ∷ 49 ∷ 54 ∷ 49 ∷ 53 ∷ []) 7 (0 ∷ 18446744073709551615 ∷ 27 ∷ [])
    -- `99999999999999999999999` at 0
    ∷ row (57 ∷ 57 ∷ 57 ∷ 57 ∷ 57 ∷ 57 ∷ 57 ∷ 57 ∷ 57 ∷ 57 ∷ 57 ∷ 57 ∷ 57 ∷ 57 ∷ 57 ∷ 57 ∷ 57 ∷ 57 ∷ 57 ∷ 57 ∷ 57 ∷ 57 ∷ 57 ∷ []) 0 (1 ∷ 0 ∷ [])
    -- `0000000000000000000000001` at 0
    ∷ row (48 ∷ 48 ∷ 48 ∷ 48 ∷ 48 ∷ 48 ∷ 48 ∷ 48 ∷ 48 ∷ 48 ∷ 48 ∷ 48 ∷ 48 ∷ 48 ∷ 48 ∷ 48 ∷ 48 ∷ 48 ∷ 48 ∷ 48 ∷ 48 ∷ 48 ∷ 48 ∷ 48 ∷ 49 ∷ []) 0 (0 ∷ 1 ∷ 25 ∷ [])
    -- `a12\r` at 1
    ∷ row (97 ∷ 49 ∷ 50 ∷ 13 ∷ []) 1 (0 ∷ 12 ∷ 3 ∷ [])
    -- `1é` at 0
    ∷ row (49 ∷ 195 ∷ 169 ∷ []) 0 (0 ∷ 1 ∷ 1 ∷ [])
    -- `1` at 1
    ∷ row (49 ∷ []) 1 (1 ∷ 1 ∷ [])
    ∷ []

pub integers_hold : all (λ x. int_numbers (int_at x.src x.at)) integers ≡ true
unfolding all same row integers int_numbers int_at counted decimal decimal_at in_class is_digit run_end run_end_at
integers_hold = refl

unfoldable pub strings : List (Case Input)
strings =
    -- nothing at 0
    row [] 0 (14 ∷ 0 ∷ [])
    -- `x` at 0
    ∷ row (120 ∷ []) 0 (14 ∷ 0 ∷ [])
    -- `''` at 0
    ∷ row (39 ∷ 39 ∷ []) 0 (0 ∷ 2 ∷ [])
    -- `'a'` at 0
    ∷ row (39 ∷ 97 ∷ 39 ∷ []) 0 (0 ∷ 3 ∷ [])
    -- `'a"'` at 0
    ∷ row (39 ∷ 97 ∷ 34 ∷ 39 ∷ []) 0 (0 ∷ 4 ∷ [])
    -- `"a` at 0
    ∷ row (34 ∷ 97 ∷ []) 0 (19 ∷ 2 ∷ [])
    -- `"` at 0
    ∷ row (34 ∷ []) 0 (19 ∷ 1 ∷ [])
    -- `'a\n'` at 0
    ∷ row (39 ∷ 97 ∷ 10 ∷ 39 ∷ []) 0 (17 ∷ 2 ∷ [])
    -- `'a\r\n'` at 0
    ∷ row (39 ∷ 97 ∷ 13 ∷ 10 ∷ 39 ∷ []) 0 (17 ∷ 2 ∷ [])
    -- `'\\''` at 0
    ∷ row (39 ∷ 92 ∷ 39 ∷ 39 ∷ []) 0 (0 ∷ 4 ∷ [])
    -- `'\\"'x` at 0
    ∷ row (39 ∷ 92 ∷ 34 ∷ 39 ∷ 120 ∷ []) 0 (0 ∷ 4 ∷ [])
    -- `'\\x'` at 0
    ∷ row (39 ∷ 92 ∷ 120 ∷ 39 ∷ []) 0 (18 ∷ 1 ∷ [])
    -- `'\\` at 0
    ∷ row (39 ∷ 92 ∷ []) 0 (18 ∷ 1 ∷ [])
    -- `'\\\\'` at 0
    ∷ row (39 ∷ 92 ∷ 92 ∷ 39 ∷ []) 0 (18 ∷ 1 ∷ [])
    -- `'é'` at 0
    ∷ row (39 ∷ 195 ∷ 169 ∷ 39 ∷ []) 0 (0 ∷ 4 ∷ [])
    -- `x'a'` at 1
    ∷ row (120 ∷ 39 ∷ 97 ∷ 39 ∷ []) 1 (0 ∷ 4 ∷ [])
    ∷ []

pub strings_hold : all (λ x. string_numbers (string_at x.src x.at)) strings ≡ true
unfolding all same row strings string_numbers string_at string_from string is_quote is_eol
strings_hold = refl
