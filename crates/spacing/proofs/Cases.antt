-- Small inputs of spacing, as one table under one statement.
use Rattle.std.specs.Prelude.{ℕ, ◌≡◌, refl, List, [], ◌∷◌, Bool, true, false}
use Rattle.scan.specs.Scan.{is_eol, begins}
use Rattle.scan.specs.Lines.{lines_here}
use Rattle.scan.specs.Table.{Case, same, all}
use Rattle.spacing.specs.Spacing.{is_blank, spacing, spacing_at, spaces_at, numbers}

-- the kind, whether line ends are allowed, the source, and the index where spacing begins
pub record Input : Type 0 where
  pub kind : ℕ
  pub ok : Bool
  pub src : List ℕ
  pub at : ℕ

unfoldable pub given : Input → List ℕ
given x = numbers (spaces_at x.kind x.ok x.src x.at)

unfoldable pub row : ℕ → Bool → List ℕ → ℕ → List ℕ → Case Input
row kind ok src at gives = record { input = record { kind = kind; ok = ok; src = src; at = at }; gives = gives }

unfoldable pub table : List (Case Input)
table =
    -- nothing
    row 1 true [] 0 (0 ∷ 0 ∷ 0 ∷ [])
    -- `%%/*\n/s:;`
    ∷ row 1 true (37 ∷ 37 ∷ 47 ∷ 42 ∷ 10 ∷ 47 ∷ 115 ∷ 58 ∷ 59 ∷ []) 2 (0 ∷ 6 ∷ 1 ∷ [])
    -- `%%/*/`
    ∷ row 1 true (37 ∷ 37 ∷ 47 ∷ 42 ∷ 47 ∷ []) 2 (5 ∷ 2 ∷ [])
    -- `%token\n_a`
    ∷ row 1 false (37 ∷ 116 ∷ 111 ∷ 107 ∷ 101 ∷ 110 ∷ 10 ∷ 65 ∷ []) 6 (13 ∷ 6 ∷ [])
    -- `%token//\n_a%%s:A;`
    ∷ row 1 false (37 ∷ 116 ∷ 111 ∷ 107 ∷ 101 ∷ 110 ∷ 47 ∷ 47 ∷ 10 ∷ 65 ∷ 37 ∷ 37 ∷ 115 ∷ 58 ∷ 65 ∷ 59 ∷ []) 6 (0 ∷ 9 ∷ 1 ∷ [])
    -- `%token//\r\n_a`
    ∷ row 1 false (37 ∷ 116 ∷ 111 ∷ 107 ∷ 101 ∷ 110 ∷ 47 ∷ 47 ∷ 13 ∷ 10 ∷ 65 ∷ []) 6 (13 ∷ 9 ∷ [])
    -- `//`, `/`, `/x`
    ∷ row 1 false (47 ∷ 47 ∷ []) 0 (0 ∷ 2 ∷ 0 ∷ [])
    ∷ row 1 true (47 ∷ []) 0 (0 ∷ 0 ∷ 0 ∷ [])
    ∷ row 1 true (47 ∷ 120 ∷ []) 0 (0 ∷ 0 ∷ 0 ∷ [])
    -- ` \t x`
    ∷ row 1 true (32 ∷ 9 ∷ 32 ∷ 120 ∷ []) 0 (0 ∷ 3 ∷ 0 ∷ [])
    -- `\r\n`: one line; `\r`, `\n`: one each; `\n\r`: two; `\r\r\n\n`: three
    ∷ row 1 true (13 ∷ 10 ∷ []) 0 (0 ∷ 2 ∷ 1 ∷ [])
    ∷ row 1 true (13 ∷ []) 0 (0 ∷ 1 ∷ 1 ∷ [])
    ∷ row 1 true (10 ∷ []) 0 (0 ∷ 1 ∷ 1 ∷ [])
    ∷ row 1 true (10 ∷ 13 ∷ []) 0 (0 ∷ 2 ∷ 2 ∷ [])
    ∷ row 1 true (13 ∷ 13 ∷ 10 ∷ 10 ∷ []) 0 (0 ∷ 4 ∷ 3 ∷ [])
    -- `//\r\n`, `//\r`, `//\n\r`: the comment ends with the CR, and the LF counts the pair
    ∷ row 1 true (47 ∷ 47 ∷ 13 ∷ 10 ∷ []) 0 (0 ∷ 4 ∷ 1 ∷ [])
    ∷ row 1 true (47 ∷ 47 ∷ 13 ∷ []) 0 (0 ∷ 3 ∷ 1 ∷ [])
    ∷ row 1 true (47 ∷ 47 ∷ 10 ∷ 13 ∷ []) 0 (0 ∷ 4 ∷ 2 ∷ [])
    -- `/*\r\n*/`, `/*\r\n/`, `/*\n\r*/`
    ∷ row 1 true (47 ∷ 42 ∷ 13 ∷ 10 ∷ 42 ∷ 47 ∷ []) 0 (0 ∷ 6 ∷ 1 ∷ [])
    ∷ row 1 true (47 ∷ 42 ∷ 13 ∷ 10 ∷ 47 ∷ []) 0 (0 ∷ 5 ∷ 1 ∷ [])
    ∷ row 1 true (47 ∷ 42 ∷ 10 ∷ 13 ∷ 42 ∷ 47 ∷ []) 0 (0 ∷ 6 ∷ 2 ∷ [])
    -- `/* * /`, `/**/`, `/*\r/`
    ∷ row 1 true (47 ∷ 42 ∷ 32 ∷ 42 ∷ 32 ∷ 47 ∷ []) 0 (5 ∷ 0 ∷ [])
    ∷ row 1 true (47 ∷ 42 ∷ 42 ∷ 47 ∷ []) 0 (0 ∷ 4 ∷ 0 ∷ [])
    ∷ row 1 true (47 ∷ 42 ∷ 13 ∷ 47 ∷ []) 0 (0 ∷ 4 ∷ 1 ∷ [])
    -- `/*\n*/` with no line ends
    ∷ row 1 false (47 ∷ 42 ∷ 10 ∷ 42 ∷ 47 ∷ []) 0 (13 ∷ 0 ∷ [])
    -- `'a' // x\n`, behind the quote, where a line of `%left` ends
    ∷ row 1 true (39 ∷ 97 ∷ 39 ∷ 32 ∷ 47 ∷ 47 ∷ 32 ∷ 120 ∷ 10 ∷ []) 3 (0 ∷ 9 ∷ 1 ∷ [])
    -- a comment that holds U+00E9, and U+00A0, which is no spacing
    ∷ row 1 true (47 ∷ 47 ∷ 195 ∷ 169 ∷ []) 0 (0 ∷ 4 ∷ 0 ∷ [])
    ∷ row 1 true (32 ∷ 194 ∷ 160 ∷ []) 0 (0 ∷ 1 ∷ 0 ∷ [])
    -- kind 4: `/*\n/` stays open, `/*\n/*/` and `/*\r*/` close at `*/`; kinds 2 and 3: as kind 1
    ∷ row 4 true (37 ∷ 37 ∷ 47 ∷ 42 ∷ 10 ∷ 47 ∷ 115 ∷ 58 ∷ 59 ∷ []) 2 (5 ∷ 2 ∷ [])
    ∷ row 4 true (47 ∷ 42 ∷ 10 ∷ 47 ∷ 42 ∷ 47 ∷ []) 0 (0 ∷ 6 ∷ 1 ∷ [])
    ∷ row 4 true (47 ∷ 42 ∷ 13 ∷ 42 ∷ 47 ∷ []) 0 (0 ∷ 5 ∷ 1 ∷ [])
    ∷ row 2 true (47 ∷ 42 ∷ 10 ∷ 47 ∷ 42 ∷ 47 ∷ []) 0 (0 ∷ 4 ∷ 1 ∷ [])
    ∷ row 3 true (47 ∷ 42 ∷ 10 ∷ 47 ∷ 42 ∷ 47 ∷ []) 0 (0 ∷ 4 ∷ 1 ∷ [])
    ∷ []

pub table_holds : all given table ≡ true
unfolding all same given row table numbers spacing spacing_at is_blank is_eol lines_here begins
table_holds = refl
