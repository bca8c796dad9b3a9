-- Small inputs of `locate`, under one statement: the source and the offset; line and column.
use Rattle.std.specs.Prelude.{ℕ, ◌≡◌, refl, true, List, [], ◌∷◌}
use Rattle.scan.specs.Scan.{begins}
use Rattle.scan.specs.Lines.{lines_here, lines_at, lines_to}
use Rattle.scan.specs.Table.{Case, same, all}
use Rattle.places.specs.Places.{line_start, spot_at}

pub record Input : Type 0 where
  pub src : List ℕ
  pub at : ℕ

unfoldable pub row : List ℕ → ℕ → ℕ → ℕ → Case Input
row src at line column = record { input = record { src = src; at = at }; gives = line ∷ column ∷ [] }

unfoldable pub given : Input → List ℕ
given x = (spot_at x.src x.at).line ∷ (spot_at x.src x.at).column ∷ []

unfoldable pub table : List (Case Input)
table =
    -- nothing: "the line and column of the byte that would come next"
    row [] 0 1 1
    -- `a\nb` at 0, 1, 2 and 3
    ∷ row (97 ∷ 10 ∷ 98 ∷ []) 0 1 1
    ∷ row (97 ∷ 10 ∷ 98 ∷ []) 1 1 2
    ∷ row (97 ∷ 10 ∷ 98 ∷ []) 2 2 1
    ∷ row (97 ∷ 10 ∷ 98 ∷ []) 3 2 2
    -- `a\r\nb`: on the CR, on the LF, behind the pair
    ∷ row (97 ∷ 13 ∷ 10 ∷ 98 ∷ []) 1 1 2
    ∷ row (97 ∷ 13 ∷ 10 ∷ 98 ∷ []) 2 1 3
    ∷ row (97 ∷ 13 ∷ 10 ∷ 98 ∷ []) 3 2 1
    -- `a\rb`, `a\n\rb`, `\r\r\n\n`
    ∷ row (97 ∷ 13 ∷ 98 ∷ []) 2 2 1
    ∷ row (97 ∷ 10 ∷ 13 ∷ 98 ∷ []) 2 2 1
    ∷ row (97 ∷ 10 ∷ 13 ∷ 98 ∷ []) 3 3 1
    ∷ row (13 ∷ 13 ∷ 10 ∷ 10 ∷ []) 1 2 1
    ∷ row (13 ∷ 13 ∷ 10 ∷ 10 ∷ []) 2 2 2
    ∷ row (13 ∷ 13 ∷ 10 ∷ 10 ∷ []) 3 3 1
    ∷ row (13 ∷ 13 ∷ 10 ∷ 10 ∷ []) 4 4 1
    -- the source's end behind an LF, behind a CR, which is a lone one, and behind a CR LF
    ∷ row (97 ∷ 10 ∷ []) 2 2 1
    ∷ row (97 ∷ 13 ∷ []) 2 2 1
    ∷ row (97 ∷ 13 ∷ 10 ∷ []) 3 2 1
    -- a column counts bytes: `é` and then the end
    ∷ row (195 ∷ 169 ∷ []) 2 1 3
    -- past the end
    ∷ row (97 ∷ []) 9 1 2
    ∷ []

pub table_holds : all given table ≡ true
unfolding all same row given table spot_at line_start lines_to lines_at lines_here begins
table_holds = refl
