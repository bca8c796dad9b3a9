-- Small inputs of the texts: for each text a table under one statement.
use Rattle.std.specs.Prelude.{ℕ, ◌≡◌, refl, true, List, [], ◌∷◌}
use Rattle.scan.specs.Scan.{is_eol, begins, in_class, run_end, run_end_at}
use Rattle.scan.specs.Lines.{lines_here}
use Rattle.scan.specs.Loop.{turns}
use Rattle.scan.specs.Table.{Case, same, all}
use Rattle.utf8.specs.White.{is_white}
use Rattle.utf8.specs.Utf8.{lead_of, follow, begun, decode, decode_at}
use Rattle.trim.specs.Trim.{passed, passed_at, kept, moved, trim_turn, trimmed}
use Rattle.texts.specs.Line.{line_end_at}
use Rattle.texts.specs.Colon.{single, single_from, colon_text, colon_text_at, colon_numbers}
use Rattle.texts.specs.Mark.{marked, marked_from, marked_at, mark_numbers}
use Rattle.texts.specs.Action.{braced, braced_from, acted, action_at, action_numbers}

-- a source, and the index where the text begins, or the action's brace stands
pub record Input : Type 0 where
  pub src : List ℕ
  pub at : ℕ

unfoldable pub row : List ℕ → ℕ → List ℕ → Case Input
row src at gives = record { input = record { src = src; at = at }; gives = gives }

unfoldable pub lines : List (Case Input)
lines =
    -- nothing at 0
    row [] 0 (0 ∷ [])
    -- `a b\nc` at 0
    ∷ row (97 ∷ 32 ∷ 98 ∷ 10 ∷ 99 ∷ []) 0 (3 ∷ [])
    -- `a\r\nb` at 0
    ∷ row (97 ∷ 13 ∷ 10 ∷ 98 ∷ []) 0 (1 ∷ [])
    -- `\n` at 0
    ∷ row (10 ∷ []) 0 (0 ∷ [])
    -- `ab` at 1
    ∷ row (97 ∷ 98 ∷ []) 1 (2 ∷ [])
    -- `é ` at 0
    ∷ row (195 ∷ 169 ∷ 32 ∷ []) 0 (3 ∷ [])
    -- `x//y\n` at 1
    ∷ row (120 ∷ 47 ∷ 47 ∷ 121 ∷ 10 ∷ []) 1 (4 ∷ [])
    ∷ []

pub lines_hold : all (λ x. line_end_at x.src x.at ∷ []) lines ≡ true
unfolding all same row lines line_end_at in_class is_eol run_end run_end_at
lines_hold = refl

unfoldable pub colons : List (Case Input)
colons =
    -- nothing at 0
    row [] 0 (16 ∷ 0 ∷ [])
    -- `a` at 0
    ∷ row (97 ∷ []) 0 (16 ∷ 1 ∷ [])
    -- `:` at 0
    ∷ row (58 ∷ []) 0 (0 ∷ 0 ∷ 0 ∷ 0 ∷ 0 ∷ [])
    -- `a:b` at 0
    ∷ row (97 ∷ 58 ∷ 98 ∷ []) 0 (0 ∷ 1 ∷ 0 ∷ 0 ∷ 1 ∷ [])
    -- ` a ::b : c` at 0
    ∷ row (32 ∷ 97 ∷ 32 ∷ 58 ∷ 58 ∷ 98 ∷ 32 ∷ 58 ∷ 32 ∷ 99 ∷ []) 0 (0 ∷ 7 ∷ 0 ∷ 1 ∷ 6 ∷ [])
    -- `a::` at 0
    ∷ row (97 ∷ 58 ∷ 58 ∷ []) 0 (16 ∷ 3 ∷ [])
    -- `a:::` at 0
    ∷ row (97 ∷ 58 ∷ 58 ∷ 58 ∷ []) 0 (0 ∷ 3 ∷ 0 ∷ 0 ∷ 3 ∷ [])
    -- `a\r\n b :` at 0: one line; with a lone CR too; with LF CR two
    ∷ row (97 ∷ 13 ∷ 10 ∷ 32 ∷ 98 ∷ 32 ∷ 58 ∷ []) 0 (0 ∷ 6 ∷ 1 ∷ 0 ∷ 5 ∷ [])
    ∷ row (97 ∷ 13 ∷ 32 ∷ 98 ∷ 32 ∷ 58 ∷ []) 0 (0 ∷ 5 ∷ 1 ∷ 0 ∷ 4 ∷ [])
    ∷ row (97 ∷ 10 ∷ 13 ∷ 32 ∷ 98 ∷ 32 ∷ 58 ∷ []) 0 (0 ∷ 6 ∷ 2 ∷ 0 ∷ 5 ∷ [])
    -- `a\r\r\n\n:` at 0: three lines, of which the trimmed place has none
    ∷ row (97 ∷ 13 ∷ 13 ∷ 10 ∷ 10 ∷ 58 ∷ []) 0 (0 ∷ 5 ∷ 3 ∷ 0 ∷ 1 ∷ [])
    -- `  :` at 0
    ∷ row (32 ∷ 32 ∷ 58 ∷ []) 0 (0 ∷ 2 ∷ 0 ∷ 0 ∷ 0 ∷ [])
    -- `U+00A0 é U+2003:` at 0
    ∷ row (194 ∷ 160 ∷ 195 ∷ 169 ∷ 226 ∷ 128 ∷ 131 ∷ 58 ∷ []) 0 (0 ∷ 7 ∷ 0 ∷ 2 ∷ 4 ∷ [])
    -- `x->T:` at 3
    ∷ row (120 ∷ 45 ∷ 62 ∷ 84 ∷ 58 ∷ []) 3 (0 ∷ 4 ∷ 0 ∷ 3 ∷ 4 ∷ [])
    -- `a\n` at 0
    ∷ row (97 ∷ 10 ∷ []) 0 (16 ∷ 2 ∷ [])
    ∷ []

pub colons_hold : all (λ x. colon_numbers (colon_text_at x.src x.at)) colons ≡ true
unfolding all same row colons colon_numbers colon_text_at colon_text single_from single is_eol lines_here begins turns trimmed trim_turn moved kept passed passed_at is_white decode_at decode begun follow lead_of
colons_hold = refl

unfoldable pub actions : List (Case Input)
actions =
    -- `{ }` at 0
    row (123 ∷ 32 ∷ 125 ∷ []) 0 (0 ∷ 3 ∷ 0 ∷ 1 ∷ 1 ∷ 1 ∷ 1 ∷ [])
    -- `%%s:{ };` at 4
    ∷ row (37 ∷ 37 ∷ 115 ∷ 58 ∷ 123 ∷ 32 ∷ 125 ∷ 59 ∷ []) 4 (0 ∷ 7 ∷ 0 ∷ 5 ∷ 5 ∷ 5 ∷ 5 ∷ [])
    -- `{}` at 0
    ∷ row (123 ∷ 125 ∷ []) 0 (0 ∷ 2 ∷ 0 ∷ 1 ∷ 1 ∷ 1 ∷ 1 ∷ [])
    -- `{` at 0
    ∷ row (123 ∷ []) 0 (6 ∷ 0 ∷ [])
    -- `{ a{b}c }` at 0
    ∷ row (123 ∷ 32 ∷ 97 ∷ 123 ∷ 98 ∷ 125 ∷ 99 ∷ 32 ∷ 125 ∷ []) 0 (0 ∷ 9 ∷ 0 ∷ 2 ∷ 7 ∷ 1 ∷ 6 ∷ [])
    -- `{{}` at 0
    ∷ row (123 ∷ 123 ∷ 125 ∷ []) 0 (6 ∷ 0 ∷ [])
    -- `{\r\n x\n}` at 0: two lines; with a lone CR too; with LF CR three
    ∷ row (123 ∷ 13 ∷ 10 ∷ 32 ∷ 120 ∷ 10 ∷ 125 ∷ []) 0 (0 ∷ 7 ∷ 2 ∷ 4 ∷ 5 ∷ 1 ∷ 2 ∷ [])
    ∷ row (123 ∷ 13 ∷ 32 ∷ 120 ∷ 10 ∷ 125 ∷ []) 0 (0 ∷ 6 ∷ 2 ∷ 3 ∷ 4 ∷ 1 ∷ 2 ∷ [])
    ∷ row (123 ∷ 10 ∷ 13 ∷ 32 ∷ 120 ∷ 10 ∷ 125 ∷ []) 0 (0 ∷ 7 ∷ 3 ∷ 4 ∷ 5 ∷ 1 ∷ 2 ∷ [])
    -- `{x\r}` at 0: a CR before the brace is a lone one
    ∷ row (123 ∷ 120 ∷ 13 ∷ 125 ∷ []) 0 (0 ∷ 4 ∷ 1 ∷ 1 ∷ 2 ∷ 1 ∷ 2 ∷ [])
    -- `{U+00A0 é U+2003}x` at 0
    ∷ row (123 ∷ 194 ∷ 160 ∷ 195 ∷ 169 ∷ 226 ∷ 128 ∷ 131 ∷ 125 ∷ 120 ∷ []) 0 (0 ∷ 9 ∷ 0 ∷ 3 ∷ 5 ∷ 1 ∷ 3 ∷ [])
    -- `x{'}'}` at 1
    ∷ row (120 ∷ 123 ∷ 39 ∷ 125 ∷ 39 ∷ 125 ∷ []) 1 (0 ∷ 4 ∷ 0 ∷ 2 ∷ 3 ∷ 2 ∷ 3 ∷ [])
    -- `{ /*{*/ }` at 0
    ∷ row (123 ∷ 32 ∷ 47 ∷ 42 ∷ 123 ∷ 42 ∷ 47 ∷ 32 ∷ 125 ∷ []) 0 (6 ∷ 0 ∷ [])
    -- `{{}}`, `{{{}}}`, `{{}{}}` at 0
    ∷ row (123 ∷ 123 ∷ 125 ∷ 125 ∷ []) 0 (0 ∷ 4 ∷ 0 ∷ 1 ∷ 3 ∷ 1 ∷ 3 ∷ [])
    ∷ row (123 ∷ 123 ∷ 123 ∷ 125 ∷ 125 ∷ 125 ∷ []) 0 (0 ∷ 6 ∷ 0 ∷ 1 ∷ 5 ∷ 1 ∷ 5 ∷ [])
    ∷ row (123 ∷ 123 ∷ 125 ∷ 123 ∷ 125 ∷ 125 ∷ []) 0 (0 ∷ 6 ∷ 0 ∷ 1 ∷ 5 ∷ 1 ∷ 5 ∷ [])
    -- `{{{}}` at 0, with one brace too few, and `{}}`, with one too many
    ∷ row (123 ∷ 123 ∷ 123 ∷ 125 ∷ 125 ∷ []) 0 (6 ∷ 0 ∷ [])
    ∷ row (123 ∷ 125 ∷ 125 ∷ []) 0 (0 ∷ 2 ∷ 0 ∷ 1 ∷ 1 ∷ 1 ∷ 1 ∷ [])
    -- `{{\n}}` at 0
    ∷ row (123 ∷ 123 ∷ 10 ∷ 125 ∷ 125 ∷ []) 0 (0 ∷ 5 ∷ 1 ∷ 1 ∷ 4 ∷ 1 ∷ 4 ∷ [])
    ∷ []

pub actions_hold : all (λ x. action_numbers (action_at x.src x.at)) actions ≡ true
unfolding all same row actions action_numbers action_at acted braced_from braced is_eol lines_here begins turns trimmed trim_turn moved kept passed passed_at is_white decode_at decode begun follow lead_of
actions_hold = refl

unfoldable pub marks : List (Case Input)
marks =
    -- nothing at 0
    row [] 0 (51 ∷ [])
    -- `%{` at 2
    ∷ row (37 ∷ 123 ∷ []) 2 (51 ∷ [])
    -- `%{%` at 2
    ∷ row (37 ∷ 123 ∷ 37 ∷ []) 2 (51 ∷ [])
    -- `%{%}%%s:;` at 2
    ∷ row (37 ∷ 123 ∷ 37 ∷ 125 ∷ 37 ∷ 37 ∷ 115 ∷ 58 ∷ 59 ∷ []) 2 (0 ∷ 2 ∷ 0 ∷ [])
    -- `%}` at 0
    ∷ row (37 ∷ 125 ∷ []) 0 (0 ∷ 0 ∷ 0 ∷ [])
    -- `%}%}` at 1
    ∷ row (37 ∷ 125 ∷ 37 ∷ 125 ∷ []) 1 (0 ∷ 2 ∷ 0 ∷ [])
    -- `%%}` at 0
    ∷ row (37 ∷ 37 ∷ 125 ∷ []) 0 (0 ∷ 1 ∷ 0 ∷ [])
    -- `% }` at 0
    ∷ row (37 ∷ 32 ∷ 125 ∷ []) 0 (51 ∷ [])
    -- `}%` at 0
    ∷ row (125 ∷ 37 ∷ []) 0 (51 ∷ [])
    -- `a\r\nb\n%}` at 0
    ∷ row (97 ∷ 13 ∷ 10 ∷ 98 ∷ 10 ∷ 37 ∷ 125 ∷ []) 0 (0 ∷ 5 ∷ 2 ∷ [])
    -- `\r%}` at 0
    ∷ row (13 ∷ 37 ∷ 125 ∷ []) 0 (0 ∷ 1 ∷ 1 ∷ [])
    -- `%\n}%}` at 0
    ∷ row (37 ∷ 10 ∷ 125 ∷ 37 ∷ 125 ∷ []) 0 (0 ∷ 3 ∷ 1 ∷ [])
    -- `"%}"%}` at 0
    ∷ row (34 ∷ 37 ∷ 125 ∷ 34 ∷ 37 ∷ 125 ∷ []) 0 (0 ∷ 1 ∷ 0 ∷ [])
    -- `{é}%}%}` at 0
    ∷ row (123 ∷ 195 ∷ 169 ∷ 125 ∷ 37 ∷ 125 ∷ 37 ∷ 125 ∷ []) 0 (0 ∷ 4 ∷ 0 ∷ [])
    ∷ []

pub marks_hold : all (λ x. mark_numbers (marked_at x.src x.at)) marks ≡ true
unfolding all same row marks mark_numbers marked marked_from begins lines_here
marks_hold = refl
