-- Document 02, request Five: "Every symbol row gets the row number of its rule or token, or 4294967295 where no such row exists."
use Rattle.std.specs.Prelude.{ℕ, zero, suc, ◌+◌, ◌<◌, ◌≡◌, List, Bool, true, false, eqb, Option, Some, None}
use Rattle.tables.specs.Layout.{tokens, rules, symbols, kind_name, known_row, no_row, width}
use Rattle.tables.specs.Table.{cell, set_cell, has_name, find_name}

-- "or 4294967295 where no such row exists"
abbrev pub row_number : Option ℕ → ℕ
row_number (Some r) = r
row_number None = no_row

-- tables 1 and 7, with their counts
pub record Lexicon : Type 0 where
  pub src : List ℕ
  pub tokens : List ℕ
  pub token_count : ℕ
  pub rules : List ℕ
  pub rule_count : ℕ

abbrev pub lexicon : List ℕ → List ℕ → ℕ → List ℕ → ℕ → Lexicon
lexicon src t1 n t7 m = record { src = src; tokens = t1; token_count = n; rules = t7; rule_count = m }

-- the row that a name of the kind has: "1 rule, 2 token"
unfoldable pub named_row : Lexicon → ℕ → ℕ → ℕ → ℕ
named_row g kind a b =
    elim (eqb kind 1) [
      | true ↦ row_number (find_name g.src (width rules) 0 g.rule_count g.rules a b)
      | false ↦ row_number (find_name g.src (width tokens) 0 g.token_count g.tokens a b)
    ]

unfoldable pub row_for : Lexicon → List ℕ → ℕ → ℕ
row_for g t s = named_row g (cell (width symbols) t s 0) (cell (width symbols) t s kind_name) (cell (width symbols) t s (kind_name + 1))

-- the rows of the first n symbols filled in
unfoldable pub filled_rows : Lexicon → List ℕ → ℕ → List ℕ
filled_rows g t zero = t
filled_rows g t (suc n) = set_cell (width symbols) (filled_rows g t n) n known_row (row_for g t n)

-- the first n symbols know their row
pub record Knows (g : Lexicon) (n : ℕ) (t : List ℕ) : Type 0 where
  pub row : (s : ℕ) → s < n → cell (width symbols) t s known_row ≡ row_for g t s

unfoldable pub knows_test : Lexicon → List ℕ → ℕ → Bool
knows_test g t s = eqb (cell (width symbols) t s known_row) (row_for g t s)

-- each name is that of one row
abbrev pub Single : List ℕ → ℕ → ℕ → List ℕ → Type 0
Single src w n t = (a b q r : ℕ) → q < n → r < n → has_name src w 0 t a b q ≡ true → has_name src w 0 t a b r ≡ true → q ≡ r
