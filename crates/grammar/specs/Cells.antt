-- The rows of tables 1 to 7, 9, 10 and 15 to 17: which cell is which. Those of table 8 are in `productions`.
use Rattle.std.specs.Prelude.{ℕ, List, [], ◌∷◌, Option}
use Rattle.grammar.specs.Numbers.{part_numbers}

-- "1 tokens (place, declared by `%token` or not)"
abbrev pub token_cells : ℕ → ℕ → ℕ → List ℕ
token_cells from to declared = from ∷ to ∷ declared ∷ []

-- "2 precedences (place, level, association)"; "1 left, 2 right, 3 nonassoc"
abbrev pub precedence_cells : ℕ → ℕ → ℕ → ℕ → List ℕ
precedence_cells from to level association = from ∷ to ∷ level ∷ association ∷ []

-- "3 avoid, 4 implicit"
abbrev pub name_cells : ℕ → ℕ → List ℕ
name_cells from to = from ∷ to ∷ []

-- "5 `%epp` (key place as spelled, key name, value with its quotes)"
abbrev pub epp_cells : ℕ → ℕ → ℕ → ℕ → ℕ → ℕ → List ℕ
epp_cells key_from key_to name_from name_to value_from value_to = key_from ∷ key_to ∷ name_from ∷ name_to ∷ value_from ∷ value_to ∷ []

-- "6 expected unused (kind, place)"; "1 rule, 2 token"
abbrev pub kind_cells : ℕ → ℕ → ℕ → List ℕ
kind_cells kind from to = kind ∷ from ∷ to ∷ []

-- "9 symbols (kind, place)", and by document 02, request Five, a row number, which is zero until all rules are read
abbrev pub symbol_cells : ℕ → ℕ → ℕ → List ℕ
symbol_cells kind from to = kind ∷ from ∷ to ∷ 0 ∷ []

-- "7 rules (name, action type or none)"
abbrev pub rule_cells : ℕ → ℕ → Option (ℕ × ℕ) → List ℕ
rule_cells from to type = from ∷ to ∷ part_numbers type

-- "10 repeats (number, first place, repeated place)"
abbrev pub repeat_cells : ℕ → ℕ → ℕ → ℕ → ℕ → List ℕ
repeat_cells number a b c d = number ∷ a ∷ b ∷ c ∷ d ∷ []

-- document 02, request Nine: "15 takes tags (name, tag), 16 numbers (name, number [..]), 17 bodies (1 for `%{`, 2 for union; place)"
abbrev pub tag_cells : ℕ → ℕ → ℕ → ℕ → List ℕ
tag_cells from to tag_from tag_to = from ∷ to ∷ tag_from ∷ tag_to ∷ []

abbrev pub number_cells : ℕ → ℕ → ℕ → List ℕ
number_cells from to number = from ∷ to ∷ number ∷ []

abbrev pub body_cells : ℕ → ℕ → ℕ → List ℕ
body_cells sort from to = sort ∷ from ∷ to ∷ []
