-- Document 01: the tables' rows, their widths and which cell is which, named once. Tables have an index from 0 on here: table k + 1 has index k, but for 15 to 17, which have 10 to 12.
use Rattle.std.specs.Prelude.{ℕ, ◌+◌, true, false, [], ◌∷◌, ltb, get_or}

-- "1 tokens (place, declared by `%token` or not)"
abbrev pub tokens : ℕ
tokens = 0

abbrev pub declared : ℕ
declared = 2

-- "2 precedences (place, level, association)"
abbrev pub precedences : ℕ
precedences = 1

abbrev pub level : ℕ
level = 2

abbrev pub association : ℕ
association = 3

-- "3 avoid, 4 implicit"
abbrev pub avoided : ℕ
avoided = 2

abbrev pub implicit : ℕ
implicit = 3

-- "5 `%epp` (key place as spelled, key name, value with its quotes)"
abbrev pub epps : ℕ
epps = 4

abbrev pub key_name : ℕ
key_name = 2

abbrev pub value : ℕ
value = 4

-- "6 expected unused (kind, place)"
abbrev pub unused : ℕ
unused = 5

-- "7 rules (name, action type or none)"
abbrev pub rules : ℕ
rules = 6

abbrev pub typed : ℕ
typed = 2

-- "8 productions (rule row, place, symbol range, `%prec`, action)"
abbrev pub productions : ℕ
productions = 7

abbrev pub rule_row : ℕ
rule_row = 0

abbrev pub place : ℕ
place = 1

abbrev pub symbols_from : ℕ
symbols_from = 3

abbrev pub symbols_to : ℕ
symbols_to = 4

abbrev pub prec : ℕ
prec = 5

abbrev pub action : ℕ
action = 8

-- "9 symbols (kind, place)", and by document 02, request Five, "the row number of its rule or token"
abbrev pub symbols : ℕ
symbols = 8

abbrev pub known_row : ℕ
known_row = 3

-- "or 4294967295 where no such row exists"
abbrev pub no_row : ℕ
no_row = 4294967295

-- "10 repeats (number, first place, repeated place)"
abbrev pub repeats : ℕ
repeats = 9

abbrev pub first_place : ℕ
first_place = 1

abbrev pub repeated_place : ℕ
repeated_place = 3

-- Document 02, request Nine: tables 15, 16 and 17 are those of kind 4, and stand behind the ten, from this index on.
abbrev pub posix_from : ℕ
posix_from = 10

-- "15 takes tags (name, tag)"
abbrev pub tags : ℕ
tags = 10

abbrev pub tag_place : ℕ
tag_place = 2

-- "16 numbers (name, number [..])"
abbrev pub token_numbers : ℕ
token_numbers = 11

abbrev pub token_number : ℕ
token_number = 2

-- "17 bodies (1 for `%{`, 2 for union; place)"
abbrev pub bodies : ℕ
bodies = 12

abbrev pub body_place : ℕ
body_place = 1

-- the number of the table that has an index
abbrev pub table_number : ℕ → ℕ
table_number k = elim (ltb k posix_from) [ true ↦ k + 1 | false ↦ k + 5 ]

-- in tables 6 and 9 a row's name stands behind its kind
abbrev pub kind_name : ℕ
kind_name = 1

-- "first place of the row that didn't fit, for 10 its repeated one": the cell where that place begins, in number order
abbrev pub row_place : ℕ → ℕ
row_place k = get_or (0 ∷ 0 ∷ 0 ∷ 0 ∷ 0 ∷ kind_name ∷ 0 ∷ place ∷ kind_name ∷ repeated_place ∷ 0 ∷ 0 ∷ body_place ∷ []) k 0

-- the widths in the order of the indexes; no table has none
abbrev pub width : ℕ → ℕ
width k = get_or (3 ∷ 4 ∷ 2 ∷ 2 ∷ 6 ∷ 3 ∷ 5 ∷ 13 ∷ 4 ∷ 5 ∷ 4 ∷ 3 ∷ 3 ∷ []) k 1

-- Document 02, request One, "table 14": number and place of a fault
abbrev pub fault_width : ℕ
fault_width = 3
