-- Document 01, "42 no room: first place of the row that didn't fit, for 10 its repeated one, and table number", table by table; that of table 8 is in `productions`.
use Rattle.std.specs.Prelude.{ℕ, ◌≡◌, refl, Option}
use Rattle.tables.specs.Layout.{tokens, precedences, avoided, implicit, epps, unused, rules, symbols, repeats, tags, token_numbers, bodies}
use Rattle.grammar.specs.declared.Refusal.TheVariants.{NoRoom}
use Rattle.grammar.specs.Cells.{token_cells, precedence_cells, name_cells, epp_cells, kind_cells, symbol_cells, rule_cells, repeat_cells, tag_cells, number_cells, body_cells}
use Rattle.grammar.specs.State.{no_room}

pub full_tokens : (from to declared : ℕ) → no_room tokens (token_cells from to declared) ≡ NoRoom 1 from to
full_tokens from to declared = refl

pub full_precedences : (from to level association : ℕ) → no_room precedences (precedence_cells from to level association) ≡ NoRoom 2 from to
full_precedences from to level association = refl

pub full_avoided : (from to : ℕ) → no_room avoided (name_cells from to) ≡ NoRoom 3 from to
full_avoided from to = refl

pub full_implicit : (from to : ℕ) → no_room implicit (name_cells from to) ≡ NoRoom 4 from to
full_implicit from to = refl

-- the key as spelled comes first
pub full_epps : (key_from key_to name_from name_to value_from value_to : ℕ) → no_room epps (epp_cells key_from key_to name_from name_to value_from value_to) ≡ NoRoom 5 key_from key_to
full_epps key_from key_to name_from name_to value_from value_to = refl

pub full_unused : (kind from to : ℕ) → no_room unused (kind_cells kind from to) ≡ NoRoom 6 from to
full_unused kind from to = refl

-- the name comes before the type
pub full_rules : (from to : ℕ) (type : Option (ℕ × ℕ)) → no_room rules (rule_cells from to type) ≡ NoRoom 7 from to
full_rules from to type = refl

pub full_symbols : (kind from to : ℕ) → no_room symbols (symbol_cells kind from to) ≡ NoRoom 9 from to
full_symbols kind from to = refl

pub full_repeats : (number a b c d : ℕ) → no_room repeats (repeat_cells number a b c d) ≡ NoRoom 10 c d
full_repeats number a b c d = refl

-- of kind 4's tables the name comes first, and in table 17 the body
pub full_tags : (from to tag_from tag_to : ℕ) → no_room tags (tag_cells from to tag_from tag_to) ≡ NoRoom 15 from to
full_tags from to tag_from tag_to = refl

pub full_numbers : (from to number : ℕ) → no_room token_numbers (number_cells from to number) ≡ NoRoom 16 from to
full_numbers from to number = refl

pub full_bodies : (sort from to : ℕ) → no_room bodies (body_cells sort from to) ≡ NoRoom 17 from to
full_bodies sort from to = refl
