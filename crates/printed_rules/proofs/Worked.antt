-- A worked example: rules and a programs text as they are shipped. Assumes nothing.
use mathlib.Core.Path.{◌≡◌, refl}
use mathlib.Core.List.{List, [], ◌∷◌}
use Rattle.printed_rules.specs.Items.{quoted, bare, named, empty, action, bar, items_text}
use Rattle.printed_rules.specs.Rules.{Rule, none, given, type_text, rule_text, rules_text, programs_text, rest_text}

-- `s.t` of type `a::b<u8> `, with `A u %prec U { é{} }`, `%empty %prec '+'` and `"q" 'r'`, and `u` of type `()`, with two empty productions
abbrev worked : List Rule
worked =
    record {
      name = 115 ∷ 46 ∷ 116 ∷ [];
      type = 97 ∷ 58 ∷ 58 ∷ 98 ∷ 60 ∷ 117 ∷ 56 ∷ 62 ∷ 32 ∷ [];
      items = bare (65 ∷ []) ∷ bare (117 ∷ []) ∷ named (85 ∷ []) ∷ action (123 ∷ 32 ∷ 195 ∷ 169 ∷ 123 ∷ 125 ∷ 32 ∷ 125 ∷ []) ∷ bar ∷ empty ∷ named (39 ∷ 43 ∷ 39 ∷ []) ∷ bar ∷ quoted (34 ∷ 113 ∷ 34 ∷ []) ∷ quoted (39 ∷ 114 ∷ 39 ∷ []) ∷ [];
    }
    ∷ record { name = 117 ∷ []; type = 40 ∷ 41 ∷ []; items = bar ∷ [] }
    ∷ []

-- in kind 2
pub worked_2 : rest_text 2 worked (given (112 ∷ 114 ∷ 111 ∷ 103 ∷ []))
    ≡ 37 ∷ 37 ∷ 10 ∷ 115 ∷ 46 ∷ 116 ∷ 32 ∷ 45 ∷ 62 ∷ 32 ∷ 97 ∷ 58 ∷ 58 ∷ 98 ∷ 60 ∷ 117 ∷ 56 ∷ 62 ∷ 32 ∷ 58 ∷ 32 ∷ 65 ∷ 32 ∷ 117 ∷ 32 ∷ 37 ∷ 112 ∷ 114 ∷ 101 ∷ 99 ∷ 32 ∷ 85 ∷ 32 ∷ 123 ∷ 32 ∷ 195 ∷ 169 ∷ 123 ∷ 125 ∷ 32 ∷ 125 ∷ 10 ∷ 124 ∷ 32 ∷ 37 ∷ 101 ∷ 109 ∷ 112 ∷ 116 ∷ 121 ∷ 32 ∷ 37 ∷ 112 ∷ 114 ∷ 101 ∷ 99 ∷ 32 ∷ 39 ∷ 43 ∷ 39 ∷ 10 ∷ 124 ∷ 32 ∷ 34 ∷ 113 ∷ 34 ∷ 32 ∷ 39 ∷ 114 ∷ 39 ∷ 32 ∷ 59 ∷ 10 ∷ 117 ∷ 32 ∷ 45 ∷ 62 ∷ 32 ∷ 40 ∷ 41 ∷ 58 ∷ 10 ∷ 124 ∷ 32 ∷ 59 ∷ 10 ∷ 37 ∷ 37 ∷ 10 ∷ 112 ∷ 114 ∷ 111 ∷ 103 ∷ []
unfolding rest_text rules_text rule_text type_text items_text programs_text
worked_2 = refl

-- and in the kinds without types
pub worked_1 : rest_text 1 worked (given (112 ∷ 114 ∷ 111 ∷ 103 ∷ []))
    ≡ 37 ∷ 37 ∷ 10 ∷ 115 ∷ 46 ∷ 116 ∷ 58 ∷ 32 ∷ 65 ∷ 32 ∷ 117 ∷ 32 ∷ 37 ∷ 112 ∷ 114 ∷ 101 ∷ 99 ∷ 32 ∷ 85 ∷ 32 ∷ 123 ∷ 32 ∷ 195 ∷ 169 ∷ 123 ∷ 125 ∷ 32 ∷ 125 ∷ 10 ∷ 124 ∷ 32 ∷ 37 ∷ 101 ∷ 109 ∷ 112 ∷ 116 ∷ 121 ∷ 32 ∷ 37 ∷ 112 ∷ 114 ∷ 101 ∷ 99 ∷ 32 ∷ 39 ∷ 43 ∷ 39 ∷ 10 ∷ 124 ∷ 32 ∷ 34 ∷ 113 ∷ 34 ∷ 32 ∷ 39 ∷ 114 ∷ 39 ∷ 32 ∷ 59 ∷ 10 ∷ 117 ∷ 58 ∷ 10 ∷ 124 ∷ 32 ∷ 59 ∷ 10 ∷ 37 ∷ 37 ∷ 10 ∷ 112 ∷ 114 ∷ 111 ∷ 103 ∷ []
unfolding rest_text rules_text rule_text type_text items_text programs_text
worked_1 = refl

pub worked_3 : rest_text 3 worked (given (112 ∷ 114 ∷ 111 ∷ 103 ∷ [])) ≡ rest_text 1 worked (given (112 ∷ 114 ∷ 111 ∷ 103 ∷ []))
unfolding rest_text rules_text rule_text type_text items_text programs_text
worked_3 = refl

-- with no rule and no programs, the `%%` stands alone on its line
pub worked_none : rest_text 1 [] none ≡ 37 ∷ 37 ∷ 10 ∷ []
unfolding rest_text rules_text programs_text
worked_none = refl
