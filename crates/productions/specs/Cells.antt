-- Document 01: "8 productions (rule row, place, symbol range, `%prec`, action)": a production as the cells of its row, and back.
use Rattle.std.specs.Prelude.{ℕ, ◌+◌, ◌≡◌, refl, List, [], ◌∷◌, Bool, true, false, not, get_or, eqb, Option, Some, None}
use Rattle.tables.specs.Below.{below}
use Rattle.tables.specs.Table.{cell}
use Rattle.tables.specs.Layout.{productions, rule_row, place, symbols_from, symbols_to, prec, action, width}
use Rattle.grammar.specs.declared.State.{State}
use Rattle.grammar.specs.declared.Refusal.TheVariants.{NoRoom}
use Rattle.grammar.specs.State.{Out1, no_room, push_row}
use Rattle.productions.specs.declared.Production.{Production}

-- "A production's `%prec` is either absent or a name with its place": 0 and zeros, or 1 and the place
abbrev pub prec_cells : Option (ℕ × ℕ) → List ℕ
prec_cells None = 0 ∷ 0 ∷ 0 ∷ []
prec_cells (Some (a, b)) = 1 ∷ a ∷ b ∷ []

-- "its action is absent, or the place of its trimmed text beside the crate's span": 0 and zeros, or 1 and both places
abbrev pub action_cells : Option (ℕ × ℕ × ℕ × ℕ) → List ℕ
action_cells None = 0 ∷ 0 ∷ 0 ∷ 0 ∷ 0 ∷ []
action_cells (Some (a, b, c, d)) = 1 ∷ a ∷ b ∷ c ∷ d ∷ []

-- the row of a production
abbrev pub production_cells : Production → List ℕ
production_cells p =
    p.rule ∷ p.from ∷ p.to ∷ p.first ∷ p.last
    ∷ get_or (prec_cells p.prec) 0 0 ∷ get_or (prec_cells p.prec) 1 0 ∷ get_or (prec_cells p.prec) 2 0
    ∷ get_or (action_cells p.action) 0 0 ∷ get_or (action_cells p.action) 1 0 ∷ get_or (action_cells p.action) 2 0 ∷ get_or (action_cells p.action) 3 0 ∷ get_or (action_cells p.action) 4 0 ∷ []

-- back: a flag of 1 says that the places are given
unfoldable pub prec_of : ℕ → ℕ → ℕ → Option (ℕ × ℕ)
prec_of f a b = elim (eqb f 1) [ true ↦ Some (a, b) | false ↦ None ]

unfoldable pub action_of : ℕ → ℕ → ℕ → ℕ → ℕ → Option (ℕ × ℕ × ℕ × ℕ)
action_of f a b c d = elim (eqb f 1) [ true ↦ Some (a, b, c, d) | false ↦ None ]

abbrev pub cell_of : List ℕ → ℕ → ℕ → ℕ
cell_of t r k = cell (width productions) t r k

-- the production of row r
unfoldable pub production_at : List ℕ → ℕ → Production
production_at t r =
    record {
      rule = cell_of t r rule_row;
      from = cell_of t r place;
      to = cell_of t r (place + 1);
      first = cell_of t r symbols_from;
      last = cell_of t r symbols_to;
      prec = prec_of (cell_of t r prec) (cell_of t r (prec + 1)) (cell_of t r (prec + 2));
      action = action_of (cell_of t r action) (cell_of t r (action + 1)) (cell_of t r (action + 2)) (cell_of t r (action + 3)) (cell_of t r (action + 4));
    }

-- row r has no `%prec`; one of the first n rows has one
abbrev pub precless : List ℕ → ℕ → Bool
precless t r = not (eqb (cell_of t r prec) 1)

abbrev pub gives_prec : List ℕ → ℕ → Bool
gives_prec t n = not (below n (precless t))

-- a production joins table 8; 42 is at its place
unfoldable pub push_production : State → Production → List ℕ → Out1
push_production s p t = push_row s productions (production_cells p) t

-- "42 no room: first place of the row that didn't fit": that of the production
pub full_production : (p : Production) → no_room productions (production_cells p) ≡ NoRoom 8 p.from p.to
full_production p = refl
