-- What the rows of tables 7, 8 and 9 and the parse parameter of a reading are in its source.
use Rattle.std.specs.Prelude.{ℕ, ◌+◌, ◌≤◌, ◌<◌, ◌≡◌, List, Bool, false, get_or, Option, Some, None, Ok}
use Rattle.words.specs.Words.{token_at}
use Rattle.tables.specs.Rows.{row_at}
use Rattle.tables.specs.Layout.{rules, productions, symbols, typed, place, action, kind_name, width}
use Rattle.grammar.specs.declared.Counts.{Counts}
use Rattle.grammar.specs.declared.State.{State}
use Rattle.meaning.specs.Regions.{ParamMade, Arrowed, ActionMade}

-- "9 symbols (kind, place)": the place is that of a token as it stands in the source, and a symbol of kind "1 rule" is a bare one; "A bare token has no dots."
pub record SymbolMade (src x : List ℕ) : Type 0 where
  pub at : ℕ
  pub end : ℕ
  pub quoted : Bool
  pub token : token_at src at ≡ Ok (record { from = get_or x kind_name 0; to = get_or x (kind_name + 1) 0 }, end, quoted)
  pub rule : get_or x 0 0 ≡ 1 → quoted ≡ false
  pub plain : quoted ≡ false → (k : ℕ) → get_or x kind_name 0 ≤ k → k < get_or x (kind_name + 1) 0 → get_or src k 0 ≡ 46 → ⊥

-- "8 productions (rule row, place, symbol range, `%prec`, action)": where there is an action, it opens at the production's end, which runs "to the `{`"
pub record ProductionMade (src x : List ℕ) : Type 0 where
  pub acted : get_or x action 0 ≡ 1 → ActionMade src (get_or x (place + 1) 0) (get_or x (action + 1) 0) (get_or x (action + 2) 0) (get_or x (action + 3) 0) (get_or x (action + 4) 0)

-- "7 rules (name, action type or none)", of kind 2: there is a type, and it stands behind the name
pub record TypeMade (kind : ℕ) (src x : List ℕ) : Type 0 where
  pub given : get_or x typed 0 ≡ 1
  pub arrowed : Arrowed kind src (get_or x 1 0) (get_or x (typed + 1) 0) (get_or x (typed + 2) 0)

-- what holds of each of n rows of width w
abbrev pub EachRow : (List ℕ → Type 0) → ℕ → ℕ → List ℕ → Type 0
EachRow P w n t = (r : ℕ) → r < n → P (row_at w t r)

-- the parse parameter's name, if it is given
abbrev pub ParamFrom : ℕ → List ℕ → Option (ℕ × ℕ × ℕ × ℕ) → Type 0
ParamFrom kind src None = Unit {0}
ParamFrom kind src (Some (a, b, c, d)) = ParamMade kind src a b

-- All of it, of the counts, the parse parameter and the tables 7, 8 and 9 of a reading.
pub record Made (src : List ℕ) (kind : ℕ) (c : Counts) (p : Option (ℕ × ℕ × ℕ × ℕ)) (t7 t8 t9 : List ℕ) : Type 0 where
  pub rules : kind ≡ 2 → EachRow (TypeMade kind src) (width rules) (get_or c.n rules 0) t7
  pub productions : EachRow (ProductionMade src) (width productions) (get_or c.n productions 0) t8
  pub symbols : EachRow (SymbolMade src) (width symbols) (get_or c.n symbols 0) t9
  pub param : ParamFrom kind src p

-- the same of a reading under way, which is one of the kind
abbrev pub MadeAt : List ℕ → ℕ → State → List ℕ → List ℕ → List ℕ → Type 0
MadeAt src kind s t7 t8 t9 = Made src kind s.counts s.singles.param t7 t8 t9 × (s.kind ≡ kind)
