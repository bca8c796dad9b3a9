-- Document 01: what `%epp` gives, by the key and the text that stand there and not by the steps.
use Rattle.std.specs.Prelude.{ℕ, ◌<◌, ◌≡◌, List, [], ◌∷◌, ◌++◌, Bool, true, false, ◌⊎◌, Ok}
use Rattle.scan.specs.declared.Place.{Place}
use Rattle.words.specs.Words.{token_at}
use Rattle.words.specs.Strings.{string_at}
use Rattle.tables.specs.Layout.{epps, key_name, repeats, width}
use Rattle.tables.specs.Table.{cell, has_name, First}
use Rattle.tables.specs.Rows.{rows_of}
use Rattle.grammar.specs.declared.State.{State}
use Rattle.grammar.specs.Cells.{epp_cells, repeat_cells}
use Rattle.grammar.specs.State.{Out2, count, gap_at}

-- "5 `%epp` (key place as spelled, key name, value with its quotes)": from `at` on, behind the keyword, stand a token and a string. "Line ends are not allowed directly behind a
-- declaration keyword, an `%epp` key [..]".
pub record Keyed (kind : ℕ) (src : List ℕ) (at : ℕ) (key name value : Place) : Type 0 where
  pub quoted : Bool
  pub lines : ℕ
  pub more : ℕ
  pub behind_keyword : gap_at kind false src at ≡ Ok (key.from, lines)
  pub spelled : token_at src key.from ≡ Ok (name, key.to, quoted)
  pub behind_key : gap_at kind false src key.to ≡ Ok (value.from, more)
  pub text : string_at src value.from ≡ Ok value.to

-- "5 `%epp` (key place as spelled, key name, value with its quotes)": no row has the name; table 5 has this row more, and no other row or count changes
pub record New (src : List ℕ) (s : State) (t5 t10 : List ℕ) (key name value : Place) (o : Out2) : Type 0 where
  pub none : (r : ℕ) → r < count s epps → has_name src (width epps) key_name t5 name.from name.to r ≡ false
  pub rows : rows_of (width epps) (count o.state epps) o.a ≡ rows_of (width epps) (count s epps) t5 ++ (epp_cells key.from key.to name.from name.to value.from value.to ∷ [])
  pub repeats : o.b ≡ t10
  pub others : (k : ℕ) → (k ≡ epps → ⊥) → count o.state k ≡ count s k

-- "27 EPP repeated", "10 repeats (number, first place, repeated place)": the name has a row; table 5 stays, and table 10 has a row more, with the keys' places as spelled
pub record Again (src : List ℕ) (s : State) (t5 t10 : List ℕ) (key name : Place) (o : Out2) : Type 0 where
  pub row : ℕ
  pub first : First src (width epps) key_name (count s epps) t5 name.from name.to row
  pub stays : o.a ≡ t5
  pub rows : rows_of (width repeats) (count o.state repeats) o.b
      ≡ rows_of (width repeats) (count s repeats) t10 ++ (repeat_cells 27 (cell (width epps) t5 row 0) (cell (width epps) t5 row 1) key.from key.to ∷ [])
  pub others : (k : ℕ) → (k ≡ repeats → ⊥) → count o.state k ≡ count s k

-- A key and its text, which are given or listed as a repeat, and spacing behind them. "Line ends are not allowed directly behind [..] an `%epp` key [..]; elsewhere they are."
pub record Given (src : List ℕ) (s : State) (t5 t10 : List ℕ) (o : Out2) : Type 0 where
  pub key : Place
  pub name : Place
  pub value : Place
  pub lines : ℕ
  pub stand : Keyed s.kind src s.at key name value
  pub entry : New src s t5 t10 key name value o ⊎ Again src s t5 t10 key name o
  pub behind : gap_at s.kind true src value.to ≡ Ok (o.state.at, lines)
