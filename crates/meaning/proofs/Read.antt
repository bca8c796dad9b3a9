-- What the rows of a reading are in its source, whatever the source, the kind, the lent tables and the answer: a read that was refused for more than repeats leaves
-- no row and no parse parameter. Assumes nothing.
use Rattle.std.specs.Prelude.{Option, Some, None, Ok, Err, Result}
use Prim.Native.Nat.{ℕ, ◌+◌, ◌≤◌, ◌<◌}
use mathlib.Core.Path.{◌≡◌, refl}
use mathlib.Core.List.{List}
use mathlib.Core.Bool.{Bool, true, false, ◌||◌}
use native.Mathlib.Omega.{arith}
use lib.Dec.{ltb, eqb}
use lib.ListN.{length, get_or}
use Rattle.scan.proofs.Bytes.{on_test, told}
use Rattle.whole.specs.Whole.{check_at}
use Rattle.whole.specs.Encode.{Text}
use Rattle.whole.proofs.Theorems.{good_iff}
use Rattle.tables.specs.Rows.{row_at}
use Rattle.tables.specs.Layout.{rules, productions, symbols, repeats, place, action, kind_name, known_row, width}
use Rattle.symbols.specs.Symbols.{Lexicon, filled_rows}
use Rattle.symbols.proofs.Laws.{fill_cell}
use Rattle.grammar.specs.declared.Counts.{Counts}
use Rattle.grammar.specs.declared.State.{State}
use Rattle.grammar.specs.declared.Answer.{Answer}
use Rattle.grammar.specs.declared.Answer.TheVariants.{Going, Done, Refused}
use Rattle.grammar.specs.State.{count, fresh}
use Rattle.grammar.specs.Sound.{AllTables, Indexes, zero_all}
use Rattle.declarations.specs.Declarations.{Out, decl_all}
use Rattle.rules.specs.Rules.{Ruled, rules_all}
use Rattle.grammar.specs.declared.Refusal.{Refusal}
use Rattle.sections.specs.Sections.{as_text, sized, sized_text, admitted, rest_from, rest_all, declared, sections_from, sections_all, attempt_of, attempted}
use Rattle.reader.specs.declared.Reading.{Reading}
use Rattle.reader.specs.Read.{ReadResult, ended_at, finished, finished_run, indexed, filled_in, read_names, read_all}
use Rattle.meaning.specs.Regions.{ParamMade, ActionMade}
use Rattle.meaning.specs.Made.{SymbolMade, TypeMade, ParamFrom, Made, MadeAt}
use Rattle.meaning.specs.Left.{MadeOf}
use Rattle.meaning.proofs.Rules.{MadeIn, rules_made, programs_made}
use Rattle.meaning.proofs.Declarations.{declarations_made}

-- no row and no parse parameter
none_made : (src : List ℕ) (kind : ℕ) (c : Counts) (t7 t8 t9 : List ℕ) → get_or c.n rules 0 ≡ 0 → get_or c.n productions 0 ≡ 0 → get_or c.n symbols 0 ≡ 0 → Made src kind c None t7 t8 t9
none_made src kind c t7 t8 t9 a b d = record { rules = λ q r l. absurd (omega arith); productions = λ r l. absurd (omega arith); symbols = λ r l. absurd (omega arith); param = tt }

module _ (src : List ℕ) (kind : ℕ) where
  -- the sections of a source that is a text
  sections_made : Text src → (T : AllTables) → let r = sections_all src (fresh kind) T in MadeAt src kind r.state r.tables.t7 r.tables.t8 r.tables.t9
  unfolding sections_all rest_all
  sections_made t T =
      let o = decl_all src (fresh kind) (declared T) in
      go o.answer o (declarations_made src kind T.t7 T.t8 T.t9 t (fresh kind) (none_made src kind (fresh kind).counts T.t7 T.t8 T.t9 refl refl refl, refl) (declared T))
    where
      rest : (a : Answer) (r : Ruled) → MadeIn src t kind r → MadeIn src t kind (rest_from a src r)
      rest Going r x = programs_made src t kind r.state r.t7 r.t8 r.t9 x
      rest Done r x = x
      rest (Refused f) r x = x

      go : (a : Answer) (o : Out) → MadeAt src kind o.state T.t7 T.t8 T.t9 → let r = sections_from a src o T in MadeAt src kind r.state r.tables.t7 r.tables.t8 r.tables.t9
      go Going o x = x
      go Done o x = let r = rules_all src o.state o.tables.t1 T.t7 T.t8 T.t9 in rest r.answer r (rules_made src t kind o.state o.tables.t1 T.t7 T.t8 T.t9 x)
      go (Refused f) o x = x

  -- a symbol's row number has nothing to do with its name
  made_filled : (c : Counts) (p : Option (ℕ × ℕ × ℕ × ℕ)) (t7 t8 t9 : List ℕ) (g : Lexicon) (n : ℕ) → Made src kind c p t7 t8 t9 → Made src kind c p t7 t8 (filled_rows g t9 n)
  made_filled c p t7 t8 t9 g n x =
      record {
        rules = x.rules;
        productions = x.productions;
        symbols = λ r h. let y = x.symbols r h in record { at = y.at; end = y.end; quoted = y.quoted; token = rw (same r 1 (omega arith), same r 2 (omega arith)) y.token; rule = rw (same r 0 (omega arith)) y.rule; plain = rw (same r 1 (omega arith), same r 2 (omega arith)) y.plain };
        param = x.param;
      }
    where
      same : (r k : ℕ) → k < known_row → get_or (row_at (width symbols) (filled_rows g t9 n) r) k 0 ≡ get_or (row_at (width symbols) t9 r) k 0
      same r k h = fill_cell g t9 n r k h

  finished_made : (X : Indexes) (a : Answer) (s : State) (T : AllTables) → MadeAt src kind s T.t7 T.t8 T.t9 → MadeOf src kind (filled_in src (indexed src X (finished a s T)))
  unfolding ended_at
  finished_made X a s T x = go a
    where
      ended : let r = ended_at s T.t10 in Made src kind r.counts r.singles.param T.t7 T.t8 T.t9
      ended = on_test (λ (r : Reading). Made src kind r.counts r.singles.param T.t7 T.t8 T.t9) (eqb (count s repeats) 0) _ _ (λ e. x.0) (λ e. x.0)

      go : (a : Answer) → MadeOf src kind (filled_in src (indexed src X (finished a s T)))
      go Going = made_filled _ _ _ _ _ _ _ ended
      go Done = made_filled _ _ _ _ _ _ _ ended
      go (Refused f) = none_made src kind _ _ _ _ refl refl refl

  -- a source that can be read is a text
  abbrev Admits : Result (Unit {0}) Refusal → Type 0
  Admits (Ok _) = Text src
  Admits (Err f) = Unit {0}

  admits : (fit : Bool) → Admits (admitted src kind fit)
  unfolding admitted
  admits fit = on_test Admits (ltb kind 1 || ltb 4 kind) _ _ (λ e. tt) (λ e. by fit)
    where
      go : (c : Result (Unit {0}) ℕ) → check_at src 0 ≡ c → Admits (as_text c)
      go (Ok _) e = (good_iff src).0 e
      go (Err i) e = tt

      by : (b : Bool) → Admits (sized_text b src)
      by true = on_test Admits (ltb 65536 (length src)) _ _ (λ h. tt) (λ h. go (check_at src 0) refl)
      by false = tt

  -- Each row of tables 7, 8 and 9 that a read leaves, and the parse parameter, is made from the source as it should be.
  pub read_made : (T : AllTables) (X : Indexes) → MadeOf src kind (read_all src kind T X)
  unfolding read_all read_names attempted
  read_made T X = go (admitted src kind (sized T X)) (admits (sized T X))
    where
      go : (m : Result (Unit {0}) Refusal) → Admits m → MadeOf src kind (filled_in src (indexed src X (finished_run (attempt_of m src kind (zero_all T)))))
      go (Ok _) t = let r = sections_all src (fresh kind) (zero_all T) in finished_made X r.answer r.state r.tables (sections_made t (zero_all T))
      go (Err f) t = none_made src kind _ _ _ _ refl refl refl

  module _ (T : AllTables) (X : Indexes) where
    abbrev o : ReadResult
    o = read_all src kind T X

    -- Every symbol is a token as it stands in the source, a rule's name in a production is a bare one, and a bare one has no dot.
    pub symbols_spelled : (r : ℕ) → r < get_or o.counts.n symbols 0 → SymbolMade src (row_at (width symbols) o.tables.t9 r)
    symbols_spelled = (read_made T X).symbols

    -- "A dotted rule name accepted in a production" is ruled out: no symbol that is a rule has a dot.
    pub no_dotted_symbol : (r : ℕ) → r < get_or o.counts.n symbols 0 → let x = row_at (width symbols) o.tables.t9 r in get_or x 0 0 ≡ 1 → (k : ℕ) → get_or x kind_name 0 ≤ k → k < get_or x (kind_name + 1) 0 → get_or src k 0 ≡ 46 → ⊥
    no_dotted_symbol r h e = let x = symbols_spelled r h in x.plain (x.rule e)

    -- The text of every action is what trimming leaves of the region between its braces, of which the first stands where the production ends.
    pub action_trimmed_read : (r : ℕ) → r < get_or o.counts.n productions 0 → let x = row_at (width productions) o.tables.t8 r in get_or x action 0 ≡ 1 → ActionMade src (get_or x (place + 1) 0) (get_or x (action + 1) 0) (get_or x (action + 2) 0) (get_or x (action + 3) 0) (get_or x (action + 4) 0)
    action_trimmed_read r h = ((read_made T X).productions r h).acted

    -- In kind 2 every rule has a type, which is what trimming leaves of the region from behind the `->` that follows its name to a single colon.
    pub type_trimmed : kind ≡ 2 → (r : ℕ) → r < get_or o.counts.n rules 0 → TypeMade kind src (row_at (width rules) o.tables.t7 r)
    type_trimmed = (read_made T X).rules

    -- The parse parameter's name is what trimming leaves of the region from behind a `%parse-param` to a single colon.
    pub param_trimmed : (a b c d : ℕ) → o.singles.param ≡ Some (a, b, c, d) → ParamMade kind src a b
    param_trimmed a b c d e = told (ParamFrom kind src) e (read_made T X).param
