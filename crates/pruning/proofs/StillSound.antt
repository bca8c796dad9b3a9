-- The pruned tables are sound, with their indexes and with the rows that symbols have. Assumes nothing.
use Rattle.std.specs.Prelude.{Ok}
use Prim.Native.Nat.{ℕ, zero, suc, ◌+◌, ◌≤◌, ◌<◌}
use mathlib.Core.Path.{◌≡◌, refl, sym, ap, ap₂, ◌∙◌}
use mathlib.Core.List.{List, []}
use native.Mathlib.Omega.{arith}
use native.Mathlib.Decide.{ℕ_discrete}
use lib.ListN.{length, get_or}
use lib.Seq.{get_or-set_same, get_or-set_other}
use Rattle.scan.proofs.Bytes.{told}
use Rattle.tables.specs.Table.{cell, find_name}
use Rattle.tables.specs.Rows.{row_at, Chained}
use Rattle.tables.specs.Layout.{tokens, precedences, avoided, implicit, epps, unused, rules, productions, symbols, repeats, key_name, rule_row, place, symbols_from, symbols_to, prec, action, kind_name, known_row, width}
use Rattle.tables.proofs.Rows.{row_cell, row_length, rows_map, rows_as}
use Rattle.index.specs.Index.{entries, Sized}
use Rattle.index.proofs.Theorems.{entries_length}
use Rattle.symbols.specs.Symbols.{row_number, named_row, row_for}
use Rattle.symbols.proofs.Laws.{named_rule, named_token, symbol_is}
use Rattle.grammar.specs.declared.Counts.{Counts}
use Rattle.grammar.specs.declared.Singles.{Singles}
use Rattle.grammar.specs.Sound.{Tables, tab, Indexes, SoundIndexes, View, KindRow, ProductionRow, Table, sound_view, lexicon_of, Sound}
use Rattle.sound.specs.Test.{count_at}
use Rattle.validation.specs.Faults.{validity}
use Rattle.closing.specs.Close.{rank}
use Rattle.closing.proofs.Numbers.{From, rank_from, rank_below, kept_at, kept_length, closed_length, closed_rows}
use Rattle.pruning.specs.Stays.{StayWork}
use Rattle.pruning.specs.Pruned.{rule_stays, token_stays, row_stays, production_stays, renumbered_rule, rechained, new_number, renumbered_symbol, symbols_of, tokens_left, rules_left, Pruned, pruned}
use Rattle.pruning.specs.Again.{grammar_in, excuses_in}
use Rattle.pruning.proofs.Rows.{offset, made_rule, made_other, number_rule, number_token}
use Rattle.pruning.proofs.Forth.{Ready, count_tokens, count_avoided, count_epps, count_rules, count_productions, count_symbols, rows, eight, nine, rows_wide, new_symbol, new_symbol_cell}
use Rattle.pruning.proofs.Sizes.{few_productions, few_symbols, fits_8, fits_9, clean_8, clean_9, row_8, chained_after, Came, came}
use Rattle.pruning.proofs.Kept.{sound, ready, same_count, rule_new, token_new}

-- a production by its new numbers
production_row_lem : (src : List ℕ) (v v' : View) (ws : List ℕ) (e : ℕ) (x : List ℕ) → length x ≡ width productions → rank (rule_stays ws) (get_or x rule_row 0) < v'.rules → ProductionRow src v x → ProductionRow src v' (rechained e (renumbered_rule ws x))
production_row_lem src v v' ws e x wide low y =
    let same : (k : ℕ) → (k ≡ rule_row → ⊥) → (k ≡ symbols_from → ⊥) → (k ≡ symbols_to → ⊥) → get_or (rechained e (renumbered_rule ws x)) k 0 ≡ get_or x k 0 = made_other ws e x in
    let s1 = same place (λ q. omega arith) (λ q. omega arith) (λ q. omega arith) in
    let s2 = same (place + 1) (λ q. omega arith) (λ q. omega arith) (λ q. omega arith) in
    let p0 = same prec (λ q. omega arith) (λ q. omega arith) (λ q. omega arith) in
    let p1 = same (prec + 1) (λ q. omega arith) (λ q. omega arith) (λ q. omega arith) in
    let p2 = same (prec + 2) (λ q. omega arith) (λ q. omega arith) (λ q. omega arith) in
    let a0 = same action (λ q. omega arith) (λ q. omega arith) (λ q. omega arith) in
    let a1 = same (action + 1) (λ q. omega arith) (λ q. omega arith) (λ q. omega arith) in
    let a2 = same (action + 2) (λ q. omega arith) (λ q. omega arith) (λ q. omega arith) in
    let a3 = same (action + 3) (λ q. omega arith) (λ q. omega arith) (λ q. omega arith) in
    let a4 = same (action + 4) (λ q. omega arith) (λ q. omega arith) (λ q. omega arith) in
    record {
      rule = rw (made_rule ws e x wide) low;
      span = rw (s1, s2) y.span;
      precedence = rw (p0, p1, p2) y.precedence;
      body = rw (a0, a1, a2, a3, a4) y.body;
    }

-- a symbol by its new number
symbol_row_lem : (src : List ℕ) (c : Counts) (ws x : List ℕ) → KindRow src x → KindRow src (renumbered_symbol c ws x)
symbol_row_lem src c ws x y =
    let v = new_number c ws (get_or x 0 0) (get_or x known_row 0) in
    let k0 = get_or-set_other x known_row 0 v 0 (λ q. omega arith) in
    let k1 = get_or-set_other x known_row kind_name v 0 (λ q. omega arith) in
    let k2 = get_or-set_other x known_row (kind_name + 1) v 0 (λ q. omega arith) in
    record { least = rw k0 y.least; most = rw k0 y.most; name = rw (k1, k2) y.name }

module _ (src : List ℕ) (c : Counts) (g : Singles) (T : Tables) (X : Indexes) (ws : List ℕ) (ten : length c.n ≡ 10) (v : validity src c g T X ≡ Ok tt) (work : StayWork (grammar_in src g.start c T) (excuses_in src c T) ws) where
  abbrev ok : Ready c T
  ok = ready src c g T X ws ten v work

  abbrev old : Sound src c g T X
  old = sound src c g T X ws ten v work

  unfoldable made : Pruned
  made = pruned src c T X ws

  abbrev left : List (List ℕ)
  left = rows src c T ws ok

  table : (k : ℕ) → k < 10 → Table src (sound_view c) k (count_at c k) (tab T k)
  table k h = record { fits = old.fits k h; low = old.low k h; clean = old.clean k h; each = λ r l. old.rows k r h l; pairs = λ q r l m. old.names k q r h l m }

  -- the counts
  tokens_now_lem : count_at made.counts tokens ≡ rank (token_stays c ws) (count_at c tokens)
  unfolding made pruned
  tokens_now_lem = count_tokens c _ _ _ _ _ _ ten

  rules_now : count_at made.counts rules ≡ rank (rule_stays ws) (count_at c rules)
  unfolding made pruned
  rules_now = count_rules c _ _ _ _ _ _ ten

  productions_now : count_at made.counts productions ≡ length left
  unfolding made pruned rows
  productions_now = count_productions c _ _ _ _ _ _ ten

  symbols_now : count_at made.counts symbols ≡ length (symbols_of c ws T.t9 left)
  unfolding made pruned rows
  symbols_now = count_symbols c _ _ _ _ _ _ ten

  -- table by table
  after_1 : Table src (sound_view made.counts) tokens (count_at made.counts tokens) made.tables.t1
  unfolding made pruned
  after_1 = rows_as (sym tokens_now_lem) refl (closed_rows (token_stays c ws) (table tokens (omega arith)))

  after_2 : Table src (sound_view made.counts) precedences (count_at made.counts precedences) made.tables.t2
  unfolding made pruned
  after_2 =
      rows_as (same_count src c g T X ws ten v work precedences (λ q. omega arith) (λ q. omega arith) (λ q. omega arith) (λ q. omega arith) (λ q. omega arith) (λ q. omega arith)) refl
      (rows_map (λ x y. record { name = y.name; earlier = y.earlier; least = y.least; most = y.most }) (table precedences (omega arith)))

  after_3 : Table src (sound_view made.counts) avoided (count_at made.counts avoided) made.tables.t3
  unfolding made pruned
  after_3 = rows_as (sym (count_avoided c _ _ _ _ _ _ ten)) refl (closed_rows (row_stays src c T.t1 ws (width avoided) 0 T.t3) (table avoided (omega arith)))

  after_4 : Table src (sound_view made.counts) implicit (count_at made.counts implicit) made.tables.t4
  unfolding made pruned
  after_4 = rows_as (same_count src c g T X ws ten v work implicit (λ q. omega arith) (λ q. omega arith) (λ q. omega arith) (λ q. omega arith) (λ q. omega arith) (λ q. omega arith)) refl (table implicit (omega arith))

  after_5 : Table src (sound_view made.counts) epps (count_at made.counts epps) made.tables.t5
  unfolding made pruned
  after_5 =
      rows_as (sym (count_epps c _ _ _ _ _ _ ten)) refl
      (rows_map (λ x y. record { key = y.key; name = y.name; text = y.text; closed = y.closed }) (closed_rows (row_stays src c T.t1 ws (width epps) key_name T.t5) (table epps (omega arith))))

  after_6 : Table src (sound_view made.counts) unused (count_at made.counts unused) made.tables.t6
  unfolding made pruned
  after_6 = rows_as (same_count src c g T X ws ten v work unused (λ q. omega arith) (λ q. omega arith) (λ q. omega arith) (λ q. omega arith) (λ q. omega arith) (λ q. omega arith)) refl (table unused (omega arith))

  after_7 : Table src (sound_view made.counts) rules (count_at made.counts rules) made.tables.t7
  unfolding made pruned
  after_7 = rows_as (sym rules_now) refl (closed_rows (rule_stays ws) (table rules (omega arith)))

  production_each : (j : ℕ) → j < length left → ProductionRow src (sound_view made.counts) (row_at (width productions) (eight src c T ws ok) j)
  unfolding rows production_stays
  production_each j h = go (rank_from (production_stays ws T.t8) (count_at c productions) j (let n = kept_length (production_stays ws T.t8) (width productions) T.t8 (count_at c productions) in omega arith))
    where
      go : From (production_stays ws T.t8) (count_at c productions) j → ProductionRow src (sound_view made.counts) (row_at (width productions) (eight src c T ws ok) j)
      go x =
          let e = ap (λ (n : ℕ). get_or left n []) (sym x.same) ∙ kept_at (production_stays ws T.t8) (width productions) T.t8 (count_at c productions) x.row x.there x.kept in
          let y : ProductionRow src (sound_view c) (get_or left j []) = told (ProductionRow src (sound_view c)) (sym e) (old.rows productions x.row (omega arith) x.there) in
          let r = ap (λ (z : List ℕ). get_or z rule_row 0) e ∙ row_cell (width productions) T.t8 x.row rule_row (omega arith) in
          let b = rank_below (rule_stays ws) (cell (width productions) T.t8 x.row rule_row) (count_at c rules) (ok.owned x.row x.there) x.kept in
          let n = rules_now in
          let low : rank (rule_stays ws) (get_or (get_or left j []) rule_row 0) < count_at made.counts rules = rw r (omega arith) in
          told (ProductionRow src (sound_view made.counts)) (sym (row_8 src c T ws ok j h)) (production_row_lem src (sound_view c) (sound_view made.counts) ws (0 + offset left j) (get_or left j []) (rows_wide src c T ws ok j h) low y)

  after_8 : Table src (sound_view made.counts) productions (count_at made.counts productions) made.tables.t8
  unfolding made pruned rows
  after_8 =
      rows_as (sym productions_now) refl
      (record {
        fits = fits_8 src c T ws ok;
        low = let a = few_productions src c T ws ok in let b = old.low productions (omega arith) in omega arith;
        clean = clean_8 src c T ws ok;
        each = production_each;
        pairs = λ q r l h. tt;
      })

  -- the symbol that symbol s was
  symbol_each : (s : ℕ) → s < length (symbols_of c ws T.t9 left) → KindRow src (row_at (width symbols) (nine src c T ws ok) s)
  symbol_each s h = go (came src c T ws ok s h)
    where
      go : Came src c T ws ok s → KindRow src (row_at (width symbols) (nine src c T ws ok) s)
      go x =
          let e = ap (λ (n : ℕ). row_at (width symbols) (nine src c T ws ok) n) (sym x.same) ∙ new_symbol src c T ws ok x.prod x.there x.stays x.k x.small in
          let r = ok.ranges x.prod x.there in
          let l = x.small in
          told (KindRow src) (sym e) (symbol_row_lem src c ws _ (old.rows symbols (cell (width productions) T.t8 x.prod symbols_from + x.k) (omega arith) (omega arith)))

  after_9 : Table src (sound_view made.counts) symbols (count_at made.counts symbols) made.tables.t9
  unfolding made pruned rows
  after_9 =
      rows_as (sym symbols_now) refl
      (record {
        fits = fits_9 src c T ws ok;
        low = let a = few_symbols src c T ws ok in let b = old.low symbols (omega arith) in omega arith;
        clean = clean_9 src c T ws ok;
        each = symbol_each;
        pairs = λ q r l h. tt;
      })

  after_10 : Table src (sound_view made.counts) repeats (count_at made.counts repeats) made.tables.t10
  unfolding made pruned
  after_10 = rows_as (same_count src c g T X ws ten v work repeats (λ q. omega arith) (λ q. omega arith) (λ q. omega arith) (λ q. omega arith) (λ q. omega arith) (λ q. omega arith)) refl (table repeats (omega arith))

  tables_after : (k : ℕ) → k < 10 → Table src (sound_view made.counts) k (count_at made.counts k) (tab made.tables k)
  tables_after zero h = after_1
  tables_after (suc zero) h = after_2
  tables_after (suc (suc zero)) h = after_3
  tables_after (suc (suc (suc zero))) h = after_4
  tables_after (suc (suc (suc (suc zero)))) h = after_5
  tables_after (suc (suc (suc (suc (suc zero))))) h = after_6
  tables_after (suc (suc (suc (suc (suc (suc zero)))))) h = after_7
  tables_after (suc (suc (suc (suc (suc (suc (suc zero))))))) h = after_8
  tables_after (suc (suc (suc (suc (suc (suc (suc (suc zero)))))))) h = after_9
  tables_after (suc (suc (suc (suc (suc (suc (suc (suc (suc zero))))))))) h = after_10
  tables_after (suc (suc (suc (suc (suc (suc (suc (suc (suc (suc k)))))))))) h = absurd (omega arith)

  -- the indexes
  indexes_after : SoundIndexes src made.counts made.tables made.indexes
  unfolding made pruned
  indexes_after =
      let a = entries_length src (width tokens) 0 (tokens_left c T.t1 ws).cells (length X.tokens) (rank (token_stays c ws) (count_at c tokens)) in
      let b = entries_length src (width rules) 0 (rules_left c T.t7 ws).cells (length X.rules) (rank (rule_stays ws) (count_at c rules)) in
      let d = closed_length (token_stays c ws) (width tokens) (count_at c tokens) T.t1 ok.tokens_fit in
      let e = closed_length (rule_stays ws) (width rules) (count_at c rules) T.t7 ok.rules_fit in
      record {
        token_size = told (λ (n : ℕ). Sized n (length made.tables.t1) (width tokens)) (sym a) (told (λ (n : ℕ). Sized (length X.tokens) n (width tokens)) (sym d) old.indexes.token_size);
        rule_size = told (λ (n : ℕ). Sized n (length made.tables.t7) (width rules)) (sym b) (told (λ (n : ℕ). Sized (length X.rules) n (width rules)) (sym e) old.indexes.rule_size);
        tokens = record { holds = ap₂ (λ (m n : ℕ). entries src (width tokens) 0 made.tables.t1 m n) (sym a) (sym tokens_now_lem) };
        rules = record { holds = ap₂ (λ (m n : ℕ). entries src (width rules) 0 made.tables.t7 m n) (sym b) (sym rules_now) };
      }

  -- symbols know their rows
  knows : (s : ℕ) → Came src c T ws ok s → cell (width symbols) made.tables.t9 s known_row ≡ row_for (lexicon_of src made.counts made.tables) made.tables.t9 s
  unfolding made pruned rows
  knows s x =
      let q = cell (width productions) T.t8 x.prod symbols_from + x.k in
      let l = x.small in
      let r = ok.ranges x.prod x.there in
      let fit = ok.symbols_fit in
      let from : cell (width productions) T.t8 x.prod symbols_from ≤ q = omega arith in
      let to : q < cell (width productions) T.t8 x.prod symbols_to = omega arith in
      let y = row_at (width symbols) T.t9 q in
      let same : (k : ℕ) → k < known_row → cell (width symbols) T.t9 q k ≡ cell (width symbols) made.tables.t9 s k = λ k h. sym (ap (λ (n : ℕ). cell (width symbols) made.tables.t9 n k) (sym x.same) ∙ new_symbol_cell src c T ws ok x.prod x.there x.stays x.k x.small k h) in
      let number : cell (width symbols) made.tables.t9 s known_row ≡ new_number c ws (cell (width symbols) T.t9 q 0) (cell (width symbols) T.t9 q known_row) =
      sym (row_cell (width symbols) made.tables.t9 s known_row (omega arith))
      ∙ (ap (λ (n : ℕ). get_or (row_at (width symbols) made.tables.t9 n) known_row 0) (sym x.same)
      ∙ (ap (λ (z : List ℕ). get_or z known_row 0) (new_symbol src c T ws ok x.prod x.there x.stays x.k x.small)
      ∙ (get_or-set_same y known_row (new_number c ws (get_or y 0 0) (get_or y known_row 0)) 0 (let w = row_length (width symbols) T.t9 q (omega arith) in omega arith)
      ∙ ap₂ (new_number c ws) (row_cell (width symbols) T.t9 q 0 (omega arith)) (row_cell (width symbols) T.t9 q known_row (omega arith))))) in
      symbol_is (lexicon_of src made.counts made.tables) made.tables.t9 s (cell (width symbols) T.t9 q 0) (cell (width symbols) T.t9 q kind_name) (cell (width symbols) T.t9 q (kind_name + 1)) _ (same 0 (omega arith)) (same kind_name (omega arith)) (same (kind_name + 1) (omega arith))
      (number ∙ go q from to (ℕ_discrete (cell (width symbols) T.t9 q 0) 1))
    where
      go : (q : ℕ) → cell (width productions) T.t8 x.prod symbols_from ≤ q → q < cell (width productions) T.t8 x.prod symbols_to → Dec (cell (width symbols) T.t9 q 0 ≡ 1) → new_number c ws (cell (width symbols) T.t9 q 0) (cell (width symbols) T.t9 q known_row) ≡ named_row (lexicon_of src made.counts made.tables) (cell (width symbols) T.t9 q 0) (cell (width symbols) T.t9 q kind_name) (cell (width symbols) T.t9 q (kind_name + 1))
      go q from to (yes k) =
          named_rule (lexicon_of src made.counts made.tables) _ _ _ _ k
          (number_rule c ws (cell (width symbols) T.t9 q 0) (cell (width symbols) T.t9 q known_row) k
          ∙ sym (ap row_number (ap (λ (n : ℕ). find_name src (width rules) 0 n made.tables.t7 (cell (width symbols) T.t9 q kind_name) (cell (width symbols) T.t9 q (kind_name + 1))) rules_now ∙ rule_new src c g T X ws ten v work x.prod x.there x.stays q from to k)))
      go q from to (no k) =
          named_token (lexicon_of src made.counts made.tables) _ _ _ _ k
          (number_token c ws (cell (width symbols) T.t9 q 0) (cell (width symbols) T.t9 q known_row) k
          ∙ sym (ap row_number (ap (λ (n : ℕ). find_name src (width tokens) 0 n made.tables.t1 (cell (width symbols) T.t9 q kind_name) (cell (width symbols) T.t9 q (kind_name + 1))) tokens_now_lem ∙ token_new src c g T X ws ten v work x.prod x.there x.stays q from to k)))

  ranges_after : Chained (width productions) symbols_from symbols_to (count_at made.counts productions) made.tables.t8 (count_at made.counts symbols)
  unfolding made pruned rows
  ranges_after =
      told (λ (n : ℕ). Chained (width productions) symbols_from symbols_to n made.tables.t8 (count_at made.counts symbols)) (sym productions_now)
      (told (λ (n : ℕ). Chained (width productions) symbols_from symbols_to (length left) made.tables.t8 n) (sym symbols_now) (chained_after src c T ws ok))

  -- "stored row numbers and indexes follow": the pruned tables are sound
  pub still_sound : Sound src (pruned src c T X ws).counts g (pruned src c T X ws).tables (pruned src c T X ws).indexes
  unfolding made
  still_sound =
      record {
        short = old.short;
        fits = λ k h. (tables_after k h).fits;
        low = λ k h. (tables_after k h).low;
        clean = λ k h. (tables_after k h).clean;
        rows = λ k r h l. (tables_after k h).each r l;
        singles = old.singles;
        ranges = ranges_after;
        names = λ k q r h l m. (tables_after k h).pairs q r l m;
        indexes = indexes_after;
        known = record { row = λ s h. knows s (came src c T ws ok s (let n = symbols_now in omega arith)) };
      }
