-- Request Fourteen: places nest in every reading, whatever the source, the kind and the lent tables. The request speaks of kinds 1 to 3;
-- no proof here looks at the kind, so it holds of kind 4 as well. Assumes nothing.
use Rattle.std.specs.Prelude.{Result, Ok, Err}
use Prim.Native.Nat.{ℕ, ◌+◌, ◌≤◌}
use mathlib.Core.Path.{◌≡◌, refl, sym}
use mathlib.Core.List.{List, []}
use mathlib.Core.Bool.{Bool, true, false, ◌||◌}
use native.Mathlib.Omega.{arith}
use lib.Dec.{ltb, eqb}
use lib.ListN.{length, get_or}
use borrow.Author.Tests.{ltb-false}
use Rattle.scan.proofs.Bytes.{on_test}
use Rattle.whole.specs.Whole.{check_at}
use Rattle.tables.specs.Layout.{productions, symbols, repeats, kind_name, width}
use Rattle.tables.specs.Rows.{row_at}
use Rattle.tables.proofs.Rows.{rows_zeroed}
use Rattle.symbols.specs.Symbols.{Lexicon, filled_rows}
use Rattle.symbols.proofs.Laws.{fill_cell}
use Rattle.grammar.specs.declared.Counts.{Counts}
use Rattle.grammar.specs.declared.State.{State}
use Rattle.grammar.specs.declared.Answer.{Answer}
use Rattle.grammar.specs.declared.Answer.TheVariants.{Going, Done, Refused}
use Rattle.grammar.specs.State.{count, fresh}
use Rattle.grammar.specs.Sound.{AllTables, ten_of, Indexes, set_tab, zero_all}
use Rattle.grammar.proofs.Far.{fresh_far}
use Rattle.grammar.proofs.Touch.{done_going}
use Rattle.declarations.specs.Declarations.{Out, decl_all}
use Rattle.declarations.proofs.Far.{FarAll, declarations_far}
use Rattle.rules.specs.Rules.{Ruled, rules_all, programs_from}
use Rattle.rules.proofs.Far.{WholeFar, rules_far, programs_far}
use Rattle.grammar.specs.declared.Refusal.{Refusal}
use Rattle.sections.specs.Sections.{as_text, sized, sized_text, admitted, rest_from, rest_all, declared, with_declared, sections_from, sections_all, attempt_of, attempted}
use Rattle.reader.specs.declared.Reading.{Reading}
use Rattle.reader.specs.Read.{ended_at, finished, finished_run, with_symbols, read_names, read_all}
use Rattle.nesting.specs.Nest.{Nest}
use Rattle.nesting.specs.Under.{Lain, Settled}
use Rattle.nesting.proofs.Rules.{LainUnless, lies_refused, settled_on, rules_nested}

-- what is settled nests
lain_nest : {at limit first : ℕ} (s : State) (T : AllTables) → Lain at limit first (count s productions) (count s symbols) T.t8 T.t9 → Nest s.counts (ten_of T)
lain_nest s T x =
    record {
      inside = λ r q h. (x.productions.each r h).inside q;
      inked = λ q h. (x.symbols.each q h).inked;
      ordered = x.symbols.pairs;
      follow = x.productions.pairs;
      behind = λ r h. (x.productions.each r h).behind;
    }

-- Declarations count no symbol and no production. They are sound so far beside any tables 8 and 9, so beside ones without room: nothing was counted.
no_symbols : (src : List ℕ) (kind : ℕ) (T : AllTables) → length src ≤ 65536 → count (decl_all src (fresh kind) (declared (zero_all T))).state symbols ≡ 0
no_symbols src kind T h =
    let U = zero_all (set_tab T symbols []) in
    let f = declarations_far src 0 (fresh kind) (declared U) U (fresh_far src kind (set_tab T symbols []) h) in
    let l = (f.tables symbols).fits in
    omega arith

no_productions : (src : List ℕ) (kind : ℕ) (T : AllTables) → length src ≤ 65536 → count (decl_all src (fresh kind) (declared (zero_all T))).state productions ≡ 0
no_productions src kind T h =
    let U = zero_all (set_tab T productions []) in
    let f = declarations_far src 0 (fresh kind) (declared U) U (fresh_far src kind (set_tab T productions []) h) in
    let l = (f.tables productions).fits in
    omega arith

-- the sections of a source
abbrev Rests : Answer → State → AllTables → Type 0
Rests a s T = LainUnless a s T.t8 T.t9

sections_nested : (src : List ℕ) (kind : ℕ) (T : AllTables) → length src ≤ 65536 → let r = sections_all src (fresh kind) (zero_all T) in Rests r.answer r.state r.tables
unfolding sections_all rest_all
sections_nested src kind T h =
    let U = zero_all T in
    let o = decl_all src (fresh kind) (declared U) in
    go o.answer o (declarations_far src 0 (fresh kind) (declared U) U (fresh_far src kind T h)) (no_symbols src kind T h) (no_productions src kind T h)
  where
    rest : (a : Answer) (D : AllTables) (r : Ruled) → r.answer ≡ a → WholeFar src D r → LainUnless r.answer r.state r.t8 r.t9 → let p = rest_from a src r in LainUnless p.answer p.state p.t8 p.t9
    rest Going D r e x y =
        let p = programs_far x.far in
        let c = p.counts in
        let s = settled_on r.state (programs_from src r.state).state p.forth (rw c) (rw c) (y.going e) in
        record { going = λ g. s; done = λ g. ((programs_from src r.state).state.at, s) }
    rest Done D r e x y = record { going = λ g. absurd (done_going g); done = λ g. y.done e }
    rest (Refused f) D r e x y = lies_refused f r.state r.t8 r.t9

    none : (s : State) → count s symbols ≡ 0 → count s productions ≡ 0 → Settled s (zero_all T).t8 (zero_all T).t9
    none s n m = rw (n, m) (record { symbols = rows_zeroed _ T.t9; productions = rows_zeroed _ T.t8 })

    go : (a : Answer) (o : Out) → FarAll src 0 (zero_all T) o → count o.state symbols ≡ 0 → count o.state productions ≡ 0 → let r = sections_from a src o (zero_all T) in Rests r.answer r.state r.tables
    go Going o f n m = lies_refused _ o.state _ _
    go Done o f n m =
        let D = with_declared (zero_all T) o.tables in
        let r = rules_all src o.state D.t1 D.t7 D.t8 D.t9 in
        rest r.answer D r refl (rules_far D f (sym n)) (rules_nested D f (sym n) (none o.state n m))
    go (Refused r) o f n m = lies_refused r o.state _ _

-- a source that can be read is not too long
abbrev Admits : List ℕ → Result (Unit {0}) Refusal → Type 0
Admits src (Ok _) = length src ≤ 65536
Admits src (Err f) = Unit {0}

admits : (src : List ℕ) (kind : ℕ) (fit : Bool) → Admits src (admitted src kind fit)
unfolding admitted
admits src kind fit = on_test (Admits src) (ltb kind 1 || ltb 4 kind) _ _ (λ e. tt) (λ e. by fit)
  where
    go : (c : Result (Unit {0}) ℕ) → length src ≤ 65536 → Admits src (as_text c)
    go (Ok _) h = h
    go (Err i) h = tt

    by : (b : Bool) → Admits src (sized_text b src)
    by true = on_test (Admits src) (ltb 65536 (length src)) _ _ (λ h. tt) (λ h. go (check_at src 0) (ltb-false _ _ h))
    by false = tt

-- a symbol's row number has nothing to do with its place
nest_filled : (c : Counts) (T : AllTables) (g : Lexicon) (n : ℕ) → Nest c (ten_of T) → Nest c (ten_of (with_symbols T (filled_rows g T.t9 n)))
nest_filled c T g n x =
    record {
      inside = λ r q h a b. let i = x.inside r q h a b in record { starts = rw (from q) i.starts; ends = rw (to q) i.ends };
      inked = λ q h. record { some = rw (from q, to q) (x.inked q h).some };
      ordered = λ q r l h. record { apart = rw (to q, from r) (x.ordered q r l h).apart };
      follow = x.follow;
      behind = x.behind;
    }
  where
    from : (q : ℕ) → get_or (row_at (width symbols) (filled_rows g T.t9 n) q) kind_name 0 ≡ get_or (row_at (width symbols) T.t9 q) kind_name 0
    from q = fill_cell g T.t9 n q kind_name (omega arith)

    to : (q : ℕ) → get_or (row_at (width symbols) (filled_rows g T.t9 n) q) (kind_name + 1) 0 ≡ get_or (row_at (width symbols) T.t9 q) (kind_name + 1) 0
    to q = fill_cell g T.t9 n q (kind_name + 1) (omega arith)

finished_nested : (a : Answer) (s : State) (T : AllTables) → Rests a s T → let o = finished a s T in Nest o.counts (ten_of o.tables)
unfolding ended_at
finished_nested a s T x = go a x
  where
    ended : Nest s.counts (ten_of T) → Nest (ended_at s T.t10).counts (ten_of T)
    ended y = on_test (λ (r : Reading). Nest r.counts (ten_of T)) (eqb (count s repeats) 0) _ _ (λ e. y) (λ e. y)

    -- after any other refusal there are no productions and no symbols
    go : (a : Answer) → Rests a s T → let o = finished a s T in Nest o.counts (ten_of o.tables)
    go Going x = ended (lain_nest s T (x.going refl))
    go Done x = ended (lain_nest s T (x.done refl).1)
    go (Refused r) x = record { inside = λ r q h. absurd (omega arith); inked = λ q h. absurd (omega arith); ordered = λ q r l h. absurd (omega arith); follow = λ q r l h. absurd (omega arith); behind = λ r h. absurd (omega arith) }

-- Places nest in every reading, whatever its answer: in an accepted one, in one that was refused for repeats only; any other leaves no production.
pub read_nests : (src : List ℕ) (kind : ℕ) (T : AllTables) (X : Indexes) → Nest (read_all src kind T X).counts (ten_of (read_all src kind T X).tables)
unfolding read_all read_names attempted
read_nests src kind T X = nest_filled _ (finished_run (attempted src kind (sized T X) (zero_all T))).tables _ _ (go (admitted src kind (sized T X)) (admits src kind (sized T X)))
  where
    go : (m : Result (Unit {0}) Refusal) → Admits src m → let o = finished_run (attempt_of m src kind (zero_all T)) in Nest o.counts (ten_of o.tables)
    go (Ok _) h = let r = sections_all src (fresh kind) (zero_all T) in finished_nested r.answer r.state r.tables (sections_nested src kind T h)
    go (Err f) h = finished_nested (Refused f) (fresh kind) (zero_all T) (lies_refused f (fresh kind) _ _)
