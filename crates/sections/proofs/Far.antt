-- The sections of a source are sound so far, whatever their answer, on tables that were zero; and in kinds 1 to 3 they leave tables 15 to 17 and their counts.
-- Assumes nothing.
use Rattle.std.specs.Prelude.{Result, Ok, Err}
use Prim.Native.Nat.{ℕ, ◌≤◌}
use mathlib.Core.Path.{◌≡◌, refl, sym, ap}
use mathlib.Core.List.{List, [], ◌∷◌}
use mathlib.Core.Bool.{Bool, true, false, ◌||◌}
use native.Mathlib.Omega.{arith}
use lib.Dec.{ltb}
use lib.ListN.{length, get_or, replicate}
use borrow.Author.Tests.{ltb-false}
use Rattle.scan.proofs.Bytes.{on_test}
use Rattle.whole.specs.Whole.{check_at}
use Rattle.tables.specs.Table.{zeroed}
use Rattle.tables.specs.Layout.{symbols, tags, token_numbers, bodies}
use Rattle.tables.proofs.Rows.{rows_zeroed, rows_as}
use Rattle.grammar.specs.declared.PosixCounts.{PosixCounts}
use Rattle.grammar.specs.declared.State.{State}
use Rattle.grammar.specs.declared.Cause.TheVariants.{NotUtf8}
use Rattle.grammar.specs.declared.Refusal.TheVariants.{Fault, TooLong, BadKind, BadIndex}
use Rattle.grammar.specs.declared.Answer.{Answer}
use Rattle.grammar.specs.declared.Answer.TheVariants.{Going, Done, Refused}
use Rattle.grammar.specs.State.{count, no_posix, fresh}
use Rattle.grammar.specs.Sound.{AllTables, set_tab, zero_all, Table, view, Far}
use Rattle.grammar.proofs.Far.{far_cells, fresh_far}
use Rattle.items.proofs.Far.{going_taken}
use Rattle.declarations.specs.Declarations.{Out, decl_all}
use Rattle.declarations.specs.Posix.{PosixLeft}
use Rattle.declarations.proofs.Posix.{posix_arms}
use Rattle.declarations.proofs.Far.{FarAll, declarations_far}
use Rattle.rules.specs.Rules.{Ruled, rules_all}
use Rattle.rules.proofs.Far.{Whole, WholeFar, rules_far, programs_far}
use Rattle.grammar.specs.declared.Refusal.{Refusal}
use Rattle.sections.specs.Sections.{Run, as_text, sized_text, admitted, rest_from, rest_all, declared, with_declared, sections_from, sections_all}

-- What holds of a source that is not too long, with indexes that have right sizes, and of the four refusals of any other, holds of what an admission comes to.
pub admit_cases : (C : Result (Unit {0}) Refusal → Type 0) (src : List ℕ) (kind : ℕ) (fit : Bool) → (length src ≤ 65536 → fit ≡ true → C (Ok tt)) → ((i : ℕ) → C (Err (Fault NotUtf8 i))) → C (Err TooLong) → C (Err BadKind) → C (Err BadIndex) → C (admitted src kind fit)
unfolding admitted
admit_cases C src kind fit good text long bad index = on_test C (ltb kind 1 || ltb 4 kind) _ _ (λ e. bad) (λ e. by fit refl)
  where
    go : (c : Result (Unit {0}) ℕ) → C (Ok tt) → C (as_text c)
    go (Ok _) x = x
    go (Err i) x = text i

    by : (b : Bool) → fit ≡ b → C (sized_text b src)
    by true e = on_test C (ltb 65536 (length src)) _ _ (λ h. long) (λ h. go (check_at src 0) (good (ltb-false _ _ h) e))
    by false e = index

-- Declarations count no symbol. They are sound so far beside any table 9, so beside one without room: none was counted.
pub no_symbols : (src : List ℕ) (kind : ℕ) (T : AllTables) → length src ≤ 65536 → count (decl_all src (fresh kind) (declared (zero_all T))).state symbols ≡ 0
no_symbols src kind T h =
    let U = zero_all (set_tab T symbols []) in
    let f = declarations_far src 0 (fresh kind) (declared U) U (fresh_far src kind (set_tab T symbols []) h) in
    let l = (f.tables symbols).fits in
    omega arith

-- Rules and programs: sound so far beside any other tables.
rest_far : {src : List ℕ} {done : ℕ} {s : State} (T : AllTables) → Far src done s T → done ≡ count s symbols → WholeFar src T (rest_all src s T.t1 T.t7 T.t8 T.t9)
unfolding rest_all
rest_far {src} {done} {s} T f e = let r = rules_all src s T.t1 T.t7 T.t8 T.t9 in go r.answer r refl (rules_far T f e)
  where
    go : (a : Answer) (r : Ruled) → r.answer ≡ a → WholeFar src T r → WholeFar src T (rest_from a src r)
    go Going r e x = let p = programs_far x.far in record { done = x.done; far = p.far; whole = λ t. rw p.counts (x.whole (going_taken r.answer e)) }
    go Done r e x = record { done = x.done; far = x.far; whole = λ t. x.whole (rw e t) }
    go (Refused f) r e x = record { done = x.done; far = x.far; whole = λ t. x.whole (rw e t) }

-- The sections of a source: sound so far, and the productions' ranges end behind the last symbol unless a step was refused.
pub sections_far : (src : List ℕ) (kind : ℕ) (T : AllTables) → length src ≤ 65536 → let r = sections_all src (fresh kind) (zero_all T) in Whole src r.tables r.answer r.state
unfolding sections_all
sections_far src kind T h =
    let U = zero_all T in
    let o = decl_all src (fresh kind) (declared U) in
    go o.answer o (declarations_far src 0 (fresh kind) (declared U) U (fresh_far src kind T h)) (no_symbols src kind T h)
  where
    go : (a : Answer) (o : Out) → FarAll src 0 (zero_all T) o → count o.state symbols ≡ 0 → let r = sections_from a src o (zero_all T) in Whole src r.tables r.answer r.state
    go Going o f e = record { done = 0; far = f; whole = λ t. sym e }
    go Done o f e = rest_far (with_declared (zero_all T) o.tables) f (sym e)
    go (Refused r) o f e = record { done = 0; far = f; whole = λ t. sym e }

-- three counts that are zero
no_posix_lem : (p : PosixCounts) → length p.n ≡ 3 → get_or p.n 0 0 ≡ 0 → get_or p.n 1 0 ≡ 0 → get_or p.n 2 0 ≡ 0 → p ≡ no_posix
no_posix_lem p h a b c = ap (λ (l : List ℕ). record { n = l }) (go p.n h a b c)
  where
    go : (l : List ℕ) → length l ≡ 3 → get_or l 0 0 ≡ 0 → get_or l 1 0 ≡ 0 → get_or l 2 0 ≡ 0 → l ≡ replicate 3 0
    go [] h a b c = absurd (omega arith)
    go (x ∷ []) h a b c = absurd (omega arith)
    go (x ∷ y ∷ []) h a b c = absurd (omega arith)
    go (x ∷ y ∷ z ∷ []) h a b c = rw (a, b, c)
    go (x ∷ y ∷ z ∷ w ∷ l) h a b c = absurd (omega arith)

-- Rules and programs count no row of tables 15 to 17. Where none is counted yet, they are sound so far beside three without room: none was counted.
rest_posix : {src : List ℕ} {done : ℕ} {s : State} (T : AllTables) → Far src done s T → done ≡ count s symbols → s.posix ≡ no_posix → (rest_all src s T.t1 T.t7 T.t8 T.t9).state.posix ≡ no_posix
rest_posix {src} {done} {s} T f e z =
    let a = far_cells f tags (omega arith) (λ e. omega arith) [] (none tags (rw z)) in
    let b = far_cells a token_numbers (omega arith) (λ e. omega arith) [] (none token_numbers (rw z)) in
    let c = far_cells b bodies (omega arith) (λ e. omega arith) [] (none bodies (rw z)) in
    let x = (rest_far (set_tab (set_tab (set_tab T tags []) token_numbers []) bodies []) c e).far in
    let i = (x.tables tags).fits in
    let j = (x.tables token_numbers).fits in
    let k = (x.tables bodies).fits in
    no_posix_lem (rest_all src s T.t1 T.t7 T.t8 T.t9).state.posix x.three (omega arith) (omega arith) (omega arith)
  where
    none : (k : ℕ) → count s k ≡ 0 → Table src (view s) k (count s k) []
    none k h = rows_as (sym h) refl (rows_zeroed _ [])

-- tables 15 to 17 of zeros, and none of their rows counted
pub record Alone (T : AllTables) (r : Run) : Type 0 where
  pub counts : r.state.posix ≡ no_posix
  pub tags : r.tables.t15 ≡ zeroed T.t15
  pub numbers : r.tables.t16 ≡ zeroed T.t16
  pub bodies : r.tables.t17 ≡ zeroed T.t17

-- In kinds 1 to 3 the sections leave tables 15 to 17 and their counts, whatever the answer.
pub sections_alone : (src : List ℕ) (kind : ℕ) (T : AllTables) → length src ≤ 65536 → (kind ≡ 4 → ⊥) → Alone T (sections_all src (fresh kind) (zero_all T))
unfolding sections_all
sections_alone src kind T h d =
    let U = zero_all T in
    let o = decl_all src (fresh kind) (declared U) in
    go o.answer o (declarations_far src 0 (fresh kind) (declared U) U (fresh_far src kind T h)) (no_symbols src kind T h) (posix_arms src (fresh kind) (declared U) d)
  where
    go : (a : Answer) (o : Out) → FarAll src 0 (zero_all T) o → count o.state symbols ≡ 0 → PosixLeft (fresh kind) (declared (zero_all T)) o → Alone T (sections_from a src o (zero_all T))
    go Going o f e x = record { counts = x.counts; tags = x.tags; numbers = x.numbers; bodies = x.bodies }
    go Done o f e x = record { counts = rest_posix (with_declared (zero_all T) o.tables) f (sym e) x.counts; tags = x.tags; numbers = x.numbers; bodies = x.bodies }
    go (Refused r) o f e x = record { counts = x.counts; tags = x.tags; numbers = x.numbers; bodies = x.bodies }
