-- What a refused read tells, whatever the source, the kind and the lent tables. Assumes nothing.
use Rattle.std.specs.Prelude.{Ok, Err, Result}
use Prim.Native.Nat.{ℕ, ◌+◌, ◌≤◌, ◌<◌}
use mathlib.Core.Path.{◌≡◌, refl, sym}
use mathlib.Core.List.{List}
use mathlib.Core.Bool.{Bool, true, false, ◌||◌, false≢true}
use mathlib.Core.Logic.{inl, inr}
use native.Mathlib.Omega.{arith}
use lib.Dec.{ltb, eqb}
use lib.ListN.{length}
use borrow.Author.Tests.{ltb-false, lt-ltb, le-ltb, eqb-false}
use Rattle.scan.proofs.Bytes.{on_test, told}
use Rattle.whole.specs.Whole.{check_at, Below}
use Rattle.whole.proofs.Theorems.{check_inside}
use Rattle.tables.specs.Table.{cell}
use Rattle.tables.specs.Layout.{repeats, first_place, width}
use Rattle.tables.proofs.Rows.{row_cell, rows_zeroed}
use Rattle.grammar.specs.declared.State.{State}
use Rattle.grammar.specs.declared.Cause.{Cause}
use Rattle.grammar.specs.declared.Cause.TheVariants.{IntegerEmpty, IntegerTooLarge, IllegalName, IllegalString, IncompleteRule, IncompleteComment, IncompleteAction, MissingColon, MissingRightArrow, NonEmptyProduction, PrematureEnd, NotTerminated, UnknownDeclaration, ReachedEol, ReachedEnd, StringNotOpened, StringLineEnd, StringEscape, StringNotClosed, UnknownSymbol, TagNotClosed, TagMissing, PrologueNotClosed, UnionNotOpened, UnionNotClosed, NotUtf8}
use Rattle.grammar.specs.declared.Refusal.{Refusal}
use Rattle.grammar.specs.declared.Refusal.TheVariants.{Fault, Repeated, NoRoom, TooLong, BadKind, BadIndex}
use Rattle.grammar.specs.declared.Repeat.{Repeat}
use Rattle.grammar.specs.declared.Answer.{Answer}
use Rattle.grammar.specs.declared.Answer.TheVariants.{Going, Done, Refused}
use Rattle.grammar.specs.Refusals.{number_of_cause, number_of_repeat, from_of, repeat_of}
use Rattle.grammar.specs.State.{Passed, count, fresh}
use Rattle.grammar.specs.Sound.{AllTables, Indexes, zero_all, Far}
use Rattle.grammar.proofs.Repeats.{repeat_least, repeat_most, number_back}
use Rattle.declarations.specs.Declarations.{Out, decl_all}
use Rattle.rules.specs.Rules.{Ruled, rules_all}
use Rattle.sections.specs.Sections.{as_text, sized, sized_text, admitted, rest_from, rest_all, declared, sections_from, sections_all, attempt_of, attempted}
use Rattle.reader.specs.declared.Reading.{Reading}
use Rattle.reader.specs.Read.{ReadResult, ended_at, result, finished, finished_run, indexed, filled_in, read_names, read_all}
use Rattle.sections.proofs.Far.{sections_far}
use Rattle.refusals.specs.Refusal.{CauseNumber, Documented, RepeatsListed, FirstRepeat}
use Rattle.refusals.specs.Steps.{CausedIn, Fatal, Stops, Sited}
use Rattle.refusals.proofs.Declarations.{declarations_in}
use Rattle.refusals.proofs.Rules.{rules_in, programs_in}

-- a source that can be read is not too long, and one that can't is refused at a place of it
abbrev Admits : List ℕ → ℕ → Result (Unit {0}) Refusal → Type 0
Admits src kind (Ok _) = length src ≤ 65536
Admits src kind (Err f) = Fatal src (kind ≡ 4) f

admits : (src : List ℕ) (kind : ℕ) (fit : Bool) → Admits src kind (admitted src kind fit)
unfolding admitted
admits src kind fit = on_test (Admits src kind) (ltb kind 1 || ltb 4 kind) _ _ (λ e. tt) (λ e. by fit)
  where
    go : (c : Result (Unit {0}) ℕ) → length src ≤ 65536 → Below (length src) c → Admits src kind (as_text c)
    go (Ok _) h b = h
    go (Err i) h b = omega arith

    by : (b : Bool) → Admits src kind (sized_text b src)
    by true = on_test (Admits src kind) (ltb 65536 (length src)) _ _ (λ h. tt) (λ h. go (check_at src 0) (ltb-false _ _ h) (check_inside src))
    by false = tt

-- The sections of a source: a refusal is a fatal one of the source.
sections_stop : (src : List ℕ) (kind : ℕ) (T : AllTables) → Stops src (kind ≡ 4) (sections_all src (fresh kind) T).answer
unfolding sections_all rest_all
sections_stop src kind T = let o = decl_all src (fresh kind) (declared T) in go o.answer o (declarations_in src (kind ≡ 4) (fresh kind) (declared T) (omega arith) (λ e. e))
  where
    rest : (a : Answer) (r : Ruled) → Sited src (kind ≡ 4) a r.state → Stops src (kind ≡ 4) (rest_from a src r).answer
    rest Going r x = (programs_in src (kind ≡ 4) r.state x.here).stops
    rest Done r x = tt
    rest (Refused f) r x = x.stops

    go : (a : Answer) (o : Out) → Sited src (kind ≡ 4) a o.state → Stops src (kind ≡ 4) (sections_from a src o T).answer
    go Going o x = x.here
    go Done o x = let r = rules_all src o.state o.tables.t1 T.t7 T.t8 T.t9 in rest r.answer r (rules_in src (kind ≡ 4) o.state o.tables.t1 T.t7 T.t8 T.t9 x.here)
    go (Refused f) o x = x.stops

-- "10 repeats (number, first place, repeated place)": whole rows of the source, and zeros behind them, after any read, also one that was stopped.
finished_listed : {src : List ℕ} {done : ℕ} (X : Indexes) (a : Answer) (s : State) (T : AllTables) → Far src done s T → RepeatsListed src (filled_in src (indexed src X (finished a s T)))
unfolding ended_at
finished_listed {src} X a s T f = go a
  where
    ended : RepeatsListed src (filled_in src (indexed src X (finished Going s T)))
    ended = on_test (λ (r : Reading). RepeatsListed src (filled_in src (indexed src X (result r T)))) (eqb (count s repeats) 0) _ _ (λ e. f.tables repeats) (λ e. f.tables repeats)

    go : (a : Answer) → RepeatsListed src (filled_in src (indexed src X (finished a s T)))
    go Going = ended
    go Done = ended
    go (Refused x) = f.tables repeats

pub read_repeats : (src : List ℕ) (kind : ℕ) (T : AllTables) (X : Indexes) → RepeatsListed src (read_all src kind T X)
unfolding read_all read_names attempted
read_repeats src kind T X = go (admitted src kind (sized T X)) (admits src kind (sized T X))
  where
    go : (m : Result (Unit {0}) Refusal) → Admits src kind m → RepeatsListed src (filled_in src (indexed src X (finished_run (attempt_of m src kind (zero_all T)))))
    go (Ok _) h = let r = sections_all src (fresh kind) (zero_all T) in finished_listed X r.answer r.state r.tables (sections_far src kind T h).far
    go (Err f) h = rows_zeroed _ T.t10

-- What a verdict tells: a refusal is a fatal one of the source, or it is the first repeat.
abbrev Verdicts : List ℕ → ℕ → ReadResult → Result ℕ Refusal → Type 0
Verdicts src kind o (Ok i) = Unit {0}
Verdicts src kind o (Err (Fault c i)) = Fatal src (kind ≡ 4) (Fault c i)
Verdicts src kind o (Err (Repeated what a b)) = FirstRepeat what a b o
Verdicts src kind o (Err (NoRoom t a b)) = Fatal src (kind ≡ 4) (NoRoom t a b)
Verdicts src kind o (Err TooLong) = Unit {0}
Verdicts src kind o (Err BadKind) = Unit {0}
Verdicts src kind o (Err BadIndex) = Unit {0}

stopped_verdict : (src : List ℕ) (kind : ℕ) (o : ReadResult) (f : Refusal) → Fatal src (kind ≡ 4) f → Verdicts src kind o (Err f)
stopped_verdict src kind o (Fault c i) x = x
stopped_verdict src kind o (Repeated what a b) x = absurd x
stopped_verdict src kind o (NoRoom t a b) x = x
stopped_verdict src kind o TooLong x = tt
stopped_verdict src kind o BadKind x = tt
stopped_verdict src kind o BadIndex x = tt

finished_verdict : {src : List ℕ} {done : ℕ} (kind : ℕ) (X : Indexes) (a : Answer) (s : State) (T : AllTables) → Far src done s T → Stops src (kind ≡ 4) a → let o = filled_in src (indexed src X (finished a s T)) in Verdicts src kind o o.answer
unfolding ended_at
finished_verdict {src} kind X a s T f = go a
  where
    listed : 0 < count s repeats → cell (width repeats) T.t10 0 0 ≡ number_of_repeat (repeat_of (cell (width repeats) T.t10 0 0))
    listed h =
        let x = (f.tables repeats).each 0 h in
        let e = row_cell (width repeats) T.t10 0 0 (omega arith) in
        let l = x.least in
        let m = x.most in
        sym (number_back (cell (width repeats) T.t10 0 0) (omega arith) (omega arith))

    ended : let o = filled_in src (indexed src X (finished Going s T)) in Verdicts src kind o o.answer
    ended =
        on_test (λ (r : Reading). Verdicts src kind (filled_in src (indexed src X (result r T))) r.answer) (eqb (count s repeats) 0) _ _ (λ e. tt)
        (λ e. let n = eqb-false (count s repeats) 0 e in let h : 0 < count s repeats = omega arith in record { some = h; number = listed h; from = refl; to = refl })

    go : (a : Answer) → Stops src (kind ≡ 4) a → let o = filled_in src (indexed src X (finished a s T)) in Verdicts src kind o o.answer
    go Going x = ended
    go Done x = ended
    go (Refused g) x = stopped_verdict src kind _ g x

read_verdict : (src : List ℕ) (kind : ℕ) (T : AllTables) (X : Indexes) → Verdicts src kind (read_all src kind T X) (read_all src kind T X).answer
unfolding read_all read_names attempted
read_verdict src kind T X = go (admitted src kind (sized T X)) (admits src kind (sized T X))
  where
    go : (m : Result (Unit {0}) Refusal) → Admits src kind m → let o = filled_in src (indexed src X (finished_run (attempt_of m src kind (zero_all T)))) in Verdicts src kind o o.answer
    go (Ok _) h = let r = sections_all src (fresh kind) (zero_all T) in finished_verdict kind X r.answer r.state r.tables (sections_far src kind T h).far (sections_stop src kind (zero_all T))
    go (Err f) h = stopped_verdict src kind _ f h

-- "With repeats only, the number is the first repeat's": number and place of such an answer are those of the first row of table 10.
pub repeated_first : (src : List ℕ) (kind : ℕ) (T : AllTables) (X : Indexes) (what : Repeat) (a b : ℕ) → (read_all src kind T X).answer ≡ Err (Repeated what a b) → FirstRepeat what a b (read_all src kind T X)
repeated_first src kind T X what a b e = told (Verdicts src kind (read_all src kind T X)) e (read_verdict src kind T X)

-- the first repeat's place lies in the source
first_place_lem : {src : List ℕ} {what : Repeat} {a b : ℕ} (o : ReadResult) → RepeatsListed src o → FirstRepeat what a b o → Passed src a b
first_place_lem o x y =
    rw (← y.from, ← y.to, ← row_cell (width repeats) o.tables.t10 0 first_place (omega arith), ← row_cell (width repeats) o.tables.t10 0 (first_place + 1) (omega arith))
    (x.each 0 y.some).first

-- a cause's number is 1 to 19, 40, or 50 to 52
pub cause_number : (c : Cause) → CauseNumber (number_of_cause c)
cause_number IntegerEmpty = inl (omega arith, omega arith)
cause_number IntegerTooLarge = inl (omega arith, omega arith)
cause_number IllegalName = inl (omega arith, omega arith)
cause_number IllegalString = inl (omega arith, omega arith)
cause_number IncompleteRule = inl (omega arith, omega arith)
cause_number IncompleteComment = inl (omega arith, omega arith)
cause_number IncompleteAction = inl (omega arith, omega arith)
cause_number MissingColon = inl (omega arith, omega arith)
cause_number MissingRightArrow = inl (omega arith, omega arith)
cause_number NonEmptyProduction = inl (omega arith, omega arith)
cause_number PrematureEnd = inl (omega arith, omega arith)
cause_number NotTerminated = inl (omega arith, omega arith)
cause_number UnknownDeclaration = inl (omega arith, omega arith)
cause_number ReachedEol = inl (omega arith, omega arith)
cause_number ReachedEnd = inl (omega arith, omega arith)
cause_number StringNotOpened = inl (omega arith, omega arith)
cause_number StringLineEnd = inl (omega arith, omega arith)
cause_number StringEscape = inl (omega arith, omega arith)
cause_number StringNotClosed = inl (omega arith, omega arith)
cause_number UnknownSymbol = inl (omega arith, omega arith)
cause_number TagNotClosed = inr (inr (omega arith, omega arith))
cause_number TagMissing = inr (inr (omega arith, omega arith))
cause_number PrologueNotClosed = inr (inr (omega arith, omega arith))
cause_number UnionNotOpened = inr (inr (omega arith, omega arith))
cause_number UnionNotClosed = inr (inr (omega arith, omega arith))
cause_number NotUtf8 = inr (inl refl)

-- the place of a cause, and the kind of one that kind 4 alone has
caused_place : (P X : Type 0) (b : Bool) → CausedIn b P X → X
caused_place P X true x = x
caused_place P X false x = x.1

caused_kind : (P X : Type 0) (b : Bool) → b ≡ false → CausedIn b P X → P
caused_kind P X true e x = absurd (false≢true (sym e))
caused_kind P X false e x = x.0

-- What each refusal of a read tells: one of read's numbers, a place in the source, and 42's table.
pub refusal_documented : (src : List ℕ) (kind : ℕ) (T : AllTables) (X : Indexes) (f : Refusal) → (read_all src kind T X).answer ≡ Err f → Documented src kind f
refusal_documented src kind T X f e = go f (told (Verdicts src kind (read_all src kind T X)) e (read_verdict src kind T X))
  where
    go : (f : Refusal) → Verdicts src kind (read_all src kind T X) (Err f) → Documented src kind f
    go (Fault c i) x = fault (cause_number c)
      where
        inside : i ≤ length src
        inside = caused_place (kind ≡ 4) (i ≤ length src) (ltb (number_of_cause c) 50) x

        at : Passed src i i
        at = record { onward = omega arith; inside = inside }

        fault : CauseNumber (number_of_cause c) → Documented src kind (Fault c i)
        fault (inl y) = let l = y.1 in record { number = inl y; place = at; other = λ d. refl; full = λ n. absurd (omega arith) }
        fault (inr (inl y)) = record { number = inr (inr (inl (omega arith, omega arith))); place = at; other = λ d. refl; full = λ n. absurd (omega arith) }
        fault (inr (inr y)) =
            let l = y.0 in
            let k = caused_kind (kind ≡ 4) (i ≤ length src) (ltb (number_of_cause c) 50) (le-ltb (number_of_cause c) 50 l) x in
            record { number = inr (inr (inr (inr (k, l, y.1)))); place = at; other = λ d. refl; full = λ n. absurd (omega arith) }
    go (Repeated what a b) x =
        let l = repeat_least what in
        let m = repeat_most what in
        record { number = inr (inl (l, m)); place = first_place_lem (read_all src kind T X) (read_repeats src kind T X) x; other = λ d. refl; full = λ n. absurd (omega arith) }
    go (NoRoom t a b) x = record { number = inr (inr (inl (omega arith, omega arith))); place = x.1; other = λ d. absurd (d refl); full = λ n. x.0 }
    go TooLong x = record { number = inr (inr (inl (omega arith, omega arith))); place = record { onward = omega arith; inside = omega arith }; other = λ d. refl; full = λ n. absurd (omega arith) }
    go BadKind x = record { number = inr (inr (inl (omega arith, omega arith))); place = record { onward = omega arith; inside = omega arith }; other = λ d. refl; full = λ n. absurd (omega arith) }
    go BadIndex x = record { number = inr (inr (inr (inl refl))); place = record { onward = omega arith; inside = omega arith }; other = λ d. refl; full = λ n. absurd (omega arith) }

-- A source that is too long is refused without a place.
pub long_nowhere : (src : List ℕ) (kind : ℕ) (T : AllTables) (X : Indexes) → 65536 < length src → (f : Refusal) × ((read_all src kind T X).answer ≡ Err f) × (from_of f ≡ 0)
unfolding read_all read_names attempted admitted
long_nowhere src kind T X h = go (ltb kind 1 || ltb 4 kind) (sized T X)
  where
    Nowhere : Result (Unit {0}) Refusal → Type 0
    Nowhere m = (f : Refusal) × ((filled_in src (indexed src X (finished_run (attempt_of m src kind (zero_all T))))).answer ≡ Err f) × (from_of f ≡ 0)

    long : (q : Bool) → q ≡ true → Nowhere (elim q [ true ↦ Err TooLong | false ↦ as_text (check_at src 0) ])
    long true e = (TooLong, refl, refl)
    long false e = absurd (false≢true e)

    go : (b fit : Bool) → Nowhere (elim b [ true ↦ Err BadKind | false ↦ sized_text fit src ])
    go true fit = (BadKind, refl, refl)
    go false false = (BadIndex, refl, refl)
    go false true = long (ltb 65536 (length src)) (lt-ltb _ _ h)
