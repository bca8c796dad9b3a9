-- A read that was accepted, or refused for repeats only, is sound, and its end lies in the source; any other is cleared; in kinds 1 to 3 tables 15 to 17 are; and
-- the contract allows one outcome. Assumes nothing.
use Rattle.std.specs.Prelude.{Ok, Err, Result}
use Prim.Native.Nat.{ℕ, zero, suc, ◌+◌, ◌≤◌, ◌<◌}
use mathlib.Core.Path.{◌≡◌, refl, sym, ap, ◌∙◌}
use mathlib.Core.List.{List}
use mathlib.Core.Bool.{Bool, true}
use native.Mathlib.Omega.{arith}
use lib.Dec.{eqb}
use lib.ListN.{length, get_or, replicate, length-replicate}
use Rattle.scan.proofs.Bytes.{on_test, told}
use Rattle.words.specs.Strings.{string_at}
use Rattle.tables.specs.Table.{cell, zeroed}
use Rattle.tables.specs.Layout.{tokens, rules, epps, value, symbols, repeats, posix_from, width}
use Rattle.tables.proofs.Rows.{row_cell}
use Rattle.index.specs.Index.{entries, Sized}
use Rattle.tables.proofs.Tells.{both_iff}
use Rattle.index.proofs.Powers.{size_iff}
use Rattle.index.proofs.Theorems.{entries_length}
use Rattle.grammar.specs.declared.Counts.{Counts}
use Rattle.grammar.specs.declared.PosixCounts.{PosixCounts}
use Rattle.grammar.specs.declared.Singles.{Singles}
use Rattle.grammar.specs.declared.State.{State}
use Rattle.grammar.specs.declared.Refusal.{Refusal}
use Rattle.grammar.specs.declared.Answer.{Answer}
use Rattle.grammar.specs.declared.Answer.TheVariants.{Going, Done, Refused}
use Rattle.grammar.specs.State.{count, with_count, no_posix, fresh}
use Rattle.symbols.specs.Symbols.{Lexicon, filled_rows, Knows}
use Rattle.symbols.proofs.Laws.{fill_knows}
use Rattle.grammar.proofs.Filled.{far_filled}
use Rattle.grammar.specs.Sound.{AllTables, ten_of, cells_of, zero_all, Indexes, lexicon_of, SoundIndexes, Sound, PosixSound, Far}
use Rattle.grammar.proofs.Far.{far_table, fresh_far, far_sound, far_posix}
use Rattle.items.proofs.Far.{Taken, going_taken, done_taken}
use Rattle.rules.proofs.Far.{Whole}
use Rattle.sections.specs.Sections.{sizes_fit, sized, admitted, sections_all, attempt_of, attempted}
use Rattle.sections.proofs.Lengths.{lengths, zero_lengths, sections_lengths}
use Rattle.sections.proofs.Far.{admit_cases, sections_far, Alone, sections_alone}
use Rattle.reader.specs.declared.Reading.{Reading}
use Rattle.reader.specs.Read.{Outcome, ReadResult, only_repeats, ended_at, clear_twelve, finished, finished_run, indexed, read_all, read_names, with_symbols, filled_in}
use Rattle.reader.specs.Allowed.{Allowed, RepeatsOnly, Full, Cleared, PosixCleared}

-- A source that can be read is not too long, and one that can't has no repeats.
abbrev Admits : List ℕ → Result (Unit {0}) Refusal → Type 0
Admits src (Ok _) = length src ≤ 65536
Admits src (Err f) = RepeatsOnly f → ⊥

admits : (src : List ℕ) (kind : ℕ) (fit : Bool) → Admits src (admitted src kind fit)
admits src kind fit = admit_cases (Admits src) src kind fit (λ short e. short) (λ i x. x) (λ x. x) (λ x. x) (λ x. x)

-- The indexes that a source is read with have right sizes,
abbrev FitSizes : AllTables → Indexes → Result (Unit {0}) Refusal → Type 0
FitSizes T X (Ok _) = Sized (length X.tokens) (length T.t1) (width tokens) × Sized (length X.rules) (length T.t7) (width rules)
FitSizes T X (Err f) = Unit {0}

fit_sizes : (src : List ℕ) (kind : ℕ) (T : AllTables) (X : Indexes) → FitSizes T X (admitted src kind (sized T X))
unfolding sizes_fit
fit_sizes src kind T X = admit_cases (FitSizes T X) src kind (sized T X) (λ short e. told_sizes e) (λ i. tt) tt tt tt
  where
    told_sizes : sized T X ≡ true → FitSizes T X (Ok tt)
    told_sizes h =
        (both_iff (size_iff (length X.tokens) (length T.t1) (width tokens)) (size_iff (length X.rules) (length T.t7) (width rules))).0 h

-- and hold the names, whatever the answer.
abbrev Lengthy : AllTables → AllTables → Type 0
Lengthy U T = (length U.t1 ≡ length T.t1) × (length U.t7 ≡ length T.t7)

indexed_sound : (src : List ℕ) (T : AllTables) (X : Indexes) (o : Outcome) → Lengthy o.tables T → FitSizes T X (Ok tt) → SoundIndexes src o.counts (ten_of o.tables) (indexed src X o).indexes
indexed_sound src T X o l z =
    let a = entries_length src (width tokens) 0 o.tables.t1 (length X.tokens) (get_or o.counts.n tokens 0) in
    let b = entries_length src (width rules) 0 o.tables.t7 (length X.rules) (get_or o.counts.n rules 0) in
    record {
      token_size = rw (a, l.0) z.0;
      rule_size = rw (b, l.1) z.1;
      tokens = record { holds = rw a };
      rules = record { holds = rw b };
    }

-- symbols have nothing to do with it
indexes_filled : {src : List ℕ} {c : Counts} (T : AllTables) {X : Indexes} {t9 : List ℕ} → SoundIndexes src c (ten_of T) X → SoundIndexes src c (ten_of (with_symbols T t9)) X
indexes_filled T i = record { token_size = i.token_size; rule_size = i.rule_size; tokens = i.tokens; rules = i.rules }

-- "An accepted read is sound", and so is one that was refused for repeats only: its indexes.
pub read_indexed : (src : List ℕ) (kind : ℕ) (T : AllTables) (X : Indexes) → let o = read_all src kind T X in Full o.answer → SoundIndexes src o.counts (ten_of o.tables) o.indexes
unfolding read_all read_names attempted
read_indexed src kind T X f = go (admitted src kind (sized T X)) (admits src kind (sized T X)) (fit_sizes src kind T X) f
  where
    ends : (a : Answer) (s : State) (U : AllTables) → lengths U ≡ lengths T → Lengthy (finished a s U).tables T
    ends Going s U e = (ap (λ (l : List ℕ). get_or l 0 0) e, ap (λ (l : List ℕ). get_or l 6 0) e)
    ends Done s U e = (ap (λ (l : List ℕ). get_or l 0 0) e, ap (λ (l : List ℕ). get_or l 6 0) e)
    ends (Refused g) s U e = (length-replicate {A = ℕ} (length U.t1) 0 ∙ ap (λ (l : List ℕ). get_or l 0 0) e, length-replicate {A = ℕ} (length U.t7) 0 ∙ ap (λ (l : List ℕ). get_or l 6 0) e)

    go : (m : Result (Unit {0}) Refusal) → Admits src m → FitSizes T X m → let o = finished_run (attempt_of m src kind (zero_all T)) in Full o.answer → SoundIndexes src o.counts (ten_of (filled_in src (indexed src X o)).tables) (indexed src X o).indexes
    go (Ok _) h z x =
        let r = sections_all src (fresh kind) (zero_all T) in
        indexes_filled (finished_run r).tables
        (indexed_sound src T X (finished_run r) (ends r.answer r.state r.tables (sections_lengths src (fresh kind) (zero_all T) ∙ zero_lengths T)) z)
    go (Err g) h z x = absurd (h x)

-- tables with their symbols filled in
abbrev filled_tables : List ℕ → Counts → AllTables → AllTables
filled_tables src c T = with_symbols T (filled_rows (lexicon_of src c (ten_of T)) T.t9 (get_or c.n symbols 0))

-- What holds of a state that is sound so far with its symbols filled in, none of them behind the last range, holds of what is left of a read: where it stopped,
-- of one with its repeats alone.
module _ (src : List ℕ) (C : Counts → PosixCounts → Singles → AllTables → Type 0)
    (h : (s : State) (T : AllTables) → Far src (count s symbols) s (filled_tables src s.counts T) → Knows (lexicon_of src s.counts (ten_of T)) (count s symbols) (filled_tables src s.counts T).t9 → C s.counts s.posix s.singles T) where
  stopped_cases : {done : ℕ} {s : State} {T : AllTables} → Far src done s T → (g : Refusal) → let o = finished (Refused g) s T in C o.counts o.posix o.singles o.tables
  unfolding filled_rows
  stopped_cases {done} {s} {T} f g =
      h (with_count (fresh s.kind) repeats (count s repeats)) (clear_twelve T)
      (far_table (fresh_far src s.kind T f.short) repeats (omega arith) (count s repeats) (omega arith) T.t10 (λ e. omega arith) (f.tables repeats))
      (record { row = λ r l. absurd (omega arith) })

  finished_cases : (a : Answer) (s : State) (T : AllTables) → Whole src T a s → let o = finished a s T in C o.counts o.posix o.singles o.tables
  unfolding ended_at
  finished_cases a s T x = go a x.whole
    where
      g : Lexicon
      g = lexicon_of src s.counts (ten_of T)

      ended : x.done ≡ count s symbols → C (ended_at s T.t10).counts (ended_at s T.t10).posix (ended_at s T.t10).singles T
      ended e =
          let y = h s T (told (λ (n : ℕ). Far src n s (filled_tables src s.counts T)) e (far_filled x.far g)) (fill_knows g T.t9 (count s symbols) (x.far.tables symbols).fits) in
          on_test (λ (r : Reading). C r.counts r.posix r.singles T) (eqb (count s repeats) 0) _ _ (λ e. y) (λ e. y)

      go : (a : Answer) → (Taken a → x.done ≡ count s symbols) → let o = finished a s T in C o.counts o.posix o.singles o.tables
      go Going w = ended (w (going_taken Going refl))
      go Done w = ended (w (done_taken Done refl))
      go (Refused f) w = stopped_cases x.far f

  -- and of an accepted read, and of one that was refused for repeats only.
  read_cases : (kind : ℕ) (T : AllTables) (X : Indexes) → Full (read_all src kind T X).answer → let o = finished_run (attempted src kind (sized T X) (zero_all T)) in C o.counts o.posix o.singles o.tables
  unfolding read_all read_names attempted
  read_cases kind T X f = go (admitted src kind (sized T X)) (admits src kind (sized T X)) f
    where
      go : (m : Result (Unit {0}) Refusal) → Admits src m → let o = finished_run (attempt_of m src kind (zero_all T)) in Full o.answer → C o.counts o.posix o.singles o.tables
      go (Ok _) l x = let r = sections_all src (fresh kind) (zero_all T) in finished_cases r.answer r.state r.tables (sections_far src kind T l)
      go (Err g) l x = absurd (l x)

-- "An accepted read is sound", and so is one that was refused for repeats only.
pub read_sound : (src : List ℕ) (kind : ℕ) (T : AllTables) (X : Indexes) → let o = read_all src kind T X in Full o.answer → Sound src o.counts o.singles (ten_of o.tables) o.indexes
unfolding read_all read_names
read_sound src kind T X f = read_cases src SoundWith (λ s U g k Y i. far_sound src s (filled_tables src s.counts U) g Y i k) kind T X f _ (read_indexed src kind T X f)
  where
    -- with indexes that are
    SoundWith : Counts → PosixCounts → Singles → AllTables → Type 0
    SoundWith c p g U = (Y : Indexes) → SoundIndexes src c (ten_of (filled_tables src c U)) Y → Sound src c g (ten_of (filled_tables src c U)) Y

-- So are tables 15 to 17 of such a read.
pub read_posix_sound : (src : List ℕ) (kind : ℕ) (T : AllTables) (X : Indexes) → let o = read_all src kind T X in Full o.answer → PosixSound src o.counts o.posix o.tables
unfolding read_all read_names
read_posix_sound src kind T X f = read_cases src (λ c p g U. PosixSound src c p (filled_tables src c U)) (λ s U g k. far_posix src s (filled_tables src s.counts U) g) kind T X f

-- The `%epp` values that a read leaves are strings with their quotes, whatever its answer.
abbrev Values : List ℕ → Counts → List ℕ → Type 0
Values src c t5 = (r : ℕ) → r < get_or c.n epps 0 → string_at src (cell (width epps) t5 r value) ≡ Ok (cell (width epps) t5 r (value + 1))

far_values : {src : List ℕ} {done : ℕ} {s : State} {T : AllTables} → Far src done s T → (r : ℕ) → r < count s epps → string_at src (cell (width epps) T.t5 r value) ≡ Ok (cell (width epps) T.t5 r (value + 1))
far_values {T = T} f r l = rw (← row_cell (width epps) T.t5 r value (omega arith), ← row_cell (width epps) T.t5 r (value + 1) (omega arith)) ((f.tables epps).each r l).closed

finished_values : {src : List ℕ} {done : ℕ} (a : Answer) (s : State) (T : AllTables) → Far src done s T → Values src (finished a s T).counts (finished a s T).tables.t5
unfolding ended_at
finished_values {src} a s T f = go a
  where
    ended : Values src (finished Going s T).counts T.t5
    ended = on_test (λ (r : Reading). Values src r.counts T.t5) (eqb (count s repeats) 0) _ _ (λ e. far_values f) (λ e. far_values f)

    go : (a : Answer) → Values src (finished a s T).counts (finished a s T).tables.t5
    go Going = ended
    go Done = ended
    go (Refused x) = λ r l. absurd (omega arith)

pub read_values : (src : List ℕ) (kind : ℕ) (T : AllTables) (X : Indexes) → Values src (read_all src kind T X).counts (read_all src kind T X).tables.t5
unfolding read_all read_names attempted
read_values src kind T X = go (admitted src kind (sized T X)) (admits src kind (sized T X))
  where
    go : (m : Result (Unit {0}) Refusal) → Admits src m → let o = finished_run (attempt_of m src kind (zero_all T)) in Values src o.counts o.tables.t5
    go (Ok _) h = let r = sections_all src (fresh kind) (zero_all T) in finished_values r.answer r.state r.tables (sections_far src kind T h).far
    go (Err f) h = λ r l. absurd (omega arith)

-- "0 accepted: read: end reached, twice"
abbrev Within : List ℕ → Result ℕ Refusal → Type 0
Within src (Ok i) = i ≤ length src
Within src (Err f) = Unit {0}

read_within : (src : List ℕ) (kind : ℕ) (T : AllTables) (X : Indexes) → Within src (read_all src kind T X).answer
unfolding read_all read_names attempted ended_at
read_within src kind T X = go (admitted src kind (sized T X)) (admits src kind (sized T X))
  where
    ended : (s : State) (t : List ℕ) → s.at ≤ length src → Within src (ended_at s t).answer
    ended s t h = on_test (λ (r : Reading). Within src r.answer) (eqb (count s repeats) 0) _ _ (λ e. h) (λ e. tt)

    end : (a : Answer) (s : State) (U : AllTables) → s.at ≤ length src → Within src (finished a s U).answer
    end Going s U h = ended s U.t10 h
    end Done s U h = ended s U.t10 h
    end (Refused f) s U h = tt

    go : (m : Result (Unit {0}) Refusal) → Admits src m → Within src (finished_run (attempt_of m src kind (zero_all T))).answer
    go (Ok _) h = let r = sections_all src (fresh kind) (zero_all T) in end r.answer r.state r.tables (sections_far src kind T h).far.here
    go (Err f) h = tt

pub accepted_end : (src : List ℕ) (kind : ℕ) (T : AllTables) (X : Indexes) (i : ℕ) → (read_all src kind T X).answer ≡ Ok i → i ≤ length src
accepted_end src kind T X i e = rw e at (read_within src kind T X)

-- "the ten counts of tables 1 to 10": a read gives ten, whatever its answer.
pub read_ten : (src : List ℕ) (kind : ℕ) (T : AllTables) (X : Indexes) → length (read_all src kind T X).counts.n ≡ 10
unfolding read_all read_names attempted ended_at
read_ten src kind T X = go (admitted src kind (sized T X)) (admits src kind (sized T X))
  where
    ended : (s : State) (t : List ℕ) → length s.counts.n ≡ 10 → length (ended_at s t).counts.n ≡ 10
    ended s t h = on_test (λ (r : Reading). length r.counts.n ≡ 10) (eqb (count s repeats) 0) _ _ (λ e. h) (λ e. h)

    end : (a : Answer) (s : State) (U : AllTables) → length s.counts.n ≡ 10 → length (finished a s U).counts.n ≡ 10
    end Going s U h = ended s U.t10 h
    end Done s U h = ended s U.t10 h
    end (Refused f) s U h = refl

    go : (m : Result (Unit {0}) Refusal) → Admits src m → length (finished_run (attempt_of m src kind (zero_all T))).counts.n ≡ 10
    go (Ok _) h = let r = sections_all src (fresh kind) (zero_all T) in end r.answer r.state r.tables (sections_far src kind T h).far.ten
    go (Err f) h = refl

-- And the three of tables 15 to 17.
pub read_three : (src : List ℕ) (kind : ℕ) (T : AllTables) (X : Indexes) → length (read_all src kind T X).posix.n ≡ 3
unfolding read_all read_names attempted ended_at
read_three src kind T X = go (admitted src kind (sized T X)) (admits src kind (sized T X))
  where
    ended : (s : State) (t : List ℕ) → length s.posix.n ≡ 3 → length (ended_at s t).posix.n ≡ 3
    ended s t h = on_test (λ (r : Reading). length r.posix.n ≡ 3) (eqb (count s repeats) 0) _ _ (λ e. h) (λ e. h)

    end : (a : Answer) (s : State) (U : AllTables) → length s.posix.n ≡ 3 → length (finished a s U).posix.n ≡ 3
    end Going s U h = ended s U.t10 h
    end Done s U h = ended s U.t10 h
    end (Refused f) s U h = refl

    go : (m : Result (Unit {0}) Refusal) → Admits src m → length (finished_run (attempt_of m src kind (zero_all T))).posix.n ≡ 3
    go (Ok _) h = let r = sections_all src (fresh kind) (zero_all T) in end r.answer r.state r.tables (sections_far src kind T h).far.three
    go (Err f) h = refl

-- What is left of a read that stopped: tables as long as those it was given.
cleared : (src : List ℕ) (T U : AllTables) (X : Indexes) (s : State) (f : Refusal) → lengths U ≡ lengths T → Cleared T X (filled_in src (indexed src X (finished (Refused f) s U)))
unfolding entries filled_rows
cleared src T U X s f e = record { tables = zeros; counts = none; posix_tables = high; posix = refl; singles = refl; token_index = refl; rule_index = refl }
  where
    -- table k + 1 of zeros
    zero_at : (k : ℕ) → ◌≡◌ {A = List ℕ} (replicate (get_or (lengths U) k 0) 0) (replicate (get_or (lengths T) k 0) 0)
    zero_at k = ap (λ (l : List ℕ). replicate {A = ℕ} (get_or l k 0) 0) e

    zeros : (k : ℕ) → k < repeats → cells_of (clear_twelve U) k ≡ zeroed (cells_of T k)
    zeros zero h = zero_at 0
    zeros (suc zero) h = zero_at 1
    zeros (suc (suc zero)) h = zero_at 2
    zeros (suc (suc (suc zero))) h = zero_at 3
    zeros (suc (suc (suc (suc zero)))) h = zero_at 4
    zeros (suc (suc (suc (suc (suc zero))))) h = zero_at 5
    zeros (suc (suc (suc (suc (suc (suc zero)))))) h = zero_at 6
    zeros (suc (suc (suc (suc (suc (suc (suc zero))))))) h = zero_at 7
    zeros (suc (suc (suc (suc (suc (suc (suc (suc zero)))))))) h = zero_at 8
    zeros (suc (suc (suc (suc (suc (suc (suc (suc (suc k))))))))) h = absurd (omega arith)

    high : (k : ℕ) → k < 3 → cells_of (filled_in src (indexed src X (finished (Refused f) s U))).tables (posix_from + k) ≡ zeroed (cells_of T (posix_from + k))
    high zero h = zero_at 10
    high (suc zero) h = zero_at 11
    high (suc (suc zero)) h = zero_at 12
    high (suc (suc (suc k))) h = absurd (omega arith)

    none : (k : ℕ) → k < repeats → get_or (only_repeats (count s repeats)).n k 0 ≡ 0
    none zero h = refl
    none (suc zero) h = refl
    none (suc (suc zero)) h = refl
    none (suc (suc (suc zero))) h = refl
    none (suc (suc (suc (suc zero)))) h = refl
    none (suc (suc (suc (suc (suc zero))))) h = refl
    none (suc (suc (suc (suc (suc (suc zero)))))) h = refl
    none (suc (suc (suc (suc (suc (suc (suc zero))))))) h = refl
    none (suc (suc (suc (suc (suc (suc (suc (suc zero)))))))) h = refl
    none (suc (suc (suc (suc (suc (suc (suc (suc (suc k))))))))) h = absurd (omega arith)

-- After 1 to 19, 40 to 43 and 45 "tables 1 to 9 and their counts are zero, the singles absent", and so are tables 15 to 17, their counts and both indexes.
pub stopped_clean : (src : List ℕ) (kind : ℕ) (T : AllTables) (X : Indexes) (f : Refusal) → (read_all src kind T X).answer ≡ Err f → (RepeatsOnly f → ⊥) → Cleared T X (read_all src kind T X)
unfolding read_all read_names attempted ended_at
stopped_clean src kind T X f = let r = attempted src kind (sized T X) (zero_all T) in go r.answer r.state r.tables (run (admitted src kind (sized T X)) ∙ zero_lengths T)
  where
    run : (m : Result (Unit {0}) Refusal) → lengths (attempt_of m src kind (zero_all T)).tables ≡ lengths (zero_all T)
    run (Ok _) = sections_lengths src (fresh kind) (zero_all T)
    run (Err g) = refl

    -- one that ended was refused for repeats only
    ended : (s : State) (t : List ℕ) → Full (ended_at s t).answer
    ended s t = on_test (λ (r : Reading). Full r.answer) (eqb (count s repeats) 0) _ _ (λ e. tt) (λ e. tt)

    go : (a : Answer) (s : State) (U : AllTables) → lengths U ≡ lengths T → (finished a s U).answer ≡ Err f → (RepeatsOnly f → ⊥) → Cleared T X (filled_in src (indexed src X (finished a s U)))
    go Going s U e h n = absurd (n (told Full h (ended s U.t10)))
    go Done s U e h n = absurd (n (told Full h (ended s U.t10)))
    go (Refused g) s U e h n = cleared src T U X s g e

-- In kinds 1 to 3 tables 15 to 17 and their counts are zero after every read, whatever its answer.
pub posix_alone : (src : List ℕ) (kind : ℕ) (T : AllTables) (X : Indexes) → (kind ≡ 4 → ⊥) → PosixCleared T (read_all src kind T X)
unfolding read_all read_names attempted ended_at
posix_alone src kind T X d =
    let m = admitted src kind (sized T X) in
    let r = attempt_of m src kind (zero_all T) in
    end r.answer r.state r.tables (run m (admits src kind (sized T X)))
  where
    run : (m : Result (Unit {0}) Refusal) → Admits src m → Alone T (attempt_of m src kind (zero_all T))
    run (Ok _) h = sections_alone src kind T h d
    run (Err f) h = record { counts = refl; tags = refl; numbers = refl; bodies = refl }

    ended : (s : State) (t : List ℕ) → s.posix ≡ no_posix → (ended_at s t).posix ≡ no_posix
    ended s t e = on_test (λ (r : Reading). r.posix ≡ no_posix) (eqb (count s repeats) 0) _ _ (λ h. e) (λ h. e)

    again : (t u : List ℕ) → u ≡ zeroed t → zeroed u ≡ zeroed t
    again t u e = rw (e, length-replicate {A = ℕ} (length t) 0)

    high : (U : AllTables) → U.t15 ≡ zeroed T.t15 → U.t16 ≡ zeroed T.t16 → U.t17 ≡ zeroed T.t17 → (k : ℕ) → k < 3 → cells_of U (posix_from + k) ≡ zeroed (cells_of T (posix_from + k))
    high U a b c zero h = a
    high U a b c (suc zero) h = b
    high U a b c (suc (suc zero)) h = c
    high U a b c (suc (suc (suc k))) h = absurd (omega arith)

    end : (a : Answer) (s : State) (U : AllTables) → Alone T (record { answer = a; state = s; tables = U }) → PosixCleared T (filled_in src (indexed src X (finished a s U)))
    end Going s U x = record { tables = high (filled_in src (indexed src X (finished Going s U))).tables x.tags x.numbers x.bodies; counts = ended s U.t10 x.counts }
    end Done s U x = record { tables = high (filled_in src (indexed src X (finished Done s U))).tables x.tags x.numbers x.bodies; counts = ended s U.t10 x.counts }
    end (Refused f) s U x =
        record {
          tables = high (filled_in src (indexed src X (finished (Refused f) s U))).tables (again T.t15 U.t15 x.tags) (again T.t16 U.t16 x.numbers) (again T.t17 U.t17 x.bodies);
          counts = refl;
        }

-- "Any two outcomes allowed by it are proved equal": the contract of `read` allows one.
pub one_reading : (src : List ℕ) (kind : ℕ) (T : AllTables) (X : Indexes) (o p : ReadResult) → Allowed src kind T X o → Allowed src kind T X p → o ≡ p
one_reading src kind T X o p e h = e ∙ sym h
