-- The operations together: what they answer on what a load left, and that each contract allows one outcome. Assumes nothing.
use Rattle.std.specs.Prelude.{Option, Result, Ok, Err}
use Prim.Native.Nat.{ℕ, ◌*◌, ◌≤◌, ◌<◌}
use mathlib.Core.Path.{◌≡◌, refl, sym, ◌∙◌}
use mathlib.Core.List.{List}
use mathlib.Core.Bool.{Bool, true, false, false≢true}
use mathlib.Core.Logic.{◌↔◌, ◌⊎◌, inl, inr, ⊎_elim}
use native.Mathlib.Omega.{arith}
use lib.Dec.{leb}
use lib.ListN.{length, get_or}
use Rattle.scan.proofs.Bytes.{told}
use Rattle.tables.specs.Layout.{tokens, epps, rules, fault_width}
use Rattle.grammar.specs.declared.Counts.{Counts}
use Rattle.grammar.specs.declared.Singles.{Singles}
use Rattle.grammar.specs.Sound.{Tables, AllTables, ten_of, Indexes}
use Rattle.loading.specs.Load.{LoadResult, load_all, FullLoad}
use Rattle.loading.proofs.Theorems.{load_sound, load_values, load_valid}
use Rattle.sound.specs.Test.{count_at, sound_test}
use Rattle.sound.proofs.Iff.{sound_iff}
use Rattle.validation.specs.declared.ValidityError.{ValidityError}
use Rattle.validation.specs.declared.ValidityError.TheVariants.{UnsoundTables, Invalid}
use Rattle.validation.specs.declared.Flaw.{Flaw}
use Rattle.validation.specs.declared.FaultsError.TheVariants.{FaultsUnsound}
use Rattle.validation.specs.Faults.{faults, validity}
use Rattle.validation.specs.Walk.{all_faults_if, fault_listing}
use Rattle.validation.proofs.Order.{validity_unsound}
use Rattle.reach.specs.Reach.{Grammar, need}
use Rattle.usage.specs.declared.ListingError.{ListingError}
use Rattle.usage.specs.declared.ListingError.TheVariants.{OfUnsound, NoRoom}
use Rattle.usage.specs.declared.MarkingError.TheVariants.{MarksUnsound}
use Rattle.usage.specs.Report.{Excuses, Told, Reported, MarkTold, MarkedBits}
use Rattle.usage.specs.Standing.{UnusedRows, TooMany}
use Rattle.usage.proofs.Outcome.{report_room}
use Rattle.usage.proofs.Standing.{report_rows, listed_or_many, listed_in_room, no_room_iff}
use Rattle.pruning.specs.declared.PruningError.TheVariants.{PruningUnsound}
use Rattle.pruning.specs.Pruned.{Lent, ToldPruning, Prunings}
use Rattle.walks.specs.declared.NextError.{NextError}
use Rattle.walks.specs.declared.NextError.TheVariants.{NotFitting}
use Rattle.walks.specs.declared.Standing.{Standing}
use Rattle.walks.specs.Walk.{Passes, rule_next, token_next, none_next, Advanced, fitting, unfitting}
use Rattle.names.specs.Name.{name_of}
use Rattle.values.specs.Value.{valuation_numbers, epp_value}
use Rattle.values.proofs.Meaning.{value_not_44}
use Rattle.quiltrudder.specs.Report.{grammar_read, excuses_read, Roomy, Exactly}

-- A full reading that a load left, valid or not, or refused for repeats only, passes the test of soundness,
module _ (src : List ℕ) (kind : ℕ) (T : AllTables) (X : Indexes) (full : FullLoad (load_all src kind T X).answer) where
  abbrev o : LoadResult
  o = load_all src kind T X

  pub load_passes : sound_test src o.counts o.singles (ten_of o.tables) o.indexes ≡ true
  load_passes = (sound_iff src o.counts o.singles (ten_of o.tables) o.indexes).1 (load_sound src kind T X full)

  -- so that validation never answers 44 on it,
  pub validate_not_44 : validity src o.counts o.singles (ten_of o.tables) o.indexes ≡ Err UnsoundTables → ⊥
  validate_not_44 e = false≢true (sym ((validity_unsound src o.counts o.singles (ten_of o.tables) o.indexes).0 e) ∙ load_passes)

  -- nor does the list of all faults,
  pub faults_not_44 : (t : List ℕ) → (fault_listing src o.counts o.singles (ten_of o.tables) o.indexes t).answer ≡ Err FaultsUnsound → ⊥
  unfolding fault_listing
  faults_not_44 t e = go (leb (length all * fault_width) (length t)) (rw (fault_listing, load_passes) at e)
    where
      all : List Flaw
      all = faults src o.counts o.singles o.tables.t1 o.tables.t2 o.tables.t4 o.tables.t5 o.tables.t6 o.tables.t7 o.tables.t8 o.tables.t9

      go : (b : Bool) → (all_faults_if b all t).answer ≡ Err FaultsUnsound → ⊥
      go true e = let z : ◌≡◌ {A = ℕ} 0 1 = cc in omega arith
      go false e = let z : ◌≡◌ {A = ℕ} 0 1 = cc in omega arith

  -- nor does the report,
  pub report_not_44 : (ws₀ ws out₀ out : List ℕ) → Reported src o.counts o.singles (ten_of o.tables) o.indexes (Err OfUnsound) ws₀ ws out₀ out → ⊥
  report_not_44 ws₀ ws out₀ out = go (validity src o.counts o.singles (ten_of o.tables) o.indexes) refl
    where
      go : (v : Result (Unit {0}) ValidityError) → validity src o.counts o.singles (ten_of o.tables) o.indexes ≡ v → Told v (grammar_read src o) (excuses_read src o) (Err OfUnsound) ws₀ ws out₀ out → ⊥
      go (Ok _) e p = p
      go (Err UnsoundTables) e p = validate_not_44 e
      go (Err (Invalid f)) e p = let q = p.0 in let z : ◌≡◌ {A = ℕ} 0 1 = cc in omega arith

  -- nor its marking by itself,
  pub mark_not_44 : (ws₀ ws : List ℕ) → MarkedBits src o.counts o.singles (ten_of o.tables) o.indexes (Err MarksUnsound) ws₀ ws → ⊥
  mark_not_44 ws₀ ws = go (validity src o.counts o.singles (ten_of o.tables) o.indexes) refl
    where
      go : (v : Result (Unit {0}) ValidityError) → validity src o.counts o.singles (ten_of o.tables) o.indexes ≡ v → MarkTold v (grammar_read src o) (Err MarksUnsound) ws₀ ws → ⊥
      go (Ok _) e p = p
      go (Err UnsoundTables) e p = validate_not_44 e
      go (Err (Invalid f)) e p = let q = p.0 in let z : ◌≡◌ {A = ℕ} 0 1 = cc in omega arith

  -- nor a step of a walk whose record is not past the counts, with words enough,
  pub next_not_44 : (ws : List ℕ) (s : Standing) (n : Result (Option (ℕ × ℕ)) NextError) (t : Standing) → s.rules ≤ count_at o.counts rules → s.tokens ≤ count_at o.counts tokens → need (grammar_read src o) ≤ length ws
      → Advanced src o.counts o.singles (ten_of o.tables) o.indexes ws s n t → n ≡ Err NotFitting → ⊥
  next_not_44 ws s n t h k l (fitting f p) e = passed p e
    where
      passed : Passes ws (excuses_read src o) (grammar_read src o).rules (grammar_read src o).tokens s n t → n ≡ Err NotFitting → ⊥
      passed (rule_next r x a b) e = let z : ◌≡◌ {A = ℕ} 0 1 = cc in omega arith
      passed (token_next r x y a b) e = let z : ◌≡◌ {A = ℕ} 0 1 = cc in omega arith
      passed (none_next x y a b) e = let z : ◌≡◌ {A = ℕ} 0 1 = cc in omega arith
  next_not_44 ws s n t h k l (unfitting f a b) e = f (record { sound = load_sound src kind T X full; rules_passed_lem = h; tokens_passed = k; words = l })

  -- nor does pruning,
  pub prune_not_44 : (ws₀ : List ℕ) (b : Lent) → Prunings src o.singles (Err PruningUnsound) (record { counts = o.counts; tables = ten_of o.tables; indexes = o.indexes; work = ws₀ }) b → ⊥
  prune_not_44 ws₀ b = go (validity src o.counts o.singles (ten_of o.tables) o.indexes) refl
    where
      go : (v : Result (Unit {0}) ValidityError) → validity src o.counts o.singles (ten_of o.tables) o.indexes ≡ v → ToldPruning v src (grammar_read src o) (excuses_read src o) (Err PruningUnsound) (record { counts = o.counts; tables = ten_of o.tables; indexes = o.indexes; work = ws₀ }) b → ⊥
      go (Ok _) e p = p
      go (Err UnsoundTables) e p = validate_not_44 e
      go (Err (Invalid f)) e p = let q = p.0 in let z : ◌≡◌ {A = ℕ} 0 1 = cc in omega arith

  -- nor the value of an `%epp` row.
  pub value_row_not_44 : (row : ℕ) (out : List ℕ) → row < count_at o.counts epps → get_or (valuation_numbers (epp_value src o.counts o.singles (ten_of o.tables) o.indexes row out).answer) 0 0 ≡ 44 → ⊥
  value_row_not_44 row out h = value_not_44 src o.counts o.singles (ten_of o.tables) o.indexes row out load_passes h (load_values src kind T X row h)

  -- The third demand, where it validates: what use and excuses go by.
  abbrev grammar : Grammar
  grammar = grammar_read src o

  abbrev excuses : Excuses
  excuses = excuses_read src o

  module _ (l : Result ℕ ListingError) (ws₀ ws out₀ out : List ℕ) (v : validity src o.counts o.singles (ten_of o.tables) o.indexes ≡ Ok tt) where
    module _ (words : need grammar ≤ length ws₀) (p : Reported src o.counts o.singles (ten_of o.tables) o.indexes l ws₀ ws out₀ out) where
      given : (n : ℕ) → l ≡ Ok n → Exactly grammar excuses l out
      given n e = record { count = n; listed = e; rows = report_rows src o.counts o.singles (ten_of o.tables) o.indexes n ws₀ ws out₀ out (rw e at p) }

      -- With words for the work bits, the report holds exactly the unused rows, each once, in order; or it answers 42 for table 12, and they are too many.
      pub report_either : Exactly grammar excuses l out ⊎ ((l ≡ Err NoRoom) × TooMany grammar excuses out₀)
      report_either = ⊎_elim (λ y. inl (given y.0 y.1)) (λ y. inr y) (listed_or_many src o.counts o.singles (ten_of o.tables) o.indexes l ws₀ ws out₀ out v words p)

      -- So 42 comes exactly where they are too many,
      pub report_no_room : (l ≡ Err NoRoom) ↔ TooMany grammar excuses out₀
      report_no_room = no_room_iff src o.counts o.singles (ten_of o.tables) o.indexes l ws₀ ws out₀ out v words p

      -- and where a list of them fits, they are given.
      pub report_fits : (n : ℕ) (list : List ℕ) → UnusedRows grammar excuses n list → n * 2 ≤ length out₀ → Exactly grammar excuses l out
      report_fits n list r h = given n (listed_in_room src o.counts o.singles (ten_of o.tables) o.indexes l ws₀ ws out₀ out v words p n list r h)

    -- They fit with room for every row.
    pub report_exactly : Roomy grammar ws₀ out₀ → Reported src o.counts o.singles (ten_of o.tables) o.indexes l ws₀ ws out₀ out → Exactly grammar excuses l out
    report_exactly room p = let r = report_room src o.counts o.singles (ten_of o.tables) o.indexes l ws₀ ws out₀ out v room.words room.rows p in given room.words p r.0 r.1

-- The third demand of what a load accepted, in one theorem: where load's answer is Loaded, the report lists exactly the unused rows, each once, in order; words and rows enough being lent.
pub load_report_exactly : (src : List ℕ) (kind : ℕ) (T : AllTables) (X : Indexes) (i : ℕ) (l : Result ℕ ListingError) (ws₀ ws out₀ out : List ℕ) → let o = load_all src kind T X in o.answer ≡ Ok i
    → Roomy (grammar_read src o) ws₀ out₀ → Reported src o.counts o.singles (ten_of o.tables) o.indexes l ws₀ ws out₀ out → Exactly (grammar_read src o) (excuses_read src o) l out
load_report_exactly src kind T X i l ws₀ ws out₀ out e room p =
    report_exactly src kind T X (told FullLoad (sym e) tt) l ws₀ ws out₀ out (load_valid src kind T X i e) room p

-- "Any two outcomes allowed by it are proved equal": of a name. `Load-one`, `validity_first`, `faults_one`, `reported_one`, `marking_one`, `next_one`, `pruning_one`, `Valued-one` and `one_shipping` say it of the other operations.
pub name_one : (src : List ℕ) (c : Counts) (g : Singles) (T : Tables) (X : Indexes) (table row : ℕ) (a b : List ℕ) → a ≡ name_of src c g T X table row → b ≡ name_of src c g T X table row → a ≡ b
name_one src c g T X table row a b p q = p ∙ sym q
