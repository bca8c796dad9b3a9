-- What a load answers and leaves, in terms of the read and of validation; that it never answers 44; one outcome. Assumes nothing.
use Rattle.std.specs.Prelude.{Ok, Err, Result}
use Prim.Native.Nat.{ℕ, ◌+◌, ◌≤◌, ◌<◌}
use mathlib.Core.Path.{◌≡◌, refl, sym, ap, ◌∙◌}
use mathlib.Core.List.{List, [], ◌∷◌}
use mathlib.Core.Bool.{false≢true}
use mathlib.Core.Logic.{◌↔◌, inl, inr}
use native.Mathlib.Omega.{arith}
use lib.ListN.{length, get_or}
use Rattle.scan.proofs.Bytes.{told}
use Rattle.words.specs.Strings.{string_at}
use Rattle.tables.specs.Table.{cell}
use Rattle.tables.specs.Layout.{epps, value, width}
use Rattle.grammar.specs.declared.Counts.{Counts}
use Rattle.grammar.specs.declared.Singles.{Singles}
use Rattle.grammar.specs.declared.Refusal.{Refusal}
use Rattle.grammar.specs.Refusals.{number_of}
use Rattle.grammar.specs.Sound.{Tables, AllTables, ten_of, Indexes, Sound, PosixSound}
use Rattle.reader.specs.Read.{ReadResult, read_all}
use Rattle.reader.specs.Allowed.{RepeatsOnly, Full, Cleared}
use Rattle.reader.proofs.Sound.{read_sound, read_posix_sound, read_ten, read_three, read_values, stopped_clean}
use Rattle.refusals.specs.Refusal.{ReadNumber}
use Rattle.refusals.proofs.Read.{refusal_documented}
use Rattle.sound.proofs.Iff.{sound_iff}
use Rattle.validation.specs.declared.Flaw.{Flaw}
use Rattle.validation.specs.declared.Flaw.TheVariants.{NoStartRule, InvalidStartRule, UnknownRuleRef, UnknownTokenRef, UnknownPrecToken, NoPrecForToken, UnknownEppKey}
use Rattle.validation.specs.declared.ValidityError.{ValidityError}
use Rattle.validation.specs.declared.ValidityError.TheVariants.{UnsoundTables, Invalid}
use Rattle.validation.specs.Faults.{flaw_number, flaw_numbers, first, faults, validity}
use Rattle.validation.specs.Walk.{Walkable}
use Rattle.validation.proofs.Laws.{sound_walkable}
use Rattle.validation.proofs.Order.{validity_unsound}
use Rattle.loading.specs.declared.LoadError.{LoadError}
use Rattle.loading.specs.declared.LoadError.TheVariants.{NotRead, NotValid}
use Rattle.loading.specs.Load.{judged, judgement_numbers, LoadResult, judged_read, load_all, Allows, FullLoad}

-- a flaw has three numbers, of which the first is 30 to 35
pub flaw_number_lem : (f : Flaw) → (flaw_numbers f ≡ flaw_number f ∷ get_or (flaw_numbers f) 1 0 ∷ get_or (flaw_numbers f) 2 0 ∷ []) × (30 ≤ flaw_number f) × (flaw_number f ≤ 35)
flaw_number_lem NoStartRule = (refl, omega arith, omega arith)
flaw_number_lem (InvalidStartRule a b) = (refl, omega arith, omega arith)
flaw_number_lem (UnknownRuleRef a b) = (refl, omega arith, omega arith)
flaw_number_lem (UnknownTokenRef a b) = (refl, omega arith, omega arith)
flaw_number_lem (UnknownPrecToken a b) = (refl, omega arith, omega arith)
flaw_number_lem (NoPrecForToken a b) = (refl, omega arith, omega arith)
flaw_number_lem (UnknownEppKey a b) = (refl, omega arith, omega arith)

-- what validation says of a reading whose tables are sound
sound_first : (src : List ℕ) (c : Counts) (g : Singles) (T : Tables) (X : Indexes) → Sound src c g T X
    → validity src c g T X ≡ first (faults src c g T.t1 T.t2 T.t4 T.t5 T.t6 T.t7 T.t8 T.t9)
unfolding validity
sound_first src c g T X s = rw (validity, (sound_iff src c g T X).1 s)

-- an accepted reading is one that the walk over the tests can go through at once, and its first fault is validation's
module _ (src : List ℕ) (kind : ℕ) (T : AllTables) (X : Indexes) (o : ReadResult) (e : o ≡ read_all src kind T X) (i : ℕ) (h : o.answer ≡ Ok i) where
  accepted_sound : Sound src o.counts o.singles (ten_of o.tables) o.indexes
  accepted_sound =
      told (λ (r : ReadResult). Sound src r.counts r.singles (ten_of r.tables) r.indexes) (sym e)
      (read_sound src kind T X (told (λ (v : Result ℕ Refusal). Full v) (sym h ∙ ap (λ (r : ReadResult). r.answer) e) tt))

  pub accepted_walkable : Walkable src o.counts o.tables.t1 o.tables.t7 o.tables.t8 o.tables.t9 o.indexes.rules
  accepted_walkable = sound_walkable src o.counts o.singles (ten_of o.tables) o.indexes accepted_sound

  pub accepted_judged : (j : Result ℕ LoadError) → j ≡ judged (Ok i) (first (faults src o.counts o.singles o.tables.t1 o.tables.t2 o.tables.t4 o.tables.t5 o.tables.t6 o.tables.t7 o.tables.t8 o.tables.t9))
      → ◌≡◌ {A = LoadResult} (record { answer = j; counts = o.counts; posix = o.posix; singles = o.singles; tables = o.tables; indexes = o.indexes }) (load_all src kind T X)
  unfolding load_all
  accepted_judged j q =
      let w = validity src o.counts o.singles (ten_of o.tables) o.indexes in
      let k : j ≡ judged o.answer w = q ∙ ap (λ (v : Result (Unit {0}) ValidityError). judged (Ok i) v) (sym (sound_first src o.counts o.singles (ten_of o.tables) o.indexes accepted_sound)) ∙ ap (λ (v : Result ℕ Refusal). judged v w) (sym h) in
      rw k (ap (judged_read src) e)

pub rejected_judged : (src : List ℕ) (kind : ℕ) (T : AllTables) (X : Indexes) (o : ReadResult) → o ≡ read_all src kind T X → (f : Refusal) → o.answer ≡ Err f
    → ◌≡◌ {A = LoadResult} (record { answer = Err (NotRead f); counts = o.counts; posix = o.posix; singles = o.singles; tables = o.tables; indexes = o.indexes }) (load_all src kind T X)
unfolding load_all
rejected_judged src kind T X o e f h =
    let k : Err (NotRead f) ≡ judged o.answer (validity src o.counts o.singles (ten_of o.tables) o.indexes) = rw h in
    rw k (ap (judged_read src) e)

module _ (src : List ℕ) (kind : ℕ) (T : AllTables) (X : Indexes) where
  abbrev read : ReadResult
  read = read_all src kind T X

  abbrev fitness : Result (Unit {0}) ValidityError
  fitness = validity src read.counts read.singles (ten_of read.tables) read.indexes

  -- After an accepted read validation does not say that the tables are unsound,
  never_unsound : (i : ℕ) → read.answer ≡ Ok i → fitness ≡ Err UnsoundTables → ⊥
  never_unsound i h u =
      let s = read_sound src kind T X (told (λ (v : Result ℕ Refusal). Full v) (sym h) tt) in
      false≢true (sym ((validity_unsound src read.counts read.singles (ten_of read.tables) read.indexes).0 u) ∙ (sound_iff src read.counts read.singles (ten_of read.tables) read.indexes).1 s)

  -- so each answer of a load says just what the read came to and what validation says: loaded, and where it ended,
  pub load_loaded : (i : ℕ) → ((load_all src kind T X).answer ≡ Ok i) ↔ ((read.answer ≡ Ok i) × (fitness ≡ Ok tt))
  unfolding load_all
  load_loaded i = (go read.answer fitness refl refl, λ p. rw (p.0, p.1))
    where
      go : (v : Result ℕ Refusal) (w : Result (Unit {0}) ValidityError) → read.answer ≡ v → fitness ≡ w → judged v w ≡ Ok i → (v ≡ Ok i) × (w ≡ Ok tt)
      go (Ok k) (Ok _) a b e = (let q : k ≡ i = cc in ap (λ (n : ℕ). Ok n) q, refl)
      go (Ok k) (Err UnsoundTables) a b e = absurd (never_unsound k a b)
      go (Ok k) (Err (Invalid f)) a b e = let z : ◌≡◌ {A = ℕ} 0 1 = cc in absurd (omega arith)
      go (Err f) w a b e = let z : ◌≡◌ {A = ℕ} 0 1 = cc in absurd (omega arith)

  -- what was loaded is valid,
  pub load_valid : (i : ℕ) → (load_all src kind T X).answer ≡ Ok i → validity src (load_all src kind T X).counts (load_all src kind T X).singles (ten_of (load_all src kind T X).tables) (load_all src kind T X).indexes ≡ Ok tt
  unfolding load_all
  load_valid i e = ((load_loaded i).0 e).1

  -- not read, with the read's refusal,
  pub load_not_read : (f : Refusal) → ((load_all src kind T X).answer ≡ Err (NotRead f)) ↔ (read.answer ≡ Err f)
  unfolding load_all
  load_not_read f = (go read.answer fitness, λ p. rw p)
    where
      go : (v : Result ℕ Refusal) (w : Result (Unit {0}) ValidityError) → judged v w ≡ Err (NotRead f) → v ≡ Err f
      go (Ok k) (Ok _) e = let z : ◌≡◌ {A = ℕ} 0 1 = cc in absurd (omega arith)
      go (Ok k) (Err UnsoundTables) e = let z : ◌≡◌ {A = ℕ} 0 1 = cc in absurd (omega arith)
      go (Ok k) (Err (Invalid g)) e = let z : ◌≡◌ {A = ℕ} 0 1 = cc in absurd (omega arith)
      go (Err g) w e = let q : g ≡ f = cc in ap (λ (x : Refusal). Err x) q

  -- or not valid, with the first flaw.
  pub load_not_valid : (f : Flaw) → ((load_all src kind T X).answer ≡ Err (NotValid f)) ↔ ((i : ℕ) × (read.answer ≡ Ok i) × (fitness ≡ Err (Invalid f)))
  unfolding load_all
  load_not_valid f = (go read.answer fitness, λ p. rw (p.1, p.2))
    where
      go : (v : Result ℕ Refusal) (w : Result (Unit {0}) ValidityError) → judged v w ≡ Err (NotValid f) → (i : ℕ) × (v ≡ Ok i) × (w ≡ Err (Invalid f))
      go (Ok k) (Ok _) e = let z : ◌≡◌ {A = ℕ} 0 1 = cc in absurd (omega arith)
      go (Ok k) (Err UnsoundTables) e = let z : ◌≡◌ {A = ℕ} 0 1 = cc in absurd (omega arith)
      go (Ok k) (Err (Invalid g)) e = (k, refl, let q : g ≡ f = cc in ap (λ (x : Flaw). Err (Invalid x)) q)
      go (Err g) w e = let z : ◌≡◌ {A = ℕ} 0 1 = cc in absurd (omega arith)

  -- It never answers 44,
  pub load_not_44 : get_or (judgement_numbers (load_all src kind T X).answer) 0 0 ≡ 44 → ⊥
  unfolding load_all
  load_not_44 = go read.answer fitness refl
    where
      no_44 : (n : ℕ) → ReadNumber kind n → n ≡ 44 → ⊥
      no_44 n (inl h) e = omega arith
      no_44 n (inr (inl h)) e = omega arith
      no_44 n (inr (inr (inl h))) e = omega arith
      no_44 n (inr (inr (inr (inl h)))) e = omega arith
      no_44 n (inr (inr (inr (inr h)))) e = omega arith

      go : (v : Result ℕ Refusal) (w : Result (Unit {0}) ValidityError) → read.answer ≡ v → get_or (judgement_numbers (judged v w)) 0 0 ≡ 44 → ⊥
      go (Ok k) (Ok _) a e = omega arith
      go (Ok k) (Err UnsoundTables) a e = omega arith
      go (Ok k) (Err (Invalid f)) a e = let q = flaw_number_lem f in omega (arith, rw q.0 at e, q.2)
      go (Err f) w a e = no_44 (number_of f) (refusal_documented src kind T X f a).number e

  full_read : FullLoad (load_all src kind T X).answer → Full read.answer
  unfolding load_all
  full_read = go read.answer fitness
    where
      go : (v : Result ℕ Refusal) (w : Result (Unit {0}) ValidityError) → FullLoad (judged v w) → Full v
      go (Ok i) w y = tt
      go (Err f) w y = y

  -- and leaves a full, sound reading where it is loaded, where it is not valid, and where repeats alone were refused;
  pub load_sound : FullLoad (load_all src kind T X).answer → Sound src (load_all src kind T X).counts (load_all src kind T X).singles (ten_of (load_all src kind T X).tables) (load_all src kind T X).indexes
  unfolding load_all
  load_sound x = read_sound src kind T X (full_read x)

  -- tables 15 to 17 too,
  pub load_posix_sound : FullLoad (load_all src kind T X).answer → PosixSound src (load_all src kind T X).counts (load_all src kind T X).posix (load_all src kind T X).tables
  unfolding load_all
  load_posix_sound x = read_posix_sound src kind T X (full_read x)

  -- of ten counts and three, whatever the answer, and `%epp` values that are strings;
  pub load_ten : length (load_all src kind T X).counts.n ≡ 10
  unfolding load_all
  load_ten = read_ten src kind T X

  pub load_three : length (load_all src kind T X).posix.n ≡ 3
  unfolding load_all
  load_three = read_three src kind T X

  pub load_values : (r : ℕ) → r < get_or (load_all src kind T X).counts.n epps 0 → string_at src (cell (width epps) (load_all src kind T X).tables.t5 r value) ≡ Ok (cell (width epps) (load_all src kind T X).tables.t5 r (value + 1))
  unfolding load_all
  load_values r h = read_values src kind T X r h

  -- after any other refusal tables 1 to 9 and 15 to 17, both indexes and the counts are zero, and the singles absent.
  pub load_clean : (f : Refusal) → (load_all src kind T X).answer ≡ Err (NotRead f) → (RepeatsOnly f → ⊥) → Cleared T X read
  load_clean f e n = stopped_clean src kind T X f ((load_not_read f).0 e) n

-- "Any two outcomes allowed by it are proved equal": the contract of `load` allows one.
pub load_one : (src : List ℕ) (kind : ℕ) (T : AllTables) (X : Indexes) (o p : LoadResult) → Allows src kind T X o → Allows src kind T X p → o ≡ p
load_one src kind T X o p e h = e ∙ sym h
