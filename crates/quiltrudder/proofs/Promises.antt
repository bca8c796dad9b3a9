-- The promises through the C names: on what the C name of load wrote, the others give what the operations give on the reading; so the third demand holds of them,
-- and none answers 44 on a full reading. Assumes nothing.
use Rattle.std.specs.Prelude.{Result, Ok, Err}
use Prim.Native.Nat.{ℕ, ◌*◌, ◌≤◌, ◌<◌}
use mathlib.Core.Path.{◌≡◌, refl, sym, ap, ◌∙◌}
use mathlib.Core.List.{List, [], ◌∷◌, ◌++◌}
use mathlib.Core.Logic.{◌↔◌, ◌⊎◌, inl, inr, ⊎_elim}
use native.Mathlib.Omega.{arith}
use lib.ListN.{length, get_or}
use Rattle.scan.proofs.Bytes.{told}
use Rattle.places.specs.declared.Spot.{Spot}
use Rattle.places.specs.Places.{spot_at}
use Rattle.places.proofs.Meaning.{spot_first}
use Rattle.tables.specs.Layout.{epps}
use Rattle.grammar.specs.declared.Counts.{Counts}
use Rattle.grammar.specs.declared.Singles.{Singles}
use Rattle.grammar.specs.declared.Refusal.{Refusal}
use Rattle.grammar.specs.declared.Refusal.TheVariants.{Fault, Repeated, NoRoom as no_room, TooLong, BadKind, BadIndex}
use Rattle.grammar.specs.Refusals.{number_of_cause, number_of}
use Rattle.grammar.proofs.Repeats.{repeat_least}
use Rattle.refusals.specs.Refusal.{CauseNumber}
use Rattle.refusals.proofs.Read.{cause_number}
use Rattle.grammar.specs.Sound.{Tables, AllTables, ten_of, Indexes}
use Rattle.reader.specs.Allowed.{RepeatsOnly}
use Rattle.loading.specs.declared.LoadError.{LoadError}
use Rattle.loading.specs.declared.LoadError.TheVariants.{NotRead, NotValid}
use Rattle.loading.specs.Load.{judgement_numbers, LoadResult, load_all, FullLoad}
use Rattle.loading.proofs.Theorems.{flaw_number_lem, load_ten, load_valid}
use Rattle.sound.specs.Test.{count_at}
use Rattle.validation.specs.declared.ValidityError.{ValidityError}
use Rattle.validation.specs.declared.ValidityError.TheVariants.{UnsoundTables, Invalid}
use Rattle.validation.specs.declared.FaultsError.{FaultsError}
use Rattle.validation.specs.declared.FaultsError.TheVariants.{FaultsUnsound, FaultsNoRoom}
use Rattle.validation.specs.Walk.{fault_listing}
use Rattle.validation.specs.Faults.{validity}
use Rattle.reach.specs.Reach.{Grammar, need}
use Rattle.usage.specs.declared.ListingError.{ListingError}
use Rattle.usage.specs.declared.ListingError.TheVariants.{OfUnsound, OfInvalid, NoWords, NoRoom}
use Rattle.usage.specs.Report.{Excuses, Reported}
use Rattle.usage.specs.Standing.{UnusedRows}
use Rattle.names.specs.Name.{part_at, name_of}
use Rattle.values.specs.declared.ValuationError.{ValuationError}
use Rattle.values.specs.declared.ValuationError.TheVariants.{OfUnsoundTables, PastCount, NotString, NoTextRoom}
use Rattle.values.specs.Value.{valuation_numbers, epp_value}
use Rattle.quiltrudder.specs.Report.{grammar_read, excuses_read, Roomy, Exactly}
use Rattle.singles.specs.Singles.{singles_cells, singles_of, counts_cells, counts_of}
use Rattle.quiltrudder.specs.Face.{halves, spot_cells, loading_cells, load_face, FullNumber, validity_cells, validate_face, FaultsFace, fault_listing_cells, faults_face_of, faults_face, listing_cells, ReportFace, ExactlyFace, CrowdedFace, name_at, name_cells, name_face, ValueFace, valuation_cells, value_face_of, value_face}
use Rattle.quiltrudder.proofs.Face.{singles_back, all_counts_back, name_part}
use Rattle.quiltrudder.proofs.Operations.{validate_not_44, faults_not_44, report_not_44, value_row_not_44, report_either, report_fits, report_exactly}

-- ---- which answer has which number

-- the number of a fatal cause is none of a full reading
no_full : (n : ℕ) → CauseNumber n → FullNumber n → ⊥
no_full n (inl h) (inl e) = omega arith
no_full n (inl h) (inr (inl e)) = omega arith
no_full n (inl h) (inr (inr e)) = omega arith
no_full n (inr (inl h)) (inl e) = omega arith
no_full n (inr (inl h)) (inr (inl e)) = omega arith
no_full n (inr (inl h)) (inr (inr e)) = omega arith
no_full n (inr (inr h)) (inl e) = omega arith
no_full n (inr (inr h)) (inr (inl e)) = omega arith
no_full n (inr (inr h)) (inr (inr e)) = omega arith

no_full_above : (n : ℕ) → 40 ≤ n → FullNumber n → ⊥
no_full_above n h = ⊎_elim (λ e. omega arith) (⊎_elim (λ e. omega arith) (λ e. omega arith))

-- that of a refusal is one only for repeats,
pub refusal_full : (f : Refusal) → FullNumber (number_of f) → RepeatsOnly f
refusal_full (Fault c i) n = no_full (number_of_cause c) (cause_number c) n
refusal_full (Repeated k a b) n = tt
refusal_full (no_room t a b) n = no_full_above 42 (omega arith) n
refusal_full TooLong n = no_full_above 41 (omega arith) n
refusal_full BadKind n = no_full_above 43 (omega arith) n
refusal_full BadIndex n = no_full_above 45 (omega arith) n

-- and never 0
pub refusal_some : (f : Refusal) → number_of f ≡ 0 → ⊥
refusal_some (Fault c i) e = no_full (number_of_cause c) (cause_number c) (inl e)
refusal_some (Repeated k a b) e = omega (arith, e, repeat_least k)
refusal_some (no_room t a b) e = omega arith
refusal_some TooLong e = omega arith
refusal_some BadKind e = omega arith
refusal_some BadIndex e = omega arith

module _ (src : List ℕ) where
  validity_0 : (v : Result (Unit {0}) ValidityError) → get_or (validity_cells src v) 0 0 ≡ 0 → v ≡ Ok tt
  validity_0 (Ok _) e = refl
  validity_0 (Err UnsoundTables) e = absurd (omega arith)
  validity_0 (Err (Invalid f)) e = let q = flaw_number_lem f in absurd (omega (arith, rw q.0 at e, q.1))

  validity_44 : (v : Result (Unit {0}) ValidityError) → get_or (validity_cells src v) 0 0 ≡ 44 → v ≡ Err UnsoundTables
  validity_44 (Ok _) e = absurd (omega arith)
  validity_44 (Err UnsoundTables) e = refl
  validity_44 (Err (Invalid f)) e = let q = flaw_number_lem f in absurd (omega (arith, rw q.0 at e, q.2))

  listing_44 : (l : Result ℕ ListingError) → get_or (listing_cells src l) 0 0 ≡ 44 → l ≡ Err OfUnsound
  listing_44 (Ok n) e = absurd (omega arith)
  listing_44 (Err OfUnsound) e = refl
  listing_44 (Err (OfInvalid f)) e = let q = flaw_number_lem f in absurd (omega (arith, rw q.0 at e, q.2))
  listing_44 (Err NoWords) e = absurd (omega arith)
  listing_44 (Err NoRoom) e = absurd (omega arith)

  faults_44 : (l : Result ℕ FaultsError) → get_or (fault_listing_cells src l) 0 0 ≡ 44 → l ≡ Err FaultsUnsound
  faults_44 (Ok n) e = absurd (omega arith)
  faults_44 (Err FaultsUnsound) e = refl
  faults_44 (Err FaultsNoRoom) e = absurd (omega arith)

  valuation_number : (v : Result ℕ ValuationError) → get_or (valuation_cells src v) 0 0 ≡ get_or (valuation_numbers v) 0 0
  valuation_number (Ok n) = refl
  valuation_number (Err OfUnsoundTables) = refl
  valuation_number (Err PastCount) = refl
  valuation_number (Err NotString) = refl
  valuation_number (Err NoTextRoom) = refl

module _ (src : List ℕ) (kind : ℕ) (T : AllTables) (X : Indexes) where
  abbrev o : LoadResult
  o = load_all src kind T X

  -- the numbers that the C name of load wrote, and the tables and indexes that it left
  abbrev m : List ℕ
  m = (load_face src kind T X).answer

  abbrev left : Tables
  left = ten_of (load_face src kind T X).tables

  abbrev slots : Indexes
  slots = (load_face src kind T X).indexes

  -- What the others take out of those numbers is what was read.
  pub face_back : (counts_of m ≡ o.counts) × (singles_of m ≡ o.singles)
  face_back = (all_counts_back o _ (load_ten src kind T X), singles_back o _)

  forth : (P : Counts → Singles → Type 0) → P (counts_of m) (singles_of m) → P o.counts o.singles
  forth P p = told (λ (c : Counts). P c o.singles) face_back.0 (told (P (counts_of m)) face_back.1 p)

  back : (P : Counts → Singles → Type 0) → P o.counts o.singles → P (counts_of m) (singles_of m)
  back P p = told (λ (c : Counts). P c (singles_of m)) (sym face_back.0) (told (P o.counts) (sym face_back.1) p)

  -- So they give what the operations give on the reading: the validation in numbers,
  pub same_validity : validate_face src m left slots ≡ validity_cells src (validity src o.counts o.singles (ten_of o.tables) o.indexes)
  same_validity = forth (λ c g. validate_face src m left slots ≡ validity_cells src (validity src c g left slots)) refl

  -- all faults with their answer in numbers,
  pub same_faults : (t : List ℕ) → faults_face src m left slots t ≡ faults_face_of src (fault_listing src o.counts o.singles (ten_of o.tables) o.indexes t)
  same_faults t = forth (λ c g. faults_face src m left slots t ≡ faults_face_of src (fault_listing src c g left slots t)) refl

  -- the report with its answer in numbers,
  pub same_report : (ws₀ ws out₀ out a : List ℕ) → ReportFace src m left slots ws₀ ws out₀ out a ↔ ((l : Result ℕ ListingError) × Reported src o.counts o.singles (ten_of o.tables) o.indexes l ws₀ ws out₀ out × (a ≡ listing_cells src l))
  same_report ws₀ ws out₀ out a = (
    (λ r. (r.listing, forth (λ c g. Reported src c g left slots r.listing ws₀ ws out₀ out) r.reported, r.numbers)),
    (λ r. record { listing = r.0; reported = back (λ c g. Reported src c g left slots r.0 ws₀ ws out₀ out) r.1; numbers = r.2 }),
  )

  -- the place of a row's name,
  pub same_place : (table row : ℕ) → name_face src m left slots table row ≡ name_cells src (name_at src o.counts o.singles (ten_of o.tables) o.indexes table row)
  same_place table row = forth (λ c g. name_face src m left slots table row ≡ name_cells src (name_at src c g left slots table row)) refl

  -- at which the name stands in the source,
  pub same_name : (table row : ℕ) → let a = name_face src m left slots table row in part_at src (record { from = get_or a 0 0; to = get_or a 1 0 }) ≡ name_of src o.counts o.singles (ten_of o.tables) o.indexes table row
  same_name table row =
      name_part src (counts_of m) (singles_of m) left slots table row ∙ forth (λ c g. name_of src (counts_of m) (singles_of m) left slots table row ≡ name_of src c g left slots table row) refl

  -- and the value with its answer in numbers.
  pub same_value : (row : ℕ) (out : List ℕ) → value_face src m left slots row out ≡ value_face_of src (epp_value src o.counts o.singles (ten_of o.tables) o.indexes row out)
  same_value row out = forth (λ c g. value_face src m left slots row out ≡ value_face_of src (epp_value src c g left slots row out)) refl

  -- The tables hold a full reading where load's number says so.
  pub face_full : FullNumber (get_or m 0 0) → FullLoad o.answer
  unfolding loading_cells
  face_full = go o.answer (counts_cells o.counts) (singles_cells o.singles) _
    where
      go : (j : Result ℕ LoadError) (xs ys zs : List ℕ) → FullNumber (get_or ((judgement_numbers j ++ xs ++ ys) ++ zs) 0 0) → FullLoad j
      go (Ok i) xs ys zs n = tt
      go (Err (NotRead f)) xs ys zs n = refusal_full f n
      go (Err (NotValid f)) xs ys zs n = tt

  -- After a full reading none of them answers 44;
  module _ (full : FullLoad o.answer) where
    pub face_validate_not_44 : get_or (validate_face src m left slots) 0 0 ≡ 44 → ⊥
    face_validate_not_44 e = validate_not_44 src kind T X full (validity_44 src _ (rw same_validity at e))

    pub face_faults_not_44 : (t : List ℕ) → get_or (faults_face src m left slots t).answer 0 0 ≡ 44 → ⊥
    face_faults_not_44 t e = faults_not_44 src kind T X full t (faults_44 src _ (ap (λ (f : FaultsFace). get_or f.answer 0 0) (sym (same_faults t)) ∙ e))

    pub face_report_not_44 : (ws₀ ws out₀ out a : List ℕ) → ReportFace src m left slots ws₀ ws out₀ out a → get_or a 0 0 ≡ 44 → ⊥
    face_report_not_44 ws₀ ws out₀ out a r e =
        let q = (same_report ws₀ ws out₀ out a).0 r in
        let l : q.0 ≡ Err OfUnsound = listing_44 src q.0 (rw q.2 at e) in
        report_not_44 src kind T X full ws₀ ws out₀ out (told (λ (l : Result ℕ ListingError). Reported src o.counts o.singles left slots l ws₀ ws out₀ out) l q.1)

    pub face_value_not_44 : (row : ℕ) (out : List ℕ) → row < count_at (counts_of m) epps → get_or (value_face src m left slots row out).answer 0 0 ≡ 44 → ⊥
    face_value_not_44 row out h e =
        let k : row < count_at o.counts epps = forth (λ c g. row < count_at c epps) h in
        let v = (epp_value src o.counts o.singles left slots row out).answer in
        value_row_not_44 src kind T X full row out k (sym (valuation_number src v) ∙ ap (λ (f : ValueFace). get_or f.answer 0 0) (sym (same_value row out)) ∙ e)

    -- and the third demand holds, where the number of validation is 0.
    abbrev grammar : Grammar
    grammar = grammar_read src o

    abbrev excuses : Excuses
    excuses = excuses_read src o

    module _ (ws₀ ws out₀ out a : List ℕ) (valid : get_or (validate_face src m left slots) 0 0 ≡ 0) (r : ReportFace src m left slots ws₀ ws out₀ out a) where
      reading_valid : validity src o.counts o.singles (ten_of o.tables) o.indexes ≡ Ok tt
      reading_valid = validity_0 src _ (rw same_validity at valid)

      -- what the operation reported, and the numbers that tell it
      told_by : {Q : Type 0} → ((l : Result ℕ ListingError) → Reported src o.counts o.singles (ten_of o.tables) o.indexes l ws₀ ws out₀ out → a ≡ listing_cells src l → Q) → Q
      told_by f = let q = (same_report ws₀ ws out₀ out a).0 r in f q.0 q.1 q.2

      -- line and column of an answer without a place
      first : (l : List ℕ) → l ++ spot_cells (spot_at src 0) ≡ l ++ (1 ∷ 1 ∷ [])
      first l = ap (λ (s : Spot). l ++ spot_cells s) (spot_first src)

      in-numbers : (l : Result ℕ ListingError) → a ≡ listing_cells src l → Exactly grammar excuses l out → ExactlyFace grammar excuses out a
      in-numbers l e x = record { count = x.count; numbers = e ∙ ap (listing_cells src) x.listed ∙ first (0 ∷ 0 ∷ 0 ∷ 0 ∷ halves x.count); rows = x.rows }

      pub face_report_either : need grammar ≤ length ws₀ → ExactlyFace grammar excuses out a ⊎ CrowdedFace grammar excuses out₀ a
      face_report_either words =
          told_by (λ l p e. ⊎_elim (λ x. inl (in-numbers l e x)) (λ x. inr (record { numbers = e ∙ ap (listing_cells src) x.0 ∙ first (42 ∷ 0 ∷ 0 ∷ 12 ∷ 0 ∷ 0 ∷ []); many = x.1 })) (report_either src kind T X full l ws₀ ws out₀ out reading_valid words p))

      pub face_report_fits : need grammar ≤ length ws₀ → (n : ℕ) (list : List ℕ) → UnusedRows grammar excuses n list → n * 2 ≤ length out₀ → ExactlyFace grammar excuses out a
      face_report_fits words n list x h = told_by (λ l p e. in-numbers l e (report_fits src kind T X full l ws₀ ws out₀ out reading_valid words p n list x h))

      pub face_report_exactly : Roomy grammar ws₀ out₀ → ExactlyFace grammar excuses out a
      face_report_exactly room = told_by (λ l p e. in-numbers l e (report_exactly src kind T X full l ws₀ ws out₀ out reading_valid room p))

  -- The third demand from load's own number: it is 0 exactly where the source was read and what was read is valid,
  pub face_loaded : get_or m 0 0 ≡ 0 → (i : ℕ) × (o.answer ≡ Ok i)
  unfolding loading_cells
  face_loaded = go o.answer (counts_cells o.counts) (singles_cells o.singles) _
    where
      go : (j : Result ℕ LoadError) (xs ys zs : List ℕ) → get_or ((judgement_numbers j ++ xs ++ ys) ++ zs) 0 0 ≡ 0 → (i : ℕ) × (j ≡ Ok i)
      go (Ok i) xs ys zs e = (i, refl)
      go (Err (NotRead f)) xs ys zs e = absurd (refusal_some f e)
      go (Err (NotValid f)) xs ys zs e = let q = flaw_number_lem f in absurd (omega (arith, rw q.0 at e, q.1))

  -- and then the report that the C name wrote is exactly the unused rows.
  pub face_load_exactly : (ws₀ ws out₀ out a : List ℕ) → get_or m 0 0 ≡ 0 → Roomy (grammar_read src o) ws₀ out₀ → ReportFace src m left slots ws₀ ws out₀ out a → ExactlyFace (grammar_read src o) (excuses_read src o) out a
  face_load_exactly ws₀ ws out₀ out a e room r =
      let j = face_loaded e in
      let v = load_valid src kind T X j.0 j.1 in
      face_report_exactly (told FullLoad (sym j.1) tt) ws₀ ws out₀ out a (rw (same_validity, v)) r room
