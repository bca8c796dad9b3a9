-- Line and column of every answer are those of its place's start: by the line's begin and the lines that end before it. Assumes nothing.
use Rattle.std.specs.Prelude.{Option, Some, None, Result, Ok, Err}
use Prim.Native.Nat.{ℕ, ◌+◌}
use mathlib.Core.Path.{◌≡◌, refl, sym, ap, ◌∙◌}
use mathlib.Core.Bool.{Bool, true, false}
use mathlib.Core.List.{List, [], ◌∷◌, ◌++◌}
use mathlib.Core.Logic.{⊎_elim}
use native.Mathlib.Omega.{arith}
use lib.Dec.{leb, ltb}
use lib.ListN.{length, get_or, take, length-append, get_or-append}
use lib.Seq.{length-take-le, get_or-append-add, get_or-append_seam, get_or-take}
use Rattle.scan.proofs.Bytes.{told, le_or_lt}
use Rattle.scan.specs.declared.Place.{Place}
use Rattle.places.specs.declared.Spot.{Spot}
use Rattle.places.specs.Places.{Spotted, spot_at}
use Rattle.places.proofs.Meaning.{spotted, spotted_first}
use Rattle.grammar.specs.declared.Counts.{Counts}
use Rattle.grammar.specs.declared.PosixCounts.{PosixCounts}
use Rattle.grammar.specs.declared.Singles.{Singles}
use Rattle.grammar.specs.declared.Refusal.{Refusal}
use Rattle.grammar.specs.Refusals.{from_of}
use Rattle.grammar.specs.Sound.{Tables, AllTables, Indexes}
use Rattle.reader.specs.Read.{read_all}
use Rattle.reader.proofs.Sound.{accepted_end}
use Rattle.refusals.proofs.Read.{refusal_documented, long_nowhere}
use Rattle.loading.specs.declared.LoadError.{LoadError}
use Rattle.loading.specs.declared.LoadError.TheVariants.{NotRead, NotValid}
use Rattle.loading.specs.Load.{judgement_numbers, load_all, FullLoad}
use Rattle.loading.proofs.Theorems.{flaw_number_lem, load_loaded, load_not_read, load_not_valid, load_sound}
use Rattle.sound.specs.Test.{sound_test}
use Rattle.sound.proofs.Iff.{sound_iff}
use Rattle.validation.specs.declared.Flaw.{Flaw}
use Rattle.validation.specs.declared.ValidityError.{ValidityError}
use Rattle.validation.specs.declared.ValidityError.TheVariants.{UnsoundTables, Invalid}
use Rattle.validation.specs.declared.FaultsError.{FaultsError}
use Rattle.validation.specs.declared.FaultsError.TheVariants.{FaultsUnsound, FaultsNoRoom}
use Rattle.validation.specs.Faults.{flaw_numbers, validity_numbers, validity}
use Rattle.validation.specs.Walk.{fault_listing, fault_listing_numbers}
use Rattle.validation.proofs.Places.{flaw_inside}
use Rattle.usage.specs.declared.ListingError.{ListingError}
use Rattle.usage.specs.declared.ListingError.TheVariants.{OfUnsound, OfInvalid, NoWords, NoRoom}
use Rattle.usage.specs.declared.MarkingError.{MarkingError}
use Rattle.usage.specs.declared.MarkingError.TheVariants.{MarksUnsound, MarksInvalid, MarksNoWords}
use Rattle.usage.specs.Report.{listing_numbers, marking_numbers, excuses_of, Told, Reported, MarkTold, MarkedBits}
use Rattle.pruning.specs.declared.PruningError.{PruningError}
use Rattle.pruning.specs.declared.PruningError.TheVariants.{PruningUnsound, PruningInvalid, PruningNoWords}
use Rattle.pruning.specs.Pruned.{pruning_numbers, Lent, ToldPruning, Prunings}
use Rattle.walks.specs.declared.NextError.{NextError}
use Rattle.walks.specs.declared.NextError.TheVariants.{NotFitting}
use Rattle.walks.specs.Walk.{next_numbers}
use Rattle.reach.specs.Reach.{grammar_of}
use Rattle.values.specs.declared.ValuationError.{ValuationError}
use Rattle.values.specs.declared.ValuationError.TheVariants.{OfUnsoundTables, PastCount, NotString, NoTextRoom}
use Rattle.values.specs.Value.{valuation_numbers, epp_value}
use Rattle.names.specs.Name.{nowhere, name_place}
use Rattle.storing.specs.declared.StoringError.{StoringError}
use Rattle.storing.specs.declared.StoringError.TheVariants.{UnknownKind, StoringUnsound, NoBlocks}
use Rattle.storing.specs.Storing.{storing_numbers, store_all}
use Rattle.restoring.specs.declared.RestoringError.{RestoringError}
use Rattle.restoring.specs.declared.RestoringError.TheVariants.{NotWhole, BadNumber, BadCheck, BadContent, BadSizes, NoSpace, RestoringUnsound}
use Rattle.restoring.specs.Restoring.{restoring_numbers}
use Rattle.shipping.specs.Shipping.{mailed_room, mailed_text, mailed, shipped_kind, lent_ten, shipment_numbers, shipping}
use Rattle.singles.specs.Singles.{singles_cells, singles_of, posix_cells, counts_cells, counts_of, posix_of}
use Rattle.numbers.specs.Numbers.{answer_spot, AnswerSpotted}
use Rattle.quiltrudder.specs.Face.{halves, spot_cells, CellsSpotted, loading_cells, load_face, validate_face, counted_cells, faults_face, ReportFace, MarkFace, NextFace, PruneFace, name_at, name_face, value_face, store_face}
use Rattle.quiltrudder.proofs.Answers.{flaw_from, validity_from, place_lies}
use Rattle.quiltrudder.proofs.Face.{four, judgement_four, reading_behind}

-- ---- by numbers and places

-- a flaw of validation, be it told by validate, by load or by the report
flaw_spotted : (src : List ℕ) (c : Counts) (g : Singles) (T : Tables) (X : Indexes) (f : Flaw) → validity src c g T X ≡ Err (Invalid f) → AnswerSpotted src (flaw_numbers f)
flaw_spotted src c g T X f e =
    let h = flaw_inside src c g T X f e in
    let p = h.1 in
    spotted src (get_or (flaw_numbers f) 1 0) h.0 (omega (arith, p.onward, p.inside))

module _ (src : List ℕ) (kind : ℕ) (T : AllTables) (X : Indexes) where
  -- a refusal of the read: a source that is too long is refused at its begin, and the places of the others lie in the source
  refused_spotted : (f : Refusal) → (read_all src kind T X).answer ≡ Err f → Spotted src (from_of f) (spot_at src (from_of f))
  refused_spotted f e =
      ⊎_elim (λ h. let p = (refusal_documented src kind T X f e).place in spotted src (from_of f) h (omega (arith, p.onward, p.inside)))
      (λ h. let n = long_nowhere src kind T X h in let z : n.0 ≡ f = same (sym n.1 ∙ e) in let k : from_of f ≡ 0 = ap from_of (sym z) ∙ n.2 in rw k (spotted_first src)) (le_or_lt (length src) 65536)
    where
      same : {x y : Refusal} → ◌≡◌ {A = Result ℕ Refusal} (Err x) (Err y) → x ≡ y
      same q = cc

  -- Load: of its end where it is accepted, else of its place's start.
  pub load_spotted : AnswerSpotted src (judgement_numbers (load_all src kind T X).answer)
  load_spotted = go (load_all src kind T X).answer refl
    where
      go : (j : Result ℕ LoadError) → (load_all src kind T X).answer ≡ j → AnswerSpotted src (judgement_numbers j)
      go (Ok i) e = spotted src i (load_sound src kind T X (told FullLoad (sym e) tt)).short (accepted_end src kind T X i ((load_loaded src kind T X i).0 e).0)
      go (Err (NotRead f)) e = refused_spotted f ((load_not_read src kind T X f).0 e)
      go (Err (NotValid f)) e = appended (flaw_spotted src _ _ _ _ f ((load_not_valid src kind T X f).0 e).2)
        where
          appended : AnswerSpotted src (flaw_numbers f) → AnswerSpotted src (judgement_numbers (Err (NotValid f)))
          appended = told (λ (k : ℕ). Spotted src k (spot_at src k)) (sym (flaw_from f (0 ∷ [])))

module _ (src : List ℕ) (c : Counts) (g : Singles) (T : Tables) (X : Indexes) where
  -- Validation, the list of all faults,
  pub validate_spotted : AnswerSpotted src (validity_numbers (validity src c g T X))
  validate_spotted = go (validity src c g T X) refl
    where
      go : (v : Result (Unit {0}) ValidityError) → validity src c g T X ≡ v → AnswerSpotted src (validity_numbers v)
      go (Ok _) e = spotted_first src
      go (Err UnsoundTables) e = spotted_first src
      go (Err (Invalid f)) e = flaw_spotted src c g T X f e

  pub faults_spotted : (l : Result ℕ FaultsError) → AnswerSpotted src (fault_listing_numbers l)
  faults_spotted (Ok n) = spotted_first src
  faults_spotted (Err FaultsUnsound) = spotted_first src
  faults_spotted (Err FaultsNoRoom) = spotted_first src

  -- the report,
  pub report_spotted : (l : Result ℕ ListingError) (ws₀ ws out₀ out : List ℕ) → Reported src c g T X l ws₀ ws out₀ out → AnswerSpotted src (listing_numbers l)
  report_spotted (Ok n) ws₀ ws out₀ out p = spotted_first src
  report_spotted (Err OfUnsound) ws₀ ws out₀ out p = spotted_first src
  report_spotted (Err (OfInvalid f)) ws₀ ws out₀ out p = told (λ (k : ℕ). Spotted src k (spot_at src k)) (sym (flaw_from f (0 ∷ 0 ∷ []))) (flaw_spotted src c g T X f (go (validity src c g T X) p))
    where
      go : (v : Result (Unit {0}) ValidityError) → Told v (grammar_of src c g.start T.t1 T.t7 T.t8 T.t9) (excuses_of src c T.t4 T.t6) (Err (OfInvalid f)) ws₀ ws out₀ out → v ≡ Err (Invalid f)
      go (Ok _) q = absurd q
      go (Err UnsoundTables) q = let e = q.0 in let z : ◌≡◌ {A = ℕ} 0 1 = cc in absurd (omega arith)
      go (Err (Invalid h)) q = let e = q.0 in let k : h ≡ f = cc in ap (λ (x : Flaw). Err (Invalid x)) k
  report_spotted (Err NoWords) ws₀ ws out₀ out p = spotted_first src
  report_spotted (Err NoRoom) ws₀ ws out₀ out p = spotted_first src

  -- its marking, pruning, a step of a walk,
  pub mark_spotted : (k : Result (Unit {0}) MarkingError) (ws₀ ws : List ℕ) → MarkedBits src c g T X k ws₀ ws → AnswerSpotted src (marking_numbers k)
  mark_spotted (Ok _) ws₀ ws p = spotted_first src
  mark_spotted (Err MarksUnsound) ws₀ ws p = spotted_first src
  mark_spotted (Err (MarksInvalid f)) ws₀ ws p = told (λ (k : ℕ). Spotted src k (spot_at src k)) (sym (flaw_from f (0 ∷ []))) (flaw_spotted src c g T X f (go (validity src c g T X) p))
    where
      go : (v : Result (Unit {0}) ValidityError) → MarkTold v (grammar_of src c g.start T.t1 T.t7 T.t8 T.t9) (Err (MarksInvalid f)) ws₀ ws → v ≡ Err (Invalid f)
      go (Ok _) q = absurd q
      go (Err UnsoundTables) q = let e = q.0 in let z : ◌≡◌ {A = ℕ} 0 1 = cc in absurd (omega arith)
      go (Err (Invalid h)) q = let e = q.0 in let k : h ≡ f = cc in ap (λ (x : Flaw). Err (Invalid x)) k
  mark_spotted (Err MarksNoWords) ws₀ ws p = spotted_first src

  pub prune_spotted : (k : Result (Unit {0}) PruningError) (ws₀ : List ℕ) (b : Lent) → Prunings src g k (record { counts = c; tables = T; indexes = X; work = ws₀ }) b → AnswerSpotted src (pruning_numbers k)
  prune_spotted (Ok _) ws₀ b p = spotted_first src
  prune_spotted (Err PruningUnsound) ws₀ b p = spotted_first src
  prune_spotted (Err (PruningInvalid f)) ws₀ b p = told (λ (k : ℕ). Spotted src k (spot_at src k)) (sym (flaw_from f (0 ∷ []))) (flaw_spotted src c g T X f (go (validity src c g T X) p))
    where
      go : (v : Result (Unit {0}) ValidityError) → ToldPruning v src (grammar_of src c g.start T.t1 T.t7 T.t8 T.t9) (excuses_of src c T.t4 T.t6) (Err (PruningInvalid f)) (record { counts = c; tables = T; indexes = X; work = ws₀ }) b → v ≡ Err (Invalid f)
      go (Ok _) q = absurd q
      go (Err UnsoundTables) q = let e = q.0 in let z : ◌≡◌ {A = ℕ} 0 1 = cc in absurd (omega arith)
      go (Err (Invalid h)) q = let e = q.0 in let k : h ≡ f = cc in ap (λ (x : Flaw). Err (Invalid x)) k
  prune_spotted (Err PruningNoWords) ws₀ b p = spotted_first src

  pub next_spotted : (n : Result (Option (ℕ × ℕ)) NextError) → AnswerSpotted src (next_numbers n)
  next_spotted (Ok (Some (kd, r))) = spotted_first src
  next_spotted (Ok None) = spotted_first src
  next_spotted (Err NotFitting) = spotted_first src

  -- the value of an `%epp` row, and the place of a name.
  pub value_spotted : (v : Result ℕ ValuationError) → AnswerSpotted src (valuation_numbers v)
  value_spotted (Ok n) = spotted_first src
  value_spotted (Err OfUnsoundTables) = spotted_first src
  value_spotted (Err PastCount) = spotted_first src
  value_spotted (Err NotString) = spotted_first src
  value_spotted (Err NoTextRoom) = spotted_first src

  pub name_spotted : (table row : ℕ) → Spotted src (name_at src c g T X table row).from (spot_at src (name_at src c g T X table row).from)
  unfolding name_at
  name_spotted table row = go (sound_test src c g T X) refl
    where
      go : (b : Bool) → sound_test src c g T X ≡ b → let p : Place = elim b [ true ↦ name_place c T.t1 T.t7 table row | false ↦ nowhere ] in Spotted src p.from (spot_at src p.from)
      go true e =
          let s = (sound_iff src c g T X).0 e in
          let l = place_lies src c g T X s table row in
          spotted src _ s.short (omega (arith, l.onward, l.inside))
      go false e = spotted_first src

-- Storing and loading back answer at the source's begin.
module _ (src : List ℕ) where
  pub store_spotted : (s : Result ℕ StoringError) → AnswerSpotted src (storing_numbers s)
  store_spotted (Ok n) = spotted_first src
  store_spotted (Err UnknownKind) = spotted_first src
  store_spotted (Err StoringUnsound) = spotted_first src
  store_spotted (Err NoBlocks) = spotted_first src

  pub restore_spotted : (r : Result (Unit {0}) RestoringError) → AnswerSpotted src (restoring_numbers r)
  restore_spotted (Ok _) = spotted_first src
  restore_spotted (Err NotWhole) = spotted_first src
  restore_spotted (Err BadNumber) = spotted_first src
  restore_spotted (Err BadCheck) = spotted_first src
  restore_spotted (Err BadContent) = spotted_first src
  restore_spotted (Err BadSizes) = spotted_first src
  restore_spotted (Err (NoSpace k)) = spotted_first src
  restore_spotted (Err RestoringUnsound) = spotted_first src

-- Shipping answers a refusal of its read as load does, and else at the source's begin.
mailed_spotted : (src text out : List ℕ) (v : Result ℕ Refusal) → ((f : Refusal) → v ≡ Err f → Spotted src (from_of f) (spot_at src (from_of f))) → AnswerSpotted src (shipment_numbers (mailed v text out).answer)
mailed_spotted src text out (Err f) h = h f refl
mailed_spotted src text out (Ok i) h = long (ltb 65536 (length text))
  where
    room : (b : Bool) → AnswerSpotted src (shipment_numbers (mailed_room b text out).answer)
    room true = spotted_first src
    room false = spotted_first src

    long : (b : Bool) → AnswerSpotted src (shipment_numbers (mailed_text b text out).answer)
    long true = spotted_first src
    long false = room (leb (length text) (length out))

pub ship_spotted : (src : List ℕ) (kind : ℕ) (T : Tables) (X : Indexes) (out : List ℕ) → AnswerSpotted src (shipment_numbers (shipping src kind T X out).answer)
unfolding shipping
ship_spotted src kind T X out = mailed_spotted src _ out (read_all src (shipped_kind kind) (lent_ten T) X).answer (λ f e. refused_spotted src (shipped_kind kind) (lent_ten T) X f e)

-- ---- by the cells of the C names' arrays

cells_spotted : (src l : List ℕ) (k n i : ℕ) (p : Spot) → length l ≡ n → get_or (l ++ spot_cells p) k 0 ≡ i → Spotted src i p → CellsSpotted src (l ++ spot_cells p) k n
cells_spotted src l k n i p h e s =
    let a : get_or (l ++ spot_cells p) n 0 ≡ p.line = rw (← h) (get_or-append_seam l p.line (p.column ∷ []) 0) in
    let b : get_or (l ++ spot_cells p) (n + 1) 0 ≡ p.column = rw (← h) (get_or-append-add l (spot_cells p) 1 0) in
    rw (e, a, b) s

-- an answer with a count
counted_spotted : (src l : List ℕ) → length l ≡ 5 → AnswerSpotted src l → CellsSpotted src (counted_cells src l) 1 6
counted_spotted src l h s = cells_spotted src (take 4 l ++ halves (get_or l 4 0)) 1 6 (get_or l 1 0) (answer_spot src l) long from s
  where
    four : length (take 4 l) ≡ 4
    four = length-take-le 4 l (omega (arith, h))

    long : length (take 4 l ++ halves (get_or l 4 0)) ≡ 6
    long = let a = length-append (take 4 l) (halves (get_or l 4 0)) in omega (arith, a, four)

    from : get_or (take 4 l ++ halves (get_or l 4 0) ++ spot_cells (answer_spot src l)) 1 0 ≡ get_or l 1 0
    from = get_or-append (take 4 l ++ halves (get_or l 4 0)) _ 0 1 (omega (arith, long)) ∙ get_or-append (take 4 l) _ 0 1 (omega (arith, four)) ∙ get_or-take 4 l 1 0 (omega arith)

flaw_long : (f : Flaw) (z : List ℕ) → length (flaw_numbers f ++ z) ≡ 3 + length z
flaw_long f z = rw (flaw_number_lem f).0 (omega arith)

listing_five : (l : Result ℕ ListingError) → length (listing_numbers l) ≡ 5
listing_five (Ok n) = refl
listing_five (Err OfUnsound) = refl
listing_five (Err (OfInvalid f)) = flaw_long f (0 ∷ 0 ∷ [])
listing_five (Err NoWords) = refl
listing_five (Err NoRoom) = refl

marking_four : (k : Result (Unit {0}) MarkingError) → length (marking_numbers k) ≡ 4
marking_four (Ok _) = refl
marking_four (Err MarksUnsound) = refl
marking_four (Err (MarksInvalid f)) = flaw_long f (0 ∷ [])
marking_four (Err MarksNoWords) = refl

pruning_four : (k : Result (Unit {0}) PruningError) → length (pruning_numbers k) ≡ 4
pruning_four (Ok _) = refl
pruning_four (Err PruningUnsound) = refl
pruning_four (Err (PruningInvalid f)) = flaw_long f (0 ∷ [])
pruning_four (Err PruningNoWords) = refl

next_six : (n : Result (Option (ℕ × ℕ)) NextError) → length (next_numbers n) ≡ 6
next_six (Ok (Some (kd, r))) = refl
next_six (Ok None) = refl
next_six (Err NotFitting) = refl

fault_listing_five : (l : Result ℕ FaultsError) → length (fault_listing_numbers l) ≡ 5
fault_listing_five (Ok n) = refl
fault_listing_five (Err FaultsUnsound) = refl
fault_listing_five (Err FaultsNoRoom) = refl

valuation_five : (v : Result ℕ ValuationError) → length (valuation_numbers v) ≡ 5
valuation_five (Ok n) = refl
valuation_five (Err OfUnsoundTables) = refl
valuation_five (Err PastCount) = refl
valuation_five (Err NotString) = refl
valuation_five (Err NoTextRoom) = refl

storing_five : (s : Result ℕ StoringError) → length (storing_numbers s) ≡ 5
storing_five (Ok n) = refl
storing_five (Err UnknownKind) = refl
storing_five (Err StoringUnsound) = refl
storing_five (Err NoBlocks) = refl

-- an answer with a reading's numbers, the three counts, line and column, and whatever comes behind them
pub reading_spotted : (src h : List ℕ) (c : Counts) (g : Singles) (q : PosixCounts) (p : Spot) (z : List ℕ) → h ≡ four h → Spotted src (get_or h 1 0) p → CellsSpotted src ((h ++ counts_cells c ++ singles_cells g) ++ (posix_cells q ++ spot_cells p ++ z)) 1 41
reading_spotted src h c g q p z hh s =
    let behind = reading_behind (four h) (posix_cells q ++ spot_cells p ++ z) c g refl in
    rw hh (rw (behind 3, behind 4) s)

-- Load's,
pub face_load_spotted : (src : List ℕ) (kind : ℕ) (T : AllTables) (X : Indexes) → CellsSpotted src (load_face src kind T X).answer 1 41
unfolding loading_cells
face_load_spotted src kind T X = let o = load_all src kind T X in reading_spotted src (judgement_numbers o.answer) o.counts o.singles o.posix _ [] (judgement_four o.answer) (load_spotted src kind T X)

-- and the others', of any numbers, tables and indexes.
module _ (src m : List ℕ) (T : Tables) (X : Indexes) where
  pub face_validate_spotted : CellsSpotted src (validate_face src m T X) 1 4
  face_validate_spotted = cells_spotted src (validity_numbers v ++ (0 ∷ [])) 1 4 (get_or (validity_numbers v) 1 0) _ (long v) (get_or-append (validity_numbers v ++ (0 ∷ [])) _ 0 1 (omega (arith, long v)) ∙ validity_from v) (validate_spotted src (counts_of m) (singles_of m) T X)
    where
      v : Result (Unit {0}) ValidityError
      v = validity src (counts_of m) (singles_of m) T X

      long : (w : Result (Unit {0}) ValidityError) → length (validity_numbers w ++ (0 ∷ [])) ≡ 4
      long (Ok _) = refl
      long (Err UnsoundTables) = refl
      long (Err (Invalid f)) = flaw_long f (0 ∷ [])

  pub face_faults_spotted : (t : List ℕ) → CellsSpotted src (faults_face src m T X t).answer 1 6
  face_faults_spotted t = let l = (fault_listing src (counts_of m) (singles_of m) T X t).answer in counted_spotted src (fault_listing_numbers l) (fault_listing_five l) (faults_spotted src (counts_of m) (singles_of m) T X l)

  pub face_report_spotted : (ws₀ ws out₀ out a : List ℕ) → ReportFace src m T X ws₀ ws out₀ out a → CellsSpotted src a 1 6
  face_report_spotted ws₀ ws out₀ out a r =
      let l = r.listing in
      told (λ (x : List ℕ). CellsSpotted src x 1 6) (sym r.numbers) (counted_spotted src (listing_numbers l) (listing_five l) (report_spotted src (counts_of m) (singles_of m) T X l ws₀ ws out₀ out r.reported))

  pub face_mark_spotted : (ws₀ ws a : List ℕ) → MarkFace src m T X ws₀ ws a → CellsSpotted src a 1 4
  face_mark_spotted ws₀ ws a r =
      let l = marking_numbers r.marking in
      let h = marking_four r.marking in
      told (λ (x : List ℕ). CellsSpotted src x 1 4) (sym r.numbers) (cells_spotted src l 1 4 (get_or l 1 0) (answer_spot src l) h (get_or-append l _ 0 1 (omega (arith, h))) (mark_spotted src (counts_of m) (singles_of m) T X r.marking ws₀ ws r.marked))

  pub face_prune_spotted : (m' : List ℕ) (T' : Tables) (X' : Indexes) (ws₀ ws a : List ℕ) → PruneFace src m m' T T' X X' ws₀ ws a → CellsSpotted src a 1 4
  face_prune_spotted m' T' X' ws₀ ws a r =
      let l = pruning_numbers r.pruning in
      let h = pruning_four r.pruning in
      told (λ (x : List ℕ). CellsSpotted src x 1 4) (sym r.numbers) (cells_spotted src l 1 4 (get_or l 1 0) (answer_spot src l) h (get_or-append l _ 0 1 (omega (arith, h))) (prune_spotted src (counts_of m) (singles_of m) T X r.pruning ws₀ _ r.pruned))

  pub face_next_spotted : (ws at₀ at a : List ℕ) → NextFace src m T X ws at₀ at a → CellsSpotted src a 1 6
  face_next_spotted ws at₀ at a r =
      let l = next_numbers r.next in
      let h = next_six r.next in
      told (λ (x : List ℕ). CellsSpotted src x 1 6) (sym r.numbers) (cells_spotted src l 1 6 (get_or l 1 0) (answer_spot src l) h (get_or-append l _ 0 1 (omega (arith, h))) (next_spotted src (counts_of m) (singles_of m) T X r.next))

  pub face_value_spotted : (row : ℕ) (out : List ℕ) → CellsSpotted src (value_face src m T X row out).answer 1 6
  face_value_spotted row out = let v = (epp_value src (counts_of m) (singles_of m) T X row out).answer in counted_spotted src (valuation_numbers v) (valuation_five v) (value_spotted src (counts_of m) (singles_of m) T X v)

  pub face_name_spotted : (table row : ℕ) → CellsSpotted src (name_face src m T X table row) 0 2
  face_name_spotted table row = name_spotted src (counts_of m) (singles_of m) T X table row

-- Storing's; those of loading back and of shipping are `face_restore_spotted` and `face_ship_spotted`.
pub face_store_spotted : (src : List ℕ) (kind : ℕ) (m : List ℕ) (T : AllTables) (X : Indexes) (out : List ℕ) → CellsSpotted src (store_face src kind m T X out).answer 1 6
face_store_spotted src kind m T X out = let a = (store_all src kind (counts_of m) (posix_of m) (singles_of m) T X out).answer in counted_spotted src (storing_numbers a) (storing_five a) (store_spotted src a)
