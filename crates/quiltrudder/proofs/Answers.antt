-- What the C names' proofs cite: what is made of a reading's numbers, and each operation's answer in numbers. Assumes nothing.
use Rattle.std.specs.Prelude.{Option, Result, Ok, Err}
use Prim.Native.Nat.{ℕ, ◌≤◌, ◌<◌}
use mathlib.Core.Path.{◌≡◌, refl, sym, ap, ◌∙◌}
use mathlib.Core.Bool.{Bool, true, false}
use mathlib.Core.List.{List, [], ◌∷◌, ◌++◌}
use native.Mathlib.Omega.{arith}
use borrow.Author.Tests.{ltb-true}
use lib.Dec.{eqb, ltb}
use lib.ListN.{get_or, take, get_or-append}
use lib.Seq.{get_or-take}
use Rattle.scan.specs.declared.Place.{Place}
use Rattle.places.specs.declared.Spot.{Spot}
use Rattle.places.specs.Places.{spot_at}
use Rattle.places.proofs.Meaning.{spot_first}
use Rattle.tables.specs.Table.{cell}
use Rattle.tables.specs.Layout.{tokens, rules, width}
use Rattle.tables.proofs.Rows.{row_cell}
use Rattle.grammar.specs.declared.Counts.{Counts}
use Rattle.grammar.specs.declared.PosixCounts.{PosixCounts}
use Rattle.grammar.specs.declared.Singles.{Singles}
use Rattle.grammar.specs.declared.Told.{Told}
use Rattle.grammar.specs.State.{Passed}
use Rattle.grammar.specs.Sound.{Tables, AllTables, Indexes, Sound}
use Rattle.loading.specs.Load.{judgement_numbers, LoadResult, load_all}
use Rattle.loading.proofs.Theorems.{flaw_number_lem}
use Rattle.sound.specs.Test.{count_at, sound_test}
use Rattle.sound.proofs.Iff.{sound_iff}
use Rattle.validation.specs.declared.ValidityError.{ValidityError}
use Rattle.validation.specs.declared.ValidityError.TheVariants.{UnsoundTables, Invalid}
use Rattle.validation.specs.declared.Flaw.{Flaw}
use Rattle.validation.specs.Faults.{flaw_numbers, validity_numbers, validity}
use Rattle.validation.specs.declared.FaultsError.{FaultsError}
use Rattle.validation.specs.Walk.{AllFaults, fault_listing, fault_listing_numbers}
use Rattle.usage.specs.declared.ListingError.{ListingError}
use Rattle.usage.specs.declared.MarkingError.{MarkingError}
use Rattle.usage.specs.Report.{listing_numbers, marking_numbers, Reported, MarkedBits}
use Rattle.pruning.specs.declared.PruningError.{PruningError}
use Rattle.pruning.specs.Pruned.{pruning_numbers, Prunings}
use Rattle.walks.specs.declared.NextError.{NextError}
use Rattle.walks.specs.declared.Standing.{Standing}
use Rattle.walks.specs.Walk.{next_numbers, next_spot, Advanced}
use Rattle.names.specs.Name.{nowhere, row_place, name_place}
use Rattle.values.specs.declared.ValuationError.{ValuationError}
use Rattle.values.specs.Value.{valuation_numbers, Valued, epp_value}
use Rattle.storing.specs.declared.StoringError.{StoringError}
use Rattle.storing.specs.Storing.{StoreResult, storing_numbers, store_all}
use Rattle.restoring.specs.Restoring.{Restored, restored}
use Rattle.shipping.specs.Shipping.{ShipResult, shipment_numbers, shipping}
use Rattle.numbers.specs.Numbers.{told_numbers, answer_spot}
use Rattle.singles.specs.Singles.{singles_of, posix_cells, counts_of, posix_of}
use Rattle.quiltrudder.specs.Face.{halves, spot_cells, loading_numbers, LoadFace, load_face_of, load_face, validity_cells, validate_face, FaultsFace, counted_cells, fault_listing_cells, faults_face_of, faults_face, ReportFace, MarkFace, standing_of, standing_cells, NextFace, reading_after, PruneFace, name_at, name_cells, name_face, ValueFace, valuation_cells, value_face_of, value_face, StoreFace, store_face_of, store_face, restoring_cells, RestoreFace, restore_face_of, restore_face, shipping_cells, ShipFace, ship_face_of, ship_face}

-- ---- line and column of an answer: by its own place, whatever stands behind it

pub flaw_from : (f : Flaw) (z : List ℕ) → get_or (flaw_numbers f ++ z) 1 0 ≡ get_or (flaw_numbers f) 1 0
flaw_from f z = get_or-append (flaw_numbers f) z 0 1 (rw (flaw_number_lem f).0 (omega arith))

pub validity_from : (v : Result (Unit {0}) ValidityError) → get_or (validity_numbers v ++ (0 ∷ [])) 1 0 ≡ get_or (validity_numbers v) 1 0
validity_from (Ok _) = refl
validity_from (Err UnsoundTables) = refl
validity_from (Err (Invalid f)) = flaw_from f (0 ∷ [])

module _ (src : List ℕ) (t : Told) (s : Spot) (hs : s ≡ answer_spot src (told_numbers t)) where
  pub spot_told : (l : List ℕ) → told_numbers t ≡ l → s ≡ answer_spot src l
  spot_told l h = hs ∙ ap (answer_spot src) h

  pub spot_validity : (v : Result (Unit {0}) ValidityError) → told_numbers t ≡ validity_numbers v ++ (0 ∷ []) → s ≡ answer_spot src (validity_numbers v)
  spot_validity v h = spot_told _ h ∙ ap (spot_at src) (validity_from v)

  pub spot_counted : (l : List ℕ) → told_numbers t ≡ take 4 l → s ≡ answer_spot src l
  spot_counted l h = spot_told _ h ∙ ap (spot_at src) (get_or-take 4 l 1 0 (omega arith))

-- ---- answers in numbers

-- a load
pub face_load : (src : List ℕ) (kind : ℕ) (T : AllTables) (X : Indexes) (o : LoadResult) (m : List ℕ) (s : Spot) → m ≡ loading_numbers o ++ (posix_cells o.posix ++ spot_cells s) → s ≡ answer_spot src (judgement_numbers o.answer) → o ≡ load_all src kind T X
    → ◌≡◌ {A = LoadFace} (record { answer = m; tables = o.tables; indexes = o.indexes }) (load_face src kind T X)
face_load src kind T X o m s h k e = rw (h, k) (ap (load_face_of src) e)

-- an answer with a count
counted : (src : List ℕ) (t : Told) (l : List ℕ) (n : ℕ) (s : Spot) (a : List ℕ) → told_numbers t ≡ take 4 l → n ≡ get_or l 4 0 → s ≡ answer_spot src l → a ≡ told_numbers t ++ halves n ++ spot_cells s → a ≡ counted_cells src l
counted src t l n s a ht hn hs ha =
    ha
    ∙ ap (λ (x : List ℕ). x ++ halves n ++ spot_cells s) ht
    ∙ ap (λ (k : ℕ). take 4 l ++ halves k ++ spot_cells s) hn
    ∙ ap (λ (x : Spot). take 4 l ++ halves (get_or l 4 0) ++ spot_cells x) hs

-- the others, on what is made of a reading's numbers
module _ (src m : List ℕ) (T : Tables) (X : Indexes) (c : Counts) (g : Singles) (hc : c ≡ counts_of m) (hg : g ≡ singles_of m) where
  pub face_validity : (t : Told) (v : Result (Unit {0}) ValidityError) (s : Spot) → v ≡ validity src c g T X → told_numbers t ≡ validity_numbers v ++ (0 ∷ []) → s ≡ answer_spot src (validity_numbers v) → told_numbers t ++ spot_cells s ≡ validate_face src m T X
  face_validity t v s hv ht hs =
      let e : validity src c g T X ≡ validity src (counts_of m) (singles_of m) T X = rw (hc, hg) in
      ap (λ (x : List ℕ). x ++ spot_cells s) ht ∙ ap (λ (x : Spot). validity_numbers v ++ (0 ∷ []) ++ spot_cells x) hs ∙ ap (validity_cells src) (hv ∙ e)

  pub face_faults : (t₀ u a : List ℕ) (l : Result ℕ FaultsError) (t : Told) (n : ℕ) (s : Spot) → ◌≡◌ {A = AllFaults} (record { answer = l; cells = u }) (fault_listing src c g T X t₀) → told_numbers t ≡ take 4 (fault_listing_numbers l) → n ≡ get_or (fault_listing_numbers l) 4 0 → s ≡ answer_spot src (fault_listing_numbers l) → a ≡ told_numbers t ++ halves n ++ spot_cells s
      → ◌≡◌ {A = FaultsFace} (record { answer = a; cells = u }) (faults_face src m T X t₀)
  face_faults t₀ u a l t n s e ht hn hs ha =
      let k : a ≡ fault_listing_cells src l = counted src t (fault_listing_numbers l) n s a ht hn hs ha in
      let f : ◌≡◌ {A = AllFaults} (record { answer = l; cells = u }) (fault_listing src (counts_of m) (singles_of m) T X t₀) = rw (hc, hg) at e in
      rw k (ap (faults_face_of src) f)

  pub face_report : (ws₀ ws out₀ out a : List ℕ) (l : Result ℕ ListingError) (t : Told) (n : ℕ) (s : Spot) → Reported src c g T X l ws₀ ws out₀ out → told_numbers t ≡ take 4 (listing_numbers l) → n ≡ get_or (listing_numbers l) 4 0 → s ≡ answer_spot src (listing_numbers l) → a ≡ told_numbers t ++ halves n ++ spot_cells s → ReportFace src m T X ws₀ ws out₀ out a
  face_report ws₀ ws out₀ out a l t n s p ht hn hs ha = record { listing = l; reported = rw (hc, hg) at p; numbers = counted src t (listing_numbers l) n s a ht hn hs ha }

  pub face_mark : (ws₀ ws : List ℕ) (k : Result (Unit {0}) MarkingError) (t : Told) (s : Spot) → MarkedBits src c g T X k ws₀ ws → told_numbers t ≡ marking_numbers k → s ≡ answer_spot src (marking_numbers k) → MarkFace src m T X ws₀ ws (told_numbers t ++ spot_cells s)
  face_mark ws₀ ws k t s p ht hs = record { marking = k; marked = rw (hc, hg) at p; numbers = ap (λ (x : List ℕ). x ++ spot_cells s) ht ∙ ap (λ (x : Spot). marking_numbers k ++ spot_cells x) hs }

  pub face_next : (ws at₀ a : List ℕ) (n : Result (Option (ℕ × ℕ)) NextError) (u : Standing) (s : Spot) → Advanced src c g T X ws (standing_of at₀) n u → s ≡ next_spot src n → a ≡ next_numbers n ++ spot_cells s → NextFace src m T X ws at₀ (standing_cells u) a
  face_next ws at₀ a n u s p hs ha = record { next = n; stands = u; advanced = rw (hc, hg) at p; record_is = refl; numbers = ha ∙ ap (λ (x : Spot). next_numbers n ++ spot_cells x) hs }

  pub face_prune : (m' : List ℕ) (d : Counts) (T' : Tables) (X' : Indexes) (ws₀ ws : List ℕ) (k : Result (Unit {0}) PruningError) (t : Told) (s : Spot) → Prunings src g k (record { counts = c; tables = T; indexes = X; work = ws₀ }) (record { counts = d; tables = T'; indexes = X'; work = ws })
      → m' ≡ reading_after k d m → told_numbers t ≡ pruning_numbers k → s ≡ answer_spot src (pruning_numbers k) → PruneFace src m m' T T' X X' ws₀ ws (told_numbers t ++ spot_cells s)
  face_prune m' d T' X' ws₀ ws k t s p hm ht hs =
      record { pruning = k; counts = d; pruned = rw (hc, hg) at p; reading = hm; numbers = ap (λ (x : List ℕ). x ++ spot_cells s) ht ∙ ap (λ (x : Spot). pruning_numbers k ++ spot_cells x) hs }

  pub face_name : (table row : ℕ) (a : List ℕ) → a ≡ name_cells src (name_at src c g T X table row) → a ≡ name_face src m T X table row
  face_name table row a h = h ∙ rw (hc, hg)

  pub face_value : (row : ℕ) (out₀ out a : List ℕ) (v : Result ℕ ValuationError) (t : Told) (n : ℕ) (s : Spot) → ◌≡◌ {A = Valued} (record { answer = v; out = out }) (epp_value src c g T X row out₀) → told_numbers t ≡ take 4 (valuation_numbers v) → n ≡ get_or (valuation_numbers v) 4 0 → s ≡ answer_spot src (valuation_numbers v) → a ≡ told_numbers t ++ halves n ++ spot_cells s
      → ◌≡◌ {A = ValueFace} (record { answer = a; out = out }) (value_face src m T X row out₀)
  face_value row out₀ out a v t n s e ht hn hs ha =
      let k : a ≡ valuation_cells src v = counted src t (valuation_numbers v) n s a ht hn hs ha in
      let f : ◌≡◌ {A = Valued} (record { answer = v; out = out }) (epp_value src (counts_of m) (singles_of m) T X row out₀) = rw (hc, hg) at e in
      rw k (ap (value_face_of src) f)

-- a reading into blocks
pub face_store : (src m : List ℕ) (kind : ℕ) (T : AllTables) (X : Indexes) (c : Counts) (q : PosixCounts) (g : Singles) → c ≡ counts_of m → q ≡ posix_of m → g ≡ singles_of m
    → (out₀ out a : List ℕ) (k : Result ℕ StoringError) (t : Told) (n : ℕ) (s : Spot) → ◌≡◌ {A = StoreResult} (record { answer = k; blocks = out }) (store_all src kind c q g T X out₀) → told_numbers t ≡ take 4 (storing_numbers k) → n ≡ get_or (storing_numbers k) 4 0 → s ≡ answer_spot src (told_numbers t) → a ≡ told_numbers t ++ halves n ++ spot_cells s
    → ◌≡◌ {A = StoreFace} (record { answer = a; blocks = out }) (store_face src kind m T X out₀)
face_store src m kind T X c q g hc hq hg out₀ out a k t n s e ht hn hs ha =
    let l : a ≡ counted_cells src (storing_numbers k) = counted src t (storing_numbers k) n s a ht hn (spot_counted src t s hs (storing_numbers k) ht) ha in
    let f : ◌≡◌ {A = StoreResult} (record { answer = k; blocks = out }) (store_all src kind (counts_of m) (posix_of m) (singles_of m) T X out₀) = rw (hc, hq, hg) at e in
    rw l (ap (store_face_of src) f)

-- and back
pub face_restore : (b S : List ℕ) (T : AllTables) (X : Indexes) (o : Restored) (m : List ℕ) → m ≡ restoring_cells o.answer o.head → o ≡ restored b S T X
    → ◌≡◌ {A = RestoreFace} (record { answer = m; source = o.source; tables = o.tables; indexes = o.indexes }) (restore_face b S T X)
face_restore b S T X o m h e = rw h (ap restore_face_of e)

-- a shipping
pub face_ship : (src : List ℕ) (kind : ℕ) (T : Tables) (X : Indexes) (out : List ℕ) (o : ShipResult) (m : List ℕ) (s : Spot) → m ≡ shipping_cells o.answer o.counts o.singles s → s ≡ answer_spot src (shipment_numbers o.answer) → o ≡ shipping src kind T X out
    → ◌≡◌ {A = ShipFace} (record { answer = m; tables = o.tables; indexes = o.indexes; out = o.out }) (ship_face src kind T X out)
face_ship src kind T X out o m s h k e = rw (h, k) (ap (ship_face_of src) e)

-- ---- the place of a name

-- a place in a source of at most 65,536 bytes
abbrev Low : Place → Type 0
Low p = (p.from ≤ 65536) × (p.to ≤ 65536)

-- a place in the source
abbrev Inside : List ℕ → Place → Type 0
Inside src p = Passed src p.from p.to

row_lies : (src t : List ℕ) (w n row : ℕ) → ((r : ℕ) → r < n → Passed src (cell w t r 0) (cell w t r 1)) → Inside src (row_place t w n row)
unfolding row_place
row_lies src t w n row h = go (ltb row n) refl
  where
    go : (b : Bool) → ltb row n ≡ b → Inside src (elim b [ true ↦ record { from = cell w t row 0; to = cell w t row 1 } | false ↦ nowhere ])
    go true e = h row (ltb-true row n e)
    go false e = record { onward = omega arith; inside = omega arith }

pub place_lies : (src : List ℕ) (c : Counts) (g : Singles) (T : Tables) (X : Indexes) → Sound src c g T X → (table row : ℕ) → Passed src (name_place c T.t1 T.t7 table row).from (name_place c T.t1 T.t7 table row).to
unfolding name_place
place_lies src c g T X s table row = go (eqb table 1) (eqb table 7)
  where
    token : (r : ℕ) → r < count_at c tokens → Passed src (cell (width tokens) T.t1 r 0) (cell (width tokens) T.t1 r 1)
    token r h = rw (← row_cell (width tokens) T.t1 r 0 (omega arith), ← row_cell (width tokens) T.t1 r 1 (omega arith)) (s.rows tokens r (omega arith) h).name

    rule : (r : ℕ) → r < count_at c rules → Passed src (cell (width rules) T.t7 r 0) (cell (width rules) T.t7 r 1)
    rule r h = rw (← row_cell (width rules) T.t7 r 0 (omega arith), ← row_cell (width rules) T.t7 r 1 (omega arith)) (s.rows rules r (omega arith) h).name

    go : (a b : Bool)
        → Inside src (elim a [ true ↦ row_place T.t1 (width tokens) (count_at c tokens) row | false ↦ elim b [ true ↦ row_place T.t7 (width rules) (count_at c rules) row | false ↦ nowhere ] ])
    go true b = row_lies src T.t1 (width tokens) (count_at c tokens) row token
    go false true = row_lies src T.t7 (width rules) (count_at c rules) row rule
    go false false = record { onward = omega arith; inside = omega arith }

module _ (src : List ℕ) (c : Counts) (g : Singles) (T : Tables) (X : Indexes) (table row : ℕ) where
  module _ (b : Bool) (q : b ≡ sound_test src c g T X) where
    pub place_none : b ≡ false → 0 ∷ 0 ∷ 1 ∷ 1 ∷ [] ≡ name_cells src (name_at src c g T X table row)
    unfolding name_at
    place_none e = rw (name_at, ← q, e) (ap (λ (s : Spot). 0 ∷ 0 ∷ spot_cells s) (sym (spot_first src)))

    module _ (e : b ≡ true) (p : Place) (h : p ≡ name_place c T.t1 T.t7 table row) where
      pub place_is : (s : Spot) → s ≡ spot_at src p.from → p.from ∷ p.to ∷ spot_cells s ≡ name_cells src (name_at src c g T X table row)
      unfolding name_at
      place_is s hs = rw (hs, name_at, ← q, e, h)

      pub place_fits : Low p
      place_fits =
          let s = (sound_iff src c g T X).0 (sym q ∙ e) in
          let l = place_lies src c g T X s table row in
          let n = s.short in
          rw h (omega (arith, l.onward, l.inside), omega (arith, l.inside))
