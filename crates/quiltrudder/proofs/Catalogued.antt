-- The catalogue through the C names: what the C name of load left is never unsound for storing, and what was stored comes back with the numbers that the others take. Assumes nothing.
use Rattle.std.specs.Prelude.{Some, None, Result, Ok, Err}
use Prim.Native.Nat.{ℕ, zero, suc, ◌+◌, ◌*◌, ◌≤◌, ◌<◌}
use mathlib.Core.Path.{◌≡◌, refl, sym, ap, ◌∙◌}
use mathlib.Core.List.{List, [], ◌∷◌, ◌++◌}
use mathlib.Core.Bool.{Bool, true, false, false≢true}
use native.Mathlib.Omega.{arith}
use native.Mathlib.Nat.{div-add-mod'}
use lib.Dec.{eqb}
use lib.ListN.{length, get_or, take}
use lib.Seq.{ext_get_or, get_or-append-add}
use Rattle.scan.proofs.Bytes.{told}
use Rattle.places.specs.declared.Spot.{Spot}
use Rattle.places.specs.Places.{Spotted}
use Rattle.places.proofs.Meaning.{spot_first, spotted_first}
use Rattle.grammar.specs.Numbers.{part_numbers, param_numbers}
use Rattle.grammar.specs.Sound.{AllTables, Indexes, cells_of}
use Rattle.sections.specs.Sections.{sized}
use Rattle.singles.specs.Singles.{expect_cells, singles_cells, counts_cells, posix_cells, part_from, expect_from, param_from, singles_of, counts_of, posix_of}
use Rattle.singles.proofs.Laws.{cells_back}
use Rattle.catalogue.specs.declared.Head.{Head}
use Rattle.catalogue.specs.Catalogue.{Fit32, Bytes, head_cells, cells_at, sound_reading}
use Rattle.catalogue.proofs.Contents.{append_below}
use Rattle.storing.specs.declared.StoringError.{StoringError}
use Rattle.storing.specs.declared.StoringError.TheVariants.{UnknownKind, StoringUnsound, NoBlocks}
use Rattle.storing.specs.Storing.{head_with, storing_numbers, store_all}
use Rattle.storing.proofs.Laws.{reading_iff, reading_short}
use Rattle.storing.proofs.Theorems.{stored_iff, unsound_iff}
use Rattle.restoring.specs.declared.RestoringError.{RestoringError}
use Rattle.restoring.specs.declared.RestoringError.TheVariants.{NotWhole, BadNumber, BadCheck, BadContent, BadSizes, NoSpace, RestoringUnsound}
use Rattle.restoring.specs.Restoring.{Restored, restoring_numbers, restored}
use Rattle.roundtrip.specs.Roundtrip.{Plain, Back}
use Rattle.roundtrip.proofs.Back.{load_back}
use Rattle.loading.specs.Load.{judgement_numbers, LoadResult, load_all, FullLoad}
use Rattle.loading.proofs.Theorems.{load_sound, load_posix_sound, load_three}
use Rattle.numbers.specs.Numbers.{answer_spot}
use Rattle.quiltrudder.specs.Face.{spot_cells, CellsSpotted, counted_cells, loading_numbers, load_face, store_face, restoring_cells, restore_face, restore_face_of, BackFace}
use Rattle.quiltrudder.proofs.Promises.{face_back}
use Rattle.quiltrudder.proofs.Face.{reading_behind, loading_length}

-- ---- the numbers of a reading fit 32 bits where the array's do

fit_cons : (x : ℕ) (xs : List ℕ) → x < 4294967296 → Fit32 xs → Fit32 (x ∷ xs)
fit_cons x xs h f zero = h
fit_cons x xs h f (suc j) = f j

fit_none : Fit32 []
fit_none zero = omega arith
fit_none (suc j) = omega arith

fit_append : (xs ys : List ℕ) → Fit32 xs → Fit32 ys → Fit32 (xs ++ ys)
fit_append = append_below 4294967296

fit_three : (a b c : ℕ) → a < 4294967296 → b < 4294967296 → c < 4294967296 → Fit32 (a ∷ b ∷ c ∷ [])
fit_three a b c h k l = fit_cons a (b ∷ c ∷ []) h (fit_cons b (c ∷ []) k (fit_cons c [] l fit_none))

fit_five : (a b c d e : ℕ) → a < 4294967296 → b < 4294967296 → c < 4294967296 → d < 4294967296 → e < 4294967296 → Fit32 (a ∷ b ∷ c ∷ d ∷ e ∷ [])
fit_five a b c d e h k l m n = fit_cons a (b ∷ c ∷ d ∷ e ∷ []) h (fit_cons b (c ∷ d ∷ e ∷ []) k (fit_three c d e l m n))

-- each single by its cells
part_fits : (f a b : ℕ) → a < 4294967296 → b < 4294967296 → Fit32 (part_numbers (part_from f a b))
unfolding part_from
part_fits f a b h k = go (eqb f 0)
  where
    go : (t : Bool) → Fit32 (part_numbers (elim t [ true ↦ None | false ↦ Some (a, b) ]))
    go true = fit_three 0 0 0 (omega arith) (omega arith) (omega arith)
    go false = fit_three 1 a b (omega arith) h k

expect_fits : (f l h a b : ℕ) → l < 4294967296 → h < 4294967296 → a < 4294967296 → b < 4294967296 → Fit32 (expect_cells (expect_from f l h a b))
unfolding expect_from
expect_fits f l h a b hl hh ha hb = go (eqb f 0)
  where
    go : (t : Bool) → Fit32 (expect_cells (elim t [ true ↦ None | false ↦ Some (h * 4294967296 + l, a, b) ]))
    go true = fit_five 0 0 0 0 0 (omega arith) (omega arith) (omega arith) (omega arith) (omega arith)
    go false = fit_five 1 _ _ a b (omega arith) (omega arith) (omega arith) ha hb

param_fits : (f a b c d : ℕ) → a < 4294967296 → b < 4294967296 → c < 4294967296 → d < 4294967296 → Fit32 (param_numbers (param_from f a b c d))
unfolding param_from
param_fits f a b c d ha hb hc hd = go (eqb f 0)
  where
    go : (t : Bool) → Fit32 (param_numbers (elim t [ true ↦ None | false ↦ Some (a, b, c, d) ]))
    go true = fit_five 0 0 0 0 0 (omega arith) (omega arith) (omega arith) (omega arith) (omega arith)
    go false = fit_five 1 a b c d (omega arith) ha hb hc hd

module _ (m : List ℕ) (fit : Fit32 m) where
  singles_fit : Fit32 (singles_cells (singles_of m))
  singles_fit =
      fit_append (a ++ b ++ c ++ d ++ e) _
      (fit_append (a ++ b ++ c ++ d) e
      (fit_append (a ++ b ++ c) d (fit_append (a ++ b) c (fit_append a b (part_fits _ _ _ (fit 15) (fit 16)) (expect_fits _ _ _ _ _ (fit 18) (fit 19) (fit 20) (fit 21))) (expect_fits _ _ _ _ _ (fit 23) (fit 24) (fit 25) (fit 26))) (param_fits _ _ _ _ _ (fit 28) (fit 29) (fit 30) (fit 31)))
      (part_fits _ _ _ (fit 33) (fit 34)))
      (part_fits _ _ _ (fit 36) (fit 37))
    where
      a : List ℕ
      a = part_numbers (singles_of m).start

      b : List ℕ
      b = expect_cells (singles_of m).expect

      c : List ℕ
      c = expect_cells (singles_of m).expect_rr

      d : List ℕ
      d = param_numbers (singles_of m).param

      e : List ℕ
      e = part_numbers (singles_of m).generics

  -- the ten counts and the three
  counts_fit : Fit32 (counts_cells (counts_of m))
  counts_fit =
      fit_append (get_or m 4 0 ∷ get_or m 5 0 ∷ get_or m 6 0 ∷ get_or m 7 0 ∷ get_or m 8 0 ∷ []) (get_or m 9 0 ∷ get_or m 10 0 ∷ get_or m 11 0 ∷ get_or m 12 0 ∷ get_or m 13 0 ∷ []) (fit_five _ _ _ _ _ (fit 4) (fit 5) (fit 6) (fit 7) (fit 8)) (fit_five _ _ _ _ _ (fit 9) (fit 10) (fit 11) (fit 12) (fit 13))

  posix_fit : Fit32 (posix_cells (posix_of m))
  posix_fit = fit_three _ _ _ (fit 38) (fit 39) (fit 40)

  head_fits : (src : List ℕ) (kind : ℕ) → length src < 4294967296 → kind < 4294967296 → Fit32 (head_cells (head_with src kind (counts_of m) (posix_of m) (singles_of m)))
  unfolding head_cells
  head_fits src kind h k =
      let c = counts_cells (counts_of m) in
      let p = posix_cells (posix_of m) in
      fit_append ((c ++ p ++ (length src ∷ [])) ++ singles_cells (singles_of m)) (kind ∷ []) (fit_append (c ++ p ++ (length src ∷ [])) (singles_cells (singles_of m)) (fit_append (c ++ p) (length src ∷ []) (fit_append c p counts_fit posix_fit) (fit_cons (length src) [] h fit_none)) singles_fit) (fit_cons kind [] k fit_none)

-- ---- what was stored comes back

-- the numbers of loading back, with number n and table t, and where those behind the singles stand
module _ (n t : ℕ) (h : Head) where
  abbrev front : List ℕ
  front = n ∷ 0 ∷ 0 ∷ t ∷ [] ++ counts_cells h.counts ++ singles_cells h.singles

  abbrev rest : List ℕ
  rest = posix_cells h.posix ++ (1 ∷ 1 ∷ h.kind ∷ h.length ∷ [])

  behind : (i : ℕ) → get_or (front ++ rest) (38 + i) 0 ≡ get_or rest i 0
  behind i = reading_behind (n ∷ 0 ∷ 0 ∷ t ∷ []) rest h.counts h.singles refl i

-- Line and column of loading back are those of the place that it answers, 0 in any source;
restoring_told : (a : Result (Unit {0}) RestoringError) → restoring_numbers a ≡ get_or (restoring_numbers a) 0 0 ∷ 0 ∷ 0 ∷ get_or (restoring_numbers a) 3 0 ∷ []
restoring_told (Ok _) = refl
restoring_told (Err NotWhole) = refl
restoring_told (Err BadNumber) = refl
restoring_told (Err BadCheck) = refl
restoring_told (Err BadContent) = refl
restoring_told (Err BadSizes) = refl
restoring_told (Err (NoSpace k)) = refl
restoring_told (Err RestoringUnsound) = refl

pub face_restore_spotted : (src s S : List ℕ) (T : AllTables) (X : Indexes) → CellsSpotted src (restore_face s S T X).answer 1 41
face_restore_spotted src s S T X =
    let r = restored s S T X in
    let h = r.head in
    let n = get_or (restoring_numbers r.answer) 0 0 in
    let t = get_or (restoring_numbers r.answer) 3 0 in
    let e : restoring_cells r.answer h ≡ front n t h ++ rest n t h = ap (λ (l : List ℕ). (l ++ counts_cells h.counts ++ singles_cells h.singles) ++ rest n t h) (restoring_told r.answer) in
    told (λ (l : List ℕ). CellsSpotted src l 1 41) (sym e) (rw (behind n t h 3, behind n t h 4) (told (λ (p : Spot). Spotted src 0 p) (spot_first src) (spotted_first src)))

module _ (src : List ℕ) (kind : ℕ) (m : List ℕ) (T : AllTables) (X : Indexes) (out : List ℕ) where
  -- the numbers that the C name of store wrote, and how many blocks they tell, by their halves
  abbrev said : List ℕ
  said = (store_face src kind m T X out).answer

  abbrev told_blocks : ℕ
  told_blocks = get_or said 5 0 * 4294967296 + get_or said 4 0

  -- a number of 0 tells how many blocks there are
  stored_told : get_or said 0 0 ≡ 0 → (store_all src kind (counts_of m) (posix_of m) (singles_of m) T X out).answer ≡ Ok told_blocks
  stored_told = go (store_all src kind (counts_of m) (posix_of m) (singles_of m) T X out).answer
    where
      go : (a : Result ℕ StoringError) → let l = counted_cells src (storing_numbers a) in get_or l 0 0 ≡ 0 → a ≡ Ok (get_or l 5 0 * 4294967296 + get_or l 4 0)
      go (Ok n) e = ap Ok (sym (div-add-mod' n 4294967296))
      go (Err UnknownKind) e = absurd (omega arith)
      go (Err StoringUnsound) e = absurd (omega arith)
      go (Err NoBlocks) e = absurd (omega arith)

  module _ (S : List ℕ) (T₀ : AllTables) (X₀ : Indexes) where
    in-numbers : (r : Restored) → Back src kind (counts_of m) (posix_of m) (singles_of m) T S T₀ X₀ r → BackFace src kind m T S T₀ X₀ (restore_face_of r)
    in-numbers r b =
        let c = counts_of m in
        let p = posix_of m in
        let g = singles_of m in
        let h = head_with src kind c p g in
        let e : restoring_cells r.answer r.head ≡ front 0 0 h ++ rest 0 0 h = rw (b.answer, b.head) in
        record {
          number = ap (λ (l : List ℕ). get_or l 0 0) e;
          counts = ap counts_of e;
          singles = ap singles_of e ∙ cells_back (0 ∷ 0 ∷ 0 ∷ 0 ∷ counts_cells c) (rest 0 0 h) g refl;
          posix = ap posix_of e ∙ rw (behind 0 0 h 0, behind 0 0 h 1, behind 0 0 h 2);
          kind_is = ap (λ (l : List ℕ). get_or l 43 0) e ∙ behind 0 0 h 5;
          length_is = ap (λ (l : List ℕ). get_or l 44 0) e ∙ behind 0 0 h 6;
          source = b.source;
          tables = b.tables;
          indexes = b.indexes;
        }

    -- Where the C name of store answers 0, the C name of load_stored gives the reading back from as many blocks as were told, whatever was lent for it, if there is room and the indexes have right sizes. The first three
    -- hypotheses hold of all that C can lend: numbers of 32 bits, and bytes.
    pub face_load_back : Fit32 m → ((k : ℕ) → k < 13 → Fit32 (cells_of T k)) → Bytes src → get_or said 0 0 ≡ 0
        → ((k : ℕ) → k < 13 → cells_at (counts_of m) (posix_of m) k ≤ length (cells_of T₀ k))
        → length src ≤ length S
        → sized T₀ X₀ ≡ true
        → BackFace src kind m T S T₀ X₀ (restore_face (take (told_blocks * 512) (store_face src kind m T X out).blocks) S T₀ X₀)
    face_load_back fit cells bytes e fits short right =
        let q = stored_told e in
        let i = (stored_iff src kind (counts_of m) (posix_of m) (singles_of m) T X out told_blocks).0 q in
        let n = reading_short src (counts_of m) (posix_of m) (singles_of m) T X i.2 in
        let heads : Fit32 (head_cells (head_with src kind (counts_of m) (posix_of m) (singles_of m))) = head_fits m fit src kind (omega (arith, n)) (omega (arith, i.1)) in
        let plain : Plain src kind (counts_of m) (posix_of m) (singles_of m) T = record { ten = refl; three = refl; heads = heads; cells = cells; bytes = bytes } in
        in-numbers _ (load_back src kind (counts_of m) (posix_of m) (singles_of m) T X out told_blocks _ S T₀ X₀ plain q refl fits short right)

-- ---- after a full reading

module _ (src : List ℕ) (kind : ℕ) (T : AllTables) (X : Indexes) where
  abbrev o : LoadResult
  o = load_all src kind T X

  abbrev m : List ℕ
  m = (load_face src kind T X).answer

  -- the three counts behind the numbers of a load
  pub face_posix_back : posix_of m ≡ o.posix
  face_posix_back =
      let at : (i : ℕ) → get_or m (38 + i) 0 ≡ get_or (posix_cells o.posix ++ spots) i 0 = λ i. rw (← loading_length o) (get_or-append-add (loading_numbers o) (posix_cells o.posix ++ spots) i 0) in
      ap (λ (l : List ℕ). record { n = l })
      (rw (at 0, at 1, at 2) (ext_get_or 0 _ _ (sym (load_three src kind T X)) go))
    where
      spots : List ℕ
      spots = spot_cells (answer_spot src (judgement_numbers o.answer))

      go : (k : ℕ) → k < 3 → get_or (posix_cells o.posix) k 0 ≡ get_or o.posix.n k 0
      go zero h = refl
      go (suc zero) h = refl
      go (suc (suc zero)) h = refl
      go (suc (suc (suc k))) h = absurd (omega arith)

  -- The C name of store does not call a full reading unsound.
  pub face_store_not_44 : FullLoad o.answer → (k : ℕ) (out : List ℕ) → get_or (store_face src k m o.tables o.indexes out).answer 0 0 ≡ 44 → ⊥
  face_store_not_44 full k out e =
      let sound = (reading_iff src o.counts o.posix o.singles o.tables o.indexes).1 (load_sound src kind T X full, load_posix_sound src kind T X full) in
      let b = face_back src kind T X in
      let same : sound_reading src (counts_of m) (posix_of m) (singles_of m) o.tables o.indexes ≡ true = rw (b.0, b.1, face_posix_back) sound in
      false≢true (sym ((unsound_iff src k (counts_of m) (posix_of m) (singles_of m) o.tables o.indexes out).0 (unsound _ e)).2 ∙ same)
    where
      unsound : (a : Result ℕ StoringError) → get_or (counted_cells src (storing_numbers a)) 0 0 ≡ 44 → a ≡ Err StoringUnsound
      unsound (Ok n) e = absurd (omega arith)
      unsound (Err UnknownKind) e = absurd (omega arith)
      unsound (Err StoringUnsound) e = refl
      unsound (Err NoBlocks) e = absurd (omega arith)
