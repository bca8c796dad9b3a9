-- Theorems about the C names: what a read wrote is what the others take. Assumes nothing.
use Rattle.std.specs.Prelude.{Option, Result, Ok, Err}
use Prim.Native.Nat.{ℕ, zero, suc, ◌+◌, ◌<◌}
use mathlib.Core.Path.{◌≡◌, refl, sym, ap, ◌∙◌}
use mathlib.Core.List.{List, [], ◌∷◌, ◌++◌}
use mathlib.Core.Bool.{Bool, true, false}
use native.Mathlib.Omega.{arith}
use lib.ListN.{length, get_or, take, length-append}
use lib.Seq.{ext_get_or, get_or-append-add}
use Rattle.grammar.specs.declared.Counts.{Counts}
use Rattle.grammar.specs.declared.Singles.{Singles}
use Rattle.grammar.specs.Sound.{Tables, Indexes}
use Rattle.validation.specs.declared.Flaw.{Flaw}
use Rattle.validation.specs.declared.Flaw.TheVariants.{NoStartRule, InvalidStartRule, UnknownRuleRef, UnknownTokenRef, UnknownPrecToken, NoPrecForToken, UnknownEppKey}
use Rattle.loading.specs.declared.LoadError.{LoadError}
use Rattle.loading.specs.declared.LoadError.TheVariants.{NotRead, NotValid}
use Rattle.validation.specs.Faults.{flaw_numbers}
use Rattle.loading.specs.Load.{judgement_numbers, LoadResult}
use Rattle.sound.specs.Test.{sound_test}
use Rattle.usage.specs.declared.MarkingError.{MarkingError}
use Rattle.usage.proofs.Outcome.{Outcome, reported_one, marking_one}
use Rattle.pruning.specs.declared.PruningError.{PruningError}
use Rattle.pruning.specs.Pruned.{Lent}
use Rattle.pruning.proofs.Outcome.{pruning_one}
use Rattle.walks.specs.declared.NextError.{NextError}
use Rattle.walks.specs.declared.Standing.{Standing}
use Rattle.walks.proofs.Once.{next_one}
use Rattle.grammar.specs.declared.Refusal.{Refusal}
use Rattle.shipping.specs.Shipping.{shipment_numbers}
use Rattle.singles.specs.Singles.{singles_cells, singles_of, counts_cells, counts_of}
use Rattle.singles.proofs.Laws.{singles_length, cells_back}
use Rattle.names.specs.Name.{nowhere, name_place, part_at, name_of}
use Rattle.names.proofs.Laws.{part_none}
use Rattle.quiltrudder.specs.Face.{loading_cells, loading_numbers, listing_cells, ReportFace, marking_cells, MarkFace, standing_of, standing_cells, next_cells, NextFace, pruning_cells, reading_after, PruneFace, name_at}

-- number, place and table are four numbers
abbrev pub four : List ℕ → List ℕ
four l = get_or l 0 0 ∷ get_or l 1 0 ∷ get_or l 2 0 ∷ get_or l 3 0 ∷ []

flaw_four : (f : Flaw) → let l = flaw_numbers f ++ (0 ∷ []) in l ≡ four l
flaw_four NoStartRule = refl
flaw_four (InvalidStartRule a b) = refl
flaw_four (UnknownRuleRef a b) = refl
flaw_four (UnknownTokenRef a b) = refl
flaw_four (UnknownPrecToken a b) = refl
flaw_four (NoPrecForToken a b) = refl
flaw_four (UnknownEppKey a b) = refl

pub judgement_four : (j : Result ℕ LoadError) → judgement_numbers j ≡ four (judgement_numbers j)
judgement_four (Ok i) = refl
judgement_four (Err (NotRead f)) = refl
judgement_four (Err (NotValid f)) = flaw_four f

pub shipment_four : (s : Result ℕ Refusal) → let l = take 4 (shipment_numbers s) in l ≡ four l
shipment_four (Ok n) = refl
shipment_four (Err f) = refl

-- the ten counts by their numbers
pub cells_at : (c : Counts) (k : ℕ) → k < 10 → get_or (counts_cells c) k 0 ≡ get_or c.n k 0
cells_at c zero h = refl
cells_at c (suc zero) h = refl
cells_at c (suc (suc zero)) h = refl
cells_at c (suc (suc (suc zero))) h = refl
cells_at c (suc (suc (suc (suc zero)))) h = refl
cells_at c (suc (suc (suc (suc (suc zero))))) h = refl
cells_at c (suc (suc (suc (suc (suc (suc zero)))))) h = refl
cells_at c (suc (suc (suc (suc (suc (suc (suc zero))))))) h = refl
cells_at c (suc (suc (suc (suc (suc (suc (suc (suc zero)))))))) h = refl
cells_at c (suc (suc (suc (suc (suc (suc (suc (suc (suc zero))))))))) h = refl
cells_at c (suc (suc (suc (suc (suc (suc (suc (suc (suc (suc k)))))))))) h = absurd (omega arith)

-- A reading's numbers behind number, place and table: ten counts and 24 cells of singles, 38 in all; and z behind them.
module _ (h z : List ℕ) (c : Counts) (g : Singles) (hh : h ≡ four h) where
  abbrev reading : List ℕ
  reading = h ++ counts_cells c ++ singles_cells g

  pub reading_length : length reading ≡ 38
  reading_length =
      let a = length-append h (counts_cells c) in
      let b = length-append (h ++ counts_cells c) (singles_cells g) in
      omega (arith, a, b, ap length hh, singles_length g)

  pub reading_behind : (i : ℕ) → get_or (reading ++ z) (38 + i) 0 ≡ get_or z i 0
  reading_behind i = rw (← reading_length) (get_or-append-add reading z i 0)

  -- What was written is what the others take, whatever stands behind it: the singles,
  pub reading_singles : singles_of (reading ++ z) ≡ g
  reading_singles = rw hh (cells_back (four h ++ counts_cells c) z g refl)

  looked_counts : (s : List ℕ) → (counts_of ((h ++ counts_cells c ++ s) ++ z)).n ≡ counts_cells c
  looked_counts s = rw hh

  -- each of the ten counts,
  pub reading_count : (k : ℕ) → k < 10 → get_or (counts_of (reading ++ z)).n k 0 ≡ get_or c.n k 0
  reading_count k l = ap (λ (x : List ℕ). get_or x k 0) (looked_counts (singles_cells g)) ∙ cells_at c k l

  -- and all together, being ten.
  pub reading_counts : length c.n ≡ 10 → counts_of (reading ++ z) ≡ c
  reading_counts ten = ap (λ (l : List ℕ). record { n = l }) (ext_get_or 0 _ _ (sym ten) (λ k l. reading_count k l))

-- Those of a load.
pub loading_length : (o : LoadResult) → length (loading_numbers o) ≡ 38
unfolding loading_cells
loading_length o = reading_length (judgement_numbers o.answer) [] o.counts o.singles (judgement_four o.answer)

pub singles_back : (o : LoadResult) (z : List ℕ) → singles_of (loading_numbers o ++ z) ≡ o.singles
unfolding loading_cells
singles_back o z = reading_singles (judgement_numbers o.answer) z o.counts o.singles (judgement_four o.answer)

pub counts_back : (o : LoadResult) (z : List ℕ) (k : ℕ) → k < 10 → get_or (counts_of (loading_numbers o ++ z)).n k 0 ≡ get_or o.counts.n k 0
unfolding loading_cells
counts_back o z k h = reading_count (judgement_numbers o.answer) z o.counts o.singles (judgement_four o.answer) k h

pub all_counts_back : (o : LoadResult) (z : List ℕ) → length o.counts.n ≡ 10 → counts_of (loading_numbers o ++ z) ≡ o.counts
unfolding loading_cells
all_counts_back o z ten = reading_counts (judgement_numbers o.answer) z o.counts o.singles (judgement_four o.answer) ten

-- The source's part at the place that `quiltrudder_name` gives is the row's name.
pub name_part : (src : List ℕ) (c : Counts) (g : Singles) (T : Tables) (X : Indexes) (table row : ℕ) → part_at src (name_at src c g T X table row) ≡ name_of src c g T X table row
unfolding name_at name_of
name_part src c g T X table row = go (sound_test src c g T X)
  where
    go : (b : Bool) → part_at src (elim b [ true ↦ name_place c T.t1 T.t7 table row | false ↦ nowhere ]) ≡ elim b [ true ↦ part_at src (name_place c T.t1 T.t7 table row) | false ↦ [] ]
    go true = refl
    go false = sym (part_none src)

-- "Any two outcomes allowed by it are proved equal": of the report; the contracts of the others but the three below are equations.
pub report_face_one : (src m : List ℕ) (T : Tables) (X : Indexes) (ws₀ ws vs out₀ out out' a b : List ℕ) → ReportFace src m T X ws₀ ws out₀ out a → ReportFace src m T X ws₀ vs out₀ out' b → (ws ≡ vs) × (out ≡ out') × (a ≡ b)
report_face_one src m T X ws₀ ws vs out₀ out out' a b p q =
    let e = reported_one src (counts_of m) (singles_of m) T X ws₀ out₀ p.listing q.listing ws vs out out' p.reported q.reported in
    (ap (λ (o : Outcome). o.work) e, ap (λ (o : Outcome). o.cells) e, p.numbers ∙ ap (λ (o : Outcome). listing_cells src o.answer) e ∙ sym q.numbers)

-- of the marking, a step of a walk, and pruning
pub mark_face_one : (src m : List ℕ) (T : Tables) (X : Indexes) (ws₀ ws vs a b : List ℕ) → MarkFace src m T X ws₀ ws a → MarkFace src m T X ws₀ vs b → (ws ≡ vs) × (a ≡ b)
mark_face_one src m T X ws₀ ws vs a b p q =
    let e = marking_one src (counts_of m) (singles_of m) T X ws₀ p.marking q.marking ws vs p.marked q.marked in
    (e.1, p.numbers ∙ ap (λ (k : Result (Unit {0}) MarkingError). marking_cells src k) e.0 ∙ sym q.numbers)

pub next_face_one : (src m : List ℕ) (T : Tables) (X : Indexes) (ws at₀ at at' a b : List ℕ) → NextFace src m T X ws at₀ at a → NextFace src m T X ws at₀ at' b → (at ≡ at') × (a ≡ b)
next_face_one src m T X ws at₀ at at' a b p q =
    let e = next_one src (counts_of m) (singles_of m) T X ws (standing_of at₀) p.next q.next p.stands q.stands p.advanced q.advanced in
    (p.record_is ∙ ap (λ (s : Standing). standing_cells s) e.1 ∙ sym q.record_is, p.numbers ∙ ap (λ (n : Result (Option (ℕ × ℕ)) NextError). next_cells src n) e.0 ∙ sym q.numbers)

pub prune_face_one : (src m₀ m m' : List ℕ) (T₀ T T' : Tables) (X₀ X X' : Indexes) (ws₀ ws ws' a a' : List ℕ) → PruneFace src m₀ m T₀ T X₀ X ws₀ ws a → PruneFace src m₀ m' T₀ T' X₀ X' ws₀ ws' a' → (m ≡ m') × (T ≡ T') × (X ≡ X') × (ws ≡ ws') × (a ≡ a')
prune_face_one src m₀ m m' T₀ T T' X₀ X X' ws₀ ws ws' a a' p q =
    let e = pruning_one src (singles_of m₀) (record { counts = counts_of m₀; tables = T₀; indexes = X₀; work = ws₀ }) p.pruning q.pruning _ _ p.pruned q.pruned in (
      p.reading ∙ ap (λ (k : Result (Unit {0}) PruningError). reading_after k p.counts m₀) e.0 ∙ ap (λ (l : Lent). reading_after q.pruning l.counts m₀) e.1 ∙ sym q.reading,
      ap (λ (l : Lent). l.tables) e.1,
      ap (λ (l : Lent). l.indexes) e.1,
      ap (λ (l : Lent). l.work) e.1,
      p.numbers ∙ ap (λ (k : Result (Unit {0}) PruningError). pruning_cells src k) e.0 ∙ sym q.numbers,
    )
