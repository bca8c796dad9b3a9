-- What the C name of prune left is what the others take: the counts in the numbers are those that are left, and the reading is valid. Assumes nothing.
use Rattle.std.specs.Prelude.{Result, Ok}
use Prim.Native.Nat.{◌≤◌, ℕ, ◌+◌, ◌<◌}
use mathlib.Core.Path.{◌≡◌, refl, sym, ap, ◌∙◌}
use mathlib.Core.List.{List, ◌++◌, append_assoc}
use native.Mathlib.Omega.{arith}
use lib.ListN.{length, get_or, take, drop, get_or-append}
use lib.Seq.{ext_get_or, length-take-le, get_or-append-add, get_or-drop}
use Rattle.tables.specs.Table.{put}
use Rattle.tables.proofs.Rows.{put_eq}
use Rattle.grammar.specs.declared.Counts.{Counts}
use Rattle.grammar.specs.Sound.{Tables, Indexes}
use Rattle.validation.specs.declared.ValidityError.{ValidityError}
use Rattle.validation.specs.Faults.{validity}
use Rattle.pruning.specs.Pruned.{Prunings}
use Rattle.pruning.proofs.Outcome.{pruning_ten, pruning_validates}
use Rattle.singles.specs.Singles.{singles_of, counts_cells, counts_of}
use Rattle.quiltrudder.specs.Face.{validity_cells, validate_face, PruneFace}
use Rattle.quiltrudder.proofs.Face.{cells_at}

-- the numbers of a reading with ten of them rewritten
module _ (m v : List ℕ) (long : 14 ≤ length m) (ten : length v ≡ 10) where
  front : length (take 4 m) ≡ 4
  front = length-take-le 4 m (omega arith)

  whole : put m 4 v ≡ take 4 m ++ (v ++ drop 14 m)
  whole = let e : 4 + length v ≡ 14 = omega arith in put_eq v m 4 (omega arith) ∙ rw (append_assoc (take 4 m) v (drop (4 + length v) m), e) refl

  behind_front : (k : ℕ) → get_or (put m 4 v) (4 + k) 0 ≡ get_or (v ++ drop 14 m) k 0
  behind_front k = ap (λ (l : List ℕ). get_or l (4 + k) 0) whole ∙ rw front at (get_or-append-add (take 4 m) (v ++ drop 14 m) k 0)

  inside : (k : ℕ) → k < 10 → get_or (put m 4 v) (4 + k) 0 ≡ get_or v k 0
  inside k h = behind_front k ∙ get_or-append v (drop 14 m) 0 k (omega arith)

  past : (k : ℕ) → get_or (put m 4 v) (14 + k) 0 ≡ get_or m (14 + k) 0
  past k =
      let a : get_or (put m 4 v) (4 + (10 + k)) 0 ≡ get_or (v ++ drop 14 m) (10 + k) 0 = behind_front (10 + k) in
      let b : get_or (v ++ drop 14 m) (10 + k) 0 ≡ get_or (drop 14 m) k 0 = rw ten at (get_or-append-add v (drop 14 m) k 0) in
      let e : 4 + (10 + k) ≡ 14 + k = omega arith in
      rw e at a ∙ b ∙ get_or-drop 14 m k 0

-- the counts that are taken out of them, and the singles
module _ (m : List ℕ) (d : Counts) (long : 14 ≤ length m) where
  counts_are : (counts_of (put m 4 (counts_cells d))).n ≡ counts_cells d
  counts_are = rw (inside m (counts_cells d) long refl 0 (omega arith), inside m (counts_cells d) long refl 1 (omega arith), inside m (counts_cells d) long refl 2 (omega arith), inside m (counts_cells d) long refl 3 (omega arith), inside m (counts_cells d) long refl 4 (omega arith), inside m (counts_cells d) long refl 5 (omega arith), inside m (counts_cells d) long refl 6 (omega arith), inside m (counts_cells d) long refl 7 (omega arith), inside m (counts_cells d) long refl 8 (omega arith), inside m (counts_cells d) long refl 9 (omega arith)) refl

  pub counts_after : length d.n ≡ 10 → counts_of (put m 4 (counts_cells d)) ≡ d
  counts_after ten = ap (λ (l : List ℕ). record { n = l }) (counts_are ∙ ext_get_or 0 _ _ (sym ten) (λ k h. cells_at d k h))

  pub singles_after : singles_of (put m 4 (counts_cells d)) ≡ singles_of m
  singles_after = rw (past m (counts_cells d) long refl 0, past m (counts_cells d) long refl 1, past m (counts_cells d) long refl 2, past m (counts_cells d) long refl 3, past m (counts_cells d) long refl 4, past m (counts_cells d) long refl 5, past m (counts_cells d) long refl 6, past m (counts_cells d) long refl 7, past m (counts_cells d) long refl 8, past m (counts_cells d) long refl 9, past m (counts_cells d) long refl 10, past m (counts_cells d) long refl 11, past m (counts_cells d) long refl 12, past m (counts_cells d) long refl 13, past m (counts_cells d) long refl 14, past m (counts_cells d) long refl 15, past m (counts_cells d) long refl 16, past m (counts_cells d) long refl 17, past m (counts_cells d) long refl 18, past m (counts_cells d) long refl 19, past m (counts_cells d) long refl 20, past m (counts_cells d) long refl 21, past m (counts_cells d) long refl 22, past m (counts_cells d) long refl 23) refl

-- behind a pruning that went through
module _ (src m₀ m : List ℕ) (T₀ T : Tables) (X₀ X : Indexes) (ws₀ ws a : List ℕ) (long : 14 ≤ length m₀) (r : PruneFace src m₀ m T₀ T X₀ X ws₀ ws a) (e : r.pruning ≡ Ok tt) where
  went : Prunings src (singles_of m₀) (Ok tt) (record { counts = counts_of m₀; tables = T₀; indexes = X₀; work = ws₀ }) (record { counts = r.counts; tables = T; indexes = X; work = ws })
  went = rw e at r.pruned

  is_put : m ≡ put m₀ 4 (counts_cells r.counts)
  is_put = rw e at r.reading

  -- what the others take out of the numbers is what is left,
  pub face_prune_back : (counts_of m ≡ r.counts) × (singles_of m ≡ singles_of m₀)
  face_prune_back =
      let ten = pruning_ten src (singles_of m₀) _ _ refl went in
      (ap counts_of is_put ∙ counts_after m₀ r.counts long ten, ap singles_of is_put ∙ singles_after m₀ r.counts long)

  -- and it validates
  pub face_pruned_valid : get_or (validate_face src m T X) 0 0 ≡ 0
  face_pruned_valid =
      let v = pruning_validates src (singles_of m₀) _ _ refl went in
      let w : validity src (counts_of m) (singles_of m) T X ≡ Ok tt = rw (face_prune_back.0, face_prune_back.1) v in
      ap (λ (x : Result (Unit {0}) ValidityError). get_or (validity_cells src x) 0 0) w
