-- What the C names' proofs cite: the numbers of a load, and those of any answer with a reading's, put together. Assumes nothing.
use Rattle.std.specs.Prelude.{Result}
use Prim.Native.Nat.{ℕ}
use mathlib.Core.Path.{◌≡◌, sym, ap, ◌∙◌}
use mathlib.Core.List.{List, [], ◌∷◌, ◌++◌, append_assoc, append-nil}
use native.Mathlib.Omega.{arith}
use lib.ListN.{length, replicate, length-append}
use Rattle.places.specs.declared.Spot.{Spot}
use Rattle.tables.specs.Table.{put}
use Rattle.grammar.specs.declared.Counts.{Counts}
use Rattle.grammar.specs.declared.PosixCounts.{PosixCounts}
use Rattle.grammar.specs.declared.Singles.{Singles}
use Rattle.grammar.specs.declared.Told.{Told}
use Rattle.loading.specs.declared.LoadError.{LoadError}
use Rattle.loading.specs.Load.{judgement_numbers}
use Rattle.numbers.specs.Numbers.{told_numbers}
use Rattle.singles.specs.Singles.{singles_cells, posix_cells, counts_cells}
use Rattle.singles.proofs.Laws.{put_over, put_behind, singles_length}
use Rattle.quiltrudder.specs.Face.{spot_cells, loading_cells}

-- a load's numbers, stored one behind the other, with line and column
module _ (j : Result ℕ LoadError) (c : Counts) (g : Singles) (q : PosixCounts) (p : Spot) (t : Told) (s m1 m2 m3 m4 m5 : List ℕ) where
  abbrev front : List ℕ
  front = told_numbers t ++ counts_cells c

  pub loading_put : told_numbers t ≡ judgement_numbers j → s ≡ singles_cells g → m1 ≡ put (replicate 43 0) 0 (told_numbers t) → m2 ≡ put m1 4 (counts_cells c) → m3 ≡ put m2 14 s → m4 ≡ put m3 38 (posix_cells q) → m5 ≡ put m4 41 (spot_cells p) → m5 ≡ loading_cells j c g ++ (posix_cells q ++ spot_cells p)
  unfolding loading_cells
  loading_put ht hs k1 k2 k3 k4 k5 =
      let n : length s ≡ 24 = ap length hs ∙ singles_length g in
      let e2 : m2 ≡ front ++ (replicate 24 0 ++ replicate 5 0) = rw (k2, k1) in
      let e3 : m3 ≡ (front ++ s) ++ replicate 5 0 = k3 ∙ ap (λ (l : List ℕ). put l 14 s) e2 ∙ put_behind front _ s ∙ ap (λ (l : List ℕ). front ++ l) (put_over (replicate 24 0) (replicate 5 0) s n) in
      let z : length (front ++ s) ≡ 38 = omega (arith, n) in
      let e4 : m4 ≡ (front ++ s) ++ (posix_cells q ++ (0 ∷ 0 ∷ [])) = k4 ∙ ap (λ (l : List ℕ). put l 38 (posix_cells q)) e3 ∙ ap (λ (k : ℕ). put ((front ++ s) ++ replicate 5 0) k (posix_cells q)) (sym z) ∙ put_behind (front ++ s) (replicate 5 0) (posix_cells q) in
      let y : length ((front ++ s) ++ posix_cells q) ≡ 41 = length-append (front ++ s) (posix_cells q) ∙ omega (arith, z) in
      let e5 : m5 ≡ ((front ++ s) ++ posix_cells q) ++ spot_cells p = k5 ∙ ap (λ (l : List ℕ). put l 41 (spot_cells p)) (e4 ∙ sym (append_assoc (front ++ s) (posix_cells q) (0 ∷ 0 ∷ []))) ∙ ap (λ (k : ℕ). put (((front ++ s) ++ posix_cells q) ++ (0 ∷ 0 ∷ [])) k (spot_cells p)) (sym y) ∙ put_behind ((front ++ s) ++ posix_cells q) (0 ∷ 0 ∷ []) (spot_cells p) in
      e5 ∙ append_assoc (front ++ s) (posix_cells q) (spot_cells p) ∙ ap (λ (l : List ℕ). (l ++ counts_cells c ++ s) ++ (posix_cells q ++ spot_cells p)) ht ∙ ap (λ (l : List ℕ). (judgement_numbers j ++ counts_cells c ++ l) ++ (posix_cells q ++ spot_cells p)) hs

-- any answer's before a reading's, and seven behind them
module _ (t : Told) (c : Counts) (g : Singles) (rest s m1 m2 m3 : List ℕ) where
  abbrev begun : List ℕ
  begun = told_numbers t ++ counts_cells c

  pub reading_put : length rest ≡ 7 → s ≡ singles_cells g → m1 ≡ put (replicate 45 0) 0 begun → m2 ≡ put m1 14 s → m3 ≡ put m2 38 rest → m3 ≡ (begun ++ singles_cells g) ++ rest
  reading_put seven hs k1 k2 k3 =
      let n : length s ≡ 24 = ap length hs ∙ singles_length g in
      let e1 : m1 ≡ begun ++ (replicate 24 0 ++ replicate 7 0) = k1 in
      let e2 : m2 ≡ (begun ++ s) ++ replicate 7 0 = k2 ∙ ap (λ (l : List ℕ). put l 14 s) e1 ∙ put_behind begun _ s ∙ ap (λ (l : List ℕ). begun ++ l) (put_over (replicate 24 0) (replicate 7 0) s n) in
      let z : length (begun ++ s) ≡ 38 = omega (arith, n) in
      let e3 : put ((begun ++ s) ++ replicate 7 0) 38 rest ≡ (begun ++ s) ++ put (replicate 7 0) 0 rest = ap (λ (k : ℕ). put ((begun ++ s) ++ replicate 7 0) k rest) (sym z) ∙ put_behind (begun ++ s) (replicate 7 0) rest in
      let e4 : put (replicate 7 0) 0 rest ≡ rest = put_over (replicate 7 0) [] rest seven ∙ append-nil rest in
      k3 ∙ ap (λ (l : List ℕ). put l 38 rest) e2 ∙ e3 ∙ ap (λ (l : List ℕ). (begun ++ s) ++ l) e4 ∙ ap (λ (l : List ℕ). (begun ++ l) ++ rest) hs
