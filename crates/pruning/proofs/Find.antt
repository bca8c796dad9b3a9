-- A name is found in the new row of the row it was found in. Assumes nothing.
use Rattle.std.specs.Prelude.{Option, Some, None}
use Prim.Native.Nat.{ℕ, ◌*◌, ◌≤◌, ◌<◌}
use mathlib.Core.Path.{◌≡◌, refl, sym, ap, ◌∙◌}
use mathlib.Core.List.{List}
use mathlib.Core.Bool.{Bool, true, false}
use mathlib.Core.Logic.{⊎_elim}
use native.Mathlib.Omega.{arith}
use lib.ListN.{length}
use Rattle.scan.proofs.Bytes.{le_or_lt}
use Rattle.tables.specs.Table.{has_name, find_name, First}
use Rattle.tables.proofs.Cases.{find_iff, find_cases}
use Rattle.validation.specs.Faults.{is_row, known}
use Rattle.symbols.specs.Symbols.{row_number}
use Rattle.reach.specs.Reach.{Named, Calls}
use Rattle.closing.specs.Close.{rank, closed}
use Rattle.closing.proofs.Numbers.{From, rank_from, rank_below, rank_up, closed_row}
use Rattle.pruning.proofs.Forth.{same_cell}

module _ (src : List ℕ) (stays : ℕ → Bool) (w n : ℕ) (t : List ℕ) (fits : n * w ≤ length t) (two : 1 < w) (a b : ℕ) where
  -- a row that stays has the name it had
  pub name_new : (r : ℕ) → r < n → stays r ≡ true → has_name src w 0 (closed stays w n t).cells a b (rank stays r) ≡ has_name src w 0 t a b r
  unfolding has_name
  name_new r h s =
      let e = closed_row stays w n t r fits h s in
      let u = (closed stays w n t).cells in
      let x = same_cell w t u r (rank stays r) 0 (omega arith) e in
      let y = same_cell w t u r (rank stays r) 1 (omega arith) e in
      rw (has_name, x, y)

  -- so it is found there
  pub find_new : (r : ℕ) → find_name src w 0 n t a b ≡ Some r → stays r ≡ true → find_name src w 0 (rank stays n) (closed stays w n t).cells a b ≡ Some (rank stays r)
  find_new r e s = go ((find_iff src w 0 n t a b r).0 e)
    where
      earlier : First src w 0 n t a b r → (q : ℕ) → From stays n q → q < rank stays r → has_name src w 0 (closed stays w n t).cells a b q ≡ false
      earlier x q f l =
          let k : f.row < r = ⊎_elim (λ h. let up = rank_up stays r f.row h in let z = f.same in absurd (omega arith)) (λ h. h) (le_or_lt r f.row) in
          ap (λ (j : ℕ). has_name src w 0 (closed stays w n t).cells a b j) (sym f.same) ∙ (name_new f.row f.there f.kept ∙ x.earlier f.row k)

      go : First src w 0 n t a b r → find_name src w 0 (rank stays n) (closed stays w n t).cells a b ≡ Some (rank stays r)
      go x =
          let low = rank_below stays r n x.inside s in
          (find_iff src w 0 (rank stays n) (closed stays w n t).cells a b (rank stays r)).1
          (record { inside = low; named = name_new r x.inside s ∙ x.named; earlier = λ q l. earlier x q (rank_from stays n q (omega arith)) l })

-- a name is known where a row has it
module _ (src : List ℕ) (d : Named) (a b : ℕ) where
  pub known_calls : known src d.cells d.sort.wide d.sort.count a b ≡ true → (r : ℕ) × Calls src d a b r
  unfolding known
  known_calls =
      find_cases (λ (f : Option ℕ). is_row f ≡ true → (r : ℕ) × Calls src d a b r) src d.sort.wide 0 d.sort.count d.cells a b
      (λ r h e none q. (r, record { inside = h; same = e }))
      (λ none q. let z : ◌≡◌ {A = ℕ} 0 1 = cc in absurd (omega arith))

  pub calls_known : (r : ℕ) → Calls src d a b r → known src d.cells d.sort.wide d.sort.count a b ≡ true
  unfolding known
  calls_known r x =
      find_cases (λ (f : Option ℕ). is_row f ≡ true) src d.sort.wide 0 d.sort.count d.cells a b
      (λ q h e none. refl)
      (λ none. let e = x.same in let f = none r x.inside in let z : ◌≡◌ {A = ℕ} 0 1 = cc in absurd (omega arith))

-- the row of a name that is known
pub found_row : (f : Option ℕ) (v : ℕ) → is_row f ≡ true → v ≡ row_number f → f ≡ Some v
found_row (Some r) v e h = ap Some (sym h)
found_row None v e h = let z : ◌≡◌ {A = ℕ} 0 1 = cc in absurd (omega arith)
