-- What the tests of a name tell: whether a declaration excuses it, and whether its row is to be listed. Assumes nothing.
use Rattle.std.specs.Prelude.{Option, Some, None, is_some}
use Prim.Native.Nat.{ℕ, ◌+◌}
use mathlib.Core.Path.{◌≡◌, refl, sym, ◌∙◌}
use mathlib.Core.List.{List}
use mathlib.Core.Bool.{Bool, true, false, not, false≢true}
use borrow.Author.Tests.{eqb-true, eqb-false}
use lib.Dec.{eqb}
use Rattle.tables.specs.Table.{cell, same_part, has_name, find_name}
use Rattle.tables.proofs.Laws.{has_name_lem}
use Rattle.tables.proofs.Cases.{find_iff, none_iff}
use Rattle.bits.specs.Bits.{bit}
use Rattle.reach.specs.Reach.{Named}
use Rattle.usage.specs.Report.{Says, Excuses, Expects, Expected, Implicit, Excused, expected, implied, ExcusedRow, Free}

-- row e of table 6: its kind, and then its name
pub expects_says : (src t : List ℕ) (kd a b e : ℕ) (x y : ℕ) (q : Bool) → cell 3 t e 0 ≡ kd → x ≡ cell 3 t e 1 → y ≡ cell 3 t e 2 → q ≡ same_part src x y a b → Says q (Expects src t kd a b e)
expects_says src t kd a b e x y q k f g s = go q (has_name_lem src 3 1 t a b e x y q f g s q refl)
  where
    go : (v : Bool) → has_name src 3 1 t a b e ≡ v → Says v (Expects src t kd a b e)
    go true h = record { kind = k; same = h }
    go false h = λ m. false≢true (sym h ∙ m.same)

-- whether a search has found a row
pub some_says : {P : Type 0} (o : Option ℕ) (q : Bool) → q ≡ is_some o → ((r : ℕ) → o ≡ Some r → P) → (o ≡ None → P → ⊥) → Says q P
some_says (Some r) true h y n = y r refl
some_says (Some r) false h y n = absurd (false≢true h)
some_says None true h y n = absurd (false≢true (sym h))
some_says None false h y n = n refl

-- table 4: the first row of the name, or none
module _ (src t : List ℕ) (n kd a b : ℕ) where
  pub implicit_yes : (r : ℕ) → kd ≡ 2 → find_name src 2 0 n t a b ≡ Some r → Implicit src t n kd a b
  implicit_yes r k f =
      let x = (find_iff src 2 0 n t a b r).0 f in
      record { token = k; entry = r; there = x.inside; same = x.named }

  pub implicit_no : find_name src 2 0 n t a b ≡ None → Implicit src t n kd a b → ⊥
  implicit_no f m = false≢true (sym ((none_iff src 2 0 n t a b).0 f m.entry m.there) ∙ m.same)

-- the one table, or else the other
pub excused_says : (x : Excuses) (kd a b : ℕ) (q : Bool) → (Expected x.src x.expecteds x.expected_count kd a b → ⊥) → Says q (Implicit x.src x.implicits x.implicit_count kd a b) → Says q (Excused x kd a b)
excused_says x kd a b true k m = implied m
excused_says x kd a b false k m = go
  where
    go : Excused x kd a b → ⊥
    go (expected e) = k e
    go (implied e) = m e

-- the row's bit, and then its name
pub marked_not_free : (ws : List ℕ) (x : Excuses) (d : Named) (r : ℕ) (q : Bool) → q ≡ eqb (bit ws (d.sort.base + r)) 1 → q ≡ true → Free ws x d r → ⊥
marked_not_free ws x d r q e h f = f.off (eqb-true _ _ (sym e ∙ h))

pub free_says : (ws : List ℕ) (x : Excuses) (d : Named) (r a b : ℕ) (q v : Bool) → q ≡ eqb (bit ws (d.sort.base + r)) 1 → q ≡ false → a ≡ cell d.sort.wide d.cells r 0 → b ≡ cell d.sort.wide d.cells r 1 → Says v (Excused x d.sort.kind a b) → Says (not v) (Free ws x d r)
free_says ws x d r a b q v e h f g s = go v (rw (f, g) at s)
  where
    go : (v : Bool) → Says v (ExcusedRow x d r) → Says (not v) (Free ws x d r)
    go true m = λ y. y.unexcused m
    go false m = record { off = λ o. eqb-false _ _ (sym e ∙ h) o; unexcused = m }
