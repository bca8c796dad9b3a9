-- A row's name: one law for each answer. Assumes nothing.
use Prim.Native.Nat.{ℕ, ◌-◌, ◌≤◌, ◌<◌}
use mathlib.Core.Path.{◌≡◌, sym, ◌∙◌}
use mathlib.Core.List.{List, []}
use mathlib.Core.Bool.{Bool, true, false}
use native.Mathlib.Omega.{arith}
use lib.ListN.{length, take, drop}
use borrow.Author.Tests.{le-leb, lt-leb, lt-ltb, le-ltb, eq-eqb, ne_eqb}
use Rattle.scan.specs.declared.Place.{Place}
use Rattle.tables.specs.Table.{cell, lies}
use Rattle.tables.specs.Layout.{tokens, rules, width}
use Rattle.grammar.specs.declared.Counts.{Counts}
use Rattle.grammar.specs.declared.Singles.{Singles}
use Rattle.grammar.specs.Sound.{Tables, Indexes}
use Rattle.sound.specs.Test.{count_at, sound_test}
use Rattle.names.specs.Name.{nowhere, part_of, row_place, name_place, name_of}

-- a part of the source
module _ (src : List ℕ) (a b : ℕ) where
  pub part_back : b < a → [] ≡ part_of src a b
  unfolding part_of
  part_back h = rw (part_of, lies, lt-leb a b h)

  module _ (h : a ≤ b) where
    pub part_past : length src < b → [] ≡ part_of src a b
    unfolding part_of
    part_past k = rw (part_of, lies, le-leb a b h, lt-leb b (length src) k)

    pub part_is : b ≤ length src → take (b - a) (drop a src) ≡ part_of src a b
    unfolding part_of
    part_is k = rw (part_of, lies, le-leb a b h, le-leb b (length src) k)

pub part_none : (src : List ℕ) → [] ≡ part_of src 0 0
part_none src = part_is src 0 0 (omega arith) (omega arith)

-- the place of a row
module _ (t : List ℕ) (w n row : ℕ) where
  pub row_in : (a b : ℕ) → row < n → a ≡ cell w t row 0 → b ≡ cell w t row 1 → record { from = a; to = b } ≡ row_place t w n row
  unfolding row_place
  row_in a b h p q = rw (row_place, lt-ltb row n h, p, q)

  pub row_out : n ≤ row → nowhere ≡ row_place t w n row
  unfolding row_place
  row_out h = rw (row_place, le-ltb row n h)

module _ (c : Counts) (t1 t7 : List ℕ) (table row n : ℕ) (p : Place) where
  pub place_token : table ≡ 1 → n ≡ count_at c tokens → p ≡ row_place t1 (width tokens) n row → p ≡ name_place c t1 t7 table row
  unfolding name_place
  place_token e k h = rw (name_place, eq-eqb table 1 e) (rw k at h)

  pub place_rule : (table ≡ 1 → ⊥) → table ≡ 7 → n ≡ count_at c rules → p ≡ row_place t7 (width rules) n row → p ≡ name_place c t1 t7 table row
  unfolding name_place
  place_rule d e k h = rw (name_place, ne_eqb table 1 d, eq-eqb table 7 e) (rw k at h)

pub place_none : (c : Counts) (t1 t7 : List ℕ) (table row : ℕ) → (table ≡ 1 → ⊥) → (table ≡ 7 → ⊥) → nowhere ≡ name_place c t1 t7 table row
unfolding name_place
place_none c t1 t7 table row d e = rw (name_place, ne_eqb table 1 d, ne_eqb table 7 e)

-- the name
module _ (src : List ℕ) (c : Counts) (g : Singles) (T : Tables) (X : Indexes) (table row : ℕ) (b : Bool) (q : b ≡ sound_test src c g T X) (l : List ℕ) where
  pub name_unsound : b ≡ false → l ≡ part_of src 0 0 → l ≡ name_of src c g T X table row
  unfolding name_of
  name_unsound e h = h ∙ sym (part_none src) ∙ rw (name_of, ← q, e)

  pub name_is : b ≡ true → (p : Place) → p ≡ name_place c T.t1 T.t7 table row → l ≡ part_of src p.from p.to → l ≡ name_of src c g T X table row
  unfolding name_of
  name_is e p k h = rw (name_of, ← q, e) (rw k at h)
