-- The line of a place: where it begins, by the place's column, and one law for each answer. Assumes nothing.
use Prim.Native.Nat.{ℕ, ◌+◌, ◌-◌, ◌≤◌, ◌<◌}
use mathlib.Core.Path.{◌≡◌, ap}
use mathlib.Core.List.{List}
use native.Mathlib.Omega.{arith}
use lib.ListN.{length}
use borrow.Author.Tests.{lt-ltb, le-ltb}
use Rattle.scan.specs.declared.Place.{Place}
use Rattle.scan.specs.declared.Class.TheVariants.{LineByte}
use Rattle.scan.specs.Scan.{in_class, run_end_at}
use Rattle.places.specs.declared.Spot.{Spot}
use Rattle.places.specs.Places.{line_start, spot_of}
use Rattle.places.proofs.Laws.{start_before}
use Rattle.checking.specs.Lines.{nowhere, line_of}

module _ (s : List ℕ) (at : ℕ) (p : Spot) (q : p ≡ spot_of s at) where
  by_start : p.column ≡ at - line_start s at + 1
  by_start = ap (λ (x : Spot). x.column) q

  pub column_within : p.column ≤ at + 1
  column_within = let h = start_before s at in omega (arith, by_start)

  pub begin_is : at + 1 - p.column ≡ line_start s at
  begin_is = let h = start_before s at in omega (arith, by_start)

  pub begin_before : at + 1 - p.column ≤ at
  begin_before = let h = start_before s at in omega (arith, by_start)

module _ (s : List ℕ) (at : ℕ) where
  pub line_long : 65536 < length s → nowhere ≡ line_of s at
  unfolding line_of
  line_long h = rw (line_of, lt-ltb _ _ h)

  module _ (h : length s ≤ 65536) where
    pub line_past : length s < at → nowhere ≡ line_of s at
    unfolding line_of
    line_past k = rw (line_of, le-ltb _ _ h, lt-ltb _ _ k)

    pub line_is : (from to : ℕ) → at ≤ length s → from ≡ line_start s at → to ≡ run_end_at (in_class LineByte) s from → record { from = from; to = to } ≡ line_of s at
    unfolding line_of
    line_is from to k p q = rw (line_of, le-ltb _ _ h, le-ltb _ _ k, q, p)
