-- Tags: one law for each answer, as rules for `search`; and where the answers lie. Assumes nothing.
use Rattle.std.specs.Prelude.{Result, Err}
use Prim.Native.Nat.{ℕ, ◌+◌, ◌≤◌, ◌<◌}
use mathlib.Core.Path.{◌≡◌, refl, sym, ◌∙◌}
use mathlib.Core.List.{List}
use mathlib.Core.Bool.{Bool, true, false, not}
use native.Mathlib.Omega.{arith}
use lib.ListN.{length}
use borrow.Author.Tests.{not-true, not-false}
use Rattle.scan.specs.declared.Class.TheVariants.{TagByte}
use Rattle.scan.specs.Scan.{is_at, in_class, run_end_at}
use Rattle.scan.proofs.Bytes.{on_test, at_true, at_next}
use Rattle.scan.proofs.Runs.{run_is}
use Rattle.words.specs.Tags.{tagged, tag_closed, tag_at, Tagged}
use Rattle.words.specs.declared.TagError.{TagError}
use Rattle.scan.specs.declared.Place.{Place}
use Rattle.words.specs.declared.TagError.TheVariants.{OpenTag, NoTag}

module _ (s : List ℕ) (from : ℕ) where
  closed_yes : (to : ℕ) → is_at 62 s to ≡ true → tagged from to ≡ tag_closed s from to
  unfolding tag_closed
  closed_yes to t = rw (t, tag_closed)

  closed_no : (to : ℕ) → is_at 62 s to ≡ false → Err (OpenTag from) ≡ tag_closed s from to
  unfolding tag_closed
  closed_no to t = rw (t, tag_closed)

  module _ (b : Bool) (q : b ≡ is_at 60 s from) where
    pub tag_none : not b ≡ true → Err (NoTag from) ≡ tag_at s from
    unfolding tag_at
    tag_none t = rw (sym q ∙ not-true b t, tag_at)

    module _ (t : not b ≡ false) where
      pub tag_next : from + 1 ≤ length s
      tag_next = at_next s from 60 b q (not-false b t)

      module _ (to : ℕ) (e : to ≡ run_end_at (in_class TagByte) s (from + 1)) (c : Bool) (k : c ≡ is_at 62 s to) where
        pub tag_found_lem : c ≡ true → tagged from to ≡ tag_at s from
        unfolding tag_at
        tag_found_lem u = rw (sym q ∙ not-false b t, tag_at, ← e) (closed_yes to (sym k ∙ u))

        pub tag_open : c ≡ false → Err (OpenTag from) ≡ tag_at s from
        unfolding tag_at
        tag_open u = rw (sym q ∙ not-false b t, tag_at, ← e) (closed_no to (sym k ∙ u))

  tags : Tagged s from (tag_at s from)
  unfolding tag_at tag_closed
  tags =
      on_test (Tagged s from) (is_at 60 s from) _ _ (λ t. on_test (Tagged s from) (is_at 62 s to) _ _ (λ u. inside (at_true s from 60 t).0 (at_true s to 62 u).0) (λ u. refl))
      (λ t. refl)
    where
      to : ℕ
      to = run_end_at (in_class TagByte) s (from + 1)

      inside : from < length s → to < length s → Tagged s from (tagged from to)
      inside h k = let a = (run_is (in_class TagByte) s (from + 1) (omega arith)).onward in (omega arith, omega arith, omega arith, omega arith)

  -- both clauses of `parse_tag`, from the first
  pub tag_placed : (r : Result (Place × ℕ) TagError) → r ≡ tag_at s from → (r ≡ tag_at s from) × Tagged s from r
  tag_placed r e = (e, rw e tags)
