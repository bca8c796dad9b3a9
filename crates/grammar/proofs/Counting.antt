-- Counts of the ten tables and of the three behind them, under one name. Assumes nothing.
use Prim.Native.Nat.{ℕ, ◌-◌, ◌≤◌, ◌<◌}
use mathlib.Core.Path.{◌≡◌, sym, ap, ◌∙◌}
use mathlib.Core.Logic.{⊎_elim}
use native.Mathlib.Omega.{arith}
use lib.ListN.{length, get_or, set, length-set, get_or-eq_default}
use lib.Seq.{set_out, get_or-set_same, get_or-set_other}
use borrow.Author.Tests.{lt-ltb, le-ltb}
use Rattle.scan.proofs.Bytes.{le_or_lt}
use Rattle.tables.specs.Layout.{posix_from}
use Rattle.grammar.specs.declared.State.{State}
use Rattle.grammar.specs.State.{count, with_count, with_counts, with_posix}

module _ (s : State) (k : ℕ) where
  pub count_low : k < posix_from → count s k ≡ get_or s.counts.n k 0
  count_low h = rw (lt-ltb k posix_from h, count)

  pub count_high : posix_from ≤ k → count s k ≡ get_or s.posix.n (k - posix_from) 0
  count_high h = rw (le-ltb k posix_from h, count)

  pub with_low : (n : ℕ) → k < posix_from → with_count s k n ≡ with_counts s (record { n = set s.counts.n k n })
  with_low n h = rw (lt-ltb k posix_from h, with_count)

  pub with_high : (n : ℕ) → posix_from ≤ k → with_count s k n ≡ with_posix s (record { n = set s.posix.n (k - posix_from) n })
  with_high n h = rw (le-ltb k posix_from h, with_count)

  -- neither record gets longer,
  pub with_ten : (n : ℕ) → length (with_count s k n).counts.n ≡ length s.counts.n
  with_ten n =
      ⊎_elim (λ h. ap (λ (u : State). length u.counts.n) (with_high n h))
      (λ h. ap (λ (u : State). length u.counts.n) (with_low n h) ∙ length-set s.counts.n k n)
      (le_or_lt posix_from k)

  pub with_three : (n : ℕ) → length (with_count s k n).posix.n ≡ length s.posix.n
  with_three n =
      ⊎_elim (λ h. ap (λ (u : State). length u.posix.n) (with_high n h) ∙ length-set s.posix.n (k - posix_from) n)
      (λ h. ap (λ (u : State). length u.posix.n) (with_low n h))
      (le_or_lt posix_from k)

  -- the count that was set is the one that was given,
  pub same_low : (n : ℕ) → k < posix_from → k < length s.counts.n → count (with_count s k n) k ≡ n
  same_low n h l = ap (λ (u : State). count u k) (with_low n h) ∙ rw (lt-ltb k posix_from h, count) (get_or-set_same s.counts.n k n 0 l)

  pub same_high : (n : ℕ) → posix_from ≤ k → k - posix_from < length s.posix.n → count (with_count s k n) k ≡ n
  same_high n h l = ap (λ (u : State). count u k) (with_high n h) ∙ rw (le-ltb k posix_from h, count) (get_or-set_same s.posix.n (k - posix_from) n 0 l)

  pub count_same : (n : ℕ) → length s.counts.n ≡ 10 → length s.posix.n ≡ 3 → k < 13 → count (with_count s k n) k ≡ n
  count_same n ten three b = ⊎_elim (λ h. same_high n h (omega arith)) (λ h. same_low n h (omega arith)) (le_or_lt posix_from k)

  -- and every other one stays.
  pub count_other : (n j : ℕ) → (j ≡ k → ⊥) → count (with_count s k n) j ≡ count s j
  count_other n j d =
      ⊎_elim
      (λ h. ap (λ (u : State). count u j) (with_high n h) ∙ ⊎_elim
      (λ l. rw (le-ltb j posix_from l, count) (get_or-set_other s.posix.n (k - posix_from) (j - posix_from) n 0 (λ e. d (omega arith))))
      (λ l. rw (lt-ltb j posix_from l, count))
      (le_or_lt posix_from j))
      (λ h. ap (λ (u : State). count u j) (with_low n h) ∙ ⊎_elim
      (λ l. rw (le-ltb j posix_from l, count))
      (λ l. rw (lt-ltb j posix_from l, count) (get_or-set_other s.counts.n k j n 0 d))
      (le_or_lt posix_from j))
      (le_or_lt posix_from k)

  -- Behind the thirteen there is nothing to count.
  module _ (three : length s.posix.n ≡ 3) (h : posix_from ≤ k) (l : 3 ≤ k - posix_from) where
    pub count_past : 0 ≡ count s k
    count_past = sym (count_high h ∙ get_or-eq_default s.posix.n 0 {n = k - posix_from} (omega arith))

    pub with_past : (n : ℕ) → s ≡ with_count s k n
    with_past n = sym (with_high n h ∙ rw (set_out s.posix.n (k - posix_from) n (omega arith)))

  -- the same as answers
  pub told_low : k < posix_from → get_or s.counts.n k 0 ≡ count s k
  told_low h = sym (count_low h)

  pub told_high : posix_from ≤ k → get_or s.posix.n (k - posix_from) 0 ≡ count s k
  told_high h = sym (count_high h)

  pub set_low : (n : ℕ) → k < posix_from → with_counts s (record { n = set s.counts.n k n }) ≡ with_count s k n
  set_low n h = sym (with_low n h)

  pub set_high : (n : ℕ) → posix_from ≤ k → with_posix s (record { n = set s.posix.n (k - posix_from) n }) ≡ with_count s k n
  set_high n h = sym (with_high n h)
