-- What counting and writing leave. Assumes nothing.
use Prim.Native.Nat.{ℕ, ◌+◌, ◌*◌, ◌/◌, ◌<◌, ◌≤◌, ◌^◌}
use mathlib.Core.Path.{◌≡◌, sym, ap, ◌∙◌}
use mathlib.Core.List.{List, [], ◌∷◌, ◌++◌}
use mathlib.Core.Bool.{Bool, true, false, false≢true}
use mathlib.Core.Logic.{⊎_elim}
use native.Mathlib.Omega.{arith}
use borrow.Author.Tests.{lt-ltb, le-ltb}
use lib.Dec.{ltb}
use lib.ListN.{length, length-append}
use Rattle.scan.proofs.Bytes.{le_or_lt}
use Rattle.tables.specs.Table.{zeroed}
use Rattle.reach.specs.Reach.{words_for}
use Rattle.usage.specs.Report.{Picks, Crowded, Filled, Counted, Room, Fits, Exceeds, Crowds, Written}
use Rattle.usage.proofs.Picked.{picks_yes, picks_one, picks_le, picks_bound, both_cells}

-- a row to be listed, and those before it, are no more than all of them
row_counted : {P : ℕ → Type 0} {n a : ℕ} → Counted P n a → (r : ℕ) (l : List ℕ) → r < n → Picks P r l → P r → length l < a
row_counted {P} {n} {a} x r l h p q = omega (arith, picks_le n (r + 1) x.list (l ++ (r ∷ [])) (omega arith) x.picks (picks_yes p q), length-append l (r ∷ []), x.count_is)

module _ {R T : ℕ → Type 0} {m n : ℕ} (most : ℕ) where
  -- where every row has room,
  pub fits_all : m + n ≤ most → Fits R T m n most
  fits_all h = record {
    rules = λ r l i p q. omega (arith, picks_bound p);
    tokens = λ k o r l i p q. omega (arith, picks_bound o, picks_bound p);
    both = λ l. omega (arith, picks_bound l.rules_are, picks_bound l.tokens_are);
  }

  -- and where they are counted
  module _ {a b : ℕ} (x : Counted R m a) (y : Counted T n b) where
    fits_counted : a + b ≤ most → Fits R T m n most
    fits_counted h = record {
      rules = λ r l i p q. omega (arith, row_counted x r l i p q);
      tokens = λ k o r l i p q. omega (arith, row_counted y r l i p q, ap length (picks_one o x.picks), x.count_is);
      both = λ l. omega (arith, ap length (picks_one l.rules_are x.picks), x.count_is, ap length (picks_one l.tokens_are y.picks), y.count_is);
    }

    exceeds_counted : most < a + b → Exceeds R T m n most
    exceeds_counted h = record {
      lists = record { rules = x.list; tokens = y.list; rules_are = x.picks; tokens_are = y.picks };
      more = omega (arith, x.count_is, y.count_is);
    }

    pub crowds_counted : (c : Bool) → c ≡ ltb most (a + b) → Crowds c R T m n most
    crowds_counted c e = ⊎_elim (λ h. rw (e ∙ le-ltb most (a + b) h) (fits_counted h)) (λ h. rw (e ∙ lt-ltb most (a + b) h) (exceeds_counted h)) (le_or_lt (a + b) most)

  pub crowds_yes : (b : Bool) → b ≡ true → Crowds b R T m n most → Exceeds R T m n most
  crowds_yes true e x = x
  crowds_yes false e x = absurd (false≢true e)

  pub crowds_no : (b : Bool) → b ≡ false → Crowds b R T m n most → Fits R T m n most
  crowds_no false e x = x
  crowds_no true e x = absurd (false≢true (sym e))

-- a report of as many rows as half its cells
module _ {R T : ℕ → Type 0} {m n : ℕ} (out₀ : List ℕ) where
  pub crowded_by : Exceeds R T m n (length out₀ / 2) → Crowded R T m n out₀
  crowded_by x = record { lists = x.lists; room = omega (arith, x.more) }

  module _ (f : Fits R T m n (length out₀ / 2)) where
    pub first_room : (out : List ℕ) → length out ≡ length out₀ → Room R m 0 out
    first_room out e = record { room = λ r l i p q. omega (arith, f.rules r l i p q) }

    pub second_room : {next : ℕ} {out0 out1 : List ℕ} → length out1 ≡ length out₀ → Written R 1 m 0 next out0 out1 → Room T n next out1
    second_room e v = record { room = λ r l i p q. omega (arith, f.tokens v.list v.picks r l i p q, v.next_is) }

    pub filled_by : {next all : ℕ} {out0 out1 out2 : List ℕ} → out0 ≡ zeroed out₀ → Written R 1 m 0 next out0 out1 → Written T 2 n next all out1 out2 → Filled R T m n all out₀ out2
    filled_by {next} {all} {out0} {out1} {out2} e v w =
        let k : (length v.list + length w.list) * 2 ≤ length out₀ = omega (arith, f.both (record { rules = v.list; tokens = w.list; rules_are = v.picks; tokens_are = w.picks })) in
        record {
          lists = record { rules = v.list; tokens = w.list; rules_are = v.picks; tokens_are = w.picks };
          count_is = omega (arith, v.next_is, w.next_is);
          room = k;
          cells = both_cells (length out₀) v.list w.list out1 out2 next (omega (arith, v.next_is)) k (rw e at v.cells) w.cells;
        }

-- the bit of the first token lies low
pub base_low : (n : ℕ) → n < 2 ^ 32 → words_for n * 32 < 2 ^ 40
base_low n h = omega arith
