-- Sound tables are ready: what pruning goes by is part of soundness. Assumes nothing.
use Prim.Native.Nat.{ℕ, zero, suc, ◌≤◌, ◌<◌}
use mathlib.Core.Path.{◌≡◌}
use mathlib.Core.List.{List}
use native.Mathlib.Omega.{arith}
use native.Mathlib.Decide.{dec_lt}
use lib.ListN.{length, get_or}
use Rattle.tables.specs.Rows.{row_at, end_before, Chained}
use Rattle.tables.specs.Layout.{tokens, avoided, epps, rules, productions, symbols, rule_row, symbols_from, symbols_to, width}
use Rattle.tables.proofs.Rows.{row_cell}
use Rattle.grammar.specs.declared.Counts.{Counts}
use Rattle.grammar.specs.declared.Singles.{Singles}
use Rattle.grammar.specs.Sound.{Tables, Indexes, Sound}
use Rattle.sound.specs.Test.{count_at}
use Rattle.pruning.proofs.Forth.{Ready}

-- ranges that follow one another: none begins before an earlier one ends, and none ends behind the last
module _ (w from to n : ℕ) (t : List ℕ) (e : ℕ) (x : Chained w from to n t e) where
  chain_up : (p q : ℕ) → p < q → q ≤ n → get_or (row_at w t p) to 0 ≤ end_before w to t q
  unfolding end_before
  chain_up p zero h l = absurd (omega arith)
  chain_up p (suc q) h l = go (dec_lt p q) (chain_up p q)
    where
      go : Dec (p < q) → (p < q → q ≤ n → get_or (row_at w t p) to 0 ≤ end_before w to t q) → get_or (row_at w t p) to 0 ≤ get_or (row_at w t q) to 0
      go (yes k) f = let a = f k (omega arith) in let b = x.begins q (omega arith) in let o = x.onward q (omega arith) in omega arith
      go (no k) f = let z : p ≡ q = omega arith in rw z (omega arith)

pub sound_ready : (src : List ℕ) (c : Counts) (g : Singles) (T : Tables) (X : Indexes) → length c.n ≡ 10 → Sound src c g T X → Ready c T
sound_ready src c g T X ten s =
    let n = count_at c productions in
    let r = s.ranges in
    record {
      ten = ten;
      tokens_fit = s.fits tokens (omega arith);
      avoided_fit = s.fits avoided (omega arith);
      epps_fit = s.fits epps (omega arith);
      rules_fit = s.fits rules (omega arith);
      productions_fit = s.fits productions (omega arith);
      symbols_fit = s.fits symbols (omega arith);
      owned = λ p h. let a = (s.rows productions p (omega arith) h).rule in let b = row_cell (width productions) T.t8 p rule_row (omega arith) in omega arith;
      onward = λ p h. let a = r.onward p h in let b = row_cell (width productions) T.t8 p symbols_from (omega arith) in let d = row_cell (width productions) T.t8 p symbols_to (omega arith) in omega arith;
      apart = λ p q l h. let a = chain_up (width productions) symbols_from symbols_to n T.t8 (count_at c symbols) r p q l (omega arith) in let b = r.begins q h in let d = row_cell (width productions) T.t8 p symbols_to (omega arith) in let f = row_cell (width productions) T.t8 q symbols_from (omega arith) in omega arith;
      ranges = λ p h. let a = chain_up (width productions) symbols_from symbols_to n T.t8 (count_at c symbols) r p n h (omega arith) in let b = r.last in let d = row_cell (width productions) T.t8 p symbols_to (omega arith) in omega arith;
    }
