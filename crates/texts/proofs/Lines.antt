-- Texts to a single colon, actions and texts to a mark tell how many lines they passed. Assumes nothing.
use Rattle.std.specs.Prelude.{Option, Some, None, Result, Ok, Err}
use Prim.Native.Nat.{ℕ, ◌+◌}
use mathlib.Core.Path.{◌≡◌, refl}
use mathlib.Core.List.{List, [], ◌∷◌}
use mathlib.Core.Bool.{false}
use native.Mathlib.Omega.{arith}
use lib.Dec.{eqb}
use lib.ListN.{drop}
use Rattle.scan.proofs.Tuples.{ok_3}
use Rattle.scan.specs.declared.Place.{Place}
use Rattle.scan.specs.Scan.{begins, is_eol}
use Rattle.scan.specs.Lines.{lines_here, lines_to}
use Rattle.scan.proofs.Bytes.{on_test, told, drop_next}
use Rattle.scan.proofs.Lines.{mark_plain, here_none, lines_next}
use Rattle.texts.specs.Colon.{Mode, plain, colon, single, single_from, single_at, colon_text, colon_text_at}
use Rattle.texts.specs.Action.{braced, braced_from, braced_at}
use Rattle.texts.specs.Mark.{mark, marked, marked_from, marked_at}

module _ (s : List ℕ) (from : ℕ) where
  -- the lines that end before index i are those before the begin, and n more
  abbrev Till : ℕ → ℕ → Type 0
  Till i n = lines_to s from + n ≡ lines_to s i

  module _ (i n c : ℕ) (cs : List ℕ) (q : drop i s ≡ c ∷ cs) (x : Till i n) where
    pass : is_eol c ≡ false → Till (i + 1) n
    pass e = let y = lines_next s i c cs q in let z = here_none c cs e in omega arith

    hit : Till (i + 1) (n + lines_here c cs)
    hit = let y = lines_next s i c cs q in omega arith

  -- what the scans that found their byte passed
  abbrev ToColon : Result (ℕ × ℕ) ℕ → Type 0
  ToColon (Ok (to, n)) = Till to n
  ToColon (Err end) = Unit {0}

  abbrev ToBrace : Option (ℕ × ℕ) → Type 0
  ToBrace (Some (to, n)) = Till to n
  ToBrace None = Unit {0}

  -- behind a colon the scan may still turn back to it
  abbrev Ready : Mode → ℕ → ℕ → Type 0
  Ready plain i n = Till i n
  Ready (colon b) i n = Till b n × Till i n

  to_colon : (l : List ℕ) (mode : Mode) (i n : ℕ) → drop i s ≡ l → Ready mode i n → ToColon (single mode l i n)
  unfolding single is_eol
  to_colon [] plain i n q x = tt
  to_colon [] (colon b) i n q x = x.0
  to_colon (c ∷ cs) plain i n q x =
      let on : (mode : Mode) (m : ℕ) → Ready mode (i + 1) m → ToColon (single mode cs (i + 1) m) = λ mode m. to_colon cs mode (i + 1) m (drop_next s i c cs q) in
      on_test ToColon (eqb c 58) _ _ (λ e. on (colon i) n (x, pass i n c cs q x (mark_plain c 58 refl e)))
      (λ f. on_test ToColon (is_eol c) _ _ (λ e. on plain (n + lines_here c cs) (hit i n c cs q x)) (λ e. on plain n (pass i n c cs q x e)))
  to_colon (c ∷ cs) (colon b) i n q x =
      on_test ToColon (eqb c 58) _ _ (λ e. to_colon cs plain (i + 1) n (drop_next s i c cs q) (pass i n c cs q x.1 (mark_plain c 58 refl e))) (λ e. x.0)

  to_brace : (l : List ℕ) (d i n : ℕ) → drop i s ≡ l → Till i n → ToBrace (braced d l i n)
  unfolding braced is_eol
  to_brace [] d i n q x = tt
  to_brace (c ∷ cs) d i n q x =
      let on : (e m : ℕ) → Till (i + 1) m → ToBrace (braced e cs (i + 1) m) = λ e m. to_brace cs e (i + 1) m (drop_next s i c cs q) in
      on_test ToBrace (eqb c 123) _ _ (λ e. on _ n (pass i n c cs q x (mark_plain c 123 refl e)))
      (λ f. on_test ToBrace (eqb c 125) _ _
      (λ e. on_test ToBrace (eqb d 0) _ _ (λ z. x) (λ z. on _ n (pass i n c cs q x (mark_plain c 125 refl e))))
      (λ g. on_test ToBrace (is_eol c) _ _ (λ e. on d (n + lines_here c cs) (hit i n c cs q x)) (λ e. on d n (pass i n c cs q x e))))

  to_mark : (l : List ℕ) (i n : ℕ) → drop i s ≡ l → Till i n → ToBrace (marked l i n)
  unfolding marked
  to_mark [] i n q x = tt
  to_mark (c ∷ cs) i n q x = on_test ToBrace (begins mark (c ∷ cs)) _ _ (λ t. x) (λ t. to_mark cs (i + 1) (n + lines_here c cs) (drop_next s i c cs q) (hit i n c cs q x))

  -- Where a single colon is found, "how many lines" end before it is told,
  pub single_tells : (to n : ℕ) → single_at s from ≡ Ok (to, n) → lines_to s from + n ≡ lines_to s to
  unfolding single_from
  single_tells to n e = told ToColon e (to_colon (drop from s) plain from 0 refl (omega arith))

  -- with the trimmed text too,
  pub text_tells : (to n : ℕ) (p : Place) → colon_text_at s from ≡ Ok (to, n, p) → lines_to s from + n ≡ lines_to s to
  unfolding colon_text_at colon_text
  text_tells to n p = go (single_at s from) refl
    where
      go : (c : Result (ℕ × ℕ) ℕ) → single_at s from ≡ c → colon_text s from c ≡ Ok (to, n, p) → lines_to s from + n ≡ lines_to s to
      go (Ok (j, m)) q e = let d = ok_3 e in let u : j ≡ to = d.0 in let v : m ≡ n = d.1 in let y = single_tells j m q in rw (u, v) at y
      go (Err end) q e = let z : ◌≡◌ {A = ℕ} 0 1 = cc in absurd (omega arith)

  -- where an action's closing brace is found, how many end inside,
  pub braced_tells : (to n : ℕ) → braced_at s from ≡ Some (to, n) → lines_to s from + n ≡ lines_to s to
  unfolding braced_from
  braced_tells to n e = told ToBrace e (to_brace (drop from s) 0 from 0 refl (omega arith))

  -- and where a mark is found, how many end before it.
  pub mark_tells : (to n : ℕ) → marked_at s from ≡ Some (to, n) → lines_to s from + n ≡ lines_to s to
  unfolding marked_from
  mark_tells to n e = told ToBrace e (to_mark (drop from s) from 0 refl (omega arith))
