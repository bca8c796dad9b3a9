-- `%epp` stands in the source, and its refusals are fatal ones of the source. Assumes nothing.
use Rattle.std.specs.Prelude.{Result, Ok, Err, Bool}
use Prim.Native.Nat.{ℕ, ◌≤◌}
use mathlib.Core.Path.{refl}
use mathlib.Core.List.{List}
use mathlib.Core.Bool.{false}
use native.Mathlib.Omega.{arith}
use lib.ListN.{length}
use Rattle.scan.specs.declared.Place.{Place}
use Rattle.words.specs.declared.QuoteError.{QuoteError}
use Rattle.words.specs.declared.QuoteError.TheVariants.{NotOpened, LineInside, BadEscape, NotClosed}
use Rattle.words.specs.Words.{token_at, Tokened}
use Rattle.words.specs.Strings.{string_at, Stringed}
use Rattle.words.proofs.Words.{token_placed}
use Rattle.words.proofs.Strings.{string_placed}
use Rattle.tables.specs.Layout.{epps, key_name, width}
use Rattle.grammar.specs.declared.State.{State}
use Rattle.grammar.specs.declared.Refusal.{Refusal}
use Rattle.grammar.specs.declared.Repeat.TheVariants.{RepeatedEpp}
use Rattle.grammar.specs.Cells.{epp_cells}
use Rattle.grammar.specs.State.{Passed, gap_at}
use Rattle.epps.specs.Epps.{epp_given, epp_string, epp_text, epp_gap, epp_value, epp_key, epp_from, epp_decl}
use Rattle.refusals.specs.Steps.{GapIn, Sited2}
use Rattle.refusals.proofs.Steps.{gap_in, pass_in, once_in}

module _ (src : List ℕ) (P : Type 0) (s : State) (h : s.at ≤ length src) (t5 t10 : List ℕ) where
  text_in : (i j from to v : ℕ) → Passed src i j → v ≤ length src → Sited2 src P (epp_text src s i j from to v t5 t10)
  unfolding epp_text epp_given
  text_in i j from to v p l = go (string_at src v) (string_placed src v (string_at src v) refl).1
    where
      go : (r : Result ℕ QuoteError) → Stringed src v r → Sited2 src P (epp_string r src s i j from to v t5 t10)
      go (Ok e) x = pass_in src P false e x.1 (once_in src P s h epps (width epps) key_name RepeatedEpp (epp_cells i j from to v e) t5 t10 (omega arith) p)
      go (Err (NotOpened k)) x = record { here = h; stops = omega arith }
      go (Err (LineInside k)) x = let b = x.1 in record { here = h; stops = omega arith }
      go (Err (BadEscape k)) x = let b = x.1 in record { here = h; stops = omega arith }
      go (Err (NotClosed k)) x = record { here = h; stops = omega arith }

  pub epp_in : Sited2 src P (epp_decl src s t5 t10)
  unfolding epp_decl epp_value
  epp_in = go (gap_at s.kind false src s.at) (gap_in s.kind false src P s.at h)
    where
      value : (i j from to : ℕ) → Passed src i j → (g : Result (ℕ × ℕ) Refusal) → GapIn src P j g → Sited2 src P (epp_gap g src s i j from to t5 t10)
      value i j from to p (Ok (v, n)) x = text_in i j from to v p x.inside
      value i j from to p (Err e) x = record { here = h; stops = x }

      key : (i : ℕ) → i ≤ length src → (r : Result (Place × ℕ × Bool) ℕ) → Tokened src i r → Sited2 src P (epp_key r i src s t5 t10)
      key i l (Ok (p, end, q)) x =
          let a = x.0 in
          let b = x.1 in
          let c = x.2 in
          let d = x.3 in
          value i end p.from p.to (record { onward = omega arith; inside = d }) (gap_at s.kind false src end) (gap_in s.kind false src P end d)
      key i l (Err k) x = record { here = h; stops = omega arith }

      go : (g : Result (ℕ × ℕ) Refusal) → GapIn src P s.at g → Sited2 src P (epp_from g src s t5 t10)
      go (Ok (i, n)) x = key i x.inside (token_at src i) (token_placed src i (token_at src i) refl).1
      go (Err e) x = record { here = h; stops = x }
