-- `%epp` keeps soundness so far, whatever its answer. Assumes nothing.
use Rattle.std.specs.Prelude.{Result, Ok, Err, Bool}
use Prim.Native.Nat.{ℕ, ◌≤◌, ◌<◌}
use mathlib.Core.Path.{◌≡◌, refl}
use mathlib.Core.List.{List}
use mathlib.Core.Bool.{false}
use native.Mathlib.Omega.{arith}
use Rattle.scan.specs.declared.Place.{Place}
use Rattle.words.specs.declared.QuoteError.{QuoteError}
use Rattle.words.specs.declared.QuoteError.TheVariants.{NotOpened, LineInside, BadEscape, NotClosed}
use Rattle.words.specs.Words.{token_at, Tokened}
use Rattle.words.specs.Strings.{string_at, Stringed}
use Rattle.words.proofs.Words.{token_placed}
use Rattle.words.proofs.Strings.{string_placed}
use Rattle.tables.specs.Table.{cell}
use Rattle.tables.specs.Layout.{epps, repeats, key_name, width}
use Rattle.tables.proofs.Rows.{row_cell}
use Rattle.grammar.specs.declared.State.{State}
use Rattle.grammar.specs.declared.Refusal.{Refusal}
use Rattle.grammar.specs.declared.Repeat.TheVariants.{RepeatedEpp}
use Rattle.grammar.specs.Cells.{epp_cells}
use Rattle.grammar.specs.State.{Passed, count, gap_at, Gapped}
use Rattle.grammar.specs.Sound.{AllTables, Far}
use Rattle.grammar.proofs.Kept.{gapped, Far2, once_held, behind2_far}
use Rattle.epps.specs.Epps.{epp_given, epp_string, epp_text, epp_gap, epp_value, epp_key, epp_from, epp_decl}

module _ {src : List ℕ} {done : ℕ} {s : State} {T : AllTables} (f : Far src done s T) where
  -- the key of an earlier row
  first : (r : ℕ) → r < count s epps → Passed src (cell (width epps) T.t5 r 0) (cell (width epps) T.t5 r 1)
  first r l = rw (← row_cell (width epps) T.t5 r 0 (omega arith), ← row_cell (width epps) T.t5 r 1 (omega arith)) ((f.tables epps).each r l).key

  given_far : (i j from to v e : ℕ) → Passed src i j → Passed src from to → Passed src v e → string_at src v ≡ Ok e → s.at ≤ e → Far2 src done T epps repeats (epp_given src s i j from to v e T.t5 T.t10)
  unfolding epp_given
  given_far i j from to v e p q w c h =
      behind2_far false e _ h w.inside (once_held f epps (omega arith) (λ z. omega arith) key_name RepeatedEpp (epp_cells i j from to v e) refl (record { key = p; name = q; text = w; closed = c }) (λ r l. tt) first p)

  text_far : (i j from to v : ℕ) → Passed src i j → Passed src from to → s.at ≤ v → Far2 src done T epps repeats (epp_text src s i j from to v T.t5 T.t10)
  unfolding epp_text
  text_far i j from to v p q h = go (string_at src v) refl (string_placed src v (string_at src v) refl).1
    where
      go : (t : Result ℕ QuoteError) → string_at src v ≡ t → Stringed src v t → Far2 src done T epps repeats (epp_string t src s i j from to v T.t5 T.t10)
      go (Ok e) c x = let a = x.0 in given_far i j from to v e p q (record { onward = omega arith; inside = x.1 }) c (omega arith)
      go (Err (NotOpened k)) c x = f
      go (Err (LineInside k)) c x = f
      go (Err (BadEscape k)) c x = f
      go (Err (NotClosed k)) c x = f

  pub epp_far : Far2 src done T epps repeats (epp_decl src s T.t5 T.t10)
  unfolding epp_decl epp_value
  epp_far = go (gap_at s.kind false src s.at) (gapped s.kind false src s.at f.here)
    where
      value : (i j from to : ℕ) → Passed src i j → Passed src from to → s.at ≤ j → (g : Result (ℕ × ℕ) Refusal) → Gapped src j g → Far2 src done T epps repeats (epp_gap g src s i j from to T.t5 T.t10)
      value i j from to p q h (Ok (v, n)) x = let a = x.0 in text_far i j from to v p q (omega arith)
      value i j from to p q h (Err e) x = f

      key : (i : ℕ) → s.at ≤ i → (t : Result (Place × ℕ × Bool) ℕ) → Tokened src i t → Far2 src done T epps repeats (epp_key t i src s T.t5 T.t10)
      key i h (Ok (p, end, q)) x =
          let a = x.0 in
          let b = x.1 in
          let c = x.2 in
          let d = x.3 in
          value i end p.from p.to (record { onward = omega arith; inside = d }) (record { onward = omega arith; inside = omega arith }) (omega arith) (gap_at s.kind false src end) (gapped s.kind false src end d)
      key i h (Err k) x = f

      go : (g : Result (ℕ × ℕ) Refusal) → Gapped src s.at g → Far2 src done T epps repeats (epp_from g src s T.t5 T.t10)
      go (Ok (i, n)) x = let a = x.0 in key i (omega arith) (token_at src i) (token_placed src i (token_at src i) refl).1
      go (Err e) x = f
