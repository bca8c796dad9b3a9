-- `%epp` leaves the count of every table but 5 and 10. Assumes nothing.
use Rattle.std.specs.Prelude.{Result, Ok, Err, Bool}
use Prim.Native.Nat.{ℕ}
use mathlib.Core.Path.{◌≡◌}
use mathlib.Core.List.{List}
use mathlib.Core.Bool.{false}
use Rattle.scan.specs.declared.Place.{Place}
use Rattle.words.specs.declared.QuoteError.{QuoteError}
use Rattle.words.specs.declared.QuoteError.TheVariants.{NotOpened, LineInside, BadEscape, NotClosed}
use Rattle.words.specs.Words.{token_at}
use Rattle.words.specs.Strings.{string_at}
use Rattle.tables.specs.Layout.{epps, repeats, key_name, width}
use Rattle.grammar.specs.declared.State.{State}
use Rattle.grammar.specs.declared.Refusal.{Refusal}
use Rattle.grammar.specs.declared.Repeat.TheVariants.{RepeatedEpp}
use Rattle.grammar.specs.Cells.{epp_cells}
use Rattle.grammar.specs.State.{gap_at, once_step}
use Rattle.grammar.proofs.Spares.{Spares, spares_none, spares_once, spares_behind}
use Rattle.epps.specs.Epps.{epp_given, epp_string, epp_text, epp_gap, epp_value, epp_key, epp_from, epp_decl}

module _ (k : ℕ) (other : epps ≡ k → ⊥) (tenth : repeats ≡ k → ⊥) (src : List ℕ) (s : State) (t5 t10 : List ℕ) where
  given : (i j from to v e : ℕ) → Spares k s.counts (epp_given src s i j from to v e t5 t10).state.counts
  unfolding epp_given
  given i j from to v e =
      let row = epp_cells i j from to v e in
      let o = once_step src s epps (width epps) key_name RepeatedEpp row t5 t10 in
      spares_behind k src false e o.answer o.state (spares_once k src s epps (width epps) key_name RepeatedEpp row t5 t10 other tenth)

  text : (i j from to v : ℕ) → Spares k s.counts (epp_text src s i j from to v t5 t10).state.counts
  unfolding epp_text
  text i j from to v = go (string_at src v)
    where
      go : (q : Result ℕ QuoteError) → Spares k s.counts (epp_string q src s i j from to v t5 t10).state.counts
      go (Ok e) = given i j from to v e
      go (Err (NotOpened e)) = spares_none k s.counts
      go (Err (LineInside e)) = spares_none k s.counts
      go (Err (BadEscape e)) = spares_none k s.counts
      go (Err (NotClosed e)) = spares_none k s.counts

  value : (i j from to : ℕ) → Spares k s.counts (epp_value src s i j from to t5 t10).state.counts
  unfolding epp_value
  value i j from to = go (gap_at s.kind false src j)
    where
      go : (g : Result (ℕ × ℕ) Refusal) → Spares k s.counts (epp_gap g src s i j from to t5 t10).state.counts
      go (Ok (v, n)) = text i j from to v
      go (Err f) = spares_none k s.counts

  pub epp_spares : Spares k s.counts (epp_decl src s t5 t10).state.counts
  unfolding epp_decl
  epp_spares = go (gap_at s.kind false src s.at)
    where
      key : (i : ℕ) (x : Result (Place × ℕ × Bool) ℕ) → Spares k s.counts (epp_key x i src s t5 t10).state.counts
      key i (Ok (p, end, q)) = value i end p.from p.to
      key i (Err e) = spares_none k s.counts

      go : (g : Result (ℕ × ℕ) Refusal) → Spares k s.counts (epp_from g src s t5 t10).state.counts
      go (Ok (i, n)) = key i (token_at src i)
      go (Err f) = spares_none k s.counts
