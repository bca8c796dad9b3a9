-- Strings: one law for each way through the scan, as rules for `search`; and where the answers lie. Assumes nothing.
use Rattle.std.specs.Prelude.{Result, Ok, Err}
use Prim.Native.Nat.{ℕ, ◌+◌, ◌≤◌, ◌<◌}
use mathlib.Core.Path.{◌≡◌, refl, sym, ◌∙◌}
use mathlib.Core.List.{List, [], ◌∷◌}
use mathlib.Core.Bool.{Bool, true, false, not}
use native.Mathlib.Omega.{arith}
use lib.Dec.{eqb, leb}
use lib.ListN.{length, get_or, drop, drop_of_length-le}
use borrow.Author.Tests.{le-leb, lt-leb, leb-false, eq-eqb, ne_eqb, not-true, not-false}
use types.Run.{OneOf}
use Rattle.scan.specs.Scan.{is_eol}
use Rattle.scan.proofs.Bytes.{drop_at, drop_key, ends, eol_yes, eol_no, on_test, drop_next, drop_below, drop_ended}
use Rattle.words.specs.Words.{is_quote}
use Rattle.words.specs.Strings.{Mode, plain, escape, string, string_from, string_at, Stringed}
use Rattle.words.specs.declared.QuoteError.{QuoteError}
use Rattle.words.specs.declared.QuoteError.TheVariants.{NotOpened, LineInside, BadEscape, NotClosed}

module _ (s : List ℕ) (from : ℕ) where
  pub string_end_lem : length s ≤ from → Err (NotOpened from) ≡ string_at s from
  unfolding string_at
  string_end_lem h = rw (le-leb _ _ h, string_at)

  module _ (b : Bool) (h : from < length s) (q : b ≡ is_quote (get_or s from 0)) where
    pub string_no : not b ≡ true → Err (NotOpened from) ≡ string_at s from
    unfolding string_at
    string_no t = rw (lt-leb _ _ h, sym q ∙ not-true b t, string_at)

    pub string_opens : not b ≡ false → string_from (get_or s from 0) plain s (from + 1) ≡ string_at s from
    unfolding string_at
    string_opens t = rw (lt-leb _ _ h, sym q ∙ not-false b t, string_at)

module _ (q : ℕ) (s : List ℕ) (j : ℕ) (r : Result ℕ QuoteError) (inv : string_from q plain s j ≡ r) where
  pub s_end : length s ≤ j → Err (NotClosed j) ≡ r
  unfolding string string_from
  s_end h = rw (drop_of_length-le s h) at inv

  module _ (h : j < length s) where
    pub s_closed : get_or s j 0 ≡ q → Ok (j + 1) ≡ r
    unfolding string string_from
    s_closed e = rw (drop_at s j h, eq-eqb _ _ e, string) at inv

    module _ (f : get_or s j 0 ≡ q → ⊥) where
      pub s_line : OneOf ends (get_or s j 0) → Err (LineInside j) ≡ r
      unfolding string string_from
      s_line o = rw (drop_at s j h, ne_eqb _ _ f, eol_yes _ o, string) at inv

      pub s_on : (OneOf ends (get_or s j 0) → ⊥) → (get_or s j 0 ≡ 92 → ⊥) → string_from q plain s (j + 1) ≡ r
      unfolding string string_from
      s_on o g = rw (drop_at s j h, ne_eqb _ _ f, eol_no _ o, ne_eqb _ _ g, string) at inv

      module _ (e : get_or s j 0 ≡ 92) where
        back : string_from q (escape j) s (j + 1) ≡ r
        unfolding string string_from is_eol
        back = let g : eqb 92 q ≡ false = ne_eqb _ _ (λ z. f (e ∙ z)) in rw (drop_key s j 92 h e, g, string) at inv

        pub s_last : length s ≤ j + 1 → Err (BadEscape j) ≡ r
        unfolding string string_from
        s_last k = rw (drop_of_length-le s k) at back

        module _ (k : j + 1 < length s) (b : Bool) (c : b ≡ is_quote (get_or s (j + 1) 0)) where
          pub s_bad : not b ≡ true → Err (BadEscape j) ≡ r
          unfolding string string_from
          s_bad t = rw (drop_at s (j + 1) k, sym c ∙ not-true b t, string) at back

          pub s_escaped : not b ≡ false → string_from q plain s (j + 1 + 1) ≡ r
          unfolding string string_from
          s_escaped t = rw (drop_at s (j + 1) k, sym c ∙ not-false b t, string) at back

module _ (q : ℕ) (s : List ℕ) (from : ℕ) where
  abbrev Ready : Mode → ℕ → Type 0
  Ready plain i = from < i
  Ready (escape b) i = (from < b) × (b < i)

  place : (l : List ℕ) (mode : Mode) (i : ℕ) → drop i s ≡ l → i ≤ length s → Ready mode i → Stringed s from (string q mode l i)
  unfolding string
  place [] plain i d h x = drop_ended s i d h
  place [] (escape b) i d h x = let k = x.1 in (x.0, omega arith)
  place (c ∷ cs) plain i d h x =
      let y = drop_below s i c cs d in
      let on : (mode : Mode) → Ready mode (i + 1) → Stringed s from (string q mode cs (i + 1)) = λ mode. place cs mode (i + 1) (drop_next s i c cs d) (omega arith) in
      on_test (Stringed s from) (eqb c q) _ _ (λ e. (omega arith, omega arith))
      (λ f. on_test (Stringed s from) (is_eol c) _ _ (λ e. (x, y))
      (λ g. on_test (Stringed s from) (eqb c 92) _ _ (λ e. on (escape i) (x, omega arith)) (λ e. on plain (omega arith))))
  place (c ∷ cs) (escape b) i d h x =
      let y = drop_below s i c cs d in
      let k = x.1 in
      let o = x.0 in
      on_test (Stringed s from) (is_quote c) _ _
      (λ e. place cs plain (i + 1) (drop_next s i c cs d) (omega arith) (omega arith))
      (λ e. (o, omega arith))

module _ (s : List ℕ) (from : ℕ) where
  strings : Stringed s from (string_at s from)
  unfolding string_at string_from
  strings =
      on_test (Stringed s from) (leb (length s) from) _ _ (λ e. refl)
      (λ f. let h : from < length s = leb-false _ _ f in
      on_test (Stringed s from) (is_quote (get_or s from 0)) _ _
      (λ e. place (get_or s from 0) s from (drop (from + 1) s) plain (from + 1) refl (omega arith) (omega arith))
      (λ e. refl))

  pub string_placed : (r : Result ℕ QuoteError) → r ≡ string_at s from → (r ≡ string_at s from) × Stringed s from r
  string_placed r e = (e, rw e strings)
