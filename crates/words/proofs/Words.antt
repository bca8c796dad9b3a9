-- Names and tokens: one law for each answer, as rules for `search`; and where the answers lie. Assumes nothing.
use Rattle.std.specs.Prelude.{Option, Some, None, Result, Ok, Err}
use Prim.Native.Nat.{ℕ, ◌+◌, ◌≤◌, ◌<◌}
use mathlib.Core.Path.{◌≡◌, refl, sym, ◌∙◌}
use mathlib.Core.List.{List}
use mathlib.Core.Bool.{Bool, true, false}
use native.Mathlib.Omega.{arith}
use lib.Dec.{leb, eqb}
use lib.ListN.{length, get_or}
use borrow.Author.Tests.{le-leb, lt-leb, leb-false, eq-eqb, ne_eqb}
use Rattle.scan.specs.declared.Class.{Class}
use Rattle.scan.specs.declared.Class.TheVariants.{NameStart, NameByte, TokenStart, TokenByte, Unquoted}
use Rattle.scan.specs.Scan.{is_at, in_class, run_end_at}
use Rattle.scan.proofs.Bytes.{on_test, at_true}
use Rattle.scan.proofs.Runs.{run_is}
use Rattle.words.specs.Words.{word_at, named, name_at, is_quote, found, closed, quoted_at, bare, token_at, Worded, Named, Tokened}
use Rattle.scan.specs.declared.Place.{Place}

module _ (first rest : Class) (s : List ℕ) (from : ℕ) where
  pub word_end : length s ≤ from → None ≡ word_at first rest s from
  unfolding word_at
  word_end h = rw (le-leb _ _ h, word_at)

  module _ (b : Bool) (h : from < length s) (q : b ≡ in_class first (get_or s from 0)) where
    pub word_no : b ≡ false → None ≡ word_at first rest s from
    unfolding word_at
    word_no t = rw (lt-leb _ _ h, sym q ∙ t, word_at)

    pub word_to : (to : ℕ) → b ≡ true → to ≡ run_end_at (in_class rest) s (from + 1) → Some to ≡ word_at first rest s from
    unfolding word_at
    word_to to t e = rw (lt-leb _ _ h, sym q ∙ t, word_at, e)

  words : Worded s from (word_at first rest s from)
  unfolding word_at
  words =
      on_test (Worded s from) (leb (length s) from) _ _ (λ e. tt)
      (λ f. on_test (Worded s from) (in_class first (get_or s from 0)) _ _ (λ e. go (leb-false _ _ f)) (λ e. tt))
    where
      go : from < length s → (from < run_end_at (in_class rest) s (from + 1)) × (run_end_at (in_class rest) s (from + 1) ≤ length s)
      go h = let x = run_is (in_class rest) s (from + 1) (omega arith) in let a = x.onward in (omega arith, x.inside)

  -- both clauses of `word_at`, from the first
  pub word_placed : (r : Option ℕ) → r ≡ word_at first rest s from → (r ≡ word_at first rest s from) × Worded s from r
  word_placed r e = (e, rw e words)

module _ (s : List ℕ) (from : ℕ) where
  module _ (w : Option ℕ) (q : w ≡ word_at NameStart NameByte s from) where
    pub name_to : (to : ℕ) → w ≡ Some to → Ok to ≡ name_at s from
    unfolding name_at named
    name_to to e = rw (sym q ∙ e)

    pub name_no : w ≡ None → Err from ≡ name_at s from
    unfolding name_at named
    name_no e = rw (sym q ∙ e)

  names : Named s from (name_at s from)
  unfolding name_at named
  names = go (word_at NameStart NameByte s from) (words NameStart NameByte s from)
    where
      go : (w : Option ℕ) → Worded s from w → Named s from (named from w)
      go (Some to) h = h
      go None h = refl

  pub name_placed : (r : Result ℕ ℕ) → r ≡ name_at s from → (r ≡ name_at s from) × Named s from r
  name_placed r e = (e, rw e names)

module _ (q : ℕ) (s : List ℕ) (from : ℕ) where
  closed_yes : (to : ℕ) → is_at q s to ≡ true → found (from + 1) to (to + 1) true ≡ closed q s from to
  unfolding closed
  closed_yes to t = rw (t, closed)

  closed_no : (to : ℕ) → is_at q s to ≡ false → Err from ≡ closed q s from to
  unfolding closed
  closed_no to t = rw (t, closed)

  pub quoted_short : length s ≤ from + 1 → Err from ≡ quoted_at q s from
  unfolding quoted_at
  quoted_short h = rw (le-leb _ _ h, quoted_at)

  module _ (h : from + 1 < length s) where
    pub quoted_lf : get_or s (from + 1) 0 ≡ 10 → Err from ≡ quoted_at q s from
    unfolding quoted_at
    quoted_lf e = rw (lt-leb _ _ h, eq-eqb _ _ e, quoted_at)

    module _ (f : get_or s (from + 1) 0 ≡ 10 → ⊥) (to : ℕ) (e : to ≡ run_end_at (in_class (Unquoted q)) s (from + 1 + 1)) (b : Bool) (c : b ≡ is_at q s to) where
      pub quoted_found_lem : b ≡ true → found (from + 1) to (to + 1) true ≡ quoted_at q s from
      unfolding quoted_at
      quoted_found_lem t = rw (lt-leb _ _ h, ne_eqb _ _ f, quoted_at, ← e) (closed_yes to (sym c ∙ t))

      pub quoted_open : b ≡ false → Err from ≡ quoted_at q s from
      unfolding quoted_at
      quoted_open t = rw (lt-leb _ _ h, ne_eqb _ _ f, quoted_at, ← e) (closed_no to (sym c ∙ t))

  quotes : Tokened s from (quoted_at q s from)
  unfolding quoted_at closed
  quotes =
      on_test (Tokened s from) (leb (length s) (from + 1)) _ _ (λ e. refl)
      (λ f. on_test (Tokened s from) (eqb (get_or s (from + 1) 0) 10) _ _ (λ e. refl)
      (λ g. on_test (Tokened s from) (is_at q s to) _ _ (λ e. inside (leb-false _ _ f) (at_true s to q e).0) (λ e. refl)))
    where
      to : ℕ
      to = run_end_at (in_class (Unquoted q)) s (from + 1 + 1)

      inside : from + 1 < length s → to < length s → Tokened s from (found (from + 1) to (to + 1) true)
      inside h k =
          let x = run_is (in_class (Unquoted q)) s (from + 1 + 1) (omega arith) in
          let a = x.onward in
          (omega arith, omega arith, omega arith, omega arith)

  pub quoted_placed : (r : Result (Place × ℕ × Bool) ℕ) → r ≡ quoted_at q s from → (r ≡ quoted_at q s from) × Tokened s from r
  quoted_placed r e = (e, rw e quotes)

module _ (s : List ℕ) (from : ℕ) where
  pub token_end : length s ≤ from → Err from ≡ token_at s from
  unfolding token_at
  token_end h = rw (le-leb _ _ h, token_at)

  module _ (b : Bool) (h : from < length s) (q : b ≡ is_quote (get_or s from 0)) where
    pub token_quoted : (r : Result (Place × ℕ × Bool) ℕ) → b ≡ true → r ≡ quoted_at (get_or s from 0) s from → r ≡ token_at s from
    unfolding token_at
    token_quoted r t e = rw (lt-leb _ _ h, sym q ∙ t, token_at) e

    module _ (t : b ≡ false) (w : Option ℕ) (c : w ≡ word_at TokenStart TokenByte s from) where
      pub token_bare : (to : ℕ) → w ≡ Some to → found from to to false ≡ token_at s from
      unfolding token_at bare
      token_bare to e = rw (lt-leb _ _ h, sym q ∙ t, token_at, ← c, e)

      pub token_no : w ≡ None → Err from ≡ token_at s from
      unfolding token_at bare
      token_no e = rw (lt-leb _ _ h, sym q ∙ t, token_at, ← c, e)

  tokens : Tokened s from (token_at s from)
  unfolding token_at bare
  tokens =
      on_test (Tokened s from) (leb (length s) from) _ _ (λ e. refl)
      (λ f. on_test (Tokened s from) (is_quote (get_or s from 0)) _ _
      (λ e. quotes (get_or s from 0) s from)
      (λ e. go (word_at TokenStart TokenByte s from) (words TokenStart TokenByte s from)))
    where
      go : (w : Option ℕ) → Worded s from w → Tokened s from (bare from w)
      go (Some to) h = let a = h.0 in let b = h.1 in (omega arith, a, omega arith, b)
      go None h = refl

  pub token_placed : (r : Result (Place × ℕ × Bool) ℕ) → r ≡ token_at s from → (r ≡ token_at s from) × Tokened s from r
  token_placed r e = (e, rw e tokens)
