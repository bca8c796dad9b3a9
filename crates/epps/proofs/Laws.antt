-- What each step of `%epp` is under each answer of the words and of the spacing, and where it comes to stand. Assumes nothing.
use Rattle.std.specs.Prelude.{Result, Ok, Err}
use Prim.Native.Nat.{ℕ}
use mathlib.Core.Path.{◌≡◌}
use mathlib.Core.List.{List}
use mathlib.Core.Bool.{Bool, false}
use Rattle.scan.specs.declared.Place.{Place}
use Rattle.words.specs.declared.QuoteError.{QuoteError}
use Rattle.words.specs.declared.QuoteError.TheVariants.{NotOpened, LineInside, BadEscape, NotClosed}
use Rattle.words.specs.Words.{token_at}
use Rattle.words.specs.Strings.{string_at}
use Rattle.grammar.specs.declared.State.{State}
use Rattle.grammar.specs.declared.Cause.TheVariants.{IllegalString, StringNotOpened, StringLineEnd, StringEscape, StringNotClosed}
use Rattle.grammar.specs.declared.Refusal.{Refusal}
use Rattle.grammar.specs.declared.Refusal.TheVariants.{Fault}
use Rattle.grammar.specs.State.{Out2, gap_at, tied2, refused}
use Rattle.epps.specs.Epps.{epp_given, epp_text, epp_value, epp_decl}

-- the text
module _ (src : List ℕ) (s : State) (i j from to v : ℕ) (t5 t10 : List ℕ) (r : Result ℕ QuoteError) (q : r ≡ string_at src v) where
  pub text_closed : (e : ℕ) (o : Out2) → r ≡ Ok e → o ≡ epp_given src s i j from to v e t5 t10 → o ≡ epp_text src s i j from to v t5 t10
  unfolding epp_text
  text_closed e o g h = rw (← q, g) h

  pub text_not_opened : (k : ℕ) → r ≡ Err (NotOpened k) → tied2 (refused (Fault StringNotOpened k) s) t5 t10 ≡ epp_text src s i j from to v t5 t10
  unfolding epp_text
  text_not_opened k g = rw (← q, g)

  pub text_line : (k : ℕ) → r ≡ Err (LineInside k) → tied2 (refused (Fault StringLineEnd k) s) t5 t10 ≡ epp_text src s i j from to v t5 t10
  unfolding epp_text
  text_line k g = rw (← q, g)

  pub text_escape : (k : ℕ) → r ≡ Err (BadEscape k) → tied2 (refused (Fault StringEscape k) s) t5 t10 ≡ epp_text src s i j from to v t5 t10
  unfolding epp_text
  text_escape k g = rw (← q, g)

  pub text_not_closed : (k : ℕ) → r ≡ Err (NotClosed k) → tied2 (refused (Fault StringNotClosed k) s) t5 t10 ≡ epp_text src s i j from to v t5 t10
  unfolding epp_text
  text_not_closed k g = rw (← q, g)

-- the spacing behind the key
module _ (src : List ℕ) (s : State) (i j from to : ℕ) (t5 t10 : List ℕ) (r : Result (ℕ × ℕ) Refusal) (q : r ≡ gap_at s.kind false src j) where
  pub value_at : (v n : ℕ) (o : Out2) → r ≡ Ok (v, n) → o ≡ epp_text src s i j from to v t5 t10 → o ≡ epp_value src s i j from to t5 t10
  unfolding epp_value
  value_at v n o g h = rw (← q, g) h

  pub value_refused : (f : Refusal) → r ≡ Err f → tied2 (refused f s) t5 t10 ≡ epp_value src s i j from to t5 t10
  unfolding epp_value
  value_refused f g = rw (← q, g)

-- from behind the keyword on
module _ (src : List ℕ) (s : State) (t5 t10 : List ℕ) (r : Result (ℕ × ℕ) Refusal) (q : r ≡ gap_at s.kind false src s.at) where
  pub decl_refused : (f : Refusal) → r ≡ Err f → tied2 (refused f s) t5 t10 ≡ epp_decl src s t5 t10
  unfolding epp_decl
  decl_refused f g = rw (← q, g)

  module _ (i n : ℕ) (g : r ≡ Ok (i, n)) (w : Result (Place × ℕ × Bool) ℕ) (u : w ≡ token_at src i) where
    pub decl_key : (p : Place) (end : ℕ) (b : Bool) (o : Out2) → w ≡ Ok (p, end, b) → o ≡ epp_value src s i end p.from p.to t5 t10 → o ≡ epp_decl src s t5 t10
    unfolding epp_decl
    decl_key p end b o e h = rw (← q, g, ← u, e) h

    pub decl_none : (k : ℕ) → w ≡ Err k → tied2 (refused (Fault IllegalString k) s) t5 t10 ≡ epp_decl src s t5 t10
    unfolding epp_decl
    decl_none k e = rw (← q, g, ← u, e)
