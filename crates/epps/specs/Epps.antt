-- Document 01: "5 `%epp` (key place as spelled, key name, value with its quotes)"; it adds no token. "Line ends are not allowed directly behind a declaration
-- keyword, an `%epp` key [..]".
use Rattle.std.specs.Prelude.{ℕ, List, false, Result, Ok, Err, Bool}
use Rattle.scan.specs.declared.Place.{Place}
use Rattle.words.specs.declared.QuoteError.{QuoteError}
use Rattle.words.specs.declared.QuoteError.TheVariants.{NotOpened, LineInside, BadEscape, NotClosed}
use Rattle.words.specs.Words.{token_at}
use Rattle.words.specs.Strings.{string_at}
use Rattle.tables.specs.Layout.{epps, key_name, width}
use Rattle.grammar.specs.declared.State.{State}
use Rattle.grammar.specs.declared.Cause.TheVariants.{IllegalString, StringNotOpened, StringLineEnd, StringEscape, StringNotClosed}
use Rattle.grammar.specs.declared.Refusal.TheVariants.{Fault}
use Rattle.grammar.specs.declared.Repeat.TheVariants.{RepeatedEpp}
use Rattle.grammar.specs.declared.Refusal.{Refusal}
use Rattle.grammar.specs.Cells.{epp_cells}
use Rattle.grammar.specs.State.{Out2, gap_at, once_step, behind2, tied2, refused}

-- a key is given its text once: the first stays, a later one is a repeat with the keys' places
unfoldable pub epp_given : List ℕ → State → ℕ → ℕ → ℕ → ℕ → ℕ → ℕ → List ℕ → List ℕ → Out2
epp_given src s i j from to v e t5 t10 =
    behind2 src false e (once_step src s epps (width epps) key_name RepeatedEpp (epp_cells i j from to v e) t5 t10)

-- "14 InvalidString": a cause for each way a string fails
abbrev pub epp_string : Result ℕ QuoteError → List ℕ → State → ℕ → ℕ → ℕ → ℕ → ℕ → List ℕ → List ℕ → Out2
epp_string (Ok e) src s i j from to v t5 t10 = epp_given src s i j from to v e t5 t10
epp_string (Err (NotOpened k)) src s i j from to v t5 t10 = tied2 (refused (Fault StringNotOpened k) s) t5 t10
epp_string (Err (LineInside k)) src s i j from to v t5 t10 = tied2 (refused (Fault StringLineEnd k) s) t5 t10
epp_string (Err (BadEscape k)) src s i j from to v t5 t10 = tied2 (refused (Fault StringEscape k) s) t5 t10
epp_string (Err (NotClosed k)) src s i j from to v t5 t10 = tied2 (refused (Fault StringNotClosed k) s) t5 t10

unfoldable pub epp_text : List ℕ → State → ℕ → ℕ → ℕ → ℕ → ℕ → List ℕ → List ℕ → Out2
epp_text src s i j from to v t5 t10 = epp_string (string_at src v) src s i j from to v t5 t10

abbrev pub epp_gap : Result (ℕ × ℕ) Refusal → List ℕ → State → ℕ → ℕ → ℕ → ℕ → List ℕ → List ℕ → Out2
epp_gap (Ok (v, n)) src s i j from to t5 t10 = epp_text src s i j from to v t5 t10
epp_gap (Err f) src s i j from to t5 t10 = tied2 (refused f s) t5 t10

unfoldable pub epp_value : List ℕ → State → ℕ → ℕ → ℕ → ℕ → List ℕ → List ℕ → Out2
epp_value src s i j from to t5 t10 = epp_gap (gap_at s.kind false src j) src s i j from to t5 t10

abbrev pub epp_key : Result (Place × ℕ × Bool) ℕ → ℕ → List ℕ → State → List ℕ → List ℕ → Out2
epp_key (Ok (p, end, q)) i src s t5 t10 = epp_value src s i end p.from p.to t5 t10
epp_key (Err k) i src s t5 t10 = tied2 (refused (Fault IllegalString k) s) t5 t10

abbrev pub epp_from : Result (ℕ × ℕ) Refusal → List ℕ → State → List ℕ → List ℕ → Out2
epp_from (Ok (i, n)) src s t5 t10 = epp_key (token_at src i) i src s t5 t10
epp_from (Err f) src s t5 t10 = tied2 (refused f s) t5 t10

-- from behind the keyword on, which is where the state stands
unfoldable pub epp_decl : List ℕ → State → List ℕ → List ℕ → Out2
epp_decl src s t5 t10 = epp_from (gap_at s.kind false src s.at) src s t5 t10
