-- Document 01, "Declarations": those that give one thing. "Line ends are not allowed directly behind a declaration keyword, an `%epp` key or `%parse-param`'s
-- colon; elsewhere they are."
use Rattle.std.specs.Prelude.{ℕ, ◌+◌, List, Bool, true, false, Option, Some, None, Result, Ok, Err}
use Rattle.words.specs.declared.IntError.{IntError}
use Rattle.words.specs.declared.IntError.TheVariants.{NoDigits, TooLarge}
use Rattle.words.specs.Words.{name_at}
use Rattle.words.specs.Numbers.{int_at}
use Rattle.scan.specs.declared.Place.{Place}
use Rattle.texts.specs.Colon.{colon_text_at}
use Rattle.texts.specs.Line.{line_end_at}
use Rattle.grammar.specs.declared.State.{State}
use Rattle.grammar.specs.declared.Cause.TheVariants.{IllegalName, IntegerEmpty, IntegerTooLarge, ReachedEnd}
use Rattle.grammar.specs.declared.Refusal.TheVariants.{Fault}
use Rattle.grammar.specs.declared.Answer.TheVariants.{Going}
use Rattle.grammar.specs.declared.Repeat.{Repeat}
use Rattle.grammar.specs.declared.Repeat.TheVariants.{RepeatedExpect, RepeatedExpectRr, RepeatedStart, RepeatedActiontype}
use Rattle.grammar.specs.declared.Refusal.{Refusal}
use Rattle.grammar.specs.State.{Out0, Out1, with_singles, with_actiontype, gap_at, list_repeat, past_gap, behind1, tied1, refused}
use Rattle.settings.specs.Singles.{with_start, with_expected, expected_of, with_param, with_generics}

-- `%start`: the first is kept, a later one is a repeat with both places
abbrev pub start_given : Option (ℕ × ℕ) → State → ℕ → ℕ → List ℕ → Out1
start_given None s i j t = record { answer = Going; state = with_singles s (with_start s.singles (Some (i, j))); a = t }
start_given (Some (a, b)) s i j t = list_repeat s RepeatedStart a b i j t

unfoldable pub start_named : State → ℕ → ℕ → List ℕ → Out1
start_named s i j t = start_given s.singles.start s i j t

abbrev pub start_name : Result ℕ ℕ → ℕ → List ℕ → State → List ℕ → Out1
start_name (Ok j) i src s t = behind1 src false j (start_named s i j t)
start_name (Err k) i src s t = tied1 (refused (Fault IllegalName k) s) t

abbrev pub start_from : Result (ℕ × ℕ) Refusal → List ℕ → State → List ℕ → Out1
start_from (Ok (i, n)) src s t = start_name (name_at src i) i src s t
start_from (Err f) src s t = tied1 (refused f s) t

-- from behind the keyword on, which is where the state stands
unfoldable pub start_decl : List ℕ → State → List ℕ → Out1
start_decl src s t = start_from (gap_at s.kind false src s.at) src s t

-- `%expect` and `%expect_rr`: "An integer fits 64 unsigned bits"; a later one is a repeat
abbrev pub repeated_expect : Bool → Repeat
repeated_expect true = RepeatedExpectRr
repeated_expect false = RepeatedExpect

abbrev pub expect_seen : Option (ℕ × ℕ × ℕ) → State → Bool → ℕ → ℕ → ℕ → List ℕ → Out1
expect_seen None s rr v i j t = record { answer = Going; state = with_singles s (with_expected s.singles rr (Some (v, i, j))); a = t }
expect_seen (Some (w, a, b)) s rr v i j t = list_repeat s (repeated_expect rr) a b i j t

unfoldable pub expect_given : State → Bool → ℕ → ℕ → ℕ → List ℕ → Out1
expect_given s rr v i j t = expect_seen (expected_of rr s.singles) s rr v i j t

abbrev pub expect_int : Result (ℕ × ℕ) IntError → ℕ → List ℕ → State → Bool → List ℕ → Out1
expect_int (Ok (v, j)) i src s rr t = behind1 src false j (expect_given s rr v i j t)
expect_int (Err (NoDigits k)) i src s rr t = tied1 (refused (Fault IntegerEmpty k) s) t
expect_int (Err (TooLarge k)) i src s rr t = tied1 (refused (Fault IntegerTooLarge k) s) t

abbrev pub expect_from : Result (ℕ × ℕ) Refusal → List ℕ → State → Bool → List ℕ → Out1
expect_from (Ok (i, n)) src s rr t = expect_int (int_at src i) i src s rr t
expect_from (Err f) src s rr t = tied1 (refused f s) t

unfoldable pub expect_decl : List ℕ → State → Bool → List ℕ → Out1
expect_decl src s rr t = expect_from (gap_at s.kind false src s.at) src s rr t

-- `%actiontype` (an untrimmed text); a later one is a repeat
abbrev pub actiontype_given : Option (ℕ × ℕ) → State → ℕ → ℕ → List ℕ → Out1
actiontype_given None s i j t = record { answer = Going; state = with_actiontype s (Some (i, j)); a = t }
actiontype_given (Some (a, b)) s i j t = list_repeat s RepeatedActiontype a b i j t

unfoldable pub actiontype_named : State → ℕ → ℕ → List ℕ → Out1
actiontype_named s i j t = actiontype_given s.actiontype s i j t

abbrev pub actiontype_from : Result (ℕ × ℕ) Refusal → List ℕ → State → List ℕ → Out1
actiontype_from (Ok (i, n)) src s t = behind1 src false (line_end_at src i) (actiontype_named s i (line_end_at src i) t)
actiontype_from (Err f) src s t = tied1 (refused f s) t

unfoldable pub actiontype_decl : List ℕ → State → List ℕ → Out1
actiontype_decl src s t = actiontype_from (gap_at s.kind false src s.at) src s t

-- "`%parse-param` is a trimmed text to a single colon, then an untrimmed one to the line end; a second [..] replaces the first"
abbrev pub param_given : Result (ℕ × ℕ) Refusal → List ℕ → State → ℕ → ℕ → Out0
param_given (Ok (i, n)) src s a b = past_gap src false (line_end_at src i) (with_singles s (with_param s.singles (Some (a, b, i, line_end_at src i))))
param_given (Err f) src s a b = refused f s

unfoldable pub param_typed : List ℕ → State → ℕ → ℕ → ℕ → Out0
param_typed src s a b k = param_given (gap_at s.kind false src k) src s a b

abbrev pub param_text : Result (ℕ × ℕ × Place) ℕ → List ℕ → State → Out0
param_text (Ok (j, n, p)) src s = param_typed src s p.from p.to (j + 1)
param_text (Err k) src s = refused (Fault ReachedEnd k) s

abbrev pub param_from : Result (ℕ × ℕ) Refusal → List ℕ → State → Out0
param_from (Ok (i, n)) src s = param_text (colon_text_at src i) src s
param_from (Err f) src s = refused f s

unfoldable pub param_decl : List ℕ → State → Out0
param_decl src s = param_from (gap_at s.kind false src s.at) src s

-- "or a second `%parse-generics`, replaces the first"
abbrev pub generics_from : Result (ℕ × ℕ) Refusal → List ℕ → State → Out0
generics_from (Ok (i, n)) src s = past_gap src false (line_end_at src i) (with_singles s (with_generics s.singles (Some (i, line_end_at src i))))
generics_from (Err f) src s = refused f s

unfoldable pub generics_decl : List ℕ → State → Out0
generics_decl src s = generics_from (gap_at s.kind false src s.at) src s
