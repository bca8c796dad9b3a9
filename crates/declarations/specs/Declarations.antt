-- Document 01, "Declarations", and the crate's `parse_declarations`: one declaration after another, in the order of its keywords.
use Rattle.std.specs.Prelude.{ℕ, suc, List, Bool, true, false, leb, length, Result, Ok, Err}
use Rattle.scan.specs.Loop.{Turn, stop, turns}
use Rattle.keywords.specs.declared.Keyword.{Keyword}
use Rattle.keywords.specs.declared.Keyword.TheVariants.{Percents, TokenWord, ActiontypeWord, StartWord, EppWord, ExpectRrWord, ExpectUnusedWord, ExpectWord, AvoidInsertWord, ParseParamWord, ParseGenericsWord, ImplicitTokensWord, LeftWord, RightWord, NonassocWord, PrologueWord, UnionWord, TypeWord, NoKeyword}
use Rattle.keywords.specs.declared.Seen.{Seen}
use Rattle.keywords.specs.Keywords.{seen_at}
use Rattle.tables.specs.Layout.{precedences, avoided, implicit, epps, width}
use Rattle.grammar.specs.declared.Counts.{Counts}
use Rattle.grammar.specs.declared.State.{State}
use Rattle.grammar.specs.declared.Cause.TheVariants.{UnknownDeclaration, PrematureEnd}
use Rattle.grammar.specs.declared.Refusal.TheVariants.{Fault}
use Rattle.grammar.specs.declared.Answer.{Answer}
use Rattle.grammar.specs.declared.Answer.TheVariants.{Going, Done, Refused}
use Rattle.grammar.specs.declared.Repeat.TheVariants.{RepeatedAvoidInsert, RepeatedImplicitTokens}
use Rattle.grammar.specs.declared.Refusal.{Refusal}
use Rattle.grammar.specs.State.{Out0, Out1, Out2, Out3, Out4, Tracked, with_at, gap_at, onward}
use Rattle.settings.specs.Settings.{start_decl, expect_decl, actiontype_decl, param_decl, generics_decl}
use Rattle.lists.specs.declared.WordList.TheVariants.{TokenList, UnusedList, TypeList}
use Rattle.lists.specs.Lists.{list_decl}
use Rattle.lines.specs.Precedences.{prec_decl}
use Rattle.lines.specs.Avoided.{avoid_decl}
use Rattle.epps.specs.Epps.{epp_decl}
use Rattle.bodies.specs.Bodies.{prologue_decl, union_decl}

-- the tables that declarations fill
pub record Declared : Type 0 where
  pub t1 : List ℕ
  pub t2 : List ℕ
  pub t3 : List ℕ
  pub t4 : List ℕ
  pub t5 : List ℕ
  pub t6 : List ℕ
  pub t10 : List ℕ
  pub t15 : List ℕ
  pub t16 : List ℕ
  pub t17 : List ℕ

-- the finder that tables 2 to 5 share leads to their rows
pub record Givens (src : List ℕ) (c : Counts) (t2 t3 t4 t5 fx : List ℕ) : Type 0 where
  pub second : Tracked src precedences (width precedences) 0 c t2 fx
  pub third : Tracked src avoided (width avoided) 0 c t3 fx
  pub fourth : Tracked src implicit (width avoided) 0 c t4 fx
  pub fifth : Tracked src epps (width epps) 2 c t5 fx

pub record Out : Type 0 where
  pub answer : Answer
  pub state : State
  pub tables : Declared

-- the outcome of a step on some of the tables, the others as they were
abbrev pub in0 : Declared → Out0 → Out
in0 D o = record { answer = o.answer; state = o.state; tables = D }

abbrev pub in10 : Declared → Out1 → Out
in10 D o = record { answer = o.answer; state = o.state; tables = record { t1 = D.t1; t2 = D.t2; t3 = D.t3; t4 = D.t4; t5 = D.t5; t6 = D.t6; t10 = o.a; t15 = D.t15; t16 = D.t16; t17 = D.t17 } }

abbrev pub in17 : Declared → Out1 → Out
in17 D o = record { answer = o.answer; state = o.state; tables = record { t1 = D.t1; t2 = D.t2; t3 = D.t3; t4 = D.t4; t5 = D.t5; t6 = D.t6; t10 = D.t10; t15 = D.t15; t16 = D.t16; t17 = o.a } }

abbrev pub in5_10 : Declared → Out2 → Out
in5_10 D o = record { answer = o.answer; state = o.state; tables = record { t1 = D.t1; t2 = D.t2; t3 = D.t3; t4 = D.t4; t5 = o.a; t6 = D.t6; t10 = o.b; t15 = D.t15; t16 = D.t16; t17 = D.t17 } }

abbrev pub in1_3_10 : Declared → Out3 → Out
in1_3_10 D o = record { answer = o.answer; state = o.state; tables = record { t1 = o.a; t2 = D.t2; t3 = o.b; t4 = D.t4; t5 = D.t5; t6 = D.t6; t10 = o.c; t15 = D.t15; t16 = D.t16; t17 = D.t17 } }

abbrev pub in1_4_10 : Declared → Out3 → Out
in1_4_10 D o = record { answer = o.answer; state = o.state; tables = record { t1 = o.a; t2 = D.t2; t3 = D.t3; t4 = o.b; t5 = D.t5; t6 = D.t6; t10 = o.c; t15 = D.t15; t16 = D.t16; t17 = D.t17 } }

abbrev pub in1_15_16 : Declared → Out3 → Out
in1_15_16 D o = record { answer = o.answer; state = o.state; tables = record { t1 = o.a; t2 = D.t2; t3 = D.t3; t4 = D.t4; t5 = D.t5; t6 = D.t6; t10 = D.t10; t15 = o.b; t16 = o.c; t17 = D.t17 } }

abbrev pub in6_15_16 : Declared → Out3 → Out
in6_15_16 D o = record { answer = o.answer; state = o.state; tables = record { t1 = D.t1; t2 = D.t2; t3 = D.t3; t4 = D.t4; t5 = D.t5; t6 = o.a; t10 = D.t10; t15 = o.b; t16 = o.c; t17 = D.t17 } }

abbrev pub in2_10_15_16 : Declared → Out4 → Out
in2_10_15_16 D o = record { answer = o.answer; state = o.state; tables = record { t1 = D.t1; t2 = o.a; t3 = D.t3; t4 = D.t4; t5 = D.t5; t6 = D.t6; t10 = o.b; t15 = o.c; t16 = o.d; t17 = D.t17 } }

-- The declaration of a keyword: s is where it stands, n behind it. The section is done where `%%` stands; no keyword is 12.
abbrev pub by_keyword : Keyword → List ℕ → State → State → Declared → Out
by_keyword Percents src s n D = in0 D (record { answer = Done; state = s })
by_keyword TokenWord src s n D = in1_15_16 D (list_decl src n TokenList D.t1 D.t15 D.t16)
by_keyword ActiontypeWord src s n D = in10 D (actiontype_decl src n D.t10)
by_keyword StartWord src s n D = in10 D (start_decl src n D.t10)
by_keyword EppWord src s n D = in5_10 D (epp_decl src n D.t5 D.t10)
by_keyword ExpectRrWord src s n D = in10 D (expect_decl src n true D.t10)
by_keyword ExpectUnusedWord src s n D = in6_15_16 D (list_decl src n UnusedList D.t6 D.t15 D.t16)
by_keyword ExpectWord src s n D = in10 D (expect_decl src n false D.t10)
by_keyword AvoidInsertWord src s n D = in1_3_10 D (avoid_decl src n avoided RepeatedAvoidInsert D.t1 D.t3 D.t10)
by_keyword ParseParamWord src s n D = in0 D (param_decl src n)
by_keyword ParseGenericsWord src s n D = in0 D (generics_decl src n)
by_keyword ImplicitTokensWord src s n D = in1_4_10 D (avoid_decl src n implicit RepeatedImplicitTokens D.t1 D.t4 D.t10)
by_keyword LeftWord src s n D = in2_10_15_16 D (prec_decl src n 1 D.t2 D.t10 D.t15 D.t16)
by_keyword RightWord src s n D = in2_10_15_16 D (prec_decl src n 2 D.t2 D.t10 D.t15 D.t16)
by_keyword NonassocWord src s n D = in2_10_15_16 D (prec_decl src n 3 D.t2 D.t10 D.t15 D.t16)
by_keyword PrologueWord src s n D = in17 D (prologue_decl src n s.at D.t17)
by_keyword UnionWord src s n D = in17 D (union_decl src n s.at D.t17)
by_keyword TypeWord src s n D = in6_15_16 D (list_decl src n TypeList D.t6 D.t15 D.t16)
by_keyword NoKeyword src s n D = in0 D (record { answer = Refused (Fault UnknownDeclaration s.at); state = s })

abbrev pub by_seen : Seen → List ℕ → State → Declared → Out
by_seen r src s D = by_keyword r.word src s (with_at s r.end) D

unfoldable pub decl_step : List ℕ → State → Declared → Out
decl_step src s D = by_seen (seen_at s.kind src s.at) src s D

-- "10 PrematureEnd" at the source's end
abbrev pub after_end : Bool → Out → Out → Turn Out
after_end true o p = stop (record { answer = Refused (Fault PrematureEnd o.state.at); state = o.state; tables = o.tables })
after_end false o p = onward p.answer p

unfoldable pub decl_turn : List ℕ → Out → Turn Out
decl_turn src o = after_end (leb (length src) o.state.at) o (decl_step src o.state o.tables)

unfoldable pub decl_run : List ℕ → State → Declared → Out
decl_run src s D = turns (suc (length src)) (decl_turn src) (record { answer = Going; state = s; tables = D })

abbrev pub all_from : Result (ℕ × ℕ) Refusal → List ℕ → State → Declared → Out
all_from (Ok (i, n)) src s D = decl_run src (with_at s i) D
all_from (Err f) src s D = in0 D (record { answer = Refused f; state = s })

-- spacing, then the declarations
unfoldable pub decl_all : List ℕ → State → Declared → Out
decl_all src s D = all_from (gap_at s.kind true src s.at) src s D
