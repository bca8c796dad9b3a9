-- Document 01, "Declarations": "avoid and implicit lists run until a line end was counted after the spacing behind their keyword; the last two also go on at the
-- source end and so give 3 there, except where the keyword itself is the end. [..] avoid and implicit lists add theirs, undeclared."
use Rattle.std.specs.Prelude.{ℕ, suc, List, true, false, leb, length, Result, Ok, Err, Bool}
use Rattle.scan.specs.Loop.{Turn, more, stop, turns}
use Rattle.scan.specs.declared.Place.{Place}
use Rattle.words.specs.Words.{token_at}
use Rattle.tables.specs.Layout.{avoided, width}
use Rattle.grammar.specs.declared.State.{State}
use Rattle.grammar.specs.declared.Cause.TheVariants.{IllegalString}
use Rattle.grammar.specs.declared.Refusal.TheVariants.{Fault}
use Rattle.grammar.specs.declared.Answer.{Answer}
use Rattle.grammar.specs.declared.Answer.TheVariants.{Going, Done, Refused}
use Rattle.grammar.specs.declared.Repeat.{Repeat}
use Rattle.grammar.specs.declared.Refusal.{Refusal}
use Rattle.grammar.specs.Cells.{name_cells}
use Rattle.grammar.specs.State.{Out1, Out2, Out3, with_at, gap_at, once_step, enter_step, pass_on, tied3, refused}

-- behind the second step, on the two other tables, spacing: done where it counted a line end
abbrev pub behind_both : List ℕ → ℕ → List ℕ → Out2 → Out3
behind_both src j t1 o = tied3 (pass_on src true j o.answer o.state) t1 o.a o.b

-- at one word the token's row in table 1 comes before that of table 3 or 4, or of table 10, as the crate adds them
abbrev pub avoid_entered : Answer → Out1 → List ℕ → ℕ → Repeat → ℕ → ℕ → ℕ → List ℕ → List ℕ → Out3
avoid_entered Going o src k what from to end t t10 =
    behind_both src end o.a (once_step src o.state k (width avoided) 0 what (name_cells from to) t t10)
avoid_entered Done o src k what from to end t t10 = record { answer = Done; state = o.state; a = o.a; b = t; c = t10 }
avoid_entered (Refused f) o src k what from to end t t10 = record { answer = Refused f; state = o.state; a = o.a; b = t; c = t10 }

unfoldable pub avoid_named : List ℕ → State → ℕ → Repeat → ℕ → ℕ → ℕ → List ℕ → List ℕ → List ℕ → Out3
avoid_named src s k what from to end t1 t t10 =
    avoid_entered (enter_step src s from to false t1).answer (enter_step src s from to false t1) src k what from to end t t10

abbrev pub avoid_found : Result (Place × ℕ × Bool) ℕ → List ℕ → State → ℕ → Repeat → List ℕ → List ℕ → List ℕ → Out3
avoid_found (Ok (p, end, q)) src s k what t1 t t10 = avoid_named src s k what p.from p.to end t1 t t10
avoid_found (Err i) src s k what t1 t t10 = tied3 (refused (Fault IllegalString i) s) t1 t t10

unfoldable pub avoid_item : List ℕ → State → ℕ → Repeat → List ℕ → List ℕ → List ℕ → Out3
avoid_item src s k what t1 t t10 = avoid_found (token_at src s.at) src s k what t1 t t10

-- a line that is done ends the list, and the reading goes on
abbrev pub avoid_end : Answer → Out3 → Turn Out3
avoid_end Going o = more o
avoid_end Done o = stop (record { answer = Going; state = o.state; a = o.a; b = o.b; c = o.c })
avoid_end (Refused f) o = stop o

abbrev pub avoid_next : Out3 → Turn Out3
avoid_next o = avoid_end o.answer o

unfoldable pub avoid_turn : List ℕ → ℕ → Repeat → Out3 → Turn Out3
avoid_turn src k what o = avoid_next (avoid_item src o.state k what o.a o.b o.c)

unfoldable pub avoid_list : List ℕ → State → ℕ → Repeat → List ℕ → List ℕ → List ℕ → Out3
avoid_list src s k what t1 t t10 = turns (suc (length src)) (avoid_turn src k what) (record { answer = Going; state = s; a = t1; b = t; c = t10 })

abbrev pub avoid_from : Result (ℕ × ℕ) Refusal → List ℕ → State → ℕ → Repeat → List ℕ → List ℕ → List ℕ → Out3
avoid_from (Ok (i, n)) src s k what t1 t t10 = avoid_list src (with_at s i) k what t1 t t10
avoid_from (Err f) src s k what t1 t t10 = tied3 (refused f s) t1 t t10

-- from behind the keyword on; "except where the keyword itself is the end"
unfoldable pub avoid_decl : List ℕ → State → ℕ → Repeat → List ℕ → List ℕ → List ℕ → Out3
avoid_decl src s k what t1 t t10 =
    elim (leb (length src) s.at) [
      | true ↦ record { answer = Going; state = s; a = t1; b = t; c = t10 }
      | false ↦ avoid_from (gap_at s.kind false src s.at) src s k what t1 t t10
    ]
