-- Lists that run to their line's end: one law for each answer of an item, a turn and a declaration, and where an item comes to stand. Assumes nothing.
use Rattle.std.specs.Prelude.{Option, Result, Ok, Err}
use Prim.Native.Nat.{ℕ, ◌≤◌, ◌<◌}
use mathlib.Core.Path.{◌≡◌, sym, ◌∙◌, ap}
use mathlib.Core.List.{List, [], ◌∷◌}
use mathlib.Core.Bool.{Bool, true, false}
use native.Mathlib.Omega.{arith}
use lib.ListN.{length}
use borrow.Author.Tests.{le-leb, lt-leb}
use Rattle.scan.specs.declared.Place.{Place}
use Rattle.scan.specs.Loop.{more, stop}
use Rattle.words.specs.Words.{token_at, Tokened}
use Rattle.grammar.specs.declared.State.{State}
use Rattle.grammar.specs.declared.Cause.TheVariants.{IllegalString}
use Rattle.grammar.specs.declared.Refusal.{Refusal}
use Rattle.grammar.specs.declared.Refusal.TheVariants.{Fault}
use Rattle.grammar.specs.declared.Answer.{Answer}
use Rattle.grammar.specs.declared.Answer.TheVariants.{Going, Done, Refused}
use Rattle.grammar.specs.declared.Repeat.{Repeat}
use Rattle.grammar.specs.declared.Repeat.TheVariants.{RepeatedPrecedence}
use Rattle.grammar.specs.State.{Out0, Out1, Out2, Out3, Out4, with_at, with_level, next_level, gap_at, once_step, enter_step, pass_on, tied3, tied4, refused, Onward, Moves}
use Rattle.grammar.proofs.Steps.{moves}
use Rattle.marks.specs.Marks.{Leading, lead_tag, tag_row, behind_word}
use Rattle.lines.specs.Precedences.{prec_tagged, prec_entered, prec_found, prec_item, prec_turn, prec_list, prec_led, prec_body, prec_from, prec_decl}
use Rattle.lines.specs.Avoided.{avoid_named, avoid_item, avoid_turn, avoid_list, avoid_decl}

-- an item comes to stand behind its token if the list goes on
pub item_moves : (src : List ℕ) (at before end after : ℕ) (p : Place) (b : Bool) (a : Answer) (r : Result (Place × ℕ × Bool) ℕ) → Tokened src at r → r ≡ Ok (p, end, b) → before ≡ at → Onward src end before a after → Moves src at a after
item_moves src at before end after p b a r x e k o =
    let y = rw e at x in
    moves src at end before after a k (omega (arith, y.0, y.1, y.2)) y.3 o

-- a token of a precedence line: its row or repeat, the row of its tag, and what stands behind it
module _ (src : List ℕ) (s : State) (level assoc : ℕ) (tag : Option (ℕ × ℕ)) (t2 t10 t15 t16 : List ℕ) (r : Result (Place × ℕ × Bool) ℕ) (q : r ≡ token_at src s.at) where
  pub prec_found_lem : (p : Place) (end : ℕ) (b : Bool) (o : Out2) (y : Answer) (v : State) (d : List ℕ) (z : Answer) (w : State) (e : List ℕ) → r ≡ Ok (p, end, b)
      → o ≡ once_step src s 1 4 0 RepeatedPrecedence (p.from ∷ p.to ∷ level ∷ assoc ∷ []) t2 t10
      → ◌≡◌ {A = Out1} (record { answer = y; state = v; a = d }) (tag_row o.answer o.state tag p.from p.to t15)
      → ◌≡◌ {A = Out1} (record { answer = z; state = w; a = e }) (behind_word src true p.from p.to end y v t16)
      → ◌≡◌ {A = Out4} (record { answer = z; state = w; a = o.a; b = o.b; c = d; d = e }) (prec_item src s level assoc tag t2 t10 t15 t16)
  unfolding prec_item
  prec_found_lem p end b o y v d z w e k f g h =
      ap (λ (x : Out1). record { answer = x.answer; state = x.state; a = o.a; b = o.b; c = d; d = x.a }) h
      ∙ ap (λ (x : Out1). prec_tagged src p.from p.to end o x t16) g
      ∙ ap (λ (x : Out2). prec_entered src tag p.from p.to end x t15 t16) f
      ∙ ap (λ (x : Result (Place × ℕ × Bool) ℕ). prec_found x src s level assoc tag t2 t10 t15 t16) (sym k ∙ q)

  pub prec_none : (k : ℕ) → r ≡ Err k → tied4 (refused (Fault IllegalString k) s) t2 t10 t15 t16 ≡ prec_item src s level assoc tag t2 t10 t15 t16
  unfolding prec_item
  prec_none k e = ap (λ (x : Result (Place × ℕ × Bool) ℕ). prec_found x src s level assoc tag t2 t10 t15 t16) (sym e ∙ q)

-- a turn of a precedence list
module _ (src : List ℕ) (level assoc : ℕ) (tag : Option (ℕ × ℕ)) (s : State) (t2 t10 t15 t16 : List ℕ) where
  pub prec_end : length src ≤ s.at → prec_turn src level assoc tag (record { answer = Going; state = s; a = t2; b = t10; c = t15; d = t16 }) ≡ stop (record { answer = Going; state = s; a = t2; b = t10; c = t15; d = t16 })
  unfolding prec_turn
  prec_end h = rw (le-leb _ _ h)

  module _ (h : s.at < length src) {x : Answer} {next : State} {u2 u10 u15 u16 : List ℕ} (e : record { answer = x; state = next; a = u2; b = u10; c = u15; d = u16 } ≡ prec_item src s level assoc tag t2 t10 t15 t16) where
    pub prec_more : x ≡ Going → prec_turn src level assoc tag (record { answer = Going; state = s; a = t2; b = t10; c = t15; d = t16 }) ≡ more (record { answer = Going; state = next; a = u2; b = u10; c = u15; d = u16 })
    unfolding prec_turn
    prec_more g = rw (lt-leb _ _ h, ← e, g)

    pub prec_done : x ≡ Done → prec_turn src level assoc tag (record { answer = Going; state = s; a = t2; b = t10; c = t15; d = t16 }) ≡ stop (record { answer = Going; state = next; a = u2; b = u10; c = u15; d = u16 })
    unfolding prec_turn
    prec_done g = rw (lt-leb _ _ h, ← e, g)

    pub prec_refused : (f : Refusal) → x ≡ Refused f → prec_turn src level assoc tag (record { answer = Going; state = s; a = t2; b = t10; c = t15; d = t16 }) ≡ stop (record { answer = x; state = next; a = u2; b = u10; c = u15; d = u16 })
    unfolding prec_turn
    prec_refused f g = rw (lt-leb _ _ h, ← e, g)

-- the tag in front of the tokens
module _ (src : List ℕ) (s : State) (level assoc : ℕ) (t2 t10 t15 t16 : List ℕ) (x : Answer) (u : State) (tag : Option (ℕ × ℕ)) (q : ◌≡◌ {A = Leading} (record { answer = x; state = u; tag = tag }) (lead_tag src s false true)) where
  body_is : (y : Answer) → x ≡ y → prec_led y (record { answer = x; state = u; tag = tag }) src level assoc t2 t10 t15 t16 ≡ prec_body src s level assoc t2 t10 t15 t16
  unfolding prec_body
  body_is y e = ap (λ (z : Answer). prec_led z (record { answer = x; state = u; tag = tag }) src level assoc t2 t10 t15 t16) (sym e) ∙ ap (λ (l : Leading). prec_led l.answer l src level assoc t2 t10 t15 t16) q

  pub body_goes : (o : Out4) → x ≡ Going → o ≡ prec_list src u level assoc tag t2 t10 t15 t16 → o ≡ prec_body src s level assoc t2 t10 t15 t16
  body_goes o e h = h ∙ body_is Going e

  pub body_done : x ≡ Done → ◌≡◌ {A = Out4} (record { answer = Going; state = u; a = t2; b = t10; c = t15; d = t16 }) (prec_body src s level assoc t2 t10 t15 t16)
  body_done e = body_is Done e

  pub body_refused : (f : Refusal) → x ≡ Refused f → ◌≡◌ {A = Out4} (record { answer = Refused f; state = u; a = t2; b = t10; c = t15; d = t16 }) (prec_body src s level assoc t2 t10 t15 t16)
  body_refused f e = body_is (Refused f) e

-- a precedence line, from behind its keyword on
module _ (src : List ℕ) (s : State) (assoc : ℕ) (t2 t10 t15 t16 : List ℕ) (r : Result (ℕ × ℕ) Refusal) (q : r ≡ gap_at s.kind false src s.at) where
  pub prec_line : (i n up : ℕ) (o : Out4) → r ≡ Ok (i, n) → up ≡ next_level s.level → o ≡ prec_body src (with_level (with_at s i) up) s.level assoc t2 t10 t15 t16 → o ≡ prec_decl src s assoc t2 t10 t15 t16
  unfolding prec_decl
  prec_line i n up o e l h = (rw l at h) ∙ ap (λ (x : Result (ℕ × ℕ) Refusal). prec_from x src s assoc t2 t10 t15 t16) (sym e ∙ q)

  pub prec_gap_lem : (f : Refusal) → r ≡ Err f → tied4 (refused f s) t2 t10 t15 t16 ≡ prec_decl src s assoc t2 t10 t15 t16
  unfolding prec_decl
  prec_gap_lem f e = ap (λ (x : Result (ℕ × ℕ) Refusal). prec_from x src s assoc t2 t10 t15 t16) (sym e ∙ q)

-- a token that was entered is given to its table once
module _ (src : List ℕ) (s : State) (k : ℕ) (what : Repeat) (from to end : ℕ) (t1 t t10 : List ℕ) (o : Out1) (q : o ≡ enter_step src s from to false t1) where
  pub avoid_entered_lem : (w : Out2) (z : Out0) → o.answer ≡ Going
      → w ≡ once_step src o.state k 2 0 what (from ∷ to ∷ []) t t10
      → z ≡ pass_on src true end w.answer w.state
      → tied3 z o.a w.a w.b ≡ avoid_named src s k what from to end t1 t t10
  unfolding avoid_named
  avoid_entered_lem w z g e h = rw (← q, g, ← e) (ap (λ (x : Out0). tied3 x o.a w.a w.b) h)

  pub enter_done : o.answer ≡ Done → record { answer = Done; state = o.state; a = o.a; b = t; c = t10 } ≡ avoid_named src s k what from to end t1 t t10
  unfolding avoid_named
  enter_done g = rw (← q, g)

  pub enter_refused : (f : Refusal) → o.answer ≡ Refused f → record { answer = Refused f; state = o.state; a = o.a; b = t; c = t10 } ≡ avoid_named src s k what from to end t1 t t10
  unfolding avoid_named
  enter_refused f g = rw (← q, g)

-- a token of an avoid or implicit list
module _ (src : List ℕ) (s : State) (k : ℕ) (what : Repeat) (t1 t t10 : List ℕ) (r : Result (Place × ℕ × Bool) ℕ) (q : r ≡ token_at src s.at) where
  pub avoid_found_lem : (p : Place) (end : ℕ) (b : Bool) (o : Out3) → r ≡ Ok (p, end, b) → o ≡ avoid_named src s k what p.from p.to end t1 t t10 → o ≡ avoid_item src s k what t1 t t10
  unfolding avoid_item
  avoid_found_lem p end b o e h = rw (← q, e) h

  pub avoid_none : (i : ℕ) → r ≡ Err i → tied3 (refused (Fault IllegalString i) s) t1 t t10 ≡ avoid_item src s k what t1 t t10
  unfolding avoid_item
  avoid_none i e = rw (← q, e)

-- a turn of an avoid or implicit list
module _ (src : List ℕ) (k : ℕ) (what : Repeat) (s : State) (t1 t t10 : List ℕ) {x : Answer} {next : State} {u1 u u10 : List ℕ} (e : record { answer = x; state = next; a = u1; b = u; c = u10 } ≡ avoid_item src s k what t1 t t10) where
  pub avoid_more : x ≡ Going → avoid_turn src k what (record { answer = Going; state = s; a = t1; b = t; c = t10 }) ≡ more (record { answer = Going; state = next; a = u1; b = u; c = u10 })
  unfolding avoid_turn
  avoid_more g = rw (← e, g)

  pub avoid_done : x ≡ Done → avoid_turn src k what (record { answer = Going; state = s; a = t1; b = t; c = t10 }) ≡ stop (record { answer = Going; state = next; a = u1; b = u; c = u10 })
  unfolding avoid_turn
  avoid_done g = rw (← e, g)

  pub avoid_refused : (f : Refusal) → x ≡ Refused f → avoid_turn src k what (record { answer = Going; state = s; a = t1; b = t; c = t10 }) ≡ stop (record { answer = x; state = next; a = u1; b = u; c = u10 })
  unfolding avoid_turn
  avoid_refused f g = rw (← e, g)

-- an avoid or implicit line, from behind its keyword on
module _ (src : List ℕ) (s : State) (k : ℕ) (what : Repeat) (t1 t t10 : List ℕ) where
  pub avoid_end_lem : length src ≤ s.at → record { answer = Going; state = s; a = t1; b = t; c = t10 } ≡ avoid_decl src s k what t1 t t10
  unfolding avoid_decl
  avoid_end_lem h = rw (le-leb _ _ h, avoid_decl)

  module _ (h : s.at < length src) (r : Result (ℕ × ℕ) Refusal) (q : r ≡ gap_at s.kind false src s.at) where
    pub avoid_line : (i n : ℕ) (o : Out3) → r ≡ Ok (i, n) → o ≡ avoid_list src (with_at s i) k what t1 t t10 → o ≡ avoid_decl src s k what t1 t t10
    unfolding avoid_decl
    avoid_line i n o e w = rw (lt-leb _ _ h, avoid_decl, ← q, e) w

    pub avoid_gap : (f : Refusal) → r ≡ Err f → tied3 (refused f s) t1 t t10 ≡ avoid_decl src s k what t1 t t10
    unfolding avoid_decl
    avoid_gap f e = rw (lt-leb _ _ h, avoid_decl, ← q, e)
