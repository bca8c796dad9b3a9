-- A precedence line leaves the count of every table but 2 and 10, what is given once to a name leaves table 1, and a token leaves the others. Assumes nothing.
use Rattle.std.specs.Prelude.{Option, Result, Ok, Err}
use Prim.Native.Nat.{ℕ, suc, ◌<◌}
use mathlib.Core.Path.{◌≡◌, ap, ◌∙◌}
use mathlib.Core.List.{List}
use mathlib.Core.Bool.{Bool, true, false}
use native.Mathlib.Omega.{arith}
use lib.Dec.{leb}
use lib.ListN.{length}
use Rattle.scan.proofs.Loop.{Either, turns_keep}
use Rattle.scan.specs.declared.Place.{Place}
use Rattle.words.specs.Words.{token_at}
use Rattle.tables.specs.Layout.{precedences, repeats, width}
use Rattle.grammar.specs.declared.Answer.{Answer}
use Rattle.grammar.specs.declared.Answer.TheVariants.{Going, Done, Refused}
use Rattle.grammar.specs.declared.Counts.{Counts}
use Rattle.grammar.specs.declared.State.{State}
use Rattle.grammar.specs.declared.Refusal.{Refusal}
use Rattle.grammar.specs.declared.Repeat.{Repeat}
use Rattle.grammar.specs.declared.Repeat.TheVariants.{RepeatedPrecedence}
use Rattle.grammar.specs.Cells.{precedence_cells}
use Rattle.grammar.specs.State.{Out0, Out1, Out2, Out4, Tokens, Tracked, with_at, with_level, next_level, gap_at, enter_step, once_step, pass_on}
use Rattle.grammar.proofs.Spares.{Spares, spares_none, spares_on, spares_once, spares_enter, spared, tracked_passed}
use Rattle.marks.specs.Marks.{Leading, lead_tag, tag_row}
use Rattle.marks.proofs.Laws.{tag_counts, lead_counts, behind_counts}
use Rattle.lines.specs.Precedences.{prec_found, prec_item, line_end, after_end, prec_turn, prec_list, prec_led, prec_body, prec_from, prec_decl}

module _ (k : ℕ) (other : precedences ≡ k → ⊥) (tenth : repeats ≡ k → ⊥) (src : List ℕ) where
  item : (s : State) (level assoc : ℕ) (tag : Option (ℕ × ℕ)) (t2 t10 t15 t16 : List ℕ) → Spares k s.counts (prec_item src s level assoc tag t2 t10 t15 t16).state.counts
  unfolding prec_item
  item s level assoc tag t2 t10 t15 t16 = go (token_at src s.at)
    where
      go : (x : Result (Place × ℕ × Bool) ℕ) → Spares k s.counts (prec_found x src s level assoc tag t2 t10 t15 t16).state.counts
      go (Ok (p, end, q)) =
          let row = precedence_cells p.from p.to level assoc in
          let o = once_step src s precedences (width precedences) 0 RepeatedPrecedence row t2 t10 in
          let g = tag_row o.answer o.state tag p.from p.to t15 in
          rw (behind_counts src true p.from p.to end g.answer g.state t16 ∙ tag_counts o.answer o.state tag p.from p.to t15)
          (spares_once k src s precedences (width precedences) 0 RepeatedPrecedence row t2 t10 other tenth)
      go (Err i) = spares_none k s.counts

  abbrev Since : Counts → Out4 → Type 0
  Since c o = Spares k c o.state.counts

  turn : (c : Counts) (level assoc : ℕ) (tag : Option (ℕ × ℕ)) (o : Out4) → Since c o → Either (Since c) (Since c) (prec_turn src level assoc tag o)
  unfolding prec_turn
  turn c level assoc tag o x = go (leb (length src) o.state.at)
    where
      next : (a : Answer) (p : Out4) → Since c p → Either (Since c) (Since c) (line_end a p)
      next Going p y = y
      next Done p y = y
      next (Refused f) p y = y

      go : (b : Bool) → Either (Since c) (Since c) (after_end b o (prec_item src o.state level assoc tag o.a o.b o.c o.d))
      go true = x
      go false = next (prec_item src o.state level assoc tag o.a o.b o.c o.d).answer (prec_item src o.state level assoc tag o.a o.b o.c o.d) (spares_on x (item o.state level assoc tag o.a o.b o.c o.d))

  body : (s : State) (level assoc : ℕ) (t2 t10 t15 t16 : List ℕ) → Spares k s.counts (prec_body src s level assoc t2 t10 t15 t16).state.counts
  unfolding prec_body prec_list
  body s level assoc t2 t10 t15 t16 = go (lead_tag src s false true).answer (lead_tag src s false true) (lead_counts src s false true)
    where
      go : (a : Answer) (l : Leading) → l.state.counts ≡ s.counts → Spares k s.counts (prec_led a l src level assoc t2 t10 t15 t16).state.counts
      go Going l e = turns_keep (Since s.counts) (prec_turn src level assoc l.tag) (turn s.counts level assoc l.tag) (suc (length src)) _ (rw e (spares_none k s.counts))
      go Done l e = rw e (spares_none k s.counts)
      go (Refused f) l e = rw e (spares_none k s.counts)

  pub prec_spares : (s : State) (assoc : ℕ) (t2 t10 t15 t16 : List ℕ) → Spares k s.counts (prec_decl src s assoc t2 t10 t15 t16).state.counts
  unfolding prec_decl
  prec_spares s assoc t2 t10 t15 t16 = go (gap_at s.kind false src s.at)
    where
      go : (g : Result (ℕ × ℕ) Refusal) → Spares k s.counts (prec_from g src s assoc t2 t10 t15 t16).state.counts
      go (Ok (i, n)) = body (with_level (with_at s i) (next_level s.level)) s.level assoc t2 t10 t15 t16
      go (Err f) = spares_none k s.counts

-- a name is given once to another table than 1, with spacing behind it: the index of table 1 stays
pub once_tracked : (src : List ℕ) (s : State) (k w name : ℕ) (what : Repeat) (row t t10 : List ℕ) (a : Answer) (next : State) (u u10 : List ℕ) (line : Bool) (j : ℕ) (b : Answer) (q : State) (t1 ix : List ℕ) → 0 < k → record { answer = a; state = next; a = u; b = u10 } ≡ once_step src s k w name what row t t10 → ◌≡◌ {A = Out0} (record { answer = b; state = q }) (pass_on src line j a next) → Tokens src s.counts t1 ix → Tokens src q.counts t1 ix
once_tracked src s k w name what row t t10 a next u u10 line j b q t1 ix l e f I =
    let x : Tokens src next.counts t1 ix = rw (ap (λ (o : Out2). o.state.counts) e) (spared (spares_once 0 src s k w name what row t t10 (λ h. omega arith) (λ h. omega arith)) I) in
    tracked_passed src 0 3 0 line j a next b q t1 ix f x

-- a token is entered: the finder of another table than 1 stays
pub tracked_entered : (src : List ℕ) (k w name : ℕ) (s : State) (from to : ℕ) (declared : Bool) (t1 : List ℕ) (a : Answer) (next : State) (u1 t ix : List ℕ) → 0 < k → record { answer = a; state = next; a = u1 } ≡ enter_step src s from to declared t1 → Tracked src k w name s.counts t ix → Tracked src k w name next.counts t ix
tracked_entered src k w name s from to declared t1 a next u1 t ix l e I = rw (ap (λ (o : Out1). o.state.counts) e) (spared (spares_enter k src s from to declared t1 (λ h. omega arith)) I)
