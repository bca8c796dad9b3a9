-- The small steps: counts, spacing with its refusal, a row more. One law for each answer. Assumes nothing.
use Rattle.std.specs.Prelude.{Option, Some, None, Result, Ok, Err}
use Prim.Native.Nat.{ℕ, ◌+◌, ◌≤◌, ◌<◌}
use mathlib.Core.Path.{◌≡◌, sym, ap, ◌∙◌}
use mathlib.Core.List.{List, [], ◌∷◌}
use mathlib.Core.Bool.{Bool, true, false, ◌&&◌, not}
use lib.Dec.{eqb}
use native.Mathlib.Omega.{arith}
use mir.Syntax.{w32}
use mir.Val.{Fits}
use lib.ListN.{length, length-set, get_or}
use lib.Seq.{get_or-set_same}
use Rattle.finder.proofs.Laws.{held_new, held_full}
use Rattle.index.specs.Index.{rows_now}
use Rattle.finder.specs.Finder.{Held, LeadsTo, Grown}
use borrow.Author.Tests.{lt-ltb, le-ltb}
use Rattle.spacing.specs.declared.SpacingError.{SpacingError}
use Rattle.spacing.specs.declared.SpacingError.TheVariants.{LineEnd, OpenComment}
use Rattle.spacing.specs.Spacing.{spaces_at, Spaces}
use Rattle.tables.specs.Layout.{tokens, row_place, posix_from}
use Rattle.tables.specs.Table.{add_row, enter_token, cell, find_name}
use Rattle.grammar.specs.declared.State.{State}
use Rattle.grammar.specs.declared.Answer.{Answer}
use Rattle.grammar.specs.declared.Answer.TheVariants.{Going, Done, Refused}
use Rattle.grammar.specs.declared.Cause.TheVariants.{ReachedEol, IncompleteComment}
use Rattle.grammar.specs.declared.Refusal.{Refusal}
use Rattle.grammar.specs.declared.Refusal.TheVariants.{Fault}
use Rattle.grammar.specs.declared.Repeat.{Repeat}
use Rattle.grammar.specs.State.{count, with_count, no_room, Here, gap_of, gap_at, Gapped, push_row, enter_step, next_level, with_at, Out0, Out1, Out2, past_gap, pass_on, tied1, tied2, behind1, behind2, Onward, Moves, list_repeat, first2, second2, once_step, Passed, Tokens, Tracked, Enters}
use Rattle.grammar.proofs.Counting.{count_low, with_low}

module _ (kind : ℕ) (ok : Bool) (src : List ℕ) (at : ℕ) (r : Result (ℕ × ℕ) SpacingError) (q : r ≡ spaces_at kind ok src at) where
  pub gap_to : (i n : ℕ) → r ≡ Ok (i, n) → Ok (i, n) ≡ gap_at kind ok src at
  unfolding gap_at gap_of
  gap_to i n e = rw (← q, e)

  pub gap_line : (i : ℕ) → r ≡ Err (LineEnd i) → Err (Fault ReachedEol i) ≡ gap_at kind ok src at
  unfolding gap_at gap_of
  gap_line i e = rw (← q, e)

  pub gap_comment : (i : ℕ) → r ≡ Err (OpenComment i) → Err (Fault IncompleteComment i) ≡ gap_at kind ok src at
  unfolding gap_at gap_of
  gap_comment i e = rw (← q, e)

-- where spacing's answer lies
module _ (src : List ℕ) (at : ℕ) (r : Result (ℕ × ℕ) SpacingError) (x : Spaces src at r) where
  pub gap_moved : (i n : ℕ) → r ≡ Ok (i, n) → Gapped src at (Ok (i, n))
  gap_moved i n e = rw e at x

  pub line_inside : (i : ℕ) → r ≡ Err (LineEnd i) → i < length src
  line_inside i e = (rw e at x).1

  pub comment_inside : (i : ℕ) → r ≡ Err (OpenComment i) → i < length src
  comment_inside i e = (rw e at x).1

-- a row more
module _ (s : State) (k n : ℕ) (row t cells : List ℕ) (q : Bool) (c : n ≡ count s k) (e : record { ok = q; cells = cells } ≡ add_row n row t) where
  pub push_ok : (next : State) → q ≡ true → next ≡ with_count s k (n + 1) → record { answer = Going; state = next; a = cells } ≡ push_row s k row t
  unfolding push_row
  push_ok next h w =
      let o = rw c at e in
      ap (λ (u : State). record { answer = Going; state = u; a = cells }) (w ∙ ap (λ (m : ℕ). with_count s k (m + 1)) c) ∙ rw (← o, h)

  pub push_full : (f : Refusal) → q ≡ false → f ≡ no_room k row → record { answer = Refused f; state = s; a = cells } ≡ push_row s k row t
  unfolding push_row
  push_full f h w = rw (← c, ← e, h, w)

-- the name of a row that was sought and not found
pub name_new : (src : List ℕ) (s : State) (k w name n a b : ℕ) (row t : List ℕ) (f : Option ℕ) → n ≡ count s k → a ≡ get_or row name 0 → b ≡ get_or row (name + 1) 0 → f ≡ find_name src w name n t a b → f ≡ None → find_name src w name (count s k) t (get_or row name 0) (get_or row (name + 1) 0) ≡ None
name_new src s k w name n a b row t f c x y e h = rw (← c, ← x, ← y) (sym e ∙ h)

-- and its finder follows
module _ (src : List ℕ) (s : State) (k w name n : ℕ) (row t cells ix : List ℕ) (q : Bool) (c : n ≡ count s k) (e : record { ok = q; cells = cells } ≡ add_row n row t) (x : Enters k w name row) (I : Tracked src k w name s.counts t ix) where
  pub push_tracked : (next : State) → q ≡ true → next ≡ with_count s k (n + 1) → find_name src w name (count s k) t (get_or row name 0) (get_or row (name + 1) 0) ≡ None → (jx : List ℕ) → Grown ix jx → LeadsTo src w name cells jx n → Tracked src k w name next.counts cells jx
  push_tracked next h f none jx g l =
      let low : k < posix_from = let z = x.table in omega arith in
      let b : k < length s.counts.n = rw I.ten low in
      let m : n ≡ get_or s.counts.n k 0 = c ∙ count_low s k low in
      rw (f ∙ with_low s k (n + 1) low)
      (record {
        ten = length-set s.counts.n k (n + 1) ∙ I.ten;
        held = rw (get_or-set_same s.counts.n k (n + 1) 0 b) (held_new src w name n t ix (rw m I.held) row x.wide q cells e x.named (rw c none) h jx g l);
      })

  pub push_untracked : q ≡ false → Tracked src k w name s.counts cells ix
  push_untracked h =
      let m : n ≡ get_or s.counts.n k 0 = c ∙ count_low s k (let z = x.table in omega arith) in
      record { ten = I.ten; held = rw (← m) (held_full src w name n t ix (rw m I.held) row x.wide q cells e h) }

-- a token entered
module _ (src : List ℕ) (s : State) (a b n : ℕ) (d : Bool) (t cells : List ℕ) (o : Option ℕ) (c : n ≡ count s 0) (e : record { entered = o; cells = cells } ≡ enter_token src n a b d t) where
  pub enter_rows : (m : ℕ) (next : State) → o ≡ Some m → next ≡ with_count s 0 m → record { answer = Going; state = next; a = cells } ≡ enter_step src s a b d t
  unfolding enter_step
  enter_rows m next h w = rw (← c, ← e, h, w)

  -- and the finder follows
  pub enter_tracked : length s.counts.n ≡ 10 → (m : ℕ) (next : State) → o ≡ Some m → next ≡ with_count s 0 m → (ix : List ℕ) → Held src 3 0 (rows_now n o) cells ix → Tokens src next.counts cells ix
  enter_tracked ten m next h w ix I =
      let k : count (with_count s 0 m) 0 ≡ m = get_or-set_same s.counts.n 0 m 0 (rw ten (omega arith)) in
      rw w (record { ten = length-set s.counts.n 0 m ∙ ten; held = rw k (rw h at I) })

  pub full_tracked : length s.counts.n ≡ 10 → o ≡ None → (ix : List ℕ) → Held src 3 0 (rows_now n o) cells ix → Tokens src s.counts cells ix
  full_tracked ten h ix I = record { ten = ten; held = rw (← c) (rw h at I) }

  pub enter_full : (f : Refusal) → o ≡ None → f ≡ no_room tokens (a ∷ b ∷ 0 ∷ []) → record { answer = Refused f; state = s; a = cells } ≡ enter_step src s a b d t
  unfolding enter_step
  enter_full f h w = rw (← c, ← e, h, w)

-- the next level
pub level_up : (n : ℕ) → n < 4294967295 → n + 1 ≡ next_level n
unfolding next_level
level_up n h = rw (lt-ltb _ _ h, next_level)

pub level_last : (n : ℕ) → 4294967295 ≤ n → n ≡ next_level n
unfolding next_level
level_last n h = rw (le-ltb _ _ h, next_level)

-- spacing behind a step
module _ (src : List ℕ) (line : Bool) (j : ℕ) (s : State) (g : Result (ℕ × ℕ) Refusal) (q : g ≡ gap_at s.kind true src j) where
  pub past_done : (i n : ℕ) → g ≡ Ok (i, n) → (line && not (eqb n 0)) ≡ true → record { answer = Done; state = with_at s i } ≡ past_gap src line j s
  unfolding past_gap
  past_done i n e t = rw (← q, e, t)

  pub past_going : (i n : ℕ) → g ≡ Ok (i, n) → (line && not (eqb n 0)) ≡ false → record { answer = Going; state = with_at s i } ≡ past_gap src line j s
  unfolding past_gap
  past_going i n e t = rw (← q, e, t)

  pub past_refused : (f : Refusal) → g ≡ Err f → record { answer = Refused f; state = s } ≡ past_gap src line j s
  unfolding past_gap
  past_refused f e = rw (← q, e)

-- where it comes to stand
pub gap_onward : (src : List ℕ) (j before i n : ℕ) (a : Answer) (g : Result (ℕ × ℕ) Refusal) → Gapped src j g → g ≡ Ok (i, n) → Onward src j before a i
gap_onward src j before i n a g x e =
    let y = rw e at x in
    let k = y.0 in
    let l = y.1 in
    record { forth = λ h. omega arith; inside = λ h. l; beyond = λ h. omega arith }

pub stays : (src : List ℕ) (j at : ℕ) (a : Answer) → (a ≡ Going → ⊥) → Onward src j at a at
stays src j at a d = record { forth = λ h. omega arith; inside = λ h. h; beyond = λ h. absurd (d h) }

pub refused_stays : (src : List ℕ) (j at : ℕ) (f : Refusal) → Onward src j at (Refused f) at
refused_stays src j at f = stays src j at (Refused f) (λ e. let z : ◌≡◌ {A = ℕ} 0 1 = cc in omega arith)

-- a step that comes to stand behind an index does so behind an earlier one
pub nearer : (src : List ℕ) (i j before after : ℕ) (a : Answer) → i ≤ j → Onward src j before a after → Onward src i before a after
nearer src i j before after a h o = record { forth = λ l. o.forth (omega arith); inside = o.inside; beyond = λ e. let b = o.beyond e in omega arith }

-- an item moves on where the spacing behind it does, and stays where it is refused
pub moves : (src : List ℕ) (at j before after : ℕ) (a : Answer) → before ≡ at → at < j → j ≤ length src → Onward src j before a after → Moves src at a after
moves src at j before after a e h l o =
    let f = o.forth (omega arith) in
    let i = o.inside (omega arith) in
    record { onward = omega arith; inside = i; beyond = λ g. let b = o.beyond g in omega arith }

pub stays_put : (src : List ℕ) (at : ℕ) (a : Answer) → at ≤ length src → (a ≡ Going → ⊥) → Moves src at a at
stays_put src at a h d = record { onward = omega arith; inside = h; beyond = λ e. absurd (d e) }

pub refused_put : (src : List ℕ) (at : ℕ) (f : Refusal) → at ≤ length src → Moves src at (Refused f) at
refused_put src at f h = stays_put src at (Refused f) h (λ e. let z : ◌≡◌ {A = ℕ} 0 1 = cc in omega arith)

module _ (src : List ℕ) (line : Bool) (j : ℕ) (a : Answer) (s : State) where
  pub on_going : (o : Out0) → a ≡ Going → o ≡ past_gap src line j s → o ≡ pass_on src line j a s
  on_going o e h = rw e h

  pub on_done : a ≡ Done → record { answer = Done; state = s } ≡ pass_on src line j a s
  on_done e = rw e

  pub on_refused : (f : Refusal) → a ≡ Refused f → record { answer = Refused f; state = s } ≡ pass_on src line j a s
  on_refused f e = rw e

  -- behind a step on one table, and on two
  module _ (q : Out0) (h : q ≡ pass_on src line j a s) where
    pub behind_one : (t : List ℕ) (o : Out1) → record { answer = a; state = s; a = t } ≡ o → tied1 q t ≡ behind1 src line j o
    behind_one t o e = rw (← e) (ap (λ (y : Out0). tied1 y t) h)

    pub behind_two : (t u : List ℕ) (o : Out2) → record { answer = a; state = s; a = t; b = u } ≡ o → tied2 q t u ≡ behind2 src line j o
    behind_two t u o e = rw (← e) (ap (λ (y : Out0). tied2 y t u) h)

-- what may be given once to a name
module _ (src : List ℕ) (s : State) (k w name from to : ℕ) (what : Repeat) (row t t10 : List ℕ) (n : ℕ) (f : Option ℕ) (c : n ≡ count s k) (l : from ≡ get_or row name 0) (m : to ≡ get_or row (name + 1) 0) (q : f ≡ find_name src w name n t from to) where
  found_row : f ≡ find_name src w name (count s k) t (get_or row name 0) (get_or row (name + 1) 0)
  found_row = rw (c, l, m) at q

  pub once_repeat : (r p x y z u : ℕ) (o : Out1) → f ≡ Some r → p ≡ row_place k → x ≡ cell w t r p → y ≡ cell w t r (p + 1) → z ≡ get_or row p 0 → u ≡ get_or row (p + 1) 0 → o ≡ list_repeat s what x y z u t10 → second2 t o ≡ once_step src s k w name what row t t10
  unfolding once_step
  once_repeat r p x y z u o e g hx hy hz hu d = rw (← found_row, e) (ap (second2 t) (rw (hx, hy, hz, hu, g) at d))

  pub once_new : (o : Out1) → f ≡ None → o ≡ push_row s k row t → first2 o t10 ≡ once_step src s k w name what row t t10
  unfolding once_step
  once_new o e d = rw (← found_row, e) (ap (λ (x : Out1). first2 x t10) d)

-- positions behind a position: where spacing ends, where a further part ends, where a step comes to stand
module _ (src : List ℕ) (at : ℕ) where
  pub gap_passed : (g : Result (ℕ × ℕ) Refusal) (i n : ℕ) → Gapped src at g → g ≡ Ok (i, n) → Passed src at i
  gap_passed g i n x e =
      let y = rw e at x in
      let k = y.0 in
      record { onward = omega arith; inside = y.1 }

  pub passed_on : (i j : ℕ) → Passed src at i → Passed src i j → Passed src at j
  passed_on i j p q =
      let k = p.onward in
      let l = q.onward in
      record { onward = omega arith; inside = q.inside }

  pub passed_here : (i : ℕ) → Here src at → Passed src at i → Here src i
  passed_here i h p = record { within = p.inside; short = h.short }

  -- which 32 bits hold
  pub passed_fits : (i : ℕ) → Here src at → Passed src at i → Fits w32 i
  passed_fits i h p =
      let k = h.short in
      let l = p.inside in
      omega arith

  pub onward_passed : (j before after : ℕ) (a : Answer) → Onward src j before a after → before ≡ at → Passed src at j → Passed src at after
  onward_passed j before after a o e p =
      let k = p.onward in
      let l = p.inside in
      let q = rw e at o in
      record { onward = q.forth k; inside = q.inside (omega arith) }

  pub onward_from : (j before after : ℕ) (a : Answer) → Onward src j before a after → Passed src at j → Onward src at before a after
  onward_from j before after a o p = nearer src at j before after a p.onward o

  pub still : Here src at → Passed src at at
  still h = record { onward = omega arith; inside = h.within }
