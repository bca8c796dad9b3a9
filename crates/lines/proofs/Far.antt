-- Lists that run to their line's end keep soundness so far, whatever their answer. Assumes nothing.
use Rattle.std.specs.Prelude.{Option, Result, Ok, Err}
use Prim.Native.Nat.{ℕ, suc, ◌≤◌, ◌<◌}
use mathlib.Core.Path.{◌≡◌, refl}
use mathlib.Core.List.{List}
use mathlib.Core.Bool.{Bool, true, false}
use native.Mathlib.Omega.{arith}
use lib.Dec.{leb}
use lib.ListN.{length}
use Rattle.scan.proofs.Bytes.{on_test}
use Rattle.scan.proofs.Loop.{Either, turns_keep}
use Rattle.scan.specs.declared.Place.{Place}
use Rattle.words.specs.Words.{token_at, Tokened}
use Rattle.words.proofs.Words.{token_placed}
use Rattle.tables.specs.Table.{cell}
use Rattle.tables.specs.Layout.{tokens, precedences, avoided, implicit, repeats, tags, token_numbers, width}
use Rattle.tables.proofs.Rows.{row_cell}
use Rattle.grammar.specs.declared.State.{State}
use Rattle.grammar.specs.declared.Answer.{Answer}
use Rattle.grammar.specs.declared.Answer.TheVariants.{Going, Done, Refused}
use Rattle.grammar.specs.declared.Repeat.{Repeat}
use Rattle.grammar.specs.declared.Repeat.TheVariants.{RepeatedPrecedence}
use Rattle.grammar.specs.declared.Refusal.{Refusal}
use Rattle.grammar.specs.Cells.{precedence_cells, name_cells}
use Rattle.grammar.specs.State.{Out1, Out2, Out3, Out4, Passed, count, with_at, with_level, next_level, gap_at, Gapped, enter_step, once_step}
use Rattle.grammar.specs.Sound.{AllTables, cells_of, set_tab, Lies, Far}
use Rattle.grammar.proofs.Steps.{level_up}
use Rattle.grammar.proofs.Far.{far_at, far_level}
use Rattle.grammar.proofs.Kept.{gapped, Far3, Held, Held2, enter_held, once_held, behind2_far}
use Rattle.marks.specs.Marks.{Leading, lead_tag, tag_row}
use Rattle.marks.proofs.Laws.{lead_level, behind_level}
use Rattle.marks.proofs.Far.{LeadFar, lead_far, tag_held, behind_word_far}
use Rattle.lines.specs.Precedences.{prec_entered, prec_found, prec_item, line_end, after_end, prec_turn, prec_list, prec_led, prec_body, prec_from, prec_decl}
use Rattle.lines.specs.Grown.{NameTable, third, fourth}
use Rattle.lines.specs.Avoided.{avoid_entered, avoid_named, avoid_found, avoid_item, avoid_end, avoid_turn, avoid_list, avoid_from, avoid_decl}

-- a step on the four tables of a precedence line keeps soundness so far
abbrev pub Far4 : List ℕ → ℕ → AllTables → Out4 → Type 0
Far4 src done T o = Far src done o.state (set_tab (set_tab (set_tab (set_tab T precedences o.a) repeats o.b) tags o.c) token_numbers o.d)

-- a precedence line under way: sound so far, and the line's level is below the next one
pub record LineFar (src : List ℕ) (done : ℕ) (T : AllTables) (lev : ℕ) (o : Out4) : Type 0 where
  pub far : Far4 src done T o
  pub low : lev < o.state.level

module _ {src : List ℕ} {done : ℕ} {s : State} {T : AllTables} (f : Far src done s T) (lev assoc : ℕ) (low : lev < s.level) (a : 1 ≤ assoc) (b : assoc ≤ 3) (tag : Option (ℕ × ℕ)) (t : Lies src tag) where
  first : (r : ℕ) → r < count s precedences → Passed src (cell (width precedences) T.t2 r 0) (cell (width precedences) T.t2 r 1)
  first r l = rw (← row_cell (width precedences) T.t2 r 0 (omega arith), ← row_cell (width precedences) T.t2 r 1 (omega arith)) ((f.tables precedences).each r l).name

  item_far : LineFar src done T lev (prec_item src s lev assoc tag T.t2 T.t10 T.t15 T.t16)
  unfolding prec_item
  item_far = go (token_at src s.at) (token_placed src s.at (token_at src s.at) refl).1
    where
      behind : (from to end : ℕ) (o : Out2) → Passed src from to → s.at ≤ end → end ≤ length src → Held2 src done T precedences repeats s o → LineFar src done T lev (prec_entered src tag from to end o T.t15 T.t16)
      behind from to end o p h k x =
          let g = tag_held x.far o.answer tag from to t p in
          let r = tag_row o.answer o.state tag from to T.t15 in
          record {
            far = behind_word_far g.far true from to end r.answer p (omega (arith, x.stays, g.stays)) k;
            low = omega (arith, low, x.level, g.level, behind_level src true from to end r.answer r.state T.t16);
          }

      go : (w : Result (Place × ℕ × Bool) ℕ) → Tokened src s.at w → LineFar src done T lev (prec_found w src s lev assoc tag T.t2 T.t10 T.t15 T.t16)
      go (Ok (p, end, q)) x =
          let c = x.0 in
          let d = x.1 in
          let e = x.2 in
          let g = x.3 in
          let z : Passed src p.from p.to = record { onward = omega arith; inside = omega arith } in
          behind p.from p.to end _ z (omega arith) g
          (once_held f precedences (omega arith) (λ z. omega arith) 0 RepeatedPrecedence (precedence_cells p.from p.to lev assoc) refl (record { name = z; earlier = low; least = a; most = b }) (λ r l. tt) first z)
      go (Err k) x = record { far = f; low = low }

module _ (src : List ℕ) (done : ℕ) (T : AllTables) (lev assoc : ℕ) (a : 1 ≤ assoc) (b : assoc ≤ 3) (tag : Option (ℕ × ℕ)) (t : Lies src tag) where
  turn_far : (o : Out4) → LineFar src done T lev o → Either (LineFar src done T lev) (LineFar src done T lev) (prec_turn src lev assoc tag o)
  unfolding prec_turn
  turn_far o x = go (leb (length src) o.state.at)
    where
      item : Out4
      item = prec_item src o.state lev assoc tag o.a o.b o.c o.d

      next : (y : Answer) (p : Out4) → LineFar src done T lev p → Either (LineFar src done T lev) (LineFar src done T lev) (line_end y p)
      next Going p z = z
      next Done p z = record { far = z.far; low = z.low }
      next (Refused f) p z = z

      go : (q : Bool) → Either (LineFar src done T lev) (LineFar src done T lev) (after_end q o (prec_item src o.state lev assoc tag o.a o.b o.c o.d))
      go true = x
      go false = next item.answer item (let z = item_far x.far lev assoc x.low a b tag t in record { far = z.far; low = z.low })

-- `%left`, `%right` and `%nonassoc`, behind their keyword
pub prec_far : {src : List ℕ} {done : ℕ} {s : State} {T : AllTables} (assoc : ℕ) → 1 ≤ assoc → assoc ≤ 3 → s.level < s.at → Far src done s T → Far4 src done T (prec_decl src s assoc T.t2 T.t10 T.t15 T.t16)
unfolding prec_decl prec_body prec_list
prec_far {src} {done} {s} {T} assoc a b up f = gap (gap_at s.kind false src s.at) (gapped s.kind false src s.at f.here)
  where
    body : (u : State) → s.level < u.level → (y : Answer) (l : Leading) → LeadFar src done T l → l.state.level ≡ u.level → Far4 src done T (prec_led y l src s.level assoc T.t2 T.t10 T.t15 T.t16)
    body u h Going l x e = (turns_keep (LineFar src done T s.level) (prec_turn src s.level assoc l.tag) (turn_far src done T s.level assoc a b l.tag x.tag) (suc (length src)) _ (record { far = x.far; low = omega arith })).far
    body u h Done l x e = x.far
    body u h (Refused r) l x e = x.far

    gap : (g : Result (ℕ × ℕ) Refusal) → Gapped src s.at g → Far4 src done T (prec_from g src s assoc T.t2 T.t10 T.t15 T.t16)
    gap (Ok (i, n)) x =
        let c = x.0 in
        let d = f.here in
        let e = f.short in
        let r = level_up s.level (omega arith) in
        let u = with_level (with_at s i) (next_level s.level) in
        let g = far_level (far_at f i (omega arith) x.1) (next_level s.level) (omega arith) (omega arith) in
        body u (omega arith) (lead_tag src u false true).answer (lead_tag src u false true) (lead_far g false true) (lead_level src u false true)
    gap (Err r) x = f

module _ {src : List ℕ} {done : ℕ} {s : State} {T : AllTables} (f : Far src done s T) where
  -- a token that was entered is given to table 3 or 4 once
  given_held : (k : ℕ) → NameTable k → (what : Repeat) (from to : ℕ) → Passed src from to → Held2 src done T k repeats s (once_step src s k (width avoided) 0 what (name_cells from to) (cells_of T k) T.t10)
  given_held k third what from to p = once_held f avoided (omega arith) (λ z. omega arith) 0 what (name_cells from to) refl (record { name = p }) (λ r l. tt) (λ r l. rw (← row_cell (width avoided) T.t3 r 0 (omega arith), ← row_cell (width avoided) T.t3 r 1 (omega arith)) ((f.tables avoided).each r l).name) p
  given_held k fourth what from to p = once_held f implicit (omega arith) (λ z. omega arith) 0 what (name_cells from to) refl (record { name = p }) (λ r l. tt) (λ r l. rw (← row_cell (width implicit) T.t4 r 0 (omega arith), ← row_cell (width implicit) T.t4 r 1 (omega arith)) ((f.tables implicit).each r l).name) p

-- the second step, on the tables that the first left
module _ {src : List ℕ} {done : ℕ} {s : State} {T : AllTables} where
  entered_far : (k : ℕ) → NameTable k → (what : Repeat) (from to end : ℕ) → Passed src from to → s.at ≤ end → end ≤ length src → (a : Answer) (o : Out1) → Held src done T tokens s o → Far3 src done T tokens k repeats (avoid_entered a o src k what from to end (cells_of T k) T.t10)
  entered_far k third what from to end p h l Going o x =
      let e = x.stays in
      behind2_far {T = set_tab T tokens o.a} {k = avoided} {l = repeats} {s = o.state} true end _ (omega arith) l (given_held x.far avoided third what from to p)
  entered_far k fourth what from to end p h l Going o x =
      let e = x.stays in
      behind2_far {T = set_tab T tokens o.a} {k = implicit} {l = repeats} {s = o.state} true end _ (omega arith) l (given_held x.far implicit fourth what from to p)
  entered_far k third what from to end p h l Done o x = x.far
  entered_far k fourth what from to end p h l Done o x = x.far
  entered_far k third what from to end p h l (Refused f) o x = x.far
  entered_far k fourth what from to end p h l (Refused f) o x = x.far

module _ {src : List ℕ} {done : ℕ} {s : State} {T : AllTables} (f : Far src done s T) (k : ℕ) (n : NameTable k) (what : Repeat) where
  avoid_item_far : Far3 src done T tokens k repeats (avoid_item src s k what T.t1 (cells_of T k) T.t10)
  unfolding avoid_item avoid_named
  avoid_item_far = go (token_at src s.at) (token_placed src s.at (token_at src s.at) refl).1
    where
      same : (k : ℕ) → NameTable k → Far3 src done T tokens k repeats (record { answer = Going; state = s; a = T.t1; b = cells_of T k; c = T.t10 })
      same k third = f
      same k fourth = f

      go : (t : Result (Place × ℕ × Bool) ℕ) → Tokened src s.at t → Far3 src done T tokens k repeats (avoid_found t src s k what T.t1 (cells_of T k) T.t10)
      go (Ok (p, end, q)) x =
          let c = x.0 in
          let d = x.1 in
          let e = x.2 in
          let g = x.3 in
          let z : Passed src p.from p.to = record { onward = omega arith; inside = omega arith } in
          entered_far k n what p.from p.to end z (omega arith) g (enter_step src s p.from p.to false T.t1).answer (enter_step src s p.from p.to false T.t1) (enter_held f p.from p.to false z)
      go (Err i) x = same k n

-- the tables under way are those before, with three replaced
under : (src : List ℕ) (done : ℕ) (T : AllTables) (k : ℕ) (n : NameTable k) (what : Repeat) (o : Out3) → Far3 src done T tokens k repeats o → Far3 src done T tokens k repeats (avoid_item src o.state k what o.a o.b o.c)
under src done T k third what o f = avoid_item_far f avoided third what
under src done T k fourth what o f = avoid_item_far f implicit fourth what

avoid_turn_far : (src : List ℕ) (done : ℕ) (T : AllTables) (k : ℕ) (n : NameTable k) (what : Repeat) (o : Out3) → Far3 src done T tokens k repeats o → Either (Far3 src done T tokens k repeats) (Far3 src done T tokens k repeats) (avoid_turn src k what o)
unfolding avoid_turn
avoid_turn_far src done T k n what o f = go (avoid_item src o.state k what o.a o.b o.c).answer (avoid_item src o.state k what o.a o.b o.c) (under src done T k n what o f)
  where
    go : (a : Answer) (p : Out3) → Far3 src done T tokens k repeats p → Either (Far3 src done T tokens k repeats) (Far3 src done T tokens k repeats) (avoid_end a p)
    go Going p x = x
    go Done p x = x
    go (Refused e) p x = x

-- `%avoid_insert` and `%implicit_tokens`, behind their keyword
pub avoid_far : {src : List ℕ} {done : ℕ} {s : State} {T : AllTables} (k : ℕ) → NameTable k → (what : Repeat) → Far src done s T → Far3 src done T tokens k repeats (avoid_decl src s k what T.t1 (cells_of T k) T.t10)
unfolding avoid_decl avoid_list
avoid_far {src} {done} {s} {T} k n what f =
    on_test (Far3 src done T tokens k repeats) (leb (length src) s.at) _ _ (λ e. same k n s f)
    (λ e. go (gap_at s.kind false src s.at) (gapped s.kind false src s.at f.here))
  where
    same : (k : ℕ) → NameTable k → (u : State) → Far src done u T → Far src done u (set_tab (set_tab (set_tab T tokens T.t1) k (cells_of T k)) repeats T.t10)
    same k third u g = g
    same k fourth u g = g

    go : (g : Result (ℕ × ℕ) Refusal) → Gapped src s.at g → Far3 src done T tokens k repeats (avoid_from g src s k what T.t1 (cells_of T k) T.t10)
    go (Ok (i, m)) x =
        let c = x.0 in
        turns_keep (Far3 src done T tokens k repeats) (avoid_turn src k what) (avoid_turn_far src done T k n what) (suc (length src)) _ (same k n (with_at s i) (far_at f i (omega arith) x.1))
    go (Err e) x = same k n s f
