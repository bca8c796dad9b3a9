-- `%avoid_insert`, `%implicit_tokens`: what is shipped of a list that was read is read as the same list. Assumes nothing.
use Rattle.std.specs.Prelude.{Option, Result, Ok}
use Prim.Native.Nat.{ℕ, suc, ◌+◌, ◌<◌}
use mathlib.Core.Path.{◌≡◌, refl, sym, ◌∙◌, ap}
use mathlib.Core.List.{List, ◌∷◌, ◌++◌}
use mathlib.Core.Bool.{Bool, true, false}
use native.Mathlib.Omega.{arith}
use borrow.Author.Tests.{lt-leb}
use lib.ListN.{length, drop}
use lib.Seq.{slice}
use Rattle.scan.specs.declared.Place.{Place}
use Rattle.scan.specs.Loop.{Turn, more, stop, turns}
use Rattle.scan.proofs.Bytes.{told}
use Rattle.tables.specs.Layout.{tokens, avoided, implicit, repeats, width}
use Rattle.grammar.specs.declared.State.{State}
use Rattle.grammar.specs.declared.Answer.{Answer}
use Rattle.grammar.specs.declared.Answer.TheVariants.{Going, Done, Refused}
use Rattle.grammar.specs.declared.Repeat.{Repeat}
use Rattle.grammar.specs.declared.Refusal.{Refusal}
use Rattle.grammar.specs.Cells.{name_cells}
use Rattle.grammar.specs.Sound.{AllTables, cells_of, set_tab}
use Rattle.grammar.specs.State.{Out0, Out1, Out2, Out3, count, with_at, gap_at, enter_step, once_step, pass_on, tied3}
use Rattle.grammar.proofs.SameKind.{enter_kind, once_kind}
use Rattle.grammar.proofs.Touch.{refused_going}
use Rattle.marks.specs.Worded.{ListWord}
use Rattle.lines.specs.Line.{Alone, alone, NameLine, untagged, Untagged, Line}
use Rattle.lines.specs.Grown.{NameTable, third, fourth}
use Rattle.lines.specs.Avoided.{behind_both, avoid_entered, avoid_named, avoid_found, avoid_item, avoid_next, avoid_turn, avoid_list, avoid_from, avoid_decl}
use Rattle.lines.proofs.Worded.{spaces_gap}
use Rattle.lines.proofs.Avoided.{avoid_words}
use Rattle.alike.specs.Like.{Same, Table, Like, Near}
use Rattle.alike.specs.Stands.{TokenAt}
use Rattle.alike.proofs.Steps.{Both2, enter_like, once_like}
use Rattle.alike.proofs.Near.{near_at, near_one, near_two}
use Rattle.printed.specs.Print.{words}
use Rattle.printed.specs.Stands.{Tokens2, Ends, Lined, Row2}
use Rattle.printed.specs.Ships.{Ships}
use Rattle.printed.proofs.Loops.{told_both, Goes, Turned, on, halt, Ended, line_runs}
use Rattle.printed.proofs.Lines.{line_bytes, line_back, there_line, Open, enter_open, once_open, line_answer, past_line}

-- T1: a list that was read, with something behind it, has words
module _ (src : List ℕ) (k : ℕ) (nt : NameTable k) (what : Repeat) (s : State) (t1 t t10 : List ℕ) where
  pub avoid_spelled : length s.counts.n ≡ 10 → s.at < length src → (avoid_decl src s k what t1 t t10).answer ≡ Going → (avoid_decl src s k what t1 t t10).state.at < length src
      → (xs : List (List ℕ)) × Lined s.kind src s.at (avoid_decl src s k what t1 t t10).state.at xs
  avoid_spelled ten h g b = go (avoid_words src k nt what s t1 t t10 ten h g)
    where
      word_at : (i end : ℕ) (w : ListWord) → Alone src i end w → TokenAt src i end (slice i end src)
      word_at i end w (alone {p = p} {quoted = q} e) = record { place = p; quoted = q; is = e; spelled = refl }

      head : {i j n : ℕ} {g : Option (ℕ × ℕ)} → Untagged i j n g → (i ≡ j) × (0 ≡ n)
      head untagged = (refl, refl)

      go : NameLine s.kind src s.at (avoid_decl src s k what t1 t t10).state.at → (xs : List (List ℕ)) × Lined s.kind src s.at (avoid_decl src s k what t1 t t10).state.at xs
      go l =
          let y = head l.lead in
          let (xs, r) = line_bytes s.kind src (Alone src) word_at b (told (λ (m : ℕ). Line s.kind (Alone src) src m l.head (avoid_decl src s k what t1 t t10).state.at l.counted l.words) (sym y.1) l.line) in
          (xs, record { from = l.head; lines = l.ends; gap = told (λ (i : ℕ). gap_at s.kind false src s.at ≡ Ok (i, l.ends)) y.0 (spaces_gap s.kind false src s.at l.start l.ends l.gap); row = r })

-- T4: a turn is a token entered, a step on two other tables, and spacing
module _ (src : List ℕ) (k : ℕ) (what : Repeat) where
  abbrev enter_of : Out3 → Place → Out1
  enter_of o p = enter_step src o.state p.from p.to false o.a

  abbrev once_of : Out3 → Place → Out2
  once_of o p = once_step src (enter_of o p).state k (width avoided) 0 what (name_cells p.from p.to) o.b o.c

  turn_is : (o : Out3) (e : ℕ) (x : List ℕ) (w : TokenAt src o.state.at e x) → let m = enter_of o w.place in
      avoid_turn src k what o ≡ avoid_next (avoid_entered m.answer m src k what w.place.from w.place.to e o.b o.c)
  unfolding avoid_turn avoid_item avoid_named
  turn_is o e x w = ap (λ (r : Result (Place × ℕ × Bool) ℕ). avoid_next (avoid_found r src o.state k what o.a o.b o.c)) w.is

  once_kept : (o : Out3) (p : Place) → (once_of o p).state.kind ≡ o.state.kind
  once_kept o p = once_kind (enter_of o p).state src k (width avoided) 0 what (name_cells p.from p.to) o.b o.c ∙ enter_kind o.state src p.from p.to false o.a

-- the tables under way
abbrev pub in_names : ℕ → AllTables → Out3 → AllTables
in_names k T o = set_tab (set_tab (set_tab T tokens o.a) k o.b) repeats o.c

names_first : {k : ℕ} → NameTable k → (T : AllTables) (o : Out3) → cells_of (in_names k T o) tokens ≡ o.a
names_first third T o = refl
names_first fourth T o = refl

names_own : {k : ℕ} → NameTable k → (T : AllTables) (o : Out3) (a : List ℕ) → cells_of (set_tab (in_names k T o) tokens a) k ≡ o.b
names_own third T o a = refl
names_own fourth T o a = refl

names_again : {k : ℕ} → NameTable k → (T : AllTables) (o : Out3) (a : List ℕ) → cells_of (set_tab (in_names k T o) tokens a) repeats ≡ o.c
names_again third T o a = refl
names_again fourth T o a = refl

names_set : {k : ℕ} → NameTable k → (T : AllTables) (o p : Out3) → set_tab (set_tab (set_tab (in_names k T o) tokens p.a) k p.b) repeats p.c ≡ in_names k T p
names_set third T o p = refl
names_set fourth T o p = refl

names_start : {k : ℕ} → NameTable k → (T : AllTables) (s : State) → in_names k T (record { answer = Going; state = s; a = T.t1; b = cells_of T k; c = T.t10 }) ≡ T
names_start third T s = refl
names_start fourth T s = refl

names_low : {k : ℕ} → NameTable k → k < 13
names_low third = omega arith
names_low fourth = omega arith

names_apart : {k : ℕ} → NameTable k → k ≡ repeats → ⊥
names_apart third e = omega arith
names_apart fourth e = omega arith

names_like : {k : ℕ} → NameTable k → (src out : List ℕ) (s u : State) → Like src out s u → (what : Repeat) (p q : Place) → Same src out p.from p.to q.from q.to → (t v t10 v10 : List ℕ)
    → Table src out k (count s k) t v → Table src out repeats (count s repeats) t10 v10 → (once_step src s k (width avoided) 0 what (name_cells p.from p.to) t t10).answer ≡ Going
    → Both2 src out k s (once_step src s k (width avoided) 0 what (name_cells p.from p.to) t t10) (once_step out u k (width avoided) 0 what (name_cells q.from q.to) v v10)
names_like third src out s u l what p q x t v t10 v10 a b g =
    once_like src out s u l avoided 0 (omega arith) (λ e. omega arith) (omega arith) (omega arith) (λ x y f. f.0) (λ x y f. f.0) what (name_cells p.from p.to) (name_cells q.from q.to) t v t10 v10 refl refl (x, tt) a b g
names_like fourth src out s u l what p q x t v t10 v10 a b g =
    once_like src out s u l implicit 0 (omega arith) (λ e. omega arith) (omega arith) (omega arith) (λ x y f. f.0) (λ x y f. f.0) what (name_cells p.from p.to) (name_cells q.from q.to) t v t10 v10 refl refl (x, tt) a b g

module _ {k : ℕ} (nt : NameTable k) (what : Repeat) (src out : List ℕ) (kind : ℕ) (T W : AllTables) where
  record Under (o z : Out3) : Type 0 where
    of : o.state.kind ≡ kind
    going : z.answer ≡ Going
    near : Near src out o.state z.state (in_names k T o) (in_names k W z)

  abbrev stands : Out3 → ℕ
  stands o = o.state.at

  abbrev answers : Out3 → Answer
  answers o = o.answer

  abbrev put : (s : List ℕ) (o : Out3) (p : Place) → ℕ → Out3
  put s o p m = record { answer = Going; state = with_at (once_of s k what o p).state m; a = (enter_of s k what o p).a; b = (once_of s k what o p).a; c = (once_of s k what o p).b }

  -- where a list goes on to its end, both steps of its first word did
  enter_goes : (o : Out3) (e : ℕ) (x : List ℕ) (w : TokenAt src o.state.at e x) → Goes stands answers Under (avoid_turn src k what o) → (enter_of src k what o w.place).answer ≡ Going
  enter_goes o e x w g = go m.answer refl (enter_open src o.state w.place.from w.place.to false o.a)
    where
      m : Out1
      m = enter_of src k what o w.place

      go : (a : Answer) → m.answer ≡ a → Open a → m.answer ≡ Going
      go Going z h = z
      go Done z h = absurd h
      go (Refused f) z h =
          let t = turn_is src k what o e x w ∙ ap (λ (a : Answer). avoid_next (avoid_entered a m src k what w.place.from w.place.to e o.b o.c)) z in
          absurd (refused_going f (told (Goes stands answers Under) t g))

  turn_entered : (s : List ℕ) (o : Out3) (e : ℕ) (x : List ℕ) (w : TokenAt s o.state.at e x) → (enter_of s k what o w.place).answer ≡ Going → avoid_turn s k what o ≡ avoid_next (behind_both s e (enter_of s k what o w.place).a (once_of s k what o w.place))
  turn_entered s o e x w a = turn_is s k what o e x w ∙ ap (λ (y : Answer). avoid_next (avoid_entered y (enter_of s k what o w.place) s k what w.place.from w.place.to e o.b o.c)) a

  once_goes : (o : Out3) (e : ℕ) (x : List ℕ) (w : TokenAt src o.state.at e x) → (enter_of src k what o w.place).answer ≡ Going → Goes stands answers Under (avoid_turn src k what o) → (once_of src k what o w.place).answer ≡ Going
  once_goes o e x w ans g = go r.answer refl (once_open src m.state k (width avoided) 0 what (name_cells w.place.from w.place.to) o.b o.c)
    where
      m : Out1
      m = enter_of src k what o w.place

      r : Out2
      r = once_of src k what o w.place

      go : (a : Answer) → r.answer ≡ a → Open a → r.answer ≡ Going
      go Going z h = z
      go Done z h = absurd h
      go (Refused f) z h =
          let t = turn_entered src o e x w ans ∙ ap (λ (a : Answer). avoid_next (tied3 (pass_on src true e a r.state) m.a r.a r.b)) z in
          absurd (refused_going f (told (Goes stands answers Under) t g))

  abbrev ended : Bool → Out3 → Turn Out3
  ended true o = stop o
  ended false o = more o

  turn_word : (s : List ℕ) (o : Out3) (e m n : ℕ) (x : List ℕ) (w : TokenAt s o.state.at e x) (b : Bool) → o.state.kind ≡ kind → gap_at kind true s e ≡ Ok (m, n) → Ends b n
      → (enter_of s k what o w.place).answer ≡ Going → (once_of s k what o w.place).answer ≡ Going → avoid_turn s k what o ≡ ended b (put s o w.place m)
  turn_word s o e m n x w b z g h a c =
      let v = enter_of s k what o w.place in
      let r = once_of s k what o w.place in
      let gap : gap_at r.state.kind true s e ≡ Ok (m, n) = rw (once_kept s k what o w.place, z) g in
      turn_entered s o e x w a ∙ ap (λ (y : Out0). avoid_next (tied3 y v.a r.a r.b)) (past_line s e m n r.answer r.state b gap h c) ∙ by b
    where
      by : (b : Bool) → avoid_next (tied3 (record { answer = line_answer b; state = with_at (once_of s k what o w.place).state m }) (enter_of s k what o w.place).a (once_of s k what o w.place).a (once_of s k what o w.place).b) ≡ ended b (put s o w.place m)
      by true = refl
      by false = refl

  two_turns : (o z : Out3) (e h m n p q : ℕ) (x : List ℕ) → Under o z → Tokens2 src out o.state.at e z.state.at h x → gap_at kind true src e ≡ Ok (m, n) → gap_at kind true out h ≡ Ok (p, q)
      → (b : Bool) → Ends b n → Ends b q → Goes stands answers Under (avoid_turn src k what o) → Turned stands answers Under m p b (avoid_turn src k what o) (avoid_turn out k what z)
  two_turns o z e h m n p q x i w g1 g2 b e1 e2 goes =
      let s = o.state in
      let u = z.state in
      let a = w.here.place in
      let c = w.there.place in
      let v = enter_of src k what o a in
      let v' = enter_of out k what z c in
      let r = once_of src k what o a in
      let r' = once_of out k what z c in
      let ans = enter_goes o e x w.here goes in
      let ans2 = once_goes o e x w.here ans goes in
      let first : Table src out tokens (count s tokens) o.a z.a = rw (names_first nt T o, names_first nt W z) at (i.near.tables tokens) in
      let one = enter_like src out s u i.near.like a.from a.to c.from c.to false o.a z.a w.same first ans in
      let near1 = near_one src out s u (in_names k T o) (in_names k W z) i.near tokens (omega arith) v v' one in
      let own : Table src out k (count v.state k) o.b z.b = rw (names_own nt T o v.a, names_own nt W z v'.a) at (near1.tables k) in
      let again : Table src out repeats (count v.state repeats) o.c z.c = rw (names_again nt T o v.a, names_again nt W z v'.a) at (near1.tables repeats) in
      let two = names_like nt src out v.state v'.state one.states what a c w.same o.b z.b o.c z.c own again ans2 in
      let near2 = near_two src out v.state v'.state (set_tab (in_names k T o) tokens v.a) (set_tab (in_names k W z) tokens v'.a) near1 k (names_low nt) (names_apart nt) r r' two in
      let near3 : Near src out r.state r'.state (in_names k T (put src o a m)) (in_names k W (put out z c p)) = rw (names_set nt T o (put src o a m), names_set nt W z (put out z c p)) at near2 in
      let under : Under (put src o a m) (put out z c p) = record { of = once_kept src k what o a ∙ i.of; going = refl; near = near_at src out r.state r'.state _ _ near3 m p } in
      rw (turn_word src o e m n x w.here b i.of g1 e1 ans ans2, turn_word out z h p q x w.there b (sym i.near.like.kind ∙ i.of) g2 e2 one.going two.going) (by b under)
    where
      by : (b : Bool) → {y v : Out3} → Under y v → Turned stands answers Under y.state.at v.state.at b (ended b y) (ended b v)
      by true {y} {v} i = halt y v refl refl i
      by false {y} {v} i = on y v refl refl i

  run_like : (o z : Out3) (j l : ℕ) (xs : List (List ℕ)) → Row2 kind src out o.state.at z.state.at j l xs → Under o z → (turns (suc (length src)) (avoid_turn src k what) o).answer ≡ Going
      → Ended stands answers Under j l (turns (suc (length src)) (avoid_turn src k what) o) (turns (suc (length out)) (avoid_turn out k what) z)
  run_like o z j l xs w i g = line_runs stands answers Under (avoid_turn src k what) (avoid_turn out k what) kind src out two_turns (suc (length src)) (suc (length out)) o z j l xs w (omega arith) (omega arith) i g

-- a list behind its keyword
avoid_from_lem : (src : List ℕ) (s : State) (k : ℕ) (what : Repeat) (t1 t t10 : List ℕ) → s.at < length src → (i n : ℕ) → gap_at s.kind false src s.at ≡ Ok (i, n)
    → avoid_decl src s k what t1 t t10 ≡ turns (suc (length src)) (avoid_turn src k what) (record { answer = Going; state = with_at s i; a = t1; b = t; c = t10 })
unfolding avoid_decl avoid_list
avoid_from_lem src s k what t1 t t10 h i n g = rw (lt-leb (length src) s.at h, avoid_decl) (ap (λ (x : Result (ℕ × ℕ) Refusal). avoid_from x src s k what t1 t t10) g)

-- A list shipped in front of the next `%`.
module _ {k : ℕ} (nt : NameTable k) (what : Repeat) (src out : List ℕ) (s u : State) (T W : AllTables) (n : Near src out s u T W) where
  abbrev pub avoid_over : List ℕ → State → AllTables → Out3
  avoid_over r v X = avoid_decl r v k what X.t1 (cells_of X k) X.t10

  pub avoid_ships : (j : ℕ) (xs : List (List ℕ)) (cs : List ℕ) → s.at < length src → u.at < length out → Lined s.kind src s.at j xs → drop u.at out ≡ words xs ++ (10 ∷ (37 ∷ cs)) → (avoid_over src s T).answer ≡ Going
      → let o = avoid_over src s T in let z = avoid_over out u W in Ships src out (37 ∷ cs) j (λ l. Lined u.kind out u.at l xs) o.state z.state z.answer (in_names k T o) (in_names k W z)
  avoid_ships j xs cs low low' w q g =
      let b = line_back s.kind src out cs w.row u.at q in
      let p = avoid_from_lem src s k what T.t1 (cells_of T k) T.t10 low w.from w.lines w.gap in
      let p' = avoid_from_lem out u k what W.t1 (cells_of W k) W.t10 low' (u.at + 1) 0 (rw (← n.like.kind) (b.gap false)) in
      let o : Out3 = record { answer = Going; state = with_at s w.from; a = T.t1; b = cells_of T k; c = T.t10 } in
      let z : Out3 = record { answer = Going; state = with_at u (u.at + 1); a = W.t1; b = cells_of W k; c = W.t10 } in
      let start : Near src out (with_at s w.from) (with_at u (u.at + 1)) (in_names k T o) (in_names k W z) = rw (names_start nt T (with_at s w.from), names_start nt W (with_at u (u.at + 1))) (near_at src out s u T W n w.from (u.at + 1)) in
      let r = run_like nt what src out s.kind T W o z j b.to xs b.rows (record { of = refl; going = refl; near = start }) (told (λ (x : Out3). x.answer ≡ Going) p g) in
      told_both (λ (x y : Out3). Ships src out (37 ∷ cs) j (λ l. Lined u.kind out u.at l xs) x.state y.state y.answer (in_names k T x) (in_names k W y)) p p' (record {
        here = r.here;
        going = r.kept.going;
        near = r.kept.near;
        left = rw r.there b.left;
        there = rw (r.there, ← n.like.kind) (record { from = u.at + 1; lines = 0; gap = b.gap false; row = there_line s.kind src out b.rows });
      })
