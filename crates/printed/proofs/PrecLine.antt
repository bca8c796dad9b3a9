-- `%left`, `%right`, `%nonassoc`: what is shipped of a line that was read is read as the same line. Assumes nothing.
use Rattle.std.specs.Prelude.{None, Result, Ok}
use Prim.Native.Nat.{ℕ, suc, ◌+◌, ◌≤◌, ◌<◌}
use mathlib.Core.Path.{◌≡◌, refl, sym, ◌∙◌, ap}
use mathlib.Core.List.{List, ◌∷◌, ◌++◌}
use mathlib.Core.Bool.{Bool, true, false}
use native.Mathlib.Omega.{arith}
use borrow.Author.Tests.{lt-leb}
use lib.ListN.{length, drop}
use lib.Seq.{slice}
use Rattle.scan.specs.declared.Place.{Place}
use Rattle.scan.specs.Loop.{Turn, more, stop, turns}
use Rattle.scan.proofs.Bytes.{told}
use Rattle.tables.specs.Layout.{precedences, repeats, tags, token_numbers, width}
use Rattle.grammar.specs.declared.State.{State}
use Rattle.grammar.specs.declared.Answer.{Answer}
use Rattle.grammar.specs.declared.Answer.TheVariants.{Going, Done, Refused}
use Rattle.grammar.specs.declared.Repeat.TheVariants.{RepeatedPrecedence}
use Rattle.grammar.specs.declared.Refusal.{Refusal}
use Rattle.grammar.specs.Cells.{precedence_cells}
use Rattle.grammar.specs.Sound.{AllTables, set_tab}
use Rattle.grammar.specs.State.{Out0, Out1, Out2, Out4, with_at, with_level, next_level, gap_at, once_step, pass_on}
use Rattle.grammar.proofs.SameKind.{once_kind}
use Rattle.grammar.proofs.Touch.{refused_going}
use Rattle.marks.specs.Marks.{Leading}
use Rattle.marks.specs.Worded.{ListWord, Worded, plain, numbered}
use Rattle.marks.proofs.Laws.{lead_none}
use Rattle.marks.proofs.Worded.{tag_absent}
use Rattle.lines.specs.Line.{Line}
use Rattle.lines.specs.Precedences.{prec_tagged, prec_found, prec_item, line_end, prec_turn, prec_list, prec_led, prec_body, prec_from, prec_decl}
use Rattle.lines.proofs.Worded.{spaces_gap, not_four as not-led}
use Rattle.lines.proofs.Read.{line_words_lem}
use Rattle.alike.specs.Like.{Near}
use Rattle.alike.specs.Stands.{TokenAt}
use Rattle.alike.proofs.Again.{token_lies}
use Rattle.alike.proofs.Steps.{not_four, once_like}
use Rattle.alike.proofs.Near.{near_at, near_level, near_two}
use Rattle.printed.specs.Print.{words}
use Rattle.printed.specs.Stands.{Tokens2, Ends, Lined, Row2}
use Rattle.printed.specs.Ships.{Ships}
use Rattle.printed.proofs.Loops.{told_both, Goes, Turned, on, halt, Ended, line_runs}
use Rattle.printed.proofs.Lists.{behind_unmarked}
use Rattle.printed.proofs.Lines.{line_bytes, line_back, there_line, Open, once_open, line_answer, past_line}

-- T1: a line that was read, with something behind it, has words
module _ (src : List ℕ) (s : State) (assoc : ℕ) (t2 t10 t15 t16 : List ℕ) (d : s.kind ≡ 4 → ⊥) where
  prec_word_lem : (i end : ℕ) (w : ListWord) → Worded s.kind true src i end w → TokenAt src i end (slice i end src)
  prec_word_lem i end w (plain {p = p} {quoted = q} e n) = record { place = p; quoted = q; is = e; spelled = refl }
  prec_word_lem i end w (numbered k e g h v b) = absurd (d k)

  pub prec_spelled : length s.counts.n ≡ 10 → s.at ≤ length src → (prec_decl src s assoc t2 t10 t15 t16).answer ≡ Going → (prec_decl src s assoc t2 t10 t15 t16).state.at < length src
      → (xs : List (List ℕ)) × Lined s.kind src s.at (prec_decl src s assoc t2 t10 t15 t16).state.at xs
  prec_spelled ten h g b =
      let l = line_words_lem src s assoc t2 t10 t15 t16 h ten g in
      let y = not-led s.kind src d l.lead in
      let (xs, r) = line_bytes s.kind src (Worded s.kind true src) prec_word_lem b (told (λ (m : ℕ). Line s.kind (Worded s.kind true src) src m l.head (prec_decl src s assoc t2 t10 t15 t16).state.at l.counted l.words) (sym y.1) l.line) in
      (xs, record { from = l.head; lines = l.ends; gap = told (λ (i : ℕ). gap_at s.kind false src s.at ≡ Ok (i, l.ends)) y.0 (spaces_gap s.kind false src s.at l.start l.ends l.gap); row = r })

-- T4: a turn is a step on tables 2 and 10, and spacing
module _ (src : List ℕ) (level assoc : ℕ) where
  abbrev step_of : Out4 → Place → Out2
  step_of o p = once_step src o.state precedences (width precedences) 0 RepeatedPrecedence (precedence_cells p.from p.to level assoc) o.a o.b

  abbrev tied : Out0 → Out2 → Out4 → Out4
  tied y r o = record { answer = y.answer; state = y.state; a = r.a; b = r.b; c = o.c; d = o.d }

  turn_is : (o : Out4) (e : ℕ) (x : List ℕ) (w : TokenAt src o.state.at e x) → (o.state.kind ≡ 4 → ⊥)
      → let r = step_of o w.place in let y = pass_on src true e r.answer r.state in prec_turn src level assoc None o ≡ line_end y.answer (tied y r o)
  unfolding prec_turn prec_item
  turn_is o e x w d =
      let y = token_lies src o.state.at e x w in
      let a = y.0 in
      let b = y.1 in
      let c = y.2 in
      let h = y.3 in
      let p = w.place in
      let r = step_of o p in
      rw (lt-leb (length src) o.state.at (omega arith))
      (ap (λ (k : Result (Place × ℕ × Bool) ℕ). line_end (prec_found k src o.state level assoc None o.a o.b o.c o.d).answer (prec_found k src o.state level assoc None o.a o.b o.c o.d)) w.is
      ∙ ap (λ (g : Out1). line_end (prec_tagged src p.from p.to e r g o.d).answer (prec_tagged src p.from p.to e r g o.d)) (tag_absent r.answer r.state p.from p.to o.c)
      ∙ ap (λ (g : Out1). line_end g.answer (record { answer = g.answer; state = g.state; a = r.a; b = r.b; c = o.c; d = g.a }))
      (behind_unmarked src true p.from p.to e r.answer r.state o.d (λ z. d (sym (once_kind o.state src precedences (width precedences) 0 RepeatedPrecedence (precedence_cells p.from p.to level assoc) o.a o.b) ∙ z))))

-- the tables under way
abbrev pub in4 : AllTables → Out4 → AllTables
in4 T o = set_tab (set_tab (set_tab (set_tab T precedences o.a) repeats o.b) tags o.c) token_numbers o.d

module _ (src out : List ℕ) (level assoc kind : ℕ) (d : kind ≡ 4 → ⊥) (T W : AllTables) where
  record Under (o z : Out4) : Type 0 where
    of : o.state.kind ≡ kind
    going : z.answer ≡ Going
    near : Near src out o.state z.state (in4 T o) (in4 W z)

  abbrev stands : Out4 → ℕ
  stands o = o.state.at

  abbrev answers : Out4 → Answer
  answers o = o.answer

  abbrev put : (s : List ℕ) (o : Out4) (p : Place) → ℕ → Out4
  put s o p m = record { answer = Going; state = with_at (step_of s level assoc o p).state m; a = (step_of s level assoc o p).a; b = (step_of s level assoc o p).b; c = o.c; d = o.d }

  -- where a line goes on to its end, its first step did
  word_goes : (o : Out4) (e : ℕ) (x : List ℕ) (w : TokenAt src o.state.at e x) → o.state.kind ≡ kind → Goes stands answers Under (prec_turn src level assoc None o) → (step_of src level assoc o w.place).answer ≡ Going
  word_goes o e x w k g = go r.answer refl (once_open src o.state precedences (width precedences) 0 RepeatedPrecedence (precedence_cells w.place.from w.place.to level assoc) o.a o.b)
    where
      r : Out2
      r = step_of src level assoc o w.place

      go : (a : Answer) → r.answer ≡ a → Open a → r.answer ≡ Going
      go Going z h = z
      go Done z h = absurd h
      go (Refused f) z h =
          let t = turn_is src level assoc o e x w (λ z. d (sym k ∙ z)) ∙ ap (λ (a : Answer). let y = pass_on src true e a r.state in line_end y.answer (tied src level assoc y r o)) z in
          absurd (refused_going f (told (Goes stands answers Under) t g))

  abbrev ended : Bool → Out4 → Turn Out4
  ended true o = stop o
  ended false o = more o

  turn_word : (s : List ℕ) (o : Out4) (e m n : ℕ) (x : List ℕ) (w : TokenAt s o.state.at e x) (b : Bool) → o.state.kind ≡ kind → gap_at kind true s e ≡ Ok (m, n) → Ends b n → (step_of s level assoc o w.place).answer ≡ Going
      → prec_turn s level assoc None o ≡ ended b (put s o w.place m)
  turn_word s o e m n x w b k g h a =
      let r = step_of s level assoc o w.place in
      let gap : gap_at r.state.kind true s e ≡ Ok (m, n) = rw (once_kind o.state s precedences (width precedences) 0 RepeatedPrecedence (precedence_cells w.place.from w.place.to level assoc) o.a o.b, k) g in
      turn_is s level assoc o e x w (λ z. d (sym k ∙ z)) ∙ ap (λ (y : Out0). line_end y.answer (tied s level assoc y r o)) (past_line s e m n r.answer r.state b gap h a) ∙ by b
    where
      by : (b : Bool) → line_end (line_answer b) (record { answer = line_answer b; state = with_at (step_of s level assoc o w.place).state m; a = (step_of s level assoc o w.place).a; b = (step_of s level assoc o w.place).b; c = o.c; d = o.d }) ≡ ended b (put s o w.place m)
      by true = refl
      by false = refl

  two_turns : (o z : Out4) (e h m n p q : ℕ) (x : List ℕ) → Under o z → Tokens2 src out o.state.at e z.state.at h x → gap_at kind true src e ≡ Ok (m, n) → gap_at kind true out h ≡ Ok (p, q)
      → (b : Bool) → Ends b n → Ends b q → Goes stands answers Under (prec_turn src level assoc None o) → Turned stands answers Under m p b (prec_turn src level assoc None o) (prec_turn out level assoc None z)
  two_turns o z e h m n p q x i w g1 g2 b e1 e2 goes =
      let s = o.state in
      let u = z.state in
      let a = w.here.place in
      let c = w.there.place in
      let ans = word_goes o e x w.here i.of goes in
      let both = once_like src out s u i.near.like precedences 0 (omega arith) (λ e. omega arith) (omega arith) (omega arith) (λ x y f. f.0) (λ x y f. f.0) RepeatedPrecedence
      (precedence_cells a.from a.to level assoc) (precedence_cells c.from c.to level assoc) o.a z.a o.b z.b refl refl (w.same, (refl, (refl, tt))) (i.near.tables precedences) (i.near.tables repeats) ans in
      let r = step_of src level assoc o a in
      let r' = step_of out level assoc z c in
      let near = near_two src out s u (in4 T o) (in4 W z) i.near precedences (omega arith) (λ e. omega arith) r r' both in
      let under : Under (put src o a m) (put out z c p) = record { of = once_kind s src precedences (width precedences) 0 RepeatedPrecedence (precedence_cells a.from a.to level assoc) o.a o.b ∙ i.of; going = refl; near = near_at src out r.state r'.state _ _ near m p } in
      rw (turn_word src o e m n x w.here b i.of g1 e1 ans, turn_word out z h p q x w.there b (sym i.near.like.kind ∙ i.of) g2 e2 both.going) (by b under)
    where
      by : (b : Bool) → {y v : Out4} → Under y v → Turned stands answers Under y.state.at v.state.at b (ended b y) (ended b v)
      by true {y} {v} i = halt y v refl refl i
      by false {y} {v} i = on y v refl refl i

  run_like : (o z : Out4) (k l : ℕ) (xs : List (List ℕ)) → Row2 kind src out o.state.at z.state.at k l xs → Under o z → (turns (suc (length src)) (prec_turn src level assoc None) o).answer ≡ Going
      → Ended stands answers Under k l (turns (suc (length src)) (prec_turn src level assoc None) o) (turns (suc (length out)) (prec_turn out level assoc None) z)
  run_like o z k l xs w i g = line_runs stands answers Under (prec_turn src level assoc None) (prec_turn out level assoc None) kind src out two_turns (suc (length src)) (suc (length out)) o z k l xs w (omega arith) (omega arith) i g

-- a line behind its keyword
pub prec_from_lem : (src : List ℕ) (s : State) (assoc : ℕ) (t2 t10 t15 t16 : List ℕ) → (s.kind ≡ 4 → ⊥) → (i n : ℕ) → gap_at s.kind false src s.at ≡ Ok (i, n)
    → prec_decl src s assoc t2 t10 t15 t16 ≡ turns (suc (length src)) (prec_turn src s.level assoc None) (record { answer = Going; state = with_level (with_at s i) (next_level s.level); a = t2; b = t10; c = t15; d = t16 })
unfolding prec_decl prec_body prec_list
prec_from_lem src s assoc t2 t10 t15 t16 d i n g =
    ap (λ (x : Result (ℕ × ℕ) Refusal). prec_from x src s assoc t2 t10 t15 t16) g
    ∙ ap (λ (l : Leading). prec_led l.answer l src s.level assoc t2 t10 t15 t16) (sym (lead_none src (with_level (with_at s i) (next_level s.level)) false true d))

-- A line shipped in front of the next `%`.
module _ (src out : List ℕ) (s u : State) (assoc : ℕ) (T W : AllTables) (n : Near src out s u T W) where
  abbrev pub prec_over : List ℕ → State → AllTables → Out4
  prec_over r v X = prec_decl r v assoc X.t2 X.t10 X.t15 X.t16

  pub prec_ships : (k : ℕ) (xs : List (List ℕ)) (cs : List ℕ) → Lined s.kind src s.at k xs → drop u.at out ≡ words xs ++ (10 ∷ (37 ∷ cs)) → (prec_over src s T).answer ≡ Going
      → let o = prec_over src s T in let z = prec_over out u W in Ships src out (37 ∷ cs) k (λ j. Lined u.kind out u.at j xs) o.state z.state z.answer (in4 T o) (in4 W z)
  prec_ships k xs cs w q g =
      let d = not_four n.like.shipped in
      let b = line_back s.kind src out cs w.row u.at q in
      let i = w.from in
      let j = u.at + 1 in
      let lev = s.level in
      let p = prec_from_lem src s assoc T.t2 T.t10 T.t15 T.t16 d i w.lines w.gap in
      let o : Out4 = record { answer = Going; state = with_level (with_at s i) (next_level lev); a = T.t2; b = T.t10; c = T.t15; d = T.t16 } in
      let z : Out4 = record { answer = Going; state = with_level (with_at u j) (next_level lev); a = W.t2; b = W.t10; c = W.t15; d = W.t16 } in
      let p' : prec_over out u W ≡ turns (suc (length out)) (prec_turn out lev assoc None) z = rw n.like.level (prec_from_lem out u assoc W.t2 W.t10 W.t15 W.t16 (λ e. d (n.like.kind ∙ e)) j 0 (rw (← n.like.kind) (b.gap false))) in
      let start = near_level src out (with_at s i) (with_at u j) T W (near_at src out s u T W n i j) (next_level lev) in
      let r = run_like src out lev assoc s.kind d T W o z k b.to xs b.rows (record { of = refl; going = refl; near = start }) (told (λ (x : Out4). x.answer ≡ Going) p g) in
      told_both (λ (x y : Out4). Ships src out (37 ∷ cs) k (λ j. Lined u.kind out u.at j xs) x.state y.state y.answer (in4 T x) (in4 W y)) p p' (record {
        here = r.here;
        going = r.kept.going;
        near = r.kept.near;
        left = rw r.there b.left;
        there = rw (r.there, ← n.like.kind) (record { from = j; lines = 0; gap = b.gap false; row = there_line s.kind src out b.rows });
      })
