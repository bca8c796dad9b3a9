-- `%token` and `%expect-unused`: a list as it is shipped is read as the same list, word for word. Assumes nothing.
use Rattle.std.specs.Prelude.{Option, None, Result, Ok}
use Prim.Native.Nat.{ℕ, suc, ◌+◌, ◌<◌}
use mathlib.Core.Path.{◌≡◌, refl, sym, ◌∙◌, ap}
use mathlib.Core.List.{List, [], ◌∷◌, ◌++◌, append_assoc}
use mathlib.Core.Bool.{Bool, true, false}
use native.Mathlib.Omega.{arith}
use lib.ListN.{length, drop}
use lib.Seq.{slice}
use Rattle.scan.specs.Loop.{Turn, more, stop, turns}
use Rattle.scan.proofs.Bytes.{told, drop_below, drop_next}
use Rattle.scan.specs.declared.Place.{Place}
use Rattle.tables.specs.Layout.{unused, tags, token_numbers}
use Rattle.grammar.specs.declared.State.{State}
use Rattle.grammar.specs.declared.Answer.{Answer}
use Rattle.grammar.specs.declared.Answer.TheVariants.{Going, Done, Refused}
use Rattle.grammar.specs.Sound.{AllTables, cells_of, set_tab}
use Rattle.grammar.specs.State.{Out0, Out1, Out3, count, with_at, gap_at, push_row, enter_step, behind1, tied1, tied3, pass_on, onward}
use Rattle.grammar.proofs.SameKind.{push_kind, enter_kind, pass_kind}
use Rattle.grammar.proofs.Touch.{pass_to, pass_going}
use Rattle.marks.specs.Marks.{number_after, behind_word}
use Rattle.marks.specs.Worded.{ListWord, plain, numbered, headless, bare, tagged}
use Rattle.marks.proofs.Laws.{number_other}
use Rattle.marks.proofs.Worded.{tag_absent}
use Rattle.lists.specs.declared.WordList.{WordList}
use Rattle.lists.specs.declared.WordList.TheVariants.{TokenList, UnusedList, TypeList}
use Rattle.lists.specs.Lists.{first3, third3, token_found, token_tagged, token_item, spelled_at, unused_row, unused_item, list_item, ends, list_turn, percent_list, list_decl}
use Rattle.lists.specs.Written.{Written, Leads, TokenWord, UnusedWord, over, word, rule, quote}
use Rattle.lists.proofs.Far.{filled}
use Rattle.lists.proofs.Items.{listed_decl}
use Rattle.lists.proofs.Meaning.{token_words, unused_words}
use Rattle.alike.specs.Like.{Table, Like, Near}
use Rattle.alike.proofs.Solid.{Solid, gap_space, gap_line}
use Rattle.alike.proofs.Front.{front_solid, front_goes, percent_solid, percent_ends}
use Rattle.alike.proofs.Again.{behind, turns_stop}
use Rattle.alike.proofs.Steps.{not_four, Both1, push_like, enter_like}
use Rattle.alike.proofs.Near.{near_at, near_one}
use Rattle.printed.specs.Print.{words}
use Rattle.printed.specs.Stands.{WordAt, Spelled, Words2, Pairs, none, pair}
use Rattle.printed.specs.Ships.{Ships}
use Rattle.printed.specs.Decls.{NonEmpty}
use Rattle.printed.proofs.Words.{words_break, word_front, words_again, word_here, word_there}
use Rattle.printed.proofs.Loops.{told_both, Goes, Turned, on, halt, Ended, list_runs}

-- T1: a list that goes on has words
module _ (src : List ℕ) (s : State) (t t15 t16 : List ℕ) (ten : length s.counts.n ≡ 10) where
  -- which are tokens with no number behind them, and no tag in front
  token_bytes : (s.kind ≡ 4 → ⊥) → {i k : ℕ} {ws : List ListWord} → Written s.kind (TokenWord s.kind src) src i k ws → (xs : List (List ℕ)) × Written s.kind (WordAt TokenList src) src i k xs
  token_bytes d (over e) = ([], over e)
  token_bytes d (word {i} {end} e (plain {p = p} {quoted = q} f n) g l) =
      let (xs, w) = token_bytes d l in
      (slice i end src ∷ xs, word e (record { place = p; quoted = q; is = f; spelled = refl }) g w)
  token_bytes d (word e (numbered k f g h v b) g2 l) = absurd (d k)

  untagged : (s.kind ≡ 4 → ⊥) → (i j : ℕ) (g : Option (ℕ × ℕ)) → Leads TokenList s.kind src i j g → Leads TokenList s.kind src i j None
  untagged d i j g (headless e) = headless e
  untagged d i j g (bare k w q) = absurd (d k)
  untagged d i j g (tagged k q h z) = absurd (d k)

  pub token_spelled : (s.kind ≡ 4 → ⊥) → (list_decl src s TokenList t t15 t16).answer ≡ Going → (xs : List (List ℕ)) × Spelled TokenList s.kind src s.at (list_decl src s TokenList t t15 t16).state.at xs
  token_spelled d g =
      let (tag, ws, l) = token_words src s t t15 t16 ten g in
      let (xs, w) = token_bytes d l.words in
      (xs, record { from = l.from; lines = l.lines; head = l.head; gap = l.gap; lead = untagged d l.from l.head tag l.lead; words = w })

  unused_bytes : {i k : ℕ} {rows : List (List ℕ)} → Written s.kind (UnusedWord src) src i k rows → (xs : List (List ℕ)) × Written s.kind (WordAt UnusedList src) src i k xs
  unused_bytes (over e) = ([], over e)
  unused_bytes (word {i} {end} {x = row} e f g l) = let (xs, w) = unused_bytes l in (slice i end src ∷ xs, word e (record { row = row; is = f; spelled = refl }) g w)

  pub unused_spelled_lem : (list_decl src s UnusedList t t15 t16).answer ≡ Going → (xs : List (List ℕ)) × Spelled UnusedList s.kind src s.at (list_decl src s UnusedList t t15 t16).state.at xs
  unused_spelled_lem g =
      let (rows, l) = unused_words src s t t15 t16 ten g in
      let (xs, w) = unused_bytes l.words in
      (xs, record { from = l.from; lines = l.lines; head = l.head; gap = l.gap; lead = l.lead; words = w })

-- T3: behind a word, or behind the keyword, the list as it was shipped
module _ (what : WordList) (kind : ℕ) (src out : List ℕ) where
  pub record Back (f i k : ℕ) (xs : List (List ℕ)) (rest : List ℕ) : Type 0 where
    pub at : ℕ
    pub lines : ℕ
    pub to : ℕ
    pub gap : gap_at kind true out f ≡ Ok (at, lines)
    -- in front of a word no line end has to be allowed
    pub first : NonEmpty xs → gap_at kind false out f ≡ Ok (at, lines)
    pub pairs : Pairs what kind src out i at k to xs
    pub left : drop to out ≡ rest

  pub back : (cs : List ℕ) {i k : ℕ} {xs : List (List ℕ)} → Written kind (WordAt what src) src i k xs → (f : ℕ) → drop f out ≡ words xs ++ (10 ∷ (37 ∷ cs)) → Back f i k xs (37 ∷ cs)
  unfolding words
  back cs (over e) f q =
      let n = drop_next out f 10 (37 ∷ cs) q in
      record { at = f + 1; lines = 1; to = f + 1; gap = gap_line out f (37 ∷ cs) (percent_solid cs) kind q; first = λ y. absurd y; pairs = none e (percent_ends out (f + 1) cs n); left = n }
  back cs (word {i} {end} {k} {n} {j} {x} {xs} e w g l) f q =
      let r = words xs ++ (10 ∷ (37 ∷ cs)) in
      let q' : drop f out ≡ 32 ∷ (x ++ r) = q ∙ ap (λ (y : List ℕ). 32 ∷ y) (append_assoc x (words xs) (10 ∷ (37 ∷ cs))) in
      let d = drop_next out f 32 (x ++ r) q' in
      let b = drop_below out f 32 (x ++ r) q' in
      let (c, ys, s, v) = word_front what src i end x w in
      let d' : drop (f + 1) out ≡ c ∷ (ys ++ r) = d ∙ ap (λ (y : List ℕ). y ++ r) s in
      let solid : Solid (x ++ r) = told Solid (ap (λ (y : List ℕ). y ++ r) (sym s)) (front_solid c (ys ++ r) v) in
      let t = words_again what src out i end (f + 1) x r w d (omega arith) (words_break xs (37 ∷ cs)) in
      let z = back cs l (f + 1 + length x) (behind out (f + 1) x r d) in
      record {
        at = f + 1;
        lines = 0;
        to = z.to;
        gap = gap_space out f (x ++ r) solid kind true q';
        first = λ y. gap_space out f (x ++ r) solid kind false q';
        pairs = pair end (f + 1 + length x) e (front_goes out (f + 1) c (ys ++ r) d' v) t g z.gap z.pairs;
        left = z.left;
      }

  -- what was shipped is a list of the same words
  pub there_written : {i j k l : ℕ} {xs : List (List ℕ)} → Pairs what kind src out i j k l xs → Written kind (WordAt what out) out j l xs
  there_written (none e f) = over f
  there_written (pair {i} {j} {x = x} e f a b w g h p) = word b (word_there what src out i e j f x w) h (there_written p)

-- T4: an item of a list is a step on its own table, and spacing
abbrev entry : (what : WordList) (src : List ℕ) (s : State) (i e : ℕ) (x : List ℕ) → WordAt what src i e x → List ℕ → Out1
entry TokenList src s i e x w t = enter_step src s w.place.from w.place.to true t
entry UnusedList src s i e x w t = push_row s unused w.row t
entry TypeList src s i e x w t = absurd w

-- no number follows a word in kinds 1 to 3
pub behind_unmarked : (src : List ℕ) (line : Bool) (from to end : ℕ) (a : Answer) (s : State) (t : List ℕ) → (s.kind ≡ 4 → ⊥) → behind_word src line from to end a s t ≡ tied1 (pass_on src line end a s) t
unfolding behind_word
behind_unmarked src line from to end a s t d = go (pass_on src line end a s) (λ e. d (sym (pass_kind s src line end a) ∙ e))
  where
    go : (o : Out0) → (o.state.kind ≡ 4 → ⊥) → number_after o src line from to o.answer t ≡ tied1 o t
    go o d = by o.answer
      where
        by : (b : Answer) → number_after o src line from to b t ≡ record { answer = b; state = o.state; a = t }
        by Going = sym (number_other src line from to o.state t d)
        by Done = refl
        by (Refused f) = refl

module _ (src : List ℕ) (s : State) (d : s.kind ≡ 4 → ⊥) (t t15 t16 : List ℕ) (e : ℕ) (x : List ℕ) where
  unused_is : (row : List ℕ) → UnusedWord src s.at e row → unused_item src s t ≡ behind1 src false e (push_row s unused row t)
  unfolding unused_item unused_row spelled_at
  unused_is row (rule h) = rw h
  unused_is row (quote n h) = rw (n, h)

  pub item_is : (what : WordList) (w : WordAt what src s.at e x) → let en = entry what src s s.at e x w t in list_item src s what None t t15 t16 ≡ tied3 (pass_on src false e en.answer en.state) en.a t15 t16
  unfolding token_item
  item_is TokenList w =
      let p = w.place in
      let en = enter_step src s p.from p.to true t in
      ap (λ (r : Result (Place × ℕ × Bool) ℕ). token_found r src s None t t15 t16) w.is
      ∙ ap (λ (r : Out1). token_tagged src p.from p.to e en.a r t16) (tag_absent en.answer en.state p.from p.to t15)
      ∙ ap (λ (r : Out1). third3 en.a t15 r) (behind_unmarked src false p.from p.to e en.answer en.state t16 (λ z. d (sym (enter_kind s src p.from p.to true t) ∙ z)))
  item_is UnusedList w = ap (λ (r : Out1). first3 r t15 t16) (unused_is w.row w.is)
  item_is TypeList w = absurd w

entry_kind : (what : WordList) (src : List ℕ) (s : State) (i e : ℕ) (x : List ℕ) (w : WordAt what src i e x) (t : List ℕ) → (entry what src s i e x w t).state.kind ≡ s.kind
entry_kind TokenList src s i e x w t = enter_kind s src w.place.from w.place.to true t
entry_kind UnusedList src s i e x w t = push_kind s unused w.row t
entry_kind TypeList src s i e x w t = absurd w

row_wide : (src : List ℕ) (i e : ℕ) (row : List ℕ) → UnusedWord src i e row → length row ≡ 3
row_wide src i e row (rule h) = refl
row_wide src i e row (quote n h) = refl

entry_like : (what : WordList) (src out : List ℕ) (s u : State) → Like src out s u → (i e j f : ℕ) (x : List ℕ) (w : Words2 what src out i e j f x) (t v : List ℕ) → Table src out (filled what) (count s (filled what)) t v
    → (entry what src s i e x (word_here what src out i e j f x w) t).answer ≡ Going
    → Both1 src out (filled what) s u (entry what src s i e x (word_here what src out i e j f x w) t) (entry what out u j f x (word_there what src out i e j f x w) v)
entry_like TokenList src out s u l i e j f x w t v tab g = enter_like src out s u l w.here.place.from w.here.place.to w.there.place.from w.there.place.to true t v w.same tab g
entry_like UnusedList src out s u l i e j f x w t v tab g =
    push_like src out s u l unused (omega arith) w.here.row w.there.row t v (row_wide src i e w.here.row w.here.is) (row_wide out j f w.there.row w.there.is) w.same tab g
entry_like TypeList src out s u l i e j f x w t v tab g = absurd w

-- the tables under way
abbrev pub in3 : WordList → AllTables → Out3 → AllTables
in3 what T o = set_tab (set_tab (set_tab T (filled what) o.a) tags o.b) token_numbers o.c

own_cells : (what : WordList) (T : AllTables) (o : Out3) → cells_of (in3 what T o) (filled what) ≡ o.a
own_cells TokenList T o = refl
own_cells UnusedList T o = refl
own_cells TypeList T o = refl

own_set : (what : WordList) (T : AllTables) (o : Out3) (a : Answer) (s : State) (x : List ℕ) → set_tab (in3 what T o) (filled what) x ≡ in3 what T (record { answer = a; state = s; a = x; b = o.b; c = o.c })
own_set TokenList T o a s x = refl
own_set UnusedList T o a s x = refl
own_set TypeList T o a s x = refl

own_low : (what : WordList) → filled what < 13
own_low TokenList = omega arith
own_low UnusedList = omega arith
own_low TypeList = omega arith

-- a turn, by whether the list ends and by its item
turn_over : (what : WordList) (s : List ℕ) (o : Out3) → ends s o.state.at ≡ true → list_turn s what None o ≡ stop o
unfolding list_turn
turn_over what s o h = rw h

turn_item : (what : WordList) (s : List ℕ) (o p : Out3) → ends s o.state.at ≡ false → list_item s o.state what None o.a o.b o.c ≡ p → list_turn s what None o ≡ onward p.answer p
unfolding list_turn
turn_item what s o p h e = rw (h, e)

-- a loop goes on where the answer of its item does
onward_goes : (r : Out3) (a : Answer) → r.answer ≡ a → Goes (λ (o : Out3). o.state.at) (λ (o : Out3). o.answer) (λ (o z : Out3). Unit {0}) (onward a r) → r.answer ≡ Going
onward_goes r Going e g = e
onward_goes r Done e g = g
onward_goes r (Refused f) e g = g

module _ (what : WordList) (src out : List ℕ) (kind : ℕ) (d : kind ≡ 4 → ⊥) (T W : AllTables) where
  -- two lists under way
  record Under (o z : Out3) : Type 0 where
    of : o.state.kind ≡ kind
    going : z.answer ≡ Going
    near : Near src out o.state z.state (in3 what T o) (in3 what W z)

  abbrev stands : Out3 → ℕ
  stands o = o.state.at

  abbrev answers : Out3 → Answer
  answers o = o.answer

  abbrev Turns : ℕ → ℕ → Bool → Turn Out3 → Turn Out3 → Type 0
  Turns = Turned stands answers Under

  -- a turn at a word whose entry goes on
  turn_word : (s : List ℕ) (o : Out3) (e m n : ℕ) (x : List ℕ) (w : WordAt what s o.state.at e x) → o.state.kind ≡ kind → ends s o.state.at ≡ false → gap_at kind true s e ≡ Ok (m, n)
      → let en = entry what s o.state o.state.at e x w o.a in en.answer ≡ Going → list_turn s what None o ≡ more (record { answer = Going; state = with_at en.state m; a = en.a; b = o.b; c = o.c })
  turn_word s o e m n x w k h g a =
      let en = entry what s o.state o.state.at e x w o.a in
      let is = item_is s o.state (λ z. d (sym k ∙ z)) o.a o.b o.c e x what w in
      let gap : gap_at en.state.kind true s e ≡ Ok (m, n) = rw (entry_kind what s o.state o.state.at e x w o.a, k) g in
      turn_item what s o _ h (is ∙ ap (λ (y : Out0). tied3 y en.a o.b o.c) (pass_to s e en.answer en.state m n gap a))

  -- the entry of a list's first word goes on where the list does
  word_goes : (o : Out3) (e : ℕ) (x : List ℕ) (w : WordAt what src o.state.at e x) → o.state.kind ≡ kind → ends src o.state.at ≡ false → Goes stands answers Under (list_turn src what None o)
      → (entry what src o.state o.state.at e x w o.a).answer ≡ Going
  word_goes o e x w k h g =
      let en = entry what src o.state o.state.at e x w o.a in
      let r = tied3 (pass_on src false e en.answer en.state) en.a o.b o.c in
      let is = item_is src o.state (λ z. d (sym k ∙ z)) o.a o.b o.c e x what w in
      (pass_going src false e en.answer en.state (onward_goes r r.answer refl (told (Goes stands answers Under) (turn_item what src o r h is) g))).went

  two_turns : (o z : Out3) (e h m n p q : ℕ) (x : List ℕ) → Under o z → ends src o.state.at ≡ false → ends out z.state.at ≡ false → Words2 what src out o.state.at e z.state.at h x
      → gap_at kind true src e ≡ Ok (m, n) → gap_at kind true out h ≡ Ok (p, q) → Goes stands answers Under (list_turn src what None o) → Turns m p false (list_turn src what None o) (list_turn out what None z)
  two_turns o z e h m n p q x i a b w g1 g2 goes =
      let s = o.state in
      let u = z.state in
      let wh = word_here what src out s.at e u.at h x w in
      let wt = word_there what src out s.at e u.at h x w in
      let en = entry what src s s.at e x wh o.a in
      let en' = entry what out u u.at h x wt z.a in
      let k' : u.kind ≡ kind = sym i.near.like.kind ∙ i.of in
      let ans = word_goes o e x wh i.of a goes in
      let tab : Table src out (filled what) (count s (filled what)) o.a z.a = rw (own_cells what T o, own_cells what W z) at (i.near.tables (filled what)) in
      let both = entry_like what src out s u i.near.like s.at e u.at h x w o.a z.a tab ans in
      let one = turn_word src o e m n x wh i.of a g1 ans in
      let two = turn_word out z h p q x wt k' b g2 both.going in
      let n1 = near_one src out s u (in3 what T o) (in3 what W z) i.near (filled what) (own_low what) en en' both in
      let n2 = rw (own_set what T o Going (with_at en.state m) en.a, own_set what W z Going (with_at en'.state p) en'.a) at n1 in
      rw (one, two) (on _ _ refl refl (record { of = entry_kind what src s s.at e x wh o.a ∙ i.of; going = refl; near = near_at src out en.state en'.state _ _ n2 m p }))

  -- both lists come to their ends, alike
  run_like : (o z : Out3) (k l : ℕ) (xs : List (List ℕ)) → Pairs what kind src out o.state.at z.state.at k l xs → Under o z → (turns (suc (length src)) (list_turn src what None) o).answer ≡ Going
      → Ended stands answers Under k l (turns (suc (length src)) (list_turn src what None) o) (turns (suc (length out)) (list_turn out what None) z)
  run_like o z k l xs w i g =
      list_runs stands answers Under (list_turn src what None) (list_turn out what None) what kind src out
      (λ o z i a b. rw (turn_over what src o a, turn_over what out z b) (halt o z refl refl i))
      two_turns (suc (length src)) (suc (length out)) o z k l xs w (omega arith) (omega arith) i g

own_start : (what : WordList) (T : AllTables) (s : State) → in3 what T (record { answer = Going; state = s; a = cells_of T (filled what); b = T.t15; c = T.t16 }) ≡ T
own_start TokenList T s = refl
own_start UnusedList T s = refl
own_start TypeList T s = refl

-- A list that goes on, with a word in it, and shipped in front of the next `%`:
module _ (what : WordList) (src out : List ℕ) (s u : State) (T W : AllTables) (n : Near src out s u T W) where
  abbrev pub list_over : List ℕ → State → AllTables → Out3
  list_over r v X = list_decl r v what (cells_of X (filled what)) X.t15 X.t16

  list_is : (r : List ℕ) (v : State) (X : AllTables) (k : ℕ) (xs : List (List ℕ)) (w : Spelled what v.kind r v.at k xs)
      → list_over r v X ≡ turns (suc (length r)) (list_turn r what None) (record { answer = Going; state = with_at v w.head; a = cells_of X (filled what); b = X.t15; c = X.t16 })
  unfolding percent_list
  list_is r v X k xs w = listed_decl r v what (cells_of X (filled what)) X.t15 X.t16 w

  lead_none : (w : WordList) (i : ℕ) → Leads w u.kind out i i None
  lead_none TokenList i = headless (λ e. not_four n.like.shipped (n.like.kind ∙ e))
  lead_none UnusedList i = (refl, refl)
  lead_none TypeList i = headless (λ e. not_four n.like.shipped (n.like.kind ∙ e))

  pub list_ships : (k : ℕ) (xs : List (List ℕ)) (cs : List ℕ) → NonEmpty xs → Spelled what s.kind src s.at k xs → drop u.at out ≡ words xs ++ (10 ∷ (37 ∷ cs)) → (list_over src s T).answer ≡ Going
      → let o = list_over src s T in let z = list_over out u W in Ships src out (37 ∷ cs) k (λ j. Spelled what u.kind out u.at j xs) o.state z.state z.answer (in3 what T o) (in3 what W z)
  list_ships k xs cs some w q g =
      let d = not_four n.like.shipped in
      let b = back what s.kind src out cs w.words u.at q in
      let v : Spelled what u.kind out u.at b.to xs = record { from = b.at; lines = b.lines; head = b.at; gap = rw (← n.like.kind) (b.first some); lead = lead_none what b.at; words = rw (← n.like.kind) (there_written what s.kind src out b.pairs) } in
      let p = list_is src s T k xs w in
      let p' = list_is out u W b.to xs v in
      let o : Out3 = record { answer = Going; state = with_at s w.head; a = cells_of T (filled what); b = T.t15; c = T.t16 } in
      let z : Out3 = record { answer = Going; state = with_at u b.at; a = cells_of W (filled what); b = W.t15; c = W.t16 } in
      let start : Near src out (with_at s w.head) (with_at u b.at) (in3 what T o) (in3 what W z) = rw (own_start what T (with_at s w.head), own_start what W (with_at u b.at)) (near_at src out s u T W n w.head b.at) in
      let r = run_like what src out s.kind d T W o z k b.to xs b.pairs (record { of = refl; going = refl; near = start }) (told (λ (x : Out3). x.answer ≡ Going) p g) in
      told_both (λ (x y : Out3). Ships src out (37 ∷ cs) k (λ j. Spelled what u.kind out u.at j xs) x.state y.state y.answer (in3 what T x) (in3 what W y)) p p' (record { here = r.here; going = r.kept.going; near = r.kept.near; left = rw r.there b.left; there = rw r.there v })

  -- and one with none, of which nothing is shipped.
  pub list_none : (k : ℕ) → Spelled what s.kind src s.at k [] → ((list_over src s T).answer ≡ Going) × ((list_over src s T).state.at ≡ k) × Near src out (list_over src s T).state u (in3 what T (list_over src s T)) W
  list_none k w = rw (list_is src s T k [] w) (over_at w.words)
    where
      over_at : {i : ℕ} → Written s.kind (WordAt what src) src i k [] → let o = turns (suc (length src)) (list_turn src what None) (record { answer = Going; state = with_at s i; a = cells_of T (filled what); b = T.t15; c = T.t16 }) in (o.answer ≡ Going) × (o.state.at ≡ k) × Near src out o.state u (in3 what T o) W
      over_at (over e) =
          let o : Out3 = record { answer = Going; state = with_at s k; a = cells_of T (filled what); b = T.t15; c = T.t16 } in
          rw (turns_stop (list_turn src what None) (length src) o o (turn_over what src o e)) (refl, refl, rw (own_start what T (with_at s k)) (near_at src out s u T W n k u.at))
