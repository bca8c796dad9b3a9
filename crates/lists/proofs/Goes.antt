-- Where words stand and their rows fit, a list goes on behind them. Assumes nothing.
use Rattle.std.specs.Prelude.{Option, None, Result, Ok, Bool}
use Prim.Native.Nat.{ℕ, suc, ◌+◌, ◌-◌, ◌<◌, ◌*◌}
use mathlib.Core.Path.{◌≡◌, refl, sym, ◌∙◌, ap, subst}
use mathlib.Core.List.{List, [], ◌∷◌}
use mathlib.Core.Bool.{true, false, false≢true}
use native.Mathlib.Omega.{arith}
use lib.ListN.{length, get_or, length-set, length-append}
use Rattle.scan.proofs.Tuples.{ok_2}
use Rattle.grammar.specs.declared.Refusal.{Refusal}
use Rattle.scan.specs.Loop.{turns}
use Rattle.scan.specs.declared.Place.{Place}
use Rattle.tables.specs.Layout.{tokens, unused, tags, token_numbers, width}
use Rattle.tables.specs.Table.{room, Inserted}
use Rattle.tables.proofs.Cases.{enter_cases}
use Rattle.grammar.specs.declared.Counts.{Counts}
use Rattle.grammar.specs.declared.PosixCounts.{PosixCounts}
use Rattle.grammar.specs.declared.State.{State}
use Rattle.grammar.specs.declared.Answer.TheVariants.{Going}
use Rattle.grammar.specs.Cells.{kind_cells, token_cells}
use Rattle.grammar.specs.State.{Out0, Out1, Out3, count, gap_at, enter_step, behind1, with_count, entered, with_at}
use Rattle.grammar.proofs.Counting.{same_low}
use Rattle.grammar.proofs.SameKind.{enter_kind}
use Rattle.grammar.proofs.Touch.{pass_to}
use Rattle.marks.specs.Marks.{tag_row, tag_given}
use Rattle.marks.specs.Appended.{FreeRows}
use Rattle.marks.specs.Worded.{ListWord, Worded, word_places, tag_rows, number_of, number_rows}
use Rattle.marks.proofs.Appended.{appended_add, free_as, free_split, free_behind, free_here, push_room}
use Rattle.marks.proofs.Laws.{tag_kind, tag_counts, behind_counts}
use Rattle.marks.proofs.Worded.{worded_token, word_behind, tag_added, tag_room, tag_others, tag_rows_on, number_rows_on}
use Rattle.lists.specs.declared.WordList.{WordList}
use Rattle.lists.specs.declared.WordList.TheVariants.{TokenList, UnusedList, TypeList}
use Rattle.lists.specs.Lists.{token_found, token_item, spelled_token, spelled_name, spelled_at, unused_row, unused_spelled, unused_item, type_row, type_spelled, type_item, list_item, ends, list_turn, percent_list, list_decl}
use Rattle.lists.specs.Written.{Written, over, word, TokensListed, UnusedListed, TypesListed, TokenWord, UnusedWord, rule, quote, TypeWord}
use Rattle.lists.proofs.Items.{Went, enter_posix, token_marks, token_went, unused_went, type_went, runs, listed_decl}
use Rattle.lists.proofs.Meaning.{token_one, unused_one, type_one}

-- an item that goes on where a word stands has read that word
read : {kind : ℕ} {A : Type 0} {Word : ℕ → ℕ → A → Type 0} {P : A → Type 0} {src : List ℕ} {i : ℕ} {u : State} → ((i e f : ℕ) (x y : A) → Word i e x → Word i f y → (e ≡ f) × (x ≡ y))
    → Went kind Word P src i u → {end to n : ℕ} {x : A} → Word i end x → gap_at kind true src end ≡ Ok (to, n) → (u.at ≡ to) × (u.kind ≡ kind) × P x
read {P = P} one w {to = to} {n = n} v g =
    let y = one _ _ _ _ _ w.word v in
    let o : ◌≡◌ {A = Result (ℕ × ℕ) Refusal} (Ok (w.to, w.lines)) (Ok (to, n)) = sym w.gap ∙ rw y.0 g in
    let o_parts = ok_2 o in
    let z : w.to ≡ to = cc in
    (w.at ∙ z, w.same, subst P y.1 w.came)

-- Words go on, one by one, where each does that finds room: `Room o xs` is that there is room for the rows of the words xs.
module _ (src : List ℕ) (what : WordList) (tag : Option (ℕ × ℕ)) (kind : ℕ) {A : Type 0} (Word : ℕ → ℕ → A → Type 0) (Room : Out3 → List A → Type 0) where
  -- an item goes on to `to`, with room for the words behind it
  record On (o : Out3) (to : ℕ) (xs : List A) : Type 0 where
    going : o.answer ≡ Going
    at : o.state.at ≡ to
    same : o.state.kind ≡ kind
    room : Room o xs

  abbrev Onwards : Type 0
  Onwards = (o : Out3) → o.state.kind ≡ kind → (end to n : ℕ) (x : A) (xs : List A) → Word o.state.at end x → gap_at kind true src end ≡ Ok (to, n) → Room o (x ∷ xs) → On (list_item src o.state what tag o.a o.b o.c) to xs

  abbrev Goes : Out3 → Out3 → Type 0
  Goes o z = o.state.kind ≡ kind → (j : ℕ) (xs : List A) → Written kind Word src o.state.at j xs → Room o xs → o.answer ≡ Going → (z.answer ≡ Going) × (z.state.at ≡ j)

  words_go : Onwards → (n : ℕ) (o : Out3) → length src - o.state.at < n → Goes o (turns n (list_turn src what tag) o)
  words_go on = runs src what tag Goes base halt next
    where
      base : (o : Out3) → ends src o.state.at ≡ true → Goes o o
      base o e k j xs (over f) r g = (g, refl)
      base o e k j xs (word f w h l) r g = absurd (false≢true (sym f ∙ e))

      halt : (o : Out3) → ends src o.state.at ≡ false → ((list_item src o.state what tag o.a o.b o.c).answer ≡ Going → ⊥) → Goes o (list_item src o.state what tag o.a o.b o.c)
      halt o e d k j xs (over f) r g = absurd (false≢true (sym e ∙ f))
      halt o e d k j xs (word f w h l) r g = absurd (d (on o k _ _ _ _ _ w h r).going)

      next : (o z : Out3) → ends src o.state.at ≡ false → (list_item src o.state what tag o.a o.b o.c).answer ≡ Going → Goes (list_item src o.state what tag o.a o.b o.c) z → Goes o z
      next o z e d rest k j xs (over f) r g = absurd (false≢true (sym e ∙ f))
      next o z e d rest k j xs (word {xs = ys} f w h l) r g =
          let y = on o k _ _ _ _ _ w h r in
          rest y.same j ys (rw (← y.at) at l) y.room d

-- a token enters where a row more fits, and leaves room for one less
module _ (src : List ℕ) (s : State) (p : Place) (t : List ℕ) (ten : length s.counts.n ≡ 10) (m : ℕ) (free : FreeRows (width tokens) (count s tokens) t (suc m)) where
  record Entering (o : Out1) : Type 0 where
    going : o.answer ≡ Going
    left : FreeRows (width tokens) (count o.state tokens) o.a m

  enter_on : Entering (enter_step src s p.from p.to true t)
  unfolding enter_step
  enter_on =
      enter_cases (λ (x : Inserted). Entering (entered x.entered s (token_cells p.from p.to 1) x.cells)) src (count s tokens) p.from p.to true t
      (λ q l f. record { going = refl; left = free_as (sym (length-set t (q * 3 + 2) 1)) (same (count s tokens)) (record { each = λ r h. free.each r (omega arith) }) })
      (λ none fits low. record { going = refl; left = rw (same (count s tokens + 1)) (free_behind (appended_add (count s tokens) (token_cells p.from p.to 1) t fits) (omega arith) free) })
      (λ none full. absurd (false≢true (sym full ∙ free_here (omega arith) free)))
    where
      same : (n : ℕ) → count (with_count s tokens n) tokens ≡ n
      same n = same_low s tokens n (omega arith) (rw ten (omega arith))

-- a list of tokens: room in tables 1, 15 and 16
module _ (src : List ℕ) (tag : Option (ℕ × ℕ)) (kind : ℕ) where
  record TokenRoom (o : Out3) (ws : List ListWord) : Type 0 where
    ten : length o.state.counts.n ≡ 10
    three : length o.state.posix.n ≡ 3
    own : FreeRows (width tokens) (count o.state tokens) o.a (length ws)
    tags : FreeRows (width tags) (count o.state tags) o.b (length (tag_rows tag (word_places ws)))
    numbers : FreeRows (width token_numbers) (count o.state token_numbers) o.c (length (number_rows ws))

  tags_split : (w : ListWord) (ws : List ListWord) → length (tag_rows tag (word_places (w ∷ ws))) ≡ length (tag_rows tag (w.place ∷ [])) + length (tag_rows tag (word_places ws))
  tags_split w ws = ap (λ (l : List (List ℕ)). length l) (tag_rows_on tag w.place (word_places ws)) ∙ length-append (tag_rows tag (w.place ∷ [])) (tag_rows tag (word_places ws))

  numbers_split : (w : ListWord) (ws : List ListWord) → length (number_rows (w ∷ ws)) ≡ length (number_of w.place w.number) + length (number_rows ws)
  numbers_split w ws = ap (λ (l : List (List ℕ)). length l) (number_rows_on w ws) ∙ length-append (number_of w.place w.number) (number_rows ws)

  -- an item goes on
  module _ (s : State) (t t15 t16 : List ℕ) (end to n : ℕ) (w : ListWord) (m : ℕ) (ten : length s.counts.n ≡ 10) (v : Worded s.kind false src s.at end w) (g : gap_at s.kind true src end ≡ Ok (to, n)) (free : FreeRows (width tokens) (count s tokens) t (suc m))
      (free15 : FreeRows (width tags) (count s tags) t15 (length (tag_rows tag (w.place ∷ [])))) (free16 : FreeRows (width token_numbers) (count s token_numbers) t16 (length (number_of w.place w.number))) where
    record Through (o : Out3) : Type 0 where
      going : o.answer ≡ Going
      left : FreeRows (width tokens) (count o.state tokens) o.a m

    token_through : Through (token_item src s tag t t15 t16)
    unfolding token_item
    token_through =
        let (e, q, f) = worded_token v in
        let p = w.place in
        let o = enter_step src s p.from p.to true t in
        let r = tag_row o.answer o.state tag p.from p.to t15 in
        let x = enter_on src s p t ten m free in
        let posix = enter_posix src s p.from p.to true t in
        let on = tag_room p o.state t15 o.answer tag x.going (free_as refl (ap (λ (c : PosixCounts). get_or c.n 0 0) posix) free15) in
        let numbers : count r.state token_numbers ≡ count s token_numbers =
        ap (λ (u : State). count u token_numbers) (tag_added p o.state t15 o.answer tag on).state ∙ tag_others o.state tag token_numbers (λ e. omega arith) ∙ ap (λ (c : PosixCounts). get_or c.n 1 0) posix in
        let same : r.state.kind ≡ s.kind = tag_kind o.answer o.state tag p.from p.to t15 ∙ enter_kind s src p.from p.to true t in
        let counts = behind_counts src false p.from p.to e r.answer r.state t16 ∙ tag_counts o.answer o.state tag p.from p.to t15 in
        subst (λ (x : Result (Place × ℕ × Bool) ℕ). Through (token_found x src s tag t t15 t16)) (sym f)
        (record {
          going = word_behind src false s.at p e q f r.answer r.state t16 on (subst (λ (k : ℕ). Worded k false src s.at end w) (sym same) v) (ap (λ (k : ℕ). gap_at k true src end) same ∙ g) (free_as refl numbers free16);
          left = free_as refl (ap (λ (c : Counts). get_or c.n 0 0) counts) x.left;
        })

  token_on : Onwards src TokenList tag kind (TokenWord kind src) TokenRoom
  token_on o k end to n w ws v g r =
      let s = o.state in
      let u = subst (λ (k : ℕ). Worded k false src s.at end w) (sym k) v in
      let h = ap (λ (k : ℕ). gap_at k true src end) k ∙ g in
      let f15 = r.tags in
      let f16 = r.numbers in
      let x = token_through s o.a o.b o.c end to n w (length ws) r.ten u h r.own (free_split (rw (tags_split w ws) at f15)).0 (free_split (rw (numbers_split w ws) at f16)).0 in
      let y = read (token_one s.kind src) (token_went src s tag o.a o.b o.c x.going) u h in
      let c = y.2 in
      record {
        going = x.going;
        at = y.0;
        same = y.1 ∙ k;
        room = record {
          ten = (token_marks src s tag o.a o.b o.c r.ten).ten ∙ r.ten;
          three = c.three ∙ r.three;
          own = x.left;
          tags = free_behind (c.tags r.three) (tags_split w ws) r.tags;
          numbers = free_behind (c.numbers r.three) (numbers_split w ws) r.numbers;
        };
      }

-- how a word of the other lists is spelled
word_spelled : (src : List ℕ) (i end : ℕ) (row : List ℕ) → UnusedWord src i end row → (kind : ℕ) × (from : ℕ) × (to : ℕ) × (spelled_at src i ≡ Ok (kind, from, to, end)) × (row ≡ kind_cells kind from to)
unfolding spelled_at
word_spelled src i end row (rule e) = (1, i, end, ap (λ (n : Result ℕ ℕ). spelled_name n src i) e, refl)
word_spelled src i end row (quote {p = p} e f) = (2, p.from, p.to, ap (λ (n : Result ℕ ℕ). spelled_name n src i) e ∙ ap spelled_token f, refl)

-- a list of words expected unused: room in table 6
module _ (src : List ℕ) (tag : Option (ℕ × ℕ)) (kind : ℕ) where
  record UnusedRoom (o : Out3) (rows : List (List ℕ)) : Type 0 where
    ten : length o.state.counts.n ≡ 10
    own : FreeRows (width unused) (count o.state unused) o.a (length rows)

  unused_through : (s : State) (t : List ℕ) (end to n : ℕ) (row : List ℕ) → UnusedWord src s.at end row → gap_at s.kind true src end ≡ Ok (to, n) → room 3 (count s unused) t ≡ true → (unused_item src s t).answer ≡ Going
  unfolding unused_item unused_row
  unused_through s t end to n row w g h =
      let (k, a, b, e, f) = word_spelled src s.at end row w in
      subst (λ (x : Result (ℕ × ℕ × ℕ × ℕ) ℕ). (unused_spelled x src s t).answer ≡ Going) (sym e)
      (ap (λ (o : Out1). (behind1 src false end o).answer) (push_room s unused (kind_cells k a b) t h)
      ∙ ap (λ (o : Out0). o.answer) (pass_to src end Going (with_count s unused (count s unused + 1)) to n g refl))

  unused_on : Onwards src UnusedList tag kind (UnusedWord src) UnusedRoom
  unused_on o k end to n x xs w g r =
      let s = o.state in
      let h = ap (λ (k : ℕ). gap_at k true src end) k ∙ g in
      let d = unused_through s o.a end to n x w h (free_here (omega arith) r.own) in
      let y = read (unused_one src) (unused_went src s o.a d) w h in
      record { going = d; at = y.0; same = y.1 ∙ k; room = record { ten = y.2.ten r.ten; own = free_behind (y.2.rows r.ten) (omega arith) r.own } }

-- a list of types: room in table 15
module _ (src : List ℕ) (tag : Option (ℕ × ℕ)) (kind : ℕ) where
  record TypeRoom (o : Out3) (ps : List Place) : Type 0 where
    three : length o.state.posix.n ≡ 3
    own : FreeRows (width tags) (count o.state tags) o.b (length (tag_rows tag ps))

  split : (p : Place) (ps : List Place) → length (tag_rows tag (p ∷ ps)) ≡ length (tag_rows tag (p ∷ [])) + length (tag_rows tag ps)
  split p ps = ap (λ (l : List (List ℕ)). length l) (tag_rows_on tag p ps) ∙ length-append (tag_rows tag (p ∷ [])) (tag_rows tag ps)

  type_through : (s : State) (t : List ℕ) (end to n : ℕ) (p : Place) → TypeWord src s.at end p → gap_at s.kind true src end ≡ Ok (to, n) → FreeRows (width tags) (count s tags) t (length (tag_rows tag (p ∷ []))) → (type_item src s tag t).answer ≡ Going
  unfolding type_item type_row tag_row
  type_through s t end to n p w g free =
      let (k, a, b, e, f) = word_spelled src s.at end _ w.1 in
      let q : p ≡ record { from = a; to = b } = ap (λ (r : List ℕ). record { from = get_or r 1 0; to = get_or r 2 0 }) f in
      let o = tag_given tag s a b t in
      let d = tag_room (record { from = a; to = b }) s t Going tag refl (rw q at free) in
      subst (λ (x : Result (ℕ × ℕ × ℕ × ℕ) ℕ). (type_spelled x src s tag t).answer ≡ Going) (sym e)
      (ap (λ (o : Out0). o.answer) (pass_to src end o.answer o.state to n (ap (λ (k : ℕ). gap_at k true src end) (tag_kind Going s tag a b t) ∙ g) d))

  type_on : Onwards src TypeList tag kind (TypeWord src) TypeRoom
  type_on o k end to n x xs w g r =
      let s = o.state in
      let h = ap (λ (k : ℕ). gap_at k true src end) k ∙ g in
      let f = r.own in
      let d = type_through s o.b end to n x w h (free_split (rw (split x xs) at f)).0 in
      let y = read (type_one src) (type_went src s tag o.b d) w h in
      record { going = d; at = y.0; same = y.1 ∙ k; room = record { three = y.2.three ∙ r.three; own = free_behind (y.2.rows r.three) (split x xs) r.own } }

-- Where words stand behind the keyword and its tag, and there is room for their rows, the list goes on, to where they end.
module _ (src : List ℕ) (s : State) (t t15 t16 : List ℕ) where
  pub token_goes : length s.counts.n ≡ 10 → length s.posix.n ≡ 3 → (j : ℕ) (tag : Option (ℕ × ℕ)) (ws : List ListWord) → TokensListed s.kind src s.at j tag ws
      → FreeRows (width tokens) (count s tokens) t (length ws) → FreeRows (width tags) (count s tags) t15 (length (tag_rows tag (word_places ws))) → FreeRows (width token_numbers) (count s token_numbers) t16 (length (number_rows ws))
      → ((list_decl src s TokenList t t15 t16).answer ≡ Going) × ((list_decl src s TokenList t t15 t16).state.at ≡ j)
  unfolding percent_list
  token_goes ten three j tag ws l f f15 f16 =
      rw (listed_decl src s TokenList t t15 t16 l)
      (words_go src TokenList tag s.kind (TokenWord s.kind src) (TokenRoom src tag s.kind) (token_on src tag s.kind) (suc (length src)) (record { answer = Going; state = with_at s l.head; a = t; b = t15; c = t16 }) (omega arith)
      refl j ws l.words (record { ten = ten; three = three; own = f; tags = f15; numbers = f16 }) refl)

  pub unused_goes : length s.counts.n ≡ 10 → (j : ℕ) (rows : List (List ℕ)) → UnusedListed s.kind src s.at j rows → FreeRows (width unused) (count s unused) t (length rows)
      → ((list_decl src s UnusedList t t15 t16).answer ≡ Going) × ((list_decl src s UnusedList t t15 t16).state.at ≡ j)
  unfolding percent_list
  unused_goes ten j rows l f =
      rw (listed_decl src s UnusedList t t15 t16 l)
      (words_go src UnusedList None s.kind (UnusedWord src) (UnusedRoom src None s.kind) (unused_on src None s.kind) (suc (length src)) (record { answer = Going; state = with_at s l.head; a = t; b = t15; c = t16 }) (omega arith)
      refl j rows l.words (record { ten = ten; own = f }) refl)

  pub type_goes : length s.posix.n ≡ 3 → (j : ℕ) (tag : Option (ℕ × ℕ)) (ps : List Place) → TypesListed s.kind src s.at j tag ps → FreeRows (width tags) (count s tags) t15 (length (tag_rows tag ps))
      → ((list_decl src s TypeList t t15 t16).answer ≡ Going) × ((list_decl src s TypeList t t15 t16).state.at ≡ j)
  unfolding percent_list
  type_goes three j tag ps l f =
      rw (listed_decl src s TypeList t t15 t16 l)
      (words_go src TypeList tag s.kind (TypeWord src) (TypeRoom src tag s.kind) (type_on src tag s.kind) (suc (length src)) (record { answer = Going; state = with_at s l.head; a = t; b = t15; c = t16 }) (omega arith)
      refl j ps l.words (record { three = three; own = f }) refl)
