-- An avoid or implicit list goes on exactly where a line that a line end ends stands in the source and its rows find room, and its rows are exactly those of the
-- words that are the first of their name in each table. Assumes nothing.
use Rattle.std.specs.Prelude.{Option, Some, Ok, None}
use Prim.Native.Nat.{ℕ, suc, ◌≤◌, ◌<◌}
use mathlib.Core.Path.{◌≡◌, refl, sym, ap, ◌∙◌}
use mathlib.Core.List.{List, [], ◌∷◌, map}
use mathlib.Core.Bool.{true, false}
use mathlib.Core.Logic.{◌⊎◌, inl, inr, ◌↔◌}
use native.Mathlib.Omega.{arith}
use lib.ListN.{length, length-append}
use borrow.Author.Tests.{lt-leb}
use Rattle.scan.proofs.Tuples.{ok_2}
use Rattle.scan.specs.declared.Place.{Place}
use Rattle.scan.specs.Loop.{Turn, more, stop}
use Rattle.scan.proofs.Bytes.{told}
use Rattle.spacing.specs.Spacing.{spaces_at, Spaces}
use Rattle.spacing.proofs.Places.{spaces}
use Rattle.words.specs.Words.{token_at}
use Rattle.tables.specs.Layout.{tokens, avoided, repeats, row_place, width}
use Rattle.grammar.specs.declared.State.{State}
use Rattle.grammar.specs.declared.Answer.TheVariants.{Going}
use Rattle.grammar.specs.declared.Repeat.{Repeat}
use Rattle.grammar.specs.State.{Out0, Out1, Out2, Out3, count, with_at, gap_of, gap_at, once_step, tied3}
use Rattle.grammar.proofs.Touch.{refused_going}
use Rattle.marks.specs.Appended.{Appended, FreeRows}
use Rattle.marks.specs.Worded.{ListWord}
use Rattle.marks.proofs.Appended.{appended_as, free_split}
use Rattle.lines.specs.Line.{LineWord, line_word, Alone, alone, Line, closed, ended, word, Untagged, untagged, NameLine}
use Rattle.lines.specs.Avoided.{behind_both, avoid_entered, avoid_named, avoid_item, avoid_end, avoid_turn, avoid_list, avoid_decl}
use Rattle.lines.specs.Met.{first_met, places_of, word_places, OnceFree, OnceGiven, OnceTables, Still, AvoidFree, AvoidRead}
use Rattle.lines.specs.Grown.{NameTable, third, fourth, token_row, name_row}
use Rattle.lines.proofs.Worded.{alone_words}
use Rattle.lines.proofs.Grown.{past_cases}
use Rattle.lines.proofs.Avoided.{low, not_first, avoid_words, avoid_counted}
use Rattle.lines.proofs.Names.{met_append}
use Rattle.lines.proofs.Given.{joined_then, room_then, room_split, given_then, free_front, free_both, free_parts, still_then, still_map, still_at, once_cases, undeclared_cases}
use Rattle.lines.proofs.Run.{TurnTo, on, over, full, Laws, Ran, run}

-- their rows begin with a place
begins : {k : ℕ} → NameTable k → row_place k ≡ 0
begins third = refl
begins fourth = refl

-- what is given once depends on the state by two counts
module _ {src : List ℕ} {k w : ℕ} {s v : State} (d : count v k ≡ count s k) (e : count v repeats ≡ count s repeats) {ps : List Place} {t t10 : List ℕ} where
  given_as : {cells : Place → List ℕ} {what : Repeat} {u : State} {a b : List ℕ} → OnceGiven src k w cells what ps v t t10 u a b → OnceGiven src k w cells what ps s t t10 u a b
  given_as x = record { own = rw d at x.own; again = rw (d, e) at x.again }

  free_of : OnceFree src k w ps v t t10 → OnceFree src k w ps s t t10
  free_of x = record { own = rw d at x.own; again = rw (d, e) at x.again }

  free_for : OnceFree src k w ps s t t10 → OnceFree src k w ps v t t10
  free_for x = record { own = rw d x.own; again = rw (d, e) x.again }

module _ (src : List ℕ) (k : ℕ) (nt : NameTable k) (what : Repeat) where
  record Room (ws : List LineWord) (o : Out3) : Type 0 where
    entered : FreeRows (width tokens) (count o.state tokens) o.a (length (first_met src (places_of (width tokens) (count o.state tokens) o.a) (word_places ws)))
    once : OnceFree src k (width avoided) (word_places ws) o.state o.b o.c

  record Leads (ws : List LineWord) (j : ℕ) (o e : Out3) : Type 0 where
    entered : Appended (width tokens) (count o.state tokens) o.a (map token_row (first_met src (places_of (width tokens) (count o.state tokens) o.a) (word_places ws))) (count e.state tokens) e.a
    once : OnceGiven src k (width avoided) name_row what (word_places ws) o.state o.b o.c e.state e.b e.c
    state : Still (λ (i : ℕ). (i ≡ tokens) ⊎ OnceTables k i) (with_at o.state j) e.state

  abbrev Fit : State → Type 0
  Fit u = length u.counts.n ≡ 10

  abbrev Took : ℕ → LineWord → ℕ → Out3 → Turn Out3 → Type 0
  Took n w i o t = TurnTo src (λ (o : Out3). o.state) (λ (o : Out3). o.answer) Room Leads n w i o t

  -- one word: its token's row in table 1, from o to v, and then its row or its repeat
  module _ (o : Out3) (ten : length o.state.counts.n ≡ 10) (w : LineWord) (i n : ℕ) where
    abbrev met : List Place
    met = first_met src (places_of (width tokens) (count o.state tokens) o.a) (w.place ∷ [])

    module _ (v : State) (a : List ℕ) (free : FreeRows (width tokens) (count o.state tokens) o.a (length met)) (added : Appended (width tokens) (count o.state tokens) o.a (map token_row met) (count v tokens) a) (still : Still (λ (j : ℕ). j ≡ tokens) o.state v) where
      own_count : count v k ≡ count o.state k
      own_count = still.others k (not_first nt)

      repeat_count : count v repeats ≡ count o.state repeats
      repeat_count = still.others repeats (λ e. omega arith)

      module _ (u : State) (b c : List ℕ) (f : OnceFree src k (width avoided) (w.place ∷ []) v o.b o.c) (given : OnceGiven src k (width avoided) name_row what (w.place ∷ []) v o.b o.c u b c) (z : Still (OnceTables k) v u) where
        room : Room (w ∷ []) o
        room = record { entered = free; once = free_of own_count repeat_count f }

        leads : Leads (w ∷ []) i o (record { answer = Going; state = with_at u i; a = a; b = b; c = c })
        leads =
            let x = given_as {s = o.state} own_count repeat_count given in
            record {
              entered = appended_as refl (sym (z.others tokens not_tokens)) added;
              once = record { own = x.own; again = x.again };
              state = still_at (still_then (still_map still (λ j e. inl e)) (still_map z (λ j e. inr e))) i;
            }
          where
            not_tokens : OnceTables k tokens → ⊥
            not_tokens (inl e) = not_first nt (sym e)
            not_tokens (inr e) = omega arith

      -- the second row, and spacing behind the word
      second : (kind end : ℕ) → o.state.kind ≡ kind → spaces_at kind true src end ≡ Ok (i, n) → Took n w i o (avoid_end (behind_both src end a (once_step src v k (width avoided) 0 what (name_row w.place) o.b o.c)).answer (behind_both src end a (once_step src v k (width avoided) 0 what (name_row w.place) o.b o.c)))
      second kind end q g =
          once_cases src v (still.ten ∙ ten) k (low nt) (begins nt) name_row (λ q. refl) w.place (omega arith) what o.b o.c
          (λ (x : Out2). Took n w i o (avoid_end (behind_both src end a x).answer (behind_both src end a x)))
          (λ u b c f given z. past_cases (λ (x : Out0). Took n w i o (avoid_end x.answer (tied3 x a b c))) src end u kind (z.kind ∙ still.kind ∙ q)
          (λ j e. let parts = ok_2 (sym g ∙ e) in let r : i ≡ j = parts.0 in let m : n ≡ 0 = parts.1 in told (λ (h : ℕ). Took n w i o (more (record { answer = Going; state = with_at u h; a = a; b = b; c = c }))) r (on m refl (room u b c f given z) (leads u b c f given z)))
          (λ j m e l. let parts = ok_2 (sym g ∙ e) in let r : i ≡ j = parts.0 in let d : n ≡ m = parts.1 in told (λ (h : ℕ). Took n w i o (stop (record { answer = Going; state = with_at u h; a = a; b = b; c = c }))) r (over (omega arith) refl (room u b c f given z) (leads u b c f given z)))
          (λ r none. absurd (none i n g)))
          (λ r u b c none. full (refused_going r) (λ f. none (free_for own_count repeat_count f.once)))

  -- a turn; the list ends where a line end was counted behind the word
  turn : (kind : ℕ) (o : Out3) → length o.state.counts.n ≡ 10 → o.state.kind ≡ kind → {w : ListWord} {end h : ℕ} (i n : ℕ) → o.state.at ≡ h → Alone src h end w → spaces_at kind true src end ≡ Ok (i, n) → Took n (line_word w end) i o (avoid_turn src k what o)
  unfolding avoid_turn avoid_item avoid_named
  turn kind o ten q i n at (alone {i = h} {end = end} {p = p} {quoted = quoted} e) g =
      rw (ap (λ (j : ℕ). token_at src j) at ∙ e)
      (undeclared_cases src o.state ten p o.a (λ (x : Out1). Took n here i o (avoid_end (named x).answer (named x)))
      (λ v a free added still. second o ten here i n v a free added still kind end q g)
      (λ r v a none. full (refused_going r) (λ f. none f.entered)))
    where
      here : LineWord
      here = record { place = p; number = None; end = end }

      named : Out1 → Out3
      named x = avoid_entered x.answer x src k what p.from p.to end o.b o.c

  -- such a list does not end at the source's end
  abbrev Unfinished : ℕ → Type 0
  Unfinished n = 0 < n

  laws : (kind : ℕ) → Laws src (λ (o : Out3). o.state) (λ (o : Out3). o.answer) Room Leads kind (Alone src) Fit (avoid_turn src k what) Unfinished
  laws kind =
      record {
        front = λ w ws o x. record { entered = first w.place (word_places ws) o x.entered; once = free_front (w.place ∷ []) (word_places ws) x.once };
        rest = λ w ws i o y z x. record { entered = (room_split src token_row (λ q. refl) (w.place ∷ []) z.entered (word_places ws) x.entered).1; once = (free_parts (λ q. refl) z.once (word_places ws) x.once).1 };
        both = λ w ws i o y z x v. record { entered = room_then src token_row (λ q. refl) (w.place ∷ []) z.entered (word_places ws) x.entered v.entered; once = free_both (λ q. refl) z.once (word_places ws) x.once v.once };
        then = λ w ws i j o y e z x.
            record {
              entered = joined_then src token_row (λ q. refl) (w.place ∷ []) z.entered (word_places ws) x.entered;
              once = given_then (λ q. refl) z.once (word_places ws) x.once;
              state = still_then (still_at z.state j) x.state;
            };
        comes = λ ws h i o y z x. (z.state.at, z.state.kind ∙ x.1, z.state.ten ∙ x.2);
        turn = λ o h x w end i n e g. turn kind o x.2 x.1 i n x.0 e g;
        ends = λ o h x b c. absurd (omega arith);
      }
    where
      first : (p : Place) (ps : List Place) (o : Out3) → FreeRows (width tokens) (count o.state tokens) o.a (length (first_met src (places_of (width tokens) (count o.state tokens) o.a) (p ∷ ps))) → FreeRows (width tokens) (count o.state tokens) o.a (length (first_met src (places_of (width tokens) (count o.state tokens) o.a) (p ∷ [])))
      first p ps o f = (free_split (rw (met_append src (places_of (width tokens) (count o.state tokens) o.a) (p ∷ []) ps, length-append) at f)).0

  list_run : (s : State) (t1 t t10 : List ℕ) → length s.counts.n ≡ 10 → {j n : ℕ} {ws : List LineWord} → Line s.kind (Alone src) src 0 s.at j n ws → 0 < n
      → Ran src (λ (o : Out3). o.state) (λ (o : Out3). o.answer) Room Leads j ws (record { answer = Going; state = s; a = t1; b = t; c = t10 }) (avoid_list src s k what t1 t t10)
  unfolding avoid_list
  list_run s t1 t t10 ten l some = run src _ _ Room Leads s.kind (Alone src) Fit (alone_words src) (avoid_turn src k what) Unfinished (laws s.kind) l refl some (suc (length src)) _ refl (refl, refl, ten) (omega arith)

-- a line with a line end counted at its end, where none was before, begins before the source's end
line_word_lem : (kind : ℕ) (src : List ℕ) {i j n : ℕ} {ws : List LineWord} → Line kind (Alone src) src 0 i j n ws → 0 < n → i < length src
line_word_lem kind src l some = go l refl some
  where
    go : {m i j n : ℕ} {ws : List LineWord} → Line kind (Alone src) src m i j n ws → m ≡ 0 → 0 < n → i < length src
    go (closed h) z c = absurd (omega arith)
    go (ended h) z c = absurd (omega arith)
    go (word e g l) z c = let a = (alone_words src).placed e in omega (arith, a.0, a.1, a.2, a.3)

-- a line without a tag begins where the spacing behind its keyword ends
bare_line : {kind : ℕ} {src : List ℕ} {i h m j n : ℕ} {tag : Option (ℕ × ℕ)} {ws : List LineWord} → Untagged i h m tag → Line kind (Alone src) src m h j n ws → Line kind (Alone src) src 0 i j n ws
bare_line untagged l = l

-- The list of a keyword, behind it, on any tables.
module _ (src : List ℕ) (k : ℕ) (nt : NameTable k) (what : Repeat) (s : State) (t1 t t10 : List ℕ) (here : s.at ≤ length src) (ten : length s.counts.n ≡ 10) {j : ℕ} (l : NameLine s.kind src s.at j) (some : 0 < l.counted) where
  abbrev after : Out3
  after = avoid_decl src s k what t1 t t10

  abbrev begun : Out3
  begun = record { answer = Going; state = with_at s l.start; a = t1; b = t; c = t10 }

  decl_run_lem : Ran src (λ (o : Out3). o.state) (λ (o : Out3). o.answer) (Room src k nt what) (Leads src k nt what) j l.words begun after
  unfolding avoid_decl gap_at gap_of
  decl_run_lem =
      let a = line_word_lem s.kind src (bare_line l.lead l.line) some in
      let b = told (Spaces src s.at) l.gap (spaces s.kind false src s.at here) in
      rw (lt-leb (length src) s.at (omega (arith, b.0)), avoid_decl, l.gap) (list_run src k nt what begun.state t1 t t10 ten (bare_line l.lead l.line) some)

  -- Where a line stands that a line end ends, and there is room, the reading goes on behind it, with exactly the rows of its words;
  pub avoid_exactly : AvoidFree src s k t1 t t10 l.words → AvoidRead src s k what t1 t t10 j l.words after
  avoid_exactly f =
      let g = decl_run_lem.goes (record { entered = f.entered; once = record { own = f.once.own; again = f.once.again } }) in
      let x = decl_run_lem.leads g in
      record { going = g; entered = x.entered; once = record { own = x.once.own; again = x.once.again }; state = x.state }

  -- and where it goes on, there was room.
  pub avoid_free : after.answer ≡ Going → AvoidFree src s k t1 t t10 l.words
  avoid_free g = let x = decl_run_lem.free g in record { entered = x.entered; once = record { own = x.once.own; again = x.once.again } }

-- So, unless the keyword is the source's end, it goes on exactly where such a line stands behind the keyword, and there is room.
pub avoid_goes : (src : List ℕ) (k : ℕ) → NameTable k → (what : Repeat) (s : State) (t1 t t10 : List ℕ) → s.at < length src → length s.counts.n ≡ 10
    → ((avoid_decl src s k what t1 t t10).answer ≡ Going) ↔ ((j : ℕ) × (l : NameLine s.kind src s.at j) × (0 < l.counted) × AvoidFree src s k t1 t t10 l.words)
avoid_goes src k nt what s t1 t t10 here ten = (
  λ g.
      let l = avoid_words src k nt what s t1 t t10 ten here g in
      let c = avoid_counted src k nt what s t1 t t10 ten here g l in
      (_, l, c, avoid_free src k nt what s t1 t t10 (omega arith) ten l c g),
  λ x. (avoid_exactly src k nt what s t1 t t10 (omega arith) ten x.1 x.2 x.3).going,
)
