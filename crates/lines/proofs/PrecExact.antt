-- A precedence line goes on exactly where it stands in the source and its rows find room, and its rows are exactly those of the words that it meets first; the
-- others are listed as repeats. Each word has a row for the line's tag, and one for its number. Assumes nothing.
use Rattle.std.specs.Prelude.{Option, Ok, Result}
use Prim.Native.Nat.{ℕ, suc, ◌≤◌, ◌<◌}
use mathlib.Core.Path.{◌≡◌, refl, sym, ap, ◌∙◌}
use mathlib.Core.List.{List, [], ◌∷◌, ◌++◌, append-nil}
use mathlib.Core.Bool.{Bool, true, false}
use mathlib.Core.Logic.{inl, inr, ◌↔◌}
use native.Mathlib.Omega.{arith}
use lib.ListN.{length}
use borrow.Author.Tests.{lt-leb, le-leb}
use Rattle.scan.proofs.Tuples.{ok_2}
use Rattle.grammar.specs.declared.Refusal.{Refusal}
use Rattle.scan.specs.Loop.{Turn}
use Rattle.scan.proofs.Bytes.{told}
use Rattle.spacing.specs.Spacing.{spaces_at}
use Rattle.words.specs.Words.{token_at}
use Rattle.tables.specs.Layout.{precedences, repeats, tags, token_numbers, width}
use Rattle.grammar.specs.declared.State.{State}
use Rattle.grammar.specs.declared.Answer.TheVariants.{Going}
use Rattle.grammar.specs.declared.Repeat.TheVariants.{RepeatedPrecedence}
use Rattle.grammar.specs.State.{Out1, Out2, Out4, count, with_at, with_level, next_level, gap_at}
use Rattle.grammar.proofs.Touch.{refused_going}
use Rattle.marks.specs.Marks.{tag_row, behind_word}
use Rattle.marks.specs.Appended.{Appended, FreeRows}
use Rattle.marks.specs.Worded.{ListWord, Worded, tag_rows, number_of, number_rows}
use Rattle.marks.proofs.Appended.{appended_none, appended_then, appended_as}
use Rattle.marks.proofs.Worded.{worded_token, tag_rows_on, tag_rows_none, number_rows_on, number_rows_none}
use Rattle.lines.specs.Line.{LineWord, line_word, Line, Lead, PrecLine}
use Rattle.lines.specs.Precedences.{prec_tagged, prec_entered, prec_item, line_end, prec_turn, prec_list, prec_decl}
use Rattle.lines.specs.Met.{first_met, met_again, word_places, listed, OnceFree, OnceGiven, OnceTables, Still, PrecTables, PrecFree, PrecRead}
use Rattle.lines.specs.Grown.{prec_row}
use Rattle.lines.proofs.Worded.{spaces_gap, prec_words, prec_leads}
use Rattle.lines.proofs.Marked.{tag_cases, Behind, behind_cases}
use Rattle.lines.proofs.Line.{line_closed}
use Rattle.lines.proofs.Cases.{prec_cases}
use Rattle.lines.proofs.Read.{line_words_lem}
use Rattle.lines.proofs.Given.{free_none, part_first, part_rest, part_both, given_then, free_front, free_both, free_parts, still_then, still_map, still_at, still_none, once_cases}
use Rattle.lines.proofs.Run.{TurnTo, on, over, full, Laws, Ran, run}

-- rows of a word, and of those behind it
numbers_one : (w : LineWord) → number_of w.place w.number ≡ number_rows (listed (w ∷ []))
unfolding number_rows
numbers_one w = sym (append-nil (number_of w.place w.number))

numbers_more : (w : LineWord) (ws : List LineWord) → number_rows (listed (w ∷ ws)) ≡ number_rows (listed (w ∷ [])) ++ number_rows (listed ws)
numbers_more w ws = number_rows_on _ (listed ws) ∙ ap (λ (x : List (List ℕ)). x ++ number_rows (listed ws)) (numbers_one w)

module _ (src : List ℕ) (lev assoc : ℕ) (tag : Option (ℕ × ℕ)) where
  abbrev Room : List LineWord → Out4 → Type 0
  Room ws o = PrecFree src o.state o.a o.b o.c o.d tag ws

  record Leads (ws : List LineWord) (j : ℕ) (o e : Out4) : Type 0 where
    rows : OnceGiven src precedences (width precedences) (prec_row lev assoc) RepeatedPrecedence (word_places ws) o.state o.a o.b e.state e.a e.b
    tagged : Appended (width tags) (count o.state tags) o.c (tag_rows tag (word_places ws)) (count e.state tags) e.c
    numbered : Appended (width token_numbers) (count o.state token_numbers) o.d (number_rows (listed ws)) (count e.state token_numbers) e.d
    state : Still PrecTables (with_at o.state j) e.state

  abbrev Fit : State → Type 0
  Fit u = (length u.counts.n ≡ 10) × (length u.posix.n ≡ 3)

  abbrev Took : (n : ℕ) (w : LineWord) (i : ℕ) (o : Out4) → Turn Out4 → Type 0
  Took n w i o t = TurnTo src (λ (o : Out4). o.state) (λ (o : Out4). o.answer) Room Leads n w i o t

  -- one word: its row or its repeat, from the state of o to u, the tag's row, to v, and the number's
  module _ (kind : ℕ) (o : Out4) (fit : Fit o.state) (k : o.state.kind ≡ kind) (w : ListWord) (end i n : ℕ) (e : Worded kind true src o.state.at end w) (g : spaces_at kind true src end ≡ Ok (i, n)) where
    abbrev here : LineWord
    here = line_word w end

    module _ (u : State) (a b : List ℕ) (free : OnceFree src precedences (width precedences) (w.place ∷ []) o.state o.a o.b) (given : OnceGiven src precedences (width precedences) (prec_row lev assoc) RepeatedPrecedence (w.place ∷ []) o.state o.a o.b u a b) (still : Still (OnceTables precedences) o.state u) where
      apart : (j : ℕ) → 10 ≤ j → OnceTables precedences j → ⊥
      apart j h (inl q) = omega arith
      apart j h (inr q) = omega arith

      tag_count : count u tags ≡ count o.state tags
      tag_count = still.others tags (apart tags (omega arith))

      module _ (v : State) (c : List ℕ) (free-tag : FreeRows (width tags) (count u tags) o.c (length (tag_rows tag (w.place ∷ [])))) (tag-row : length u.posix.n ≡ 3 → Appended (width tags) (count u tags) o.c (tag_rows tag (w.place ∷ [])) (count v tags) c) (still-tag : Still (λ (j : ℕ). j ≡ tags) u v) where
        number_count : count v token_numbers ≡ count o.state token_numbers
        number_count = still-tag.others token_numbers (λ q. omega arith) ∙ still.others token_numbers (apart token_numbers (omega arith))

        -- the word that was read is the word that stands there
        module _ (x : State) (d : List ℕ) (i' n' : ℕ) (y : Behind kind src o.state.at w.place v o.d i' n' x d) where
          same_number : number_of w.place y.number ≡ number_rows (listed (here ∷ []))
          same_number = ap (λ (w : ListWord). number_of w.place w.number) ((prec_words kind src).one y.worded e).1 ∙ numbers_one here

          same_gap : (i' ≡ i) × (n' ≡ n)
          same_gap = let z = ((prec_words kind src).one y.worded e).0 in let h = y.spaced in let m : ◌≡◌ {A = Result (ℕ × ℕ) Refusal} (Ok (i', n')) (Ok (i, n)) = cc in ok_2 m

          room : Room (here ∷ []) o
          room =
              record {
                once = record { own = free.own; again = free.again };
                tagged = told (λ (m : ℕ). FreeRows (width tags) m o.c (length (tag_rows tag (w.place ∷ [])))) tag_count free-tag;
                numbered = told (λ (m : ℕ). FreeRows (width token_numbers) m o.d (length (number_rows (listed (here ∷ []))))) number_count (told (λ (r : List (List ℕ)). FreeRows (width token_numbers) (count v token_numbers) o.d (length r)) same_number y.free);
              }

          -- the counts of the other tables stay behind their rows
          kept_once : (j : ℕ) → j < 10 → count x j ≡ count u j
          kept_once j h = y.still.others j (λ q. omega arith) ∙ still-tag.others j (λ q. omega arith)

          leads : Leads (here ∷ []) i o (record { answer = Going; state = x; a = a; b = b; c = c; d = d })
          leads =
              record {
                rows = record { own = appended_as refl (sym (kept_once precedences (omega arith))) given.own; again = appended_as refl (sym (kept_once repeats (omega arith))) given.again };
                tagged = appended_as tag_count (sym (y.still.others tags (λ q. omega arith))) (tag-row (still.three ∙ fit.1));
                numbered = appended_as number_count refl (told (λ (r : List (List ℕ)). Appended (width token_numbers) (count v token_numbers) o.d r (count x token_numbers) d) same_number (y.rows (still-tag.three ∙ still.three ∙ fit.1)));
                state = told (λ (j : ℕ). Still PrecTables (with_at o.state j) x) same_gap.0 (still_then (still_then (still_map (still_at still i') (λ j q. inl q)) (still_map (still_at still-tag i') (λ j q. inr (inl q)))) (still_map y.still (λ j q. inr (inr q))));
              }

        -- the number, and the spacing behind all of the word
        third : (tend : ℕ) (quoted : Bool) → token_at src o.state.at ≡ Ok (w.place, tend, quoted) → Took n here i o (line_end (prec_tagged src w.place.from w.place.to tend (record { answer = Going; state = u; a = a; b = b }) (record { answer = Going; state = v; a = c }) o.d).answer (prec_tagged src w.place.from w.place.to tend (record { answer = Going; state = u; a = a; b = b }) (record { answer = Going; state = v; a = c }) o.d))
        third tend quoted t =
            behind_cases kind src o.state.at w.place tend quoted t v (still-tag.kind ∙ still.kind ∙ k) (still-tag.at ∙ still.at) o.d
            (λ (y : Out1). Took n here i o (line_end y.answer (record { answer = y.answer; state = y.state; a = a; b = b; c = c; d = y.a })))
            (λ j x d y. on (sym (same_gap x d j 0 y).1) refl (room x d j 0 y) (leads x d j 0 y))
            (λ j m x d y l. over (let z = (same_gap x d j m y).1 in omega arith) refl (room x d j m y) (leads x d j m y))
            (λ r x d y. full (refused_going r) (λ f. y.none e g (told (λ (m : ℕ). FreeRows (width token_numbers) m o.d (length (number_of w.place w.number))) (sym number_count) (told (λ (r : List (List ℕ)). FreeRows (width token_numbers) (count o.state token_numbers) o.d (length r)) (sym (numbers_one here)) f.numbered))))

      -- the tag's row
      second : (tend : ℕ) (quoted : Bool) → token_at src o.state.at ≡ Ok (w.place, tend, quoted) → Took n here i o (line_end (prec_entered src tag w.place.from w.place.to tend (record { answer = Going; state = u; a = a; b = b }) o.c o.d).answer (prec_entered src tag w.place.from w.place.to tend (record { answer = Going; state = u; a = a; b = b }) o.c o.d))
      unfolding behind_word
      second tend quoted t =
          tag_cases (λ (y : Out1). Took n here i o (line_end (prec_tagged src w.place.from w.place.to tend (record { answer = Going; state = u; a = a; b = b }) y o.d).answer (prec_tagged src w.place.from w.place.to tend (record { answer = Going; state = u; a = a; b = b }) y o.d))) u tag w.place o.c
          (λ v c free-tag tag-row still-tag. third v c free-tag tag-row still-tag tend quoted t)
          (λ r none. full (refused_going r) (λ f. none (told (λ (m : ℕ). FreeRows (width tags) m o.c (length (tag_rows tag (w.place ∷ [])))) (sym tag_count) f.tagged)))

    -- a turn: all of it; the list ends where a line end was counted behind the word
    turn : Took n here i o (prec_turn src lev assoc tag o)
    unfolding prec_turn prec_item tag_row behind_word
    turn =
        let a = (prec_words kind src).placed e in
        let low : o.state.at < length src = omega (arith, a.0, a.1, a.2, a.3) in
        let t = worded_token e in
        rw (lt-leb _ _ low, t.2)
        (once_cases src o.state fit.0 precedences (omega arith) refl (prec_row lev assoc) (λ q. refl) w.place (omega arith) RepeatedPrecedence o.a o.b
        (λ (x : Out2). Took n here i o (line_end (prec_entered src tag w.place.from w.place.to t.0 x o.c o.d).answer (prec_entered src tag w.place.from w.place.to t.0 x o.c o.d)))
        (λ u a b free given still. second u a b free given still t.0 t.1 t.2)
        (λ r u a b none. full (refused_going r) (λ f. none f.once)))

  abbrev Any : ℕ → Type 0
  Any n = Unit {0}

  laws : (kind : ℕ) → Laws src (λ (o : Out4). o.state) (λ (o : Out4). o.answer) Room Leads kind (Worded kind true src) Fit (prec_turn src lev assoc tag) Any
  unfolding prec_turn first_met met_again
  laws kind =
      record {
        front = λ w ws o x.
            record {
              once = free_front (w.place ∷ []) (word_places ws) x.once;
              tagged = part_first (tag_rows tag (w.place ∷ [])) (tag_rows tag (word_places ws)) (rw (tag_rows_on tag w.place (word_places ws)) at x.tagged);
              numbered = part_first (number_rows (listed (w ∷ []))) (number_rows (listed ws)) (rw (numbers_more w ws) at x.numbered);
            };
        rest = λ w ws i o y z x.
            record {
              once = (free_parts (λ q. refl) z.rows (word_places ws) x.once).1;
              tagged = part_rest (tag_rows tag (w.place ∷ [])) (tag_rows tag (word_places ws)) z.tagged (rw (tag_rows_on tag w.place (word_places ws)) at x.tagged);
              numbered = part_rest (number_rows (listed (w ∷ []))) (number_rows (listed ws)) z.numbered (rw (numbers_more w ws) at x.numbered);
            };
        both = λ w ws i o y z x v.
            record {
              once = free_both (λ q. refl) z.rows (word_places ws) x.once v.once;
              tagged = rw (tag_rows_on tag w.place (word_places ws)) (part_both (tag_rows tag (w.place ∷ [])) (tag_rows tag (word_places ws)) z.tagged x.tagged v.tagged);
              numbered = rw (numbers_more w ws) (part_both (number_rows (listed (w ∷ []))) (number_rows (listed ws)) z.numbered x.numbered v.numbered);
            };
        then = λ w ws i j o y e z x.
            record {
              rows = given_then (λ q. refl) z.rows (word_places ws) x.rows;
              tagged = rw (tag_rows_on tag w.place (word_places ws)) (appended_then z.tagged x.tagged);
              numbered = rw (numbers_more w ws) (appended_then z.numbered x.numbered);
              state = still_then (still_at z.state j) x.state;
            };
        comes = λ ws h i o y z x. (z.state.at, z.state.kind ∙ x.1, (z.state.ten ∙ x.2.0, z.state.three ∙ x.2.1));
        turn = λ o h x w end i n e g. turn kind o x.2 x.1 w end i n (told (λ (h : ℕ). Worded kind true src h end w) (sym x.0) e) g;
        ends = λ o h x b c.
            let a : length src ≤ o.state.at = rw x.0 c in (
              rw (le-leb (length src) o.state.at a),
              record { once = record { own = free_none; again = free_none }; tagged = rw (tag_rows_none tag) free_none; numbered = rw number_rows_none free_none },
              record { rows = record { own = appended_none; again = appended_none }; tagged = rw (tag_rows_none tag) appended_none; numbered = rw number_rows_none appended_none; state = told (λ (i : ℕ). Still PrecTables (with_at o.state i) o.state) x.0 still_none },
            );
      }

  list_run : (s : State) (t2 t10 t15 t16 : List ℕ) → Fit s → {j n : ℕ} {ws : List LineWord} → Line s.kind (Worded s.kind true src) src 0 s.at j n ws
      → Ran src (λ (o : Out4). o.state) (λ (o : Out4). o.answer) Room Leads j ws (record { answer = Going; state = s; a = t2; b = t10; c = t15; d = t16 }) (prec_list src s lev assoc tag t2 t10 t15 t16)
  unfolding prec_list
  list_run s t2 t10 t15 t16 fit l = run src _ _ Room Leads s.kind (Worded s.kind true src) Fit (prec_words s.kind src) (prec_turn src lev assoc tag) Any (laws s.kind) l refl tt (suc (length src)) _ refl (refl, refl, fit) (omega arith)

-- A line behind its keyword, on any tables.
module _ (src : List ℕ) (s : State) (assoc : ℕ) (t2 t10 t15 t16 : List ℕ) (ten : length s.counts.n ≡ 10) (three : length s.posix.n ≡ 3) where
  abbrev after : Out4
  after = prec_decl src s assoc t2 t10 t15 t16

  -- the reading of these words, up to j, led to o
  record Exact (j : ℕ) (tag : Option (ℕ × ℕ)) (ws : List LineWord) (o : Out4) : Type 0 where
    goes : PrecFree src s t2 t10 t15 t16 tag ws → o.answer ≡ Going
    free : o.answer ≡ Going → PrecFree src s t2 t10 t15 t16 tag ws
    read : o.answer ≡ Going → PrecRead src s assoc t2 t10 t15 t16 j tag ws o

  -- words behind a tag or none
  some_words : (h : ℕ) (tag : Option (ℕ × ℕ)) {j n : ℕ} {ws : List LineWord} → Line s.kind (Worded s.kind true src) src 0 h j n ws → Exact j tag ws (prec_list src (with_level (with_at s h) (next_level s.level)) s.level assoc tag t2 t10 t15 t16)
  some_words h tag l =
      let r = list_run src s.level assoc tag (with_level (with_at s h) (next_level s.level)) t2 t10 t15 t16 (ten, three) l in
      record {
        goes = λ f. r.goes (record { once = record { own = f.once.own; again = f.once.again }; tagged = f.tagged; numbered = f.numbered });
        free = λ g. let f = r.free g in record { once = record { own = f.once.own; again = f.once.again }; tagged = f.tagged; numbered = f.numbered };
        read = λ g. let x = r.leads g in record { going = g; rows = record { own = x.rows.own; again = x.rows.again }; tagged = x.tagged; numbered = x.numbered; state = x.state };
      }

  -- none, where a line end was counted behind the tag
  no_words : (j : ℕ) (tag : Option (ℕ × ℕ)) → Exact j tag [] (record { answer = Going; state = with_level (with_at s j) (next_level s.level); a = t2; b = t10; c = t15; d = t16 })
  unfolding first_met met_again
  no_words j tag =
      record {
        goes = λ f. refl;
        free = λ g. record { once = record { own = free_none; again = free_none }; tagged = rw (tag_rows_none tag) free_none; numbered = rw number_rows_none free_none };
        read = λ g. record { going = refl; rows = record { own = appended_none; again = appended_none }; tagged = rw (tag_rows_none tag) appended_none; numbered = rw number_rows_none appended_none; state = still_none };
      }

  module _ {j : ℕ} (l : PrecLine s.kind src s.at j) where
    gap_is : gap_at s.kind false src s.at ≡ Ok (l.start, l.ends)
    gap_is = spaces_gap s.kind false src s.at l.start l.ends l.gap

    lead_at : {i n : ℕ} → gap_at s.kind false src s.at ≡ Ok (i, n) → Lead s.kind src i l.head l.passed l.tag
    lead_at {i} e = let z : l.start ≡ i = (ok_2 (sym gap_is ∙ e)).0 in told (λ (i : ℕ). Lead s.kind src i l.head l.passed l.tag) z l.lead

    decl_run_lem : Exact j l.tag l.words after
    decl_run_lem =
        prec_cases (Exact j l.tag l.words) src s assoc t2 t10 t15 t16
        (λ i n e h tag x.
        let d = (prec_leads s.kind src).one (lead_at e) x in
        told (λ (g : Option (ℕ × ℕ)). Exact j g l.words (prec_list src (with_level (with_at s h) (next_level s.level)) s.level assoc tag t2 t10 t15 t16)) (sym d.2)
        (some_words h tag
        (told (λ (h : ℕ). Line s.kind (Worded s.kind true src) src 0 h j l.counted l.words) d.0
        (told (λ (m : ℕ). Line s.kind (Worded s.kind true src) src m l.head j l.counted l.words) d.1 l.line))))
        (λ i n e h m tag x c.
        let d = (prec_leads s.kind src).one (lead_at e) x in
        let r = line_closed s.kind src (prec_words s.kind src) l.line (rw d.1 c) in
        let o : Out4 = record { answer = Going; state = with_level (with_at s h) (next_level s.level); a = t2; b = t10; c = t15; d = t16 } in
        told (λ (g : Option (ℕ × ℕ)). Exact j g l.words o) (sym d.2)
        (told (λ (k : ℕ). Exact k tag l.words o) (sym d.0 ∙ r.0)
        (told (λ (ws : List LineWord). Exact h tag ws o) (sym r.2) (no_words h tag))))
        (λ i n e f none. absurd (none l.head l.passed l.tag (lead_at e)))
        (λ f e. let g = gap_is in let z : ◌≡◌ {A = ℕ} 0 1 = cc in absurd (omega arith))

    -- Where a line stands and there is room, the reading goes on behind it, with exactly the rows of its words;
    pub prec_exactly : PrecFree src s t2 t10 t15 t16 l.tag l.words → PrecRead src s assoc t2 t10 t15 t16 j l.tag l.words after
    prec_exactly f = decl_run_lem.read (decl_run_lem.goes f)

    -- and where it goes on, there was room.
    pub prec_free : after.answer ≡ Going → PrecFree src s t2 t10 t15 t16 l.tag l.words
    prec_free g = decl_run_lem.free g

    -- Document 02, request Nine, where it goes on: table 15 has one row more for each word, in order, with the line's tag, and none where it has no tag;
    pub line_tag_rows : after.answer ≡ Going → Appended (width tags) (count s tags) t15 (tag_rows l.tag (word_places l.words)) (count after.state tags) after.c
    line_tag_rows g = (decl_run_lem.read g).tagged

    -- table 16 has one for each word that a number follows, in order, with its value.
    pub line_number_rows : after.answer ≡ Going → Appended (width token_numbers) (count s token_numbers) t16 (number_rows (listed l.words)) (count after.state token_numbers) after.d
    line_number_rows g = (decl_run_lem.read g).numbered

-- So it goes on exactly where a line stands behind its keyword, and there is room.
pub prec_goes : (src : List ℕ) (s : State) (assoc : ℕ) (t2 t10 t15 t16 : List ℕ) → s.at ≤ length src → length s.counts.n ≡ 10 → length s.posix.n ≡ 3
    → ((prec_decl src s assoc t2 t10 t15 t16).answer ≡ Going) ↔ ((j : ℕ) × (l : PrecLine s.kind src s.at j) × PrecFree src s t2 t10 t15 t16 l.tag l.words)
prec_goes src s assoc t2 t10 t15 t16 here ten three =
    (λ g. let l = line_words_lem src s assoc t2 t10 t15 t16 here ten g in (_, l, prec_free src s assoc t2 t10 t15 t16 ten three l g), λ x. (prec_exactly src s assoc t2 t10 t15 t16 ten three x.1 x.2).going)
