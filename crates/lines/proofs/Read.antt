-- A precedence line that was read is a line of words as it stands in the source, and its rows are those of its words. Assumes nothing.
use Rattle.std.specs.Prelude.{Option, Result, Ok, Err}
use Prim.Native.Nat.{ℕ, suc, ◌≤◌, ◌<◌}
use mathlib.Core.Path.{◌≡◌, refl, sym, ◌∙◌}
use mathlib.Core.List.{List, [], ◌∷◌}
use mathlib.Core.Bool.{Bool, true, false}
use mathlib.Core.Logic.{◌⊎◌, inl, inr}
use native.Mathlib.Omega.{arith}
use lib.Dec.{leb}
use lib.ListN.{length}
use borrow.Author.Tests.{leb-true}
use Rattle.scan.specs.declared.Place.{Place}
use Rattle.scan.proofs.Bytes.{told}
use Rattle.scan.proofs.Loop.{Either, turns_keep}
use Rattle.spacing.specs.Spacing.{spaces_at, Spaces}
use Rattle.spacing.proofs.Places.{spaces}
use Rattle.words.specs.Words.{token_at}
use Rattle.tables.specs.Layout.{precedences, tags, token_numbers, width}
use Rattle.grammar.specs.declared.State.{State}
use Rattle.grammar.specs.declared.Answer.{Answer}
use Rattle.grammar.specs.declared.Answer.TheVariants.{Going, Done, Refused}
use Rattle.grammar.specs.declared.Refusal.{Refusal}
use Rattle.grammar.specs.declared.Repeat.TheVariants.{RepeatedPrecedence}
use Rattle.grammar.specs.Cells.{precedence_cells}
use Rattle.grammar.specs.State.{Out1, Out2, Out4, Passed, count, with_at, with_level, next_level, once_step}
use Rattle.grammar.proofs.Touch.{refused_going}
use Rattle.marks.specs.Marks.{tag_row, behind_word}
use Rattle.marks.specs.Worded.{ListWord, Worded}
use Rattle.lines.specs.Line.{LineWord, line_word, Line, closed, ended, word, PrecLine}
use Rattle.lines.specs.Grown.{Grown, Written, prec_row, RowFrom}
use Rattle.lines.specs.Met.{Still}
use Rattle.lines.specs.Precedences.{prec_tagged, prec_found, prec_item, line_end, after_end, prec_turn, prec_list, prec_decl}
use Rattle.lines.proofs.Given.{still_then, still_map, still_at, still_none}
use Rattle.lines.proofs.Grown.{grown_none, grown_then, grown_map, grown_as, written_none, written_more, Noted, once_noted, Stands, before, Nears, turns_run}
use Rattle.lines.proofs.Worded.{word_placed, gap_spaces, prec_words, prec_leads}
use Rattle.lines.proofs.Marked.{tag_cases, Behind, behind_cases}
use Rattle.lines.proofs.Line.{gap_placed, line_at_one}
use Rattle.lines.proofs.Cases.{prec_cases}

-- the tables that kind 4 alone gives rows
abbrev Marks : ℕ → Type 0
Marks j = (j ≡ tags) ⊎ (j ≡ token_numbers)

-- what a list that ends leaves, from where it was: its line of words and their rows
pub record Read (src : List ℕ) (lev assoc : ℕ) (o e : Out4) : Type 0 where
  pub words : List LineWord
  pub counted : ℕ
  pub line : Line o.state.kind (Worded o.state.kind true src) src 0 o.state.at e.state.at counted words
  pub table : Written src (prec_row lev assoc) (width precedences) words (count o.state precedences) o.a (count e.state precedences) e.a
  pub level : e.state.level ≡ o.state.level
  pub ten : length e.state.counts.n ≡ 10

-- it stands from an earlier index on too
later : {src : List ℕ} {lev assoc i j : ℕ} {x : List ℕ} → i ≤ j → RowFrom src lev assoc j x → RowFrom src lev assoc i x
later h r = record { index = r.index; from = omega (arith, r.from); place = r.place; end = r.end; quoted = r.quoted; stands = r.stands; is = r.is }

-- What a step of a precedence list leaves of table 2, whatever its answer: rows before stay, and new ones are those of tokens that stand from the step's index on.
pub record Kept (src : List ℕ) (lev assoc : ℕ) (s : State) (t : List ℕ) (u : State) (a : List ℕ) : Type 0 where
  pub onward : s.at ≤ u.at
  pub ten : length u.counts.n ≡ 10
  pub level : u.level ≡ s.level
  pub rows : Grown (RowFrom src lev assoc s.at) (width precedences) (count s precedences) t (count u precedences) a

kept_then : {src : List ℕ} {lev assoc : ℕ} {s u v : State} {t a b : List ℕ} → Kept src lev assoc s t u a → Kept src lev assoc u a v b → Kept src lev assoc s t v b
kept_then x y =
    let o = x.onward in
    record {
      onward = let n = y.onward in omega arith;
      ten = y.ten;
      level = y.level ∙ x.level;
      rows = grown_then x.rows (grown_map (λ z r. later o r) y.rows);
    }

kept_none : {src : List ℕ} {lev assoc : ℕ} {s : State} {t : List ℕ} → length s.counts.n ≡ 10 → Kept src lev assoc s t s t
kept_none ten = record { onward = omega arith; ten = ten; level = refl; rows = grown_none }

-- where an item of a precedence line leads: behind its word, with or without a line end counted, or to a refusal
module _ (src : List ℕ) (s : State) (lev assoc : ℕ) (tag : Option (ℕ × ℕ)) (t2 t10 t15 t16 : List ℕ) (ten : length s.counts.n ≡ 10) where
  abbrev Item : Place → Out2 → Type 0
  Item p o = Noted src precedences (prec_row lev assoc p) p.from p.to s t2 o

  item_kept : (p : Place) (end : ℕ) (quoted : Bool) → token_at src s.at ≡ Ok (p, end, quoted) → (o : Out2) → Item p o → (u : State) → s.at ≤ u.at → Still Marks (with_at o.state u.at) u → Kept src lev assoc s t2 u o.a
  item_kept p end quoted e o x u h z =
      record {
        onward = h;
        ten = z.ten ∙ x.ten;
        level = z.level ∙ x.level;
        rows = grown_as refl (sym (z.others precedences unmarked)) (grown_map (λ y q. record { index = s.at; from = omega arith; place = p; end = end; quoted = quoted; stands = e; is = q }) x.rows);
      }
    where
      unmarked : Marks precedences → ⊥
      unmarked (inl e) = omega arith
      unmarked (inr e) = omega arith

  -- a word was read, up to i, with n line ends counted
  record Step (i n : ℕ) (o : Out2) (u : State) : Type 0 where
    end : ℕ
    listed : ListWord
    worded : Worded s.kind true src s.at end listed
    spaced : spaces_at s.kind true src end ≡ Ok (i, n)
    noted : Item listed.place o
    went : o.answer ≡ Going
    still : Still Marks (with_at o.state i) u
    kept : Kept src lev assoc s t2 u o.a

  module _ (C : Out4 → Type 0)
      (f : (i : ℕ) (o : Out2) (u : State) (c d : List ℕ) → Step i 0 o u → C (record { answer = Going; state = u; a = o.a; b = o.b; c = c; d = d }))
      (g : (i n : ℕ) (o : Out2) (u : State) (c d : List ℕ) → Step i n o u → 0 < n → C (record { answer = Done; state = u; a = o.a; b = o.b; c = c; d = d }))
      (h : (f : Refusal) (u : State) (a b c d : List ℕ) → Kept src lev assoc s t2 u a → C (record { answer = Refused f; state = u; a = a; b = b; c = c; d = d })) where
    module _ (p : Place) (end : ℕ) (quoted : Bool) (e : token_at src s.at ≡ Ok (p, end, quoted)) (o : Out2) (x : Item p o) where
      stays : Kept src lev assoc s t2 o.state o.a
      stays = item_kept p end quoted e o x o.state (let q = x.stays in omega arith) still_none

      -- the number and the spacing behind the word, from the state with the tag's row on
      behind_word_lem : o.answer ≡ Going → (v : State) (c : List ℕ) → Still (λ (j : ℕ). j ≡ tags) o.state v → C (prec_tagged src p.from p.to end o (record { answer = Going; state = v; a = c }) t16)
      behind_word_lem q v c z =
          behind_cases s.kind src s.at p end quoted e v (z.kind ∙ x.kind) (z.at ∙ x.stays) t16
          (λ (y : Out1). C (record { answer = y.answer; state = y.state; a = o.a; b = o.b; c = c; d = y.a }))
          (λ i u d y. f i o u c d (step i 0 u d y))
          (λ i n u d y l. g i n o u c d (step i n u d y) l)
          (λ r u d y. h r u o.a o.b c d (item_kept p end quoted e o x u y.onward (both u.at u y.still)))
        where
          both : (i : ℕ) (u : State) → Still (λ (j : ℕ). j ≡ token_numbers) (with_at v i) u → Still Marks (with_at o.state i) u
          both i u y = still_then (still_map (still_at z i) (λ j a. inl a)) (still_map y (λ j a. inr a))

          step : (i n : ℕ) (u : State) (d : List ℕ) → Behind s.kind src s.at p v t16 i n u d → Step i n o u
          step i n u d y =
              let a = (prec_words s.kind src).placed y.worded in
              let b = gap_placed s.kind src y.end i n a.3 y.spaced in
              let m = both i u y.still in
              let l : s.at ≤ u.at = rw m.at (omega (arith, a.0, a.1, a.2, b.0)) in
              record {
                end = y.end;
                listed = record { place = p; number = y.number };
                worded = y.worded;
                spaced = y.spaced;
                noted = x;
                went = q;
                still = m;
                kept = item_kept p end quoted e o x u l (still_at m u.at);
              }

      entered : (a : Answer) → o.answer ≡ a → C (prec_tagged src p.from p.to end o (tag_row a o.state tag p.from p.to t15) t16)
      unfolding tag_row behind_word
      entered Going q =
          tag_cases (λ (y : Out1). C (prec_tagged src p.from p.to end o y t16)) o.state tag p t15
          (λ v c free rows z. behind_word_lem q v c z)
          (λ r full. h r o.state o.a o.b t15 t16 stays)
      entered Done q = absurd (x.undone q)
      entered (Refused r) q = h r o.state o.a o.b t15 t16 stays

    item_cases : C (prec_item src s lev assoc tag t2 t10 t15 t16)
    unfolding prec_item
    item_cases = go (token_at src s.at) refl
      where
        go : (r : Result (Place × ℕ × Bool) ℕ) → token_at src s.at ≡ r → C (prec_found r src s lev assoc tag t2 t10 t15 t16)
        go (Ok (p, end, quoted)) e =
            let a = word_placed src s.at p end quoted e in
            let z : Passed src p.from p.to = record { onward = omega (arith, a.1); inside = omega (arith, a.2, a.3) } in
            let o = once_step src s precedences (width precedences) 0 RepeatedPrecedence (precedence_cells p.from p.to lev assoc) t2 t10 in
            entered p end quoted e o (once_noted src s ten precedences (omega arith) (precedence_cells p.from p.to lev assoc) p.from p.to (omega arith) t2 z refl refl RepeatedPrecedence t10) o.answer refl
        go (Err k) e = h _ s t2 t10 t15 t16 (kept_none ten)

-- Whatever a list answers, it keeps the table so.
module _ (src : List ℕ) (lev assoc : ℕ) (tag : Option (ℕ × ℕ)) (s : State) (t2 : List ℕ) where
  abbrev Under : Out4 → Type 0
  Under o = Kept src lev assoc s t2 o.state o.a

  turn_kept : (o : Out4) → Under o → Either Under Under (prec_turn src lev assoc tag o)
  unfolding prec_turn
  turn_kept o x = go (leb (length src) o.state.at)
    where
      go : (q : Bool) → Either Under Under (after_end q o (prec_item src o.state lev assoc tag o.a o.b o.c o.d))
      go true = x
      go false =
          item_cases src o.state lev assoc tag o.a o.b o.c o.d x.ten (λ (y : Out4). Either Under Under (line_end y.answer y))
          (λ i v u c d z. kept_then x z.kept)
          (λ i n v u c d z l. kept_then x z.kept)
          (λ f u a b c d y. kept_then x y)

  list_kept : (t10 t15 t16 : List ℕ) → length s.counts.n ≡ 10 → Under (prec_list src s lev assoc tag t2 t10 t15 t16)
  unfolding prec_list
  list_kept t10 t15 t16 ten = turns_keep Under (prec_turn src lev assoc tag) turn_kept (suc (length src)) _ (kept_none ten)

module _ (src : List ℕ) (lev assoc : ℕ) (tag : Option (ℕ × ℕ)) where
  abbrev At : Out4 → Type 0
  At o = Stands src o.state

  abbrev left : Out4 → ℕ
  left o = before src o.state

  abbrev Reads : Out4 → Out4 → Type 0
  Reads o e = e.answer ≡ Going → Read src lev assoc o e

  -- a word more: its row, and those of the words behind it
  module _ (o : Out4) (at : At o) (i n : ℕ) (v : Out2) (u : State) (c d : List ℕ) (x : Step src o.state lev assoc tag o.a o.b o.c o.d at.ten i n v u) where
    abbrev here : LineWord
    here = line_word x.listed x.end

    abbrev behind : Out4
    behind = record { answer = Going; state = u; a = v.a; b = v.b; c = c; d = d }

    same_count : count u precedences ≡ count v.state precedences
    same_count = x.still.others precedences unmarked
      where
        unmarked : Marks precedences → ⊥
        unmarked (inl e) = omega arith
        unmarked (inr e) = omega arith

    -- the words behind it, from where its spacing ends
    more_words : {m j k : ℕ} {ws : List LineWord} → n ≡ m → Line u.kind (Worded u.kind true src) src m u.at j k ws → Line o.state.kind (Worded o.state.kind true src) src 0 o.state.at j k (here ∷ ws)
    more_words {m} {j} {k} {ws} z l =
        word x.worded x.spaced
        (told (λ (m : ℕ). Line o.state.kind (Worded o.state.kind true src) src m i j k ws) (sym z)
        (told (λ (h : ℕ). Line o.state.kind (Worded o.state.kind true src) src m h j k ws) x.still.at
        (told (λ (q : ℕ). Line q (Worded q true src) src m u.at j k ws) (x.still.kind ∙ x.noted.kind) l)))

    more_rows : {m : ℕ} {z : List ℕ} {ws : List LineWord} → Written src (prec_row lev assoc) (width precedences) ws (count u precedences) v.a m z → Written src (prec_row lev assoc) (width precedences) (here ∷ ws) (count o.state precedences) o.a m z
    more_rows {m} {z} {ws} y = written_more here ws x.noted.rows x.noted.one (x.noted.has x.went) (told (λ (n : ℕ). Written src (prec_row lev assoc) (width precedences) ws n v.a m z) same_count y)

    going : n ≡ 0 → At behind × (left behind < left o) × ((z : Out4) → Reads behind z → Reads o z)
    going q =
        let a = (prec_words o.state.kind src).placed x.worded in
        let b = gap_placed o.state.kind src x.end i n a.3 x.spaced in
        let e = x.still.at in
        (record { here = omega (arith, b.1, e); ten = x.kept.ten }, omega (arith, a.0, a.1, a.2, a.3, b.0, b.1, e), λ z rest v. onward z (rest v))
      where
        onward : (z : Out4) → Read src lev assoc behind z → Read src lev assoc o z
        onward z r =
            record {
              words = here ∷ r.words;
              counted = r.counted;
              line = more_words q r.line;
              table = more_rows r.table;
              level = r.level ∙ x.kept.level;
              ten = r.ten;
            }

    done : 0 < n → Read src lev assoc o behind
    done l = record { words = here ∷ []; counted = n; line = more_words refl (closed l); table = more_rows written_none; level = x.kept.level; ten = x.kept.ten }

  turn_reads : (o : Out4) → At o → Nears At left Reads o (prec_turn src lev assoc tag o)
  unfolding prec_turn
  turn_reads o x = go (leb (length src) o.state.at) refl
    where
      go : (q : Bool) → leb (length src) o.state.at ≡ q → Nears At left Reads o (after_end q o (prec_item src o.state lev assoc tag o.a o.b o.c o.d))
      go true q = λ g. record { words = []; counted = 0; line = ended (leb-true _ _ q); table = written_none; level = refl; ten = x.ten }
      go false q =
          item_cases src o.state lev assoc tag o.a o.b o.c o.d x.ten (λ (y : Out4). Nears At left Reads o (line_end y.answer y))
          (λ i v u c d z. going o x i 0 v u c d z refl)
          (λ i n v u c d z l. λ g. done o x i n v u c d z l)
          (λ f u a b c d y. λ v. let z : ◌≡◌ {A = ℕ} 0 1 = cc in absurd (omega arith))

  list_reads : (s : State) (t2 t10 t15 t16 : List ℕ) → s.at ≤ length src → length s.counts.n ≡ 10 → Reads (record { answer = Going; state = s; a = t2; b = t10; c = t15; d = t16 }) (prec_list src s lev assoc tag t2 t10 t15 t16)
  unfolding prec_list
  list_reads s t2 t10 t15 t16 h ten = turns_run At left Reads (prec_turn src lev assoc tag) turn_reads (suc (length src)) (record { answer = Going; state = s; a = t2; b = t10; c = t15; d = t16 }) (record { here = h; ten = ten }) (omega arith)

-- A line behind its keyword, on any tables.
module _ (src : List ℕ) (s : State) (assoc : ℕ) (t2 t10 t15 t16 : List ℕ) where
  abbrev after : Out4
  after = prec_decl src s assoc t2 t10 t15 t16

  -- Whatever its answer, the rows that stood before stay, and a new one is the row of a token behind the keyword's spacing, with the line's level and association.
  pub line_kept : length s.counts.n ≡ 10 → (low : ℕ) → ((i n : ℕ) → spaces_at s.kind false src s.at ≡ Ok (i, n) → low ≤ i) → Grown (RowFrom src s.level assoc low) (width precedences) (count s precedences) t2 (count after.state precedences) after.a
  line_kept ten low h =
      prec_cases (λ (o : Out4). Grown (RowFrom src s.level assoc low) (width precedences) (count s precedences) t2 (count o.state precedences) o.a) src s assoc t2 t10 t15 t16
      (λ i n e j tag l. let a = h i n (gap_spaces s.kind false src s.at i n e) in let b = (prec_leads s.kind src).onward l in grown_map (λ z r. later (omega arith) r) (list_kept src s.level assoc tag (with_level (with_at s j) (next_level s.level)) t2 t10 t15 t16 ten).rows)
      (λ i n e j m tag l c. grown_none)
      (λ i n e f none. grown_none)
      (λ f e. grown_none)

  -- Where the reading goes on:
  module _ (here : s.at ≤ length src) (ten : length s.counts.n ≡ 10) (g : after.answer ≡ Going) where
    record Whole (o : Out4) : Type 0 where
      line : PrecLine s.kind src s.at o.state.at
      table : Written src (prec_row s.level assoc) (width precedences) line.words (count s precedences) t2 (count o.state precedences) o.a
      level : o.state.level ≡ next_level s.level
      counts : length o.state.counts.n ≡ 10

    whole : Whole after
    whole =
        prec_cases (λ (o : Out4). o.answer ≡ Going → Whole o) src s assoc t2 t10 t15 t16
        (λ i n e j tag l v.
        let y = gap_spaces s.kind false src s.at i n e in
        let x = told (Spaces src s.at) y (spaces s.kind false src s.at here) in
        let r = list_reads src s.level assoc tag (with_level (with_at s j) (next_level s.level)) t2 t10 t15 t16 ((prec_leads s.kind src).inside x.1 l) ten v in
        record {
          line = record { start = i; ends = n; gap = y; head = j; passed = 0; tag = tag; lead = l; words = r.words; counted = r.counted; line = r.line };
          table = r.table;
          level = r.level;
          counts = r.ten;
        })
        (λ i n e j m tag l c v.
        record {
          line = record { start = i; ends = n; gap = gap_spaces s.kind false src s.at i n e; head = j; passed = m; tag = tag; lead = l; words = []; counted = m; line = closed c };
          table = written_none;
          level = refl;
          counts = ten;
        })
        (λ i n e f none v. absurd (refused_going f v))
        (λ f e v. absurd (refused_going f v))
        g

    -- It stands in the source, from behind the keyword to the position that it answers.
    pub line_words_lem : PrecLine s.kind src s.at after.state.at
    line_words_lem = whole.line

    -- The next line's level is the next one.
    pub line_level : after.state.level ≡ next_level s.level
    line_level = whole.level

    pub line_ten : length after.state.counts.n ≡ 10
    line_ten = whole.counts

    module _ {j : ℕ} (l : PrecLine s.kind src s.at j) where
      same_words : whole.line.words ≡ l.words
      same_words = (line_at_one s.kind src (prec_words s.kind src) (prec_leads s.kind src) whole.line l).2

      -- The rows that it adds to table 2 are rows of its words, in their order, with its level and association; those that stood before stay; and each of its
      -- words has a row there, this line's or an earlier one's.
      pub line_rows : Written src (prec_row s.level assoc) (width precedences) l.words (count s precedences) t2 (count after.state precedences) after.a
      line_rows = rw (← same_words) whole.table
