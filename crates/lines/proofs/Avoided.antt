-- `%avoid_insert` and `%implicit_tokens`: their tokens are entered Undeclared and mark nothing, the rows of table 3 or 4 are those of the words, and the list is a
-- line that ends with a line end, not with the source. Assumes nothing.
use Rattle.std.specs.Prelude.{None, Result, Ok, Err}
use Prim.Native.Nat.{ℕ, suc, ◌+◌, ◌≤◌, ◌<◌}
use mathlib.Core.Path.{◌≡◌, refl, sym, ap, ◌∙◌}
use mathlib.Core.List.{List, [], ◌∷◌}
use mathlib.Core.Bool.{Bool, true, false}
use native.Mathlib.Omega.{arith}
use lib.Dec.{leb}
use lib.ListN.{length, get_or}
use borrow.Author.Tests.{leb-true}
use Rattle.scan.specs.declared.Place.{Place}
use Rattle.scan.proofs.Bytes.{on_test, told}
use Rattle.scan.proofs.Loop.{Either, turns_keep}
use Rattle.spacing.specs.declared.SpacingError.{SpacingError}
use Rattle.spacing.specs.declared.SpacingError.TheVariants.{LineEnd, OpenComment}
use Rattle.spacing.specs.Spacing.{spaces_at, Spaces}
use Rattle.spacing.proofs.Places.{spaces}
use Rattle.words.specs.Words.{token_at}
use Rattle.tables.specs.Layout.{tokens, declared, avoided, repeats, width}
use Rattle.grammar.specs.declared.State.{State}
use Rattle.grammar.specs.declared.Answer.{Answer}
use Rattle.grammar.specs.declared.Answer.TheVariants.{Going, Done, Refused}
use Rattle.grammar.specs.declared.Refusal.{Refusal}
use Rattle.grammar.specs.declared.Repeat.{Repeat}
use Rattle.grammar.specs.Cells.{name_cells}
use Rattle.grammar.specs.State.{Out0, Out1, Out2, Out3, Passed, count, with_at, gap_of, gap_at, enter_step, once_step, pass_on, tied3, first2}
use Rattle.lines.specs.Line.{LineWord, Alone, alone, Line, closed, word, untagged, NameLine}
use Rattle.lines.specs.Grown.{Grown, Has, Written, NameTable, third, fourth, Undeclared, token_row, name_row}
use Rattle.lines.specs.Avoided.{avoid_entered, avoid_named, avoid_found, avoid_item, avoid_end, avoid_turn, avoid_list, avoid_from, avoid_decl}
use Rattle.lines.proofs.Worded.{word_placed, alone_words, untagged_leads}
use Rattle.lines.proofs.Line.{gap_placed, line_at_one}
use Rattle.lines.proofs.Grown.{grown_none, grown_then, grown_map, grown_as, has_on, written_none, written_more, Noted, once_noted, enter_noted, past_cases, Stands, before, Nears, turns_run}

-- What a step leaves of table 1 and table k, whatever its answer: rows before stay, a new token is Undeclared, and a new row of table k names a token of table 1.
pub record Kept (src : List ℕ) (k : ℕ) (s : State) (t1 t : List ℕ) (u : State) (a b : List ℕ) : Type 0 where
  pub ten : length u.counts.n ≡ 10
  pub entered : Grown Undeclared (width tokens) (count s tokens) t1 (count u tokens) a
  pub named : Grown (λ x. Has src (width tokens) (count u tokens) a (get_or x 0 0) (get_or x 1 0)) (width avoided) (count s k) t (count u k) b

kept_then : {src : List ℕ} {k : ℕ} {s u v : State} {t1 t a b c d : List ℕ} → Kept src k s t1 t u a b → Kept src k u a b v c d → Kept src k s t1 t v c d
kept_then x y = record { ten = y.ten; entered = grown_then x.entered y.entered; named = grown_then (grown_map (λ z h. has_on h y.entered) x.named) y.named }

kept_none : {src : List ℕ} {k : ℕ} {s : State} {t1 t : List ℕ} → length s.counts.n ≡ 10 → Kept src k s t1 t s t1 t
kept_none ten = record { ten = ten; entered = grown_none; named = grown_none }

-- where the state stands does not matter
kept_at : {src : List ℕ} {k : ℕ} {s u : State} {t1 t a b : List ℕ} (i : ℕ) → Kept src k s t1 t u a b → Kept src k s t1 t (with_at u i) a b
kept_at i x = record { ten = x.ten; entered = x.entered; named = x.named }

-- both are tables of names, neither table 1 nor table 10
pub low : {k : ℕ} → NameTable k → k < repeats
low third = omega arith
low fourth = omega arith

pub not_first : {k : ℕ} → NameTable k → k ≡ tokens → ⊥
not_first third e = omega arith
not_first fourth e = omega arith

-- a token entered, and then given to table k
abbrev Entered : List ℕ → State → List ℕ → List ℕ → Place → Out1 → Type 0
Entered src s t1 t p v = Noted src tokens (token_row p) p.from p.to s t1 (first2 v t)

abbrev Given : List ℕ → ℕ → List ℕ → Place → Out1 → Out2 → Type 0
Given src k t p v o = Noted src k (name_row p) p.from p.to v.state t o

-- one word: entered, then given to table k
module _ (src : List ℕ) (k : ℕ) (nt : NameTable k) (s : State) (t1 t : List ℕ) (p : Place) (v : Out1) (x : Entered src s t1 t p v) where
  -- the token's row alone
  entered_kept : Kept src k s t1 t v.state v.a t
  entered_kept = record { ten = x.ten; entered = grown_map (λ y e. ap (λ (z : List ℕ). get_or z declared 0) e) x.rows; named = grown_as refl (sym (x.others k (not_first nt) (λ e. let h = low nt in omega arith))) grown_none }

  module _ (g : v.answer ≡ Going) (o : Out2) (y : Given src k t p v o) where
    first_count : count o.state tokens ≡ count v.state tokens
    first_count = y.others tokens (λ e. not_first nt (sym e)) (λ e. omega arith)

    given_kept : Kept src k s t1 t o.state v.a o.a
    given_kept =
        kept_then entered_kept
        (record { ten = y.ten; entered = grown_as refl (sym first_count) grown_none; named = grown_map (λ z e. told (λ (r : List ℕ). Has src (width tokens) (count o.state tokens) v.a (get_or r 0 0) (get_or r 1 0)) (sym e) (rw first_count (x.has g))) y.rows })

-- where an item of such a list leads: behind its word, with or without a line end counted, or to a refusal
module _ (src : List ℕ) (k : ℕ) (nt : NameTable k) (s : State) (what : Repeat) (t1 t t10 : List ℕ) (ten : length s.counts.n ≡ 10) where
  item_cases : (C : Out3 → Type 0)
      → ((p : Place) (end : ℕ) (quoted : Bool) (i : ℕ) (v : Out1) (o : Out2) → token_at src s.at ≡ Ok (p, end, quoted) → spaces_at s.kind true src end ≡ Ok (i, 0) → Entered src s t1 t p v → v.answer ≡ Going → Given src k t p v o → o.answer ≡ Going → C (record { answer = Going; state = with_at o.state i; a = v.a; b = o.a; c = o.b }))
      → ((p : Place) (end : ℕ) (quoted : Bool) (i n : ℕ) (v : Out1) (o : Out2) → token_at src s.at ≡ Ok (p, end, quoted) → spaces_at s.kind true src end ≡ Ok (i, n) → 0 < n → Entered src s t1 t p v → v.answer ≡ Going → Given src k t p v o → o.answer ≡ Going → C (record { answer = Done; state = with_at o.state i; a = v.a; b = o.a; c = o.b }))
      → ((f : Refusal) (u : State) (a b c : List ℕ) → Kept src k s t1 t u a b → C (record { answer = Refused f; state = u; a = a; b = b; c = c }))
      → C (avoid_item src s k what t1 t t10)
  unfolding avoid_item avoid_named
  item_cases C f g h = go (token_at src s.at) refl
    where
      behind : (p : Place) (end : ℕ) (quoted : Bool) → token_at src s.at ≡ Ok (p, end, quoted) → (v : Out1) → Entered src s t1 t p v → v.answer ≡ Going → (o : Out2) → Given src k t p v o → (a : Answer) → o.answer ≡ a → C (tied3 (pass_on src true end a o.state) v.a o.a o.b)
      behind p end quoted e v x q o y Going z = past_cases (λ (w : Out0). C (tied3 w v.a o.a o.b)) src end o.state s.kind (y.kind ∙ x.kind) (λ i c. f p end quoted i v o e c x q y z) (λ i n c d. g p end quoted i n v o e c d x q y z) (λ r None. h r o.state v.a o.a o.b (given_kept src k nt s t1 t p v x q o y))
      behind p end quoted e v x q o y Done z = absurd (y.undone z)
      behind p end quoted e v x q o y (Refused r) z = h r o.state v.a o.a o.b (given_kept src k nt s t1 t p v x q o y)

      inside : (p : Place) (end : ℕ) (quoted : Bool) → token_at src s.at ≡ Ok (p, end, quoted) → Passed src p.from p.to
      inside p end quoted e = let a = word_placed src s.at p end quoted e in record { onward = omega (arith, a.1); inside = omega (arith, a.2, a.3) }

      then : (p : Place) (end : ℕ) (quoted : Bool) → token_at src s.at ≡ Ok (p, end, quoted) → (v : Out1) → Entered src s t1 t p v → (a : Answer) → v.answer ≡ a → C (avoid_entered a v src k what p.from p.to end t t10)
      then p end quoted e v x Going q =
          let o = once_step src v.state k (width avoided) 0 what (name_cells p.from p.to) t t10 in
          behind p end quoted e v x q o (once_noted src v.state x.ten k (low nt) (name_cells p.from p.to) p.from p.to (omega arith) t (inside p end quoted e) refl refl what t10) o.answer refl
      then p end quoted e v x Done q = absurd (x.undone q)
      then p end quoted e v x (Refused r) q = h r v.state v.a t t10 (entered_kept src k nt s t1 t p v x)

      go : (r : Result (Place × ℕ × Bool) ℕ) → token_at src s.at ≡ r → C (avoid_found r src s k what t1 t t10)
      go (Ok (p, end, quoted)) e =
          let v = enter_step src s p.from p.to false t1 in
          then p end quoted e v (enter_noted src s ten p.from p.to t1 t (inside p end quoted e)) v.answer refl
      go (Err i) e = h _ s t1 t t10 (kept_none ten)

-- Whatever a list answers, it keeps the tables so.
module _ (src : List ℕ) (k : ℕ) (nt : NameTable k) (what : Repeat) (s : State) (t1 t : List ℕ) where
  abbrev Under : Out3 → Type 0
  Under o = Kept src k s t1 t o.state o.a o.b

  turn_kept : (o : Out3) → Under o → Either Under Under (avoid_turn src k what o)
  unfolding avoid_turn
  turn_kept o x =
      item_cases src k nt o.state what o.a o.b o.c x.ten (λ (y : Out3). Either Under Under (avoid_end y.answer y))
      (λ p end quoted i v u e c a b d z. kept_at i (kept_then x (given_kept src k nt o.state o.a o.b p v a b u d)))
      (λ p end quoted i n v u e c l a b d z. kept_at i (kept_then x (given_kept src k nt o.state o.a o.b p v a b u d)))
      (λ f u a b c y. kept_then x y)

  pub decl_kept : (t10 : List ℕ) → length s.counts.n ≡ 10 → Under (avoid_decl src s k what t1 t t10)
  unfolding avoid_decl avoid_list
  decl_kept t10 ten = on_test Under (leb (length src) s.at) _ _ (λ e. kept_none ten) (λ e. go (gap_at s.kind false src s.at))
    where
      go : (g : Result (ℕ × ℕ) Refusal) → Under (avoid_from g src s k what t1 t t10)
      go (Ok (i, n)) = turns_keep Under (avoid_turn src k what) turn_kept (suc (length src)) _ (kept_at i (kept_none ten))
      go (Err e) = kept_none ten

-- what a list that ends leaves, from where it was: its line of words, which ends with a line end, and their rows
pub record Read (src : List ℕ) (k : ℕ) (o e : Out3) : Type 0 where
  pub words : List LineWord
  pub counted : ℕ
  pub some : 0 < counted
  pub line : Line o.state.kind (Alone src) src 0 o.state.at e.state.at counted words
  pub entered : Written src token_row (width tokens) words (count o.state tokens) o.a (count e.state tokens) e.a
  pub named : Written src name_row (width avoided) words (count o.state k) o.b (count e.state k) e.b

module _ (src : List ℕ) (k : ℕ) (nt : NameTable k) (what : Repeat) where
  abbrev At : Out3 → Type 0
  At o = Stands src o.state

  abbrev left : Out3 → ℕ
  left o = before src o.state

  abbrev Reads : Out3 → Out3 → Type 0
  Reads o e = e.answer ≡ Going → Read src k o e

  -- a word more: its rows, and those of the words behind it
  module _ (o : Out3) (p : Place) (end : ℕ) (quoted : Bool) (i : ℕ) (v : Out1) (u : Out2) (e : token_at src o.state.at ≡ Ok (p, end, quoted)) (x : Entered src o.state o.a o.b p v) (g : v.answer ≡ Going) (y : Given src k o.b p v u) (h : u.answer ≡ Going) where
    abbrev here : LineWord
    here = record { place = p; number = None; end = end }

    abbrev behind : Out3
    behind = record { answer = Going; state = with_at u.state i; a = v.a; b = u.a; c = u.b }

    first_row_lem : Grown (λ z. z ≡ token_row p) (width tokens) (count o.state tokens) o.a (count u.state tokens) v.a
    first_row_lem = grown_as refl (sym (first_count src k nt o.state o.a o.b p v x g u y)) x.rows

    first_one : count u.state tokens ≤ count o.state tokens + 1
    first_one = rw (first_count src k nt o.state o.a o.b p v x g u y) x.one

    first_has : Has src (width tokens) (count u.state tokens) v.a p.from p.to
    first_has = rw (first_count src k nt o.state o.a o.b p v x g u y) (x.has g)

    own_row : Grown (λ z. z ≡ name_row p) (width avoided) (count o.state k) o.b (count u.state k) u.a
    own_row = grown_as (x.others k (not_first nt) (λ e. let l = low nt in omega arith)) refl y.rows

    own_one : count u.state k ≤ count o.state k + 1
    own_one = rw (← x.others k (not_first nt) (λ e. let l = low nt in omega arith)) y.one

    going : spaces_at o.state.kind true src end ≡ Ok (i, 0) → At behind × (left behind < left o) × ((z : Out3) → Reads behind z → Reads o z)
    going c =
        let a = word_placed src o.state.at p end quoted e in
        let b = gap_placed o.state.kind src end i 0 a.3 c in
        (record { here = b.1; ten = y.ten }, omega (arith, a.0, a.1, a.2, a.3, b.0, b.1), λ z rest w. onward z (rest w))
      where
        onward : (z : Out3) → Read src k behind z → Read src k o z
        onward z r =
            record {
              words = here ∷ r.words;
              counted = r.counted;
              some = r.some;
              line = word (alone e) c (told (λ (k : ℕ). Line k (Alone src) src 0 i z.state.at r.counted r.words) (y.kind ∙ x.kind) r.line);
              entered = written_more here r.words first_row_lem first_one first_has r.entered;
              named = written_more here r.words own_row own_one (y.has h) r.named;
            }

    done : (n : ℕ) → spaces_at o.state.kind true src end ≡ Ok (i, n) → 0 < n → Read src k o behind
    done n c d = record { words = here ∷ []; counted = n; some = d; line = word (alone e) c (closed d); entered = written_more here [] first_row_lem first_one first_has written_none; named = written_more here [] own_row own_one (y.has h) written_none }

  turn_reads : (o : Out3) → At o → Nears At left Reads o (avoid_turn src k what o)
  unfolding avoid_turn
  turn_reads o x =
      item_cases src k nt o.state what o.a o.b o.c x.ten (λ (y : Out3). Nears At left Reads o (avoid_end y.answer y))
      (λ p end quoted i v u e c a b d z. going o p end quoted i v u e a b d z c)
      (λ p end quoted i n v u e c l a b d z. λ w. done o p end quoted i v u e a b d z n c l)
      (λ f u a b c y. λ w. let z : ◌≡◌ {A = ℕ} 0 1 = cc in absurd (omega arith))

  list_reads : (s : State) (t1 t t10 : List ℕ) → s.at ≤ length src → length s.counts.n ≡ 10 → Reads (record { answer = Going; state = s; a = t1; b = t; c = t10 }) (avoid_list src s k what t1 t t10)
  unfolding avoid_list
  list_reads s t1 t t10 h ten = turns_run At left Reads (avoid_turn src k what) turn_reads (suc (length src)) (record { answer = Going; state = s; a = t1; b = t; c = t10 }) (record { here = h; ten = ten }) (omega arith)

-- The list of a keyword, behind it, on any tables.
module _ (src : List ℕ) (k : ℕ) (nt : NameTable k) (what : Repeat) (s : State) (t1 t t10 : List ℕ) (ten : length s.counts.n ≡ 10) where
  abbrev after : Out3
  after = avoid_decl src s k what t1 t t10

  -- Whatever its answer, every row that it adds to table 1 is Undeclared, and those that stood before stay, place and flag: it marks nothing.
  pub avoid_undeclared : Grown Undeclared (width tokens) (count s tokens) t1 (count after.state tokens) after.a
  avoid_undeclared = (decl_kept src k nt what s t1 t t10 ten).entered

  -- The rows that stood before in table k stay, and each new one has the bytes of a token of table 1.
  pub avoid_rows : Grown (λ x. Has src (width tokens) (count after.state tokens) after.a (get_or x 0 0) (get_or x 1 0)) (width avoided) (count s k) t (count after.state k) after.b
  avoid_rows = (decl_kept src k nt what s t1 t t10 ten).named

  -- Where the reading goes on, and the keyword is not the source's end,
  module _ (here : s.at < length src) (g : after.answer ≡ Going) where
    record Whole (o : Out3) : Type 0 where
      start : ℕ
      ends : ℕ
      gap : spaces_at s.kind false src s.at ≡ Ok (start, ends)
      read : Read src k (record { answer = Going; state = with_at s start; a = t1; b = t; c = t10 }) o

    whole : Whole after
    unfolding avoid_decl gap_at gap_of
    whole = on_test (λ (o : Out3). o.answer ≡ Going → Whole o) (leb (length src) s.at) _ _ (λ e. absurd (let h = leb-true (length src) s.at e in omega arith)) (λ e. go (spaces_at s.kind false src s.at) refl (spaces s.kind false src s.at (omega arith))) g
      where
        go : (r : Result (ℕ × ℕ) SpacingError) → spaces_at s.kind false src s.at ≡ r → Spaces src s.at r → (avoid_from (gap_of r) src s k what t1 t t10).answer ≡ Going → Whole (avoid_from (gap_of r) src s k what t1 t t10)
        go (Ok (i, n)) e x v = record { start = i; ends = n; gap = e; read = list_reads src k nt what (with_at s i) t1 t t10 x.1 ten v }
        go (Err (LineEnd i)) e x v = let z : ◌≡◌ {A = ℕ} 0 1 = cc in absurd (omega arith)
        go (Err (OpenComment i)) e x v = let z : ◌≡◌ {A = ℕ} 0 1 = cc in absurd (omega arith)

    -- the list stands in the source, from behind the keyword to the position that it answers,
    pub avoid_words : NameLine s.kind src s.at after.state.at
    avoid_words = let r = whole.read in record { start = whole.start; ends = whole.ends; gap = whole.gap; head = whole.start; passed = 0; tag = None; lead = untagged; words = r.words; counted = r.counted; line = r.line }

    module _ {j : ℕ} (l : NameLine s.kind src s.at j) where
      same_words : whole.read.words ≡ l.words
      unfolding avoid_words
      same_words = (line_at_one s.kind src (alone_words src) (untagged_leads src) avoid_words l).2

      -- and a line end is counted behind its last word: such a list does not end at the source's end.
      pub avoid_counted : 0 < l.counted
      unfolding avoid_words
      avoid_counted = told (λ (n : ℕ). 0 < n) (line_at_one s.kind src (alone_words src) (untagged_leads src) avoid_words l).1 whole.read.some

      -- Each of its words has a row in table 1, and the new ones are those of words, Undeclared;
      pub avoid_entered_lem : Written src token_row (width tokens) l.words (count s tokens) t1 (count after.state tokens) after.a
      avoid_entered_lem = rw (← same_words) whole.read.entered

      -- each has a row in table k, and the new ones are those of words.
      pub avoid_named_lem : Written src name_row (width avoided) l.words (count s k) t (count after.state k) after.b
      avoid_named_lem = rw (← same_words) whole.read.named
