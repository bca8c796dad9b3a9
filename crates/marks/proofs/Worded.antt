-- Words and tags as they stand, and the steps that read them: each holds exactly where the other does. Assumes nothing.
use Rattle.std.specs.Prelude.{Some, None, Result, Ok, Err, Option}
use Prim.Native.Nat.{ℕ, ◌+◌, ◌*◌, ◌≤◌, ◌<◌}
use mathlib.Core.Path.{◌≡◌, refl, sym, ap, subst, ◌∙◌}
use mathlib.Core.List.{List, [], ◌∷◌, ◌++◌}
use mathlib.Core.Bool.{Bool, true, false, not, ◌&&◌, true≢false, false≢true}
use native.Mathlib.Omega.{arith}
use lib.Dec.{eqb, ltb}
use lib.ListN.{length}
use borrow.Author.Tests.{eqb-true, eqb-false, ltb-false}
use Rattle.scan.proofs.Tuples.{ok_2, ok_3}
use Rattle.scan.specs.declared.Place.{Place}
use Rattle.words.specs.declared.IntError.{IntError}
use Rattle.words.specs.declared.IntError.TheVariants.{NoDigits, TooLarge}
use Rattle.words.specs.declared.TagError.{TagError}
use Rattle.words.specs.declared.TagError.TheVariants.{OpenTag, NoTag}
use Rattle.words.specs.Words.{token_at, Tokened}
use Rattle.words.specs.Numbers.{int_at, Counted}
use Rattle.words.specs.Tags.{tag_at}
use Rattle.words.proofs.Words.{token_placed}
use Rattle.words.proofs.Numbers.{int_placed}
use Rattle.tables.specs.Layout.{tags, token_numbers, width}
use Rattle.tables.specs.Table.{Added, put, room}
use Rattle.tables.proofs.Cases.{add_cases}
use Rattle.grammar.specs.declared.State.{State}
use Rattle.grammar.specs.declared.Cause.TheVariants.{IntegerTooLarge}
use Rattle.grammar.specs.declared.Refusal.{Refusal}
use Rattle.grammar.specs.declared.Refusal.TheVariants.{Fault}
use Rattle.grammar.specs.declared.Answer.{Answer}
use Rattle.grammar.specs.declared.Answer.TheVariants.{Going, Done, Refused}
use Rattle.grammar.specs.Cells.{tag_cells, number_cells}
use Rattle.grammar.specs.State.{Out0, Out1, count, with_at, with_count, gap_at, Gapped, pushed, push_row, past, past_gap, pass_on, tied1, behind1, refused}
use Rattle.grammar.proofs.Counting.{same_high, count_other, with_three}
use Rattle.grammar.proofs.Kept.{gapped}
use Rattle.grammar.proofs.SameKind.{pass_kind}
use Rattle.grammar.proofs.Steps.{past_going, past_done}
use Rattle.grammar.proofs.Touch.{refused_going, done_going}
use Rattle.marks.specs.Marks.{Leading, untagged, no_tag, tag_found, lead_tag, tag_row, number_given, number_behind, number_after, behind_word}
use Rattle.marks.specs.Appended.{Appended, FreeRows}
use Rattle.marks.specs.Worded.{ListWord, Numberless, elsewhere, parted, digitless, Worded, plain, numbered, TagBefore, headless, bare, tagged, tag_rows, number_of, number_rows}
use Rattle.marks.proofs.Appended.{appended_none, appended_add, push_room, free_here}
use Rattle.marks.proofs.Laws.{lead_none, lead_without, lead_found, number_other, number_taken, number_no, behind_goes, behind_done}

-- answers of scans differ
no_value : (k v e : ℕ) → ◌≡◌ {A = Result (ℕ × ℕ) IntError} (Err (NoDigits k)) (Ok (v, e)) → ⊥
no_value k v e h = let z : ◌≡◌ {A = ℕ} 0 1 = cc in omega arith

no_tag_lem : (k e : ℕ) (p : Place) → ◌≡◌ {A = Result (Place × ℕ) TagError} (Err (NoTag k)) (Ok (p, e)) → ⊥
no_tag_lem k e p h = let z : ◌≡◌ {A = ℕ} 0 1 = cc in omega arith

done_refused : (f : Refusal) → Done ≡ Refused f → ⊥
done_refused f e = let z : ◌≡◌ {A = ℕ} 0 1 = cc in omega arith

-- A word at a place is one word,
module _ {kind : ℕ} {line : Bool} {src : List ℕ} where
  -- and has a number or none
  one_number : {e j n end v : ℕ} → Numberless kind line src e → kind ≡ 4 → gap_at kind true src e ≡ Ok (j, n) → (line ≡ true → n ≡ 0) → int_at src j ≡ Ok (v, end) → ⊥
  one_number (elsewhere d) k g l i = d k
  one_number {j = j} {n = n} (parted {j = a} {n = b} h f p) k g l i =
      let o : ◌≡◌ {A = Result (ℕ × ℕ) Refusal} (Ok (a, b)) (Ok (j, n)) = sym f ∙ g in
      let o_parts = ok_2 o in
      let c : b ≡ n = cc in
      let z = l h in
      omega arith
  one_number {j = j} {n = n} {end = end} {v = v} (digitless {j = a} {n = b} {k = c} f d) k g l i =
      let o : ◌≡◌ {A = Result (ℕ × ℕ) Refusal} (Ok (a, b)) (Ok (j, n)) = sym f ∙ g in
      let o_parts = ok_2 o in
      let x : a ≡ j = cc in
      no_value c v end (sym d ∙ rw x i)

  pub worded_one : {i e f : ℕ} {v w : ListWord} → Worded kind line src i e v → Worded kind line src i f w → (e ≡ f) × (v ≡ w)
  worded_one {e = e} {f = f} (plain {p = p} {quoted = b} t m) (plain {p = q} {quoted = c} u n) =
      let o : ◌≡◌ {A = Result (Place × ℕ × Bool) ℕ} (Ok (p, e, b)) (Ok (q, f, c)) = sym t ∙ u in
      let o_parts = ok_3 o in
      (cc, cc)
  worded_one {e = e} (plain {p = p} {quoted = b} t m) (numbered {e = x} {p = q} {quoted = c} k u g l i h) =
      let o : ◌≡◌ {A = Result (Place × ℕ × Bool) ℕ} (Ok (p, e, b)) (Ok (q, x, c)) = sym t ∙ u in
      let o_parts = ok_3 o in
      let z : e ≡ x = cc in
      absurd (one_number m k (rw z g) l i)
  worded_one {f = f} (numbered {e = x} {p = p} {quoted = b} k t g l i h) (plain {p = q} {quoted = c} u n) =
      let o : ◌≡◌ {A = Result (Place × ℕ × Bool) ℕ} (Ok (p, x, b)) (Ok (q, f, c)) = sym t ∙ u in
      let o_parts = ok_3 o in
      let z : x ≡ f = cc in
      absurd (one_number n k (rw (← z) g) l i)
  worded_one {e = e} {f = f} (numbered {e = x} {j = j} {n = a} {v = v} {p = p} {quoted = b} k t g l i h) (numbered {e = y} {j = m} {n = d} {v = w} {p = q} {quoted = c} k' u g' l' i' h') =
      let o : ◌≡◌ {A = Result (Place × ℕ × Bool) ℕ} (Ok (p, x, b)) (Ok (q, y, c)) = sym t ∙ u in
      let o_parts = ok_3 o in
      let z : x ≡ y = cc in
      let r : ◌≡◌ {A = Result (ℕ × ℕ) Refusal} (Ok (j, a)) (Ok (m, d)) = sym g ∙ rw z g' in
      let r_parts = ok_2 r in
      let y : j ≡ m = cc in
      let s : ◌≡◌ {A = Result (ℕ × ℕ) IntError} (Ok (v, e)) (Ok (w, f)) = sym i ∙ rw y i' in
      let s_parts = ok_2 s in
      (cc, cc)

-- and so is the tag in front of the words.
pub tag_before_one : {kind : ℕ} {wanted line : Bool} {src : List ℕ} {i j k : ℕ} {g h : Option (ℕ × ℕ)} → TagBefore kind wanted line src i j g → TagBefore kind wanted line src i k h → (j ≡ k) × (g ≡ h)
tag_before_one (headless d) (headless e) = (refl, refl)
tag_before_one (headless d) (bare k w t) = (refl, refl)
tag_before_one (headless d) (tagged k t g l) = absurd (d k)
tag_before_one (bare k w t) (headless e) = (refl, refl)
tag_before_one (bare k w t) (bare l v u) = (refl, refl)
tag_before_one (bare k w t) (tagged l u g m) = absurd (no_tag_lem _ _ _ (sym t ∙ u))
tag_before_one (tagged k t g l) (headless e) = absurd (e k)
tag_before_one (tagged k t g l) (bare m w u) = absurd (no_tag_lem _ _ _ (sym u ∙ t))
tag_before_one (tagged {end = x} {j = j} {n = n} {p = p} k t g l) (tagged {end = y} {j = m} {n = d} {p = q} k' u h l') =
    let o : ◌≡◌ {A = Result (Place × ℕ) TagError} (Ok (p, x)) (Ok (q, y)) = sym t ∙ u in
    let o_parts = ok_2 o in
    let z : x ≡ y = cc in
    let r : ◌≡◌ {A = Result (ℕ × ℕ) Refusal} (Ok (j, n)) (Ok (m, d)) = sym g ∙ rw z h in
    let r_parts = ok_2 r in
    let s : p ≡ q = cc in
    (cc, ap (λ (a : Place). Some (a.from, a.to)) s)

token_inside : (src : List ℕ) (i : ℕ) (p : Place) (e : ℕ) (quoted : Bool) → token_at src i ≡ Ok (p, e, quoted) → (i < e) × (e ≤ length src)
token_inside src i p e quoted f =
    let x : Tokened src i (Ok (p, e, quoted)) = rw f at (token_placed src i (token_at src i) refl).1 in
    let a = x.0 in
    let b = x.1 in
    let c = x.2 in
    (omega arith, x.3)

-- the token of a word
pub worded_token : {kind : ℕ} {line : Bool} {src : List ℕ} {i end : ℕ} {w : ListWord} → Worded kind line src i end w → (e : ℕ) × (quoted : Bool) × (token_at src i ≡ Ok (w.place, e, quoted))
worded_token {end = end} (plain {quoted = b} f d) = (end, b, f)
worded_token (numbered {e = e} {quoted = b} k f g l x h) = (e, b, f)

-- A word has at least one byte and ends in the source.
pub worded_inside : {kind : ℕ} {line : Bool} {src : List ℕ} {i end : ℕ} {w : ListWord} → Worded kind line src i end w → (i < end) × (end ≤ length src)
worded_inside {src = src} {i = i} {end = end} (plain {p = p} {quoted = b} f d) = token_inside src i p end b f
worded_inside {kind = kind} {src = src} {i = i} {end = end} (numbered {e = e} {j = j} {n = n} {v = v} {p = p} {quoted = b} k f g l x h) =
    let t = token_inside src i p e b f in
    let y : Gapped src e (Ok (j, n)) = rw g at (gapped kind true src e t.1) in
    let z : Counted src j (Ok (v, end)) = rw x at (int_placed src j y.1 (int_at src j) refl).1 in
    let a = t.0 in
    let c = y.0 in
    let d = z.0 in
    (omega arith, z.1)

-- what spacing answers that counted n line ends
module _ (line : Bool) (n : ℕ) where
  abbrev pub line_ends : Bool
  line_ends = line && not (eqb n 0)

  abbrev pub spaced : Answer
  spaced = elim line_ends [ true ↦ Done | false ↦ Going ]

line_on : (line : Bool) (n : ℕ) → line_ends line n ≡ false → line ≡ true → n ≡ 0
line_on true n e h = go (eqb n 0) refl e
  where
    go : (b : Bool) → eqb n 0 ≡ b → not b ≡ false → n ≡ 0
    go true q f = eqb-true n 0 q
    go false q f = absurd (true≢false f)
line_on false n e h = absurd (false≢true h)

line_over : (line : Bool) (n : ℕ) → line_ends line n ≡ true → (line ≡ true) × (0 < n)
line_over true n e = go (eqb n 0) refl e
  where
    go : (b : Bool) → eqb n 0 ≡ b → not b ≡ true → (true ≡ true) × (0 < n)
    go true q f = absurd (false≢true f)
    go false q f = let d = eqb-false n 0 q in (refl, omega arith)
line_over false n e = absurd (false≢true e)

on_line : (line : Bool) (n : ℕ) → (line ≡ true → n ≡ 0) → line_ends line n ≡ false
on_line true n h = rw (h refl)
on_line false n h = refl

past_spaced : (src : List ℕ) (line : Bool) (end : ℕ) (s : State) (to n : ℕ) → gap_at s.kind true src end ≡ Ok (to, n) → past_gap src line end s ≡ record { answer = spaced line n; state = with_at s to }
unfolding past_gap
past_spaced src line end s to n g = ap (λ (x : Result (ℕ × ℕ) Refusal). past line x s) g

-- a tag that a line end follows, in a list that ends with its line
pub record TagLast (kind : ℕ) (line : Bool) (src : List ℕ) (i j : ℕ) (g : Option (ℕ × ℕ)) : Type 0 where
  pub four : kind ≡ 4
  pub ending : line ≡ true
  pub end : ℕ
  pub lines : ℕ
  pub place : Place
  pub stands : tag_at src i ≡ Ok (place, end)
  pub gap : gap_at kind true src end ≡ Ok (j, lines)
  pub some : 0 < lines
  pub same : g ≡ Some (place.from, place.to)

-- The step that reads a tag: where it goes on, the tag or none stands there,
pub record Led (src : List ℕ) (s : State) (wanted line : Bool) (l : Leading) : Type 0 where
  pub before : l.answer ≡ Going → TagBefore s.kind wanted line src s.at l.state.at l.tag
  -- where it is done, a line end was counted behind the tag,
  pub last : l.answer ≡ Done → TagLast s.kind line src s.at l.state.at l.tag
  -- and all but the position stays.
  pub state : l.state ≡ with_at s l.state.at

module _ (src : List ℕ) (s : State) (wanted line : Bool) where
  pub led : Led src s wanted line (lead_tag src s wanted line)
  unfolding lead_tag past_gap
  led = kind (eqb s.kind 4) refl
    where
      halt : (f : Refusal) → Led src s wanted line (untagged (refused f s))
      halt f = record { before = λ h. absurd (refused_going f h); last = λ h. absurd (done_refused f (sym h)); state = refl }

      None : (k : ℕ) → s.kind ≡ 4 → tag_at src s.at ≡ Err (NoTag k) → (w : Bool) → wanted ≡ w → Led src s wanted line (no_tag w k s)
      None k e q true w = halt _
      None k e q false w = record { before = λ h. bare e w q; last = λ h. absurd (done_going (sym h)); state = refl }

      ending : (p : Place) (end j n : ℕ) → s.kind ≡ 4 → tag_at src s.at ≡ Ok (p, end) → gap_at s.kind true src end ≡ Ok (j, n) → (b : Bool) → line_ends line n ≡ b
          → Led src s wanted line (record { answer = elim b [ true ↦ Done | false ↦ Going ]; state = with_at s j; tag = Some (p.from, p.to) })
      ending p end j n e q g true b =
          let x = line_over line n b in
          record { before = λ h. absurd (done_going h); last = λ h. record { four = e; ending = x.0; end = end; lines = n; place = p; stands = q; gap = g; some = x.1; same = refl }; state = refl }
      ending p end j n e q g false b = record { before = λ h. tagged e q g (line_on line n b); last = λ h. absurd (done_going (sym h)); state = refl }

      gap : (p : Place) (end : ℕ) → s.kind ≡ 4 → tag_at src s.at ≡ Ok (p, end) → (g : Result (ℕ × ℕ) Refusal) → gap_at s.kind true src end ≡ g
          → Led src s wanted line (record { answer = (past line g s).answer; state = (past line g s).state; tag = Some (p.from, p.to) })
      gap p end e q (Ok (j, n)) g = ending p end j n e q g (line_ends line n) refl
      gap p end e q (Err f) g = record { before = λ h. absurd (refused_going f h); last = λ h. absurd (done_refused f (sym h)); state = refl }

      tag : (t : Result (Place × ℕ) TagError) → tag_at src s.at ≡ t → s.kind ≡ 4 → Led src s wanted line (tag_found t src s wanted line)
      tag (Ok (p, end)) q e = gap p end e q (gap_at s.kind true src end) refl
      tag (Err (OpenTag i)) q e = halt _
      tag (Err (NoTag i)) q e = None i e q wanted refl

      by : Bool → Leading
      by b = elim b [ true ↦ tag_found (tag_at src s.at) src s wanted line | false ↦ untagged (record { answer = Going; state = s }) ]

      kind : (b : Bool) → eqb s.kind 4 ≡ b → Led src s wanted line (by b)
      kind true e = tag (tag_at src s.at) refl (eqb-true s.kind 4 e)
      kind false e = record { before = λ h. headless (eqb-false s.kind 4 e); last = λ h. absurd (done_going (sym h)); state = refl }

  -- and where that stands, the step goes on behind it.
  pub lead_goes : {j : ℕ} {g : Option (ℕ × ℕ)} → TagBefore s.kind wanted line src s.at j g → lead_tag src s wanted line ≡ record { answer = Going; state = with_at s j; tag = g }
  lead_goes (headless d) = sym (lead_none src s wanted line d)
  lead_goes (bare e w q) = sym (lead_without src s wanted line e (Err (NoTag _)) (sym q) _ refl w)
  lead_goes {j = j} (tagged {end = end} {n = n} {p = p} e q g l) =
      sym (lead_found src s wanted line e (Ok (p, end)) (sym q) p end Going (with_at s j) refl (past_going src line end s (Ok (j, n)) (sym g) j n refl (on_line line n l)))

-- a number's row is counted
abbrev pub with_number : Option ℕ → State → State
with_number None s = s
with_number (Some v) s = with_count s token_numbers (count s token_numbers + 1)

-- Behind the token of a word at i, in state s: the word with its number, and the spacing behind all of it; table 16 has a row more if there is a number, and nothing else but the position changes. Line ends that
-- were counted there end a list that ends with its line.
pub record Behind (src : List ℕ) (line : Bool) (i : ℕ) (p : Place) (s : State) (t : List ℕ) (o : Out1) : Type 0 where
  pub end : ℕ
  pub to : ℕ
  pub lines : ℕ
  pub number : Option ℕ
  pub word : Worded s.kind line src i end (record { place = p; number = number })
  pub gap : gap_at s.kind true src end ≡ Ok (to, lines)
  pub answer : o.answer ≡ spaced line lines
  pub state : o.state ≡ with_at (with_number number s) to
  pub rows : length s.posix.n ≡ 3 → Appended (width token_numbers) (count s token_numbers) t (number_of p number) (count o.state token_numbers) o.a

-- where a step is not refused
abbrev pub Taken : Answer → Type 0
Taken a = (f : Refusal) → a ≡ Refused f → ⊥

pub going_taken : {a : Answer} → a ≡ Going → Taken a
going_taken e f h = refused_going f (sym h ∙ e)

pub done_taken : {a : Answer} → a ≡ Done → Taken a
done_taken e f h = done_refused f (sym e ∙ h)

-- it goes on where no line end was counted that matters, and is done where one was
pub going_lines : (line : Bool) (n : ℕ) → spaced line n ≡ Going → line ≡ true → n ≡ 0
going_lines line n e = line_on line n (go (line_ends line n) e)
  where
    go : (b : Bool) → elim b as (λ (x : Bool). Answer) [ true ↦ Done | false ↦ Going ] ≡ Going → b ≡ false
    go true h = absurd (done_going h)
    go false h = refl

pub done_lines : (line : Bool) (n : ℕ) → spaced line n ≡ Done → (line ≡ true) × (0 < n)
done_lines line n e = line_over line n (go (line_ends line n) e)
  where
    go : (b : Bool) → elim b as (λ (x : Bool). Answer) [ true ↦ Done | false ↦ Going ] ≡ Done → b ≡ true
    go true h = refl
    go false h = absurd (done_going (sym h))

module _ (src : List ℕ) (line : Bool) (i : ℕ) (p : Place) (e : ℕ) (quoted : Bool) (found : token_at src i ≡ Ok (p, e, quoted)) (s : State) (t : List ℕ) where
  abbrev Fine : Out1 → Type 0
  Fine o = Taken o.answer → Behind src line i p s t o

  -- The step behind a token reads a word,
  pub behind_worded : Fine (behind_word src line p.from p.to e Going s t)
  unfolding behind_word past_gap number_behind push_row
  behind_worded = first (gap_at s.kind true src e) refl
    where
      -- no number
      short : (j n : ℕ) → gap_at s.kind true src e ≡ Ok (j, n) → Numberless s.kind line src e → (b : Bool) → line_ends line n ≡ b → Fine (record { answer = elim b [ true ↦ Done | false ↦ Going ]; state = with_at s j; a = t })
      short j n q d b h = λ x. record {
        end = e;
        to = j;
        lines = n;
        number = None;
        word = plain found d;
        gap = q;
        answer = ap (λ (y : Bool). elim y as (λ (x : Bool). Answer) [ true ↦ Done | false ↦ Going ]) (sym h);
        state = refl;
        rows = λ three. appended_none;
      }

      second : (j n v end : ℕ) → s.kind ≡ 4 → gap_at s.kind true src e ≡ Ok (j, n) → line_ends line n ≡ false → int_at src j ≡ Ok (v, end) → v ≤ 4294967295 → count s token_numbers * 3 + 3 ≤ length t
          → (g : Result (ℕ × ℕ) Refusal) → gap_at s.kind true src end ≡ g → Fine (tied1 (past line g (with_count (with_at s j) token_numbers (count s token_numbers + 1))) (put t (count s token_numbers * 3) (number_cells p.from p.to v)))
      second j n v end k q b x l fits (Ok (to, m)) g = λ z. record {
        end = end;
        to = to;
        lines = m;
        number = Some v;
        word = numbered k found q (line_on line n b) x l;
        gap = g;
        answer = refl;
        state = refl;
        rows = λ three. rw (same_high s token_numbers (count s token_numbers + 1) (omega arith) (rw three (omega arith))) (appended_add (count s token_numbers) (number_cells p.from p.to v) t fits);
      }
      second j n v end k q b x l fits (Err f) g = λ z. absurd (z f refl)

      sized : (j n v end : ℕ) → s.kind ≡ 4 → gap_at s.kind true src e ≡ Ok (j, n) → line_ends line n ≡ false → int_at src j ≡ Ok (v, end) → (b : Bool) → ltb 4294967295 v ≡ b
          → Fine (elim b [ true ↦ tied1 (refused (Fault IntegerTooLarge j) (with_at s j)) t | false ↦ behind1 src line end (push_row (with_at s j) token_numbers (number_cells p.from p.to v) t) ])
      sized j n v end k q b x true h = λ z. absurd (z _ refl)
      sized j n v end k q b x false h =
          add_cases (λ (o : Added). Fine (behind1 src line end (pushed o.ok (with_at s j) token_numbers (number_cells p.from p.to v) o.cells))) (count s token_numbers) (number_cells p.from p.to v) t
          (λ fits low. second j n v end k q b x (ltb-false 4294967295 v h) fits (gap_at s.kind true src end) refl)
          (λ full z. absurd (z _ refl))

      int : (j n : ℕ) → s.kind ≡ 4 → gap_at s.kind true src e ≡ Ok (j, n) → line_ends line n ≡ false → (x : Result (ℕ × ℕ) IntError) → int_at src j ≡ x → Fine (number_given x src line p.from p.to (with_at s j) t)
      int j n k q b (Ok (v, end)) x = sized j n v end k q b x (ltb 4294967295 v) refl
      int j n k q b (Err (NoDigits d)) x = short j n q (digitless q x) false b
      int j n k q b (Err (TooLarge d)) x = λ z. absurd (z _ refl)

      by : ℕ → Bool → Out1
      by j b = elim b [ true ↦ number_given (int_at src j) src line p.from p.to (with_at s j) t | false ↦ record { answer = Going; state = with_at s j; a = t } ]

      kind : (j n : ℕ) → gap_at s.kind true src e ≡ Ok (j, n) → line_ends line n ≡ false → (b : Bool) → eqb s.kind 4 ≡ b → Fine (by j b)
      kind j n q b true h = int j n (eqb-true s.kind 4 h) q b (int_at src j) refl
      kind j n q b false h = short j n q (elsewhere (eqb-false s.kind 4 h)) false b

      ended : (j n : ℕ) → gap_at s.kind true src e ≡ Ok (j, n) → (b : Bool) → line_ends line n ≡ b
          → Fine (number_after (record { answer = elim b [ true ↦ Done | false ↦ Going ]; state = with_at s j }) src line p.from p.to (elim b [ true ↦ Done | false ↦ Going ]) t)
      ended j n q true b = let x = line_over line n b in short j n q (parted x.0 q x.1) true b
      ended j n q false b = kind j n q b (eqb s.kind 4) refl

      first : (g : Result (ℕ × ℕ) Refusal) → gap_at s.kind true src e ≡ g → Fine (number_after (past line g s) src line p.from p.to (past line g s).answer t)
      first (Ok (j, n)) q = ended j n q (line_ends line n) refl
      first (Err f) q = λ z. absurd (z f refl)

  abbrev step : Out1
  step = behind_word src line p.from p.to e Going s t

  -- and where a word stands and the row of its number fits, the step reads it.
  pub behind_reads : {end to lines : ℕ} {w : ListWord} → Worded s.kind line src i end w → gap_at s.kind true src end ≡ Ok (to, lines)
      → FreeRows (width token_numbers) (count s token_numbers) t (length (number_of w.place w.number)) → (step.answer ≡ spaced line lines) × (step.state ≡ with_at (with_number w.number s) to)
  behind_reads {end} {to} {lines} (plain {p = q} {quoted = c} f d) g free =
      let o : ◌≡◌ {A = Result (Place × ℕ × Bool) ℕ} (Ok (p, e, quoted)) (Ok (q, end, c)) = sym found ∙ f in
      let o_parts = ok_3 o in
      let x : e ≡ end = cc in
      let y = short (rw x g) (rw x d) (line_ends line lines) refl in
      (sym (ap (λ (o : Out1). o.answer) y), sym (ap (λ (o : Out1). o.state) y))
    where
      gone : gap_at s.kind true src e ≡ Ok (to, lines) → Numberless s.kind line src e → line_ends line lines ≡ false → ◌≡◌ {A = Out1} (record { answer = Going; state = with_at s to; a = t }) (number_behind src line p.from p.to (with_at s to) t)
      gone h (elsewhere k) b = number_other src line p.from p.to (with_at s to) t k
      gone h (parted {j = j} {n = n} l q z) b =
          let o : ◌≡◌ {A = Result (ℕ × ℕ) Refusal} (Ok (j, n)) (Ok (to, lines)) = sym q ∙ h in
          let o_parts = ok_2 o in
          let x : n ≡ lines = cc in
          let y = line_on line lines b l in
          absurd (omega arith)
      gone h (digitless {j = j} {n = n} {k = k} q z) b =
          let o : ◌≡◌ {A = Result (ℕ × ℕ) Refusal} (Ok (j, n)) (Ok (to, lines)) = sym q ∙ h in
          let o_parts = ok_2 o in
          let x : j ≡ to = cc in
          digits (eqb s.kind 4) refl (rw x at z)
        where
          digits : (b : Bool) → eqb s.kind 4 ≡ b → int_at src to ≡ Err (NoDigits k) → ◌≡◌ {A = Out1} (record { answer = Going; state = with_at s to; a = t }) (number_behind src line p.from p.to (with_at s to) t)
          digits true e z = number_no src line p.from p.to (with_at s to) t (eqb-true s.kind 4 e) (Err (NoDigits k)) (sym z) k refl
          digits false e z = number_other src line p.from p.to (with_at s to) t (eqb-false s.kind 4 e)

      short : gap_at s.kind true src e ≡ Ok (to, lines) → Numberless s.kind line src e → (b : Bool) → line_ends line lines ≡ b → ◌≡◌ {A = Out1} (record { answer = elim b [ true ↦ Done | false ↦ Going ]; state = with_at s to; a = t }) step
      short h d true b = behind_done src line p.from p.to e Going s t Done (with_at s to) (past_done src line e s (Ok (to, lines)) (sym h) to lines refl b) refl
      short h d false b = behind_goes src line p.from p.to e Going s t Going (with_at s to) (past_going src line e s (Ok (to, lines)) (sym h) to lines refl b) _ refl (gone h d b)
  behind_reads {end} {to} {lines} (numbered {e = x} {j = j} {n = n} {v = v} {p = q} {quoted = c} k f h l z u) g free =
      let o : ◌≡◌ {A = Result (Place × ℕ × Bool) ℕ} (Ok (p, e, quoted)) (Ok (q, x, c)) = sym found ∙ f in
      let o_parts = ok_3 o in
      let y : e ≡ x = cc in
      let fine = free_here (omega arith) free in
      let a = whole (rw y h) (on_line line n l) fine in
      (sym (ap (λ (o : Out1). o.answer) a), sym (ap (λ (o : Out1). o.state) a))
    where
      row : List ℕ
      row = number_cells p.from p.to v

      whole : gap_at s.kind true src e ≡ Ok (j, n) → line_ends line n ≡ false → room 3 (count s token_numbers) t ≡ true → ◌≡◌ {A = Out1} (record { answer = spaced line lines; state = with_at (with_number (Some v) s) to; a = put t (count s token_numbers * 3) (number_cells p.from p.to v) }) step
      whole q b r =
          behind_goes src line p.from p.to e Going s t Going (with_at s j) (past_going src line e s (Ok (j, n)) (sym q) j n refl b) _ refl
          (number_taken src line p.from p.to (with_at s j) t k (Ok (v, end)) (sym z) v end _ refl u
          (sym (ap (behind1 src line end) (push_room (with_at s j) token_numbers row t r) ∙ ap (λ (o : Out0). tied1 o (put t (count s token_numbers * 3) row)) (past_spaced src line end (with_count (with_at s j) token_numbers (count s token_numbers + 1)) to lines g))))

-- a step that goes on came behind one that did
module _ (src : List ℕ) (line : Bool) (from to end : ℕ) (s : State) (t : List ℕ) where
  pub behind_went : (a : Answer) → (behind_word src line from to end a s t).answer ≡ Going → a ≡ Going
  unfolding behind_word
  behind_went Going h = refl
  behind_went Done h = absurd (done_going h)
  behind_went (Refused f) h = absurd (refused_going f h)

  pub behind_before : (a : Answer) → Taken (behind_word src line from to end a s t).answer → (a ≡ Done → ⊥) → a ≡ Going
  unfolding behind_word
  behind_before Going h d = refl
  behind_before Done h d = absurd (d refl)
  behind_before (Refused f) h d = absurd (h f refl)

-- so where it goes on, a word stands there
pub behind_word_lem : (src : List ℕ) (line : Bool) (i : ℕ) (p : Place) (e : ℕ) (quoted : Bool) → token_at src i ≡ Ok (p, e, quoted) → (a : Answer) (s : State) (t : List ℕ) → (behind_word src line p.from p.to e a s t).answer ≡ Going → Behind src line i p s t (behind_word src line p.from p.to e a s t)
behind_word_lem src line i p e quoted f Going s t h = behind_worded src line i p e quoted f s t (going_taken h)
behind_word_lem src line i p e quoted f Done s t h = absurd (done_going (behind_went src line p.from p.to e s t Done h))
behind_word_lem src line i p e quoted f (Refused r) s t h = absurd (refused_going r (behind_went src line p.from p.to e s t (Refused r) h))

-- and where one stands, and the row of its number fits, it goes on behind a step that did
pub word_behind : (src : List ℕ) (line : Bool) (i : ℕ) (p : Place) (e : ℕ) (quoted : Bool) → token_at src i ≡ Ok (p, e, quoted) → (a : Answer) (s : State) (t : List ℕ) → a ≡ Going → {end to lines : ℕ} {w : ListWord} → Worded s.kind line src i end w → gap_at s.kind true src end ≡ Ok (to, lines)
    → FreeRows (width token_numbers) (count s token_numbers) t (length (number_of w.place w.number)) → (behind_word src line p.from p.to e a s t).answer ≡ spaced line lines
word_behind src line i p e quoted f a s t h {lines = lines} w g free = subst (λ (b : Answer). (behind_word src line p.from p.to e b s t).answer ≡ spaced line lines) (sym h) (behind_reads src line i p e quoted f s t w g free).0

-- A tag's row is counted
abbrev pub with_tag : Option (ℕ × ℕ) → State → State
with_tag None s = s
with_tag (Some (i, j)) s = with_count s tags (count s tags + 1)

-- where its step goes on, behind one that did; nothing else changes,
module _ (p : Place) (s : State) (t : List ℕ) where
  pub record TagAdded (g : Option (ℕ × ℕ)) (o : Out1) : Type 0 where
    pub state : o.state ≡ with_tag g s
    pub rows : length s.posix.n ≡ 3 → Appended (width tags) (count s tags) t (tag_rows g (p ∷ [])) (count o.state tags) o.a

  pub tag_went : (a : Answer) (g : Option (ℕ × ℕ)) → (tag_row a s g p.from p.to t).answer ≡ Going → a ≡ Going
  unfolding tag_row
  tag_went Going g h = refl
  tag_went Done g h = absurd (done_going h)
  tag_went (Refused f) g h = absurd (refused_going f h)

  pub tag_added : (a : Answer) (g : Option (ℕ × ℕ)) → (tag_row a s g p.from p.to t).answer ≡ Going → TagAdded g (tag_row a s g p.from p.to t)
  unfolding tag_row push_row
  tag_added Going None = λ h. record { state = refl; rows = λ three. appended_none }
  tag_added Going (Some (i, j)) =
      add_cases (λ (o : Added). (pushed o.ok s tags (tag_cells p.from p.to i j) o.cells).answer ≡ Going → TagAdded (Some (i, j)) (pushed o.ok s tags (tag_cells p.from p.to i j) o.cells)) (count s tags) (tag_cells p.from p.to i j) t
      (λ fits low h. record { state = refl; rows = λ three. rw (same_high s tags (count s tags + 1) (omega arith) (rw three (omega arith))) (appended_add (count s tags) (tag_cells p.from p.to i j) t fits) })
      (λ full h. absurd (refused_going _ h))
  tag_added Done g = λ h. absurd (done_going h)
  tag_added (Refused f) g = λ h. absurd (refused_going f h)

  -- and it goes on where there is room for it.
  pub tag_room : (a : Answer) (g : Option (ℕ × ℕ)) → a ≡ Going → FreeRows (width tags) (count s tags) t (length (tag_rows g (p ∷ []))) → (tag_row a s g p.from p.to t).answer ≡ Going
  unfolding tag_row
  tag_room a None e free = rw e
  tag_room a (Some (i, j)) e free = rw e (ap (λ (o : Out1). o.answer) (push_room s tags (tag_cells p.from p.to i j) t (free_here (omega arith) free)))

-- A number's row and a tag's leave every other count, and how many there are.
module _ (s : State) where
  pub number_others : (n : Option ℕ) (j : ℕ) → (j ≡ token_numbers → ⊥) → count (with_number n s) j ≡ count s j
  number_others None j d = refl
  number_others (Some v) j d = count_other s token_numbers (count s token_numbers + 1) j d

  pub tag_others : (g : Option (ℕ × ℕ)) (j : ℕ) → (j ≡ tags → ⊥) → count (with_tag g s) j ≡ count s j
  tag_others None j d = refl
  tag_others (Some (a, b)) j d = count_other s tags (count s tags + 1) j d

  pub number_three : (n : Option ℕ) → length (with_number n s).posix.n ≡ length s.posix.n
  number_three None = refl
  number_three (Some v) = with_three s token_numbers (count s token_numbers + 1)

  pub tag_three : (g : Option (ℕ × ℕ)) → length (with_tag g s).posix.n ≡ length s.posix.n
  tag_three None = refl
  tag_three (Some (a, b)) = with_three s tags (count s tags + 1)

-- the rows of words behind the first one's
pub tag_rows_on : (g : Option (ℕ × ℕ)) (p : Place) (ps : List Place) → tag_rows g (p ∷ ps) ≡ tag_rows g (p ∷ []) ++ tag_rows g ps
tag_rows_on None p ps = refl
tag_rows_on (Some (i, j)) p ps = refl

pub number_rows_none : number_rows [] ≡ []
unfolding number_rows
number_rows_none = refl

pub number_rows_on : (w : ListWord) (ws : List ListWord) → number_rows (w ∷ ws) ≡ number_of w.place w.number ++ number_rows ws
unfolding number_rows
number_rows_on w ws = refl

pub tag_rows_none : (g : Option (ℕ × ℕ)) → tag_rows g [] ≡ []
tag_rows_none None = refl
tag_rows_none (Some (i, j)) = refl

-- Spacing leaves the counts of the three tables, and in kinds 1 to 3 so does all that stands behind a word.
pub pass_posix : (src : List ℕ) (line : Bool) (j : ℕ) (a : Answer) (s : State) → (pass_on src line j a s).state.posix ≡ s.posix
unfolding past_gap
pass_posix src line j Going s = go (gap_at s.kind true src j)
  where
    go : (g : Result (ℕ × ℕ) Refusal) → (past line g s).state.posix ≡ s.posix
    go (Ok (i, n)) = refl
    go (Err f) = refl
pass_posix src line j Done s = refl
pass_posix src line j (Refused f) s = refl

module _ (src : List ℕ) (line : Bool) (from to end : ℕ) (t : List ℕ) where
  pub behind_none : (a : Answer) (s : State) → (s.kind ≡ 4 → ⊥) → ((behind_word src line from to end a s t).a ≡ t) × ((behind_word src line from to end a s t).state.posix ≡ s.posix)
  unfolding behind_word
  behind_none a s d =
      let o = pass_on src line end a s in
      let x = go o (λ e. d (sym (pass_kind s src line end a) ∙ e)) o.answer in
      (x.0, x.1 ∙ pass_posix src line end a s)
    where
      go : (o : Out0) → (o.state.kind ≡ 4 → ⊥) → (b : Answer) → ((number_after o src line from to b t).a ≡ t) × ((number_after o src line from to b t).state.posix ≡ o.state.posix)
      go o e Going = let z = sym (number_other src line from to o.state t e) in (ap (λ (q : Out1). q.a) z, ap (λ (q : Out1). q.state.posix) z)
      go o e Done = (refl, refl)
      go o e (Refused f) = (refl, refl)

-- Without a tag there is no row.
pub tag_absent : (a : Answer) (s : State) (from to : ℕ) (t : List ℕ) → tag_row a s None from to t ≡ record { answer = a; state = s; a = t }
unfolding tag_row
tag_absent Going s from to t = refl
tag_absent Done s from to t = refl
tag_absent (Refused f) s from to t = refl
