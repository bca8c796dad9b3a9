-- The words of a list one by one: where an item goes on, a word stands there, and what it did; and a list by its words, for no list ends for want of turns. Assumes
-- nothing.
use Rattle.std.specs.Prelude.{Option, Some, None, Result, Ok, Err}
use Prim.Native.Nat.{ℕ, zero, suc, ◌+◌, ◌-◌, ◌≤◌, ◌<◌}
use mathlib.Core.Path.{◌≡◌, refl, sym, ◌∙◌, ap, subst}
use mathlib.Core.List.{List, [], ◌∷◌}
use mathlib.Core.Bool.{Bool, true, false, ◌||◌, false≢true}
use native.Mathlib.Omega.{arith}
use lib.Dec.{leb, eqb}
use lib.ListN.{length, get_or}
use borrow.Author.Tests.{leb-false}
use Rattle.scan.proofs.Tuples.{ok_3}
use Rattle.scan.specs.Loop.{more, stop, turns}
use Rattle.scan.specs.declared.Place.{Place}
use Rattle.scan.specs.declared.Class.TheVariants.{NameByte, TokenStart, TokenByte, Unquoted}
use Rattle.scan.specs.Scan.{in_class, is_at, run_end_at}
use Rattle.scan.proofs.Bytes.{on_test}
use Rattle.scan.proofs.Loop.{Either, turns_keep}
use Rattle.scan.proofs.Runs.{run_is}
use Rattle.words.specs.Words.{word_at, name_at, is_quote, closed, quoted_at, bare, token_at, Tokened}
use Rattle.words.proofs.Words.{token_placed}
use Rattle.words.proofs.Meaning.{name_iff, bare_iff}
use Rattle.tables.specs.Table.{enter_token, flag}
use Rattle.tables.specs.Layout.{tokens, unused, tags, token_numbers, width}
use Rattle.grammar.specs.declared.PosixCounts.{PosixCounts}
use Rattle.grammar.specs.declared.State.{State}
use Rattle.grammar.specs.declared.Answer.{Answer}
use Rattle.grammar.specs.declared.Answer.TheVariants.{Going, Done, Refused}
use Rattle.grammar.specs.declared.Refusal.{Refusal}
use Rattle.grammar.specs.Cells.{kind_cells, token_cells}
use Rattle.grammar.specs.State.{Out1, Out3, count, with_at, gap_at, Gapped, push_row, entered, enter_step, onward, behind1}
use Rattle.grammar.proofs.Counting.{same_low}
use Rattle.grammar.proofs.Kept.{gapped, onward_keep}
use Rattle.grammar.proofs.SameKind.{push_kind, enter_kind}
use Rattle.grammar.proofs.Touch.{refused_going, done_going, push_apart, pass_going, pass_to}
use Rattle.marks.specs.Marks.{Leading, tag_row, tag_given, behind_word}
use Rattle.marks.specs.Appended.{Appended}
use Rattle.marks.specs.Worded.{ListWord, Worded, tag_rows, number_of}
use Rattle.marks.proofs.Appended.{appended_as, push_appends}
use Rattle.marks.proofs.Laws.{tag_counts, behind_counts, tag_kind, behind_kind}
use Rattle.marks.proofs.Worded.{led, lead_goes, behind_word_lem, behind_went, worded_inside, tag_went, tag_added, number_others, tag_others, number_three, tag_three}
use Rattle.lists.specs.declared.WordList.{WordList}
use Rattle.lists.specs.declared.WordList.TheVariants.{TokenList, UnusedList, TypeList}
use Rattle.lists.specs.Lists.{token_found, token_item, spelled_token, spelled_name, spelled_at, unused_row, unused_spelled, unused_item, type_row, type_spelled, type_item, list_item, ends, after_item, list_turn, percent_list, lead_list, list_led, list_body, list_from, list_decl}
use Rattle.lists.specs.Written.{TokenWord, UnusedWord, TypeWord, Spells, rule, quote, Leads, Listed}
use Rattle.lists.proofs.Far.{spells}
use Rattle.lists.proofs.Marks.{Marks, Entry, marks_still, enter_marks, enter_entry}

-- a word at i behind which the list goes on, to the state u, and what came of it
pub record Went (kind : ℕ) {A : Type 0} (Word : ℕ → ℕ → A → Type 0) (P : A → Type 0) (src : List ℕ) (i : ℕ) (u : State) : Type 0 where
  pub end : ℕ
  pub to : ℕ
  pub lines : ℕ
  pub what : A
  pub word : Word i end what
  pub gap : gap_at kind true src end ≡ Ok (to, lines)
  pub at : u.at ≡ to
  pub same : u.kind ≡ kind
  pub further : i < to
  pub came : P what

-- spacing behind a word that ends in the source leads on
gap_on : (kind : ℕ) (src : List ℕ) (end to n : ℕ) → end ≤ length src → gap_at kind true src end ≡ Ok (to, n) → end ≤ to
gap_on kind src end to n l g =
    let z : Gapped src end (Ok (to, n)) = rw g at (gapped kind true src end l) in
    let k = z.0 in
    omega arith

-- a row and the spacing behind its word
went : (kind : ℕ) {A : Type 0} (Word : ℕ → ℕ → A → Type 0) (P : A → Type 0) (src : List ℕ) (i end : ℕ) (x : A) (o : Out1) → o.state.kind ≡ kind → Word i end x → i < end → end ≤ length src
    → (o.answer ≡ Going → (to : ℕ) → (behind1 src false end o).state ≡ with_at o.state to → P x)
    → (behind1 src false end o).answer ≡ Going → Went kind Word P src i (behind1 src false end o).state
went kind Word P src i end x o e w h l f g =
    let y = pass_going src false end o.answer o.state g in
    let k = gap_on o.state.kind src end y.to y.lines l y.gap in
    let z = pass_to src end o.answer o.state y.to y.lines y.gap y.went in
    record {
      end = end;
      to = y.to;
      lines = y.lines;
      what = x;
      word = w;
      gap = ap (λ (k : ℕ). gap_at k true src end) (sym e) ∙ y.gap;
      at = y.at;
      same = ap (λ o. o.state.kind) z ∙ e;
      further = omega arith;
      came = f y.went y.to (ap (λ o. o.state) z);
    }

-- a token enters table 1 alone
pub enter_posix : (src : List ℕ) (s : State) (a b : ℕ) (d : Bool) (t : List ℕ) → (enter_step src s a b d t).state.posix ≡ s.posix
unfolding enter_step
enter_posix src s a b d t = go (enter_token src (count s tokens) a b d t).entered
  where
    go : (e : Option ℕ) → (entered e s (token_cells a b (flag d)) (enter_token src (count s tokens) a b d t).cells).state.posix ≡ s.posix
    go (Some m) = refl
    go None = refl

-- a token of a list, and what became of the tables
module _ (src : List ℕ) (s : State) (tag : Option (ℕ × ℕ)) (t t15 t16 : List ℕ) where
  pub token_marks : length s.counts.n ≡ 10 → Marks s.counts t (token_item src s tag t t15 t16).state.counts (token_item src s tag t t15 t16).a
  unfolding token_item
  token_marks ten = go (token_at src s.at)
    where
      go : (w : Result (Place × ℕ × Bool) ℕ) → Marks s.counts t (token_found w src s tag t t15 t16).state.counts (token_found w src s tag t t15 t16).a
      go (Ok (p, end, q)) =
          let o = enter_step src s p.from p.to true t in
          let r = tag_row o.answer o.state tag p.from p.to t15 in
          rw (behind_counts src false p.from p.to end r.answer r.state t16, tag_counts o.answer o.state tag p.from p.to t15) (enter_marks src s p t ten)
      go (Err k) = marks_still s.counts t

  -- what became of table 1, and one row more in table 15 if there is a tag, in table 16 if there is a number
  pub record Came (o : Out3) (w : ListWord) : Type 0 where
    pub three : length o.state.posix.n ≡ length s.posix.n
    pub entry : length s.counts.n ≡ 10 → Entry src s.counts t o.state.counts o.a w.place
    pub tags : length s.posix.n ≡ 3 → Appended (width tags) (count s tags) t15 (tag_rows tag (w.place ∷ [])) (count o.state tags) o.b
    pub numbers : length s.posix.n ≡ 3 → Appended (width token_numbers) (count s token_numbers) t16 (number_of w.place w.number) (count o.state token_numbers) o.c

  abbrev pub TokenWent : Out3 → Type 0
  TokenWent o = o.answer ≡ Going → Went s.kind (TokenWord s.kind src) (Came o) src s.at o.state

  pub token_went : TokenWent (token_item src s tag t t15 t16)
  unfolding token_item
  token_went = go (token_at src s.at) refl (token_placed src s.at (token_at src s.at) refl).1
    where
      go : (w : Result (Place × ℕ × Bool) ℕ) → token_at src s.at ≡ w → Tokened src s.at w → TokenWent (token_found w src s tag t t15 t16)
      go (Ok (p, end, q)) e x = λ g.
          let a = x.0 in
          let b = x.1 in
          let c = x.2 in
          let d = x.3 in
          let o = enter_step src s p.from p.to true t in
          let r = tag_row o.answer o.state tag p.from p.to t15 in
          let z = behind_word src false p.from p.to end r.answer r.state t16 in
          let y = behind_word_lem src false s.at p end q e r.answer r.state t16 g in
          let g2 = behind_went src false p.from p.to end r.state t16 r.answer g in
          let g1 = tag_went p o.state t15 o.answer tag g2 in
          let v = tag_added p o.state t15 o.answer tag g2 in
          let same : r.state.kind ≡ s.kind = tag_kind o.answer o.state tag p.from p.to t15 ∙ enter_kind s src p.from p.to true t in
          let i = worded_inside y.word in
          let j = gap_on r.state.kind src y.end y.to y.lines i.1 y.gap in
          let h = i.0 in
          let counts : z.state.counts ≡ o.state.counts = behind_counts src false p.from p.to end r.answer r.state t16 ∙ tag_counts o.answer o.state tag p.from p.to t15 in
          let posix = enter_posix src s p.from p.to true t in
          let long : length r.state.posix.n ≡ length s.posix.n = ap (λ (u : State). length u.posix.n) v.state ∙ tag_three o.state tag ∙ ap (λ (c : PosixCounts). length c.n) posix in
          record {
            end = y.end;
            to = y.to;
            lines = y.lines;
            what = record { place = p; number = y.number };
            word = subst (λ (k : ℕ). Worded k false src s.at y.end (record { place = p; number = y.number })) same y.word;
            gap = ap (λ (k : ℕ). gap_at k true src y.end) (sym same) ∙ y.gap;
            at = ap (λ (u : State). u.at) y.state;
            same = behind_kind src false p.from p.to end r.answer r.state t16 ∙ same;
            further = omega arith;
            came = record {
              three = ap (λ (u : State). length u.posix.n) y.state ∙ number_three r.state y.number ∙ long;
              entry = λ ten. rw counts (enter_entry src s p t ten (omega arith) (omega arith) g1);
              tags = λ three. appended_as (ap (λ (c : PosixCounts). get_or c.n 0 0) posix) (sym (ap (λ (u : State). count u tags) y.state ∙ number_others r.state y.number tags (λ e. omega arith))) (v.rows (ap (λ (c : PosixCounts). length c.n) posix ∙ three));
              numbers = λ three. appended_as (ap (λ (u : State). count u token_numbers) v.state ∙ tag_others o.state tag token_numbers (λ e. omega arith) ∙ ap (λ (c : PosixCounts). get_or c.n 1 0) posix) refl (y.rows (long ∙ three));
            };
          }
      go (Err k) e x = λ g. absurd (refused_going _ g)

-- what reads as a word does not fail to
pub name_none : (e k : ℕ) → ◌≡◌ {A = Result ℕ ℕ} (Ok e) (Err k) → ⊥
name_none e k h = let z : ◌≡◌ {A = ℕ} 0 1 = cc in omega arith

token_none : (k end : ℕ) (p : Place) (q : Bool) → ◌≡◌ {A = Result (Place × ℕ × Bool) ℕ} (Err k) (Ok (p, end, q)) → ⊥
token_none k end p q h = let z : ◌≡◌ {A = ℕ} 0 1 = cc in omega arith

-- where no name stands, a token is quoted: a bare one would be a name
quoted_else : (src : List ℕ) (i k end : ℕ) (p : Place) (q : Bool) → name_at src i ≡ Err k → token_at src i ≡ Ok (p, end, q) → q ≡ true
unfolding token_at quoted_at closed bare in_class
quoted_else src i k end p q none e =
    on_test Is (leb (length src) i) _ _ (λ f r. absurd (token_none _ _ _ _ r))
    (λ f. on_test Is (is_quote c) _ _
    (λ t. on_test Is (leb (length src) (i + 1)) _ _ (λ g r. absurd (token_none _ _ _ _ r))
    (λ g. on_test Is (eqb (get_or src (i + 1) 0) 10) _ _ (λ h r. absurd (token_none _ _ _ _ r))
    (λ h. on_test Is (is_at c src (run_end_at (in_class (Unquoted c)) src (i + 1 + 1))) _ _ (λ o r. sym (ok_3 r).2) (λ o r. absurd (token_none _ _ _ _ r)))))
    (λ t. bare_one (word_at TokenStart TokenByte src i))) e
  where
    c : ℕ
    c = get_or src i 0

    Is : Result (Place × ℕ × Bool) ℕ → Type 0
    Is r = r ≡ Ok (p, end, q) → q ≡ true

    bare_one : (w : Option ℕ) → Is (bare i w)
    bare_one (Some j) r =
        let x = (bare_iff src i j).0 (e ∙ sym r) in
        let l = x.inside in
        let b = ap (λ (b : Bool). b || eqb c 46) x.begins in
        let named = (name_iff src i _).1 (record { inside = l; begins = b; goes_on = run_is (in_class NameByte) src (i + 1) (omega arith) }) in
        absurd (name_none _ k (sym named ∙ none))
    bare_one None r = absurd (token_none _ _ _ _ r)

-- a word of an `%expect-unused` or a `%type` list
abbrev Spelt : List ℕ → ℕ → Result (ℕ × ℕ × ℕ × ℕ) ℕ → Type 0
Spelt src i (Ok (kind, from, to, end)) = UnusedWord src i end (kind_cells kind from to)
Spelt src i (Err k) = Unit {0}

spelt : (src : List ℕ) (i : ℕ) → Spelt src i (spelled_at src i)
unfolding spelled_at
spelt src i = name (name_at src i) refl
  where
    quoted : (k : ℕ) → name_at src i ≡ Err k → (w : Result (Place × ℕ × Bool) ℕ) → token_at src i ≡ w → Spelt src i (spelled_token w)
    quoted k f (Ok (p, end, q)) e = quote f (rw (quoted_else src i k end p q f e) at e)
    quoted k f (Err j) e = tt

    name : (w : Result ℕ ℕ) → name_at src i ≡ w → Spelt src i (spelled_name w src i)
    name (Ok j) e = rule e
    name (Err k) e = quoted k e (token_at src i) refl

-- a word expected unused, and its row
module _ (src : List ℕ) (s : State) (t : List ℕ) where
  -- the rows before, and one more
  pub record Rowed (o : Out1) (row : List ℕ) : Type 0 where
    pub ten : length s.counts.n ≡ 10 → length o.state.counts.n ≡ 10
    pub rows : length s.counts.n ≡ 10 → Appended (width unused) (count s unused) t (row ∷ []) (count o.state unused) o.a

  abbrev pub UnusedWent : Out1 → Type 0
  UnusedWent o = o.answer ≡ Going → Went s.kind (UnusedWord src) (Rowed o) src s.at o.state

  pub unused_went : UnusedWent (unused_item src s t)
  unfolding unused_item unused_row
  unused_went = go (spelled_at src s.at) (spells src s.at) (spelt src s.at)
    where
      go : (x : Result (ℕ × ℕ × ℕ × ℕ) ℕ) → Spells src s.at x → Spelt src s.at x → UnusedWent (unused_spelled x src s t)
      go (Ok (kind, from, to, end)) x w =
          let row = kind_cells kind from to in
          let o = push_row s unused row t in
          went s.kind (UnusedWord src) _ src s.at end row o (push_kind s unused row t) w x.5 x.6
          (λ g j e. record {
            ten = λ ten. ap (λ (u : State). length u.counts.n) e ∙ (push_apart s unused row t).ten ∙ ten;
            rows = λ ten. appended_as refl (sym (ap (λ (u : State). count u unused) e)) (push_appends s unused row t (same_low s unused (count s unused + 1) (omega arith) (rw ten (omega arith))) g);
          })
      go (Err k) x w = λ g. absurd (refused_going _ g)

-- a word of a `%type` list, and its row
module _ (src : List ℕ) (s : State) (tag : Option (ℕ × ℕ)) (t : List ℕ) where
  pub record Typed (o : Out1) (p : Place) : Type 0 where
    pub three : length o.state.posix.n ≡ length s.posix.n
    pub rows : length s.posix.n ≡ 3 → Appended (width tags) (count s tags) t (tag_rows tag (p ∷ [])) (count o.state tags) o.a

  abbrev pub TypeWent : Out1 → Type 0
  TypeWent o = o.answer ≡ Going → Went s.kind (TypeWord src) (Typed o) src s.at o.state

  pub type_went : TypeWent (type_item src s tag t)
  unfolding type_item type_row tag_row
  type_went = go (spelled_at src s.at) (spells src s.at) (spelt src s.at)
    where
      go : (x : Result (ℕ × ℕ × ℕ × ℕ) ℕ) → Spells src s.at x → Spelt src s.at x → TypeWent (type_spelled x src s tag t)
      go (Ok (kind, from, to, end)) x w =
          let p : Place = record { from = from; to = to } in
          let o = tag_given tag s from to t in
          went s.kind (TypeWord src) _ src s.at end p o (tag_kind Going s tag from to t) (kind, w) x.5 x.6
          (λ g j e. let v = tag_added p s t Going tag g in record {
            three = ap (λ (u : State). length u.posix.n) (e ∙ ap (λ (u : State). with_at u j) v.state) ∙ tag_three s tag;
            rows = λ three. appended_as refl (sym (ap (λ (u : State). count u tags) e)) (v.rows three);
          })
      go (Err k) x w = λ g. absurd (refused_going _ g)

-- where a list goes on
module _ (src : List ℕ) where
  not_over : (i : ℕ) → ends src i ≡ false → i < length src
  unfolding ends
  not_over i = go (leb (length src) i) refl
    where
      go : (b : Bool) → leb (length src) i ≡ b → elim b [ true ↦ true | false ↦ eqb (get_or src i 0) 37 ] ≡ false → i < length src
      go true e f = absurd (false≢true (sym f))
      go false e f = leb-false _ _ e

  -- an item that goes on comes to stand further on
  item_on : (what : WordList) (s : State) (tag : Option (ℕ × ℕ)) (t t15 t16 : List ℕ) → (list_item src s what tag t t15 t16).answer ≡ Going → s.at < (list_item src s what tag t t15 t16).state.at
  item_on TokenList s tag t t15 t16 g = let w = token_went src s tag t t15 t16 g in rw w.at w.further
  item_on UnusedList s tag t t15 t16 g = let w = unused_went src s t g in rw w.at w.further
  item_on TypeList s tag t t15 t16 g = let w = type_went src s tag t15 g in rw w.at w.further

-- What holds of a list that is over, of one that halts, and of one with a word more where it holds behind the word, holds of a list: no list ends for want of turns.
module _ (src : List ℕ) (what : WordList) (tag : Option (ℕ × ℕ)) (C : Out3 → Out3 → Type 0) where
  abbrev pub step : Out3 → Out3
  step o = list_item src o.state what tag o.a o.b o.c

  abbrev pub Rest : ℕ → Type 0
  Rest n = (o : Out3) → length src - o.state.at < n → C o (turns n (list_turn src what tag) o)

  pub runs : ((o : Out3) → ends src o.state.at ≡ true → C o o)
      → ((o : Out3) → ends src o.state.at ≡ false → ((step o).answer ≡ Going → ⊥) → C o (step o))
      → ((o z : Out3) → ends src o.state.at ≡ false → (step o).answer ≡ Going → C (step o) z → C o z)
      → (n : ℕ) → Rest n
  unfolding turns list_turn
  runs base halt next zero o h = absurd (omega arith)
  runs base halt next (suc n) o h = go (ends src o.state.at) refl (runs base halt next n)
    where
      on : (x : Answer) → (step o).answer ≡ x → ends src o.state.at ≡ false → Rest n → C o (elim (onward x (step o)) [ more y ↦ turns n (list_turn src what tag) y | stop y ↦ y ])
      on Going e f rest =
          let a = not_over src o.state.at f in
          let b = item_on src what o.state tag o.a o.b o.c e in
          next o _ f e (rest (step o) (omega arith))
      on Done e f rest = halt o f (λ g. done_going (sym e ∙ g))
      on (Refused r) e f rest = halt o f (λ g. refused_going r (sym e ∙ g))

      go : (b : Bool) → ends src o.state.at ≡ b → Rest n → C o (elim (after_item b o (step o)) [ more y ↦ turns n (list_turn src what tag) y | stop y ↦ y ])
      go true e rest = base o e
      go false e rest = on (step o).answer refl e rest

-- where the tag of a list leads
record LeadsTo (src : List ℕ) (s : State) (what : WordList) (i : ℕ) (l : Leading) : Type 0 where
  before : l.answer ≡ Going → Leads what s.kind src i l.state.at l.tag
  state : l.state ≡ with_at s l.state.at

-- A list behind its keyword: nothing but the position has changed where it is over before its words; else they stand behind the spacing and the tag.
module _ (src : List ℕ) (s : State) (what : WordList) (t t15 t16 : List ℕ) where
  pub decl_cases : (C : Out3 → Type 0) → ((a : Answer) (j : ℕ) → (a ≡ Going → ⊥) → C (record { answer = a; state = with_at s j; a = t; b = t15; c = t16 }))
      → ((i n j : ℕ) (g : Option (ℕ × ℕ)) → gap_at s.kind false src s.at ≡ Ok (i, n) → Leads what s.kind src i j g → C (percent_list src (with_at s j) what g t t15 t16))
      → C (list_decl src s what t t15 t16)
  unfolding list_decl list_body
  decl_cases C none words = gap (gap_at s.kind false src s.at) refl
    where
      leads : (w : WordList) (i : ℕ) (l : Leading) → l ≡ lead_list w src (with_at s i) → LeadsTo src s w i l
      leads TokenList i l e = let x = led src (with_at s i) false false in rw e (record { before = x.before; state = x.state })
      leads UnusedList i l e = rw e (record { before = λ g. (refl, refl); state = refl })
      leads TypeList i l e = let x = led src (with_at s i) true false in rw e (record { before = x.before; state = x.state })

      body : (i n : ℕ) (l : Leading) → gap_at s.kind false src s.at ≡ Ok (i, n) → LeadsTo src s what i l → (a : Answer) → l.answer ≡ a → C (list_led a l src what t t15 t16)
      body i n l e x Going g = subst (λ (u : State). C (percent_list src u what l.tag t t15 t16)) (sym x.state) (words i n l.state.at l.tag e (x.before g))
      body i n l e x Done g = subst (λ (u : State). C (record { answer = Done; state = u; a = t; b = t15; c = t16 })) (sym x.state) (none Done l.state.at done_going)
      body i n l e x (Refused f) g = subst (λ (u : State). C (record { answer = Refused f; state = u; a = t; b = t15; c = t16 })) (sym x.state) (none (Refused f) l.state.at (refused_going f))

      gap : (g : Result (ℕ × ℕ) Refusal) → gap_at s.kind false src s.at ≡ g → C (list_from g src s what t t15 t16)
      gap (Ok (i, n)) e = let l = lead_list what src (with_at s i) in body i n l e (leads what i l refl) l.answer refl
      gap (Err f) e = none (Refused f) s.at (refused_going f)

  -- where spacing and tag stand, its words are read
  lead_is : (w : WordList) (i j : ℕ) (g : Option (ℕ × ℕ)) → Leads w s.kind src i j g → lead_list w src (with_at s i) ≡ record { answer = Going; state = with_at s j; tag = g }
  lead_is TokenList i j g l = lead_goes src (with_at s i) false false l
  lead_is UnusedList i j g l = rw (l.0, l.1)
  lead_is TypeList i j g l = lead_goes src (with_at s i) true false l

  pub listed_decl : {A : Type 0} {Word : ℕ → ℕ → A → Type 0} {j : ℕ} {g : Option (ℕ × ℕ)} {xs : List A} (l : Listed what s.kind Word src s.at j g xs) → list_decl src s what t t15 t16 ≡ percent_list src (with_at s l.head) what g t t15 t16
  unfolding list_decl list_body
  listed_decl {g = g} l = ap (λ (x : Result (ℕ × ℕ) Refusal). list_from x src s what t t15 t16) l.gap ∙ ap (λ (x : Leading). list_led x.answer x src what t t15 t16) (lead_is what l.from l.head g l.lead)

  -- What holds in front of the words and is kept by each holds of the list, whatever its answer; P is what is known of the tag.
  pub list_keeps : (C : Out3 → Type 0) (P : Option (ℕ × ℕ) → Type 0) → ((a : Answer) (j : ℕ) → C (record { answer = a; state = with_at s j; a = t; b = t15; c = t16 }))
      → ((i j : ℕ) (g : Option (ℕ × ℕ)) → Leads what s.kind src i j g → P g)
      → ((g : Option (ℕ × ℕ)) → P g → (o : Out3) → C o → C (list_item src o.state what g o.a o.b o.c))
      → C (list_decl src s what t t15 t16)
  unfolding list_turn percent_list
  list_keeps C P here tag item = decl_cases C (λ a j d. here a j) (λ i n j g e l. kept j g (tag i j g l))
    where
      turn : (g : Option (ℕ × ℕ)) → P g → (o : Out3) → C o → Either C C (list_turn src what g o)
      turn g p o c = go (ends src o.state.at)
        where
          go : (b : Bool) → Either C C (after_item b o (list_item src o.state what g o.a o.b o.c))
          go true = c
          go false = onward_keep C (list_item src o.state what g o.a o.b o.c).answer (list_item src o.state what g o.a o.b o.c) (item g p o c)

      kept : (j : ℕ) (g : Option (ℕ × ℕ)) → P g → C (percent_list src (with_at s j) what g t t15 t16)
      kept j g p = turns_keep C (list_turn src what g) (turn g p) (suc (length src)) _ (here Going j)
