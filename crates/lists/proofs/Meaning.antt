-- What `%token`, `%expect-unused` and `%type` lists do, by the words that stand in them. Assumes nothing.
use Rattle.std.specs.Prelude.{Option, Ok, Result, Bool}
use Prim.Native.Nat.{ℕ, suc, ◌*◌, ◌-◌, ◌≤◌, ◌<◌}
use mathlib.Core.Path.{◌≡◌, refl, sym, ◌∙◌, ap, ap₂}
use mathlib.Core.List.{List, [], ◌∷◌, Memᴰ}
use mathlib.Core.Bool.{true, false, false≢true}
use mathlib.Core.Logic.{◌⊎◌}
use native.Mathlib.Omega.{arith}
use lib.ListN.{length, get_or}
use Rattle.scan.proofs.Tuples.{ok_2, ok_3}
use Rattle.grammar.specs.declared.Refusal.{Refusal}
use Rattle.scan.specs.Loop.{turns}
use Rattle.scan.specs.declared.Place.{Place}
use Rattle.tables.specs.Layout.{tokens, declared, unused, tags, token_numbers, width}
use Rattle.tables.specs.Table.{cell}
use Rattle.grammar.specs.declared.State.{State}
use Rattle.grammar.specs.declared.Answer.TheVariants.{Going}
use Rattle.grammar.specs.Cells.{kind_cells}
use Rattle.grammar.specs.State.{Out3, count, with_at}
use Rattle.marks.specs.Appended.{Appended}
use Rattle.marks.specs.Worded.{ListWord, word_places, tag_rows, number_rows}
use Rattle.marks.proofs.Appended.{appended_none, appended_then}
use Rattle.marks.proofs.Worded.{worded_one, tag_before_one, tag_rows_none, tag_rows_on, number_rows_none, number_rows_on}
use Rattle.lists.specs.declared.WordList.{WordList}
use Rattle.lists.specs.declared.WordList.TheVariants.{TokenList, UnusedList, TypeList}
use Rattle.lists.specs.Lists.{token_item, unused_item, type_item, first3, second3, ends, list_turn, percent_list, list_decl}
use Rattle.lists.specs.Written.{Written, Leads, Listed, TokenWord, UnusedWord, TypeWord, TokensListed, UnusedListed, TypesListed, Declared, Kept, Placed, Named, over, word, rule, quote}
use Rattle.lists.proofs.Marks.{Marks, Effect, marks_still, marks_on, effect_still, effect_on, stays}
use Rattle.lists.proofs.Items.{token_marks, token_went, name_none, unused_went, type_went, runs, decl_cases}

-- a list of tokens from o to z: the table, and where it goes on, its words and what they did
record Said (src : List ℕ) (tag : Option (ℕ × ℕ)) (o z : Out3) : Type 0 where
  words : List ListWord
  written : Written o.state.kind (TokenWord o.state.kind src) src o.state.at z.state.at words
  effect : Effect src o.state.counts o.a z.state.counts z.a (word_places words)
  tags : length o.state.posix.n ≡ 3 → Appended (width tags) (count o.state tags) o.b (tag_rows tag (word_places words)) (count z.state tags) z.b
  numbers : length o.state.posix.n ≡ 3 → Appended (width token_numbers) (count o.state token_numbers) o.c (number_rows words) (count z.state token_numbers) z.c

record Taken (src : List ℕ) (tag : Option (ℕ × ℕ)) (o z : Out3) : Type 0 where
  marks : Marks o.state.counts o.a z.state.counts z.a
  said : z.answer ≡ Going → Said src tag o z

module _ (src : List ℕ) (tag : Option (ℕ × ℕ)) where
  abbrev Tokens : Out3 → Out3 → Type 0
  Tokens o z = length o.state.counts.n ≡ 10 → Taken src tag o z

  tokens_run : (n : ℕ) (o : Out3) → length src - o.state.at < n → Tokens o (turns n (list_turn src TokenList tag) o)
  tokens_run =
      runs src TokenList tag Tokens
      (λ o e ten. record {
        marks = marks_still o.state.counts o.a;
        said = λ g. record {
          words = [];
          written = over e;
          effect = effect_still src o.state.counts o.a;
          tags = λ three. rw (tag_rows_none tag) appended_none;
          numbers = λ three. rw number_rows_none appended_none;
        };
      })
      (λ o e d ten. record { marks = token_marks src o.state tag o.a o.b o.c ten; said = λ g. absurd (d g) })
      next
    where
      next : (o z : Out3) → ends src o.state.at ≡ false → (token_item src o.state tag o.a o.b o.c).answer ≡ Going → Tokens (token_item src o.state tag o.a o.b o.c) z → Tokens o z
      next o z f g rest ten =
          let i = token_item src o.state tag o.a o.b o.c in
          let m = token_marks src o.state tag o.a o.b o.c ten in
          let y = rest (m.ten ∙ ten) in
          let w = token_went src o.state tag o.a o.b o.c g in
          let c = w.came in
          record {
            marks = marks_on o.state.counts i.state.counts z.state.counts o.a i.a z.a m y.marks;
            said = λ h. let x = y.said h in record {
              words = w.what ∷ x.words;
              written = word f w.word w.gap (rw (w.at, w.same) at x.written);
              effect = effect_on src o.state.counts i.state.counts z.state.counts o.a i.a z.a w.what.place (word_places x.words) m (c.entry ten) y.marks x.effect;
              tags = λ three. rw (tag_rows_on tag w.what.place (word_places x.words)) (appended_then (c.tags three) (x.tags (c.three ∙ three)));
              numbers = λ three. rw (number_rows_on w.what x.words) (appended_then (c.numbers three) (x.numbers (c.three ∙ three)));
            };
          }

leads_one : (what : WordList) (kind : ℕ) (src : List ℕ) (i j k : ℕ) (g h : Option (ℕ × ℕ)) → Leads what kind src i j g → Leads what kind src i k h → (j ≡ k) × (g ≡ h)
leads_one TokenList kind src i j k g h x y = tag_before_one x y
leads_one UnusedList kind src i j k g h x y = (x.0 ∙ sym y.0, x.1 ∙ sym y.1)
leads_one TypeList kind src i j k g h x y = tag_before_one x y

-- The words of a list are one list: where a word at a place is one word, so are the words from a place on,
module _ {kind : ℕ} {A : Type 0} {Word : ℕ → ℕ → A → Type 0} {src : List ℕ} (one : (i e f : ℕ) (x y : A) → Word i e x → Word i f y → (e ≡ f) × (x ≡ y)) where
  pub written_one : {i j k : ℕ} {xs ys : List A} → Written kind Word src i j xs → Written kind Word src i k ys → (j ≡ k) × (xs ≡ ys)
  written_one (over e) (over f) = (refl, refl)
  written_one (over e) (word f w g r) = absurd (false≢true (sym f ∙ e))
  written_one (word e v g q) (over f) = absurd (false≢true (sym e ∙ f))
  written_one (word {k = k} {n = n} e v g q) (word {k = l} {n = m} f w h r) =
      let u = one _ _ _ _ _ v w in
      let o : ◌≡◌ {A = Result (ℕ × ℕ) Refusal} (Ok (k, n)) (Ok (l, m)) = sym g ∙ rw u.0 h in
      let o_parts = ok_2 o in
      let a : k ≡ l = cc in
      let z = written_one q (rw (← a) at r) in
      (z.0, ap₂ ◌∷◌ u.1 z.1)

  pub listed_one : {what : WordList} {at j k : ℕ} {g h : Option (ℕ × ℕ)} {xs ys : List A} → Listed what kind Word src at j g xs → Listed what kind Word src at k h ys → (j ≡ k) × (g ≡ h) × (xs ≡ ys)
  listed_one {what} {g = g} {h = h} p q =
      let o : ◌≡◌ {A = Result (ℕ × ℕ) Refusal} (Ok (p.from, p.lines)) (Ok (q.from, q.lines)) = sym p.gap ∙ q.gap in
      let o_parts = ok_2 o in
      let a : p.from ≡ q.from = cc in
      let l = leads_one what kind src p.from p.head q.head g h p.lead (rw (← a) at q.lead) in
      let w = written_one p.words (rw (← l.0) at q.words) in
      (w.0, l.1, w.1)

-- and a token at a place is one token, a word expected unused is one, and so is one of a `%type` list.
pub token_one : (kind : ℕ) (src : List ℕ) (i e f : ℕ) (x y : ListWord) → TokenWord kind src i e x → TokenWord kind src i f y → (e ≡ f) × (x ≡ y)
token_one kind src i e f x y p q = worded_one p q

pub unused_one : (src : List ℕ) (i e f : ℕ) (x y : List ℕ) → UnusedWord src i e x → UnusedWord src i f y → (e ≡ f) × (x ≡ y)
unused_one src i e f x y (rule p) (rule q) =
    let o : ◌≡◌ {A = Result ℕ ℕ} (Ok e) (Ok f) = sym p ∙ q in
    let a : e ≡ f = cc in
    (a, ap (kind_cells 1 i) a)
unused_one src i e f x y (rule p) (quote q w) = absurd (name_none e _ (sym p ∙ q))
unused_one src i e f x y (quote p v) (rule q) = absurd (name_none f _ (sym q ∙ p))
unused_one src i e f x y (quote {p = g} p v) (quote {p = h} q w) =
    let o : ◌≡◌ {A = Result (Place × ℕ × Bool) ℕ} (Ok (g, e, true)) (Ok (h, f, true)) = sym v ∙ w in
    let o_parts = ok_3 o in
    let a : g ≡ h = cc in
    (cc, ap (λ (z : Place). kind_cells 2 z.from z.to) a)

pub type_one : (src : List ℕ) (i e f : ℕ) (x y : Place) → TypeWord src i e x → TypeWord src i f y → (e ≡ f) × (x ≡ y)
type_one src i e f x y p q =
    let u = unused_one src i e f _ _ p.1 q.1 in
    (u.0, ap (λ (r : List ℕ). record { from = get_or r 1 0; to = get_or r 2 0 }) u.1)

-- a `%token` list behind its keyword, on any tables
module _ (src : List ℕ) (s : State) (t t15 t16 : List ℕ) (ten : length s.counts.n ≡ 10) where
  abbrev after : Out3
  after = list_decl src s TokenList t t15 t16

  -- its words and what they did, where it goes on; beside them the table, whatever the answer
  record Heard (o : Out3) : Type 0 where
    tag : Option (ℕ × ℕ)
    words : List ListWord
    listed : TokensListed s.kind src s.at o.state.at tag words
    effect : Effect src s.counts t o.state.counts o.a (word_places words)
    tags : length s.posix.n ≡ 3 → Appended (width tags) (count s tags) t15 (tag_rows tag (word_places words)) (count o.state tags) o.b
    numbers : length s.posix.n ≡ 3 → Appended (width token_numbers) (count s token_numbers) t16 (number_rows words) (count o.state token_numbers) o.c

  record Begun (o : Out3) : Type 0 where
    marks : Marks s.counts t o.state.counts o.a
    said : o.answer ≡ Going → Heard o

  begun : Begun after
  unfolding percent_list
  begun =
      decl_cases src s TokenList t t15 t16 Begun
      (λ a j d. record { marks = marks_still s.counts t; said = λ g. absurd (d g) })
      (λ i n j g e l. let y = tokens_run src g (suc (length src)) (record { answer = Going; state = with_at s j; a = t; b = t15; c = t16 }) (omega arith) ten in
      record {
        marks = y.marks;
        said = λ h. let x = y.said h in record {
          tag = g;
          words = x.words;
          listed = record { from = i; lines = n; head = j; gap = e; lead = l; words = x.written };
          effect = x.effect;
          tags = x.tags;
          numbers = x.numbers;
        };
      })

  -- Where it goes on, words stand in it up to where it came, behind a tag or none: it runs to the next `%`.
  pub token_words : after.answer ≡ Going → (tag : Option (ℕ × ℕ)) × (ws : List ListWord) × TokensListed s.kind src s.at after.state.at tag ws
  token_words g = let x = begun.said g in (x.tag, x.words, x.listed)

  -- Every row that it adds is declared, whatever the answer,
  pub token_new : (r : ℕ) → count s tokens ≤ r → r < count after.state tokens → cell (width tokens) after.a r declared ≡ 1
  token_new = begun.marks.new

  -- and every row that stood before is there with its place, declared now or as it was.
  pub token_old : (r : ℕ) → r < count s tokens → (r < count after.state tokens) × Kept t after.a r
  token_old r h = let g = begun.marks.grown in (omega arith, begun.marks.old r h)

  pub token_stays_lem : (r : ℕ) → r < count s tokens → cell (width tokens) t r declared ≡ 1 → cell (width tokens) after.a r declared ≡ 1
  token_stays_lem r h = stays t after.a r (begun.marks.old r h)

  -- Where it goes on: whichever words stand in it, behind whichever tag,
  module _ (g : after.answer ≡ Going) (j : ℕ) (tag : Option (ℕ × ℕ)) (ws : List ListWord) (l : TokensListed s.kind src s.at j tag ws) where
    same : (tag ≡ (begun.said g).tag) × (ws ≡ (begun.said g).words)
    same = let x = listed_one (token_one s.kind src) l (begun.said g).listed in (x.1, x.2)

    effect : Effect src s.counts t after.state.counts after.a (word_places ws)
    effect = rw same.1 (begun.said g).effect

    -- each of them has a declared row, also a token already there; the rows before have to fit into the table,
    pub token_declared : count s tokens * width tokens ≤ length t → (p : Place) → Memᴰ p (word_places ws) → Declared src (count after.state tokens) after.a p
    token_declared = effect.each

    -- each new row has the place of one of them,
    pub token_added : (r : ℕ) → count s tokens ≤ r → r < count after.state tokens → Placed after.a r (word_places ws)
    token_added = effect.added

    -- and a row before is marked only where one of them has its bytes.
    pub token_other : (r : ℕ) → r < count s tokens → (cell (width tokens) after.a r declared ≡ cell (width tokens) t r declared) ⊎ Named src t r (word_places ws)
    token_other = effect.other

    -- Table 15 has exactly one row more for each of them, in order, with the tag, and none without a tag,
    pub tag_rows_lem : length s.posix.n ≡ 3 → Appended (width tags) (count s tags) t15 (tag_rows tag (word_places ws)) (count after.state tags) after.b
    tag_rows_lem three = rw (same.0, same.1) ((begun.said g).tags three)

    -- and table 16 exactly one for each that a number follows, in order, with its value.
    pub number_rows_lem : length s.posix.n ≡ 3 → Appended (width token_numbers) (count s token_numbers) t16 (number_rows ws) (count after.state token_numbers) after.c
    number_rows_lem three = rw same.1 ((begun.said g).numbers three)

-- a list of words expected unused from o to z, where it goes on
record Counted (src : List ℕ) (o z : Out3) : Type 0 where
  rows : List (List ℕ)
  written : Written o.state.kind (UnusedWord src) src o.state.at z.state.at rows
  added : Appended (width unused) (count o.state unused) o.a rows (count z.state unused) z.a

module _ (src : List ℕ) (tag : Option (ℕ × ℕ)) where
  abbrev Unused : Out3 → Out3 → Type 0
  Unused o z = length o.state.counts.n ≡ 10 → z.answer ≡ Going → Counted src o z

  unused_run : (n : ℕ) (o : Out3) → length src - o.state.at < n → Unused o (turns n (list_turn src UnusedList tag) o)
  unused_run =
      runs src UnusedList tag Unused
      (λ o e ten g. record { rows = []; written = over e; added = appended_none })
      (λ o e d ten g. absurd (d g))
      next
    where
      next : (o z : Out3) → ends src o.state.at ≡ false → (unused_item src o.state o.a).answer ≡ Going → Unused (first3 (unused_item src o.state o.a) o.b o.c) z → Unused o z
      next o z f g rest ten h =
          let w = unused_went src o.state o.a g in
          let y = rest (w.came.ten ten) h in
          record {
            rows = w.what ∷ y.rows;
            written = word f w.word w.gap (rw (w.at, w.same) at y.written);
            added = appended_then (w.came.rows ten) y.added;
          }

-- an `%expect-unused` list behind its keyword, on any tables
module _ (src : List ℕ) (s : State) (t t15 t16 : List ℕ) (ten : length s.counts.n ≡ 10) where
  abbrev then : Out3
  then = list_decl src s UnusedList t t15 t16

  abbrev Began : Out3 → Type 0
  Began o = o.answer ≡ Going → (rows : List (List ℕ)) × UnusedListed s.kind src s.at o.state.at rows × Appended (width unused) (count s unused) t rows (count o.state unused) o.a

  began : Began then
  unfolding percent_list
  began =
      decl_cases src s UnusedList t t15 t16 Began (λ a j d g. absurd (d g))
      (λ i n j g e l h. let x = unused_run src g (suc (length src)) (record { answer = Going; state = with_at s j; a = t; b = t15; c = t16 }) (omega arith) ten h in
      (x.rows, record { from = i; lines = n; head = j; gap = e; lead = (l.0, refl); words = x.written }, x.added))

  -- Where it goes on, words stand in it up to where it came,
  pub unused_words : then.answer ≡ Going → (rows : List (List ℕ)) × UnusedListed s.kind src s.at then.state.at rows
  unused_words g = let (rows, l, x) = began g in (rows, l)

  -- and the rows of table 6 are those before and then one for each word, in order.
  pub unused_rows : then.answer ≡ Going → (j : ℕ) (rows : List (List ℕ)) → UnusedListed s.kind src s.at j rows → Appended (width unused) (count s unused) t rows (count then.state unused) then.a
  unused_rows g j rows l =
      let (vs, k, x) = began g in
      rw (listed_one (unused_one src) l k).2 x

-- a list of types from o to z, where it goes on
record Typings (src : List ℕ) (tag : Option (ℕ × ℕ)) (o z : Out3) : Type 0 where
  places : List Place
  written : Written o.state.kind (TypeWord src) src o.state.at z.state.at places
  added : length o.state.posix.n ≡ 3 → Appended (width tags) (count o.state tags) o.b (tag_rows tag places) (count z.state tags) z.b

module _ (src : List ℕ) (tag : Option (ℕ × ℕ)) where
  abbrev Types : Out3 → Out3 → Type 0
  Types o z = z.answer ≡ Going → Typings src tag o z

  types_run : (n : ℕ) (o : Out3) → length src - o.state.at < n → Types o (turns n (list_turn src TypeList tag) o)
  types_run =
      runs src TypeList tag Types
      (λ o e g. record { places = []; written = over e; added = λ three. rw (tag_rows_none tag) appended_none })
      (λ o e d g. absurd (d g))
      next
    where
      next : (o z : Out3) → ends src o.state.at ≡ false → (type_item src o.state tag o.b).answer ≡ Going → Types (second3 o.a (type_item src o.state tag o.b) o.c) z → Types o z
      next o z f g rest h =
          let w = type_went src o.state tag o.b g in
          let y = rest h in
          record {
            places = w.what ∷ y.places;
            written = word f w.word w.gap (rw (w.at, w.same) at y.written);
            added = λ three. rw (tag_rows_on tag w.what y.places) (appended_then (w.came.rows three) (y.added (w.came.three ∙ three)));
          }

-- a `%type` list behind its keyword, on any tables
module _ (src : List ℕ) (s : State) (t t15 t16 : List ℕ) where
  abbrev typed : Out3
  typed = list_decl src s TypeList t t15 t16

  abbrev TagsAdded : Out3 → Option (ℕ × ℕ) → List Place → Type 0
  TagsAdded o tag ps = length s.posix.n ≡ 3 → Appended (width tags) (count s tags) t15 (tag_rows tag ps) (count o.state tags) o.b

  abbrev Typed : Out3 → Type 0
  Typed o = o.answer ≡ Going → (tag : Option (ℕ × ℕ)) × (ps : List Place) × TypesListed s.kind src s.at o.state.at tag ps × TagsAdded o tag ps

  told : Typed typed
  unfolding percent_list
  told =
      decl_cases src s TypeList t t15 t16 Typed (λ a j d g. absurd (d g))
      (λ i n j g e l h. let x = types_run src g (suc (length src)) (record { answer = Going; state = with_at s j; a = t; b = t15; c = t16 }) (omega arith) h in
      (g, x.places, record { from = i; lines = n; head = j; gap = e; lead = l; words = x.written }, x.added))

  -- Where it goes on, words stand in it up to where it came, behind a tag,
  pub type_words : typed.answer ≡ Going → (tag : Option (ℕ × ℕ)) × (ps : List Place) × TypesListed s.kind src s.at typed.state.at tag ps
  type_words g = let (tag, ps, l, x) = told g in (tag, ps, l)

  -- and table 15 has exactly one row more for each of them, in order, with the tag.
  pub type_tags : typed.answer ≡ Going → (j : ℕ) (tag : Option (ℕ × ℕ)) (ps : List Place) → TypesListed s.kind src s.at j tag ps → length s.posix.n ≡ 3 → Appended (width tags) (count s tags) t15 (tag_rows tag ps) (count typed.state tags) typed.b
  type_tags g j tag ps l =
      let (h, qs, k, x) = told g in
      let y = listed_one (type_one src) l k in
      rw (y.1, y.2) x
