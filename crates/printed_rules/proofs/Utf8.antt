-- What is shipped of a source's rules and programs is UTF-8 where the source is. Assumes nothing.
use Rattle.std.specs.Prelude.{Ok}
use Prim.Native.Nat.{ℕ, ◌+◌, ◌-◌, ◌≤◌, ◌<◌}
use mathlib.Core.Path.{◌≡◌, refl, sym, ◌∙◌}
use mathlib.Core.List.{List, [], ◌∷◌, ◌++◌}
use mathlib.Core.Bool.{Bool, true, ◌||◌, ◌&&◌}
use mathlib.Core.Logic.{◌⊎◌, inl, inr, ⊎_elim}
use native.Mathlib.Omega.{arith}
use lib.Dec.{leb, eqb}
use lib.ListN.{length, get_or, drop}
use lib.Seq.{slice, take-length}
use borrow.Author.Tests.{eqb-true}
use Rattle.scan.specs.declared.Place.{Place}
use Rattle.scan.specs.declared.Class.{Class}
use Rattle.scan.specs.declared.Class.TheVariants.{NameStart, NameByte, TokenStart, TokenByte}
use Rattle.scan.specs.Scan.{in_class, is_letter, is_digit}
use Rattle.scan.proofs.Bytes.{told, within_true, le_or_lt, drop_below, drop_byte, starts_fits}
use Rattle.whole.specs.Encode.{encoded, Text}
use Rattle.whole.proofs.Boundaries.{between, begins_boundary, ascii_behind}
use Rattle.words.specs.Words.{name_at, token_at, is_quote, IsWord}
use Rattle.words.proofs.Meaning.{name_iff, bare_iff, quoted_iff}
use Rattle.texts.specs.Action.{action_at}
use Rattle.texts.proofs.Balance.{action_is}
use Rattle.texts.proofs.Meaning.{edge_boundary, starts_boundary}
use Rattle.grammar.specs.State.{Gapped}
use Rattle.grammar.proofs.Kept.{gapped}
use Rattle.rules.specs.Rules.{percents}
use Rattle.alike.specs.Stands.{TokenAt}
use Rattle.alike.proofs.Tokens.{Shape, plain, quote, shape}
use Rattle.alike.proofs.Front.{either}
use Rattle.alike.proofs.Utf8.{text_append, text_byte}
use Rattle.printed_rules.specs.Items.{Item, quoted, bare, named, empty, action, bar, apart, shown, items_text, Item1, quoted1, bare1, named1, empty1, action1, bar1, Items1, end1, item1}
use Rattle.printed_rules.specs.Rules.{Rule, Programs, type_text, rule_text, rules_text, programs_text, rest_text, Type1, untyped1, typed1, Rule1, Rules1, over1, rule1, Programs1, none1, given1, Rest1}
use Rattle.items.specs.declared.Sort.TheVariants.{ActionSort}
use Rattle.printed_rules.proofs.Sorts.{sort_told}
use Rattle.printed_rules.proofs.BackRules.{type_text_lem, typed_text, untyped_text}
use Rattle.printed_rules.proofs.AlikeRules.{rest_slice}

-- the bytes of words are ASCII
letter_low : (c : ℕ) → is_letter c ≡ true → c < 128
unfolding is_letter
letter_low c t = go (either _ _ t)
  where
    go : ((leb 65 c && leb c 90) ≡ true) ⊎ ((leb 97 c && leb c 122) ≡ true) → c < 128
    go (inl e) = let z = (within_true 65 90 c e).1 in omega arith
    go (inr e) = let z = (within_true 97 122 c e).1 in omega arith

digit_low : (c : ℕ) → is_digit c ≡ true → c < 128
unfolding is_digit
digit_low c t = let z = (within_true 48 57 c t).1 in omega arith

eqb_low : (c k : ℕ) → k < 128 → eqb c k ≡ true → c < 128
eqb_low c k h t = let z = eqb-true c k t in omega arith

or_low : (c : ℕ) (a b : Bool) → (a ≡ true → c < 128) → (b ≡ true → c < 128) → (a || b) ≡ true → c < 128
or_low c a b f g t = ⊎_elim f g (either a b t)

name_start : (c : ℕ) → in_class NameStart c ≡ true → c < 128
unfolding in_class
name_start c = or_low c _ _ (or_low c _ _ (letter_low c) (eqb_low c 95 (omega arith))) (eqb_low c 46 (omega arith))

name_byte : (c : ℕ) → in_class NameByte c ≡ true → c < 128
unfolding in_class
name_byte c = or_low c _ _ (or_low c _ _ (or_low c _ _ (letter_low c) (eqb_low c 95 (omega arith))) (eqb_low c 46 (omega arith))) (digit_low c)

token_start : (c : ℕ) → in_class TokenStart c ≡ true → c < 128
unfolding in_class
token_start c = or_low c _ _ (letter_low c) (eqb_low c 95 (omega arith))

token_byte : (c : ℕ) → in_class TokenByte c ≡ true → c < 128
unfolding in_class
token_byte c = or_low c _ _ (or_low c _ _ (letter_low c) (eqb_low c 95 (omega arith))) (digit_low c)

quote_low : (c : ℕ) → is_quote c ≡ true → c < 128
unfolding is_quote
quote_low c = or_low c _ _ (eqb_low c 34 (omega arith)) (eqb_low c 39 (omega arith))

module _ (src : List ℕ) (text : Text src) where
  -- a part that begins and ends with ASCII
  part : (i e : ℕ) → i < e → e ≤ length src → get_or src i 0 < 128 → get_or src (e - 1) 0 < 128 → Text (slice i e src)
  part i e h l a b =
      let z : e - 1 + 1 ≡ e = omega arith in
      between src i e (omega arith) (begins_boundary src text i (omega arith) (inl a)) (rw z at (ascii_behind src text (e - 1) (omega arith) b))

  word_text : (first rest : Class) → ((c : ℕ) → in_class first c ≡ true → c < 128) → ((c : ℕ) → in_class rest c ≡ true → c < 128) → (i e : ℕ) → IsWord first rest src i e → Text (slice i e src)
  word_text first rest f g i e w =
      let a = w.goes_on.onward in
      part i e (omega arith) w.goes_on.inside (f _ w.begins)
      (⊎_elim (λ h. g _ (w.goes_on.each (e - 1) h (omega arith))) (λ h. let z : e - 1 ≡ i = omega arith in rw z (f _ w.begins)) (le_or_lt (i + 1) (e - 1)))

  name_text : (i e : ℕ) (x : List ℕ) → name_at src i ≡ Ok e → slice i e src ≡ x → Text x
  name_text i e x h is = told (λ (l : List ℕ). Text l) is (word_text NameStart NameByte name_start name_byte i e ((name_iff src i e).0 h))

  token_text : (i e : ℕ) (x : List ℕ) → TokenAt src i e x → Text x
  token_text i e x w = told (λ (l : List ℕ). Text l) w.spelled (go w.place e w.quoted (shape src i w.place e w.quoted w.is) w.is)
    where
      go : (p : Place) (e : ℕ) (q : Bool) → Shape i p e q → token_at src i ≡ Ok (p, e, q) → Text (slice i e src)
      go _ _ _ (plain to) h = word_text TokenStart TokenByte token_start token_byte i to ((bare_iff src i to).0 h)
      go _ _ _ (quote to) h =
          let v = (quoted_iff src i to).0 h in
          let a = v.goes_on.onward in
          let b = v.inside in
          let c = quote_low _ v.opens in
          let z : to + 1 - 1 ≡ to = omega arith in
          part i (to + 1) (omega arith) (omega arith) c (rw (z, v.closes) c)

  action_whole : (i e n : ℕ) (p q : Place) (l : List ℕ) → drop i src ≡ 123 ∷ l → action_at src i ≡ Ok (e, n, p, q) → Text (slice i e src)
  action_whole i e n p q l d h =
      let b = drop_below src i 123 l d in
      let z = drop_byte src i 123 l d in
      let x = (action_is src i b e n p q h).0 in
      let a = x.onward in
      let c = x.inside in
      let k = x.closes in
      part i e (omega arith) (omega arith) (omega arith) (omega arith)

-- bytes below 128 in front of a text
abbrev Low : List ℕ → Type 0
Low [] = Unit {0}
Low (c ∷ cs) = (c < 128) × Low cs

ahead : (l r : List ℕ) → Low l → Text r → Text (l ++ r)
ahead [] r h t = t
ahead (c ∷ cs) r h t = text_append (c ∷ []) (cs ++ r) (text_byte c h.0) (ahead cs r h.1 t)

nothing : Text []
unfolding encoded
nothing = record { points = []; scalars = tt; same = refl }

apart_low : (x : Item) → apart x < 128
apart_low (quoted x) = omega arith
apart_low (bare x) = omega arith
apart_low (named x) = omega arith
apart_low empty = omega arith
apart_low (action x) = omega arith
apart_low bar = omega arith

module _ (kind : ℕ) (src : List ℕ) (text : Text src) where
  item_text : {i e : ℕ} {x : Item} → Item1 kind src i e x → Text (shown x)
  item_text (quoted1 {i} {e} {x = x} s w) = token_text src text i e x w
  item_text (bare1 {i} {e} {x = x} s w) = token_text src text i e x w
  item_text (named1 {e = e} {c = c} {x = x} s g w) = ahead (37 ∷ 112 ∷ 114 ∷ 101 ∷ 99 ∷ 32 ∷ []) x (omega arith, (omega arith, (omega arith, (omega arith, (omega arith, (omega arith, tt)))))) (token_text src text c e x w)
  item_text (empty1 s) = ahead (37 ∷ 101 ∷ 109 ∷ 112 ∷ 116 ∷ 121 ∷ []) [] (omega arith, (omega arith, (omega arith, (omega arith, (omega arith, (omega arith, tt)))))) nothing
  item_text (action1 {i} {e} {a} {m} {p = p} {q = q} s w is) = let t = sort_told src i ActionSort a s in told (λ (y : List ℕ). Text y) is (action_whole src text i e m p q t.0 t.1 w)
  item_text (bar1 s) = text_byte 124 (omega arith)

  pub items_text_lem : {i c : ℕ} {xs : List Item} → Items1 kind src i c xs → Text (items_text xs)
  unfolding items_text
  items_text_lem (end1 s) = ahead (32 ∷ 59 ∷ 10 ∷ []) [] (omega arith, (omega arith, (omega arith, tt))) nothing
  items_text_lem (item1 {x = x} {xs = xs} w g h rest) = ahead (apart x ∷ []) (shown x ++ items_text xs) (apart_low x, tt) (text_append (shown x) (items_text xs) (item_text w) (items_text_lem rest))

  typed : {i e : ℕ} {x : List ℕ} → Type1 kind src i e x → Text (type_text kind x)
  typed (untyped1 k) = told (λ (y : List ℕ). Text y) (sym (untyped_text kind [] k)) nothing
  typed (typed1 {i} {from} {to} {p} {x} k t is) =
      told (λ (y : List ℕ). Text y) (sym (typed_text kind x k))
      (ahead (32 ∷ 45 ∷ 62 ∷ 32 ∷ []) x (omega arith, (omega arith, (omega arith, (omega arith, tt)))) (told (λ (y : List ℕ). Text y) is (type_text_lem kind src text i from to t.lines p t.arrow t.text)))

  rule_text_lem : (i e : ℕ) (r : Rule) → Rule1 kind src i e r → Text (rule_text kind r)
  unfolding rule_text
  rule_text_lem i e r w =
      text_append r.name _ (name_text src text i w.to r.name w.named w.spelled)
      (text_append (type_text kind r.type) _ (typed w.typed) (ahead (58 ∷ []) (items_text r.items) (omega arith, tt) (items_text_lem w.items)))

  pub rules_text_lem : {i j : ℕ} {rs : List Rule} → Rules1 kind src i j rs → Text (rules_text kind rs)
  unfolding rules_text
  rules_text_lem (over1 e) = nothing
  rules_text_lem (rule1 {i} {e} {r = r} {rs = rs} o w g rest) = text_append (rule_text kind r) (rules_text kind rs) (rule_text_lem i e r w) (rules_text_lem rest)

  -- programs begin where spacing ended, behind ASCII
  pub programs_text_lem : {i : ℕ} {p : Programs} → Programs1 kind src i p → Text (programs_text p)
  unfolding programs_text
  programs_text_lem (none1 e) = nothing
  programs_text_lem (given1 {i} {k} {m} {x} e g d) =
      let l = starts_fits percents src i e (omega arith) in
      let y : Gapped src (i + 2) (Ok (k, m)) = told (Gapped src (i + 2)) g (gapped kind true src (i + 2) l) in
      let b = edge_boundary src text (i + 2) k (starts_boundary src text percents i e (omega arith) (omega arith)) y.1 y.2 in
      ahead (37 ∷ 37 ∷ 10 ∷ []) x (omega arith, (omega arith, (omega arith, tt)))
      (told (λ (z : List ℕ). Text z) (rest_slice k src ∙ d) (between src k (length src) y.1 b (rw (take-length src) text)))

  -- What is shipped of rules and programs is a text.
  pub rest_text_lem : (i : ℕ) (rs : List Rule) (p : Programs) → Rest1 kind src i rs p → Text (rest_text kind rs p)
  unfolding rest_text
  rest_text_lem i rs p w =
      ahead (37 ∷ 37 ∷ 10 ∷ []) (rules_text kind rs ++ programs_text p) (omega arith, (omega arith, (omega arith, tt))) (text_append (rules_text kind rs) (programs_text p) (rules_text_lem w.rules) (programs_text_lem w.programs))
