-- What stands in a source stands in front of its end, and leads onward. Assumes nothing.
use Rattle.std.specs.Prelude.{Ok}
use Prim.Native.Nat.{ℕ, ◌+◌, ◌≤◌, ◌<◌}
use mathlib.Core.Path.{◌≡◌, refl, sym, ◌∙◌}
use mathlib.Core.List.{List, [], ◌∷◌}
use mathlib.Core.Bool.{true}
use mathlib.Core.Logic.{⊎_elim}
use native.Mathlib.Omega.{arith}
use lib.ListN.{length, drop_of_length-le}
use Rattle.scan.specs.declared.Place.{Place}
use Rattle.scan.specs.Scan.{begins}
use Rattle.scan.proofs.Bytes.{told, le_or_lt, starts_fits}
use Rattle.words.specs.Words.{name_at, Named}
use Rattle.words.proofs.Words.{name_placed}
use Rattle.texts.specs.Colon.{colon_text_at, ColonTexts}
use Rattle.texts.proofs.Laws.{colon_placed}
use Rattle.texts.specs.Action.{action_at}
use Rattle.grammar.specs.State.{gap_at, Gapped}
use Rattle.grammar.proofs.Kept.{gapped}
use Rattle.items.specs.declared.Sort.{Sort}
use Rattle.items.specs.declared.Sort.TheVariants.{BarSort, EndSort, QuotedSort, PrecSort, ActionSort, EmptySort, BareSort}
use Rattle.items.specs.declared.Spotted.{Spotted}
use Rattle.items.specs.Items.{sort_at, Spots}
use Rattle.items.proofs.Marks.{spots}
use Rattle.alike.specs.Stands.{TokenAt}
use Rattle.alike.proofs.Again.{further, token_lies}
use Rattle.printed_rules.specs.Items.{Item, Item1, quoted1, bare1, named1, empty1, action1, bar1, Items1, end1, item1}
use Rattle.printed_rules.specs.Rules.{Rule, MarkAt, Type1, untyped1, typed1, Rule1, Rules1, over1, rule1}
use Rattle.printed_rules.proofs.Sorts.{mark_in, sort_in}
use Rattle.printed_rules.proofs.Actions.{stood}

-- every sort but a bare symbol's has a mark
abbrev pub Marked : Sort → Type 0
Marked BarSort = Unit {0}
Marked EndSort = Unit {0}
Marked QuotedSort = Unit {0}
Marked PrecSort = Unit {0}
Marked ActionSort = Unit {0}
Marked EmptySort = Unit {0}
Marked BareSort = ⊥

-- it stands in the source
sort_low : (s : List ℕ) (i a : ℕ) (x : Sort) → sort_at s i ≡ record { sort = x; end = a } → Marked x → i < length s
unfolding mark_in begins
sort_low s i a x e n =
    ⊎_elim (λ h. absurd (told (λ (y : Spotted). Marked y.sort) (sym e ∙ sort_in s i [] (drop_of_length-le s h)) n)) (λ h. h) (le_or_lt (length s) i)

token_low : (s : List ℕ) (i e : ℕ) (x : List ℕ) → TokenAt s i e x → i < length s
token_low s i e x w =
    let y = token_lies s i e x w in
    let a = y.0 in
    let b = y.1 in
    let c = y.2 in
    let d = y.3 in
    omega arith

-- an item stands in the source, not at its end
pub item_low : (kind : ℕ) (src : List ℕ) (i e : ℕ) (x : Item) → Item1 kind src i e x → i < length src
item_low kind src i e x (quoted1 s w) = token_low src i e _ w
item_low kind src i e x (bare1 s w) = token_low src i e _ w
item_low kind src i e x (named1 s g w) = sort_low src i _ PrecSort s tt
item_low kind src i e x (empty1 s) = sort_low src i _ EmptySort s tt
item_low kind src i e x (action1 s a is) = sort_low src i _ ActionSort s tt
item_low kind src i e x (bar1 s) = sort_low src i _ BarSort s tt

pub end_low : (src : List ℕ) (i e : ℕ) → sort_at src i ≡ record { sort = EndSort; end = e } → i < length src
end_low src i e s = sort_low src i e EndSort s tt

-- a mark has a byte, and spacing goes onward
mark_on : (s : List ℕ) (i a : ℕ) (x : Sort) → sort_at s i ≡ record { sort = x; end = a } → Marked x → (i < a) × (a ≤ length s)
mark_on s i a x e n =
    let l = sort_low s i a x e n in
    let y : Spots s i (record { sort = x; end = a }) = told (Spots s i) e (spots s i (omega arith)) in
    (y.beyond (λ h. told Marked h n), y.inside)

gap_on : (kind : ℕ) (s : List ℕ) (e k m : ℕ) → e ≤ length s → gap_at kind true s e ≡ Ok (k, m) → e ≤ k
gap_on kind s e k m h g = let z : Gapped s e (Ok (k, m)) = told (Gapped s e) g (gapped kind true s e h) in let a = z.0 in omega arith

mark_gap_lem : (kind : ℕ) (s : List ℕ) (i e k m : ℕ) (x : Sort) → sort_at s i ≡ record { sort = x; end = e } → Marked x → gap_at kind true s e ≡ Ok (k, m) → i < k
mark_gap_lem kind s i e k m x h n g = let a = mark_on s i e x h n in let b = a.0 in let c = gap_on kind s e k m a.1 g in omega arith

named_on : (kind : ℕ) (s : List ℕ) (i a c e k m n : ℕ) (x : List ℕ) → sort_at s i ≡ record { sort = PrecSort; end = a } → gap_at kind true s a ≡ Ok (c, m) → TokenAt s c e x → gap_at kind true s e ≡ Ok (k, n) → i < k
named_on kind s i a c e k m n x h g w g' =
    let b = mark_gap_lem kind s i a c m PrecSort h tt g in
    let d = (further kind s c e k n w.place w.quoted w.is g').0 in
    omega arith

action_on : (kind : ℕ) (s : List ℕ) (i e k m n : ℕ) (p q : Place) → action_at s i ≡ Ok (e, m, p, q) → gap_at kind true s e ≡ Ok (k, n) → i < k
action_on kind s i e k m n p q h g =
    let w = stood s i e m p q h in
    let a = w.ends in
    let b = w.low in
    let c = gap_on kind s e k n (omega arith) g in
    omega arith

-- an item and the spacing behind it go onward
pub item_forth : (kind : ℕ) (src : List ℕ) (i e k m : ℕ) (x : Item) → Item1 kind src i e x → gap_at kind true src e ≡ Ok (k, m) → i < k
item_forth kind src i e k m x (quoted1 s w) g = (further kind src i e k m w.place w.quoted w.is g).0
item_forth kind src i e k m x (bare1 s w) g = (further kind src i e k m w.place w.quoted w.is g).0
item_forth kind src i e k m x (named1 s g' w) g = named_on kind src i _ _ e k _ m _ s g' w g
item_forth kind src i e k m x (empty1 s) g = mark_gap_lem kind src i e k m EmptySort s tt g
item_forth kind src i e k m x (action1 s a is) g = action_on kind src i e k _ m _ _ a g
item_forth kind src i e k m x (bar1 s) g = mark_gap_lem kind src i e k m BarSort s tt g

-- Items, marks, types and rules lead onward, in the source.
module _ (kind : ℕ) (src : List ℕ) where
  pub gap_forth : (i j n : ℕ) → i ≤ length src → gap_at kind true src i ≡ Ok (j, n) → (i ≤ j) × (j ≤ length src)
  gap_forth i j n h g = let z : Gapped src i (Ok (j, n)) = told (Gapped src i) g (gapped kind true src i h) in let a = z.0 in (omega arith, z.1)

  pub items_forth : {i c : ℕ} {xs : List Item} → Items1 kind src i c xs → (i < c) × (c ≤ length src)
  items_forth (end1 {i} {e} s) = mark_on src i e EndSort s tt
  items_forth (item1 {i} {e} {k} {m} {c} {x} w g h rest) =
      let a = item_forth kind src i e k m x w g in
      let b = items_forth rest in
      let b0 = b.0 in
      (omega arith, b.1)

  pub mark_forth : (word : List ℕ) (i j : ℕ) → 0 < length word → i ≤ length src → MarkAt kind src word i j → (i + length word ≤ j) × (j ≤ length src)
  mark_forth word i j p h m =
      let a = gap_forth i m.at m.before h m.gap in
      let l = starts_fits word src m.at m.is p in
      let b = gap_forth (m.at + length word) j m.after l m.next in
      let a0 = a.0 in
      let b0 = b.0 in
      (omega arith, b.1)

  pub type_forth : {i to : ℕ} {x : List ℕ} → i ≤ length src → Type1 kind src i to x → (i ≤ to) × (to ≤ length src)
  type_forth h (untyped1 k) = (omega arith, h)
  type_forth h (typed1 {i} {from} {to} {p} k t is) =
      let a = mark_forth (45 ∷ 62 ∷ []) i from (omega arith) h t.arrow in
      let a0 = a.0 in
      let y : ColonTexts src from (Ok (to, t.lines, p)) = told (ColonTexts src from) t.text (colon_placed src from a.1 (colon_text_at src from) refl).1 in
      let b = y.0 in
      let c = y.1 in
      (omega arith, omega arith)

  pub rule_forth : (i e k m : ℕ) (r : Rule) → Rule1 kind src i e r → gap_at kind true src e ≡ Ok (k, m) → (i < k) × (k ≤ length src)
  rule_forth i e k m r w g =
      let n : Named src i (Ok w.to) = told (Named src i) w.named (name_placed src i (name_at src i) refl).1 in
      let a = n.0 in
      let t = type_forth n.1 w.typed in
      let b = t.0 in
      let c = mark_forth (58 ∷ []) w.head w.from (omega arith) t.1 w.colon in
      let d = c.0 in
      let x = items_forth w.items in
      let f = x.0 in
      let y = gap_forth e k m x.1 g in
      let z = y.0 in
      (omega arith, y.1)

  pub rules_inside : {i j : ℕ} {rs : List Rule} → Rules1 kind src i j rs → i ≤ length src → j ≤ length src
  rules_inside (over1 e) h = h
  rules_inside (rule1 {i} {e} {k} {m} {r = r} o w g rest) h = rules_inside rest (rule_forth i e k m r w g).1
