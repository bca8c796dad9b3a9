-- Document 02, request Eleven: the items of a rule as they stand in a source of kinds 1 to 3, and as they are shipped.
use Rattle.std.specs.Prelude.{ℕ, ◌≡◌, List, [], ◌∷◌, ◌++◌, true, Option, Some, None, Ok}
use Rattle.std.proofs.Math.Seq.{slice}
use Rattle.scan.specs.declared.Place.{Place}
use Rattle.texts.specs.Action.{action_at}
use Rattle.grammar.specs.State.{gap_at}
use Rattle.productions.specs.declared.Production.{Production}
use Rattle.items.specs.declared.Sort.TheVariants.{BarSort, EndSort, QuotedSort, PrecSort, ActionSort, EmptySort, BareSort}
use Rattle.items.specs.Items.{sort_at, may_end, may_follow}
use Rattle.alike.specs.Like.{Same}
use Rattle.alike.specs.Stands.{TokenAt}

-- An item by its bytes, as it was spelled: a quoted symbol with its quotes, a bare one, the name of a `%prec`, `%empty`, an action with its braces, and the `|`
-- between two productions.
pub data Item : Type 0 where
  quoted : List ℕ → Item
  bare : List ℕ → Item
  named : List ℕ → Item
  empty : Item
  action : List ℕ → Item
  bar : Item

-- each production has a line: a `|` begins one, and one space stands before each other item
abbrev pub apart : Item → ℕ
apart (quoted x) = 32
apart (bare x) = 32
apart (named x) = 32
apart empty = 32
apart (action x) = 32
apart bar = 10

-- an item as it is shipped: its bytes, behind `%prec` and a space for a name
abbrev pub shown : Item → List ℕ
shown (quoted x) = x
shown (bare x) = x
shown (named x) = 37 ∷ 112 ∷ 114 ∷ 101 ∷ 99 ∷ 32 ∷ x
shown empty = 37 ∷ 101 ∷ 109 ∷ 112 ∷ 116 ∷ 121 ∷ []
shown (action x) = x
shown bar = 124 ∷ []

-- the items of a rule behind its colon; its `;` stands behind a space and ends the line
unfoldable pub items_text : List Item → List ℕ
items_text [] = 32 ∷ 59 ∷ 10 ∷ []
items_text (x ∷ xs) = apart x ∷ (shown x ++ items_text xs)

-- what stands behind an item and its spacing: `|` or `;` behind an action, `|`, `;`, `{` or `%prec` behind `%empty`, anything behind the others
abbrev pub Follows : List ℕ → ℕ → Item → Type 0
Follows s k (quoted x) = Unit {0}
Follows s k (bare x) = Unit {0}
Follows s k (named x) = Unit {0}
Follows s k empty = may_follow s k ≡ true
Follows s k (action x) = may_end s k ≡ true
Follows s k bar = Unit {0}

-- an item in one source, from i to e
pub data Item1 (kind : ℕ) (src : List ℕ) : ℕ → ℕ → Item → Type 0 where
  quoted1 : {i e a : ℕ} {x : List ℕ} → sort_at src i ≡ record { sort = QuotedSort; end = a } → TokenAt src i e x → Item1 kind src i e (quoted x)
  bare1 : {i e a : ℕ} {x : List ℕ} → sort_at src i ≡ record { sort = BareSort; end = a } → TokenAt src i e x → Item1 kind src i e (bare x)
  named1 : {i e a c m : ℕ} {x : List ℕ} → sort_at src i ≡ record { sort = PrecSort; end = a } → gap_at kind true src a ≡ Ok (c, m) → TokenAt src c e x → Item1 kind src i e (named x)
  empty1 : {i e : ℕ} → sort_at src i ≡ record { sort = EmptySort; end = e } → Item1 kind src i e empty
  action1 : {i e a m : ℕ} {x : List ℕ} {p q : Place} → sort_at src i ≡ record { sort = ActionSort; end = a } → action_at src i ≡ Ok (e, m, p, q) → slice i e src ≡ x
      → Item1 kind src i e (action x)
  bar1 : {i e : ℕ} → sort_at src i ≡ record { sort = BarSort; end = e } → Item1 kind src i e bar

-- The items of a rule in one source, from i on: each with spacing behind it, up to the `;`, which ends at the second index.
pub data Items1 (kind : ℕ) (src : List ℕ) : ℕ → ℕ → List Item → Type 0 where
  end1 : {i e : ℕ} → sort_at src i ≡ record { sort = EndSort; end = e } → Items1 kind src i e []
  item1 : {i e k m c : ℕ} {x : Item} {xs : List Item} → Item1 kind src i e x → gap_at kind true src e ≡ Ok (k, m) → Follows src k x → Items1 kind src k c xs
      → Items1 kind src i c (x ∷ xs)

-- two sources have the same item, from i to e and from j to f
pub data Item2 (kind : ℕ) (src out : List ℕ) : ℕ → ℕ → ℕ → ℕ → Item → Type 0 where
  quoted2 : {i j e f a b : ℕ} {x : List ℕ} → sort_at src i ≡ record { sort = QuotedSort; end = a } → sort_at out j ≡ record { sort = QuotedSort; end = b }
      → (w : TokenAt src i e x) (v : TokenAt out j f x) → Same src out w.place.from w.place.to v.place.from v.place.to → Item2 kind src out i j e f (quoted x)
  bare2 : {i j e f a b : ℕ} {x : List ℕ} → sort_at src i ≡ record { sort = BareSort; end = a } → sort_at out j ≡ record { sort = BareSort; end = b }
      → (w : TokenAt src i e x) (v : TokenAt out j f x) → Same src out w.place.from w.place.to v.place.from v.place.to → Item2 kind src out i j e f (bare x)
  named2 : {i j e f a b c d m n : ℕ} {x : List ℕ} → sort_at src i ≡ record { sort = PrecSort; end = a } → sort_at out j ≡ record { sort = PrecSort; end = b }
      → gap_at kind true src a ≡ Ok (c, m) → gap_at kind true out b ≡ Ok (d, n)
      → (w : TokenAt src c e x) (v : TokenAt out d f x) → Same src out w.place.from w.place.to v.place.from v.place.to → Item2 kind src out i j e f (named x)
  empty2 : {i j e f : ℕ} → sort_at src i ≡ record { sort = EmptySort; end = e } → sort_at out j ≡ record { sort = EmptySort; end = f } → Item2 kind src out i j e f empty
  action2 : {i j e f a b m n : ℕ} {x : List ℕ} {p q u v : Place} → sort_at src i ≡ record { sort = ActionSort; end = a } → sort_at out j ≡ record { sort = ActionSort; end = b }
      → action_at src i ≡ Ok (e, m, p, q) → action_at out j ≡ Ok (f, n, u, v) → Same src out p.from p.to u.from u.to → Same src out q.from q.to v.from v.to
      → slice i e src ≡ x → slice j f out ≡ x → Item2 kind src out i j e f (action x)
  bar2 : {i j e f : ℕ} → sort_at src i ≡ record { sort = BarSort; end = e } → sort_at out j ≡ record { sort = BarSort; end = f } → Item2 kind src out i j e f bar

-- and the same items, up to their `;`
pub data Items2 (kind : ℕ) (src out : List ℕ) : ℕ → ℕ → ℕ → ℕ → List Item → Type 0 where
  end2 : {i j e f : ℕ} → sort_at src i ≡ record { sort = EndSort; end = e } → sort_at out j ≡ record { sort = EndSort; end = f } → Items2 kind src out i j e f []
  item2 : {i j e f k l m n c d : ℕ} {x : Item} {xs : List Item} → Item2 kind src out i j e f x → gap_at kind true src e ≡ Ok (k, m) → gap_at kind true out f ≡ Ok (l, n)
      → Follows src k x → Follows out l x → Items2 kind src out k l c d xs → Items2 kind src out i j c d (x ∷ xs)

-- two productions under way, places aside
abbrev pub LikePrec : List ℕ → List ℕ → Option (ℕ × ℕ) → Option (ℕ × ℕ) → Type 0
LikePrec src out None None = Unit {0}
LikePrec src out None (Some (c, d)) = ⊥
LikePrec src out (Some (a, b)) None = ⊥
LikePrec src out (Some (a, b)) (Some (c, d)) = Same src out a b c d

abbrev pub LikeAct : List ℕ → List ℕ → Option (ℕ × ℕ × ℕ × ℕ) → Option (ℕ × ℕ × ℕ × ℕ) → Type 0
LikeAct src out None None = Unit {0}
LikeAct src out None (Some (a, b, c, d)) = ⊥
LikeAct src out (Some (a, b, c, d)) None = ⊥
LikeAct src out (Some (a, b, c, d)) (Some (e, f, g, h)) = Same src out a b e f × Same src out c d g h

pub record LikeDraft (src out : List ℕ) (d b : Production) : Type 0 where
  pub rule : d.rule ≡ b.rule
  pub first : d.first ≡ b.first
  pub prec : LikePrec src out d.prec b.prec
  pub action : LikeAct src out d.action b.action
