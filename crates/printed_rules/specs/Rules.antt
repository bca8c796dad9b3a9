-- Document 02, request Eleven: rules and programs as they stand in a source of kinds 1 to 3, and as they are shipped.
use Rattle.std.specs.Prelude.{ℕ, ◌+◌, ◌≡◌, List, [], ◌∷◌, ◌++◌, Bool, true, false, ◌||◌, eqb, leb, length, drop, Ok}
use Rattle.std.proofs.Math.Seq.{slice}
use Rattle.scan.specs.declared.Place.{Place}
use Rattle.scan.specs.Scan.{starts_at}
use Rattle.words.specs.Words.{name_at}
use Rattle.texts.specs.Colon.{colon_text_at}
use Rattle.grammar.specs.State.{gap_at}
use Rattle.rules.specs.Rules.{percents}
use Rattle.alike.specs.Like.{Same}
use Rattle.printed_rules.specs.Items.{Item, items_text, Items1, Items2}

-- a rule by its bytes; a type is kind 2's alone, and empty in the others
pub record Rule : Type 0 where
  pub name : List ℕ
  pub type : List ℕ
  pub items : List Item

-- the programs text, if a second `%%` gave one, which may be empty
pub data Programs : Type 0 where
  none : Programs
  given : List ℕ → Programs

-- In kind 2 a head has `->` with one space on each side, and then its type as it stood, from where spacing ended up to its colon: nothing is trimmed.
unfoldable pub type_text : ℕ → List ℕ → List ℕ
type_text kind x = elim (eqb kind 2) [ true ↦ 32 ∷ 45 ∷ 62 ∷ 32 ∷ x | false ↦ [] ]

-- A rule is its head, the colon directly behind it, and its items: the first production stands on the line of the head, each further one on its own.
unfoldable pub rule_text : ℕ → Rule → List ℕ
rule_text kind r = r.name ++ (type_text kind r.type ++ (58 ∷ items_text r.items))

-- all rules, in the order of the source
unfoldable pub rules_text : ℕ → List Rule → List ℕ
rules_text kind [] = []
rules_text kind (r ∷ rs) = rule_text kind r ++ rules_text kind rs

-- programs begin on the line behind their `%%` and run to the text's end
unfoldable pub programs_text : Programs → List ℕ
programs_text none = []
programs_text (given x) = 37 ∷ 37 ∷ 10 ∷ x

-- the rules section from its `%%` on, and the programs
unfoldable pub rest_text : ℕ → List Rule → Programs → List ℕ
rest_text kind rs p = 37 ∷ 37 ∷ 10 ∷ (rules_text kind rs ++ programs_text p)

-- a mark behind spacing, and spacing behind it: from i to j
pub record MarkAt (kind : ℕ) (src word : List ℕ) (i j : ℕ) : Type 0 where
  pub at : ℕ
  pub before : ℕ
  pub after : ℕ
  pub gap : gap_at kind true src i ≡ Ok (at, before)
  pub is : starts_at word src at ≡ true
  pub next : gap_at kind true src (at + length word) ≡ Ok (j, after)

-- kind 2's `->` and the type from `from` to the colon at `to`, whose trimmed place is p
pub record TypeAt (kind : ℕ) (src : List ℕ) (i from to : ℕ) (p : Place) : Type 0 where
  pub lines : ℕ
  pub arrow : MarkAt kind src (45 ∷ 62 ∷ []) i from
  pub text : colon_text_at src from ≡ Ok (to, lines, p)

-- the type of a rule's head, from behind its name on
pub data Type1 (kind : ℕ) (src : List ℕ) : ℕ → ℕ → List ℕ → Type 0 where
  untyped1 : {i : ℕ} → eqb kind 2 ≡ false → Type1 kind src i i []
  typed1 : {i from to : ℕ} {p : Place} {x : List ℕ} → eqb kind 2 ≡ true → TypeAt kind src i from to p → slice from to src ≡ x → Type1 kind src i to x

-- a rule from i to its `;`, which ends at e
pub record Rule1 (kind : ℕ) (src : List ℕ) (i e : ℕ) (r : Rule) : Type 0 where
  -- where its name and its type end, and where its items begin
  pub to : ℕ
  pub head : ℕ
  pub from : ℕ
  pub named : name_at src i ≡ Ok to
  pub spelled : slice i to src ≡ r.name
  pub typed : Type1 kind src to head r.type
  pub colon : MarkAt kind src (58 ∷ []) head from
  pub items : Items1 kind src from e r.items

-- where rules are over: at a `%%`, or at the source's end
abbrev pub over : List ℕ → ℕ → Bool
over src i = leb (length src) i || starts_at percents src i

-- the rules from i on, up to j, with spacing behind each
pub data Rules1 (kind : ℕ) (src : List ℕ) : ℕ → ℕ → List Rule → Type 0 where
  over1 : {i : ℕ} → over src i ≡ true → Rules1 kind src i i []
  rule1 : {i e k m j : ℕ} {r : Rule} {rs : List Rule} → over src i ≡ false → Rule1 kind src i e r → gap_at kind true src e ≡ Ok (k, m) → Rules1 kind src k j rs
      → Rules1 kind src i j (r ∷ rs)

-- the programs text behind a second `%%` and spacing, up to the source's end; or no second `%%`
pub data Programs1 (kind : ℕ) (src : List ℕ) : ℕ → Programs → Type 0 where
  none1 : {i : ℕ} → starts_at percents src i ≡ false → Programs1 kind src i none
  given1 : {i k m : ℕ} {x : List ℕ} → starts_at percents src i ≡ true → gap_at kind true src (i + 2) ≡ Ok (k, m) → drop k src ≡ x → Programs1 kind src i (given x)

-- two sources have the same type behind a name,
pub data Type2 (kind : ℕ) (src out : List ℕ) : ℕ → ℕ → ℕ → ℕ → Type 0 where
  untyped2 : {i j : ℕ} → eqb kind 2 ≡ false → Type2 kind src out i j i j
  typed2 : {i j a b e f : ℕ} {p q : Place} → eqb kind 2 ≡ true → TypeAt kind src i a e p → TypeAt kind out j b f q → Same src out p.from p.to q.from q.to
      → Type2 kind src out i j e f

-- the same rule,
pub record Rule2 (kind : ℕ) (src out : List ℕ) (i j e f : ℕ) (r : Rule) : Type 0 where
  pub here : Rule1 kind src i e r
  pub there : Rule1 kind out j f r
  pub name : Same src out i here.to j there.to
  pub type : Type2 kind src out here.to there.to here.head there.head
  pub items : Items2 kind src out here.from there.from e f r.items

-- the same rules,
pub data Rules2 (kind : ℕ) (src out : List ℕ) : ℕ → ℕ → ℕ → ℕ → List Rule → Type 0 where
  over2 : {i j : ℕ} → over src i ≡ true → over out j ≡ true → Rules2 kind src out i j i j []
  rule2 : {i j e f k l m n c d : ℕ} {r : Rule} {rs : List Rule} → over src i ≡ false → over out j ≡ false → Rule2 kind src out i j e f r
      → gap_at kind true src e ≡ Ok (k, m) → gap_at kind true out f ≡ Ok (l, n) → Rules2 kind src out k l c d rs → Rules2 kind src out i j c d (r ∷ rs)

-- and the same programs text
pub data Programs2 (kind : ℕ) (src out : List ℕ) : ℕ → ℕ → Programs → Type 0 where
  none2 : {i j : ℕ} → starts_at percents src i ≡ false → starts_at percents out j ≡ false → Programs2 kind src out i j none
  given2 : {i j k l m n : ℕ} {x : List ℕ} → starts_at percents src i ≡ true → starts_at percents out j ≡ true
      → gap_at kind true src (i + 2) ≡ Ok (k, m) → gap_at kind true out (j + 2) ≡ Ok (l, n) → drop k src ≡ x → drop l out ≡ x → Programs2 kind src out i j (given x)

-- where a reading of programs ends, that of rules having ended at i
abbrev pub end_of : Programs → List ℕ → ℕ → ℕ
end_of none src i = i
end_of (given x) src i = length src

-- The rest of a source behind its declarations: the `%%`, rules, programs.
pub record Rest1 (kind : ℕ) (src : List ℕ) (i : ℕ) (rs : List Rule) (p : Programs) : Type 0 where
  pub from : ℕ
  pub to : ℕ
  pub mark : MarkAt kind src percents i from
  pub rules : Rules1 kind src from to rs
  pub programs : Programs1 kind src to p

pub record Rest2 (kind : ℕ) (src out : List ℕ) (i j : ℕ) (rs : List Rule) (p : Programs) : Type 0 where
  pub from : ℕ
  pub to : ℕ
  pub from' : ℕ
  pub to' : ℕ
  pub mark : MarkAt kind src percents i from
  pub mark' : MarkAt kind out percents j from'
  pub rules : Rules2 kind src out from from' to to' rs
  pub programs : Programs2 kind src out to to' p
