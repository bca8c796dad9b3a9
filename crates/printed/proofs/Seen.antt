-- A keyword with a space behind it is read as that keyword, and a keyword that is read is known. Assumes nothing.
use Prim.Native.Nat.{ℕ, ◌+◌, ◌-◌, ◌≤◌}
use mathlib.Core.Path.{◌≡◌, refl, sym, ◌∙◌, ap}
use mathlib.Core.List.{List, [], ◌∷◌, ◌++◌}
use mathlib.Core.Bool.{Bool, true, false, ◌&&◌, false≢true, and-eq-true_iff}
use lib.Dec.{ltb}
use borrow.Author.Tests.{ltb-true}
use lib.ListN.{length, get_or, drop, take}
use Rattle.scan.specs.Scan.{starts_at, begins}
use Rattle.scan.proofs.Bytes.{told, on_test, starts_fits}
use Rattle.whole.specs.Encode.{Text}
use Rattle.texts.proofs.Meaning.{starts_boundary}
use Rattle.keywords.specs.declared.Keyword.{Keyword}
use Rattle.keywords.specs.declared.Keyword.TheVariants.{Percents, TokenWord, ActiontypeWord, StartWord, EppWord, ExpectRrWord, ExpectUnusedWord, ExpectWord, AvoidInsertWord, ParseParamWord, ParseGenericsWord, ImplicitTokensWord, LeftWord, RightWord, NonassocWord, PrologueWord, UnionWord, TypeWord, NoKeyword}
use Rattle.keywords.specs.declared.Seen.{Seen}
use Rattle.keywords.specs.Keywords.{Entry, keywords, knows, first_of, seen_at}
use Rattle.alike.specs.Like.{Kind, original, grmtools, eco}
use Rattle.printed.specs.Decls.{spell, Known, SeenTo}

-- the same, by the bytes that are left
unfoldable pub first_in : List Entry → ℕ → List ℕ → ℕ → Seen
first_in [] kind l at = record { word = NoKeyword; end = at }
first_in (e ∷ es) kind l at = elim (knows kind e.kinds && begins e.word l) [ true ↦ record { word = e.is; end = at + length e.word } | false ↦ first_in es kind l at ]

first_in_lem : (es : List Entry) (kind : ℕ) (src : List ℕ) (at : ℕ) → first_of es kind src at ≡ first_in es kind (drop at src) at
unfolding first_of first_in starts_at
first_in_lem [] kind src at = refl
first_in_lem (e ∷ es) kind src at = ap (λ (x : Seen). elim (knows kind e.kinds && begins e.word (drop at src)) [ true ↦ record { word = e.is; end = at + length e.word } | false ↦ x ]) (first_in_lem es kind src at)

seen_in : (kind : ℕ) (src : List ℕ) (at : ℕ) (l : List ℕ) → drop at src ≡ l → seen_at kind src at ≡ first_in keywords kind l at
unfolding seen_at
seen_in kind src at l q = first_in_lem keywords kind src at ∙ ap (λ (x : List ℕ). first_in keywords kind x at) q

by_kind : {kind : ℕ} → Kind kind → (P : ℕ → Type 0) → P 1 → P 2 → P 3 → P kind
by_kind original P a b c = a
by_kind grmtools P a b c = b
by_kind eco P a b c = c

-- One clause a keyword: no earlier one is a prefix of it, and none is longer.
module _ (out : List ℕ) (i : ℕ) (r : List ℕ) where
  abbrev Is : Keyword → ℕ → Type 0
  Is w kind = SeenTo kind out i w (i + length (spell w))

  pub seen_word : {kind : ℕ} → Kind kind → (w : Keyword) → Known kind w → drop i out ≡ spell w ++ (32 ∷ r) → Is w kind
  unfolding first_in begins
  seen_word k Percents z q = by_kind k (Is Percents) (seen_in 1 out i _ q) (seen_in 2 out i _ q) (seen_in 3 out i _ q)
  seen_word k TokenWord z q = by_kind k (Is TokenWord) (seen_in 1 out i _ q) (seen_in 2 out i _ q) (seen_in 3 out i _ q)
  seen_word k ActiontypeWord z q = told (Is ActiontypeWord) (sym z) (seen_in 1 out i _ q)
  seen_word k StartWord z q = by_kind k (Is StartWord) (seen_in 1 out i _ q) (seen_in 2 out i _ q) (seen_in 3 out i _ q)
  seen_word k EppWord z q = by_kind k (Is EppWord) (seen_in 1 out i _ q) (seen_in 2 out i _ q) (seen_in 3 out i _ q)
  seen_word k ExpectRrWord z q = by_kind k (Is ExpectRrWord) (seen_in 1 out i _ q) (seen_in 2 out i _ q) (seen_in 3 out i _ q)
  seen_word k ExpectUnusedWord z q = by_kind k (Is ExpectUnusedWord) (seen_in 1 out i _ q) (seen_in 2 out i _ q) (seen_in 3 out i _ q)
  seen_word k ExpectWord z q = by_kind k (Is ExpectWord) (seen_in 1 out i _ q) (seen_in 2 out i _ q) (seen_in 3 out i _ q)
  seen_word k AvoidInsertWord z q = by_kind k (Is AvoidInsertWord) (seen_in 1 out i _ q) (seen_in 2 out i _ q) (seen_in 3 out i _ q)
  seen_word k ParseParamWord z q = by_kind k (Is ParseParamWord) (seen_in 1 out i _ q) (seen_in 2 out i _ q) (seen_in 3 out i _ q)
  seen_word k ParseGenericsWord z q = by_kind k (Is ParseGenericsWord) (seen_in 1 out i _ q) (seen_in 2 out i _ q) (seen_in 3 out i _ q)
  seen_word k ImplicitTokensWord z q = told (Is ImplicitTokensWord) (sym z) (seen_in 3 out i _ q)
  seen_word k LeftWord z q = by_kind k (Is LeftWord) (seen_in 1 out i _ q) (seen_in 2 out i _ q) (seen_in 3 out i _ q)
  seen_word k RightWord z q = by_kind k (Is RightWord) (seen_in 1 out i _ q) (seen_in 2 out i _ q) (seen_in 3 out i _ q)
  seen_word k NonassocWord z q = by_kind k (Is NonassocWord) (seen_in 1 out i _ q) (seen_in 2 out i _ q) (seen_in 3 out i _ q)
  seen_word k PrologueWord z q = absurd z
  seen_word k UnionWord z q = absurd z
  seen_word k TypeWord z q = absurd z
  seen_word k NoKeyword z q = absurd z

  -- `%%` needs nothing behind it
  pub seen_percents : (kind : ℕ) → drop i out ≡ 37 ∷ 37 ∷ r → SeenTo kind out i Percents (i + 2)
  unfolding first_in begins
  seen_percents kind q = seen_in kind out i _ q

-- what holds of each entry, where it stands, holds of the first
abbrev Each : (Entry → Type 0) → List Entry → Type 0
Each P [] = Unit {0}
Each P (e ∷ es) = P e × Each P es

module _ (kind : ℕ) (src : List ℕ) (at : ℕ) (P : Seen → Type 0) where
  abbrev Holds : Entry → Type 0
  Holds e = knows kind e.kinds ≡ true → starts_at e.word src at ≡ true → P (record { word = e.is; end = at + length e.word })

  first_each : (es : List Entry) → P (record { word = NoKeyword; end = at }) → Each Holds es → P (first_of es kind src at)
  unfolding first_of
  first_each [] n x = n
  first_each (e ∷ es) n x =
      on_test P (knows kind e.kinds && starts_at e.word src at) _ _ (λ t. let y = (and-eq-true_iff (knows kind e.kinds) (starts_at e.word src at)).0 t in x.0 y.0 y.1) (λ t. first_each es n x.1)

  pub seen_each : P (record { word = NoKeyword; end = at }) → Each Holds keywords → P (seen_at kind src at)
  unfolding seen_at
  seen_each n x = first_each keywords n x

-- a keyword that is read is known,
abbrev Knows : ℕ → Seen → Type 0
Knows kind r = (r.word ≡ NoKeyword → ⊥) → Known kind r.word

seen_knows : {kind : ℕ} → Kind kind → (src : List ℕ) (at : ℕ) → Knows kind (seen_at kind src at)
seen_knows original src at =
    seen_each 1 src at (Knows 1) (λ d. absurd (d refl))
    ((λ k h d. tt), ((λ k h d. tt), ((λ k h d. refl), ((λ k h d. tt), ((λ k h d. tt), ((λ k h d. tt), ((λ k h d. tt), ((λ k h d. tt), ((λ k h d. tt), ((λ k h d. tt), ((λ k h d. tt), ((λ k h d. absurd (false≢true k)), ((λ k h d. tt), ((λ k h d. tt), ((λ k h d. tt), ((λ k h d. absurd (false≢true k)), ((λ k h d. absurd (false≢true k)), ((λ k h d. absurd (false≢true k)), tt))))))))))))))))))
seen_knows grmtools src at =
    seen_each 2 src at (Knows 2) (λ d. absurd (d refl))
    ((λ k h d. tt), ((λ k h d. tt), ((λ k h d. absurd (false≢true k)), ((λ k h d. tt), ((λ k h d. tt), ((λ k h d. tt), ((λ k h d. tt), ((λ k h d. tt), ((λ k h d. tt), ((λ k h d. tt), ((λ k h d. tt), ((λ k h d. absurd (false≢true k)), ((λ k h d. tt), ((λ k h d. tt), ((λ k h d. tt), ((λ k h d. absurd (false≢true k)), ((λ k h d. absurd (false≢true k)), ((λ k h d. absurd (false≢true k)), tt))))))))))))))))))
seen_knows eco src at =
    seen_each 3 src at (Knows 3) (λ d. absurd (d refl))
    ((λ k h d. tt), ((λ k h d. tt), ((λ k h d. absurd (false≢true k)), ((λ k h d. tt), ((λ k h d. tt), ((λ k h d. tt), ((λ k h d. tt), ((λ k h d. tt), ((λ k h d. tt), ((λ k h d. tt), ((λ k h d. tt), ((λ k h d. refl), ((λ k h d. tt), ((λ k h d. tt), ((λ k h d. tt), ((λ k h d. absurd (false≢true k)), ((λ k h d. absurd (false≢true k)), ((λ k h d. absurd (false≢true k)), tt))))))))))))))))))

pub known : {kind : ℕ} → Kind kind → (src : List ℕ) (at j : ℕ) (w : Keyword) → SeenTo kind src at w j → (w ≡ NoKeyword → ⊥) → Known kind w
known k src at j w e = told (Knows _) e (seen_knows k src at)

-- and a code point begins behind it.
pub seen_edge : (src : List ℕ) → Text src → (kind at j : ℕ) (w : Keyword) → SeenTo kind src at w j → (w ≡ NoKeyword → ⊥) → Text (take j src)
seen_edge src t kind at j w e = told Edges e (seen_each kind src at Edges (λ d. absurd (d refl)) (every keywords refl))
  where
    Edges : Seen → Type 0
    Edges r = (r.word ≡ NoKeyword → ⊥) → Text (take r.end src)

    low : List Entry → Bool
    low [] = true
    low (e ∷ es) = ltb 0 (length e.word) && (ltb (get_or e.word (length e.word - 1) 0) 128 && low es)

    every : (es : List Entry) → low es ≡ true → Each (Holds kind src at Edges) es
    every [] h = tt
    every (e ∷ es) h =
        let a = (and-eq-true_iff (ltb 0 (length e.word)) _).0 h in
        let b = (and-eq-true_iff (ltb (get_or e.word (length e.word - 1) 0) 128) (low es)).0 a.1 in
        ((λ k s d. starts_boundary src t e.word at s (ltb-true _ _ a.0) (ltb-true _ _ b.0)), every es b.1)

-- It lies in the source.
pub seen_fits : (src : List ℕ) (kind at j : ℕ) (w : Keyword) → SeenTo kind src at w j → (w ≡ NoKeyword → ⊥) → j ≤ length src
seen_fits src kind at j w e = told Fits e (seen_each kind src at Fits (λ d. absurd (d refl)) (every keywords refl))
  where
    Fits : Seen → Type 0
    Fits r = (r.word ≡ NoKeyword → ⊥) → r.end ≤ length src

    some : List Entry → Bool
    some [] = true
    some (e ∷ es) = ltb 0 (length e.word) && some es

    every : (es : List Entry) → some es ≡ true → Each (Holds kind src at Fits) es
    every [] h = tt
    every (e ∷ es) h =
        let a = (and-eq-true_iff (ltb 0 (length e.word)) (some es)).0 h in
        ((λ k s d. starts_fits e.word src at s (ltb-true _ _ a.0)), every es a.1)
