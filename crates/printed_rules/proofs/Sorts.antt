-- Which item stands at a place is told by the bytes that are left; of what is shipped it is told the same. Assumes nothing.
use Prim.Native.Nat.{ℕ, ◌+◌}
use mathlib.Core.Path.{◌≡◌, refl, sym, ◌∙◌, ap, ap₂}
use mathlib.Core.List.{List, [], ◌∷◌, ◌++◌}
use mathlib.Core.Bool.{Bool, true, false, ◌||◌, ◌&&◌, false≢true, or-true, and-eq-true_iff}
use lib.Dec.{eqb}
use lib.ListN.{length, drop}
use borrow.Author.Tests.{lt-ltb, ne_eqb, eqb-true}
use Rattle.scan.specs.Scan.{is_at, starts_at, begins}
use Rattle.scan.proofs.Bytes.{told, on_test, drop_below, drop_byte}
use Rattle.items.specs.declared.Sort.{Sort}
use Rattle.items.specs.declared.Sort.TheVariants.{BarSort, EndSort, QuotedSort, PrecSort, ActionSort, EmptySort, BareSort}
use Rattle.items.specs.declared.Spotted.{Spotted}
use Rattle.items.specs.Items.{Mark, marks, prec_word, first_mark, sort_at, may_end, may_follow}

-- by the bytes that are left
unfoldable pub mark_in : List Mark → List ℕ → ℕ → Spotted
mark_in [] l at = record { sort = BareSort; end = at }
mark_in (m ∷ ms) l at = elim (begins m.word l) [ true ↦ record { sort = m.is; end = at + length m.word } | false ↦ mark_in ms l at ]

mark_in_lem : (ms : List Mark) (s : List ℕ) (at : ℕ) → first_mark ms s at ≡ mark_in ms (drop at s) at
unfolding first_mark mark_in starts_at
mark_in_lem [] s at = refl
mark_in_lem (m ∷ ms) s at = ap (λ (x : Spotted). elim (begins m.word (drop at s)) [ true ↦ record { sort = m.is; end = at + length m.word } | false ↦ x ]) (mark_in_lem ms s at)

pub sort_in : (s : List ℕ) (at : ℕ) (l : List ℕ) → drop at s ≡ l → sort_at s at ≡ mark_in marks l at
unfolding sort_at
sort_in s at l q = mark_in_lem marks s at ∙ ap (λ (x : List ℕ). mark_in marks x at) q

-- a list begins with a word
pub begins_front : (w l : List ℕ) → begins w l ≡ true → (r : List ℕ) × (l ≡ w ++ r)
unfolding begins
begins_front [] l e = (l, refl)
begins_front (w ∷ ws) [] e = absurd (false≢true e)
begins_front (w ∷ ws) (c ∷ cs) e = go (eqb c w) refl (begins_front ws cs) e
  where
    go : (q : Bool) → eqb c w ≡ q → (begins ws cs ≡ true → (r : List ℕ) × (cs ≡ ws ++ r)) → elim q [ true ↦ begins ws cs | false ↦ false ] ≡ true → (r : List ℕ) × (c ∷ cs ≡ w ∷ (ws ++ r))
    go true q f e = let x = f e in let z = eqb-true c w q in (x.0, rw (z, x.1))
    go false q f e = absurd (false≢true e)

-- the bytes that a sort has stood for
abbrev pub Told : Sort → List ℕ → Type 0
Told BarSort l = (r : List ℕ) × (l ≡ 124 ∷ r)
Told EndSort l = (r : List ℕ) × (l ≡ 59 ∷ r)
Told QuotedSort l = Unit {0}
Told PrecSort l = (r : List ℕ) × (l ≡ 37 ∷ 112 ∷ 114 ∷ 101 ∷ 99 ∷ r)
Told ActionSort l = (r : List ℕ) × (l ≡ 123 ∷ r)
Told EmptySort l = (r : List ℕ) × (l ≡ 37 ∷ 101 ∷ r)
Told BareSort l = Unit {0}

abbrev AllTold : List Mark → List ℕ → Type 0
AllTold [] l = Unit {0}
AllTold (m ∷ ms) l = (begins m.word l ≡ true → Told m.is l) × AllTold ms l

first_told : (ms : List Mark) (l : List ℕ) (at : ℕ) → AllTold ms l → Told (mark_in ms l at).sort l
unfolding mark_in
first_told [] l at x = tt
first_told (m ∷ ms) l at x = on_test (λ (y : Spotted). Told y.sort l) (begins m.word l) _ _ x.0 (λ e. first_told ms l at x.1)

all_told : (l : List ℕ) → AllTold marks l
all_told l =
    (begins_front (124 ∷ []) l, (begins_front (59 ∷ []) l, (λ e. tt, (λ e. tt, (begins_front (37 ∷ 112 ∷ 114 ∷ 101 ∷ 99 ∷ []) l, (begins_front (123 ∷ []) l, (λ e. empties l e, tt)))))))
  where
    empties : (l : List ℕ) → begins (37 ∷ 101 ∷ 109 ∷ 112 ∷ 116 ∷ 121 ∷ []) l ≡ true → (r : List ℕ) × (l ≡ 37 ∷ 101 ∷ r)
    empties l e = let x = begins_front (37 ∷ 101 ∷ 109 ∷ 112 ∷ 116 ∷ 121 ∷ []) l e in (109 ∷ 112 ∷ 116 ∷ 121 ∷ x.0, x.1)

pub sort_told : (s : List ℕ) (i : ℕ) (x : Sort) (a : ℕ) → sort_at s i ≡ record { sort = x; end = a } → Told x (drop i s)
sort_told s i x a e =
    told (λ (y : Spotted). Told y.sort (drop i s)) (sym (sort_in s i (drop i s) refl) ∙ e) (first_told marks (drop i s) i (all_told (drop i s)))

-- the marks as they are shipped
module _ (s : List ℕ) (at : ℕ) (l : List ℕ) where
  pub bar_sort : drop at s ≡ 124 ∷ l → sort_at s at ≡ record { sort = BarSort; end = at + 1 }
  unfolding mark_in begins
  bar_sort q = sort_in s at _ q

  pub end_sort : drop at s ≡ 59 ∷ l → sort_at s at ≡ record { sort = EndSort; end = at + 1 }
  unfolding mark_in begins
  end_sort q = sort_in s at _ q

  pub prec_sort : drop at s ≡ 37 ∷ 112 ∷ 114 ∷ 101 ∷ 99 ∷ l → sort_at s at ≡ record { sort = PrecSort; end = at + 5 }
  unfolding mark_in begins
  prec_sort q = sort_in s at _ q

  pub empty_sort : drop at s ≡ 37 ∷ 101 ∷ 109 ∷ 112 ∷ 116 ∷ 121 ∷ l → sort_at s at ≡ record { sort = EmptySort; end = at + 6 }
  unfolding mark_in begins
  empty_sort q = sort_in s at _ q

  pub action_sort : drop at s ≡ 123 ∷ l → sort_at s at ≡ record { sort = ActionSort; end = at + 1 }
  unfolding mark_in begins
  action_sort q = sort_in s at _ q

-- a mark is one byte, or begins with `%`
abbrev plain : List ℕ → Bool
plain [] = false
plain (w ∷ []) = true
plain (w ∷ (v ∷ vs)) = eqb w 37

abbrev all : List Mark → Bool
all [] = true
all (m ∷ ms) = plain m.word && all ms

-- so an item that does not begin with `%` is told by its first byte
module _ (c : ℕ) (l r : List ℕ) (n : c ≡ 37 → ⊥) where
  begins_byte : (w : List ℕ) → plain w ≡ true → begins w (c ∷ l) ≡ begins w (c ∷ r)
  unfolding begins
  begins_byte [] h = absurd (false≢true h)
  begins_byte (w ∷ []) h = refl
  begins_byte (w ∷ (v ∷ vs)) h = let e = eqb-true w 37 h in let f = ne_eqb c w (λ g. n (g ∙ e)) in no f (begins (v ∷ vs) l) (begins (v ∷ vs) r)
    where
      no : eqb c w ≡ false → (x y : Bool) → ◌≡◌ {A = Bool} (elim (eqb c w) [ true ↦ x | false ↦ false ]) (elim (eqb c w) [ true ↦ y | false ↦ false ])
      no f x y = rw f

  marks_byte : (ms : List Mark) (i j : ℕ) → all ms ≡ true → (mark_in ms (c ∷ l) i).sort ≡ (mark_in ms (c ∷ r) j).sort
  unfolding mark_in
  marks_byte [] i j h = refl
  marks_byte (m ∷ ms) i j h =
      let k = (and-eq-true_iff (plain m.word) (all ms)).0 h in
      go (begins m.word (c ∷ l)) (begins m.word (c ∷ r)) (begins_byte m.word k.0) (marks_byte ms i j k.1)
    where
      pick : Bool → ℕ → Spotted → Spotted
      pick a i x = elim a [ true ↦ record { sort = m.is; end = i + length m.word } | false ↦ x ]

      go : (a b : Bool) → a ≡ b → (mark_in ms (c ∷ l) i).sort ≡ (mark_in ms (c ∷ r) j).sort
          → (pick a i (mark_in ms (c ∷ l) i)).sort ≡ (pick b j (mark_in ms (c ∷ r) j)).sort
      go true true e x = refl
      go true false e x = absurd (false≢true (sym e))
      go false true e x = absurd (false≢true e)
      go false false e x = x

pub byte_sort : (s t : List ℕ) (i j c : ℕ) (l r : List ℕ) → drop i s ≡ c ∷ l → drop j t ≡ c ∷ r → (c ≡ 37 → ⊥) → (sort_at s i).sort ≡ (sort_at t j).sort
byte_sort s t i j c l r p q n = ap (λ (x : Spotted). x.sort) (sort_in s i _ p) ∙ marks_byte c l r n marks i j refl ∙ ap (λ (x : Spotted). x.sort) (sym (sort_in t j _ q))

-- what may end a production is told by one byte
at_in : (s : List ℕ) (i b c : ℕ) (l : List ℕ) → drop i s ≡ c ∷ l → is_at b s i ≡ eqb c b
unfolding is_at
at_in s i b c l q = rw (lt-ltb _ _ (drop_below s i c l q), drop_byte s i c l q)

pub byte_ends : (s t : List ℕ) (i j c : ℕ) (l r : List ℕ) → drop i s ≡ c ∷ l → drop j t ≡ c ∷ r → may_end s i ≡ may_end t j
unfolding may_end
byte_ends s t i j c l r p q = rw (at_in s i 124 c l p, at_in s i 59 c l p, at_in t j 124 c r q, at_in t j 59 c r q)

pub byte_follows : (s t : List ℕ) (i j c : ℕ) (l r : List ℕ) → drop i s ≡ c ∷ l → drop j t ≡ c ∷ r → (c ≡ 37 → ⊥) → may_follow s i ≡ may_follow t j
unfolding may_follow starts_at
byte_follows s t i j c l r p q n =
    ap₂ (λ (x y : Bool). x || y) (ap₂ (λ (x y : Bool). x || y) (byte_ends s t i j c l r p q) (at_in s i 123 c l p ∙ sym (at_in t j 123 c r q)))
    (ap (begins prec_word) p ∙ begins_byte c l r n prec_word refl ∙ ap (begins prec_word) (sym q))

pub prec_follows : (t : List ℕ) (j : ℕ) (r : List ℕ) → drop j t ≡ 37 ∷ 112 ∷ 114 ∷ 101 ∷ 99 ∷ r → may_follow t j ≡ true
unfolding may_follow may_end starts_at begins
prec_follows t j r q = ap₂ (λ (x y : Bool). x || y) (refl {a = may_end t j || is_at 123 t j}) (ap (begins prec_word) q) ∙ or-true (may_end t j || is_at 123 t j)

-- `%empty` does not
pub empty_follows : (t : List ℕ) (j : ℕ) (r : List ℕ) → drop j t ≡ 37 ∷ 101 ∷ r → may_follow t j ≡ false
unfolding may_follow may_end starts_at begins
empty_follows t j r q = rw (at_in t j 124 37 (101 ∷ r) q, at_in t j 59 37 (101 ∷ r) q, at_in t j 123 37 (101 ∷ r) q) (ap (begins prec_word) q)
