-- No fault, part by part: every name that validation looks up is known. Assumes nothing.
use Prim.Native.Nat.{ℕ, zero, suc, ◌+◌, ◌-◌, ◌≤◌, ◌<◌}
use mathlib.Core.Path.{◌≡◌, refl, sym, ap, ◌∙◌}
use mathlib.Core.List.{List, [], ◌∷◌, ◌++◌}
use mathlib.Core.Bool.{Bool, true, false}
use native.Mathlib.Omega.{arith}
use native.Mathlib.Decide.{dec_lt}
use lib.Dec.{eqb}
use borrow.Author.Tests.{eq-eqb, ne_eqb, eqb-true, eqb-false}
use Rattle.tables.specs.Table.{cell}
use Rattle.tables.specs.Layout.{tokens, precedences, implicit, epps, unused, rules, productions, symbols, rule_row, symbols_from, symbols_to, width}
use Rattle.grammar.specs.declared.Counts.{Counts}
use Rattle.grammar.specs.declared.Singles.{Singles}
use Rattle.grammar.specs.Sound.{Tables}
use Rattle.productions.specs.Cells.{cell_of, production_at}
use Rattle.sound.specs.Test.{count_at}
use Rattle.validation.specs.declared.Flaw.{Flaw}
use Rattle.validation.specs.declared.Flaw.TheVariants.{UnknownRuleRef, UnknownTokenRef}
use Rattle.validation.specs.Faults.{upto, unless, known, start_faults, prec_faults, name_faults, kind_faults, kinds_faults, production_faults, of_rule, rule_faults, rules_faults, epp_faults, epps_faults, faults}

-- lists without a fault
none_both : (xs ys : List Flaw) → xs ++ ys ≡ [] → (xs ≡ []) × (ys ≡ [])
none_both [] ys e = (refl, e)
none_both (x ∷ xs) ys e = let z : ◌≡◌ {A = ℕ} 0 1 = cc in absurd (omega arith)

both_none : {xs ys : List Flaw} → xs ≡ [] → ys ≡ [] → xs ++ ys ≡ []
both_none e h = rw (e, h)

pub unless_none : (b : Bool) (f : Flaw) → unless b f ≡ [] → b ≡ true
unless_none true f e = refl
unless_none false f e = let z : ◌≡◌ {A = ℕ} 0 1 = cc in absurd (omega arith)

pub none_unless : (b : Bool) (f : Flaw) → b ≡ true → unless b f ≡ []
none_unless b f e = rw e

upto_none : (n : ℕ) (f : ℕ → List Flaw) → upto n f ≡ [] → (i : ℕ) → i < n → f i ≡ []
unfolding upto
upto_none zero f e i h = absurd (omega arith)
upto_none (suc n) f e i h = go (dec_lt i n) (upto_none n f)
  where
    go : Dec (i < n) → (upto n f ≡ [] → (j : ℕ) → j < n → f j ≡ []) → f i ≡ []
    go (yes l) rest = rest (none_both (upto n f) (f n) e).0 i l
    go (no l) rest = let q : i ≡ n = omega arith in rw q (none_both (upto n f) (f n) e).1

none_upto : (n : ℕ) (f : ℕ → List Flaw) → ((i : ℕ) → i < n → f i ≡ []) → upto n f ≡ []
unfolding upto
none_upto zero f a = refl
none_upto (suc n) f a = both_none (none_upto n f (λ i h. a i (omega arith))) (a n (omega arith))

-- a name of a kind
module _ (src : List ℕ) (kind a b : ℕ) (t1 : List ℕ) (n : ℕ) (t7 : List ℕ) (m : ℕ) where
  name_is_rule : kind ≡ 1 → name_faults src kind a b t1 n t7 m ≡ unless (known src t7 (width rules) m a b) (UnknownRuleRef a b)
  unfolding name_faults
  name_is_rule k = rw (name_faults, eq-eqb kind 1 k)

  name_is_token : (kind ≡ 1 → ⊥) → name_faults src kind a b t1 n t7 m ≡ unless (known src t1 (width tokens) n a b) (UnknownTokenRef a b)
  unfolding name_faults
  name_is_token k = rw (name_faults, ne_eqb kind 1 k)

  pub rule_name_known : name_faults src kind a b t1 n t7 m ≡ [] → kind ≡ 1 → known src t7 (width rules) m a b ≡ true
  rule_name_known e k = unless_none (known src t7 (width rules) m a b) (UnknownRuleRef a b) (sym (name_is_rule k) ∙ e)

  pub token_name_known : name_faults src kind a b t1 n t7 m ≡ [] → (kind ≡ 1 → ⊥) → known src t1 (width tokens) n a b ≡ true
  token_name_known e k = unless_none (known src t1 (width tokens) n a b) (UnknownTokenRef a b) (sym (name_is_token k) ∙ e)

  pub name_known : (kind ≡ 1 → known src t7 (width rules) m a b ≡ true) → ((kind ≡ 1 → ⊥) → known src t1 (width tokens) n a b ≡ true) → name_faults src kind a b t1 n t7 m ≡ []
  name_known f g = go (eqb kind 1) refl
    where
      go : (q : Bool) → eqb kind 1 ≡ q → name_faults src kind a b t1 n t7 m ≡ []
      go true e = let k = eqb-true kind 1 e in name_is_rule k ∙ none_unless (known src t7 (width rules) m a b) (UnknownRuleRef a b) (f k)
      go false e = let k = eqb-false kind 1 e in name_is_token k ∙ none_unless (known src t1 (width tokens) n a b) (UnknownTokenRef a b) (g k)

-- what validation asks, test by test
pub record Complete (src : List ℕ) (c : Counts) (g : Singles) (T : Tables) : Type 0 where
  pub start : start_faults src g.start T.t7 (count_at c rules) ≡ []
  pub precs : (p : ℕ) → p < count_at c productions → prec_faults src (production_at T.t8 p).prec T.t1 (count_at c tokens) T.t2 (count_at c precedences) ≡ []
  pub syms : (p s : ℕ) → p < count_at c productions → cell (width productions) T.t8 p symbols_from ≤ s → s < cell (width productions) T.t8 p symbols_to → kind_faults src (width symbols) T.t9 T.t1 (count_at c tokens) T.t7 (count_at c rules) s ≡ []
  pub epps : (r : ℕ) → r < count_at c epps → epp_faults src T.t1 (count_at c tokens) T.t4 (count_at c implicit) T.t5 r ≡ []
  pub unused : (r : ℕ) → r < count_at c unused → kind_faults src (width unused) T.t6 T.t1 (count_at c tokens) T.t7 (count_at c rules) r ≡ []

module _ (src : List ℕ) (c : Counts) (g : Singles) (T : Tables) where
  abbrev all : List Flaw
  all = faults src c g T.t1 T.t2 T.t4 T.t5 T.t6 T.t7 T.t8 T.t9

  abbrev production : ℕ → List Flaw
  production p = production_faults src T.t1 (count_at c tokens) T.t2 (count_at c precedences) T.t7 (count_at c rules) T.t8 T.t9 p

  abbrev kind : ℕ → List ℕ → ℕ → List Flaw
  kind w t s = kind_faults src w t T.t1 (count_at c tokens) T.t7 (count_at c rules) s

  kinds_none : (w : ℕ) (t : List ℕ) (from to : ℕ) → kinds_faults src w t T.t1 (count_at c tokens) T.t7 (count_at c rules) from to ≡ [] → (s : ℕ) → from ≤ s → s < to → kind w t s ≡ []
  unfolding kinds_faults
  kinds_none w t from to e s h l =
      let q : from + (s - from) ≡ s = omega arith in
      ap (kind w t) (sym q) ∙ upto_none (to - from) (λ i. kind w t (from + i)) e (s - from) (omega arith)

  none_kinds : (w : ℕ) (t : List ℕ) (from to : ℕ) → ((s : ℕ) → from ≤ s → s < to → kind w t s ≡ []) → kinds_faults src w t T.t1 (count_at c tokens) T.t7 (count_at c rules) from to ≡ []
  unfolding kinds_faults
  none_kinds w t from to f = none_upto (to - from) (λ i. kind w t (from + i)) (λ i h. f (from + i) (omega arith) (omega arith))

  of_none : (b : Bool) (fs : List Flaw) → b ≡ true → of_rule b fs ≡ [] → fs ≡ []
  of_none true fs q e = e
  of_none false fs q e = let z : ◌≡◌ {A = ℕ} 0 1 = cc in absurd (omega arith)

  none_of : (b : Bool) (fs : List Flaw) → fs ≡ [] → of_rule b fs ≡ []
  none_of true fs e = e
  none_of false fs e = refl

  -- every production is of a rule, so it was looked at
  pub complete : ((p : ℕ) → p < count_at c productions → cell (width productions) T.t8 p rule_row < count_at c rules) → all ≡ [] → Complete src c g T
  unfolding faults rules_faults rule_faults production_faults epps_faults production_at
  complete owned e =
      let x = none_both (start_faults src g.start T.t7 (count_at c rules)) _ e in
      let y = none_both (rules_faults src T.t1 (count_at c tokens) T.t2 (count_at c precedences) T.t7 (count_at c rules) T.t8 T.t9 (count_at c productions)) _ x.1 in
      let z = none_both (epps_faults src T.t1 (count_at c tokens) T.t4 (count_at c implicit) T.t5 (count_at c epps)) _ y.1 in
      let one : (p : ℕ) → p < count_at c productions → production p ≡ [] =
      λ p h.
      let k = cell (width productions) T.t8 p rule_row in
      of_none (eqb k k) (production p) (eq-eqb k k refl)
      (upto_none (count_at c productions) (λ r. of_rule (eqb (cell_of T.t8 r rule_row) k) (production r)) (upto_none (count_at c rules) (rule_faults src T.t1 (count_at c tokens) T.t2 (count_at c precedences) T.t7 (count_at c rules) T.t8 T.t9 (count_at c productions)) y.0 k (owned p h)) p h) in
      record {
        start = x.0;
        precs = λ p h. (none_both (prec_faults src (production_at T.t8 p).prec T.t1 (count_at c tokens) T.t2 (count_at c precedences)) _ (one p h)).0;
        syms = λ p s h k l. kinds_none (width symbols) T.t9 _ _ (none_both (prec_faults src (production_at T.t8 p).prec T.t1 (count_at c tokens) T.t2 (count_at c precedences)) _ (one p h)).1 s k l;
        epps = λ r h. upto_none (count_at c epps) (epp_faults src T.t1 (count_at c tokens) T.t4 (count_at c implicit) T.t5) z.0 r h;
        unused = λ r h. kinds_none (width unused) T.t6 0 (count_at c unused) z.1 r (omega arith) h;
      }

  pub complete_none : Complete src c g T → all ≡ []
  unfolding faults rules_faults rule_faults production_faults epps_faults production_at
  complete_none x =
      both_none x.start
      (both_none
      (none_upto (count_at c rules) (rule_faults src T.t1 (count_at c tokens) T.t2 (count_at c precedences) T.t7 (count_at c rules) T.t8 T.t9 (count_at c productions))
      (λ k l. none_upto (count_at c productions) (λ r. of_rule (eqb (cell_of T.t8 r rule_row) k) (production r)) (λ p h. none_of (eqb (cell_of T.t8 p rule_row) k) (production p) (both_none (x.precs p h) (none_kinds (width symbols) T.t9 _ _ (λ s. x.syms p s h))))))
      (both_none
      (none_upto (count_at c epps) (epp_faults src T.t1 (count_at c tokens) T.t4 (count_at c implicit) T.t5) x.epps)
      (none_kinds (width unused) T.t6 0 (count_at c unused) (λ s a b. x.unused s b))))
