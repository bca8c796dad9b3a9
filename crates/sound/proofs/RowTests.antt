-- What the test of Each table's rows tells: the row's record. A row's cells are the table's. Assumes nothing.
use Prim.Native.Nat.{ℕ, zero, suc, ◌+◌, ◌≤◌, ◌<◌}
use mathlib.Core.Path.{◌≡◌}
use mathlib.Core.List.{List}
use mathlib.Core.Bool.{true}
use mathlib.Core.Logic.Iff
use mathlib.Core.Logic.{◌↔◌}
use native.Mathlib.Omega.{arith}
use lib.Dec.{leb, ltb}
use lib.ListN.{get_or}
use Rattle.tables.specs.Table.{cell, lies}
use Rattle.tables.specs.Rows.{row_at}
use Rattle.tables.specs.Layout.{tokens, precedences, avoided, implicit, epps, unused, rules, productions, symbols, repeats, declared, association, key_name, value, typed, rule_row, place, prec, action, kind_name, tags, tag_place, token_numbers, bodies, width}
use Rattle.tables.proofs.Rows.{row_cell}
use Rattle.grammar.specs.State.{Passed}
use Rattle.grammar.specs.Sound.{Given, GivenAction, View, TokenRow, PrecRow, NameRow, EppRow, KindRow, RuleRow, ProductionRow, RepeatRow, TagRow, BodyRow, Each}
use Rattle.sound.specs.Test.{given_test, action_test, token_test, prec_test, name_test, epp_test, kind_test, rule_test, production_test, repeat_test, tag_test, row_test}
use Rattle.tables.proofs.Tells.{both_iff, le_iff, lt_iff}
use Rattle.sound.proofs.Tells.{lies_iff, given_iff, given_action_iff}

module _ (src t : List ℕ) (r : ℕ) where
  -- tests of cells, as what they tell of the row
  module _ (w k : ℕ) where
    least : (n : ℕ) → k < w → (leb n (cell w t r k) ≡ true) ↔ (n ≤ get_or (row_at w t r) k 0)
    least n h = rw (row_cell w t r k h) (le_iff n (cell w t r k))

    most : (n : ℕ) → k < w → (leb (cell w t r k) n ≡ true) ↔ (get_or (row_at w t r) k 0 ≤ n)
    most n h = rw (row_cell w t r k h) (le_iff (cell w t r k) n)

    less : (n : ℕ) → k < w → (ltb (cell w t r k) n ≡ true) ↔ (get_or (row_at w t r) k 0 < n)
    less n h = rw (row_cell w t r k h) (lt_iff (cell w t r k) n)

    placed : k + 1 < w → (lies src (cell w t r k) (cell w t r (k + 1)) ≡ true) ↔ Passed src (get_or (row_at w t r) k 0) (get_or (row_at w t r) (k + 1) 0)
    placed h = rw (row_cell w t r k (omega arith), row_cell w t r (k + 1) h) (lies_iff src (cell w t r k) (cell w t r (k + 1)))

    given : k + 2 < w → (given_test src (cell w t r k) (cell w t r (k + 1)) (cell w t r (k + 2)) ≡ true)
        ↔ Given src (get_or (row_at w t r) k 0) (get_or (row_at w t r) (k + 1) 0) (get_or (row_at w t r) (k + 2) 0)
    given h = rw (row_cell w t r k (omega arith), row_cell w t r (k + 1) (omega arith), row_cell w t r (k + 2) h) (given_iff src _ _ _)

    acted : k + 4 < w → (action_test src (cell w t r k) (cell w t r (k + 1)) (cell w t r (k + 2)) (cell w t r (k + 3)) (cell w t r (k + 4)) ≡ true)
        ↔ GivenAction src (get_or (row_at w t r) k 0) (get_or (row_at w t r) (k + 1) 0) (get_or (row_at w t r) (k + 2) 0) (get_or (row_at w t r) (k + 3) 0) (get_or (row_at w t r) (k + 4) 0)
    acted h =
        rw (row_cell w t r k (omega arith), row_cell w t r (k + 1) (omega arith), row_cell w t r (k + 2) (omega arith), row_cell w t r (k + 3) (omega arith), row_cell w t r (k + 4) h)
        (given_action_iff src _ _ _ _ _)

  token_iff : (token_test src t r ≡ true) ↔ TokenRow src (row_at (width tokens) t r)
  unfolding token_test
  token_iff =
      Iff.trans (both_iff (placed (width tokens) 0 (omega arith)) (most (width tokens) declared 1 (omega arith)))
      (λ x. record { name = x.0; flag = x.1 }, λ y. (y.name, y.flag))

  name_iff : (w : ℕ) → 1 < w → (name_test src w t r ≡ true) ↔ NameRow src (row_at w t r)
  unfolding name_test
  name_iff w h = Iff.trans (placed w 0 h) (λ x. record { name = x }, λ y. y.name)

  tag_iff : (tag_test src t r ≡ true) ↔ TagRow src (row_at (width tags) t r)
  unfolding tag_test
  tag_iff =
      Iff.trans (both_iff (placed (width tags) 0 (omega arith)) (placed (width tags) tag_place (omega arith)))
      (λ x. record { name = x.0; tag = x.1 }, λ y. (y.name, y.tag))

  epp_iff : (v : View) → ((src : List ℕ) (a b : ℕ) → v.whole src a b) → (epp_test src t r ≡ true) ↔ EppRow src v (row_at (width epps) t r)
  unfolding epp_test
  epp_iff v any =
      Iff.trans
      (both_iff (both_iff (placed (width epps) 0 (omega arith)) (placed (width epps) key_name (omega arith))) (placed (width epps) value (omega arith)))
      (λ x. record { key = x.0.0; name = x.0.1; text = x.1; closed = any src _ _ }, λ y. ((y.key, y.name), y.text))

  kind_iff : (w : ℕ) → 2 < w → (kind_test src w t r ≡ true) ↔ KindRow src (row_at w t r)
  unfolding kind_test
  kind_iff w h =
      Iff.trans
      (both_iff (both_iff (least w 0 1 (omega arith)) (most w 0 2 (omega arith))) (placed w kind_name (omega arith)))
      (λ x. record { least = x.0.0; most = x.0.1; name = x.1 }, λ y. ((y.least, y.most), y.name))

  body_iff : (kind_test src (width bodies) t r ≡ true) ↔ BodyRow src (row_at (width bodies) t r)
  body_iff = Iff.trans (kind_iff (width bodies) (omega arith)) (λ x. record { least = x.least; most = x.most; text = x.name }, λ y. record { least = y.least; most = y.most; name = y.text })

  rule_iff : (rule_test src t r ≡ true) ↔ RuleRow src (row_at (width rules) t r)
  unfolding rule_test
  rule_iff =
      Iff.trans (both_iff (placed (width rules) 0 (omega arith)) (given (width rules) typed (omega arith)))
      (λ x. record { name = x.0; type = x.1 }, λ y. (y.name, y.type))

  repeat_iff : (repeat_test src t r ≡ true) ↔ RepeatRow src (row_at (width repeats) t r)
  unfolding repeat_test
  repeat_iff =
      Iff.trans
      (both_iff (both_iff (both_iff (least (width repeats) 0 20 (omega arith)) (most (width repeats) 0 27 (omega arith))) (placed (width repeats) 1 (omega arith)))
      (placed (width repeats) 3 (omega arith)))
      (λ x. record { least = x.0.0.0; most = x.0.0.1; first = x.0.1; again = x.1 }, λ y. (((y.least, y.most), y.first), y.again))

  module _ (v : View) where
    -- levels are free
    prec_iff : ((n : ℕ) → v.low n) → (prec_test src t r ≡ true) ↔ PrecRow src v (row_at (width precedences) t r)
    unfolding prec_test
    prec_iff free =
        Iff.trans
        (both_iff (both_iff (placed (width precedences) 0 (omega arith)) (least (width precedences) association 1 (omega arith))) (most (width precedences) association 3 (omega arith)))
        (λ x. record { name = x.0.0; earlier = free _; least = x.0.1; most = x.1 }, λ y. ((y.name, y.least), y.most))

    production_iff : (production_test src v.rules t r ≡ true) ↔ ProductionRow src v (row_at (width productions) t r)
    unfolding production_test
    production_iff =
        Iff.trans
        (both_iff (both_iff (both_iff (less (width productions) rule_row v.rules (omega arith)) (placed (width productions) place (omega arith)))
        (given (width productions) prec (omega arith))) (acted (width productions) action (omega arith)))
        (λ x. record { rule = x.0.0.0; span = x.0.0.1; precedence = x.0.1; body = x.1 }, λ y. (((y.rule, y.span), y.precedence), y.body))

    -- Each row as its table's test tells it
    pub each_iff : ((n : ℕ) → v.low n) → ((src : List ℕ) (a b : ℕ) → v.whole src a b) → (k : ℕ) → k < 13 → (row_test src v.rules k t r ≡ true) ↔ Each src v k (row_at (width k) t r)
    each_iff free any zero h = token_iff
    each_iff free any (suc zero) h = prec_iff free
    each_iff free any (suc (suc zero)) h = name_iff (width avoided) (omega arith)
    each_iff free any (suc (suc (suc zero))) h = name_iff (width implicit) (omega arith)
    each_iff free any (suc (suc (suc (suc zero)))) h = epp_iff v any
    each_iff free any (suc (suc (suc (suc (suc zero))))) h = kind_iff (width unused) (omega arith)
    each_iff free any (suc (suc (suc (suc (suc (suc zero)))))) h = rule_iff
    each_iff free any (suc (suc (suc (suc (suc (suc (suc zero))))))) h = production_iff
    each_iff free any (suc (suc (suc (suc (suc (suc (suc (suc zero)))))))) h = kind_iff (width symbols) (omega arith)
    each_iff free any (suc (suc (suc (suc (suc (suc (suc (suc (suc zero))))))))) h = repeat_iff
    each_iff free any (suc (suc (suc (suc (suc (suc (suc (suc (suc (suc zero)))))))))) h = tag_iff
    each_iff free any (suc (suc (suc (suc (suc (suc (suc (suc (suc (suc (suc zero))))))))))) h = name_iff (width token_numbers) (omega arith)
    each_iff free any (suc (suc (suc (suc (suc (suc (suc (suc (suc (suc (suc (suc zero)))))))))))) h = body_iff
    each_iff free any (suc (suc (suc (suc (suc (suc (suc (suc (suc (suc (suc (suc (suc k))))))))))))) h = absurd (omega arith)
