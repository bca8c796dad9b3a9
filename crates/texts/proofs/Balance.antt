-- "Actions balance braces and look at nothing else.": an action ends at the closing brace that balances, and 6 is given where none does. Assumes nothing.
use Rattle.std.specs.Prelude.{Option, Some, None, Ok, Err}
use Prim.Native.Nat.{ℕ, ◌+◌, ◌-◌, ◌≤◌, ◌<◌}
use mathlib.Core.Path.{◌≡◌, refl, sym, ◌∙◌}
use mathlib.Core.List.{List, [], ◌∷◌}
use mathlib.Core.Bool.{false}
use mathlib.Core.Logic.{◌↔◌, ⊎_elim}
use native.Mathlib.Omega.{arith}
use native.Mathlib.Decide.{ℕ_discrete}
use lib.Dec.{eqb}
use lib.ListN.{length, get_or, drop}
use borrow.Author.Tests.{eq-eqb, eqb-true, eqb-false}
use Rattle.scan.proofs.Tuples.{ok_4}
use Rattle.scan.specs.declared.Place.{Place}
use Rattle.scan.specs.Scan.{is_eol}
use Rattle.scan.specs.Lines.{lines_here, lines_to}
use Rattle.scan.proofs.Bytes.{le_or_lt, on_test, drop_below, drop_next, drop_byte, drop_ended}
use Rattle.scan.proofs.Tally.{tally_none, tally_hit, tally_miss, tally_last, tally_skip}
use Rattle.trim.specs.Trim.{trimmed}
use Rattle.texts.specs.Action.{braced, braced_from, braced_at, span_of, acted, action_at}
use Rattle.texts.specs.Balance.{openings, closings, IsAction}
use Rattle.texts.proofs.Lines.{braced_tells}

-- The brace at `to` closes the first one, d more being open at i: the same as balancing, of what is left.
record Closing (s : List ℕ) (d i to : ℕ) : Type 0 where
  onward : i ≤ to
  inside : to < length s
  closes : get_or s to 0 ≡ 125
  even : openings s i to + d ≡ closings s i to
  beginnings : (k : ℕ) → i ≤ k → k ≤ to → closings s i k ≤ openings s i k + d

module _ (s : List ℕ) where
  -- There is one such brace at most: with a second one the first would be a closing brace too many.
  closing_one : (d i to to' : ℕ) → Closing s d i to → Closing s d i to' → to ≡ to'
  closing_one d i to to' x y = ⊎_elim (λ h. ⊎_elim (λ k. omega arith) (λ k. absurd (over to to' x y k)) (le_or_lt to' to)) (λ h. absurd (over to' to y x h)) (le_or_lt to to')
    where
      over : (a b : ℕ) → Closing s d i a → Closing s d i b → a < b → ⊥
      over a b x y h =
          let o = x.onward in
          let l = x.inside in
          let e = x.even in
          let c = tally_last (λ c. eqb c 125) s i a o l (eq-eqb _ _ x.closes) in
          let n = tally_skip (λ c. eqb c 123) s i a o l (rw x.closes) in
          let u = y.beginnings (a + 1) (omega arith) (omega arith) in
          omega arith

  -- A byte that opens o braces and closes c: with d open before it, e are open behind it.
  record Byte (i o c d e : ℕ) : Type 0 where
    opens : (j : ℕ) → i < j → j ≤ length s → openings s i j ≡ o + openings s (i + 1) j
    shuts : (j : ℕ) → i < j → j ≤ length s → closings s i j ≡ c + closings s (i + 1) j
    left : e + c ≡ d + o

  module _ (i o c d e to : ℕ) (b : Byte i o c d e) where
    -- It passes, if the rest closes,
    closing_back : Closing s e (i + 1) to → Closing s d i to
    closing_back x =
        let h = x.onward in
        let l = x.inside in
        let q = x.even in
        let u = b.opens to (omega arith) (omega arith) in
        let v = b.shuts to (omega arith) (omega arith) in
        let w = b.left in
        record { onward = omega arith; inside = l; closes = x.closes; even = omega arith; beginnings = λ k a z. each k a z (ℕ_discrete k i) }
      where
        each : (k : ℕ) → i ≤ k → k ≤ to → Dec (k ≡ i) → closings s i k ≤ openings s i k + d
        each k a z (yes q) = let m = tally_none (λ c. eqb c 125) s i in rw q (omega arith)
        each k a z (no q) =
            let l = x.inside in
            let r = x.beginnings k (omega arith) z in
            let u = b.opens k (omega arith) (omega arith) in
            let v = b.shuts k (omega arith) (omega arith) in
            let w = b.left in
            omega arith

    -- and the rest closes, if it is not the closing brace itself.
    closing_on : (get_or s i 0 ≡ 125 → d ≡ 0 → ⊥) → Closing s d i to → Closing s e (i + 1) to
    closing_on f x =
        let l = x.inside in
        let h = past in
        let q = x.even in
        let u = b.opens to (omega arith) (omega arith) in
        let v = b.shuts to (omega arith) (omega arith) in
        let w = b.left in
        record { onward = omega arith; inside = l; closes = x.closes; even = omega arith; beginnings = λ k a z. each k a z }
      where
        none : to ≡ i → d ≡ 0
        none q =
            let m = rw q at x.even in
            let u = tally_none (λ c. eqb c 123) s i in
            let v = tally_none (λ c. eqb c 125) s i in
            omega arith

        past : i < to
        past = elim (ℕ_discrete to i) [ yes q ↦ absurd (f (rw q at x.closes) (none q)) | no q ↦ let h = x.onward in omega arith ]

        each : (k : ℕ) → i + 1 ≤ k → k ≤ to → closings s (i + 1) k ≤ openings s (i + 1) k + e
        each k a z =
            let l = x.inside in
            let q = x.beginnings k (omega arith) z in
            let u = b.opens k (omega arith) (omega arith) in
            let v = b.shuts k (omega arith) (omega arith) in
            let w = b.left in
            omega arith

  -- what the scan answers with d braces open at i
  abbrev Tells : ℕ → ℕ → Option (ℕ × ℕ) → Type 0
  Tells d i (Some (to, n)) = Closing s d i to
  Tells d i None = (to : ℕ) → Closing s d i to → ⊥

  -- a byte passed
  module _ (i o c d e : ℕ) (b : Byte i o c d e) (f : get_or s i 0 ≡ 125 → d ≡ 0 → ⊥) where
    tells_on : (r : Option (ℕ × ℕ)) → Tells e (i + 1) r → Tells d i r
    tells_on (Some (to, n)) x = closing_back i o c d e to b x
    tells_on None x = λ to y. x to (closing_on i o c d e to b f y)

  -- the three sorts of bytes that are passed
  module _ (i d : ℕ) (l : i < length s) where
    opening : get_or s i 0 ≡ 123 → Byte i 1 0 d (d + 1)
    opening q =
        record {
          opens = λ j h k. let z = tally_hit (λ c. eqb c 123) s i j h k (eq-eqb _ _ q) in omega arith;
          shuts = λ j h k. let z = tally_miss (λ c. eqb c 125) s i j h k (rw q) in omega arith;
          left = omega arith;
        }

    shutting : get_or s i 0 ≡ 125 → (d ≡ 0 → ⊥) → Byte i 0 1 d (d - 1)
    shutting q f =
        record {
          opens = λ j h k. let z = tally_miss (λ c. eqb c 123) s i j h k (rw q) in omega arith;
          shuts = λ j h k. let z = tally_hit (λ c. eqb c 125) s i j h k (eq-eqb _ _ q) in omega arith;
          left = omega arith;
        }

    plain : eqb (get_or s i 0) 123 ≡ false → eqb (get_or s i 0) 125 ≡ false → Byte i 0 0 d d
    plain q r =
        record {
          opens = λ j h k. let z = tally_miss (λ c. eqb c 123) s i j h k q in omega arith;
          shuts = λ j h k. let z = tally_miss (λ c. eqb c 125) s i j h k r in omega arith;
          left = refl;
        }

    -- the closing brace itself
    last : get_or s i 0 ≡ 125 → d ≡ 0 → Closing s d i i
    last q z =
        let u = tally_none (λ c. eqb c 123) s i in
        let v = tally_none (λ c. eqb c 125) s i in
        record { onward = omega arith; inside = l; closes = q; even = omega arith; beginnings = λ k a b. let e : k ≡ i = omega arith in rw e (omega arith) }

  -- The scan tells whether and where what is left closes.
  tells : (l : List ℕ) (d i n : ℕ) → drop i s ≡ l → i ≤ length s → Tells d i (braced d l i n)
  unfolding braced
  tells [] d i n q h = let z = drop_ended s i q h in λ to x. let a = x.onward in let b = x.inside in omega arith
  tells (c ∷ cs) d i n q h =
      let y = drop_below s i c cs q in
      let e = drop_byte s i c cs q in
      let on : (d m : ℕ) → Tells d (i + 1) (braced d cs (i + 1) m) = λ d m. tells cs d (i + 1) m (drop_next s i c cs q) (omega arith) in
      on_test (Tells d i) (eqb c 123) _ _
      (λ t. let k = e ∙ eqb-true c 123 t in tells_on i 1 0 d (d + 1) (opening i d y k) (λ z. absurd (omega arith)) (braced (d + 1) cs (i + 1) n) (on (d + 1) n))
      (λ f. on_test (Tells d i) (eqb c 125) _ _
      (λ t. let k = e ∙ eqb-true c 125 t in
      on_test (Tells d i) (eqb d 0) _ _
      (λ z. last i d y k (eqb-true d 0 z))
      (λ z. tells_on i 0 1 d (d - 1) (shutting i d y k (eqb-false d 0 z)) (λ w. eqb-false d 0 z) (braced (d - 1) cs (i + 1) n) (on (d - 1) n)))
      (λ g.
      let pass : (m : ℕ) → Tells d i (braced d cs (i + 1) m) = λ m. tells_on i 0 0 d d (plain i d y (rw e f) (rw e g)) (λ z. absurd (eqb-false c 125 g (sym e ∙ z))) (braced d cs (i + 1) m) (on d m) in
      on_test (Tells d i) (is_eol c) _ _ (λ t. pass (n + lines_here c cs)) (λ t. pass n)))

-- between an opening brace and a closing one, no other brace being open
module _ (s : List ℕ) (at to : ℕ) where
  is_action : Closing s 0 (at + 1) to → IsAction s at to
  is_action x =
      let h = x.onward in
      let e = x.even in
      record {
        onward = omega arith;
        inside = x.inside;
        closes = x.closes;
        between = record { even = omega arith; beginnings = λ k a b. let l = x.beginnings k a b in omega arith };
      }

  action_closing : IsAction s at to → Closing s 0 (at + 1) to
  action_closing x =
      let h = x.onward in
      let e = x.between.even in
      record {
        onward = omega arith;
        inside = x.inside;
        closes = x.closes;
        even = omega arith;
        beginnings = λ k a b. let l = x.between.beginnings k a b in omega arith;
      }

-- An action has one end.
pub action_one : (s : List ℕ) (at to to' : ℕ) → IsAction s at to → IsAction s at to' → to ≡ to'
action_one s at to to' x y = closing_one s 0 (at + 1) to to' (action_closing s at to x) (action_closing s at to' y)

module _ (s : List ℕ) (at : ℕ) (h : at < length s) where
  answers : Tells s 0 (at + 1) (braced_at s (at + 1))
  unfolding braced_from
  answers = tells s (drop (at + 1) s) 0 (at + 1) 0 refl (omega arith)

  -- What is read ends behind a closing brace that balances, with the lines that end inside counted, the text trimmed, and the crate's span.
  pub action_is : (end n : ℕ) (p q : Place) → action_at s at ≡ Ok (end, n, p, q) → IsAction s at (end - 1) × (lines_to s (at + 1) + n ≡ lines_to s (end - 1)) × (p ≡ trimmed s (at + 1) (end - 1)) × (q ≡ span_of (at + 1) p)
  unfolding action_at acted
  action_is end n p q = go (braced_at s (at + 1)) refl answers
    where
      go : (b : Option (ℕ × ℕ)) → braced_at s (at + 1) ≡ b → Tells s 0 (at + 1) b → acted s at b ≡ Ok (end, n, p, q) → IsAction s at (end - 1) × (lines_to s (at + 1) + n ≡ lines_to s (end - 1)) × (p ≡ trimmed s (at + 1) (end - 1)) × (q ≡ span_of (at + 1) p)
      go (Some (to, m)) r x e =
          let d = ok_4 e in
          let u : to + 1 ≡ end = d.0 in
          let w : to ≡ end - 1 = omega arith in
          let l : m ≡ n = d.1 in
          let v : trimmed s (at + 1) to ≡ p = d.2 in
          let y : span_of (at + 1) (trimmed s (at + 1) to) ≡ q = d.3 in
          let z = braced_tells s (at + 1) to m r in
          (rw w at (is_action s at to x), rw (l, w) at z, rw w at (sym v), sym (rw v at y))
      go None r x e = let z : ◌≡◌ {A = ℕ} 0 1 = cc in absurd (omega arith)

  -- An action is read exactly where one stands,
  pub action_iff : (to : ℕ) → (action_at s at ≡ Ok (to + 1, lines_to s to - lines_to s (at + 1), trimmed s (at + 1) to, span_of (at + 1) (trimmed s (at + 1) to))) ↔ IsAction s at to
  unfolding action_at acted
  action_iff to = (λ e. let z : to + 1 - 1 ≡ to = omega arith in rw z at (action_is _ _ _ _ e).0, go (braced_at s (at + 1)) refl answers)
    where
      go : (b : Option (ℕ × ℕ)) → braced_at s (at + 1) ≡ b → Tells s 0 (at + 1) b → IsAction s at to → acted s at b ≡ Ok (to + 1, lines_to s to - lines_to s (at + 1), trimmed s (at + 1) to, span_of (at + 1) (trimmed s (at + 1) to))
      go (Some (j, m)) r x y =
          let z = closing_one s 0 (at + 1) j to x (action_closing s at to y) in
          let k = braced_tells s (at + 1) j m r in
          let n : m ≡ lines_to s j - lines_to s (at + 1) = omega arith in
          rw (n, z)
      go None r x y = absurd (x to (action_closing s at to y))

  -- and 6 is given exactly where no closing brace balances.
  pub open_iff : (action_at s at ≡ Err at) ↔ ((to : ℕ) → IsAction s at to → ⊥)
  unfolding action_at acted
  open_iff = (λ e. there (braced_at s (at + 1)) answers e, back (braced_at s (at + 1)) answers)
    where
      there : (b : Option (ℕ × ℕ)) → Tells s 0 (at + 1) b → acted s at b ≡ Err at → (to : ℕ) → IsAction s at to → ⊥
      there (Some (j, m)) x e to y = let z : ◌≡◌ {A = ℕ} 0 1 = cc in omega arith
      there None x e to y = x to (action_closing s at to y)

      back : (b : Option (ℕ × ℕ)) → Tells s 0 (at + 1) b → ((to : ℕ) → IsAction s at to → ⊥) → acted s at b ≡ Err at
      back (Some (j, m)) x f = absurd (f j (is_action s at j x))
      back None x f = refl
