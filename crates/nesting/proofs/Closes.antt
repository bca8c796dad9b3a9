-- A trimmed action ends before the brace that closes it, whatever the bytes: no code point reaches over an ASCII byte. Assumes nothing.
use Rattle.std.specs.Prelude.{Option, Some, None, Result, Ok, Err}
use Prim.Native.Nat.{ℕ, zero, suc, ◌+◌, ◌-◌, ◌*◌, ◌≤◌, ◌<◌}
use mathlib.Core.Path.{◌≡◌, refl, ◌∙◌, ap}
use mathlib.Core.List.{List, [], ◌∷◌}
use mathlib.Core.Bool.{Bool, true, false}
use native.Mathlib.Omega.{arith}
use lib.Dec.{ltb, eqb}
use lib.ListN.{length, get_or, drop}
use lib.Seq.{get_or-drop}
use borrow.Author.Tests.{ltb-true}
use native.Mathlib.Decide.{dec_lt}
use Rattle.scan.proofs.Tuples.{some_2}
use Rattle.scan.specs.Scan.{within}
use Rattle.scan.specs.Loop.{stop}
use Rattle.scan.proofs.Bytes.{on_test, within_true}
use Rattle.scan.proofs.Loop.{Either, turns_keep}
use Rattle.utf8.specs.White.{is_white}
use Rattle.utf8.specs.Utf8.{lead_of, follow, begun, decode, decode_at}
use Rattle.utf8.specs.declared.Lead.{Lead}
use Rattle.utf8.specs.declared.Lead.TheVariants.{One, More, Never}
use Rattle.trim.specs.declared.Passed.{Passed}
use Rattle.trim.specs.declared.Passed.TheVariants.{White, Kept}
use Rattle.trim.specs.Trim.{passed, passed_at, end_of, Trim, moved, trim_turn, trimmed}
use Rattle.trim.proofs.Laws.{at, pass_inside}
use Rattle.scan.specs.declared.Place.{Place}
use Rattle.texts.specs.Action.{braced_at, acted, action_at, Braced}
use Rattle.texts.proofs.Laws.{braces}

-- the octets that follow a first one are no ASCII
follow_tail : (n low high v : ℕ) (l : List ℕ) (i p j : ℕ) → 128 ≤ low → follow n low high v l i ≡ Some (p, j) → (k : ℕ) → i + k < j → 128 ≤ get_or l k 0
unfolding follow
follow_tail zero low high v l i p j h e k b = let q : i ≡ j = (some_2 e).1 in absurd (omega arith)
follow_tail (suc n) low high v [] i p j h e k b = let z : ◌≡◌ {A = ℕ} 0 1 = cc in absurd (omega arith)
follow_tail (suc n) low high v (c ∷ cs) i p j h e k b = go (within low high c) refl e k b (follow_tail n 128 191 (v * 64 + (c - 128)) cs (i + 1) p j (omega arith))
  where
    go : (t : Bool) → within low high c ≡ t → ◌≡◌ {A = Option (ℕ × ℕ)} (elim t [ true ↦ follow n 128 191 (v * 64 + (c - 128)) cs (i + 1) | false ↦ None ]) (Some (p, j)) → (k : ℕ) → i + k < j → (follow n 128 191 (v * 64 + (c - 128)) cs (i + 1) ≡ Some (p, j) → (k : ℕ) → i + 1 + k < j → 128 ≤ get_or cs k 0) → 128 ≤ get_or (c ∷ cs) k 0
    go true w d zero b ih = let x = (within_true low high c w).0 in omega arith
    go true w d (suc k) b ih = ih d k (omega arith)
    go false w d k b ih = let z : ◌≡◌ {A = ℕ} 0 1 = cc in absurd (omega arith)

abbrev Low : Lead → Type 0
Low (One p) = Unit {0}
Low (More n low high v) = 128 ≤ low
Low Never = Unit {0}

lead_low : (a : ℕ) → Low (lead_of a)
unfolding lead_of
lead_low a =
    on_test Low (ltb a 128) _ _ (λ e. tt)
    (λ e. on_test Low (ltb a 194) _ _ (λ e. tt)
    (λ e. on_test Low (ltb a 224) _ _ (λ e. omega arith)
    (λ e. on_test Low (eqb a 224) _ _ (λ e. omega arith)
    (λ e. on_test Low (eqb a 237) _ _ (λ e. omega arith)
    (λ e. on_test Low (ltb a 240) _ _ (λ e. omega arith)
    (λ e. on_test Low (eqb a 240) _ _ (λ e. omega arith)
    (λ e. on_test Low (ltb a 244) _ _ (λ e. omega arith)
    (λ e. on_test Low (eqb a 244) _ _ (λ e. omega arith) (λ e. tt)))))))))

decode_tail : (l : List ℕ) (i p j : ℕ) → decode l i ≡ Some (p, j) → (k : ℕ) → 0 < k → i + k < j → 128 ≤ get_or l k 0
unfolding decode begun
decode_tail [] i p j e k h b = let z : ◌≡◌ {A = ℕ} 0 1 = cc in absurd (omega arith)
decode_tail (a ∷ bs) i p j e zero h b = absurd (omega arith)
decode_tail (a ∷ bs) i p j e (suc k) h b = go (lead_of a) (lead_low a) e
  where
    go : (l : Lead) → Low l → begun l bs i ≡ Some (p, j) → 128 ≤ get_or bs k 0
    go (One x) w d = let q : i + 1 ≡ j = (some_2 d).1 in absurd (omega arith)
    go (More n low high v) w d = follow_tail n low high v bs (i + 1) p j w d k (omega arith)
    go Never w d = let z : ◌≡◌ {A = ℕ} 0 1 = cc in absurd (omega arith)

-- what is passed before an ASCII byte ends there, or before
module _ (s : List ℕ) (to : ℕ) (ascii : get_or s to 0 < 128) where
  pass_before : (i : ℕ) → i < to → end_of (passed_at s i) ≤ to
  unfolding passed_at passed decode_at
  pass_before i h = go (decode (drop i s) i) refl
    where
      point : (p j : ℕ) → decode (drop i s) i ≡ Some (p, j) → Dec (to < j) → j ≤ to
      point p j e (no l) = omega arith
      point p j e (yes l) =
          let x = decode_tail (drop i s) i p j e (to - i) (omega arith) (omega arith) in
          let k : i + (to - i) ≡ to = omega arith in
          let y : get_or (drop i s) (to - i) 0 ≡ get_or s to 0 = get_or-drop i s (to - i) 0 ∙ ap (λ (n : ℕ). get_or s n 0) k in
          absurd (omega arith)

      go : (d : Option (ℕ × ℕ)) → decode (drop i s) i ≡ d → end_of (passed d i) ≤ to
      go (Some (p, j)) e = let b = point p j e (dec_lt to j) in on_test (λ (q : Passed). end_of q ≤ to) (is_white p) _ _ (λ w. b) (λ w. b)
      go None e = omega arith

  -- so the trimmed part of what stands before it does
  record Up (t : Trim) : Type 0 where
    order : t.to ≤ t.i
    before : t.i ≤ to

  turn_keeps : (t : Trim) → Up t → Either Up Up (trim_turn s to t)
  unfolding trim_turn moved
  turn_keeps t u = by_test (ltb t.i to) refl
    where
      by_end : (p : Passed) → t.i < to → end_of p ≤ to → t.i ≤ end_of p → Either Up Up (moved t p)
      by_end (White j) l m n = let a = u.order in record { order = omega arith; before = m }
      by_end (Kept j) l m n = record { order = omega arith; before = m }

      by_test : (q : Bool) → ltb t.i to ≡ q → Either Up Up (elim q [ true ↦ moved t (passed_at s t.i) | false ↦ stop t ])
      by_test true e = let l = ltb-true t.i to e in let p = (pass_inside s t.i).0 in by_end (passed_at s t.i) l (pass_before t.i l) (omega arith)
      by_test false e = u

  pub trim_before : (from : ℕ) → from ≤ to → (trimmed s from to).to ≤ to
  unfolding trimmed
  trim_before from h =
      let u = turns_keep Up (trim_turn s to) turn_keeps (suc (to - from)) (at from from from) (record { order = omega arith; before = h }) in
      let a = u.order in
      let b = u.before in
      omega arith

-- where a trimmed action ends
abbrev pub ActionEnded : Result (ℕ × ℕ × Place × Place) ℕ → Type 0
ActionEnded (Ok (end, n, p, q)) = p.to < end
ActionEnded (Err i) = Unit {0}

pub action_ended : (s : List ℕ) (i : ℕ) → i < length s → ActionEnded (action_at s i)
unfolding action_at acted
action_ended s i h = go (braced_at s (i + 1)) (braces s (i + 1) (omega arith))
  where
    go : (b : Option (ℕ × ℕ)) → Braced s (i + 1) b → ActionEnded (acted s i b)
    go (Some (to, n)) x =
        let a = x.0 in
        let e = x.2 in
        let t = trim_before s to (omega arith) (i + 1) (omega arith) in
        omega arith
    go None x = tt
