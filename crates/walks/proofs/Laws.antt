-- What a step of a walk comes to. Assumes nothing.
use Rattle.std.specs.Prelude.{Option, Some, None, Result, Ok, Err}
use Rattle.std.specs.Option.{MatchOption}
use Rattle.std.specs.List.{AllWithin, HoldsAt, range_with_len}
use Rattle.std.proofs.lemmas.List.FromFn.{length-range_with_len, get_or-range_with_len}
use Prim.Native.Nat.{ℕ, ◌+◌, ◌-◌, ◌<◌, ◌≤◌}
use mathlib.Core.Path.{◌≡◌, refl, sym, ◌∙◌}
use mathlib.Core.List.{List}
use mathlib.Core.Bool.{Bool, true, false, false≢true}
use native.Mathlib.Omega.{arith}
use lib.ListN.{length}
use Rattle.tables.specs.Layout.{tokens, rules}
use Rattle.grammar.specs.declared.Counts.{Counts}
use Rattle.grammar.specs.declared.Singles.{Singles}
use Rattle.grammar.specs.Sound.{Tables, Indexes}
use Rattle.sound.specs.Test.{count_at, sound_test}
use Rattle.sound.proofs.Iff.{sound_iff}
use Rattle.reach.specs.Reach.{Named, words_for}
use Rattle.usage.specs.Report.{Says, Excuses, Free}
use Rattle.places.specs.declared.Spot.{Spot}
use Rattle.places.specs.Places.{spot_at}
use Rattle.walks.specs.declared.NextError.{NextError}
use Rattle.walks.specs.declared.NextError.TheVariants.{NotFitting}
use Rattle.walks.specs.declared.Standing.{Standing}
use Rattle.walks.specs.Walk.{next_spot, FirstFrom, Sought, Passes, rule_next, token_next, none_next, Fitting}

-- the first of the rows from row a on
pub sought : (P : ℕ → Type 0) (a n : ℕ) (r : Option ℕ) → MatchOption r (AllWithin (λ i. P i → ⊥) (range_with_len a (n - a)) 0 (length (range_with_len a (n - a)))) (λ x. P x × (i : ℕ) × (i < length (range_with_len a (n - a))) × HoldsAt (λ y. y ≡ x) (range_with_len a (n - a)) i × AllWithin (λ i. P i → ⊥) (range_with_len a (n - a)) 0 i) → Sought P a n r
sought P a n None h = λ i k l p.
    let e : a + (i - a) ≡ i = omega arith in
    h (i - a) 0 (omega arith) (omega (arith, length-range_with_len a (n - a))) (rw (get_or-range_with_len a (n - a) (i - a) 0 (omega arith), e) p)
sought P a n (Some x) h =
    let l = h.2 in
    let m = length-range_with_len a (n - a) in
    let x_is : a + h.1 ≡ x = sym (get_or-range_with_len a (n - a) h.1 0 (omega arith)) ∙ h.3 0 in
    record {
      from = omega arith;
      inside = omega arith;
      holds = h.0;
      first = λ i k l p.
          let e : a + (i - a) ≡ i = omega arith in
          h.4 (i - a) 0 (omega arith) (omega arith) (rw (get_or-range_with_len a (n - a) (i - a) 0 (omega arith), e) p);
    }

-- what the searches found
module _ (ws : List ℕ) (x : Excuses) (d e : Named) (s : Standing) where
  pub passed_rule : (f : Option ℕ) (r : ℕ) → Sought (Free ws x d) s.rules d.sort.count f → f ≡ Some r → Passes ws x d e s (Ok (Some (d.sort.kind, r))) (record { rules = r + 1; tokens = s.tokens })
  passed_rule f r k q = rule_next r (rw q at k) refl refl

  module _ (f : Option ℕ) (k : Sought (Free ws x d) s.rules d.sort.count f) (q : f ≡ None) where
    pub passed_token : (h : Option ℕ) (r : ℕ) → Sought (Free ws x e) s.tokens e.sort.count h → h ≡ Some r → Passes ws x d e s (Ok (Some (e.sort.kind, r))) (record { rules = s.rules; tokens = r + 1 })
    passed_token h r m p = token_next r (rw q at k) (rw p at m) refl refl

    pub passed_all : (h : Option ℕ) → Sought (Free ws x e) s.tokens e.sort.count h → h ≡ None → Passes ws x d e s (Ok None) s
    passed_all h m p = none_next (rw q at k) (rw p at m) refl refl

-- a row that is found lies below the count
pub found_below : (P : ℕ → Type 0) (a n : ℕ) (f : Option ℕ) (r : ℕ) → Sought P a n f → f ≡ Some r → r < n
found_below P a n f r k q = let y : FirstFrom P a n r = rw q at k in y.inside

-- the tests of a call
module _ (src : List ℕ) (c : Counts) (g : Singles) (T : Tables) (X : Indexes) (ws : List ℕ) (s : Standing) where
  pub fitting_says : (q : Bool) → s.rules ≤ count_at c rules → s.tokens ≤ count_at c tokens → words_for (count_at c rules) + words_for (count_at c tokens) ≤ length ws → q ≡ sound_test src c g T X → Says q (Fitting src c g T X ws s)
  fitting_says true h k l e = record { sound = (sound_iff src c g T X).0 (sym e); rules_passed_lem = h; tokens_passed = k; words = l }
  fitting_says false h k l e = λ f. false≢true (e ∙ (sound_iff src c g T X).1 f.sound)

-- each answer stands at the source's begin
pub spot_next : (src : List ℕ) (n : Result (Option (ℕ × ℕ)) NextError) (p : Spot) → p ≡ spot_at src 0 → p ≡ next_spot src n
spot_next src (Ok (Some (kd, r))) p e = e
spot_next src (Ok None) p e = e
spot_next src (Err NotFitting) p e = e
