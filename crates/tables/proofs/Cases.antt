-- What an operation may come to: for each that decides, one principle with its outcomes, and what each test and search means without the
-- scan. Assumes nothing.
use Rattle.std.specs.Prelude.{Option, Some, None}
use Prim.Native.Nat.{ℕ, zero, suc, ◌+◌, ◌*◌, ◌/◌, ◌≤◌, ◌<◌}
use mathlib.Core.Path.{◌≡◌, refl, sym, ap, ◌∙◌}
use mathlib.Core.List.{List, [], ◌∷◌}
use mathlib.Core.Bool.{Bool, true, false, false≢true}
use mathlib.Core.Logic.{◌↔◌, ◌⊎◌, inl, inr, ⊎_elim}
use native.Mathlib.Omega.{arith}
use native.Mathlib.Decide.{ℕ_discrete}
use native.Mathlib.Nat.{suc-mul, le-div_iff_mul-le, div-lt_iff_lt-mul, le_of_suc-le-suc}
use lib.ListN.{length}
use lib.Seq.{slice}
use Rattle.scan.specs.Table.{same}
use Rattle.scan.proofs.Bytes.{le_or_lt, within_yes, within_true}
use Rattle.scan.proofs.Table.{same_iff}
use Rattle.tables.specs.Table.{put, room, Added, added, add_row, lies, same_part, has_name, first_row, find_name, First, Inserted, flag, marked, entered, enter_at, enter_token}
use Rattle.tables.proofs.Laws.{room_some, room_full, room_last, room_counts, room_fits}

-- Room is a whole free row that can be counted in 32 bits, exactly,
pub room_iff : (w n : ℕ) (t : List ℕ) → 0 < w → (room w n t ≡ true) ↔ ((n * w + w ≤ length t) × (n < 4294967295))
room_iff w n t p = (λ h. (room_fits w n t h, room_counts w n t h), λ x. room_some w n t ((le-div_iff_mul-le p).1 (rw (suc-mul n w) x.0)) x.1)

-- and there is none exactly where the row would pass the table's end or its count 32 bits.
pub full_iff : (w n : ℕ) (t : List ℕ) → 0 < w → (room w n t ≡ false) ↔ ((length t < n * w + w) ⊎ (4294967295 ≤ n))
full_iff w n t p = (full (le_or_lt (n * w + w) (length t)) (le_or_lt 4294967295 n), ⊎_elim (λ h. room_full w n t (short h)) (room_last w n t))
  where
    full : (n * w + w ≤ length t) ⊎ (length t < n * w + w) → (4294967295 ≤ n) ⊎ (n < 4294967295) → room w n t ≡ false → (length t < n * w + w) ⊎ (4294967295 ≤ n)
    full (inr h) k e = inl h
    full (inl h) (inl k) e = inr k
    full (inl h) (inr k) e = absurd (false≢true (sym e ∙ (room_iff w n t p).1 (h, k)))

    short : length t < n * w + w → length t / w ≤ n
    short h = le_of_suc-le-suc ((div-lt_iff_lt-mul p).1 (rw (suc-mul n w) h))

-- a row is added where there is room, or nothing is
pub add_cases {κ} : (C : Added → Type κ) (n : ℕ) (row t : List ℕ)
    → (n * length row + length row ≤ length t → n < 4294967295 → C (record { ok = true; cells = put t (n * length row) row }))
    → (room (length row) n t ≡ false → C (record { ok = false; cells = t }))
    → C (add_row n row t)
unfolding add_row
add_cases C n row t f g = go (room (length row) n t) refl
  where
    go : (b : Bool) → room (length row) n t ≡ b → C (added b n row t)
    go true e = f (room_fits (length row) n t e) (room_counts (length row) n t e)
    go false e = g e

-- two places hold the same bytes
pub same_part_iff : (src : List ℕ) (a b c d : ℕ) → (same_part src a b c d ≡ true) ↔ ((a ≤ b) × (b ≤ length src) × (c ≤ d) × (d ≤ length src) × (slice a b src ≡ slice c d src))
unfolding same_part
same_part_iff src a b c d = (go (lies src a b) refl (lies src c d) refl, back)
  where
    go : (p : Bool) → lies src a b ≡ p → (q : Bool) → lies src c d ≡ q → elim p [ true ↦ elim q [ true ↦ same (slice a b src) (slice c d src) | false ↦ false ] | false ↦ false ] ≡ true → (a ≤ b) × (b ≤ length src) × (c ≤ d) × (d ≤ length src) × (slice a b src ≡ slice c d src)
    go true e true f h =
        let x = within_true a (length src) b e in
        let y = within_true c (length src) d f in
        (x.0, x.1, y.0, y.1, (same_iff (slice a b src) (slice c d src)).0 h)
    go true e false f h = absurd (false≢true h)
    go false e q f h = absurd (false≢true h)

    back : (a ≤ b) × (b ≤ length src) × (c ≤ d) × (d ≤ length src) × (slice a b src ≡ slice c d src) → same_part src a b c d ≡ true
    back x = rw (within_yes a (length src) b x.0 x.1, within_yes c (length src) d x.2 x.3, same_part) ((same_iff (slice a b src) (slice c d src)).1 x.4)

pub same_part_trans : (src : List ℕ) (a b c d e f : ℕ) → same_part src a b c d ≡ true → same_part src c d e f ≡ true → same_part src a b e f ≡ true
same_part_trans src a b c d e f h k =
    let x = (same_part_iff src a b c d).0 h in
    let y = (same_part_iff src c d e f).0 k in
    (same_part_iff src a b e f).1 (x.0, x.1, y.2, y.3, x.4 ∙ y.4)

pub same_part_sym : (src : List ℕ) (a b c d : ℕ) → same_part src a b c d ≡ same_part src c d a b
same_part_sym src a b c d = both (same_part src a b c d) (same_part src c d a b) (turn a b c d) (turn c d a b)
  where
    turn : (a b c d : ℕ) → same_part src a b c d ≡ true → same_part src c d a b ≡ true
    turn a b c d h = let x = (same_part_iff src a b c d).0 h in (same_part_iff src c d a b).1 (x.2, x.3, x.0, x.1, sym x.4)

    both : (p q : Bool) → (p ≡ true → q ≡ true) → (q ≡ true → p ≡ true) → p ≡ q
    both true q f g = sym (f refl)
    both false true f g = g refl
    both false false f g = refl

-- the rows from row i on, none from row a up to it passing the test
abbrev NoneOf : (ℕ → Bool) → ℕ → ℕ → Type 0
NoneOf p a b = (q : ℕ) → a ≤ q → q < b → p q ≡ false

pub first_cases {κ} : (p : ℕ → Bool) (C : Option ℕ → Type κ) (a n i : ℕ) → a ≤ i → NoneOf p a i
    → ((r : ℕ) → a ≤ r → r < i + n → p r ≡ true → NoneOf p a r → C (Some r))
    → (NoneOf p a (i + n) → C None)
    → C (first_row p n i)
unfolding first_row
first_cases p C a zero i l before f g = g (λ r h k. before r h (omega arith))
first_cases p C a (suc n) i l before f g = go (p i) refl (first_cases p C a n (i + 1) (omega arith))
  where
    go : (b : Bool) → p i ≡ b → (NoneOf p a (i + 1) → ((r : ℕ) → a ≤ r → r < i + 1 + n → p r ≡ true → NoneOf p a r → C (Some r)) → (NoneOf p a (i + 1 + n) → C None) → C (first_row p n (i + 1))) → C (elim b [ true ↦ Some i | false ↦ first_row p n (i + 1) ])
    go true e rest = f i l (omega arith) e before
    go false e rest =
        rest (λ q h j. elim (ℕ_discrete q i) [ yes k ↦ rw k e | no k ↦ before q h (omega arith) ]) (λ r h j. f r h (omega arith)) (λ k. g (λ r h j. k r h (omega arith)))

-- a name is found in its first row, or no row has it
pub find_cases {κ} : (C : Option ℕ → Type κ) (src : List ℕ) (w k n : ℕ) (t : List ℕ) (a b : ℕ)
    → ((r : ℕ) → r < n → has_name src w k t a b r ≡ true → ((q : ℕ) → q < r → has_name src w k t a b q ≡ false) → C (Some r))
    → (((r : ℕ) → r < n → has_name src w k t a b r ≡ false) → C None)
    → C (find_name src w k n t a b)
unfolding find_name
find_cases C src w k n t a b f g =
    first_cases (has_name src w k t a b) C 0 n 0 (omega arith) (λ q l h. absurd (omega arith)) (λ r l h e x. f r (omega arith) e (λ q. x q (omega arith))) (λ x. g (λ r h. x r (omega arith) (omega arith)))

module _ (src : List ℕ) (w k n : ℕ) (t : List ℕ) (a b : ℕ) where
  pub find_iff : (r : ℕ) → (find_name src w k n t a b ≡ Some r) ↔ First src w k n t a b r
  find_iff r =
      find_cases (λ (f : Option ℕ). (f ≡ Some r) ↔ First src w k n t a b r) src w k n t a b
      (λ q h e none. (λ x. let y : q ≡ r = cc in rw (← y) (record { inside = h; named = e; earlier = none }), λ x. ap Some (only q r e none x)))
      (λ none. (λ x. let z : ◌≡◌ {A = ℕ} 0 1 = cc in absurd (omega arith), λ x. absurd (false≢true (sym (none r x.inside) ∙ x.named))))
    where
      only : (q r : ℕ) → has_name src w k t a b q ≡ true → ((i : ℕ) → i < q → has_name src w k t a b i ≡ false) → First src w k n t a b r → q ≡ r
      only q r e none x =
          ⊎_elim
          (λ h. ⊎_elim (λ l. omega arith) (λ l. absurd (false≢true (sym (x.earlier q l) ∙ e))) (le_or_lt r q))
          (λ h. absurd (false≢true (sym (none r h) ∙ x.named)))
          (le_or_lt q r)

  pub none_iff : (find_name src w k n t a b ≡ None) ↔ ((r : ℕ) → r < n → has_name src w k t a b r ≡ false)
  none_iff =
      find_cases (λ (f : Option ℕ). (f ≡ None) ↔ ((r : ℕ) → r < n → has_name src w k t a b r ≡ false)) src w k n t a b
      (λ q h e none. (λ x. let z : ◌≡◌ {A = ℕ} 0 1 = cc in absurd (omega arith), λ x. absurd (false≢true (sym (x q h) ∙ e))))
      (λ none. (λ x. none, λ x. refl))

-- a token is found, and marked if it is declared now; or has a new row; or finds no room
pub enter_cases {κ} : (C : Inserted → Type κ) (src : List ℕ) (n a b : ℕ) (d : Bool) (t : List ℕ)
    → ((r : ℕ) → r < n → has_name src 3 0 t a b r ≡ true → C (record { entered = Some n; cells = marked d r t }))
    → (((r : ℕ) → r < n → has_name src 3 0 t a b r ≡ false) → n * 3 + 3 ≤ length t → n < 4294967295 → C (record { entered = Some (n + 1); cells = put t (n * 3) (a ∷ b ∷ flag d ∷ []) }))
    → (((r : ℕ) → r < n → has_name src 3 0 t a b r ≡ false) → room 3 n t ≡ false → C (record { entered = None; cells = t }))
    → C (enter_token src n a b d t)
unfolding enter_token
enter_cases C src n a b d t f g h =
    find_cases (λ (x : Option ℕ). C (enter_at x n a b d t)) src 3 0 n t a b (λ r l e none. f r l e)
    (λ none. add_cases (λ (o : Added). C (entered o.ok n o.cells)) n (a ∷ b ∷ flag d ∷ []) t (g none) (h none))
