-- Table 1 under tokens entered as declared: which rows are new, which are marked, and what stays. Assumes nothing.
use Prim.Native.Nat.{ℕ, ◌+◌, ◌*◌, ◌≤◌, ◌<◌}
use mathlib.Core.Path.{◌≡◌, refl, ◌∙◌, ap}
use mathlib.Core.List.Memᴰ
use mathlib.Core.List.{List, [], ◌∷◌, Memᴰ}
use mathlib.Core.Bool.{true}
use mathlib.Core.Logic.{◌⊎◌, inl, inr, ⊎_elim}
use native.Mathlib.Omega.{arith}
use native.Mathlib.Decide.{dec_lt, ℕ_discrete}
use lib.ListN.{length, get_or, length-set}
use lib.Seq.{set_out, get_or-set_same, get_or-set_other}
use Rattle.scan.specs.declared.Place.{Place}
use Rattle.tables.specs.Layout.{tokens, declared, width}
use Rattle.tables.specs.Table.{Inserted, put, cell, marked, has_name, same_part}
use Rattle.tables.proofs.Laws.{put_length}
use Rattle.tables.proofs.Rows.{cell_new, cell_old}
use Rattle.tables.proofs.Cases.{enter_cases, same_part_iff}
use Rattle.grammar.specs.declared.Counts.{Counts}
use Rattle.grammar.specs.declared.State.{State}
use Rattle.grammar.specs.declared.Answer.TheVariants.{Going}
use Rattle.grammar.specs.Cells.{token_cells}
use Rattle.grammar.specs.State.{count, with_count, entered, enter_step, Out1}
use Rattle.grammar.proofs.Touch.{refused_going}
use Rattle.lists.specs.Written.{Declared, Kept, Placed, Named}

-- table 1 under a list of tokens: with counts c and cells t before it, and d and x behind it
pub record Marks (c : Counts) (t : List ℕ) (d : Counts) (x : List ℕ) : Type 0 where
  pub ten : length d.n ≡ length c.n
  pub grown : get_or c.n tokens 0 ≤ get_or d.n tokens 0
  pub fits : get_or c.n tokens 0 * width tokens ≤ length t → get_or d.n tokens 0 * width tokens ≤ length x
  pub new : (r : ℕ) → get_or c.n tokens 0 ≤ r → r < get_or d.n tokens 0 → cell (width tokens) x r declared ≡ 1
  pub old : (r : ℕ) → r < get_or c.n tokens 0 → Kept t x r

-- and what one token p did to it
pub record Entry (src : List ℕ) (c : Counts) (t : List ℕ) (d : Counts) (x : List ℕ) (p : Place) : Type 0 where
  pub has : get_or c.n tokens 0 * width tokens ≤ length t → Declared src (get_or d.n tokens 0) x p
  pub added : (r : ℕ) → get_or c.n tokens 0 ≤ r → r < get_or d.n tokens 0 → (cell (width tokens) x r 0 ≡ p.from) × (cell (width tokens) x r 1 ≡ p.to)
  pub other : (r : ℕ) → r < get_or c.n tokens 0
      → (cell (width tokens) x r declared ≡ cell (width tokens) t r declared) ⊎ (same_part src (cell (width tokens) t r 0) (cell (width tokens) t r 1) p.from p.to ≡ true)

kept_still : (t : List ℕ) (r : ℕ) → Kept t t r
kept_still t r = record { from = refl; to = refl; flag = inr refl }

kept_on : (t u x : List ℕ) (r : ℕ) → Kept t u r → Kept u x r → Kept t x r
kept_on t u x r k l = record { from = l.from ∙ k.from; to = l.to ∙ k.to; flag = ⊎_elim inl (λ e. ⊎_elim (λ f. inl (e ∙ f)) (λ f. inr (e ∙ f)) k.flag) l.flag }

-- what is declared stays so
pub stays : (t x : List ℕ) (r : ℕ) → Kept t x r → cell (width tokens) t r declared ≡ 1 → cell (width tokens) x r declared ≡ 1
stays t x r k e = ⊎_elim (λ f. f) (λ f. f ∙ e) k.flag

pub marks_still : (c : Counts) (t : List ℕ) → Marks c t c t
marks_still c t = record { ten = refl; grown = omega arith; fits = λ h. h; new = λ r a b. absurd (omega arith); old = λ r h. kept_still t r }

pub marks_on : (c d e : Counts) (t u x : List ℕ) → Marks c t d u → Marks d u e x → Marks c t e x
marks_on c d e t u x p q =
    record {
      ten = q.ten ∙ p.ten;
      grown = let a = p.grown in let b = q.grown in omega arith;
      fits = λ h. q.fits (p.fits h);
      new = λ r a b. at r a b (dec_lt r (get_or d.n tokens 0));
      old = λ r h. let a = p.grown in kept_on t u x r (p.old r h) (q.old r (omega arith));
    }
  where
    at : (r : ℕ) → get_or c.n tokens 0 ≤ r → r < get_or e.n tokens 0 → Dec (r < get_or d.n tokens 0) → cell (width tokens) x r declared ≡ 1
    at r a b (yes h) = stays u x r (q.old r h) (p.new r a h)
    at r a b (no h) = q.new r (omega arith) b

-- one token entered as declared
module _ (src : List ℕ) (s : State) (p : Place) (t : List ℕ) (ten : length s.counts.n ≡ 10) where
  abbrev a : ℕ
  a = p.from

  abbrev b : ℕ
  b = p.to

  abbrev row : List ℕ
  row = token_cells a b 1

  abbrev n : ℕ
  n = count s tokens

  same : (m : ℕ) → count (with_count s tokens m) tokens ≡ m
  same m = get_or-set_same s.counts.n tokens m 0 (rw ten (omega arith))

  -- a mark touches one flag alone
  mark_kept : (r q : ℕ) → Kept t (marked true r t) q
  mark_kept r q =
      record {
        from = get_or-set_other t (r * 3 + 2) (q * 3 + 0) 1 0 (λ e. omega arith);
        to = get_or-set_other t (r * 3 + 2) (q * 3 + 1) 1 0 (λ e. omega arith);
        flag = go (ℕ_discrete q r) (dec_lt (r * 3 + 2) (length t));
      }
    where
      go : Dec (q ≡ r) → Dec (r * 3 + 2 < length t) → (cell 3 (marked true r t) q 2 ≡ 1) ⊎ (cell 3 (marked true r t) q 2 ≡ cell 3 t q 2)
      go (yes e) (yes h) = inl (rw e (get_or-set_same t (r * 3 + 2) 1 0 h))
      go (yes e) (no h) = inr (ap (λ (x : List ℕ). cell 3 x q 2) (set_out t (r * 3 + 2) 1 (omega arith)))
      go (no e) h = inr (get_or-set_other t (r * 3 + 2) (q * 3 + 2) 1 0 (λ f. e (omega arith)))

  pub enter_marks : Marks s.counts t (enter_step src s a b true t).state.counts (enter_step src s a b true t).a
  unfolding enter_step
  enter_marks =
      enter_cases (λ (o : Inserted). Marks s.counts t (entered o.entered s (token_cells a b 1) o.cells).state.counts (entered o.entered s (token_cells a b 1) o.cells).a) src n a b true t
      (λ r l e. record {
        ten = length-set s.counts.n tokens n;
        grown = rw (same n) (omega arith);
        fits = λ h. rw (same n, length-set) h;
        new = λ q c d. let f = rw (same n) at d in absurd (omega arith);
        old = λ q c. mark_kept r q;
      })
      (λ none room low. record {
        ten = length-set s.counts.n tokens (n + 1);
        grown = rw (same (n + 1)) (omega arith);
        fits = λ h. rw (same (n + 1), put_length) (omega arith);
        new = λ q c d. let f = rw (same (n + 1)) at d in let e : q ≡ n = omega arith in rw e (cell_new 3 n row t refl room 2 (omega arith));
        old = λ q c. record {
          from = cell_old 3 n row t refl room q 0 c (omega arith);
          to = cell_old 3 n row t refl room q 1 c (omega arith);
          flag = inr (cell_old 3 n row t refl room q 2 c (omega arith));
        };
      })
      (λ none full. marks_still s.counts t)

  -- where it goes on, the token has a row that is declared, and no other row is new or marked
  abbrev After : Out1 → Type 0
  After o = o.answer ≡ Going → Entry src s.counts t o.state.counts o.a p

  pub enter_entry : a ≤ b → b ≤ length src → After (enter_step src s a b true t)
  unfolding enter_step has_name
  enter_entry h l =
      enter_cases (λ (o : Inserted). After (entered o.entered s (token_cells a b 1) o.cells))
      src n a b true t
      (λ r l e z. record {
        has = λ fits. record { row = r; inside = rw (same n) l; named = rw ((mark_kept r r).from, (mark_kept r r).to) e; marked = get_or-set_same t (r * 3 + 2) 1 0 (omega arith) };
        added = λ q c d. let f = rw (same n) at d in absurd (omega arith);
        other = λ q c. found r q e (ℕ_discrete q r);
      })
      (λ none room low z. record {
        has = λ fits. record { row = n; inside = rw (same (n + 1)) (omega arith); named = rw (new room 0 (omega arith), new room 1 (omega arith)) itself; marked = new room 2 (omega arith) };
        added = λ q c d. let f = rw (same (n + 1)) at d in let e : q ≡ n = omega arith in rw e (new room 0 (omega arith), new room 1 (omega arith));
        other = λ q c. inl (cell_old 3 n row t refl room q 2 c (omega arith));
      })
      (λ none full z. absurd (refused_going _ z))
    where
      itself : same_part src a b a b ≡ true
      itself = (same_part_iff src a b a b).1 (h, l, h, l, refl)

      new : n * 3 + 3 ≤ length t → (k : ℕ) → k < 3 → cell 3 (put t (n * 3) row) n k ≡ get_or row k 0
      new room k c = cell_new 3 n row t refl room k c

      found : (r q : ℕ) → same_part src (cell 3 t r 0) (cell 3 t r 1) a b ≡ true → Dec (q ≡ r) → (cell 3 (marked true r t) q 2 ≡ cell 3 t q 2) ⊎ (same_part src (cell 3 t q 0) (cell 3 t q 1) a b ≡ true)
      found r q e (yes f) = inr (rw f e)
      found r q e (no f) = inl (get_or-set_other t (r * 3 + 2) (q * 3 + 2) 1 0 (λ g. f (omega arith)))

-- what the words ws did to table 1
pub record Effect (src : List ℕ) (c : Counts) (t : List ℕ) (d : Counts) (x : List ℕ) (ws : List Place) : Type 0 where
  pub each : get_or c.n tokens 0 * width tokens ≤ length t → (p : Place) → Memᴰ p ws → Declared src (get_or d.n tokens 0) x p
  pub added : (r : ℕ) → get_or c.n tokens 0 ≤ r → r < get_or d.n tokens 0 → Placed x r ws
  pub other : (r : ℕ) → r < get_or c.n tokens 0 → (cell (width tokens) x r declared ≡ cell (width tokens) t r declared) ⊎ Named src t r ws

pub effect_still : (src : List ℕ) (c : Counts) (t : List ℕ) → Effect src c t c t []
effect_still src c t = record { each = λ f p m. absurd (Memᴰ.not-nil m); added = λ r a b. absurd (omega arith); other = λ r h. inl refl }

-- a token, and then the words behind it
module _ (src : List ℕ) (c d e : Counts) (t u x : List ℕ) (p : Place) (ws : List Place) (m : Marks c t d u) (y : Entry src c t d u p) (n : Marks d u e x) (z : Effect src d u e x ws) where
  -- a declared token stays declared
  declared_on : Declared src (get_or d.n tokens 0) u p → Declared src (get_or e.n tokens 0) x p
  declared_on y =
      let k = n.old y.row y.inside in
      let a = n.grown in
      let b = y.inside in
      record { row = y.row; inside = omega arith; named = rw (k.from, k.to) y.named; marked = stays u x y.row k y.marked }

  added_on : (r : ℕ) → get_or c.n tokens 0 ≤ r → r < get_or e.n tokens 0 → Dec (r < get_or d.n tokens 0) → Placed x r (p ∷ ws)
  added_on r a b (yes h) =
      let k = n.old r h in
      let f = y.added r a h in
      record { word = p; stands = Memᴰ.head refl; from = k.from ∙ f.0; to = k.to ∙ f.1 }
  added_on r a b (no h) = let f = z.added r (omega arith) b in record { word = f.word; stands = Memᴰ.tail f.stands; from = f.from; to = f.to }

  other_on : (r : ℕ) → r < get_or c.n tokens 0 → (cell (width tokens) x r declared ≡ cell (width tokens) t r declared) ⊎ Named src t r (p ∷ ws)
  other_on r h =
      let k = m.old r h in
      let a = m.grown in
      ⊎_elim
      (λ f. ⊎_elim (λ g. inl (f ∙ g)) (λ g. inr (record { word = p; stands = Memᴰ.head refl; same = g })) (y.other r h))
      (λ f. inr (record { word = f.word; stands = Memᴰ.tail f.stands; same = rw (k.from, k.to) at f.same }))
      (z.other r (omega arith))

  pub effect_on : Effect src c t e x (p ∷ ws)
  effect_on =
      record {
        each = λ f q i. ⊎_elim (λ g. rw g (declared_on (y.has f))) (λ j. z.each (m.fits f) q j) (Memᴰ.cases_cons i);
        added = λ r a b. added_on r a b (dec_lt r (get_or d.n tokens 0));
        other = other_on;
      }
