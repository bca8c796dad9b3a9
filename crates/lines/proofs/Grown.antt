-- What an item leaves of a table: the rows that stood before, and new ones of which something is known; the name that was given has a row. And a loop's run to
-- where it stops. Assumes nothing.
use Rattle.std.specs.Prelude.{Option, Result, Ok, Err}
use Prim.Native.Nat.{ℕ, zero, suc, ◌+◌, ◌*◌, ◌-◌, ◌≤◌, ◌<◌}
use mathlib.Core.Path.{◌≡◌, refl, sym, ap, ◌∙◌}
use mathlib.Core.List.{List, [], ◌∷◌}
use mathlib.Core.Bool.{true, false}
use mathlib.Core.Logic.{inl, inr}
use native.Mathlib.Omega.{arith}
use native.Mathlib.Decide.{dec_lt}
use lib.ListN.{length, get_or}
use borrow.Author.Tests.{ne_eqb}
use Rattle.scan.specs.declared.Place.{Place}
use Rattle.scan.specs.Loop.{Turn, more, stop, turns}
use Rattle.spacing.specs.declared.SpacingError.{SpacingError}
use Rattle.spacing.specs.declared.SpacingError.TheVariants.{LineEnd, OpenComment}
use Rattle.spacing.specs.Spacing.{spaces_at}
use Rattle.tables.specs.Table.{Added, Inserted, put, same_part, has_name}
use Rattle.tables.specs.Rows.{row_at}
use Rattle.tables.specs.Layout.{tokens, repeats}
use Rattle.tables.proofs.Rows.{row_cell, row_new, row_old}
use Rattle.tables.proofs.Cases.{add_cases, find_cases, enter_cases, same_part_iff}
use Rattle.grammar.specs.declared.State.{State}
use Rattle.grammar.specs.declared.Answer.TheVariants.{Going, Done, Refused}
use Rattle.grammar.specs.declared.Refusal.{Refusal}
use Rattle.grammar.specs.declared.Repeat.{Repeat}
use Rattle.grammar.specs.Cells.{token_cells, repeat_cells}
use Rattle.grammar.specs.Refusals.{number_of_repeat}
use Rattle.grammar.specs.State.{Out0, Out2, Passed, count, with_at, with_count, gap_of, gap_at, pushed, push_row, list_repeat, entered, enter_step, first2, second2, once_found, once_step, past, past_gap}
use Rattle.grammar.proofs.Counting.{with_ten, same_low, count_other}
use Rattle.lines.specs.Line.{LineWord, In}
use Rattle.lines.specs.Grown.{Grown, Has, InOrder, Written}

module _ {P : List ℕ → Type 0} {w n : ℕ} {t : List ℕ} where
  pub grown_none : Grown P w n t n t
  grown_none = record { onward = omega arith; old = λ r h. refl; new = λ r h k. absurd (omega arith) }

  pub grown_then : {m l : ℕ} {u v : List ℕ} → Grown P w n t m u → Grown P w m u l v → Grown P w n t l v
  grown_then {m} {l} {u} {v} x y =
      let a = x.onward in
      let b = y.onward in
      record { onward = omega arith; old = λ r h. y.old r (omega arith) ∙ x.old r h; new = λ r h k. go r h k (dec_lt r m) }
    where
      go : (r : ℕ) → n ≤ r → r < l → Dec (r < m) → P (row_at w v r)
      go r h k (yes d) = rw (y.old r d) (x.new r h d)
      go r h k (no d) = y.new r (omega arith) k

  pub grown_map : {Q : List ℕ → Type 0} {m : ℕ} {u : List ℕ} → ((x : List ℕ) → P x → Q x) → Grown P w n t m u → Grown Q w n t m u
  grown_map f x = record { onward = x.onward; old = x.old; new = λ r h k. f _ (x.new r h k) }

pub grown_as : {P : List ℕ → Type 0} {w n n' m m' : ℕ} {t u : List ℕ} → n ≡ n' → m ≡ m' → Grown P w n t m u → Grown P w n' t m' u
grown_as d e x = rw (← d, ← e) x

-- a row is added
pub grown_add : (n : ℕ) (row t : List ℕ) → n * length row + length row ≤ length t → Grown (λ x. x ≡ row) (length row) n t (n + 1) (put t (n * length row) row)
grown_add n row t fits =
    record { onward = omega arith; old = row_old (length row) n row t refl fits; new = λ r h k. let e : r ≡ n = omega arith in rw e (row_new (length row) n row t refl fits) }

-- a row that has some bytes goes on having them
pub has_on : {P : List ℕ → Type 0} {src : List ℕ} {w n : ℕ} {t : List ℕ} {a b m : ℕ} {u : List ℕ} → Has src w n t a b → Grown P w n t m u → Has src w m u a b
has_on h x =
    let l = h.inside in
    let g = x.onward in
    record { row = h.row; inside = omega arith; same = rw (x.old h.row l) h.same }

module _ {src : List ℕ} {cells : Place → List ℕ} {w n : ℕ} {t : List ℕ} where
  pub written_none : Written src cells w [] n t n t
  written_none = record { rows = grown_none; order = λ q r a b c. absurd (omega arith); has = λ v h. absurd h }

  -- a word, which has one new row at most, then those behind it
  pub written_more : {m l : ℕ} {u z : List ℕ} (v : LineWord) (ws : List LineWord) → Grown (λ x. x ≡ cells v.place) w n t m u → m ≤ n + 1 → Has src w m u v.place.from v.place.to → Written src cells w ws m u l z → Written src cells w (v ∷ ws) n t l z
  written_more {m} {l} {u} {z} v ws x one h y =
      record {
        rows = grown_then (grown_map (λ k e. record { word = v; listed = inl refl; is = e }) x) (grown_map (λ k e. record { word = e.word; listed = inr e.listed; is = e.is }) y.rows);
        order = λ q r a b c. order q r a b c (dec_lt q m);
        has = all;
      }
    where
      order : (q r : ℕ) → n ≤ q → q < r → r < l → Dec (q < m) → InOrder cells (v ∷ ws) (row_at w z q) (row_at w z r)
      order q r a b c (yes d) =
          let k = y.rows.new r (omega arith) c in
          record { first = v; second = k.word; earlier = inl (refl, k.listed); is_first = y.rows.old q d ∙ x.new q a d; is_second = k.is }
      order q r a b c (no d) =
          let k = y.order q r (omega arith) b c in
          record { first = k.first; second = k.second; earlier = inr k.earlier; is_first = k.is_first; is_second = k.is_second }

      all : (b : LineWord) → In b (v ∷ ws) → Has src w l z b.place.from b.place.to
      all b (inl q) = rw q (has_on h y.rows)
      all b (inr q) = y.has b q

-- a place has its own bytes
self : (src : List ℕ) (a b : ℕ) → Passed src a b → same_part src a b a b ≡ true
self src a b p = (same_part_iff src a b a b).1 (p.onward, p.inside, p.onward, p.inside, refl)

-- What a name that is given to table k leaves: position, level and kind, the counts of tables but that one and table 10, the rows before, with one more at most; if the
-- reading goes on the name has a row.
pub record Noted (src : List ℕ) (k : ℕ) (row : List ℕ) (a b : ℕ) (s : State) (t : List ℕ) (o : Out2) : Type 0 where
  pub stays : o.state.at ≡ s.at
  pub level : o.state.level ≡ s.level
  pub kind : o.state.kind ≡ s.kind
  pub ten : length o.state.counts.n ≡ 10
  pub others : (j : ℕ) → (j ≡ k → ⊥) → (j ≡ repeats → ⊥) → count o.state j ≡ count s j
  pub rows : Grown (λ x. x ≡ row) (length row) (count s k) t (count o.state k) o.a
  pub one : count o.state k ≤ count s k + 1
  pub undone : o.answer ≡ Done → ⊥
  pub has : o.answer ≡ Going → Has src (length row) (count o.state k) o.a a b

module _ (src : List ℕ) (s : State) (ten : length s.counts.n ≡ 10) (k : ℕ) (low : k < repeats) (row : List ℕ) (a b : ℕ) (two : 1 < length row) (t : List ℕ) where
  -- a row that has the name
  found_row : (r : ℕ) → r < count s k → has_name src (length row) 0 t a b r ≡ true → Has src (length row) (count s k) t a b
  unfolding has_name
  found_row r l e = record { row = r; inside = l; same = rw (row_cell (length row) t r 0 (omega arith), row_cell (length row) t r 1 two) e }

  module _ (p : Passed src a b) (first : get_or row 0 0 ≡ a) (second : get_or row 1 0 ≡ b) where
    new_row : {u : List ℕ} {m : ℕ} → count s k < m → Grown (λ x. x ≡ row) (length row) (count s k) t m u → Has src (length row) m u a b
    new_row h x = record { row = count s k; inside = h; same = rw (x.new (count s k) (omega arith) h, first, second) (self src a b p) }

    push_noted : (t10 : List ℕ) → Noted src k row a b s t (first2 (push_row s k row t) t10)
    unfolding push_row
    push_noted t10 =
        add_cases (λ (o : Added). Noted src k row a b s t (first2 (pushed o.ok s k row o.cells) t10)) (count s k) row t
        (λ room less. record { stays = refl; level = refl; kind = refl; ten = with_ten s k (count s k + 1) ∙ ten; others = λ j c d. count_other s k (count s k + 1) j c; rows = grown_as refl (sym more) (grown_add (count s k) row t room); one = rw more (omega arith); undone = λ e. differ e; has = λ e. new_row (rw more (omega arith)) (grown_as refl (sym more) (grown_add (count s k) row t room)) })
        (λ full. record { stays = refl; level = refl; kind = refl; ten = ten; others = λ j c d. refl; rows = grown_none; one = omega arith; undone = λ e. let z : ◌≡◌ {A = ℕ} 0 1 = cc in omega arith; has = λ e. let z : ◌≡◌ {A = ℕ} 0 1 = cc in absurd (omega arith) })
      where
        more : count (with_count s k (count s k + 1)) k ≡ count s k + 1
        more = same_low s k (count s k + 1) (omega arith) (rw ten (omega arith))

        differ : Going ≡ Done → ⊥
        differ e = let z : ◌≡◌ {A = ℕ} 0 1 = cc in omega arith

    repeat_noted : (what : Repeat) (c d e f : ℕ) (t10 : List ℕ) → Has src (length row) (count s k) t a b → Noted src k row a b s t (second2 t (list_repeat s what c d e f t10))
    unfolding list_repeat push_row
    repeat_noted what c d e f t10 h =
        add_cases (λ (o : Added). Noted src k row a b s t (second2 t (pushed o.ok s repeats (repeat_cells (number_of_repeat what) c d e f) o.cells))) (count s repeats) (repeat_cells (number_of_repeat what) c d e f) t10
        (λ room less. record { stays = refl; level = refl; kind = refl; ten = with_ten s repeats (count s repeats + 1) ∙ ten; others = λ j c d. other j d; rows = grown_as refl (sym (other k (λ e. omega arith))) grown_none; one = rw (other k (λ e. omega arith)) (omega arith); undone = λ e. let z : ◌≡◌ {A = ℕ} 0 1 = cc in omega arith; has = λ e. rw (other k (λ e. omega arith)) h })
        (λ full. record { stays = refl; level = refl; kind = refl; ten = ten; others = λ j c d. refl; rows = grown_none; one = omega arith; undone = λ e. let z : ◌≡◌ {A = ℕ} 0 1 = cc in omega arith; has = λ e. let z : ◌≡◌ {A = ℕ} 0 1 = cc in absurd (omega arith) })
      where
        other : (j : ℕ) → (j ≡ repeats → ⊥) → count (with_count s repeats (count s repeats + 1)) j ≡ count s j
        other j d = count_other s repeats (count s repeats + 1) j d

    -- what is given once to a name
    pub once_noted : (what : Repeat) (t10 : List ℕ) → Noted src k row a b s t (once_step src s k (length row) 0 what row t t10)
    unfolding once_step
    once_noted what t10 =
        find_cases (λ (x : Option ℕ). Noted src k row a b s t (once_found x s k (length row) what row t t10)) src (length row) 0 (count s k) t (get_or row 0 0) (get_or row 1 0)
        (λ r l e none. repeat_noted what _ _ _ _ t10 (found_row r l (rw (first, second) at e)))
        (λ none. push_noted t10)

-- a token that is entered undeclared: entering it marks nothing
pub enter_noted : (src : List ℕ) (s : State) → length s.counts.n ≡ 10 → (a b : ℕ) (t t' : List ℕ) → Passed src a b → Noted src tokens (token_cells a b 0) a b s t (first2 (enter_step src s a b false t) t')
unfolding enter_step
enter_noted src s ten a b t t' p =
    enter_cases (λ (o : Inserted). Noted src tokens (token_cells a b 0) a b s t (first2 (entered o.entered s (token_cells a b 0) o.cells) t')) src (count s tokens) a b false t
    (λ r l e. record { stays = refl; level = refl; kind = refl; ten = with_ten s tokens (count s tokens) ∙ ten; others = λ j c d. other (count s tokens) j c; rows = grown_as refl (sym (same (count s tokens))) grown_none; one = rw (same (count s tokens)) (omega arith); undone = λ e. let z : ◌≡◌ {A = ℕ} 0 1 = cc in omega arith; has = λ e'. rw (same (count s tokens)) (found_row src s ten tokens (omega arith) (token_cells a b 0) a b (omega arith) t r l e) })
    (λ none room low. record { stays = refl; level = refl; kind = refl; ten = with_ten s tokens (count s tokens + 1) ∙ ten; others = λ j c d. other (count s tokens + 1) j c; rows = grown_as refl (sym (same (count s tokens + 1))) (grown_add (count s tokens) (token_cells a b 0) t room); one = rw (same (count s tokens + 1)) (omega arith); undone = λ e. let z : ◌≡◌ {A = ℕ} 0 1 = cc in omega arith; has = λ e. rw (same (count s tokens + 1)) (new_row src s ten tokens (omega arith) (token_cells a b 0) a b (omega arith) t p refl refl (omega arith) (grown_add (count s tokens) (token_cells a b 0) t room)) })
    (λ none full. record { stays = refl; level = refl; kind = refl; ten = ten; others = λ j c d. refl; rows = grown_none; one = omega arith; undone = λ e. let z : ◌≡◌ {A = ℕ} 0 1 = cc in omega arith; has = λ e. let z : ◌≡◌ {A = ℕ} 0 1 = cc in absurd (omega arith) })
  where
    other : (m j : ℕ) → (j ≡ tokens → ⊥) → count (with_count s tokens m) j ≡ count s j
    other m j c = count_other s tokens m j c

    same : (m : ℕ) → count (with_count s tokens m) tokens ≡ m
    same m = same_low s tokens m (omega arith) (rw ten (omega arith))

-- spacing behind an item: no line end is counted, or some are
pub past_cases {κ} : (C : Out0 → Type κ) (src : List ℕ) (j : ℕ) (u : State) (kind : ℕ) → u.kind ≡ kind
    → ((i : ℕ) → spaces_at kind true src j ≡ Ok (i, 0) → C (record { answer = Going; state = with_at u i }))
    → ((i n : ℕ) → spaces_at kind true src j ≡ Ok (i, n) → 0 < n → C (record { answer = Done; state = with_at u i }))
    → ((f : Refusal) → ((i n : ℕ) → spaces_at kind true src j ≡ Ok (i, n) → ⊥) → C (record { answer = Refused f; state = u }))
    → C (past_gap src true j u)
unfolding past_gap gap_at gap_of
past_cases C src j u kind q f g h = go (spaces_at u.kind true src j) (ap (λ (k : ℕ). spaces_at k true src j) (sym q))
  where
    go : (r : Result (ℕ × ℕ) SpacingError) → spaces_at kind true src j ≡ r → C (past true (gap_of r) u)
    go (Ok (i, zero)) e = f i e
    go (Ok (i, suc n)) e = rw (ne_eqb (suc n) 0 (λ z. omega arith)) (g i (suc n) e (omega arith))
    go (Err (LineEnd i)) e = h _ (λ k n d. let z : ◌≡◌ {A = ℕ} 0 1 = cc in omega arith)
    go (Err (OpenComment i)) e = h _ (λ k n d. let z : ◌≡◌ {A = ℕ} 0 1 = cc in omega arith)

-- a state of a reading, and the bytes in front of it
pub record Stands (src : List ℕ) (s : State) : Type 0 where
  pub here : s.at ≤ length src
  pub ten : length s.counts.n ≡ 10

abbrev pub before : List ℕ → State → ℕ
before src s = length src - s.at

-- a turn of a run: it leads nearer to the end, and what is known of the run from there on is known of the whole one
abbrev pub Nears : {X : Type 0} → (X → Type 0) → (X → ℕ) → (X → X → Type 0) → X → Turn X → Type 0
Nears {X = X} I m R x (more y) = I y × (m y < m x) × ((e : X) → R y e → R x e)
Nears {X = X} I m R x (stop y) = R x y

-- a loop with turns enough stops, and where it stops is known from where it began
pub turns_run : {X : Type 0} (I : X → Type 0) (m : X → ℕ) (R : X → X → Type 0) (f : X → Turn X) → ((x : X) → I x → Nears I m R x (f x)) → (n : ℕ) (x : X) → I x → m x < n → R x (turns n f x)
unfolding turns
turns_run I m R f step zero x i h = absurd (omega arith)
turns_run {X} I m R f step (suc n) x i h = go (f x) (step x i) (turns_run I m R f step n)
  where
    go : (t : Turn X) → Nears I m R x t → ((y : X) → I y → m y < n → R y (turns n f y)) → R x (elim t [ more y ↦ turns n f y | stop y ↦ y ])
    go (more y) k rest = let l = k.1 in k.2 _ (rest y k.0 (omega arith))
    go (stop y) k rest = k
