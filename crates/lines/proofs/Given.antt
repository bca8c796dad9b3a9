-- What is given once to a name, exactly: which rows a step adds, where it finds room, and how steps follow one another. Assumes nothing.
use Rattle.std.specs.Prelude.{Some, Option, None}
use Prim.Native.Nat.{ℕ, zero, suc, ◌+◌, ◌*◌, ◌-◌, ◌≤◌, ◌<◌}
use mathlib.Core.Path.{◌≡◌, refl, sym, ap, ◌∙◌}
use mathlib.Core.List.Memᴰ
use mathlib.Core.List.{List, [], ◌∷◌, ◌++◌, map, map-append, Memᴰ}
use mathlib.Core.Bool.{Bool, true, false, false≢true}
use mathlib.Core.Logic.{◌↔◌, inl, inr}
use native.Mathlib.Omega.{arith}
use native.Mathlib.Decide.{dec_lt}
use native.Mathlib.Nat.{suc-mul}
use lib.ListN.{length, get_or, length-append, length-map}
use Rattle.scan.specs.declared.Place.{Place}
use Rattle.scan.proofs.Bytes.{told}
use Rattle.tables.specs.Table.{Added, Inserted, cell, room, has_name}
use Rattle.tables.specs.Rows.{row_at, rows_of}
use Rattle.tables.specs.Layout.{tokens, repeats, row_place, width}
use Rattle.tables.proofs.Rows.{row_below, row_cell}
use Rattle.tables.proofs.Cases.{add_cases, find_cases, enter_cases, room_iff}
use Rattle.grammar.specs.declared.State.{State}
use Rattle.grammar.specs.declared.Repeat.{Repeat}
use Rattle.grammar.specs.declared.Answer.TheVariants.{Going, Refused}
use Rattle.grammar.specs.declared.Refusal.{Refusal}
use Rattle.grammar.specs.Cells.{token_cells, repeat_cells}
use Rattle.grammar.specs.Refusals.{number_of_repeat}
use Rattle.grammar.specs.State.{Out1, Out2, entered, enter_step, count, with_at, with_count, pushed, push_row, list_repeat, first2, second2, once_found, once_step}
use Rattle.grammar.proofs.Counting.{with_ten, with_three, same_low, count_other}
use Rattle.marks.specs.Appended.{Appended, FreeRows}
use Rattle.marks.proofs.Appended.{appended_none, appended_then, appended_add, free_as, free_split, free_behind, free_here}
use Rattle.lines.specs.Met.{alike, namesake, first_met, RepeatPlaces, met_again, place_in, places_of, repeat_row, OnceFree, OnceGiven, OnceTables, Still}
use Rattle.lines.specs.Grown.{token_row}
use Rattle.lines.proofs.Names.{namesake_none, in-first, in-second, first_same, again_same, met_append, again_append, same_met}

-- room for rows, and then for more
module _ {w n : ℕ} {t : List ℕ} where
  pub free_then : {m l : ℕ} → FreeRows w n t m → FreeRows w (n + m) t l → FreeRows w n t (m + l)
  free_then {m} {l} f g = record { each = λ r h. go r h (dec_lt r m) }
    where
      go : (r : ℕ) → r < m + l → Dec (r < m) → room w (n + r) t ≡ true
      go r h (yes k) = f.each r k
      go r h (no k) = let e : n + m + (r - m) ≡ n + r = omega arith in rw e at (g.each (r - m) (omega arith))

-- room for no row, and for one
pub free_none : {w n : ℕ} {t : List ℕ} → FreeRows w n t 0
free_none = record { each = λ r h. absurd (omega arith) }

pub free_one : {w n : ℕ} {t : List ℕ} → 0 < w → n * w + w ≤ length t → n < 4294967295 → FreeRows w n t 1
free_one {w} {n} {t} p h k = record { each = λ r l. let e : n + r ≡ n = omega arith in rw e ((room_iff w n t p).1 (h, k)) }

pub full_one : {w n : ℕ} {t : List ℕ} → room w n t ≡ false → FreeRows w n t 1 → ⊥
full_one e f = false≢true (sym e ∙ free_here (omega arith) f)

-- rows that are added one part after the other: room for all of them is room for the first, and then for the others
module _ {w n : ℕ} {t : List ℕ} (x y : List (List ℕ)) where
  pub part_first : FreeRows w n t (length (x ++ y)) → FreeRows w n t (length x)
  part_first f = (free_split (rw length-append at f)).0

  module _ {m : ℕ} {u : List ℕ} (a : Appended w n t x m u) where
    pub part_rest : FreeRows w n t (length (x ++ y)) → FreeRows w m u (length y)
    part_rest f = free_behind a (length-append x y) f

    pub part_both : FreeRows w n t (length x) → FreeRows w m u (length y) → FreeRows w n t (length (x ++ y))
    part_both f g = rw length-append (free_then f (free_as a.size (sym a.counted) g))

-- in a table that holds its rows, room for more is cells and counts for all
pub free_iff : (w n m : ℕ) (t : List ℕ) → 0 < w → n * w ≤ length t → n ≤ 4294967295 → FreeRows w n t m ↔ (((n + m) * w ≤ length t) × (n + m ≤ 4294967295))
free_iff w n m t p h k = (there m, λ x. record { each = λ r l. (room_iff w (n + r) t p).1 (let b = row_below w (n + r) (n + m) (omega arith) in omega (arith, x.0), omega (arith, x.1)) })
  where
    there : (m : ℕ) → FreeRows w n t m → ((n + m) * w ≤ length t) × (n + m ≤ 4294967295)
    there zero f = let e : n + 0 ≡ n = omega arith in rw e (h, k)
    there (suc m) f =
        let x = (room_iff w (n + m) t p).0 (f.each m (omega arith)) in
        let e : n + suc m ≡ suc (n + m) = omega arith in
        rw (e, suc-mul (n + m) w) (x.0, x.1)

-- Rows of the places that are met first are added to a table: its rows remember which names were met.
module _ (src : List ℕ) (cells : Place → List ℕ) (own : (p : Place) → place_in (cells p) ≡ p) {w n m : ℕ} {t u : List ℕ} (ps : List Place) (a : Appended w n t (map cells (first_met src (places_of w n t) ps)) m u) where
  abbrev known : List Place
  known = places_of w n t

  placed : places_of w m u ≡ known ++ first_met src known ps
  placed = rw (a.rows, map-append place_in (rows_of w n t) (map cells (first_met src known ps)), same (first_met src known ps))
    where
      same : (qs : List Place) → map place_in (map cells qs) ≡ qs
      same [] = refl
      same (q ∷ qs) = rw (own q, same qs)

  pub first_then : (qs : List Place) → first_met src known (ps ++ qs) ≡ first_met src known ps ++ first_met src (places_of w m u) qs
  first_then qs = rw (placed, ← first_same src (known ++ ps) (known ++ first_met src known ps) qs (same_met src known ps)) (met_append src known ps qs)

  pub again_then : (qs : List Place) → met_again src known (ps ++ qs) ≡ met_again src known ps ++ met_again src (places_of w m u) qs
  again_then qs = rw (placed, ← again_same src (known ++ ps) (known ++ first_met src known ps) qs (same_met src known ps)) (again_append src known ps qs)

  -- so rows that are added by further places are added by all of them,
  pub joined_then : {l : ℕ} {v : List ℕ} (qs : List Place) → Appended w m u (map cells (first_met src (places_of w m u) qs)) l v → Appended w n t (map cells (first_met src known (ps ++ qs))) l v
  joined_then qs b = rw (first_then qs, map-append cells (first_met src known ps) (first_met src (places_of w m u) qs)) (appended_then a b)

  -- and there is room for all of them exactly where there is for the first and then for the further ones.
  pub room_then : (qs : List Place) → FreeRows w n t (length (first_met src known ps)) → FreeRows w m u (length (first_met src (places_of w m u) qs)) → FreeRows w n t (length (first_met src known (ps ++ qs)))
  room_then qs f g = rw (first_then qs, length-append) (free_then f (free_as a.size (let c = a.counted in rw length-map at (sym c)) g))

  pub room_split : (qs : List Place) → FreeRows w n t (length (first_met src known (ps ++ qs))) → FreeRows w n t (length (first_met src known ps)) × FreeRows w m u (length (first_met src (places_of w m u) qs))
  room_split qs f =
      let x = free_split (rw (first_then qs, length-append) at f) in
      (x.0, free_as (sym a.size) (let c = a.counted in rw length-map at c) x.1)

-- room for all is room for the first of them
pub free_front : {src : List ℕ} {k w : ℕ} {s : State} {t t10 : List ℕ} (ps qs : List Place) → OnceFree src k w (ps ++ qs) s t t10 → OnceFree src k w ps s t t10
free_front {src} {k} {w} {s} {t} ps qs f =
    let x = met_append src (places_of w (count s k) t) ps qs in
    let y = again_append src (places_of w (count s k) t) ps qs in
    record { own = (free_split (rw (x, length-append) at f.own)).0; again = (free_split (rw (y, length-append) at f.again)).0 }

-- the same of both tables
module _ {src : List ℕ} {k w : ℕ} {cells : Place → List ℕ} (own : (p : Place) → place_in (cells p) ≡ p) {what : Repeat} {ps : List Place} {s u : State} {t t10 a b : List ℕ} (x : OnceGiven src k w cells what ps s t t10 u a b) where
  pub given_then : {v : State} {c d : List ℕ} (qs : List Place) → OnceGiven src k w cells what qs u a b v c d → OnceGiven src k w cells what (ps ++ qs) s t t10 v c d
  given_then qs y =
      record {
        own = joined_then src cells own ps x.own qs y.own;
        again = rw (again_then src cells own ps x.own qs, map-append (repeat_row what)) (appended_then x.again y.again);
      }

  pub free_both : (qs : List Place) → OnceFree src k w ps s t t10 → OnceFree src k w qs u a b → OnceFree src k w (ps ++ qs) s t t10
  free_both qs f g =
      record {
        own = room_then src cells own ps x.own qs f.own g.own;
        again = rw (again_then src cells own ps x.own qs, length-append) (free_then f.again (free_as x.again.size (let c = x.again.counted in rw length-map at (sym c)) g.again));
      }

  pub free_parts : (qs : List Place) → OnceFree src k w (ps ++ qs) s t t10 → OnceFree src k w ps s t t10 × OnceFree src k w qs u a b
  free_parts qs f =
      let y = room_split src cells own ps x.own qs f.own in
      let z = free_split (rw (again_then src cells own ps x.own qs, length-append) at f.again) in
      (record { own = y.0; again = z.0 }, record { own = y.1; again = free_as (sym x.again.size) (let c = x.again.counted in rw length-map at c) z.1 })

-- Rows under a search are places under one.
module _ (src : List ℕ) (w : ℕ) (wide : 1 < w) (t : List ℕ) (p : Place) where
  has : (r : ℕ) (b : Bool) → has_name src w 0 t p.from p.to r ≡ b → alike src (place_in (row_at w t r)) p ≡ b
  unfolding has_name
  has r b e = rw (row_cell w t r 0 (omega arith), row_cell w t r 1 wide) e

  places_more : (n : ℕ) → places_of w (suc n) t ≡ places_of w n t ++ (place_in (row_at w t n) ∷ [])
  unfolding rows_of
  places_more n = map-append place_in (rows_of w n t) (row_at w t n ∷ [])

  pub none_found : (n : ℕ) → ((r : ℕ) → r < n → has_name src w 0 t p.from p.to r ≡ false) → namesake src (places_of w n t) p ≡ None
  unfolding rows_of namesake
  none_found zero h = refl
  none_found (suc n) h = rw (places_more n) (in-second src (places_of w n t) _ p (none_found n (λ r l. h r (omega arith))) ∙ rw (has n false (h n (omega arith)), namesake))

  pub row_found : (n r : ℕ) → r < n → has_name src w 0 t p.from p.to r ≡ true → ((q : ℕ) → q < r → has_name src w 0 t p.from p.to q ≡ false) → namesake src (places_of w n t) p ≡ Some (place_in (row_at w t r))
  unfolding namesake
  row_found zero r l e h = absurd (omega arith)
  row_found (suc n) r l e h = rw (places_more n) (go (dec_lt r n) (λ k. row_found n r k e h))
    where
      go : Dec (r < n) → (r < n → namesake src (places_of w n t) p ≡ Some (place_in (row_at w t r))) → namesake src (places_of w n t ++ (place_in (row_at w t n) ∷ [])) p ≡ Some (place_in (row_at w t r))
      go (yes k) f = in-first src (places_of w n t) _ p _ (f k)
      go (no k) f =
          let z : r ≡ n = omega arith in
          rw (← z) (in-second src (places_of w r t) _ p (none_found r h) ∙ rw (has r true e, namesake))

  row_in : (n r : ℕ) → r < n → Memᴰ (row_at w t r) (rows_of w n t)
  unfolding rows_of
  row_in zero r h = absurd (omega arith)
  row_in (suc n) r h = go (dec_lt r n) (row_in n r)
    where
      go : Dec (r < n) → (r < n → Memᴰ (row_at w t r) (rows_of w n t)) → Memᴰ (row_at w t r) (rows_of w n t ++ (row_at w t n ∷ []))
      go (yes k) f = Memᴰ.append_left (row_at w t n ∷ []) (f k)
      go (no k) f = let e : r ≡ n = omega arith in Memᴰ.append_right (rows_of w n t) (Memᴰ.head (rw e))

  pub some_found : (n r : ℕ) → r < n → has_name src w 0 t p.from p.to r ≡ true → namesake src (places_of w n t) p ≡ None → ⊥
  some_found n r l e h = false≢true (sym ((namesake_none src (places_of w n t) p).0 h (place_in (row_at w t r)) (Memᴰ.map place_in (row_in n r l))) ∙ has r true e)

-- the state but for counts
module _ {P : ℕ → Type 0} {s u : State} (x : Still P s u) where
  pub still_then : {v : State} → Still P u v → Still P s v
  still_then y =
      record {
        kind = y.kind ∙ x.kind;
        at = y.at ∙ x.at;
        level = y.level ∙ x.level;
        ten = y.ten ∙ x.ten;
        three = y.three ∙ x.three;
        others = λ k h. y.others k h ∙ x.others k h;
        singles = y.singles ∙ x.singles;
        actiontype = y.actiontype ∙ x.actiontype;
      }

  pub still_map : {Q : ℕ → Type 0} → ((k : ℕ) → P k → Q k) → Still Q s u
  still_map f = record { kind = x.kind; at = x.at; level = x.level; ten = x.ten; three = x.three; others = λ k h. x.others k (λ p. h (f k p)); singles = x.singles; actiontype = x.actiontype }

  pub still_at : (i : ℕ) → Still P (with_at s i) (with_at u i)
  still_at i = record { kind = x.kind; at = refl; level = x.level; ten = x.ten; three = x.three; others = x.others; singles = x.singles; actiontype = x.actiontype }

pub still_none : {P : ℕ → Type 0} {s : State} → Still P s s
still_none = record { kind = refl; at = refl; level = refl; ten = refl; three = refl; others = λ k h. refl; singles = refl; actiontype = refl }

pub still_count : {P : ℕ → Type 0} (s : State) (k n : ℕ) → P k → Still P s (with_count s k n)
still_count s k n p = record { kind = refl; at = refl; level = refl; ten = with_ten s k n; three = with_three s k n; others = λ j h. count_other s k n j (λ e. h (rw e p)); singles = refl; actiontype = refl }

-- One row: it is added where there is room.
pub push_cases : (s : State) (k : ℕ) (row t : List ℕ) → 0 < length row → (C : Out1 → Type 0)
    → ((u : State) (a : List ℕ) → FreeRows (length row) (count s k) t 1 → (count (with_count s k (count s k + 1)) k ≡ count s k + 1 → Appended (length row) (count s k) t (row ∷ []) (count u k) a) → Still (λ (j : ℕ). j ≡ k) s u → C (record { answer = Going; state = u; a = a }))
    → ((f : Refusal) → (FreeRows (length row) (count s k) t 1 → ⊥) → C (record { answer = Refused f; state = s; a = t }))
    → C (push_row s k row t)
unfolding push_row
push_cases s k row t wide C f g =
    add_cases (λ (o : Added). C (pushed o.ok s k row o.cells)) (count s k) row t
    (λ fits few. f (with_count s k (count s k + 1)) _ (free_one wide fits few) (λ same. rw same (appended_add (count s k) row t fits)) (still_count s k (count s k + 1) refl))
    (λ full. g _ (full_one full))

-- One place: its row is added where it is met first, or else it is listed as a repeat of the first, where there is room.
module _ (src : List ℕ) (s : State) (ten : length s.counts.n ≡ 10) (k : ℕ) (low : k < repeats) (first : row_place k ≡ 0) (cells : Place → List ℕ) (own : (p : Place) → place_in (cells p) ≡ p) (p : Place) (wide : 1 < length (cells p)) (what : Repeat) (t t10 : List ℕ) where
  abbrev w : ℕ
  w = length (cells p)

  abbrev old : List Place
  old = places_of w (count s k) t

  same : (j n : ℕ) → j < 10 → count (with_count s j n) j ≡ n
  same j n h = same_low s j n h (rw ten h)

  other : (j i n : ℕ) → (i ≡ j → ⊥) → count (with_count s j n) i ≡ count s i
  other j i n h = count_other s j n i h

  from_is : get_or (cells p) 0 0 ≡ p.from
  from_is = ap (λ (q : Place). q.from) (own p)

  to_is : get_or (cells p) 1 0 ≡ p.to
  to_is = ap (λ (q : Place). q.to) (own p)

  pub once_cases : (C : Out2 → Type 0)
      → ((u : State) (a b : List ℕ) → OnceFree src k w (p ∷ []) s t t10 → OnceGiven src k w cells what (p ∷ []) s t t10 u a b → Still (OnceTables k) s u → C (record { answer = Going; state = u; a = a; b = b }))
      → ((f : Refusal) (u : State) (a b : List ℕ) → (OnceFree src k w (p ∷ []) s t t10 → ⊥) → C (record { answer = Refused f; state = u; a = a; b = b }))
      → C (once_step src s k w 0 what (cells p) t t10)
  unfolding once_step list_repeat push_row first_met met_again
  once_cases C f g =
      find_cases (λ (x : Option ℕ). C (once_found x s k w what (cells p) t t10)) src w 0 (count s k) t (get_or (cells p) 0 0) (get_or (cells p) 1 0)
      (λ r l e h. repeated r (row_found src w wide t p (count s k) r l (rw (from_is, to_is) at e) (rw (from_is, to_is) at h)))
      (λ h. new (none_found src w wide t p (count s k) (rw (from_is, to_is) at h)))
    where
      new : namesake src old p ≡ None → C (first2 (push_row s k (cells p) t) t10)
      new e =
          let m : first_met src old (p ∷ []) ≡ p ∷ [] = rw e in
          let z : met_again src old (p ∷ []) ≡ [] = rw e in
          add_cases (λ (o : Added). C (first2 (pushed o.ok s k (cells p) o.cells) t10)) (count s k) (cells p) t
          (λ fits few. f (with_count s k (count s k + 1)) _ t10
          (record { own = rw m (free_one (omega arith) fits few); again = rw z free_none })
          (record { own = rw (m, same k (count s k + 1) (omega arith)) (appended_add (count s k) (cells p) t fits); again = rw (z, other k repeats (count s k + 1) (λ e. omega arith)) appended_none })
          (still_count s k (count s k + 1) (inl refl)))
          (λ full. g _ s t t10 (λ q. full_one full (rw m at q.own)))

      repeated : (r : ℕ) → namesake src old p ≡ Some (place_in (row_at w t r)) → C (once_found (Some r) s k w what (cells p) t t10)
      repeated r e =
          let x : RepeatPlaces = record { first = place_in (row_at w t r); repeated = p } in
          let m : first_met src old (p ∷ []) ≡ [] = rw e in
          let z : met_again src old (p ∷ []) ≡ x ∷ [] = rw e in
          let row : repeat_cells (number_of_repeat what) (cell w t r (row_place k)) (cell w t r (row_place k + 1)) (get_or (cells p) (row_place k) 0) (get_or (cells p) (row_place k + 1) 0) ≡ repeat_row what x = rw (first, from_is, to_is, row_cell w t r 0 (omega arith), row_cell w t r 1 wide) in
          told (λ (v : List ℕ). C (second2 t (push_row s repeats v t10))) (sym row)
          (add_cases (λ (o : Added). C (second2 t (pushed o.ok s repeats (repeat_row what x) o.cells))) (count s repeats) (repeat_row what x) t10
          (λ fits few. f (with_count s repeats (count s repeats + 1)) t _
          (record { own = rw m free_none; again = rw z (free_one (omega arith) fits few) })
          (record { own = rw (m, other repeats k (count s repeats + 1) (λ e. omega arith)) appended_none; again = rw (z, same repeats (count s repeats + 1) (omega arith)) (appended_add (count s repeats) (repeat_row what x) t10 fits) })
          (still_count s repeats (count s repeats + 1) (inr refl)))
          (λ full. g _ s t t10 (λ q. full_one full (rw z at q.again))))

-- A token that is entered undeclared: its row is added where no row has its name, where there is room; entering it marks nothing.
module _ (src : List ℕ) (s : State) (ten : length s.counts.n ≡ 10) (p : Place) (t : List ℕ) where
  abbrev listed : List Place
  listed = places_of (width tokens) (count s tokens) t

  now : (n : ℕ) → count (with_count s tokens n) tokens ≡ n
  now n = same_low s tokens n (omega arith) (rw ten (omega arith))

  pub undeclared_cases : (C : Out1 → Type 0)
      → ((u : State) (a : List ℕ) → FreeRows (width tokens) (count s tokens) t (length (first_met src listed (p ∷ []))) → Appended (width tokens) (count s tokens) t (map token_row (first_met src listed (p ∷ []))) (count u tokens) a → Still (λ (j : ℕ). j ≡ tokens) s u → C (record { answer = Going; state = u; a = a }))
      → ((f : Refusal) (u : State) (a : List ℕ) → (FreeRows (width tokens) (count s tokens) t (length (first_met src listed (p ∷ []))) → ⊥) → C (record { answer = Refused f; state = u; a = a }))
      → C (enter_step src s p.from p.to false t)
  unfolding enter_step first_met
  undeclared_cases C f g =
      enter_cases (λ (o : Inserted). C (entered o.entered s (token_cells p.from p.to 0) o.cells)) src (count s tokens) p.from p.to false t
      (λ r l e. old (namesake src listed p) refl (some_found src (width tokens) (omega arith) t p (count s tokens) r l e))
      (λ none fits few. let m = new none in f _ _ (rw m (free_one (omega arith) fits few)) (rw (m, now (count s tokens + 1)) (appended_add (count s tokens) (token_row p) t fits)) (still_count s tokens (count s tokens + 1) refl))
      (λ none full. let m = new none in g _ s t (λ q. full_one full (rw m at q)))
    where
      new : ((r : ℕ) → r < count s tokens → has_name src (width tokens) 0 t p.from p.to r ≡ false) → first_met src listed (p ∷ []) ≡ p ∷ []
      new h = let e = none_found src (width tokens) (omega arith) t p (count s tokens) h in rw e

      old : (o : Option Place) → namesake src listed p ≡ o → (namesake src listed p ≡ None → ⊥) → C (record { answer = Going; state = with_count s tokens (count s tokens); a = t })
      old None e h = absurd (h e)
      old (Some q) e h = let m : first_met src listed (p ∷ []) ≡ [] = rw e in f _ t (rw m free_none) (rw (m, now (count s tokens)) appended_none) (still_count s tokens (count s tokens) refl)
