-- The steps that add a row, on two readings that are alike. Assumes nothing.
use Rattle.std.specs.Prelude.{Option, Some, None}
use Prim.Native.Nat.{ℕ, ◌+◌, ◌-◌, ◌*◌, ◌<◌}
use mathlib.Core.Path.{◌≡◌, refl, sym, ◌∙◌, ap, ap₂}
use mathlib.Core.List.{List}
use mathlib.Core.Bool.{Bool, true, false}
use native.Mathlib.Omega.{arith}
use lib.Dec.{ltb}
use lib.ListN.{length, get_or, set}
use lib.Seq.{slice_empty}
use Rattle.scan.proofs.Bytes.{told}
use Rattle.tables.specs.Layout.{tokens, rules, repeats, posix_from, row_place, width}
use Rattle.tables.specs.Table.{put, room, add_row, find_name, enter_token, marked, flag}
use Rattle.tables.proofs.Laws.{room_fits}
use Rattle.tables.proofs.Cases.{find_iff}
use Rattle.grammar.specs.declared.Counts.{Counts}
use Rattle.grammar.specs.declared.PosixCounts.{PosixCounts}
use Rattle.grammar.specs.declared.State.{State}
use Rattle.grammar.specs.declared.Answer.TheVariants.{Going, Refused}
use Rattle.grammar.specs.declared.Singles.{Singles}
use Rattle.grammar.specs.declared.Repeat.{Repeat}
use Rattle.grammar.specs.Cells.{token_cells, rule_cells, repeat_cells}
use Rattle.grammar.specs.State.{Out1, Out2, count, with_count, with_at, with_level, with_singles, with_actiontype, no_room, push_row, enter_step, list_repeat, once_found, once_step}
use Rattle.grammar.proofs.Counting.{with_ten, same_low, count_other}
use Rattle.grammar.proofs.Touch.{refused_going}
use Rattle.rules.specs.Rules.{Heading, rule_found, enter_rule}
use Rattle.alike.specs.Like.{Kind, original, grmtools, eco, Same, Fields, fields, Table, LikePart, LikeSingles, Like}
use Rattle.alike.proofs.Rows.{find_like, add_like, mark_like, names_like}

-- kind 4 is not shipped
pub not_four : {kind : ℕ} → Kind kind → kind ≡ 4 → ⊥
not_four original e = omega arith
not_four grmtools e = omega arith
not_four eco e = omega arith

-- a step on one table: both go on, and are alike
pub record Both1 (src out : List ℕ) (k : ℕ) (s u : State) (o z : Out1) : Type 0 where
  pub going : z.answer ≡ Going
  pub stays : o.state.at ≡ s.at
  pub stays' : z.state.at ≡ u.at
  pub states : Like src out o.state z.state
  pub table : Table src out k (count o.state k) o.a z.a
  pub others : (j : ℕ) → (j ≡ k → ⊥) → count o.state j ≡ count s j

-- a row is added where there is room, and refused where there is none
push_true : (s : State) (k : ℕ) (row t : List ℕ) → room (length row) (count s k) t ≡ true → push_row s k row t ≡ record { answer = Going; state = with_count s k (count s k + 1); a = put t (count s k * length row) row }
unfolding push_row add_row
push_true s k row t h = rw h

push_false : (s : State) (k : ℕ) (row t : List ℕ) → room (length row) (count s k) t ≡ false → (push_row s k row t).answer ≡ Refused (no_room k row)
unfolding push_row add_row
push_false s k row t h = rw h

abbrev ten_with : Counts → ℕ → ℕ → Counts
ten_with c k n = record { n = elim (ltb k posix_from) [ true ↦ set c.n k n | false ↦ c.n ] }

abbrev three_with : PosixCounts → ℕ → ℕ → PosixCounts
three_with p k n = record { n = elim (ltb k posix_from) [ true ↦ p.n | false ↦ set p.n (k - posix_from) n ] }

-- room is a matter of the length alone
room_long : (w n : ℕ) (t v : List ℕ) → length t ≡ length v → room w n t ≡ room w n v
unfolding room
room_long w n t v e = rw e

module _ (src out : List ℕ) (s u : State) (l : Like src out s u) where
  pub same_count : (k : ℕ) → count s k ≡ count u k
  same_count k = ap₂ (λ (c : Counts) (p : PosixCounts). elim (ltb k posix_from) [ true ↦ get_or c.n k 0 | false ↦ get_or p.n (k - posix_from) 0 ]) l.counts l.posix

  -- Readings that are alike are so when both move, come to another level, or are given singles or an action type alike,
  pub like_at : (i j : ℕ) → Like src out (with_at s i) (with_at u j)
  like_at i j = record { shipped = l.shipped; kind = l.kind; level = l.level; ten = l.ten; counts = l.counts; posix = l.posix; singles = l.singles; actiontype = l.actiontype }

  pub like_level : (n : ℕ) → Like src out (with_level s n) (with_level u n)
  like_level n = record { shipped = l.shipped; kind = l.kind; level = refl; ten = l.ten; counts = l.counts; posix = l.posix; singles = l.singles; actiontype = l.actiontype }

  pub like_singles : (g h : Singles) → LikeSingles src out g h → Like src out (with_singles s g) (with_singles u h)
  like_singles g h x = record { shipped = l.shipped; kind = l.kind; level = l.level; ten = l.ten; counts = l.counts; posix = l.posix; singles = x; actiontype = l.actiontype }

  pub like_actiontype : (p q : Option (ℕ × ℕ)) → LikePart src out p q → Like src out (with_actiontype s p) (with_actiontype u q)
  like_actiontype p q x = record { shipped = l.shipped; kind = l.kind; level = l.level; ten = l.ten; counts = l.counts; posix = l.posix; singles = l.singles; actiontype = x }

  -- and when the same is counted in both
  pub count_like : (k n : ℕ) → Like src out (with_count s k n) (with_count u k n)
  count_like k n =
      record {
        shipped = l.shipped;
        kind = l.kind;
        level = l.level;
        ten = with_ten s k n ∙ l.ten;
        counts = ap (λ (c : Counts). ten_with c k n) l.counts;
        posix = ap (λ (p : PosixCounts). three_with p k n) l.posix;
        singles = l.singles;
        actiontype = l.actiontype;
      }

  pub push_like : (k : ℕ) → k < 10 → (row row' t v : List ℕ) → length row ≡ width k → length row' ≡ width k → Fields src out (fields k) row row'
      → Table src out k (count s k) t v → (push_row s k row t).answer ≡ Going → Both1 src out k s u (push_row s k row t) (push_row u k row' v)
  push_like k h row row' t v e f x y g = go (room (length row) (count s k) t) refl
    where
      n : ℕ
      n = count s k

      there : room (length row) n t ≡ true → room (length row') (count u k) v ≡ true
      there q = rw (← same_count k, f, ← e) (sym (room_long (length row) n t v y.long) ∙ q)

      go : (q : Bool) → room (length row) n t ≡ q → Both1 src out k s u (push_row s k row t) (push_row u k row' v)
      go true q =
          let m = room_fits (length row) n t q in
          let z : count (with_count s k (n + 1)) k ≡ n + 1 = same_low s k (n + 1) h (rw l.ten h) in
          rw (push_true s k row t q, push_true u k row' v (there q), ← same_count k)
          (record {
            going = refl;
            stays = refl;
            stays' = refl;
            states = told (λ (m : ℕ). Like src out (with_count s k (n + 1)) (with_count u k (m + 1))) (same_count k) (count_like k (n + 1));
            table = rw (z, e, f) (add_like src out (fields k) (width k) n t v row row' e f (rw e at m) y x);
            others = count_other s k (n + 1);
          })
      go false q = absurd (refused_going _ (sym (push_false s k row t q) ∙ g))

-- a token is found, or has a new row, or finds no room
module _ (src : List ℕ) (s : State) (a b : ℕ) (d : Bool) (t : List ℕ) where
  enter_found : (r : ℕ) → find_name src (width tokens) 0 (count s tokens) t a b ≡ Some r → enter_step src s a b d t ≡ record { answer = Going; state = with_count s tokens (count s tokens); a = marked d r t }
  unfolding enter_step enter_token
  enter_found r h = rw h

  enter_new : find_name src (width tokens) 0 (count s tokens) t a b ≡ None → room 3 (count s tokens) t ≡ true
      → enter_step src s a b d t ≡ record { answer = Going; state = with_count s tokens (count s tokens + 1); a = put t (count s tokens * 3) (token_cells a b (flag d)) }
  unfolding enter_step enter_token add_row
  enter_new h k = rw (h, k)

  enter_full : find_name src (width tokens) 0 (count s tokens) t a b ≡ None → room 3 (count s tokens) t ≡ false → (enter_step src s a b d t).answer ≡ Refused (no_room tokens (token_cells a b (flag d)))
  unfolding enter_step enter_token add_row
  enter_full h k = rw (h, k)

module _ (src out : List ℕ) (s u : State) (l : Like src out s u) where
  pub enter_like : (a b c e : ℕ) (d : Bool) (t v : List ℕ) → Same src out a b c e → Table src out tokens (count s tokens) t v → (enter_step src s a b d t).answer ≡ Going
      → Both1 src out tokens s u (enter_step src s a b d t) (enter_step out u c e d v)
  enter_like a b c e d t v x y g = go (find_name src 3 0 n t a b) refl (room 3 n t) refl
    where
      n : ℕ
      n = count s tokens

      found : find_name src 3 0 n t a b ≡ find_name out 3 0 (count u tokens) v c e
      found = rw (← same_count src out s u l tokens) (find_like src out 3 0 n t v (omega arith) (names_like src out (fields tokens) 3 0 n t v (omega arith) y (λ x y f. f.0)) a b c e x)

      counted : (m : ℕ) → count (with_count s tokens m) tokens ≡ m
      counted m = same_low s tokens m (omega arith) (rw l.ten (omega arith))

      mark : (d : Bool) (r : ℕ) → r < n → Table src out tokens n (marked d r t) (marked d r v)
      mark true r h = mark_like src out n r t v h y
      mark false r h = y

      go : (f : Option ℕ) → find_name src 3 0 n t a b ≡ f → (q : Bool) → room 3 n t ≡ q → Both1 src out tokens s u (enter_step src s a b d t) (enter_step out u c e d v)
      go (Some r) h q k =
          let i = ((find_iff src 3 0 n t a b r).0 h).inside in
          rw (enter_found src s a b d t r h, enter_found out u c e d v r (sym found ∙ h), ← same_count src out s u l tokens)
          (record { going = refl; stays = refl; stays' = refl; states = count_like src out s u l tokens n; table = rw (counted n) (mark d r i); others = count_other s tokens n })
      go None h true k =
          let m = room_fits 3 n t k in
          let o : room 3 (count u tokens) v ≡ true = rw (← same_count src out s u l tokens) (sym (room_long 3 n t v y.long) ∙ k) in
          rw (enter_new src s a b d t h k, enter_new out u c e d v (sym found ∙ h) o, ← same_count src out s u l tokens)
          (record {
            going = refl;
            stays = refl;
            stays' = refl;
            states = count_like src out s u l tokens (n + 1);
            table = rw (counted (n + 1)) (add_like src out (fields tokens) 3 n t v (token_cells a b (flag d)) (token_cells c e (flag d)) refl refl m y (x, (refl, tt)));
            others = count_other s tokens (n + 1);
          })
      go None h false k = absurd (refused_going _ (sym (enter_full src s a b d t h k) ∙ g))

-- what may be given once: a row more, or a repeat; table k + 1 and the repeats
pub record Both2 (src out : List ℕ) (k : ℕ) (s : State) (o z : Out2) : Type 0 where
  pub going : z.answer ≡ Going
  pub states : Like src out o.state z.state
  pub table : Table src out k (count o.state k) o.a z.a
  pub again : Table src out repeats (count o.state repeats) o.b z.b
  pub others : (j : ℕ) → (j ≡ k → ⊥) → (j ≡ repeats → ⊥) → count o.state j ≡ count s j

module _ (src out : List ℕ) (s u : State) (l : Like src out s u) where
  -- the names of table k + 1 are in the cells `name` and `name + 1`, and what is told of a row is its place
  pub once_like : (k name : ℕ) → k < 10 → (k ≡ repeats → ⊥) → name + 1 < width k → row_place k + 1 < width k
      → ((x y : List ℕ) → Fields src out (fields k) x y → Same src out (get_or x name 0) (get_or x (name + 1) 0) (get_or y name 0) (get_or y (name + 1) 0))
      → ((x y : List ℕ) → Fields src out (fields k) x y → Same src out (get_or x (row_place k) 0) (get_or x (row_place k + 1) 0) (get_or y (row_place k) 0) (get_or y (row_place k + 1) 0))
      → (what : Repeat) (row row' t v t10 v10 : List ℕ) → length row ≡ width k → length row' ≡ width k → Fields src out (fields k) row row'
      → Table src out k (count s k) t v → Table src out repeats (count s repeats) t10 v10
      → (once_step src s k (width k) name what row t t10).answer ≡ Going
      → Both2 src out k s (once_step src s k (width k) name what row t t10) (once_step out u k (width k) name what row' v v10)
  unfolding once_step list_repeat
  once_like k name h apart m m1 names places what row row' t v t10 v10 e f z tab again =
      rw (← found) (go (find_name src (width k) name (count s k) t from to) refl)
    where
      from : ℕ
      from = get_or row name 0

      to : ℕ
      to = get_or row (name + 1) 0

      found : find_name src (width k) name (count s k) t from to ≡ find_name out (width k) name (count u k) v (get_or row' name 0) (get_or row' (name + 1) 0)
      found = rw (← same_count src out s u l k) (find_like src out (width k) name (count s k) t v m (names_like src out (fields k) (width k) name (count s k) t v m tab names) from to _ _ (names row row' z))

      go : (r : Option ℕ) → find_name src (width k) name (count s k) t from to ≡ r → (once_found r s k (width k) what row t t10).answer ≡ Going
          → Both2 src out k s (once_found r s k (width k) what row t t10) (once_found r u k (width k) what row' v v10)
      go (Some r) q g =
          let i = ((find_iff src (width k) name (count s k) t from to r).0 q).inside in
          let w = names_like src out (fields k) (width k) (row_place k) (count s k) t v m1 tab places r i in
          let p = push_like src out s u l repeats (omega arith) (repeat_cells _ _ _ _ _) (repeat_cells _ _ _ _ _) t10 v10 refl refl (refl, (w, (places row row' z, tt))) again g in
          record { going = p.going; states = p.states; table = rw (p.others k apart) tab; again = p.table; others = λ j n o. p.others j o }
      go None q g =
          let p = push_like src out s u l k h row row' t v e f z tab g in
          record { going = p.going; states = p.states; table = p.table; again = rw (p.others repeats (λ n. apart (sym n))) again; others = λ j n o. p.others j n }

-- a rule's row, found or new
pub record BothHeads (src out : List ℕ) (s u : State) (o z : Heading) : Type 0 where
  pub going : z.answer ≡ Going
  pub stays : o.state.at ≡ s.at
  pub stays' : z.state.at ≡ u.at
  pub row : o.row ≡ z.row
  pub states : Like src out o.state z.state
  pub table : Table src out rules (count o.state rules) o.t7 z.t7
  pub others : (j : ℕ) → (j ≡ rules → ⊥) → count o.state j ≡ count s j

module _ (src out : List ℕ) (s u : State) (l : Like src out s u) where
  -- the cells of a type, given or not
  type_like : (a b c d : ℕ) (p q : Option (ℕ × ℕ)) → Same src out a b c d → LikePart src out p q → Fields src out (fields rules) (rule_cells a b p) (rule_cells c d q)
  type_like a b c d None None x y = (x, (refl, (record { here = (omega arith, omega arith); there = (omega arith, omega arith); bytes = slice_empty 0 src ∙ sym (slice_empty 0 out) }, tt)))
  type_like a b c d None (Some (e, f)) x y = absurd y
  type_like a b c d (Some (e, f)) None x y = absurd y
  type_like a b c d (Some (e, f)) (Some (g, h)) x y = (x, (refl, (y, tt)))

  wide : (a b : ℕ) (p : Option (ℕ × ℕ)) → length (rule_cells a b p) ≡ width rules
  wide a b None = refl
  wide a b (Some (c, d)) = refl

  pub rule_like : (a b c d : ℕ) (p q : Option (ℕ × ℕ)) (t v : List ℕ) → Same src out a b c d → LikePart src out p q → Table src out rules (count s rules) t v → (enter_rule src s a b p t).answer ≡ Going
      → BothHeads src out s u (enter_rule src s a b p t) (enter_rule out u c d q v)
  unfolding enter_rule
  rule_like a b c d p q t v x y tab = rw (← found) (go (find_name src (width rules) 0 (count s rules) t a b))
    where
      found : find_name src (width rules) 0 (count s rules) t a b ≡ find_name out (width rules) 0 (count u rules) v c d
      found = rw (← same_count src out s u l rules) (find_like src out (width rules) 0 (count s rules) t v (omega arith) (names_like src out (fields rules) (width rules) 0 (count s rules) t v (omega arith) tab (λ x y f. f.0)) a b c d x)

      go : (r : Option ℕ) → (rule_found r s a b p t).answer ≡ Going → BothHeads src out s u (rule_found r s a b p t) (rule_found r u c d q v)
      go (Some r) g = record { going = refl; stays = refl; stays' = refl; row = refl; states = l; table = tab; others = λ j e. refl }
      go None g =
          let o = push_like src out s u l rules (omega arith) (rule_cells a b p) (rule_cells c d q) t v (wide a b p) (wide c d q) (type_like a b c d p q x y) tab g in
          record { going = o.going; stays = o.stays; stays' = o.stays'; row = same_count src out s u l rules; states = o.states; table = o.table; others = o.others }
