-- Runs of symbols: how a first byte tells the sort of an item, what a symbol's item comes to where it goes on, and that a run is so many turns. Assumes nothing.
use Rattle.std.specs.Prelude.{Option, Some, None, Result, Ok}
use Prim.Native.Nat.{ℕ, ◌+◌, ◌-◌, ◌/◌, ◌≤◌, ◌<◌}
use mathlib.Core.Path.{◌≡◌, refl, sym, ap, ◌∙◌}
use mathlib.Core.List.{List, [], ◌∷◌}
use mathlib.Core.Bool.{Bool, true, false, false≢true}
use mathlib.Core.Logic.{inl, inr, ⊎_elim}
use native.Mathlib.Omega.{arith}
use lib.ListN.{length, length-set, get_or, set}
use lib.Seq.{get_or-set_same, get_or-set_other, set-get_or, set-set, set_comm}
use lib.Dec.{ltb}
use types.Run.{OneOf}
use borrow.Author.Tests.{eq-eqb, lt-ltb, le-ltb}
use Rattle.scan.specs.Scan.{starts_at}
use Rattle.scan.specs.declared.Place.{Place}
use Rattle.scan.specs.Loop.{Left}
use Rattle.scan.proofs.Bytes.{le_or_lt, at_here, starts_differ, starts_first}
use Rattle.scan.proofs.Loop.{left_more}
use Rattle.words.specs.Words.{token_at, Tokened}
use Rattle.tables.specs.Table.{room, Added, add_row, Inserted, enter_token}
use Rattle.tables.specs.Layout.{tokens, symbols, width}
use Rattle.tables.proofs.Laws.{room_some, room_full, add_yes, added_counts}
use Rattle.tables.proofs.Cases.{add_cases, enter_cases}
use Rattle.index.specs.Index.{rows_now}
use Rattle.finder.specs.Finder.{Held}
use Rattle.grammar.specs.declared.State.{State}
use Rattle.grammar.specs.declared.Refusal.{Refusal}
use Rattle.grammar.specs.declared.Answer.TheVariants.{Going}
use Rattle.grammar.specs.Cells.{symbol_cells}
use Rattle.grammar.specs.State.{Tokens, Passed, count, with_at, with_count, gap_at, Gapped}
use Rattle.grammar.proofs.Steps.{push_ok, past_going, enter_rows}
use Rattle.productions.specs.declared.Production.{Production}
use Rattle.items.specs.declared.Sort.TheVariants.{QuotedSort, BareSort}
use Rattle.items.specs.Items.{Made3, first_mark, sort_at, with_to, symbol_kind, on_9, on_1_9, item_step, item_turn}
use Rattle.items.specs.Quick.{ran_state, going, NumbersOf, Reads, Quickly, tokens_now, Ran}
use Rattle.items.proofs.Symbols.{symbol_entered_lem, quoted_spaced, quoted_found_lem, bare_found_lem}
use Rattle.items.proofs.Marks.{starts_one}
use Rattle.items.proofs.Turns.{arm, turn_more}

-- a word does not stand where another byte than its first does; one of one byte stands where that byte does
module _ (src : List ℕ) (at : ℕ) (h : at < length src) where
  starts_not : (b : ℕ) (ws : List ℕ) → (get_or src at 0 ≡ b → ⊥) → starts_at (b ∷ ws) src at ≡ false
  starts_not b ws d = sym (starts_differ (b ∷ ws) src at 0 _ (starts_first (b ∷ ws) src at) h (omega arith) d)

  starts_yes : (b : ℕ) → get_or src at 0 ≡ b → starts_at (b ∷ []) src at ≡ true
  starts_yes b e = starts_one b src at (sym (at_here src at b h) ∙ eq-eqb (get_or src at 0) b e)

  -- a quote opens a quoted symbol
  pub sort_quoted : OneOf (34 ∷ 39 ∷ []) (get_or src at 0) → (sort_at src at).sort ≡ QuotedSort
  unfolding sort_at first_mark
  sort_quoted (inl e) = rw (sort_at, first_mark, starts_not 124 [] (λ f. omega arith), starts_not 59 [] (λ f. omega arith), starts_yes 34 e)
  sort_quoted (inr e) = rw (sort_at, first_mark, starts_not 124 [] (λ f. omega arith), starts_not 59 [] (λ f. omega arith), starts_not 34 [] (λ f. omega arith), starts_yes 39 e)

  -- a byte that begins no mark begins a bare one
  pub sort_bare : (OneOf (34 ∷ 39 ∷ []) (get_or src at 0) → ⊥) → (OneOf (37 ∷ 59 ∷ []) (get_or src at 0) → ⊥) → (123 ≤ get_or src at 0 → get_or src at 0 ≤ 124 → ⊥) → (sort_at src at).sort ≡ BareSort
  unfolding sort_at first_mark
  sort_bare q m l =
      rw (sort_at, first_mark, starts_not 124 [] (λ e. l (omega arith) (omega arith)), starts_not 59 [] (λ e. m (inr e)), starts_not 34 [] (λ e. q (inl e)), starts_not 39 [] (λ e. q (inr e)), starts_not 37 (112 ∷ 114 ∷ 101 ∷ 99 ∷ []) (λ e. m (inl e)), starts_not 123 [] (λ e. l (omega arith) (omega arith)), starts_not 37 (101 ∷ 109 ∷ 112 ∷ 116 ∷ 121 ∷ []) (λ e. m (inl e)))

-- there is room where there is a free row, if the count can be one more
pub room_is : (w n : ℕ) (t : List ℕ) → n < 4294967295 → ltb n (length t / w) ≡ room w n t
room_is w n t h = ⊎_elim (λ l. rw (le-ltb n (length t / w) l) (sym (room_full w n t l))) (λ l. rw (lt-ltb n (length t / w) l) (sym (room_some w n t l h))) (le_or_lt (length t / w) n)

-- where there is room, the row is added,
pub added_in : (n : ℕ) (row t : List ℕ) (q : Bool) (u : List ℕ) → record { ok = q; cells = u } ≡ add_row n row t → room (length row) n t ≡ true → q ≡ true
added_in n row t q u e h = ap (λ (v : Added). v.ok) (e ∙ sym (add_yes n row t h))

-- and where it was not added, nothing was written;
pub unadded : (n : ℕ) (row t : List ℕ) (q : Bool) (u : List ℕ) → record { ok = q; cells = u } ≡ add_row n row t → q ≡ false → u ≡ t
unadded n row t q u e h =
    add_cases (λ (x : Added). record { ok = q; cells = u } ≡ x → u ≡ t) n row t
    (λ fits l x. absurd (false≢true (sym h ∙ ap (λ (v : Added). v.ok) x)))
    (λ full x. ap (λ (v : Added). v.cells) x) e

-- nor where a token found no room
pub unentered : (src : List ℕ) (n a b : ℕ) (t : List ℕ) (o : Option ℕ) (u : List ℕ) → record { entered = o; cells = u } ≡ enter_token src n a b false t → o ≡ None → u ≡ t
unentered src n a b t o u e h =
    enter_cases (λ (x : Inserted). record { entered = o; cells = u } ≡ x → u ≡ t) src n a b false t
    (λ r l k x. ap (λ (v : Inserted). v.cells) x)
    (λ none fits l x. let f : None ≡ Some (n + 1) = sym h ∙ ap (λ (v : Inserted). v.entered) x in let z : ◌≡◌ {A = ℕ} 0 1 = cc in absurd (omega arith))
    (λ none full x. ap (λ (v : Inserted). v.cells) x) e

-- the numbers of a state as they are
pub ran_none : (s : State) (kind at m n : ℕ) → NumbersOf s kind at m n → ran_state s at m n ≡ s
ran_none s kind at m n x = rw (← x.stands, ← x.first, ← x.ninth, set-get_or s.counts.n tokens 0, set-get_or s.counts.n symbols 0)

-- changed twice
pub ran_on : (s : State) (at m n j k l : ℕ) → ran_state (ran_state s at m n) j k l ≡ ran_state s j k l
ran_on s at m n j k l =
    let c = s.counts.n in
    let f : set (set (set (set c tokens m) symbols n) tokens k) symbols l ≡ set (set c tokens k) symbols l = rw (set_comm (set c tokens m) symbols tokens n k (λ e. omega arith), set-set c tokens m k, set-set (set c tokens k) symbols n l) in
    rw f

module _ (s : State) (at m n : ℕ) (ten : length s.counts.n ≡ 10) where
  pub ran_ten : length (ran_state s at m n).counts.n ≡ 10
  ran_ten = rw (length-set (set s.counts.n tokens m) symbols n, length-set s.counts.n tokens m) ten

  pub ran_told : NumbersOf (ran_state s at m n) s.kind at m n
  ran_told =
      record {
        same = refl;
        stands = refl;
        first = get_or-set_other (set s.counts.n tokens m) symbols tokens n 0 (λ e. omega arith) ∙ get_or-set_same s.counts.n tokens m 0 (rw ten (omega arith));
        ninth = get_or-set_same (set s.counts.n tokens m) symbols n 0 (rw (length-set s.counts.n tokens m, ten) (omega arith));
      }

  -- its finder leads
  pub ran_tokens : (src t ix : List ℕ) → Held src (width tokens) 0 m t ix → Tokens src (ran_state s at m n).counts t ix
  ran_tokens src t ix H = record { ten = ran_ten; held = rw ran_told.first H }

-- a symbol whose word was found, and the spacing behind it passed
module _ (kind : ℕ) (src : List ℕ) (at m n : ℕ) (t1 t9 : List ℕ) (r : Result (Place × ℕ × Bool) ℕ) (q : r ≡ token_at src at) (p : Place) (end : ℕ) (b : Bool) (e : r ≡ Ok (p, end, b)) (g : Result (ℕ × ℕ) Refusal) (h : g ≡ gap_at kind true src end) (j lines : ℕ) (f : g ≡ Ok (j, lines)) (in-word : Tokened src at r) (in-gap : Gapped src end g) where
  -- where it leads
  symbol_moves : (at < j) × (j ≤ length src)
  symbol_moves =
      let u = rw e at in-word in
      let v = rw f at in-gap in
      (omega (arith, u.0, u.1, u.2, v.0), v.1)

  -- bare,
  module _ (sort : (sort_at src at).sort ≡ BareSort) (which : ℕ) (k : which ≡ symbol_kind src m t1 p.from p.to) (ok : Bool) (u9 : List ℕ) (a : record { ok = ok; cells = u9 } ≡ add_row n (symbol_cells which p.from p.to) t9) (y : ok ≡ true) where
    bare_step : (s : State) (d : Production) (t8 : List ℕ) → NumbersOf s kind at m n → going (ran_state s j m (n + 1)) (with_to d end) t1 t8 u9 ≡ item_step src s d t1 t8 t9
    bare_step s d t8 x =
        let next = with_count s symbols (n + 1) in
        let w = push_ok s symbols n (symbol_cells which p.from p.to) t9 u9 ok (sym x.ninth) a next y refl in
        let z = past_going src false end next g (h ∙ ap (λ (q : ℕ). gap_at q true src end) (sym x.same)) j lines f refl in
        let v = bare_found_lem src s d t1 t9 r (rw x.stands q) p end b m which (record { answer = Going; state = next; a = u9 }) (record { answer = Going; state = with_at next j }) e (sym x.first) k w z in
        let c : set s.counts.n tokens m ≡ s.counts.n = rw (← x.first) (set-get_or s.counts.n tokens 0) in
        arm src s d t1 t8 t9 (sort_at src s.at) refl BareSort (going (ran_state s j m (n + 1)) (with_to d end) t1 t8 u9) (rw x.stands sort) (rw c (ap (on_9 t1 t8) v))

    pub bare_reads : Reads kind src at m n t1 t9 j m end t1 u9
    bare_reads = record { further = symbol_moves.0; inside = symbol_moves.1; counted = added_counts _ _ _ _ _ a y; step = bare_step }

  -- and quoted
  module _ (sort : (sort_at src at).sort ≡ QuotedSort) (o : Option ℕ) (u1 : List ℕ) (i : record { entered = o; cells = u1 } ≡ enter_token src m p.from p.to false t1) (k : ℕ) (l : o ≡ Some k) (ok : Bool) (u9 : List ℕ) (a : record { ok = ok; cells = u9 } ≡ add_row n (symbol_cells 2 p.from p.to) t9) (y : ok ≡ true) where
    quoted_step : (s : State) (d : Production) (t8 : List ℕ) → NumbersOf s kind at m n → going (ran_state s j k (n + 1)) (with_to d end) u1 t8 u9 ≡ item_step src s d t1 t8 t9
    quoted_step s d t8 x =
        let c = with_at s j in
        let c1 = with_count c tokens k in
        let c2 = with_count c1 symbols (n + 1) in
        let v = enter_rows src c p.from p.to m false t1 u1 o (sym x.first) i k c1 l refl in
        let nine : n ≡ count c1 symbols = sym (get_or-set_other s.counts.n tokens symbols k 0 (λ z. omega arith) ∙ x.ninth) in
        let w = push_ok c1 symbols n (symbol_cells 2 p.from p.to) t9 u9 ok nine a c2 y refl in
        let z = symbol_entered_lem src c p.from p.to t1 t9 (record { answer = Going; state = c1; a = u1 }) v (record { answer = Going; state = c2; a = u9 }) refl w in
        let rows = quoted_spaced src s d p.from p.to end t1 t9 g (h ∙ ap (λ (q : ℕ). gap_at q true src end) (sym x.same)) j lines (record { answer = Going; state = c2; a = u1; b = u9 }) f z in
        let all = quoted_found_lem src s d t1 t9 r (rw x.stands q) p end b (record { answer = Going; state = c2; draft = with_to d end; a = u1; b = u9 }) e rows in
        arm src s d t1 t8 t9 (sort_at src s.at) refl QuotedSort (going (ran_state s j k (n + 1)) (with_to d end) u1 t8 u9) (rw x.stands sort) (ap (on_1_9 t8) all)

    pub quoted_reads : Reads kind src at m n t1 t9 j k end u1 u9
    quoted_reads = record { further = symbol_moves.0; inside = symbol_moves.1; counted = added_counts _ _ _ _ _ a y; step = quoted_step }

-- a run begins with no symbol,
pub run_start : (kind : ℕ) (src : List ℕ) (at m n to : ℕ) (t1 t9 : List ℕ) → Ran kind src at m n to t1 t9 at m n to t1 t9
run_start kind src at m n to t1 t9 s d t8 o most ten x e l = rw (ran_none s kind at m n x, ← e) l

-- and goes on with each that is read
pub run_more : (kind : ℕ) (src : List ℕ) (at m n to : ℕ) (t1 t9 : List ℕ) (i h g f : ℕ) (u1 u9 : List ℕ) → Ran kind src at m n to t1 t9 i h g f u1 u9 → (j k end : ℕ) (v1 v9 : List ℕ) → Reads kind src i h g u1 u9 j k end v1 v9 → Ran kind src at m n to t1 t9 j k (g + 1) end v1 v9
run_more kind src at m n to t1 t9 i h g f u1 u9 R j k end v1 v9 y s d t8 o most ten x e l =
    let u = ran_state s i h g in
    let before = R s d t8 o most ten x e l in
    let a = y.further in
    let b = y.inside in
    let told = ran_told s i h g ten in
    let step = y.step u (with_to d f) t8 (record { same = x.same; stands = told.stands; first = told.first; ninth = told.ninth }) in
    let turn = turn_more src u (with_to d f) u1 t8 u9 (omega arith) Going (ran_state u j k (g + 1)) (with_to d end) v1 t8 v9 step refl in
    rw (← ran_on s i h g j k (g + 1)) (left_more (item_turn src) _ before (length src - j) turn (omega arith))

-- where it ends, the tables are as they stood
pub run_stop : (kind : ℕ) (src : List ℕ) (at m n to : ℕ) (t1 t9 : List ℕ) (i h g f : ℕ) (u1 u9 : List ℕ) → Ran kind src at m n to t1 t9 i h g f u1 u9 → (v1 v9 : List ℕ) → (v1 ≡ u1) × (v9 ≡ u9) → Ran kind src at m n to t1 t9 i h g f v1 v9
run_stop kind src at m n to t1 t9 i h g f u1 u9 R v1 v9 e = rw (e.0, e.1) R

-- what was told of a symbol, of one that was read and of one that was not
module _ (kind : ℕ) (src : List ℕ) (at m n : ℕ) (t1 t9 u1 u9 : List ℕ) (r : Option (ℕ × ℕ × ℕ)) (x : Quickly kind src at m n t1 t9 u1 u9 r) where
  pub read_is : (j k end : ℕ) → r ≡ Some (j, k, end) → Reads kind src at m n t1 t9 j k end u1 u9
  read_is j k end e = rw e at x

  pub unread_is : r ≡ None → (u1 ≡ t1) × (u9 ≡ t9)
  unread_is e = rw e at x

module _ (src : List ℕ) (m : ℕ) (t ix : List ℕ) where
  pub read_held : (r : Option (ℕ × ℕ × ℕ)) (j k end : ℕ) → r ≡ Some (j, k, end) → Held src 3 0 (tokens_now m r) t ix → Held src 3 0 k t ix
  read_held r j k end e H = rw e at H

  pub unread_held : (r : Option (ℕ × ℕ × ℕ)) → r ≡ None → Held src 3 0 (tokens_now m r) t ix → Held src 3 0 m t ix
  unread_held r e H = rw e at H

  -- the same of a token entered
  pub entered_held : (o : Option ℕ) (k : ℕ) → o ≡ Some k → Held src 3 0 (rows_now m o) t ix → Held src 3 0 k t ix
  entered_held o k e H = rw e at H

  pub unentered_held : (o : Option ℕ) → o ≡ None → Held src 3 0 (rows_now m o) t ix → Held src 3 0 m t ix
  unentered_held o e H = rw e at H

-- Where a rule's items stand that began at `first` with o: the finder of table 1 follows, and what is left of them is known.
pub record Stands (src : List ℕ) (o : Made3) (most first : ℕ) (s : State) (d : Production) (t1 t8 t9 ix : List ℕ) : Type 0 where
  pub tokens : Tokens src s.counts t1 ix
  pub onward : first ≤ s.at
  pub inside : s.at ≤ length src
  pub left : Left (item_turn src) o most (length src - s.at) (going s d t1 t8 t9)

-- behind a run too
pub stands_run : (src : List ℕ) (o : Made3) (most first : ℕ) (s : State) (d : Production) (t1 t8 t9 ix : List ℕ) → Stands src o most first s d t1 t8 t9 ix → (m n j k l end : ℕ) (u1 u9 jx : List ℕ) → m ≡ count s tokens → n ≡ count s symbols
    → Ran s.kind src s.at m n d.to t1 t9 j k l end u1 u9 → Passed src s.at j → Held src (width tokens) 0 k u1 jx
    → (u : State) → u ≡ ran_state s j k l → Stands src o most first u (with_to d end) u1 t8 u9 jx
stands_run src o most first s d t1 t8 t9 ix x m n j k l end u1 u9 jx em en R p H u e =
    let ten = x.tokens.ten in
    let a = x.onward in
    let b = p.onward in
    rw e
    (record {
      tokens = ran_tokens s j k l ten src u1 jx H;
      onward = omega arith;
      inside = p.inside;
      left = R s d t8 o most ten (record { same = refl; stands = refl; first = sym em; ninth = sym en }) refl x.left;
    })
