-- Soundness so far under Each change that a step makes, one law for Each; and at the end of a reading it is soundness. Assumes nothing.
use Rattle.std.specs.Prelude.{Option}
use Prim.Native.Nat.{ℕ, zero, suc, ◌+◌, ◌*◌, ◌≤◌, ◌<◌}
use mathlib.Core.Path.{◌≡◌, refl, sym, ap, ◌∙◌}
use mathlib.Core.List.{List, []}
use native.Mathlib.Omega.{arith}
use native.Mathlib.Numerals.{add-one}
use native.Mathlib.Decide.{ℕ_discrete}
use lib.ListN.{length, get_or, set}
use lib.Seq.{get_or-set_same, get_or-set_other}
use Rattle.tables.specs.Table.{put}
use Rattle.tables.specs.Rows.{row_at, end_before, Chained}
use Rattle.tables.specs.Layout.{productions, symbols, rules, symbols_from, symbols_to, posix_from, width}
use Rattle.tables.proofs.Rows.{rows_zeroed, rows_add, rows_map, rows_as, chain_add}
use Rattle.grammar.specs.declared.Singles.{Singles}
use Rattle.grammar.specs.declared.State.{State}
use Rattle.grammar.specs.State.{count, with_at, with_level, with_count, with_singles, with_actiontype, fresh}
use Rattle.symbols.specs.Symbols.{Knows}
use Rattle.grammar.specs.Sound.{Indexes, SoundIndexes, AllTables, ten_of, lexicon_of, list_of, tab, cells_of, set_tab, zero_all, View, Each, Pairs, Table, Lies, Lie, sound_view, Sound, PosixSound, view, Far}
use Rattle.grammar.proofs.Counting.{count_low, count_high, count_past, with_ten, with_three, count_same, count_other}

-- table k alone is changed
set_list : (T : AllTables) (k : ℕ) (x : List ℕ) → list_of (set_tab T k x) ≡ set (list_of T) k x
set_list T zero x = refl
set_list T (suc zero) x = refl
set_list T (suc (suc zero)) x = refl
set_list T (suc (suc (suc zero))) x = refl
set_list T (suc (suc (suc (suc zero)))) x = refl
set_list T (suc (suc (suc (suc (suc zero))))) x = refl
set_list T (suc (suc (suc (suc (suc (suc zero)))))) x = refl
set_list T (suc (suc (suc (suc (suc (suc (suc zero))))))) x = refl
set_list T (suc (suc (suc (suc (suc (suc (suc (suc zero)))))))) x = refl
set_list T (suc (suc (suc (suc (suc (suc (suc (suc (suc zero))))))))) x = refl
set_list T (suc (suc (suc (suc (suc (suc (suc (suc (suc (suc zero)))))))))) x = refl
set_list T (suc (suc (suc (suc (suc (suc (suc (suc (suc (suc (suc zero))))))))))) x = refl
set_list T (suc (suc (suc (suc (suc (suc (suc (suc (suc (suc (suc (suc zero)))))))))))) x = refl
set_list T (suc (suc (suc (suc (suc (suc (suc (suc (suc (suc (suc (suc (suc k))))))))))))) x = refl

pub tab_same : (T : AllTables) (k : ℕ) (x : List ℕ) → k < 13 → cells_of (set_tab T k x) k ≡ x
tab_same T k x b = ap (λ (l : List (List ℕ)). get_or l k []) (set_list T k x) ∙ get_or-set_same (list_of T) k x [] b

pub tab_other : (T : AllTables) (k j : ℕ) (x : List ℕ) → (j ≡ k → ⊥) → cells_of (set_tab T k x) j ≡ cells_of T j
tab_other T k j x d = ap (λ (l : List (List ℕ)). get_or l j []) (set_list T k x) ∙ get_or-set_other (list_of T) k j x [] d

-- a table put back changes nothing
pub set_tab_lem : (T : AllTables) (k : ℕ) → set_tab T k (cells_of T k) ≡ T
set_tab_lem T zero = refl
set_tab_lem T (suc zero) = refl
set_tab_lem T (suc (suc zero)) = refl
set_tab_lem T (suc (suc (suc zero))) = refl
set_tab_lem T (suc (suc (suc (suc zero)))) = refl
set_tab_lem T (suc (suc (suc (suc (suc zero))))) = refl
set_tab_lem T (suc (suc (suc (suc (suc (suc zero)))))) = refl
set_tab_lem T (suc (suc (suc (suc (suc (suc (suc zero))))))) = refl
set_tab_lem T (suc (suc (suc (suc (suc (suc (suc (suc zero)))))))) = refl
set_tab_lem T (suc (suc (suc (suc (suc (suc (suc (suc (suc zero))))))))) = refl
set_tab_lem T (suc (suc (suc (suc (suc (suc (suc (suc (suc (suc zero)))))))))) = refl
set_tab_lem T (suc (suc (suc (suc (suc (suc (suc (suc (suc (suc (suc zero))))))))))) = refl
set_tab_lem T (suc (suc (suc (suc (suc (suc (suc (suc (suc (suc (suc (suc zero)))))))))))) = refl
set_tab_lem T (suc (suc (suc (suc (suc (suc (suc (suc (suc (suc (suc (suc (suc k))))))))))))) = refl

-- a view that allows at least as much
pub record Up (v w : View) : Type 0 where
  pub low : (n : ℕ) → v.low n → w.low n
  pub whole : (src : List ℕ) (a b : ℕ) → v.whole src a b → w.whole src a b
  pub rules : v.rules ≤ w.rules
  pub symbols : v.symbols ≤ w.symbols

-- what holds of a row goes on holding while level and counts grow
each_up : (src : List ℕ) {v w : View} → Up v w → (k : ℕ) (x : List ℕ) → Each src v k x → Each src w k x
each_up src u zero x p = p
each_up src u (suc zero) x p = record { name = p.name; earlier = u.low _ p.earlier; least = p.least; most = p.most }
each_up src u (suc (suc zero)) x p = p
each_up src u (suc (suc (suc zero))) x p = p
each_up src u (suc (suc (suc (suc zero)))) x p = record { key = p.key; name = p.name; text = p.text; closed = u.whole src _ _ p.closed }
each_up src u (suc (suc (suc (suc (suc zero))))) x p = p
each_up src u (suc (suc (suc (suc (suc (suc zero)))))) x p = p
each_up src u (suc (suc (suc (suc (suc (suc (suc zero))))))) x p = record { rule = let e = p.rule in let l = u.rules in omega arith; span = p.span; precedence = p.precedence; body = p.body }
each_up src u (suc (suc (suc (suc (suc (suc (suc (suc k)))))))) x p = p

module _ {src : List ℕ} {done : ℕ} {s : State} {T : AllTables} (f : Far src done s T) where
  -- the reading moves on,
  pub far_at : (i : ℕ) → s.at ≤ i → i ≤ length src → Far src done (with_at s i) T
  far_at i g h = record { here = h; short = f.short; ten = f.ten; three = f.three; risen = let r = f.risen in omega arith; tables = f.tables; ranges = f.ranges; since = f.since; singles = f.singles; actiontype = f.actiontype }

  -- a single is given,
  pub far_singles : (g : Singles) → Lie src g → Far src done (with_singles s g) T
  far_singles g h = record { here = f.here; short = f.short; ten = f.ten; three = f.three; risen = f.risen; tables = f.tables; ranges = f.ranges; since = f.since; singles = h; actiontype = f.actiontype }

  pub far_actiontype : (p : Option (ℕ × ℕ)) → Lies src p → Far src done (with_actiontype s p) T
  far_actiontype p h = record { here = f.here; short = f.short; ten = f.ten; three = f.three; risen = f.risen; tables = f.tables; ranges = f.ranges; since = f.since; singles = f.singles; actiontype = h }

  -- the cells of a table that is not table 8 are replaced by others that are as good,
  pub far_cells : (k : ℕ) → k < 13 → (k ≡ productions → ⊥) → (x : List ℕ) → Table src (view s) k (count s k) x → Far src done s (set_tab T k x)
  far_cells k b d x R =
      record { here = f.here; short = f.short; ten = f.ten; three = f.three; risen = f.risen; tables = λ j. at j (ℕ_discrete j k); ranges = rw (tab_other T k productions x (λ e. d (sym e))) f.ranges; since = f.since; singles = f.singles; actiontype = f.actiontype }
    where
      at : (j : ℕ) → Dec (j ≡ k) → Table src (view s) j (count s j) (cells_of (set_tab T k x) j)
      at j (yes e) = rw e (rows_as refl (sym (tab_same T k x b)) R)
      at j (no e) = rows_as refl (sym (tab_other T k j x e)) (f.tables j)

  -- the level rises,
  pub far_level : (n : ℕ) → s.level ≤ n → n ≤ s.at → Far src done (with_level s n) T
  far_level n g h =
      record { here = f.here; short = f.short; ten = f.ten; three = f.three; risen = h; tables = λ k. rows_map (each_up src (record { low = λ m l. omega arith; whole = λ _ a b c. c; rules = omega arith; symbols = omega arith }) k) (f.tables k); ranges = f.ranges; since = f.since; singles = f.singles; actiontype = f.actiontype }

  module _ (k : ℕ) (b : k < 13) (n : ℕ) (g : count s k ≤ n) (x : List ℕ) where
    same : count (with_count s k n) k ≡ n
    same = count_same s k n f.ten f.three b

    other : (j : ℕ) → (j ≡ k → ⊥) → count (with_count s k n) j ≡ count s j
    other j d = count_other s k n j d

    grow : (j : ℕ) → Dec (j ≡ k) → count s j ≤ count (with_count s k n) j
    grow j (yes e) = rw (e, same) g
    grow j (no e) = rw (other j e) (omega arith)

    up : Up (view s) (view (with_count s k n))
    up = record { low = λ m l. l; whole = λ _ a b c. c; rules = grow rules (ℕ_discrete rules k); symbols = grow symbols (ℕ_discrete symbols k) }

    others : Table src (view s) k n x → (j : ℕ) → Dec (j ≡ k) → Table src (view s) j (count (with_count s k n) j) (cells_of (set_tab T k x) j)
    others R j (yes e) = rw e (rows_as (sym same) (sym (tab_same T k x b)) R)
    others R j (no e) = rows_as (sym (other j e)) (sym (tab_other T k j x e)) (f.tables j)

    -- count and cells of table k are replaced, those of the other tables stay
    replaced : (last : ℕ) → last ≤ count (with_count s k n) symbols → Chained (width productions) symbols_from symbols_to (count (with_count s k n) productions) (cells_of (set_tab T k x) productions) last → Table src (view s) k n x → Far src last (with_count s k n) (set_tab T k x)
    replaced last l c R =
        record { here = f.here; short = f.short; ten = with_ten s k n ∙ f.ten; three = with_three s k n ∙ f.three; risen = f.risen; tables = λ j. rows_map (each_up src up j) (others R j (ℕ_discrete j k)); ranges = c; since = l; singles = f.singles; actiontype = f.actiontype }

    -- in a table that is not table 8,
    pub far_table : (k ≡ productions → ⊥) → Table src (view s) k n x → Far src done (with_count s k n) (set_tab T k x)
    far_table d R =
        let l = f.since in
        let m = grow symbols (ℕ_discrete symbols k) in
        replaced done (omega arith) (rw (other productions (λ e. d (sym e)), tab_other T k productions x (λ e. d (sym e))) f.ranges) R

  -- a row is added to a table that is not table 8,
  pub far_add : (k : ℕ) → k < 13 → (k ≡ productions → ⊥) → (row : List ℕ) → length row ≡ width k → count s k * width k + width k ≤ length (cells_of T k) → count s k < 4294967295
      → Each src (view s) k row → ((r : ℕ) → r < count s k → Pairs src k (row_at (width k) (cells_of T k) r) row)
      → Far src done (with_count s k (count s k + 1)) (set_tab T k (put (cells_of T k) (count s k * width k) row))
  far_add k b d row wide room small p q = far_table k b (count s k + 1) (omega arith) _ d (rows_add (width k) (count s k) row (cells_of T k) wide room small (f.tables k) p q)

  -- and to table 8, where the range of the new row takes the symbols behind those before.
  pub far_production : (row : List ℕ) → length row ≡ width productions → count s productions * width productions + width productions ≤ length (cells_of T productions) → count s productions < 4294967295
      → Each src (view s) productions row → get_or row symbols_from 0 ≡ done → get_or row symbols_to 0 ≡ count s symbols
      → Far src (count s symbols) (with_count s productions (count s productions + 1)) (set_tab T productions (put (cells_of T productions) (count s productions * width productions) row))
  far_production row wide room small p a z =
      replaced productions (omega arith) (count s productions + 1) (omega arith) _ (count s symbols) (rw (other productions (omega arith) (count s productions + 1) (omega arith) [] symbols (λ e. omega arith)) (omega arith))
      (rw (same productions (omega arith) (count s productions + 1) (omega arith) [], add-one (count s productions))
      (rw z at (chain_add (width productions) (count s productions) row (cells_of T productions) wide room symbols_from symbols_to done f.ranges a (let l = f.since in omega arith))))
      (rows_add (width productions) (count s productions) row (cells_of T productions) wide room small (f.tables productions) p (λ r l. tt))

-- A reading begins sound so far, on tables of zeros;
pub fresh_far : (src : List ℕ) (kind : ℕ) (T : AllTables) → length src ≤ 65536 → Far src 0 (fresh kind) (zero_all T)
unfolding end_before
fresh_far src kind T h =
    record {
      here = omega arith;
      short = h;
      ten = refl;
      three = refl;
      risen = omega arith;
      tables = none;
      ranges = record { begins = λ r l. absurd (omega arith); onward = λ r l. absurd (omega arith); last = refl };
      since = omega arith;
      singles = record { start = tt; expect = tt; expect_rr = tt; param = tt; generics = tt; programs = tt };
      actiontype = tt;
    }
  where
    none : (k : ℕ) → Table src (view (fresh kind)) k (count (fresh kind) k) (cells_of (zero_all T) k)
    none zero = rows_zeroed _ T.t1
    none (suc zero) = rows_zeroed _ T.t2
    none (suc (suc zero)) = rows_zeroed _ T.t3
    none (suc (suc (suc zero))) = rows_zeroed _ T.t4
    none (suc (suc (suc (suc zero)))) = rows_zeroed _ T.t5
    none (suc (suc (suc (suc (suc zero))))) = rows_zeroed _ T.t6
    none (suc (suc (suc (suc (suc (suc zero)))))) = rows_zeroed _ T.t7
    none (suc (suc (suc (suc (suc (suc (suc zero))))))) = rows_zeroed _ T.t8
    none (suc (suc (suc (suc (suc (suc (suc (suc zero)))))))) = rows_zeroed _ T.t9
    none (suc (suc (suc (suc (suc (suc (suc (suc (suc zero))))))))) = rows_zeroed _ T.t10
    none (suc (suc (suc (suc (suc (suc (suc (suc (suc (suc zero)))))))))) = rows_zeroed _ T.t15
    none (suc (suc (suc (suc (suc (suc (suc (suc (suc (suc (suc zero))))))))))) = rows_zeroed _ T.t16
    none (suc (suc (suc (suc (suc (suc (suc (suc (suc (suc (suc (suc zero)))))))))))) = rows_zeroed _ T.t17
    none (suc (suc (suc (suc (suc (suc (suc (suc (suc (suc (suc (suc (suc k))))))))))))) = rows_as (count_past (fresh kind) (suc (suc (suc (suc (suc (suc (suc (suc (suc (suc (suc (suc (suc k))))))))))))) refl (omega arith) (omega arith)) refl (rows_zeroed _ [])

-- the ten among the thirteen
pub ten_tab : (T : AllTables) (k : ℕ) → k < posix_from → tab (ten_of T) k ≡ cells_of T k
ten_tab T zero h = refl
ten_tab T (suc zero) h = refl
ten_tab T (suc (suc zero)) h = refl
ten_tab T (suc (suc (suc zero))) h = refl
ten_tab T (suc (suc (suc (suc zero)))) h = refl
ten_tab T (suc (suc (suc (suc (suc zero))))) h = refl
ten_tab T (suc (suc (suc (suc (suc (suc zero)))))) h = refl
ten_tab T (suc (suc (suc (suc (suc (suc (suc zero))))))) h = refl
ten_tab T (suc (suc (suc (suc (suc (suc (suc (suc zero)))))))) h = refl
ten_tab T (suc (suc (suc (suc (suc (suc (suc (suc (suc zero))))))))) h = refl
ten_tab T (suc (suc (suc (suc (suc (suc (suc (suc (suc (suc k)))))))))) h = absurd (omega arith)

-- and where no symbol is left behind the last range, it is sound,
module _ (src : List ℕ) (s : State) (T : AllTables) (f : Far src (count s symbols) s T) where
  seen : Up (view s) (sound_view s.counts)
  seen = record { low = λ n h. tt; whole = λ _ a b c. tt; rules = omega arith; symbols = omega arith }

  low_table : (k : ℕ) → k < posix_from → Table src (view s) k (get_or s.counts.n k 0) (tab (ten_of T) k)
  low_table k b = rows_as (count_low s k b) (sym (ten_tab T k b)) (f.tables k)

  pub far_sound : (X : Indexes) → SoundIndexes src s.counts (ten_of T) X → Knows (lexicon_of src s.counts (ten_of T)) (count s symbols) T.t9 → Sound src s.counts s.singles (ten_of T) X
  far_sound X i k =
      record {
        short = f.short;
        fits = λ k b. (low_table k b).fits;
        low = λ k b. (low_table k b).low;
        clean = λ k b. (low_table k b).clean;
        rows = λ k r b l. each_up src seen k _ ((low_table k b).each r l);
        singles = f.singles;
        ranges = f.ranges;
        names = λ k q r b l h. (low_table k b).pairs q r l h;
        indexes = i;
        known = k;
      }

  -- and so are tables 15 to 17.
  pub far_posix : PosixSound src s.counts s.posix T
  far_posix = record { tables = λ k b. rows_map (each_up src seen (posix_from + k)) (rows_as (high k b) refl (f.tables (posix_from + k))) }
    where
      high : (k : ℕ) → k < 3 → count s (posix_from + k) ≡ get_or s.posix.n k 0
      high k b = count_high s (posix_from + k) (omega arith) ∙ ap (λ (i : ℕ). get_or s.posix.n i 0) (omega arith)
