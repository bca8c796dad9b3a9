-- Table 9 under way: the symbols of productions that stay are laid in front, with their new numbers. Assumes nothing.
use Prim.Native.Nat.{ℕ, zero, suc, ◌+◌, ◌*◌, ◌-◌, ◌≤◌, ◌<◌}
use mathlib.Core.Path.{◌≡◌, refl, sym, ap, ◌∙◌}
use mathlib.Core.List.{List, [], ◌∷◌, ◌++◌, append_assoc, append-nil}
use mathlib.Core.Bool.{Bool, true, false}
use native.Mathlib.Omega.{arith}
use native.Mathlib.Decide.{dec_lt}
use lib.ListN.{length, get_or, set, length-append}
use Rattle.tables.specs.Table.{cell, set_cell}
use Rattle.tables.specs.Rows.{row_at, end_before, Chained}
use Rattle.tables.specs.Layout.{productions, symbols, symbols_from, symbols_to, known_row, width}
use Rattle.tables.proofs.Rows.{row_cell}
use Rattle.grammar.specs.declared.Counts.{Counts}
use Rattle.sound.specs.Test.{count_at}
use Rattle.closing.specs.Close.{Step, kept_rows, moved, table_of, zero_from}
use Rattle.closing.proofs.Laws.{kept_yes, kept_no}
use Rattle.pruning.specs.Pruned.{production_stays, new_number, renumbered_symbol, renumbered_symbols, symbols_of, symbols_left}
use Rattle.pruner.specs.Moving.{number_in, moved_symbol, moved_symbols, symbols_step}
use Rattle.pruner.specs.Asked.{Movable}
use Rattle.pruner.proofs.Laid.{Laid, Row, row_same, row_put, laid_none, laid_on, laid_cell, laid_row, laid_join, laid_end}

-- ---- what the functions do

pub moved_symbol_lem : (i1 i7 : List ℕ) (from to : ℕ) (t : List ℕ) (kind : ℕ) → kind ≡ cell (width symbols) t from 0 → (old : ℕ) → old ≡ cell (width symbols) t from known_row → (new : ℕ) → new ≡ number_in i1 i7 kind old → (u : List ℕ) → u ≡ set_cell (width symbols) t from known_row new → (v : List ℕ) → v ≡ moved (width symbols) from to u → v ≡ moved_symbol i1 i7 from to t
unfolding moved_symbol
moved_symbol_lem i1 i7 from to t kind a old b new d u e v f =
    let n : new ≡ number_in i1 i7 (cell (width symbols) t from 0) (cell (width symbols) t from known_row) = d ∙ (ap (λ (k : ℕ). number_in i1 i7 k old) a ∙ ap (number_in i1 i7 (cell (width symbols) t from 0)) b) in
    f ∙ ap (moved (width symbols) from to) (e ∙ ap (set_cell (width symbols) t from known_row) n)

pub moved_none : (i1 i7 : List ℕ) (from to : ℕ) (t : List ℕ) → t ≡ moved_symbols i1 i7 from to 0 t
unfolding moved_symbols
moved_none i1 i7 from to t = refl

pub moved_more : (i1 i7 : List ℕ) (from to k : ℕ) (t₀ t : List ℕ) → t ≡ moved_symbols i1 i7 from to k t₀ → (u : List ℕ) → u ≡ moved_symbol i1 i7 (from + k) (to + k) t → u ≡ moved_symbols i1 i7 from to (k + 1) t₀
unfolding moved_symbols
moved_more i1 i7 from to k t₀ t e u f = let n : k + 1 ≡ suc k = omega arith in rw n (f ∙ ap (moved_symbol i1 i7 (from + k) (to + k)) e)

module _ (i1 i7 : List ℕ) (from to m : ℕ) (t : List ℕ) (b s : Bool) (e : b ≡ s) where
  pub symbols_pass : b ≡ false → record { count = m; cells = t } ≡ symbols_step s i1 i7 from to m t
  unfolding symbols_step
  symbols_pass h = rw (← e, h)

  pub symbols_join : b ≡ true → (x : ℕ) → x ≡ from → (y : ℕ) → y ≡ to → (u : List ℕ) → u ≡ moved_symbols i1 i7 x m (y - x) t → record { count = m + (y - x); cells = u } ≡ symbols_step s i1 i7 from to m t
  unfolding symbols_step
  symbols_join h x p y q u k = rw (← e, h, ← p, ← q, k)

-- ---- ranges

-- where a production's symbols begin is where those before end; none ends behind the last
module _ {w from to n : ℕ} {t : List ℕ} {e : ℕ} (x : Chained w from to n t e) where
  pub ends_up : (q p : ℕ) → p ≤ q → q ≤ n → end_before w to t p ≤ end_before w to t q
  unfolding end_before
  ends_up zero p h l = let z : p ≡ 0 = omega arith in rw z (omega arith)
  ends_up (suc q) p h l = go (dec_lt p (suc q)) (ends_up q p)
    where
      go : Dec (p < suc q) → (p ≤ q → q ≤ n → end_before w to t p ≤ end_before w to t q) → end_before w to t p ≤ get_or (row_at w t q) to 0
      go (yes k) f = let a = f (omega arith) (omega arith) in let b = x.begins q (omega arith) in let o = x.onward q (omega arith) in omega arith
      go (no k) f = let z : p ≡ suc q = omega arith in rw z (omega arith)

  pub end_in : (p : ℕ) → p ≤ n → end_before w to t p ≤ e
  end_in p h = let a = ends_up n p h (omega arith) in let b = x.last in omega arith

pub end_next : (w to : ℕ) (t : List ℕ) (p : ℕ) → end_before w to t (suc p) ≡ get_or (row_at w t p) to 0
unfolding end_before
end_next w to t p = refl

-- ---- symbols, one more

module _ (c : Counts) (ws t9 : List ℕ) where
  symbols_count : (s n : ℕ) → length (renumbered_symbols c ws t9 s n) ≡ n
  unfolding renumbered_symbols
  symbols_count s zero = refl
  symbols_count s (suc n) = ap suc (symbols_count (s + 1) n)

  symbols_snoc : (s n : ℕ) → renumbered_symbols c ws t9 s (suc n) ≡ renumbered_symbols c ws t9 s n ++ (renumbered_symbol c ws (row_at (width symbols) t9 (s + n)) ∷ [])
  unfolding renumbered_symbols
  symbols_snoc s zero = let e : s + 0 ≡ s = omega arith in rw e
  symbols_snoc s (suc n) = let e : s + suc n ≡ s + 1 + n = omega arith in rw e (ap (λ (l : List (List ℕ)). renumbered_symbol c ws (row_at (width symbols) t9 s) ∷ l) (symbols_snoc (s + 1) n))

  symbols_of_snoc : (rows : List (List ℕ)) (x : List ℕ) → symbols_of c ws t9 (rows ++ (x ∷ [])) ≡ symbols_of c ws t9 rows ++ renumbered_symbols c ws t9 (get_or x symbols_from 0) (get_or x symbols_to 0 - get_or x symbols_from 0)
  unfolding symbols_of
  symbols_of_snoc [] x = append-nil (renumbered_symbols c ws t9 (get_or x symbols_from 0) (get_or x symbols_to 0 - get_or x symbols_from 0))
  symbols_of_snoc (y ∷ rows) x = let e = symbols_of_snoc rows x in rw (e, append_assoc)

-- one symbol is laid behind the rows made so far
laid_one : (c : Counts) (ws i1 i7 t₀ : List ℕ) (made : List (List ℕ)) (from n : ℕ) (t : List ℕ) → Laid (width symbols) t₀ (made ++ renumbered_symbols c ws t₀ from n) (from + n) t → (from + n) * width symbols + width symbols ≤ length t₀ → number_in i1 i7 (cell (width symbols) t₀ (from + n) 0) (cell (width symbols) t₀ (from + n) known_row) ≡ new_number c ws (cell (width symbols) t₀ (from + n) 0) (cell (width symbols) t₀ (from + n) known_row) → Laid (width symbols) t₀ (made ++ renumbered_symbols c ws t₀ from (suc n)) (from + suc n) (moved_symbol i1 i7 (from + n) (length made + n) t)
unfolding moved_symbol
laid_one c ws i1 i7 t₀ made from n t y h e =
    let s = from + n in
    let old = made ++ renumbered_symbols c ws t₀ from n in
    let v = number_in i1 i7 (cell (width symbols) t s 0) (cell (width symbols) t s known_row) in
    let row = row_at (width symbols) t₀ s in
    let a : cell (width symbols) t s 0 ≡ cell (width symbols) t₀ s 0 = laid_cell (width symbols) t₀ old s t y 0 in
    let b : cell (width symbols) t s known_row ≡ cell (width symbols) t₀ s known_row = laid_cell (width symbols) t₀ old s t y known_row in
    let p : get_or row 0 0 ≡ cell (width symbols) t₀ s 0 = row_cell (width symbols) t₀ s 0 (omega arith) in
    let q : get_or row known_row 0 ≡ cell (width symbols) t₀ s known_row = row_cell (width symbols) t₀ s known_row (omega arith) in
    let new : v ≡ new_number c ws (get_or row 0 0) (get_or row known_row 0) = rw (a, b, p, q) e in
    let is : set (row_at (width symbols) t s) known_row v ≡ renumbered_symbol c ws row = rw (laid_row (width symbols) t₀ old s t y) (ap (set row known_row) new) in
    let put : Row (width symbols) s t (renumbered_symbol c ws row) (set_cell (width symbols) t s known_row v) = rw is at (row_put (width symbols) s known_row v t (row_at (width symbols) t s) t (omega arith) (row_same (width symbols) s t)) in
    let count : length old ≡ length made + n = length-append made (renumbered_symbols c ws t₀ from n) ∙ ap (λ (k : ℕ). length made + k) (symbols_count c ws t₀ from n) in
    let more : made ++ renumbered_symbols c ws t₀ from (suc n) ≡ old ++ (renumbered_symbol c ws row ∷ []) = ap (λ (l : List (List ℕ)). made ++ l) (symbols_snoc c ws t₀ from n) ∙ sym (append_assoc made (renumbered_symbols c ws t₀ from n) (renumbered_symbol c ws row ∷ [])) in
    let next : from + suc n ≡ suc s = omega arith in
    rw (more, next, ← count) (laid_join (width symbols) t₀ old s t y (renumbered_symbol c ws row) (set_cell (width symbols) t s known_row v) h put)

-- n symbols are laid behind the rows made so far
module _ (c : Counts) (ws i1 i7 t₀ : List ℕ) (made : List (List ℕ)) (from : ℕ) (t : List ℕ) (x : Laid (width symbols) t₀ made from t) where
  pub laid_symbols : (n : ℕ) → (from + n) * width symbols ≤ length t₀ → ((s : ℕ) → from ≤ s → s < from + n → number_in i1 i7 (cell (width symbols) t₀ s 0) (cell (width symbols) t₀ s known_row) ≡ new_number c ws (cell (width symbols) t₀ s 0) (cell (width symbols) t₀ s known_row)) → Laid (width symbols) t₀ (made ++ renumbered_symbols c ws t₀ from n) (from + n) (moved_symbols i1 i7 from (length made) n t)
  unfolding moved_symbols renumbered_symbols
  laid_symbols zero h f = let e : from + 0 ≡ from = omega arith in rw (e, append-nil) x
  laid_symbols (suc n) h f = one n (omega arith) (f (from + n) (omega arith) (omega arith)) (laid_symbols n (omega arith) (λ s a b. f s a (omega arith)))
    where
      one : (n : ℕ) → (from + n) * width symbols + width symbols ≤ length t₀ → number_in i1 i7 (cell (width symbols) t₀ (from + n) 0) (cell (width symbols) t₀ (from + n) known_row) ≡ new_number c ws (cell (width symbols) t₀ (from + n) 0) (cell (width symbols) t₀ (from + n) known_row) → Laid (width symbols) t₀ (made ++ renumbered_symbols c ws t₀ from n) (from + n) (moved_symbols i1 i7 from (length made) n t) → Laid (width symbols) t₀ (made ++ renumbered_symbols c ws t₀ from (suc n)) (from + suc n) (moved_symbol i1 i7 (from + n) (length made + n) (moved_symbols i1 i7 from (length made) n t))
      one n h e y = laid_one c ws i1 i7 t₀ made from n (moved_symbols i1 i7 from (length made) n t) y h e

-- ---- the loop over productions

-- p productions are read: the symbols of those that stay stand in front
pub record SymbolsTo (c : Counts) (ws t8 t₀ : List ℕ) (p m : ℕ) (t : List ℕ) : Type 0 where
  pub count : m ≡ length (symbols_of c ws t₀ (kept_rows (production_stays ws t8) (width productions) p t8))
  pub laid : Laid (width symbols) t₀ (symbols_of c ws t₀ (kept_rows (production_stays ws t8) (width productions) p t8)) (end_before (width productions) symbols_to t8 p) t

pub symbols_none : (c : Counts) (ws t8 t₀ : List ℕ) → SymbolsTo c ws t8 t₀ 0 0 t₀
unfolding symbols_of kept_rows end_before
symbols_none c ws t8 t₀ = record { count = refl; laid = laid_none (width symbols) t₀ }

module _ (c : Counts) (ws i1 i7 t8 t₀ : List ℕ) (asks : Movable c ws i1 i7 t8 t₀) (p m : ℕ) (t : List ℕ) (x : SymbolsTo c ws t8 t₀ p m t) where
  abbrev before : List (List ℕ)
  before = symbols_of c ws t₀ (kept_rows (production_stays ws t8) (width productions) p t8)

  abbrev first : ℕ
  first = cell (width productions) t8 p symbols_from

  abbrev last : ℕ
  last = cell (width productions) t8 p symbols_to

  pub symbols_fit : p ≤ count_at c productions → m * width symbols ≤ length t
  symbols_fit h =
      let a = end_in asks.ranges p h in
      let l = x.laid.low in
      let s = x.laid.size in
      let n = x.count in
      let f = asks.fits in
      omega arith

  module _ (h : p < count_at c productions) where
    from_is : get_or (row_at (width productions) t8 p) symbols_from 0 ≡ first
    from_is = row_cell (width productions) t8 p symbols_from (omega arith)

    to_is : get_or (row_at (width productions) t8 p) symbols_to 0 ≡ last
    to_is = row_cell (width productions) t8 p symbols_to (omega arith)

    begins : end_before (width productions) symbols_to t8 p ≡ first
    begins = sym (asks.ranges.begins p h) ∙ from_is

    onward : first ≤ last
    onward = let o = asks.ranges.onward p h in let a = from_is in let b = to_is in omega arith

    inside : last ≤ count_at c symbols
    inside = let a = end_in asks.ranges (suc p) h in let b = end_next (width productions) symbols_to t8 p in let d = to_is in omega arith

    pub symbols_asks : (m ≤ first) × (first ≤ last) × (last * width symbols ≤ length t)
    symbols_asks =
        let l = x.laid.low in
        let n = x.count in
        let b = begins in
        let i = inside in
        let s = x.laid.size in
        let f = asks.fits in
        (omega arith, onward, omega arith)

    laid_first : Laid (width symbols) t₀ before first t
    laid_first = rw begins at x.laid

    end_is : end_before (width productions) symbols_to t8 (suc p) ≡ last
    end_is = end_next (width productions) symbols_to t8 p ∙ to_is

    -- a production is passed over, or its symbols join
    passed : production_stays ws t8 p ≡ false → SymbolsTo c ws t8 t₀ (suc p) m t
    passed e = rw_passed (kept_no (production_stays ws t8) (width productions) t8 p e)
      where
        rw_passed : kept_rows (production_stays ws t8) (width productions) (suc p) t8 ≡ kept_rows (production_stays ws t8) (width productions) p t8 → SymbolsTo c ws t8 t₀ (suc p) m t
        rw_passed k = record { count = rw k x.count; laid = rw (k, end_is) (laid_on (width symbols) t₀ before first t laid_first last onward) }

    joined : production_stays ws t8 p ≡ true → SymbolsTo c ws t8 t₀ (suc p) (m + (last - first)) (moved_symbols i1 i7 first m (last - first) t)
    joined e =
        let k : kept_rows (production_stays ws t8) (width productions) (suc p) t8 ≡ kept_rows (production_stays ws t8) (width productions) p t8 ++ (row_at (width productions) t8 p ∷ []) = kept_yes (production_stays ws t8) (width productions) t8 p e in
        let g : symbols_of c ws t₀ (kept_rows (production_stays ws t8) (width productions) (suc p) t8) ≡ before ++ renumbered_symbols c ws t₀ first (last - first) = ap (symbols_of c ws t₀) k ∙ (symbols_of_snoc c ws t₀ (kept_rows (production_stays ws t8) (width productions) p t8) (row_at (width productions) t8 p) ∙ rw (from_is, to_is)) in
        let o = onward in
        let i = inside in
        let f = asks.fits in
        let q : first + (last - first) ≡ last = omega arith in
        let y = laid_symbols c ws i1 i7 t₀ before first t laid_first (last - first) (rw q (omega arith)) (λ s a b. asks.read p s h a (omega arith)) in
        let z : Laid (width symbols) t₀ (before ++ renumbered_symbols c ws t₀ first (last - first)) last (moved_symbols i1 i7 first m (last - first) t) = rw (q, ← x.count) at y in
        record { count = rw (g, length-append, symbols_count) (ap (λ (j : ℕ). j + (last - first)) x.count); laid = rw (g, end_is) z }

    pub symbols_step_lem : (o : Step) → o ≡ symbols_step (production_stays ws t8 p) i1 i7 first last m t → SymbolsTo c ws t8 t₀ (p + 1) o.count o.cells
    unfolding symbols_step
    symbols_step_lem o q = let n : p + 1 ≡ suc p = omega arith in rw (n, q) (go (production_stays ws t8 p) refl)
      where
        go : (b : Bool) → production_stays ws t8 p ≡ b → SymbolsTo c ws t8 t₀ (suc p) (symbols_step b i1 i7 first last m t).count (symbols_step b i1 i7 first last m t).cells
        go true e = joined e
        go false e = passed e

-- at the end it is the table of their symbols
pub symbols_end : (c : Counts) (ws i1 i7 t8 t₀ : List ℕ) → Movable c ws i1 i7 t8 t₀ → (m : ℕ) (t : List ℕ) → SymbolsTo c ws t8 t₀ (count_at c productions) m t → ◌≡◌ {A = Step} (record { count = m; cells = zero_from (m * width symbols) t }) (record { count = length (symbols_left c t8 t₀ ws); cells = table_of (length t₀) (symbols_left c t8 t₀ ws) })
symbols_end c ws i1 i7 t8 t₀ asks m t x =
    let e = asks.ranges.last in
    let f = asks.fits in
    rw (x.count, laid_end (width symbols) t₀ (symbols_left c t8 t₀ ws) (end_before (width productions) symbols_to t8 (count_at c productions)) t x.laid (omega arith))
