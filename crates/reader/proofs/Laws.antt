-- The whole read: what it came to, one law for each answer. Assumes nothing.
use Rattle.std.specs.Prelude.{Ok, Err}
use Prim.Native.Nat.{ℕ, ◌+◌}
use mathlib.Core.Path.{◌≡◌, refl, ap, ◌∙◌}
use mathlib.Core.List.{List}
use mathlib.Core.Bool.{Bool}
use lib.Dec.{eqb}
use lib.ListN.{length, get_or, length-replicate}
use borrow.Author.Tests.{eq-eqb, ne_eqb}
use Rattle.scan.proofs.Bytes.{on_test}
use Rattle.tables.specs.Table.{zeroed, cell}
use Rattle.tables.specs.Layout.{tokens, rules, symbols, repeats, first_place, width}
use Rattle.index.specs.Index.{entries}
use Rattle.finder.proofs.Laws.{held_none}
use Rattle.symbols.specs.Symbols.{filled_rows}
use Rattle.grammar.specs.declared.Singles.{Singles}
use Rattle.grammar.specs.declared.State.{State}
use Rattle.grammar.specs.declared.Repeat.{Repeat}
use Rattle.grammar.specs.Refusals.{repeat_of}
use Rattle.grammar.specs.declared.Refusal.{Refusal}
use Rattle.grammar.specs.declared.Refusal.TheVariants.{Repeated}
use Rattle.grammar.specs.declared.Answer.{Answer}
use Rattle.grammar.specs.declared.Answer.TheVariants.{Going, Done, Refused}
use Rattle.grammar.specs.State.{Tracked, count, no_posix, no_singles}
use Rattle.grammar.specs.Sound.{AllTables, ten_of, Indexes, lexicon_of, zero_all}
use Rattle.reader.specs.declared.Reading.{Reading}
use Rattle.sections.specs.Sections.{Run, sizes_fit, sized, attempted}
use Rattle.reader.specs.Read.{Outcome, only_repeats, stopped_at, ended_at, result, finished, finished_run, indexed, read_names, with_symbols, read_all, filled_out}

-- after a fatal refusal
pub stopped_at_lem : (s : State) (f : Refusal) (n : ℕ) (g : Singles) → n ≡ count s repeats → g ≡ no_singles → record { answer = Err f; counts = only_repeats n; posix = no_posix; singles = g } ≡ stopped_at s f
stopped_at_lem s f n g c e = rw (c, e)

-- the end of a read that ended
module _ (s : State) (t10 : List ℕ) (n : ℕ) (c : n ≡ count s repeats) where
  pub accepted : n ≡ 0 → record { answer = Ok s.at; counts = s.counts; posix = s.posix; singles = s.singles } ≡ ended_at s t10
  unfolding ended_at
  accepted e = rw (ended_at, ← c, eq-eqb _ _ e)

  pub repeated : (what : Repeat) (x y z : ℕ) → (n ≡ 0 → ⊥) → x ≡ cell (width repeats) t10 0 0 → what ≡ repeat_of x → y ≡ cell (width repeats) t10 0 first_place → z ≡ cell (width repeats) t10 0 (first_place + 1)
      → record { answer = Err (Repeated what y z); counts = s.counts; posix = s.posix; singles = s.singles } ≡ ended_at s t10
  unfolding ended_at
  repeated what x y z e g w h k = rw (ended_at, ← c, ne_eqb _ _ e, w, g, h, k)

-- what an end leaves of an index
ended_counts : (s : State) (t10 : List ℕ) → (ended_at s t10).counts ≡ s.counts
unfolding ended_at
ended_counts s t10 = on_test (λ (r : Reading). r.counts ≡ s.counts) (eqb (count s repeats) 0) _ _ (λ e. refl) (λ e. refl)

pub ended_tracked : (src : List ℕ) (k w name : ℕ) (s : State) (t10 : List ℕ) (r : Reading) (t ix : List ℕ) → r ≡ ended_at s t10 → Tracked src k w name s.counts t ix → Tracked src k w name r.counts t ix
ended_tracked src k w name s t10 r t ix e I = let c : r.counts ≡ s.counts = ap (λ (y : Reading). y.counts) e ∙ ended_counts s t10 in rw c I

pub stopped_tracked : (src : List ℕ) (k w name : ℕ) (s : State) (f : Refusal) (r : Reading) (t ix : List ℕ) → get_or (only_repeats (count s repeats)).n k 0 ≡ 0 → r ≡ stopped_at s f → Tracked src k w name r.counts t ix
stopped_tracked src k w name s f r t ix z e = rw (ap (λ (y : Reading). y.counts) e) (record { ten = refl; held = rw z (held_none src w name t ix) })

-- tables 1 to 9 without anything in them
abbrev Nine : AllTables → AllTables → Type 0
Nine Z T = (Z.t1 ≡ zeroed T.t1) × (Z.t2 ≡ zeroed T.t2) × (Z.t3 ≡ zeroed T.t3) × (Z.t4 ≡ zeroed T.t4) × (Z.t5 ≡ zeroed T.t5) × (Z.t6 ≡ zeroed T.t6) × (Z.t7 ≡ zeroed T.t7) × (Z.t8 ≡ zeroed T.t8) × (Z.t9 ≡ zeroed T.t9)

-- and tables 15 to 17
abbrev Three : AllTables → AllTables → Type 0
Three Z T = (Z.t15 ≡ zeroed T.t15) × (Z.t16 ≡ zeroed T.t16) × (Z.t17 ≡ zeroed T.t17)

-- the end of a read
module _ (a : Answer) (s : State) (T : AllTables) where
  pub finish_going : (r : Reading) → a ≡ Going → r ≡ ended_at s T.t10 → result r T ≡ finished a s T
  finish_going r e h = rw e (ap (λ (y : Reading). result y T) h)

  pub finish_done : (r : Reading) → a ≡ Done → r ≡ ended_at s T.t10 → result r T ≡ finished a s T
  finish_done r e h = rw e (ap (λ (y : Reading). result y T) h)

  pub finish_refused : (f : Refusal) (r : Reading) (Z : AllTables) → a ≡ Refused f → r ≡ stopped_at s f → Nine Z T → Three Z T → Z.t10 ≡ T.t10 → result r Z ≡ finished a s T
  finish_refused f r Z e h z y k = rw (e, ← z.0, ← z.1, ← z.2, ← z.3, ← z.4, ← z.5, ← z.6, ← z.7, ← z.8, ← y.0, ← y.1, ← y.2, ← k) (ap (λ (y : Reading). result y Z) h)

-- the sizes do not change
sized_same : (t7 z7 t1 z1 xt yt xr yr : List ℕ) → z1 ≡ zeroed t1 → z7 ≡ zeroed t7 → yt ≡ zeroed xt → yr ≡ zeroed xr → sizes_fit (length yt) (length z1) (length yr) (length z7) ≡ sizes_fit (length xt) (length t1) (length xr) (length t7)
sized_same t7 z7 t1 z1 xt yt xr yr a b c d = rw (a, b, c, d, length-replicate {A = ℕ} (length xt) 0, length-replicate {A = ℕ} (length xr) 0, length-replicate {A = ℕ} (length t1) 0, length-replicate {A = ℕ} (length t7) 0)

-- the run, with the rows of its symbols
pub run_filled : (src : List ℕ) (kind : ℕ) (fit : Bool) (T : AllTables) (o : Run) (q : Outcome) (t9 : List ℕ) → o ≡ attempted src kind fit T → q ≡ finished o.answer o.state o.tables → t9 ≡ filled_rows (lexicon_of src q.counts (ten_of q.tables)) q.tables.t9 (get_or q.counts.n symbols 0)
    → record { answer = q.answer; counts = q.counts; posix = q.posix; singles = q.singles; tables = with_symbols q.tables t9 } ≡ filled_out src (finished_run (attempted src kind fit T))
run_filled src kind fit T o q t9 e f g = rw g (ap (filled_out src) (f ∙ ap finished_run e))

-- slots of zeros, cleared again
pub zeroed_again : (ix jx : List ℕ) → jx ≡ zeroed ix → jx ≡ zeroed jx
zeroed_again ix jx e = rw (e, length-replicate {A = ℕ} (length ix) 0)

-- The read: on tables of zeros, the run, then indexes that hold the rows it left.
pub read_whole : (src : List ℕ) (kind : ℕ) (T Z : AllTables) (X : Indexes) (yt yr : List ℕ) (fit : Bool) (o : Outcome) (wt wr : List ℕ) → Nine Z T → Three Z T → Z.t10 ≡ zeroed T.t10 → yt ≡ zeroed X.tokens → yr ≡ zeroed X.rules
    → fit ≡ sizes_fit (length yt) (length Z.t1) (length yr) (length Z.t7) → o ≡ filled_out src (finished_run (attempted src kind fit Z))
    → wt ≡ entries src (width tokens) 0 o.tables.t1 (length yt) (get_or o.counts.n tokens 0) → wr ≡ entries src (width rules) 0 o.tables.t7 (length yr) (get_or o.counts.n rules 0)
    → record { answer = o.answer; counts = o.counts; posix = o.posix; singles = o.singles; tables = o.tables; indexes = record { tokens = wt; rules = wr } } ≡ read_all src kind T X
unfolding read_all read_names
read_whole src kind T Z X yt yr fit o wt wr z y k v u f q a b =
    let l : length yt ≡ length X.tokens = rw (v, length-replicate {A = ℕ} (length X.tokens) 0) in
    let m : length yr ≡ length X.rules = rw (u, length-replicate {A = ℕ} (length X.rules) 0) in
    let p : fit ≡ sized T X = f ∙ sized_same T.t7 Z.t7 T.t1 Z.t1 X.tokens yt X.rules yr z.0 z.6 v u in
    let g : o ≡ filled_out src (finished_run (attempted src kind (sized T X) (zero_all T))) = rw (← z.0, ← z.1, ← z.2, ← z.3, ← z.4, ← z.5, ← z.6, ← z.7, ← z.8, ← y.0, ← y.1, ← y.2, ← k, ← p) q in
    whole (rw l at a) (rw m at b) ∙ ap (indexed src X) g
  where
    whole : wt ≡ entries src (width tokens) 0 o.tables.t1 (length X.tokens) (get_or o.counts.n tokens 0) → wr ≡ entries src (width rules) 0 o.tables.t7 (length X.rules) (get_or o.counts.n rules 0)
        → record { answer = o.answer; counts = o.counts; posix = o.posix; singles = o.singles; tables = o.tables; indexes = record { tokens = wt; rules = wr } } ≡ indexed src X o
    whole a b = rw (a, b)
