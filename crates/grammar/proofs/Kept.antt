-- The steps that add a row keep soundness so far, whatever their answer: a row more, a repeat listed, a token entered. Assumes nothing.
use Rattle.std.specs.Prelude.{Option, Result, Ok, Err}
use Prim.Native.Nat.{ℕ, ◌+◌, ◌≤◌, ◌<◌}
use mathlib.Core.Path.{◌≡◌, refl, sym, ap, subst, ◌∙◌}
use mathlib.Core.List.{List, [], ◌∷◌}
use mathlib.Core.Bool.{Bool, true, false}
use native.Mathlib.Omega.{arith}
use lib.ListN.{length, get_or, set}
use Rattle.tables.specs.Table.{Added, Inserted, marked, flag, has_name, cell}
use Rattle.tables.specs.Rows.{row_at}
use Rattle.tables.specs.Layout.{tokens, productions, repeats, declared, row_place, width}
use Rattle.tables.proofs.Cases.{add_cases, find_cases, enter_cases}
use Rattle.spacing.specs.declared.SpacingError.{SpacingError}
use Rattle.spacing.specs.declared.SpacingError.TheVariants.{LineEnd, OpenComment}
use Rattle.spacing.specs.Spacing.{spaces_at, Spaces}
use Rattle.spacing.proofs.Places.{spaces}
use Rattle.scan.proofs.Loop.{Either}
use Rattle.tables.proofs.Rows.{row_cell, rows_set}
use Rattle.grammar.specs.declared.State.{State}
use Rattle.grammar.specs.declared.Repeat.{Repeat}
use Rattle.grammar.specs.Refusals.{number_of_repeat}
use Rattle.grammar.specs.Cells.{repeat_cells, token_cells}
use Rattle.grammar.specs.declared.Answer.{Answer}
use Rattle.grammar.specs.declared.Answer.TheVariants.{Going, Done, Refused}
use Rattle.grammar.specs.declared.Refusal.{Refusal}
use Rattle.grammar.specs.State.{Out1, Out2, Out3, Passed, count, gap_of, gap_at, Gapped, pushed, push_row, list_repeat, entered, enter_step, first2, second2, once_found, once_step, past, past_gap, pass_on, onward, behind1, behind2}
use Rattle.grammar.specs.Sound.{AllTables, cells_of, set_tab, Each, Pairs, view, Table, TokenRow, Differ, Far}
use Rattle.grammar.proofs.Repeats.{repeat_least, repeat_most}
use Rattle.grammar.proofs.Far.{set_tab_lem, tab_other, far_at, far_add, far_table}

-- where spacing leads
pub gapped : (kind : ℕ) (ok : Bool) (src : List ℕ) (at : ℕ) → at ≤ length src → Gapped src at (gap_at kind ok src at)
unfolding gap_at gap_of
gapped kind ok src at h = go (spaces_at kind ok src at) (spaces kind ok src at h)
  where
    go : (r : Result (ℕ × ℕ) SpacingError) → Spaces src at r → Gapped src at (gap_of r)
    go (Ok (i, n)) x = x
    go (Err (LineEnd i)) x = tt
    go (Err (OpenComment i)) x = tt

-- a step on table k keeps soundness so far, on two tables, on three
abbrev pub Far1 : List ℕ → ℕ → AllTables → ℕ → Out1 → Type 0
Far1 src done T k o = Far src done o.state (set_tab T k o.a)

abbrev pub Far2 : List ℕ → ℕ → AllTables → ℕ → ℕ → Out2 → Type 0
Far2 src done T k l o = Far src done o.state (set_tab (set_tab T k o.a) l o.b)

abbrev pub Far3 : List ℕ → ℕ → AllTables → ℕ → ℕ → ℕ → Out3 → Type 0
Far3 src done T k l m o = Far src done o.state (set_tab (set_tab (set_tab T k o.a) l o.b) m o.c)

-- and stays where the state stood, at its level
pub record Held (src : List ℕ) (done : ℕ) (T : AllTables) (k : ℕ) (s : State) (o : Out1) : Type 0 where
  pub far : Far1 src done T k o
  pub stays : o.state.at ≡ s.at
  pub level : o.state.level ≡ s.level

pub record Held2 (src : List ℕ) (done : ℕ) (T : AllTables) (k l : ℕ) (s : State) (o : Out2) : Type 0 where
  pub far : Far2 src done T k l o
  pub stays : o.state.at ≡ s.at
  pub level : o.state.level ≡ s.level

-- a token's row that is marked is a token's row, with the same name
mark_row : (src x : List ℕ) → TokenRow src x → TokenRow src (set x declared 1)
mark_row src [] p = p
mark_row src (a ∷ []) p = p
mark_row src (a ∷ b ∷ []) p = p
mark_row src (a ∷ b ∷ c ∷ xs) p = record { name = p.name; flag = omega arith }

mark_left : (src x y : List ℕ) → Differ src x y → Differ src (set x declared 1) y
mark_left src [] y d = d
mark_left src (a ∷ []) y d = d
mark_left src (a ∷ b ∷ []) y d = d
mark_left src (a ∷ b ∷ c ∷ xs) y d = record { differ = d.differ }

mark_right : (src x y : List ℕ) → Differ src x y → Differ src x (set y declared 1)
mark_right src x [] d = d
mark_right src x (a ∷ []) d = d
mark_right src x (a ∷ b ∷ []) d = d
mark_right src x (a ∷ b ∷ c ∷ ys) d = record { differ = d.differ }

flag_low : (d : Bool) → flag d ≤ 1
flag_low true = omega arith
flag_low false = omega arith

module _ {src : List ℕ} {done : ℕ} {s : State} {T : AllTables} (f : Far src done s T) where
  -- a row more,
  pub push_held : (k : ℕ) → k < 13 → (k ≡ productions → ⊥) → (row : List ℕ) → length row ≡ width k → Each src (view s) k row → ((r : ℕ) → r < count s k → Pairs src k (row_at (width k) (cells_of T k) r) row) → Held src done T k s (push_row s k row (cells_of T k))
  unfolding push_row
  push_held k h d row wide p q =
      add_cases (λ (o : Added). Held src done T k s (pushed o.ok s k row o.cells)) (count s k) row (cells_of T k)
      (λ room low. record { far = rw wide (far_add f k h d row wide (rw wide at room) low p q); stays = refl; level = refl })
      (λ full. record { far = rw (set_tab_lem T k) f; stays = refl; level = refl })

  -- a repeat listed,
  pub repeat_held : (what : Repeat) (a b c d : ℕ) → Passed src a b → Passed src c d → Held src done T repeats s (list_repeat s what a b c d T.t10)
  unfolding list_repeat
  repeat_held what a b c d p q =
      push_held repeats (omega arith) (λ e. omega arith) (repeat_cells (number_of_repeat what) a b c d) refl
      (record { least = repeat_least what; most = repeat_most what; first = p; again = q })
      (λ r l. tt)

  -- a found token may be marked
  marked_rows : (d : Bool) (r : ℕ) → r < count s tokens → Table src (view s) tokens (count s tokens) (marked d r T.t1)
  marked_rows true r l = rows_set (width tokens) (count s tokens) r declared 1 T.t1 l (omega arith) (f.tables tokens) (λ x w. mark_row src x) (λ x y w. mark_left src x y) (λ x y w. mark_right src x y)
  marked_rows false r l = f.tables tokens

  new_name : (a b : ℕ) (d : Bool) (r : ℕ) → has_name src (width tokens) 0 T.t1 a b r ≡ false → Differ src (row_at (width tokens) T.t1 r) (token_cells a b (flag d))
  unfolding has_name
  new_name a b d r e = record { differ = rw (row_cell (width tokens) T.t1 r 0 (omega arith), row_cell (width tokens) T.t1 r 1 (omega arith)) e }

  -- a token entered,
  pub enter_held : (a b : ℕ) (d : Bool) → Passed src a b → Held src done T tokens s (enter_step src s a b d T.t1)
  unfolding enter_step
  enter_held a b d p =
      enter_cases (λ (o : Inserted). Held src done T tokens s (entered o.entered s (token_cells a b (flag d)) o.cells)) src (count s tokens) a b d T.t1
      (λ r l e. record { far = far_table f tokens (omega arith) (count s tokens) (omega arith) (marked d r T.t1) (λ z. omega arith) (marked_rows d r l); stays = refl; level = refl })
      (λ none room low. record { far = far_add f tokens (omega arith) (λ z. omega arith) (token_cells a b (flag d)) refl room low (record { name = p; flag = flag_low d }) (λ r l. new_name a b d r (none r l)); stays = refl; level = refl })
      (λ none full. record { far = f; stays = refl; level = refl })

  -- what may be given once to a name,
  pub once_held : (k : ℕ) → k < repeats → (k ≡ productions → ⊥) → (name : ℕ) (what : Repeat) (row : List ℕ) → length row ≡ width k → Each src (view s) k row → ((r : ℕ) → r < count s k → Pairs src k (row_at (width k) (cells_of T k) r) row) → ((r : ℕ) → r < count s k → Passed src (cell (width k) (cells_of T k) r (row_place k)) (cell (width k) (cells_of T k) r (row_place k + 1))) → Passed src (get_or row (row_place k) 0) (get_or row (row_place k + 1) 0) → Held2 src done T k repeats s (once_step src s k (width k) name what row (cells_of T k) T.t10)
  unfolding once_step
  once_held k h d name what row wide p q first z =
      find_cases (λ (x : Option ℕ). Held2 src done T k repeats s (once_found x s k (width k) what row (cells_of T k) T.t10)) src (width k) name (count s k) (cells_of T k) (get_or row name 0) (get_or row (name + 1) 0)
      (λ r l e none. found _ (repeat_held what _ _ _ _ (first r l) z))
      (λ none. new _ (push_held k (omega arith) d row wide p q))
    where
      other : (x : List ℕ) → set_tab (set_tab T k x) repeats T.t10 ≡ set_tab T k x
      other x = ap (λ (y : List ℕ). set_tab (set_tab T k x) repeats y) (sym (tab_other T k repeats x (λ e. omega arith))) ∙ set_tab_lem (set_tab T k x) repeats

      found : (o : Out1) → Held src done T repeats s o → Held2 src done T k repeats s (second2 (cells_of T k) o)
      found o y = record { far = subst (λ (U : AllTables). Far src done o.state (set_tab U repeats o.a)) (sym (set_tab_lem T k)) y.far; stays = y.stays; level = y.level }

      new : (o : Out1) → Held src done T k s o → Held2 src done T k repeats s (first2 o T.t10)
      new o y = record { far = subst (λ (U : AllTables). Far src done o.state U) (sym (other o.a)) y.far; stays = y.stays; level = y.level }

  -- spacing passed.
  pub past_far : (line : Bool) (j : ℕ) → s.at ≤ j → j ≤ length src → Far src done (past_gap src line j s).state T
  unfolding past_gap
  past_far line j h k = go (gap_at s.kind true src j) (gapped s.kind true src j k)
    where
      go : (g : Result (ℕ × ℕ) Refusal) → Gapped src j g → Far src done (past line g s).state T
      go (Ok (i, n)) x = let a = x.0 in far_at f i (omega arith) x.1
      go (Err e) x = f

  pub pass_far : (line : Bool) (j : ℕ) (a : Answer) → s.at ≤ j → j ≤ length src → Far src done (pass_on src line j a s).state T
  pass_far line j Going h k = past_far line j h k
  pass_far line j Done h k = f
  pass_far line j (Refused e) h k = f

-- an invariant that a step keeps is kept by the turn around it
pub onward_keep : {X : Type 0} (I : X → Type 0) (a : Answer) (x : X) → I x → Either I I (onward a x)
onward_keep I Going x i = i
onward_keep I Done x i = i
onward_keep I (Refused f) x i = i

-- spacing behind a step that stayed where it stood
pub behind1_far : {src : List ℕ} {done : ℕ} {T : AllTables} {k : ℕ} {s : State} (line : Bool) (j : ℕ) (o : Out1) → s.at ≤ j → j ≤ length src → Held src done T k s o → Far1 src done T k (behind1 src line j o)
behind1_far line j o h l x = let e = x.stays in pass_far x.far line j o.answer (omega arith) l

pub behind2_far : {src : List ℕ} {done : ℕ} {T : AllTables} {k l : ℕ} {s : State} (line : Bool) (j : ℕ) (o : Out2) → s.at ≤ j → j ≤ length src → Held2 src done T k l s o → Far2 src done T k l (behind2 src line j o)
behind2_far line j o h m x = let e = x.stays in pass_far x.far line j o.answer (omega arith) m

-- spacing keeps the level
pub pass_level : (src : List ℕ) (line : Bool) (j : ℕ) (a : Answer) (s : State) → (pass_on src line j a s).state.level ≡ s.level
unfolding past_gap
pass_level src line j Going s = go (gap_at s.kind true src j)
  where
    go : (g : Result (ℕ × ℕ) Refusal) → (past line g s).state.level ≡ s.level
    go (Ok (i, n)) = refl
    go (Err e) = refl
pass_level src line j Done s = refl
pass_level src line j (Refused f) s = refl
