-- Rows added to a table, then more, and the room for them. Assumes nothing.
use Prim.Native.Nat.{ℕ, ◌+◌, ◌*◌, ◌≤◌, ◌<◌}
use mathlib.Core.Path.{◌≡◌, refl, sym, ap, ◌∙◌}
use mathlib.Core.List.{List, [], ◌∷◌, ◌++◌, append_assoc, append-nil}
use mathlib.Core.Bool.{true}
use native.Mathlib.Omega.{arith}
use native.Mathlib.Numerals.{add-one}
use lib.ListN.{length, length-append}
use Rattle.tables.specs.Table.{Added, put, room, add_row}
use Rattle.tables.specs.Rows.{rows_of}
use Rattle.tables.proofs.Laws.{put_length}
use Rattle.tables.proofs.Rows.{rows_of_add}
use Rattle.tables.proofs.Cases.{add_cases}
use Rattle.grammar.specs.declared.State.{State}
use Rattle.grammar.specs.declared.Answer.TheVariants.{Going}
use Rattle.grammar.specs.State.{count, with_count, pushed, push_row}
use Rattle.grammar.proofs.Touch.{refused_going}
use Rattle.marks.specs.Appended.{Appended, FreeRows}

module _ {w n : ℕ} {t : List ℕ} where
  pub appended_none : Appended w n t [] n t
  appended_none = record { counted = omega arith; rows = rw append-nil; size = refl }

  pub appended_then : {m l : ℕ} {u v : List ℕ} {x y : List (List ℕ)} → Appended w n t x m u → Appended w m u y l v → Appended w n t (x ++ y) l v
  appended_then {x = x} {y = y} a b =
      let c = a.counted in
      let d = b.counted in
      record { counted = rw length-append (omega arith); rows = b.rows ∙ rw a.rows (append_assoc (rows_of w n t) x y); size = b.size ∙ a.size }

  -- counts by other names
  pub appended_as : {m i l : ℕ} {u : List ℕ} {x : List (List ℕ)} → i ≡ n → m ≡ l → Appended w i t x m u → Appended w n t x l u
  appended_as {x = x} e f a = record { counted = sym f ∙ a.counted ∙ ap (λ (k : ℕ). k + length x) e; rows = rw (← e, ← f) a.rows; size = a.size }

  -- room depends on how large a table is
  pub free_as : {m i : ℕ} {u : List ℕ} → length u ≡ length t → n ≡ i → FreeRows w i u m → FreeRows w n t m
  unfolding room
  free_as e q f = record { each = λ r h. rw (q, ← e, room) (f.each r h) }

  pub free_split : {m l : ℕ} → FreeRows w n t (m + l) → FreeRows w n t m × FreeRows w (n + m) t l
  free_split {m} {l} f = (record { each = λ r h. f.each r (omega arith) }, record { each = λ r h. let e : n + (m + r) ≡ n + m + r = omega arith in rw e at (f.each (m + r) (omega arith)) })

pub appended_add : (n : ℕ) (row t : List ℕ) → n * length row + length row ≤ length t → Appended (length row) n t (row ∷ []) (n + 1) (put t (n * length row) row)
appended_add n row t h = record { counted = refl; rows = rw (add-one n) (rows_of_add (length row) n row t refl h); size = put_length row t (n * length row) }

-- what is left of the room behind rows that were added
pub free_behind : {w n m k l : ℕ} {t u : List ℕ} {x : List (List ℕ)} → Appended w n t x m u → k ≡ length x + l → FreeRows w n t k → FreeRows w m u l
free_behind a e f = free_as (sym a.size) a.counted (free_split (rw e at f)).1

pub free_here : {w n m : ℕ} {t : List ℕ} → 0 < m → FreeRows w n t m → room w n t ≡ true
free_here {w} {n} {t = t} h f = let z : n + 0 ≡ n = omega arith in rw z at (f.each 0 h)

-- a step that goes on has added its row
module _ (s : State) (k : ℕ) (row t : List ℕ) where
  pub push_appends : count (with_count s k (count s k + 1)) k ≡ count s k + 1 → (push_row s k row t).answer ≡ Going → Appended (length row) (count s k) t (row ∷ []) (count (push_row s k row t).state k) (push_row s k row t).a
  unfolding push_row
  push_appends same =
      add_cases (λ (o : Added). (pushed o.ok s k row o.cells).answer ≡ Going → Appended (length row) (count s k) t (row ∷ []) (count (pushed o.ok s k row o.cells).state k) (pushed o.ok s k row o.cells).a) (count s k) row t
      (λ fits low g. rw same (appended_add (count s k) row t fits))
      (λ full g. absurd (refused_going _ g))

  -- and goes on where there is room
  pub push_room : room (length row) (count s k) t ≡ true → push_row s k row t ≡ record { answer = Going; state = with_count s k (count s k + 1); a = put t (count s k * length row) row }
  unfolding push_row add_row
  push_room h = rw h
