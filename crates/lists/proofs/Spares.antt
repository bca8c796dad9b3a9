-- `%expect-unused` leaves the count of every table but 6, and `%type` every count of the ten. Assumes nothing.
use Rattle.std.specs.Prelude.{Option, Result, Ok, Err}
use Prim.Native.Nat.{ℕ}
use mathlib.Core.Path.{◌≡◌}
use mathlib.Core.List.{List}
use mathlib.Core.Bool.{false}
use Rattle.tables.specs.Layout.{unused}
use Rattle.grammar.specs.declared.State.{State}
use Rattle.grammar.specs.Cells.{kind_cells}
use Rattle.grammar.specs.State.{Out3, push_row}
use Rattle.grammar.proofs.Spares.{Spares, spares_none, spares_on, spares_push, spares_behind}
use Rattle.lists.specs.declared.WordList.TheVariants.{UnusedList, TypeList}
use Rattle.lists.specs.Lists.{spelled_at, unused_row, unused_spelled, unused_item, list_decl}
use Rattle.lists.proofs.Laws.{types_count}
use Rattle.lists.proofs.Items.{list_keeps}

module _ (k : ℕ) (other : unused ≡ k → ⊥) (src : List ℕ) where
  item : (s : State) (t : List ℕ) → Spares k s.counts (unused_item src s t).state.counts
  unfolding unused_item unused_row
  item s t = go (spelled_at src s.at)
    where
      go : (x : Result (ℕ × ℕ × ℕ × ℕ) ℕ) → Spares k s.counts (unused_spelled x src s t).state.counts
      go (Ok (kind, from, to, end)) =
          let o = push_row s unused (kind_cells kind from to) t in
          spares_behind k src false end o.answer o.state (spares_push k s unused (kind_cells kind from to) t other)
      go (Err i) = spares_none k s.counts

  pub unused_spares : (s : State) (t t15 t16 : List ℕ) → Spares k s.counts (list_decl src s UnusedList t t15 t16).state.counts
  unused_spares s t t15 t16 =
      list_keeps src s UnusedList t t15 t16 (λ (o : Out3). Spares k s.counts o.state.counts) (λ (g : Option (ℕ × ℕ)). Unit {0}) (λ a j. spares_none k s.counts) (λ i j g l. tt)
      (λ g p o x. spares_on x (item o.state o.a))

pub type_spares : (k : ℕ) (src : List ℕ) (s : State) (t t15 t16 : List ℕ) → Spares k s.counts (list_decl src s TypeList t t15 t16).state.counts
type_spares k src s t t15 t16 =
    list_keeps src s TypeList t t15 t16 (λ (o : Out3). Spares k s.counts o.state.counts) (λ (g : Option (ℕ × ℕ)). Unit {0}) (λ a j. spares_none k s.counts) (λ i j g l. tt)
    (λ g p o x. rw (types_count src o.state g o.b) x)
