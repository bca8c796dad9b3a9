-- Lists to the next `%` leave the count of every table of the ten but their own; an avoid or implicit list that of every table but 1, its own and 10. Assumes nothing.
use Rattle.std.specs.Prelude.{Option, Result, Ok, Err}
use Prim.Native.Nat.{ℕ, suc}
use mathlib.Core.Path.{◌≡◌, refl, ◌∙◌}
use mathlib.Core.List.{List}
use mathlib.Core.Bool.{Bool, true, false}
use lib.Dec.{leb}
use lib.ListN.{length}
use Rattle.scan.proofs.Loop.{Either, turns_keep}
use Rattle.scan.specs.declared.Place.{Place}
use Rattle.words.specs.Words.{token_at}
use Rattle.tables.specs.Layout.{tokens, avoided, unused, repeats, width}
use Rattle.grammar.specs.declared.Answer.{Answer}
use Rattle.grammar.specs.declared.Answer.TheVariants.{Going, Done, Refused}
use Rattle.grammar.specs.declared.Counts.{Counts}
use Rattle.grammar.specs.declared.State.{State}
use Rattle.grammar.specs.declared.Refusal.{Refusal}
use Rattle.grammar.specs.declared.Repeat.{Repeat}
use Rattle.grammar.specs.Cells.{name_cells, kind_cells}
use Rattle.grammar.specs.State.{Out3, with_at, gap_at, push_row, enter_step, once_step}
use Rattle.grammar.proofs.Kept.{onward_keep}
use Rattle.grammar.proofs.Spares.{Spares, spares_none, spares_on, spares_push, spares_enter, spares_once, spares_behind}
use Rattle.marks.specs.Marks.{Leading, tag_row}
use Rattle.marks.proofs.Laws.{lead_counts, tag_counts, behind_counts}
use Rattle.lists.specs.declared.WordList.{WordList}
use Rattle.lists.specs.declared.WordList.TheVariants.{TokenList, UnusedList, TypeList}
use Rattle.lists.specs.Lists.{token_found, token_item, spelled_at, unused_row, unused_spelled, unused_item, type_row, type_spelled, type_item, list_item, ends, after_item, list_turn, percent_list, lead_list, list_led, list_body, list_from, list_decl}
use Rattle.lines.specs.Avoided.{avoid_entered, avoid_named, avoid_found, avoid_item, avoid_end, avoid_turn, avoid_list, avoid_from, avoid_decl}

-- a table that a list does not fill: of the ten it fills 1, 6 or none
abbrev pub Beside : WordList → ℕ → Type 0
Beside TokenList k = tokens ≡ k → ⊥
Beside UnusedList k = unused ≡ k → ⊥
Beside TypeList k = Unit {0}

module _ (k : ℕ) (src : List ℕ) where
  -- a list to the next `%`
  listed : (what : WordList) → Beside what k → (s : State) (tag : Option (ℕ × ℕ)) (t t15 t16 : List ℕ) → Spares k s.counts (list_item src s what tag t t15 t16).state.counts
  unfolding token_item unused_item unused_row type_item type_row tag_row
  listed TokenList other s tag t t15 t16 = go (token_at src s.at)
    where
      go : (x : Result (Place × ℕ × Bool) ℕ) → Spares k s.counts (token_found x src s tag t t15 t16).state.counts
      go (Ok (p, end, q)) =
          let o = enter_step src s p.from p.to true t in
          let g = tag_row o.answer o.state tag p.from p.to t15 in
          rw (behind_counts src false p.from p.to end g.answer g.state t16 ∙ tag_counts o.answer o.state tag p.from p.to t15)
          (spares_enter k src s p.from p.to true t other)
      go (Err i) = spares_none k s.counts
  listed UnusedList other s tag t t15 t16 = go (spelled_at src s.at)
    where
      go : (x : Result (ℕ × ℕ × ℕ × ℕ) ℕ) → Spares k s.counts (unused_spelled x src s t).state.counts
      go (Ok (kind, from, to, end)) =
          let o = push_row s unused (kind_cells kind from to) t in
          spares_behind k src false end o.answer o.state (spares_push k s unused (kind_cells kind from to) t other)
      go (Err i) = spares_none k s.counts
  listed TypeList other s tag t t15 t16 = go (spelled_at src s.at)
    where
      go : (x : Result (ℕ × ℕ × ℕ × ℕ) ℕ) → Spares k s.counts (type_spelled x src s tag t15).state.counts
      go (Ok (kind, from, to, end)) =
          let o = tag_row Going s tag from to t15 in
          spares_behind k src false end o.answer o.state (rw (tag_counts Going s tag from to t15) (spares_none k s.counts))
      go (Err i) = spares_none k s.counts

  abbrev Since : Counts → Out3 → Type 0
  Since c o = Spares k c o.state.counts

  list_turn_lem : (c : Counts) (what : WordList) → Beside what k → (tag : Option (ℕ × ℕ)) (o : Out3) → Since c o → Either (Since c) (Since c) (list_turn src what tag o)
  unfolding list_turn
  list_turn_lem c what other tag o x = go (ends src o.state.at)
    where
      next : Out3
      next = list_item src o.state what tag o.a o.b o.c

      go : (b : Bool) → Either (Since c) (Since c) (after_item b o (list_item src o.state what tag o.a o.b o.c))
      go true = x
      go false = onward_keep (Since c) next.answer next (spares_on x (listed what other o.state tag o.a o.b o.c))

  pub list_spares : (what : WordList) → Beside what k → (s : State) (t t15 t16 : List ℕ) → Spares k s.counts (list_decl src s what t t15 t16).state.counts
  unfolding list_decl list_body percent_list
  list_spares what other s t t15 t16 = gap (gap_at s.kind false src s.at)
    where
      led : (w : WordList) (u : State) → (lead_list w src u).state.counts ≡ u.counts
      led TokenList u = lead_counts src u false false
      led UnusedList u = refl
      led TypeList u = lead_counts src u true false

      body : (a : Answer) (l : Leading) → l.state.counts ≡ s.counts → Spares k s.counts (list_led a l src what t t15 t16).state.counts
      body Going l e = turns_keep (Since s.counts) (list_turn src what l.tag) (list_turn_lem s.counts what other l.tag) (suc (length src)) _ (rw e (spares_none k s.counts))
      body Done l e = rw e (spares_none k s.counts)
      body (Refused f) l e = rw e (spares_none k s.counts)

      gap : (g : Result (ℕ × ℕ) Refusal) → Spares k s.counts (list_from g src s what t t15 t16).state.counts
      gap (Ok (i, n)) = body (lead_list what src (with_at s i)).answer (lead_list what src (with_at s i)) (led what (with_at s i))
      gap (Err f) = spares_none k s.counts

  -- an avoid or implicit list
  module _ (first : tokens ≡ k → ⊥) (tenth : repeats ≡ k → ⊥) (j : ℕ) (other : j ≡ k → ⊥) (what : Repeat) where
    named : (s : State) (from to end : ℕ) (t1 t t10 : List ℕ) → Spares k s.counts (avoid_named src s j what from to end t1 t t10).state.counts
    unfolding avoid_named
    named s from to end t1 t t10 = go (enter_step src s from to false t1).answer
      where
        e : Spares k s.counts (enter_step src s from to false t1).state.counts
        e = spares_enter k src s from to false t1 first

        go : (a : Answer) → Spares k s.counts (avoid_entered a (enter_step src s from to false t1) src j what from to end t t10).state.counts
        go Going =
            let u = (enter_step src s from to false t1).state in
            let o = once_step src u j (width avoided) 0 what (name_cells from to) t t10 in
            spares_behind k src true end o.answer o.state (spares_on e (spares_once k src u j (width avoided) 0 what (name_cells from to) t t10 other tenth))
        go Done = e
        go (Refused f) = e

    avoided_item : (s : State) (t1 t t10 : List ℕ) → Spares k s.counts (avoid_item src s j what t1 t t10).state.counts
    unfolding avoid_item
    avoided_item s t1 t t10 = go (token_at src s.at)
      where
        go : (x : Result (Place × ℕ × Bool) ℕ) → Spares k s.counts (avoid_found x src s j what t1 t t10).state.counts
        go (Ok (p, end, q)) = named s p.from p.to end t1 t t10
        go (Err i) = spares_none k s.counts

    avoid_turn_lem : (c : Counts) (o : Out3) → Since c o → Either (Since c) (Since c) (avoid_turn src j what o)
    unfolding avoid_turn
    avoid_turn_lem c o x = next (avoid_item src o.state j what o.a o.b o.c).answer (avoid_item src o.state j what o.a o.b o.c) (spares_on x (avoided_item o.state o.a o.b o.c))
      where
        next : (a : Answer) (p : Out3) → Since c p → Either (Since c) (Since c) (avoid_end a p)
        next Going p y = y
        next Done p y = y
        next (Refused f) p y = y

    pub avoid_spares : (s : State) (t1 t t10 : List ℕ) → Spares k s.counts (avoid_decl src s j what t1 t t10).state.counts
    unfolding avoid_decl avoid_list
    avoid_spares s t1 t t10 = by (leb (length src) s.at) refl
      where
        go : (g : Result (ℕ × ℕ) Refusal) → Spares k s.counts (avoid_from g src s j what t1 t t10).state.counts
        go (Ok (i, n)) = turns_keep (Since s.counts) (avoid_turn src j what) (avoid_turn_lem s.counts) (suc (length src)) _ (spares_none k s.counts)
        go (Err f) = spares_none k s.counts

        by : (b : Bool) → leb (length src) s.at ≡ b → Spares k s.counts (avoid_decl src s j what t1 t t10).state.counts
        by true e = rw (e, avoid_decl) (spares_none k s.counts)
        by false e = rw (e, avoid_decl) (go (gap_at s.kind false src s.at))
