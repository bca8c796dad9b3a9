-- Tags and numbers keep soundness so far, whatever their answer. Assumes nothing.
use Rattle.std.specs.Prelude.{Option, Some, None, Result, Ok, Err}
use Prim.Native.Nat.{ℕ, ◌≤◌, ◌<◌}
use mathlib.Core.Path.{refl}
use mathlib.Core.List.{List}
use mathlib.Core.Bool.{Bool, true, false}
use native.Mathlib.Omega.{arith}
use lib.Dec.{eqb, ltb}
use lib.ListN.{length}
use Rattle.words.specs.declared.IntError.{IntError}
use Rattle.words.specs.declared.IntError.TheVariants.{NoDigits, TooLarge}
use Rattle.words.specs.declared.TagError.{TagError}
use Rattle.scan.specs.declared.Place.{Place}
use Rattle.words.specs.declared.TagError.TheVariants.{OpenTag, NoTag}
use Rattle.words.specs.Numbers.{int_at, Counted}
use Rattle.words.specs.Tags.{tag_at, Tagged}
use Rattle.words.proofs.Numbers.{int_placed}
use Rattle.words.proofs.Tags.{tag_placed}
use Rattle.tables.specs.Layout.{tags, token_numbers}
use Rattle.grammar.specs.declared.State.{State}
use Rattle.grammar.specs.declared.Answer.{Answer}
use Rattle.grammar.specs.declared.Answer.TheVariants.{Going, Done, Refused}
use Rattle.grammar.specs.Cells.{tag_cells, number_cells}
use Rattle.grammar.specs.declared.Cause.TheVariants.{IntegerTooLarge}
use Rattle.grammar.specs.declared.Refusal.TheVariants.{Fault}
use Rattle.grammar.specs.State.{Out0, Out1, Passed, push_row, pass_on, tied1, behind1, refused}
use Rattle.grammar.specs.Sound.{AllTables, Lies, Far}
use Rattle.grammar.proofs.Kept.{Far1, Held, push_held, past_far, pass_far, behind1_far}
use Rattle.marks.specs.Marks.{Leading, untagged, no_tag, tag_found, lead_tag, tag_row, number_given, number_behind, number_after, behind_word}

-- the tag of a list lies in the source
pub record LeadFar (src : List ℕ) (done : ℕ) (T : AllTables) (l : Leading) : Type 0 where
  pub far : Far src done l.state T
  pub tag : Lies src l.tag

module _ {src : List ℕ} {done : ℕ} {s : State} {T : AllTables} (f : Far src done s T) where
  pub lead_far : (wanted line : Bool) → LeadFar src done T (lead_tag src s wanted line)
  unfolding lead_tag
  lead_far wanted line = kind (eqb s.kind 4)
    where
      none : (w : Bool) (i : ℕ) → LeadFar src done T (no_tag w i s)
      none true i = record { far = f; tag = tt }
      none false i = record { far = f; tag = tt }

      tag : (t : Result (Place × ℕ) TagError) → Tagged src s.at t → LeadFar src done T (tag_found t src s wanted line)
      tag (Ok (p, end)) x =
          let a = x.0 in
          let b = x.1 in
          let c = x.2 in
          let d = x.3 in
          record { far = past_far f line end (omega arith) d; tag = record { onward = b; inside = omega arith } }
      tag (Err (OpenTag i)) x = record { far = f; tag = tt }
      tag (Err (NoTag i)) x = none wanted i

      by : Bool → Leading
      by b = elim b [ true ↦ tag_found (tag_at src s.at) src s wanted line | false ↦ untagged (record { answer = Going; state = s }) ]

      kind : (b : Bool) → LeadFar src done T (by b)
      kind true = tag (tag_at src s.at) (tag_placed src s.at (tag_at src s.at) refl).1
      kind false = record { far = f; tag = tt }

  -- a row for a word of a list that has a tag,
  pub tag_held : (a : Answer) (g : Option (ℕ × ℕ)) (from to : ℕ) → Lies src g → Passed src from to → Held src done T tags s (tag_row a s g from to T.t15)
  unfolding tag_row
  tag_held Going None from to l p = record { far = f; stays = refl; level = refl }
  tag_held Going (Some (i, j)) from to l p = push_held f tags (omega arith) (λ e. omega arith) (tag_cells from to i j) refl (record { name = p; tag = l }) (λ r h. tt)
  tag_held Done g from to l p = record { far = f; stays = refl; level = refl }
  tag_held (Refused e) g from to l p = record { far = f; stays = refl; level = refl }

  -- a number that stands here,
  pub number_far : (line : Bool) (from to : ℕ) → Passed src from to → Far1 src done T token_numbers (number_behind src line from to s T.t16)
  unfolding number_behind
  number_far line from to p = kind (eqb s.kind 4)
    where
      sized : ℕ → ℕ → Bool → Out1
      sized v end b = elim b [ true ↦ tied1 (refused (Fault IntegerTooLarge s.at) s) T.t16 | false ↦ behind1 src line end (push_row s token_numbers (number_cells from to v) T.t16) ]

      large : (v end : ℕ) → s.at < end → end ≤ length src → (b : Bool) → Far1 src done T token_numbers (sized v end b)
      large v end h k true = f
      large v end h k false = behind1_far line end _ (omega arith) k (push_held f token_numbers (omega arith) (λ e. omega arith) (number_cells from to v) refl (record { name = p }) (λ r l. tt))

      int : (i : Result (ℕ × ℕ) IntError) → Counted src s.at i → Far1 src done T token_numbers (number_given i src line from to s T.t16)
      int (Ok (v, end)) x = large v end x.0 x.1 (ltb 4294967295 v)
      int (Err (NoDigits k)) x = f
      int (Err (TooLarge k)) x = f

      by : Bool → Out1
      by b = elim b [ true ↦ number_given (int_at src s.at) src line from to s T.t16 | false ↦ record { answer = Going; state = s; a = T.t16 } ]

      kind : (b : Bool) → Far1 src done T token_numbers (by b)
      kind true = int (int_at src s.at) (int_placed src s.at f.here (int_at src s.at) refl).1
      kind false = f

-- and the spacing behind a word with what number follows it.
pub behind_word_far : {src : List ℕ} {done : ℕ} {s : State} {T : AllTables} → Far src done s T → (line : Bool) (from to end : ℕ) (a : Answer) → Passed src from to → s.at ≤ end → end ≤ length src → Far1 src done T token_numbers (behind_word src line from to end a s T.t16)
unfolding behind_word
behind_word_far {src} {done} {s} {T} f line from to end a p h k = go (pass_on src line end a s) (pass_on src line end a s).answer (pass_far f line end a h k)
  where
    go : (o : Out0) (b : Answer) → Far src done o.state T → Far1 src done T token_numbers (number_after o src line from to b T.t16)
    go o Going g = number_far g line from to p
    go o Done g = g
    go o (Refused e) g = g
