-- In kinds 1 to 3 a precedence line leaves tables 15 and 16 and the counts of the three tables behind the ten. Assumes nothing.
use Rattle.std.specs.Prelude.{Option, Some, None, Result, Ok, Err}
use Prim.Native.Nat.{ℕ, suc, ◌+◌, ◌<◌}
use mathlib.Core.Path.{◌≡◌, refl, sym, ap, ◌∙◌}
use mathlib.Core.List.{List}
use mathlib.Core.Bool.{Bool, true, false}
use native.Mathlib.Omega.{arith}
use lib.Dec.{leb}
use lib.ListN.{length, get_or}
use Rattle.scan.proofs.Bytes.{told}
use Rattle.scan.proofs.Loop.{Either, turns_keep}
use Rattle.scan.specs.declared.Place.{Place}
use Rattle.words.specs.Words.{token_at}
use Rattle.tables.specs.Table.{Added, find_name}
use Rattle.tables.specs.Layout.{precedences, repeats, posix_from, width}
use Rattle.tables.proofs.Cases.{add_cases}
use Rattle.grammar.specs.declared.State.{State}
use Rattle.grammar.specs.declared.Answer.{Answer}
use Rattle.grammar.specs.declared.Answer.TheVariants.{Going, Done, Refused}
use Rattle.grammar.specs.declared.Repeat.{Repeat}
use Rattle.grammar.specs.declared.Repeat.TheVariants.{RepeatedPrecedence}
use Rattle.grammar.specs.Cells.{precedence_cells}
use Rattle.grammar.specs.State.{Out1, Out4, count, with_at, with_level, next_level, pushed, push_row, list_repeat, once_found, once_step}
use Rattle.grammar.proofs.Counting.{with_low}
use Rattle.grammar.proofs.SameKind.{once_kind}
use Rattle.marks.specs.Marks.{tag_row}
use Rattle.marks.proofs.Laws.{tag_kind, behind_kind}
use Rattle.marks.proofs.Worded.{tag_absent, behind_none}
use Rattle.lines.specs.Met.{Unmarked}
use Rattle.lines.specs.Precedences.{prec_found, prec_item, line_end, after_end, prec_turn, prec_list, prec_decl}
use Rattle.lines.proofs.Worded.{not_four}
use Rattle.lines.proofs.Cases.{prec_cases}

-- a row of one of the ten tables, and what is given once to a name there
module _ (s : State) where
  push_posix : (k : ℕ) (row t : List ℕ) → k < posix_from → (push_row s k row t).state.posix ≡ s.posix
  unfolding push_row
  push_posix k row t h =
      add_cases (λ (o : Added). (pushed o.ok s k row o.cells).state.posix ≡ s.posix) (count s k) row t
      (λ room low. ap (λ (u : State). u.posix) (with_low s k (count s k + 1) h))
      (λ full. refl)

  once_posix : (src : List ℕ) (k w name : ℕ) (what : Repeat) (row t t10 : List ℕ) → k < posix_from → (once_step src s k w name what row t t10).state.posix ≡ s.posix
  unfolding once_step list_repeat
  once_posix src k w name what row t t10 h = go (find_name src w name (count s k) t (get_or row name 0) (get_or row (name + 1) 0))
    where
      go : (f : Option ℕ) → (once_found f s k w what row t t10).state.posix ≡ s.posix
      go (Some r) = push_posix repeats _ t10 (omega arith)
      go None = push_posix k row t h

module _ (src : List ℕ) (lev assoc : ℕ) (s : State) (t15 t16 : List ℕ) (d : s.kind ≡ 4 → ⊥) where
  record Under (o : Out4) : Type 0 where
    left : Unmarked s t15 t16 o
    kind : o.state.kind ≡ s.kind

  item : (o : Out4) → Under o → Under (prec_item src o.state lev assoc None o.a o.b o.c o.d)
  unfolding prec_item
  item o x = go (token_at src o.state.at)
    where
      go : (r : Result (Place × ℕ × Bool) ℕ) → Under (prec_found r src o.state lev assoc None o.a o.b o.c o.d)
      go (Ok (p, end, quoted)) =
          let row = precedence_cells p.from p.to lev assoc in
          let m = once_step src o.state precedences (width precedences) 0 RepeatedPrecedence row o.a o.b in
          let g = tag_row m.answer m.state None p.from p.to o.c in
          let y = tag_absent m.answer m.state p.from p.to o.c in
          let k = tag_kind m.answer m.state None p.from p.to o.c ∙ once_kind o.state src precedences (width precedences) 0 RepeatedPrecedence row o.a o.b ∙ x.kind in
          let z = behind_none src true p.from p.to end o.d g.answer g.state (λ e. d (sym k ∙ e)) in
          record {
            left = record { tagged = ap (λ (q : Out1). q.a) y ∙ x.left.tagged; numbered = z.0 ∙ x.left.numbered; counts = z.1 ∙ ap (λ (q : Out1). q.state.posix) y ∙ once_posix o.state src precedences (width precedences) 0 RepeatedPrecedence row o.a o.b (omega arith) ∙ x.left.counts };
            kind = behind_kind src true p.from p.to end g.answer g.state o.d ∙ k;
          }
      go (Err k) = record { left = record { tagged = x.left.tagged; numbered = x.left.numbered; counts = x.left.counts }; kind = x.kind }

  turn : (o : Out4) → Under o → Either Under Under (prec_turn src lev assoc None o)
  unfolding prec_turn
  turn o x = go (leb (length src) o.state.at)
    where
      next : (a : Answer) (p : Out4) → Under p → Either Under Under (line_end a p)
      next Going p y = y
      next Done p y = record { left = record { tagged = y.left.tagged; numbered = y.left.numbered; counts = y.left.counts }; kind = y.kind }
      next (Refused f) p y = y

      go : (b : Bool) → Either Under Under (after_end b o (prec_item src o.state lev assoc None o.a o.b o.c o.d))
      go true = x
      go false = next (prec_item src o.state lev assoc None o.a o.b o.c o.d).answer _ (item o x)

-- Whatever its answer, a line of another kind than 4 gives no row to tables 15 and 16.
pub line_unmarked : (src : List ℕ) (s : State) (assoc : ℕ) (t2 t10 t15 t16 : List ℕ) → (s.kind ≡ 4 → ⊥) → Unmarked s t15 t16 (prec_decl src s assoc t2 t10 t15 t16)
unfolding prec_list
line_unmarked src s assoc t2 t10 t15 t16 d =
    prec_cases (Unmarked s t15 t16) src s assoc t2 t10 t15 t16
    (λ i n e j tag l. told (λ (g : Option (ℕ × ℕ)). Unmarked s t15 t16 (prec_list src (with_level (with_at s j) (next_level s.level)) s.level assoc g t2 t10 t15 t16)) (not_four s.kind src d l).2
    (turns_keep (Under src s.level assoc s t15 t16 d) (prec_turn src s.level assoc None) (turn src s.level assoc s t15 t16 d) (suc (length src)) _ (record { left = record { tagged = refl; numbered = refl; counts = refl }; kind = refl })).left)
    (λ i n e j m tag l c. record { tagged = refl; numbered = refl; counts = refl })
    (λ i n e f none. record { tagged = refl; numbered = refl; counts = refl })
    (λ f e. record { tagged = refl; numbered = refl; counts = refl })
