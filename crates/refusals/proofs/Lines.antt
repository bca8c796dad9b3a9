-- Lists that run to their line's end stand in the source, and their refusals are fatal ones of the source. Assumes nothing.
use Rattle.std.specs.Prelude.{Option, Result, Ok, Err}
use Prim.Native.Nat.{ℕ, suc, ◌≤◌}
use mathlib.Core.Path.{◌≡◌, refl, sym, ◌∙◌}
use mathlib.Core.List.{List}
use mathlib.Core.Bool.{Bool, true, false}
use native.Mathlib.Omega.{arith}
use lib.Dec.{leb}
use lib.ListN.{length}
use Rattle.scan.proofs.Bytes.{on_test}
use Rattle.scan.proofs.Loop.{Either, turns_keep}
use Rattle.scan.specs.declared.Place.{Place}
use Rattle.words.specs.Words.{token_at, Tokened}
use Rattle.words.proofs.Words.{token_placed}
use Rattle.tables.specs.Layout.{precedences, avoided, width}
use Rattle.grammar.specs.declared.State.{State}
use Rattle.grammar.specs.declared.Answer.{Answer}
use Rattle.grammar.specs.declared.Answer.TheVariants.{Going, Done, Refused}
use Rattle.grammar.specs.declared.Repeat.{Repeat}
use Rattle.grammar.specs.declared.Repeat.TheVariants.{RepeatedPrecedence}
use Rattle.grammar.specs.declared.Refusal.{Refusal}
use Rattle.grammar.specs.Cells.{precedence_cells, name_cells}
use Rattle.grammar.specs.State.{Out1, Out3, Out4, Passed, with_at, with_level, next_level, gap_at, enter_step, once_step}
use Rattle.grammar.proofs.SameKind.{once_kind}
use Rattle.marks.proofs.Laws.{lead_kind, tag_kind}
use Rattle.marks.specs.Marks.{Leading, lead_tag, tag_row}
use Rattle.lines.specs.Precedences.{prec_found, prec_item, line_end, after_end, prec_turn, prec_list, prec_led, prec_body, prec_from, prec_decl}
use Rattle.lines.specs.Avoided.{avoid_entered, avoid_named, avoid_found, avoid_item, avoid_end, avoid_turn, avoid_list, avoid_from, avoid_decl}
use Rattle.lines.specs.Grown.{NameTable, third, fourth}
use Rattle.refusals.specs.Steps.{GapIn, Sited, Sited2, Sited3, Sited4}
use Rattle.refusals.proofs.Steps.{gap_in, pass_in, enter_in, once_in}
use Rattle.refusals.proofs.Marks.{Tags, lead_in, tag_in, behind_in}
use Rattle.refusals.proofs.KindKept.{prec_item_kept}

-- a precedence line: its item, its turn
prec_item_in : (src : List ℕ) (P : Type 0) (s : State) → s.at ≤ length src → (s.kind ≡ 4 → P) → (level assoc : ℕ) (tag : Option (ℕ × ℕ)) → Tags P tag → (t2 t10 t15 t16 : List ℕ) → Sited4 src P (prec_item src s level assoc tag t2 t10 t15 t16)
unfolding prec_item
prec_item_in src P s h k level assoc tag g t2 t10 t15 t16 = go (token_at src s.at) (token_placed src s.at (token_at src s.at) refl).1
  where
    go : (r : Result (Place × ℕ × Bool) ℕ) → Tokened src s.at r → Sited4 src P (prec_found r src s level assoc tag t2 t10 t15 t16)
    go (Ok (p, end, q)) x =
        let b = x.1 in
        let c = x.2 in
        let d = x.3 in
        let z : Passed src p.from p.to = record { onward = omega arith; inside = omega arith } in
        let row = precedence_cells p.from p.to level assoc in
        let o = once_step src s precedences (width precedences) 0 RepeatedPrecedence row t2 t10 in
        let r = tag_row o.answer o.state tag p.from p.to t15 in
        let y = once_in src P s h precedences (width precedences) 0 RepeatedPrecedence row t2 t10 (omega arith) z in
        let same : r.state.kind ≡ s.kind = tag_kind o.answer o.state tag p.from p.to t15 ∙ once_kind s src precedences (width precedences) 0 RepeatedPrecedence row t2 t10 in
        behind_in src P true p.from p.to end r.answer r.state t16 (λ e. k (sym same ∙ e)) (tag_in src P o.answer o.state y tag g p.from p.to t15 z) z d
    go (Err k) x = record { here = h; stops = omega arith }

-- a line under way, of a kind
abbrev Lining : List ℕ → Type 0 → ℕ → Out4 → Type 0
Lining src P kind o = Sited4 src P o × (o.state.kind ≡ kind)

prec_turn_in : (src : List ℕ) (P : Type 0) (kind : ℕ) → (kind ≡ 4 → P) → (level assoc : ℕ) (tag : Option (ℕ × ℕ)) → Tags P tag → (o : Out4) → Lining src P kind o → Either (Lining src P kind) (Lining src P kind) (prec_turn src level assoc tag o)
unfolding prec_turn
prec_turn_in src P kind k level assoc tag g o x = go (leb (length src) o.state.at)
  where
    item : Out4
    item = prec_item src o.state level assoc tag o.a o.b o.c o.d

    next : (a : Answer) (p : Out4) → Lining src P kind p → Either (Lining src P kind) (Lining src P kind) (line_end a p)
    next Going p y = y
    next Done p y = (record { here = y.0.here; stops = tt }, y.1)
    next (Refused f) p y = y

    go : (b : Bool) → Either (Lining src P kind) (Lining src P kind) (after_end b o (prec_item src o.state level assoc tag o.a o.b o.c o.d))
    go true = x
    go false = next item.answer item (prec_item_in src P o.state x.0.here (λ e. k (sym x.1 ∙ e)) level assoc tag g o.a o.b o.c o.d, prec_item_kept src kind o.state x.1 level assoc tag o.a o.b o.c o.d)

-- `%left`, `%right` and `%nonassoc`
pub prec_in : (src : List ℕ) (P : Type 0) (s : State) → s.at ≤ length src → (s.kind ≡ 4 → P) → (assoc : ℕ) (t2 t10 t15 t16 : List ℕ) → Sited4 src P (prec_decl src s assoc t2 t10 t15 t16)
unfolding prec_decl prec_body prec_list
prec_in src P s h k assoc t2 t10 t15 t16 = go (gap_at s.kind false src s.at) (gap_in s.kind false src P s.at h)
  where
    led : (a : Answer) (l : Leading) → Sited src P a l.state → Tags P l.tag → l.state.kind ≡ s.kind → Sited4 src P (prec_led a l src s.level assoc t2 t10 t15 t16)
    led Going l x g e = (turns_keep (Lining src P s.kind) (prec_turn src s.level assoc l.tag) (prec_turn_in src P s.kind k s.level assoc l.tag g) (suc (length src)) _ (record { here = x.here; stops = tt }, e)).0
    led Done l x g e = record { here = x.here; stops = tt }
    led (Refused f) l x g e = x

    go : (g : Result (ℕ × ℕ) Refusal) → GapIn src P s.at g → Sited4 src P (prec_from g src s assoc t2 t10 t15 t16)
    go (Ok (i, n)) x = let u = with_level (with_at s i) (next_level s.level) in let y = lead_in src P u x.inside k false true in led (lead_tag src u false true).answer (lead_tag src u false true) y.read y.tag (lead_kind src u false true)
    go (Err e) x = record { here = h; stops = x }

-- what is given once to table 3 or 4
given_in : (src : List ℕ) (P : Type 0) (s : State) → s.at ≤ length src → (k : ℕ) → NameTable k → (what : Repeat) (from to : ℕ) (t t10 : List ℕ) → Passed src from to → Sited2 src P (once_step src s k (width avoided) 0 what (name_cells from to) t t10)
given_in src P s h k third what from to t t10 p = once_in src P s h _ (width avoided) 0 what (name_cells from to) t t10 (omega arith) p
given_in src P s h k fourth what from to t t10 p = once_in src P s h _ (width avoided) 0 what (name_cells from to) t t10 (omega arith) p

module _ (src : List ℕ) (P : Type 0) (k : ℕ) (n : NameTable k) (what : Repeat) where
  -- a word of the list: its token is entered first
  avoid_item_in : (s : State) → s.at ≤ length src → (t1 t t10 : List ℕ) → Sited3 src P (avoid_item src s k what t1 t t10)
  unfolding avoid_item avoid_named
  avoid_item_in s h t1 t t10 = go (token_at src s.at) (token_placed src s.at (token_at src s.at) refl).1
    where
      entered : (from to end : ℕ) → Passed src from to → end ≤ length src → (a : Answer) (o : Out1) → Sited src P a o.state → Sited3 src P (avoid_entered a o src k what from to end t t10)
      entered from to end p l Going o x =
          pass_in src P true end l (given_in src P o.state x.here k n what from to t t10 p)
      entered from to end p l Done o x = x
      entered from to end p l (Refused f) o x = x

      go : (r : Result (Place × ℕ × Bool) ℕ) → Tokened src s.at r → Sited3 src P (avoid_found r src s k what t1 t t10)
      go (Ok (p, end, q)) x =
          let b = x.1 in
          let c = x.2 in
          let d = x.3 in
          let z : Passed src p.from p.to = record { onward = omega arith; inside = omega arith } in
          let e = enter_step src s p.from p.to false t1 in
          entered p.from p.to end z d e.answer e (enter_in src P s h p.from p.to false t1 z)
      go (Err i) x = record { here = h; stops = omega arith }

  avoid_turn_in : (o : Out3) → Sited3 src P o → Either (Sited3 src P) (Sited3 src P) (avoid_turn src k what o)
  unfolding avoid_turn
  avoid_turn_in o x = let p = avoid_item src o.state k what o.a o.b o.c in go p.answer p (avoid_item_in o.state x.here o.a o.b o.c)
    where
      go : (a : Answer) (p : Out3) → Sited3 src P p → Either (Sited3 src P) (Sited3 src P) (avoid_end a p)
      go Going p y = y
      go Done p y = record { here = y.here; stops = tt }
      go (Refused f) p y = y

  -- `%avoid_insert` and `%implicit_tokens`
  pub avoid_in : (s : State) → s.at ≤ length src → (t1 t t10 : List ℕ) → Sited3 src P (avoid_decl src s k what t1 t t10)
  unfolding avoid_decl avoid_list
  avoid_in s h t1 t t10 =
      on_test (Sited3 src P) (leb (length src) s.at) _ _ (λ e. record { here = h; stops = tt })
      (λ e. go (gap_at s.kind false src s.at) (gap_in s.kind false src P s.at h))
    where
      go : (g : Result (ℕ × ℕ) Refusal) → GapIn src P s.at g → Sited3 src P (avoid_from g src s k what t1 t t10)
      go (Ok (i, m)) x = turns_keep (Sited3 src P) (avoid_turn src k what) avoid_turn_in (suc (length src)) _ (record { here = x.inside; stops = tt })
      go (Err e) x = record { here = h; stops = x }
