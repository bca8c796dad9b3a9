-- Lists that run to the next `%` stand in the source, and their refusals are fatal ones of the source. Assumes nothing.
use Rattle.std.specs.Prelude.{Option, Result, Ok, Err}
use Prim.Native.Nat.{ℕ, suc, ◌≤◌}
use mathlib.Core.Path.{◌≡◌, refl, sym, ◌∙◌}
use mathlib.Core.List.{List}
use mathlib.Core.Bool.{Bool, true, false}
use native.Mathlib.Omega.{arith}
use lib.ListN.{length}
use Rattle.scan.proofs.Loop.{Either, turns_keep}
use Rattle.scan.specs.declared.Place.{Place}
use Rattle.words.specs.Words.{name_at, token_at, Named, Tokened}
use Rattle.words.proofs.Words.{name_placed, token_placed}
use Rattle.tables.specs.Layout.{unused}
use Rattle.grammar.specs.declared.State.{State}
use Rattle.grammar.specs.declared.Answer.{Answer}
use Rattle.grammar.specs.declared.Answer.TheVariants.{Going, Done, Refused}
use Rattle.grammar.specs.declared.Refusal.{Refusal}
use Rattle.grammar.specs.Cells.{kind_cells}
use Rattle.grammar.specs.State.{Out3, Passed, with_at, gap_at, enter_step}
use Rattle.grammar.proofs.Kept.{onward_keep}
use Rattle.grammar.proofs.SameKind.{enter_kind}
use Rattle.marks.proofs.Laws.{lead_kind, tag_kind}
use Rattle.marks.specs.Marks.{Leading, tag_row}
use Rattle.lists.specs.declared.WordList.{WordList}
use Rattle.lists.specs.declared.WordList.TheVariants.{TokenList, UnusedList, TypeList}
use Rattle.lists.specs.Lists.{token_found, token_item, spelled_token, spelled_name, spelled_at, unused_row, unused_spelled, unused_item, type_row, type_spelled, type_item, list_item, ends, after_item, list_turn, percent_list, lead_list, list_led, list_body, list_from, list_decl}
use Rattle.refusals.specs.Steps.{GapIn, Sited, Sited1, Sited3}
use Rattle.refusals.proofs.Steps.{gap_in, pass_in, push_in, enter_in}
use Rattle.refusals.proofs.Marks.{Tags, SitedLead, lead_in, given_in, tag_in, behind_in}
use Rattle.refusals.proofs.KindKept.{list_item_kept}

-- a word that is spelled as in `%expect-unused`: its place and its end lie in the source, and so does where it was sought
abbrev SpelledIn : List ℕ → Result (ℕ × ℕ × ℕ × ℕ) ℕ → Type 0
SpelledIn src (Ok (kind, from, to, end)) = Passed src from to × (end ≤ length src)
SpelledIn src (Err k) = k ≤ length src

spelled_in : (src : List ℕ) (i : ℕ) → i ≤ length src → SpelledIn src (spelled_at src i)
unfolding spelled_at
spelled_in src i h = name (name_at src i) (name_placed src i (name_at src i) refl).1
  where
    token : (r : Result (Place × ℕ × Bool) ℕ) → Tokened src i r → SpelledIn src (spelled_token r)
    token (Ok (p, end, q)) x =
        let b = x.1 in
        let c = x.2 in
        let d = x.3 in
        (record { onward = omega arith; inside = omega arith }, d)
    token (Err k) x = omega arith

    name : (n : Result ℕ ℕ) → Named src i n → SpelledIn src (spelled_name n src i)
    name (Ok j) x = let a = x.0 in let b = x.1 in (record { onward = omega arith; inside = b }, b)
    name (Err k) x = token (token_at src i) (token_placed src i (token_at src i) refl).1

module _ (src : List ℕ) (P : Type 0) (s : State) (h : s.at ≤ length src) (k : s.kind ≡ 4 → P) (tag : Option (ℕ × ℕ)) (g : Tags P tag) where
  token_in : (t t15 t16 : List ℕ) → Sited3 src P (token_item src s tag t t15 t16)
  unfolding token_item
  token_in t t15 t16 = go (token_at src s.at) (token_placed src s.at (token_at src s.at) refl).1
    where
      go : (r : Result (Place × ℕ × Bool) ℕ) → Tokened src s.at r → Sited3 src P (token_found r src s tag t t15 t16)
      go (Ok (p, end, q)) x =
          let b = x.1 in
          let c = x.2 in
          let d = x.3 in
          let z : Passed src p.from p.to = record { onward = omega arith; inside = omega arith } in
          let o = enter_step src s p.from p.to true t in
          let r = tag_row o.answer o.state tag p.from p.to t15 in
          let same : r.state.kind ≡ s.kind = tag_kind o.answer o.state tag p.from p.to t15 ∙ enter_kind s src p.from p.to true t in
          behind_in src P false p.from p.to end r.answer r.state t16 (λ e. k (sym same ∙ e)) (tag_in src P o.answer o.state (enter_in src P s h p.from p.to true t z) tag g p.from p.to t15 z) z d
      go (Err k) x = record { here = h; stops = omega arith }

  row_in : (kind from to end : ℕ) (t : List ℕ) → Passed src from to → end ≤ length src → Sited1 src P (unused_row src s kind from to end t)
  unfolding unused_row
  row_in kind from to end t p k = pass_in src P false end k (push_in src P s h unused (kind_cells kind from to) t (omega arith) p)

  unused_in : (t : List ℕ) → Sited1 src P (unused_item src s t)
  unfolding unused_item
  unused_in t = go (spelled_at src s.at) (spelled_in src s.at h)
    where
      go : (x : Result (ℕ × ℕ × ℕ × ℕ) ℕ) → SpelledIn src x → Sited1 src P (unused_spelled x src s t)
      go (Ok (kind, from, to, end)) y = row_in kind from to end t y.0 y.1
      go (Err k) y = record { here = h; stops = y }

  type_in : (t : List ℕ) → Sited1 src P (type_item src s tag t)
  unfolding type_item type_row
  type_in t = go (spelled_at src s.at) (spelled_in src s.at h)
    where
      go : (x : Result (ℕ × ℕ × ℕ × ℕ) ℕ) → SpelledIn src x → Sited1 src P (type_spelled x src s tag t)
      go (Ok (kind, from, to, end)) y = pass_in src P false end y.1 (given_in src P s h tag g from to t y.0)
      go (Err k) y = record { here = h; stops = y }

  item_in : (what : WordList) (t t15 t16 : List ℕ) → Sited3 src P (list_item src s what tag t t15 t16)
  item_in TokenList t t15 t16 = token_in t t15 t16
  item_in UnusedList t t15 t16 = unused_in t
  item_in TypeList t t15 t16 = type_in t15

-- a list under way, of a kind
abbrev Listing : List ℕ → Type 0 → ℕ → Out3 → Type 0
Listing src P kind o = Sited3 src P o × (o.state.kind ≡ kind)

turn_in : (src : List ℕ) (P : Type 0) (kind : ℕ) (k : kind ≡ 4 → P) (what : WordList) (tag : Option (ℕ × ℕ)) → Tags P tag → (o : Out3) → Listing src P kind o → Either (Listing src P kind) (Listing src P kind) (list_turn src what tag o)
unfolding list_turn
turn_in src P kind k what tag g o x = go (ends src o.state.at)
  where
    next : Out3
    next = list_item src o.state what tag o.a o.b o.c

    go : (b : Bool) → Either (Listing src P kind) (Listing src P kind) (after_item b o (list_item src o.state what tag o.a o.b o.c))
    go true = x
    go false = onward_keep (Listing src P kind) next.answer next (item_in src P o.state x.0.here (λ e. k (sym x.1 ∙ e)) tag g what o.a o.b o.c, list_item_kept src kind o.state x.1 what tag o.a o.b o.c)

-- the tag in front of the words
lead_list_lem : (src : List ℕ) (P : Type 0) (s : State) → s.at ≤ length src → (s.kind ≡ 4 → P) → (what : WordList) → SitedLead src P (lead_list what src s)
lead_list_lem src P s h k TokenList = lead_in src P s h k false false
lead_list_lem src P s h k UnusedList = record { read = record { here = h; stops = tt }; tag = tt }
lead_list_lem src P s h k TypeList = lead_in src P s h k true false

-- `%token`, `%expect-unused` and `%type`
pub list_in : (src : List ℕ) (P : Type 0) (s : State) → s.at ≤ length src → (s.kind ≡ 4 → P) → (what : WordList) (t t15 t16 : List ℕ) → Sited3 src P (list_decl src s what t t15 t16)
unfolding list_decl list_body percent_list
list_in src P s h k what t t15 t16 = go (gap_at s.kind false src s.at) (gap_in s.kind false src P s.at h)
  where
    led : (a : Answer) (l : Leading) → Sited src P a l.state → Tags P l.tag → l.state.kind ≡ s.kind → Sited3 src P (list_led a l src what t t15 t16)
    led Going l x g e = (turns_keep (Listing src P s.kind) (list_turn src what l.tag) (turn_in src P s.kind k what l.tag g) (suc (length src)) _ (record { here = x.here; stops = tt }, e)).0
    led Done l x g e = x
    led (Refused f) l x g e = x

    kept : (w : WordList) (u : State) → (lead_list w src u).state.kind ≡ u.kind
    kept TokenList u = lead_kind src u false false
    kept UnusedList u = refl
    kept TypeList u = lead_kind src u true false

    go : (g : Result (ℕ × ℕ) Refusal) → GapIn src P s.at g → Sited3 src P (list_from g src s what t t15 t16)
    go (Ok (i, n)) x = let u = with_at s i in let y = lead_list_lem src P u x.inside k what in led (lead_list what src u).answer (lead_list what src u) y.read y.tag (kept what u)
    go (Err e) x = record { here = h; stops = x }
