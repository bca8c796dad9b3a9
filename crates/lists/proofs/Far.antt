-- Lists that run to the next `%` keep soundness so far, whatever their answer. Assumes nothing.
use Rattle.std.specs.Prelude.{Option, Result, Ok, Err}
use Prim.Native.Nat.{ℕ, suc}
use mathlib.Core.Path.{◌≡◌, refl}
use mathlib.Core.List.{List}
use mathlib.Core.Bool.{Bool, true, false}
use native.Mathlib.Omega.{arith}
use lib.ListN.{length}
use Rattle.scan.proofs.Loop.{Either, turns_keep}
use Rattle.scan.specs.declared.Place.{Place}
use Rattle.words.specs.Words.{name_at, token_at, Tokened, Named}
use Rattle.words.proofs.Words.{name_placed, token_placed}
use Rattle.tables.specs.Layout.{tokens, unused, tags, token_numbers}
use Rattle.grammar.specs.declared.State.{State}
use Rattle.grammar.specs.declared.Answer.{Answer}
use Rattle.grammar.specs.declared.Answer.TheVariants.{Going, Done, Refused}
use Rattle.grammar.specs.declared.Refusal.{Refusal}
use Rattle.grammar.specs.Cells.{kind_cells}
use Rattle.grammar.specs.State.{Out3, Passed, with_at, gap_at, Gapped, enter_step}
use Rattle.grammar.specs.Sound.{AllTables, cells_of, set_tab, Lies, Far}
use Rattle.grammar.proofs.Far.{far_at}
use Rattle.grammar.proofs.Kept.{gapped, Far1, Far3, push_held, enter_held, behind1_far, onward_keep}
use Rattle.marks.specs.Marks.{Leading, tag_row}
use Rattle.marks.proofs.Far.{LeadFar, lead_far, tag_held, behind_word_far}
use Rattle.lists.specs.declared.WordList.{WordList}
use Rattle.lists.specs.declared.WordList.TheVariants.{TokenList, UnusedList, TypeList}
use Rattle.lists.specs.Lists.{token_found, token_item, spelled_token, spelled_name, spelled_at, unused_row, unused_spelled, unused_item, type_row, type_spelled, type_item, list_item, ends, after_item, list_turn, percent_list, lead_list, list_led, list_body, list_from, list_decl}
use Rattle.lists.specs.Written.{Spells}
use Rattle.lists.proofs.Laws.{token_spells, none_spells, name_spells}

-- the table that a list is lent as its own
abbrev pub filled : WordList → ℕ
filled TokenList = tokens
filled UnusedList = unused
filled TypeList = unused

-- a list's three tables
abbrev pub Fars : List ℕ → ℕ → AllTables → WordList → Out3 → Type 0
Fars src done T what o = Far3 src done T (filled what) tags token_numbers o

-- where a word stands
pub spells : (src : List ℕ) (i : ℕ) → Spells src i (spelled_at src i)
unfolding spelled_at
spells src i = name (name_at src i) refl (name_placed src i (name_at src i) refl).1
  where
    token : (w : Result (Place × ℕ × Bool) ℕ) → Tokened src i w → Spells src i (spelled_token w)
    token (Ok (p, end, q)) x = token_spells src i (Ok (p, end, q)) p end q x refl
    token (Err k) x = none_spells src i (Err k) k x refl

    name : (n : Result ℕ ℕ) → n ≡ name_at src i → Named src i n → Spells src i (spelled_name n src i)
    name (Ok j) e x = name_spells src i (Ok j) e j x refl
    name (Err k) e x = token (token_at src i) (token_placed src i (token_at src i) refl).1

module _ {src : List ℕ} {done : ℕ} {s : State} {T : AllTables} (f : Far src done s T) (tag : Option (ℕ × ℕ)) (l : Lies src tag) where
  token_far : Fars src done T TokenList (token_item src s tag T.t1 T.t15 T.t16)
  unfolding token_item
  token_far = go (token_at src s.at) (token_placed src s.at (token_at src s.at) refl).1
    where
      go : (t : Result (Place × ℕ × Bool) ℕ) → Tokened src s.at t → Fars src done T TokenList (token_found t src s tag T.t1 T.t15 T.t16)
      go (Ok (p, end, q)) x =
          let a = x.0 in
          let b = x.1 in
          let c = x.2 in
          let d = x.3 in
          let w : Passed src p.from p.to = record { onward = omega arith; inside = omega arith } in
          let o = enter_step src s p.from p.to true T.t1 in
          let e = enter_held f p.from p.to true w in
          let g = tag_held e.far o.answer tag p.from p.to l w in
          let r = tag_row o.answer o.state tag p.from p.to T.t15 in
          behind_word_far g.far false p.from p.to end r.answer w (omega (arith, e.stays, g.stays)) d
      go (Err k) x = f

  unused_far : Far1 src done T unused (unused_item src s T.t6)
  unfolding unused_item unused_row
  unused_far = go (spelled_at src s.at) (spells src s.at)
    where
      go : (x : Result (ℕ × ℕ × ℕ × ℕ) ℕ) → Spells src s.at x → Far1 src done T unused (unused_spelled x src s T.t6)
      go (Ok (kind, from, to, end)) x =
          behind1_far false end _ (omega (arith, x.5)) x.6 (push_held f unused (omega arith) (λ e. omega arith) (kind_cells kind from to) refl (record { least = x.0; most = x.1; name = record { onward = x.3; inside = omega (arith, x.4, x.6) } }) (λ r h. tt))
      go (Err k) x = f

  type_far : Far1 src done T tags (type_item src s tag T.t15)
  unfolding type_item type_row tag_row
  type_far = go (spelled_at src s.at) (spells src s.at)
    where
      go : (x : Result (ℕ × ℕ × ℕ × ℕ) ℕ) → Spells src s.at x → Far1 src done T tags (type_spelled x src s tag T.t15)
      go (Ok (kind, from, to, end)) x =
          behind1_far false end _ (omega (arith, x.5)) x.6 (tag_held f Going tag from to l (record { onward = x.3; inside = omega (arith, x.4, x.6) }))
      go (Err k) x = f

-- an item, on tables that are under way
item_far : {src : List ℕ} {done : ℕ} (T : AllTables) (what : WordList) (tag : Option (ℕ × ℕ)) → Lies src tag → (o : Out3) → Fars src done T what o → Fars src done T what (list_item src o.state what tag o.a o.b o.c)
item_far T TokenList tag l o f = token_far f tag l
item_far T UnusedList tag l o f = unused_far f tag l
item_far T TypeList tag l o f = type_far f tag l

turn_far : (src : List ℕ) (done : ℕ) (T : AllTables) (what : WordList) (tag : Option (ℕ × ℕ)) → Lies src tag → (o : Out3) → Fars src done T what o → Either (Fars src done T what) (Fars src done T what) (list_turn src what tag o)
unfolding list_turn
turn_far src done T what tag l o f = go (ends src o.state.at)
  where
    next : Out3
    next = list_item src o.state what tag o.a o.b o.c

    go : (b : Bool) → Either (Fars src done T what) (Fars src done T what) (after_item b o (list_item src o.state what tag o.a o.b o.c))
    go true = f
    go false = onward_keep (Fars src done T what) next.answer next (item_far T what tag l o f)

-- `%token`, `%expect-unused` and `%type`
pub list_far : {src : List ℕ} {done : ℕ} {s : State} {T : AllTables} (what : WordList) → Far src done s T → Fars src done T what (list_decl src s what (cells_of T (filled what)) T.t15 T.t16)
unfolding list_decl list_body percent_list
list_far {src} {done} {s} {T} what f = gap (gap_at s.kind false src s.at) (gapped s.kind false src s.at f.here)
  where
    same : (w : WordList) (u : State) → Far src done u T → Far src done u (set_tab (set_tab (set_tab T (filled w) (cells_of T (filled w))) tags T.t15) token_numbers T.t16)
    same TokenList u g = g
    same UnusedList u g = g
    same TypeList u g = g

    led : (w : WordList) (u : State) → Far src done u T → LeadFar src done T (lead_list w src u)
    led TokenList u g = lead_far g false false
    led UnusedList u g = record { far = g; tag = tt }
    led TypeList u g = lead_far g true false

    body : (a : Answer) (x : Leading) → LeadFar src done T x → Fars src done T what (list_led a x src what (cells_of T (filled what)) T.t15 T.t16)
    body Going x y = turns_keep (Fars src done T what) (list_turn src what x.tag) (turn_far src done T what x.tag y.tag) (suc (length src)) _ (same what x.state y.far)
    body Done x y = same what x.state y.far
    body (Refused e) x y = same what x.state y.far

    gap : (g : Result (ℕ × ℕ) Refusal) → Gapped src s.at g → Fars src done T what (list_from g src s what (cells_of T (filled what)) T.t15 T.t16)
    gap (Ok (i, n)) x =
        let a = x.0 in
        let u = with_at s i in
        body (lead_list what src u).answer (lead_list what src u) (led what u (far_at f i (omega arith) x.1))
    gap (Err e) x = same what s f
