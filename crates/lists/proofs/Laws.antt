-- Lists to the next `%`: one law for each answer. Assumes nothing.
use Rattle.std.specs.Prelude.{Option, None, Result, Ok, Err}
use Prim.Native.Nat.{ℕ, ◌≤◌, ◌<◌}
use mathlib.Core.Path.{◌≡◌, refl, sym, ap, ◌∙◌}
use mathlib.Core.List.{List}
use mathlib.Core.Bool.{Bool, true, false}
use native.Mathlib.Omega.{arith}
use lib.ListN.{length, get_or}
use borrow.Author.Tests.{eq-eqb, ne_eqb, le-leb, lt-leb}
use Rattle.scan.specs.Loop.{more, stop}
use Rattle.scan.specs.declared.Place.{Place}
use Rattle.words.specs.Words.{name_at, token_at, Named, Tokened}
use Rattle.grammar.specs.declared.State.{State}
use Rattle.grammar.specs.declared.Answer.{Answer}
use Rattle.grammar.specs.declared.Answer.TheVariants.{Going, Done, Refused}
use Rattle.grammar.specs.declared.Cause.TheVariants.{IllegalString, UnknownSymbol}
use Rattle.grammar.specs.declared.Refusal.{Refusal}
use Rattle.grammar.specs.declared.Refusal.TheVariants.{Fault}
use Rattle.grammar.specs.State.{Out1, Out3, with_at, gap_at, enter_step, behind1}
use Rattle.grammar.proofs.Touch.{pass_counts}
use Rattle.marks.specs.Marks.{Leading, lead_tag, tag_given, tag_row, behind_word}
use Rattle.marks.proofs.Laws.{tag_counts}
use Rattle.lists.specs.declared.WordList.{WordList}
use Rattle.lists.specs.declared.WordList.TheVariants.{TokenList, UnusedList, TypeList}
use Rattle.lists.specs.Lists.{first3, second3, third3, token_tagged, token_entered, token_found, token_item, spelled_token, spelled_name, spelled_at, unused_row, unused_spelled, unused_item, type_row, type_spelled, type_item, list_item, ends, list_turn, percent_list, lead_list, list_led, list_body, list_from, list_decl}
use Rattle.lists.specs.Written.{Spells}

-- one token of a `%token` list: it is entered, the row of its tag follows, and what stands behind it
module _ (src : List ℕ) (s : State) (tag : Option (ℕ × ℕ)) (t1 t15 t16 : List ℕ) (r : Result (Place × ℕ × Bool) ℕ) (q : r ≡ token_at src s.at) where
  pub token_found_lem : (p : Place) (end : ℕ) (b : Bool) (x : Answer) (u : State) (a : List ℕ) (y : Answer) (v : State) (d : List ℕ) (z : Answer) (w : State) (c : List ℕ) → r ≡ Ok (p, end, b)
      → ◌≡◌ {A = Out1} (record { answer = x; state = u; a = a }) (enter_step src s p.from p.to true t1)
      → ◌≡◌ {A = Out1} (record { answer = y; state = v; a = d }) (tag_row x u tag p.from p.to t15)
      → ◌≡◌ {A = Out1} (record { answer = z; state = w; a = c }) (behind_word src false p.from p.to end y v t16)
      → ◌≡◌ {A = Out3} (record { answer = z; state = w; a = a; b = d; c = c }) (token_item src s tag t1 t15 t16)
  unfolding token_item
  token_found_lem p end b x u a y v d z w c e f g h =
      ap (third3 a d) h
      ∙ ap (λ (o : Out1). token_tagged src p.from p.to end a o t16) g
      ∙ ap (λ (o : Out1). token_entered src tag p.from p.to end o t15 t16) f
      ∙ ap (λ (o : Result (Place × ℕ × Bool) ℕ). token_found o src s tag t1 t15 t16) (sym e ∙ q)

  pub token_none : (k : ℕ) → r ≡ Err k → ◌≡◌ {A = Out3} (record { answer = Refused (Fault IllegalString k); state = s; a = t1; b = t15; c = t16 }) (token_item src s tag t1 t15 t16)
  unfolding token_item
  token_none k e = ap (λ (o : Result (Place × ℕ × Bool) ℕ). token_found o src s tag t1 t15 t16) (sym e ∙ q)

-- a name or a quoted token
module _ (src : List ℕ) (i : ℕ) (r : Result ℕ ℕ) (q : r ≡ name_at src i) where
  pub spelled_name_lem : (j : ℕ) → r ≡ Ok j → Ok (1, i, j, j) ≡ spelled_at src i
  unfolding spelled_at
  spelled_name_lem j e = ap (λ (n : Result ℕ ℕ). spelled_name n src i) (sym e ∙ q)

  pub name_spells : (j : ℕ) → Named src i r → r ≡ Ok j → Spells src i (Ok (1, i, j, j))
  name_spells j x e =
      let y = rw e at x in
      let a = y.0 in
      (omega arith, omega arith, omega arith, omega arith, omega arith, a, y.1)

  module _ (k : ℕ) (none : r ≡ Err k) (w : Result (Place × ℕ × Bool) ℕ) (v : w ≡ token_at src i) where
    spelled_by : (x : Result (Place × ℕ × Bool) ℕ) → w ≡ x → spelled_token x ≡ spelled_at src i
    unfolding spelled_at
    spelled_by x e = ap spelled_token (sym e ∙ v) ∙ ap (λ (n : Result ℕ ℕ). spelled_name n src i) (sym none ∙ q)

    pub spelled_token_lem : (p : Place) (end : ℕ) (b : Bool) → w ≡ Ok (p, end, b) → Ok (2, p.from, p.to, end) ≡ spelled_at src i
    spelled_token_lem p end b e = spelled_by (Ok (p, end, b)) e

    pub spelled_none : (j : ℕ) → w ≡ Err j → Err j ≡ spelled_at src i
    spelled_none j e = spelled_by (Err j) e

pub token_spells : (src : List ℕ) (i : ℕ) (w : Result (Place × ℕ × Bool) ℕ) (p : Place) (end : ℕ) (b : Bool) → Tokened src i w → w ≡ Ok (p, end, b) → Spells src i (Ok (2, p.from, p.to, end))
token_spells src i w p end b x e =
    let y = rw e at x in
    let a = y.0 in
    let c = y.1 in
    let d = y.2 in
    (omega arith, omega arith, omega arith, omega arith, omega arith, omega arith, y.3)

pub none_spells : (src : List ℕ) (i : ℕ) (w : Result (Place × ℕ × Bool) ℕ) (k : ℕ) → Tokened src i w → w ≡ Err k → k ≡ i
none_spells src i w k x e = rw e at x

-- its rows
module _ (src : List ℕ) (s : State) (r : Result (ℕ × ℕ × ℕ × ℕ) ℕ) (q : r ≡ spelled_at src s.at) (t : List ℕ) where
  pub unused_spelled_lem : (kind from to end : ℕ) (o : Out1) → r ≡ Ok (kind, from, to, end) → o ≡ unused_row src s kind from to end t → o ≡ unused_item src s t
  unfolding unused_item
  unused_spelled_lem kind from to end o e h = h ∙ ap (λ (x : Result (ℕ × ℕ × ℕ × ℕ) ℕ). unused_spelled x src s t) (sym e ∙ q)

  pub unused_none : (k : ℕ) → r ≡ Err k → ◌≡◌ {A = Out1} (record { answer = Refused (Fault UnknownSymbol k); state = s; a = t }) (unused_item src s t)
  unfolding unused_item
  unused_none k e = ap (λ (x : Result (ℕ × ℕ × ℕ × ℕ) ℕ). unused_spelled x src s t) (sym e ∙ q)

  module _ (tag : Option (ℕ × ℕ)) where
    pub type_spelled_lem : (kind from to end : ℕ) (o : Out1) → r ≡ Ok (kind, from, to, end) → o ≡ type_row src s tag from to end t → o ≡ type_item src s tag t
    unfolding type_item
    type_spelled_lem kind from to end o e h = h ∙ ap (λ (x : Result (ℕ × ℕ × ℕ × ℕ) ℕ). type_spelled x src s tag t) (sym e ∙ q)

    pub type_none : (k : ℕ) → r ≡ Err k → ◌≡◌ {A = Out1} (record { answer = Refused (Fault UnknownSymbol k); state = s; a = t }) (type_item src s tag t)
    unfolding type_item
    type_none k e = ap (λ (x : Result (ℕ × ℕ × ℕ × ℕ) ℕ). type_spelled x src s tag t) (sym e ∙ q)

-- a type's row is a tag's
module _ (src : List ℕ) (s : State) (tag : Option (ℕ × ℕ)) (from to end : ℕ) (t : List ℕ) where
  pub type_is : (x : Out1) (o : Out1) → x ≡ tag_row Going s tag from to t → o ≡ behind1 src false end x → o ≡ type_row src s tag from to end t
  unfolding type_row tag_row
  type_is x o e h = h ∙ ap (behind1 src false end) e

  pub type_counts : (type_row src s tag from to end t).state.counts ≡ s.counts
  unfolding type_row tag_row
  type_counts = pass_counts src false end (tag_given tag s from to t).answer (tag_given tag s from to t).state ∙ tag_counts Going s tag from to t

pub types_count : (src : List ℕ) (s : State) (tag : Option (ℕ × ℕ)) (t : List ℕ) → (type_item src s tag t).state.counts ≡ s.counts
unfolding type_item
types_count src s tag t = go (spelled_at src s.at)
  where
    go : (x : Result (ℕ × ℕ × ℕ × ℕ) ℕ) → (type_spelled x src s tag t).state.counts ≡ s.counts
    go (Ok (kind, from, to, end)) = type_counts src s tag from to end t
    go (Err k) = refl

-- an item of each list
module _ (src : List ℕ) (s : State) (what : WordList) (tag : Option (ℕ × ℕ)) (t t15 t16 : List ℕ) where
  pub item_token : (o : Out3) → what ≡ TokenList → o ≡ token_item src s tag t t15 t16 → o ≡ list_item src s what tag t t15 t16
  item_token o e h = rw e h

  pub item_unused : (o : Out1) → what ≡ UnusedList → o ≡ unused_item src s t → first3 o t15 t16 ≡ list_item src s what tag t t15 t16
  item_unused o e h = rw e (ap (λ (x : Out1). first3 x t15 t16) h)

  pub item_type : (o : Out1) → what ≡ TypeList → o ≡ type_item src s tag t15 → second3 t o t16 ≡ list_item src s what tag t t15 t16
  item_type o e h = rw e (ap (λ (x : Out1). second3 t x t16) h)

-- a turn of a list: it ends with the source or at `%`, else there is an item
module _ (src : List ℕ) (what : WordList) (tag : Option (ℕ × ℕ)) (s : State) (t t15 t16 : List ℕ) where
  abbrev here : Out3
  here = record { answer = Going; state = s; a = t; b = t15; c = t16 }

  pub turn_end : length src ≤ s.at → list_turn src what tag here ≡ stop here
  unfolding list_turn ends
  turn_end h = let e : ends src s.at ≡ true = rw (ends, le-leb _ _ h) in rw e

  pub turn_mark : s.at < length src → get_or src s.at 0 ≡ 37 → list_turn src what tag here ≡ stop here
  unfolding list_turn ends
  turn_mark h d = let e : ends src s.at ≡ true = rw (ends, lt-leb _ _ h, eq-eqb _ _ d) in rw e

  module _ (h : s.at < length src) (d : get_or src s.at 0 ≡ 37 → ⊥) (x : Answer) (u : State) (a b c : List ℕ) (q : record { answer = x; state = u; a = a; b = b; c = c } ≡ list_item src s what tag t t15 t16) where
    no_end : ends src s.at ≡ false
    unfolding ends
    no_end = rw (ends, lt-leb _ _ h, ne_eqb _ _ d)

    pub turn_more : x ≡ Going → list_turn src what tag here ≡ more (record { answer = Going; state = u; a = a; b = b; c = c })
    unfolding list_turn
    turn_more e = rw (no_end, ← q, e)

    pub turn_done : x ≡ Done → list_turn src what tag here ≡ stop (record { answer = x; state = u; a = a; b = b; c = c })
    unfolding list_turn
    turn_done e = rw (no_end, ← q, e)

    pub turn_refused : (f : Refusal) → x ≡ Refused f → list_turn src what tag here ≡ stop (record { answer = x; state = u; a = a; b = b; c = c })
    unfolding list_turn
    turn_refused f e = rw (no_end, ← q, e)

-- the tag in front of the words
module _ (src : List ℕ) (s : State) (what : WordList) (l : Leading) where
  pub lead_tokens : what ≡ TokenList → l ≡ lead_tag src s false false → l ≡ lead_list what src s
  lead_tokens e h = rw e h

  pub lead_types : what ≡ TypeList → l ≡ lead_tag src s true false → l ≡ lead_list what src s
  lead_types e h = rw e h

pub lead_unused : (src : List ℕ) (s : State) (what : WordList) → what ≡ UnusedList → ◌≡◌ {A = Leading} (record { answer = Going; state = s; tag = None }) (lead_list what src s)
lead_unused src s what e = rw e

-- and the words behind it
module _ (src : List ℕ) (s : State) (what : WordList) (t t15 t16 : List ℕ) (x : Answer) (u : State) (tag : Option (ℕ × ℕ)) (q : ◌≡◌ {A = Leading} (record { answer = x; state = u; tag = tag }) (lead_list what src s)) where
  body_by : list_led x (record { answer = x; state = u; tag = tag }) src what t t15 t16 ≡ list_body src s what t t15 t16
  unfolding list_body
  body_by = ap (λ (l : Leading). list_led l.answer l src what t t15 t16) q

  body_is : (y : Answer) → x ≡ y → list_led y (record { answer = x; state = u; tag = tag }) src what t t15 t16 ≡ list_body src s what t t15 t16
  body_is y e = ap (λ (z : Answer). list_led z (record { answer = x; state = u; tag = tag }) src what t t15 t16) (sym e) ∙ body_by

  pub body_goes : (o : Out3) → x ≡ Going → o ≡ percent_list src u what tag t t15 t16 → o ≡ list_body src s what t t15 t16
  body_goes o e h = h ∙ body_is Going e

  pub body_done : x ≡ Done → ◌≡◌ {A = Out3} (record { answer = Done; state = u; a = t; b = t15; c = t16 }) (list_body src s what t t15 t16)
  body_done e = body_is Done e

  pub body_refused : (f : Refusal) → x ≡ Refused f → ◌≡◌ {A = Out3} (record { answer = Refused f; state = u; a = t; b = t15; c = t16 }) (list_body src s what t t15 t16)
  body_refused f e = body_is (Refused f) e

-- from behind the keyword on
module _ (src : List ℕ) (s : State) (what : WordList) (t t15 t16 : List ℕ) (g : Result (ℕ × ℕ) Refusal) (q : g ≡ gap_at s.kind false src s.at) where
  pub list_from_lem : (i n : ℕ) (o : Out3) → g ≡ Ok (i, n) → o ≡ list_body src (with_at s i) what t t15 t16 → o ≡ list_decl src s what t t15 t16
  unfolding list_decl
  list_from_lem i n o e h = h ∙ ap (λ (x : Result (ℕ × ℕ) Refusal). list_from x src s what t t15 t16) (sym e ∙ q)

  pub list_refused : (f : Refusal) → g ≡ Err f → ◌≡◌ {A = Out3} (record { answer = Refused f; state = s; a = t; b = t15; c = t16 }) (list_decl src s what t t15 t16)
  unfolding list_decl
  list_refused f e = ap (λ (x : Result (ℕ × ℕ) Refusal). list_from x src s what t t15 t16) (sym e ∙ q)
