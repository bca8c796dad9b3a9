-- What lists leave as it was, whatever their answer. Assumes nothing.
use Rattle.std.specs.Prelude.{Option, Some, None, Result, Ok, Err, Bool}
use Prim.Native.Nat.{ℕ}
use mathlib.Core.Path.{◌≡◌, refl, sym, ◌∙◌, subst}
use mathlib.Core.List.{List}
use mathlib.Core.Bool.{false, true}
use Rattle.scan.specs.declared.Place.{Place}
use Rattle.words.specs.Words.{token_at}
use Rattle.tables.specs.Table.{Added}
use Rattle.tables.proofs.Cases.{add_cases}
use Rattle.tables.specs.Layout.{unused, tags}
use Rattle.grammar.specs.declared.State.{State}
use Rattle.grammar.specs.declared.Answer.TheVariants.{Going}
use Rattle.grammar.specs.Cells.{kind_cells, tag_cells}
use Rattle.grammar.specs.State.{Out1, Out3, count, pushed, push_row, enter_step}
use Rattle.grammar.proofs.SameKind.{push_kind, enter_kind, pass_kind}
use Rattle.grammar.proofs.Touch.{push_apart, pass_count}
use Rattle.marks.specs.Marks.{tag_given}
use Rattle.marks.specs.Worded.{headless, bare, tagged}
use Rattle.marks.proofs.Laws.{behind_kind}
use Rattle.marks.proofs.Worded.{pass_posix, behind_none, tag_absent}
use Rattle.lists.specs.declared.WordList.{WordList}
use Rattle.lists.specs.declared.WordList.TheVariants.{TokenList, UnusedList, TypeList}
use Rattle.lists.specs.Lists.{token_tagged, token_found, token_item, spelled_at, unused_row, unused_spelled, unused_item, type_row, type_spelled, type_item, second3, list_item, list_decl}
use Rattle.lists.specs.Written.{Leads}
use Rattle.lists.proofs.Laws.{types_count}
use Rattle.lists.proofs.Items.{enter_posix, list_keeps}

-- a word expected unused leaves the counts of the three tables
unused_posix : (src : List ℕ) (u : State) (x : List ℕ) → (unused_item src u x).state.posix ≡ u.posix
unfolding unused_item unused_row push_row
unused_posix src u x = go (spelled_at src u.at)
  where
    go : (w : Result (ℕ × ℕ × ℕ × ℕ) ℕ) → (unused_spelled w src u x).state.posix ≡ u.posix
    go (Ok (kind, from, to, end)) =
        let o = push_row u unused (kind_cells kind from to) x in
        pass_posix src false end o.answer o.state
        ∙ add_cases (λ (q : Added). (pushed q.ok u unused (kind_cells kind from to) q.cells).state.posix ≡ u.posix) (count u unused) (kind_cells kind from to) x (λ fits low. refl) (λ full. refl)
    go (Err i) = refl

module _ (src : List ℕ) (s : State) (t t15 t16 : List ℕ) where
  -- a word of a `%type` list touches no other count
  type_count : (u : State) (g : Option (ℕ × ℕ)) (x : List ℕ) (k : ℕ) → (k ≡ tags → ⊥) → count (type_item src u g x).state k ≡ count u k
  unfolding type_item type_row
  type_count u g x k d = go (spelled_at src u.at)
    where
      row : (g : Option (ℕ × ℕ)) (from to : ℕ) → count (tag_given g u from to x).state k ≡ count u k
      row None from to = refl
      row (Some (i, j)) from to = (push_apart u tags (tag_cells from to i j) x).count k d

      go : (w : Result (ℕ × ℕ × ℕ × ℕ) ℕ) → count (type_spelled w src u g x).state k ≡ count u k
      go (Ok (kind, from, to, end)) = let o = tag_given g u from to x in pass_count src false end o.answer o.state k ∙ row g from to
      go (Err i) = refl

  -- "they go to table 15 alone": `%type` changes that table and its count, and no other.
  pub type_rows : ((list_decl src s TypeList t t15 t16).a ≡ t) × ((list_decl src s TypeList t t15 t16).c ≡ t16) × ((list_decl src s TypeList t t15 t16).state.counts ≡ s.counts) × ((k : ℕ) → (k ≡ tags → ⊥) → count (list_decl src s TypeList t t15 t16).state k ≡ count s k)
  type_rows =
      list_keeps src s TypeList t t15 t16 (λ (o : Out3). (o.a ≡ t) × (o.c ≡ t16) × (o.state.counts ≡ s.counts) × ((k : ℕ) → (k ≡ tags → ⊥) → count o.state k ≡ count s k)) (λ (g : Option (ℕ × ℕ)). Unit {0})
      (λ a j. (refl, refl, refl, λ k d. refl))
      (λ i j g l. tt)
      (λ g p o x. (x.0, x.1, types_count src o.state g o.b ∙ x.2, λ k d. type_count o.state g o.b k d ∙ x.3 k d))

  -- `%expect-unused` leaves tables 15 and 16, and the counts of all three.
  pub unused_apart : ((list_decl src s UnusedList t t15 t16).b ≡ t15) × ((list_decl src s UnusedList t t15 t16).c ≡ t16) × ((list_decl src s UnusedList t t15 t16).state.posix ≡ s.posix)
  unused_apart =
      list_keeps src s UnusedList t t15 t16 (λ (o : Out3). (o.b ≡ t15) × (o.c ≡ t16) × (o.state.posix ≡ s.posix)) (λ (g : Option (ℕ × ℕ)). Unit {0})
      (λ a j. (refl, refl, refl))
      (λ i j g l. tt)
      (λ g p o x. (x.0, x.1, unused_posix src o.state o.a ∙ x.2))

-- what an item of kinds 1 to 3 leaves
record Others (u : State) (x y : List ℕ) (o : Out3) : Type 0 where
  kind : o.state.kind ≡ u.kind
  tags : o.b ≡ x
  numbers : o.c ≡ y
  posix : o.state.posix ≡ u.posix

module _ (src : List ℕ) (u : State) (other : u.kind ≡ 4 → ⊥) (t x y : List ℕ) where
  token_others : Others u x y (token_item src u None t x y)
  unfolding token_item
  token_others = go (token_at src u.at)
    where
      go : (w : Result (Place × ℕ × Bool) ℕ) → Others u x y (token_found w src u None t x y)
      go (Ok (p, end, q)) =
          let o = enter_step src u p.from p.to true t in
          let k = enter_kind u src p.from p.to true t in
          let z = behind_none src false p.from p.to end y o.answer o.state (λ e. other (sym k ∙ e)) in
          subst (λ (r : Out1). Others u x y (token_tagged src p.from p.to end o.a r y)) (sym (tag_absent o.answer o.state p.from p.to x))
          (record { kind = behind_kind src false p.from p.to end o.answer o.state y ∙ k; tags = refl; numbers = z.0; posix = z.1 ∙ enter_posix src u p.from p.to true t })
      go (Err k) = record { kind = refl; tags = refl; numbers = refl; posix = refl }

  unused_kind : (unused_item src u t).state.kind ≡ u.kind
  unfolding unused_item unused_row
  unused_kind = go (spelled_at src u.at)
    where
      go : (w : Result (ℕ × ℕ × ℕ × ℕ) ℕ) → (unused_spelled w src u t).state.kind ≡ u.kind
      go (Ok (kind, from, to, end)) = let o = push_row u unused (kind_cells kind from to) t in pass_kind o.state src false end o.answer ∙ push_kind u unused (kind_cells kind from to) t
      go (Err i) = refl

  type_others : Others u x y (second3 t (type_item src u None x) y)
  unfolding type_item type_row
  type_others = go (spelled_at src u.at)
    where
      go : (w : Result (ℕ × ℕ × ℕ × ℕ) ℕ) → Others u x y (second3 t (type_spelled w src u None x) y)
      go (Ok (kind, from, to, end)) = record { kind = pass_kind u src false end Going; tags = refl; numbers = refl; posix = pass_posix src false end Going u }
      go (Err i) = record { kind = refl; tags = refl; numbers = refl; posix = refl }

  item_others : (what : WordList) → Others u x y (list_item src u what None t x y)
  item_others TokenList = token_others
  item_others UnusedList = record { kind = unused_kind; tags = refl; numbers = refl; posix = unused_posix src u t }
  item_others TypeList = type_others

-- In kinds 1 to 3 no list has a tag or a number: tables 15 and 16 and the counts of all three stay.
module _ (src : List ℕ) (s : State) (other : s.kind ≡ 4 → ⊥) (what : WordList) (t t15 t16 : List ℕ) where
  no_tag_lem : (w : WordList) (i j : ℕ) (g : Option (ℕ × ℕ)) → Leads w s.kind src i j g → g ≡ None
  no_tag_lem TokenList i j g (headless d) = refl
  no_tag_lem TokenList i j g (bare k w q) = refl
  no_tag_lem TokenList i j g (tagged k q l h) = absurd (other k)
  no_tag_lem UnusedList i j g x = x.1
  no_tag_lem TypeList i j g (headless d) = refl
  no_tag_lem TypeList i j g (bare k w q) = refl
  no_tag_lem TypeList i j g (tagged k q l h) = absurd (other k)

  kept : Others s t15 t16 (list_decl src s what t t15 t16)
  kept =
      list_keeps src s what t t15 t16 (Others s t15 t16) (λ (g : Option (ℕ × ℕ)). g ≡ None)
      (λ a j. record { kind = refl; tags = refl; numbers = refl; posix = refl })
      (no_tag_lem what)
      (λ g p o x. subst (λ (h : Option (ℕ × ℕ)). Others s t15 t16 (list_item src o.state what h o.a o.b o.c)) (sym p) (
      let y = item_others src o.state (λ e. other (sym x.kind ∙ e)) o.a o.b o.c what in
      record { kind = y.kind ∙ x.kind; tags = y.tags ∙ x.tags; numbers = y.numbers ∙ x.numbers; posix = y.posix ∙ x.posix }))

  pub posix_stays : ((list_decl src s what t t15 t16).b ≡ t15) × ((list_decl src s what t t15 t16).c ≡ t16) × ((list_decl src s what t t15 t16).state.posix ≡ s.posix)
  posix_stays = (kept.tags, kept.numbers, kept.posix)
