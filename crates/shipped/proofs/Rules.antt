-- Items, rules and programs that stand in a source are what the pass writes. Assumes nothing.
use Rattle.std.specs.Prelude.{Result, Ok}
use Prim.Native.Nat.{ℕ, zero, suc, ◌+◌, ◌-◌, ◌<◌}
use mathlib.Core.Path.{◌≡◌, refl, sym, ◌∙◌, ap}
use mathlib.Core.List.{List, [], ◌∷◌, ◌++◌, append_assoc, append-nil}
use mathlib.Core.Bool.{Bool, true, false}
use native.Mathlib.Omega.{arith}
use native.Mathlib.Nat.{add-zero}
use lib.Dec.{eqb}
use lib.ListN.{length, get_or, drop}
use lib.Seq.{slice, take-length}
use borrow.Author.Tests.{lt-leb}
use Rattle.scan.specs.declared.Place.{Place}
use Rattle.scan.specs.Scan.{is_eol, starts_at}
use Rattle.scan.specs.Loop.{Turn, more, stop, turns}
use Rattle.scan.proofs.Bytes.{told, drop_key, byte_below, at_yes, starts_byte}
use Rattle.spacing.specs.Spacing.{is_blank}
use Rattle.words.specs.Words.{name_at, Named}
use Rattle.words.proofs.Words.{name_placed}
use Rattle.texts.specs.Colon.{colon_text_at, ColonTexts}
use Rattle.texts.specs.Action.{action_at}
use Rattle.texts.proofs.Laws.{colon_placed}
use Rattle.grammar.specs.declared.Refusal.{Refusal}
use Rattle.grammar.specs.State.{gap_at}
use Rattle.items.specs.declared.Sort.{Sort}
use Rattle.items.specs.declared.Sort.TheVariants.{BarSort, EndSort, QuotedSort, PrecSort, ActionSort, EmptySort, BareSort}
use Rattle.items.specs.declared.Spotted.{Spotted}
use Rattle.items.specs.Items.{sort_at}
use Rattle.rules.specs.Rules.{percents}
use Rattle.alike.specs.Stands.{TokenAt}
use Rattle.alike.proofs.Solid.{solid_byte, gap_none}
use Rattle.alike.proofs.Again.{turns_more, turns_stop}
use Rattle.printed_rules.specs.Items.{Item, apart, shown, items_text, Item1, quoted1, bare1, named1, empty1, action1, bar1, Items1, end1, item1}
use Rattle.printed_rules.specs.Rules.{Rule, Programs, type_text, rule_text, rules_text, programs_text, MarkAt, Type1, untyped1, typed1, Rule1, over, Rules1, over1, rule1, Programs1, none1, given1, Rest1}
use Rattle.printed_rules.proofs.Onward.{item_low, item_forth, mark_forth, rule_forth}
use Rattle.printed_rules.proofs.BackRules.{typed_text, untyped_text}
use Rattle.shipper.specs.declared.Piece.{Piece}
use Rattle.shipper.specs.declared.Piece.TheVariants.{NamePiece, TokenPiece, ColonPiece, ActionPiece}
use Rattle.shipper.specs.Ship.{Shipped, joined, gap_end, passed, name_end, token_end, colon_end, action_end, piece_end, past_colon, spaced, onward, item_of, ship_item, is_end, items_turn, ship_items, has_arrow, ship_head, ship_rule, rules_turn, ship_rules, ship_programs, rules_from}
use Rattle.shipper.proofs.Laws.{items_last, items_turn_lem}

abbrev pub made : List ℕ → ℕ → Shipped
made x k = record { text = x; at = k }

-- a turn that writes a piece and moves on
onward_on : (t x : List ℕ) (i k : ℕ) → i < k → onward (made t i) (made x k) ≡ more (made (t ++ x) k)
onward_on t x i k h = rw (lt-leb k i h, onward)

pub onward_more : (f : Shipped → Turn Shipped) (t x : List ℕ) (i k : ℕ) (p : Shipped) → f (made t i) ≡ onward (made t i) p → p ≡ made x k → i < k → f (made t i) ≡ more (made (t ++ x) k)
onward_more f t x i k p e q h = e ∙ ap (λ (y : Shipped). onward (made t i) y) q ∙ onward_on t x i k h

module _ (kind : ℕ) (src : List ℕ) where
  -- where spacing, words and texts end, as the pass has it
  pub passed_is : (ok : Bool) (i k m : ℕ) → gap_at kind ok src i ≡ Ok (k, m) → passed kind ok src i ≡ k
  unfolding passed
  passed_is ok i k m g = ap (λ (x : Result (ℕ × ℕ) Refusal). gap_end x i) g

  pub name_end_lem : (i e : ℕ) → name_at src i ≡ Ok e → piece_end NamePiece src i ≡ e
  unfolding piece_end
  name_end_lem i e h = ap (λ (x : Result ℕ ℕ). name_end x i) h

  pub token_end_lem : (i e : ℕ) (x : List ℕ) → TokenAt src i e x → piece_end TokenPiece src i ≡ e
  unfolding piece_end
  token_end_lem i e x w = ap (λ (t : Result (Place × ℕ × Bool) ℕ). token_end t i) w.is

  pub colon_end_lem : (i e n : ℕ) (p : Place) → colon_text_at src i ≡ Ok (e, n, p) → piece_end ColonPiece src i ≡ e
  unfolding piece_end
  colon_end_lem i e n p h = ap (λ (x : Result (ℕ × ℕ × Place) ℕ). colon_end x i) h

  action_end_lem : (i e n : ℕ) (p q : Place) → i < length src → action_at src i ≡ Ok (e, n, p, q) → piece_end ActionPiece src i ≡ e
  unfolding piece_end
  action_end_lem i e n p q l h = rw (lt-leb (length src) i l, piece_end) (ap (λ (x : Result (ℕ × ℕ × Place × Place) ℕ). action_end x i) h)

  -- a piece with a space before it and spacing behind it
  piece_is : (what : Piece) (i e k m : ℕ) (x : List ℕ) → piece_end what src i ≡ e → slice i e src ≡ x → gap_at kind true src e ≡ Ok (k, m)
      → made (spaced src i (piece_end what src i)) (passed kind true src (piece_end what src i)) ≡ made (32 ∷ x) k
  piece_is what i e k m x h is g = rw (h, is, passed_is true e k m g)

  -- a mark stands where its spacing begins, if no spacing stands there
  mark_here : (w : List ℕ) (i j c : ℕ) → 0 < c → get_or src i 0 ≡ c → is_blank c ≡ false → is_eol c ≡ false → eqb c 47 ≡ false → (m : MarkAt kind src w i j) → m.at ≡ i
  mark_here w i j c h e a b d m =
      sym (passed_is true i m.at m.before m.gap)
      ∙ passed_is true i i 0 (gap_none src i (c ∷ drop (i + 1) src) (solid_byte c (drop (i + 1) src) a b d) kind true (drop_key src i c (byte_below src i c h e) e))

  first_byte : (c : ℕ) (w : List ℕ) (i : ℕ) → starts_at (c ∷ w) src i ≡ true → get_or src i 0 ≡ c
  first_byte c w i s = rw (add-zero i) at (starts_byte (c ∷ w) src i s 0 (omega arith))

  item_is : (i a : ℕ) (x : Sort) → sort_at src i ≡ record { sort = x; end = a } → ship_item kind src i ≡ item_of x kind src i a
  unfolding ship_item
  item_is i a x s = ap (λ (y : Spotted). item_of y.sort kind src i y.end) s

  -- An item that stands in the source is what the pass writes for it,
  pub item_shipped : {i e k m : ℕ} {x : Item} → Item1 kind src i e x → gap_at kind true src e ≡ Ok (k, m) → ship_item kind src i ≡ record { text = apart x ∷ shown x; at = k }
  item_shipped {i} {e} {k} {m} (quoted1 {x = x} s w) g = item_is i _ QuotedSort s ∙ piece_is TokenPiece i e k m x (token_end_lem i e x w) w.spelled g
  item_shipped {i} {e} {k} {m} (bare1 {x = x} s w) g = item_is i _ BareSort s ∙ piece_is TokenPiece i e k m x (token_end_lem i e x w) w.spelled g
  item_shipped {i} {e} {k} {m} (named1 {a = a} {c = c} {m = n} {x = x} s g' w) g =
      item_is i a PrecSort s ∙ rw (passed_is true a c n g', token_end_lem c e x w, w.spelled, passed_is true e k m g)
  item_shipped {i} {e} {k} {m} (empty1 s) g = item_is i e EmptySort s ∙ ap (λ (y : ℕ). made (32 ∷ 37 ∷ 101 ∷ 109 ∷ 112 ∷ 116 ∷ 121 ∷ []) y) (passed_is true e k m g)
  item_shipped {i} {e} {k} {m} (action1 {x = x} s a is) g =
      item_is i _ ActionSort s ∙ piece_is ActionPiece i e k m x (action_end_lem i e _ _ _ (item_low kind src i e _ (action1 s a is)) a) is g
  item_shipped {i} {e} {k} {m} (bar1 s) g = item_is i e BarSort s ∙ ap (λ (y : ℕ). made (10 ∷ 124 ∷ []) y) (passed_is true e k m g)

  not_end : {i e : ℕ} {x : Item} → Item1 kind src i e x → is_end (sort_at src i).sort ≡ false
  not_end (quoted1 s w) = ap (λ (y : Spotted). is_end y.sort) s
  not_end (bare1 s w) = ap (λ (y : Spotted). is_end y.sort) s
  not_end (named1 s g w) = ap (λ (y : Spotted). is_end y.sort) s
  not_end (empty1 s) = ap (λ (y : Spotted). is_end y.sort) s
  not_end (action1 s a is) = ap (λ (y : Spotted). is_end y.sort) s
  not_end (bar1 s) = ap (λ (y : Spotted). is_end y.sort) s

  -- the loop behind the text so far, with turns enough
  items_from : (n : ℕ) (t : List ℕ) (i e k m : ℕ) (xs : List Item) → Items1 kind src i e xs → gap_at kind true src e ≡ Ok (k, m) → length src - i < n
      → turns n (items_turn kind src) (made t i) ≡ made (t ++ items_text xs) k
  unfolding items_text
  items_from zero t i e k m xs w g h = absurd (omega arith)
  items_from (suc n) t i e k m xs (end1 s) g h =
      turns_stop (items_turn kind src) n _ _ (items_last kind src i (record { sort = EndSort; end = e }) (sym s) true refl refl t)
      ∙ ap (λ (p : Shipped). joined (made t i) p) (item_is i e EndSort s)
      ∙ ap (λ (y : ℕ). made (t ++ (32 ∷ 59 ∷ 10 ∷ [])) y) (passed_is true e k m g)
  items_from (suc n) t i e k m xs (item1 {e = c} {k = l} {m = b} {x = x} {xs = ys} w g' f rest) g h =
      let a = item_forth kind src i c l b x w g' in
      let d = item_low kind src i c x w in
      let o = onward_more (items_turn kind src) t (apart x ∷ shown x) i l (ship_item kind src i) (items_turn_lem kind src i (sort_at src i) refl (is_end (sort_at src i).sort) refl (not_end w) t) (item_shipped w g') a in
      turns_more (items_turn kind src) n _ _ o ∙ items_from n (t ++ (apart x ∷ shown x)) l e k m ys rest g (omega arith)
      ∙ ap (λ (y : List ℕ). made y k) (append_assoc t (apart x ∷ shown x) (items_text ys))

  -- and so are the items of a rule up to its `;`,
  pub items_shipped : {i e k m : ℕ} {xs : List Item} → Items1 kind src i e xs → gap_at kind true src e ≡ Ok (k, m) → ship_items kind src i ≡ record { text = items_text xs; at = k }
  unfolding ship_items
  items_shipped {i} {e} {k} {m} {xs} w g = items_from (suc (length src)) [] i e k m xs w g (omega arith)

  -- a head without a type and with one, by what the pass finds
  module _ (i e j : ℕ) (a : piece_end NamePiece src i ≡ e) (b : passed kind true src e ≡ j) where
    head_plain : has_arrow kind src j ≡ false → ship_head kind src i ≡ made (slice i e src ++ (58 ∷ [])) (passed kind true src (past_colon src j))
    unfolding ship_head
    head_plain q =
        let s : has_arrow kind src (passed kind true src (piece_end NamePiece src i)) ≡ false = rw (a, b) q in
        rw (s, ship_head, a, b)

    head_typed : (k l : ℕ) → has_arrow kind src j ≡ true → passed kind true src (j + 2) ≡ k → piece_end ColonPiece src k ≡ l
        → ship_head kind src i ≡ made (slice i e src ++ (32 ∷ 45 ∷ 62 ∷ (spaced src k l ++ (58 ∷ [])))) (passed kind true src (past_colon src l))
    unfolding ship_head
    head_typed k l q c d =
        let s : has_arrow kind src (passed kind true src (piece_end NamePiece src i)) ≡ true = rw (a, b) q in
        rw (s, ship_head, a, b, c, d)

  arrow_no : (j : ℕ) → eqb kind 2 ≡ false → has_arrow kind src j ≡ false
  unfolding has_arrow
  arrow_no j h = rw h

  arrow_yes : (j : ℕ) → eqb kind 2 ≡ true → starts_at (45 ∷ 62 ∷ []) src j ≡ true → has_arrow kind src j ≡ true
  unfolding has_arrow
  arrow_yes j h s = rw (h, s)

  pub past_colon_lem : (k : ℕ) → get_or src k 0 ≡ 58 → past_colon src k ≡ k + 1
  unfolding past_colon
  past_colon_lem k s = rw (at_yes src k 58 (omega arith) s, past_colon)

  -- behind the colon and its spacing
  colon_passed : (i j : ℕ) (m : MarkAt kind src (58 ∷ []) i j) → passed kind true src (past_colon src m.at) ≡ j
  colon_passed i j m = ap (λ (y : ℕ). passed kind true src y) (past_colon_lem m.at (first_byte 58 [] m.at m.is)) ∙ passed_is true (m.at + 1) j m.after m.next

  head_is : {to head : ℕ} {x : List ℕ} → Type1 kind src to head x → (i from : ℕ) (name : List ℕ) → name_at src i ≡ Ok to → slice i to src ≡ name → MarkAt kind src (58 ∷ []) head from
      → ship_head kind src i ≡ made (name ++ (type_text kind x ++ (58 ∷ []))) from
  unfolding is_blank is_eol
  head_is (untyped1 {i = to} k) i from name n is c =
      head_plain i to c.at (name_end_lem i to n) (passed_is true to c.at c.before c.gap) (arrow_no c.at k)
      ∙ rw (is, untyped_text kind [] k, colon_passed to from c)
  head_is (typed1 {i = to} {from = a} {to = head} {p = p} {x = x} k t y) i from name n is c =
      let u : Named src i (Ok to) = told (Named src i) n (name_placed src i (name_at src i) refl).1 in
      let f = mark_forth kind src (45 ∷ 62 ∷ []) to a (omega arith) u.1 t.arrow in
      let v : ColonTexts src a (Ok (head, t.lines, p)) = told (ColonTexts src a) t.text (colon_placed src a f.1 (colon_text_at src a) refl).1 in
      let z : c.at ≡ head = mark_here (58 ∷ []) head from 58 (omega arith) v.2 refl refl refl c in
      let q : passed kind true src (past_colon src head) ≡ from = told (λ (l : ℕ). passed kind true src (past_colon src l) ≡ from) z (colon_passed head from c) in
      let m = t.arrow in
      head_typed i to m.at (name_end_lem i to n) (passed_is true to m.at m.before m.gap) a head (arrow_yes m.at k m.is) (passed_is true (m.at + 2) a m.after m.next) (colon_end_lem a head t.lines p t.text)
      ∙ rw (is, y, typed_text kind x k, q)

  -- a rule's head up to where its items begin,
  pub head_shipped : {i e : ℕ} {r : Rule} (w : Rule1 kind src i e r) → ship_head kind src i ≡ record { text = r.name ++ (type_text kind r.type ++ (58 ∷ [])); at = w.from }
  head_shipped {i} {e} {r} w = head_is w.typed i w.from r.name w.named w.spelled w.colon

  -- a rule,
  pub rule_shipped : {i e k m : ℕ} {r : Rule} → Rule1 kind src i e r → gap_at kind true src e ≡ Ok (k, m) → ship_rule kind src i ≡ record { text = rule_text kind r; at = k }
  unfolding ship_rule rule_text
  rule_shipped {i} {e} {k} {m} {r} w g =
      ap (λ (o : Shipped). joined o (ship_items kind src o.at)) (head_shipped w)
      ∙ ap (λ (o : Shipped). joined (made (r.name ++ (type_text kind r.type ++ (58 ∷ []))) w.from) o) (items_shipped w.items g)
      ∙ ap (λ (y : List ℕ). made y k) (append_assoc r.name (type_text kind r.type ++ (58 ∷ [])) (items_text r.items))
      ∙ ap (λ (y : List ℕ). made (r.name ++ y) k) (append_assoc (type_text kind r.type) (58 ∷ []) (items_text r.items))

  rules_stop : (i : ℕ) (t : List ℕ) → over src i ≡ true → rules_turn kind src (made t i) ≡ stop (made t i)
  unfolding rules_turn
  rules_stop i t h = rw (h, rules_turn)

  rules_on : (i : ℕ) (t : List ℕ) → over src i ≡ false → rules_turn kind src (made t i) ≡ onward (made t i) (ship_rule kind src i)
  unfolding rules_turn
  rules_on i t h = rw (h, rules_turn)

  rules_loop : (n : ℕ) (t : List ℕ) (i j : ℕ) (rs : List Rule) → Rules1 kind src i j rs → length src - i < n → turns n (rules_turn kind src) (made t i) ≡ made (t ++ rules_text kind rs) j
  unfolding rules_text
  rules_loop zero t i j rs w h = absurd (omega arith)
  rules_loop (suc n) t i j rs (over1 o) h = turns_stop (rules_turn kind src) n _ _ (rules_stop i t o) ∙ ap (λ (y : List ℕ). made y i) (sym (append-nil t))
  rules_loop (suc n) t i j rs (rule1 {e = e} {k = k} {m = m} {r = r} {rs = ys} o w g rest) h =
      let f = rule_forth kind src i e k m r w g in
      let a = f.0 in
      let b = f.1 in
      let s = onward_more (rules_turn kind src) t (rule_text kind r) i k (ship_rule kind src i) (rules_on i t o) (rule_shipped w g) a in
      turns_more (rules_turn kind src) n _ _ s ∙ rules_loop n (t ++ rule_text kind r) k j ys rest (omega arith) ∙ ap (λ (y : List ℕ). made y j) (append_assoc t (rule_text kind r) (rules_text kind ys))

  -- all rules,
  pub rules_shipped : {i j : ℕ} {rs : List Rule} → Rules1 kind src i j rs → ship_rules kind src i ≡ record { text = rules_text kind rs; at = j }
  unfolding ship_rules
  rules_shipped {i} {j} {rs} w = rules_loop (suc (length src)) [] i j rs w (omega arith)

  programs_none : (i : ℕ) → starts_at percents src i ≡ false → ship_programs kind src i ≡ made [] i
  unfolding ship_programs
  programs_none i s = rw (s, ship_programs)

  programs_on : (i : ℕ) → starts_at percents src i ≡ true → ship_programs kind src i ≡ made (37 ∷ 37 ∷ 10 ∷ slice (passed kind true src (i + 2)) (length src) src) (length src)
  unfolding ship_programs
  programs_on i s = rw (s, ship_programs)

  -- the programs,
  pub programs_shipped : {i : ℕ} {p : Programs} → Programs1 kind src i p → (ship_programs kind src i).text ≡ programs_text p
  unfolding programs_text
  programs_shipped {i} (none1 s) = ap (λ (o : Shipped). o.text) (programs_none i s)
  programs_shipped {i} (given1 {k = k} {m = m} {x = x} s g d) =
      ap (λ (o : Shipped). o.text) (programs_on i s)
      ∙ ap (λ (y : ℕ). 37 ∷ 37 ∷ 10 ∷ slice y (length src) src) (passed_is true (i + 2) k m g)
      ∙ ap (λ (y : List ℕ). 37 ∷ 37 ∷ 10 ∷ drop k y) (take-length src)
      ∙ ap (λ (y : List ℕ). 37 ∷ 37 ∷ 10 ∷ y) d

  rules_at : (i j : ℕ) → starts_at percents src i ≡ true → MarkAt kind src percents i j → rules_from kind src i ≡ j
  unfolding rules_from is_blank is_eol
  rules_at i j s m =
      let z : m.at ≡ i = mark_here percents i j 37 (omega arith) (first_byte 37 (37 ∷ []) i s) refl refl refl m in
      rw (s, rules_from) (passed_is true (i + 2) j m.after (told (λ (y : ℕ). gap_at kind true src (y + 2) ≡ Ok (j, m.after)) z m.next))

  -- and all that stands behind the declarations, from the `%%` at which they end.
  pub rest_shipped : {i : ℕ} {rs : List Rule} {p : Programs} → Rest1 kind src i rs p → starts_at percents src i ≡ true
      → (ship_rules kind src (rules_from kind src i)).text ++ (ship_programs kind src (ship_rules kind src (rules_from kind src i)).at).text ≡ rules_text kind rs ++ programs_text p
  rest_shipped {i} {rs} {p} w s =
      let r : ship_rules kind src (rules_from kind src i) ≡ made (rules_text kind rs) w.to = ap (λ (y : ℕ). ship_rules kind src y) (rules_at i w.from s w.mark) ∙ rules_shipped w.rules in
      ap (λ (o : Shipped). o.text ++ (ship_programs kind src o.at).text) r ∙ ap (λ (y : List ℕ). rules_text kind rs ++ y) (programs_shipped w.programs)
