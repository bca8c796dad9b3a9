-- Rules and programs as they are shipped are read as the same rules and programs. Assumes nothing.
use Rattle.std.specs.Prelude.{Result, Ok, Err}
use Prim.Native.Nat.{ℕ, suc, ◌+◌, ◌-◌, ◌≤◌, ◌<◌}
use mathlib.Core.Path.{◌≡◌, refl, sym, ◌∙◌, ap}
use mathlib.Core.List.{List, [], ◌∷◌, ◌++◌, append_assoc}
use mathlib.Core.Bool.{Bool, true, false, ◌||◌}
use mathlib.Core.Logic.{inl}
use native.Mathlib.Omega.{arith}
use lib.Dec.{eqb, leb}
use lib.ListN.{length, get_or, drop, take, length-drop, length-append}
use lib.Seq.{slice, length-slice, slice-cons, take-suc, get_or-drop}
use borrow.Author.Tests.{lt-leb, le-leb, ne_eqb}
use Rattle.scan.proofs.Tuples.{ok_3}
use Rattle.scan.specs.declared.Place.{Place}
use Rattle.scan.specs.Scan.{in_class, is_eol, is_letter, is_digit, starts_at, begins}
use Rattle.scan.proofs.Bytes.{told, starts_fits, drop_at, drop_below, drop_next, drop_ended}
use Rattle.spacing.specs.Spacing.{is_blank}
use Rattle.whole.specs.Encode.{Text}
use Rattle.whole.proofs.Boundaries.{between, begins_boundary}
use Rattle.trim.specs.Trim.{trimmed}
use Rattle.words.specs.Words.{name_at, Named}
use Rattle.words.proofs.Words.{name_placed}
use Rattle.texts.specs.Colon.{plain, single, single_from, colon_text, colon_text_at, ColonTexts}
use Rattle.texts.proofs.Laws.{colon_placed}
use Rattle.texts.proofs.Meaning.{edge_boundary, starts_boundary}
use Rattle.grammar.specs.State.{gap_at, Gapped}
use Rattle.grammar.proofs.Kept.{gapped}
use Rattle.rules.specs.Rules.{percents}
use Rattle.alike.specs.Like.{Same}
use Rattle.alike.specs.Stands.{Breaks}
use Rattle.alike.proofs.Agree.{agree_slice, slice_agree, name_move}
use Rattle.alike.proofs.Solid.{Solid, solid_byte, solid_nil, stops_solid, stops_text, Stops, gap_stops, gap_solid, gap_space, gap_line, gap_none}
use Rattle.alike.proofs.Front.{name_begins, front_solid, percent_solid}
use Rattle.alike.proofs.Texts.{NoColon, colon_move, trim_move}
use Rattle.alike.proofs.Again.{behind, parts, breaks_name}
use Rattle.printed_rules.specs.Items.{Item, quoted, bare, named, empty, action, bar, items_text}
use Rattle.printed_rules.specs.Rules.{Rule, Programs, none, given, type_text, rule_text, rules_text, programs_text, rest_text, end_of, MarkAt, TypeAt, Type1, untyped1, typed1, Rule1, over, Rules1, over1, rule1, Programs1, none1, given1, Rest1, Type2, untyped2, typed2, Rule2, Rules2, over2, rule2, Programs2, none2, given2, Rest2}
use Rattle.printed_rules.proofs.Actions.{slice_take}
use Rattle.printed_rules.proofs.Back.{items_there, text_back}
use Rattle.printed_rules.proofs.Onward.{mark_forth, rules_inside}

-- what follows at an index is longer than nothing
low : (t : List ℕ) (j : ℕ) (x r : List ℕ) → drop j t ≡ x ++ r → 0 < length x → j + length x ≤ length t
low t j x r q h =
    let a = length-drop j t in
    let b : length (drop j t) ≡ length x + length r = ap length q ∙ length-append x r in
    omega arith

-- a mark's bytes stand there
pub starts_in : (w s : List ℕ) (i : ℕ) (l : List ℕ) → drop i s ≡ l → starts_at w s i ≡ begins w l
unfolding starts_at
starts_in w s i l q = ap (begins w) q

module _ (src out : List ℕ) where
  -- A name is read again as the name it was,
  record NameAgain (i e j : ℕ) (x : List ℕ) : Type 0 where
    is : name_at out j ≡ Ok (j + length x)
    spelled : slice j (j + length x) out ≡ x
    same : Same src out i e j (j + length x)

  name_again : (i e j : ℕ) (x r : List ℕ) → name_at src i ≡ Ok e → slice i e src ≡ x → drop j out ≡ x ++ r → Breaks r → NameAgain i e j x
  name_again i e j x r h is q b =
      let y : Named src i (Ok e) = told (Named src i) h (name_placed src i (name_at src i) refl).1 in
      let a = y.0 in
      let c = y.1 in
      let n : length x ≡ e - i = sym (ap length is) ∙ length-slice i e src c in
      let z : i + length x ≡ e = omega arith in
      let l = low out j x r q (omega arith) in
      let g = agree_slice src out i (length x) j r (omega arith) (rw (z, is) q) (omega arith) in
      let s = slice_agree src out i j (length x) i e j (j + length x) g (omega arith) (omega arith) (omega arith) (omega arith) (omega arith) in
      record {
        is = name_move src out i j (length x) g (rw z h) (λ k. breaks_name out (j + length x) r (behind out j x r q) b k);
        spelled = sym s ∙ is;
        same = record { here = (omega arith, c); there = (omega arith, l); bytes = s };
      }

  -- and a text to a single colon as the text it was.
  record ColonAgain (j : ℕ) (x : List ℕ) (p : Place) : Type 0 where
    lines : ℕ
    place : Place
    is : colon_text_at out j ≡ Ok (j + length x, lines, place)
    spelled : slice j (j + length x) out ≡ x
    same : Same src out p.from p.to place.from place.to

  colon_again : (i e n j : ℕ) (p : Place) (x r : List ℕ) → i ≤ length src → colon_text_at src i ≡ Ok (e, n, p) → slice i e src ≡ x → Text x → drop j out ≡ x ++ (58 ∷ r) → NoColon r → ColonAgain j x p
  unfolding colon_text_at colon_text single_from
  colon_again i e n j p x r low-i h is text q b = go (single plain (drop i src) i 0) refl h
    where
      placed : ColonTexts src i (Ok (e, n, p))
      placed = told (ColonTexts src i) h (colon_placed src i low-i (colon_text_at src i) refl).1

      go : (c : Result (ℕ × ℕ) ℕ) → single plain (drop i src) i 0 ≡ c → colon_text src i c ≡ Ok (e, n, p) → ColonAgain j x p
      go (Ok (to, m)) f g =
          let d = ok_3 g in
          let t : to ≡ e = d.0 in
          let u : trimmed src i to ≡ p = d.2 in
          let w = colon_move plain (drop i src) i 0 to m f in
          let a = w.ends in
          let c = placed.0 in
          let d = placed.1 in
          let k : length x ≡ e - i = sym (ap length is) ∙ length-slice i e src (omega arith) in
          let z : i + length x ≡ e = omega arith in
          let v : w.size ≡ length x = omega arith in
          let front : take (length x) (drop i src) ≡ x = sym (slice_take i (length x) src) ∙ (rw z is) in
          let byte : get_or (drop i src) (length x) 0 ≡ 58 = get_or-drop i src (length x) 0 ∙ (rw z placed.2) in
          let long = length-drop i src in
          let all : take (suc (length x)) (drop i src) ≡ x ++ (58 ∷ []) = rw (take-suc (drop i src) (length x) 0 (omega arith), front, byte) in
          let mv = w.moves r b j 0 in
          let moved : single plain ((x ++ (58 ∷ [])) ++ r) j 0 ≡ Ok (j + length x, mv.0) = rw (v, all) at mv.1 in
          let d2 : drop j out ≡ (x ++ (58 ∷ [])) ++ r = q ∙ sym (append_assoc x (58 ∷ []) r) in
          let o = length-drop j out in
          let o2 : length (drop j out) ≡ length x + suc (length r) = ap length q ∙ length-append x (58 ∷ r) in
          let ag = agree_slice src out i (length x) j (58 ∷ r) (omega arith) (rw (z, is) q) (omega arith) in
          let tm = trim_move src out i j (length x) ag (told (λ (y : List ℕ). Text y) (rw z (sym is)) text) in
          record {
            lines = mv.0;
            place = trimmed out j (j + length x);
            is = ap (colon_text out j) (ap (λ (l : List ℕ). single plain l j 0) d2 ∙ moved);
            spelled = sym (slice_agree src out i j (length x) i e j (j + length x) ag (omega arith) (omega arith) (omega arith) (omega arith) (omega arith)) ∙ is;
            same = told (λ (y : Place). Same src out y.from y.to (trimmed out j (j + length x)).from (trimmed out j (j + length x)).to) (ap (trimmed src i) (z ∙ sym t) ∙ u) tm;
          }
      go (Err end) f g = let z : ◌≡◌ {A = ℕ} 0 1 = cc in absurd (omega arith)

-- what is no spacing
colon_solid : (r : List ℕ) → Solid (58 ∷ r)
unfolding is_blank is_eol
colon_solid r = solid_byte 58 r refl refl refl

minus_solid : (r : List ℕ) → Solid (45 ∷ r)
unfolding is_blank is_eol
minus_solid r = solid_byte 45 r refl refl refl

-- A text to a colon that begins where spacing ended begins with none where it is shipped.
text_solid : (kind : ℕ) (src : List ℕ) (a i e n : ℕ) (x r : List ℕ) → gap_at kind true src a ≡ Ok (i, n) → i ≤ e → slice i e src ≡ x → Solid (x ++ (58 ∷ r))
text_solid kind src a i e n x r g h is = go x (told Stops (parts src i e h ∙ ap (λ (y : List ℕ). y ++ drop e src) is) (gap_stops kind true src a i n g))
  where
    go : (x : List ℕ) → Stops (x ++ drop e src) → Solid (x ++ (58 ∷ r))
    go [] s = colon_solid r
    go (c ∷ cs) s = stops_solid _ (stops_text c cs (drop e src) 58 r s refl refl)

-- behind a colon stands no other
items_no_colon : (xs : List Item) (rest : List ℕ) → NoColon (items_text xs ++ rest)
unfolding items_text
items_no_colon [] rest = refl
items_no_colon (quoted x ∷ xs) rest = refl
items_no_colon (bare x ∷ xs) rest = refl
items_no_colon (named x ∷ xs) rest = refl
items_no_colon (empty ∷ xs) rest = refl
items_no_colon (action x ∷ xs) rest = refl
items_no_colon (bar ∷ xs) rest = refl

-- the type's text by kind
pub typed_text : (kind : ℕ) (x : List ℕ) → eqb kind 2 ≡ true → type_text kind x ≡ 32 ∷ 45 ∷ 62 ∷ 32 ∷ x
unfolding type_text
typed_text kind x e = rw (e, type_text)

pub untyped_text : (kind : ℕ) (x : List ℕ) → eqb kind 2 ≡ false → type_text kind x ≡ []
unfolding type_text
untyped_text kind x e = rw (e, type_text)

-- it ends a name, as the colon does
type_breaks : (kind : ℕ) (x r : List ℕ) → Breaks (type_text kind x ++ (58 ∷ r))
unfolding type_text in_class is_letter is_digit
type_breaks kind x r = go (eqb kind 2)
  where
    go : (b : Bool) → Breaks (elim b [ true ↦ 32 ∷ 45 ∷ 62 ∷ 32 ∷ x | false ↦ [] ] ++ (58 ∷ r))
    go true = (refl, refl)
    go false = (refl, refl)

-- the type behind a `->` begins at a code point's boundary, and its colon ends it there
pub type_text_lem : (kind : ℕ) (src : List ℕ) → Text src → (i from to n : ℕ) (p : Place) → MarkAt kind src (45 ∷ 62 ∷ []) i from → colon_text_at src from ≡ Ok (to, n, p) → Text (slice from to src)
type_text_lem kind src text i from to n p m e =
    let l = starts_fits (45 ∷ 62 ∷ []) src m.at m.is (omega arith) in
    let g : Gapped src (m.at + 2) (Ok (from, m.after)) = told (Gapped src (m.at + 2)) m.next (gapped kind true src (m.at + 2) l) in
    let b = edge_boundary src text (m.at + 2) from (starts_boundary src text (45 ∷ 62 ∷ []) m.at m.is (omega arith) (omega arith)) g.1 g.2 in
    let y : ColonTexts src from (Ok (to, n, p)) = told (ColonTexts src from) e (colon_placed src from g.1 (colon_text_at src from) refl).1 in
    let c = y.0 in
    let d = y.1 in
    let z = y.2 in
    between src from to (omega arith) b (begins_boundary src text to d (inl (omega arith)))

module _ (kind : ℕ) (src out : List ℕ) (text : Text src) where
  -- the type of a head as it is shipped,
  record TypeBack (i j e : ℕ) (x r : List ℕ) : Type 0 where
    to : ℕ
    there : Type1 kind out j to x
    pair : Type2 kind src out i j e to
    left : drop to out ≡ 58 ∷ r

  type_back : {i e : ℕ} {x : List ℕ} → Type1 kind src i e x → i ≤ length src → (j : ℕ) (r : List ℕ) → drop j out ≡ type_text kind x ++ (58 ∷ r) → NoColon r → TypeBack i j e x r
  unfolding begins
  type_back (untyped1 k) h j r q b = record { to = j; there = untyped1 k; pair = untyped2 k; left = q ∙ ap (λ (y : List ℕ). y ++ (58 ∷ r)) (untyped_text kind [] k) }
  type_back (typed1 {i} {from} {to} {p} {x} k t is) h j r q b =
      let f = mark_forth kind src (45 ∷ 62 ∷ []) i from (omega arith) h t.arrow in
      let y : ColonTexts src from (Ok (to, t.lines, p)) = told (ColonTexts src from) t.text (colon_placed src from f.1 (colon_text_at src from) refl).1 in
      let y0 = y.0 in
      let q0 : drop j out ≡ 32 ∷ 45 ∷ 62 ∷ 32 ∷ (x ++ (58 ∷ r)) = q ∙ ap (λ (y : List ℕ). y ++ (58 ∷ r)) (typed_text kind x k) in
      let q1 = drop_next out j 32 _ q0 in
      let q2 = behind out (j + 1) (45 ∷ 62 ∷ []) (32 ∷ (x ++ (58 ∷ r))) q1 in
      let q3 = drop_next out (j + 1 + 2) 32 _ q2 in
      let solid = text_solid kind src (t.arrow.at + 2) from to t.arrow.after x r t.arrow.next (omega arith) is in
      let c = colon_again src out from to t.lines (j + 1 + 2 + 1) p x r f.1 t.text is (told (λ (l : List ℕ). Text l) is (type_text_lem kind src text i from to t.lines p t.arrow t.text)) q3 b in
      let arrow : MarkAt kind out (45 ∷ 62 ∷ []) j (j + 1 + 2 + 1) = record {
        at = j + 1;
        before = 0;
        after = 0;
        gap = gap_space out j _ (minus_solid _) kind true q0;
        is = starts_in (45 ∷ 62 ∷ []) out (j + 1) _ q1;
        next = gap_space out (j + 1 + 2) _ solid kind true q2;
      } in
      let at : TypeAt kind out j (j + 1 + 2 + 1) (j + 1 + 2 + 1 + length x) c.place = record { lines = c.lines; arrow = arrow; text = c.is } in
      record { to = j + 1 + 2 + 1 + length x; there = typed1 k at c.spelled; pair = typed2 k t at c.same; left = behind out (j + 1 + 2 + 1) x (58 ∷ r) q3 }

  -- a rule, behind whose `;` a line end stands,
  pub record RuleBack (i j e : ℕ) (r : Rule) (rest : List ℕ) : Type 0 where
    pub to : ℕ
    pub pair : Rule2 kind src out i j e to r
    pub left : drop to out ≡ 10 ∷ rest

  pub rule_back : (i e j : ℕ) (r : Rule) (rest : List ℕ) → Rule1 kind src i e r → drop j out ≡ rule_text kind r ++ rest → RuleBack i j e r rest
  unfolding rule_text begins
  rule_back i e j r rest w q =
      let name = r.name in
      let tail = items_text r.items ++ rest in
      let q0 : drop j out ≡ name ++ (type_text kind r.type ++ (58 ∷ tail)) = q ∙ append_assoc name (type_text kind r.type ++ (58 ∷ items_text r.items)) rest ∙ ap (λ (y : List ℕ). name ++ y) (append_assoc (type_text kind r.type) (58 ∷ items_text r.items) rest) in
      let n = name_again src out i w.to j name _ w.named w.spelled q0 (type_breaks kind r.type tail) in
      let l : Named src i (Ok w.to) = told (Named src i) w.named (name_placed src i (name_at src i) refl).1 in
      let t = type_back w.typed l.1 (j + length name) tail (behind out j name _ q0) (items_no_colon r.items rest) in
      let q1 = drop_next out t.to 58 tail t.left in
      let b = text_back kind src out text rest w.items (t.to + 1) q1 in
      let colon : MarkAt kind out (58 ∷ []) t.to (t.to + 1 + 1) = record {
        at = t.to;
        before = 0;
        after = b.lines;
        gap = gap_none out t.to (58 ∷ tail) (colon_solid tail) kind true t.left;
        is = starts_in (58 ∷ []) out t.to _ t.left;
        next = b.gap;
      } in
      record {
        to = b.back.to;
        pair = record {
          here = w;
          there = record {
            to = j + length name;
            head = t.to;
            from = t.to + 1 + 1;
            named = n.is;
            spelled = n.spelled;
            typed = t.there;
            colon = colon;
            items = items_there kind src out {d = b.back.to} b.back.pairs;
          };
          name = n.same;
          type = t.pair;
          items = b.back.pairs;
        };
        left = b.back.left;
      }

-- where a name stands, rules are not over
name_goes : (s : List ℕ) (i e : ℕ) → name_at s i ≡ Ok e → over s i ≡ false
unfolding begins
name_goes s i e h =
    let y : Named s i (Ok e) = told (Named s i) h (name_placed s i (name_at s i) refl).1 in
    let a = y.0 in
    let b = y.1 in
    let c : starts_at percents s i ≡ false = starts_in percents s i _ (drop_at s i (omega arith)) ∙ no (ne_eqb (get_or s i 0) 37 (name_begins s i e h).percent) in
    rw (lt-leb (length s) i (omega arith)) c
  where
    no : eqb (get_or s i 0) 37 ≡ false → begins percents (get_or s i 0 ∷ drop (i + 1) s) ≡ false
    no f = rw (f, begins)

-- programs as they are shipped end the rules, and begin with no spacing
programs_over : (p : Programs) (t : List ℕ) (j : ℕ) → drop j t ≡ programs_text p → over t j ≡ true
unfolding programs_text begins
programs_over none t j q =
    let a = length-drop j t in
    let b : length (drop j t) ≡ 0 = ap length q in
    rw (le-leb (length t) j (omega arith))
programs_over (given x) t j q = rw (starts_in percents t j _ q) (either (leb (length t) j))
  where
    either : (b : Bool) → (b || true) ≡ true
    either true = refl
    either false = refl

programs_solid : (p : Programs) → Solid (programs_text p)
unfolding programs_text
programs_solid none = solid_nil
programs_solid (given x) = percent_solid _

-- the programs,
pub programs_back : (kind : ℕ) (src out : List ℕ) {i : ℕ} {p : Programs} → Programs1 kind src i p → (j : ℕ) → drop j out ≡ programs_text p → Programs2 kind src out i j p
unfolding programs_text begins
programs_back kind src out (none1 e) j q = none2 e (starts_in percents out j [] q)
programs_back kind src out (given1 {i} {k} {m} {x} e g d) j q =
    let q1 = behind out j (37 ∷ 37 ∷ []) (10 ∷ x) q in
    given2 e (starts_in percents out j _ q) g (gap_line out (j + 2) x (told Solid d (gap_solid kind true src (i + 2) k m g)) kind q1) d (drop_next out (j + 2) 10 x q1)

-- What two sources have alike stands in the second.
module _ (kind : ℕ) (src out : List ℕ) where
  pub rules_there : {i j c d : ℕ} {rs : List Rule} → Rules2 kind src out i j c d rs → Rules1 kind out j d rs
  rules_there (over2 e f) = over1 f
  rules_there (rule2 o o' w g g' rest) = rule1 o' w.there g' (rules_there rest)

  pub programs_there : {i j : ℕ} {p : Programs} → Programs2 kind src out i j p → Programs1 kind out j p
  programs_there (none2 e f) = none1 f
  programs_there (given2 e f g g' d d') = given1 f g' d'

  pub rest_there : (i j : ℕ) (rs : List Rule) (p : Programs) → Rest2 kind src out i j rs p → Rest1 kind out j rs p
  rest_there i j rs p w = record { from = w.from'; to = w.to'; mark = w.mark'; rules = rules_there w.rules; programs = programs_there w.programs }

-- where programs as they are shipped end
programs_end : (p : Programs) (t : List ℕ) (j : ℕ) → drop j t ≡ programs_text p → j ≤ length t → end_of p t j ≡ length t
unfolding programs_text
programs_end none t j q h = drop_ended t j q h
programs_end (given x) t j q h = refl

module _ (kind : ℕ) (src out : List ℕ) (text : Text src) (p : Programs) where
  rules_solid : {i c : ℕ} {rs : List Rule} → Rules1 kind src i c rs → Solid (rules_text kind rs ++ programs_text p)
  unfolding rules_text rule_text
  rules_solid (over1 e) = programs_solid p
  rules_solid (rule1 {i} {r = r} {rs = rs} e w g rest) = told Solid (sym start) (front_solid _ _ (name_begins src i w.to w.named))
    where
      tail : List ℕ
      tail = type_text kind r.type ++ (58 ∷ items_text r.items)

      y : Named src i (Ok w.to)
      y = told (Named src i) w.named (name_placed src i (name_at src i) refl).1

      start : ((r.name ++ tail) ++ rules_text kind rs) ++ programs_text p ≡ get_or src i 0 ∷ (((slice (suc i) w.to src ++ tail) ++ rules_text kind rs) ++ programs_text p)
      start =
          let a = y.0 in
          let b = y.1 in
          ap (λ (l : List ℕ). ((l ++ tail) ++ rules_text kind rs) ++ programs_text p) (sym w.spelled ∙ slice-cons i w.to src 0 (omega arith) (omega arith))

  -- all rules, behind which the programs stand,
  pub record RulesBack (i j c : ℕ) (rs : List Rule) : Type 0 where
    pub to : ℕ
    pub pairs : Rules2 kind src out i j c to rs
    pub left : drop to out ≡ programs_text p

  pub rules_back : {i c : ℕ} {rs : List Rule} → Rules1 kind src i c rs → (j : ℕ) → drop j out ≡ rules_text kind rs ++ programs_text p → RulesBack i j c rs
  unfolding rules_text
  rules_back (over1 e) j q = record { to = j; pairs = over2 e (programs_over p out j q); left = q }
  rules_back (rule1 {i = i} {e = e} {r = r} {rs = rs} o w g rest) j q =
      let b = rule_back kind src out text i e j r (rules_text kind rs ++ programs_text p) w (q ∙ append_assoc (rule_text kind r) (rules_text kind rs) (programs_text p)) in
      let z = rules_back rest (b.to + 1) (drop_next out b.to 10 _ b.left) in
      record {
        to = z.to;
        pairs = rule2 o (name_goes out j b.pair.there.to b.pair.there.named) b.pair g (gap_line out b.to _ (rules_solid rest) kind b.left) z.pairs;
        left = z.left;
      }

  -- and the section from its `%%` on, which ends the text.
  pub record RestBack (i j : ℕ) (rs : List Rule) : Type 0 where
    pub pair : Rest2 kind src out i j rs p
    pub ends : end_of p out pair.to' ≡ length out

  pub rest_back : (i j : ℕ) (rs : List Rule) → Rest1 kind src i rs p → drop j out ≡ rest_text kind rs p → RestBack i j rs
  unfolding rest_text begins
  rest_back i j rs w q =
      let q1 = behind out j (37 ∷ 37 ∷ []) (10 ∷ (rules_text kind rs ++ programs_text p)) q in
      let h = drop_below out (j + 2) 10 _ q1 in
      let b = rules_back w.rules (j + 2 + 1) (drop_next out (j + 2) 10 _ q1) in
      record {
        pair = record {
          from = w.from;
          to = w.to;
          from' = j + 2 + 1;
          to' = b.to;
          mark = w.mark;
          mark' = record {
            at = j;
            before = 0;
            after = 1;
            gap = gap_none out j _ (percent_solid _) kind true q;
            is = starts_in percents out j _ q;
            next = gap_line out (j + 2) _ (rules_solid w.rules) kind q1;
          };
          rules = b.pairs;
          programs = programs_back kind src out w.programs b.to b.left;
        };
        ends = programs_end p out b.to b.left (rules_inside kind out (rules_there kind src out b.pairs) (omega arith));
      }
