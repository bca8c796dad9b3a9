-- The items of a rule as they are shipped are read as the same items. Assumes nothing.
use Rattle.std.specs.Prelude.{Ok}
use Prim.Native.Nat.{ℕ, suc, ◌+◌, ◌≤◌, ◌<◌}
use mathlib.Core.Path.{◌≡◌, refl, sym, ◌∙◌, ap}
use mathlib.Core.List.{List, [], ◌∷◌, ◌++◌, append_assoc}
use mathlib.Core.Bool.{true, false≢true}
use native.Mathlib.Omega.{arith}
use lib.ListN.{length, get_or, drop}
use lib.Seq.{slice, slice-cons}
use Rattle.scan.specs.declared.Place.{Place}
use Rattle.scan.specs.Scan.{in_class, is_eol, is_letter, is_digit}
use Rattle.scan.proofs.Bytes.{told, drop_below, drop_byte, drop_next, drop_at}
use Rattle.spacing.specs.Spacing.{is_blank}
use Rattle.words.specs.Words.{token_at, Tokened}
use Rattle.words.proofs.Words.{token_placed}
use Rattle.texts.specs.Action.{action_at}
use Rattle.whole.specs.Encode.{Text}
use Rattle.grammar.specs.State.{gap_at}
use Rattle.items.specs.declared.Sort.{Sort}
use Rattle.items.specs.declared.Sort.TheVariants.{BarSort, EndSort, QuotedSort, PrecSort, ActionSort, EmptySort, BareSort}
use Rattle.items.specs.declared.Spotted.{Spotted}
use Rattle.items.specs.Items.{sort_at, may_end, may_follow}
use Rattle.alike.specs.Stands.{TokenAt, Breaks}
use Rattle.alike.proofs.Solid.{Solid, solid_byte, gap_space, gap_line}
use Rattle.alike.proofs.Front.{token_begins, front_solid, percent_solid}
use Rattle.alike.proofs.Again.{word_again, behind, spelled_front}
use Rattle.printed_rules.specs.Items.{Item, quoted, bare, named, empty, action, bar, apart, shown, items_text, Follows, Item1, quoted1, bare1, named1, empty1, action1, bar1, Items1, end1, item1, Item2, quoted2, bare2, named2, empty2, action2, bar2, Items2, end2, item2}
use Rattle.printed_rules.proofs.Actions.{stood, action_again, action_text}
use Rattle.printed_rules.proofs.Sorts.{bar_sort, end_sort, prec_sort, empty_sort, action_sort, byte_sort, byte_ends, byte_follows, prec_follows, empty_follows, sort_told}

-- the text of items without its first separator
abbrev pub next_text : List Item → List ℕ
next_text [] = 59 ∷ 10 ∷ []
next_text (x ∷ xs) = shown x ++ items_text xs

abbrev pub sep_of : List Item → ℕ
sep_of [] = 32
sep_of (x ∷ xs) = apart x

pub text_is : (xs : List Item) → items_text xs ≡ sep_of xs ∷ next_text xs
unfolding items_text
text_is [] = refl
text_is (x ∷ xs) = refl

-- the first byte of the next item, in the source and as it is shipped; or it is a `%prec` or an `%empty`
data Next (src : List ℕ) (k : ℕ) (t : List ℕ) : Type 0 where
  byte : (c : ℕ) (l r : List ℕ) → drop k src ≡ c ∷ l → t ≡ c ∷ r → (c ≡ 37 → ⊥) → Solid (c ∷ r) → Next src k t
  prec : (r : List ℕ) → t ≡ 37 ∷ 112 ∷ 114 ∷ 101 ∷ 99 ∷ r → (l : List ℕ) → drop k src ≡ 37 ∷ 112 ∷ l → Next src k t
  none : (r l : List ℕ) → t ≡ 37 ∷ 101 ∷ r → drop k src ≡ 37 ∷ 101 ∷ l → Next src k t

-- a token's first byte
token_next : (src : List ℕ) (k e : ℕ) (x r : List ℕ) → TokenAt src k e x → Next src k (x ++ r)
token_next src k e x r w =
    let (c, ys, s, v) = spelled_front src k e x w in
    let y : Tokened src k (Ok (w.place, e, w.quoted)) = told (Tokened src k) w.is (token_placed src k (token_at src k) refl).1 in
    let a = y.0 in
    let b = y.1 in
    let d = y.2 in
    let f = y.3 in
    let z = drop_at src k (omega arith) in
    byte (get_or src k 0) (drop (k + 1) src) (slice (suc k) e src ++ r) z (ap (λ (t : List ℕ). t ++ r) (sym w.spelled ∙ slice-cons k e src 0 (omega arith) f)) (token_begins src k e w.place w.quoted w.is).percent (front_solid _ _ (token_begins src k e w.place w.quoted w.is))

-- `;` and `|` are no spacing
end_solid : (r : List ℕ) → Solid (59 ∷ r)
unfolding is_blank is_eol
end_solid r = solid_byte 59 r refl refl refl

bar_solid : (r : List ℕ) → Solid (124 ∷ r)
unfolding is_blank is_eol
bar_solid r = solid_byte 124 r refl refl refl

brace_solid : (r : List ℕ) → Solid (123 ∷ r)
unfolding is_blank is_eol
brace_solid r = solid_byte 123 r refl refl refl

-- the first byte of an action
action_front : (src : List ℕ) (i e m : ℕ) (x l : List ℕ) (p p' : Place) → drop i src ≡ 123 ∷ l → action_at src i ≡ Ok (e, m, p, p') → slice i e src ≡ x → x ≡ 123 ∷ slice (suc i) e src
action_front src i e m x l p p' q h is =
    let w = stood src i e m p p' h in
    let a = w.ends in
    let d = w.low in
    let b : i < e = omega arith in
    let c : e ≤ length src = omega arith in
    sym is ∙ slice-cons i e src 0 b c ∙ ap (λ (y : ℕ). y ∷ slice (suc i) e src) (drop_byte src i 123 l q)

next_of : (kind : ℕ) (src : List ℕ) {k c : ℕ} {xs : List Item} (rest : List ℕ) → Items1 kind src k c xs → Next src k (next_text xs ++ rest)
next_of kind src rest (end1 {i} {e} s) = let t = sort_told src i EndSort e s in byte 59 t.0 (10 ∷ rest) t.1 refl (λ e. omega arith) (end_solid (10 ∷ rest))
next_of kind src rest (item1 {i} {e} {xs = xs} (quoted1 {x = x} s w) g h l) = told (Next src i) (sym (append_assoc x (items_text xs) rest)) (token_next src i e x (items_text xs ++ rest) w)
next_of kind src rest (item1 {i} {e} {xs = xs} (bare1 {x = x} s w) g h l) = told (Next src i) (sym (append_assoc x (items_text xs) rest)) (token_next src i e x (items_text xs ++ rest) w)
next_of kind src rest (item1 {i} (named1 {a = a} s g' w) g h l) = let t = sort_told src i PrecSort a s in prec _ refl (114 ∷ 101 ∷ 99 ∷ t.0) t.1
next_of kind src rest (item1 {i} {e} (empty1 s) g h l) = let t = sort_told src i EmptySort e s in none _ t.0 refl t.1
next_of kind src rest (item1 {i} {e} {xs = xs} (action1 {a = a} {m = m} {x = x} {p = p} {q = q} s w is) g h l) =
    let t = sort_told src i ActionSort a s in
    byte 123 t.0 ((slice (suc i) e src ++ items_text xs) ++ rest) t.1 (ap (λ (y : List ℕ). (y ++ items_text xs) ++ rest) (action_front src i e m x t.0 p q t.1 w is)) (λ e. omega arith) (brace_solid _)
next_of kind src rest (item1 {i} {e} (bar1 s) g h l) = let t = sort_told src i BarSort e s in byte 124 t.0 _ t.1 refl (λ e. omega arith) (bar_solid _)

next_solid : (src : List ℕ) (k : ℕ) (t : List ℕ) → Next src k t → Solid t
next_solid src k t (byte c l r p q n s) = rw q s
next_solid src k t (prec r q l p) = rw q (percent_solid _)
next_solid src k t (none r l q p) = rw q (percent_solid _)

-- what may follow in the source may follow in what is shipped
ends_again : (src out : List ℕ) (k j : ℕ) (t : List ℕ) → Next src k t → drop j out ≡ t → may_end src k ≡ true → may_end out j ≡ true
ends_again src out k j t (byte c l r p q n s) d h = sym (byte_ends src out k j c l r p (d ∙ q)) ∙ h
ends_again src out k j t (prec r q l p) d h = sym (byte_ends src out k j 37 (112 ∷ l) (112 ∷ 114 ∷ 101 ∷ 99 ∷ r) p (d ∙ q)) ∙ h
ends_again src out k j t (none r l q p) d h = sym (byte_ends src out k j 37 (101 ∷ l) (101 ∷ r) p (d ∙ q)) ∙ h

follows_again : (src out : List ℕ) (k j : ℕ) (t : List ℕ) → Next src k t → drop j out ≡ t → may_follow src k ≡ true → may_follow out j ≡ true
follows_again src out k j t (byte c l r p q n s) d h = sym (byte_follows src out k j c l r p (d ∙ q) n) ∙ h
follows_again src out k j t (prec r q l p) d h = prec_follows out j r (d ∙ q)
follows_again src out k j t (none r l q p) d h = absurd (false≢true (sym (empty_follows src k l p) ∙ h))

follow_again : (src out : List ℕ) (k j : ℕ) (t : List ℕ) → Next src k t → drop j out ≡ t → (x : Item) → Follows src k x → Follows out j x
follow_again src out k j t n d (quoted x) h = tt
follow_again src out k j t n d (bare x) h = tt
follow_again src out k j t n d (named x) h = tt
follow_again src out k j t n d empty h = follows_again src out k j t n d h
follow_again src out k j t n d (action x) h = ends_again src out k j t n d h
follow_again src out k j t n d bar h = tt

-- what stands between items ends a word
pub items_break : (xs : List Item) (rest : List ℕ) → Breaks (items_text xs ++ rest)
unfolding items_text in_class is_letter is_digit
items_break [] rest = (refl, refl)
items_break (quoted x ∷ xs) rest = (refl, refl)
items_break (bare x ∷ xs) rest = (refl, refl)
items_break (named x ∷ xs) rest = (refl, refl)
items_break (empty ∷ xs) rest = (refl, refl)
items_break (action x ∷ xs) rest = (refl, refl)
items_break (bar ∷ xs) rest = (refl, refl)

-- the separator in front of the next item
sep_gap : (kind : ℕ) (xs : List Item) (out : List ℕ) (f : ℕ) (t : List ℕ) → Solid t → drop f out ≡ sep_of xs ∷ t → (n : ℕ) × (gap_at kind true out f ≡ Ok (f + 1, n))
sep_gap kind [] out f t s q = (0, gap_space out f t s kind true q)
sep_gap kind (quoted x ∷ xs) out f t s q = (0, gap_space out f t s kind true q)
sep_gap kind (bare x ∷ xs) out f t s q = (0, gap_space out f t s kind true q)
sep_gap kind (named x ∷ xs) out f t s q = (0, gap_space out f t s kind true q)
sep_gap kind (empty ∷ xs) out f t s q = (0, gap_space out f t s kind true q)
sep_gap kind (action x ∷ xs) out f t s q = (0, gap_space out f t s kind true q)
sep_gap kind (bar ∷ xs) out f t s q = (1, gap_line out f t s kind q)

spot : (out : List ℕ) (j : ℕ) (x : Sort) → (sort_at out j).sort ≡ x → sort_at out j ≡ record { sort = x; end = (sort_at out j).end }
spot out j x e = ap (λ (y : Sort). at y) e
  where
    at : Sort → Spotted
    at y = record { sort = y; end = (sort_at out j).end }

module _ (kind : ℕ) (src out : List ℕ) (text : Text src) where
  -- an item as it is shipped
  token_sort_lem : (i e j : ℕ) (x r : List ℕ) → TokenAt src i e x → drop j out ≡ x ++ r → (s : Sort) (a : ℕ) → sort_at src i ≡ record { sort = s; end = a } → sort_at out j ≡ record { sort = s; end = (sort_at out j).end }
  token_sort_lem i e j x r w q s a h = go (token_next src i e x r w)
    where
      go : Next src i (x ++ r) → sort_at out j ≡ record { sort = s; end = (sort_at out j).end }
      go (byte c l r' p t n o) = spot out j s (sym (byte_sort src out i j c l r' p (q ∙ t) n) ∙ ap (λ (y : Spotted). y.sort) h)
      go (prec r' t l p) = absurd ((token_begins src i e w.place w.quoted w.is).percent (drop_byte src i 37 (112 ∷ l) p))
      go (none r' l t p) = absurd ((token_begins src i e w.place w.quoted w.is).percent (drop_byte src i 37 (101 ∷ l) p))

  item_again : (i e j : ℕ) (x : Item) (r : List ℕ) → Item1 kind src i e x → drop j out ≡ shown x ++ r → j ≤ length out → Breaks r → Item2 kind src out i j e (j + length (shown x)) x
  item_again i e j x r (quoted1 {a = a} {x = y} s w) q h b =
      let t = word_again src out i e j y r w q h b in
      quoted2 s (token_sort_lem i e j y r w q QuotedSort a s) w t.there t.same
  item_again i e j x r (bare1 {a = a} {x = y} s w) q h b =
      let t = word_again src out i e j y r w q h b in
      bare2 s (token_sort_lem i e j y r w q BareSort a s) w t.there t.same
  item_again i e j x r (named1 {c = c} {x = y} s g w) q h b =
      let o = prec_sort out j (32 ∷ (y ++ r)) q in
      let d = behind out j (37 ∷ 112 ∷ 114 ∷ 101 ∷ 99 ∷ []) (32 ∷ (y ++ r)) q in
      let (k, ys, z, v) = spelled_front src c e y w in
      let solid : Solid (y ++ r) = told Solid (ap (λ (t : List ℕ). t ++ r) (sym z)) (front_solid k (ys ++ r) v) in
      let n = drop_next out (j + 5) 32 (y ++ r) d in
      let m = drop_below out (j + 5) 32 (y ++ r) d in
      let t = word_again src out c e (j + 5 + 1) y r w n (omega arith) b in
      let u : j + 5 + 1 + length y ≡ j + suc (suc (suc (suc (suc (suc (length y)))))) = omega arith in
      told (λ (f : ℕ). Item2 kind src out i j e f (named y)) u (named2 s o g (gap_space out (j + 5) (y ++ r) solid kind true d) w t.there t.same)
  item_again i e j x r (empty1 s) q h b = empty2 s (empty_sort out j r q)
  item_again i e j x r (action1 {a = a} {m = m} {x = y} {p = p} {q = p'} s w is) q h b =
      let (l, d) = sort_told src i ActionSort a s in
      let front = action_front src i e m y l p p' d w is in
      let z = action_again src out i e m j p p' y r w (action_text src text i e m p p' l d w) is q h in
      action2 s (action_sort out j _ (q ∙ ap (λ (v : List ℕ). v ++ r) front)) w z.is z.same z.alike is z.spelled
  item_again i e j x r (bar1 s) q h b = bar2 s (bar_sort out j r q)

  -- all of them, up to the `;`, behind which a line end stands
  pub record ItemsBack (i j c : ℕ) (xs : List Item) (rest : List ℕ) : Type 0 where
    pub to : ℕ
    pub pairs : Items2 kind src out i j c to xs
    pub left : drop to out ≡ 10 ∷ rest

  pub items_back : (rest : List ℕ) {i c : ℕ} {xs : List Item} → Items1 kind src i c xs → (j : ℕ) → drop j out ≡ next_text xs ++ rest → ItemsBack i j c xs rest
  items_back rest (end1 {i} {e} s) j q = record { to = j + 1; pairs = end2 s (end_sort out j (10 ∷ rest) q); left = drop_next out j 59 (10 ∷ rest) q }
  items_back rest (item1 {i} {e} {k} {m} {c} {x} {xs} w g h l) j q =
      let r = items_text xs ++ rest in
      let t = next_text xs ++ rest in
      let q' : drop j out ≡ shown x ++ r = q ∙ append_assoc (shown x) (items_text xs) rest in
      let d : drop (j + length (shown x)) out ≡ sep_of xs ∷ t = behind out j (shown x) r q' ∙ ap (λ (y : List ℕ). y ++ rest) (text_is xs) in
      let n = next_of kind src rest l in
      let b = drop_below out (j + length (shown x)) (sep_of xs) t d in
      let d' = drop_next out (j + length (shown x)) (sep_of xs) t d in
      let (lines, gap) = sep_gap kind xs out (j + length (shown x)) t (next_solid src k t n) d in
      let z = items_back rest l (j + length (shown x) + 1) d' in
      record {
        to = z.to;
        pairs = item2 (item_again i e j x r w q' (omega arith) (items_break xs rest)) g gap h (follow_again src out k (j + length (shown x) + 1) t n d' x h) z.pairs;
        left = z.left;
      }

-- What two sources have alike stands in each of them.
module _ (kind : ℕ) (src out : List ℕ) where
  pub item_there : {i j e f : ℕ} {x : Item} → Item2 kind src out i j e f x → Item1 kind out j f x
  item_there (quoted2 s1 s2 w v same) = quoted1 s2 v
  item_there (bare2 s1 s2 w v same) = bare1 s2 v
  item_there (named2 s1 s2 g1 g2 w v same) = named1 s2 g2 v
  item_there (empty2 s1 s2) = empty1 s2
  item_there (action2 s1 s2 a1 a2 t1 t2 is is') = action1 s2 a2 is'
  item_there (bar2 s1 s2) = bar1 s2

  pub item_here : {i j e f : ℕ} {x : Item} → Item2 kind src out i j e f x → Item1 kind src i e x
  item_here (quoted2 s1 s2 w v same) = quoted1 s1 w
  item_here (bare2 s1 s2 w v same) = bare1 s1 w
  item_here (named2 s1 s2 g1 g2 w v same) = named1 s1 g1 w
  item_here (empty2 s1 s2) = empty1 s1
  item_here (action2 s1 s2 a1 a2 t1 t2 is is') = action1 s1 a1 is
  item_here (bar2 s1 s2) = bar1 s1

  pub items_there : {i j c d : ℕ} {xs : List Item} → Items2 kind src out i j c d xs → Items1 kind out j d xs
  items_there (end2 s1 s2) = end1 s2
  items_there (item2 w g g' h h' rest) = item1 (item_there w) g' h' (items_there rest)

module _ (kind : ℕ) (src out : List ℕ) (text : Text src) where
  -- behind a colon, and before a good rest, the items of a rule stand again
  pub record TextBack (i f c : ℕ) (xs : List Item) (rest : List ℕ) : Type 0 where
    pub lines : ℕ
    pub gap : gap_at kind true out f ≡ Ok (f + 1, lines)
    pub back : ItemsBack kind src out text i (f + 1) c xs rest

  pub text_back : (rest : List ℕ) {i c : ℕ} {xs : List Item} → Items1 kind src i c xs → (f : ℕ) → drop f out ≡ items_text xs ++ rest → TextBack i f c xs rest
  text_back rest {i} {c} {xs} w f q =
      let t = next_text xs ++ rest in
      let d : drop f out ≡ sep_of xs ∷ t = q ∙ ap (λ (y : List ℕ). y ++ rest) (text_is xs) in
      let (lines, gap) = sep_gap kind xs out f t (next_solid src i t (next_of kind src rest w)) d in
      record { lines = lines; gap = gap; back = items_back kind src out text rest w (f + 1) (drop_next out f (sep_of xs) t d) }
