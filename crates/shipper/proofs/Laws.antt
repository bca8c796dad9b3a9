-- What the functions' proofs cite. Assumes nothing.
use Rattle.std.specs.Prelude.{Result, Ok, Err}
use Prim.Native.Nat.{ℕ, zero, suc, ◌+◌, ◌≤◌, ◌<◌}
use mathlib.Core.Path.{◌≡◌, refl, sym, ◌∙◌, ap}
use mathlib.Core.List.{List, [], ◌∷◌, ◌++◌}
use mathlib.Core.Bool.{Bool, true, false, ◌&&◌}
use native.Mathlib.Omega.{arith}
use native.Mathlib.Numerals.{add-one}
use lib.Dec.{eqb}
use lib.ListN.{length, get_or, set, take, drop_of_length-le}
use lib.Seq.{slice, slice-cons, length-take-le, take-length}
use borrow.Author.Tests.{lt-ltb, le-ltb, le-leb, lt-leb, eq-eqb, ne_eqb}
use Rattle.scan.specs.Scan.{is_at, starts_at}
use Rattle.scan.specs.Loop.{Turn, more, stop, turns, Left}
use Rattle.scan.proofs.Bytes.{told, starts_fits}
use Rattle.scan.proofs.Loop.{left_start, left_more, left_stop}
use Rattle.scan.specs.declared.Place.{Place}
use Rattle.words.specs.declared.IntError.{IntError}
use Rattle.words.specs.declared.QuoteError.{QuoteError}
use Rattle.words.specs.Words.{name_at, token_at}
use Rattle.words.specs.Numbers.{int_at}
use Rattle.words.specs.Strings.{string_at}
use Rattle.texts.specs.Line.{line_end_at}
use Rattle.texts.specs.Colon.{colon_text_at}
use Rattle.texts.specs.Action.{action_at}
use Rattle.grammar.specs.declared.Refusal.{Refusal}
use Rattle.grammar.specs.State.{Passed, gap_at}
use Rattle.keywords.specs.declared.Keyword.{Keyword}
use Rattle.keywords.specs.declared.Seen.{Seen}
use Rattle.keywords.specs.Keywords.{seen_at}
use Rattle.items.specs.declared.Sort.{Sort}
use Rattle.items.specs.declared.Spotted.{Spotted}
use Rattle.items.specs.Items.{sort_at}
use Rattle.lists.specs.Lists.{spelled_at, ends}
use Rattle.shipper.specs.declared.Piece.{Piece}
use Rattle.shipper.specs.declared.Piece.TheVariants.{NamePiece, TokenPiece, SpelledPiece, IntPiece, StringPiece, LinePiece, ColonPiece, ActionPiece}
use Rattle.shipper.specs.Ship.{ship_words, ship_list, line_words, ship_line, ship_one, ship_param, ship_epp, ship_word, ship_decls, item_of, ship_items, ship_head, ship_rules, ship_programs, ship_all, has_arrow, rules_from, onward, word_turn, line_gap, line_turn, ship_decl, decls_turn, is_end, ship_item, items_turn, ship_rule, percents, rules_turn, Shipped, joined, gap_end, passed, name_end, token_end, spelling_end, int_end, string_end, colon_end, action_end, piece_end, past_colon, spaced}
use Rattle.shipper.specs.Emit.{Emitted, next_count, emit, Wrote, wrote}

-- ---- bytes out

pub next_on : (n : ℕ) → n < 65537 → n + 1 ≡ next_count n
unfolding next_count
next_on n h = rw (lt-ltb n 65537 h, next_count)

pub next_stay : (n : ℕ) → 65537 ≤ n → n ≡ next_count n
unfolding next_count
next_stay n h = rw (le-ltb n 65537 h, next_count)

pub byte_is : (n r c : ℕ) (out cells : List ℕ) → r ≡ next_count n → cells ≡ set out n c → record { n = r; cells = cells } ≡ emit (c ∷ []) n out
unfolding emit
byte_is n r c out cells e f = rw (e, f)

-- what is made of two texts, one behind the other
pub emit_append : (a b : List ℕ) (n : ℕ) (cells : List ℕ) → emit (a ++ b) n cells ≡ emit b (emit a n cells).n (emit a n cells).cells
unfolding emit
emit_append [] b n cells = refl
emit_append (x ∷ xs) b n cells = emit_append xs b (next_count n) (set cells n x)

module _ (src : List ℕ) (i to m : ℕ) (out : List ℕ) (R : Emitted) (h : to ≤ length src) (inv : emit (slice i to src) m out ≡ R) where
  pub part_end : to ≤ i → record { n = m; cells = out } ≡ R
  unfolding emit
  part_end e =
      let d : slice i to src ≡ [] = drop_of_length-le (take to src) {i = i} (rw (length-take-le to src h) e) in
      rw (d, emit) at inv

  pub part_on : i < to → (r : ℕ) (cells : List ℕ) → record { n = r; cells = cells } ≡ emit (get_or src i 0 ∷ []) m out → emit (slice (i + 1) to src) r cells ≡ R
  unfolding emit
  part_on l r cells e =
      let a : r ≡ next_count m = ap (λ (x : Emitted). x.n) e in
      let b : cells ≡ set out m (get_or src i 0) = ap (λ (x : Emitted). x.cells) e in
      let c : slice i to src ≡ get_or src i 0 ∷ slice (i + 1) to src = rw add-one (slice-cons i to src 0 l h) in
      rw (a, b) (rw (c, emit) at inv)

-- all of a text is its part from 0 to its length
pub text_is : (s : List ℕ) (n : ℕ) (out : List ℕ) (E : Emitted) → E ≡ emit (slice 0 (length s) s) n out → E ≡ emit s n out
text_is s n out E e = e ∙ ap (λ (x : List ℕ). emit x n out) (take-length s)

-- ---- one text behind another, by what each function says that it wrote

abbrev bytes_out : Wrote → Emitted
bytes_out w = record { n = w.n; cells = w.cells }

abbrev placed : ℕ → Emitted → Wrote
placed k x = record { at = k; n = x.n; cells = x.cells }

module _ (n p : ℕ) (out out1 : List ℕ) where
  -- bytes behind bytes
  pub emit_then : (a b : List ℕ) → record { n = p; cells = out1 } ≡ emit a n out → (q : ℕ) (out2 : List ℕ) → record { n = q; cells = out2 } ≡ emit b p out1 → record { n = q; cells = out2 } ≡ emit (a ++ b) n out
  emit_then a b e q out2 f = f ∙ ap (λ (x : Emitted). emit b x.n x.cells) e ∙ sym (emit_append a b n out)

  -- a step behind bytes
  pub wrote_behind : (a : List ℕ) (o : Shipped) → record { n = p; cells = out1 } ≡ emit a n out → (W : Wrote) → W ≡ wrote o p out1 → W ≡ wrote (record { text = a ++ o.text; at = o.at }) n out
  wrote_behind a o e W f = f ∙ ap (λ (x : Emitted). placed o.at (emit o.text x.n x.cells)) e ∙ ap (λ (x : Emitted). placed o.at x) (sym (emit_append a o.text n out))

  module _ (k : ℕ) (o : Shipped) (e : record { at = k; n = p; cells = out1 } ≡ wrote o n out) where
    -- bytes behind a step
    pub wrote_then : (b : List ℕ) (q : ℕ) (out2 : List ℕ) → record { n = q; cells = out2 } ≡ emit b p out1 → record { at = k; n = q; cells = out2 } ≡ wrote (record { text = o.text ++ b; at = o.at }) n out
    wrote_then b q out2 f =
        let g : record { n = p; cells = out1 } ≡ emit o.text n out = ap (λ (x : Wrote). bytes_out x) e in
        let l : k ≡ o.at = ap (λ (x : Wrote). x.at) e in
        ap (λ (x : Emitted). placed k x) (emit_then o.text b g q out2 f) ∙ ap (λ (y : ℕ). placed y (emit (o.text ++ b) n out)) l

    -- a step behind a step
    pub wrote_joined : (r : Shipped) (W : Wrote) → W ≡ wrote r p out1 → W ≡ wrote (joined o r) n out
    wrote_joined r W f = wrote_behind o.text r (ap (λ (x : Wrote). bytes_out x) e) W f

-- bytes, and where the source is then
pub wrote_at : (t : List ℕ) (at k n q : ℕ) (out cells : List ℕ) → record { n = q; cells = cells } ≡ emit t n out → k ≡ at → record { at = k; n = q; cells = cells } ≡ wrote (record { text = t; at = at }) n out
wrote_at t at k n q out cells e l = ap (λ (x : Emitted). placed k x) e ∙ ap (λ (y : ℕ). placed y (emit t n out)) l

-- nothing written, nothing passed
pub wrote_none : (at n : ℕ) (out : List ℕ) → record { at = at; n = n; cells = out } ≡ wrote (record { text = []; at = at }) n out
unfolding emit
wrote_none at n out = refl

-- a place behind one that lies further on
pub passed_from : (src : List ℕ) (i j k : ℕ) → i ≤ j → Passed src j k → Passed src i k
passed_from src i j k h p = let l = p.onward in record { onward = omega arith; inside = p.inside }

-- ---- ends, by what the callee answered

module _ (src : List ℕ) (at : ℕ) where
  pub gap_is : (kind : ℕ) (ok : Bool) (t u : Result (ℕ × ℕ) Refusal) → t ≡ gap_at kind ok src at → t ≡ u → gap_end u at ≡ passed kind ok src at
  unfolding passed
  gap_is kind ok t u e f = ap (λ (x : Result (ℕ × ℕ) Refusal). gap_end x at) (sym f ∙ e)

  pub name_is : (t u : Result ℕ ℕ) → t ≡ name_at src at → t ≡ u → name_end u at ≡ piece_end NamePiece src at
  unfolding piece_end
  name_is t u e f = ap (λ (x : Result ℕ ℕ). name_end x at) (sym f ∙ e)

  pub token_is : (t u : Result (Place × ℕ × Bool) ℕ) → t ≡ token_at src at → t ≡ u → token_end u at ≡ piece_end TokenPiece src at
  unfolding piece_end
  token_is t u e f = ap (λ (x : Result (Place × ℕ × Bool) ℕ). token_end x at) (sym f ∙ e)

  pub spelled_is : (t u : Result (ℕ × ℕ × ℕ × ℕ) ℕ) → t ≡ spelled_at src at → t ≡ u → spelling_end u at ≡ piece_end SpelledPiece src at
  unfolding piece_end
  spelled_is t u e f = ap (λ (x : Result (ℕ × ℕ × ℕ × ℕ) ℕ). spelling_end x at) (sym f ∙ e)

  pub int_is : (t u : Result (ℕ × ℕ) IntError) → t ≡ int_at src at → t ≡ u → int_end u at ≡ piece_end IntPiece src at
  unfolding piece_end
  int_is t u e f = ap (λ (x : Result (ℕ × ℕ) IntError). int_end x at) (sym f ∙ e)

  pub string_is : (t u : Result ℕ QuoteError) → t ≡ string_at src at → t ≡ u → string_end u at ≡ piece_end StringPiece src at
  unfolding piece_end
  string_is t u e f = ap (λ (x : Result ℕ QuoteError). string_end x at) (sym f ∙ e)

  pub line_is : (e : ℕ) → e ≡ line_end_at src at → e ≡ piece_end LinePiece src at
  unfolding piece_end
  line_is e h = h

  pub colon_is : (t u : Result (ℕ × ℕ × Place) ℕ) → t ≡ colon_text_at src at → t ≡ u → colon_end u at ≡ piece_end ColonPiece src at
  unfolding piece_end
  colon_is t u e f = ap (λ (x : Result (ℕ × ℕ × Place) ℕ). colon_end x at) (sym f ∙ e)

  pub action_none : length src ≤ at → at ≡ piece_end ActionPiece src at
  unfolding piece_end
  action_none h = rw (le-leb (length src) at h, piece_end)

  pub action_is : at < length src → (t u : Result (ℕ × ℕ × Place × Place) ℕ) → t ≡ action_at src at → t ≡ u → action_end u at ≡ piece_end ActionPiece src at
  unfolding piece_end
  action_is h t u e f = rw (lt-leb (length src) at h, piece_end) (ap (λ (x : Result (ℕ × ℕ × Place × Place) ℕ). action_end x at) (sym f ∙ e))

  pub colon_past : (q : Bool) → q ≡ is_at 58 src at → q ≡ true → at + 1 ≡ past_colon src at
  unfolding past_colon
  colon_past q e f = rw (← e, f, past_colon)

  pub colon_stays : (q : Bool) → q ≡ is_at 58 src at → q ≡ false → at ≡ past_colon src at
  unfolding past_colon
  colon_stays q e f = rw (← e, f, past_colon)

  -- the piece asked for is the one that was found
  pub piece_of : {what p : Piece} → what ≡ p → (e : ℕ) → e ≡ piece_end p src at → e ≡ piece_end what src at
  piece_of f e h = h ∙ ap (λ (x : Piece). piece_end x src at) (sym f)

  pub ends_out : length src ≤ at → true ≡ ends src at
  unfolding ends
  ends_out h = rw (le-leb (length src) at h, ends)

  pub ends_here : at < length src → eqb (get_or src at 0) 37 ≡ ends src at
  unfolding ends
  ends_here h = rw (lt-leb (length src) at h, ends)

-- ---- tests and pieces

module _ (kind : ℕ) (src : List ℕ) (at : ℕ) where
  pub arrow_not : (kind ≡ 2 → ⊥) → false ≡ has_arrow kind src at
  unfolding has_arrow
  arrow_not h = rw (ne_eqb kind 2 h, has_arrow)

  pub arrow_is : (q : Bool) → kind ≡ 2 → q ≡ starts_at (45 ∷ 62 ∷ []) src at → q ≡ has_arrow kind src at
  unfolding has_arrow
  arrow_is q h e = rw (eq-eqb kind 2 h, has_arrow) e

  module _ (q : Bool) (is : q ≡ starts_at percents src at) where
    pub rules_behind : q ≡ true → (k : ℕ) → k ≡ passed kind true src (at + 2) → k ≡ rules_from kind src at
    unfolding rules_from
    rules_behind h k g = rw (← is, h, rules_from) g

    pub rules_here : q ≡ false → at ≡ rules_from kind src at
    unfolding rules_from
    rules_here h = rw (← is, h, rules_from)

  -- a piece with a space before it, and the spacing behind it
  pub piece_wrote : (what : Piece) (n e : ℕ) → e ≡ piece_end what src at → (k : ℕ) → k ≡ passed kind true src e → (out : List ℕ) (q : ℕ) (out1 : List ℕ) → record { n = q; cells = out1 } ≡ emit (spaced src at e) n out
      → record { at = k; n = q; cells = out1 } ≡ wrote (record { text = spaced src at (piece_end what src at); at = passed kind true src (piece_end what src at) }) n out
  piece_wrote what n e w k g out q out1 f =
      wrote_at (spaced src at (piece_end what src at)) (passed kind true src (piece_end what src at)) k n q out out1 (f ∙ ap (λ (x : ℕ). emit (spaced src at x) n out) w) (g ∙ ap (λ (x : ℕ). passed kind true src x) w)

  pub arrow_fits : (q : Bool) → q ≡ has_arrow kind src at → q ≡ true → at + 2 ≤ length src
  unfolding has_arrow
  arrow_fits q e h = starts_fits (45 ∷ 62 ∷ []) src at (and_right (eqb kind 2) (starts_at (45 ∷ 62 ∷ []) src at) (sym e ∙ h)) (omega arith)
    where
      and_right : (x y : Bool) → (x && y) ≡ true → y ≡ true
      and_right true y f = f
      and_right false y f = let z : ◌≡◌ {A = ℕ} 0 1 = cc in absurd (omega arith)

-- the mark's text and a piece behind it
pub prec_wrote : (kind : ℕ) (src word : List ℕ) (e c : ℕ) → c ≡ passed kind true src e → (n p : ℕ) (out out1 : List ℕ) → record { n = p; cells = out1 } ≡ emit word n out → (w : Wrote)
    → w ≡ wrote (record { text = spaced src c (piece_end TokenPiece src c); at = passed kind true src (piece_end TokenPiece src c) }) p out1
    → w ≡ wrote (record { text = word ++ spaced src (passed kind true src e) (piece_end TokenPiece src (passed kind true src e)); at = passed kind true src (piece_end TokenPiece src (passed kind true src e)) }) n out
prec_wrote kind src word e c g n p out out1 a w b = wrote_behind n p out out1 word _ a w b ∙ ap (λ (x : ℕ). to x) g
  where
    to : ℕ → Wrote
    to x = wrote (record { text = word ++ spaced src x (piece_end TokenPiece src x); at = passed kind true src (piece_end TokenPiece src x) }) n out

-- ---- declarations and heads: the places that the code found are the definition's

same3 : (f : ℕ → ℕ → ℕ → Wrote) {a b c x y z : ℕ} → a ≡ x → b ≡ y → c ≡ z → f a b c ≡ f x y z
same3 f p q r = rw (p, q, r)

module _ (kind : ℕ) (src word : List ℕ) (i : ℕ) where
  module _ (what : Piece) (q : Bool) (is : q ≡ ends src i) where
    pub list_none : q ≡ true → (n : ℕ) (out : List ℕ) → record { at = i; n = n; cells = out } ≡ wrote (ship_list kind word what src i) n out
    unfolding ship_list emit
    list_none h n out = rw (← is, h, ship_list)

    pub list_wrote : q ≡ false → (n m : ℕ) (out out1 : List ℕ) → record { n = m; cells = out1 } ≡ emit word n out
        → (k p : ℕ) (out2 : List ℕ) → record { at = k; n = p; cells = out2 } ≡ wrote (ship_words kind what src i) m out1
        → (r : ℕ) (out3 : List ℕ) → record { n = r; cells = out3 } ≡ emit (10 ∷ []) p out2 → record { at = k; n = r; cells = out3 } ≡ wrote (ship_list kind word what src i) n out
    unfolding ship_list
    list_wrote h n m out out1 a k p out2 b r out3 c = rw (← is, h, ship_list) (wrote_behind n m out out1 word _ a _ (wrote_then m p out1 out2 k _ b (10 ∷ []) r out3 c))

  pub line_wrote : (n m : ℕ) (out out1 : List ℕ) → record { n = m; cells = out1 } ≡ emit word n out
      → (k p : ℕ) (out2 : List ℕ) → record { at = k; n = p; cells = out2 } ≡ wrote (line_words kind src i) m out1
      → (r : ℕ) (out3 : List ℕ) → record { n = r; cells = out3 } ≡ emit (10 ∷ []) p out2 → record { at = k; n = r; cells = out3 } ≡ wrote (ship_line kind word src i) n out
  unfolding ship_line
  line_wrote n m out out1 a k p out2 b r out3 c = wrote_behind n m out out1 word _ a _ (wrote_then m p out1 out2 k _ b (10 ∷ []) r out3 c)

  pub one_wrote : (what : Piece) (e : ℕ) → e ≡ piece_end what src i → (k : ℕ) → k ≡ passed kind true src e → (n m : ℕ) (out out1 : List ℕ) → record { n = m; cells = out1 } ≡ emit word n out
      → (p : ℕ) (out2 : List ℕ) → record { n = p; cells = out2 } ≡ emit (spaced src i e) m out1
      → (r : ℕ) (out3 : List ℕ) → record { n = r; cells = out3 } ≡ emit (10 ∷ []) p out2 → record { at = k; n = r; cells = out3 } ≡ wrote (ship_one kind word what src i) n out
  unfolding ship_one
  one_wrote what e w k g n m out out1 a p out2 b r out3 c =
      wrote_at _ _ k n r out out3 (emit_then n m out out1 word _ a r out3 (emit_then m p out1 out2 (spaced src i e) (10 ∷ []) b r out3 c)) g ∙ ap (λ (x : ℕ). to x) w
    where
      to : ℕ → Wrote
      to x = wrote (record { text = word ++ (spaced src i x ++ (10 ∷ [])); at = passed kind true src x }) n out

  module _ (e k l z n m : ℕ) (out out1 : List ℕ) (a : record { n = m; cells = out1 } ≡ emit word n out) (y : z ≡ passed kind true src l)
      (p : ℕ) (out2 : List ℕ) (b : record { n = p; cells = out2 } ≡ emit (spaced src i e) m out1) where
    pub param_wrote : e ≡ piece_end ColonPiece src i → (j : ℕ) → j ≡ past_colon src e → k ≡ passed kind false src j → l ≡ piece_end LinePiece src k
        → (p1 : ℕ) (out3 : List ℕ) → record { n = p1; cells = out3 } ≡ emit (58 ∷ []) p out2
        → (p2 : ℕ) (out4 : List ℕ) → record { n = p2; cells = out4 } ≡ emit (spaced src k l) p1 out3
        → (r : ℕ) (out5 : List ℕ) → record { n = r; cells = out5 } ≡ emit (10 ∷ []) p2 out4 → record { at = z; n = r; cells = out5 } ≡ wrote (ship_param kind word src i) n out
    unfolding ship_param
    param_wrote w j c g h p1 out3 d p2 out4 f r out5 t =
        let u : k ≡ passed kind false src (past_colon src (piece_end ColonPiece src i)) = g ∙ ap (λ (x : ℕ). passed kind false src x) (c ∙ ap (λ (x : ℕ). past_colon src x) w) in
        let q : l ≡ piece_end LinePiece src (passed kind false src (past_colon src (piece_end ColonPiece src i))) = h ∙ ap (λ (x : ℕ). piece_end LinePiece src x) u in
        wrote_at _ _ z n r out out5 (emit_then n m out out1 word _ a r out5 (emit_then m p out1 out2 (spaced src i e) _ b r out5 (emit_then p p1 out2 out3 (58 ∷ []) _ d r out5 (emit_then p1 p2 out3 out4 (spaced src k l) (10 ∷ []) f r out5 t)))) y ∙ same3 to w u q
      where
        to : ℕ → ℕ → ℕ → Wrote
        to e k l = wrote (record { text = word ++ (spaced src i e ++ (58 ∷ (spaced src k l ++ (10 ∷ [])))); at = passed kind true src l }) n out

    pub epp_wrote : e ≡ piece_end TokenPiece src i → k ≡ passed kind false src e → l ≡ piece_end StringPiece src k
        → (p1 : ℕ) (out3 : List ℕ) → record { n = p1; cells = out3 } ≡ emit (spaced src k l) p out2
        → (r : ℕ) (out4 : List ℕ) → record { n = r; cells = out4 } ≡ emit (10 ∷ []) p1 out3 → record { at = z; n = r; cells = out4 } ≡ wrote (ship_epp kind word src i) n out
    unfolding ship_epp
    epp_wrote w g h p1 out3 d r out4 t =
        let u : k ≡ passed kind false src (piece_end TokenPiece src i) = g ∙ ap (λ (x : ℕ). passed kind false src x) w in
        let q : l ≡ piece_end StringPiece src (passed kind false src (piece_end TokenPiece src i)) = h ∙ ap (λ (x : ℕ). piece_end StringPiece src x) u in
        wrote_at _ _ z n r out out4 (emit_then n m out out1 word _ a r out4 (emit_then m p out1 out2 (spaced src i e) _ b r out4 (emit_then p p1 out2 out3 (spaced src k l) (10 ∷ []) d r out4 t))) y ∙ same3 to w u q
      where
        to : ℕ → ℕ → ℕ → Wrote
        to e k l = wrote (record { text = word ++ (spaced src i e ++ (spaced src k l ++ (10 ∷ []))); at = passed kind true src l }) n out

module _ (kind : ℕ) (src : List ℕ) (i : ℕ) where
  module _ (n : ℕ) (out : List ℕ) (w : Wrote) where
    -- the keyword or the sort asked for is the one that was found
    pub word_wrote : {x y : Keyword} → x ≡ y → (j : ℕ) → w ≡ wrote (ship_word y kind src i j) n out → w ≡ wrote (ship_word x kind src i j) n out
    word_wrote f j e = e ∙ ap (λ (x : Keyword). wrote (ship_word x kind src i j) n out) (sym f)

    pub sort_wrote : {x y : Sort} → x ≡ y → (j : ℕ) → w ≡ wrote (item_of y kind src i j) n out → w ≡ wrote (item_of x kind src i j) n out
    sort_wrote f j e = e ∙ ap (λ (x : Sort). wrote (item_of x kind src i j) n out) (sym f)

    pub decl_wrote : (s : Seen) → s ≡ seen_at kind src i → (j : ℕ) → j ≡ passed kind false src s.end → w ≡ wrote (ship_word s.word kind src i j) n out → w ≡ wrote (ship_decl kind src i) n out
    unfolding ship_decl
    decl_wrote s is j g e = e ∙ ap (λ (x : ℕ). wrote (ship_word s.word kind src i x) n out) g ∙ ap (λ (x : Seen). to x) is
      where
        to : Seen → Wrote
        to x = wrote (ship_word x.word kind src i (passed kind false src x.end)) n out

    pub item_wrote : (s : Spotted) → s ≡ sort_at src i → w ≡ wrote (item_of s.sort kind src i s.end) n out → w ≡ wrote (ship_item kind src i) n out
    unfolding ship_item
    item_wrote s is e = e ∙ ap (λ (x : Spotted). wrote (item_of x.sort kind src i x.end) n out) is

    pub rule_wrote : (k p : ℕ) (out1 : List ℕ) → record { at = k; n = p; cells = out1 } ≡ wrote (ship_head kind src i) n out → w ≡ wrote (ship_items kind src k) p out1 → w ≡ wrote (ship_rule kind src i) n out
    unfolding ship_rule
    rule_wrote k p out1 a b =
        let l : k ≡ (ship_head kind src i).at = ap (λ (x : Wrote). x.at) a in
        wrote_joined n p out out1 k (ship_head kind src i) a (ship_items kind src k) w b ∙ ap (λ (x : ℕ). wrote (joined (ship_head kind src i) (ship_items kind src x)) n out) l

    -- a rule's head, without a type and with one
    module _ (e : ℕ) (h : e ≡ piece_end NamePiece src i) (j : ℕ) (g : j ≡ passed kind true src e) (m : ℕ) (out1 : List ℕ) (a : record { n = m; cells = out1 } ≡ emit (slice i e src) n out) (q : Bool)
        (is : q ≡ has_arrow kind src j) where
      spot : j ≡ passed kind true src (piece_end NamePiece src i)
      spot = g ∙ ap (λ (x : ℕ). passed kind true src x) h

      arrow : q ≡ has_arrow kind src (passed kind true src (piece_end NamePiece src i))
      arrow = is ∙ ap (λ (x : ℕ). has_arrow kind src x) spot

      pub head_plain : q ≡ false → (c : ℕ) → c ≡ past_colon src j → w ≡ wrote (record { text = 58 ∷ []; at = passed kind true src c }) m out1 → w ≡ wrote (ship_head kind src i) n out
      unfolding ship_head
      head_plain f c r b = rw (← arrow, f, ship_head) (wrote_behind n m out out1 (slice i e src) _ a w b ∙ same3 to h (r ∙ ap (λ (x : ℕ). past_colon src x) spot) h)
        where
          to : ℕ → ℕ → ℕ → Wrote
          to e c x = wrote (record { text = slice i e src ++ (58 ∷ []); at = passed kind true src c }) n out

      pub head_typed : q ≡ true → (p : ℕ) (out2 : List ℕ) → record { n = p; cells = out2 } ≡ emit (32 ∷ 45 ∷ 62 ∷ []) m out1 → (k : ℕ) → k ≡ passed kind true src (j + 2) → (l : ℕ) → l ≡ piece_end ColonPiece src k
          → (t : ℕ) (out3 : List ℕ) → record { n = t; cells = out3 } ≡ emit (spaced src k l) p out2 → (c : ℕ) → c ≡ past_colon src l → w ≡ wrote (record { text = 58 ∷ []; at = passed kind true src c }) t out3
          → w ≡ wrote (ship_head kind src i) n out
      unfolding ship_head
      head_typed f p out2 b k y l z t out3 d c r v =
          let u : k ≡ passed kind true src (passed kind true src (piece_end NamePiece src i) + 2) = y ∙ ap (λ (x : ℕ). passed kind true src (x + 2)) spot in
          let s : l ≡ piece_end ColonPiece src (passed kind true src (passed kind true src (piece_end NamePiece src i) + 2)) = z ∙ ap (λ (x : ℕ). piece_end ColonPiece src x) u in
          rw (← arrow, f, ship_head)
          (wrote_behind n m out out1 (slice i e src) _ a w (wrote_behind m p out1 out2 (32 ∷ 45 ∷ 62 ∷ []) _ b w (wrote_behind p t out2 out3 (spaced src k l) _ d w (v ∙ ap (λ (x : ℕ). wrote (record { text = 58 ∷ []; at = passed kind true src x }) t out3) r)))
          ∙ same3 to h u s)
        where
          to : ℕ → ℕ → ℕ → Wrote
          to e k l = wrote (record { text = slice i e src ++ (32 ∷ 45 ∷ 62 ∷ (spaced src k l ++ (58 ∷ []))); at = passed kind true src (past_colon src l) }) n out

    module _ (q : Bool) (is : q ≡ starts_at percents src i) where
      pub programs_none : q ≡ false → w ≡ record { at = i; n = n; cells = out } → w ≡ wrote (ship_programs kind src i) n out
      unfolding ship_programs emit
      programs_none h e = rw (← is, h, ship_programs) e

      pub programs_wrote : q ≡ true → (m : ℕ) (out1 : List ℕ) → record { n = m; cells = out1 } ≡ emit (37 ∷ 37 ∷ 10 ∷ []) n out → (k : ℕ) → k ≡ passed kind true src (i + 2)
          → (r : ℕ) (out2 : List ℕ) → record { n = r; cells = out2 } ≡ emit (slice k (length src) src) m out1 → w ≡ record { at = length src; n = r; cells = out2 } → w ≡ wrote (ship_programs kind src i) n out
      unfolding ship_programs
      programs_wrote h m out1 a k g r out2 b e =
          rw (← is, h, ship_programs) (e ∙ wrote_at _ _ (length src) n r out out2 (emit_then n m out out1 (37 ∷ 37 ∷ 10 ∷ []) _ a r out2 b) refl ∙ ap (λ (x : ℕ). to x) g)
        where
          to : ℕ → Wrote
          to x = wrote (record { text = 37 ∷ 37 ∷ 10 ∷ slice x (length src) src; at = length src }) n out

-- the whole text
pub all_wrote : (kind : ℕ) (src out : List ℕ) (z : ℕ) → z ≡ passed kind true src 0 → (k p : ℕ) (out1 : List ℕ) → record { at = k; n = p; cells = out1 } ≡ wrote (ship_decls kind src z) 0 out
    → (p1 : ℕ) (out2 : List ℕ) → record { n = p1; cells = out2 } ≡ emit (37 ∷ 37 ∷ 10 ∷ []) p out1 → (j : ℕ) → j ≡ rules_from kind src k
    → (l p2 : ℕ) (out3 : List ℕ) → record { at = l; n = p2; cells = out3 } ≡ wrote (ship_rules kind src j) p1 out2
    → (w : Wrote) → w ≡ wrote (ship_programs kind src l) p2 out3 → record { n = w.n; cells = w.cells } ≡ emit (ship_all kind src) 0 out
unfolding ship_all
all_wrote kind src out z y k p out1 d p1 out2 a j g l p2 out3 r w f =
    let u : j ≡ rules_from kind src (ship_decls kind src (passed kind true src 0)).at = g ∙ ap (λ (x : ℕ). rules_from kind src x) (ap (λ (x : Wrote). x.at) d ∙ ap (λ (x : ℕ). (ship_decls kind src x).at) y) in
    let s : l ≡ (ship_rules kind src (rules_from kind src (ship_decls kind src (passed kind true src 0)).at)).at = ap (λ (x : Wrote). x.at) r ∙ ap (λ (x : ℕ). (ship_rules kind src x).at) u in
    emit_then 0 p out out1 (ship_decls kind src z).text _ (ap (λ (x : Wrote). bytes_out x) d) w.n w.cells
    (emit_then p p1 out1 out2 (37 ∷ 37 ∷ 10 ∷ []) _ a w.n w.cells (emit_then p1 p2 out2 out3 (ship_rules kind src j).text (ship_programs kind src l).text (ap (λ (x : Wrote). bytes_out x) r) w.n w.cells (ap (λ (x : Wrote). bytes_out x) f)))
    ∙ ap (λ (x : ℕ). to x j l) y ∙ ap (λ (x : ℕ). to (passed kind true src 0) x l) u ∙ ap (λ (x : ℕ). to (passed kind true src 0) (rules_from kind src (ship_decls kind src (passed kind true src 0)).at) x) s
  where
    to : ℕ → ℕ → ℕ → Emitted
    to z j l = emit ((ship_decls kind src z).text ++ (37 ∷ 37 ∷ 10 ∷ ((ship_rules kind src j).text ++ (ship_programs kind src l).text))) 0 out

-- ---- loops: turns that add a piece, and go on from where it ends

-- what is written so far by a loop that began at `at`: the text made, and the turns left, more than `left`
pub record Sofar (f : Shipped → Turn Shipped) (most at n : ℕ) (out₀ : List ℕ) (left i m : ℕ) (out : List ℕ) : Type 0 where
  pub text : List ℕ
  pub rest : Left f (record { text = []; at = at }) most left (record { text = text; at = i })
  pub made : record { n = m; cells = out } ≡ emit text n out₀

pub sofar_start : (f : Shipped → Turn Shipped) (most at n : ℕ) (out : List ℕ) (left : ℕ) → left < most → Sofar f most at n out left at n out
unfolding emit
sofar_start f most at n out left h = record { text = []; rest = left_start _ _ _ _ h; made = refl }

module _ (f : Shipped → Turn Shipped) (most at n : ℕ) (out₀ : List ℕ) (left i m : ℕ) (out : List ℕ) (s : Sofar f most at n out₀ left i m out) where
  -- the loop ends where it stands
  pub sofar_done : ((t : List ℕ) → f (record { text = t; at = i }) ≡ stop (record { text = t; at = i })) → record { at = i; n = m; cells = out } ≡ wrote (turns most f (record { text = []; at = at })) n out₀
  sofar_done t = wrote_at s.text i i n m out₀ out s.made refl ∙ ap (λ (o : Shipped). wrote o n out₀) (sym (left_stop f _ s.rest (t s.text)))

  -- it ends behind one more piece
  pub sofar_last : (p : Shipped) → ((t : List ℕ) → f (record { text = t; at = i }) ≡ stop (record { text = t ++ p.text; at = p.at })) → (w : Wrote) → w ≡ wrote p m out
      → w ≡ wrote (turns most f (record { text = []; at = at })) n out₀
  sofar_last p t w e = wrote_behind n m out₀ out s.text p s.made w e ∙ ap (λ (o : Shipped). wrote o n out₀) (sym (left_stop f _ s.rest (t s.text)))

  -- it goes on behind a piece
  pub sofar_on : (p : Shipped) → ((t : List ℕ) → f (record { text = t; at = i }) ≡ more (record { text = t ++ p.text; at = p.at })) → (k q : ℕ) (out2 : List ℕ) → record { at = k; n = q; cells = out2 } ≡ wrote p m out
      → (less : ℕ) → less < left → Sofar f most at n out₀ less k q out2
  sofar_on p t k q out2 e less h =
      let l : p.at ≡ k = sym (ap (λ (x : Wrote). x.at) e) in
      let g : record { n = q; cells = out2 } ≡ emit p.text m out = ap (λ (x : Wrote). bytes_out x) e in
      record {
        text = s.text ++ p.text;
        rest = told (λ (y : ℕ). Left f (record { text = []; at = at }) most less (record { text = s.text ++ p.text; at = y })) l (left_more f _ s.rest less (t s.text) h);
        made = emit_then n m out₀ out s.text p.text s.made q out2 g;
      }

  -- pieces as long as they move on
  module _ (p : Shipped) (t : (x : List ℕ) → f (record { text = x; at = i }) ≡ onward (record { text = x; at = i }) p) (k q : ℕ) (out2 : List ℕ) (e : record { at = k; n = q; cells = out2 } ≡ wrote p m out) where
    place : p.at ≡ k
    place = sym (ap (λ (x : Wrote). x.at) e)

    pub sofar_stays : k ≤ i → record { at = k; n = q; cells = out2 } ≡ wrote (turns most f (record { text = []; at = at })) n out₀
    sofar_stays h = sofar_last p (λ x. t x ∙ rw (le-leb p.at i (rw place h), onward)) _ e

    pub sofar_moves : i < k → (less : ℕ) → less < left → Sofar f most at n out₀ less k q out2
    sofar_moves h less l = sofar_on p (λ x. t x ∙ rw (lt-leb p.at i (rw place h), onward)) k q out2 e less l

-- one turn of each loop, by what the code finds

module _ (kind : ℕ) (src : List ℕ) (i : ℕ) where
  abbrev Stops : (Shipped → Turn Shipped) → Type 0
  Stops f = (t : List ℕ) → f (record { text = t; at = i }) ≡ stop (record { text = t; at = i })

  -- a turn ends the loop behind a piece of the source, or goes on behind it
  abbrev Lasts : (Shipped → Turn Shipped) → ℕ → ℕ → Type 0
  Lasts f e k = (t : List ℕ) → f (record { text = t; at = i }) ≡ stop (record { text = t ++ spaced src i e; at = k })

  abbrev Goes : (Shipped → Turn Shipped) → ℕ → ℕ → Type 0
  Goes f e k = (t : List ℕ) → f (record { text = t; at = i }) ≡ more (record { text = t ++ spaced src i e; at = k })

  module _ (what : Piece) (q : Bool) (is : q ≡ ends src i) where
    pub words_end : q ≡ true → Stops (word_turn kind what src)
    unfolding word_turn
    words_end h t = rw (← is, h, word_turn)

    module _ (h : q ≡ false) (e : ℕ) (w : e ≡ piece_end what src i) where
      pub words_none : e ≤ i → Stops (word_turn kind what src)
      unfolding word_turn
      words_none l t = rw (← is, h, word_turn, ← w, le-leb e i l)

      pub words_on : i < e → (k : ℕ) → k ≡ passed kind true src e → Goes (word_turn kind what src) e k
      unfolding word_turn
      words_on l k g t = rw (← is, h, word_turn, ← w, lt-leb e i l, ← w, ← g)

  module _ (e : ℕ) (w : e ≡ piece_end TokenPiece src i) where
    pub line_none : e ≤ i → Stops (line_turn kind src)
    unfolding line_turn
    line_none l t = rw (line_turn, ← w, le-leb e i l)

    module _ (l : i < e) (g : Result (ℕ × ℕ) Refusal) (r : g ≡ gap_at kind true src e) where
      line_gap_lem : (u : Result (ℕ × ℕ) Refusal) → g ≡ u → (t : List ℕ) → line_turn kind src (record { text = t; at = i }) ≡ line_gap u (t ++ spaced src i e) e
      unfolding line_turn
      line_gap_lem u f t = rw (line_turn, ← w, lt-leb e i l, ← w, ← r, f)

      pub line_more : (j lines : ℕ) → g ≡ Ok (j, lines) → lines ≡ 0 → Goes (line_turn kind src) e j
      line_more j lines f z t = line_gap_lem _ (rw z at f) t

      pub line_ends_lem : (j lines : ℕ) → g ≡ Ok (j, lines) → (lines ≡ 0 → ⊥) → Lasts (line_turn kind src) e j
      line_ends_lem j zero f z t = absurd (z refl)
      line_ends_lem j (suc n) f z t = line_gap_lem _ f t

      pub line_refused : (x : Refusal) → g ≡ Err x → Lasts (line_turn kind src) e e
      line_refused x f t = line_gap_lem _ f t

  pub decls_end : length src ≤ i → Stops (decls_turn kind src)
  unfolding decls_turn
  decls_end h t = rw (le-leb (length src) i h, decls_turn)

  pub decls_turn_lem : i < length src → (t : List ℕ) → decls_turn kind src (record { text = t; at = i }) ≡ onward (record { text = t; at = i }) (ship_decl kind src i)
  unfolding decls_turn
  decls_turn_lem h t = rw (lt-leb (length src) i h, decls_turn)

  module _ (s : Spotted) (f : s ≡ sort_at src i) (q : Bool) (is : q ≡ is_end s.sort) where
    last_of : q ≡ is_end (sort_at src i).sort
    last_of = is ∙ ap (λ (x : Spotted). is_end x.sort) f

    pub items_last : q ≡ true → (t : List ℕ) → items_turn kind src (record { text = t; at = i }) ≡ stop (record { text = t ++ (ship_item kind src i).text; at = (ship_item kind src i).at })
    unfolding items_turn
    items_last h t = rw (← last_of, h, items_turn)

    pub items_turn_lem : q ≡ false → (t : List ℕ) → items_turn kind src (record { text = t; at = i }) ≡ onward (record { text = t; at = i }) (ship_item kind src i)
    unfolding items_turn
    items_turn_lem h t = rw (← last_of, h, items_turn)

  pub rules_end : length src ≤ i → Stops (rules_turn kind src)
  unfolding rules_turn
  rules_end h t = rw (le-leb (length src) i h, rules_turn)

  module _ (h : i < length src) (q : Bool) (is : q ≡ starts_at percents src i) where
    pub rules_mark : q ≡ true → Stops (rules_turn kind src)
    unfolding rules_turn
    rules_mark f t = rw (lt-leb (length src) i h, ← is, f, rules_turn)

    pub rules_turn_lem : q ≡ false → (t : List ℕ) → rules_turn kind src (record { text = t; at = i }) ≡ onward (record { text = t; at = i }) (ship_rule kind src i)
    unfolding rules_turn
    rules_turn_lem f t = rw (lt-leb (length src) i h, ← is, f, rules_turn)
