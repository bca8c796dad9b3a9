-- Declarations that stand in a source are what the pass writes. Assumes nothing.
use Rattle.std.specs.Prelude.{None, Result, Ok}
use Prim.Native.Nat.{ℕ, zero, suc, ◌+◌, ◌-◌, ◌≤◌, ◌<◌}
use mathlib.Core.Path.{◌≡◌, refl, sym, ◌∙◌, ap}
use mathlib.Core.List.{List, [], ◌∷◌, ◌++◌, append_assoc, append-nil}
use mathlib.Core.Bool.{Bool, true, false}
use native.Mathlib.Omega.{arith}
use lib.ListN.{length}
use lib.Seq.{slice}
use borrow.Author.Tests.{le-leb}
use Rattle.scan.specs.Loop.{more, turns}
use Rattle.scan.proofs.Bytes.{told}
use Rattle.words.specs.declared.IntError.{IntError}
use Rattle.words.specs.declared.QuoteError.{QuoteError}
use Rattle.words.specs.Words.{name_at, Named}
use Rattle.words.specs.Numbers.{int_at, Counted}
use Rattle.words.specs.Strings.{string_at, Stringed}
use Rattle.words.proofs.Words.{name_placed}
use Rattle.words.proofs.Numbers.{int_placed}
use Rattle.words.proofs.Strings.{string_placed}
use Rattle.texts.specs.Colon.{colon_text, colon_text_at}
use Rattle.trim.specs.Trim.{trimmed}
use Rattle.grammar.specs.State.{Gapped, gap_at}
use Rattle.grammar.proofs.Kept.{gapped}
use Rattle.keywords.specs.declared.Keyword.{Keyword}
use Rattle.keywords.specs.declared.Keyword.TheVariants.{Percents, TokenWord, ActiontypeWord, StartWord, EppWord, ExpectRrWord, ExpectUnusedWord, ExpectWord, AvoidInsertWord, ParseParamWord, ParseGenericsWord, ImplicitTokensWord, LeftWord, RightWord, NonassocWord, TypeWord, NoKeyword}
use Rattle.keywords.specs.declared.Seen.{Seen}
use Rattle.keywords.specs.Keywords.{Sees}
use Rattle.keywords.proofs.Laws.{sees}
use Rattle.marks.specs.Worded.{headless, bare}
use Rattle.lists.specs.declared.WordList.{WordList}
use Rattle.lists.specs.declared.WordList.TheVariants.{TokenList, UnusedList, TypeList}
use Rattle.lists.specs.Lists.{spelled_at}
use Rattle.lists.specs.Written.{Written, Leads, UnusedWord, over, word, rule, quote}
use Rattle.alike.specs.Like.{Kind}
use Rattle.alike.proofs.Again.{turns_more, turns_stop}
use Rattle.alike.proofs.Moved.{colon_lies}
use Rattle.alike.proofs.Agree.{clash}
use Rattle.printed.specs.Print.{words}
use Rattle.printed.specs.Stands.{WordAt, Spelled, Row1, end1 as row-end, more1, Lined, Single, name, integer, line, SingleAt, Given, Epped, Params}
use Rattle.printed.specs.Decls.{Decl, listed, lined, single, paired, param, spell, list_keyword, keyword_of, body_text, decl_text, decls_text, left, right, nonassoc, avoid_insert, implicit_tokens, NonEmpty, SeenTo, Decl1, listed1, prec1, names1, start1, expect1, actiontype1, generics1, epp1, param1, Decls1, end1, skip1, decl1}
use Rattle.printed.proofs.Words.{word_lies, word_further}
use Rattle.printed.proofs.Seen.{known, seen_fits}
use Rattle.shipper.specs.declared.Piece.{Piece}
use Rattle.shipper.specs.declared.Piece.TheVariants.{NamePiece, TokenPiece, SpelledPiece, IntPiece, StringPiece, LinePiece}
use Rattle.shipper.specs.Ship.{Shipped, passed, int_end, string_end, piece_end, word_turn, ship_words, ship_list, line_turn, line_words, ship_line, ship_one, ship_param, ship_epp, ship_word, ship_decl, onward, decls_turn, ship_decls}
use Rattle.shipper.proofs.Laws.{words_end, words_on, line_more, line_ends_lem, decls_turn_lem}
use Rattle.shipped.proofs.Rules.{made, onward_more, passed_is, name_end_lem, token_end_lem, colon_end_lem, past_colon_lem}

-- ---- a text in front of another

body_append : (d : Decl) (r : List ℕ) → body_text d [] ++ r ≡ body_text d r
body_append (listed what xs) r = append_assoc (words xs) (10 ∷ []) r
body_append (lined w xs) r = append_assoc (words xs) (10 ∷ []) r
body_append (single w x) r = ap (λ (y : List ℕ). 32 ∷ y) (append_assoc x (10 ∷ []) r)
body_append (paired x y) r = ap (λ (l : List ℕ). 32 ∷ l) (append_assoc x (32 ∷ (y ++ (10 ∷ []))) r ∙ ap (λ (l : List ℕ). x ++ (32 ∷ l)) (append_assoc y (10 ∷ []) r))
body_append (param x y) r = ap (λ (l : List ℕ). 32 ∷ l) (append_assoc x (58 ∷ (32 ∷ (y ++ (10 ∷ [])))) r ∙ ap (λ (l : List ℕ). x ++ (58 ∷ (32 ∷ l))) (append_assoc y (10 ∷ []) r))

pub decl_append : (d : Decl) (r : List ℕ) → decl_text d [] ++ r ≡ decl_text d r
decl_append d r = append_assoc (spell (keyword_of d)) (body_text d []) r ∙ ap (λ (y : List ℕ). spell (keyword_of d) ++ y) (body_append d r)

pub decls_append : (ds : List Decl) (r : List ℕ) → decls_text ds [] ++ r ≡ decls_text ds r
unfolding decls_text
decls_append [] r = refl
decls_append (d ∷ ds) r =
    ap (λ (y : List ℕ). y ++ r) (sym (decl_append d (decls_text ds [])))
    ∙ append_assoc (decl_text d []) (decls_text ds []) r
    ∙ ap (λ (y : List ℕ). decl_text d [] ++ y) (decls_append ds r)
    ∙ decl_append d (decls_text ds r)

-- ---- words

abbrev piece_of : WordList → Piece
piece_of TokenList = TokenPiece
piece_of UnusedList = SpelledPiece
piece_of TypeList = SpelledPiece

abbrev single_piece : Single → Piece
single_piece name = NamePiece
single_piece (integer v) = IntPiece
single_piece line = LinePiece

module _ (kind : ℕ) (src : List ℕ) where
  -- where a declaration goes on: inside the source
  abbrev Onward : ℕ → ℕ → Type 0
  Onward i k = i ≤ length src → (i ≤ k) × (k ≤ length src)

  -- one behind the other
  then : {i j k : ℕ} → Onward i j → Onward j k → Onward i k
  then f g h = let x = f h in let y = g x.1 in let a = x.0 in let b = y.0 in (omega arith, y.1)

  gap_on : (ok : Bool) (i j n : ℕ) → gap_at kind ok src i ≡ Ok (j, n) → Onward i j
  gap_on ok i j n g h = let z : Gapped src i (Ok (j, n)) = told (Gapped src i) g (gapped kind ok src i h) in let a = z.0 in (omega arith, z.1)

  unused_end : (i e : ℕ) (row : List ℕ) → UnusedWord src i e row → piece_end SpelledPiece src i ≡ e
  unfolding piece_end spelled_at
  unused_end i e row (rule h) = rw h
  unused_end i e row (quote n h) = rw (n, h)

  -- a word of a list, by where the pass has its end
  word_end : (what : WordList) (i e : ℕ) (x : List ℕ) → WordAt what src i e x → (piece_end (piece_of what) src i ≡ e) × (slice i e src ≡ x)
  word_end TokenList i e x w = (token_end_lem kind src i e x w, w.spelled)
  word_end UnusedList i e x w = (unused_end i e w.row w.is, w.spelled)
  word_end TypeList i e x w = absurd w

  single_end : (w : Single) (i e : ℕ) → SingleAt w src i e → piece_end (single_piece w) src i ≡ e
  unfolding piece_end
  single_end name i e h = name_end_lem kind src i e h
  single_end (integer v) i e h = ap (λ (x : Result (ℕ × ℕ) IntError). int_end x i) h
  single_end line i e h = h.0

  string_end_lem : (i e : ℕ) → string_at src i ≡ Ok e → piece_end StringPiece src i ≡ e
  unfolding piece_end
  string_end_lem i e h = ap (λ (x : Result ℕ QuoteError). string_end x i) h

  single_on : (w : Single) (i e : ℕ) → SingleAt w src i e → Onward i e
  single_on name i e h l = let y : Named src i (Ok e) = told (Named src i) h (name_placed src i (name_at src i) refl).1 in let a = y.0 in (omega arith, y.1)
  single_on (integer v) i e h l = let y : Counted src i (Ok (v, e)) = told (Counted src i) h (int_placed src i l (int_at src i) refl).1 in let a = y.0 in (omega arith, y.1)
  single_on line i e h l = let a = h.1 in let b = h.2 in (omega arith, omega arith)

  -- ---- lists

  words_from : (what : WordList) (n : ℕ) (t : List ℕ) {i k : ℕ} {xs : List (List ℕ)} → Written kind (WordAt what src) src i k xs → length src - i < n
      → turns n (word_turn kind (piece_of what) src) (made t i) ≡ made (t ++ words xs) k
  unfolding words
  words_from what zero t w h = absurd (omega arith)
  words_from what (suc n) t (over {i} e) h = turns_stop (word_turn kind (piece_of what) src) n _ _ (words_end kind src i (piece_of what) true (sym e) refl t) ∙ ap (λ (y : List ℕ). made y i) (sym (append-nil t))
  words_from what (suc n) t (word {i} {end} {k = m} {n = c} {j} {x} {xs} e w g l) h =
      let f = word_further what kind src i end m c x w g in
      let a = f.0 in
      let b = f.1 in
      let z = word_end what i end x w in
      let o : word_turn kind (piece_of what) src (made t i) ≡ more (made (t ++ (32 ∷ x)) m) =
      words_on kind src i (piece_of what) false (sym e) refl end (sym z.0) (word_lies what src i end x w).0 m (sym (passed_is kind src true end m c g)) t ∙ ap (λ (y : List ℕ). more (made (t ++ (32 ∷ y)) m)) z.1 in
      turns_more (word_turn kind (piece_of what) src) n _ _ o ∙ words_from what n (t ++ (32 ∷ x)) l (omega arith) ∙ ap (λ (y : List ℕ). made y j) (append_assoc t (32 ∷ x) (words xs))

  words_onward : (what : WordList) {i k : ℕ} {xs : List (List ℕ)} → Written kind (WordAt what src) src i k xs → Onward i k
  words_onward what (over e) h = (omega arith, h)
  words_onward what (word {i} {end} {k = m} {n = c} {x = x} e w g l) h = let f = word_further what kind src i end m c x w g in let y = words_onward what l f.1 in let a = f.0 in let b = y.0 in (omega arith, y.1)

  -- in kinds 1 to 3 no tag stands in front
  lead_is : (what : WordList) {i j : ℕ} → Leads what kind src i j None → j ≡ i
  lead_is TokenList (headless e) = refl
  lead_is TokenList (bare z w q) = refl
  lead_is UnusedList l = l.0
  lead_is TypeList (headless e) = refl
  lead_is TypeList (bare z w q) = refl

  module _ (what : WordList) (head : List ℕ) where
    written_shipped : {i k : ℕ} {xs : List (List ℕ)} → NonEmpty xs → Written kind (WordAt what src) src i k xs → ship_list kind head (piece_of what) src i ≡ made (head ++ (words xs ++ (10 ∷ []))) k
    unfolding ship_list ship_words
    written_shipped s (over e) = absurd s
    written_shipped s (word e w g l) = rw (e, ship_list) (ap (λ (o : Shipped). made (head ++ (o.text ++ (10 ∷ []))) o.at) (words_from what (suc (length src)) [] (word e w g l) (omega arith)))

    written_none : {i k : ℕ} → Written kind (WordAt what src) src i k [] → ship_list kind head (piece_of what) src i ≡ made [] k
    unfolding ship_list
    written_none (over e) = rw (e, ship_list)

    module _ (at k : ℕ) (xs : List (List ℕ)) (l : Spelled what kind src at k xs) where
      list_from_lem : l.head ≡ passed kind false src at
      list_from_lem = lead_is what l.lead ∙ sym (passed_is kind src false at l.from l.lines l.gap)

      list_words : Written kind (WordAt what src) src (passed kind false src at) k xs
      list_words = told (λ (i : ℕ). Written kind (WordAt what src) src i k xs) list_from_lem l.words

      list_onward : Onward at k
      list_onward = then (gap_on false at l.from l.lines l.gap) (words_onward what (told (λ (i : ℕ). Written kind (WordAt what src) src i k xs) (lead_is what l.lead) l.words))

      -- A list with a word in it is shipped; one with none is left out.
      pub list_shipped : NonEmpty xs → ship_list kind head (piece_of what) src (passed kind false src at) ≡ record { text = head ++ (words xs ++ (10 ∷ [])); at = k }
      list_shipped s = written_shipped s list_words

    pub list_none : (at k : ℕ) → Spelled what kind src at k [] → ship_list kind head (piece_of what) src (passed kind false src at) ≡ record { text = []; at = k }
    list_none at k l = written_none (list_words at k [] l)

  -- ---- lines

  line_from : (n : ℕ) (t : List ℕ) {i k : ℕ} {xs : List (List ℕ)} → Row1 kind src i k xs → length src - i < n → turns n (line_turn kind src) (made t i) ≡ made (t ++ words xs) k
  unfolding words
  line_from zero t w h = absurd (omega arith)
  line_from (suc n) t (row-end {i} {e} {k} {n = c} {x} w g z) h =
      turns_stop (line_turn kind src) n _ _ (line_ends_lem kind src i e (sym (token_end_lem kind src i e x w)) (word_lies TokenList src i e x w).0 (Ok (k, c)) (sym g) k c refl (λ q. omega arith) t)
      ∙ ap (λ (y : List ℕ). made (t ++ (32 ∷ y)) k) (w.spelled ∙ sym (append-nil x))
  line_from (suc n) t (more1 {i} {e} {m} {k} {n = c} {x} {xs} w g z l) h =
      let f = word_further TokenList kind src i e m c x w g in
      let a = f.0 in
      let b = f.1 in
      let o : line_turn kind src (made t i) ≡ more (made (t ++ (32 ∷ x)) m) =
      line_more kind src i e (sym (token_end_lem kind src i e x w)) (word_lies TokenList src i e x w).0 (Ok (m, c)) (sym g) m c refl z t ∙ ap (λ (y : List ℕ). more (made (t ++ (32 ∷ y)) m)) w.spelled in
      turns_more (line_turn kind src) n _ _ o ∙ line_from n (t ++ (32 ∷ x)) l (omega arith) ∙ ap (λ (y : List ℕ). made y k) (append_assoc t (32 ∷ x) (words xs))

  row_onward : {i k : ℕ} {xs : List (List ℕ)} → Row1 kind src i k xs → Onward i k
  row_onward (row-end {i} {e} {k} {n = c} {x} w g z) h = let f = word_further TokenList kind src i e k c x w g in let a = f.0 in (omega arith, f.1)
  row_onward (more1 {i} {e} {m} {k} {n = c} {x} {xs} w g z l) h = let f = word_further TokenList kind src i e m c x w g in let y = row_onward l f.1 in let a = f.0 in let b = y.0 in (omega arith, y.1)

  module _ (head : List ℕ) (at k : ℕ) where
    -- A line that gives precedence or names,
    pub line_shipped : (xs : List (List ℕ)) → Lined kind src at k xs → ship_line kind head src (passed kind false src at) ≡ record { text = head ++ (words xs ++ (10 ∷ [])); at = k }
    unfolding ship_line line_words
    line_shipped xs l = rw (passed_is kind src false at l.from l.lines l.gap) (ap (λ (o : Shipped). made (head ++ (o.text ++ (10 ∷ []))) o.at) (line_from (suc (length src)) [] l.row (omega arith)))

    -- one name, integer or text,
    pub one_shipped : (w : Single) (x : List ℕ) → Given w kind src at k x → ship_one kind head (single_piece w) src (passed kind false src at) ≡ record { text = head ++ (32 ∷ (x ++ (10 ∷ []))); at = k }
    unfolding ship_one
    one_shipped w x g = rw (passed_is kind src false at g.from g.lines g.gap, single_end w g.from g.to g.is, g.spelled, passed_is kind src true g.to k g.more g.on)

    -- a key and its string,
    pub epp_shipped : (x y : List ℕ) → Epped kind src at k x y → ship_epp kind head src (passed kind false src at) ≡ record { text = head ++ (32 ∷ (x ++ (32 ∷ (y ++ (10 ∷ []))))); at = k }
    unfolding ship_epp
    epp_shipped x y g =
        rw (
          passed_is kind src false at g.from g.lines g.gap,
          token_end_lem kind src g.from g.to x g.key,
          g.key.spelled,
          passed_is kind src false g.to g.value g.apart g.between,
          string_end_lem g.value g.end g.text,
          g.spelled,
          passed_is kind src true g.end k g.more g.on,
        )

    -- and a parameter and its type.
    pub param_shipped : (x y : List ℕ) → at ≤ length src → Params kind src at k x y → ship_param kind head src (passed kind false src at) ≡ record { text = head ++ (32 ∷ (x ++ (58 ∷ (32 ∷ (y ++ (10 ∷ [])))))); at = k }
    unfolding ship_param colon_text_at colon_text
    param_shipped x y h g =
        let a = gap_on false at g.from g.lines g.gap h in
        let c = colon_lies src g.from g.colon g.counted a.1 g.is in
        let t = g.type in
        rw (
          passed_is kind src false at g.from g.lines g.gap,
          colon_end_lem kind src g.from g.colon g.counted (trimmed src g.from g.colon) (ap (λ (z : Result (ℕ × ℕ) ℕ). colon_text src g.from z) g.is),
          g.spelled,
          past_colon_lem kind src g.colon c.2,
          passed_is kind src false (g.colon + 1) t.from t.lines t.gap,
          single_end line t.from t.to t.is,
          t.spelled,
          passed_is kind src true t.to k t.more t.on,
        )

  -- ---- declarations

  line_onward : (at k : ℕ) (xs : List (List ℕ)) → Lined kind src at k xs → Onward at k
  line_onward at k xs l = then (gap_on false at l.from l.lines l.gap) (row_onward l.row)

  one_onward : (w : Single) (at k : ℕ) (x : List ℕ) → Given w kind src at k x → Onward at k
  one_onward w at k x g = then (gap_on false at g.from g.lines g.gap) (then (single_on w g.from g.to g.is) (gap_on true g.to k g.more g.on))

  epp_onward : (at k : ℕ) (x y : List ℕ) → Epped kind src at k x y → Onward at k
  epp_onward at k x y g = then (gap_on false at g.from g.lines g.gap) (then (key (word_lies TokenList src g.from g.to x g.key)) (then (gap_on false g.to g.value g.apart g.between) (then text (gap_on true g.end k g.more g.on))))
    where
      key : (g.from < g.to) × (g.to ≤ length src) → Onward g.from g.to
      key z h = let a = z.0 in (omega arith, z.1)

      text : Onward g.value g.end
      text h = let z : Stringed src g.value (Ok g.end) = told (Stringed src g.value) g.text (string_placed src g.value (string_at src g.value) refl).1 in let a = z.0 in (omega arith, z.1)

  param_onward : (at k : ℕ) (x y : List ℕ) → Params kind src at k x y → Onward at k
  param_onward at k x y g = then (gap_on false at g.from g.lines g.gap) (then text (one_onward line (g.colon + 1) k y g.type))
    where
      text : Onward g.from (g.colon + 1)
      text h = let z = colon_lies src g.from g.colon g.counted h g.is in let a = z.0 in let b = z.1 in (omega arith, omega arith)

  -- what the pass writes at i, and where it comes to stand, which is further on
  record Went (i k : ℕ) (x : List ℕ) : Type 0 where
    is : ship_decl kind src i ≡ made x k
    on : i ≤ length src → (i < k) × (k ≤ length src)

  word_is : (i j : ℕ) (w : Keyword) → SeenTo kind src i w j → ship_decl kind src i ≡ ship_word w kind src i (passed kind false src j)
  unfolding ship_decl
  word_is i j w e = ap (λ (s : Seen). ship_word s.word kind src i (passed kind false src s.end)) e

  seen_on : (i j : ℕ) (w : Keyword) → SeenTo kind src i w j → (w ≡ NoKeyword → ⊥) → i ≤ length src → (i + 1 < j) × (j ≤ length src)
  seen_on i j w e d h = let s : Sees src i (record { word = w; end = j }) = told (Sees src i) e (sees kind src i h) in (s.beyond d, s.inside)

  went : (i j k : ℕ) (w : Keyword) (x : List ℕ) → SeenTo kind src i w j → (w ≡ NoKeyword → ⊥) → ship_word w kind src i (passed kind false src j) ≡ made x k → Onward j k → Went i k x
  went i j k w x e d s o = record { is = word_is i j w e ∙ s; on = λ h. let a = seen_on i j w e d h in let b = o a.1 in let c = a.0 in let f = b.0 in (omega arith, b.1) }

  module _ (kinds : Kind kind) (i k : ℕ) where
    decl_went : (d : Decl) → Decl1 kind src i k d → Went i k (decl_text d [])
    decl_went d (listed1 TokenList {xs} j e s l) = went i j k TokenWord _ e (λ z. clash cc) (list_shipped TokenList (spell TokenWord) j k xs l s) (list_onward TokenList [] j k xs l)
    decl_went d (listed1 UnusedList {xs} j e s l) = went i j k ExpectUnusedWord _ e (λ z. clash cc) (list_shipped UnusedList (spell ExpectUnusedWord) j k xs l s) (list_onward UnusedList [] j k xs l)
    decl_went d (listed1 TypeList j e s l) = absurd (known kinds src i j TypeWord e (λ z. clash cc))
    decl_went d (prec1 {xs = xs} j left e l) = went i j k LeftWord _ e (λ z. clash cc) (line_shipped (spell LeftWord) j k xs l) (line_onward j k xs l)
    decl_went d (prec1 {xs = xs} j right e l) = went i j k RightWord _ e (λ z. clash cc) (line_shipped (spell RightWord) j k xs l) (line_onward j k xs l)
    decl_went d (prec1 {xs = xs} j nonassoc e l) = went i j k NonassocWord _ e (λ z. clash cc) (line_shipped (spell NonassocWord) j k xs l) (line_onward j k xs l)
    decl_went d (names1 {xs = xs} j avoid_insert e l) = went i j k AvoidInsertWord _ e (λ z. clash cc) (line_shipped (spell AvoidInsertWord) j k xs l) (line_onward j k xs l)
    decl_went d (names1 {xs = xs} j implicit_tokens e l) = went i j k ImplicitTokensWord _ e (λ z. clash cc) (line_shipped (spell ImplicitTokensWord) j k xs l) (line_onward j k xs l)
    decl_went d (start1 {x} j e l) = went i j k StartWord _ e (λ z. clash cc) (one_shipped (spell StartWord) j k name x l) (one_onward name j k x l)
    decl_went d (expect1 true v {x} j e l) = went i j k ExpectRrWord _ e (λ z. clash cc) (one_shipped (spell ExpectRrWord) j k (integer v) x l) (one_onward (integer v) j k x l)
    decl_went d (expect1 false v {x} j e l) = went i j k ExpectWord _ e (λ z. clash cc) (one_shipped (spell ExpectWord) j k (integer v) x l) (one_onward (integer v) j k x l)
    decl_went d (actiontype1 {x} j e l) = went i j k ActiontypeWord _ e (λ z. clash cc) (one_shipped (spell ActiontypeWord) j k line x l) (one_onward line j k x l)
    decl_went d (generics1 {x} j e l) = went i j k ParseGenericsWord _ e (λ z. clash cc) (one_shipped (spell ParseGenericsWord) j k line x l) (one_onward line j k x l)
    decl_went d (epp1 {x} {y} j e l) = went i j k EppWord _ e (λ z. clash cc) (epp_shipped (spell EppWord) j k x y l) (epp_onward j k x y l)
    decl_went d (param1 {x} {y} j e l) = went i j k ParseParamWord _ e (λ z. clash cc) (param_shipped (spell ParseParamWord) j k x y (seen_fits src kind i j ParseParamWord e (λ z. clash cc)) l) (param_onward j k x y l)

    skip_went : (what : WordList) (j : ℕ) → SeenTo kind src i (list_keyword what) j → Spelled what kind src j k [] → Went i k []
    skip_went TokenList j e l = went i j k TokenWord _ e (λ z. clash cc) (list_none TokenList (spell TokenWord) j k l) (list_onward TokenList [] j k [] l)
    skip_went UnusedList j e l = went i j k ExpectUnusedWord _ e (λ z. clash cc) (list_none UnusedList (spell ExpectUnusedWord) j k l) (list_onward UnusedList [] j k [] l)
    skip_went TypeList j e l = absurd (known kinds src i j TypeWord e (λ z. clash cc))

    -- A declaration that stands in the source is what the pass writes,
    pub decl_shipped : {d : Decl} → Decl1 kind src i k d → ship_decl kind src i ≡ record { text = decl_text d []; at = k }
    decl_shipped {d} w = (decl_went d w).is

    -- a list with no word is left out,
    pub skip_shipped : (what : WordList) (j : ℕ) → SeenTo kind src i (list_keyword what) j → Spelled what kind src j k [] → ship_decl kind src i ≡ record { text = []; at = k }
    skip_shipped what j e l = (skip_went what j e l).is

  module _ (kinds : Kind kind) where
    -- a turn of the loop: it moves on, or stops at the `%%`
    turn_on : (n : ℕ) (t x : List ℕ) (i k : ℕ) → i ≤ length src → Went i k x → turns (suc n) (decls_turn kind src) (made t i) ≡ turns n (decls_turn kind src) (made (t ++ x) k)
    turn_on n t x i k h w =
        let f = w.on h in
        let a = f.0 in
        let b = f.1 in
        turns_more (decls_turn kind src) n _ _ (onward_more (decls_turn kind src) t x i k (ship_decl kind src i) (decls_turn_lem kind src i (omega arith) t) w.is a)

    turn_ends : (n : ℕ) (t : List ℕ) (i j : ℕ) → i ≤ length src → SeenTo kind src i Percents j → turns (suc n) (decls_turn kind src) (made t i) ≡ made (t ++ []) i
    turn_ends n t i j h e =
        let f = seen_on i j Percents e (λ z. clash cc) h in
        let a = f.0 in
        let b = f.1 in
        turns_stop (decls_turn kind src) n _ _ (decls_turn_lem kind src i (omega arith) t ∙ ap (λ (p : Shipped). onward (made t i) p) (word_is i j Percents e) ∙ rw (le-leb i i (omega arith), onward))

    decls_from : (n : ℕ) (t : List ℕ) {i k : ℕ} {ds : List Decl} → Decls1 kind src i k ds → i ≤ length src → length src - i < n → turns n (decls_turn kind src) (made t i) ≡ made (t ++ decls_text ds []) k
    unfolding decls_text
    decls_from zero t w l h = absurd (omega arith)
    decls_from (suc n) t (end1 {i} j e) l h = turn_ends n t i j l e
    decls_from (suc n) t (skip1 {i} {j} {k} {ds} what e s w rest) l h =
        let g = skip_went kinds i j what e s w in
        let f = g.on l in
        let a = f.0 in
        let b = f.1 in
        turn_on n t [] i j l g ∙ ap (λ (y : List ℕ). turns n (decls_turn kind src) (made y j)) (append-nil t) ∙ decls_from n t rest f.1 (omega arith)
    decls_from (suc n) t (decl1 {i} {j} {k} {d} {ds} w rest) l h =
        let g = decl_went kinds i j d w in
        let f = g.on l in
        let a = f.0 in
        let b = f.1 in
        turn_on n t (decl_text d []) i j l g ∙ decls_from n (t ++ decl_text d []) rest f.1 (omega arith)
        ∙ ap (λ (y : List ℕ). made y k) (append_assoc t (decl_text d []) (decls_text ds []) ∙ ap (λ (y : List ℕ). t ++ y) (decl_append d (decls_text ds [])))

    -- and all declarations are, up to the `%%`, where the pass stays.
    pub decls_shipped : {i k : ℕ} {ds : List Decl} → i ≤ length src → Decls1 kind src i k ds → ship_decls kind src i ≡ record { text = decls_text ds []; at = k }
    unfolding ship_decls
    decls_shipped l w = decls_from (suc (length src)) [] w l (omega arith)
