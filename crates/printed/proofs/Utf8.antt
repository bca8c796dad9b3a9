-- The text of declarations that stand in a text is a text. Assumes nothing.
use Rattle.std.specs.Prelude.{Ok}
use Prim.Native.Nat.{ℕ, ◌+◌, ◌≤◌, ◌<◌}
use mathlib.Core.Path.{◌≡◌, refl, sym}
use mathlib.Core.List.{List, [], ◌∷◌, ◌++◌, append_assoc}
use mathlib.Core.Bool.{Bool, true, false, not, ◌&&◌, and-eq-true_iff, false≢true}
use mathlib.Core.Logic.{inl, ⊎_elim}
use native.Mathlib.Omega.{arith}
use borrow.Author.Tests.{eqb-true, ltb-true}
use lib.Dec.{eqb, ltb}
use lib.ListN.{length, get_or, take}
use lib.Seq.{slice}
use Rattle.scan.specs.Scan.{in_class, is_eol}
use Rattle.scan.proofs.Bytes.{told}
use Rattle.whole.specs.Encode.{Text}
use Rattle.whole.proofs.Boundaries.{between, begins_boundary, ascii_behind}
use Rattle.texts.proofs.Meaning.{edge_boundary}
use Rattle.keywords.specs.declared.Keyword.{Keyword}
use Rattle.keywords.specs.declared.Keyword.TheVariants.{TokenWord, ActiontypeWord, StartWord, EppWord, ExpectRrWord, ExpectUnusedWord, ExpectWord, AvoidInsertWord, ParseParamWord, ParseGenericsWord, ImplicitTokensWord, LeftWord, RightWord, NonassocWord, TypeWord, NoKeyword}
use Rattle.grammar.specs.State.{Gapped}
use Rattle.grammar.proofs.Kept.{gapped}
use Rattle.lists.specs.declared.WordList.{WordList}
use Rattle.lists.specs.declared.WordList.TheVariants.{TokenList, UnusedList, TypeList}
use Rattle.lists.specs.Written.{Written, UnusedWord, over, word, rule, quote}
use Rattle.alike.specs.Like.{Kind}
use Rattle.alike.proofs.Front.{either}
use Rattle.alike.proofs.Moved.{colon_lies}
use Rattle.alike.proofs.Utf8.{text_append, text_byte, name_text, int_text, token_text, string_text}
use Rattle.alike.proofs.Agree.{clash}
use Rattle.printed.specs.Print.{words}
use Rattle.printed.specs.Stands.{WordAt, Row1, end1, more1, Single, name, integer, line, SingleAt, Given}
use Rattle.printed.specs.Decls.{Decl, spell, decl_text, decls_text, left, right, nonassoc, avoid_insert, implicit_tokens, SeenTo, Decl1, listed1, prec1, names1, start1, expect1, actiontype1, generics1, epp1, param1, Decls1, end1 as all-over, skip1, decl1}
use Rattle.printed.proofs.Seen.{known, seen_edge, seen_fits}
use Rattle.printed.proofs.Singles.{line_runs}

cons_text : (c : ℕ) (l : List ℕ) → c < 128 → Text l → Text (c ∷ l)
cons_text c l h x = text_append (c ∷ []) l (text_byte c h) x

-- bytes that are all below 128
abbrev low128 : List ℕ → Bool
low128 [] = true
low128 (c ∷ cs) = ltb c 128 && low128 cs

-- words that are texts
abbrev Texts : List (List ℕ) → Type 0
Texts [] = Unit {0}
Texts (x ∷ xs) = Text x × Texts xs

words_text : (xs : List (List ℕ)) (rest : List ℕ) → Texts xs → Text rest → Text (words xs ++ rest)
unfolding words
words_text [] rest t r = r
words_text (x ∷ xs) rest t r = cons_text 32 _ (omega arith) (told Text (sym (append_assoc x (words xs) rest)) (text_append x (words xs ++ rest) t.0 (words_text xs rest t.1 r)))

module _ (src : List ℕ) (t : Text src) where
  -- a word of a list
  word_text : (what : WordList) (i e : ℕ) (x : List ℕ) → WordAt what src i e x → Text x
  word_text TokenList i e x w = told Text w.spelled (token_text src t i e w.place w.quoted w.is)
  word_text UnusedList i e x w = told Text w.spelled (go w.row w.is)
    where
      go : (row : List ℕ) → UnusedWord src i e row → Text (slice i e src)
      go row (rule h) = name_text src t i e h
      go row (quote {p = p} n h) = token_text src t i e p true h
  word_text TypeList i e x w = absurd w

  written_texts : (kind : ℕ) (what : WordList) {i k : ℕ} {xs : List (List ℕ)} → Written kind (WordAt what src) src i k xs → Texts xs
  written_texts kind what (over e) = tt
  written_texts kind what (word {i} {end} {x = x} e w g l) = (word_text what i end x w, written_texts kind what l)

  row_texts : (kind : ℕ) {i k : ℕ} {xs : List (List ℕ)} → Row1 kind src i k xs → Texts xs
  row_texts kind (end1 {i} {e} {x = x} w g h) = (word_text TokenList i e x w, tt)
  row_texts kind (more1 {i} {e} {x = x} w g h r) = (word_text TokenList i e x w, row_texts kind r)

  -- a line end is below 128
  eol_low : (c : ℕ) → not (is_eol c) ≡ false → c < 128
  unfolding is_eol
  eol_low c h = ⊎_elim (λ e. let z = eqb-true c 10 e in omega arith) (λ e. let z = eqb-true c 13 e in omega arith) (either (eqb c 10) (eqb c 13) (back (is_eol c) h))
    where
      back : (b : Bool) → not b ≡ false → b ≡ true
      back true h = refl
      back false h = absurd (false≢true (sym h))

  -- what is given behind a keyword at whose end a code point begins
  given_text : (w : Single) (kind at k : ℕ) (x : List ℕ) → at ≤ length src → Text (take at src) → Given w kind src at k x → Text x
  unfolding in_class
  given_text w kind at k x h b g = told Text g.spelled (go w g.is)
    where
      y : Gapped src at (Ok (g.from, g.lines))
      y = told (Gapped src at) g.gap (gapped kind false src at h)

      go : (w : Single) → SingleAt w src g.from g.to → Text (slice g.from g.to src)
      go name z = name_text src t g.from g.to z
      go (integer v) z = int_text src t g.from g.to v y.1 z
      go line z =
          let a = z.1 in
          let c = z.2 in
          let r = line_runs src g.from y.1 in
          let e = told (λ (j : ℕ). j < length src → not (is_eol (get_or src j 0)) ≡ false) z.0 r.stops in
          between src g.from g.to (omega arith) (edge_boundary src t at g.from b y.1 y.2) (begins_boundary src t g.to c (inl (eol_low _ (e c))))

  -- Each declaration, in front of a text,
  module _ (kind : ℕ) (kinds : Kind kind) (i k : ℕ) (rest : List ℕ) (r : Text rest) where
    low : Text (10 ∷ rest)
    low = cons_text 10 rest (omega arith) r

    -- behind its keyword
    edge : (w : Keyword) (j : ℕ) → SeenTo kind src i w j → (w ≡ NoKeyword → ⊥) → (j ≤ length src) × Text (take j src)
    edge w j e d = (seen_fits src kind i j w e d, seen_edge src t kind i j w e d)

    one : (w : Keyword) (j : ℕ) (s : Single) (x : List ℕ) → SeenTo kind src i w j → (w ≡ NoKeyword → ⊥) → Given s kind src j k x → Text (32 ∷ (x ++ (10 ∷ rest)))
    one w j s x e d g = let y = edge w j e d in cons_text 32 _ (omega arith) (text_append x (10 ∷ rest) (given_text s kind j k x y.0 y.1 g) low)

    -- an ASCII text in front of a text
    ascii_text : (l body : List ℕ) → low128 l ≡ true → Text body → Text (l ++ body)
    ascii_text [] body h b = b
    ascii_text (c ∷ cs) body h b = let y = (and-eq-true_iff (ltb c 128) (low128 cs)).0 h in cons_text c (cs ++ body) (ltb-true c 128 y.0) (ascii_text cs body y.1 b)

    pub decl_text_lem : (d : Decl) → Decl1 kind src i k d → Text (decl_text d rest)
    decl_text_lem d (listed1 TokenList {xs} j e some l) = ascii_text (spell TokenWord) _ refl (words_text xs (10 ∷ rest) (written_texts kind TokenList l.words) low)
    decl_text_lem d (listed1 UnusedList {xs} j e some l) = ascii_text (spell ExpectUnusedWord) _ refl (words_text xs (10 ∷ rest) (written_texts kind UnusedList l.words) low)
    decl_text_lem d (listed1 TypeList j e some l) = absurd (known kinds src i j TypeWord e (λ z. clash cc))
    decl_text_lem d (prec1 {xs = xs} j left e l) = ascii_text (spell LeftWord) _ refl (words_text xs (10 ∷ rest) (row_texts kind l.row) low)
    decl_text_lem d (prec1 {xs = xs} j right e l) = ascii_text (spell RightWord) _ refl (words_text xs (10 ∷ rest) (row_texts kind l.row) low)
    decl_text_lem d (prec1 {xs = xs} j nonassoc e l) = ascii_text (spell NonassocWord) _ refl (words_text xs (10 ∷ rest) (row_texts kind l.row) low)
    decl_text_lem d (names1 {xs = xs} j avoid_insert e l) = ascii_text (spell AvoidInsertWord) _ refl (words_text xs (10 ∷ rest) (row_texts kind l.row) low)
    decl_text_lem d (names1 {xs = xs} j implicit_tokens e l) = ascii_text (spell ImplicitTokensWord) _ refl (words_text xs (10 ∷ rest) (row_texts kind l.row) low)
    decl_text_lem d (start1 {x} j e l) = ascii_text (spell StartWord) _ refl (one StartWord j name x e (λ z. clash cc) l)
    decl_text_lem d (expect1 true v {x} j e l) = ascii_text (spell ExpectRrWord) _ refl (one ExpectRrWord j (integer v) x e (λ z. clash cc) l)
    decl_text_lem d (expect1 false v {x} j e l) = ascii_text (spell ExpectWord) _ refl (one ExpectWord j (integer v) x e (λ z. clash cc) l)
    decl_text_lem d (actiontype1 {x} j e l) = ascii_text (spell ActiontypeWord) _ refl (one ActiontypeWord j line x e (λ z. clash cc) l)
    decl_text_lem d (generics1 {x} j e l) = ascii_text (spell ParseGenericsWord) _ refl (one ParseGenericsWord j line x e (λ z. clash cc) l)
    decl_text_lem d (epp1 {x = x} {y = y} j e l) =
        ascii_text (spell EppWord) _ refl
        (cons_text 32 _ (omega arith) (text_append x _ (word_text TokenList l.from l.to x l.key)
        (cons_text 32 _ (omega arith) (text_append y (10 ∷ rest) (told Text l.spelled (string_text src t l.value l.end l.text)) low))))
    decl_text_lem d (param1 {x = x} {y = y} j e l) =
        let z = edge ParseParamWord j e (λ z. clash cc) in
        let g : Gapped src j (Ok (l.from, l.lines)) = told (Gapped src j) l.gap (gapped kind false src j z.0) in
        let c = colon_lies src l.from l.colon l.counted g.1 l.is in
        let c1 = c.1 in
        let c2 = c.2 in
        let type = given_text line kind (l.colon + 1) k y (omega arith) (ascii_behind src t l.colon c1 (omega arith)) l.type in
        ascii_text (spell ParseParamWord) _ refl
        (cons_text 32 _ (omega arith) (text_append x _ l.text (cons_text 58 _ (omega arith) (cons_text 32 _ (omega arith) (text_append y (10 ∷ rest) type low)))))

  -- and all of them.
  pub decls_text_lem : (kind : ℕ) → Kind kind → {i k : ℕ} {ds : List Decl} → Decls1 kind src i k ds → (rest : List ℕ) → Text rest → Text (decls_text ds rest)
  unfolding decls_text
  decls_text_lem kind kinds (all-over j e) rest r = r
  decls_text_lem kind kinds (skip1 what e z l x) rest r = decls_text_lem kind kinds x rest r
  decls_text_lem kind kinds (decl1 {i = i} {j = j} {d = d} {ds = ds} x y) rest r = decl_text_lem kind kinds i j (decls_text ds rest) (decls_text_lem kind kinds y rest r) d x
