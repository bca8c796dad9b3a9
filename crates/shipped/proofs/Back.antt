-- What is shipped of declarations is the same declarations, for any source that they stand in. Assumes nothing.
use Rattle.std.specs.Prelude.{None}
use Prim.Native.Nat.{ℕ, ◌+◌, ◌≤◌}
use mathlib.Core.Path.{◌≡◌, refl, sym, ◌∙◌, ap}
use mathlib.Core.List.{List, ◌∷◌, ◌++◌}
use mathlib.Core.Bool.{true, false}
use lib.ListN.{length, drop}
use Rattle.keywords.specs.declared.Keyword.{Keyword}
use Rattle.keywords.specs.declared.Keyword.TheVariants.{TypeWord, ActiontypeWord, StartWord, ExpectRrWord, ExpectWord, AvoidInsertWord, ParseParamWord, ParseGenericsWord, ImplicitTokensWord, LeftWord, RightWord, NonassocWord, NoKeyword}
use Rattle.marks.specs.Worded.{headless}
use Rattle.lists.specs.declared.WordList.{WordList}
use Rattle.lists.specs.declared.WordList.TheVariants.{TokenList, UnusedList, TypeList}
use Rattle.lists.specs.Written.{Leads}
use Rattle.alike.specs.Like.{Kind}
use Rattle.alike.proofs.Steps.{not_four}
use Rattle.alike.proofs.Again.{behind}
use Rattle.alike.proofs.Solid.{gap_none}
use Rattle.alike.proofs.Front.{percent_solid}
use Rattle.alike.proofs.Agree.{clash}
use Rattle.printed.specs.Print.{words}
use Rattle.printed.specs.Stands.{Spelled, Lined, Single, name, integer, line, Given, Epped, Params}
use Rattle.printed.specs.Decls.{Decl, listed, lined, single, spell, keyword_of, body_text, decl_text, decls_text, left, right, nonassoc, avoid_insert, implicit_tokens, NonEmpty, SeenTo, Decl1, listed1, prec1, names1, start1, expect1, actiontype1, generics1, epp1, param1, Decls1, end1, skip1, decl1, Section1}
use Rattle.printed.proofs.Seen.{seen_word, seen_percents, known, seen_fits}
use Rattle.printed.proofs.Arms.{list_space, row_some}
use Rattle.printed.proofs.Ships.{decls_front}
use Rattle.printed.proofs.Lists.{back, there_written}
use Rattle.printed.proofs.Lines.{line_back, there_line}
use Rattle.printed.proofs.Singles.{single_again}
use Rattle.printed.proofs.Epp.{epp_again}
use Rattle.printed.proofs.Param.{param_again}

module _ (kind : ℕ) (kinds : Kind kind) (src out : List ℕ) where
  -- something stands in the second source, and behind it the rest
  record Stood (P : ℕ → Type 0) (rest : List ℕ) : Type 0 where
    to : ℕ
    there : P to
    left : drop to out ≡ rest

  lead_none : (what : WordList) (i : ℕ) → Leads what kind out i i None
  lead_none TokenList i = headless (not_four kinds)
  lead_none UnusedList i = (refl, refl)
  lead_none TypeList i = headless (not_four kinds)

  -- behind its keyword: a list, a line, one thing
  list_stood : (what : WordList) (j k : ℕ) (xs : List (List ℕ)) → NonEmpty xs → Spelled what kind src j k xs → (cs : List ℕ) (f : ℕ) → drop f out ≡ words xs ++ (10 ∷ (37 ∷ cs)) → Stood (λ t. Spelled what kind out f t xs) (37 ∷ cs)
  list_stood what j k xs s l cs f q =
      let b = back what kind src out cs l.words f q in
      record { to = b.to; there = record { from = b.at; lines = b.lines; head = b.at; gap = b.first s; lead = lead_none what b.at; words = there_written what kind src out b.pairs }; left = b.left }

  line_stood : (j k : ℕ) (xs : List (List ℕ)) → Lined kind src j k xs → (cs : List ℕ) (f : ℕ) → drop f out ≡ words xs ++ (10 ∷ (37 ∷ cs)) → Stood (λ t. Lined kind out f t xs) (37 ∷ cs)
  line_stood j k xs l cs f q = let b = line_back kind src out cs l.row f q in record { to = b.to; there = record { from = f + 1; lines = 0; gap = b.gap false; row = there_line kind src out b.rows }; left = b.left }

  one_stood : (w : Single) (j k : ℕ) (x : List ℕ) → j ≤ length src → Given w kind src j k x → (cs : List ℕ) (f : ℕ) → drop f out ≡ 32 ∷ (x ++ (10 ∷ (37 ∷ cs))) → Stood (λ t. Given w kind out f t x) (37 ∷ cs)
  one_stood w j k x h g cs f q = let b = single_again w kind src out j k f x cs h g q in record { to = b.to; there = b.there; left = b.left }

  -- what is known of a declaration: it begins with `%`, and stands where it is shipped
  record Shown (d : Decl) : Type 0 where
    front : (rest : List ℕ) → (c : List ℕ) × (decl_text d rest ≡ 37 ∷ c)
    stood : (cs : List ℕ) (f : ℕ) → drop f out ≡ decl_text d (37 ∷ cs) → Stood (λ t. Decl1 kind out f t d) (37 ∷ cs)

  module _ (i j : ℕ) (d : Decl) (e : SeenTo kind src i (keyword_of d) j) (some : keyword_of d ≡ NoKeyword → ⊥) (front : (rest : List ℕ) → (c : List ℕ) × (decl_text d rest ≡ 37 ∷ c))
      (space : (cs : List ℕ) → (r : List ℕ) × (body_text d (37 ∷ cs) ≡ 32 ∷ r)) (P : ℕ → ℕ → Type 0) (make : (f g t : ℕ) → SeenTo kind out f (keyword_of d) g → P g t → Decl1 kind out f t d)
      (body : (cs : List ℕ) (f : ℕ) → drop f out ≡ body_text d (37 ∷ cs) → Stood (P f) (37 ∷ cs)) where
    shown : Shown d
    shown = record {
      front = front;
      stood = λ cs f q.
          let (r, p) = space cs in
          let w = keyword_of d in
          let s = seen_word out f r kinds w (known kinds src i j w e some) (q ∙ ap (λ (y : List ℕ). spell w ++ y) p) in
          let z = body cs (f + length (spell w)) (behind out f (spell w) (body_text d (37 ∷ cs)) q) in
          record { to = z.to; there = make f (f + length (spell w)) z.to s z.there; left = z.left };
    }

  module _ (i k : ℕ) where
    list_shown : (what : WordList) (j : ℕ) (xs : List (List ℕ)) (s : NonEmpty xs) → let d = listed what xs in SeenTo kind src i (keyword_of d) j → (keyword_of d ≡ NoKeyword → ⊥) → ((rest : List ℕ) → (c : List ℕ) × (decl_text d rest ≡ 37 ∷ c)) → Spelled what kind src j k xs → Shown d
    list_shown what j xs s e n f l = shown i j (listed what xs) e n f (λ cs. list_space xs (10 ∷ (37 ∷ cs)) s) (λ g t. Spelled what kind out g t xs) (λ f g t h z. listed1 what g h s z) (list_stood what j k xs s l)

    module _ (w : Keyword) (j : ℕ) (e : SeenTo kind src i w j) (n : w ≡ NoKeyword → ⊥) (f : (rest : List ℕ) → (c : List ℕ) × (spell w ++ rest ≡ 37 ∷ c)) where
      line_shown : (xs : List (List ℕ)) → ((f g t : ℕ) → SeenTo kind out f w g → Lined kind out g t xs → Decl1 kind out f t (lined w xs)) → Lined kind src j k xs → Shown (lined w xs)
      line_shown xs make l = shown i j (lined w xs) e n (λ r. f (body_text (lined w xs) r)) (λ cs. list_space xs (10 ∷ (37 ∷ cs)) (row_some kind src l.from k xs l.row)) (λ g t. Lined kind out g t xs) make (line_stood j k xs l)

      one_shown : (s : Single) (x : List ℕ) → ((f g t : ℕ) → SeenTo kind out f w g → Given s kind out g t x → Decl1 kind out f t (single w x)) → Given s kind src j k x → Shown (single w x)
      one_shown s x make l = shown i j (single w x) e n (λ r. f (body_text (single w x) r)) (λ cs. (_, refl)) (λ g t. Given s kind out g t x) make (one_stood s j k x (seen_fits src kind i j w e n) l)

    decl_shown : (d : Decl) → Decl1 kind src i k d → Shown d
    decl_shown d (listed1 TokenList {xs} j e s l) = list_shown TokenList j xs s e (λ z. clash cc) (λ r. (_, refl)) l
    decl_shown d (listed1 UnusedList {xs} j e s l) = list_shown UnusedList j xs s e (λ z. clash cc) (λ r. (_, refl)) l
    decl_shown d (listed1 TypeList j e s l) = absurd (known kinds src i j TypeWord e (λ z. clash cc))
    decl_shown d (prec1 {xs = xs} j left e l) = line_shown LeftWord j e (λ z. clash cc) (λ r. (_, refl)) xs (λ f g t h z. prec1 g left h z) l
    decl_shown d (prec1 {xs = xs} j right e l) = line_shown RightWord j e (λ z. clash cc) (λ r. (_, refl)) xs (λ f g t h z. prec1 g right h z) l
    decl_shown d (prec1 {xs = xs} j nonassoc e l) = line_shown NonassocWord j e (λ z. clash cc) (λ r. (_, refl)) xs (λ f g t h z. prec1 g nonassoc h z) l
    decl_shown d (names1 {xs = xs} j avoid_insert e l) = line_shown AvoidInsertWord j e (λ z. clash cc) (λ r. (_, refl)) xs (λ f g t h z. names1 g avoid_insert h z) l
    decl_shown d (names1 {xs = xs} j implicit_tokens e l) = line_shown ImplicitTokensWord j e (λ z. clash cc) (λ r. (_, refl)) xs (λ f g t h z. names1 g implicit_tokens h z) l
    decl_shown d (start1 {x} j e l) = one_shown StartWord j e (λ z. clash cc) (λ r. (_, refl)) name x (λ f g t h z. start1 g h z) l
    decl_shown d (expect1 true v {x} j e l) = one_shown ExpectRrWord j e (λ z. clash cc) (λ r. (_, refl)) (integer v) x (λ f g t h z. expect1 true v g h z) l
    decl_shown d (expect1 false v {x} j e l) = one_shown ExpectWord j e (λ z. clash cc) (λ r. (_, refl)) (integer v) x (λ f g t h z. expect1 false v g h z) l
    decl_shown d (actiontype1 {x} j e l) = one_shown ActiontypeWord j e (λ z. clash cc) (λ r. (_, refl)) line x (λ f g t h z. actiontype1 g h z) l
    decl_shown d (generics1 {x} j e l) = one_shown ParseGenericsWord j e (λ z. clash cc) (λ r. (_, refl)) line x (λ f g t h z. generics1 g h z) l
    decl_shown d (epp1 {x} {y} j e l) = shown i j d e (λ z. clash cc) (λ r. (_, refl)) (λ cs. (_, refl)) (λ g t. Epped kind out g t x y) (λ f g t h z. epp1 g h z) (λ cs f q. let b = epp_again kind src out j k f x y cs l q in record { to = b.to; there = b.there; left = b.left })
    decl_shown d (param1 {x} {y} j e l) =
        let h = seen_fits src kind i j ParseParamWord e (λ z. clash cc) in
        shown i j d e (λ z. clash cc) (λ r. (_, refl)) (λ cs. (_, refl)) (λ g t. Params kind out g t x y) (λ f g t h z. param1 g h z) (λ cs f q. let b = param_again kind src out j k f x y cs h l q in record { to = b.to; there = b.there; left = b.left })

  decls_stood : {i k : ℕ} {ds : List Decl} → Decls1 kind src i k ds → (cs : List ℕ) (f : ℕ) → drop f out ≡ decls_text ds (37 ∷ 37 ∷ cs) → Stood (λ t. Decls1 kind out f t ds) (37 ∷ 37 ∷ cs)
  unfolding decls_text
  decls_stood (end1 j e) cs f q = record { to = f; there = end1 (f + 2) (seen_percents out f cs kind q); left = q }
  decls_stood (skip1 what e z l rest) cs f q = decls_stood rest cs f q
  decls_stood (decl1 {i = i} {j = j} {d = d} {ds = ds} x rest) cs f q =
      let (c, g) = decls_front kind kinds src rest cs in
      let z = (decl_shown i j d x).stood c f (q ∙ ap (λ (y : List ℕ). decl_text d y) g) in
      let y = decls_stood rest cs z.to (z.left ∙ sym g) in
      record { to = y.to; there = decl1 z.there y.there; left = y.left }

  -- T3: a section stands where it is shipped.
  pub record SectionBack (ds : List Decl) (cs : List ℕ) (f : ℕ) : Type 0 where
    pub to : ℕ
    pub there : Section1 kind out f to ds
    pub left : drop to out ≡ 37 ∷ 37 ∷ cs

  pub section_back : (at k : ℕ) (ds : List Decl) → Section1 kind src at k ds → (cs : List ℕ) (f : ℕ) → drop f out ≡ decls_text ds (37 ∷ 37 ∷ cs) → SectionBack ds cs f
  section_back at k ds w cs f q =
      let (c, g) = decls_front kind kinds src w.decls cs in
      let z = decls_stood w.decls cs f q in
      record { to = z.to; there = record { from = f; lines = 0; gap = gap_none out f (37 ∷ c) (percent_solid c) kind true (q ∙ g); decls = z.there }; left = z.left }
