-- A declaration that was read, shipped in front of the next `%`, is read as the same declaration. Assumes nothing.
use Rattle.std.specs.Prelude.{Ok}
use Prim.Native.Nat.{ℕ, ◌+◌, ◌≤◌, ◌<◌}
use mathlib.Core.Path.{◌≡◌, refl, ◌∙◌, ap}
use mathlib.Core.List.{List, [], ◌∷◌, ◌++◌}
use mathlib.Core.Bool.{true, false}
use native.Mathlib.Omega.{arith}
use lib.ListN.{length, drop}
use Rattle.scan.proofs.Bytes.{told, drop_below}
use Rattle.keywords.specs.declared.Keyword.{Keyword}
use Rattle.keywords.specs.declared.Keyword.TheVariants.{TokenWord, ActiontypeWord, StartWord, EppWord, ExpectRrWord, ExpectUnusedWord, ExpectWord, AvoidInsertWord, ParseParamWord, ParseGenericsWord, ImplicitTokensWord, LeftWord, RightWord, NonassocWord, TypeWord, NoKeyword}
use Rattle.keywords.specs.declared.Seen.{Seen}
use Rattle.keywords.specs.Keywords.{Sees}
use Rattle.keywords.proofs.Laws.{sees}
use Rattle.grammar.specs.declared.State.{State}
use Rattle.grammar.specs.declared.Answer.{Answer}
use Rattle.grammar.specs.declared.Answer.TheVariants.{Going}
use Rattle.grammar.specs.declared.Repeat.TheVariants.{RepeatedAvoidInsert, RepeatedImplicitTokens}
use Rattle.grammar.specs.Sound.{AllTables}
use Rattle.grammar.specs.State.{Gapped, with_at}
use Rattle.grammar.proofs.Kept.{gapped}
use Rattle.lists.specs.declared.WordList.TheVariants.{TokenList, UnusedList, TypeList}
use Rattle.lines.specs.Grown.{third, fourth}
use Rattle.declarations.specs.Declarations.{Declared, Out, by_keyword, by_seen, decl_step}
use Rattle.sections.specs.Sections.{declared, with_declared}
use Rattle.alike.specs.Like.{Near}
use Rattle.alike.proofs.Again.{behind, token_lies}
use Rattle.alike.proofs.Near.{near_at}
use Rattle.alike.proofs.Agree.{clash}
use Rattle.printed.specs.Print.{words}
use Rattle.printed.specs.Stands.{Row1, end1, more1, Lined}
use Rattle.printed.specs.Ships.{Ships}
use Rattle.printed.specs.Decls.{Decl, spell, decl_text, left, right, nonassoc, avoid_insert, implicit_tokens, NonEmpty, SeenTo, Decl1, listed1, prec1, names1, start1, expect1, actiontype1, generics1, epp1, param1}
use Rattle.printed.proofs.Loops.{told_both}
use Rattle.printed.proofs.Seen.{seen_word, known}
use Rattle.printed.proofs.Lists.{list_ships}
use Rattle.printed.proofs.PrecLine.{prec_ships}
use Rattle.printed.proofs.AvoidLine.{avoid_ships}
use Rattle.printed.proofs.Settings.{start_ships, expect_ships, actiontype_ships, generics_ships}
use Rattle.printed.proofs.Epp.{epp_ships}
use Rattle.printed.proofs.Param.{param_ships}

-- a step by its keyword
pub step_is : (src : List ℕ) (s : State) (D : Declared) (w : Keyword) (j : ℕ) → SeenTo s.kind src s.at w j → decl_step src s D ≡ by_keyword w src s (with_at s j) D
unfolding decl_step
step_is src s D w j e = ap (λ (r : Seen). by_seen r src s D) e

-- where a keyword ends
pub seen_inside : (kind : ℕ) (src : List ℕ) (at j : ℕ) (w : Keyword) → at ≤ length src → SeenTo kind src at w j → j ≤ length src
seen_inside kind src at j w h e = (told (Sees src at) e (sees kind src at h)).inside

-- a line has a word, which begins with a byte behind the keyword's spacing
row_low : (kind : ℕ) (src : List ℕ) (i k : ℕ) (xs : List (List ℕ)) → Row1 kind src i k xs → i < length src
row_low kind src i k xs (end1 {e = e} {x = x} w g h) = let y = token_lies src i e x w in let a = y.0 in let b = y.1 in let c = y.2 in let d = y.3 in omega arith
row_low kind src i k xs (more1 {e = e} {x = x} w g h r) = let y = token_lies src i e x w in let a = y.0 in let b = y.1 in let c = y.2 in let d = y.3 in omega arith

line_low : (kind : ℕ) (src : List ℕ) (at k : ℕ) (xs : List (List ℕ)) → at ≤ length src → Lined kind src at k xs → at < length src
line_low kind src at k xs h l =
    let y : Gapped src at (Ok (l.from, l.lines)) = told (Gapped src at) l.gap (gapped kind false src at h) in
    let a = y.0 in
    let b = row_low kind src l.from k xs l.row in
    omega arith

-- the words of a list begin with a space
pub list_space : (xs : List (List ℕ)) (rest : List ℕ) → NonEmpty xs → (r : List ℕ) × (words xs ++ rest ≡ 32 ∷ r)
unfolding words
list_space [] rest s = absurd s
list_space (x ∷ xs) rest s = ((x ++ words xs) ++ rest, refl)

pub row_some : (kind : ℕ) (src : List ℕ) (i k : ℕ) (xs : List (List ℕ)) → Row1 kind src i k xs → NonEmpty xs
row_some kind src i k xs (end1 w g h) = tt
row_some kind src i k xs (more1 w g h r) = tt

ships_map : {src out rest : List ℕ} {k : ℕ} {P Q : ℕ → Type 0} {x y : State} {a : Answer} {T W : AllTables} → ((j : ℕ) → P j → Q j) → Ships src out rest k P x y a T W → Ships src out rest k Q x y a T W
ships_map f z = record { here = z.here; going = z.going; near = z.near; left = z.left; there = f _ z.there }

module _ (src out : List ℕ) (s u : State) (T W : AllTables) (n : Near src out s u T W) (here : s.at ≤ length src) (cs : List ℕ) where
  abbrev Shipped : ℕ → Decl → Out → Out → Type 0
  Shipped k d x y = Ships src out (37 ∷ cs) k (λ j. Decl1 u.kind out u.at j d) x.state y.state y.answer (with_declared T x.tables) (with_declared W y.tables)

  -- the keyword stands in the second source too, and what is behind it
  record Ready (w : Keyword) (body : List ℕ) : Type 0 where
    seen : SeenTo u.kind out u.at w (u.at + length (spell w))
    left : drop (u.at + length (spell w)) out ≡ body
    low : u.at + length (spell w) < length out

  ready : (w : Keyword) (j : ℕ) → SeenTo s.kind src s.at w j → (w ≡ NoKeyword → ⊥) → (body r : List ℕ) → body ≡ 32 ∷ r → drop u.at out ≡ spell w ++ body → Ready w body
  ready w j e d body r p q =
      let k = known n.like.shipped src s.at j w e d in
      let q' : drop u.at out ≡ spell w ++ (32 ∷ r) = q ∙ ap (λ (y : List ℕ). spell w ++ y) p in
      let b = behind out u.at (spell w) body q in
      record { seen = rw (← n.like.kind) (seen_word out u.at r n.like.shipped w k q'); left = b; low = drop_below out (u.at + length (spell w)) 32 r (b ∙ p) }

  -- an arm, by the step of its keyword on both
  arm : (w : Keyword) (j k : ℕ) (d : Decl) → SeenTo s.kind src s.at w j → (body : List ℕ) → Ready w body → Shipped k d (by_keyword w src s (with_at s j) (declared T)) (by_keyword w out u (with_at u (u.at + length (spell w))) (declared W))
      → Shipped k d (decl_step src s (declared T)) (decl_step out u (declared W))
  arm w j k d e body r x = told_both (Shipped k d) (step_is src s (declared T) w j e) (step_is out u (declared W) w (u.at + length (spell w)) r.seen) x

  went : (w : Keyword) (j : ℕ) → SeenTo s.kind src s.at w j → (decl_step src s (declared T)).answer ≡ Going → (by_keyword w src s (with_at s j) (declared T)).answer ≡ Going
  went w j e g = told (λ (o : Out). o.answer ≡ Going) (step_is src s (declared T) w j e) g

  pub decl_ships : (k : ℕ) (d : Decl) → Decl1 s.kind src s.at k d → drop u.at out ≡ decl_text d (37 ∷ cs) → (decl_step src s (declared T)).answer ≡ Going → Shipped k d (decl_step src s (declared T)) (decl_step out u (declared W))
  decl_ships k d (listed1 TokenList {xs} j e some l) q g =
      let (r, p) = list_space xs (10 ∷ (37 ∷ cs)) some in
      let y = ready TokenWord j e (λ z. clash cc) (words xs ++ (10 ∷ (37 ∷ cs))) r p q in
      arm TokenWord j k d e _ y (ships_map (λ i z. listed1 TokenList _ y.seen some z) (list_ships TokenList src out (with_at s j) (with_at u (u.at + 6)) T W (near_at src out s u T W n j (u.at + 6)) k xs cs some l y.left (went TokenWord j e g)))
  decl_ships k d (listed1 UnusedList {xs} j e some l) q g =
      let (r, p) = list_space xs (10 ∷ (37 ∷ cs)) some in
      let y = ready ExpectUnusedWord j e (λ z. clash cc) (words xs ++ (10 ∷ (37 ∷ cs))) r p q in
      arm ExpectUnusedWord j k d e _ y (ships_map (λ i z. listed1 UnusedList _ y.seen some z) (list_ships UnusedList src out (with_at s j) (with_at u (u.at + 14)) T W (near_at src out s u T W n j (u.at + 14)) k xs cs some l y.left (went ExpectUnusedWord j e g)))
  decl_ships k d (listed1 TypeList {xs} j e some l) q g = absurd (known n.like.shipped src s.at j TypeWord e (λ z. clash cc))
  decl_ships k d (prec1 {xs = xs} j left e l) q g =
      let (r, p) = list_space xs (10 ∷ (37 ∷ cs)) (row_some s.kind src l.from k xs l.row) in
      let y = ready LeftWord j e (λ z. clash cc) (words xs ++ (10 ∷ (37 ∷ cs))) r p q in
      arm LeftWord j k d e _ y (ships_map (λ i z. prec1 _ left y.seen z) (prec_ships src out (with_at s j) (with_at u (u.at + 5)) 1 T W (near_at src out s u T W n j (u.at + 5)) k xs cs l y.left (went LeftWord j e g)))
  decl_ships k d (prec1 {xs = xs} j right e l) q g =
      let (r, p) = list_space xs (10 ∷ (37 ∷ cs)) (row_some s.kind src l.from k xs l.row) in
      let y = ready RightWord j e (λ z. clash cc) (words xs ++ (10 ∷ (37 ∷ cs))) r p q in
      arm RightWord j k d e _ y (ships_map (λ i z. prec1 _ right y.seen z) (prec_ships src out (with_at s j) (with_at u (u.at + 6)) 2 T W (near_at src out s u T W n j (u.at + 6)) k xs cs l y.left (went RightWord j e g)))
  decl_ships k d (prec1 {xs = xs} j nonassoc e l) q g =
      let (r, p) = list_space xs (10 ∷ (37 ∷ cs)) (row_some s.kind src l.from k xs l.row) in
      let y = ready NonassocWord j e (λ z. clash cc) (words xs ++ (10 ∷ (37 ∷ cs))) r p q in
      arm NonassocWord j k d e _ y (ships_map (λ i z. prec1 _ nonassoc y.seen z) (prec_ships src out (with_at s j) (with_at u (u.at + 9)) 3 T W (near_at src out s u T W n j (u.at + 9)) k xs cs l y.left (went NonassocWord j e g)))
  decl_ships k d (names1 {xs = xs} j avoid_insert e l) q g =
      let (r, p) = list_space xs (10 ∷ (37 ∷ cs)) (row_some s.kind src l.from k xs l.row) in
      let y = ready AvoidInsertWord j e (λ z. clash cc) (words xs ++ (10 ∷ (37 ∷ cs))) r p q in
      let low = line_low s.kind src j k xs (seen_inside s.kind src s.at j AvoidInsertWord here e) l in
      arm AvoidInsertWord j k d e _ y
      (ships_map (λ i z. names1 _ avoid_insert y.seen z) (avoid_ships third RepeatedAvoidInsert src out (with_at s j) (with_at u (u.at + 13)) T W (near_at src out s u T W n j (u.at + 13)) k xs cs low y.low l y.left (went AvoidInsertWord j e g)))
  decl_ships k d (names1 {xs = xs} j implicit_tokens e l) q g =
      let (r, p) = list_space xs (10 ∷ (37 ∷ cs)) (row_some s.kind src l.from k xs l.row) in
      let y = ready ImplicitTokensWord j e (λ z. clash cc) (words xs ++ (10 ∷ (37 ∷ cs))) r p q in
      let low = line_low s.kind src j k xs (seen_inside s.kind src s.at j ImplicitTokensWord here e) l in
      arm ImplicitTokensWord j k d e _ y
      (ships_map (λ i z. names1 _ implicit_tokens y.seen z) (avoid_ships fourth RepeatedImplicitTokens src out (with_at s j) (with_at u (u.at + 16)) T W (near_at src out s u T W n j (u.at + 16)) k xs cs low y.low l y.left (went ImplicitTokensWord j e g)))
  decl_ships k d (start1 {x} j e l) q g =
      let y = ready StartWord j e (λ z. clash cc) (32 ∷ (x ++ (10 ∷ (37 ∷ cs)))) _ refl q in
      arm StartWord j k d e _ y (ships_map (λ i z. start1 _ y.seen z) (start_ships src out (with_at s j) (with_at u (u.at + 6)) T W (near_at src out s u T W n j (u.at + 6)) (seen_inside s.kind src s.at j StartWord here e) k x cs l y.left (went StartWord j e g)))
  decl_ships k d (expect1 true v {x} j e l) q g =
      let y = ready ExpectRrWord j e (λ z. clash cc) (32 ∷ (x ++ (10 ∷ (37 ∷ cs)))) _ refl q in
      arm ExpectRrWord j k d e _ y
      (ships_map (λ i z. expect1 true v _ y.seen z) (expect_ships src out (with_at s j) (with_at u (u.at + 10)) T W (near_at src out s u T W n j (u.at + 10)) (seen_inside s.kind src s.at j ExpectRrWord here e) k x cs true v l y.left (went ExpectRrWord j e g)))
  decl_ships k d (expect1 false v {x} j e l) q g =
      let y = ready ExpectWord j e (λ z. clash cc) (32 ∷ (x ++ (10 ∷ (37 ∷ cs)))) _ refl q in
      arm ExpectWord j k d e _ y
      (ships_map (λ i z. expect1 false v _ y.seen z) (expect_ships src out (with_at s j) (with_at u (u.at + 7)) T W (near_at src out s u T W n j (u.at + 7)) (seen_inside s.kind src s.at j ExpectWord here e) k x cs false v l y.left (went ExpectWord j e g)))
  decl_ships k d (actiontype1 {x} j e l) q g =
      let y = ready ActiontypeWord j e (λ z. clash cc) (32 ∷ (x ++ (10 ∷ (37 ∷ cs)))) _ refl q in
      arm ActiontypeWord j k d e _ y
      (ships_map (λ i z. actiontype1 _ y.seen z) (actiontype_ships src out (with_at s j) (with_at u (u.at + 11)) T W (near_at src out s u T W n j (u.at + 11)) (seen_inside s.kind src s.at j ActiontypeWord here e) k x cs l y.left (went ActiontypeWord j e g)))
  decl_ships k d (generics1 {x} j e l) q g =
      let y = ready ParseGenericsWord j e (λ z. clash cc) (32 ∷ (x ++ (10 ∷ (37 ∷ cs)))) _ refl q in
      arm ParseGenericsWord j k d e _ y
      (ships_map (λ i z. generics1 _ y.seen z) (generics_ships src out (with_at s j) (with_at u (u.at + 15)) T W (near_at src out s u T W n j (u.at + 15)) (seen_inside s.kind src s.at j ParseGenericsWord here e) k x cs l y.left (went ParseGenericsWord j e g)))
  decl_ships k d (epp1 {x = x} {y = z} j e l) q g =
      let y = ready EppWord j e (λ z. clash cc) (32 ∷ (x ++ (32 ∷ (z ++ (10 ∷ (37 ∷ cs)))))) _ refl q in
      arm EppWord j k d e _ y (ships_map (λ i z. epp1 _ y.seen z) (epp_ships src out (with_at s j) (with_at u (u.at + 4)) T W (near_at src out s u T W n j (u.at + 4)) k x z cs l y.left (went EppWord j e g)))
  decl_ships k d (param1 {x = x} {y = z} j e l) q g =
      let y = ready ParseParamWord j e (λ z. clash cc) (32 ∷ (x ++ (58 ∷ (32 ∷ (z ++ (10 ∷ (37 ∷ cs))))))) _ refl q in
      arm ParseParamWord j k d e _ y
      (ships_map (λ i z. param1 _ y.seen z) (param_ships src out (with_at s j) (with_at u (u.at + 12)) T W (near_at src out s u T W n j (u.at + 12)) (seen_inside s.kind src s.at j ParseParamWord here e) k x z cs l y.left))
