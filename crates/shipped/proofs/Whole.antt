-- A source in which declarations, rules and programs stand ships as their text, which is a text in which the same stand and which ships as itself. Assumes nothing.
use Rattle.std.specs.Prelude.{Ok}
use Prim.Native.Nat.{ℕ}
use mathlib.Core.Path.{◌≡◌, refl, sym, ◌∙◌, ap}
use mathlib.Core.List.{List, [], ◌∷◌, ◌++◌}
use mathlib.Core.Bool.{true}
use native.Mathlib.Omega.{arith}
use lib.ListN.{length}
use Rattle.scan.specs.Scan.{starts_at}
use Rattle.scan.proofs.Bytes.{told}
use Rattle.whole.specs.Encode.{Text}
use Rattle.keywords.specs.declared.Keyword.TheVariants.{Percents}
use Rattle.keywords.specs.declared.Seen.{Seen}
use Rattle.keywords.specs.Keywords.{seen_at}
use Rattle.grammar.specs.State.{Gapped}
use Rattle.grammar.proofs.Kept.{gapped}
use Rattle.rules.specs.Rules.{percents}
use Rattle.alike.specs.Like.{Kind}
use Rattle.alike.proofs.Agree.{clash}
use Rattle.printed.specs.Decls.{Decl, decls_text, SeenTo, Decls1, end1, skip1, decl1, Section1}
use Rattle.printed.proofs.Seen.{seen_each}
use Rattle.printed.proofs.Utf8.{decls_text_lem}
use Rattle.printed_rules.specs.Rules.{Rule, Programs, rules_text, programs_text, rest_text, end_of, Rest1, Rest2}
use Rattle.printed_rules.proofs.BackRules.{rest_there, rest_back}
use Rattle.printed_rules.proofs.Utf8.{rest_text_lem}
use Rattle.shipper.specs.Ship.{Shipped, passed, ship_decls, ship_rules, ship_programs, rules_from, ship_all}
use Rattle.shipped.proofs.Rules.{made, passed_is, rest_shipped}
use Rattle.shipped.proofs.Decls.{decls_append, decls_shipped}
use Rattle.shipped.proofs.Back.{section_back}

module _ (kind : ℕ) (src : List ℕ) where
  -- `%%` is read where it stands
  abbrev Stands : ℕ → Seen → Type 0
  Stands i r = r.word ≡ Percents → starts_at percents src i ≡ true

  percents_seen : (i j : ℕ) → SeenTo kind src i Percents j → starts_at percents src i ≡ true
  percents_seen i j e = told (Stands i) e all refl
    where
      all : Stands i (seen_at kind src i)
      all =
          seen_each kind src i (Stands i) (λ d. absurd (clash cc))
          ((λ k h d. h), ((λ k h d. absurd (clash cc)), ((λ k h d. absurd (clash cc)), ((λ k h d. absurd (clash cc)), ((λ k h d. absurd (clash cc)), ((λ k h d. absurd (clash cc)), ((λ k h d. absurd (clash cc)), ((λ k h d. absurd (clash cc)), ((λ k h d. absurd (clash cc)), ((λ k h d. absurd (clash cc)), ((λ k h d. absurd (clash cc)), ((λ k h d. absurd (clash cc)), ((λ k h d. absurd (clash cc)), ((λ k h d. absurd (clash cc)), ((λ k h d. absurd (clash cc)), ((λ k h d. absurd (clash cc)), ((λ k h d. absurd (clash cc)), ((λ k h d. absurd (clash cc)), tt))))))))))))))))))

  -- and so declarations end
  pub decls_end : {i k : ℕ} {ds : List Decl} → Decls1 kind src i k ds → starts_at percents src k ≡ true
  decls_end (end1 {i} j e) = percents_seen i j e
  decls_end (skip1 what e s l rest) = decls_end rest
  decls_end (decl1 w rest) = decls_end rest

  -- T2: the whole text.
  pub all_shipped : Kind kind → (k : ℕ) (ds : List Decl) (rs : List Rule) (p : Programs) → Section1 kind src 0 k ds → Rest1 kind src k rs p → ship_all kind src ≡ decls_text ds (rest_text kind rs p)
  unfolding ship_all rest_text
  all_shipped kinds k ds rs p w r =
      let z : Gapped src 0 (Ok (w.from, w.lines)) = told (Gapped src 0) w.gap (gapped kind true src 0 (omega arith)) in
      let d : ship_decls kind src (passed kind true src 0) ≡ made (decls_text ds []) k = ap (λ (i : ℕ). ship_decls kind src i) (passed_is kind src true 0 w.from w.lines w.gap) ∙ decls_shipped kind src kinds z.1 w.decls in
      ap (λ (o : Shipped). o.text ++ (37 ∷ 37 ∷ 10 ∷ ((ship_rules kind src (rules_from kind src o.at)).text ++ (ship_programs kind src (ship_rules kind src (rules_from kind src o.at)).at).text))) d
      ∙ ap (λ (y : List ℕ). decls_text ds [] ++ (37 ∷ 37 ∷ 10 ∷ y)) (rest_shipped kind src r (decls_end w.decls))
      ∙ decls_append ds (rest_text kind rs p)

-- What is shipped of a text is a text, and shipping it again gives the same bytes.
module _ (kind : ℕ) (src : List ℕ) (kinds : Kind kind) (text : Text src) (k : ℕ) (ds : List Decl) (rs : List Rule) (p : Programs) (w : Section1 kind src 0 k ds) (r : Rest1 kind src k rs p) where
  pub all_text : Text (ship_all kind src)
  all_text = told Text (sym (all_shipped kind src kinds k ds rs p w r)) (decls_text_lem src text kind kinds w.decls (rest_text kind rs p) (rest_text_lem kind src text k rs p r))

  -- the same declarations, rules and programs stand in it
  pub record Stands2 (out : List ℕ) : Type 0 where
    pub to : ℕ
    pub section : Section1 kind out 0 to ds
    pub rest : Rest2 kind src out k to rs p
    pub ends : end_of p out rest.to' ≡ length out

  pub all_back : Stands2 (ship_all kind src)
  unfolding rest_text
  all_back =
      let out = ship_all kind src in
      let s = section_back kind kinds src out 0 k ds w (10 ∷ (rules_text kind rs ++ programs_text p)) 0 (all_shipped kind src kinds k ds rs p w r) in
      let b = rest_back kind src out text p k s.to rs r s.left in
      record { to = s.to; section = s.there; rest = b.pair; ends = b.ends }

  pub again : ship_all kind (ship_all kind src) ≡ ship_all kind src
  again =
      let out = ship_all kind src in
      let b = all_back in
      all_shipped kind out kinds b.to ds rs p b.section (rest_there kind src out k b.to rs p b.rest) ∙ sym (all_shipped kind src kinds k ds rs p w r)
