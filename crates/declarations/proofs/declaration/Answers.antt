-- `declarations::declaration`: each keyword's arm is its line of the definition.
use Prim.Native.Nat.{ℕ}
use mathlib.Core.Path.{◌≡◌, refl, ap}
use native.Mathlib.Omega.{arith}
use Rattle.keywords.specs.declared.Keyword.TheVariants.{Percents, TokenWord, ActiontypeWord, StartWord, EppWord, ExpectRrWord, ExpectUnusedWord, ExpectWord, AvoidInsertWord, ParseParamWord, ParseGenericsWord, ImplicitTokensWord, LeftWord, RightWord, NonassocWord, PrologueWord, UnionWord, TypeWord, NoKeyword}
use Rattle.grammar.specs.State.{Here}
use Rattle.grammar.proofs.Steps.{stays_put}
use Rattle.declarations.specs.Declarations.{in0, in10, in17, in5_10, in1_3_10, in1_4_10, in1_15_16, in6_15_16, in2_10_15_16}
use Rattle.lists.proofs.Tracks.{tracked, untracked}
use Rattle.declarations.proofs.Laws.{arm, further}
use Rattle.declarations.proofs.Givens.{both_counted}
use Rattle.declarations.proofs.Spares.{by_param, by_generics, by_start, by_actiontype, by_expect, by_unused, by_type, by_epp, by_prec, by_tokens, by_avoided, by_implicit}
use Rattle.declarations.proofs.declaration.Goals as goal

-- two keywords are never equal
clash : ◌≡◌ {A = ℕ} 0 1 → ⊥
clash z = omega arith

pub list_decl-requires : goal.list_decl-requires
list_decl-requires c =
    ((let it : Here c.args.src.now c.look-seen.result.end = record { within = c.look-seen.ensures.moved.inside; short = c.requires.0.short } in it), tracked refl c.requires.1)

pub actiontype_decl-requires : goal.actiontype_decl-requires
actiontype_decl-requires c =
    (let it : Here c.args.src.now c.look-seen.result.end = record { within = c.look-seen.ensures.moved.inside; short = c.requires.0.short } in it)

pub start_decl-requires : goal.start_decl-requires
start_decl-requires c =
    (let it : Here c.args.src.now c.look-seen.result.end = record { within = c.look-seen.ensures.moved.inside; short = c.requires.0.short } in it)

pub epp_decl-requires : goal.epp_decl-requires
epp_decl-requires c =
    ((let it : Here c.args.src.now c.look-seen.result.end = record { within = c.look-seen.ensures.moved.inside; short = c.requires.0.short } in it), c.requires.2.fifth)

pub expect_decl-requires : goal.expect_decl-requires
expect_decl-requires c =
    (let it : Here c.args.src.now c.look-seen.result.end = record { within = c.look-seen.ensures.moved.inside; short = c.requires.0.short } in it)

pub list_decl-requires-in-ExpectUnusedWord : goal.list_decl-requires-in-ExpectUnusedWord
list_decl-requires-in-ExpectUnusedWord c =
    ((let it : Here c.args.src.now c.look-seen.result.end = record { within = c.look-seen.ensures.moved.inside; short = c.requires.0.short } in it), untracked refl)

pub expect_decl-requires-in-ExpectWord : goal.expect_decl-requires-in-ExpectWord
expect_decl-requires-in-ExpectWord c =
    (let it : Here c.args.src.now c.look-seen.result.end = record { within = c.look-seen.ensures.moved.inside; short = c.requires.0.short } in it)

pub avoid_decl-requires : goal.avoid_decl-requires
avoid_decl-requires c =
    ((let it : Here c.args.src.now c.look-seen.result.end = record { within = c.look-seen.ensures.moved.inside; short = c.requires.0.short } in it), c.requires.1, omega arith, omega arith, c.requires.2.third)

pub param_decl-requires : goal.param_decl-requires
param_decl-requires c =
    (let it : Here c.args.src.now c.look-seen.result.end = record { within = c.look-seen.ensures.moved.inside; short = c.requires.0.short } in it)

pub generics_decl-requires : goal.generics_decl-requires
generics_decl-requires c =
    (let it : Here c.args.src.now c.look-seen.result.end = record { within = c.look-seen.ensures.moved.inside; short = c.requires.0.short } in it)

pub avoid_decl-requires-in-ImplicitTokensWord : goal.avoid_decl-requires-in-ImplicitTokensWord
avoid_decl-requires-in-ImplicitTokensWord c =
    ((let it : Here c.args.src.now c.look-seen.result.end = record { within = c.look-seen.ensures.moved.inside; short = c.requires.0.short } in it), c.requires.1, omega arith, omega arith, c.requires.2.fourth)

pub prec_decl-requires : goal.prec_decl-requires
prec_decl-requires c =
    ((let it : Here c.args.src.now c.look-seen.result.end = record { within = c.look-seen.ensures.moved.inside; short = c.requires.0.short } in it), c.requires.2.second)

pub prec_decl-requires-in-RightWord : goal.prec_decl-requires-in-RightWord
prec_decl-requires-in-RightWord c =
    ((let it : Here c.args.src.now c.look-seen.result.end = record { within = c.look-seen.ensures.moved.inside; short = c.requires.0.short } in it), c.requires.2.second)

pub prec_decl-requires-in-NonassocWord : goal.prec_decl-requires-in-NonassocWord
prec_decl-requires-in-NonassocWord c =
    ((let it : Here c.args.src.now c.look-seen.result.end = record { within = c.look-seen.ensures.moved.inside; short = c.requires.0.short } in it), c.requires.2.second)

pub overflow_cast-at : goal.overflow_cast-at
overflow_cast-at c =
    let p = c.requires.0 in
    omega (arith, p.within, p.short)

pub prologue_decl-requires : goal.prologue_decl-requires
prologue_decl-requires c =
    (let it : Here c.args.src.now c.look-seen.result.end = record { within = c.look-seen.ensures.moved.inside; short = c.requires.0.short } in it)

pub overflow_cast-at-in-UnionWord : goal.overflow_cast-at-in-UnionWord
overflow_cast-at-in-UnionWord c =
    let p = c.requires.0 in
    omega (arith, p.within, p.short)

pub union_decl-requires : goal.union_decl-requires
union_decl-requires c =
    (let it : Here c.args.src.now c.look-seen.result.end = record { within = c.look-seen.ensures.moved.inside; short = c.requires.0.short } in it)

pub list_decl-requires-in-TypeWord : goal.list_decl-requires-in-TypeWord
list_decl-requires-in-TypeWord c =
    ((let it : Here c.args.src.now c.look-seen.result.end = record { within = c.look-seen.ensures.moved.inside; short = c.requires.0.short } in it), untracked refl)

pub overflow_cast-result : goal.overflow_cast-result
overflow_cast-result c =
    let p = c.requires.0 in
    omega (arith, p.within, p.short)

pub returns-in-Percents : goal.returns-in-Percents
returns-in-Percents c =
    let e = c.in-Percents.is in
    record {
      is = arm _ _ ((record { t1 = c.args.t1.now; t2 = c.args.t2.now; t3 = c.args.t3.now; t4 = c.args.t4.now; t5 = c.args.t5.now; t6 = c.args.t6.now; t10 = c.args.t10.now; t15 = c.args.t15.now; t16 = c.args.t16.now; t17 = c.args.t17.now })) _ c.look-seen.ensures.is Percents _ e refl;
      moved = stays_put _ _ _ c.requires.0.within (λ z. clash (cc));
      indexed = (c.requires.1, c.requires.2);
    }

pub shape_of-t1-in-TokenWord : goal.shape_of-t1-in-TokenWord
shape_of-t1-in-TokenWord c = c.list_decl.auto.t

pub shape_of-t15-in-TokenWord : goal.shape_of-t15-in-TokenWord
shape_of-t15-in-TokenWord c = c.list_decl.auto.t15

pub shape_of-t16-in-TokenWord : goal.shape_of-t16-in-TokenWord
shape_of-t16-in-TokenWord c = c.list_decl.auto.t16

pub shape_of-i1-in-TokenWord : goal.shape_of-i1-in-TokenWord
shape_of-i1-in-TokenWord c = c.list_decl.auto.ix

pub returns-in-TokenWord : goal.returns-in-TokenWord
returns-in-TokenWord c =
    let e = c.in-TokenWord.is in
    record {
      is = arm _ _ ((record { t1 = c.args.t1.now; t2 = c.args.t2.now; t3 = c.args.t3.now; t4 = c.args.t4.now; t5 = c.args.t5.now; t6 = c.args.t6.now; t10 = c.args.t10.now; t15 = c.args.t15.now; t16 = c.args.t16.now; t17 = c.args.t17.now })) _ c.look-seen.ensures.is TokenWord _ e (ap (in1_15_16 ((record { t1 = c.args.t1.now; t2 = c.args.t2.now; t3 = c.args.t3.now; t4 = c.args.t4.now; t5 = c.args.t5.now; t6 = c.args.t6.now; t10 = c.args.t10.now; t15 = c.args.t15.now; t16 = c.args.t16.now; t17 = c.args.t17.now }))) c.list_decl.ensures.is);
      moved = further _ _ _ TokenWord _ _ c.look-seen.ensures.moved e (λ z. clash (cc)) c.list_decl.ensures.moved;
      indexed = (c.list_decl.ensures.indexed.keeps refl, by_tokens _ _ _ _ _ _ _ _ c.requires.2 _ _ _ _ _ _ _ c.list_decl.ensures.is);
    }

pub shape_of-t10-in-ActiontypeWord : goal.shape_of-t10-in-ActiontypeWord
shape_of-t10-in-ActiontypeWord c = c.actiontype_decl.auto.t10

pub returns-in-ActiontypeWord : goal.returns-in-ActiontypeWord
returns-in-ActiontypeWord c =
    let e = c.in-ActiontypeWord.is in
    record {
      is = arm _ _ ((record { t1 = c.args.t1.now; t2 = c.args.t2.now; t3 = c.args.t3.now; t4 = c.args.t4.now; t5 = c.args.t5.now; t6 = c.args.t6.now; t10 = c.args.t10.now; t15 = c.args.t15.now; t16 = c.args.t16.now; t17 = c.args.t17.now })) _ c.look-seen.ensures.is ActiontypeWord _ e (ap (in10 ((record { t1 = c.args.t1.now; t2 = c.args.t2.now; t3 = c.args.t3.now; t4 = c.args.t4.now; t5 = c.args.t5.now; t6 = c.args.t6.now; t10 = c.args.t10.now; t15 = c.args.t15.now; t16 = c.args.t16.now; t17 = c.args.t17.now }))) c.actiontype_decl.ensures.is);
      moved = further _ _ _ ActiontypeWord _ _ c.look-seen.ensures.moved e (λ z. clash (cc)) c.actiontype_decl.ensures.moved;
      indexed = by_actiontype _ _ _ _ _ _ _ _ _ c.requires.1 c.requires.2 _ _ _ _ c.actiontype_decl.ensures.is;
    }

pub shape_of-t10-in-StartWord : goal.shape_of-t10-in-StartWord
shape_of-t10-in-StartWord c = c.start_decl.auto.t10

pub returns-in-StartWord : goal.returns-in-StartWord
returns-in-StartWord c =
    let e = c.in-StartWord.is in
    record {
      is = arm _ _ ((record { t1 = c.args.t1.now; t2 = c.args.t2.now; t3 = c.args.t3.now; t4 = c.args.t4.now; t5 = c.args.t5.now; t6 = c.args.t6.now; t10 = c.args.t10.now; t15 = c.args.t15.now; t16 = c.args.t16.now; t17 = c.args.t17.now })) _ c.look-seen.ensures.is StartWord _ e (ap (in10 ((record { t1 = c.args.t1.now; t2 = c.args.t2.now; t3 = c.args.t3.now; t4 = c.args.t4.now; t5 = c.args.t5.now; t6 = c.args.t6.now; t10 = c.args.t10.now; t15 = c.args.t15.now; t16 = c.args.t16.now; t17 = c.args.t17.now }))) c.start_decl.ensures.is);
      moved = further _ _ _ StartWord _ _ c.look-seen.ensures.moved e (λ z. clash (cc)) c.start_decl.ensures.moved;
      indexed = by_start _ _ _ _ _ _ _ _ _ c.requires.1 c.requires.2 _ _ _ _ c.start_decl.ensures.is;
    }

pub shape_of-t5 : goal.shape_of-t5
shape_of-t5 c = c.epp_decl.auto.t5

pub shape_of-t10-in-EppWord : goal.shape_of-t10-in-EppWord
shape_of-t10-in-EppWord c = c.epp_decl.auto.t10

pub shape_of-fx-in-EppWord : goal.shape_of-fx-in-EppWord
shape_of-fx-in-EppWord c = c.epp_decl.auto.fx

pub returns-in-EppWord : goal.returns-in-EppWord
returns-in-EppWord c =
    let e = c.in-EppWord.is in
    record {
      is = arm _ _ ((record { t1 = c.args.t1.now; t2 = c.args.t2.now; t3 = c.args.t3.now; t4 = c.args.t4.now; t5 = c.args.t5.now; t6 = c.args.t6.now; t10 = c.args.t10.now; t15 = c.args.t15.now; t16 = c.args.t16.now; t17 = c.args.t17.now })) _ c.look-seen.ensures.is EppWord _ e (ap (in5_10 ((record { t1 = c.args.t1.now; t2 = c.args.t2.now; t3 = c.args.t3.now; t4 = c.args.t4.now; t5 = c.args.t5.now; t6 = c.args.t6.now; t10 = c.args.t10.now; t15 = c.args.t15.now; t16 = c.args.t16.now; t17 = c.args.t17.now }))) c.epp_decl.ensures.is);
      moved = further _ _ _ EppWord _ _ c.look-seen.ensures.moved e (λ z. clash (cc)) c.epp_decl.ensures.moved;
      indexed = by_epp _ _ _ _ _ _ _ _ _ c.requires.1 c.requires.2 _ _ _ _ _ _ c.epp_decl.ensures.is c.epp_decl.ensures.indexed;
    }

pub shape_of-t10-in-ExpectRrWord : goal.shape_of-t10-in-ExpectRrWord
shape_of-t10-in-ExpectRrWord c = c.expect_decl.auto.t10

pub returns-in-ExpectRrWord : goal.returns-in-ExpectRrWord
returns-in-ExpectRrWord c =
    let e = c.in-ExpectRrWord.is in
    record {
      is = arm _ _ ((record { t1 = c.args.t1.now; t2 = c.args.t2.now; t3 = c.args.t3.now; t4 = c.args.t4.now; t5 = c.args.t5.now; t6 = c.args.t6.now; t10 = c.args.t10.now; t15 = c.args.t15.now; t16 = c.args.t16.now; t17 = c.args.t17.now })) _ c.look-seen.ensures.is ExpectRrWord _ e (ap (in10 ((record { t1 = c.args.t1.now; t2 = c.args.t2.now; t3 = c.args.t3.now; t4 = c.args.t4.now; t5 = c.args.t5.now; t6 = c.args.t6.now; t10 = c.args.t10.now; t15 = c.args.t15.now; t16 = c.args.t16.now; t17 = c.args.t17.now }))) c.expect_decl.ensures.is);
      moved = further _ _ _ ExpectRrWord _ _ c.look-seen.ensures.moved e (λ z. clash (cc)) c.expect_decl.ensures.moved;
      indexed = by_expect _ _ _ _ _ _ _ _ _ c.requires.1 c.requires.2 _ _ _ _ _ c.expect_decl.ensures.is;
    }

pub shape_of-t6-in-ExpectUnusedWord : goal.shape_of-t6-in-ExpectUnusedWord
shape_of-t6-in-ExpectUnusedWord c = c.list_decl-in-ExpectUnusedWord.auto.t

pub shape_of-t15-in-ExpectUnusedWord : goal.shape_of-t15-in-ExpectUnusedWord
shape_of-t15-in-ExpectUnusedWord c = c.list_decl-in-ExpectUnusedWord.auto.t15

pub shape_of-t16-in-ExpectUnusedWord : goal.shape_of-t16-in-ExpectUnusedWord
shape_of-t16-in-ExpectUnusedWord c = c.list_decl-in-ExpectUnusedWord.auto.t16

pub shape_of-i1-in-ExpectUnusedWord : goal.shape_of-i1-in-ExpectUnusedWord
shape_of-i1-in-ExpectUnusedWord c = c.list_decl-in-ExpectUnusedWord.auto.ix

pub returns-in-ExpectUnusedWord : goal.returns-in-ExpectUnusedWord
returns-in-ExpectUnusedWord c =
    let e = c.in-ExpectUnusedWord.is in
    record {
      is = arm _ _ ((record { t1 = c.args.t1.now; t2 = c.args.t2.now; t3 = c.args.t3.now; t4 = c.args.t4.now; t5 = c.args.t5.now; t6 = c.args.t6.now; t10 = c.args.t10.now; t15 = c.args.t15.now; t16 = c.args.t16.now; t17 = c.args.t17.now })) _ c.look-seen.ensures.is ExpectUnusedWord _ e (ap (in6_15_16 ((record { t1 = c.args.t1.now; t2 = c.args.t2.now; t3 = c.args.t3.now; t4 = c.args.t4.now; t5 = c.args.t5.now; t6 = c.args.t6.now; t10 = c.args.t10.now; t15 = c.args.t15.now; t16 = c.args.t16.now; t17 = c.args.t17.now }))) c.list_decl-in-ExpectUnusedWord.ensures.is);
      moved = further _ _ _ ExpectUnusedWord _ _ c.look-seen.ensures.moved e (λ z. clash (cc)) c.list_decl-in-ExpectUnusedWord.ensures.moved;
      indexed = by_unused _ _ _ _ _ _ _ _ _ c.requires.1 c.requires.2 _ _ _ _ _ _ _ _ _ (c.list_decl-in-ExpectUnusedWord.ensures.indexed.leaves refl) c.list_decl-in-ExpectUnusedWord.ensures.is;
    }

pub shape_of-t10-in-ExpectWord : goal.shape_of-t10-in-ExpectWord
shape_of-t10-in-ExpectWord c = c.expect_decl-in-ExpectWord.auto.t10

pub returns-in-ExpectWord : goal.returns-in-ExpectWord
returns-in-ExpectWord c =
    let e = c.in-ExpectWord.is in
    record {
      is = arm _ _ ((record { t1 = c.args.t1.now; t2 = c.args.t2.now; t3 = c.args.t3.now; t4 = c.args.t4.now; t5 = c.args.t5.now; t6 = c.args.t6.now; t10 = c.args.t10.now; t15 = c.args.t15.now; t16 = c.args.t16.now; t17 = c.args.t17.now })) _ c.look-seen.ensures.is ExpectWord _ e (ap (in10 ((record { t1 = c.args.t1.now; t2 = c.args.t2.now; t3 = c.args.t3.now; t4 = c.args.t4.now; t5 = c.args.t5.now; t6 = c.args.t6.now; t10 = c.args.t10.now; t15 = c.args.t15.now; t16 = c.args.t16.now; t17 = c.args.t17.now }))) c.expect_decl-in-ExpectWord.ensures.is);
      moved = further _ _ _ ExpectWord _ _ c.look-seen.ensures.moved e (λ z. clash (cc)) c.expect_decl-in-ExpectWord.ensures.moved;
      indexed = by_expect _ _ _ _ _ _ _ _ _ c.requires.1 c.requires.2 _ _ _ _ _ c.expect_decl-in-ExpectWord.ensures.is;
    }

pub shape_of-t1-in-AvoidInsertWord : goal.shape_of-t1-in-AvoidInsertWord
shape_of-t1-in-AvoidInsertWord c = c.avoid_decl.auto.t1

pub shape_of-t3 : goal.shape_of-t3
shape_of-t3 c = c.avoid_decl.auto.t

pub shape_of-t10-in-AvoidInsertWord : goal.shape_of-t10-in-AvoidInsertWord
shape_of-t10-in-AvoidInsertWord c = c.avoid_decl.auto.t10

pub shape_of-i1-in-AvoidInsertWord : goal.shape_of-i1-in-AvoidInsertWord
shape_of-i1-in-AvoidInsertWord c = c.avoid_decl.auto.i1

pub shape_of-fx-in-AvoidInsertWord : goal.shape_of-fx-in-AvoidInsertWord
shape_of-fx-in-AvoidInsertWord c = c.avoid_decl.auto.fx

pub returns-in-AvoidInsertWord : goal.returns-in-AvoidInsertWord
returns-in-AvoidInsertWord c =
    let e = c.in-AvoidInsertWord.is in
    record {
      is = arm _ _ ((record { t1 = c.args.t1.now; t2 = c.args.t2.now; t3 = c.args.t3.now; t4 = c.args.t4.now; t5 = c.args.t5.now; t6 = c.args.t6.now; t10 = c.args.t10.now; t15 = c.args.t15.now; t16 = c.args.t16.now; t17 = c.args.t17.now })) _ c.look-seen.ensures.is AvoidInsertWord _ e (ap (in1_3_10 ((record { t1 = c.args.t1.now; t2 = c.args.t2.now; t3 = c.args.t3.now; t4 = c.args.t4.now; t5 = c.args.t5.now; t6 = c.args.t6.now; t10 = c.args.t10.now; t15 = c.args.t15.now; t16 = c.args.t16.now; t17 = c.args.t17.now }))) c.avoid_decl.ensures.is);
      moved = further _ _ _ AvoidInsertWord _ _ c.look-seen.ensures.moved e (λ z. clash (cc)) c.avoid_decl.ensures.moved;
      indexed = (c.avoid_decl.ensures.indexed.0, by_avoided _ _ _ _ _ _ _ _ c.requires.2 _ _ _ _ _ _ _ _ c.avoid_decl.ensures.is c.avoid_decl.ensures.indexed.1);
    }

pub returns-in-ParseParamWord : goal.returns-in-ParseParamWord
returns-in-ParseParamWord c =
    let e = c.in-ParseParamWord.is in
    record {
      is = arm _ _ ((record { t1 = c.args.t1.now; t2 = c.args.t2.now; t3 = c.args.t3.now; t4 = c.args.t4.now; t5 = c.args.t5.now; t6 = c.args.t6.now; t10 = c.args.t10.now; t15 = c.args.t15.now; t16 = c.args.t16.now; t17 = c.args.t17.now })) _ c.look-seen.ensures.is ParseParamWord _ e (ap (in0 ((record { t1 = c.args.t1.now; t2 = c.args.t2.now; t3 = c.args.t3.now; t4 = c.args.t4.now; t5 = c.args.t5.now; t6 = c.args.t6.now; t10 = c.args.t10.now; t15 = c.args.t15.now; t16 = c.args.t16.now; t17 = c.args.t17.now }))) c.param_decl.ensures.is);
      moved = further _ _ _ ParseParamWord _ _ c.look-seen.ensures.moved e (λ z. clash (cc)) c.param_decl.ensures.moved;
      indexed = by_param _ _ _ _ _ _ _ _ _ c.requires.1 c.requires.2 _ _ c.param_decl.ensures.is;
    }

pub returns-in-ParseGenericsWord : goal.returns-in-ParseGenericsWord
returns-in-ParseGenericsWord c =
    let e = c.in-ParseGenericsWord.is in
    record {
      is = arm _ _ ((record { t1 = c.args.t1.now; t2 = c.args.t2.now; t3 = c.args.t3.now; t4 = c.args.t4.now; t5 = c.args.t5.now; t6 = c.args.t6.now; t10 = c.args.t10.now; t15 = c.args.t15.now; t16 = c.args.t16.now; t17 = c.args.t17.now })) _ c.look-seen.ensures.is ParseGenericsWord _ e (ap (in0 ((record { t1 = c.args.t1.now; t2 = c.args.t2.now; t3 = c.args.t3.now; t4 = c.args.t4.now; t5 = c.args.t5.now; t6 = c.args.t6.now; t10 = c.args.t10.now; t15 = c.args.t15.now; t16 = c.args.t16.now; t17 = c.args.t17.now }))) c.generics_decl.ensures.is);
      moved = further _ _ _ ParseGenericsWord _ _ c.look-seen.ensures.moved e (λ z. clash (cc)) c.generics_decl.ensures.moved;
      indexed = by_generics _ _ _ _ _ _ _ _ _ c.requires.1 c.requires.2 _ _ c.generics_decl.ensures.is;
    }

pub shape_of-t1-in-ImplicitTokensWord : goal.shape_of-t1-in-ImplicitTokensWord
shape_of-t1-in-ImplicitTokensWord c = c.avoid_decl-in-ImplicitTokensWord.auto.t1

pub shape_of-t4 : goal.shape_of-t4
shape_of-t4 c = c.avoid_decl-in-ImplicitTokensWord.auto.t

pub shape_of-t10-in-ImplicitTokensWord : goal.shape_of-t10-in-ImplicitTokensWord
shape_of-t10-in-ImplicitTokensWord c = c.avoid_decl-in-ImplicitTokensWord.auto.t10

pub shape_of-i1-in-ImplicitTokensWord : goal.shape_of-i1-in-ImplicitTokensWord
shape_of-i1-in-ImplicitTokensWord c = c.avoid_decl-in-ImplicitTokensWord.auto.i1

pub shape_of-fx-in-ImplicitTokensWord : goal.shape_of-fx-in-ImplicitTokensWord
shape_of-fx-in-ImplicitTokensWord c = c.avoid_decl-in-ImplicitTokensWord.auto.fx

pub returns-in-ImplicitTokensWord : goal.returns-in-ImplicitTokensWord
returns-in-ImplicitTokensWord c =
    let e = c.in-ImplicitTokensWord.is in
    record {
      is = arm _ _ ((record { t1 = c.args.t1.now; t2 = c.args.t2.now; t3 = c.args.t3.now; t4 = c.args.t4.now; t5 = c.args.t5.now; t6 = c.args.t6.now; t10 = c.args.t10.now; t15 = c.args.t15.now; t16 = c.args.t16.now; t17 = c.args.t17.now })) _ c.look-seen.ensures.is ImplicitTokensWord _ e (ap (in1_4_10 ((record { t1 = c.args.t1.now; t2 = c.args.t2.now; t3 = c.args.t3.now; t4 = c.args.t4.now; t5 = c.args.t5.now; t6 = c.args.t6.now; t10 = c.args.t10.now; t15 = c.args.t15.now; t16 = c.args.t16.now; t17 = c.args.t17.now }))) c.avoid_decl-in-ImplicitTokensWord.ensures.is);
      moved = further _ _ _ ImplicitTokensWord _ _ c.look-seen.ensures.moved e (λ z. clash (cc)) c.avoid_decl-in-ImplicitTokensWord.ensures.moved;
      indexed = (c.avoid_decl-in-ImplicitTokensWord.ensures.indexed.0, by_implicit _ _ _ _ _ _ _ _ c.requires.2 _ _ _ _ _ _ _ _ c.avoid_decl-in-ImplicitTokensWord.ensures.is c.avoid_decl-in-ImplicitTokensWord.ensures.indexed.1);
    }

pub shape_of-t2-in-LeftWord : goal.shape_of-t2-in-LeftWord
shape_of-t2-in-LeftWord c = c.prec_decl.auto.t2

pub shape_of-t10-in-LeftWord : goal.shape_of-t10-in-LeftWord
shape_of-t10-in-LeftWord c = c.prec_decl.auto.t10

pub shape_of-t15-in-LeftWord : goal.shape_of-t15-in-LeftWord
shape_of-t15-in-LeftWord c = c.prec_decl.auto.t15

pub shape_of-t16-in-LeftWord : goal.shape_of-t16-in-LeftWord
shape_of-t16-in-LeftWord c = c.prec_decl.auto.t16

pub shape_of-fx-in-LeftWord : goal.shape_of-fx-in-LeftWord
shape_of-fx-in-LeftWord c = c.prec_decl.auto.fx

pub returns-in-LeftWord : goal.returns-in-LeftWord
returns-in-LeftWord c =
    let e = c.in-LeftWord.is in
    record {
      is = arm _ _ ((record { t1 = c.args.t1.now; t2 = c.args.t2.now; t3 = c.args.t3.now; t4 = c.args.t4.now; t5 = c.args.t5.now; t6 = c.args.t6.now; t10 = c.args.t10.now; t15 = c.args.t15.now; t16 = c.args.t16.now; t17 = c.args.t17.now })) _ c.look-seen.ensures.is LeftWord _ e (ap (in2_10_15_16 ((record { t1 = c.args.t1.now; t2 = c.args.t2.now; t3 = c.args.t3.now; t4 = c.args.t4.now; t5 = c.args.t5.now; t6 = c.args.t6.now; t10 = c.args.t10.now; t15 = c.args.t15.now; t16 = c.args.t16.now; t17 = c.args.t17.now }))) c.prec_decl.ensures.is);
      moved = further _ _ _ LeftWord _ _ c.look-seen.ensures.moved e (λ z. clash (cc)) c.prec_decl.ensures.moved;
      indexed = by_prec _ _ _ _ _ _ _ _ _ c.requires.1 c.requires.2 _ _ _ _ _ _ _ _ _ _ _ c.prec_decl.ensures.is c.prec_decl.ensures.indexed;
    }

pub shape_of-t2-in-RightWord : goal.shape_of-t2-in-RightWord
shape_of-t2-in-RightWord c = c.prec_decl-in-RightWord.auto.t2

pub shape_of-t10-in-RightWord : goal.shape_of-t10-in-RightWord
shape_of-t10-in-RightWord c = c.prec_decl-in-RightWord.auto.t10

pub shape_of-t15-in-RightWord : goal.shape_of-t15-in-RightWord
shape_of-t15-in-RightWord c = c.prec_decl-in-RightWord.auto.t15

pub shape_of-t16-in-RightWord : goal.shape_of-t16-in-RightWord
shape_of-t16-in-RightWord c = c.prec_decl-in-RightWord.auto.t16

pub shape_of-fx-in-RightWord : goal.shape_of-fx-in-RightWord
shape_of-fx-in-RightWord c = c.prec_decl-in-RightWord.auto.fx

pub returns-in-RightWord : goal.returns-in-RightWord
returns-in-RightWord c =
    let e = c.in-RightWord.is in
    record {
      is = arm _ _ ((record { t1 = c.args.t1.now; t2 = c.args.t2.now; t3 = c.args.t3.now; t4 = c.args.t4.now; t5 = c.args.t5.now; t6 = c.args.t6.now; t10 = c.args.t10.now; t15 = c.args.t15.now; t16 = c.args.t16.now; t17 = c.args.t17.now })) _ c.look-seen.ensures.is RightWord _ e (ap (in2_10_15_16 ((record { t1 = c.args.t1.now; t2 = c.args.t2.now; t3 = c.args.t3.now; t4 = c.args.t4.now; t5 = c.args.t5.now; t6 = c.args.t6.now; t10 = c.args.t10.now; t15 = c.args.t15.now; t16 = c.args.t16.now; t17 = c.args.t17.now }))) c.prec_decl-in-RightWord.ensures.is);
      moved = further _ _ _ RightWord _ _ c.look-seen.ensures.moved e (λ z. clash (cc)) c.prec_decl-in-RightWord.ensures.moved;
      indexed = by_prec _ _ _ _ _ _ _ _ _ c.requires.1 c.requires.2 _ _ _ _ _ _ _ _ _ _ _ c.prec_decl-in-RightWord.ensures.is c.prec_decl-in-RightWord.ensures.indexed;
    }

pub shape_of-t2-in-NonassocWord : goal.shape_of-t2-in-NonassocWord
shape_of-t2-in-NonassocWord c = c.prec_decl-in-NonassocWord.auto.t2

pub shape_of-t10-in-NonassocWord : goal.shape_of-t10-in-NonassocWord
shape_of-t10-in-NonassocWord c = c.prec_decl-in-NonassocWord.auto.t10

pub shape_of-t15-in-NonassocWord : goal.shape_of-t15-in-NonassocWord
shape_of-t15-in-NonassocWord c = c.prec_decl-in-NonassocWord.auto.t15

pub shape_of-t16-in-NonassocWord : goal.shape_of-t16-in-NonassocWord
shape_of-t16-in-NonassocWord c = c.prec_decl-in-NonassocWord.auto.t16

pub shape_of-fx-in-NonassocWord : goal.shape_of-fx-in-NonassocWord
shape_of-fx-in-NonassocWord c = c.prec_decl-in-NonassocWord.auto.fx

pub returns-in-NonassocWord : goal.returns-in-NonassocWord
returns-in-NonassocWord c =
    let e = c.in-NonassocWord.is in
    record {
      is = arm _ _ ((record { t1 = c.args.t1.now; t2 = c.args.t2.now; t3 = c.args.t3.now; t4 = c.args.t4.now; t5 = c.args.t5.now; t6 = c.args.t6.now; t10 = c.args.t10.now; t15 = c.args.t15.now; t16 = c.args.t16.now; t17 = c.args.t17.now })) _ c.look-seen.ensures.is NonassocWord _ e (ap (in2_10_15_16 ((record { t1 = c.args.t1.now; t2 = c.args.t2.now; t3 = c.args.t3.now; t4 = c.args.t4.now; t5 = c.args.t5.now; t6 = c.args.t6.now; t10 = c.args.t10.now; t15 = c.args.t15.now; t16 = c.args.t16.now; t17 = c.args.t17.now }))) c.prec_decl-in-NonassocWord.ensures.is);
      moved = further _ _ _ NonassocWord _ _ c.look-seen.ensures.moved e (λ z. clash (cc)) c.prec_decl-in-NonassocWord.ensures.moved;
      indexed = by_prec _ _ _ _ _ _ _ _ _ c.requires.1 c.requires.2 _ _ _ _ _ _ _ _ _ _ _ c.prec_decl-in-NonassocWord.ensures.is c.prec_decl-in-NonassocWord.ensures.indexed;
    }

pub shape_of-t17-in-PrologueWord : goal.shape_of-t17-in-PrologueWord
shape_of-t17-in-PrologueWord c = c.prologue_decl.auto.t17

pub returns-in-PrologueWord : goal.returns-in-PrologueWord
returns-in-PrologueWord c =
    let e = c.in-PrologueWord.is in
    record {
      is = arm _ _ ((record { t1 = c.args.t1.now; t2 = c.args.t2.now; t3 = c.args.t3.now; t4 = c.args.t4.now; t5 = c.args.t5.now; t6 = c.args.t6.now; t10 = c.args.t10.now; t15 = c.args.t15.now; t16 = c.args.t16.now; t17 = c.args.t17.now })) _ c.look-seen.ensures.is PrologueWord _ e (ap (in17 ((record { t1 = c.args.t1.now; t2 = c.args.t2.now; t3 = c.args.t3.now; t4 = c.args.t4.now; t5 = c.args.t5.now; t6 = c.args.t6.now; t10 = c.args.t10.now; t15 = c.args.t15.now; t16 = c.args.t16.now; t17 = c.args.t17.now }))) c.prologue_decl.ensures.is);
      moved = further _ _ _ PrologueWord _ _ c.look-seen.ensures.moved e (λ z. clash (cc)) c.prologue_decl.ensures.moved;
      indexed = both_counted c.prologue_decl.ensures.counted (c.requires.1, c.requires.2);
    }

pub shape_of-t17-in-UnionWord : goal.shape_of-t17-in-UnionWord
shape_of-t17-in-UnionWord c = c.union_decl.auto.t17

pub returns-in-UnionWord : goal.returns-in-UnionWord
returns-in-UnionWord c =
    let e = c.in-UnionWord.is in
    record {
      is = arm _ _ ((record { t1 = c.args.t1.now; t2 = c.args.t2.now; t3 = c.args.t3.now; t4 = c.args.t4.now; t5 = c.args.t5.now; t6 = c.args.t6.now; t10 = c.args.t10.now; t15 = c.args.t15.now; t16 = c.args.t16.now; t17 = c.args.t17.now })) _ c.look-seen.ensures.is UnionWord _ e (ap (in17 ((record { t1 = c.args.t1.now; t2 = c.args.t2.now; t3 = c.args.t3.now; t4 = c.args.t4.now; t5 = c.args.t5.now; t6 = c.args.t6.now; t10 = c.args.t10.now; t15 = c.args.t15.now; t16 = c.args.t16.now; t17 = c.args.t17.now }))) c.union_decl.ensures.is);
      moved = further _ _ _ UnionWord _ _ c.look-seen.ensures.moved e (λ z. clash (cc)) c.union_decl.ensures.moved;
      indexed = both_counted c.union_decl.ensures.counted (c.requires.1, c.requires.2);
    }

pub shape_of-t6-in-TypeWord : goal.shape_of-t6-in-TypeWord
shape_of-t6-in-TypeWord c = c.list_decl-in-TypeWord.auto.t

pub shape_of-t15-in-TypeWord : goal.shape_of-t15-in-TypeWord
shape_of-t15-in-TypeWord c = c.list_decl-in-TypeWord.auto.t15

pub shape_of-t16-in-TypeWord : goal.shape_of-t16-in-TypeWord
shape_of-t16-in-TypeWord c = c.list_decl-in-TypeWord.auto.t16

pub shape_of-i1-in-TypeWord : goal.shape_of-i1-in-TypeWord
shape_of-i1-in-TypeWord c = c.list_decl-in-TypeWord.auto.ix

pub returns-in-TypeWord : goal.returns-in-TypeWord
returns-in-TypeWord c =
    let e = c.in-TypeWord.is in
    record {
      is = arm _ _ ((record { t1 = c.args.t1.now; t2 = c.args.t2.now; t3 = c.args.t3.now; t4 = c.args.t4.now; t5 = c.args.t5.now; t6 = c.args.t6.now; t10 = c.args.t10.now; t15 = c.args.t15.now; t16 = c.args.t16.now; t17 = c.args.t17.now })) _ c.look-seen.ensures.is TypeWord _ e (ap (in6_15_16 ((record { t1 = c.args.t1.now; t2 = c.args.t2.now; t3 = c.args.t3.now; t4 = c.args.t4.now; t5 = c.args.t5.now; t6 = c.args.t6.now; t10 = c.args.t10.now; t15 = c.args.t15.now; t16 = c.args.t16.now; t17 = c.args.t17.now }))) c.list_decl-in-TypeWord.ensures.is);
      moved = further _ _ _ TypeWord _ _ c.look-seen.ensures.moved e (λ z. clash (cc)) c.list_decl-in-TypeWord.ensures.moved;
      indexed = by_type _ _ _ _ _ _ _ _ _ c.requires.1 c.requires.2 _ _ _ _ _ _ _ _ _ (c.list_decl-in-TypeWord.ensures.indexed.leaves refl) c.list_decl-in-TypeWord.ensures.is;
    }

pub returns-in-NoKeyword : goal.returns-in-NoKeyword
returns-in-NoKeyword c =
    let e = c.in-NoKeyword.is in
    record {
      is = arm _ _ ((record { t1 = c.args.t1.now; t2 = c.args.t2.now; t3 = c.args.t3.now; t4 = c.args.t4.now; t5 = c.args.t5.now; t6 = c.args.t6.now; t10 = c.args.t10.now; t15 = c.args.t15.now; t16 = c.args.t16.now; t17 = c.args.t17.now })) _ c.look-seen.ensures.is NoKeyword _ e refl;
      moved = stays_put _ _ _ c.requires.0.within (λ z. clash (cc));
      indexed = (c.requires.1, c.requires.2);
    }
