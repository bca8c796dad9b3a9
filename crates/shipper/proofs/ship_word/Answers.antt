-- `shipper::ship_word`: one answer for each keyword, by the law of what its text is.
use Rattle.grammar.proofs.Steps.{still}
use Rattle.shipper.proofs.Laws.{passed_from, word_wrote, wrote_none}
use Rattle.shipper.proofs.ship_word.Goals as goal

pub ship_list-requires : goal.ship_list-requires
ship_list-requires c = c.requires.1

pub ship_one-requires : goal.ship_one-requires
ship_one-requires c = c.requires.1

pub ship_one-requires-in-StartWord : goal.ship_one-requires-in-StartWord
ship_one-requires-in-StartWord c = c.requires.1

pub ship_epp-requires : goal.ship_epp-requires
ship_epp-requires c = c.requires.1

pub ship_one-requires-in-ExpectRrWord : goal.ship_one-requires-in-ExpectRrWord
ship_one-requires-in-ExpectRrWord c = c.requires.1

pub ship_list-requires-in-ExpectUnusedWord : goal.ship_list-requires-in-ExpectUnusedWord
ship_list-requires-in-ExpectUnusedWord c = c.requires.1

pub ship_one-requires-in-ExpectWord : goal.ship_one-requires-in-ExpectWord
ship_one-requires-in-ExpectWord c = c.requires.1

pub ship_line-requires : goal.ship_line-requires
ship_line-requires c = c.requires.1

pub ship_param-requires : goal.ship_param-requires
ship_param-requires c = c.requires.1

pub ship_one-requires-in-ParseGenericsWord : goal.ship_one-requires-in-ParseGenericsWord
ship_one-requires-in-ParseGenericsWord c = c.requires.1

pub ship_line-requires-in-ImplicitTokensWord : goal.ship_line-requires-in-ImplicitTokensWord
ship_line-requires-in-ImplicitTokensWord c = c.requires.1

pub ship_line-requires-in-LeftWord : goal.ship_line-requires-in-LeftWord
ship_line-requires-in-LeftWord c = c.requires.1

pub ship_line-requires-in-RightWord : goal.ship_line-requires-in-RightWord
ship_line-requires-in-RightWord c = c.requires.1

pub ship_line-requires-in-NonassocWord : goal.ship_line-requires-in-NonassocWord
ship_line-requires-in-NonassocWord c = c.requires.1

pub returns-in-Percents : goal.returns-in-Percents
returns-in-Percents c =
    record {
      is = word_wrote _ _ _ _ _ _ c.in-Percents.is _ (wrote_none _ _ _);
      moved = still _ _ c.requires.0;
    }

pub shape_of-out-in-TokenWord : goal.shape_of-out-in-TokenWord
shape_of-out-in-TokenWord c = c.ship_list.auto.out

pub returns-in-TokenWord : goal.returns-in-TokenWord
returns-in-TokenWord c =
    record {
      is = word_wrote _ _ _ _ _ _ c.in-TokenWord.is _ c.ship_list.ensures.is;
      moved = passed_from _ _ _ _ c.requires.2 c.ship_list.ensures.moved;
    }

pub shape_of-out-in-ActiontypeWord : goal.shape_of-out-in-ActiontypeWord
shape_of-out-in-ActiontypeWord c = c.ship_one.auto.out

pub returns-in-ActiontypeWord : goal.returns-in-ActiontypeWord
returns-in-ActiontypeWord c =
    record {
      is = word_wrote _ _ _ _ _ _ c.in-ActiontypeWord.is _ c.ship_one.ensures.is;
      moved = passed_from _ _ _ _ c.requires.2 c.ship_one.ensures.moved;
    }

pub shape_of-out-in-StartWord : goal.shape_of-out-in-StartWord
shape_of-out-in-StartWord c = c.ship_one-in-StartWord.auto.out

pub returns-in-StartWord : goal.returns-in-StartWord
returns-in-StartWord c =
    record {
      is = word_wrote _ _ _ _ _ _ c.in-StartWord.is _ c.ship_one-in-StartWord.ensures.is;
      moved = passed_from _ _ _ _ c.requires.2 c.ship_one-in-StartWord.ensures.moved;
    }

pub shape_of-out-in-EppWord : goal.shape_of-out-in-EppWord
shape_of-out-in-EppWord c = c.ship_epp.auto.out

pub returns-in-EppWord : goal.returns-in-EppWord
returns-in-EppWord c =
    record {
      is = word_wrote _ _ _ _ _ _ c.in-EppWord.is _ c.ship_epp.ensures.is;
      moved = passed_from _ _ _ _ c.requires.2 c.ship_epp.ensures.moved;
    }

pub shape_of-out-in-ExpectRrWord : goal.shape_of-out-in-ExpectRrWord
shape_of-out-in-ExpectRrWord c = c.ship_one-in-ExpectRrWord.auto.out

pub returns-in-ExpectRrWord : goal.returns-in-ExpectRrWord
returns-in-ExpectRrWord c =
    record {
      is = word_wrote _ _ _ _ _ _ c.in-ExpectRrWord.is _ c.ship_one-in-ExpectRrWord.ensures.is;
      moved = passed_from _ _ _ _ c.requires.2 c.ship_one-in-ExpectRrWord.ensures.moved;
    }

pub shape_of-out-in-ExpectUnusedWord : goal.shape_of-out-in-ExpectUnusedWord
shape_of-out-in-ExpectUnusedWord c = c.ship_list-in-ExpectUnusedWord.auto.out

pub returns-in-ExpectUnusedWord : goal.returns-in-ExpectUnusedWord
returns-in-ExpectUnusedWord c =
    record {
      is = word_wrote _ _ _ _ _ _ c.in-ExpectUnusedWord.is _ c.ship_list-in-ExpectUnusedWord.ensures.is;
      moved = passed_from _ _ _ _ c.requires.2 c.ship_list-in-ExpectUnusedWord.ensures.moved;
    }

pub shape_of-out-in-ExpectWord : goal.shape_of-out-in-ExpectWord
shape_of-out-in-ExpectWord c = c.ship_one-in-ExpectWord.auto.out

pub returns-in-ExpectWord : goal.returns-in-ExpectWord
returns-in-ExpectWord c =
    record {
      is = word_wrote _ _ _ _ _ _ c.in-ExpectWord.is _ c.ship_one-in-ExpectWord.ensures.is;
      moved = passed_from _ _ _ _ c.requires.2 c.ship_one-in-ExpectWord.ensures.moved;
    }

pub shape_of-out-in-AvoidInsertWord : goal.shape_of-out-in-AvoidInsertWord
shape_of-out-in-AvoidInsertWord c = c.ship_line.auto.out

pub returns-in-AvoidInsertWord : goal.returns-in-AvoidInsertWord
returns-in-AvoidInsertWord c =
    record {
      is = word_wrote _ _ _ _ _ _ c.in-AvoidInsertWord.is _ c.ship_line.ensures.is;
      moved = passed_from _ _ _ _ c.requires.2 c.ship_line.ensures.moved;
    }

pub shape_of-out-in-ParseParamWord : goal.shape_of-out-in-ParseParamWord
shape_of-out-in-ParseParamWord c = c.ship_param.auto.out

pub returns-in-ParseParamWord : goal.returns-in-ParseParamWord
returns-in-ParseParamWord c =
    record {
      is = word_wrote _ _ _ _ _ _ c.in-ParseParamWord.is _ c.ship_param.ensures.is;
      moved = passed_from _ _ _ _ c.requires.2 c.ship_param.ensures.moved;
    }

pub shape_of-out-in-ParseGenericsWord : goal.shape_of-out-in-ParseGenericsWord
shape_of-out-in-ParseGenericsWord c = c.ship_one-in-ParseGenericsWord.auto.out

pub returns-in-ParseGenericsWord : goal.returns-in-ParseGenericsWord
returns-in-ParseGenericsWord c =
    record {
      is = word_wrote _ _ _ _ _ _ c.in-ParseGenericsWord.is _ c.ship_one-in-ParseGenericsWord.ensures.is;
      moved = passed_from _ _ _ _ c.requires.2 c.ship_one-in-ParseGenericsWord.ensures.moved;
    }

pub shape_of-out-in-ImplicitTokensWord : goal.shape_of-out-in-ImplicitTokensWord
shape_of-out-in-ImplicitTokensWord c = c.ship_line-in-ImplicitTokensWord.auto.out

pub returns-in-ImplicitTokensWord : goal.returns-in-ImplicitTokensWord
returns-in-ImplicitTokensWord c =
    record {
      is = word_wrote _ _ _ _ _ _ c.in-ImplicitTokensWord.is _ c.ship_line-in-ImplicitTokensWord.ensures.is;
      moved = passed_from _ _ _ _ c.requires.2 c.ship_line-in-ImplicitTokensWord.ensures.moved;
    }

pub shape_of-out-in-LeftWord : goal.shape_of-out-in-LeftWord
shape_of-out-in-LeftWord c = c.ship_line-in-LeftWord.auto.out

pub returns-in-LeftWord : goal.returns-in-LeftWord
returns-in-LeftWord c =
    record {
      is = word_wrote _ _ _ _ _ _ c.in-LeftWord.is _ c.ship_line-in-LeftWord.ensures.is;
      moved = passed_from _ _ _ _ c.requires.2 c.ship_line-in-LeftWord.ensures.moved;
    }

pub shape_of-out-in-RightWord : goal.shape_of-out-in-RightWord
shape_of-out-in-RightWord c = c.ship_line-in-RightWord.auto.out

pub returns-in-RightWord : goal.returns-in-RightWord
returns-in-RightWord c =
    record {
      is = word_wrote _ _ _ _ _ _ c.in-RightWord.is _ c.ship_line-in-RightWord.ensures.is;
      moved = passed_from _ _ _ _ c.requires.2 c.ship_line-in-RightWord.ensures.moved;
    }

pub shape_of-out-in-NonassocWord : goal.shape_of-out-in-NonassocWord
shape_of-out-in-NonassocWord c = c.ship_line-in-NonassocWord.auto.out

pub returns-in-NonassocWord : goal.returns-in-NonassocWord
returns-in-NonassocWord c =
    record {
      is = word_wrote _ _ _ _ _ _ c.in-NonassocWord.is _ c.ship_line-in-NonassocWord.ensures.is;
      moved = passed_from _ _ _ _ c.requires.2 c.ship_line-in-NonassocWord.ensures.moved;
    }

pub returns-in-PrologueWord : goal.returns-in-PrologueWord
returns-in-PrologueWord c =
    record {
      is = word_wrote _ _ _ _ _ _ c.in-PrologueWord.is _ (wrote_none _ _ _);
      moved = still _ _ c.requires.0;
    }

pub returns-in-UnionWord : goal.returns-in-UnionWord
returns-in-UnionWord c =
    record {
      is = word_wrote _ _ _ _ _ _ c.in-UnionWord.is _ (wrote_none _ _ _);
      moved = still _ _ c.requires.0;
    }

pub returns-in-TypeWord : goal.returns-in-TypeWord
returns-in-TypeWord c =
    record {
      is = word_wrote _ _ _ _ _ _ c.in-TypeWord.is _ (wrote_none _ _ _);
      moved = still _ _ c.requires.0;
    }

pub returns-in-NoKeyword : goal.returns-in-NoKeyword
returns-in-NoKeyword c =
    record {
      is = word_wrote _ _ _ _ _ _ c.in-NoKeyword.is _ (wrote_none _ _ _);
      moved = still _ _ c.requires.0;
    }
