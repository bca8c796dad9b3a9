-- `shipper::piece_end`: one answer for each piece.
use Rattle.shipper.proofs.Laws.{piece_of, line_is}
use Rattle.shipper.proofs.piece_end.Goals as goal

pub returns-in-NamePiece : goal.returns-in-NamePiece
returns-in-NamePiece c =
    record {
      is = piece_of _ _ c.in-NamePiece.is _ c.name_end.ensures.is;
      moved = c.name_end.ensures.moved;
    }

pub returns-in-TokenPiece : goal.returns-in-TokenPiece
returns-in-TokenPiece c =
    record {
      is = piece_of _ _ c.in-TokenPiece.is _ c.token_end.ensures.is;
      moved = c.token_end.ensures.moved;
    }

pub returns-in-SpelledPiece : goal.returns-in-SpelledPiece
returns-in-SpelledPiece c =
    record {
      is = piece_of _ _ c.in-SpelledPiece.is _ c.spelled_end.ensures.is;
      moved = c.spelled_end.ensures.moved;
    }

pub returns-in-IntPiece : goal.returns-in-IntPiece
returns-in-IntPiece c =
    record {
      is = piece_of _ _ c.in-IntPiece.is _ c.int_end.ensures.is;
      moved = c.int_end.ensures.moved;
    }

pub returns-in-StringPiece : goal.returns-in-StringPiece
returns-in-StringPiece c =
    record {
      is = piece_of _ _ c.in-StringPiece.is _ c.string_end.ensures.is;
      moved = c.string_end.ensures.moved;
    }

pub returns-in-LinePiece : goal.returns-in-LinePiece
returns-in-LinePiece c =
    record {
      is = piece_of _ _ c.in-LinePiece.is _ (line_is _ _ _ c.parse_to_eol.ensures.value);
      moved = record { onward = c.parse_to_eol.ensures.lined.onward; inside = c.parse_to_eol.ensures.lined.inside };
    }

pub returns-in-ColonPiece : goal.returns-in-ColonPiece
returns-in-ColonPiece c =
    record {
      is = piece_of _ _ c.in-ColonPiece.is _ c.colon_end.ensures.is;
      moved = c.colon_end.ensures.moved;
    }

pub returns-in-ActionPiece : goal.returns-in-ActionPiece
returns-in-ActionPiece c =
    record {
      is = piece_of _ _ c.in-ActionPiece.is _ c.action_end.ensures.is;
      moved = c.action_end.ensures.moved;
    }
