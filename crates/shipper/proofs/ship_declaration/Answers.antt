-- `shipper::ship_declaration`.
use native.Mathlib.Omega.{arith}
use Rattle.shipper.proofs.Laws.{decl_wrote}
use Rattle.shipper.proofs.ship_declaration.Goals as goal

pub look-seen-requires : goal.look-seen-requires
look-seen-requires c = c.requires.within

pub gap_end-j-requires : goal.gap_end-j-requires
gap_end-j-requires c = record { within = c.look-seen.ensures.moved.inside; short = c.requires.short }

pub ship_word-requires : goal.ship_word-requires
ship_word-requires c =
    let g = c.gap_end-j.ensures.moved in
    let a = g.onward in
    let b = c.look-seen.ensures.moved.onward in
    (c.requires, record { within = g.inside; short = c.requires.short }, omega arith)

pub shape_of-out : goal.shape_of-out
shape_of-out c = c.ship_word.auto.out

pub returns : goal.returns
returns c =
    record {
      is = decl_wrote _ _ _ _ _ _ _ c.look-seen.ensures.is _ c.gap_end-j.ensures.is c.ship_word.ensures.is;
      moved = c.ship_word.ensures.moved;
    }
