-- `shipper::ship_sort`: one answer for each sort.
use mathlib.Core.Path.{◌∙◌}
use native.Mathlib.Omega.{arith}
use Rattle.shipper.proofs.Laws.{passed_from, sort_wrote, prec_wrote}
use Rattle.shipper.proofs.ship_sort.Goals as goal

pub ship_mark-requires : goal.ship_mark-requires
ship_mark-requires c = c.requires.1

pub ship_mark-requires-in-EndSort : goal.ship_mark-requires-in-EndSort
ship_mark-requires-in-EndSort c = c.requires.1

pub ship_piece-requires : goal.ship_piece-requires
ship_piece-requires c = c.requires.0

pub gap_end-requires : goal.gap_end-requires
gap_end-requires c = c.requires.1

pub ship_piece-requires-in-PrecSort : goal.ship_piece-requires-in-PrecSort
ship_piece-requires-in-PrecSort c = record { within = c.gap_end.ensures.moved.inside; short = c.requires.0.short }

pub ship_piece-requires-in-ActionSort : goal.ship_piece-requires-in-ActionSort
ship_piece-requires-in-ActionSort c = c.requires.0

pub ship_mark-requires-in-EmptySort : goal.ship_mark-requires-in-EmptySort
ship_mark-requires-in-EmptySort c = c.requires.1

pub ship_piece-requires-in-BareSort : goal.ship_piece-requires-in-BareSort
ship_piece-requires-in-BareSort c = c.requires.0

pub shape_of-out-in-BarSort : goal.shape_of-out-in-BarSort
shape_of-out-in-BarSort c = c.ship_mark.auto.out

pub returns-in-BarSort : goal.returns-in-BarSort
returns-in-BarSort c =
    record {
      is = sort_wrote _ _ _ _ _ _ c.in-BarSort.is _ c.ship_mark.ensures.is;
      moved = passed_from _ _ _ _ c.requires.2 c.ship_mark.ensures.moved;
    }

pub shape_of-out-in-EndSort : goal.shape_of-out-in-EndSort
shape_of-out-in-EndSort c = c.ship_mark-in-EndSort.auto.out

pub returns-in-EndSort : goal.returns-in-EndSort
returns-in-EndSort c =
    record {
      is = sort_wrote _ _ _ _ _ _ c.in-EndSort.is _ c.ship_mark-in-EndSort.ensures.is;
      moved = passed_from _ _ _ _ c.requires.2 c.ship_mark-in-EndSort.ensures.moved;
    }

pub shape_of-out-in-QuotedSort : goal.shape_of-out-in-QuotedSort
shape_of-out-in-QuotedSort c = c.ship_piece.auto.out

pub returns-in-QuotedSort : goal.returns-in-QuotedSort
returns-in-QuotedSort c =
    record {
      is = sort_wrote _ _ _ _ _ _ c.in-QuotedSort.is _ c.ship_piece.ensures.is;
      moved = c.ship_piece.ensures.moved;
    }

pub shape_of-out-in-PrecSort : goal.shape_of-out-in-PrecSort
shape_of-out-in-PrecSort c = c.ship_piece-in-PrecSort.auto.out ∙ c.put_text-m.auto.out

pub returns-in-PrecSort : goal.returns-in-PrecSort
returns-in-PrecSort c =
    let a = c.ship_piece-in-PrecSort.ensures.moved.onward in
    let b = c.requires.2 in
    let g = c.gap_end.ensures.moved.onward in
    record {
      is = sort_wrote _ _ _ _ _ _ c.in-PrecSort.is _ (prec_wrote _ _ _ _ _ c.gap_end.ensures.is _ _ _ _ c.put_text-m.ensures _ c.ship_piece-in-PrecSort.ensures.is);
      moved = record { onward = omega arith; inside = c.ship_piece-in-PrecSort.ensures.moved.inside };
    }

pub shape_of-out-in-ActionSort : goal.shape_of-out-in-ActionSort
shape_of-out-in-ActionSort c = c.ship_piece-in-ActionSort.auto.out

pub returns-in-ActionSort : goal.returns-in-ActionSort
returns-in-ActionSort c =
    record {
      is = sort_wrote _ _ _ _ _ _ c.in-ActionSort.is _ c.ship_piece-in-ActionSort.ensures.is;
      moved = c.ship_piece-in-ActionSort.ensures.moved;
    }

pub shape_of-out-in-EmptySort : goal.shape_of-out-in-EmptySort
shape_of-out-in-EmptySort c = c.ship_mark-in-EmptySort.auto.out

pub returns-in-EmptySort : goal.returns-in-EmptySort
returns-in-EmptySort c =
    record {
      is = sort_wrote _ _ _ _ _ _ c.in-EmptySort.is _ c.ship_mark-in-EmptySort.ensures.is;
      moved = passed_from _ _ _ _ c.requires.2 c.ship_mark-in-EmptySort.ensures.moved;
    }

pub shape_of-out-in-BareSort : goal.shape_of-out-in-BareSort
shape_of-out-in-BareSort c = c.ship_piece-in-BareSort.auto.out

pub returns-in-BareSort : goal.returns-in-BareSort
returns-in-BareSort c =
    record {
      is = sort_wrote _ _ _ _ _ _ c.in-BareSort.is _ c.ship_piece-in-BareSort.ensures.is;
      moved = c.ship_piece-in-BareSort.ensures.moved;
    }
