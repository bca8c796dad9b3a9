-- `shipper::ship_programs`.
use mathlib.Core.Path.{refl, sym, ◌∙◌}
use native.Mathlib.Omega.{arith}
use borrow.Author.Tests.{not-true, not-false}
use Rattle.scan.proofs.Bytes.{starts_fits}
use Rattle.shipper.proofs.Laws.{programs_none, programs_wrote}
use Rattle.shipper.proofs.ship_programs.Goals as goal

pub returns-then-not-starts : goal.returns-then-not-starts
returns-then-not-starts c =
    record {
      is = programs_none _ _ _ _ _ _ _ c.starts.ensures (not-true _ c.if-not-starts.true-raw) refl;
      moved = record { onward = omega arith; inside = c.requires.within };
    }

pub gap_end-requires : goal.gap_end-requires
gap_end-requires c =
    record { within = starts_fits _ _ _ (sym c.starts.ensures ∙ not-false _ c.if-not-starts.false-raw) (omega arith); short = c.requires.short }

pub shape_of-out : goal.shape_of-out
shape_of-out c = c.put_part-k.auto.out ∙ c.put_text-m.auto.out

pub returns : goal.returns
returns c =
    let p = c.requires.within in
    record {
      is = programs_wrote _ _ _ _ _ _ _ c.starts.ensures (not-false _ c.if-not-starts.false-raw) _ _ c.put_text-m.ensures _ c.gap_end.ensures.is _ _ c.put_part-k.ensures refl;
      moved = record { onward = p; inside = omega arith };
    }
