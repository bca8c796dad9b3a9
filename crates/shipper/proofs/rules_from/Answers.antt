-- `shipper::rules_from`.
use mathlib.Core.Path.{sym, ◌∙◌}
use native.Mathlib.Omega.{arith}
use Rattle.scan.proofs.Bytes.{starts_fits}
use Rattle.shipper.proofs.Laws.{rules_behind, rules_here}
use Rattle.shipper.proofs.rules_from.Goals as goal

pub gap_end-requires : goal.gap_end-requires
gap_end-requires c =
    let f = starts_fits _ _ _ (sym c.starts.ensures ∙ c.if-starts.true) (omega arith) in
    record { within = f; short = c.requires.short }

pub returns-then-starts : goal.returns-then-starts
returns-then-starts c =
    let g = c.gap_end.ensures.moved in
    let a = g.onward in
    record {
      is = rules_behind _ _ _ _ c.starts.ensures c.if-starts.true _ c.gap_end.ensures.is;
      moved = record { onward = omega arith; inside = g.inside };
    }

pub returns : goal.returns
returns c =
    record {
      is = rules_here _ _ _ _ c.starts.ensures c.if-starts.false;
      moved = record { onward = omega arith; inside = c.requires.within };
    }
