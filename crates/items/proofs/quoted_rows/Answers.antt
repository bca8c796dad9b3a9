-- `items::quoted_rows`.
use mathlib.Core.Path.{sym, ◌∙◌}
use native.Mathlib.Omega.{arith}
use Rattle.items.proofs.Spares.{carried_tracked}
use Rattle.scan.proofs.Bytes.{told}
use Rattle.grammar.specs.State.{Onward}
use Rattle.grammar.proofs.Steps.{gap_onward, refused_stays}
use Rattle.items.proofs.Symbols.{carried2, carried_onward, quoted_spaced, quoted_gap_lem}
use Rattle.items.proofs.quoted_rows.Goals as goal

pub token_symbol-r-requires : goal.token_symbol-r-requires
token_symbol-r-requires c = c.requires.1

-- the word ends in the source
pub overflow_cast-made : goal.overflow_cast-made
overflow_cast-made c =
    let h = c.requires.0 in
    omega (arith, h.within, h.short)

pub returns-in-Ok : goal.returns-in-Ok
returns-in-Ok c =
    let e = c.in-Ok.is in
    record {
      is = carried2 _ _ _ c.carry.ensures _ _ ∙ quoted_spaced _ _ _ _ _ _ _ _ _ c.pass_gap.ensures.is _ _ _ e c.token_symbol-r.ensures.is;
      moved = carried_onward _ _ _ c.carry.ensures _ _ _ (told (Onward _ _ _ _) (sym c.token_symbol-r.ensures.kept) (gap_onward _ _ _ _ _ _ _ c.pass_gap.ensures.moved e));
      indexed = carried_tracked _ _ _ c.carry.ensures _ _ _ c.token_symbol-r.ensures.indexed;
    }

pub returns-in-Err : goal.returns-in-Err
returns-in-Err c =
    record {
      is = quoted_gap_lem _ _ _ _ _ _ _ _ _ c.pass_gap.ensures.is _ c.in-Err.is;
      moved = refused_stays _ _ _ _;
      indexed = c.requires.1;
    }
