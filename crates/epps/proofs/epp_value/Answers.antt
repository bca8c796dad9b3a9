-- `epps::epp_value`: spacing without line ends, then the text.
use native.Mathlib.Omega.{arith}
use Rattle.scan.proofs.Bytes.{told}
use Rattle.finder.proofs.Laws.{grown_none}
use Rattle.grammar.specs.State.{Gapped}
use Rattle.grammar.proofs.Steps.{nearer, refused_stays}
use Rattle.epps.proofs.Laws.{value_at, value_refused}
use Rattle.epps.proofs.epp_value.Goals as goal

pub overflow_cast-j : goal.overflow_cast-j
overflow_cast-j c = omega (arith, c.requires.0.within, c.requires.0.short)

pub epp_text-requires : goal.epp_text-requires
epp_text-requires c = (record { within = (told (Gapped _ _) c.in-Ok.is c.pass_gap.ensures.moved).1; short = c.requires.0.short }, c.requires.1)

pub returns-in-Ok : goal.returns-in-Ok
returns-in-Ok c =
    let h = (told (Gapped _ _) c.in-Ok.is c.pass_gap.ensures.moved).0 in record {
      is = value_at _ _ _ _ _ _ _ _ _ c.pass_gap.ensures.is _ _ _ c.in-Ok.is c.epp_text.ensures.is;
      moved = nearer _ _ _ _ _ _ (omega arith) c.epp_text.ensures.moved;
      indexed = c.epp_text.ensures.indexed;
    }

pub returns-in-Err : goal.returns-in-Err
returns-in-Err c =
    record {
      is = value_refused _ _ _ _ _ _ _ _ _ c.pass_gap.ensures.is _ c.in-Err.is;
      moved = refused_stays _ _ _ _;
      indexed = (c.requires.1, grown_none _);
    }
