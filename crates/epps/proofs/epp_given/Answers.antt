-- `epps::epp_given`: a row more or a repeat, and the spacing behind it.
use mathlib.Core.Path.{refl}
use mathlib.Core.Bool.{false}
use native.Mathlib.Omega.{arith}
use Rattle.epps.specs.Epps.{epp_given}
use Rattle.grammar.proofs.Steps.{behind_two}
use Rattle.grammar.proofs.Spares.{tracked_passed}
use Rattle.epps.proofs.epp_given.Goals as goal

pub overflow_cast-row : goal.overflow_cast-row
overflow_cast-row c = omega (arith, c.requires.0.within, c.requires.0.short)

pub once-r-requires : goal.once-r-requires
once-r-requires c = (record { table = omega arith; wide = refl; named = omega arith }, c.requires.1)

pub pass_on-requires : goal.pass_on-requires
pass_on-requires c = c.requires.0

pub returns : goal.returns
unfolding epp_given
returns c =
    let f = c.once-r.ensures.indexed in
    record {
      is = behind_two _ _ _ _ _ _ c.pass_on.ensures.is _ _ _ c.once-r.ensures.is;
      moved = rw c.once-r.ensures.kept at c.pass_on.ensures.moved;
      indexed = (tracked_passed _ _ _ _ false c.args.e c.once-r.result.answer c.once-r.result.state _ _ _ _ c.pass_on.ensures.is f.0, f.1);
    }
