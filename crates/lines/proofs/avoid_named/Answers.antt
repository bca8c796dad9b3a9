-- `lines::avoid_named`.
use Prim.Native.Nat.{ℕ}
use mathlib.Core.Path.{◌≡◌, refl, sym, ◌∙◌}
use mathlib.Core.Bool.{true, false}
use native.Mathlib.Omega.{arith}
use Rattle.scan.proofs.Bytes.{told}
use Rattle.finder.proofs.Laws.{grown_none}
use Rattle.grammar.specs.State.{Onward}
use Rattle.grammar.proofs.Steps.{stays}
use Rattle.grammar.proofs.Spares.{tracked_passed}
use Rattle.lines.proofs.Spares.{once_tracked, tracked_entered}
use Rattle.lines.proofs.Laws.{avoid_entered_lem, enter_done, enter_refused}
use Rattle.lines.proofs.avoid_named.Goals as goal

pub enter-e-requires : goal.enter-e-requires
enter-e-requires c = c.requires.1

pub once-r-requires : goal.once-r-requires
once-r-requires c =
    (record { table = c.requires.3; wide = refl; named = omega arith }, (tracked_entered c.args.src.now c.args.k 2 0 c.args.s _ _ false _ c.enter-e.result.answer c.enter-e.result.state _ _ _ c.requires.2 c.enter-e.ensures.is c.requires.4))

pub pass_on-requires : goal.pass_on-requires
pass_on-requires c = c.requires.0

pub shape_of-t1-in-Going : goal.shape_of-t1-in-Going
shape_of-t1-in-Going c = c.enter-e.auto.t

pub shape_of-i1-in-Going : goal.shape_of-i1-in-Going
shape_of-i1-in-Going c = c.enter-e.auto.ix

pub returns-in-Going : goal.returns-in-Going
returns-in-Going c =
    record {
      is = avoid_entered_lem _ _ _ _ _ _ _ _ _ _ _ c.enter-e.ensures.is _ _ c.in-Going.is c.once-r.ensures.is c.pass_on.ensures.is;
      moved = rw (c.once-r.ensures.kept ∙ c.enter-e.ensures.kept) at c.pass_on.ensures.moved;
      indexed = (
        once_tracked c.args.src.now c.enter-e.result.state c.args.k 2 0 c.args.what _ _ _ c.once-r.result.answer c.once-r.result.state _ _ true c.args.end _ _ _ _ c.requires.2 c.once-r.ensures.is c.pass_on.ensures.is c.enter-e.ensures.indexed,
        (tracked_passed c.args.src.now c.args.k 2 0 true c.args.end c.once-r.result.answer c.once-r.result.state _ _ _ _ c.pass_on.ensures.is c.once-r.ensures.indexed.0, c.once-r.ensures.indexed.1),
      );
    }

pub returns-in-Done : goal.returns-in-Done
returns-in-Done c =
    record {
      is = enter_done _ _ _ _ _ _ _ _ _ _ _ c.enter-e.ensures.is c.in-Done.is;
      moved = told (Onward _ _ _ _) (sym c.enter-e.ensures.kept) (stays _ _ _ _ (λ g. let z : ◌≡◌ {A = ℕ} 0 1 = cc in omega arith));
      indexed = (c.enter-e.ensures.indexed, ((tracked_entered c.args.src.now c.args.k 2 0 c.args.s _ _ false _ c.enter-e.result.answer c.enter-e.result.state _ _ _ c.requires.2 c.enter-e.ensures.is c.requires.4), grown_none _));
    }

pub returns-in-Refused : goal.returns-in-Refused
returns-in-Refused c =
    record {
      is = enter_refused _ _ _ _ _ _ _ _ _ _ _ c.enter-e.ensures.is _ c.in-Refused.is;
      moved = told (Onward _ _ _ _) (sym c.enter-e.ensures.kept) (stays _ _ _ _ (λ g. let z : ◌≡◌ {A = ℕ} 0 1 = cc in omega arith));
      indexed = (c.enter-e.ensures.indexed, ((tracked_entered c.args.src.now c.args.k 2 0 c.args.s _ _ false _ c.enter-e.result.answer c.enter-e.result.state _ _ _ c.requires.2 c.enter-e.ensures.is c.requires.4), grown_none _));
    }
