-- `rules::pass_mark`.
use mathlib.Core.Path.{◌≡◌, refl}
use mathlib.Core.Bool.{Bool, true}
use native.Mathlib.Omega.{arith}
use Rattle.scan.proofs.Bytes.{told}
use Rattle.grammar.proofs.Steps.{gap_passed, passed_fits, onward_passed, still}
use Rattle.rules.proofs.Laws.{mark_fits, mark_passed, mark_missing, mark_refused}
use Rattle.rules.proofs.pass_mark.Goals as goal

pub overflow_add-i : goal.overflow_add-i
overflow_add-i c =
    let e = (mark_fits _ _ _ ((gap_passed _ _ _ _ _ c.pass_gap.ensures.moved c.in-Ok.is)).inside (told (λ (b : Bool). b ≡ true) c.starts.ensures c.if-starts.true)) in omega (arith, c.requires.short)

pub past_gap-requires : goal.past_gap-requires
past_gap-requires c =
    record { within = (mark_fits _ _ _ ((gap_passed _ _ _ _ _ c.pass_gap.ensures.moved c.in-Ok.is)).inside (told (λ (b : Bool). b ≡ true) c.starts.ensures c.if-starts.true)); short = c.requires.short }

pub returns-then-starts : goal.returns-then-starts
returns-then-starts c =
    record {
      is = mark_passed _ _ _ _ _ c.pass_gap.ensures.is _ _ c.in-Ok.is _ c.starts.ensures _ c.if-starts.true c.past_gap.ensures.is;
      moved = onward_passed _ _ _ _ _ _ c.past_gap.ensures.moved refl (record { onward = let b = ((gap_passed _ _ _ _ _ c.pass_gap.ensures.moved c.in-Ok.is)).onward in omega arith; inside = (mark_fits _ _ _ ((gap_passed _ _ _ _ _ c.pass_gap.ensures.moved c.in-Ok.is)).inside (told (λ (b : Bool). b ≡ true) c.starts.ensures c.if-starts.true)) });
    }

pub overflow_cast-result : goal.overflow_cast-result
overflow_cast-result c = passed_fits _ _ _ c.requires ((gap_passed _ _ _ _ _ c.pass_gap.ensures.moved c.in-Ok.is))

pub returns-else-starts : goal.returns-else-starts
returns-else-starts c =
    record {
      is = mark_missing _ _ _ _ _ c.pass_gap.ensures.is _ _ c.in-Ok.is _ c.starts.ensures c.if-starts.false;
      moved = still _ _ c.requires;
    }

pub returns-in-Err : goal.returns-in-Err
returns-in-Err c =
    record {
      is = mark_refused _ _ _ _ _ c.pass_gap.ensures.is _ c.in-Err.is;
      moved = still _ _ c.requires;
    }
