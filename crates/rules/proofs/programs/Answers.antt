-- `rules::programs`.
use mathlib.Core.Path.{◌≡◌}
use mathlib.Core.Bool.{Bool, true}
use native.Mathlib.Omega.{arith}
use borrow.Author.Tests.{not-true, not-false}
use Rattle.scan.proofs.Bytes.{told, starts_fits}
use Rattle.grammar.proofs.Steps.{gap_passed, still}
use Rattle.rules.proofs.Laws.{no_programs, programs_text_lem, programs_refused}
use Rattle.rules.proofs.programs.Goals as goal

pub returns-then-not-starts : goal.returns-then-not-starts
returns-then-not-starts c =
    record {
      is = no_programs _ _ _ c.starts.ensures (not-true _ c.if-not-starts.true-raw);
      moved = still _ _ c.requires;
    }

pub overflow_add-at : goal.overflow_add-at
overflow_add-at c =
    let e = (starts_fits _ _ _ (told (λ (b : Bool). b ≡ true) c.starts.ensures (not-false _ c.if-not-starts.false-raw)) (omega arith)) in omega (arith, c.requires.short)

pub pass_gap-requires : goal.pass_gap-requires
pass_gap-requires c =
    record { within = (starts_fits _ _ _ (told (λ (b : Bool). b ≡ true) c.starts.ensures (not-false _ c.if-not-starts.false-raw)) (omega arith)); short = c.requires.short }

pub overflow_cast-i : goal.overflow_cast-i
overflow_cast-i c =
    let k = (gap_passed _ _ _ _ _ c.pass_gap.ensures.moved c.in-Ok.is).inside in
    omega (arith, c.requires.short)

pub overflow_cast-end : goal.overflow_cast-end
overflow_cast-end c = omega (arith, c.requires.short)

pub returns-in-Ok : goal.returns-in-Ok
returns-in-Ok c =
    record {
      is = programs_text_lem _ _ _ c.starts.ensures (not-false _ c.if-not-starts.false-raw) _ c.pass_gap.ensures.is _ _ _ c.in-Ok.is c.with_programs-n.ensures;
      moved = record { onward = c.requires.within; inside = omega arith };
    }

pub returns-in-Err : goal.returns-in-Err
returns-in-Err c =
    record {
      is = programs_refused _ _ _ c.starts.ensures (not-false _ c.if-not-starts.false-raw) _ c.pass_gap.ensures.is _ c.in-Err.is;
      moved = still _ _ c.requires;
    }
