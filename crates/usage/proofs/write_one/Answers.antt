-- `usage::write_one`: the row is written where it is to be listed, and nothing else is.
use Prim.Native.Nat.{◌+◌, ◌*◌, ◌≤◌}
use mathlib.Core.Path.{refl}
use native.Mathlib.Omega.{arith}
use lib.ListN.{length, length-set}
use borrow.Author.Tests.{not-true, not-false}
use Rattle.usage.proofs.Picked.{says_yes, says_no}
use Rattle.usage.proofs.write_one.Goals as goal

pub is_listed-requires : goal.is_listed-requires
is_listed-requires c = (c.requires.0, c.requires.2)

pub returns-then-not-is_listed : goal.returns-then-not-is_listed
returns-then-not-is_listed c = (says_no c.is_listed.result _ (not-true _ c.if-not-is_listed.true-raw) c.is_listed.ensures, refl)

pub overflow_mul-to : goal.overflow_mul-to
overflow_mul-to c =
    omega (arith, (let it : c.args.at * 2 + 2 ≤ length c.args.out.now = c.requires.1 ((says_yes c.is_listed.result _ (not-false _ c.if-not-is_listed.false-raw) c.is_listed.ensures)) in it))

pub offset_bounds-out-to : goal.offset_bounds-out-to
offset_bounds-out-to c =
    omega (arith, (let it : c.args.at * 2 + 2 ≤ length c.args.out.now = c.requires.1 ((says_yes c.is_listed.result _ (not-false _ c.if-not-is_listed.false-raw) c.is_listed.ensures)) in it))

pub bounds-out-to : goal.bounds-out-to
bounds-out-to c =
    omega (arith, (let it : c.args.at * 2 + 2 ≤ length c.args.out.now = c.requires.1 ((says_yes c.is_listed.result _ (not-false _ c.if-not-is_listed.false-raw) c.is_listed.ensures)) in it))

pub overflow_add-out : goal.overflow_add-out
overflow_add-out c =
    omega (arith, (let it : c.args.at * 2 + 2 ≤ length c.args.out.now = c.requires.1 ((says_yes c.is_listed.result _ (not-false _ c.if-not-is_listed.false-raw) c.is_listed.ensures)) in it))

pub offset_bounds-out-to-2 : goal.offset_bounds-out-to-2
offset_bounds-out-to-2 c =
    omega (arith, (let it : c.args.at * 2 + 2 ≤ length c.args.out.now = c.requires.1 ((says_yes c.is_listed.result _ (not-false _ c.if-not-is_listed.false-raw) c.is_listed.ensures)) in it))

pub bounds-out-to-2 : goal.bounds-out-to-2
bounds-out-to-2 c =
    simp length-set (omega (arith, (let it : c.args.at * 2 + 2 ≤ length c.args.out.now = c.requires.1 ((says_yes c.is_listed.result _ (not-false _ c.if-not-is_listed.false-raw) c.is_listed.ensures)) in it)))

pub returns : goal.returns
returns c = ((says_yes c.is_listed.result _ (not-false _ c.if-not-is_listed.false-raw) c.is_listed.ensures), refl)
