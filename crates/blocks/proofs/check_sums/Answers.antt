-- `blocks::check_sums`: the sums of the words that are left, from the sums so far, are those of all, and stay below 32 bits.
use Prim.Native.Nat.{◌<◌, ◌+◌, ◌*◌}
use mathlib.Core.Path.{◌≡◌, refl}
use native.Mathlib.Omega.{arith}
use borrow.Author.Rules.{rules}
use lib.ListN.{get_or}
use Rattle.blocks.proofs.Laws.{plain_more, plain_all, plain_is}
use Rattle.blocks.proofs.check_sums.Goals as goal

-- the two bytes of the next word
word_low : (c : goal.After-wide-in-loop-i) → (get_or c.args.s.now (c.args.at + 2 * c.loop-i.i) 0 < 256) × (get_or c.args.s.now (c.args.at + 2 * c.loop-i.i + 1) 0 < 256)
word_low c = (search rules, search rules)

pub loop-i-init : goal.loop-i-init
loop-i-init c =
    let e : c.args.at + 2 * 0 ≡ c.args.at = omega arith in
    (omega arith, omega arith, rw e)

pub overflow_mul-first : goal.overflow_mul-first
overflow_mul-first c = omega (arith, word_low c)

pub overflow_add-first : goal.overflow_add-first
overflow_add-first c = omega (arith, word_low c)

pub overflow_add-first-in-loop-i : goal.overflow_add-first-in-loop-i
overflow_add-first-in-loop-i c = omega (arith, word_low c, c.loop-i.invariant)

pub overflow_add-second : goal.overflow_add-second
overflow_add-second c = omega (arith, word_low c, c.loop-i.invariant)

pub loop-i-preserved : goal.loop-i-preserved
loop-i-preserved c =
    let s = c.args.s.now in
    let j = c.args.at + 2 * c.loop-i.i in
    let e : c.args.at + 2 * (c.loop-i.i + 1) ≡ j + 2 = omega arith in (
      omega (arith, word_low c, c.loop-i.invariant),
      omega (arith, word_low c, c.loop-i.invariant),
      rw e (plain_more s 254 c.loop-i.i j c.loop-i.first c.loop-i.second _ c.loop-i.invariant.2 _ _ (omega arith) (omega (arith, c.wide.ensures, c.wide-in-loop-i.ensures)) refl),
    )

pub returns : goal.returns
returns c =
    let s = c.args.s.now in
    (plain_is s c.args.at c.loop-i.first c.loop-i.second (plain_all s 254 c.loop-i.i (c.args.at + 2 * c.loop-i.i) c.loop-i.first c.loop-i.second _ c.loop-i.invariant.2 (omega arith)), omega arith, omega arith)
