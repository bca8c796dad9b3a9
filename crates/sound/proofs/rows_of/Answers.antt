-- `sound::rows_of`.
use mathlib.Core.Path.{◌≡◌, sym}
use native.Mathlib.Omega.{arith}
use lib.ListN.{length, get_or-eq_default}
use borrow.Author.Rules.{rules}
use Rattle.sound.proofs.rows_of.Goals as goal

pub returns-else-i-lt10 : goal.returns-else-i-lt10
returns-else-i-lt10 c =
    let e : length c.args.c.n ≡ 10 = search rules in
    sym (get_or-eq_default c.args.c.n 0 (omega arith))
