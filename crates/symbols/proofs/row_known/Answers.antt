-- `symbols::row_known`.
use Prim.Native.Nat.{◌≤◌}
use mathlib.Core.Path.{refl}
use native.Mathlib.Omega.{arith}
use Rattle.tables.proofs.Laws.{has_name_lem}
use Rattle.symbols.proofs.Laws.{known_inside, known_past, known_none, known_some}
use Rattle.symbols.proofs.row_known.Goals as goal

pub returns-then-v-n : goal.returns-then-v-n
returns-then-v-n c =
    let small : c.args.n ≤ 4294967295 = let f = c.ranges.n in
    omega arith in
    known_inside _ _ _ _ c.requires.1 small _ _ _ _ c.if-v-n.true (has_name_lem _ _ _ _ _ _ _ _ _ _ c.cell-c.ensures c.cell-d.ensures c.same_part.ensures _ refl)

pub returns-then-v-ne-NO_ROW : goal.returns-then-v-ne-NO_ROW
returns-then-v-ne-NO_ROW c =
    let small : c.args.n ≤ 4294967295 = let f = c.ranges.n in
    omega arith in
    known_past _ _ _ _ c.requires.1 small _ _ _ c.if-v-n.false c.if-v-ne-NO_ROW.true

pub find-requires : goal.find-requires
find-requires c = c.requires.0

pub returns-in-Some : goal.returns-in-Some
returns-in-Some c =
    let small : c.args.n ≤ 4294967295 = let f = c.ranges.n in
    omega arith in
    known_some _ _ _ _ c.requires.1 small _ _ _ c.if-v-n.false _ c.find.ensures _ c.in-Some.is

pub returns-in-None : goal.returns-in-None
returns-in-None c =
    let small : c.args.n ≤ 4294967295 = let f = c.ranges.n in
    omega arith in
    known_none _ _ _ _ c.requires.1 small _ _ _ c.if-v-n.false _ c.find.ensures c.if-v-ne-NO_ROW.false c.in-None.is
