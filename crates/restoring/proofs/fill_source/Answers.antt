-- `restoring::fill_source`: the source lies behind the rows.
use native.Mathlib.Omega.{arith}
use Rattle.restoring.proofs.Laws.{content_source, source_filled}
use Rattle.restoring.proofs.fill_source.Goals as goal

pub get_bytes-requires : goal.get_bytes-requires
get_bytes-requires c =
    let n = c.args.n in
    let h = content_source c.args.c c.args.p n _ c.requires.2 c.rows_from.result c.rows_from.ensures.value in
    (h, omega (arith, c.rows_from.ensures.upper_bound, c.requires.1), c.requires.0)

pub shape_of-src : goal.shape_of-src
shape_of-src c = c.get_bytes.auto.text

pub returns : goal.returns
returns c = source_filled _ _ _ _ _ _ _ c.rows_from.ensures.value c.get_bytes.ensures
