-- `storing::write`: head, rows and source are put one behind the other, and lie inside the blocks.
use mathlib.Core.Path.{◌∙◌, ap}
use mathlib.Core.List.{List}
use native.Mathlib.Omega.{arith}
use lib.ListN.{length}
use Rattle.blocks.specs.Blocks.{seal_all}
use Rattle.catalogue.proofs.Heads.{head_length}
use Rattle.storing.proofs.Laws.{room_all, content_put}
use Rattle.storing.proofs.write.Goals as goal

pub put_numbers-requires : goal.put_numbers-requires
put_numbers-requires c = (
  omega arith,
  omega (arith, (room_all c.args.h.counts c.args.h.posix c.args.h.length c.args.n c.args.out.now c.requires.2 c.requires.3)),
  omega arith,
  omega (arith, ap length c.head_cells-head.ensures, head_length c.args.h),
)

pub put_tables-requires : goal.put_tables-requires
put_tables-requires c =
    (c.requires.1, omega (arith, (room_all c.args.h.counts c.args.h.posix c.args.h.length c.args.n c.args.out.now c.requires.2 c.requires.3), c.put_numbers.auto.out))

pub put_bytes-requires : goal.put_bytes-requires
put_bytes-requires c = (
  omega (arith, (room_all c.args.h.counts c.args.h.posix c.args.h.length c.args.n c.args.out.now c.requires.2 c.requires.3), c.rows_from.ensures.value, c.requires.0, c.put_tables.auto.out, c.put_numbers.auto.out),
  omega (arith, c.rows_from.ensures.upper_bound, c.requires.0, c.well_formed),
)

pub seal_all-requires : goal.seal_all-requires
seal_all-requires c = omega (arith, c.requires.3, c.put_bytes.auto.out, c.put_tables.auto.out, c.put_numbers.auto.out)

pub shape_of-out : goal.shape_of-out
shape_of-out c = c.seal_all.auto.out ∙ c.put_bytes.auto.out ∙ c.put_tables.auto.out ∙ c.put_numbers.auto.out

pub returns : goal.returns
returns c =
    c.seal_all.ensures
    ∙ ap (λ (x : List _). seal_all c.args.n x)
    (content_put c.args.h ((record { t1 = c.args.t1.now; t2 = c.args.t2.now; t3 = c.args.t3.now; t4 = c.args.t4.now; t5 = c.args.t5.now; t6 = c.args.t6.now; t7 = c.args.t7.now; t8 = c.args.t8.now; t9 = c.args.t9.now; t10 = c.args.t10.now; t15 = c.args.t15.now; t16 = c.args.t16.now; t17 = c.args.t17.now })) c.args.src.now c.requires.1 c.args.out.now _ _ c.put_tables.new.out _ _ c.head_cells-head.ensures c.put_numbers.ensures c.put_tables.ensures c.rows_from.ensures.value c.put_bytes.ensures)
