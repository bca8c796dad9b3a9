-- `storing::put_tables`: one table after the other, what is still to be put into what is there gives the whole.
use mathlib.Core.Path.{◌≡◌, refl, ◌∙◌}
use native.Mathlib.Omega.{arith}
use lib.ListN.{length}
use Rattle.blocks.specs.Blocks.{bytes_of_all, put_content}
use Rattle.catalogue.specs.Catalogue.{rows_from, row_cells}
use Rattle.storing.proofs.Laws.{rows_on, rows_done}
use Rattle.storing.proofs.put_tables.Goals as goal

pub put_rows-requires : goal.put_rows-requires
put_rows-requires c = (omega arith, c.requires.0 0 (omega arith), c.requires.1)

pub put_rows-requires-2 : goal.put_rows-requires-2
put_rows-requires-2 c =
    (omega arith, c.requires.0 1 (omega arith), omega (arith, c.requires.1, ((let it : ((length c.put_rows.new.out ≡ length c.args.out.now) × (put_content c.put_rows.new.out (rows_from c.args.c c.args.p 1) (bytes_of_all (row_cells c.args.c c.args.p ((record { t1 = c.args.t1.now; t2 = c.args.t2.now; t3 = c.args.t3.now; t4 = c.args.t4.now; t5 = c.args.t5.now; t6 = c.args.t6.now; t7 = c.args.t7.now; t8 = c.args.t8.now; t9 = c.args.t9.now; t10 = c.args.t10.now; t15 = c.args.t15.now; t16 = c.args.t16.now; t17 = c.args.t17.now })) 1 12)) ≡ put_content c.args.out.now (rows_from c.args.c c.args.p 0) (bytes_of_all (row_cells c.args.c c.args.p ((record { t1 = c.args.t1.now; t2 = c.args.t2.now; t3 = c.args.t3.now; t4 = c.args.t4.now; t5 = c.args.t5.now; t6 = c.args.t6.now; t7 = c.args.t7.now; t8 = c.args.t8.now; t9 = c.args.t9.now; t10 = c.args.t10.now; t15 = c.args.t15.now; t16 = c.args.t16.now; t17 = c.args.t17.now })) 0 13)))) = (c.put_rows.auto.out, rows_on c.args.c c.args.p ((record { t1 = c.args.t1.now; t2 = c.args.t2.now; t3 = c.args.t3.now; t4 = c.args.t4.now; t5 = c.args.t5.now; t6 = c.args.t6.now; t7 = c.args.t7.now; t8 = c.args.t8.now; t9 = c.args.t9.now; t10 = c.args.t10.now; t15 = c.args.t15.now; t16 = c.args.t16.now; t17 = c.args.t17.now })) 0 12 _ _ (c.requires.0 0 (omega arith)) refl _ c.put_rows.ensures) in it)).0))

pub put_rows-requires-3 : goal.put_rows-requires-3
put_rows-requires-3 c = (
  omega arith,
  c.requires.0 2 (omega arith),
  omega (
    arith,
    c.requires.1,
    ((let it : ((length c.put_rows-2.new.out ≡ length c.args.out.now) × (put_content c.put_rows-2.new.out (rows_from c.args.c c.args.p 2) (bytes_of_all (row_cells c.args.c c.args.p ((record { t1 = c.args.t1.now; t2 = c.args.t2.now; t3 = c.args.t3.now; t4 = c.args.t4.now; t5 = c.args.t5.now; t6 = c.args.t6.now; t7 = c.args.t7.now; t8 = c.args.t8.now; t9 = c.args.t9.now; t10 = c.args.t10.now; t15 = c.args.t15.now; t16 = c.args.t16.now; t17 = c.args.t17.now })) 2 11)) ≡ put_content c.args.out.now (rows_from c.args.c c.args.p 0) (bytes_of_all (row_cells c.args.c c.args.p ((record { t1 = c.args.t1.now; t2 = c.args.t2.now; t3 = c.args.t3.now; t4 = c.args.t4.now; t5 = c.args.t5.now; t6 = c.args.t6.now; t7 = c.args.t7.now; t8 = c.args.t8.now; t9 = c.args.t9.now; t10 = c.args.t10.now; t15 = c.args.t15.now; t16 = c.args.t16.now; t17 = c.args.t17.now })) 0 13)))) = let l = (let it : ((length c.put_rows.new.out ≡ length c.args.out.now) × (put_content c.put_rows.new.out (rows_from c.args.c c.args.p 1) (bytes_of_all (row_cells c.args.c c.args.p ((record { t1 = c.args.t1.now; t2 = c.args.t2.now; t3 = c.args.t3.now; t4 = c.args.t4.now; t5 = c.args.t5.now; t6 = c.args.t6.now; t7 = c.args.t7.now; t8 = c.args.t8.now; t9 = c.args.t9.now; t10 = c.args.t10.now; t15 = c.args.t15.now; t16 = c.args.t16.now; t17 = c.args.t17.now })) 1 12)) ≡ put_content c.args.out.now (rows_from c.args.c c.args.p 0) (bytes_of_all (row_cells c.args.c c.args.p ((record { t1 = c.args.t1.now; t2 = c.args.t2.now; t3 = c.args.t3.now; t4 = c.args.t4.now; t5 = c.args.t5.now; t6 = c.args.t6.now; t7 = c.args.t7.now; t8 = c.args.t8.now; t9 = c.args.t9.now; t10 = c.args.t10.now; t15 = c.args.t15.now; t16 = c.args.t16.now; t17 = c.args.t17.now })) 0 13)))) = (c.put_rows.auto.out, rows_on c.args.c c.args.p ((record { t1 = c.args.t1.now; t2 = c.args.t2.now; t3 = c.args.t3.now; t4 = c.args.t4.now; t5 = c.args.t5.now; t6 = c.args.t6.now; t7 = c.args.t7.now; t8 = c.args.t8.now; t9 = c.args.t9.now; t10 = c.args.t10.now; t15 = c.args.t15.now; t16 = c.args.t16.now; t17 = c.args.t17.now })) 0 12 _ _ (c.requires.0 0 (omega arith)) refl _ c.put_rows.ensures) in it) in
        (c.put_rows-2.auto.out ∙ l.0, rows_on c.args.c c.args.p ((record { t1 = c.args.t1.now; t2 = c.args.t2.now; t3 = c.args.t3.now; t4 = c.args.t4.now; t5 = c.args.t5.now; t6 = c.args.t6.now; t7 = c.args.t7.now; t8 = c.args.t8.now; t9 = c.args.t9.now; t10 = c.args.t10.now; t15 = c.args.t15.now; t16 = c.args.t16.now; t17 = c.args.t17.now })) 1 11 _ _ (c.requires.0 1 (omega arith)) l.1 _ c.put_rows-2.ensures) in it)).0,
  ),
)

pub put_rows-requires-4 : goal.put_rows-requires-4
put_rows-requires-4 c = (
  omega arith,
  c.requires.0 3 (omega arith),
  omega (
    arith,
    c.requires.1,
    ((let it : ((length c.put_rows-3.new.out ≡ length c.args.out.now) × (put_content c.put_rows-3.new.out (rows_from c.args.c c.args.p 3) (bytes_of_all (row_cells c.args.c c.args.p ((record { t1 = c.args.t1.now; t2 = c.args.t2.now; t3 = c.args.t3.now; t4 = c.args.t4.now; t5 = c.args.t5.now; t6 = c.args.t6.now; t7 = c.args.t7.now; t8 = c.args.t8.now; t9 = c.args.t9.now; t10 = c.args.t10.now; t15 = c.args.t15.now; t16 = c.args.t16.now; t17 = c.args.t17.now })) 3 10)) ≡ put_content c.args.out.now (rows_from c.args.c c.args.p 0) (bytes_of_all (row_cells c.args.c c.args.p ((record { t1 = c.args.t1.now; t2 = c.args.t2.now; t3 = c.args.t3.now; t4 = c.args.t4.now; t5 = c.args.t5.now; t6 = c.args.t6.now; t7 = c.args.t7.now; t8 = c.args.t8.now; t9 = c.args.t9.now; t10 = c.args.t10.now; t15 = c.args.t15.now; t16 = c.args.t16.now; t17 = c.args.t17.now })) 0 13)))) = let l = (let it : ((length c.put_rows-2.new.out ≡ length c.args.out.now) × (put_content c.put_rows-2.new.out (rows_from c.args.c c.args.p 2) (bytes_of_all (row_cells c.args.c c.args.p ((record { t1 = c.args.t1.now; t2 = c.args.t2.now; t3 = c.args.t3.now; t4 = c.args.t4.now; t5 = c.args.t5.now; t6 = c.args.t6.now; t7 = c.args.t7.now; t8 = c.args.t8.now; t9 = c.args.t9.now; t10 = c.args.t10.now; t15 = c.args.t15.now; t16 = c.args.t16.now; t17 = c.args.t17.now })) 2 11)) ≡ put_content c.args.out.now (rows_from c.args.c c.args.p 0) (bytes_of_all (row_cells c.args.c c.args.p ((record { t1 = c.args.t1.now; t2 = c.args.t2.now; t3 = c.args.t3.now; t4 = c.args.t4.now; t5 = c.args.t5.now; t6 = c.args.t6.now; t7 = c.args.t7.now; t8 = c.args.t8.now; t9 = c.args.t9.now; t10 = c.args.t10.now; t15 = c.args.t15.now; t16 = c.args.t16.now; t17 = c.args.t17.now })) 0 13)))) = let l = (let it : ((length c.put_rows.new.out ≡ length c.args.out.now) × (put_content c.put_rows.new.out (rows_from c.args.c c.args.p 1) (bytes_of_all (row_cells c.args.c c.args.p ((record { t1 = c.args.t1.now; t2 = c.args.t2.now; t3 = c.args.t3.now; t4 = c.args.t4.now; t5 = c.args.t5.now; t6 = c.args.t6.now; t7 = c.args.t7.now; t8 = c.args.t8.now; t9 = c.args.t9.now; t10 = c.args.t10.now; t15 = c.args.t15.now; t16 = c.args.t16.now; t17 = c.args.t17.now })) 1 12)) ≡ put_content c.args.out.now (rows_from c.args.c c.args.p 0) (bytes_of_all (row_cells c.args.c c.args.p ((record { t1 = c.args.t1.now; t2 = c.args.t2.now; t3 = c.args.t3.now; t4 = c.args.t4.now; t5 = c.args.t5.now; t6 = c.args.t6.now; t7 = c.args.t7.now; t8 = c.args.t8.now; t9 = c.args.t9.now; t10 = c.args.t10.now; t15 = c.args.t15.now; t16 = c.args.t16.now; t17 = c.args.t17.now })) 0 13)))) = (c.put_rows.auto.out, rows_on c.args.c c.args.p ((record { t1 = c.args.t1.now; t2 = c.args.t2.now; t3 = c.args.t3.now; t4 = c.args.t4.now; t5 = c.args.t5.now; t6 = c.args.t6.now; t7 = c.args.t7.now; t8 = c.args.t8.now; t9 = c.args.t9.now; t10 = c.args.t10.now; t15 = c.args.t15.now; t16 = c.args.t16.now; t17 = c.args.t17.now })) 0 12 _ _ (c.requires.0 0 (omega arith)) refl _ c.put_rows.ensures) in it) in
        (c.put_rows-2.auto.out ∙ l.0, rows_on c.args.c c.args.p ((record { t1 = c.args.t1.now; t2 = c.args.t2.now; t3 = c.args.t3.now; t4 = c.args.t4.now; t5 = c.args.t5.now; t6 = c.args.t6.now; t7 = c.args.t7.now; t8 = c.args.t8.now; t9 = c.args.t9.now; t10 = c.args.t10.now; t15 = c.args.t15.now; t16 = c.args.t16.now; t17 = c.args.t17.now })) 1 11 _ _ (c.requires.0 1 (omega arith)) l.1 _ c.put_rows-2.ensures) in it) in
        (c.put_rows-3.auto.out ∙ l.0, rows_on c.args.c c.args.p ((record { t1 = c.args.t1.now; t2 = c.args.t2.now; t3 = c.args.t3.now; t4 = c.args.t4.now; t5 = c.args.t5.now; t6 = c.args.t6.now; t7 = c.args.t7.now; t8 = c.args.t8.now; t9 = c.args.t9.now; t10 = c.args.t10.now; t15 = c.args.t15.now; t16 = c.args.t16.now; t17 = c.args.t17.now })) 2 10 _ _ (c.requires.0 2 (omega arith)) l.1 _ c.put_rows-3.ensures) in it)).0,
  ),
)

pub put_rows-requires-5 : goal.put_rows-requires-5
put_rows-requires-5 c = (
  omega arith,
  c.requires.0 4 (omega arith),
  omega (
    arith,
    c.requires.1,
    ((let it : ((length c.put_rows-4.new.out ≡ length c.args.out.now) × (put_content c.put_rows-4.new.out (rows_from c.args.c c.args.p 4) (bytes_of_all (row_cells c.args.c c.args.p ((record { t1 = c.args.t1.now; t2 = c.args.t2.now; t3 = c.args.t3.now; t4 = c.args.t4.now; t5 = c.args.t5.now; t6 = c.args.t6.now; t7 = c.args.t7.now; t8 = c.args.t8.now; t9 = c.args.t9.now; t10 = c.args.t10.now; t15 = c.args.t15.now; t16 = c.args.t16.now; t17 = c.args.t17.now })) 4 9)) ≡ put_content c.args.out.now (rows_from c.args.c c.args.p 0) (bytes_of_all (row_cells c.args.c c.args.p ((record { t1 = c.args.t1.now; t2 = c.args.t2.now; t3 = c.args.t3.now; t4 = c.args.t4.now; t5 = c.args.t5.now; t6 = c.args.t6.now; t7 = c.args.t7.now; t8 = c.args.t8.now; t9 = c.args.t9.now; t10 = c.args.t10.now; t15 = c.args.t15.now; t16 = c.args.t16.now; t17 = c.args.t17.now })) 0 13)))) = let l = (let it : ((length c.put_rows-3.new.out ≡ length c.args.out.now) × (put_content c.put_rows-3.new.out (rows_from c.args.c c.args.p 3) (bytes_of_all (row_cells c.args.c c.args.p ((record { t1 = c.args.t1.now; t2 = c.args.t2.now; t3 = c.args.t3.now; t4 = c.args.t4.now; t5 = c.args.t5.now; t6 = c.args.t6.now; t7 = c.args.t7.now; t8 = c.args.t8.now; t9 = c.args.t9.now; t10 = c.args.t10.now; t15 = c.args.t15.now; t16 = c.args.t16.now; t17 = c.args.t17.now })) 3 10)) ≡ put_content c.args.out.now (rows_from c.args.c c.args.p 0) (bytes_of_all (row_cells c.args.c c.args.p ((record { t1 = c.args.t1.now; t2 = c.args.t2.now; t3 = c.args.t3.now; t4 = c.args.t4.now; t5 = c.args.t5.now; t6 = c.args.t6.now; t7 = c.args.t7.now; t8 = c.args.t8.now; t9 = c.args.t9.now; t10 = c.args.t10.now; t15 = c.args.t15.now; t16 = c.args.t16.now; t17 = c.args.t17.now })) 0 13)))) = let l = (let it : ((length c.put_rows-2.new.out ≡ length c.args.out.now) × (put_content c.put_rows-2.new.out (rows_from c.args.c c.args.p 2) (bytes_of_all (row_cells c.args.c c.args.p ((record { t1 = c.args.t1.now; t2 = c.args.t2.now; t3 = c.args.t3.now; t4 = c.args.t4.now; t5 = c.args.t5.now; t6 = c.args.t6.now; t7 = c.args.t7.now; t8 = c.args.t8.now; t9 = c.args.t9.now; t10 = c.args.t10.now; t15 = c.args.t15.now; t16 = c.args.t16.now; t17 = c.args.t17.now })) 2 11)) ≡ put_content c.args.out.now (rows_from c.args.c c.args.p 0) (bytes_of_all (row_cells c.args.c c.args.p ((record { t1 = c.args.t1.now; t2 = c.args.t2.now; t3 = c.args.t3.now; t4 = c.args.t4.now; t5 = c.args.t5.now; t6 = c.args.t6.now; t7 = c.args.t7.now; t8 = c.args.t8.now; t9 = c.args.t9.now; t10 = c.args.t10.now; t15 = c.args.t15.now; t16 = c.args.t16.now; t17 = c.args.t17.now })) 0 13)))) = let l = (let it : ((length c.put_rows.new.out ≡ length c.args.out.now) × (put_content c.put_rows.new.out (rows_from c.args.c c.args.p 1) (bytes_of_all (row_cells c.args.c c.args.p ((record { t1 = c.args.t1.now; t2 = c.args.t2.now; t3 = c.args.t3.now; t4 = c.args.t4.now; t5 = c.args.t5.now; t6 = c.args.t6.now; t7 = c.args.t7.now; t8 = c.args.t8.now; t9 = c.args.t9.now; t10 = c.args.t10.now; t15 = c.args.t15.now; t16 = c.args.t16.now; t17 = c.args.t17.now })) 1 12)) ≡ put_content c.args.out.now (rows_from c.args.c c.args.p 0) (bytes_of_all (row_cells c.args.c c.args.p ((record { t1 = c.args.t1.now; t2 = c.args.t2.now; t3 = c.args.t3.now; t4 = c.args.t4.now; t5 = c.args.t5.now; t6 = c.args.t6.now; t7 = c.args.t7.now; t8 = c.args.t8.now; t9 = c.args.t9.now; t10 = c.args.t10.now; t15 = c.args.t15.now; t16 = c.args.t16.now; t17 = c.args.t17.now })) 0 13)))) = (c.put_rows.auto.out, rows_on c.args.c c.args.p ((record { t1 = c.args.t1.now; t2 = c.args.t2.now; t3 = c.args.t3.now; t4 = c.args.t4.now; t5 = c.args.t5.now; t6 = c.args.t6.now; t7 = c.args.t7.now; t8 = c.args.t8.now; t9 = c.args.t9.now; t10 = c.args.t10.now; t15 = c.args.t15.now; t16 = c.args.t16.now; t17 = c.args.t17.now })) 0 12 _ _ (c.requires.0 0 (omega arith)) refl _ c.put_rows.ensures) in it) in
        (c.put_rows-2.auto.out ∙ l.0, rows_on c.args.c c.args.p ((record { t1 = c.args.t1.now; t2 = c.args.t2.now; t3 = c.args.t3.now; t4 = c.args.t4.now; t5 = c.args.t5.now; t6 = c.args.t6.now; t7 = c.args.t7.now; t8 = c.args.t8.now; t9 = c.args.t9.now; t10 = c.args.t10.now; t15 = c.args.t15.now; t16 = c.args.t16.now; t17 = c.args.t17.now })) 1 11 _ _ (c.requires.0 1 (omega arith)) l.1 _ c.put_rows-2.ensures) in it) in
        (c.put_rows-3.auto.out ∙ l.0, rows_on c.args.c c.args.p ((record { t1 = c.args.t1.now; t2 = c.args.t2.now; t3 = c.args.t3.now; t4 = c.args.t4.now; t5 = c.args.t5.now; t6 = c.args.t6.now; t7 = c.args.t7.now; t8 = c.args.t8.now; t9 = c.args.t9.now; t10 = c.args.t10.now; t15 = c.args.t15.now; t16 = c.args.t16.now; t17 = c.args.t17.now })) 2 10 _ _ (c.requires.0 2 (omega arith)) l.1 _ c.put_rows-3.ensures) in it) in
        (c.put_rows-4.auto.out ∙ l.0, rows_on c.args.c c.args.p ((record { t1 = c.args.t1.now; t2 = c.args.t2.now; t3 = c.args.t3.now; t4 = c.args.t4.now; t5 = c.args.t5.now; t6 = c.args.t6.now; t7 = c.args.t7.now; t8 = c.args.t8.now; t9 = c.args.t9.now; t10 = c.args.t10.now; t15 = c.args.t15.now; t16 = c.args.t16.now; t17 = c.args.t17.now })) 3 9 _ _ (c.requires.0 3 (omega arith)) l.1 _ c.put_rows-4.ensures) in it)).0,
  ),
)

pub put_rows-requires-6 : goal.put_rows-requires-6
put_rows-requires-6 c = (
  omega arith,
  c.requires.0 5 (omega arith),
  omega (
    arith,
    c.requires.1,
    ((let it : ((length c.put_rows-5.new.out ≡ length c.args.out.now) × (put_content c.put_rows-5.new.out (rows_from c.args.c c.args.p 5) (bytes_of_all (row_cells c.args.c c.args.p ((record { t1 = c.args.t1.now; t2 = c.args.t2.now; t3 = c.args.t3.now; t4 = c.args.t4.now; t5 = c.args.t5.now; t6 = c.args.t6.now; t7 = c.args.t7.now; t8 = c.args.t8.now; t9 = c.args.t9.now; t10 = c.args.t10.now; t15 = c.args.t15.now; t16 = c.args.t16.now; t17 = c.args.t17.now })) 5 8)) ≡ put_content c.args.out.now (rows_from c.args.c c.args.p 0) (bytes_of_all (row_cells c.args.c c.args.p ((record { t1 = c.args.t1.now; t2 = c.args.t2.now; t3 = c.args.t3.now; t4 = c.args.t4.now; t5 = c.args.t5.now; t6 = c.args.t6.now; t7 = c.args.t7.now; t8 = c.args.t8.now; t9 = c.args.t9.now; t10 = c.args.t10.now; t15 = c.args.t15.now; t16 = c.args.t16.now; t17 = c.args.t17.now })) 0 13)))) = let l = (let it : ((length c.put_rows-4.new.out ≡ length c.args.out.now) × (put_content c.put_rows-4.new.out (rows_from c.args.c c.args.p 4) (bytes_of_all (row_cells c.args.c c.args.p ((record { t1 = c.args.t1.now; t2 = c.args.t2.now; t3 = c.args.t3.now; t4 = c.args.t4.now; t5 = c.args.t5.now; t6 = c.args.t6.now; t7 = c.args.t7.now; t8 = c.args.t8.now; t9 = c.args.t9.now; t10 = c.args.t10.now; t15 = c.args.t15.now; t16 = c.args.t16.now; t17 = c.args.t17.now })) 4 9)) ≡ put_content c.args.out.now (rows_from c.args.c c.args.p 0) (bytes_of_all (row_cells c.args.c c.args.p ((record { t1 = c.args.t1.now; t2 = c.args.t2.now; t3 = c.args.t3.now; t4 = c.args.t4.now; t5 = c.args.t5.now; t6 = c.args.t6.now; t7 = c.args.t7.now; t8 = c.args.t8.now; t9 = c.args.t9.now; t10 = c.args.t10.now; t15 = c.args.t15.now; t16 = c.args.t16.now; t17 = c.args.t17.now })) 0 13)))) = let l = (let it : ((length c.put_rows-3.new.out ≡ length c.args.out.now) × (put_content c.put_rows-3.new.out (rows_from c.args.c c.args.p 3) (bytes_of_all (row_cells c.args.c c.args.p ((record { t1 = c.args.t1.now; t2 = c.args.t2.now; t3 = c.args.t3.now; t4 = c.args.t4.now; t5 = c.args.t5.now; t6 = c.args.t6.now; t7 = c.args.t7.now; t8 = c.args.t8.now; t9 = c.args.t9.now; t10 = c.args.t10.now; t15 = c.args.t15.now; t16 = c.args.t16.now; t17 = c.args.t17.now })) 3 10)) ≡ put_content c.args.out.now (rows_from c.args.c c.args.p 0) (bytes_of_all (row_cells c.args.c c.args.p ((record { t1 = c.args.t1.now; t2 = c.args.t2.now; t3 = c.args.t3.now; t4 = c.args.t4.now; t5 = c.args.t5.now; t6 = c.args.t6.now; t7 = c.args.t7.now; t8 = c.args.t8.now; t9 = c.args.t9.now; t10 = c.args.t10.now; t15 = c.args.t15.now; t16 = c.args.t16.now; t17 = c.args.t17.now })) 0 13)))) = let l = (let it : ((length c.put_rows-2.new.out ≡ length c.args.out.now) × (put_content c.put_rows-2.new.out (rows_from c.args.c c.args.p 2) (bytes_of_all (row_cells c.args.c c.args.p ((record { t1 = c.args.t1.now; t2 = c.args.t2.now; t3 = c.args.t3.now; t4 = c.args.t4.now; t5 = c.args.t5.now; t6 = c.args.t6.now; t7 = c.args.t7.now; t8 = c.args.t8.now; t9 = c.args.t9.now; t10 = c.args.t10.now; t15 = c.args.t15.now; t16 = c.args.t16.now; t17 = c.args.t17.now })) 2 11)) ≡ put_content c.args.out.now (rows_from c.args.c c.args.p 0) (bytes_of_all (row_cells c.args.c c.args.p ((record { t1 = c.args.t1.now; t2 = c.args.t2.now; t3 = c.args.t3.now; t4 = c.args.t4.now; t5 = c.args.t5.now; t6 = c.args.t6.now; t7 = c.args.t7.now; t8 = c.args.t8.now; t9 = c.args.t9.now; t10 = c.args.t10.now; t15 = c.args.t15.now; t16 = c.args.t16.now; t17 = c.args.t17.now })) 0 13)))) = let l = (let it : ((length c.put_rows.new.out ≡ length c.args.out.now) × (put_content c.put_rows.new.out (rows_from c.args.c c.args.p 1) (bytes_of_all (row_cells c.args.c c.args.p ((record { t1 = c.args.t1.now; t2 = c.args.t2.now; t3 = c.args.t3.now; t4 = c.args.t4.now; t5 = c.args.t5.now; t6 = c.args.t6.now; t7 = c.args.t7.now; t8 = c.args.t8.now; t9 = c.args.t9.now; t10 = c.args.t10.now; t15 = c.args.t15.now; t16 = c.args.t16.now; t17 = c.args.t17.now })) 1 12)) ≡ put_content c.args.out.now (rows_from c.args.c c.args.p 0) (bytes_of_all (row_cells c.args.c c.args.p ((record { t1 = c.args.t1.now; t2 = c.args.t2.now; t3 = c.args.t3.now; t4 = c.args.t4.now; t5 = c.args.t5.now; t6 = c.args.t6.now; t7 = c.args.t7.now; t8 = c.args.t8.now; t9 = c.args.t9.now; t10 = c.args.t10.now; t15 = c.args.t15.now; t16 = c.args.t16.now; t17 = c.args.t17.now })) 0 13)))) = (c.put_rows.auto.out, rows_on c.args.c c.args.p ((record { t1 = c.args.t1.now; t2 = c.args.t2.now; t3 = c.args.t3.now; t4 = c.args.t4.now; t5 = c.args.t5.now; t6 = c.args.t6.now; t7 = c.args.t7.now; t8 = c.args.t8.now; t9 = c.args.t9.now; t10 = c.args.t10.now; t15 = c.args.t15.now; t16 = c.args.t16.now; t17 = c.args.t17.now })) 0 12 _ _ (c.requires.0 0 (omega arith)) refl _ c.put_rows.ensures) in it) in
        (c.put_rows-2.auto.out ∙ l.0, rows_on c.args.c c.args.p ((record { t1 = c.args.t1.now; t2 = c.args.t2.now; t3 = c.args.t3.now; t4 = c.args.t4.now; t5 = c.args.t5.now; t6 = c.args.t6.now; t7 = c.args.t7.now; t8 = c.args.t8.now; t9 = c.args.t9.now; t10 = c.args.t10.now; t15 = c.args.t15.now; t16 = c.args.t16.now; t17 = c.args.t17.now })) 1 11 _ _ (c.requires.0 1 (omega arith)) l.1 _ c.put_rows-2.ensures) in it) in
        (c.put_rows-3.auto.out ∙ l.0, rows_on c.args.c c.args.p ((record { t1 = c.args.t1.now; t2 = c.args.t2.now; t3 = c.args.t3.now; t4 = c.args.t4.now; t5 = c.args.t5.now; t6 = c.args.t6.now; t7 = c.args.t7.now; t8 = c.args.t8.now; t9 = c.args.t9.now; t10 = c.args.t10.now; t15 = c.args.t15.now; t16 = c.args.t16.now; t17 = c.args.t17.now })) 2 10 _ _ (c.requires.0 2 (omega arith)) l.1 _ c.put_rows-3.ensures) in it) in
        (c.put_rows-4.auto.out ∙ l.0, rows_on c.args.c c.args.p ((record { t1 = c.args.t1.now; t2 = c.args.t2.now; t3 = c.args.t3.now; t4 = c.args.t4.now; t5 = c.args.t5.now; t6 = c.args.t6.now; t7 = c.args.t7.now; t8 = c.args.t8.now; t9 = c.args.t9.now; t10 = c.args.t10.now; t15 = c.args.t15.now; t16 = c.args.t16.now; t17 = c.args.t17.now })) 3 9 _ _ (c.requires.0 3 (omega arith)) l.1 _ c.put_rows-4.ensures) in it) in
        (c.put_rows-5.auto.out ∙ l.0, rows_on c.args.c c.args.p ((record { t1 = c.args.t1.now; t2 = c.args.t2.now; t3 = c.args.t3.now; t4 = c.args.t4.now; t5 = c.args.t5.now; t6 = c.args.t6.now; t7 = c.args.t7.now; t8 = c.args.t8.now; t9 = c.args.t9.now; t10 = c.args.t10.now; t15 = c.args.t15.now; t16 = c.args.t16.now; t17 = c.args.t17.now })) 4 8 _ _ (c.requires.0 4 (omega arith)) l.1 _ c.put_rows-5.ensures) in it)).0,
  ),
)

pub put_rows-requires-7 : goal.put_rows-requires-7
put_rows-requires-7 c = (
  omega arith,
  c.requires.0 6 (omega arith),
  omega (
    arith,
    c.requires.1,
    ((let it : ((length c.put_rows-6.new.out ≡ length c.args.out.now) × (put_content c.put_rows-6.new.out (rows_from c.args.c c.args.p 6) (bytes_of_all (row_cells c.args.c c.args.p ((record { t1 = c.args.t1.now; t2 = c.args.t2.now; t3 = c.args.t3.now; t4 = c.args.t4.now; t5 = c.args.t5.now; t6 = c.args.t6.now; t7 = c.args.t7.now; t8 = c.args.t8.now; t9 = c.args.t9.now; t10 = c.args.t10.now; t15 = c.args.t15.now; t16 = c.args.t16.now; t17 = c.args.t17.now })) 6 7)) ≡ put_content c.args.out.now (rows_from c.args.c c.args.p 0) (bytes_of_all (row_cells c.args.c c.args.p ((record { t1 = c.args.t1.now; t2 = c.args.t2.now; t3 = c.args.t3.now; t4 = c.args.t4.now; t5 = c.args.t5.now; t6 = c.args.t6.now; t7 = c.args.t7.now; t8 = c.args.t8.now; t9 = c.args.t9.now; t10 = c.args.t10.now; t15 = c.args.t15.now; t16 = c.args.t16.now; t17 = c.args.t17.now })) 0 13)))) = let l = (let it : ((length c.put_rows-5.new.out ≡ length c.args.out.now) × (put_content c.put_rows-5.new.out (rows_from c.args.c c.args.p 5) (bytes_of_all (row_cells c.args.c c.args.p ((record { t1 = c.args.t1.now; t2 = c.args.t2.now; t3 = c.args.t3.now; t4 = c.args.t4.now; t5 = c.args.t5.now; t6 = c.args.t6.now; t7 = c.args.t7.now; t8 = c.args.t8.now; t9 = c.args.t9.now; t10 = c.args.t10.now; t15 = c.args.t15.now; t16 = c.args.t16.now; t17 = c.args.t17.now })) 5 8)) ≡ put_content c.args.out.now (rows_from c.args.c c.args.p 0) (bytes_of_all (row_cells c.args.c c.args.p ((record { t1 = c.args.t1.now; t2 = c.args.t2.now; t3 = c.args.t3.now; t4 = c.args.t4.now; t5 = c.args.t5.now; t6 = c.args.t6.now; t7 = c.args.t7.now; t8 = c.args.t8.now; t9 = c.args.t9.now; t10 = c.args.t10.now; t15 = c.args.t15.now; t16 = c.args.t16.now; t17 = c.args.t17.now })) 0 13)))) = let l = (let it : ((length c.put_rows-4.new.out ≡ length c.args.out.now) × (put_content c.put_rows-4.new.out (rows_from c.args.c c.args.p 4) (bytes_of_all (row_cells c.args.c c.args.p ((record { t1 = c.args.t1.now; t2 = c.args.t2.now; t3 = c.args.t3.now; t4 = c.args.t4.now; t5 = c.args.t5.now; t6 = c.args.t6.now; t7 = c.args.t7.now; t8 = c.args.t8.now; t9 = c.args.t9.now; t10 = c.args.t10.now; t15 = c.args.t15.now; t16 = c.args.t16.now; t17 = c.args.t17.now })) 4 9)) ≡ put_content c.args.out.now (rows_from c.args.c c.args.p 0) (bytes_of_all (row_cells c.args.c c.args.p ((record { t1 = c.args.t1.now; t2 = c.args.t2.now; t3 = c.args.t3.now; t4 = c.args.t4.now; t5 = c.args.t5.now; t6 = c.args.t6.now; t7 = c.args.t7.now; t8 = c.args.t8.now; t9 = c.args.t9.now; t10 = c.args.t10.now; t15 = c.args.t15.now; t16 = c.args.t16.now; t17 = c.args.t17.now })) 0 13)))) = let l = (let it : ((length c.put_rows-3.new.out ≡ length c.args.out.now) × (put_content c.put_rows-3.new.out (rows_from c.args.c c.args.p 3) (bytes_of_all (row_cells c.args.c c.args.p ((record { t1 = c.args.t1.now; t2 = c.args.t2.now; t3 = c.args.t3.now; t4 = c.args.t4.now; t5 = c.args.t5.now; t6 = c.args.t6.now; t7 = c.args.t7.now; t8 = c.args.t8.now; t9 = c.args.t9.now; t10 = c.args.t10.now; t15 = c.args.t15.now; t16 = c.args.t16.now; t17 = c.args.t17.now })) 3 10)) ≡ put_content c.args.out.now (rows_from c.args.c c.args.p 0) (bytes_of_all (row_cells c.args.c c.args.p ((record { t1 = c.args.t1.now; t2 = c.args.t2.now; t3 = c.args.t3.now; t4 = c.args.t4.now; t5 = c.args.t5.now; t6 = c.args.t6.now; t7 = c.args.t7.now; t8 = c.args.t8.now; t9 = c.args.t9.now; t10 = c.args.t10.now; t15 = c.args.t15.now; t16 = c.args.t16.now; t17 = c.args.t17.now })) 0 13)))) = let l = (let it : ((length c.put_rows-2.new.out ≡ length c.args.out.now) × (put_content c.put_rows-2.new.out (rows_from c.args.c c.args.p 2) (bytes_of_all (row_cells c.args.c c.args.p ((record { t1 = c.args.t1.now; t2 = c.args.t2.now; t3 = c.args.t3.now; t4 = c.args.t4.now; t5 = c.args.t5.now; t6 = c.args.t6.now; t7 = c.args.t7.now; t8 = c.args.t8.now; t9 = c.args.t9.now; t10 = c.args.t10.now; t15 = c.args.t15.now; t16 = c.args.t16.now; t17 = c.args.t17.now })) 2 11)) ≡ put_content c.args.out.now (rows_from c.args.c c.args.p 0) (bytes_of_all (row_cells c.args.c c.args.p ((record { t1 = c.args.t1.now; t2 = c.args.t2.now; t3 = c.args.t3.now; t4 = c.args.t4.now; t5 = c.args.t5.now; t6 = c.args.t6.now; t7 = c.args.t7.now; t8 = c.args.t8.now; t9 = c.args.t9.now; t10 = c.args.t10.now; t15 = c.args.t15.now; t16 = c.args.t16.now; t17 = c.args.t17.now })) 0 13)))) = let l = (let it : ((length c.put_rows.new.out ≡ length c.args.out.now) × (put_content c.put_rows.new.out (rows_from c.args.c c.args.p 1) (bytes_of_all (row_cells c.args.c c.args.p ((record { t1 = c.args.t1.now; t2 = c.args.t2.now; t3 = c.args.t3.now; t4 = c.args.t4.now; t5 = c.args.t5.now; t6 = c.args.t6.now; t7 = c.args.t7.now; t8 = c.args.t8.now; t9 = c.args.t9.now; t10 = c.args.t10.now; t15 = c.args.t15.now; t16 = c.args.t16.now; t17 = c.args.t17.now })) 1 12)) ≡ put_content c.args.out.now (rows_from c.args.c c.args.p 0) (bytes_of_all (row_cells c.args.c c.args.p ((record { t1 = c.args.t1.now; t2 = c.args.t2.now; t3 = c.args.t3.now; t4 = c.args.t4.now; t5 = c.args.t5.now; t6 = c.args.t6.now; t7 = c.args.t7.now; t8 = c.args.t8.now; t9 = c.args.t9.now; t10 = c.args.t10.now; t15 = c.args.t15.now; t16 = c.args.t16.now; t17 = c.args.t17.now })) 0 13)))) = (c.put_rows.auto.out, rows_on c.args.c c.args.p ((record { t1 = c.args.t1.now; t2 = c.args.t2.now; t3 = c.args.t3.now; t4 = c.args.t4.now; t5 = c.args.t5.now; t6 = c.args.t6.now; t7 = c.args.t7.now; t8 = c.args.t8.now; t9 = c.args.t9.now; t10 = c.args.t10.now; t15 = c.args.t15.now; t16 = c.args.t16.now; t17 = c.args.t17.now })) 0 12 _ _ (c.requires.0 0 (omega arith)) refl _ c.put_rows.ensures) in it) in
        (c.put_rows-2.auto.out ∙ l.0, rows_on c.args.c c.args.p ((record { t1 = c.args.t1.now; t2 = c.args.t2.now; t3 = c.args.t3.now; t4 = c.args.t4.now; t5 = c.args.t5.now; t6 = c.args.t6.now; t7 = c.args.t7.now; t8 = c.args.t8.now; t9 = c.args.t9.now; t10 = c.args.t10.now; t15 = c.args.t15.now; t16 = c.args.t16.now; t17 = c.args.t17.now })) 1 11 _ _ (c.requires.0 1 (omega arith)) l.1 _ c.put_rows-2.ensures) in it) in
        (c.put_rows-3.auto.out ∙ l.0, rows_on c.args.c c.args.p ((record { t1 = c.args.t1.now; t2 = c.args.t2.now; t3 = c.args.t3.now; t4 = c.args.t4.now; t5 = c.args.t5.now; t6 = c.args.t6.now; t7 = c.args.t7.now; t8 = c.args.t8.now; t9 = c.args.t9.now; t10 = c.args.t10.now; t15 = c.args.t15.now; t16 = c.args.t16.now; t17 = c.args.t17.now })) 2 10 _ _ (c.requires.0 2 (omega arith)) l.1 _ c.put_rows-3.ensures) in it) in
        (c.put_rows-4.auto.out ∙ l.0, rows_on c.args.c c.args.p ((record { t1 = c.args.t1.now; t2 = c.args.t2.now; t3 = c.args.t3.now; t4 = c.args.t4.now; t5 = c.args.t5.now; t6 = c.args.t6.now; t7 = c.args.t7.now; t8 = c.args.t8.now; t9 = c.args.t9.now; t10 = c.args.t10.now; t15 = c.args.t15.now; t16 = c.args.t16.now; t17 = c.args.t17.now })) 3 9 _ _ (c.requires.0 3 (omega arith)) l.1 _ c.put_rows-4.ensures) in it) in
        (c.put_rows-5.auto.out ∙ l.0, rows_on c.args.c c.args.p ((record { t1 = c.args.t1.now; t2 = c.args.t2.now; t3 = c.args.t3.now; t4 = c.args.t4.now; t5 = c.args.t5.now; t6 = c.args.t6.now; t7 = c.args.t7.now; t8 = c.args.t8.now; t9 = c.args.t9.now; t10 = c.args.t10.now; t15 = c.args.t15.now; t16 = c.args.t16.now; t17 = c.args.t17.now })) 4 8 _ _ (c.requires.0 4 (omega arith)) l.1 _ c.put_rows-5.ensures) in it) in
        (c.put_rows-6.auto.out ∙ l.0, rows_on c.args.c c.args.p ((record { t1 = c.args.t1.now; t2 = c.args.t2.now; t3 = c.args.t3.now; t4 = c.args.t4.now; t5 = c.args.t5.now; t6 = c.args.t6.now; t7 = c.args.t7.now; t8 = c.args.t8.now; t9 = c.args.t9.now; t10 = c.args.t10.now; t15 = c.args.t15.now; t16 = c.args.t16.now; t17 = c.args.t17.now })) 5 7 _ _ (c.requires.0 5 (omega arith)) l.1 _ c.put_rows-6.ensures) in it)).0,
  ),
)

pub put_rows-requires-8 : goal.put_rows-requires-8
put_rows-requires-8 c = (
  omega arith,
  c.requires.0 7 (omega arith),
  omega (
    arith,
    c.requires.1,
    ((let it : ((length c.put_rows-7.new.out ≡ length c.args.out.now) × (put_content c.put_rows-7.new.out (rows_from c.args.c c.args.p 7) (bytes_of_all (row_cells c.args.c c.args.p ((record { t1 = c.args.t1.now; t2 = c.args.t2.now; t3 = c.args.t3.now; t4 = c.args.t4.now; t5 = c.args.t5.now; t6 = c.args.t6.now; t7 = c.args.t7.now; t8 = c.args.t8.now; t9 = c.args.t9.now; t10 = c.args.t10.now; t15 = c.args.t15.now; t16 = c.args.t16.now; t17 = c.args.t17.now })) 7 6)) ≡ put_content c.args.out.now (rows_from c.args.c c.args.p 0) (bytes_of_all (row_cells c.args.c c.args.p ((record { t1 = c.args.t1.now; t2 = c.args.t2.now; t3 = c.args.t3.now; t4 = c.args.t4.now; t5 = c.args.t5.now; t6 = c.args.t6.now; t7 = c.args.t7.now; t8 = c.args.t8.now; t9 = c.args.t9.now; t10 = c.args.t10.now; t15 = c.args.t15.now; t16 = c.args.t16.now; t17 = c.args.t17.now })) 0 13)))) = let l = (let it : ((length c.put_rows-6.new.out ≡ length c.args.out.now) × (put_content c.put_rows-6.new.out (rows_from c.args.c c.args.p 6) (bytes_of_all (row_cells c.args.c c.args.p ((record { t1 = c.args.t1.now; t2 = c.args.t2.now; t3 = c.args.t3.now; t4 = c.args.t4.now; t5 = c.args.t5.now; t6 = c.args.t6.now; t7 = c.args.t7.now; t8 = c.args.t8.now; t9 = c.args.t9.now; t10 = c.args.t10.now; t15 = c.args.t15.now; t16 = c.args.t16.now; t17 = c.args.t17.now })) 6 7)) ≡ put_content c.args.out.now (rows_from c.args.c c.args.p 0) (bytes_of_all (row_cells c.args.c c.args.p ((record { t1 = c.args.t1.now; t2 = c.args.t2.now; t3 = c.args.t3.now; t4 = c.args.t4.now; t5 = c.args.t5.now; t6 = c.args.t6.now; t7 = c.args.t7.now; t8 = c.args.t8.now; t9 = c.args.t9.now; t10 = c.args.t10.now; t15 = c.args.t15.now; t16 = c.args.t16.now; t17 = c.args.t17.now })) 0 13)))) = let l = (let it : ((length c.put_rows-5.new.out ≡ length c.args.out.now) × (put_content c.put_rows-5.new.out (rows_from c.args.c c.args.p 5) (bytes_of_all (row_cells c.args.c c.args.p ((record { t1 = c.args.t1.now; t2 = c.args.t2.now; t3 = c.args.t3.now; t4 = c.args.t4.now; t5 = c.args.t5.now; t6 = c.args.t6.now; t7 = c.args.t7.now; t8 = c.args.t8.now; t9 = c.args.t9.now; t10 = c.args.t10.now; t15 = c.args.t15.now; t16 = c.args.t16.now; t17 = c.args.t17.now })) 5 8)) ≡ put_content c.args.out.now (rows_from c.args.c c.args.p 0) (bytes_of_all (row_cells c.args.c c.args.p ((record { t1 = c.args.t1.now; t2 = c.args.t2.now; t3 = c.args.t3.now; t4 = c.args.t4.now; t5 = c.args.t5.now; t6 = c.args.t6.now; t7 = c.args.t7.now; t8 = c.args.t8.now; t9 = c.args.t9.now; t10 = c.args.t10.now; t15 = c.args.t15.now; t16 = c.args.t16.now; t17 = c.args.t17.now })) 0 13)))) = let l = (let it : ((length c.put_rows-4.new.out ≡ length c.args.out.now) × (put_content c.put_rows-4.new.out (rows_from c.args.c c.args.p 4) (bytes_of_all (row_cells c.args.c c.args.p ((record { t1 = c.args.t1.now; t2 = c.args.t2.now; t3 = c.args.t3.now; t4 = c.args.t4.now; t5 = c.args.t5.now; t6 = c.args.t6.now; t7 = c.args.t7.now; t8 = c.args.t8.now; t9 = c.args.t9.now; t10 = c.args.t10.now; t15 = c.args.t15.now; t16 = c.args.t16.now; t17 = c.args.t17.now })) 4 9)) ≡ put_content c.args.out.now (rows_from c.args.c c.args.p 0) (bytes_of_all (row_cells c.args.c c.args.p ((record { t1 = c.args.t1.now; t2 = c.args.t2.now; t3 = c.args.t3.now; t4 = c.args.t4.now; t5 = c.args.t5.now; t6 = c.args.t6.now; t7 = c.args.t7.now; t8 = c.args.t8.now; t9 = c.args.t9.now; t10 = c.args.t10.now; t15 = c.args.t15.now; t16 = c.args.t16.now; t17 = c.args.t17.now })) 0 13)))) = let l = (let it : ((length c.put_rows-3.new.out ≡ length c.args.out.now) × (put_content c.put_rows-3.new.out (rows_from c.args.c c.args.p 3) (bytes_of_all (row_cells c.args.c c.args.p ((record { t1 = c.args.t1.now; t2 = c.args.t2.now; t3 = c.args.t3.now; t4 = c.args.t4.now; t5 = c.args.t5.now; t6 = c.args.t6.now; t7 = c.args.t7.now; t8 = c.args.t8.now; t9 = c.args.t9.now; t10 = c.args.t10.now; t15 = c.args.t15.now; t16 = c.args.t16.now; t17 = c.args.t17.now })) 3 10)) ≡ put_content c.args.out.now (rows_from c.args.c c.args.p 0) (bytes_of_all (row_cells c.args.c c.args.p ((record { t1 = c.args.t1.now; t2 = c.args.t2.now; t3 = c.args.t3.now; t4 = c.args.t4.now; t5 = c.args.t5.now; t6 = c.args.t6.now; t7 = c.args.t7.now; t8 = c.args.t8.now; t9 = c.args.t9.now; t10 = c.args.t10.now; t15 = c.args.t15.now; t16 = c.args.t16.now; t17 = c.args.t17.now })) 0 13)))) = let l = (let it : ((length c.put_rows-2.new.out ≡ length c.args.out.now) × (put_content c.put_rows-2.new.out (rows_from c.args.c c.args.p 2) (bytes_of_all (row_cells c.args.c c.args.p ((record { t1 = c.args.t1.now; t2 = c.args.t2.now; t3 = c.args.t3.now; t4 = c.args.t4.now; t5 = c.args.t5.now; t6 = c.args.t6.now; t7 = c.args.t7.now; t8 = c.args.t8.now; t9 = c.args.t9.now; t10 = c.args.t10.now; t15 = c.args.t15.now; t16 = c.args.t16.now; t17 = c.args.t17.now })) 2 11)) ≡ put_content c.args.out.now (rows_from c.args.c c.args.p 0) (bytes_of_all (row_cells c.args.c c.args.p ((record { t1 = c.args.t1.now; t2 = c.args.t2.now; t3 = c.args.t3.now; t4 = c.args.t4.now; t5 = c.args.t5.now; t6 = c.args.t6.now; t7 = c.args.t7.now; t8 = c.args.t8.now; t9 = c.args.t9.now; t10 = c.args.t10.now; t15 = c.args.t15.now; t16 = c.args.t16.now; t17 = c.args.t17.now })) 0 13)))) = let l = (let it : ((length c.put_rows.new.out ≡ length c.args.out.now) × (put_content c.put_rows.new.out (rows_from c.args.c c.args.p 1) (bytes_of_all (row_cells c.args.c c.args.p ((record { t1 = c.args.t1.now; t2 = c.args.t2.now; t3 = c.args.t3.now; t4 = c.args.t4.now; t5 = c.args.t5.now; t6 = c.args.t6.now; t7 = c.args.t7.now; t8 = c.args.t8.now; t9 = c.args.t9.now; t10 = c.args.t10.now; t15 = c.args.t15.now; t16 = c.args.t16.now; t17 = c.args.t17.now })) 1 12)) ≡ put_content c.args.out.now (rows_from c.args.c c.args.p 0) (bytes_of_all (row_cells c.args.c c.args.p ((record { t1 = c.args.t1.now; t2 = c.args.t2.now; t3 = c.args.t3.now; t4 = c.args.t4.now; t5 = c.args.t5.now; t6 = c.args.t6.now; t7 = c.args.t7.now; t8 = c.args.t8.now; t9 = c.args.t9.now; t10 = c.args.t10.now; t15 = c.args.t15.now; t16 = c.args.t16.now; t17 = c.args.t17.now })) 0 13)))) = (c.put_rows.auto.out, rows_on c.args.c c.args.p ((record { t1 = c.args.t1.now; t2 = c.args.t2.now; t3 = c.args.t3.now; t4 = c.args.t4.now; t5 = c.args.t5.now; t6 = c.args.t6.now; t7 = c.args.t7.now; t8 = c.args.t8.now; t9 = c.args.t9.now; t10 = c.args.t10.now; t15 = c.args.t15.now; t16 = c.args.t16.now; t17 = c.args.t17.now })) 0 12 _ _ (c.requires.0 0 (omega arith)) refl _ c.put_rows.ensures) in it) in
        (c.put_rows-2.auto.out ∙ l.0, rows_on c.args.c c.args.p ((record { t1 = c.args.t1.now; t2 = c.args.t2.now; t3 = c.args.t3.now; t4 = c.args.t4.now; t5 = c.args.t5.now; t6 = c.args.t6.now; t7 = c.args.t7.now; t8 = c.args.t8.now; t9 = c.args.t9.now; t10 = c.args.t10.now; t15 = c.args.t15.now; t16 = c.args.t16.now; t17 = c.args.t17.now })) 1 11 _ _ (c.requires.0 1 (omega arith)) l.1 _ c.put_rows-2.ensures) in it) in
        (c.put_rows-3.auto.out ∙ l.0, rows_on c.args.c c.args.p ((record { t1 = c.args.t1.now; t2 = c.args.t2.now; t3 = c.args.t3.now; t4 = c.args.t4.now; t5 = c.args.t5.now; t6 = c.args.t6.now; t7 = c.args.t7.now; t8 = c.args.t8.now; t9 = c.args.t9.now; t10 = c.args.t10.now; t15 = c.args.t15.now; t16 = c.args.t16.now; t17 = c.args.t17.now })) 2 10 _ _ (c.requires.0 2 (omega arith)) l.1 _ c.put_rows-3.ensures) in it) in
        (c.put_rows-4.auto.out ∙ l.0, rows_on c.args.c c.args.p ((record { t1 = c.args.t1.now; t2 = c.args.t2.now; t3 = c.args.t3.now; t4 = c.args.t4.now; t5 = c.args.t5.now; t6 = c.args.t6.now; t7 = c.args.t7.now; t8 = c.args.t8.now; t9 = c.args.t9.now; t10 = c.args.t10.now; t15 = c.args.t15.now; t16 = c.args.t16.now; t17 = c.args.t17.now })) 3 9 _ _ (c.requires.0 3 (omega arith)) l.1 _ c.put_rows-4.ensures) in it) in
        (c.put_rows-5.auto.out ∙ l.0, rows_on c.args.c c.args.p ((record { t1 = c.args.t1.now; t2 = c.args.t2.now; t3 = c.args.t3.now; t4 = c.args.t4.now; t5 = c.args.t5.now; t6 = c.args.t6.now; t7 = c.args.t7.now; t8 = c.args.t8.now; t9 = c.args.t9.now; t10 = c.args.t10.now; t15 = c.args.t15.now; t16 = c.args.t16.now; t17 = c.args.t17.now })) 4 8 _ _ (c.requires.0 4 (omega arith)) l.1 _ c.put_rows-5.ensures) in it) in
        (c.put_rows-6.auto.out ∙ l.0, rows_on c.args.c c.args.p ((record { t1 = c.args.t1.now; t2 = c.args.t2.now; t3 = c.args.t3.now; t4 = c.args.t4.now; t5 = c.args.t5.now; t6 = c.args.t6.now; t7 = c.args.t7.now; t8 = c.args.t8.now; t9 = c.args.t9.now; t10 = c.args.t10.now; t15 = c.args.t15.now; t16 = c.args.t16.now; t17 = c.args.t17.now })) 5 7 _ _ (c.requires.0 5 (omega arith)) l.1 _ c.put_rows-6.ensures) in it) in
        (c.put_rows-7.auto.out ∙ l.0, rows_on c.args.c c.args.p ((record { t1 = c.args.t1.now; t2 = c.args.t2.now; t3 = c.args.t3.now; t4 = c.args.t4.now; t5 = c.args.t5.now; t6 = c.args.t6.now; t7 = c.args.t7.now; t8 = c.args.t8.now; t9 = c.args.t9.now; t10 = c.args.t10.now; t15 = c.args.t15.now; t16 = c.args.t16.now; t17 = c.args.t17.now })) 6 6 _ _ (c.requires.0 6 (omega arith)) l.1 _ c.put_rows-7.ensures) in it)).0,
  ),
)

pub put_rows-requires-9 : goal.put_rows-requires-9
put_rows-requires-9 c = (
  omega arith,
  c.requires.0 8 (omega arith),
  omega (
    arith,
    c.requires.1,
    ((let it : ((length c.put_rows-8.new.out ≡ length c.args.out.now) × (put_content c.put_rows-8.new.out (rows_from c.args.c c.args.p 8) (bytes_of_all (row_cells c.args.c c.args.p ((record { t1 = c.args.t1.now; t2 = c.args.t2.now; t3 = c.args.t3.now; t4 = c.args.t4.now; t5 = c.args.t5.now; t6 = c.args.t6.now; t7 = c.args.t7.now; t8 = c.args.t8.now; t9 = c.args.t9.now; t10 = c.args.t10.now; t15 = c.args.t15.now; t16 = c.args.t16.now; t17 = c.args.t17.now })) 8 5)) ≡ put_content c.args.out.now (rows_from c.args.c c.args.p 0) (bytes_of_all (row_cells c.args.c c.args.p ((record { t1 = c.args.t1.now; t2 = c.args.t2.now; t3 = c.args.t3.now; t4 = c.args.t4.now; t5 = c.args.t5.now; t6 = c.args.t6.now; t7 = c.args.t7.now; t8 = c.args.t8.now; t9 = c.args.t9.now; t10 = c.args.t10.now; t15 = c.args.t15.now; t16 = c.args.t16.now; t17 = c.args.t17.now })) 0 13)))) = let l = (let it : ((length c.put_rows-7.new.out ≡ length c.args.out.now) × (put_content c.put_rows-7.new.out (rows_from c.args.c c.args.p 7) (bytes_of_all (row_cells c.args.c c.args.p ((record { t1 = c.args.t1.now; t2 = c.args.t2.now; t3 = c.args.t3.now; t4 = c.args.t4.now; t5 = c.args.t5.now; t6 = c.args.t6.now; t7 = c.args.t7.now; t8 = c.args.t8.now; t9 = c.args.t9.now; t10 = c.args.t10.now; t15 = c.args.t15.now; t16 = c.args.t16.now; t17 = c.args.t17.now })) 7 6)) ≡ put_content c.args.out.now (rows_from c.args.c c.args.p 0) (bytes_of_all (row_cells c.args.c c.args.p ((record { t1 = c.args.t1.now; t2 = c.args.t2.now; t3 = c.args.t3.now; t4 = c.args.t4.now; t5 = c.args.t5.now; t6 = c.args.t6.now; t7 = c.args.t7.now; t8 = c.args.t8.now; t9 = c.args.t9.now; t10 = c.args.t10.now; t15 = c.args.t15.now; t16 = c.args.t16.now; t17 = c.args.t17.now })) 0 13)))) = let l = (let it : ((length c.put_rows-6.new.out ≡ length c.args.out.now) × (put_content c.put_rows-6.new.out (rows_from c.args.c c.args.p 6) (bytes_of_all (row_cells c.args.c c.args.p ((record { t1 = c.args.t1.now; t2 = c.args.t2.now; t3 = c.args.t3.now; t4 = c.args.t4.now; t5 = c.args.t5.now; t6 = c.args.t6.now; t7 = c.args.t7.now; t8 = c.args.t8.now; t9 = c.args.t9.now; t10 = c.args.t10.now; t15 = c.args.t15.now; t16 = c.args.t16.now; t17 = c.args.t17.now })) 6 7)) ≡ put_content c.args.out.now (rows_from c.args.c c.args.p 0) (bytes_of_all (row_cells c.args.c c.args.p ((record { t1 = c.args.t1.now; t2 = c.args.t2.now; t3 = c.args.t3.now; t4 = c.args.t4.now; t5 = c.args.t5.now; t6 = c.args.t6.now; t7 = c.args.t7.now; t8 = c.args.t8.now; t9 = c.args.t9.now; t10 = c.args.t10.now; t15 = c.args.t15.now; t16 = c.args.t16.now; t17 = c.args.t17.now })) 0 13)))) = let l = (let it : ((length c.put_rows-5.new.out ≡ length c.args.out.now) × (put_content c.put_rows-5.new.out (rows_from c.args.c c.args.p 5) (bytes_of_all (row_cells c.args.c c.args.p ((record { t1 = c.args.t1.now; t2 = c.args.t2.now; t3 = c.args.t3.now; t4 = c.args.t4.now; t5 = c.args.t5.now; t6 = c.args.t6.now; t7 = c.args.t7.now; t8 = c.args.t8.now; t9 = c.args.t9.now; t10 = c.args.t10.now; t15 = c.args.t15.now; t16 = c.args.t16.now; t17 = c.args.t17.now })) 5 8)) ≡ put_content c.args.out.now (rows_from c.args.c c.args.p 0) (bytes_of_all (row_cells c.args.c c.args.p ((record { t1 = c.args.t1.now; t2 = c.args.t2.now; t3 = c.args.t3.now; t4 = c.args.t4.now; t5 = c.args.t5.now; t6 = c.args.t6.now; t7 = c.args.t7.now; t8 = c.args.t8.now; t9 = c.args.t9.now; t10 = c.args.t10.now; t15 = c.args.t15.now; t16 = c.args.t16.now; t17 = c.args.t17.now })) 0 13)))) = let l = (let it : ((length c.put_rows-4.new.out ≡ length c.args.out.now) × (put_content c.put_rows-4.new.out (rows_from c.args.c c.args.p 4) (bytes_of_all (row_cells c.args.c c.args.p ((record { t1 = c.args.t1.now; t2 = c.args.t2.now; t3 = c.args.t3.now; t4 = c.args.t4.now; t5 = c.args.t5.now; t6 = c.args.t6.now; t7 = c.args.t7.now; t8 = c.args.t8.now; t9 = c.args.t9.now; t10 = c.args.t10.now; t15 = c.args.t15.now; t16 = c.args.t16.now; t17 = c.args.t17.now })) 4 9)) ≡ put_content c.args.out.now (rows_from c.args.c c.args.p 0) (bytes_of_all (row_cells c.args.c c.args.p ((record { t1 = c.args.t1.now; t2 = c.args.t2.now; t3 = c.args.t3.now; t4 = c.args.t4.now; t5 = c.args.t5.now; t6 = c.args.t6.now; t7 = c.args.t7.now; t8 = c.args.t8.now; t9 = c.args.t9.now; t10 = c.args.t10.now; t15 = c.args.t15.now; t16 = c.args.t16.now; t17 = c.args.t17.now })) 0 13)))) = let l = (let it : ((length c.put_rows-3.new.out ≡ length c.args.out.now) × (put_content c.put_rows-3.new.out (rows_from c.args.c c.args.p 3) (bytes_of_all (row_cells c.args.c c.args.p ((record { t1 = c.args.t1.now; t2 = c.args.t2.now; t3 = c.args.t3.now; t4 = c.args.t4.now; t5 = c.args.t5.now; t6 = c.args.t6.now; t7 = c.args.t7.now; t8 = c.args.t8.now; t9 = c.args.t9.now; t10 = c.args.t10.now; t15 = c.args.t15.now; t16 = c.args.t16.now; t17 = c.args.t17.now })) 3 10)) ≡ put_content c.args.out.now (rows_from c.args.c c.args.p 0) (bytes_of_all (row_cells c.args.c c.args.p ((record { t1 = c.args.t1.now; t2 = c.args.t2.now; t3 = c.args.t3.now; t4 = c.args.t4.now; t5 = c.args.t5.now; t6 = c.args.t6.now; t7 = c.args.t7.now; t8 = c.args.t8.now; t9 = c.args.t9.now; t10 = c.args.t10.now; t15 = c.args.t15.now; t16 = c.args.t16.now; t17 = c.args.t17.now })) 0 13)))) = let l = (let it : ((length c.put_rows-2.new.out ≡ length c.args.out.now) × (put_content c.put_rows-2.new.out (rows_from c.args.c c.args.p 2) (bytes_of_all (row_cells c.args.c c.args.p ((record { t1 = c.args.t1.now; t2 = c.args.t2.now; t3 = c.args.t3.now; t4 = c.args.t4.now; t5 = c.args.t5.now; t6 = c.args.t6.now; t7 = c.args.t7.now; t8 = c.args.t8.now; t9 = c.args.t9.now; t10 = c.args.t10.now; t15 = c.args.t15.now; t16 = c.args.t16.now; t17 = c.args.t17.now })) 2 11)) ≡ put_content c.args.out.now (rows_from c.args.c c.args.p 0) (bytes_of_all (row_cells c.args.c c.args.p ((record { t1 = c.args.t1.now; t2 = c.args.t2.now; t3 = c.args.t3.now; t4 = c.args.t4.now; t5 = c.args.t5.now; t6 = c.args.t6.now; t7 = c.args.t7.now; t8 = c.args.t8.now; t9 = c.args.t9.now; t10 = c.args.t10.now; t15 = c.args.t15.now; t16 = c.args.t16.now; t17 = c.args.t17.now })) 0 13)))) = let l = (let it : ((length c.put_rows.new.out ≡ length c.args.out.now) × (put_content c.put_rows.new.out (rows_from c.args.c c.args.p 1) (bytes_of_all (row_cells c.args.c c.args.p ((record { t1 = c.args.t1.now; t2 = c.args.t2.now; t3 = c.args.t3.now; t4 = c.args.t4.now; t5 = c.args.t5.now; t6 = c.args.t6.now; t7 = c.args.t7.now; t8 = c.args.t8.now; t9 = c.args.t9.now; t10 = c.args.t10.now; t15 = c.args.t15.now; t16 = c.args.t16.now; t17 = c.args.t17.now })) 1 12)) ≡ put_content c.args.out.now (rows_from c.args.c c.args.p 0) (bytes_of_all (row_cells c.args.c c.args.p ((record { t1 = c.args.t1.now; t2 = c.args.t2.now; t3 = c.args.t3.now; t4 = c.args.t4.now; t5 = c.args.t5.now; t6 = c.args.t6.now; t7 = c.args.t7.now; t8 = c.args.t8.now; t9 = c.args.t9.now; t10 = c.args.t10.now; t15 = c.args.t15.now; t16 = c.args.t16.now; t17 = c.args.t17.now })) 0 13)))) = (c.put_rows.auto.out, rows_on c.args.c c.args.p ((record { t1 = c.args.t1.now; t2 = c.args.t2.now; t3 = c.args.t3.now; t4 = c.args.t4.now; t5 = c.args.t5.now; t6 = c.args.t6.now; t7 = c.args.t7.now; t8 = c.args.t8.now; t9 = c.args.t9.now; t10 = c.args.t10.now; t15 = c.args.t15.now; t16 = c.args.t16.now; t17 = c.args.t17.now })) 0 12 _ _ (c.requires.0 0 (omega arith)) refl _ c.put_rows.ensures) in it) in
        (c.put_rows-2.auto.out ∙ l.0, rows_on c.args.c c.args.p ((record { t1 = c.args.t1.now; t2 = c.args.t2.now; t3 = c.args.t3.now; t4 = c.args.t4.now; t5 = c.args.t5.now; t6 = c.args.t6.now; t7 = c.args.t7.now; t8 = c.args.t8.now; t9 = c.args.t9.now; t10 = c.args.t10.now; t15 = c.args.t15.now; t16 = c.args.t16.now; t17 = c.args.t17.now })) 1 11 _ _ (c.requires.0 1 (omega arith)) l.1 _ c.put_rows-2.ensures) in it) in
        (c.put_rows-3.auto.out ∙ l.0, rows_on c.args.c c.args.p ((record { t1 = c.args.t1.now; t2 = c.args.t2.now; t3 = c.args.t3.now; t4 = c.args.t4.now; t5 = c.args.t5.now; t6 = c.args.t6.now; t7 = c.args.t7.now; t8 = c.args.t8.now; t9 = c.args.t9.now; t10 = c.args.t10.now; t15 = c.args.t15.now; t16 = c.args.t16.now; t17 = c.args.t17.now })) 2 10 _ _ (c.requires.0 2 (omega arith)) l.1 _ c.put_rows-3.ensures) in it) in
        (c.put_rows-4.auto.out ∙ l.0, rows_on c.args.c c.args.p ((record { t1 = c.args.t1.now; t2 = c.args.t2.now; t3 = c.args.t3.now; t4 = c.args.t4.now; t5 = c.args.t5.now; t6 = c.args.t6.now; t7 = c.args.t7.now; t8 = c.args.t8.now; t9 = c.args.t9.now; t10 = c.args.t10.now; t15 = c.args.t15.now; t16 = c.args.t16.now; t17 = c.args.t17.now })) 3 9 _ _ (c.requires.0 3 (omega arith)) l.1 _ c.put_rows-4.ensures) in it) in
        (c.put_rows-5.auto.out ∙ l.0, rows_on c.args.c c.args.p ((record { t1 = c.args.t1.now; t2 = c.args.t2.now; t3 = c.args.t3.now; t4 = c.args.t4.now; t5 = c.args.t5.now; t6 = c.args.t6.now; t7 = c.args.t7.now; t8 = c.args.t8.now; t9 = c.args.t9.now; t10 = c.args.t10.now; t15 = c.args.t15.now; t16 = c.args.t16.now; t17 = c.args.t17.now })) 4 8 _ _ (c.requires.0 4 (omega arith)) l.1 _ c.put_rows-5.ensures) in it) in
        (c.put_rows-6.auto.out ∙ l.0, rows_on c.args.c c.args.p ((record { t1 = c.args.t1.now; t2 = c.args.t2.now; t3 = c.args.t3.now; t4 = c.args.t4.now; t5 = c.args.t5.now; t6 = c.args.t6.now; t7 = c.args.t7.now; t8 = c.args.t8.now; t9 = c.args.t9.now; t10 = c.args.t10.now; t15 = c.args.t15.now; t16 = c.args.t16.now; t17 = c.args.t17.now })) 5 7 _ _ (c.requires.0 5 (omega arith)) l.1 _ c.put_rows-6.ensures) in it) in
        (c.put_rows-7.auto.out ∙ l.0, rows_on c.args.c c.args.p ((record { t1 = c.args.t1.now; t2 = c.args.t2.now; t3 = c.args.t3.now; t4 = c.args.t4.now; t5 = c.args.t5.now; t6 = c.args.t6.now; t7 = c.args.t7.now; t8 = c.args.t8.now; t9 = c.args.t9.now; t10 = c.args.t10.now; t15 = c.args.t15.now; t16 = c.args.t16.now; t17 = c.args.t17.now })) 6 6 _ _ (c.requires.0 6 (omega arith)) l.1 _ c.put_rows-7.ensures) in it) in
        (c.put_rows-8.auto.out ∙ l.0, rows_on c.args.c c.args.p ((record { t1 = c.args.t1.now; t2 = c.args.t2.now; t3 = c.args.t3.now; t4 = c.args.t4.now; t5 = c.args.t5.now; t6 = c.args.t6.now; t7 = c.args.t7.now; t8 = c.args.t8.now; t9 = c.args.t9.now; t10 = c.args.t10.now; t15 = c.args.t15.now; t16 = c.args.t16.now; t17 = c.args.t17.now })) 7 5 _ _ (c.requires.0 7 (omega arith)) l.1 _ c.put_rows-8.ensures) in it)).0,
  ),
)

pub put_rows-requires-10 : goal.put_rows-requires-10
put_rows-requires-10 c = (
  omega arith,
  c.requires.0 9 (omega arith),
  omega (
    arith,
    c.requires.1,
    ((let it : ((length c.put_rows-9.new.out ≡ length c.args.out.now) × (put_content c.put_rows-9.new.out (rows_from c.args.c c.args.p 9) (bytes_of_all (row_cells c.args.c c.args.p ((record { t1 = c.args.t1.now; t2 = c.args.t2.now; t3 = c.args.t3.now; t4 = c.args.t4.now; t5 = c.args.t5.now; t6 = c.args.t6.now; t7 = c.args.t7.now; t8 = c.args.t8.now; t9 = c.args.t9.now; t10 = c.args.t10.now; t15 = c.args.t15.now; t16 = c.args.t16.now; t17 = c.args.t17.now })) 9 4)) ≡ put_content c.args.out.now (rows_from c.args.c c.args.p 0) (bytes_of_all (row_cells c.args.c c.args.p ((record { t1 = c.args.t1.now; t2 = c.args.t2.now; t3 = c.args.t3.now; t4 = c.args.t4.now; t5 = c.args.t5.now; t6 = c.args.t6.now; t7 = c.args.t7.now; t8 = c.args.t8.now; t9 = c.args.t9.now; t10 = c.args.t10.now; t15 = c.args.t15.now; t16 = c.args.t16.now; t17 = c.args.t17.now })) 0 13)))) = let l = (let it : ((length c.put_rows-8.new.out ≡ length c.args.out.now) × (put_content c.put_rows-8.new.out (rows_from c.args.c c.args.p 8) (bytes_of_all (row_cells c.args.c c.args.p ((record { t1 = c.args.t1.now; t2 = c.args.t2.now; t3 = c.args.t3.now; t4 = c.args.t4.now; t5 = c.args.t5.now; t6 = c.args.t6.now; t7 = c.args.t7.now; t8 = c.args.t8.now; t9 = c.args.t9.now; t10 = c.args.t10.now; t15 = c.args.t15.now; t16 = c.args.t16.now; t17 = c.args.t17.now })) 8 5)) ≡ put_content c.args.out.now (rows_from c.args.c c.args.p 0) (bytes_of_all (row_cells c.args.c c.args.p ((record { t1 = c.args.t1.now; t2 = c.args.t2.now; t3 = c.args.t3.now; t4 = c.args.t4.now; t5 = c.args.t5.now; t6 = c.args.t6.now; t7 = c.args.t7.now; t8 = c.args.t8.now; t9 = c.args.t9.now; t10 = c.args.t10.now; t15 = c.args.t15.now; t16 = c.args.t16.now; t17 = c.args.t17.now })) 0 13)))) = let l = (let it : ((length c.put_rows-7.new.out ≡ length c.args.out.now) × (put_content c.put_rows-7.new.out (rows_from c.args.c c.args.p 7) (bytes_of_all (row_cells c.args.c c.args.p ((record { t1 = c.args.t1.now; t2 = c.args.t2.now; t3 = c.args.t3.now; t4 = c.args.t4.now; t5 = c.args.t5.now; t6 = c.args.t6.now; t7 = c.args.t7.now; t8 = c.args.t8.now; t9 = c.args.t9.now; t10 = c.args.t10.now; t15 = c.args.t15.now; t16 = c.args.t16.now; t17 = c.args.t17.now })) 7 6)) ≡ put_content c.args.out.now (rows_from c.args.c c.args.p 0) (bytes_of_all (row_cells c.args.c c.args.p ((record { t1 = c.args.t1.now; t2 = c.args.t2.now; t3 = c.args.t3.now; t4 = c.args.t4.now; t5 = c.args.t5.now; t6 = c.args.t6.now; t7 = c.args.t7.now; t8 = c.args.t8.now; t9 = c.args.t9.now; t10 = c.args.t10.now; t15 = c.args.t15.now; t16 = c.args.t16.now; t17 = c.args.t17.now })) 0 13)))) = let l = (let it : ((length c.put_rows-6.new.out ≡ length c.args.out.now) × (put_content c.put_rows-6.new.out (rows_from c.args.c c.args.p 6) (bytes_of_all (row_cells c.args.c c.args.p ((record { t1 = c.args.t1.now; t2 = c.args.t2.now; t3 = c.args.t3.now; t4 = c.args.t4.now; t5 = c.args.t5.now; t6 = c.args.t6.now; t7 = c.args.t7.now; t8 = c.args.t8.now; t9 = c.args.t9.now; t10 = c.args.t10.now; t15 = c.args.t15.now; t16 = c.args.t16.now; t17 = c.args.t17.now })) 6 7)) ≡ put_content c.args.out.now (rows_from c.args.c c.args.p 0) (bytes_of_all (row_cells c.args.c c.args.p ((record { t1 = c.args.t1.now; t2 = c.args.t2.now; t3 = c.args.t3.now; t4 = c.args.t4.now; t5 = c.args.t5.now; t6 = c.args.t6.now; t7 = c.args.t7.now; t8 = c.args.t8.now; t9 = c.args.t9.now; t10 = c.args.t10.now; t15 = c.args.t15.now; t16 = c.args.t16.now; t17 = c.args.t17.now })) 0 13)))) = let l = (let it : ((length c.put_rows-5.new.out ≡ length c.args.out.now) × (put_content c.put_rows-5.new.out (rows_from c.args.c c.args.p 5) (bytes_of_all (row_cells c.args.c c.args.p ((record { t1 = c.args.t1.now; t2 = c.args.t2.now; t3 = c.args.t3.now; t4 = c.args.t4.now; t5 = c.args.t5.now; t6 = c.args.t6.now; t7 = c.args.t7.now; t8 = c.args.t8.now; t9 = c.args.t9.now; t10 = c.args.t10.now; t15 = c.args.t15.now; t16 = c.args.t16.now; t17 = c.args.t17.now })) 5 8)) ≡ put_content c.args.out.now (rows_from c.args.c c.args.p 0) (bytes_of_all (row_cells c.args.c c.args.p ((record { t1 = c.args.t1.now; t2 = c.args.t2.now; t3 = c.args.t3.now; t4 = c.args.t4.now; t5 = c.args.t5.now; t6 = c.args.t6.now; t7 = c.args.t7.now; t8 = c.args.t8.now; t9 = c.args.t9.now; t10 = c.args.t10.now; t15 = c.args.t15.now; t16 = c.args.t16.now; t17 = c.args.t17.now })) 0 13)))) = let l = (let it : ((length c.put_rows-4.new.out ≡ length c.args.out.now) × (put_content c.put_rows-4.new.out (rows_from c.args.c c.args.p 4) (bytes_of_all (row_cells c.args.c c.args.p ((record { t1 = c.args.t1.now; t2 = c.args.t2.now; t3 = c.args.t3.now; t4 = c.args.t4.now; t5 = c.args.t5.now; t6 = c.args.t6.now; t7 = c.args.t7.now; t8 = c.args.t8.now; t9 = c.args.t9.now; t10 = c.args.t10.now; t15 = c.args.t15.now; t16 = c.args.t16.now; t17 = c.args.t17.now })) 4 9)) ≡ put_content c.args.out.now (rows_from c.args.c c.args.p 0) (bytes_of_all (row_cells c.args.c c.args.p ((record { t1 = c.args.t1.now; t2 = c.args.t2.now; t3 = c.args.t3.now; t4 = c.args.t4.now; t5 = c.args.t5.now; t6 = c.args.t6.now; t7 = c.args.t7.now; t8 = c.args.t8.now; t9 = c.args.t9.now; t10 = c.args.t10.now; t15 = c.args.t15.now; t16 = c.args.t16.now; t17 = c.args.t17.now })) 0 13)))) = let l = (let it : ((length c.put_rows-3.new.out ≡ length c.args.out.now) × (put_content c.put_rows-3.new.out (rows_from c.args.c c.args.p 3) (bytes_of_all (row_cells c.args.c c.args.p ((record { t1 = c.args.t1.now; t2 = c.args.t2.now; t3 = c.args.t3.now; t4 = c.args.t4.now; t5 = c.args.t5.now; t6 = c.args.t6.now; t7 = c.args.t7.now; t8 = c.args.t8.now; t9 = c.args.t9.now; t10 = c.args.t10.now; t15 = c.args.t15.now; t16 = c.args.t16.now; t17 = c.args.t17.now })) 3 10)) ≡ put_content c.args.out.now (rows_from c.args.c c.args.p 0) (bytes_of_all (row_cells c.args.c c.args.p ((record { t1 = c.args.t1.now; t2 = c.args.t2.now; t3 = c.args.t3.now; t4 = c.args.t4.now; t5 = c.args.t5.now; t6 = c.args.t6.now; t7 = c.args.t7.now; t8 = c.args.t8.now; t9 = c.args.t9.now; t10 = c.args.t10.now; t15 = c.args.t15.now; t16 = c.args.t16.now; t17 = c.args.t17.now })) 0 13)))) = let l = (let it : ((length c.put_rows-2.new.out ≡ length c.args.out.now) × (put_content c.put_rows-2.new.out (rows_from c.args.c c.args.p 2) (bytes_of_all (row_cells c.args.c c.args.p ((record { t1 = c.args.t1.now; t2 = c.args.t2.now; t3 = c.args.t3.now; t4 = c.args.t4.now; t5 = c.args.t5.now; t6 = c.args.t6.now; t7 = c.args.t7.now; t8 = c.args.t8.now; t9 = c.args.t9.now; t10 = c.args.t10.now; t15 = c.args.t15.now; t16 = c.args.t16.now; t17 = c.args.t17.now })) 2 11)) ≡ put_content c.args.out.now (rows_from c.args.c c.args.p 0) (bytes_of_all (row_cells c.args.c c.args.p ((record { t1 = c.args.t1.now; t2 = c.args.t2.now; t3 = c.args.t3.now; t4 = c.args.t4.now; t5 = c.args.t5.now; t6 = c.args.t6.now; t7 = c.args.t7.now; t8 = c.args.t8.now; t9 = c.args.t9.now; t10 = c.args.t10.now; t15 = c.args.t15.now; t16 = c.args.t16.now; t17 = c.args.t17.now })) 0 13)))) = let l = (let it : ((length c.put_rows.new.out ≡ length c.args.out.now) × (put_content c.put_rows.new.out (rows_from c.args.c c.args.p 1) (bytes_of_all (row_cells c.args.c c.args.p ((record { t1 = c.args.t1.now; t2 = c.args.t2.now; t3 = c.args.t3.now; t4 = c.args.t4.now; t5 = c.args.t5.now; t6 = c.args.t6.now; t7 = c.args.t7.now; t8 = c.args.t8.now; t9 = c.args.t9.now; t10 = c.args.t10.now; t15 = c.args.t15.now; t16 = c.args.t16.now; t17 = c.args.t17.now })) 1 12)) ≡ put_content c.args.out.now (rows_from c.args.c c.args.p 0) (bytes_of_all (row_cells c.args.c c.args.p ((record { t1 = c.args.t1.now; t2 = c.args.t2.now; t3 = c.args.t3.now; t4 = c.args.t4.now; t5 = c.args.t5.now; t6 = c.args.t6.now; t7 = c.args.t7.now; t8 = c.args.t8.now; t9 = c.args.t9.now; t10 = c.args.t10.now; t15 = c.args.t15.now; t16 = c.args.t16.now; t17 = c.args.t17.now })) 0 13)))) = (c.put_rows.auto.out, rows_on c.args.c c.args.p ((record { t1 = c.args.t1.now; t2 = c.args.t2.now; t3 = c.args.t3.now; t4 = c.args.t4.now; t5 = c.args.t5.now; t6 = c.args.t6.now; t7 = c.args.t7.now; t8 = c.args.t8.now; t9 = c.args.t9.now; t10 = c.args.t10.now; t15 = c.args.t15.now; t16 = c.args.t16.now; t17 = c.args.t17.now })) 0 12 _ _ (c.requires.0 0 (omega arith)) refl _ c.put_rows.ensures) in it) in
        (c.put_rows-2.auto.out ∙ l.0, rows_on c.args.c c.args.p ((record { t1 = c.args.t1.now; t2 = c.args.t2.now; t3 = c.args.t3.now; t4 = c.args.t4.now; t5 = c.args.t5.now; t6 = c.args.t6.now; t7 = c.args.t7.now; t8 = c.args.t8.now; t9 = c.args.t9.now; t10 = c.args.t10.now; t15 = c.args.t15.now; t16 = c.args.t16.now; t17 = c.args.t17.now })) 1 11 _ _ (c.requires.0 1 (omega arith)) l.1 _ c.put_rows-2.ensures) in it) in
        (c.put_rows-3.auto.out ∙ l.0, rows_on c.args.c c.args.p ((record { t1 = c.args.t1.now; t2 = c.args.t2.now; t3 = c.args.t3.now; t4 = c.args.t4.now; t5 = c.args.t5.now; t6 = c.args.t6.now; t7 = c.args.t7.now; t8 = c.args.t8.now; t9 = c.args.t9.now; t10 = c.args.t10.now; t15 = c.args.t15.now; t16 = c.args.t16.now; t17 = c.args.t17.now })) 2 10 _ _ (c.requires.0 2 (omega arith)) l.1 _ c.put_rows-3.ensures) in it) in
        (c.put_rows-4.auto.out ∙ l.0, rows_on c.args.c c.args.p ((record { t1 = c.args.t1.now; t2 = c.args.t2.now; t3 = c.args.t3.now; t4 = c.args.t4.now; t5 = c.args.t5.now; t6 = c.args.t6.now; t7 = c.args.t7.now; t8 = c.args.t8.now; t9 = c.args.t9.now; t10 = c.args.t10.now; t15 = c.args.t15.now; t16 = c.args.t16.now; t17 = c.args.t17.now })) 3 9 _ _ (c.requires.0 3 (omega arith)) l.1 _ c.put_rows-4.ensures) in it) in
        (c.put_rows-5.auto.out ∙ l.0, rows_on c.args.c c.args.p ((record { t1 = c.args.t1.now; t2 = c.args.t2.now; t3 = c.args.t3.now; t4 = c.args.t4.now; t5 = c.args.t5.now; t6 = c.args.t6.now; t7 = c.args.t7.now; t8 = c.args.t8.now; t9 = c.args.t9.now; t10 = c.args.t10.now; t15 = c.args.t15.now; t16 = c.args.t16.now; t17 = c.args.t17.now })) 4 8 _ _ (c.requires.0 4 (omega arith)) l.1 _ c.put_rows-5.ensures) in it) in
        (c.put_rows-6.auto.out ∙ l.0, rows_on c.args.c c.args.p ((record { t1 = c.args.t1.now; t2 = c.args.t2.now; t3 = c.args.t3.now; t4 = c.args.t4.now; t5 = c.args.t5.now; t6 = c.args.t6.now; t7 = c.args.t7.now; t8 = c.args.t8.now; t9 = c.args.t9.now; t10 = c.args.t10.now; t15 = c.args.t15.now; t16 = c.args.t16.now; t17 = c.args.t17.now })) 5 7 _ _ (c.requires.0 5 (omega arith)) l.1 _ c.put_rows-6.ensures) in it) in
        (c.put_rows-7.auto.out ∙ l.0, rows_on c.args.c c.args.p ((record { t1 = c.args.t1.now; t2 = c.args.t2.now; t3 = c.args.t3.now; t4 = c.args.t4.now; t5 = c.args.t5.now; t6 = c.args.t6.now; t7 = c.args.t7.now; t8 = c.args.t8.now; t9 = c.args.t9.now; t10 = c.args.t10.now; t15 = c.args.t15.now; t16 = c.args.t16.now; t17 = c.args.t17.now })) 6 6 _ _ (c.requires.0 6 (omega arith)) l.1 _ c.put_rows-7.ensures) in it) in
        (c.put_rows-8.auto.out ∙ l.0, rows_on c.args.c c.args.p ((record { t1 = c.args.t1.now; t2 = c.args.t2.now; t3 = c.args.t3.now; t4 = c.args.t4.now; t5 = c.args.t5.now; t6 = c.args.t6.now; t7 = c.args.t7.now; t8 = c.args.t8.now; t9 = c.args.t9.now; t10 = c.args.t10.now; t15 = c.args.t15.now; t16 = c.args.t16.now; t17 = c.args.t17.now })) 7 5 _ _ (c.requires.0 7 (omega arith)) l.1 _ c.put_rows-8.ensures) in it) in
        (c.put_rows-9.auto.out ∙ l.0, rows_on c.args.c c.args.p ((record { t1 = c.args.t1.now; t2 = c.args.t2.now; t3 = c.args.t3.now; t4 = c.args.t4.now; t5 = c.args.t5.now; t6 = c.args.t6.now; t7 = c.args.t7.now; t8 = c.args.t8.now; t9 = c.args.t9.now; t10 = c.args.t10.now; t15 = c.args.t15.now; t16 = c.args.t16.now; t17 = c.args.t17.now })) 8 4 _ _ (c.requires.0 8 (omega arith)) l.1 _ c.put_rows-9.ensures) in it)).0,
  ),
)

pub put_rows-requires-11 : goal.put_rows-requires-11
put_rows-requires-11 c = (
  omega arith,
  c.requires.0 10 (omega arith),
  omega (
    arith,
    c.requires.1,
    ((let it : ((length c.put_rows-10.new.out ≡ length c.args.out.now) × (put_content c.put_rows-10.new.out (rows_from c.args.c c.args.p 10) (bytes_of_all (row_cells c.args.c c.args.p ((record { t1 = c.args.t1.now; t2 = c.args.t2.now; t3 = c.args.t3.now; t4 = c.args.t4.now; t5 = c.args.t5.now; t6 = c.args.t6.now; t7 = c.args.t7.now; t8 = c.args.t8.now; t9 = c.args.t9.now; t10 = c.args.t10.now; t15 = c.args.t15.now; t16 = c.args.t16.now; t17 = c.args.t17.now })) 10 3)) ≡ put_content c.args.out.now (rows_from c.args.c c.args.p 0) (bytes_of_all (row_cells c.args.c c.args.p ((record { t1 = c.args.t1.now; t2 = c.args.t2.now; t3 = c.args.t3.now; t4 = c.args.t4.now; t5 = c.args.t5.now; t6 = c.args.t6.now; t7 = c.args.t7.now; t8 = c.args.t8.now; t9 = c.args.t9.now; t10 = c.args.t10.now; t15 = c.args.t15.now; t16 = c.args.t16.now; t17 = c.args.t17.now })) 0 13)))) = let l = (let it : ((length c.put_rows-9.new.out ≡ length c.args.out.now) × (put_content c.put_rows-9.new.out (rows_from c.args.c c.args.p 9) (bytes_of_all (row_cells c.args.c c.args.p ((record { t1 = c.args.t1.now; t2 = c.args.t2.now; t3 = c.args.t3.now; t4 = c.args.t4.now; t5 = c.args.t5.now; t6 = c.args.t6.now; t7 = c.args.t7.now; t8 = c.args.t8.now; t9 = c.args.t9.now; t10 = c.args.t10.now; t15 = c.args.t15.now; t16 = c.args.t16.now; t17 = c.args.t17.now })) 9 4)) ≡ put_content c.args.out.now (rows_from c.args.c c.args.p 0) (bytes_of_all (row_cells c.args.c c.args.p ((record { t1 = c.args.t1.now; t2 = c.args.t2.now; t3 = c.args.t3.now; t4 = c.args.t4.now; t5 = c.args.t5.now; t6 = c.args.t6.now; t7 = c.args.t7.now; t8 = c.args.t8.now; t9 = c.args.t9.now; t10 = c.args.t10.now; t15 = c.args.t15.now; t16 = c.args.t16.now; t17 = c.args.t17.now })) 0 13)))) = let l = (let it : ((length c.put_rows-8.new.out ≡ length c.args.out.now) × (put_content c.put_rows-8.new.out (rows_from c.args.c c.args.p 8) (bytes_of_all (row_cells c.args.c c.args.p ((record { t1 = c.args.t1.now; t2 = c.args.t2.now; t3 = c.args.t3.now; t4 = c.args.t4.now; t5 = c.args.t5.now; t6 = c.args.t6.now; t7 = c.args.t7.now; t8 = c.args.t8.now; t9 = c.args.t9.now; t10 = c.args.t10.now; t15 = c.args.t15.now; t16 = c.args.t16.now; t17 = c.args.t17.now })) 8 5)) ≡ put_content c.args.out.now (rows_from c.args.c c.args.p 0) (bytes_of_all (row_cells c.args.c c.args.p ((record { t1 = c.args.t1.now; t2 = c.args.t2.now; t3 = c.args.t3.now; t4 = c.args.t4.now; t5 = c.args.t5.now; t6 = c.args.t6.now; t7 = c.args.t7.now; t8 = c.args.t8.now; t9 = c.args.t9.now; t10 = c.args.t10.now; t15 = c.args.t15.now; t16 = c.args.t16.now; t17 = c.args.t17.now })) 0 13)))) = let l = (let it : ((length c.put_rows-7.new.out ≡ length c.args.out.now) × (put_content c.put_rows-7.new.out (rows_from c.args.c c.args.p 7) (bytes_of_all (row_cells c.args.c c.args.p ((record { t1 = c.args.t1.now; t2 = c.args.t2.now; t3 = c.args.t3.now; t4 = c.args.t4.now; t5 = c.args.t5.now; t6 = c.args.t6.now; t7 = c.args.t7.now; t8 = c.args.t8.now; t9 = c.args.t9.now; t10 = c.args.t10.now; t15 = c.args.t15.now; t16 = c.args.t16.now; t17 = c.args.t17.now })) 7 6)) ≡ put_content c.args.out.now (rows_from c.args.c c.args.p 0) (bytes_of_all (row_cells c.args.c c.args.p ((record { t1 = c.args.t1.now; t2 = c.args.t2.now; t3 = c.args.t3.now; t4 = c.args.t4.now; t5 = c.args.t5.now; t6 = c.args.t6.now; t7 = c.args.t7.now; t8 = c.args.t8.now; t9 = c.args.t9.now; t10 = c.args.t10.now; t15 = c.args.t15.now; t16 = c.args.t16.now; t17 = c.args.t17.now })) 0 13)))) = let l = (let it : ((length c.put_rows-6.new.out ≡ length c.args.out.now) × (put_content c.put_rows-6.new.out (rows_from c.args.c c.args.p 6) (bytes_of_all (row_cells c.args.c c.args.p ((record { t1 = c.args.t1.now; t2 = c.args.t2.now; t3 = c.args.t3.now; t4 = c.args.t4.now; t5 = c.args.t5.now; t6 = c.args.t6.now; t7 = c.args.t7.now; t8 = c.args.t8.now; t9 = c.args.t9.now; t10 = c.args.t10.now; t15 = c.args.t15.now; t16 = c.args.t16.now; t17 = c.args.t17.now })) 6 7)) ≡ put_content c.args.out.now (rows_from c.args.c c.args.p 0) (bytes_of_all (row_cells c.args.c c.args.p ((record { t1 = c.args.t1.now; t2 = c.args.t2.now; t3 = c.args.t3.now; t4 = c.args.t4.now; t5 = c.args.t5.now; t6 = c.args.t6.now; t7 = c.args.t7.now; t8 = c.args.t8.now; t9 = c.args.t9.now; t10 = c.args.t10.now; t15 = c.args.t15.now; t16 = c.args.t16.now; t17 = c.args.t17.now })) 0 13)))) = let l = (let it : ((length c.put_rows-5.new.out ≡ length c.args.out.now) × (put_content c.put_rows-5.new.out (rows_from c.args.c c.args.p 5) (bytes_of_all (row_cells c.args.c c.args.p ((record { t1 = c.args.t1.now; t2 = c.args.t2.now; t3 = c.args.t3.now; t4 = c.args.t4.now; t5 = c.args.t5.now; t6 = c.args.t6.now; t7 = c.args.t7.now; t8 = c.args.t8.now; t9 = c.args.t9.now; t10 = c.args.t10.now; t15 = c.args.t15.now; t16 = c.args.t16.now; t17 = c.args.t17.now })) 5 8)) ≡ put_content c.args.out.now (rows_from c.args.c c.args.p 0) (bytes_of_all (row_cells c.args.c c.args.p ((record { t1 = c.args.t1.now; t2 = c.args.t2.now; t3 = c.args.t3.now; t4 = c.args.t4.now; t5 = c.args.t5.now; t6 = c.args.t6.now; t7 = c.args.t7.now; t8 = c.args.t8.now; t9 = c.args.t9.now; t10 = c.args.t10.now; t15 = c.args.t15.now; t16 = c.args.t16.now; t17 = c.args.t17.now })) 0 13)))) = let l = (let it : ((length c.put_rows-4.new.out ≡ length c.args.out.now) × (put_content c.put_rows-4.new.out (rows_from c.args.c c.args.p 4) (bytes_of_all (row_cells c.args.c c.args.p ((record { t1 = c.args.t1.now; t2 = c.args.t2.now; t3 = c.args.t3.now; t4 = c.args.t4.now; t5 = c.args.t5.now; t6 = c.args.t6.now; t7 = c.args.t7.now; t8 = c.args.t8.now; t9 = c.args.t9.now; t10 = c.args.t10.now; t15 = c.args.t15.now; t16 = c.args.t16.now; t17 = c.args.t17.now })) 4 9)) ≡ put_content c.args.out.now (rows_from c.args.c c.args.p 0) (bytes_of_all (row_cells c.args.c c.args.p ((record { t1 = c.args.t1.now; t2 = c.args.t2.now; t3 = c.args.t3.now; t4 = c.args.t4.now; t5 = c.args.t5.now; t6 = c.args.t6.now; t7 = c.args.t7.now; t8 = c.args.t8.now; t9 = c.args.t9.now; t10 = c.args.t10.now; t15 = c.args.t15.now; t16 = c.args.t16.now; t17 = c.args.t17.now })) 0 13)))) = let l = (let it : ((length c.put_rows-3.new.out ≡ length c.args.out.now) × (put_content c.put_rows-3.new.out (rows_from c.args.c c.args.p 3) (bytes_of_all (row_cells c.args.c c.args.p ((record { t1 = c.args.t1.now; t2 = c.args.t2.now; t3 = c.args.t3.now; t4 = c.args.t4.now; t5 = c.args.t5.now; t6 = c.args.t6.now; t7 = c.args.t7.now; t8 = c.args.t8.now; t9 = c.args.t9.now; t10 = c.args.t10.now; t15 = c.args.t15.now; t16 = c.args.t16.now; t17 = c.args.t17.now })) 3 10)) ≡ put_content c.args.out.now (rows_from c.args.c c.args.p 0) (bytes_of_all (row_cells c.args.c c.args.p ((record { t1 = c.args.t1.now; t2 = c.args.t2.now; t3 = c.args.t3.now; t4 = c.args.t4.now; t5 = c.args.t5.now; t6 = c.args.t6.now; t7 = c.args.t7.now; t8 = c.args.t8.now; t9 = c.args.t9.now; t10 = c.args.t10.now; t15 = c.args.t15.now; t16 = c.args.t16.now; t17 = c.args.t17.now })) 0 13)))) = let l = (let it : ((length c.put_rows-2.new.out ≡ length c.args.out.now) × (put_content c.put_rows-2.new.out (rows_from c.args.c c.args.p 2) (bytes_of_all (row_cells c.args.c c.args.p ((record { t1 = c.args.t1.now; t2 = c.args.t2.now; t3 = c.args.t3.now; t4 = c.args.t4.now; t5 = c.args.t5.now; t6 = c.args.t6.now; t7 = c.args.t7.now; t8 = c.args.t8.now; t9 = c.args.t9.now; t10 = c.args.t10.now; t15 = c.args.t15.now; t16 = c.args.t16.now; t17 = c.args.t17.now })) 2 11)) ≡ put_content c.args.out.now (rows_from c.args.c c.args.p 0) (bytes_of_all (row_cells c.args.c c.args.p ((record { t1 = c.args.t1.now; t2 = c.args.t2.now; t3 = c.args.t3.now; t4 = c.args.t4.now; t5 = c.args.t5.now; t6 = c.args.t6.now; t7 = c.args.t7.now; t8 = c.args.t8.now; t9 = c.args.t9.now; t10 = c.args.t10.now; t15 = c.args.t15.now; t16 = c.args.t16.now; t17 = c.args.t17.now })) 0 13)))) = let l = (let it : ((length c.put_rows.new.out ≡ length c.args.out.now) × (put_content c.put_rows.new.out (rows_from c.args.c c.args.p 1) (bytes_of_all (row_cells c.args.c c.args.p ((record { t1 = c.args.t1.now; t2 = c.args.t2.now; t3 = c.args.t3.now; t4 = c.args.t4.now; t5 = c.args.t5.now; t6 = c.args.t6.now; t7 = c.args.t7.now; t8 = c.args.t8.now; t9 = c.args.t9.now; t10 = c.args.t10.now; t15 = c.args.t15.now; t16 = c.args.t16.now; t17 = c.args.t17.now })) 1 12)) ≡ put_content c.args.out.now (rows_from c.args.c c.args.p 0) (bytes_of_all (row_cells c.args.c c.args.p ((record { t1 = c.args.t1.now; t2 = c.args.t2.now; t3 = c.args.t3.now; t4 = c.args.t4.now; t5 = c.args.t5.now; t6 = c.args.t6.now; t7 = c.args.t7.now; t8 = c.args.t8.now; t9 = c.args.t9.now; t10 = c.args.t10.now; t15 = c.args.t15.now; t16 = c.args.t16.now; t17 = c.args.t17.now })) 0 13)))) = (c.put_rows.auto.out, rows_on c.args.c c.args.p ((record { t1 = c.args.t1.now; t2 = c.args.t2.now; t3 = c.args.t3.now; t4 = c.args.t4.now; t5 = c.args.t5.now; t6 = c.args.t6.now; t7 = c.args.t7.now; t8 = c.args.t8.now; t9 = c.args.t9.now; t10 = c.args.t10.now; t15 = c.args.t15.now; t16 = c.args.t16.now; t17 = c.args.t17.now })) 0 12 _ _ (c.requires.0 0 (omega arith)) refl _ c.put_rows.ensures) in it) in
        (c.put_rows-2.auto.out ∙ l.0, rows_on c.args.c c.args.p ((record { t1 = c.args.t1.now; t2 = c.args.t2.now; t3 = c.args.t3.now; t4 = c.args.t4.now; t5 = c.args.t5.now; t6 = c.args.t6.now; t7 = c.args.t7.now; t8 = c.args.t8.now; t9 = c.args.t9.now; t10 = c.args.t10.now; t15 = c.args.t15.now; t16 = c.args.t16.now; t17 = c.args.t17.now })) 1 11 _ _ (c.requires.0 1 (omega arith)) l.1 _ c.put_rows-2.ensures) in it) in
        (c.put_rows-3.auto.out ∙ l.0, rows_on c.args.c c.args.p ((record { t1 = c.args.t1.now; t2 = c.args.t2.now; t3 = c.args.t3.now; t4 = c.args.t4.now; t5 = c.args.t5.now; t6 = c.args.t6.now; t7 = c.args.t7.now; t8 = c.args.t8.now; t9 = c.args.t9.now; t10 = c.args.t10.now; t15 = c.args.t15.now; t16 = c.args.t16.now; t17 = c.args.t17.now })) 2 10 _ _ (c.requires.0 2 (omega arith)) l.1 _ c.put_rows-3.ensures) in it) in
        (c.put_rows-4.auto.out ∙ l.0, rows_on c.args.c c.args.p ((record { t1 = c.args.t1.now; t2 = c.args.t2.now; t3 = c.args.t3.now; t4 = c.args.t4.now; t5 = c.args.t5.now; t6 = c.args.t6.now; t7 = c.args.t7.now; t8 = c.args.t8.now; t9 = c.args.t9.now; t10 = c.args.t10.now; t15 = c.args.t15.now; t16 = c.args.t16.now; t17 = c.args.t17.now })) 3 9 _ _ (c.requires.0 3 (omega arith)) l.1 _ c.put_rows-4.ensures) in it) in
        (c.put_rows-5.auto.out ∙ l.0, rows_on c.args.c c.args.p ((record { t1 = c.args.t1.now; t2 = c.args.t2.now; t3 = c.args.t3.now; t4 = c.args.t4.now; t5 = c.args.t5.now; t6 = c.args.t6.now; t7 = c.args.t7.now; t8 = c.args.t8.now; t9 = c.args.t9.now; t10 = c.args.t10.now; t15 = c.args.t15.now; t16 = c.args.t16.now; t17 = c.args.t17.now })) 4 8 _ _ (c.requires.0 4 (omega arith)) l.1 _ c.put_rows-5.ensures) in it) in
        (c.put_rows-6.auto.out ∙ l.0, rows_on c.args.c c.args.p ((record { t1 = c.args.t1.now; t2 = c.args.t2.now; t3 = c.args.t3.now; t4 = c.args.t4.now; t5 = c.args.t5.now; t6 = c.args.t6.now; t7 = c.args.t7.now; t8 = c.args.t8.now; t9 = c.args.t9.now; t10 = c.args.t10.now; t15 = c.args.t15.now; t16 = c.args.t16.now; t17 = c.args.t17.now })) 5 7 _ _ (c.requires.0 5 (omega arith)) l.1 _ c.put_rows-6.ensures) in it) in
        (c.put_rows-7.auto.out ∙ l.0, rows_on c.args.c c.args.p ((record { t1 = c.args.t1.now; t2 = c.args.t2.now; t3 = c.args.t3.now; t4 = c.args.t4.now; t5 = c.args.t5.now; t6 = c.args.t6.now; t7 = c.args.t7.now; t8 = c.args.t8.now; t9 = c.args.t9.now; t10 = c.args.t10.now; t15 = c.args.t15.now; t16 = c.args.t16.now; t17 = c.args.t17.now })) 6 6 _ _ (c.requires.0 6 (omega arith)) l.1 _ c.put_rows-7.ensures) in it) in
        (c.put_rows-8.auto.out ∙ l.0, rows_on c.args.c c.args.p ((record { t1 = c.args.t1.now; t2 = c.args.t2.now; t3 = c.args.t3.now; t4 = c.args.t4.now; t5 = c.args.t5.now; t6 = c.args.t6.now; t7 = c.args.t7.now; t8 = c.args.t8.now; t9 = c.args.t9.now; t10 = c.args.t10.now; t15 = c.args.t15.now; t16 = c.args.t16.now; t17 = c.args.t17.now })) 7 5 _ _ (c.requires.0 7 (omega arith)) l.1 _ c.put_rows-8.ensures) in it) in
        (c.put_rows-9.auto.out ∙ l.0, rows_on c.args.c c.args.p ((record { t1 = c.args.t1.now; t2 = c.args.t2.now; t3 = c.args.t3.now; t4 = c.args.t4.now; t5 = c.args.t5.now; t6 = c.args.t6.now; t7 = c.args.t7.now; t8 = c.args.t8.now; t9 = c.args.t9.now; t10 = c.args.t10.now; t15 = c.args.t15.now; t16 = c.args.t16.now; t17 = c.args.t17.now })) 8 4 _ _ (c.requires.0 8 (omega arith)) l.1 _ c.put_rows-9.ensures) in it) in
        (c.put_rows-10.auto.out ∙ l.0, rows_on c.args.c c.args.p ((record { t1 = c.args.t1.now; t2 = c.args.t2.now; t3 = c.args.t3.now; t4 = c.args.t4.now; t5 = c.args.t5.now; t6 = c.args.t6.now; t7 = c.args.t7.now; t8 = c.args.t8.now; t9 = c.args.t9.now; t10 = c.args.t10.now; t15 = c.args.t15.now; t16 = c.args.t16.now; t17 = c.args.t17.now })) 9 3 _ _ (c.requires.0 9 (omega arith)) l.1 _ c.put_rows-10.ensures) in it)).0,
  ),
)

pub put_rows-requires-12 : goal.put_rows-requires-12
put_rows-requires-12 c = (
  omega arith,
  c.requires.0 11 (omega arith),
  omega (
    arith,
    c.requires.1,
    ((let it : ((length c.put_rows-11.new.out ≡ length c.args.out.now) × (put_content c.put_rows-11.new.out (rows_from c.args.c c.args.p 11) (bytes_of_all (row_cells c.args.c c.args.p ((record { t1 = c.args.t1.now; t2 = c.args.t2.now; t3 = c.args.t3.now; t4 = c.args.t4.now; t5 = c.args.t5.now; t6 = c.args.t6.now; t7 = c.args.t7.now; t8 = c.args.t8.now; t9 = c.args.t9.now; t10 = c.args.t10.now; t15 = c.args.t15.now; t16 = c.args.t16.now; t17 = c.args.t17.now })) 11 2)) ≡ put_content c.args.out.now (rows_from c.args.c c.args.p 0) (bytes_of_all (row_cells c.args.c c.args.p ((record { t1 = c.args.t1.now; t2 = c.args.t2.now; t3 = c.args.t3.now; t4 = c.args.t4.now; t5 = c.args.t5.now; t6 = c.args.t6.now; t7 = c.args.t7.now; t8 = c.args.t8.now; t9 = c.args.t9.now; t10 = c.args.t10.now; t15 = c.args.t15.now; t16 = c.args.t16.now; t17 = c.args.t17.now })) 0 13)))) = let l = (let it : ((length c.put_rows-10.new.out ≡ length c.args.out.now) × (put_content c.put_rows-10.new.out (rows_from c.args.c c.args.p 10) (bytes_of_all (row_cells c.args.c c.args.p ((record { t1 = c.args.t1.now; t2 = c.args.t2.now; t3 = c.args.t3.now; t4 = c.args.t4.now; t5 = c.args.t5.now; t6 = c.args.t6.now; t7 = c.args.t7.now; t8 = c.args.t8.now; t9 = c.args.t9.now; t10 = c.args.t10.now; t15 = c.args.t15.now; t16 = c.args.t16.now; t17 = c.args.t17.now })) 10 3)) ≡ put_content c.args.out.now (rows_from c.args.c c.args.p 0) (bytes_of_all (row_cells c.args.c c.args.p ((record { t1 = c.args.t1.now; t2 = c.args.t2.now; t3 = c.args.t3.now; t4 = c.args.t4.now; t5 = c.args.t5.now; t6 = c.args.t6.now; t7 = c.args.t7.now; t8 = c.args.t8.now; t9 = c.args.t9.now; t10 = c.args.t10.now; t15 = c.args.t15.now; t16 = c.args.t16.now; t17 = c.args.t17.now })) 0 13)))) = let l = (let it : ((length c.put_rows-9.new.out ≡ length c.args.out.now) × (put_content c.put_rows-9.new.out (rows_from c.args.c c.args.p 9) (bytes_of_all (row_cells c.args.c c.args.p ((record { t1 = c.args.t1.now; t2 = c.args.t2.now; t3 = c.args.t3.now; t4 = c.args.t4.now; t5 = c.args.t5.now; t6 = c.args.t6.now; t7 = c.args.t7.now; t8 = c.args.t8.now; t9 = c.args.t9.now; t10 = c.args.t10.now; t15 = c.args.t15.now; t16 = c.args.t16.now; t17 = c.args.t17.now })) 9 4)) ≡ put_content c.args.out.now (rows_from c.args.c c.args.p 0) (bytes_of_all (row_cells c.args.c c.args.p ((record { t1 = c.args.t1.now; t2 = c.args.t2.now; t3 = c.args.t3.now; t4 = c.args.t4.now; t5 = c.args.t5.now; t6 = c.args.t6.now; t7 = c.args.t7.now; t8 = c.args.t8.now; t9 = c.args.t9.now; t10 = c.args.t10.now; t15 = c.args.t15.now; t16 = c.args.t16.now; t17 = c.args.t17.now })) 0 13)))) = let l = (let it : ((length c.put_rows-8.new.out ≡ length c.args.out.now) × (put_content c.put_rows-8.new.out (rows_from c.args.c c.args.p 8) (bytes_of_all (row_cells c.args.c c.args.p ((record { t1 = c.args.t1.now; t2 = c.args.t2.now; t3 = c.args.t3.now; t4 = c.args.t4.now; t5 = c.args.t5.now; t6 = c.args.t6.now; t7 = c.args.t7.now; t8 = c.args.t8.now; t9 = c.args.t9.now; t10 = c.args.t10.now; t15 = c.args.t15.now; t16 = c.args.t16.now; t17 = c.args.t17.now })) 8 5)) ≡ put_content c.args.out.now (rows_from c.args.c c.args.p 0) (bytes_of_all (row_cells c.args.c c.args.p ((record { t1 = c.args.t1.now; t2 = c.args.t2.now; t3 = c.args.t3.now; t4 = c.args.t4.now; t5 = c.args.t5.now; t6 = c.args.t6.now; t7 = c.args.t7.now; t8 = c.args.t8.now; t9 = c.args.t9.now; t10 = c.args.t10.now; t15 = c.args.t15.now; t16 = c.args.t16.now; t17 = c.args.t17.now })) 0 13)))) = let l = (let it : ((length c.put_rows-7.new.out ≡ length c.args.out.now) × (put_content c.put_rows-7.new.out (rows_from c.args.c c.args.p 7) (bytes_of_all (row_cells c.args.c c.args.p ((record { t1 = c.args.t1.now; t2 = c.args.t2.now; t3 = c.args.t3.now; t4 = c.args.t4.now; t5 = c.args.t5.now; t6 = c.args.t6.now; t7 = c.args.t7.now; t8 = c.args.t8.now; t9 = c.args.t9.now; t10 = c.args.t10.now; t15 = c.args.t15.now; t16 = c.args.t16.now; t17 = c.args.t17.now })) 7 6)) ≡ put_content c.args.out.now (rows_from c.args.c c.args.p 0) (bytes_of_all (row_cells c.args.c c.args.p ((record { t1 = c.args.t1.now; t2 = c.args.t2.now; t3 = c.args.t3.now; t4 = c.args.t4.now; t5 = c.args.t5.now; t6 = c.args.t6.now; t7 = c.args.t7.now; t8 = c.args.t8.now; t9 = c.args.t9.now; t10 = c.args.t10.now; t15 = c.args.t15.now; t16 = c.args.t16.now; t17 = c.args.t17.now })) 0 13)))) = let l = (let it : ((length c.put_rows-6.new.out ≡ length c.args.out.now) × (put_content c.put_rows-6.new.out (rows_from c.args.c c.args.p 6) (bytes_of_all (row_cells c.args.c c.args.p ((record { t1 = c.args.t1.now; t2 = c.args.t2.now; t3 = c.args.t3.now; t4 = c.args.t4.now; t5 = c.args.t5.now; t6 = c.args.t6.now; t7 = c.args.t7.now; t8 = c.args.t8.now; t9 = c.args.t9.now; t10 = c.args.t10.now; t15 = c.args.t15.now; t16 = c.args.t16.now; t17 = c.args.t17.now })) 6 7)) ≡ put_content c.args.out.now (rows_from c.args.c c.args.p 0) (bytes_of_all (row_cells c.args.c c.args.p ((record { t1 = c.args.t1.now; t2 = c.args.t2.now; t3 = c.args.t3.now; t4 = c.args.t4.now; t5 = c.args.t5.now; t6 = c.args.t6.now; t7 = c.args.t7.now; t8 = c.args.t8.now; t9 = c.args.t9.now; t10 = c.args.t10.now; t15 = c.args.t15.now; t16 = c.args.t16.now; t17 = c.args.t17.now })) 0 13)))) = let l = (let it : ((length c.put_rows-5.new.out ≡ length c.args.out.now) × (put_content c.put_rows-5.new.out (rows_from c.args.c c.args.p 5) (bytes_of_all (row_cells c.args.c c.args.p ((record { t1 = c.args.t1.now; t2 = c.args.t2.now; t3 = c.args.t3.now; t4 = c.args.t4.now; t5 = c.args.t5.now; t6 = c.args.t6.now; t7 = c.args.t7.now; t8 = c.args.t8.now; t9 = c.args.t9.now; t10 = c.args.t10.now; t15 = c.args.t15.now; t16 = c.args.t16.now; t17 = c.args.t17.now })) 5 8)) ≡ put_content c.args.out.now (rows_from c.args.c c.args.p 0) (bytes_of_all (row_cells c.args.c c.args.p ((record { t1 = c.args.t1.now; t2 = c.args.t2.now; t3 = c.args.t3.now; t4 = c.args.t4.now; t5 = c.args.t5.now; t6 = c.args.t6.now; t7 = c.args.t7.now; t8 = c.args.t8.now; t9 = c.args.t9.now; t10 = c.args.t10.now; t15 = c.args.t15.now; t16 = c.args.t16.now; t17 = c.args.t17.now })) 0 13)))) = let l = (let it : ((length c.put_rows-4.new.out ≡ length c.args.out.now) × (put_content c.put_rows-4.new.out (rows_from c.args.c c.args.p 4) (bytes_of_all (row_cells c.args.c c.args.p ((record { t1 = c.args.t1.now; t2 = c.args.t2.now; t3 = c.args.t3.now; t4 = c.args.t4.now; t5 = c.args.t5.now; t6 = c.args.t6.now; t7 = c.args.t7.now; t8 = c.args.t8.now; t9 = c.args.t9.now; t10 = c.args.t10.now; t15 = c.args.t15.now; t16 = c.args.t16.now; t17 = c.args.t17.now })) 4 9)) ≡ put_content c.args.out.now (rows_from c.args.c c.args.p 0) (bytes_of_all (row_cells c.args.c c.args.p ((record { t1 = c.args.t1.now; t2 = c.args.t2.now; t3 = c.args.t3.now; t4 = c.args.t4.now; t5 = c.args.t5.now; t6 = c.args.t6.now; t7 = c.args.t7.now; t8 = c.args.t8.now; t9 = c.args.t9.now; t10 = c.args.t10.now; t15 = c.args.t15.now; t16 = c.args.t16.now; t17 = c.args.t17.now })) 0 13)))) = let l = (let it : ((length c.put_rows-3.new.out ≡ length c.args.out.now) × (put_content c.put_rows-3.new.out (rows_from c.args.c c.args.p 3) (bytes_of_all (row_cells c.args.c c.args.p ((record { t1 = c.args.t1.now; t2 = c.args.t2.now; t3 = c.args.t3.now; t4 = c.args.t4.now; t5 = c.args.t5.now; t6 = c.args.t6.now; t7 = c.args.t7.now; t8 = c.args.t8.now; t9 = c.args.t9.now; t10 = c.args.t10.now; t15 = c.args.t15.now; t16 = c.args.t16.now; t17 = c.args.t17.now })) 3 10)) ≡ put_content c.args.out.now (rows_from c.args.c c.args.p 0) (bytes_of_all (row_cells c.args.c c.args.p ((record { t1 = c.args.t1.now; t2 = c.args.t2.now; t3 = c.args.t3.now; t4 = c.args.t4.now; t5 = c.args.t5.now; t6 = c.args.t6.now; t7 = c.args.t7.now; t8 = c.args.t8.now; t9 = c.args.t9.now; t10 = c.args.t10.now; t15 = c.args.t15.now; t16 = c.args.t16.now; t17 = c.args.t17.now })) 0 13)))) = let l = (let it : ((length c.put_rows-2.new.out ≡ length c.args.out.now) × (put_content c.put_rows-2.new.out (rows_from c.args.c c.args.p 2) (bytes_of_all (row_cells c.args.c c.args.p ((record { t1 = c.args.t1.now; t2 = c.args.t2.now; t3 = c.args.t3.now; t4 = c.args.t4.now; t5 = c.args.t5.now; t6 = c.args.t6.now; t7 = c.args.t7.now; t8 = c.args.t8.now; t9 = c.args.t9.now; t10 = c.args.t10.now; t15 = c.args.t15.now; t16 = c.args.t16.now; t17 = c.args.t17.now })) 2 11)) ≡ put_content c.args.out.now (rows_from c.args.c c.args.p 0) (bytes_of_all (row_cells c.args.c c.args.p ((record { t1 = c.args.t1.now; t2 = c.args.t2.now; t3 = c.args.t3.now; t4 = c.args.t4.now; t5 = c.args.t5.now; t6 = c.args.t6.now; t7 = c.args.t7.now; t8 = c.args.t8.now; t9 = c.args.t9.now; t10 = c.args.t10.now; t15 = c.args.t15.now; t16 = c.args.t16.now; t17 = c.args.t17.now })) 0 13)))) = let l = (let it : ((length c.put_rows.new.out ≡ length c.args.out.now) × (put_content c.put_rows.new.out (rows_from c.args.c c.args.p 1) (bytes_of_all (row_cells c.args.c c.args.p ((record { t1 = c.args.t1.now; t2 = c.args.t2.now; t3 = c.args.t3.now; t4 = c.args.t4.now; t5 = c.args.t5.now; t6 = c.args.t6.now; t7 = c.args.t7.now; t8 = c.args.t8.now; t9 = c.args.t9.now; t10 = c.args.t10.now; t15 = c.args.t15.now; t16 = c.args.t16.now; t17 = c.args.t17.now })) 1 12)) ≡ put_content c.args.out.now (rows_from c.args.c c.args.p 0) (bytes_of_all (row_cells c.args.c c.args.p ((record { t1 = c.args.t1.now; t2 = c.args.t2.now; t3 = c.args.t3.now; t4 = c.args.t4.now; t5 = c.args.t5.now; t6 = c.args.t6.now; t7 = c.args.t7.now; t8 = c.args.t8.now; t9 = c.args.t9.now; t10 = c.args.t10.now; t15 = c.args.t15.now; t16 = c.args.t16.now; t17 = c.args.t17.now })) 0 13)))) = (c.put_rows.auto.out, rows_on c.args.c c.args.p ((record { t1 = c.args.t1.now; t2 = c.args.t2.now; t3 = c.args.t3.now; t4 = c.args.t4.now; t5 = c.args.t5.now; t6 = c.args.t6.now; t7 = c.args.t7.now; t8 = c.args.t8.now; t9 = c.args.t9.now; t10 = c.args.t10.now; t15 = c.args.t15.now; t16 = c.args.t16.now; t17 = c.args.t17.now })) 0 12 _ _ (c.requires.0 0 (omega arith)) refl _ c.put_rows.ensures) in it) in
        (c.put_rows-2.auto.out ∙ l.0, rows_on c.args.c c.args.p ((record { t1 = c.args.t1.now; t2 = c.args.t2.now; t3 = c.args.t3.now; t4 = c.args.t4.now; t5 = c.args.t5.now; t6 = c.args.t6.now; t7 = c.args.t7.now; t8 = c.args.t8.now; t9 = c.args.t9.now; t10 = c.args.t10.now; t15 = c.args.t15.now; t16 = c.args.t16.now; t17 = c.args.t17.now })) 1 11 _ _ (c.requires.0 1 (omega arith)) l.1 _ c.put_rows-2.ensures) in it) in
        (c.put_rows-3.auto.out ∙ l.0, rows_on c.args.c c.args.p ((record { t1 = c.args.t1.now; t2 = c.args.t2.now; t3 = c.args.t3.now; t4 = c.args.t4.now; t5 = c.args.t5.now; t6 = c.args.t6.now; t7 = c.args.t7.now; t8 = c.args.t8.now; t9 = c.args.t9.now; t10 = c.args.t10.now; t15 = c.args.t15.now; t16 = c.args.t16.now; t17 = c.args.t17.now })) 2 10 _ _ (c.requires.0 2 (omega arith)) l.1 _ c.put_rows-3.ensures) in it) in
        (c.put_rows-4.auto.out ∙ l.0, rows_on c.args.c c.args.p ((record { t1 = c.args.t1.now; t2 = c.args.t2.now; t3 = c.args.t3.now; t4 = c.args.t4.now; t5 = c.args.t5.now; t6 = c.args.t6.now; t7 = c.args.t7.now; t8 = c.args.t8.now; t9 = c.args.t9.now; t10 = c.args.t10.now; t15 = c.args.t15.now; t16 = c.args.t16.now; t17 = c.args.t17.now })) 3 9 _ _ (c.requires.0 3 (omega arith)) l.1 _ c.put_rows-4.ensures) in it) in
        (c.put_rows-5.auto.out ∙ l.0, rows_on c.args.c c.args.p ((record { t1 = c.args.t1.now; t2 = c.args.t2.now; t3 = c.args.t3.now; t4 = c.args.t4.now; t5 = c.args.t5.now; t6 = c.args.t6.now; t7 = c.args.t7.now; t8 = c.args.t8.now; t9 = c.args.t9.now; t10 = c.args.t10.now; t15 = c.args.t15.now; t16 = c.args.t16.now; t17 = c.args.t17.now })) 4 8 _ _ (c.requires.0 4 (omega arith)) l.1 _ c.put_rows-5.ensures) in it) in
        (c.put_rows-6.auto.out ∙ l.0, rows_on c.args.c c.args.p ((record { t1 = c.args.t1.now; t2 = c.args.t2.now; t3 = c.args.t3.now; t4 = c.args.t4.now; t5 = c.args.t5.now; t6 = c.args.t6.now; t7 = c.args.t7.now; t8 = c.args.t8.now; t9 = c.args.t9.now; t10 = c.args.t10.now; t15 = c.args.t15.now; t16 = c.args.t16.now; t17 = c.args.t17.now })) 5 7 _ _ (c.requires.0 5 (omega arith)) l.1 _ c.put_rows-6.ensures) in it) in
        (c.put_rows-7.auto.out ∙ l.0, rows_on c.args.c c.args.p ((record { t1 = c.args.t1.now; t2 = c.args.t2.now; t3 = c.args.t3.now; t4 = c.args.t4.now; t5 = c.args.t5.now; t6 = c.args.t6.now; t7 = c.args.t7.now; t8 = c.args.t8.now; t9 = c.args.t9.now; t10 = c.args.t10.now; t15 = c.args.t15.now; t16 = c.args.t16.now; t17 = c.args.t17.now })) 6 6 _ _ (c.requires.0 6 (omega arith)) l.1 _ c.put_rows-7.ensures) in it) in
        (c.put_rows-8.auto.out ∙ l.0, rows_on c.args.c c.args.p ((record { t1 = c.args.t1.now; t2 = c.args.t2.now; t3 = c.args.t3.now; t4 = c.args.t4.now; t5 = c.args.t5.now; t6 = c.args.t6.now; t7 = c.args.t7.now; t8 = c.args.t8.now; t9 = c.args.t9.now; t10 = c.args.t10.now; t15 = c.args.t15.now; t16 = c.args.t16.now; t17 = c.args.t17.now })) 7 5 _ _ (c.requires.0 7 (omega arith)) l.1 _ c.put_rows-8.ensures) in it) in
        (c.put_rows-9.auto.out ∙ l.0, rows_on c.args.c c.args.p ((record { t1 = c.args.t1.now; t2 = c.args.t2.now; t3 = c.args.t3.now; t4 = c.args.t4.now; t5 = c.args.t5.now; t6 = c.args.t6.now; t7 = c.args.t7.now; t8 = c.args.t8.now; t9 = c.args.t9.now; t10 = c.args.t10.now; t15 = c.args.t15.now; t16 = c.args.t16.now; t17 = c.args.t17.now })) 8 4 _ _ (c.requires.0 8 (omega arith)) l.1 _ c.put_rows-9.ensures) in it) in
        (c.put_rows-10.auto.out ∙ l.0, rows_on c.args.c c.args.p ((record { t1 = c.args.t1.now; t2 = c.args.t2.now; t3 = c.args.t3.now; t4 = c.args.t4.now; t5 = c.args.t5.now; t6 = c.args.t6.now; t7 = c.args.t7.now; t8 = c.args.t8.now; t9 = c.args.t9.now; t10 = c.args.t10.now; t15 = c.args.t15.now; t16 = c.args.t16.now; t17 = c.args.t17.now })) 9 3 _ _ (c.requires.0 9 (omega arith)) l.1 _ c.put_rows-10.ensures) in it) in
        (c.put_rows-11.auto.out ∙ l.0, rows_on c.args.c c.args.p ((record { t1 = c.args.t1.now; t2 = c.args.t2.now; t3 = c.args.t3.now; t4 = c.args.t4.now; t5 = c.args.t5.now; t6 = c.args.t6.now; t7 = c.args.t7.now; t8 = c.args.t8.now; t9 = c.args.t9.now; t10 = c.args.t10.now; t15 = c.args.t15.now; t16 = c.args.t16.now; t17 = c.args.t17.now })) 10 2 _ _ (c.requires.0 10 (omega arith)) l.1 _ c.put_rows-11.ensures) in it)).0,
  ),
)

pub put_rows-requires-13 : goal.put_rows-requires-13
put_rows-requires-13 c = (
  omega arith,
  c.requires.0 12 (omega arith),
  omega (
    arith,
    c.requires.1,
    ((let it : ((length c.put_rows-12.new.out ≡ length c.args.out.now) × (put_content c.put_rows-12.new.out (rows_from c.args.c c.args.p 12) (bytes_of_all (row_cells c.args.c c.args.p ((record { t1 = c.args.t1.now; t2 = c.args.t2.now; t3 = c.args.t3.now; t4 = c.args.t4.now; t5 = c.args.t5.now; t6 = c.args.t6.now; t7 = c.args.t7.now; t8 = c.args.t8.now; t9 = c.args.t9.now; t10 = c.args.t10.now; t15 = c.args.t15.now; t16 = c.args.t16.now; t17 = c.args.t17.now })) 12 1)) ≡ put_content c.args.out.now (rows_from c.args.c c.args.p 0) (bytes_of_all (row_cells c.args.c c.args.p ((record { t1 = c.args.t1.now; t2 = c.args.t2.now; t3 = c.args.t3.now; t4 = c.args.t4.now; t5 = c.args.t5.now; t6 = c.args.t6.now; t7 = c.args.t7.now; t8 = c.args.t8.now; t9 = c.args.t9.now; t10 = c.args.t10.now; t15 = c.args.t15.now; t16 = c.args.t16.now; t17 = c.args.t17.now })) 0 13)))) = let l = (let it : ((length c.put_rows-11.new.out ≡ length c.args.out.now) × (put_content c.put_rows-11.new.out (rows_from c.args.c c.args.p 11) (bytes_of_all (row_cells c.args.c c.args.p ((record { t1 = c.args.t1.now; t2 = c.args.t2.now; t3 = c.args.t3.now; t4 = c.args.t4.now; t5 = c.args.t5.now; t6 = c.args.t6.now; t7 = c.args.t7.now; t8 = c.args.t8.now; t9 = c.args.t9.now; t10 = c.args.t10.now; t15 = c.args.t15.now; t16 = c.args.t16.now; t17 = c.args.t17.now })) 11 2)) ≡ put_content c.args.out.now (rows_from c.args.c c.args.p 0) (bytes_of_all (row_cells c.args.c c.args.p ((record { t1 = c.args.t1.now; t2 = c.args.t2.now; t3 = c.args.t3.now; t4 = c.args.t4.now; t5 = c.args.t5.now; t6 = c.args.t6.now; t7 = c.args.t7.now; t8 = c.args.t8.now; t9 = c.args.t9.now; t10 = c.args.t10.now; t15 = c.args.t15.now; t16 = c.args.t16.now; t17 = c.args.t17.now })) 0 13)))) = let l = (let it : ((length c.put_rows-10.new.out ≡ length c.args.out.now) × (put_content c.put_rows-10.new.out (rows_from c.args.c c.args.p 10) (bytes_of_all (row_cells c.args.c c.args.p ((record { t1 = c.args.t1.now; t2 = c.args.t2.now; t3 = c.args.t3.now; t4 = c.args.t4.now; t5 = c.args.t5.now; t6 = c.args.t6.now; t7 = c.args.t7.now; t8 = c.args.t8.now; t9 = c.args.t9.now; t10 = c.args.t10.now; t15 = c.args.t15.now; t16 = c.args.t16.now; t17 = c.args.t17.now })) 10 3)) ≡ put_content c.args.out.now (rows_from c.args.c c.args.p 0) (bytes_of_all (row_cells c.args.c c.args.p ((record { t1 = c.args.t1.now; t2 = c.args.t2.now; t3 = c.args.t3.now; t4 = c.args.t4.now; t5 = c.args.t5.now; t6 = c.args.t6.now; t7 = c.args.t7.now; t8 = c.args.t8.now; t9 = c.args.t9.now; t10 = c.args.t10.now; t15 = c.args.t15.now; t16 = c.args.t16.now; t17 = c.args.t17.now })) 0 13)))) = let l = (let it : ((length c.put_rows-9.new.out ≡ length c.args.out.now) × (put_content c.put_rows-9.new.out (rows_from c.args.c c.args.p 9) (bytes_of_all (row_cells c.args.c c.args.p ((record { t1 = c.args.t1.now; t2 = c.args.t2.now; t3 = c.args.t3.now; t4 = c.args.t4.now; t5 = c.args.t5.now; t6 = c.args.t6.now; t7 = c.args.t7.now; t8 = c.args.t8.now; t9 = c.args.t9.now; t10 = c.args.t10.now; t15 = c.args.t15.now; t16 = c.args.t16.now; t17 = c.args.t17.now })) 9 4)) ≡ put_content c.args.out.now (rows_from c.args.c c.args.p 0) (bytes_of_all (row_cells c.args.c c.args.p ((record { t1 = c.args.t1.now; t2 = c.args.t2.now; t3 = c.args.t3.now; t4 = c.args.t4.now; t5 = c.args.t5.now; t6 = c.args.t6.now; t7 = c.args.t7.now; t8 = c.args.t8.now; t9 = c.args.t9.now; t10 = c.args.t10.now; t15 = c.args.t15.now; t16 = c.args.t16.now; t17 = c.args.t17.now })) 0 13)))) = let l = (let it : ((length c.put_rows-8.new.out ≡ length c.args.out.now) × (put_content c.put_rows-8.new.out (rows_from c.args.c c.args.p 8) (bytes_of_all (row_cells c.args.c c.args.p ((record { t1 = c.args.t1.now; t2 = c.args.t2.now; t3 = c.args.t3.now; t4 = c.args.t4.now; t5 = c.args.t5.now; t6 = c.args.t6.now; t7 = c.args.t7.now; t8 = c.args.t8.now; t9 = c.args.t9.now; t10 = c.args.t10.now; t15 = c.args.t15.now; t16 = c.args.t16.now; t17 = c.args.t17.now })) 8 5)) ≡ put_content c.args.out.now (rows_from c.args.c c.args.p 0) (bytes_of_all (row_cells c.args.c c.args.p ((record { t1 = c.args.t1.now; t2 = c.args.t2.now; t3 = c.args.t3.now; t4 = c.args.t4.now; t5 = c.args.t5.now; t6 = c.args.t6.now; t7 = c.args.t7.now; t8 = c.args.t8.now; t9 = c.args.t9.now; t10 = c.args.t10.now; t15 = c.args.t15.now; t16 = c.args.t16.now; t17 = c.args.t17.now })) 0 13)))) = let l = (let it : ((length c.put_rows-7.new.out ≡ length c.args.out.now) × (put_content c.put_rows-7.new.out (rows_from c.args.c c.args.p 7) (bytes_of_all (row_cells c.args.c c.args.p ((record { t1 = c.args.t1.now; t2 = c.args.t2.now; t3 = c.args.t3.now; t4 = c.args.t4.now; t5 = c.args.t5.now; t6 = c.args.t6.now; t7 = c.args.t7.now; t8 = c.args.t8.now; t9 = c.args.t9.now; t10 = c.args.t10.now; t15 = c.args.t15.now; t16 = c.args.t16.now; t17 = c.args.t17.now })) 7 6)) ≡ put_content c.args.out.now (rows_from c.args.c c.args.p 0) (bytes_of_all (row_cells c.args.c c.args.p ((record { t1 = c.args.t1.now; t2 = c.args.t2.now; t3 = c.args.t3.now; t4 = c.args.t4.now; t5 = c.args.t5.now; t6 = c.args.t6.now; t7 = c.args.t7.now; t8 = c.args.t8.now; t9 = c.args.t9.now; t10 = c.args.t10.now; t15 = c.args.t15.now; t16 = c.args.t16.now; t17 = c.args.t17.now })) 0 13)))) = let l = (let it : ((length c.put_rows-6.new.out ≡ length c.args.out.now) × (put_content c.put_rows-6.new.out (rows_from c.args.c c.args.p 6) (bytes_of_all (row_cells c.args.c c.args.p ((record { t1 = c.args.t1.now; t2 = c.args.t2.now; t3 = c.args.t3.now; t4 = c.args.t4.now; t5 = c.args.t5.now; t6 = c.args.t6.now; t7 = c.args.t7.now; t8 = c.args.t8.now; t9 = c.args.t9.now; t10 = c.args.t10.now; t15 = c.args.t15.now; t16 = c.args.t16.now; t17 = c.args.t17.now })) 6 7)) ≡ put_content c.args.out.now (rows_from c.args.c c.args.p 0) (bytes_of_all (row_cells c.args.c c.args.p ((record { t1 = c.args.t1.now; t2 = c.args.t2.now; t3 = c.args.t3.now; t4 = c.args.t4.now; t5 = c.args.t5.now; t6 = c.args.t6.now; t7 = c.args.t7.now; t8 = c.args.t8.now; t9 = c.args.t9.now; t10 = c.args.t10.now; t15 = c.args.t15.now; t16 = c.args.t16.now; t17 = c.args.t17.now })) 0 13)))) = let l = (let it : ((length c.put_rows-5.new.out ≡ length c.args.out.now) × (put_content c.put_rows-5.new.out (rows_from c.args.c c.args.p 5) (bytes_of_all (row_cells c.args.c c.args.p ((record { t1 = c.args.t1.now; t2 = c.args.t2.now; t3 = c.args.t3.now; t4 = c.args.t4.now; t5 = c.args.t5.now; t6 = c.args.t6.now; t7 = c.args.t7.now; t8 = c.args.t8.now; t9 = c.args.t9.now; t10 = c.args.t10.now; t15 = c.args.t15.now; t16 = c.args.t16.now; t17 = c.args.t17.now })) 5 8)) ≡ put_content c.args.out.now (rows_from c.args.c c.args.p 0) (bytes_of_all (row_cells c.args.c c.args.p ((record { t1 = c.args.t1.now; t2 = c.args.t2.now; t3 = c.args.t3.now; t4 = c.args.t4.now; t5 = c.args.t5.now; t6 = c.args.t6.now; t7 = c.args.t7.now; t8 = c.args.t8.now; t9 = c.args.t9.now; t10 = c.args.t10.now; t15 = c.args.t15.now; t16 = c.args.t16.now; t17 = c.args.t17.now })) 0 13)))) = let l = (let it : ((length c.put_rows-4.new.out ≡ length c.args.out.now) × (put_content c.put_rows-4.new.out (rows_from c.args.c c.args.p 4) (bytes_of_all (row_cells c.args.c c.args.p ((record { t1 = c.args.t1.now; t2 = c.args.t2.now; t3 = c.args.t3.now; t4 = c.args.t4.now; t5 = c.args.t5.now; t6 = c.args.t6.now; t7 = c.args.t7.now; t8 = c.args.t8.now; t9 = c.args.t9.now; t10 = c.args.t10.now; t15 = c.args.t15.now; t16 = c.args.t16.now; t17 = c.args.t17.now })) 4 9)) ≡ put_content c.args.out.now (rows_from c.args.c c.args.p 0) (bytes_of_all (row_cells c.args.c c.args.p ((record { t1 = c.args.t1.now; t2 = c.args.t2.now; t3 = c.args.t3.now; t4 = c.args.t4.now; t5 = c.args.t5.now; t6 = c.args.t6.now; t7 = c.args.t7.now; t8 = c.args.t8.now; t9 = c.args.t9.now; t10 = c.args.t10.now; t15 = c.args.t15.now; t16 = c.args.t16.now; t17 = c.args.t17.now })) 0 13)))) = let l = (let it : ((length c.put_rows-3.new.out ≡ length c.args.out.now) × (put_content c.put_rows-3.new.out (rows_from c.args.c c.args.p 3) (bytes_of_all (row_cells c.args.c c.args.p ((record { t1 = c.args.t1.now; t2 = c.args.t2.now; t3 = c.args.t3.now; t4 = c.args.t4.now; t5 = c.args.t5.now; t6 = c.args.t6.now; t7 = c.args.t7.now; t8 = c.args.t8.now; t9 = c.args.t9.now; t10 = c.args.t10.now; t15 = c.args.t15.now; t16 = c.args.t16.now; t17 = c.args.t17.now })) 3 10)) ≡ put_content c.args.out.now (rows_from c.args.c c.args.p 0) (bytes_of_all (row_cells c.args.c c.args.p ((record { t1 = c.args.t1.now; t2 = c.args.t2.now; t3 = c.args.t3.now; t4 = c.args.t4.now; t5 = c.args.t5.now; t6 = c.args.t6.now; t7 = c.args.t7.now; t8 = c.args.t8.now; t9 = c.args.t9.now; t10 = c.args.t10.now; t15 = c.args.t15.now; t16 = c.args.t16.now; t17 = c.args.t17.now })) 0 13)))) = let l = (let it : ((length c.put_rows-2.new.out ≡ length c.args.out.now) × (put_content c.put_rows-2.new.out (rows_from c.args.c c.args.p 2) (bytes_of_all (row_cells c.args.c c.args.p ((record { t1 = c.args.t1.now; t2 = c.args.t2.now; t3 = c.args.t3.now; t4 = c.args.t4.now; t5 = c.args.t5.now; t6 = c.args.t6.now; t7 = c.args.t7.now; t8 = c.args.t8.now; t9 = c.args.t9.now; t10 = c.args.t10.now; t15 = c.args.t15.now; t16 = c.args.t16.now; t17 = c.args.t17.now })) 2 11)) ≡ put_content c.args.out.now (rows_from c.args.c c.args.p 0) (bytes_of_all (row_cells c.args.c c.args.p ((record { t1 = c.args.t1.now; t2 = c.args.t2.now; t3 = c.args.t3.now; t4 = c.args.t4.now; t5 = c.args.t5.now; t6 = c.args.t6.now; t7 = c.args.t7.now; t8 = c.args.t8.now; t9 = c.args.t9.now; t10 = c.args.t10.now; t15 = c.args.t15.now; t16 = c.args.t16.now; t17 = c.args.t17.now })) 0 13)))) = let l = (let it : ((length c.put_rows.new.out ≡ length c.args.out.now) × (put_content c.put_rows.new.out (rows_from c.args.c c.args.p 1) (bytes_of_all (row_cells c.args.c c.args.p ((record { t1 = c.args.t1.now; t2 = c.args.t2.now; t3 = c.args.t3.now; t4 = c.args.t4.now; t5 = c.args.t5.now; t6 = c.args.t6.now; t7 = c.args.t7.now; t8 = c.args.t8.now; t9 = c.args.t9.now; t10 = c.args.t10.now; t15 = c.args.t15.now; t16 = c.args.t16.now; t17 = c.args.t17.now })) 1 12)) ≡ put_content c.args.out.now (rows_from c.args.c c.args.p 0) (bytes_of_all (row_cells c.args.c c.args.p ((record { t1 = c.args.t1.now; t2 = c.args.t2.now; t3 = c.args.t3.now; t4 = c.args.t4.now; t5 = c.args.t5.now; t6 = c.args.t6.now; t7 = c.args.t7.now; t8 = c.args.t8.now; t9 = c.args.t9.now; t10 = c.args.t10.now; t15 = c.args.t15.now; t16 = c.args.t16.now; t17 = c.args.t17.now })) 0 13)))) = (c.put_rows.auto.out, rows_on c.args.c c.args.p ((record { t1 = c.args.t1.now; t2 = c.args.t2.now; t3 = c.args.t3.now; t4 = c.args.t4.now; t5 = c.args.t5.now; t6 = c.args.t6.now; t7 = c.args.t7.now; t8 = c.args.t8.now; t9 = c.args.t9.now; t10 = c.args.t10.now; t15 = c.args.t15.now; t16 = c.args.t16.now; t17 = c.args.t17.now })) 0 12 _ _ (c.requires.0 0 (omega arith)) refl _ c.put_rows.ensures) in it) in
        (c.put_rows-2.auto.out ∙ l.0, rows_on c.args.c c.args.p ((record { t1 = c.args.t1.now; t2 = c.args.t2.now; t3 = c.args.t3.now; t4 = c.args.t4.now; t5 = c.args.t5.now; t6 = c.args.t6.now; t7 = c.args.t7.now; t8 = c.args.t8.now; t9 = c.args.t9.now; t10 = c.args.t10.now; t15 = c.args.t15.now; t16 = c.args.t16.now; t17 = c.args.t17.now })) 1 11 _ _ (c.requires.0 1 (omega arith)) l.1 _ c.put_rows-2.ensures) in it) in
        (c.put_rows-3.auto.out ∙ l.0, rows_on c.args.c c.args.p ((record { t1 = c.args.t1.now; t2 = c.args.t2.now; t3 = c.args.t3.now; t4 = c.args.t4.now; t5 = c.args.t5.now; t6 = c.args.t6.now; t7 = c.args.t7.now; t8 = c.args.t8.now; t9 = c.args.t9.now; t10 = c.args.t10.now; t15 = c.args.t15.now; t16 = c.args.t16.now; t17 = c.args.t17.now })) 2 10 _ _ (c.requires.0 2 (omega arith)) l.1 _ c.put_rows-3.ensures) in it) in
        (c.put_rows-4.auto.out ∙ l.0, rows_on c.args.c c.args.p ((record { t1 = c.args.t1.now; t2 = c.args.t2.now; t3 = c.args.t3.now; t4 = c.args.t4.now; t5 = c.args.t5.now; t6 = c.args.t6.now; t7 = c.args.t7.now; t8 = c.args.t8.now; t9 = c.args.t9.now; t10 = c.args.t10.now; t15 = c.args.t15.now; t16 = c.args.t16.now; t17 = c.args.t17.now })) 3 9 _ _ (c.requires.0 3 (omega arith)) l.1 _ c.put_rows-4.ensures) in it) in
        (c.put_rows-5.auto.out ∙ l.0, rows_on c.args.c c.args.p ((record { t1 = c.args.t1.now; t2 = c.args.t2.now; t3 = c.args.t3.now; t4 = c.args.t4.now; t5 = c.args.t5.now; t6 = c.args.t6.now; t7 = c.args.t7.now; t8 = c.args.t8.now; t9 = c.args.t9.now; t10 = c.args.t10.now; t15 = c.args.t15.now; t16 = c.args.t16.now; t17 = c.args.t17.now })) 4 8 _ _ (c.requires.0 4 (omega arith)) l.1 _ c.put_rows-5.ensures) in it) in
        (c.put_rows-6.auto.out ∙ l.0, rows_on c.args.c c.args.p ((record { t1 = c.args.t1.now; t2 = c.args.t2.now; t3 = c.args.t3.now; t4 = c.args.t4.now; t5 = c.args.t5.now; t6 = c.args.t6.now; t7 = c.args.t7.now; t8 = c.args.t8.now; t9 = c.args.t9.now; t10 = c.args.t10.now; t15 = c.args.t15.now; t16 = c.args.t16.now; t17 = c.args.t17.now })) 5 7 _ _ (c.requires.0 5 (omega arith)) l.1 _ c.put_rows-6.ensures) in it) in
        (c.put_rows-7.auto.out ∙ l.0, rows_on c.args.c c.args.p ((record { t1 = c.args.t1.now; t2 = c.args.t2.now; t3 = c.args.t3.now; t4 = c.args.t4.now; t5 = c.args.t5.now; t6 = c.args.t6.now; t7 = c.args.t7.now; t8 = c.args.t8.now; t9 = c.args.t9.now; t10 = c.args.t10.now; t15 = c.args.t15.now; t16 = c.args.t16.now; t17 = c.args.t17.now })) 6 6 _ _ (c.requires.0 6 (omega arith)) l.1 _ c.put_rows-7.ensures) in it) in
        (c.put_rows-8.auto.out ∙ l.0, rows_on c.args.c c.args.p ((record { t1 = c.args.t1.now; t2 = c.args.t2.now; t3 = c.args.t3.now; t4 = c.args.t4.now; t5 = c.args.t5.now; t6 = c.args.t6.now; t7 = c.args.t7.now; t8 = c.args.t8.now; t9 = c.args.t9.now; t10 = c.args.t10.now; t15 = c.args.t15.now; t16 = c.args.t16.now; t17 = c.args.t17.now })) 7 5 _ _ (c.requires.0 7 (omega arith)) l.1 _ c.put_rows-8.ensures) in it) in
        (c.put_rows-9.auto.out ∙ l.0, rows_on c.args.c c.args.p ((record { t1 = c.args.t1.now; t2 = c.args.t2.now; t3 = c.args.t3.now; t4 = c.args.t4.now; t5 = c.args.t5.now; t6 = c.args.t6.now; t7 = c.args.t7.now; t8 = c.args.t8.now; t9 = c.args.t9.now; t10 = c.args.t10.now; t15 = c.args.t15.now; t16 = c.args.t16.now; t17 = c.args.t17.now })) 8 4 _ _ (c.requires.0 8 (omega arith)) l.1 _ c.put_rows-9.ensures) in it) in
        (c.put_rows-10.auto.out ∙ l.0, rows_on c.args.c c.args.p ((record { t1 = c.args.t1.now; t2 = c.args.t2.now; t3 = c.args.t3.now; t4 = c.args.t4.now; t5 = c.args.t5.now; t6 = c.args.t6.now; t7 = c.args.t7.now; t8 = c.args.t8.now; t9 = c.args.t9.now; t10 = c.args.t10.now; t15 = c.args.t15.now; t16 = c.args.t16.now; t17 = c.args.t17.now })) 9 3 _ _ (c.requires.0 9 (omega arith)) l.1 _ c.put_rows-10.ensures) in it) in
        (c.put_rows-11.auto.out ∙ l.0, rows_on c.args.c c.args.p ((record { t1 = c.args.t1.now; t2 = c.args.t2.now; t3 = c.args.t3.now; t4 = c.args.t4.now; t5 = c.args.t5.now; t6 = c.args.t6.now; t7 = c.args.t7.now; t8 = c.args.t8.now; t9 = c.args.t9.now; t10 = c.args.t10.now; t15 = c.args.t15.now; t16 = c.args.t16.now; t17 = c.args.t17.now })) 10 2 _ _ (c.requires.0 10 (omega arith)) l.1 _ c.put_rows-11.ensures) in it) in
        (c.put_rows-12.auto.out ∙ l.0, rows_on c.args.c c.args.p ((record { t1 = c.args.t1.now; t2 = c.args.t2.now; t3 = c.args.t3.now; t4 = c.args.t4.now; t5 = c.args.t5.now; t6 = c.args.t6.now; t7 = c.args.t7.now; t8 = c.args.t8.now; t9 = c.args.t9.now; t10 = c.args.t10.now; t15 = c.args.t15.now; t16 = c.args.t16.now; t17 = c.args.t17.now })) 11 1 _ _ (c.requires.0 11 (omega arith)) l.1 _ c.put_rows-12.ensures) in it)).0,
  ),
)

pub shape_of-out : goal.shape_of-out
shape_of-out c =
    ((let it : ((length c.put_rows-13.new.out ≡ length c.args.out.now) × (put_content c.put_rows-13.new.out (rows_from c.args.c c.args.p 13) (bytes_of_all (row_cells c.args.c c.args.p ((record { t1 = c.args.t1.now; t2 = c.args.t2.now; t3 = c.args.t3.now; t4 = c.args.t4.now; t5 = c.args.t5.now; t6 = c.args.t6.now; t7 = c.args.t7.now; t8 = c.args.t8.now; t9 = c.args.t9.now; t10 = c.args.t10.now; t15 = c.args.t15.now; t16 = c.args.t16.now; t17 = c.args.t17.now })) 13 0)) ≡ put_content c.args.out.now (rows_from c.args.c c.args.p 0) (bytes_of_all (row_cells c.args.c c.args.p ((record { t1 = c.args.t1.now; t2 = c.args.t2.now; t3 = c.args.t3.now; t4 = c.args.t4.now; t5 = c.args.t5.now; t6 = c.args.t6.now; t7 = c.args.t7.now; t8 = c.args.t8.now; t9 = c.args.t9.now; t10 = c.args.t10.now; t15 = c.args.t15.now; t16 = c.args.t16.now; t17 = c.args.t17.now })) 0 13)))) = let l = (let it : ((length c.put_rows-12.new.out ≡ length c.args.out.now) × (put_content c.put_rows-12.new.out (rows_from c.args.c c.args.p 12) (bytes_of_all (row_cells c.args.c c.args.p ((record { t1 = c.args.t1.now; t2 = c.args.t2.now; t3 = c.args.t3.now; t4 = c.args.t4.now; t5 = c.args.t5.now; t6 = c.args.t6.now; t7 = c.args.t7.now; t8 = c.args.t8.now; t9 = c.args.t9.now; t10 = c.args.t10.now; t15 = c.args.t15.now; t16 = c.args.t16.now; t17 = c.args.t17.now })) 12 1)) ≡ put_content c.args.out.now (rows_from c.args.c c.args.p 0) (bytes_of_all (row_cells c.args.c c.args.p ((record { t1 = c.args.t1.now; t2 = c.args.t2.now; t3 = c.args.t3.now; t4 = c.args.t4.now; t5 = c.args.t5.now; t6 = c.args.t6.now; t7 = c.args.t7.now; t8 = c.args.t8.now; t9 = c.args.t9.now; t10 = c.args.t10.now; t15 = c.args.t15.now; t16 = c.args.t16.now; t17 = c.args.t17.now })) 0 13)))) = let l = (let it : ((length c.put_rows-11.new.out ≡ length c.args.out.now) × (put_content c.put_rows-11.new.out (rows_from c.args.c c.args.p 11) (bytes_of_all (row_cells c.args.c c.args.p ((record { t1 = c.args.t1.now; t2 = c.args.t2.now; t3 = c.args.t3.now; t4 = c.args.t4.now; t5 = c.args.t5.now; t6 = c.args.t6.now; t7 = c.args.t7.now; t8 = c.args.t8.now; t9 = c.args.t9.now; t10 = c.args.t10.now; t15 = c.args.t15.now; t16 = c.args.t16.now; t17 = c.args.t17.now })) 11 2)) ≡ put_content c.args.out.now (rows_from c.args.c c.args.p 0) (bytes_of_all (row_cells c.args.c c.args.p ((record { t1 = c.args.t1.now; t2 = c.args.t2.now; t3 = c.args.t3.now; t4 = c.args.t4.now; t5 = c.args.t5.now; t6 = c.args.t6.now; t7 = c.args.t7.now; t8 = c.args.t8.now; t9 = c.args.t9.now; t10 = c.args.t10.now; t15 = c.args.t15.now; t16 = c.args.t16.now; t17 = c.args.t17.now })) 0 13)))) = let l = (let it : ((length c.put_rows-10.new.out ≡ length c.args.out.now) × (put_content c.put_rows-10.new.out (rows_from c.args.c c.args.p 10) (bytes_of_all (row_cells c.args.c c.args.p ((record { t1 = c.args.t1.now; t2 = c.args.t2.now; t3 = c.args.t3.now; t4 = c.args.t4.now; t5 = c.args.t5.now; t6 = c.args.t6.now; t7 = c.args.t7.now; t8 = c.args.t8.now; t9 = c.args.t9.now; t10 = c.args.t10.now; t15 = c.args.t15.now; t16 = c.args.t16.now; t17 = c.args.t17.now })) 10 3)) ≡ put_content c.args.out.now (rows_from c.args.c c.args.p 0) (bytes_of_all (row_cells c.args.c c.args.p ((record { t1 = c.args.t1.now; t2 = c.args.t2.now; t3 = c.args.t3.now; t4 = c.args.t4.now; t5 = c.args.t5.now; t6 = c.args.t6.now; t7 = c.args.t7.now; t8 = c.args.t8.now; t9 = c.args.t9.now; t10 = c.args.t10.now; t15 = c.args.t15.now; t16 = c.args.t16.now; t17 = c.args.t17.now })) 0 13)))) = let l = (let it : ((length c.put_rows-9.new.out ≡ length c.args.out.now) × (put_content c.put_rows-9.new.out (rows_from c.args.c c.args.p 9) (bytes_of_all (row_cells c.args.c c.args.p ((record { t1 = c.args.t1.now; t2 = c.args.t2.now; t3 = c.args.t3.now; t4 = c.args.t4.now; t5 = c.args.t5.now; t6 = c.args.t6.now; t7 = c.args.t7.now; t8 = c.args.t8.now; t9 = c.args.t9.now; t10 = c.args.t10.now; t15 = c.args.t15.now; t16 = c.args.t16.now; t17 = c.args.t17.now })) 9 4)) ≡ put_content c.args.out.now (rows_from c.args.c c.args.p 0) (bytes_of_all (row_cells c.args.c c.args.p ((record { t1 = c.args.t1.now; t2 = c.args.t2.now; t3 = c.args.t3.now; t4 = c.args.t4.now; t5 = c.args.t5.now; t6 = c.args.t6.now; t7 = c.args.t7.now; t8 = c.args.t8.now; t9 = c.args.t9.now; t10 = c.args.t10.now; t15 = c.args.t15.now; t16 = c.args.t16.now; t17 = c.args.t17.now })) 0 13)))) = let l = (let it : ((length c.put_rows-8.new.out ≡ length c.args.out.now) × (put_content c.put_rows-8.new.out (rows_from c.args.c c.args.p 8) (bytes_of_all (row_cells c.args.c c.args.p ((record { t1 = c.args.t1.now; t2 = c.args.t2.now; t3 = c.args.t3.now; t4 = c.args.t4.now; t5 = c.args.t5.now; t6 = c.args.t6.now; t7 = c.args.t7.now; t8 = c.args.t8.now; t9 = c.args.t9.now; t10 = c.args.t10.now; t15 = c.args.t15.now; t16 = c.args.t16.now; t17 = c.args.t17.now })) 8 5)) ≡ put_content c.args.out.now (rows_from c.args.c c.args.p 0) (bytes_of_all (row_cells c.args.c c.args.p ((record { t1 = c.args.t1.now; t2 = c.args.t2.now; t3 = c.args.t3.now; t4 = c.args.t4.now; t5 = c.args.t5.now; t6 = c.args.t6.now; t7 = c.args.t7.now; t8 = c.args.t8.now; t9 = c.args.t9.now; t10 = c.args.t10.now; t15 = c.args.t15.now; t16 = c.args.t16.now; t17 = c.args.t17.now })) 0 13)))) = let l = (let it : ((length c.put_rows-7.new.out ≡ length c.args.out.now) × (put_content c.put_rows-7.new.out (rows_from c.args.c c.args.p 7) (bytes_of_all (row_cells c.args.c c.args.p ((record { t1 = c.args.t1.now; t2 = c.args.t2.now; t3 = c.args.t3.now; t4 = c.args.t4.now; t5 = c.args.t5.now; t6 = c.args.t6.now; t7 = c.args.t7.now; t8 = c.args.t8.now; t9 = c.args.t9.now; t10 = c.args.t10.now; t15 = c.args.t15.now; t16 = c.args.t16.now; t17 = c.args.t17.now })) 7 6)) ≡ put_content c.args.out.now (rows_from c.args.c c.args.p 0) (bytes_of_all (row_cells c.args.c c.args.p ((record { t1 = c.args.t1.now; t2 = c.args.t2.now; t3 = c.args.t3.now; t4 = c.args.t4.now; t5 = c.args.t5.now; t6 = c.args.t6.now; t7 = c.args.t7.now; t8 = c.args.t8.now; t9 = c.args.t9.now; t10 = c.args.t10.now; t15 = c.args.t15.now; t16 = c.args.t16.now; t17 = c.args.t17.now })) 0 13)))) = let l = (let it : ((length c.put_rows-6.new.out ≡ length c.args.out.now) × (put_content c.put_rows-6.new.out (rows_from c.args.c c.args.p 6) (bytes_of_all (row_cells c.args.c c.args.p ((record { t1 = c.args.t1.now; t2 = c.args.t2.now; t3 = c.args.t3.now; t4 = c.args.t4.now; t5 = c.args.t5.now; t6 = c.args.t6.now; t7 = c.args.t7.now; t8 = c.args.t8.now; t9 = c.args.t9.now; t10 = c.args.t10.now; t15 = c.args.t15.now; t16 = c.args.t16.now; t17 = c.args.t17.now })) 6 7)) ≡ put_content c.args.out.now (rows_from c.args.c c.args.p 0) (bytes_of_all (row_cells c.args.c c.args.p ((record { t1 = c.args.t1.now; t2 = c.args.t2.now; t3 = c.args.t3.now; t4 = c.args.t4.now; t5 = c.args.t5.now; t6 = c.args.t6.now; t7 = c.args.t7.now; t8 = c.args.t8.now; t9 = c.args.t9.now; t10 = c.args.t10.now; t15 = c.args.t15.now; t16 = c.args.t16.now; t17 = c.args.t17.now })) 0 13)))) = let l = (let it : ((length c.put_rows-5.new.out ≡ length c.args.out.now) × (put_content c.put_rows-5.new.out (rows_from c.args.c c.args.p 5) (bytes_of_all (row_cells c.args.c c.args.p ((record { t1 = c.args.t1.now; t2 = c.args.t2.now; t3 = c.args.t3.now; t4 = c.args.t4.now; t5 = c.args.t5.now; t6 = c.args.t6.now; t7 = c.args.t7.now; t8 = c.args.t8.now; t9 = c.args.t9.now; t10 = c.args.t10.now; t15 = c.args.t15.now; t16 = c.args.t16.now; t17 = c.args.t17.now })) 5 8)) ≡ put_content c.args.out.now (rows_from c.args.c c.args.p 0) (bytes_of_all (row_cells c.args.c c.args.p ((record { t1 = c.args.t1.now; t2 = c.args.t2.now; t3 = c.args.t3.now; t4 = c.args.t4.now; t5 = c.args.t5.now; t6 = c.args.t6.now; t7 = c.args.t7.now; t8 = c.args.t8.now; t9 = c.args.t9.now; t10 = c.args.t10.now; t15 = c.args.t15.now; t16 = c.args.t16.now; t17 = c.args.t17.now })) 0 13)))) = let l = (let it : ((length c.put_rows-4.new.out ≡ length c.args.out.now) × (put_content c.put_rows-4.new.out (rows_from c.args.c c.args.p 4) (bytes_of_all (row_cells c.args.c c.args.p ((record { t1 = c.args.t1.now; t2 = c.args.t2.now; t3 = c.args.t3.now; t4 = c.args.t4.now; t5 = c.args.t5.now; t6 = c.args.t6.now; t7 = c.args.t7.now; t8 = c.args.t8.now; t9 = c.args.t9.now; t10 = c.args.t10.now; t15 = c.args.t15.now; t16 = c.args.t16.now; t17 = c.args.t17.now })) 4 9)) ≡ put_content c.args.out.now (rows_from c.args.c c.args.p 0) (bytes_of_all (row_cells c.args.c c.args.p ((record { t1 = c.args.t1.now; t2 = c.args.t2.now; t3 = c.args.t3.now; t4 = c.args.t4.now; t5 = c.args.t5.now; t6 = c.args.t6.now; t7 = c.args.t7.now; t8 = c.args.t8.now; t9 = c.args.t9.now; t10 = c.args.t10.now; t15 = c.args.t15.now; t16 = c.args.t16.now; t17 = c.args.t17.now })) 0 13)))) = let l = (let it : ((length c.put_rows-3.new.out ≡ length c.args.out.now) × (put_content c.put_rows-3.new.out (rows_from c.args.c c.args.p 3) (bytes_of_all (row_cells c.args.c c.args.p ((record { t1 = c.args.t1.now; t2 = c.args.t2.now; t3 = c.args.t3.now; t4 = c.args.t4.now; t5 = c.args.t5.now; t6 = c.args.t6.now; t7 = c.args.t7.now; t8 = c.args.t8.now; t9 = c.args.t9.now; t10 = c.args.t10.now; t15 = c.args.t15.now; t16 = c.args.t16.now; t17 = c.args.t17.now })) 3 10)) ≡ put_content c.args.out.now (rows_from c.args.c c.args.p 0) (bytes_of_all (row_cells c.args.c c.args.p ((record { t1 = c.args.t1.now; t2 = c.args.t2.now; t3 = c.args.t3.now; t4 = c.args.t4.now; t5 = c.args.t5.now; t6 = c.args.t6.now; t7 = c.args.t7.now; t8 = c.args.t8.now; t9 = c.args.t9.now; t10 = c.args.t10.now; t15 = c.args.t15.now; t16 = c.args.t16.now; t17 = c.args.t17.now })) 0 13)))) = let l = (let it : ((length c.put_rows-2.new.out ≡ length c.args.out.now) × (put_content c.put_rows-2.new.out (rows_from c.args.c c.args.p 2) (bytes_of_all (row_cells c.args.c c.args.p ((record { t1 = c.args.t1.now; t2 = c.args.t2.now; t3 = c.args.t3.now; t4 = c.args.t4.now; t5 = c.args.t5.now; t6 = c.args.t6.now; t7 = c.args.t7.now; t8 = c.args.t8.now; t9 = c.args.t9.now; t10 = c.args.t10.now; t15 = c.args.t15.now; t16 = c.args.t16.now; t17 = c.args.t17.now })) 2 11)) ≡ put_content c.args.out.now (rows_from c.args.c c.args.p 0) (bytes_of_all (row_cells c.args.c c.args.p ((record { t1 = c.args.t1.now; t2 = c.args.t2.now; t3 = c.args.t3.now; t4 = c.args.t4.now; t5 = c.args.t5.now; t6 = c.args.t6.now; t7 = c.args.t7.now; t8 = c.args.t8.now; t9 = c.args.t9.now; t10 = c.args.t10.now; t15 = c.args.t15.now; t16 = c.args.t16.now; t17 = c.args.t17.now })) 0 13)))) = let l = (let it : ((length c.put_rows.new.out ≡ length c.args.out.now) × (put_content c.put_rows.new.out (rows_from c.args.c c.args.p 1) (bytes_of_all (row_cells c.args.c c.args.p ((record { t1 = c.args.t1.now; t2 = c.args.t2.now; t3 = c.args.t3.now; t4 = c.args.t4.now; t5 = c.args.t5.now; t6 = c.args.t6.now; t7 = c.args.t7.now; t8 = c.args.t8.now; t9 = c.args.t9.now; t10 = c.args.t10.now; t15 = c.args.t15.now; t16 = c.args.t16.now; t17 = c.args.t17.now })) 1 12)) ≡ put_content c.args.out.now (rows_from c.args.c c.args.p 0) (bytes_of_all (row_cells c.args.c c.args.p ((record { t1 = c.args.t1.now; t2 = c.args.t2.now; t3 = c.args.t3.now; t4 = c.args.t4.now; t5 = c.args.t5.now; t6 = c.args.t6.now; t7 = c.args.t7.now; t8 = c.args.t8.now; t9 = c.args.t9.now; t10 = c.args.t10.now; t15 = c.args.t15.now; t16 = c.args.t16.now; t17 = c.args.t17.now })) 0 13)))) = (c.put_rows.auto.out, rows_on c.args.c c.args.p ((record { t1 = c.args.t1.now; t2 = c.args.t2.now; t3 = c.args.t3.now; t4 = c.args.t4.now; t5 = c.args.t5.now; t6 = c.args.t6.now; t7 = c.args.t7.now; t8 = c.args.t8.now; t9 = c.args.t9.now; t10 = c.args.t10.now; t15 = c.args.t15.now; t16 = c.args.t16.now; t17 = c.args.t17.now })) 0 12 _ _ (c.requires.0 0 (omega arith)) refl _ c.put_rows.ensures) in it) in
    (c.put_rows-2.auto.out ∙ l.0, rows_on c.args.c c.args.p ((record { t1 = c.args.t1.now; t2 = c.args.t2.now; t3 = c.args.t3.now; t4 = c.args.t4.now; t5 = c.args.t5.now; t6 = c.args.t6.now; t7 = c.args.t7.now; t8 = c.args.t8.now; t9 = c.args.t9.now; t10 = c.args.t10.now; t15 = c.args.t15.now; t16 = c.args.t16.now; t17 = c.args.t17.now })) 1 11 _ _ (c.requires.0 1 (omega arith)) l.1 _ c.put_rows-2.ensures) in it) in
    (c.put_rows-3.auto.out ∙ l.0, rows_on c.args.c c.args.p ((record { t1 = c.args.t1.now; t2 = c.args.t2.now; t3 = c.args.t3.now; t4 = c.args.t4.now; t5 = c.args.t5.now; t6 = c.args.t6.now; t7 = c.args.t7.now; t8 = c.args.t8.now; t9 = c.args.t9.now; t10 = c.args.t10.now; t15 = c.args.t15.now; t16 = c.args.t16.now; t17 = c.args.t17.now })) 2 10 _ _ (c.requires.0 2 (omega arith)) l.1 _ c.put_rows-3.ensures) in it) in
    (c.put_rows-4.auto.out ∙ l.0, rows_on c.args.c c.args.p ((record { t1 = c.args.t1.now; t2 = c.args.t2.now; t3 = c.args.t3.now; t4 = c.args.t4.now; t5 = c.args.t5.now; t6 = c.args.t6.now; t7 = c.args.t7.now; t8 = c.args.t8.now; t9 = c.args.t9.now; t10 = c.args.t10.now; t15 = c.args.t15.now; t16 = c.args.t16.now; t17 = c.args.t17.now })) 3 9 _ _ (c.requires.0 3 (omega arith)) l.1 _ c.put_rows-4.ensures) in it) in
    (c.put_rows-5.auto.out ∙ l.0, rows_on c.args.c c.args.p ((record { t1 = c.args.t1.now; t2 = c.args.t2.now; t3 = c.args.t3.now; t4 = c.args.t4.now; t5 = c.args.t5.now; t6 = c.args.t6.now; t7 = c.args.t7.now; t8 = c.args.t8.now; t9 = c.args.t9.now; t10 = c.args.t10.now; t15 = c.args.t15.now; t16 = c.args.t16.now; t17 = c.args.t17.now })) 4 8 _ _ (c.requires.0 4 (omega arith)) l.1 _ c.put_rows-5.ensures) in it) in
    (c.put_rows-6.auto.out ∙ l.0, rows_on c.args.c c.args.p ((record { t1 = c.args.t1.now; t2 = c.args.t2.now; t3 = c.args.t3.now; t4 = c.args.t4.now; t5 = c.args.t5.now; t6 = c.args.t6.now; t7 = c.args.t7.now; t8 = c.args.t8.now; t9 = c.args.t9.now; t10 = c.args.t10.now; t15 = c.args.t15.now; t16 = c.args.t16.now; t17 = c.args.t17.now })) 5 7 _ _ (c.requires.0 5 (omega arith)) l.1 _ c.put_rows-6.ensures) in it) in
    (c.put_rows-7.auto.out ∙ l.0, rows_on c.args.c c.args.p ((record { t1 = c.args.t1.now; t2 = c.args.t2.now; t3 = c.args.t3.now; t4 = c.args.t4.now; t5 = c.args.t5.now; t6 = c.args.t6.now; t7 = c.args.t7.now; t8 = c.args.t8.now; t9 = c.args.t9.now; t10 = c.args.t10.now; t15 = c.args.t15.now; t16 = c.args.t16.now; t17 = c.args.t17.now })) 6 6 _ _ (c.requires.0 6 (omega arith)) l.1 _ c.put_rows-7.ensures) in it) in
    (c.put_rows-8.auto.out ∙ l.0, rows_on c.args.c c.args.p ((record { t1 = c.args.t1.now; t2 = c.args.t2.now; t3 = c.args.t3.now; t4 = c.args.t4.now; t5 = c.args.t5.now; t6 = c.args.t6.now; t7 = c.args.t7.now; t8 = c.args.t8.now; t9 = c.args.t9.now; t10 = c.args.t10.now; t15 = c.args.t15.now; t16 = c.args.t16.now; t17 = c.args.t17.now })) 7 5 _ _ (c.requires.0 7 (omega arith)) l.1 _ c.put_rows-8.ensures) in it) in
    (c.put_rows-9.auto.out ∙ l.0, rows_on c.args.c c.args.p ((record { t1 = c.args.t1.now; t2 = c.args.t2.now; t3 = c.args.t3.now; t4 = c.args.t4.now; t5 = c.args.t5.now; t6 = c.args.t6.now; t7 = c.args.t7.now; t8 = c.args.t8.now; t9 = c.args.t9.now; t10 = c.args.t10.now; t15 = c.args.t15.now; t16 = c.args.t16.now; t17 = c.args.t17.now })) 8 4 _ _ (c.requires.0 8 (omega arith)) l.1 _ c.put_rows-9.ensures) in it) in
    (c.put_rows-10.auto.out ∙ l.0, rows_on c.args.c c.args.p ((record { t1 = c.args.t1.now; t2 = c.args.t2.now; t3 = c.args.t3.now; t4 = c.args.t4.now; t5 = c.args.t5.now; t6 = c.args.t6.now; t7 = c.args.t7.now; t8 = c.args.t8.now; t9 = c.args.t9.now; t10 = c.args.t10.now; t15 = c.args.t15.now; t16 = c.args.t16.now; t17 = c.args.t17.now })) 9 3 _ _ (c.requires.0 9 (omega arith)) l.1 _ c.put_rows-10.ensures) in it) in
    (c.put_rows-11.auto.out ∙ l.0, rows_on c.args.c c.args.p ((record { t1 = c.args.t1.now; t2 = c.args.t2.now; t3 = c.args.t3.now; t4 = c.args.t4.now; t5 = c.args.t5.now; t6 = c.args.t6.now; t7 = c.args.t7.now; t8 = c.args.t8.now; t9 = c.args.t9.now; t10 = c.args.t10.now; t15 = c.args.t15.now; t16 = c.args.t16.now; t17 = c.args.t17.now })) 10 2 _ _ (c.requires.0 10 (omega arith)) l.1 _ c.put_rows-11.ensures) in it) in
    (c.put_rows-12.auto.out ∙ l.0, rows_on c.args.c c.args.p ((record { t1 = c.args.t1.now; t2 = c.args.t2.now; t3 = c.args.t3.now; t4 = c.args.t4.now; t5 = c.args.t5.now; t6 = c.args.t6.now; t7 = c.args.t7.now; t8 = c.args.t8.now; t9 = c.args.t9.now; t10 = c.args.t10.now; t15 = c.args.t15.now; t16 = c.args.t16.now; t17 = c.args.t17.now })) 11 1 _ _ (c.requires.0 11 (omega arith)) l.1 _ c.put_rows-12.ensures) in it) in
    (c.put_rows-13.auto.out ∙ l.0, rows_on c.args.c c.args.p ((record { t1 = c.args.t1.now; t2 = c.args.t2.now; t3 = c.args.t3.now; t4 = c.args.t4.now; t5 = c.args.t5.now; t6 = c.args.t6.now; t7 = c.args.t7.now; t8 = c.args.t8.now; t9 = c.args.t9.now; t10 = c.args.t10.now; t15 = c.args.t15.now; t16 = c.args.t16.now; t17 = c.args.t17.now })) 12 0 _ _ (c.requires.0 12 (omega arith)) l.1 _ c.put_rows-13.ensures) in it)).0

pub returns : goal.returns
returns c =
    rows_done c.args.c c.args.p ((record { t1 = c.args.t1.now; t2 = c.args.t2.now; t3 = c.args.t3.now; t4 = c.args.t4.now; t5 = c.args.t5.now; t6 = c.args.t6.now; t7 = c.args.t7.now; t8 = c.args.t8.now; t9 = c.args.t9.now; t10 = c.args.t10.now; t15 = c.args.t15.now; t16 = c.args.t16.now; t17 = c.args.t17.now })) _ _ ((let it : ((length c.put_rows-13.new.out ≡ length c.args.out.now) × (put_content c.put_rows-13.new.out (rows_from c.args.c c.args.p 13) (bytes_of_all (row_cells c.args.c c.args.p ((record { t1 = c.args.t1.now; t2 = c.args.t2.now; t3 = c.args.t3.now; t4 = c.args.t4.now; t5 = c.args.t5.now; t6 = c.args.t6.now; t7 = c.args.t7.now; t8 = c.args.t8.now; t9 = c.args.t9.now; t10 = c.args.t10.now; t15 = c.args.t15.now; t16 = c.args.t16.now; t17 = c.args.t17.now })) 13 0)) ≡ put_content c.args.out.now (rows_from c.args.c c.args.p 0) (bytes_of_all (row_cells c.args.c c.args.p ((record { t1 = c.args.t1.now; t2 = c.args.t2.now; t3 = c.args.t3.now; t4 = c.args.t4.now; t5 = c.args.t5.now; t6 = c.args.t6.now; t7 = c.args.t7.now; t8 = c.args.t8.now; t9 = c.args.t9.now; t10 = c.args.t10.now; t15 = c.args.t15.now; t16 = c.args.t16.now; t17 = c.args.t17.now })) 0 13)))) = let l = (let it : ((length c.put_rows-12.new.out ≡ length c.args.out.now) × (put_content c.put_rows-12.new.out (rows_from c.args.c c.args.p 12) (bytes_of_all (row_cells c.args.c c.args.p ((record { t1 = c.args.t1.now; t2 = c.args.t2.now; t3 = c.args.t3.now; t4 = c.args.t4.now; t5 = c.args.t5.now; t6 = c.args.t6.now; t7 = c.args.t7.now; t8 = c.args.t8.now; t9 = c.args.t9.now; t10 = c.args.t10.now; t15 = c.args.t15.now; t16 = c.args.t16.now; t17 = c.args.t17.now })) 12 1)) ≡ put_content c.args.out.now (rows_from c.args.c c.args.p 0) (bytes_of_all (row_cells c.args.c c.args.p ((record { t1 = c.args.t1.now; t2 = c.args.t2.now; t3 = c.args.t3.now; t4 = c.args.t4.now; t5 = c.args.t5.now; t6 = c.args.t6.now; t7 = c.args.t7.now; t8 = c.args.t8.now; t9 = c.args.t9.now; t10 = c.args.t10.now; t15 = c.args.t15.now; t16 = c.args.t16.now; t17 = c.args.t17.now })) 0 13)))) = let l = (let it : ((length c.put_rows-11.new.out ≡ length c.args.out.now) × (put_content c.put_rows-11.new.out (rows_from c.args.c c.args.p 11) (bytes_of_all (row_cells c.args.c c.args.p ((record { t1 = c.args.t1.now; t2 = c.args.t2.now; t3 = c.args.t3.now; t4 = c.args.t4.now; t5 = c.args.t5.now; t6 = c.args.t6.now; t7 = c.args.t7.now; t8 = c.args.t8.now; t9 = c.args.t9.now; t10 = c.args.t10.now; t15 = c.args.t15.now; t16 = c.args.t16.now; t17 = c.args.t17.now })) 11 2)) ≡ put_content c.args.out.now (rows_from c.args.c c.args.p 0) (bytes_of_all (row_cells c.args.c c.args.p ((record { t1 = c.args.t1.now; t2 = c.args.t2.now; t3 = c.args.t3.now; t4 = c.args.t4.now; t5 = c.args.t5.now; t6 = c.args.t6.now; t7 = c.args.t7.now; t8 = c.args.t8.now; t9 = c.args.t9.now; t10 = c.args.t10.now; t15 = c.args.t15.now; t16 = c.args.t16.now; t17 = c.args.t17.now })) 0 13)))) = let l = (let it : ((length c.put_rows-10.new.out ≡ length c.args.out.now) × (put_content c.put_rows-10.new.out (rows_from c.args.c c.args.p 10) (bytes_of_all (row_cells c.args.c c.args.p ((record { t1 = c.args.t1.now; t2 = c.args.t2.now; t3 = c.args.t3.now; t4 = c.args.t4.now; t5 = c.args.t5.now; t6 = c.args.t6.now; t7 = c.args.t7.now; t8 = c.args.t8.now; t9 = c.args.t9.now; t10 = c.args.t10.now; t15 = c.args.t15.now; t16 = c.args.t16.now; t17 = c.args.t17.now })) 10 3)) ≡ put_content c.args.out.now (rows_from c.args.c c.args.p 0) (bytes_of_all (row_cells c.args.c c.args.p ((record { t1 = c.args.t1.now; t2 = c.args.t2.now; t3 = c.args.t3.now; t4 = c.args.t4.now; t5 = c.args.t5.now; t6 = c.args.t6.now; t7 = c.args.t7.now; t8 = c.args.t8.now; t9 = c.args.t9.now; t10 = c.args.t10.now; t15 = c.args.t15.now; t16 = c.args.t16.now; t17 = c.args.t17.now })) 0 13)))) = let l = (let it : ((length c.put_rows-9.new.out ≡ length c.args.out.now) × (put_content c.put_rows-9.new.out (rows_from c.args.c c.args.p 9) (bytes_of_all (row_cells c.args.c c.args.p ((record { t1 = c.args.t1.now; t2 = c.args.t2.now; t3 = c.args.t3.now; t4 = c.args.t4.now; t5 = c.args.t5.now; t6 = c.args.t6.now; t7 = c.args.t7.now; t8 = c.args.t8.now; t9 = c.args.t9.now; t10 = c.args.t10.now; t15 = c.args.t15.now; t16 = c.args.t16.now; t17 = c.args.t17.now })) 9 4)) ≡ put_content c.args.out.now (rows_from c.args.c c.args.p 0) (bytes_of_all (row_cells c.args.c c.args.p ((record { t1 = c.args.t1.now; t2 = c.args.t2.now; t3 = c.args.t3.now; t4 = c.args.t4.now; t5 = c.args.t5.now; t6 = c.args.t6.now; t7 = c.args.t7.now; t8 = c.args.t8.now; t9 = c.args.t9.now; t10 = c.args.t10.now; t15 = c.args.t15.now; t16 = c.args.t16.now; t17 = c.args.t17.now })) 0 13)))) = let l = (let it : ((length c.put_rows-8.new.out ≡ length c.args.out.now) × (put_content c.put_rows-8.new.out (rows_from c.args.c c.args.p 8) (bytes_of_all (row_cells c.args.c c.args.p ((record { t1 = c.args.t1.now; t2 = c.args.t2.now; t3 = c.args.t3.now; t4 = c.args.t4.now; t5 = c.args.t5.now; t6 = c.args.t6.now; t7 = c.args.t7.now; t8 = c.args.t8.now; t9 = c.args.t9.now; t10 = c.args.t10.now; t15 = c.args.t15.now; t16 = c.args.t16.now; t17 = c.args.t17.now })) 8 5)) ≡ put_content c.args.out.now (rows_from c.args.c c.args.p 0) (bytes_of_all (row_cells c.args.c c.args.p ((record { t1 = c.args.t1.now; t2 = c.args.t2.now; t3 = c.args.t3.now; t4 = c.args.t4.now; t5 = c.args.t5.now; t6 = c.args.t6.now; t7 = c.args.t7.now; t8 = c.args.t8.now; t9 = c.args.t9.now; t10 = c.args.t10.now; t15 = c.args.t15.now; t16 = c.args.t16.now; t17 = c.args.t17.now })) 0 13)))) = let l = (let it : ((length c.put_rows-7.new.out ≡ length c.args.out.now) × (put_content c.put_rows-7.new.out (rows_from c.args.c c.args.p 7) (bytes_of_all (row_cells c.args.c c.args.p ((record { t1 = c.args.t1.now; t2 = c.args.t2.now; t3 = c.args.t3.now; t4 = c.args.t4.now; t5 = c.args.t5.now; t6 = c.args.t6.now; t7 = c.args.t7.now; t8 = c.args.t8.now; t9 = c.args.t9.now; t10 = c.args.t10.now; t15 = c.args.t15.now; t16 = c.args.t16.now; t17 = c.args.t17.now })) 7 6)) ≡ put_content c.args.out.now (rows_from c.args.c c.args.p 0) (bytes_of_all (row_cells c.args.c c.args.p ((record { t1 = c.args.t1.now; t2 = c.args.t2.now; t3 = c.args.t3.now; t4 = c.args.t4.now; t5 = c.args.t5.now; t6 = c.args.t6.now; t7 = c.args.t7.now; t8 = c.args.t8.now; t9 = c.args.t9.now; t10 = c.args.t10.now; t15 = c.args.t15.now; t16 = c.args.t16.now; t17 = c.args.t17.now })) 0 13)))) = let l = (let it : ((length c.put_rows-6.new.out ≡ length c.args.out.now) × (put_content c.put_rows-6.new.out (rows_from c.args.c c.args.p 6) (bytes_of_all (row_cells c.args.c c.args.p ((record { t1 = c.args.t1.now; t2 = c.args.t2.now; t3 = c.args.t3.now; t4 = c.args.t4.now; t5 = c.args.t5.now; t6 = c.args.t6.now; t7 = c.args.t7.now; t8 = c.args.t8.now; t9 = c.args.t9.now; t10 = c.args.t10.now; t15 = c.args.t15.now; t16 = c.args.t16.now; t17 = c.args.t17.now })) 6 7)) ≡ put_content c.args.out.now (rows_from c.args.c c.args.p 0) (bytes_of_all (row_cells c.args.c c.args.p ((record { t1 = c.args.t1.now; t2 = c.args.t2.now; t3 = c.args.t3.now; t4 = c.args.t4.now; t5 = c.args.t5.now; t6 = c.args.t6.now; t7 = c.args.t7.now; t8 = c.args.t8.now; t9 = c.args.t9.now; t10 = c.args.t10.now; t15 = c.args.t15.now; t16 = c.args.t16.now; t17 = c.args.t17.now })) 0 13)))) = let l = (let it : ((length c.put_rows-5.new.out ≡ length c.args.out.now) × (put_content c.put_rows-5.new.out (rows_from c.args.c c.args.p 5) (bytes_of_all (row_cells c.args.c c.args.p ((record { t1 = c.args.t1.now; t2 = c.args.t2.now; t3 = c.args.t3.now; t4 = c.args.t4.now; t5 = c.args.t5.now; t6 = c.args.t6.now; t7 = c.args.t7.now; t8 = c.args.t8.now; t9 = c.args.t9.now; t10 = c.args.t10.now; t15 = c.args.t15.now; t16 = c.args.t16.now; t17 = c.args.t17.now })) 5 8)) ≡ put_content c.args.out.now (rows_from c.args.c c.args.p 0) (bytes_of_all (row_cells c.args.c c.args.p ((record { t1 = c.args.t1.now; t2 = c.args.t2.now; t3 = c.args.t3.now; t4 = c.args.t4.now; t5 = c.args.t5.now; t6 = c.args.t6.now; t7 = c.args.t7.now; t8 = c.args.t8.now; t9 = c.args.t9.now; t10 = c.args.t10.now; t15 = c.args.t15.now; t16 = c.args.t16.now; t17 = c.args.t17.now })) 0 13)))) = let l = (let it : ((length c.put_rows-4.new.out ≡ length c.args.out.now) × (put_content c.put_rows-4.new.out (rows_from c.args.c c.args.p 4) (bytes_of_all (row_cells c.args.c c.args.p ((record { t1 = c.args.t1.now; t2 = c.args.t2.now; t3 = c.args.t3.now; t4 = c.args.t4.now; t5 = c.args.t5.now; t6 = c.args.t6.now; t7 = c.args.t7.now; t8 = c.args.t8.now; t9 = c.args.t9.now; t10 = c.args.t10.now; t15 = c.args.t15.now; t16 = c.args.t16.now; t17 = c.args.t17.now })) 4 9)) ≡ put_content c.args.out.now (rows_from c.args.c c.args.p 0) (bytes_of_all (row_cells c.args.c c.args.p ((record { t1 = c.args.t1.now; t2 = c.args.t2.now; t3 = c.args.t3.now; t4 = c.args.t4.now; t5 = c.args.t5.now; t6 = c.args.t6.now; t7 = c.args.t7.now; t8 = c.args.t8.now; t9 = c.args.t9.now; t10 = c.args.t10.now; t15 = c.args.t15.now; t16 = c.args.t16.now; t17 = c.args.t17.now })) 0 13)))) = let l = (let it : ((length c.put_rows-3.new.out ≡ length c.args.out.now) × (put_content c.put_rows-3.new.out (rows_from c.args.c c.args.p 3) (bytes_of_all (row_cells c.args.c c.args.p ((record { t1 = c.args.t1.now; t2 = c.args.t2.now; t3 = c.args.t3.now; t4 = c.args.t4.now; t5 = c.args.t5.now; t6 = c.args.t6.now; t7 = c.args.t7.now; t8 = c.args.t8.now; t9 = c.args.t9.now; t10 = c.args.t10.now; t15 = c.args.t15.now; t16 = c.args.t16.now; t17 = c.args.t17.now })) 3 10)) ≡ put_content c.args.out.now (rows_from c.args.c c.args.p 0) (bytes_of_all (row_cells c.args.c c.args.p ((record { t1 = c.args.t1.now; t2 = c.args.t2.now; t3 = c.args.t3.now; t4 = c.args.t4.now; t5 = c.args.t5.now; t6 = c.args.t6.now; t7 = c.args.t7.now; t8 = c.args.t8.now; t9 = c.args.t9.now; t10 = c.args.t10.now; t15 = c.args.t15.now; t16 = c.args.t16.now; t17 = c.args.t17.now })) 0 13)))) = let l = (let it : ((length c.put_rows-2.new.out ≡ length c.args.out.now) × (put_content c.put_rows-2.new.out (rows_from c.args.c c.args.p 2) (bytes_of_all (row_cells c.args.c c.args.p ((record { t1 = c.args.t1.now; t2 = c.args.t2.now; t3 = c.args.t3.now; t4 = c.args.t4.now; t5 = c.args.t5.now; t6 = c.args.t6.now; t7 = c.args.t7.now; t8 = c.args.t8.now; t9 = c.args.t9.now; t10 = c.args.t10.now; t15 = c.args.t15.now; t16 = c.args.t16.now; t17 = c.args.t17.now })) 2 11)) ≡ put_content c.args.out.now (rows_from c.args.c c.args.p 0) (bytes_of_all (row_cells c.args.c c.args.p ((record { t1 = c.args.t1.now; t2 = c.args.t2.now; t3 = c.args.t3.now; t4 = c.args.t4.now; t5 = c.args.t5.now; t6 = c.args.t6.now; t7 = c.args.t7.now; t8 = c.args.t8.now; t9 = c.args.t9.now; t10 = c.args.t10.now; t15 = c.args.t15.now; t16 = c.args.t16.now; t17 = c.args.t17.now })) 0 13)))) = let l = (let it : ((length c.put_rows.new.out ≡ length c.args.out.now) × (put_content c.put_rows.new.out (rows_from c.args.c c.args.p 1) (bytes_of_all (row_cells c.args.c c.args.p ((record { t1 = c.args.t1.now; t2 = c.args.t2.now; t3 = c.args.t3.now; t4 = c.args.t4.now; t5 = c.args.t5.now; t6 = c.args.t6.now; t7 = c.args.t7.now; t8 = c.args.t8.now; t9 = c.args.t9.now; t10 = c.args.t10.now; t15 = c.args.t15.now; t16 = c.args.t16.now; t17 = c.args.t17.now })) 1 12)) ≡ put_content c.args.out.now (rows_from c.args.c c.args.p 0) (bytes_of_all (row_cells c.args.c c.args.p ((record { t1 = c.args.t1.now; t2 = c.args.t2.now; t3 = c.args.t3.now; t4 = c.args.t4.now; t5 = c.args.t5.now; t6 = c.args.t6.now; t7 = c.args.t7.now; t8 = c.args.t8.now; t9 = c.args.t9.now; t10 = c.args.t10.now; t15 = c.args.t15.now; t16 = c.args.t16.now; t17 = c.args.t17.now })) 0 13)))) = (c.put_rows.auto.out, rows_on c.args.c c.args.p ((record { t1 = c.args.t1.now; t2 = c.args.t2.now; t3 = c.args.t3.now; t4 = c.args.t4.now; t5 = c.args.t5.now; t6 = c.args.t6.now; t7 = c.args.t7.now; t8 = c.args.t8.now; t9 = c.args.t9.now; t10 = c.args.t10.now; t15 = c.args.t15.now; t16 = c.args.t16.now; t17 = c.args.t17.now })) 0 12 _ _ (c.requires.0 0 (omega arith)) refl _ c.put_rows.ensures) in it) in
    (c.put_rows-2.auto.out ∙ l.0, rows_on c.args.c c.args.p ((record { t1 = c.args.t1.now; t2 = c.args.t2.now; t3 = c.args.t3.now; t4 = c.args.t4.now; t5 = c.args.t5.now; t6 = c.args.t6.now; t7 = c.args.t7.now; t8 = c.args.t8.now; t9 = c.args.t9.now; t10 = c.args.t10.now; t15 = c.args.t15.now; t16 = c.args.t16.now; t17 = c.args.t17.now })) 1 11 _ _ (c.requires.0 1 (omega arith)) l.1 _ c.put_rows-2.ensures) in it) in
    (c.put_rows-3.auto.out ∙ l.0, rows_on c.args.c c.args.p ((record { t1 = c.args.t1.now; t2 = c.args.t2.now; t3 = c.args.t3.now; t4 = c.args.t4.now; t5 = c.args.t5.now; t6 = c.args.t6.now; t7 = c.args.t7.now; t8 = c.args.t8.now; t9 = c.args.t9.now; t10 = c.args.t10.now; t15 = c.args.t15.now; t16 = c.args.t16.now; t17 = c.args.t17.now })) 2 10 _ _ (c.requires.0 2 (omega arith)) l.1 _ c.put_rows-3.ensures) in it) in
    (c.put_rows-4.auto.out ∙ l.0, rows_on c.args.c c.args.p ((record { t1 = c.args.t1.now; t2 = c.args.t2.now; t3 = c.args.t3.now; t4 = c.args.t4.now; t5 = c.args.t5.now; t6 = c.args.t6.now; t7 = c.args.t7.now; t8 = c.args.t8.now; t9 = c.args.t9.now; t10 = c.args.t10.now; t15 = c.args.t15.now; t16 = c.args.t16.now; t17 = c.args.t17.now })) 3 9 _ _ (c.requires.0 3 (omega arith)) l.1 _ c.put_rows-4.ensures) in it) in
    (c.put_rows-5.auto.out ∙ l.0, rows_on c.args.c c.args.p ((record { t1 = c.args.t1.now; t2 = c.args.t2.now; t3 = c.args.t3.now; t4 = c.args.t4.now; t5 = c.args.t5.now; t6 = c.args.t6.now; t7 = c.args.t7.now; t8 = c.args.t8.now; t9 = c.args.t9.now; t10 = c.args.t10.now; t15 = c.args.t15.now; t16 = c.args.t16.now; t17 = c.args.t17.now })) 4 8 _ _ (c.requires.0 4 (omega arith)) l.1 _ c.put_rows-5.ensures) in it) in
    (c.put_rows-6.auto.out ∙ l.0, rows_on c.args.c c.args.p ((record { t1 = c.args.t1.now; t2 = c.args.t2.now; t3 = c.args.t3.now; t4 = c.args.t4.now; t5 = c.args.t5.now; t6 = c.args.t6.now; t7 = c.args.t7.now; t8 = c.args.t8.now; t9 = c.args.t9.now; t10 = c.args.t10.now; t15 = c.args.t15.now; t16 = c.args.t16.now; t17 = c.args.t17.now })) 5 7 _ _ (c.requires.0 5 (omega arith)) l.1 _ c.put_rows-6.ensures) in it) in
    (c.put_rows-7.auto.out ∙ l.0, rows_on c.args.c c.args.p ((record { t1 = c.args.t1.now; t2 = c.args.t2.now; t3 = c.args.t3.now; t4 = c.args.t4.now; t5 = c.args.t5.now; t6 = c.args.t6.now; t7 = c.args.t7.now; t8 = c.args.t8.now; t9 = c.args.t9.now; t10 = c.args.t10.now; t15 = c.args.t15.now; t16 = c.args.t16.now; t17 = c.args.t17.now })) 6 6 _ _ (c.requires.0 6 (omega arith)) l.1 _ c.put_rows-7.ensures) in it) in
    (c.put_rows-8.auto.out ∙ l.0, rows_on c.args.c c.args.p ((record { t1 = c.args.t1.now; t2 = c.args.t2.now; t3 = c.args.t3.now; t4 = c.args.t4.now; t5 = c.args.t5.now; t6 = c.args.t6.now; t7 = c.args.t7.now; t8 = c.args.t8.now; t9 = c.args.t9.now; t10 = c.args.t10.now; t15 = c.args.t15.now; t16 = c.args.t16.now; t17 = c.args.t17.now })) 7 5 _ _ (c.requires.0 7 (omega arith)) l.1 _ c.put_rows-8.ensures) in it) in
    (c.put_rows-9.auto.out ∙ l.0, rows_on c.args.c c.args.p ((record { t1 = c.args.t1.now; t2 = c.args.t2.now; t3 = c.args.t3.now; t4 = c.args.t4.now; t5 = c.args.t5.now; t6 = c.args.t6.now; t7 = c.args.t7.now; t8 = c.args.t8.now; t9 = c.args.t9.now; t10 = c.args.t10.now; t15 = c.args.t15.now; t16 = c.args.t16.now; t17 = c.args.t17.now })) 8 4 _ _ (c.requires.0 8 (omega arith)) l.1 _ c.put_rows-9.ensures) in it) in
    (c.put_rows-10.auto.out ∙ l.0, rows_on c.args.c c.args.p ((record { t1 = c.args.t1.now; t2 = c.args.t2.now; t3 = c.args.t3.now; t4 = c.args.t4.now; t5 = c.args.t5.now; t6 = c.args.t6.now; t7 = c.args.t7.now; t8 = c.args.t8.now; t9 = c.args.t9.now; t10 = c.args.t10.now; t15 = c.args.t15.now; t16 = c.args.t16.now; t17 = c.args.t17.now })) 9 3 _ _ (c.requires.0 9 (omega arith)) l.1 _ c.put_rows-10.ensures) in it) in
    (c.put_rows-11.auto.out ∙ l.0, rows_on c.args.c c.args.p ((record { t1 = c.args.t1.now; t2 = c.args.t2.now; t3 = c.args.t3.now; t4 = c.args.t4.now; t5 = c.args.t5.now; t6 = c.args.t6.now; t7 = c.args.t7.now; t8 = c.args.t8.now; t9 = c.args.t9.now; t10 = c.args.t10.now; t15 = c.args.t15.now; t16 = c.args.t16.now; t17 = c.args.t17.now })) 10 2 _ _ (c.requires.0 10 (omega arith)) l.1 _ c.put_rows-11.ensures) in it) in
    (c.put_rows-12.auto.out ∙ l.0, rows_on c.args.c c.args.p ((record { t1 = c.args.t1.now; t2 = c.args.t2.now; t3 = c.args.t3.now; t4 = c.args.t4.now; t5 = c.args.t5.now; t6 = c.args.t6.now; t7 = c.args.t7.now; t8 = c.args.t8.now; t9 = c.args.t9.now; t10 = c.args.t10.now; t15 = c.args.t15.now; t16 = c.args.t16.now; t17 = c.args.t17.now })) 11 1 _ _ (c.requires.0 11 (omega arith)) l.1 _ c.put_rows-12.ensures) in it) in
    (c.put_rows-13.auto.out ∙ l.0, rows_on c.args.c c.args.p ((record { t1 = c.args.t1.now; t2 = c.args.t2.now; t3 = c.args.t3.now; t4 = c.args.t4.now; t5 = c.args.t5.now; t6 = c.args.t6.now; t7 = c.args.t7.now; t8 = c.args.t8.now; t9 = c.args.t9.now; t10 = c.args.t10.now; t15 = c.args.t15.now; t16 = c.args.t16.now; t17 = c.args.t17.now })) 12 0 _ _ (c.requires.0 12 (omega arith)) l.1 _ c.put_rows-13.ensures) in it)).1
