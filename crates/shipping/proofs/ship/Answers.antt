-- `shipping::ship`: the read, and what becomes of the text.
use Rattle.shipping.proofs.Laws.{read_readable, ship_whole}
use Rattle.shipping.proofs.ship.Goals as goal

pub send_read-answer-requires : goal.send_read-answer-requires
send_read-answer-requires c = read_readable _ _ _ _ _ c.read-r.ensures.is

pub shape_of-t1 : goal.shape_of-t1
shape_of-t1 c = c.read-r.auto.t1

pub shape_of-t2 : goal.shape_of-t2
shape_of-t2 c = c.read-r.auto.t2

pub shape_of-t3 : goal.shape_of-t3
shape_of-t3 c = c.read-r.auto.t3

pub shape_of-t4 : goal.shape_of-t4
shape_of-t4 c = c.read-r.auto.t4

pub shape_of-t5 : goal.shape_of-t5
shape_of-t5 c = c.read-r.auto.t5

pub shape_of-t6 : goal.shape_of-t6
shape_of-t6 c = c.read-r.auto.t6

pub shape_of-t7 : goal.shape_of-t7
shape_of-t7 c = c.read-r.auto.t7

pub shape_of-t8 : goal.shape_of-t8
shape_of-t8 c = c.read-r.auto.t8

pub shape_of-t9 : goal.shape_of-t9
shape_of-t9 c = c.read-r.auto.t9

pub shape_of-t10 : goal.shape_of-t10
shape_of-t10 c = c.read-r.auto.t10

pub shape_of-i1 : goal.shape_of-i1
shape_of-i1 c = c.read-r.auto.i1

pub shape_of-i7 : goal.shape_of-i7
shape_of-i7 c = c.read-r.auto.i7

pub returns : goal.returns
returns c =
    ship_whole c.args.src.now c.args.kind ((record { t1 = c.args.t1.now; t2 = c.args.t2.now; t3 = c.args.t3.now; t4 = c.args.t4.now; t5 = c.args.t5.now; t6 = c.args.t6.now; t7 = c.args.t7.now; t8 = c.args.t8.now; t9 = c.args.t9.now; t10 = c.args.t10.now })) ((record { tokens = c.args.i1.now; rules = c.args.i7.now })) c.args.out.now _ _ _ c.shipped_kind-known.ensures c.read-r.ensures.is c.send_read-answer.ensures
