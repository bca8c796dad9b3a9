-- `quiltrudder::ship`: the shipping, and line and column of its answer's place.
use Rattle.shipping.specs.Shipping.{shipment_numbers}
use Rattle.quiltrudder.proofs.Answers.{spot_counted}
use Rattle.quiltrudder.proofs.ship.Goals as goal

pub shape_of-t1 : goal.shape_of-t1
shape_of-t1 c = c.ship-r.auto.t1

pub shape_of-t2 : goal.shape_of-t2
shape_of-t2 c = c.ship-r.auto.t2

pub shape_of-t3 : goal.shape_of-t3
shape_of-t3 c = c.ship-r.auto.t3

pub shape_of-t4 : goal.shape_of-t4
shape_of-t4 c = c.ship-r.auto.t4

pub shape_of-t5 : goal.shape_of-t5
shape_of-t5 c = c.ship-r.auto.t5

pub shape_of-t6 : goal.shape_of-t6
shape_of-t6 c = c.ship-r.auto.t6

pub shape_of-t7 : goal.shape_of-t7
shape_of-t7 c = c.ship-r.auto.t7

pub shape_of-t8 : goal.shape_of-t8
shape_of-t8 c = c.ship-r.auto.t8

pub shape_of-t9 : goal.shape_of-t9
shape_of-t9 c = c.ship-r.auto.t9

pub shape_of-t10 : goal.shape_of-t10
shape_of-t10 c = c.ship-r.auto.t10

pub shape_of-i1 : goal.shape_of-i1
shape_of-i1 c = c.ship-r.auto.i1

pub shape_of-i7 : goal.shape_of-i7
shape_of-i7 c = c.ship-r.auto.i7

pub shape_of-out : goal.shape_of-out
shape_of-out c = c.ship-r.auto.out

pub returns : goal.returns
returns c =
    record {
      fact = c.ship-r.ensures;
      spot_value = spot_counted _ _ _ c.spot_of.ensures (shipment_numbers c.ship-r.result.answer) c.of_shipment.ensures;
    }
