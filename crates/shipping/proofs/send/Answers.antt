-- `shipping::send`: one law for each answer.
use mathlib.Core.Path.{◌∙◌}
use Rattle.shipper.specs.Ship.{ship_all}
use Rattle.shipping.proofs.Laws.{send_long, send_full, send_right}
use Rattle.shipping.proofs.send.Goals as goal

pub returns-then-n-gt-LONGEST_TEXT : goal.returns-then-n-gt-LONGEST_TEXT
returns-then-n-gt-LONGEST_TEXT c =
    send_long (ship_all c.args.kind c.args.src.now) c.args.out.now _ c.zero.ensures _ _ c.ship_all-n.ensures c.if-n-gt-LONGEST_TEXT.true _ c.zero-then-n-gt-LONGEST_TEXT.ensures (c.ship_all-n.auto.out ∙ c.zero.auto.out)

pub returns-then-out-n : goal.returns-then-out-n
returns-then-out-n c =
    send_full (ship_all c.args.kind c.args.src.now) c.args.out.now _ c.zero.ensures _ _ c.ship_all-n.ensures c.if-n-gt-LONGEST_TEXT.false c.if-out-n.true _ c.zero-then-out-n.ensures (c.ship_all-n.auto.out ∙ c.zero.auto.out)

pub returns : goal.returns
returns c =
    send_right (ship_all c.args.kind c.args.src.now) c.args.out.now _ c.zero.ensures _ _ c.ship_all-n.ensures c.if-n-gt-LONGEST_TEXT.false c.if-out-n.false (c.ship_all-n.auto.out ∙ c.zero.auto.out)
