-- One more moves up.
use Rattle.std.proofs.Common.{◌∙◌, arith}
use Rattle.places.proofs.Moved.{carried, at_end}
use Rattle.places.proofs.newest.move_up.Goals as goal

pub loop-item-preserved : goal.loop-item-preserved
loop-item-preserved g c =
    rw (c.swap.ensures.x_after, c.swap.ensures.y_after) (carried c.loop-item.items c.loop-item.item-index c.loop-item.next c.item-item.result (omega (arith, c.loop-item.auto.items, c.loop-item-test.true)) ∙ c.loop-item.invariant)

pub returns : goal.returns
returns g c = at_end c.loop-item.items c.loop-item.item-index c.loop-item.next (omega (arith, c.loop-item.auto.items, c.loop-item-test.false)) ∙ c.loop-item.invariant
