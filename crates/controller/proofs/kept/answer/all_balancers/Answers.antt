-- One balancer more.
use Rattle.std.proofs.Common.{arith}
use Rattle.controller.specs.Rules.{up_from}
use Rattle.controller.proofs.Walks.{ups_more}
use Rattle.controller.proofs.kept.answer.all_balancers.Goals as goal

pub loop-balancer-init : goal.loop-balancer-init
unfolding up_from
loop-balancer-init c = (c.new-balancers.ensures.items, c.new-balancers.ensures.len)

pub loop-balancer-preserved : goal.loop-balancer-preserved
loop-balancer-preserved c =
    (ups_more c.loop-balancer.balancer _ _ c.loop-balancer.invariant.0 c.in_ok-push.ensures.items, omega (arith, c.in_ok-push.ensures.len, c.loop-balancer.invariant.1))
