-- One balancer after the other.
use Rattle.std.proofs.Common.{◌+◌, ◌++◌, map, drop, sym, refl, ap, ◌∙◌, arith}
use Rattle.machine.specs.Outboxes.{sent_of}
use Rattle.controller_bucket.specs.Rules.{door_to}
use Rattle.controller_bucket.proofs.Walk.{said_more, said_all, doors_are}
use Rattle.controller_bucket.proofs.kept.Bucket.say_doors.Goals as goal

pub loop-balancer-init : goal.loop-balancer-init
loop-balancer-init c = (refl, omega arith)

pub put-requires : goal.put-requires
put-requires c = omega (arith, c.loop-balancer.invariant.1, c.deref-balancer-items.ensures.len)

pub loop-balancer-preserved : goal.loop-balancer-preserved
loop-balancer-preserved c =
    let said = door_to c.args.bucket c.newest-newest.result in
    let all = c.deref-balancer-items.result.now in (
      ap (λ o. o ++ map said (drop (c.loop-balancer.balancer-index + 1) all)) c.put.ensures.items
          ∙ (said_more said (sent_of c.loop-balancer.out) all c.loop-balancer.balancer-index _ (omega arith) ∙ c.loop-balancer.invariant.0),
      omega (arith, c.loop-balancer.invariant.1, c.put.ensures.room),
    )

pub returns : goal.returns
returns c =
    let said = door_to c.args.bucket c.newest-newest.result in
    let all = c.deref-balancer-items.result.now in record {
      sent = sym (said_all said (sent_of c.loop-balancer.out) all c.loop-balancer.balancer-index (omega arith)) ∙ (c.loop-balancer.invariant.0
          ∙ doors_are c.args.bucket _ _ _ _ (sent_of c.args.out.now) c.newest-newest.ensures c.deref-balancer-items.ensures.value);
      room = omega (arith, c.loop-balancer.invariant.1, c.deref-balancer-items.ensures.len);
    }
