-- What the handover waits for, and the balancers.
use Rattle.std.proofs.Common.{ap, ◌∙◌}
use Rattle.machine.specs.Outboxes.{sent_of}
use Rattle.controller_bucket.specs.Kept.{charge}
use Rattle.controller_bucket.proofs.Walk.{due_said, said_yes, said_no}
use Rattle.controller_bucket.proofs.kept.Bucket.due.Goals as goal
use Rattle.controller_bucket.proofs.kept.Bucket.due.Goals.{then-is_due, else-is_due}

pub returns-then-is_due-2 : goal.returns-then-is_due-2
returns-then-is_due-2 c =
    let b = c.args.bucket in
    let t = c.args.ticks in
    let k = charge c.args.self.now in
    due_said b t k (sent_of c.args.out.now) (sent_of c.if-is_due.out) _
    (elim c.if-is_due.branch [
      | then-is_due w ↦ said_yes b t k (sent_of c.args.out.now) _ _ w.if-is_due.ensures c.make_room.ensures.same (ap sent_of w.out-is ∙ w.say_awaited.ensures.sent)
      | else-is_due w ↦ said_no b t k (sent_of c.args.out.now) _ _ w.if-is_due.ensures c.make_room.ensures.same (ap sent_of w.out-is)
    ]) c.if-is_due-2.ensures c.say_doors.ensures.sent
