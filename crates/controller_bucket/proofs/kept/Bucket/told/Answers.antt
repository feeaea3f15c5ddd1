-- The handover is done.
use Rattle.std.proofs.Common.{vec_items}
use Rattle.chain.specs.Kept.{control}
use Rattle.machine.specs.Outboxes.{sent_of}
use Rattle.controller_bucket.specs.Kept.{charge}
use Rattle.controller_bucket.proofs.Walk.{told_goes}
use Rattle.controller_bucket.proofs.kept.Bucket.told.Goals as goal

pub returns : goal.returns
returns c =
    told_goes c.args.bucket c.args.server (vec_items c.args.balancers) c.args.place c.args.after (charge c.args.self.now) (control c.told.new.self)
    (sent_of c.args.out.now) (sent_of c.say_doors.new.out) (sent_of c.begun.new.out) (charge c.begun.new.self) c.if-not-told.ensures c.say_doors.ensures.sent c.begun.ensures.goes
