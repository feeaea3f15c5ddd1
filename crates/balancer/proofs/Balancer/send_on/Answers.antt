-- A packet that is no such packet goes back.
use Rattle.std.proofs.Common.{vec_items}
use Rattle.edge.specs.Posts.{mails_of}
use Rattle.balancer.specs.Rules.{links_of, sends}
use Rattle.balancer.proofs.Steps.{packet_stopped}
use Rattle.balancer.proofs.Balancer.send_on.Goals as goal

pub returns-in-Err : goal.returns-in-Err
returns-in-Err c =
    packet_stopped (sends c.args.self.now.buckets.count (links_of c.args.self.now) c.args.packet.now) c.in-Err.error c.args.packet.now
    (vec_items c.new-bytes.result) (vec_items c.dispatch.new.out) c.refuse_for.result (mails_of c.args.out.now) (mails_of c.refuse_for.new.out)
    c.in-Err.ensures c.refuse_for.ensures
