-- What is refused takes the answer back, and changes nothing.
use Rattle.edge.specs.Posts.{mails_of}
use Rattle.balancer.specs.Rules.{links_of}
use Rattle.balancer.proofs.Steps.{told_refused, cut_back}
use Rattle.balancer.proofs.Balancer.learn.Goals as goal

pub returns-in-Err : goal.returns-in-Err
returns-in-Err c =
    let back = cut_back (mails_of c.args.out.now) (mails_of c.put.new.self) (mails_of c.truncate.new.self) _ c.len-start.result
    c.in_ok-put.ensures c.truncate.ensures c.len-start.ensures in
    record {
      does = told_refused c.args.from c.args.bucket c.args.newest c.args.bytes.now c.in-Err.fault (links_of c.args.self.now) (links_of c.told.new.self)
          c.refuse.result (mails_of c.args.out.now) (mails_of c.truncate.new.self) (mails_of c.refuse.new.out) c.in-Err.ensures.links back c.refuse.ensures;
      buckets = c.told.ensures.buckets;
    }
