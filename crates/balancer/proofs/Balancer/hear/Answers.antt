-- What was told is what the bytes say.
use Rattle.std.proofs.Common.{subst}
use Rattle.edge.specs.Posts.{mails_of, Does}
use Rattle.balancer.specs.Rules.{links_of}
use Rattle.balancer.specs.Bytes.{does, hears_bytes}
use Rattle.balancer.proofs.Steps.{knows_news}
use Rattle.balancer.proofs.Balancer.hear.Goals as goal

pub returns-in-Told : goal.returns-in-Told
returns-in-Told c =
    let B = c.args.self.now.buckets.count in
    let from = c.args.from in
    let bs = c.args.bytes.now in
    let known = links_of c.args.self.now in
    let known' = links_of c.told_by.new.self in
    let r = c.told_by.result in
    let out = mails_of c.args.out.now in
    let out' = mails_of c.told_by.new.out in
    let done : Does (hears_bytes B from bs known) r known known' out out' =
    subst (λ s. Does (does B from bs known s) r known known' out out') c.in-Told.ensures c.told_by.ensures.does in
    record {
      does = done;
      news = knows_news B from bs known known' r out out' done;
      buckets = c.told_by.ensures.buckets;
    }
