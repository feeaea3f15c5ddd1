-- One message after the other; where memory is short, what was posted before.
use Rattle.std.proofs.Common.{◌++◌, map, ap, ◌∙◌, arith}
use Rattle.std.proofs.lemmas.List.{take_all}
use Rattle.edge.specs.Posts.{mails_of}
use Rattle.edge.specs.Admission.{mail_in}
use Rattle.edge.proofs.Sending.{one_more, cut_back}
use Rattle.edge.proofs.send.send_all.Goals as goal

pub returns-in-Err : goal.returns-in-Err
returns-in-Err c =
    cut_back (map mail_in c.args.all.now) _ c.in-Err.short (mails_of c.args.out.now) (mails_of c.loop-sent.out) (mails_of c.send.new.out) (mails_of c.truncate.new.self)
    c.len-start.result c.loop-sent.invariant c.in-Err.ensures c.truncate.ensures c.len-start.ensures

pub loop-sent-preserved : goal.loop-sent-preserved
loop-sent-preserved c =
    one_more (mails_of c.args.out.now) (mails_of c.loop-sent.out) (mails_of c.send.new.out) c.args.all.now c.loop-sent.sent-index _ (omega arith)
    c.loop-sent.invariant c.in_default.ensures

pub returns : goal.returns
returns c = c.loop-sent.invariant ∙ ap (λ l. mails_of c.args.out.now ++ map mail_in l) (take_all c.loop-sent.sent-index c.args.all.now (omega arith))
