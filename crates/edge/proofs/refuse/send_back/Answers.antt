-- The first of the bytes fit a refusal.
use Rattle.edge.specs.Posts.{mails_of}
use Rattle.edge.proofs.Backs.{take_min, sent}
use Rattle.edge.proofs.refuse.send_back.Goals as goal

pub returns : goal.returns
returns c =
    sent c.args.to c.args.refusal c.args.bytes.now _ c.put.result (mails_of c.args.out.now) (mails_of c.put.new.self)
    (take_min c.args.bytes.now c.min.result 65535 c.min.ensures) c.put.ensures
