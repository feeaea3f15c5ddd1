-- A fault is answered, and nothing has changed.
use Rattle.machine.specs.Outboxes.{sent_of}
use Rattle.edge.specs.Posts.{mails_of}
use Rattle.server.specs.Kept.{keeping, sessions_of}
use Rattle.server.specs.Rules.{told}
use Rattle.server_edge.proofs.Steps.{told_stopped}
use Rattle.server_edge.proofs.tell.Goals as goal

pub returns : goal.returns
returns c =
    let was = c.args.server.now in
    let is = c.told.new.self in
    told_stopped (told c.args.from c.args.control (keeping was) (sessions_of was)) c.in-Err.error c.args.from c.args.bytes.now c.refuse_for.result (keeping was) (keeping is)
    (sessions_of was) (sessions_of is) (sent_of c.new-outbox.result) (sent_of c.told.new.out) (mails_of c.args.out.now) (mails_of c.refuse_for.new.out)
    c.in-Err.ensures.did c.told.ensures.sessions c.refuse_for.ensures
