-- Open nowhere, or closed where it is.
use Rattle.std.proofs.Common.{vec_items, sym, ap, ◌∙◌, arith}
use Rattle.machine.specs.Outboxes.{sent_of}
use Rattle.server.specs.Kept.{sessions_of}
use Rattle.server.proofs.Closed.{open_in, closed_nowhere, closed_there}
use Rattle.server.proofs.kept.Server.close.Goals as goal

pub returns-in_default : goal.returns-in_default
returns-in_default c =
    let was = c.args.self.now in
    let bs = vec_items was.held in
    closed_nowhere c.args.flow _ _ _ was.buckets.count c.bucket-bucket.result (sessions_of was) bs c.index.result.now (sent_of c.args.out.now)
    (omega (arith, was.held.ok.0)) c.bucket-bucket.ensures.value (omega (arith, was.held.ok.0, c.bucket-bucket.ensures.below)) (rw (sym c.from.ensures) c.index.ensures)
    (sym c.in_default.is ∙ (c.open_at.ensures ∙ ap (open_in c.bucket-bucket.result c.args.flow (sessions_of was)) c.standing-standing.ensures))

pub returns : goal.returns
returns c =
    let was = c.args.self.now in
    let bs = vec_items was.held in
    closed_there c.args.flow _ _ _ was.buckets.count c.bucket-bucket.result c.in-Some.key (sessions_of was) _ _ bs c.index.result.now _ _ (sent_of c.make_room.new.self) _
    (omega (arith, was.held.ok.0)) c.bucket-bucket.ensures.value (omega (arith, was.held.ok.0, c.bucket-bucket.ensures.below)) (rw (sym c.from.ensures) c.index.ensures)
    (sym c.in-Some.is ∙ (c.open_at.ensures ∙ ap (open_in c.bucket-bucket.result c.args.flow (sessions_of was)) c.standing-standing.ensures))
    c.close.ensures.rest c.empty.ensures.sessions c.make_room.ensures.same c.empty.ensures.kept c.empty.ensures.sent
