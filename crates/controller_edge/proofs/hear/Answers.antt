-- What was read is what the bytes say.
use Rattle.std.proofs.Common.{◌≡◌, length, ap, ◌∙◌, subst}
use Rattle.machine.specs.Outboxes.{sent_of}
use Rattle.edge.specs.declared.sort.Role.TheVariants as role
use Rattle.edge.specs.Posts.{mails_of}
use Rattle.edge.specs.Sorts.{sort_of, sort}
use Rattle.controller.specs.Kept.{ruling}
use Rattle.controller_edge.specs.Bytes.{posting, stepped, Hears}
use Rattle.controller_edge.proofs.Steps.{done, stopped}
use Rattle.controller_edge.proofs.hear.Goals as goal

pub returns-in-Ok : goal.returns-in-Ok
returns-in-Ok c =
    let from = c.args.from in
    let bs = c.args.bytes.now in
    let k = ruling c.args.controller.now in
    let k' = ruling c.step.new.controller in
    let was = mails_of c.args.out.now in
    let after = mails_of c.send_all.new.out in
    let s = sort_of c.sort-sorted.result in
    let e : s ≡ sort role.Controller from (length k.charges) bs = c.sort-sorted.ensures ∙ ap (λ n. sort role.Controller from n bs) c.buckets.ensures in
    subst (λ x. Hears (posting from bs k (stepped from k x)) c.send_all.result k k' was after) e
    (done (stepped from k s) from bs c.send_all.result k k' (sent_of c.new-outbox.result) (sent_of c.step.new.outbox) c.sent.result.now was after
    c.in-Ok.ensures c.new-outbox.ensures c.sent.ensures c.send_all.ensures)

pub returns : goal.returns
returns c =
    let from = c.args.from in
    let bs = c.args.bytes.now in
    let k = ruling c.args.controller.now in
    let k' = ruling c.step.new.controller in
    let was = mails_of c.args.out.now in
    let after = mails_of c.refuse_for.new.out in
    let s = sort_of c.sort-sorted.result in
    let e : s ≡ sort role.Controller from (length k.charges) bs = c.sort-sorted.ensures ∙ ap (λ n. sort role.Controller from n bs) c.buckets.ensures in
    subst (λ x. Hears (posting from bs k (stepped from k x)) c.refuse_for.result k k' was after) e
    (stopped (stepped from k s) c.in-Err.error from bs c.refuse_for.result k k' (sent_of c.new-outbox.result) (sent_of c.step.new.outbox) was after
    c.in-Err.ensures c.refuse_for.ensures)
