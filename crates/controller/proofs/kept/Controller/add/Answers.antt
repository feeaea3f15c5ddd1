-- By the roster's answer.
use Rattle.std.proofs.Common.{map, length, sym, refl, ap, ◌∙◌, arith}
use Rattle.std.proofs.lemmas.List.{with_items_is}
use Rattle.machine.specs.Outboxes.{sent_of}
use Rattle.roster.specs.Rosters.{assignment_of}
use Rattle.controller_bucket.specs.Kept.{charge}
use Rattle.controller.specs.Kept.{ruling}
use Rattle.controller.proofs.Orders.{added_did, begun_as}
use Rattle.controller.proofs.kept.Controller.add.Goals as goal

pub returns-then-servers-count : goal.returns-then-servers-count
returns-then-servers-count c =
    let k = ruling c.args.self.now in
    let b = c.add.new.self in
    let same = with_items_is c.args.self.now.charges c.begin_all.new.charges (omega (arith, c.as_mut_slice.ensures.len, c.begin_all.auto.charges)) in
    let g = begun_as k (assignment_of b) _ _ _ (sent_of c.args.out.now) (sent_of c.make_room.new.self) (sent_of c.begin_all.new.out) c.assignment.ensures (ap (map charge) c.as_mut_slice.ensures.value) c.make_room.ensures.same
    (ap (map charge) same ∙ c.begin_all.ensures.charges) c.begin_all.ensures.sent in
    added_did c.args.server k c.args.self.now.roster b c.in_ok-add.field-0 _ (sent_of c.args.out.now) (sent_of c.begin_all.new.out) c.in_ok-add.ensures.added c.in_ok-add.ensures.whole (λ e. c.if-servers-count.true (ap length c.servers.ensures ∙ (e ∙ sym (ap length c.servers-count.ensures)))) refl refl g.0 g.1
