-- By the message: one bucket changes.
use Rattle.std.proofs.Common.{◌<◌, length, vec_items, Ok, sym, ap, ◌∙◌, subst, arith}
use Rattle.std.proofs.lemmas.List.{length-map}
use Rattle.std.proofs.lemmas.Bool.{ltb-true}
use Rattle.wire.specs.Controls.{bucket_in}
use Rattle.machine.specs.Outboxes.{sent_of}
use Rattle.controller_bucket.specs.Rules as bucket
use Rattle.controller_bucket.specs.Rules.{charge_first}
use Rattle.controller_bucket.specs.Kept.{charge, Goes}
use Rattle.controller.specs.Rules.{assigned_at, all_balancers}
use Rattle.controller.specs.Kept.{ruling}
use Rattle.controller.proofs.Ruled.{with_charges, ruled, goes, assigned_is, told_as}
use Rattle.controller.proofs.Heard.{heard_stand, heard_behind, heard_door}
use Rattle.controller.proofs.kept.Controller.heard.Goals as goal

pub returns-in_ok-make_room-in-Stand : goal.returns-in_ok-make_room-in-Stand
returns-in_ok-make_room-in-Stand c =
    let k = ruling c.args.self.now in
    let cs = vec_items c.args.self.now.charges in
    let b = c.in-Stand.bucket in
    let said = c.bucket-bucket.ensures ∙ ap bucket_in c.in-Stand.is in
    let is = c.from.ensures ∙ said in
    let at = c.in-Some.ensures.item in
    let here : b < length cs = rw is at (ltb-true c.from.result (length cs) (sym at.0)) in
    let g = goes cs c.from.result b c.in-Some.charge.now c.stood.new.self (charge_first 0) (bucket.stood b c.in-Stand.place)
    (sent_of c.args.out.now) (sent_of c.make_room.new.self) (sent_of c.stood.new.out) is here at.1 c.make_room.ensures.same
    (subst (λ n. Goes (bucket.stood n c.in-Stand.place (charge c.in-Some.charge.now)) (charge c.stood.new.self) (sent_of c.make_room.new.self) (sent_of c.stood.new.out)) said c.stood.ensures.goes) in
    heard_stand c.args.from c.args.control b c.in-Stand.place c.in-Stand.before k _ (sent_of c.args.out.now) (sent_of c.stood.new.out) (Ok tt) c.in-Stand.is
    (omega (arith, length-map cs charge, here)) (ap (with_charges k) g.0, g.1)

pub returns-in_ok-make_room-in-Behind : goal.returns-in_ok-make_room-in-Behind
returns-in_ok-make_room-in-Behind c =
    let k = ruling c.args.self.now in
    let cs = vec_items c.args.self.now.charges in
    let b = c.in-Behind.bucket in
    let said = c.bucket-bucket.ensures ∙ ap bucket_in c.in-Behind.is in
    let is = c.from.ensures ∙ said in
    let at = c.in-Some.ensures.item in
    let here : b < length cs = rw is at (ltb-true c.from.result (length cs) (sym at.0)) in
    let s = assigned_is b k c.server_at-assigned.result c.bucket-bucket.result _ c.server_at-assigned.ensures c.assignment.ensures said in
    let g = goes cs c.from.result b c.in-Some.charge.now c.told.new.self (charge_first 0) (bucket.told b (assigned_at b k) (all_balancers k) c.in-Behind.place c.in-Behind.after)
    (sent_of c.args.out.now) (sent_of c.make_room-in-Behind.new.self) (sent_of c.told.new.out) is here at.1 c.make_room-in-Behind.ensures.same
    (told_as b _ _ _ _ c.in-Behind.place c.in-Behind.after (charge c.in-Some.charge.now) (charge c.told.new.self) (sent_of c.make_room-in-Behind.new.self) (sent_of c.told.new.out) s c.in_ok-balancers-in-Behind.ensures.0
    (subst (λ n. Goes (bucket.told n c.server_at-assigned.result (vec_items c.in_ok-balancers-in-Behind.balancers) c.in-Behind.place c.in-Behind.after (charge c.in-Some.charge.now)) (charge c.told.new.self) (sent_of c.make_room-in-Behind.new.self) (sent_of c.told.new.out)) said c.told.ensures)) in
    heard_behind c.args.from c.args.control b c.in-Behind.place c.in-Behind.after k _ (sent_of c.args.out.now) (sent_of c.told.new.out) (Ok tt) c.in-Behind.is
    (omega (arith, length-map cs charge, here)) (ap (with_charges k) g.0, g.1)

pub returns-in-Balancer : goal.returns-in-Balancer
returns-in-Balancer c =
    let k = ruling c.args.self.now in
    let cs = vec_items c.args.self.now.charges in
    let b = c.in-Door.bucket in
    let said = c.bucket-bucket.ensures ∙ ap bucket_in c.in-Door.is in
    let is = c.from.ensures ∙ said in
    let at = c.in-Some.ensures.item in
    let here : b < length cs = rw is at (ltb-true c.from.result (length cs) (sym at.0)) in
    heard_door c.args.from c.args.control b c.in-Door.newest k _ (sent_of c.args.out.now) c.in-Door.is
    (omega (arith, length-map cs charge, here))
    (rw c.in-Balancer.is (ap (with_charges k)
    (ruled cs c.from.result b c.in-Some.charge.now c.heard.new.self (charge_first 0) (bucket.heard c.in-Balancer.balancer c.in-Door.newest) is here at.1 c.heard.ensures)))
