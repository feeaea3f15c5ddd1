-- Forgotten: answered and obeyed.
use Rattle.std.proofs.Common.{◌<◌, [], ◌∷◌, ◌++◌, length, vec_items, sym, refl, ap, ◌∙◌, subst, arith}
use Rattle.std.proofs.lemmas.List.{length-map, with_items_is}
use Rattle.std.proofs.lemmas.Bool.{ltb-true}
use Rattle.wire.specs.declared.message.Control.TheVariants.{Forgotten}
use Rattle.wire.specs.Controls.{bucket_in}
use Rattle.machine.specs.declared.sent.Note.TheVariants.{Answer}
use Rattle.machine.specs.Outboxes.{sent_of}
use Rattle.controller_bucket.specs.Rules.{charge_first, forgotten}
use Rattle.controller_bucket.specs.Kept.{charge, Answers}
use Rattle.controller.specs.Kept.{ruling}
use Rattle.controller.proofs.Ruled.{newest_at, assigned_is, charge_here, ruled, both}
use Rattle.controller.proofs.Forgets.{forgets_some, parted_is}
use Rattle.controller.proofs.Heard.{forgotten_told}
use Rattle.controller.proofs.kept.Controller.told.Goals as goal

pub returns : goal.returns
returns c =
    let k = ruling c.args.self.now in
    let cs = vec_items c.args.self.now.charges in
    let b = c.in-Forgotten.bucket in
    let place = c.in-Forgotten.place in
    let c' = Forgotten b place c.in-Forgotten.after in
    let said = c.bucket-bucket.ensures ∙ ap bucket_in c.in-Forgotten.is in
    let is = c.from.ensures ∙ said in
    let at = rw c.in_ok-charge.ensures.ok_part at c.get_mut.ensures.item in
    let here : b < length cs = rw is at (ltb-true c.from.result (length cs) (sym at.0)) in
    let l = newest_at cs c.from.result b c.in_ok-charge.charge.now (charge_first 0) c.newest.result is here at.1 c.newest.ensures in
    let s = assigned_is b k c.server_at-assigned.result c.bucket-bucket.result _ c.server_at-assigned.ensures c.assignment.ensures said in
    let ch = charge_here cs c.from.result b c.in_ok-charge.charge.now (charge_first 0) is here at.1 in
    let w = c.put.ensures.items ∙ ap (λ o. o ++ record { to = c.args.from; note = Answer c' } ∷ []) c.make_room.ensures.same in
    let f = forgets_some c.args.from c' b place k c.server_at-assigned.result (charge c.in_ok-charge.charge.now) (charge c.forgotten.new.self) c.newest.result c.forgotten.result
    (sent_of c.args.out.now) (sent_of c.put.new.self) (sent_of c.forgotten.new.out) s ch l c.if-place-newest.false
    (subst (λ n. Answers (forgotten n c.server_at-assigned.result place (charge c.in_ok-charge.charge.now)) c.forgotten.result (charge c.in_ok-charge.charge.now) (charge c.forgotten.new.self) (sent_of c.put.new.self) (sent_of c.forgotten.new.out)) said c.forgotten.ensures) w in
    let same = with_items_is c.args.self.now.parted c.part.new.parted (omega (arith, c.as_mut_slice.ensures.len, c.part.auto.parted)) in
    let p = parted_is b place k c.now.result c.links.result.now c.as_mut_slice.result.now _ (charge c.in_ok-charge.charge.now) c.now.ensures c.links.ensures ch c.as_mut_slice.ensures.value (same ∙ c.part.ensures) in
    let r = ruled cs c.from.result b c.in_ok-charge.charge.now c.forgotten.new.self (charge_first 0) (λ _. charge c.forgotten.new.self) is here at.1 refl in
    forgotten_told c.args.from c.args.control b place c.in-Forgotten.after k _ (sent_of c.args.out.now) (sent_of c.forgotten.new.out) _ c.in-Forgotten.is
    (omega (arith, length-map cs charge, here)) (both k _ _ _ _ r p ∙ f.0, f.1)
