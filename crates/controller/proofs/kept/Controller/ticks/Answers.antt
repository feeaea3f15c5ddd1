-- All buckets are later.
use Rattle.std.proofs.Common.{map, ap, ◌∙◌, arith}
use Rattle.std.proofs.lemmas.List.{with_items_is}
use Rattle.machine.specs.Outboxes.{sent_of}
use Rattle.controller_bucket.specs.Rules as bucket
use Rattle.controller_bucket.specs.Kept.{charge}
use Rattle.controller.specs.Kept.{ruling}
use Rattle.controller.proofs.Ruled.{later_is, due_is, due_done}
use Rattle.flow.proofs.Powers.{counted}
use Rattle.controller.proofs.kept.Controller.ticks.Goals as goal

pub say_due-requires : goal.say_due-requires
say_due-requires c = omega (arith, c.as_slice.ensures.len, c.args.self.now.one_each, counted c.args.self.now.buckets.count c.args.self.now.buckets.ok)

pub returns : goal.returns
returns c =
    let k = ruling c.args.self.now in
    let same = with_items_is c.args.self.now.charges c.pass.new.charges (omega (arith, c.as_mut_slice.ensures.len, c.pass.auto.charges)) in (
      later_is k c.args.count _ _ (ap (map charge) same ∙ (c.pass.ensures ∙ ap (λ cs. map (bucket.passed c.args.count) (map charge cs)) c.as_mut_slice.ensures.value)) (rw c.in_ok-clock.ensures.ok_part at c.advanced.ensures),
      due_is k c.args.count (map charge c.as_slice.result.now) (sent_of c.args.out.now) _ (ap (map charge) c.as_slice.ensures.value) (due_done _ _ c.say_due.result c.if-is_err.ensures.value c.say_due.ensures),
    )
