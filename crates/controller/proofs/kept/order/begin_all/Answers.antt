-- One bucket more.
use Rattle.std.proofs.Common.{sym, ◌∙◌, arith, length-set}
use Rattle.machine.specs.Outboxes.{sent_of}
use Rattle.controller.proofs.Walks.{begun_more, begun_said, begun_end, begun_all_said}
use Rattle.controller.proofs.kept.order.begin_all.Goals as goal

pub loop-b-preserved : goal.loop-b-preserved
loop-b-preserved c =
    let ns = c.args.assignment.now in
    let cs = c.loop-b.charges in
    let b = c.loop-b.b in
    let x = c.index-charges-b.result in (
      begun_said ns cs b x c.begun.new.self c.server_at.result (sent_of c.loop-b.out) _ (omega (arith, c.loop-b.invariant.2)) (omega (arith, c.requires.0)) c.server_at.ensures c.begun.ensures.goes.1 ∙ c.loop-b.invariant.0,
      begun_more ns cs b x c.begun.new.self c.server_at.result (omega (arith, c.loop-b.invariant.2)) (omega (arith, c.requires.0)) c.server_at.ensures c.begun.ensures.goes.0 ∙ c.loop-b.invariant.1,
      simp length-set c.loop-b.invariant.2,
      omega (arith, c.loop-b.invariant.3, c.begun.ensures.room),
    )

pub returns : goal.returns
returns c =
    let ns = c.args.assignment.now in
    let cs = c.loop-b.charges in record {
      sent = sym (begun_all_said ns cs c.loop-b.b (sent_of c.loop-b.out) (omega (arith, c.loop-b.invariant.2))) ∙ c.loop-b.invariant.0;
      charges = sym (begun_end ns cs c.loop-b.b (omega (arith, c.loop-b.invariant.2))) ∙ c.loop-b.invariant.1;
    }
