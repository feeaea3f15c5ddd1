-- One bucket more.
use Rattle.std.proofs.Common.{sym, ◌∙◌, arith, length-set}
use Rattle.controller.proofs.Walks.{pass_more, pass_end}
use Rattle.controller.proofs.kept.tick.pass.Goals as goal

pub loop-charge-preserved : goal.loop-charge-preserved
loop-charge-preserved c = (
  pass_more c.args.ticks c.loop-charge.charges c.loop-charge.charge-index c.charge-item.result c.passed.new.self (omega (arith, c.loop-charge.invariant.1)) c.passed.ensures
      ∙ c.loop-charge.invariant.0,
  simp length-set c.loop-charge.invariant.1,
)

pub returns : goal.returns
returns c = sym (pass_end c.args.ticks c.loop-charge.charges c.loop-charge.charge-index (omega (arith, c.loop-charge.invariant.1))) ∙ c.loop-charge.invariant.0
