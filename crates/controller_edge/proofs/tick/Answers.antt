-- The clock holds the sum, so that the ticks are not refused.
use Rattle.std.proofs.Common.{arith}
use Rattle.machine.specs.Outboxes.{sent_of}
use Rattle.controller.specs.Kept.{ruling}
use Rattle.controller_edge.proofs.Steps.{in_time}
use Rattle.controller_edge.proofs.tick.Goals as goal

pub returns : goal.returns
returns c =
    in_time c.args.count c.ticks.result (ruling c.args.controller.now) (ruling c.ticks.new.self) (sent_of c.args.outbox.now) (sent_of c.ticks.new.out)
    (omega (arith, c.from.ensures, c.now.ensures)) c.ticks.ensures
