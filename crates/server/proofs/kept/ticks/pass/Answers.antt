-- One bucket more is older.
use Rattle.std.proofs.Common.{sym, ap, ◌∙◌}
use Rattle.server_bucket.specs.Rules.{passed}
use Rattle.server_bucket.specs.Kept.{holding}
use Rattle.server.proofs.Ticked.{pass_more}
use Rattle.server.proofs.kept.ticks.pass.Goals as goal

pub loop-bucket-preserved : goal.loop-bucket-preserved
loop-bucket-preserved c =
    pass_more c.args.ticks c.loop-bucket.bucket-index c.loop-bucket.held c.args.held.now c.bucket-item.result c.passed.new.self c.loop-bucket-test.true c.loop-bucket.auto.held c.bucket-item.is
    (c.passed.ensures ∙ ap (λ b. passed c.args.ticks (holding b)) (sym c.bucket-item.is)) c.loop-bucket.invariant
