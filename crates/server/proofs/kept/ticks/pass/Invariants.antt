-- Those so far are older, the others are as they were.
use Rattle.std.proofs.Common.{◌≡◌, ◌++◌, map, take, drop}
use Rattle.server_bucket.specs.Rules.{passed}
use Rattle.server_bucket.specs.Kept.{holding}
use Rattle.server.proofs.kept.ticks.pass.Given as goal

abbrev pub invariant-loop-bucket : goal.invariant-loop-bucket
invariant-loop-bucket l = map holding l.held ≡ map (passed l.ticks) (take l.bucket-index (map holding l.initial.held)) ++ drop l.bucket-index (map holding l.initial.held)
