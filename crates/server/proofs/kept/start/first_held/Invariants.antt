-- The buckets so far.
use Rattle.std.proofs.Common.{◌≡◌, map, take, vec_items}
use Rattle.server_bucket.specs.Kept.{holding}
use Rattle.server.specs.Rules.{first_holdings}
use Rattle.server.proofs.kept.start.first_held.Given as goal

abbrev pub invariant-loop-server : goal.invariant-loop-server
invariant-loop-server l = map holding (vec_items l.held) ≡ first_holdings l.number (take l.server-index l.assignment)
