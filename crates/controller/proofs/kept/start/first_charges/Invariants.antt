-- The buckets so far.
use Rattle.std.proofs.Common.{◌≡◌, map, take, vec_items}
use Rattle.controller_bucket.specs.Rules.{charge_first}
use Rattle.controller_bucket.specs.Kept.{charge}
use Rattle.controller.proofs.kept.start.first_charges.Given as goal

abbrev pub invariant-loop-server : goal.invariant-loop-server
invariant-loop-server l = map charge (vec_items l.charges) ≡ map charge_first (take l.server-index l.assignment)
