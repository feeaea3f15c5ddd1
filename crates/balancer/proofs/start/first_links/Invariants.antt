-- Place 1 of the buckets so far.
use Rattle.std.proofs.Common.{◌≡◌, take, vec_items}
use Rattle.balancer.specs.Rules.{first_links}
use Rattle.balancer.proofs.start.first_links.Given as goal

abbrev pub invariant-loop-number : goal.invariant-loop-number
invariant-loop-number l = vec_items l.links ≡ first_links (take l.number-index l.servers)
