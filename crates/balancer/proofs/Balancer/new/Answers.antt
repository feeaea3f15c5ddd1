-- As many links as servers, and as many servers as buckets.
use Rattle.std.proofs.Common.{length, ap, arith}
use Rattle.std.proofs.lemmas.List.{length-map}
use Rattle.balancer.specs.Rules.{first_link}
use Rattle.balancer.proofs.Balancer.new.Goals as goal

pub invariant_of-result : goal.invariant_of-result
invariant_of-result c =
    record { one_each = omega (arith, c.in_ok-links.links.ok.0, ap length c.in_ok-links.ensures, length-map c.args.assignment.now first_link) }
