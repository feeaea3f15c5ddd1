-- As many buckets as servers in the list.
use Rattle.std.proofs.Common.{vec_items, arith}
use Rattle.server.proofs.Started.{one_each}
use Rattle.server.proofs.kept.Server.new.Goals as goal

pub invariant_of-result : goal.invariant_of-result
invariant_of-result c =
    let held = c.in_ok-held.held in
    record { one_each = omega (arith, held.ok.0, one_each c.args.number c.args.assignment.now (vec_items held) c.in_ok-held.ensures) }
