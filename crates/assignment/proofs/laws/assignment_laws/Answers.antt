-- The three laws.
use Rattle.assignment.proofs.Best.{least_moves, any_quotas}
use Rattle.assignment.proofs.Handovers.{counted_moves}
use Rattle.assignment.proofs.laws.assignment_laws.Goals as goal

pub returns : goal.returns
returns c = record { least = least_moves; quotas = any_quotas; counted = counted_moves }
