-- The derived test of flows is that of the definition.
use Rattle.std.proofs.Common.{rules}
use Rattle.flow.specs.Key.{same_flow}
use Rattle.flow.proofs.Same.{protocols_same}
use Rattle.stage.proofs.session.Session.is_for.Goals as goal

pub returns : goal.returns
unfolding same_flow
returns c = search (rules, protocols_same)
