-- The first that is the balancer's is taken out.
use Rattle.std.proofs.Common.{sym, ◌∙◌}
use Rattle.controller_bucket.proofs.Walk.{struck_at, struck_none}
use Rattle.controller_bucket.proofs.kept.ops.strike.Goals as goal

pub returns-in-Some : goal.returns-in-Some
returns-in-Some c = c.remove.ensures.items ∙ struck_at c.args.balancer _ _ c.in-Some.i c.as_slice.ensures.value (sym c.in-Some.is ∙ c.position_of.ensures)

pub returns-in_default : goal.returns-in_default
returns-in_default c = struck_none c.args.balancer _ _ c.as_slice.ensures.value (sym c.in_default.is ∙ c.position_of.ensures)
