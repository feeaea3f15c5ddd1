-- The tally of the place is one lower, or gone, or there was none.
use Rattle.std.proofs.Common.{vec_items, ap, ◌∙◌, arith, rules}
use Rattle.sessions.specs.Tallies.{tallied_in}
use Rattle.sessions.proofs.Sums.{lowered_set, lowered_removed, lowered_none}
use Rattle.sessions.proofs.tally.lower.Goals as goal

pub returns-in_default : goal.returns-in_default
returns-in_default c q = lowered_none c.args.place (vec_items c.args.tallies.now) (search rules) q

pub returns-then-index-gt1 : goal.returns-then-index-gt1
returns-then-index-gt1 c q = lowered_set c.args.place (vec_items c.args.tallies.now) c.in-Some.i c.index_mut.result.now (search rules) c.index_mut.ensures.value q

pub returns-else-index-gt1 : goal.returns-else-index-gt1
returns-else-index-gt1 c q =
    ap (tallied_in q) c.remove.ensures.items
    ∙ lowered_removed c.args.place (vec_items c.args.tallies.now) c.in-Some.i c.index.result.now (search rules) c.index.ensures (omega arith) q
