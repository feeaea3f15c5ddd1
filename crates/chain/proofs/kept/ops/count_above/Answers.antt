-- The places above are the first ones.
use Rattle.std.proofs.Common.{rules}
use Rattle.chain.proofs.Front.{above_first}
use Rattle.chain.proofs.kept.ops.count_above.Goals as goal

pub returns : goal.returns
returns c = rw (← above_first c.args.place c.args.links.now) (search rules)
