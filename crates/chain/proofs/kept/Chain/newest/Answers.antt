-- The newest is the array's first.
use Rattle.std.proofs.Common.{arith}
use Rattle.chain.proofs.Front.{newest_first}
use Rattle.chain.proofs.kept.Chain.newest.Goals as goal

pub returns : goal.returns
returns c = newest_first c.args.self.now.links c.args.self.now.len (omega arith)
