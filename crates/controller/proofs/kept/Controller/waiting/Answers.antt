-- There are at most 65,536 buckets.
use Rattle.std.proofs.Common.{arith}
use Rattle.flow.proofs.Powers.{counted}
use Rattle.controller.proofs.kept.Controller.waiting.Goals as goal

pub put_off-requires : goal.put_off-requires
put_off-requires c = omega (arith, c.as_slice.ensures.len, c.args.self.now.one_each, counted c.args.self.now.buckets.count c.args.self.now.buckets.ok)
