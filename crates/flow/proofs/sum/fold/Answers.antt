-- The mask is a remainder.
use Rattle.std.proofs.lemmas.Nat.{and_mask}
use Rattle.flow.proofs.sum.fold.Goals as goal

pub returns : goal.returns
returns c = rw (and_mask c.args.sum 16)
