-- The contract is the theorem.
use Rattle.bucket.proofs.NearMisses.{near_misses}
use Rattle.bucket.proofs.near_misses_break.Goals as goal

pub returns : goal.returns
returns c = near_misses
