-- The contract is the theorem.
use Rattle.bucket.proofs.Runs.{runs}
use Rattle.bucket.proofs.runs_exist.Goals as goal

pub returns : goal.returns
returns c = runs
