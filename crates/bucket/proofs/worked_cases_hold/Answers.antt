-- The contract is the theorem.
use Rattle.bucket.proofs.Cases.{worked_cases}
use Rattle.bucket.proofs.worked_cases_hold.Goals as goal

pub returns : goal.returns
returns c = worked_cases
