-- The table.
use Rattle.assignment.proofs.Worked.{worked_cases}
use Rattle.assignment.proofs.laws.worked_cases.Goals as goal

pub returns : goal.returns
returns c = worked_cases
