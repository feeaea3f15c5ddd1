use Rattle.settings.proofs.First.{first_fault}
use Rattle.settings.proofs.laws.first_fault.Goals as goal

pub returns : goal.returns
returns c = first_fault
