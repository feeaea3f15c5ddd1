-- The contract is the theorem of Shares.antt.
use Rattle.whole.proofs.Shares.{balanced}
use Rattle.whole.proofs.assignments_are_even.Goals as goal

pub returns : goal.returns
returns c = balanced
