-- The contract is the runs of Played.antt.
use Rattle.whole.proofs.Played.{runs}
use Rattle.whole.proofs.runs_exist.Goals as goal

pub returns : goal.returns
returns c = runs
