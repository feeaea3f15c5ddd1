-- The contract is the theorem of Main.antt.
use Rattle.whole.proofs.Main.{whole}
use Rattle.whole.proofs.every_run_keeps_sessions.Goals as goal

pub returns : goal.returns
returns c = whole
