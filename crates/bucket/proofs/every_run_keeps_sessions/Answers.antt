-- The contract is the theorem of Main.antt.
use Rattle.bucket.proofs.Main.{main}
use Rattle.bucket.proofs.every_run_keeps_sessions.Goals as goal

pub returns : goal.returns
returns c = main
