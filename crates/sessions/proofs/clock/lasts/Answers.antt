-- The sum of so many counts has 64 bits.
use Rattle.sessions.proofs.Laws.{lasting}
use Rattle.sessions.proofs.clock.lasts.Goals as goal

pub returns : goal.returns
returns c = lasting
