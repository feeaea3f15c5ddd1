-- What holds of every store.
use Rattle.sessions.proofs.Laws.{sound}
use Rattle.sessions.proofs.store.ops.sound.Goals as goal

pub returns : goal.returns
returns c = sound
