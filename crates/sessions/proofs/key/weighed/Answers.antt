-- One product and one sum, each of 64 bits.
use Rattle.std.proofs.Common.{refl}
use Rattle.sessions.specs.Keys.{weigh}
use Rattle.sessions.proofs.key.weighed.Goals as goal

pub returns : goal.returns
unfolding weigh
returns c = refl
