-- Both laws of a whole message.
use Rattle.wire.proofs.Cuts.{cut, too_many}
use Rattle.wire.proofs.laws.whole.Goals as goal

pub returns : goal.returns
returns c = record { cut = cut; more = too_many }
