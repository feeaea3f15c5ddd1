-- The slot is the definition's, one weighed part after the other.
use Rattle.sessions.specs.Keys.{slot_of}
use Rattle.sessions.proofs.key.Key.slot.Goals as goal

pub returns : goal.returns
unfolding slot_of
returns c = cc
