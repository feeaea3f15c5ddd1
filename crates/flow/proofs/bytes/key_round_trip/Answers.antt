-- The round trip of a session's bytes.
use Rattle.flow.proofs.Digits.{key_again}
use Rattle.flow.proofs.bytes.key_round_trip.Goals as goal

pub returns : goal.returns
returns c = key_again
