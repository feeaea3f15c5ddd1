-- A fault's place is not lost where a message is looked at. Assumes nothing.
use Rattle.std.proofs.Common.{◌≡◌, Ok, Err, Option, Result, refl}
use Rattle.fault.specs.declared.Fault.{Fault}
use Rattle.wire.specs.declared.message.At.{At}
use Rattle.wire.specs.declared.message.Message.{Message}
use Rattle.wire.specs.Stops.{located}
use Rattle.wire.specs.Seen.{seen}

pub seen_located : (at : Option At) (r : Result Message Fault) → seen (located at r) ≡ located at (seen r)
seen_located at (Ok m) = refl
seen_located at (Err f) = refl
