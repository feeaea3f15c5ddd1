-- The first fault behind a kind, and at it.
use Rattle.wire.proofs.Positions.{first_fault, no_kind}
use Rattle.wire.proofs.laws.first_fault.Goals as goal

pub returns : goal.returns
returns c = record { behind = first_fault; kind = no_kind }
