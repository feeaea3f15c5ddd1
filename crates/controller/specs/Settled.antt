-- No handover that is wanted is forgotten: it is in progress, or it waits for room and the operator has heard of it. Assumes nothing.
use Rattle.std.specs.Prelude.{◌≡◌, ℕ, ◌<◌, true, false, ◌⊎◌, List, [], length, Ok, Err, Result}
use Rattle.fault.specs.declared.Fault.{Fault}
use Rattle.chain.specs.declared.handover.Handover.{Handover}
use Rattle.chain.specs.declared.handover.Handover.TheVariants.{Idle, AwaitStood, AwaitTold}
use Rattle.chain.specs.Controllers.{has_room}
use Rattle.wire.specs.declared.message.Control.{Control}
use Rattle.machine.specs.declared.name.Machine.{Machine}
use Rattle.machine.specs.declared.sent.Sent.{Sent}
use Rattle.controller_bucket.specs.Rules.{Charge, newest, begun}
use Rattle.controller.specs.Rules.{Ruling, charge_at, assigned_at, ruling_first, told, heard, adds, removes, ticked}

abbrev pub SettledIn : ℕ → Charge → Handover → Type 0
SettledIn s c Idle = ((newest c).server ≡ s) ⊎ ((has_room c.control.kept ≡ false) × (c.reported ≡ true))
SettledIn s c (AwaitStood l) = Unit {0}
SettledIn s c (AwaitTold l) = Unit {0}

-- a bucket that is assigned to s: a handover is in progress, or its newest place is there, or there is no room for another place and the operator has heard that the handover is put off
abbrev pub SettledAt : ℕ → Charge → Type 0
SettledAt s c = SettledIn s c c.control.handover

-- so are all buckets
abbrev pub Settled : Ruling → Type 0
Settled k = (length k.assignment ≡ length k.charges) × ((b : ℕ) → b < length k.charges → SettledAt (assigned_at b k) (charge_at b k))

-- what a step leaves; a fault leaves all as it was
abbrev pub Leaves : Result (List Sent × Ruling) Fault → Type 0
Leaves (Ok p) = Settled p.1
Leaves (Err f) = Unit {0}

-- so it is at the start, and every step keeps it
abbrev pub FirstSettled : Type 0
FirstSettled = (servers assignment : List ℕ) (balancers : ℕ) → Settled (ruling_first servers assignment balancers)

abbrev pub ToldSettled : Type 0
ToldSettled = (from : Machine) (c : Control) (k : Ruling) → Settled k → Leaves (told from c k)

abbrev pub HeardSettled : Type 0
HeardSettled = (from : Machine) (c : Control) (k : Ruling) → Settled k → Settled (heard from c k).1

abbrev pub AddedSettled : Type 0
AddedSettled = (s : ℕ) (k : Ruling) → Settled k → Leaves (adds s k)

abbrev pub RemovedSettled : Type 0
RemovedSettled = (s : ℕ) (k : Ruling) → Settled k → Leaves (removes s k)

abbrev pub TickedSettled : Type 0
TickedSettled = (ticks : ℕ) (k : Ruling) → Settled k → Settled (ticked ticks k).1

-- where a bucket is settled, nothing is to begin: nothing is said, and the chain stays
abbrev pub SettledSteady : Type 0
SettledSteady = (b s : ℕ) (c : Charge) → SettledAt s c → ((begun b s c).0 ≡ []) × ((begun b s c).1.control ≡ c.control)
