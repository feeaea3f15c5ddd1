-- The controller's struct, as the rules know it. Assumes nothing.
use Rattle.std.specs.Borrow.{Bor}
use Rattle.std.specs.Prelude.{◌≡◌, ℕ, ◌+◌, ◌^◌, ◌≤◌, cond, List, map, Some, None, Ok, Err, vec_items, Option, Result}
use Rattle.fault.specs.declared.Error.{Error}
use Rattle.fault.specs.declared.Error.TheVariants.{Of, Memory}
use Rattle.fault.specs.declared.Fault.TheVariants.{NoSuch}
use Rattle.machine.specs.declared.sent.Sent.{Sent}
use Rattle.machine.specs.Steps.{Did}
use Rattle.assignment.specs.Rule.{rebalanced, answered}
use Rattle.assignment.specs.Even.{Even}
use Rattle.roster.specs.Rosters.{none, servers_of, assignment_of}
use Rattle.sessions.specs.Clocks.{ticks_of}
use Rattle.controller_bucket.specs.declared.kept.Bucket.{Bucket}
use Rattle.controller_bucket.specs.Rules.{Charge}
use Rattle.controller_bucket.specs.Kept.{charge}
use Rattle.controller.specs.declared.kept.Controller.{Controller}
use Rattle.controller.specs.Rules.{Ruling, ruling_first, is_bucket, charge_at}

abbrev pub ruling : Controller → Ruling
ruling c = record {
  servers = servers_of c.roster;
  assignment = assignment_of c.roster;
  charges = map charge (vec_items c.charges);
  balancers = c.balancers;
  tick = ticks_of c.clock;
  parted = vec_items c.parted;
}

-- of n buckets, the servers ss and so many balancers: the controller at its start, or the refusal that the assignment's rule gives
abbrev pub First : ℕ → List ℕ → ℕ → Result Controller Error → Type 0
First n ss balancers (Ok c) = (ruling c ≡ ruling_first ss (rebalanced ss (none n)) balancers) × Even ss (ruling c).assignment
First n ss balancers (Err (Of f)) = answered ss (none n) ≡ (Err f, none n)
First n ss balancers (Err Memory) = Unit {0}

-- so many ticks pass: the rule's answer, the controller before and after, what was to be sent before and after; refused where the clock's 64 bits do not hold the sum, and then nothing changes
abbrev pub Ticking : List Sent × Ruling → ℕ → Result (Unit {0}) Error → Ruling → Ruling → List Sent → List Sent → Type 0
Ticking p n (Ok u) was after out sent = Did (Ok p) (Ok u) was after out sent
Ticking p n (Err (Of f)) was after out sent = (f ≡ NoSuch) × (2 ^ 64 ≤ was.tick + n) × (after ≡ was) × (sent ≡ out)
Ticking p n (Err Memory) was after out sent = Did (Ok p) (Err Memory) was after out sent

-- what is shown of a bucket, and what is kept of it, if it is there
abbrev pub seen_bucket : Option (Bor Bucket) → Option Charge
seen_bucket None = None
seen_bucket (Some r) = Some (charge r.now)

abbrev pub bucket_at : ℕ → Ruling → Option Charge
bucket_at b k = cond (is_bucket b k) (Some (charge_at b k)) None
