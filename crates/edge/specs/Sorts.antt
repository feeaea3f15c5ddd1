-- What bytes are to the machine that they come to. Assumes nothing.
use Rattle.std.specs.Prelude.{ℕ, cond, List, Ok, Err, Result}
use Rattle.fault.specs.declared.Fault.TheVariants.{Malformed}
use Rattle.flow.specs.declared.key.FlowKey.{FlowKey}
use Rattle.wire.specs.declared.message.Control.{Control}
use Rattle.wire.specs.declared.message.Head.{Head}
use Rattle.wire.specs.declared.message.Order.{Order}
use Rattle.wire.specs.declared.message.Unread.{Unread}
use Rattle.wire.specs.Meant.{Meant, Carried, Said, Answered, Back, Ordered}
use Rattle.wire.specs.Messages.{decode}
use Rattle.wire.specs.Stops.{unplaced}
use Rattle.machine.specs.declared.name.Machine.{Machine}
use Rattle.machine.specs.declared.name.Machine.TheVariants.{Client, Operator, Balancer, Server, Controller}
use Rattle.edge.specs.declared.sort.Role.{Role}
use Rattle.edge.specs.declared.sort.Role.TheVariants as role
use Rattle.edge.specs.declared.sort.Sorted.{Sorted}
use Rattle.edge.specs.declared.sort.Sorted.TheVariants as sorted
use Rattle.edge.specs.Admission.{takes, kind_in}

pub data Sort : Type 0 where
  -- a packet from outside, which is all of the bytes
  Outside : Sort
  -- a packet between machines
  Carries : Head → FlowKey → List ℕ → Sort
  Tells : Control → Sort
  Answers : Control → Sort
  Orders : Order → Sort
  Refuses : Unread → Sort

-- what the code says of bytes
abbrev pub sort_of : Sorted → Sort
sort_of sorted.Outside = Outside
sort_of (sorted.Packet h key p) = Carries h key p.now
sort_of (sorted.Told c) = Tells c
sort_of (sorted.Heard c) = Answers c
sort_of (sorted.Order o) = Orders o
sort_of (sorted.Refuse u) = Refuses u

abbrev pub read_as : Result Meant Unread → Sort
read_as (Ok (Carried h key bs)) = Carries h key bs
read_as (Ok (Said c)) = Tells c
read_as (Ok (Answered c)) = Answers c
read_as (Ok (Back why bs)) = Refuses (unplaced Malformed)
read_as (Ok (Ordered o)) = Orders o
read_as (Err u) = Refuses u

-- a message that is not for this machine, or not from there, has its fault at its kind
abbrev message : Role → Machine → ℕ → List ℕ → Sort
message r from B bs = cond (takes r from (kind_in bs)) (read_as (decode B bs)) (Refuses (unplaced Malformed))

abbrev outside : Role → Sort
outside role.Balancer = Outside
outside role.Server = Refuses (unplaced Malformed)
outside role.Controller = Refuses (unplaced Malformed)

-- what bytes are to a machine of B buckets, by who hands them over; clients hand packets to balancers
abbrev pub sort : Role → Machine → ℕ → List ℕ → Sort
sort r Client B bs = outside r
sort r Operator B bs = message r Operator B bs
sort r (Balancer d) B bs = message r (Balancer d) B bs
sort r (Server s) B bs = message r (Server s) B bs
sort r Controller B bs = message r Controller B bs
