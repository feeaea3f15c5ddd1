-- The buckets so far have begun, and with what begins in the rest they are all; one message for each is sent at most.
use Rattle.std.proofs.Common.{◌≡◌, ◌+◌, ◌≤◌, ◌++◌, map, length, take, drop}
use Rattle.machine.specs.Outboxes.{sent_of, room_of}
use Rattle.controller_bucket.specs.Kept.{charge}
use Rattle.controller.specs.Rules.{begun_from}
use Rattle.controller.proofs.kept.order.begin_all.Given as goal

abbrev pub invariant-loop-b : goal.invariant-loop-b
invariant-loop-b l =
    (sent_of l.out ++ (begun_from l.b (drop l.b l.assignment) (map charge (drop l.b l.charges))).0 ≡ sent_of l.initial.out ++ (begun_from 0 l.assignment (map charge l.initial.charges)).0)
    × (map charge (take l.b l.charges) ++ (begun_from l.b (drop l.b l.assignment) (map charge (drop l.b l.charges))).1 ≡ (begun_from 0 l.assignment (map charge l.initial.charges)).1)
    × (length l.charges ≡ length l.initial.charges)
    × (room_of l.initial.out ≤ room_of l.out + l.b)
