-- What is said, and what is still to be said, are all; so much room is used at most.
use Rattle.std.proofs.Common.{◌≡◌, ◌+◌, ◌≤◌, ◌++◌, map, drop}
use Rattle.machine.specs.Outboxes.{sent_of, room_of}
use Rattle.controller_bucket.specs.Rules.{door_to}
use Rattle.controller_bucket.proofs.kept.Bucket.say_doors.Given as goal

abbrev pub invariant-loop-balancer : goal.invariant-loop-balancer
invariant-loop-balancer l =
    (sent_of l.out ++ map (door_to l.bucket l.newest) (drop l.balancer-index l.balancer-items) ≡ sent_of l.initial.out ++ map (door_to l.bucket l.newest) l.balancer-items)
    × (room_of l.initial.out ≤ room_of l.out + l.balancer-index)
