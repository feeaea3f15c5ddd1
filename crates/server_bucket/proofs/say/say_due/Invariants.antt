-- What is due of those so far was said, and there is room for the rest.
use Rattle.std.proofs.Common.{◌≡◌, ◌-◌, ◌*◌, ◌≤◌, ◌++◌, length, take}
use Rattle.machine.specs.Outboxes.{sent_of, room_of}
use Rattle.server_bucket.specs.Rules.{due_in}
use Rattle.server_bucket.proofs.say.say_due.Given as goal

abbrev pub invariant-loop-farewell : goal.invariant-loop-farewell
invariant-loop-farewell l = record {
  said : sent_of l.out ≡ sent_of l.initial.out ++ due_in l.bucket l.ticks (take l.farewell-index l.farewells);
  room : 2 * (length l.farewells - l.farewell-index) ≤ room_of l.out;
}
