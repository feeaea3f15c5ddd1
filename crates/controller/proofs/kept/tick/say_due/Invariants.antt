-- What is said, and what is due of the rest, are all; what was sent before stays in front; there is a number for each of the rest.
use Rattle.std.proofs.Common.{◌≡◌, ◌++◌, map, length, take}
use Rattle.std.specs.Slice.Iter.{iter_rest}
use Rattle.machine.specs.Outboxes.{sent_of}
use Rattle.controller_bucket.specs.Kept.{charge}
use Rattle.controller.specs.Rules.{due_from}
use Rattle.machine.proofs.Numbered.{Suffices}
use Rattle.controller.proofs.kept.tick.say_due.Given as goal

abbrev pub invariant-loop-bucket : goal.invariant-loop-bucket
invariant-loop-bucket l =
    (sent_of l.out ++ due_from l.bucket-iterator.a.start l.ticks (map charge (iter_rest l.bucket-iterator.b)) ≡ sent_of l.initial.out ++ due_from 0 l.ticks (map charge l.charges))
    × (take (length (sent_of l.initial.out)) (sent_of l.out) ≡ sent_of l.initial.out)
    × Suffices l.bucket-iterator
