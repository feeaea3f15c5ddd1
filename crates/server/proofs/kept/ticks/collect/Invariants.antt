-- What was said, and what is due of the rest, is the whole; what was there is in front; there is a number for each of the rest.
use Rattle.std.proofs.Common.{◌≡◌, ◌++◌, map, length, take}
use Rattle.std.specs.Slice.Iter.{iter_rest}
use Rattle.machine.specs.Outboxes.{sent_of}
use Rattle.server_bucket.specs.Kept.{holding}
use Rattle.server.specs.Rules.{due_from}
use Rattle.machine.proofs.Numbered.{Suffices}
use Rattle.server.proofs.kept.ticks.collect.Given as goal

abbrev pub invariant-loop-number : goal.invariant-loop-number
invariant-loop-number l =
    (sent_of l.out ++ due_from l.number-iterator.a.start l.ticks (map holding (iter_rest l.number-iterator.b)) ≡ sent_of l.initial.out ++ due_from 0 l.ticks (map holding l.held))
    × (take (length (sent_of l.initial.out)) (sent_of l.out) ≡ sent_of l.initial.out)
    × Suffices l.number-iterator
