-- What is noted, and what the rule says of the rest, is the whole; there is a number for each of the rest.
use Rattle.std.proofs.Common.{◌≡◌, ◌++◌, map, vec_items}
use Rattle.std.specs.Slice.Iter.{iter_rest}
use Rattle.server_bucket.specs.Kept.{holding}
use Rattle.server.specs.Kept.{sessions_of}
use Rattle.server.specs.Status.{busy_from}
use Rattle.machine.proofs.Numbered.{Suffices}
use Rattle.server.proofs.kept.Server.status.Given as goal

abbrev pub invariant-loop-number : goal.invariant-loop-number
invariant-loop-number l =
    (vec_items l.busy ++ busy_from l.number-iterator.a.start (sessions_of l.self) (map holding (iter_rest l.number-iterator.b)) ≡ busy_from 0 (sessions_of l.self) (map holding (vec_items l.self.held)))
    × Suffices l.number-iterator
