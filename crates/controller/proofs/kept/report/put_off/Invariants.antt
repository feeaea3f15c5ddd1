-- Those so far, and those among the rest, are all; there is a number for each of the rest.
use Rattle.std.proofs.Common.{◌≡◌, ◌++◌, map, vec_items}
use Rattle.std.specs.Slice.Iter.{iter_rest}
use Rattle.controller_bucket.specs.Kept.{charge}
use Rattle.controller.specs.Status.{waiting_from}
use Rattle.machine.proofs.Numbered.{Suffices}
use Rattle.controller.proofs.kept.report.put_off.Given as goal

abbrev pub invariant-loop-bucket : goal.invariant-loop-bucket
invariant-loop-bucket l =
    (vec_items l.waiting ++ waiting_from l.bucket-iterator.a.start (map charge (iter_rest l.bucket-iterator.b)) ≡ waiting_from 0 (map charge l.charges))
    × Suffices l.bucket-iterator
