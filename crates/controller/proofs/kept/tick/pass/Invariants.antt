-- The buckets so far are later, and with the rest made later they are all.
use Rattle.std.proofs.Common.{◌≡◌, ◌++◌, map, length, take, drop}
use Rattle.controller_bucket.specs.Rules as bucket
use Rattle.controller_bucket.specs.Kept.{charge}
use Rattle.controller.proofs.kept.tick.pass.Given as goal

abbrev pub invariant-loop-charge : goal.invariant-loop-charge
invariant-loop-charge l =
    (map charge (take l.charge-index l.charges) ++ map (bucket.passed l.ticks) (map charge (drop l.charge-index l.charges)) ≡ map (bucket.passed l.ticks) (map charge l.initial.charges))
    × (length l.charges ≡ length l.initial.charges)
