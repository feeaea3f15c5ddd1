-- Those so far are older, the others are as they were.
use Rattle.std.proofs.Common.{◌≡◌, ◌++◌, map, take, drop}
use Rattle.server_bucket.specs.Rules.{older}
use Rattle.server_bucket.proofs.search.pass.Given as goal

abbrev pub invariant-loop-farewell : goal.invariant-loop-farewell
invariant-loop-farewell l = l.farewells ≡ map (older l.ticks) (take l.farewell-index l.initial.farewells) ++ drop l.farewell-index l.initial.farewells
