-- Those so far.
use Rattle.std.proofs.Common.{◌≡◌, vec_items}
use Rattle.controller.specs.Rules.{up_from}
use Rattle.controller.specs.Kept.{ruling}
use Rattle.controller.specs.Status.{go_of}
use Rattle.controller.proofs.kept.Controller.leaving.Given as goal

abbrev pub invariant-loop-server : goal.invariant-loop-server
invariant-loop-server l = vec_items l.servers ≡ go_of (ruling l.self) (up_from 0 l.server)
