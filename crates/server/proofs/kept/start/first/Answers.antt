-- Told to stand.
use Rattle.std.proofs.Common.{arith}
use Rattle.std.proofs.lemmas.Bool.Decides.{nat_tests}
use Rattle.server.proofs.Started.{first_here}
use Rattle.server.proofs.kept.start.first.Goals as goal

pub returns-then-server-from : goal.returns-then-server-from
returns-then-server-from c = let here = first_here c.args.number c.stand.result _ _ c.requires c.stand.ensures in grind (arith, nat_tests, here)
