-- One farewell more is said.
use Rattle.std.proofs.Common.{false, arith}
use Rattle.std.proofs.lemmas.Grind.{common_steps}
use Rattle.server_bucket.specs.declared.farewell.Farewell.{Farewell}
use Rattle.server_bucket.proofs.Said.{due_more}
use Rattle.server_bucket.proofs.say.say_due.Goals.{then-is_due, else-is_due}
use Rattle.server_bucket.proofs.say.say_due.Goals as goal

abbrev blank : Farewell
blank = record { place = 0; after = record { place = 0; server = 0 }; awaits_after = false; awaits_controller = false; age = 0 }

pub loop-farewell-preserved : goal.loop-farewell-preserved
loop-farewell-preserved c =
    let m = due_more c.args.bucket c.args.ticks c.args.farewells.now c.loop-farewell.farewell-index blank (omega arith) in
    elim c.if-is_due.branch [
      | then-is_due w ↦ record { said = grind (arith, common_steps, m); room = grind (arith, common_steps) }
      | else-is_due w ↦ record { said = grind (arith, common_steps, m); room = grind (arith, common_steps) }
    ]
