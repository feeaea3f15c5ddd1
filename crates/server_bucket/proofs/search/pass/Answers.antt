-- One more is older.
use Rattle.std.proofs.Common.{set, ap, ◌∙◌, arith}
use Rattle.std.proofs.lemmas.Grind.{common_steps}
use Rattle.std.proofs.lemmas.List.Edits.{map_over_more}
use Rattle.server_bucket.specs.Rules.{older}
use Rattle.server_bucket.proofs.search.pass.Goals as goal

pub loop-farewell-preserved : goal.loop-farewell-preserved
loop-farewell-preserved c =
    let fs = c.loop-farewell.farewells in
    let i = c.loop-farewell.farewell-index in
    ap (set fs i) c.later.ensures ∙ map_over_more (older c.args.ticks) c.args.farewells.now fs i _ (omega arith) c.loop-farewell.invariant (grind (arith, common_steps))
