-- One bucket more.
use Rattle.std.proofs.Common.{map, vec_items, refl, ap, ◌∙◌, arith}
use Rattle.std.proofs.lemmas.List.{take_all}
use Rattle.controller_bucket.specs.Rules.{charge_first}
use Rattle.controller_bucket.specs.Kept.{charge}
use Rattle.controller.proofs.Walks.{first_more}
use Rattle.controller.proofs.kept.start.first_charges.Goals as goal

pub loop-server-preserved : goal.loop-server-preserved
loop-server-preserved c =
    ap (map charge) c.in_ok-push.ensures.items
    ∙ first_more c.args.assignment.now (vec_items c.loop-server.charges) c.loop-server.server-index c.new.result _ (omega arith) refl c.new.ensures c.loop-server.invariant

pub returns : goal.returns
returns c = c.loop-server.invariant ∙ ap (map charge_first) (take_all c.loop-server.server-index c.args.assignment.now (omega arith))
