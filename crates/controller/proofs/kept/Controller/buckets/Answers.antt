-- One charge for each bucket.
use Rattle.std.proofs.Common.{vec_items, arith}
use Rattle.std.proofs.lemmas.List.{length-map}
use Rattle.controller_bucket.specs.Kept.{charge}
use Rattle.controller.proofs.kept.Controller.buckets.Goals as goal

pub returns : goal.returns
returns c =
    let was = c.args.self.now in
    omega (arith, length-map (vec_items was.charges) charge, was.charges.ok.0, was.one_each)
