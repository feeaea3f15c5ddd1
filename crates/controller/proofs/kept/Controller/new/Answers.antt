-- As many buckets as are assigned.
use Rattle.std.proofs.Common.{length, vec_items, ap, arith}
use Rattle.std.proofs.lemmas.List.{length-map}
use Rattle.controller_bucket.specs.Rules.{charge_first}
use Rattle.controller_bucket.specs.Kept.{charge}
use Rattle.controller.proofs.kept.Controller.new.Goals as goal

pub invariant_of-result : goal.invariant_of-result
invariant_of-result c =
    let r = c.in_ok-roster.ensures in
    let v = c.in_ok-charges.charges in
    let e = ap length c.in_ok-charges.ensures in
    record {
      one_each = omega (arith, v.ok.0, e, length-map (vec_items v) charge, length-map c.assignment.result.now charge_first, ap length c.assignment.ensures, r.numbered.0, c.count.ensures);
      each_server = c.in_ok-resize.ensures.len;
      numbered = (omega (arith, r.numbered.0, c.count.ensures), r.numbered.1);
    }
