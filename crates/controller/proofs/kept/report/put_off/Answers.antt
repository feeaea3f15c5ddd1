-- One bucket more.
use Rattle.std.proofs.Common.{map, vec_items, sym, ◌∙◌, rules}
use Rattle.std.specs.Slice.Iter.{iter_rest}
use Rattle.controller_bucket.specs.Kept.{charge}
use Rattle.controller.specs.Status.{waiting_from}
use Rattle.machine.proofs.Numbered.{left_more, left_none, walk_on}
use Rattle.controller.proofs.Seen.{waiting_yes, waiting_no, waiting_none, waiting_end}
use Rattle.controller.proofs.kept.report.put_off.Goals as goal

pub loop-bucket-init : goal.loop-bucket-init
loop-bucket-init c = (search rules, search rules)

pub loop-bucket-preserved : goal.loop-bucket-preserved
loop-bucket-preserved c =
    let s = c.loop-bucket.bucket-iterator in
    let t = c.next.new.self in
    let n = c.in-Some.bucket in
    let x = c.in-Some.charge.now in
    let p = c.in-Some.ensures.steps in
    let was = vec_items c.loop-bucket.waiting in (
      walk_on s t c.loop-bucket.invariant.1 n x p charge waiting_from waiting_none was was (waiting_no n (charge x) (map charge (iter_rest t.b)) was c.if-is_put_off.ensures) ∙ c.loop-bucket.invariant.0,
      left_more s t c.loop-bucket.invariant.1 n x p,
    )

pub loop-bucket-preserved-in-Continue-1 : goal.loop-bucket-preserved-in-Continue-1
loop-bucket-preserved-in-Continue-1 c =
    let s = c.loop-bucket.bucket-iterator in
    let t = c.next.new.self in
    let n = c.in-Some.bucket in
    let x = c.in-Some.charge.now in
    let p = c.in-Some.ensures.steps in
    let was = vec_items c.loop-bucket.waiting in (
      walk_on s t c.loop-bucket.invariant.1 n x p charge waiting_from waiting_none was _ (waiting_yes n (charge x) (map charge (iter_rest t.b)) c.oldest.result was _ c.if-is_put_off.ensures c.oldest.ensures c.in_ok-push.ensures.items) ∙ c.loop-bucket.invariant.0,
      left_more s t c.loop-bucket.invariant.1 n x p,
    )

pub returns : goal.returns
returns c =
    let s = c.loop-bucket.bucket-iterator in
    sym (waiting_end s.a.start (iter_rest s.b) (vec_items c.loop-bucket.waiting) (left_none s c.loop-bucket.invariant.1 c.in-None.ensures.steps)) ∙ c.loop-bucket.invariant.0
