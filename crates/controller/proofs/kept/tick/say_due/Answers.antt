-- One bucket more.
use Rattle.std.proofs.Common.{length, map, take, sym, ap, ◌∙◌, arith, rules}
use Rattle.std.proofs.lemmas.List.{take_all}
use Rattle.std.specs.Slice.Iter.{iter_rest}
use Rattle.machine.specs.Outboxes.{sent_of}
use Rattle.controller_bucket.specs.Kept.{charge}
use Rattle.controller.specs.Rules.{due_from}
use Rattle.machine.proofs.Numbered.{left_more, left_none, walk_on}
use Rattle.controller.proofs.Walks.{due_more, due_none, due_end, front_more}
use Rattle.controller.proofs.kept.tick.say_due.Goals as goal

pub loop-bucket-init : goal.loop-bucket-init
loop-bucket-init c = (search rules, take_all (length (sent_of c.args.out.now)) (sent_of c.args.out.now) (omega arith), search rules)

pub loop-bucket-preserved : goal.loop-bucket-preserved
loop-bucket-preserved c =
    let s = c.loop-bucket.bucket-iterator in
    let t = c.next.new.self in
    let n = c.in-Some.bucket in
    let x = c.in-Some.charge.now in
    let p = c.in-Some.ensures.steps in
    let was = sent_of c.loop-bucket.out in (
      walk_on s t c.loop-bucket.invariant.2 n x p charge (λ m cs. due_from m c.args.ticks cs) (due_none c.args.ticks) was (sent_of c.due.new.out) (due_more c.args.ticks n (charge x) (map charge (iter_rest t.b)) was _ c.in_ok-due.ensures) ∙ c.loop-bucket.invariant.0,
      ap (take (length (sent_of c.args.out.now))) c.in_ok-due.ensures ∙ front_more (sent_of c.args.out.now) was _ c.loop-bucket.invariant.1,
      left_more s t c.loop-bucket.invariant.2 n x p,
    )

pub returns : goal.returns
returns c =
    let s = c.loop-bucket.bucket-iterator in
    sym (due_end c.args.ticks s.a.start (iter_rest s.b) (sent_of c.loop-bucket.out) (left_none s c.loop-bucket.invariant.2 c.in-None.ensures.steps)) ∙ c.loop-bucket.invariant.0
