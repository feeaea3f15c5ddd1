-- One bucket more.
use Rattle.std.proofs.Common.{length, map, take, sym, ap, ◌∙◌, arith, rules}
use Rattle.std.proofs.lemmas.List.{take_all}
use Rattle.std.specs.Slice.Iter.{iter_rest}
use Rattle.machine.specs.Outboxes.{sent_of}
use Rattle.server_bucket.specs.Kept.{holding}
use Rattle.server.specs.Rules.{due_from}
use Rattle.machine.proofs.Numbered.{left_more, left_none, walk_on}
use Rattle.server.proofs.Ticked.{due_more, due_none, due_all, in_front, both_made}
use Rattle.server.proofs.kept.ticks.collect.Goals as goal

pub loop-number-init : goal.loop-number-init
loop-number-init c = (search rules, take_all (length (sent_of c.args.out.now)) (sent_of c.args.out.now) (omega arith), search rules)

pub loop-number-preserved : goal.loop-number-preserved
loop-number-preserved c =
    let s = c.loop-number.number-iterator in
    let t = c.next.new.self in
    let n = c.in-Some.number in
    let x = c.in-Some.bucket.now in
    let p = c.in-Some.ensures.steps in
    let out = sent_of c.loop-number.out in (
      walk_on s t c.loop-number.invariant.2 n x p holding (λ m hs. due_from m c.args.ticks hs) (due_none c.args.ticks) out (sent_of c.due.new.out) (due_more c.args.ticks n (holding x) (map holding (iter_rest t.b)) out _ c.in_ok-due.ensures) ∙ c.loop-number.invariant.0,
      in_front (sent_of c.args.out.now) out (sent_of c.due.new.out) _ c.in_ok-due.ensures c.loop-number.invariant.1,
      left_more s t c.loop-number.invariant.2 n x p,
    )

pub returns : goal.returns
returns c =
    let s = c.loop-number.number-iterator in
    let none = due_all c.args.ticks s.a.start (iter_rest s.b) (sent_of c.loop-number.out) (left_none s c.loop-number.invariant.2 c.in-None.ensures.steps) in
    both_made c.make_room.result _ _ _ (c.make_room.ensures.same ∙ (sym none ∙ c.loop-number.invariant.0)) c.make_room.ensures.room
    (ap (take (length (sent_of c.args.out.now))) c.make_room.ensures.same ∙ c.loop-number.invariant.1)
