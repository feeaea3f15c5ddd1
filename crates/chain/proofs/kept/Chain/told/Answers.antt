-- The array turned by one, with the new place in front.
use Rattle.std.proofs.Common.{◌≡◌, length, set, refl, ◌∙◌, arith, rules, length-set}
use Rattle.chain.specs.Controllers.{newest_of}
use Rattle.chain.proofs.Front.{told_elsewhere, told_another, told_done, told_falls, turned_front, awaits_room}
use Rattle.chain.proofs.kept.Chain.told.Goals.{then-place-self-via-then-place-self, then-place-self-via-else-place-self+then-ne}
use Rattle.chain.proofs.kept.Chain.told.Goals as goal

pub returns-then-place-self : goal.returns-then-place-self
returns-then-place-self c =
    elim c.then-place-self.branch [
      | then-place-self-via-then-place-self w ↦ rw c.in-AwaitTold.is (told_elsewhere c.args.place c.args.self.now.len c.args.after c.in-AwaitTold.link c.args.self.now.links (omega arith) w.if-place-self.true)
      | then-place-self-via-else-place-self+then-ne w ↦ rw c.in-AwaitTold.is (told_another c.args.place c.args.self.now.len c.args.after c.in-AwaitTold.link c.args.self.now.links (search rules))
    ]

pub invariant_of-self : goal.invariant_of-self
invariant_of-self c =
    let room = awaits_room c.args.self.now.len (newest_of c.args.self.now.links).place c.args.self.now.handover c.in-AwaitTold.link c.in-AwaitTold.is c.args.self.now.awaited in
    let few = room.0 in
    let e = turned_front c.in-AwaitTold.link c.args.self.now.links c.args.self.now.len c.args.self.now.eight few in
    let f = told_falls c.args.self.now.len c.in-AwaitTold.link c.args.self.now.links c.args.self.now.some room.1 c.args.self.now.falling in
    let k : length (set c.rotate_right.new.self 0 c.in-AwaitTold.link) ≡ 8 = simp length-set (omega (arith, c.rotate_right.ensures.len, c.args.self.now.eight)) in
    record { some = omega arith; most = omega arith; eight = k; falling = rw c.rotate_right.ensures.after (rw e f); awaited = refl }

pub returns : goal.returns
returns c =
    let room = awaits_room c.args.self.now.len (newest_of c.args.self.now.links).place c.args.self.now.handover c.in-AwaitTold.link c.in-AwaitTold.is c.args.self.now.awaited in
    let e = turned_front c.in-AwaitTold.link c.args.self.now.links c.args.self.now.len c.args.self.now.eight room.0 in
    rw (c.in-AwaitTold.is, c.rotate_right.ensures.after, e)
    (told_done c.args.place c.args.self.now.len c.args.after c.in-AwaitTold.link c.args.self.now.links (omega arith) c.if-place-self.false (search rules))
