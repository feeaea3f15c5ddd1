-- As many as are above are left.
use Rattle.std.proofs.Common.{length, ap, ◌∙◌, arith}
use Rattle.std.proofs.lemmas.List.{length-take-le}
use Rattle.chain.specs.Controllers.{newest_of, above}
use Rattle.chain.specs.Kept.{links_of}
use Rattle.chain.proofs.Front.{newest_first, above_short, above_some, above_front, left_front, falls_front, awaits_less, forgotten_not, forgotten_left}
use Rattle.chain.proofs.kept.Chain.forgotten.Goals as goal

pub returns-then-place-self : goal.returns-then-place-self
returns-then-place-self c = forgotten_not c.args.place c.args.self.now.len c.args.self.now.links c.args.self.now.handover (omega arith) c.if-place-self.true

pub invariant_of-self : goal.invariant_of-self
invariant_of-self c =
    let k = length-take-le c.args.self.now.len c.args.self.now.links (omega arith) in
    let m = above_short c.args.place (links_of c.args.self.now) in
    let e = newest_first c.args.self.now.links c.args.self.now.len (omega arith) in
    let s = above_some c.args.place (links_of c.args.self.now) (rw (← e) c.if-place-self.false) in
    let f = falls_front (length (above c.args.place (links_of c.args.self.now))) (links_of c.args.self.now) c.args.self.now.falling in
    let g = left_front c.args.place c.args.self.now.len c.args.self.now.links (omega arith) in
    let a = awaits_less c.count_above-self.result c.args.self.now.len (newest_of c.args.self.now.links).place c.args.self.now.handover (omega (arith, (c.count_above-self.ensures ∙ ap (λ ls. length (above c.args.place ls)) c.links.ensures))) c.args.self.now.awaited in
    record { some = omega (arith, (c.count_above-self.ensures ∙ ap (λ ls. length (above c.args.place ls)) c.links.ensures)); most = omega (arith, (c.count_above-self.ensures ∙ ap (λ ls. length (above c.args.place ls)) c.links.ensures)); eight = c.args.self.now.eight; falling = rw ((c.count_above-self.ensures ∙ ap (λ ls. length (above c.args.place ls)) c.links.ensures), g) (rw above_front at f); awaited = a }

pub returns : goal.returns
returns c =
    let g = left_front c.args.place c.args.self.now.len c.args.self.now.links (omega arith) in
    rw ((c.count_above-self.ensures ∙ ap (λ ls. length (above c.args.place ls)) c.links.ensures), g) (forgotten_left c.args.place c.args.self.now.len c.args.self.now.links c.args.self.now.handover (omega arith) c.if-place-self.false)
