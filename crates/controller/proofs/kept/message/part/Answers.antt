-- One link more.
use Rattle.std.proofs.Common.{◌+◌, length, drop, sym, ap, ◌∙◌, arith, length-set}
use Rattle.controller.specs.Rules.{parted_at}
use Rattle.controller.proofs.Walks.{part_yes, part_no, part_end}
use Rattle.controller.proofs.kept.message.part.Goals as goal
use Rattle.controller.proofs.kept.message.part.Goals.{then-link-place, else-link-place}

pub loop-link-preserved : goal.loop-link-preserved
loop-link-preserved c =
    let f = parted_at c.args.tick c.args.place (drop (c.loop-link.link-index + 1) c.args.links.now) in
    elim c.if-link-place.branch [
      | then-link-place w ↦ (
        ap f w.parted-is ∙ (part_yes c.args.tick c.args.place c.args.links.now c.loop-link.link-index _ c.loop-link.parted w.from.result (omega arith) w.if-link-place.true w.from.ensures ∙ c.loop-link.invariant.0),
        ap length w.parted-is ∙ simp length-set c.loop-link.invariant.1,
      )
      | else-link-place w ↦ (
        ap f w.parted-is ∙ (part_no c.args.tick c.args.place c.args.links.now c.loop-link.link-index _ c.loop-link.parted (omega arith) w.if-link-place.false ∙ c.loop-link.invariant.0),
        ap length w.parted-is ∙ c.loop-link.invariant.1,
      )
    ]

pub returns : goal.returns
returns c = sym (part_end c.args.tick c.args.place c.args.links.now c.loop-link.link-index c.loop-link.parted (omega arith)) ∙ c.loop-link.invariant.0
