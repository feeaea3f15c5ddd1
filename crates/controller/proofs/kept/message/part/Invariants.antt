-- The rest of the links do what all of them do.
use Rattle.std.proofs.Common.{◌≡◌, length, drop}
use Rattle.controller.specs.Rules.{parted_at}
use Rattle.controller.proofs.kept.message.part.Given as goal

abbrev pub invariant-loop-link : goal.invariant-loop-link
invariant-loop-link l =
    (parted_at l.tick l.place (drop l.link-index l.links) l.parted ≡ parted_at l.tick l.place l.links l.initial.parted)
    × (length l.parted ≡ length l.initial.parted)
