-- The one that is carried stands between those that moved up and those that follow.
use Rattle.std.proofs.Common.{◌≡◌, ◌∷◌, ◌++◌, take, drop}
use Rattle.places.proofs.newest.move_up.Given as goal

abbrev pub invariant-loop-item : goal.invariant-loop-item
invariant-loop-item g l = take l.item-index l.items ++ l.next ∷ drop l.item-index l.items ≡ l.initial.next ∷ l.initial.items
