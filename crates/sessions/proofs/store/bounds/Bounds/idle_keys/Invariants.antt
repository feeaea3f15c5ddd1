-- What is found in the groups so far, and what is still to be found, are all.
use Rattle.std.proofs.Common.{◌≡◌, ◌*◌, ◌++◌, map, drop, vec_items}
use Rattle.sessions.specs.Entries.{idle_keys}
use Rattle.sessions.specs.Slots.{flat}
use Rattle.sessions.proofs.store.bounds.Bounds.idle_keys.Given as goal

abbrev pub invariant-loop-group : goal.invariant-loop-group
invariant-loop-group l =
    vec_items l.names ++ idle_keys l.tick (flat (map vec_items (drop (l.group * 16) l.slots))) ≡ idle_keys l.tick (flat (map vec_items l.slots))
