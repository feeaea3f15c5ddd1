-- There are as many bounds as before, they hold all along, and those so far are no earlier than the oldest.
use Rattle.std.proofs.Common.{ℕ, ◌<◌, ◌≤◌, map, get_or, vec_items}
use Rattle.sessions.specs.Kept.{Grouped, Bounded}
use Rattle.sessions.proofs.store.bounds.Bounds.refresh.Given as goal

abbrev pub invariant-loop-group : goal.invariant-loop-group
invariant-loop-group l = Grouped l.bound-items × Bounded (map vec_items l.slots) l.bound-items × ((g : ℕ) → g < l.group → l.oldest ≤ get_or l.bound-items g 0)
