-- What is found, and what is still to be found, are all.
use Rattle.std.proofs.Common.{◌≡◌, ◌++◌, drop, vec_items}
use Rattle.sessions.specs.Entries.{idle_keys}
use Rattle.sessions.proofs.store.bounds.scan_slot.Given as goal

abbrev pub invariant-loop-e : goal.invariant-loop-e
invariant-loop-e l = vec_items l.names ++ idle_keys l.tick (drop l.e-index l.entries) ≡ vec_items l.initial.names ++ idle_keys l.tick l.entries
