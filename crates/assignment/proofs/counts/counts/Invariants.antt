-- The invariant of the loop that counts.
use Rattle.std.proofs.Common.{◌≡◌, ℕ, ◌+◌, ◌<◌, length, get_or, drop}
use Rattle.assignment.specs.Even.{count}
use Rattle.assignment.proofs.counts.counts.Given as goal

-- what is counted, and what is left, give the whole
abbrev pub invariant-loop-entry : goal.invariant-loop-entry
invariant-loop-entry l = (length l.counts ≡ 256) × ((s : ℕ) → s < 256 → get_or l.counts s 0 + count s (drop l.entry-index l.assignment) ≡ count s l.assignment)
