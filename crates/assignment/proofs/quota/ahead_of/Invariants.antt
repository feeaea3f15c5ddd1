-- The invariant of the loop that counts the servers ahead.
use Rattle.std.proofs.Common.{◌≡◌, ◌≤◌, count_by, get_or, take}
use Rattle.assignment.specs.Rule.{ahead}
use Rattle.assignment.proofs.quota.ahead_of.Given as goal

-- those among the servers so far
abbrev pub invariant-loop-other : goal.invariant-loop-other
invariant-loop-other l = (l.before ≡ count_by (λ t. ahead (λ s. get_or l.counts s 0) t l.server) (take l.other-index l.servers)) × (l.before ≤ l.other-index)
