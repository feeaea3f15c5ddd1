-- The invariants of the loops that deal, and that the inner one ends.
use Rattle.std.proofs.Common.{◌≡◌, length}
use Rattle.assignment.specs.Rule.{dealt}
use Rattle.assignment.proofs.Steps.{of_each, Deals, Likewise}
use Rattle.assignment.proofs.balance.deal.Given as goal

-- what is done, and what is left to those who may still take, give the whole
abbrev pub invariant-buckets : goal.invariant-buckets
invariant-buckets l = Deals l.takers l.entry-index l.assignment l.quota (dealt l.servers l.initial.assignment (of_each l.initial.quota l.servers))

-- those who have no quota left were passed, and nothing else was done
abbrev pub invariant-loop-takers : goal.invariant-loop-takers
invariant-loop-takers l = (l.entry ≡ l.initial.entry) × (l.quota ≡ l.initial.quota) × Likewise l.quota l.takers l.initial.takers

abbrev pub decreases-loop-takers : goal.decreases-loop-takers
decreases-loop-takers l = length l.takers
