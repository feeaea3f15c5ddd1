-- The invariant of the loop that sets the quotas.
use Rattle.std.proofs.Common.{get_or}
use Rattle.assignment.specs.Rule.{quota_of}
use Rattle.assignment.proofs.Quotas.{Filled}
use Rattle.assignment.proofs.quota.quotas.Given as goal

-- the quotas of the servers so far are set
abbrev pub invariant-loop-server : goal.invariant-loop-server
invariant-loop-server l = Filled (quota_of (λ s. get_or l.counts s 0) l.servers l.buckets) l.servers l.quota l.server-index
