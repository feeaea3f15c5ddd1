-- The buckets without a server go to the servers in turn.
use Rattle.std.proofs.Common.{sym, arith}
use Rattle.assignment.proofs.Steps.{deal_next, deal_here}
use Rattle.assignment.proofs.balance.deal.Goals as goal

pub loop-takers-preserved : goal.loop-takers-preserved
loop-takers-preserved c =
    (c.loop-takers.invariant.0, c.loop-takers.invariant.1, deal_next c.loop-takers.takers.now c.buckets.takers.now c.loop-takers.quota c.in-len1-up.len_at_least (rw c.from.ensures at c.if-quota-from-gt0.false) c.loop-takers.invariant.2)

pub buckets-preserved : goal.buckets-preserved
buckets-preserved c =
    rw (c.from-then-quota-from-gt0-2.ensures, c.from-then-quota-from-gt0.ensures)
    (deal_here c.loop-takers.takers.now c.buckets.takers.now c.buckets.assignment c.loop-takers.quota _ c.buckets.entry-index (omega arith) c.if-entry.false c.in-len1-up.len_at_least
    (rw c.from.ensures at c.if-quota-from-gt0.true) c.loop-takers.invariant.2 (rw (sym c.loop-takers.invariant.1) at c.buckets.invariant))
