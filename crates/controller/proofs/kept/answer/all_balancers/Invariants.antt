-- The balancers so far.
use Rattle.std.proofs.Common.{◌≡◌, vec_items, vec_len}
use Rattle.controller.specs.Rules.{up_from}
use Rattle.controller.proofs.kept.answer.all_balancers.Given as goal

abbrev pub invariant-loop-balancer : goal.invariant-loop-balancer
invariant-loop-balancer l = (vec_items l.balancers ≡ up_from 0 l.balancer) × (vec_len l.balancers ≡ l.balancer)
