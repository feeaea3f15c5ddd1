-- Quotas, then what is kept, then what is dealt.
use Rattle.std.proofs.Common.{◌≡◌, ℕ, ◌<◌, get_or, sym, ◌∙◌, arith}
use Rattle.assignment.specs.Even.{count}
use Rattle.assignment.specs.Rule.{quotas, rebalanced}
use Rattle.assignment.proofs.Sums.{quotas_same}
use Rattle.assignment.proofs.Steps.{of_each}
use Rattle.assignment.proofs.Quotas.{kept_is}
use Rattle.assignment.proofs.balance.balance.Goals as goal

pub returns : goal.returns
unfolding rebalanced
returns c =
    let ss = c.args.servers.now in
    let xs = c.args.assignment.now in
    let low : (i : ℕ) → get_or ss i 0 < 256 = λ i. omega (arith, c.type_inv.servers i) in
    let q : of_each c.quotas-quota.result ss ≡ quotas ss xs = c.quotas-quota.ensures.listed ∙ quotas_same (λ s. get_or c.counts.result s 0) (λ s. count s xs) ss _ (λ i. c.counts.ensures.each (get_or ss i 0) (low i)) in
    let k = kept_is ss xs c.quotas-quota.result c.requires.0 c.quotas-quota.ensures.others in
    c.deal.ensures ∙ rw (c.keep.ensures.after, c.keep.ensures.left, sym k.0, sym k.1, q)
