-- The servers that are ahead, counted.
use Rattle.std.proofs.Common.{ℕ, Bool, cond, get_or, sym, refl, ◌∙◌, arith}
use Rattle.std.proofs.lemmas.List.{take_all}
use Rattle.std.proofs.lemmas.List.Sums.{count_by_more_yes, count_by_more_no}
use Rattle.std.proofs.lemmas.List.Recursion.{is_sum_by}
use Rattle.assignment.specs.Rule.{sum_over, ahead}
use Rattle.assignment.proofs.quota.ahead_of.Goals as goal
use Rattle.assignment.proofs.quota.ahead_of.Goals.{then-is_ahead, else-is_ahead}

pub loop-other-preserved : goal.loop-other-preserved
loop-other-preserved c =
    let p : ℕ → Bool = λ t. ahead (λ s. get_or c.args.counts.now s 0) t c.args.server in
    let ss = c.args.servers.now in
    let i = c.loop-other.other-index in
    elim c.if-is_ahead.branch [
      | then-is_ahead w ↦ (w.before-is ∙ (omega (arith, c.loop-other.invariant.0, count_by_more_yes p ss i 0 (omega arith) (sym c.is_ahead.ensures ∙ w.if-is_ahead.true))), omega (arith, w.before-is, c.loop-other.invariant.1))
      | else-is_ahead w ↦ (w.before-is ∙ (omega (arith, c.loop-other.invariant.0, count_by_more_no p ss i 0 (omega arith) (sym c.is_ahead.ensures ∙ w.if-is_ahead.false))), omega (arith, w.before-is, c.loop-other.invariant.1))
    ]

pub returns : goal.returns
returns c =
    let f : ℕ → ℕ = λ t. cond (ahead (λ s. get_or c.args.counts.now s 0) t c.args.server) 1 0 in
    let ss = c.args.servers.now in
    rw (is_sum_by (sum_over f) f refl (λ x xs. refl) ss, sym (take_all c.loop-other.other-index ss (omega arith))) c.loop-other.invariant.0
