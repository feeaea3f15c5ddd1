-- One quota more.
use Rattle.std.proofs.Common.{◌≡◌, ℕ, ◌+◌, ◌/◌, ◌%◌, ltb, length, get_or, replicate, refl, inl, inr, arith}
use Rattle.std.proofs.lemmas.List.{get_or-replicate, get_or_past}
use Rattle.std.proofs.lemmas.Bool.{cases_lt, cases_Bool}
use Rattle.assignment.specs.Rule.{rank, quota_of}
use Rattle.assignment.proofs.Quotas.{filled_more}
use Rattle.assignment.proofs.Sums.{map_same}
use Rattle.assignment.proofs.quota.quotas.Goals as goal

pub loop-server-init : goal.loop-server-init
loop-server-init c = (refl, (λ k h. absurd (omega arith)), λ s h. elim (cases_lt s 256) [ inl l ↦ get_or-replicate 256 s 0 0 l | inr l ↦ get_or_past (replicate 256 0) s 0 l ])

pub loop-server-preserved : goal.loop-server-preserved
loop-server-preserved c =
    let ss = c.args.servers.now in
    let i = c.loop-server.server-index in
    let g : ℕ → ℕ = λ s. get_or c.args.counts.now s 0 in
    let f : ℕ → ℕ = quota_of g ss c.args.buckets in
    let value : c.args.buckets / length ss + c.from-more.result ≡ f (get_or ss i 0) = elim (cases_Bool (ltb (rank g ss (get_or ss i 0)) (c.args.buckets % length ss))) [
      | inl y ↦ rw (c.from-more.ensures, c.ahead_of.ensures, y)
      | inr n ↦ rw (c.from-more.ensures, c.ahead_of.ensures, n)
    ] in
    filled_more f ss c.loop-server.quota i c.from.result _ (omega arith) c.from.ensures (omega (arith, c.from.ensures, c.type_inv.servers i)) value c.loop-server.invariant

pub returns-clause-listed : goal.returns-clause-listed
returns-clause-listed c =
    let ss = c.args.servers.now in
    let f : ℕ → ℕ = quota_of (λ s. get_or c.args.counts.now s 0) ss c.args.buckets in
    map_same (λ s. get_or c.loop-server.quota s 0) f ss (λ k h. c.loop-server.invariant.1 k (omega arith))
