-- The halves of the address are quotient and remainder; there is a bucket at least.
use Rattle.std.proofs.Common.{◌≡◌, ◌+◌, ◌/◌, ◌%◌, ap, ◌∙◌, arith}
use Rattle.std.proofs.lemmas.Nat.{and_mask, mod_below}
use Rattle.flow.specs.Buckets.{bucket_of}
use Rattle.flow.specs.Key.{protocol_number}
use Rattle.flow.specs.Mix.{ones_sum, reversed}
use Rattle.flow.proofs.Powers.{counted}
use Rattle.flow.proofs.key.FlowKey.bucket.Goals as goal

pub nonzero_rem-result : goal.nonzero_rem-result
nonzero_rem-result c = omega (arith, counted c.args.buckets.count c.args.buckets.ok)

pub returns : goal.returns
unfolding bucket_of
returns c =
    let f = c.args.self in
    let n = c.args.buckets.count in
    let low = and_mask f.src 16 in
    let s : c.ones_sum-sum.result ≡ ones_sum (f.src / 65536 + f.src % 65536 + f.sport + protocol_number f.protocol) =
    c.ones_sum-sum.ensures.value ∙ ap ones_sum (omega arith) in
    record {
      value = ap (λ x. x % n) (c.from-3.ensures ∙ (c.reverse_bits.ensures.value ∙ ap reversed s));
      below = mod_below c.from-3.result n (omega (arith, counted n c.args.buckets.ok));
    }
