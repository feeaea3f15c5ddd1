-- The steps are the reversal, and the reversal turns each bit to its place.
use Rattle.std.proofs.Common.{ap, ◌∙◌, arith}
use Rattle.flow.specs.Mix.{bit}
use Rattle.flow.proofs.Reversal.{steps_reverse, bits_reverse}
use Rattle.flow.proofs.reverse.reverse_bits.Goals as goal

pub returns : goal.returns
returns c =
    let e = steps_reverse c.args.x (omega arith) in
    record { value = e; bits = λ i h. ap (λ n. bit n i) e ∙ bits_reverse c.args.x 16 i h }
