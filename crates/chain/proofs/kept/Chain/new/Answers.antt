-- One place falls.
use Rattle.std.proofs.Common.{refl, arith}
use Rattle.chain.specs.Falls.{falls}
use Rattle.chain.proofs.kept.Chain.new.Goals as goal

pub invariant_of-result : goal.invariant_of-result
unfolding falls
invariant_of-result c = record { some = omega arith; most = omega arith; eight = refl; falling = refl; awaited = refl }
