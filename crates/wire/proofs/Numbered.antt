-- Kinds and their numbers, there and back. Assumes nothing.
use Rattle.std.proofs.Common.{refl, arith}
use Rattle.std.proofs.lemmas.Bool.Decides.{nat_tests}
use Rattle.wire.specs.declared.kind.Kind.TheVariants.{Packet, Control, Answer, Refused, Closed, Added, Removed, Ticks}
use Rattle.wire.specs.declared.kind.Topic.TheVariants.{Stand, Behind, Door, Forgotten}
use Rattle.wire.specs.Kinds.{KindAgain, NumberAgain, KindKnown}

pub kind_again : KindAgain
kind_again Packet = refl
kind_again (Control Stand) = refl
kind_again (Control Behind) = refl
kind_again (Control Door) = refl
kind_again (Control Forgotten) = refl
kind_again (Answer Stand) = refl
kind_again (Answer Behind) = refl
kind_again (Answer Door) = refl
kind_again (Answer Forgotten) = refl
kind_again Refused = refl
kind_again Closed = refl
kind_again Added = refl
kind_again Removed = refl
kind_again Ticks = refl

pub number_again : NumberAgain
number_again n k e = grind (arith, nat_tests)

pub kind_known : KindKnown
kind_known n = grind (arith, nat_tests)
