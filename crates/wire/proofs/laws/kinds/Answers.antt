-- There and back, and a format for each.
use Rattle.wire.proofs.Numbered.{kind_again, number_again, kind_known}
use Rattle.wire.proofs.laws.kinds.Goals as goal

pub returns : goal.returns
returns c = record { again = kind_again; same = number_again; known = kind_known }
