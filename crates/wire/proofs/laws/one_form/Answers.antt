-- There and back.
use Rattle.wire.proofs.Again.{read_again}
use Rattle.wire.proofs.Forth.{written_again}
use Rattle.wire.proofs.laws.one_form.Goals as goal

pub returns : goal.returns
returns c = record { again = read_again; same = written_again }
