-- The word, by its bytes.
use Rattle.std.proofs.Common.{codes, refl, arith}
use Rattle.std.proofs.lemmas.Slice.Eq.{text_from_reads}
use Rattle.lines.proofs.name.lone.Goals as goal

pub returns-in-client : goal.returns-in-client
returns-in-client c =
    rw (text_from_reads c.args.word.now (codes "client") (omega arith) (omega arith, (omega arith, (omega arith, (omega arith, (omega arith, (omega arith, tt))))))) refl

pub returns-in-office : goal.returns-in-office
returns-in-office c =
    rw (text_from_reads c.args.word.now (codes "office") (omega arith) (omega arith, (omega arith, (omega arith, (omega arith, (omega arith, (omega arith, tt))))))) refl
