-- The word is `houses`.
use Rattle.std.proofs.Common.{codes, arith}
use Rattle.std.proofs.lemmas.Slice.Eq.{text_from_reads}
use Rattle.settings.proofs.kept.Settings.take_word.Goals as goal

pub returns-in-houses : goal.returns-in-houses
returns-in-houses c =
    rw (text_from_reads c.args.word.now (codes "houses") (omega arith) (omega arith, (omega arith, (omega arith, (omega arith, (omega arith, (omega arith, tt)))))))
    c.list.ensures
