-- The word is `buckets`.
use Rattle.std.proofs.Common.{codes, refl, arith}
use Rattle.std.proofs.lemmas.Slice.Eq.{text_from_reads}
use Rattle.settings.proofs.kept.Setting.named.Goals as goal

pub returns-in-buckets : goal.returns-in-buckets
returns-in-buckets c =
    rw (text_from_reads c.args.word.now (codes "buckets") (omega arith) (omega arith, (omega arith, (omega arith, (omega arith, (omega arith, (omega arith, (omega arith, tt)))))))) refl
