-- What is behind the place, and the place, make the whole.
use Rattle.std.proofs.Common.{[], ◌∷◌, drop, ap}
use Rattle.wire.specs.Format.{four, ended}
use Rattle.wire.specs.Formats.{bucket_f, plain_f, reached, packet}
use Rattle.wire_packet.proofs.Fields.{resumes}
use Rattle.wire_packet.proofs.Located.{seen_located}
use Rattle.wire_packet.proofs.read_packet.Goals as goal

pub returns : goal.returns
returns c =
    let whole = resumes reached c.args.buckets.count (drop 2 packet.fields) (bucket_f ∷ plain_f four ∷ []) [] c.args.bytes.now _ _ c.in_ok-at.ensures in
    rw (c.found.ensures, seen_located) (rw c.read_carried.ensures (ap (ended packet c.args.buckets.count) whole))
