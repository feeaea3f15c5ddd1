-- What was read is written as the same bytes.
use Rattle.std.proofs.Common.{arith}
use Rattle.wire.specs.Seen.{seen}
use Rattle.wire_read.proofs.Form.{forms}
use Rattle.wire_read.proofs.read.Goals as goal

pub returns : goal.returns
returns c =
    record {
      value = c.read_kind.ensures;
      form = forms c.args.buckets.count c.args.bytes.now (seen c.read_kind.result) (λ i. omega (arith, c.type_inv.bytes i)) c.read_kind.ensures;
    }
