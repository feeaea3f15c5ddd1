-- The number of the first bytes, as wide as its field.
use Rattle.std.proofs.Common.{rules}
use Rattle.wire.proofs.Numbers.{number_cut, number_here}
use Rattle.wire_packet.proofs.number.Number.split.Goals as goal

pub returns-in_default : goal.returns-in_default
returns-in_default g c = let same = g.met.Self.Number.sized in number_cut g.Self.Number.width c.args.bytes.now (search rules)

pub returns : goal.returns
returns g c = let same = g.met.Self.Number.sized in number_here g.Self.Number.width c.args.bytes.now c.in-Some.front.now c.in-Some.rest.now _ (search rules) (search rules) (search rules) (search rules)
