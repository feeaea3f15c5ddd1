use Rattle.std.proofs.Common.{◌≡◌, ℕ, refl}
use Rattle.std.specs.Int.{w32, to_be_bytes}
use Rattle.std.specs.Net.Addr.{IsIpv4OfBits, ipv4_octets}
use Rattle.std.specs.declared.net.ipv4_addr.Ipv4Addr.{Ipv4Addr}
use Rattle.std.proofs.Output.{has_written_of_eq}
use Rattle.flow.proofs.text.FlowKeyDisplay.fmt.Goals as goal

octets : (a : Ipv4Addr) (n : ℕ) → IsIpv4OfBits a n → ipv4_octets a ≡ to_be_bytes w32 n
unfolding IsIpv4OfBits
octets a n h = h

pub returns-clause-writes : goal.returns-clause-writes
returns-clause-writes g c =
    λ plain ok. has_written_of_eq _ _ _ _ _ (rw (octets _ _ c.from-src.ensures, octets _ _ c.from-dst.ensures) refl) (c.write.ensures.writes plain ok)
