-- Numbers and sessions as bytes, high byte first. Assumes nothing.
use Rattle.std.specs.Prelude.{◌≡◌, ℕ, ◌+◌, ◌*◌, ◌/◌, ◌%◌, ◌<◌, cond, List, [], ◌∷◌, ◌++◌, length, Some, None, Option, ok_or, Result, Err, ◌==◌, slice_index}
use Rattle.std.specs.Option.{option_map}
use Rattle.fault.specs.declared.Fault.{Fault}
use Rattle.fault.specs.declared.Fault.TheVariants.{Malformed, BadPacket}
use Rattle.flow.specs.declared.key.FlowKey.{FlowKey}
use Rattle.flow.specs.declared.key.Protocol.{Protocol}
use Rattle.flow.specs.declared.key.Protocol.TheVariants.{Tcp, Udp}
use Rattle.flow.specs.Key.{protocol_number}

-- the number of two and of four bytes from i on
abbrev pub be16 : List ℕ → ℕ → ℕ
be16 bs i = slice_index bs i * 256 + slice_index bs (i + 1)

abbrev pub be32 : List ℕ → ℕ → ℕ
be32 bs i = slice_index bs i * 16777216 + slice_index bs (i + 1) * 65536 + slice_index bs (i + 2) * 256 + slice_index bs (i + 3)

abbrev pub bytes16 : ℕ → List ℕ
bytes16 n = (n / 256 % 256) ∷ (n % 256) ∷ []

abbrev pub bytes32 : ℕ → List ℕ
bytes32 n = (n / 16777216 % 256) ∷ (n / 65536 % 256) ∷ (n / 256 % 256) ∷ (n % 256) ∷ []

abbrev pub protocol_of : ℕ → Option Protocol
protocol_of n = cond (n == 6) (Some Tcp) (cond (n == 17) (Some Udp) None)

-- source address, destination address, source port, destination port, protocol
abbrev pub key_bytes : FlowKey → List ℕ
key_bytes f = bytes32 f.src ++ (bytes32 f.dst ++ (bytes16 f.sport ++ (bytes16 f.dport ++ (protocol_number f.protocol ∷ []))))

abbrev pub key_of : List ℕ → Option FlowKey
key_of bs = cond (length bs == 13)
    (option_map (λ p. record { src = be32 bs 0; dst = be32 bs 4; sport = be16 bs 8; dport = be16 bs 10; protocol = p }) (protocol_of (slice_index bs 12)))
    None

-- the session of some bytes, or why they are none: there are not 13, or the protocol is another
abbrev pub key_read : List ℕ → Result FlowKey Fault
key_read bs = cond (length bs == 13) (ok_or (key_of bs) BadPacket) (Err Malformed)

-- each field within its width, as in every FlowKey that code holds
abbrev pub FitsKey : FlowKey → Type 0
FitsKey f = (f.src < 4294967296) × (f.dst < 4294967296) × (f.sport < 65536) × (f.dport < 65536)

-- what was written is read again
abbrev pub KeyRoundTrip : Type 0
KeyRoundTrip = (f : FlowKey) → FitsKey f → key_of (key_bytes f) ≡ Some f
