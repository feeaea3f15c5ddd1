-- The session of an IPv4 packet, by position in its bytes: the head as in RFC 791, ports and flags as in RFC 793 and RFC 768. Assumes nothing.
use Rattle.std.specs.Prelude.{ℕ, ◌+◌, ◌*◌, ◌/◌, ◌%◌, Bool, true, cond, ◌&&◌, List, length, Ok, Err, Result, ◌==◌, nat_le, slice_index}
use Rattle.fault.specs.declared.Fault.{Fault}
use Rattle.fault.specs.declared.Fault.TheVariants.{BadPacket}
use Rattle.flow.specs.declared.key.FlowKey.{FlowKey}
use Rattle.flow.specs.declared.key.Protocol.{Protocol}
use Rattle.flow.specs.declared.key.Protocol.TheVariants.{Tcp, Udp}
use Rattle.flow.specs.declared.ipv4.Flow.{Flow}
use Rattle.flow.specs.Mix.{bit}
use Rattle.flow.specs.Bytes.{be16, be32}

abbrev pub version : List ℕ → ℕ
version bs = slice_index bs 0 / 16

-- in bytes; the head counts words of four
abbrev pub head_length : List ℕ → ℕ
head_length bs = slice_index bs 0 % 16 * 4

abbrev pub total_length : List ℕ → ℕ
total_length bs = be16 bs 2

-- below the three flags
abbrev pub fragment_offset : List ℕ → ℕ
fragment_offset bs = be16 bs 6 % 8192

-- where the head ends, in one whole packet that is no later fragment
abbrev pub head_spec : List ℕ → Result ℕ Fault
head_spec bs =
    cond (nat_le 20 (length bs)
    && (version bs == 4
    && (nat_le 20 (head_length bs)
    && (nat_le (head_length bs) (length bs)
    && (total_length bs == length bs
    && fragment_offset bs == 0)))))
    (Ok (head_length bs))
    (Err BadPacket)

-- addresses in the head, ports behind it
abbrev pub key_at : List ℕ → ℕ → Protocol → FlowKey
key_at bs head p = record { src = be32 bs 12; dst = be32 bs 16; sport = be16 bs head; dport = be16 bs (head + 2); protocol = p }

-- SYN (bit 1) without ACK (bit 4)
abbrev pub opens_tcp : ℕ → Bool
opens_tcp flags = bit flags 1 == 1 && bit flags 4 == 0

-- TCP has 20 bytes at least, with its flags in byte 13; UDP has 8, and each of its packets may open
abbrev pub flow_at : List ℕ → Result ℕ Fault → Result Flow Fault
flow_at bs (Err f) = Err f
flow_at bs (Ok head) =
    cond (slice_index bs 9 == 6 && nat_le (head + 20) (length bs)) (Ok (record { key = key_at bs head Tcp; opens = opens_tcp (slice_index bs (head + 13)) }))
    (cond (slice_index bs 9 == 17 && nat_le (head + 8) (length bs)) (Ok (record { key = key_at bs head Udp; opens = true }))
    (Err BadPacket))

abbrev pub read_spec : List ℕ → Result Flow Fault
read_spec bs = flow_at bs (head_spec bs)
