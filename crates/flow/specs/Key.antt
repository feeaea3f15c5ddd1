-- The name of a session, and when two are the same. Assumes nothing.
use Rattle.std.specs.Prelude.{ℕ, Bool, ◌&&◌, ◌==◌}
use Rattle.flow.specs.declared.key.Protocol.{Protocol}
use Rattle.flow.specs.declared.key.Protocol.TheVariants.{Tcp, Udp}
use Rattle.flow.specs.declared.key.FlowKey.{FlowKey}

abbrev pub protocol_number : Protocol → ℕ
protocol_number Tcp = 6
protocol_number Udp = 17

-- a test of equality: proofs/Same.antt has the two laws that make it one
unfoldable pub same_flow : FlowKey → FlowKey → Bool
same_flow a b =
    (a.src == b.src) && (a.dst == b.dst && (a.sport == b.sport && (a.dport == b.dport && protocol_number a.protocol == protocol_number b.protocol)))
