-- A session's name as text. Assumes nothing.
use Rattle.std.specs.Prelude.{ℕ, List, ◌++◌, cond, codes, decimal, Result, Ok, Err}
use Rattle.std.specs.Str.{bytes_eq}
use Rattle.std.specs.Int.{w32, to_be_bytes}
use Rattle.std.specs.Net.Text.{ipv4_text}
use Rattle.fault.specs.declared.Fault.{Fault}
use Rattle.fault.specs.declared.Fault.TheVariants.{BadPacket}
use Rattle.flow.specs.declared.key.FlowKey.{FlowKey}
use Rattle.flow.specs.declared.key.Protocol.{Protocol}
use Rattle.flow.specs.declared.key.Protocol.TheVariants.{Tcp, Udp}

abbrev pub protocol_text : Protocol → List ℕ
protocol_text Tcp = codes "tcp"
protocol_text Udp = codes "udp"

abbrev pub protocol_in : List ℕ → Result Protocol Fault
protocol_in text = cond (bytes_eq text (codes "tcp")) (Ok Tcp) (cond (bytes_eq text (codes "udp")) (Ok Udp) (Err BadPacket))

-- four numbers with dots between them, high byte first
abbrev pub address_text : ℕ → List ℕ
address_text n = ipv4_text (to_be_bytes w32 n)

-- the source, the destination and the protocol: `10.0.0.7:4242>10.1.1.1:80/tcp`
abbrev pub key_text : FlowKey → List ℕ
key_text f =
    address_text f.src ++ (codes ":" ++ (decimal f.sport ++ (codes ">"
    ++ (address_text f.dst ++ (codes ":" ++ (decimal f.dport ++ (codes "/" ++ protocol_text f.protocol)))))))
