-- The first bytes of the smallest packets, and which of them may open a session. Assumes nothing.
use Rattle.std.specs.Prelude.{ℕ, Bool, true, List, ◌∷◌, ◌++◌}
use Rattle.flow.specs.declared.key.FlowKey.{FlowKey}
use Rattle.flow.specs.declared.key.Protocol.{Protocol}
use Rattle.flow.specs.declared.key.Protocol.TheVariants.{Tcp, Udp}
use Rattle.flow.specs.Key.{protocol_number}
use Rattle.flow.specs.Bytes.{bytes16, bytes32}

-- version 4 and a head of five words, the length of all, 64 hops, the protocol; addresses and ports
abbrev pub start : FlowKey → ℕ → List ℕ
start f n =
    69 ∷ 0 ∷ 0 ∷ n ∷ 0 ∷ 0 ∷ 0 ∷ 0 ∷ 64 ∷ protocol_number f.protocol ∷ 0 ∷ 0
    ∷ (bytes32 f.src ++ (bytes32 f.dst ++ (bytes16 f.sport ++ bytes16 f.dport)))

abbrev opens_by : Protocol → Bool → Bool
opens_by Tcp b = b
opens_by Udp b = true

-- every packet of UDP may
abbrev pub may_open : FlowKey → Bool → Bool
may_open f b = opens_by f.protocol b
