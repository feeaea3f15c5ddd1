-- Two flows that the test takes for the same are equal, and each is the same as itself. Assumes nothing.
use Rattle.std.proofs.Common.{◌≡◌, ℕ, true, refl, arith}
use Rattle.std.proofs.lemmas.Bool.Decides.{nat_tests}
use denote.Enum.Bare.{sameb}
use Rattle.std.specs.Prelude.{◌==◌}
use Rattle.flow.specs.contracts.key.Protocol.{the_type}
use Rattle.flow.specs.declared.key.Protocol.{Protocol}
use Rattle.flow.specs.declared.key.Protocol.TheVariants.{Tcp, Udp}
use Rattle.flow.specs.declared.key.FlowKey.{FlowKey}
use Rattle.flow.specs.Key.{protocol_number, same_flow}

abbrev flow_of : ℕ → ℕ → ℕ → ℕ → Protocol → FlowKey
flow_of s d a b p = record { src = s; dst = d; sport = a; dport = b; protocol = p }

same_protocol : (p q : Protocol) → protocol_number p ≡ protocol_number q → p ≡ q
same_protocol Tcp Tcp e = refl
same_protocol Tcp Udp e = absurd (omega arith)
same_protocol Udp Tcp e = absurd (omega arith)
same_protocol Udp Udp e = refl

-- two protocols are equal just where their numbers are, so the derived test of flows is the one of the definition
pub protocols_same : (p q : Protocol) → sameb the_type p q ≡ (protocol_number p == protocol_number q)
protocols_same Tcp Tcp = refl
protocols_same Tcp Udp = refl
protocols_same Udp Tcp = refl
protocols_same Udp Udp = refl

pub same_refl : (a : FlowKey) → same_flow a a ≡ true
unfolding same_flow
same_refl a = grind (arith, nat_tests)

pub same_eq : (a b : FlowKey) → same_flow a b ≡ true → a ≡ b
unfolding same_flow
same_eq a b t =
    let s : a.src ≡ b.src = grind (arith, nat_tests) in
    let d : a.dst ≡ b.dst = grind (arith, nat_tests) in
    let u : a.sport ≡ b.sport = grind (arith, nat_tests) in
    let v : a.dport ≡ b.dport = grind (arith, nat_tests) in
    let n : protocol_number a.protocol ≡ protocol_number b.protocol = grind (arith, nat_tests) in
    let w : a.protocol ≡ b.protocol = same_protocol a.protocol b.protocol n in
    let e : flow_of a.src a.dst a.sport a.dport a.protocol ≡ flow_of b.src b.dst b.sport b.dport b.protocol = cc in
    e
