-- A number is made again from its bytes, and a session from its 13 bytes. Assumes nothing.
use Rattle.std.proofs.Common.{◌≡◌, ℕ, ◌+◌, ◌*◌, ◌/◌, ◌%◌, ◌<◌, Some, refl, mod-eq_of_lt, arith}
use native.Mathlib.Nat.{div-div-eq-div-mul}
use Rattle.std.proofs.lemmas.Nat.{div_below, div-add-mod'}
use Rattle.flow.specs.declared.key.Protocol.{Protocol}
use Rattle.flow.specs.declared.key.Protocol.TheVariants.{Tcp, Udp}
use Rattle.flow.specs.Bytes.{KeyRoundTrip, protocol_of}
use Rattle.flow.specs.Key.{protocol_number}

pub of16 : (n : ℕ) → n < 65536 → (n / 256 % 256) * 256 + n % 256 ≡ n
of16 n h = omega arith

pub of32 : (n : ℕ) → n < 4294967296 → (n / 16777216 % 256) * 16777216 + (n / 65536 % 256) * 65536 + (n / 256 % 256) * 256 + n % 256 ≡ n
of32 n h =
    let top : n / 16777216 % 256 ≡ n / 16777216 = mod-eq_of_lt (div_below n 16777216 256 (omega arith) (omega arith)) in
    let low = div-add-mod' n 256 in
    let mid = div-add-mod' (n / 256) 256 in
    let high = div-add-mod' (n / 65536) 256 in
    omega (arith, div-div-eq-div-mul n 256 256, div-div-eq-div-mul n 65536 256)

pub protocol_again : (p : Protocol) → protocol_of (protocol_number p) ≡ Some p
protocol_again Tcp = refl
protocol_again Udp = refl

pub key_again : KeyRoundTrip
key_again f h = rw (protocol_again f.protocol, of32 f.src h.0, of32 f.dst h.1, of16 f.sport h.2, of16 f.dport h.3)
