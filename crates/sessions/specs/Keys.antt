-- Sessions' keys: when two are the same, which are in a place, and the slot that a key is filed in. Assumes nothing.
use Rattle.std.specs.Prelude.{ℕ, ◌+◌, ◌*◌, ◌/◌, ◌%◌, ◌^◌, Bool, ◌&&◌, ◌==◌}
use Rattle.flow.specs.Key.{same_flow, protocol_number}
use Rattle.sessions.specs.declared.key.Key.{Key}

-- a test of equality: proofs/Same.antt has the laws that make it one
unfoldable pub same_key : Key → Key → Bool
same_key a b = a.bucket == b.bucket && (a.place == b.place && same_flow a.flow b.flow)

unfoldable pub in_place : ℕ → ℕ → Key → Bool
in_place b p k = k.bucket == b && k.place == p

unfoldable pub weigh : ℕ → ℕ → ℕ → ℕ
weigh part weight sum = ((part * weight) % 2 ^ 64 + sum) % 2 ^ 64

unfoldable pub slot_of : Key → ℕ
slot_of k =
    weigh (k.bucket * 256 + protocol_number k.flow.protocol) 0xe703_7ed1_a0b4_28db
    (weigh k.place 0xa076_1d64_78bd_642f
    (weigh (k.flow.sport * 65536 + k.flow.dport) 0xd6e8_feb8_6659_fd93
    (weigh k.flow.dst 0xc2b2_ae3d_27d4_eb4f
    (weigh k.flow.src 0x9e37_79b9_7f4a_7c15 0)))) / 2 ^ 48
