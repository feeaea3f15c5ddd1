-- Two keys that the test takes for the same are equal, and each is the same as itself. Assumes nothing.
use Rattle.std.specs.Prelude.{◌==◌}
use Rattle.std.proofs.Common.{◌≡◌, ℕ, ◌+◌, ◌*◌, ◌^◌, ◌<◌, true, sym, refl, ◌∙◌, inl, inr, arith}
use Rattle.std.proofs.lemmas.Bool.{cases_Bool, and_parts, and_from, eqb-true, eq-eqb}
use Rattle.flow.specs.declared.key.FlowKey.{FlowKey}
use Rattle.flow.specs.declared.key.Protocol.{Protocol}
use Rattle.flow.specs.declared.key.Protocol.TheVariants.{Tcp, Udp}
use Rattle.flow.specs.Key as flow
use Rattle.flow.specs.Key.{protocol_number}
use Rattle.flow.specs.contracts.key.ProtocolPartialEq.TheImpl as protocol_eq
use Rattle.flow.proofs.Same as flows
use Rattle.sessions.specs.contracts.key.KeyPartialEq.TheImpl as key_eq
use Rattle.sessions.specs.declared.key.Key.{Key}
use Rattle.sessions.specs.Keys.{same_key, slot_of, weigh}

-- what `==` computes
same_protocol : (p q : Protocol) → (protocol_eq.ghosts).eq p q ≡ (protocol_number p == protocol_number q)
same_protocol Tcp Tcp = refl
same_protocol Tcp Udp = refl
same_protocol Udp Tcp = refl
same_protocol Udp Udp = refl

pub equal : (a b : Key) → (key_eq.ghosts).eq a b ≡ same_key a b
unfolding same_key flow.same_flow
equal a b = rw (same_protocol a.flow.protocol b.flow.protocol) refl

abbrev key_of : ℕ → ℕ → FlowKey → Key
key_of b p f = record { bucket = b; place = p; flow = f }

pub same_refl : (a : Key) → same_key a a ≡ true
unfolding same_key
same_refl a = and_from _ _ (eq-eqb a.bucket a.bucket refl) (and_from _ _ (eq-eqb a.place a.place refl) (flows.same_refl a.flow))

pub same_eq : (a b : Key) → same_key a b ≡ true → a ≡ b
unfolding same_key
same_eq a b t =
    let x = and_parts _ _ t in
    let y = and_parts _ _ x.1 in
    let s : a.bucket ≡ b.bucket = eqb-true a.bucket b.bucket x.0 in
    let p : a.place ≡ b.place = eqb-true a.place b.place y.0 in
    let f : a.flow ≡ b.flow = flows.same_eq a.flow b.flow y.1 in
    let e : key_of a.bucket a.place a.flow ≡ key_of b.bucket b.place b.flow = cc in
    e

pub same_flip : (a b : Key) → same_key a b ≡ same_key b a
same_flip a b =
    elim (cases_Bool (same_key a b)) [
      | inl y ↦ (let e : a ≡ b = same_eq a b y in rw e)
      | inr n ↦ elim (cases_Bool (same_key b a)) [
        | inl z ↦ (let e : b ≡ a = same_eq b a z in rw e)
        | inr m ↦ n ∙ sym m
      ]
    ]

weigh_below : (part weight sum : ℕ) → weigh part weight sum < 2 ^ 64
unfolding weigh
weigh_below part weight sum = omega arith

pub slot_below : (k : Key) → slot_of k < 65536
unfolding slot_of
slot_below k = omega (
  arith,
  weigh_below (k.bucket * 256 + protocol_number k.flow.protocol) 0xe703_7ed1_a0b4_28db (weigh k.place 0xa076_1d64_78bd_642f
      (weigh (k.flow.sport * 65536 + k.flow.dport) 0xd6e8_feb8_6659_fd93 (weigh k.flow.dst 0xc2b2_ae3d_27d4_eb4f (weigh k.flow.src 0x9e37_79b9_7f4a_7c15 0)))),
)
