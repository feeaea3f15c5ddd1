-- What a balancer does with a packet, by its parts. Assumes nothing.
use Rattle.std.proofs.Common.{◌≡◌, ℕ, List, Ok, Err, Result, ap, arith}
use Rattle.fault.specs.declared.Fault.{Fault}
use Rattle.flow.specs.declared.key.FlowKey.{FlowKey}
use Rattle.flow.specs.declared.ipv4.Flow.{Flow}
use Rattle.flow.specs.Buckets.{bucket_of}
use Rattle.flow.specs.Ipv4.{read_spec}
use Rattle.chain.specs.declared.way.Link.{Link}
use Rattle.chain.specs.declared.way.Way.TheVariants.{Up}
use Rattle.wire.specs.declared.message.Head.{Head}
use Rattle.wire.specs.Meant.{Meant, Carried, Said, Answered, Back, Ordered}
use Rattle.balancer.specs.Rules.{link_at, sends_flow, sends}
use Rattle.whole.specs.World.{Was, Packet}

-- the packet of a flow that comes by a balancer that knows these links, and the server that it goes to
abbrev pub coming : ℕ → List Link → Flow → List ℕ → Was → ℕ → ℕ × Packet
coming B known flow bytes was seen = (
  (link_at known (bucket_of flow.key B)).server,
  record { head = record { bucket = bucket_of flow.key B; place = (link_at known (bucket_of flow.key B)).place; way = Up; opens = flow.opens }; flow = flow.key; bytes = bytes; was = was; seen = seen },
)

abbrev server_in : Result (ℕ × Meant) Fault → ℕ
server_in (Ok p) = p.0
server_in (Err f) = 0

abbrev head_of : Head → Meant → Head
head_of d (Carried h c bs) = h
head_of d (Said c) = d
head_of d (Answered c) = d
head_of d (Back r bs) = d
head_of d (Ordered o) = d

abbrev head_in : Head → Result (ℕ × Meant) Fault → Head
head_in d (Ok p) = head_of d p.1
head_in d (Err f) = d

abbrev flow_of : FlowKey → Meant → FlowKey
flow_of d (Carried h c bs) = c
flow_of d (Said c) = d
flow_of d (Answered c) = d
flow_of d (Back r bs) = d
flow_of d (Ordered o) = d

abbrev flow_in : FlowKey → Result (ℕ × Meant) Fault → FlowKey
flow_in d (Ok p) = flow_of d p.1
flow_in d (Err f) = d

-- a packet that is sent is that of the flow that was read
pub record Sends (B : ℕ) (known : List Link) (v : ℕ) (h : Head) (c : FlowKey) : Type 0 where
  pub flow : Flow
  pub to : (link_at known (bucket_of flow.key B)).server ≡ v
  pub head : record { bucket = bucket_of flow.key B; place = (link_at known (bucket_of flow.key B)).place; way = Up; opens = flow.opens } ≡ h
  pub key : flow.key ≡ c

sends_by : (B : ℕ) (known : List Link) (bytes : List ℕ) (z : Result Flow Fault) (v : ℕ) (h : Head) (c : FlowKey) → sends_flow B known bytes z ≡ Ok (v, Carried h c bytes) → Sends B known v h c
sends_by B known bytes (Err f) v h c e = absurd (grind arith)
sends_by B known bytes (Ok flow) v h c e = record { flow = flow; to = ap server_in e; head = ap (head_in h) e; key = ap (flow_in c) e }

pub sends_as : (B : ℕ) (known : List Link) (bytes : List ℕ) (v : ℕ) (h : Head) (c : FlowKey) → sends B known bytes ≡ Ok (v, Carried h c bytes) → Sends B known v h c
sends_as B known bytes v h c e = sends_by B known bytes (read_spec bytes) v h c e

pub is_coming : (B : ℕ) (known : List Link) (bytes : List ℕ) (v : ℕ) (h : Head) (c : FlowKey) (was : Was) (closings : FlowKey → ℕ) (s : Sends B known v h c) →
    coming B known s.flow bytes was (closings s.flow.key) ≡ (v, record { head = h; flow = c; bytes = bytes; was = was; seen = closings c })
is_coming B known bytes v h c was closings s = rw (s.to, s.head, s.key)
