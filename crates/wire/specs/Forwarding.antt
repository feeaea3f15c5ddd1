-- A packet between machines whose head is written anew. Assumes nothing.
use Rattle.std.specs.Prelude.{◌≡◌, ℕ, cond, not, ◌||◌, List, [], ◌∷◌, ◌++◌, length, take, drop, Ok, Err, Result, ◌==◌, nat_lt, slice_index}
use Rattle.fault.specs.declared.Fault.{Fault}
use Rattle.fault.specs.declared.Fault.TheVariants.{Malformed}
use Rattle.flow.specs.declared.key.FlowKey.{FlowKey}
use Rattle.chain.specs.declared.way.Way.{Way}
use Rattle.chain.specs.Ways.{way_number}
use Rattle.wire.specs.declared.message.Head.{Head}
use Rattle.wire.specs.Meant.{Carried}
use Rattle.wire.specs.Format.{put}
use Rattle.wire.specs.Formats.{packet, asker_of}
use Rattle.wire.specs.Messages.{encode}

-- place, way, who began to ask and its server
abbrev pub route_bytes : ℕ → Way → List ℕ
route_bytes place way = put (take 4 (drop 1 packet.fields)) (place ∷ way_number way ∷ (asker_of way).place ∷ (asker_of way).server ∷ [])

-- in a head
abbrev pub renewed : ℕ → Way → List ℕ → List ℕ
renewed place way head = take 3 head ++ (route_bytes place way ++ drop 13 head)

-- what is behind the head stays
abbrev pub sent_on : ℕ → Way → List ℕ → List ℕ
sent_on place way bs = renewed place way (take 16 bs) ++ drop 16 bs

abbrev pub forwarded : ℕ → Way → List ℕ → Result (Unit {0}) Fault × List ℕ
forwarded place way bs = cond (nat_lt (length bs) 16 || not (slice_index bs 0 == 1)) (Err Malformed, bs) (Ok tt, sent_on place way bs)

-- the bytes of a packet become those of the same packet at another place, on another way
abbrev pub Forwards : Type 0
Forwards = (head : Head) (key : FlowKey) (bs : List ℕ) (place : ℕ) (way : Way)
    → forwarded place way (encode (Carried head key bs)) ≡ (Ok tt, encode (Carried (record { bucket = head.bucket; place = place; way = way; opens = head.opens }) key bs))
