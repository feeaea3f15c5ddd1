-- The formats of messages: their fields in order, and what is wrong with a value. Assumes nothing.
use Rattle.std.specs.Prelude.{ℕ, Bool, true, false, cond, List, [], ◌∷◌, is_some, Some, None, Ok, Err, Option, Result, ◌==◌, nat_lt, slice_index}
use Rattle.std.specs.Option.{unwrap_or}
use Rattle.fault.specs.declared.Fault.{Fault}
use Rattle.fault.specs.declared.Fault.TheVariants.{NoSuch, BadPacket, WrongBucket, WrongAsker}
use Rattle.fault.specs.declared.Refusal.TheVariants.{Nobody}
use Rattle.fault.specs.Numbers.{refusal_of}
use Rattle.flow.specs.declared.key.FlowKey.{FlowKey}
use Rattle.flow.specs.declared.key.Protocol.TheVariants.{Tcp}
use Rattle.flow.specs.declared.ipv4.Flow.{Flow}
use Rattle.flow.specs.Buckets.{bucket_of}
use Rattle.flow.specs.Bytes.{protocol_of}
use Rattle.flow.specs.Ipv4.{read_spec}
use Rattle.chain.specs.declared.way.Link.{Link}
use Rattle.chain.specs.declared.way.Way.{Way}
use Rattle.chain.specs.declared.way.Way.TheVariants.{Up, Down, Asked}
use Rattle.wire.specs.declared.message.At.{At}
use Rattle.wire.specs.declared.message.Control.{Control}
use Rattle.wire.specs.declared.message.Control.TheVariants.{Stand, Behind, Door, Forgotten}
use Rattle.wire.specs.declared.message.Head.{Head}
use Rattle.wire.specs.declared.message.Order.{Order}
use Rattle.wire.specs.declared.message.Order.TheVariants.{Closed, Added, Removed, Ticks}
use Rattle.wire.specs.Meant.{Meant, Carried, Back}
use Rattle.wire.specs.Format.{Width, one, two, four, Field, Format}

-- a fault where the test fails
abbrev pub unless : Bool → Fault → Option Fault
unless t f = cond t None (Some f)

abbrev pub among : ℕ → List ℕ → Bool
among n [] = false
among n (x ∷ xs) = cond (n == x) true (among n xs)

-- THE FIELDS

-- values before a field, by their place: each message about a place begins with bucket and place, and then has a way or a neighbour
abbrev place_in : List ℕ → ℕ
place_in vs = slice_index vs 1

abbrev neighbour_in : List ℕ → ℕ
neighbour_in vs = slice_index vs 2

abbrev way_in : List ℕ → ℕ
way_in vs = slice_index vs 2

abbrev pub bucket_f : Field
bucket_f = record { width = two; wrong = λ B vs b. unless (nat_lt b B) NoSuch }

abbrev pub place_f : Field
place_f = record { width = four; wrong = λ B vs p. unless (nat_lt 0 p) NoSuch }

-- the place before, 0 for none, and its server
abbrev pub before_f : Field
before_f = record { width = four; wrong = λ B vs q. unless (nat_lt q (place_in vs)) NoSuch }

abbrev pub server_before_f : Field
server_before_f = record { width = one; wrong = λ B vs s. cond (neighbour_in vs == 0) (unless (s == 0) NoSuch) None }

-- a place after
abbrev pub after_f : Field
after_f = record { width = four; wrong = λ B vs q. unless (nat_lt (place_in vs) q) NoSuch }

abbrev pub server_f : Field
server_f = record { width = one; wrong = λ B vs s. None }

-- up, down, asked
abbrev pub way_f : Field
way_f = record { width = one; wrong = λ B vs w. unless (among w (1 ∷ 2 ∷ 3 ∷ [])) NoSuch }

-- who began to ask: nobody if up; asked is only who began
abbrev pub asker_f : Field
asker_f = record {
  width = four;
  wrong = λ B vs a.
      cond (way_in vs == 1) (unless (a == 0) NoSuch)
      (cond (a == 0) (Some NoSuch)
      (cond (way_in vs == 3) (unless (a == place_in vs) WrongAsker) None));
}

abbrev pub asker_server_f : Field
asker_server_f = record { width = one; wrong = λ B vs s. cond (way_in vs == 1) (unless (s == 0) NoSuch) None }

-- asked is only what may open
abbrev pub may_open_f : Field
may_open_f = record {
  width = one;
  wrong = λ B vs o.
      cond (among o (0 ∷ 1 ∷ [])) (cond (way_in vs == 3) (unless (o == 1) WrongAsker) None) (Some NoSuch);
}

abbrev pub refusal_f : Field
refusal_f = record { width = one; wrong = λ B vs n. unless (is_some (refusal_of n)) NoSuch }

abbrev pub protocol_f : Field
protocol_f = record { width = one; wrong = λ B vs n. unless (is_some (protocol_of n)) BadPacket }

-- a number that is never wrong by itself
abbrev pub plain_f : Width → Field
plain_f w = record { width = w; wrong = λ B vs n. None }

-- THE FORMATS

-- nothing behind the fields
abbrev pub fixed : {A : Type 0} → (List ℕ → Option At) → List Field → (List ℕ → A) → Format A
fixed far fs means = record { fields = fs; behind = λ vs. 0; means = λ B vs bs. Ok (means vs); far = far }

-- once bucket and place are read, a reader can tell them
abbrev pub reached : List ℕ → Option At
reached [] = None
reached (b ∷ []) = None
reached (b ∷ p ∷ vs) = Some (record { bucket = b; place = p })

abbrev pub nowhere : List ℕ → Option At
nowhere vs = None

abbrev pub link_of : ℕ → ℕ → Link
link_of p s = record { place = p; server = s }

abbrev pub link_or_none : ℕ → ℕ → Option Link
link_or_none p s = cond (p == 0) None (Some (link_of p s))

abbrev pub stand : Format Control
stand = fixed reached (bucket_f ∷ place_f ∷ before_f ∷ server_before_f ∷ []) (λ vs. Stand (slice_index vs 0) (slice_index vs 1) (link_or_none (slice_index vs 2) (slice_index vs 3)))

abbrev pub behind : Format Control
behind = fixed reached (bucket_f ∷ place_f ∷ after_f ∷ server_f ∷ []) (λ vs. Behind (slice_index vs 0) (slice_index vs 1) (link_of (slice_index vs 2) (slice_index vs 3)))

abbrev pub door : Format Control
door = fixed reached (bucket_f ∷ place_f ∷ server_f ∷ []) (λ vs. Door (slice_index vs 0) (link_of (slice_index vs 1) (slice_index vs 2)))

abbrev pub forgotten : Format Control
forgotten = fixed reached (bucket_f ∷ place_f ∷ after_f ∷ server_f ∷ []) (λ vs. Forgotten (slice_index vs 0) (slice_index vs 1) (link_of (slice_index vs 2) (slice_index vs 3)))

-- a session is closed
abbrev pub closed : Format Order
closed = fixed nowhere (plain_f four ∷ plain_f four ∷ plain_f two ∷ plain_f two ∷ protocol_f ∷ [])
    (λ vs. Closed (record { src = slice_index vs 0; dst = slice_index vs 1; sport = slice_index vs 2; dport = slice_index vs 3; protocol = unwrap_or (protocol_of (slice_index vs 4)) Tcp }))

-- a server is added, or removed
abbrev pub added : Format Order
added = fixed nowhere (server_f ∷ []) (λ vs. Added (slice_index vs 0))

abbrev pub removed : Format Order
removed = fixed nowhere (server_f ∷ []) (λ vs. Removed (slice_index vs 0))

-- time passes
abbrev pub ticks : Format Order
ticks = fixed nowhere (plain_f four ∷ []) (λ vs. Ticks (slice_index vs 0))

-- a packet goes back to its sender, whatever it is
abbrev pub refused : Format Meant
refused = record { fields = refusal_f ∷ plain_f two ∷ []; behind = λ vs. slice_index vs 1; means = λ B vs bs. Ok (Back (unwrap_or (refusal_of (slice_index vs 0)) Nobody) bs); far = nowhere }

abbrev pub way_of : ℕ → Link → Way
way_of n by = cond (n == 1) Up (cond (n == 2) (Down by) (Asked by))

-- who began to ask
abbrev pub asker_of : Way → Link
asker_of Up = link_of 0 0
asker_of (Down by) = by
asker_of (Asked by) = by

abbrev pub opens_byte : Bool → ℕ
opens_byte t = cond t 1 0

abbrev pub in_bucket : ℕ → ℕ → Result Flow Fault → Result FlowKey Fault
in_bucket B b (Ok flow) = cond (bucket_of flow.key B == b) (Ok flow.key) (Err WrongBucket)
in_bucket B b (Err f) = Err f

-- the session of the packet inside, which is in the bucket b
unfoldable pub inside_of : ℕ → ℕ → List ℕ → Result FlowKey Fault
inside_of B b bs = in_bucket B b (read_spec bs)

abbrev head_of : List ℕ → Head
head_of vs = record { bucket = slice_index vs 0; place = slice_index vs 1; way = way_of (slice_index vs 2) (link_of (slice_index vs 3) (slice_index vs 4)); opens = (slice_index vs 5 == 1) }

abbrev pub carried_by : Head → List ℕ → Result FlowKey Fault → Result Meant Fault
carried_by h bs (Ok key) = Ok (Carried h key bs)
carried_by h bs (Err f) = Err f

-- a packet between machines
abbrev pub packet : Format Meant
packet = record {
  fields = bucket_f ∷ plain_f four ∷ way_f ∷ asker_f ∷ asker_server_f ∷ may_open_f ∷ plain_f two ∷ [];
  behind = λ vs. slice_index vs 6;
  means = λ B vs bs. carried_by (head_of vs) bs (inside_of B (slice_index vs 0) bs);
  far = reached;
}
