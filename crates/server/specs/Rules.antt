-- What a server does with each message, order and packet. The rules of one bucket are those of `server_bucket`, those of a packet at a place are `chain`'s. Assumes nothing.
use Rattle.std.specs.Prelude.{◌≡◌, ℕ, suc, ◌+◌, Bool, true, false, cond, ◌&&◌, List, [], ◌∷◌, ◌++◌, map, length, is_some, Some, None, Ok, Err, Option, Result, ◌==◌, nat_le, nat_lt, slice_index_or, slice_set}
use Rattle.fault.specs.declared.Fault.{Fault}
use Rattle.fault.specs.declared.Fault.TheVariants.{Malformed, NoSuch, UnknownPlace}
use Rattle.fault.specs.declared.Refusal.TheVariants.{For}
use Rattle.flow.specs.declared.key.FlowKey.{FlowKey}
use Rattle.flow.specs.Buckets.{bucket_of}
use Rattle.chain.specs.declared.way.Link.{Link}
use Rattle.chain.specs.declared.way.Packet.{Packet}
use Rattle.chain.specs.declared.place.Standing.{Standing}
use Rattle.chain.specs.declared.place.Standing.TheVariants.{Never, Stands, Forgotten}
use Rattle.chain.specs.declared.place.Place.{Place}
use Rattle.chain.specs.declared.place.Entry.{Entry}
use Rattle.chain.specs.declared.place.Entry.TheVariants.{Open, Vacant, Full}
use Rattle.chain.specs.declared.place.Outcome.{Outcome}
use Rattle.chain.specs.declared.place.Outcome.TheVariants.{Delivered, Opened, Forwarded, Refused, Dropped}
use Rattle.chain.specs.Places.{handle}
use Rattle.places.specs.Rules.{find}
use Rattle.sessions.specs.declared.key.Key.{Key}
use Rattle.sessions.specs.declared.entry.Entry as session
use Rattle.sessions.specs.Entries.{seen_in, without, count_in, idle_keys, staying}
use Rattle.sessions.specs.Model.{Changed}
use Rattle.wire.specs.declared.message.Control.{Control}
use Rattle.wire.specs.declared.message.Control.TheVariants as control
use Rattle.wire.specs.declared.message.Head.{Head}
pub use Rattle.wire.specs.Controls.{bucket_in}
use Rattle.machine.specs.declared.name.Machine.{Machine}
use Rattle.machine.specs.declared.name.Machine.TheVariants.{Client, Operator, Balancer, Server, Controller}
use Rattle.machine.specs.declared.sent.Note.TheVariants.{Say, Answer}
use Rattle.machine.specs.declared.sent.Sent.{Sent}
use Rattle.server_bucket.specs.Rules as bucket
use Rattle.server_bucket.specs.Rules.{Holding, unheld, held_first}

-- number: its own. holdings: what it keeps of each bucket. tick: its clock. stood: the tick at which a place of it was last forgotten
pub record Keeping : Type 0 where
  pub number : ℕ
  pub holdings : List Holding
  pub tick : ℕ
  pub stood : ℕ

abbrev pub holding_at : ℕ → Keeping → Holding
holding_at b k = slice_index_or k.holdings b unheld

abbrev pub is_bucket : ℕ → Keeping → Bool
is_bucket b k = nat_lt b (length k.holdings)

-- what a step does to the open sessions
pub data Effect : Type 0 where
  Same : Effect
  -- the session has a packet at the tick: it is open from now on, if it was not
  Noted : Key → ℕ → Effect
  Closed : Key → Effect
  -- those without a packet for an hour at the tick are closed
  Lapsed : ℕ → Effect

-- the open sessions before and after
abbrev pub Does : Effect → List session.Entry → List session.Entry → Type 0
Does Same was after = after ≡ was
Does (Noted k t) was after = Changed was after k (Some t)
Does (Closed k) was after = after ≡ without k was
Does (Lapsed t) was after = after ≡ staying t was

-- THE START

-- at the start place 1 of each bucket stands at its server
unfoldable pub first_holdings : ℕ → List ℕ → List Holding
first_holdings number [] = []
first_holdings number (s ∷ ss) = cond (s == number) (held_first number) unheld ∷ first_holdings number ss

abbrev pub keeping_first : ℕ → List ℕ → Keeping
keeping_first number assignment = record { number = number; holdings = first_holdings number assignment; tick = 0; stood = 0 }

-- PACKETS

-- outcome: what becomes of the packet. hint: what a balancer is told. effect: what it does to the open sessions
pub record Handled : Type 0 where
  pub outcome : Outcome
  pub hint : Option Sent
  pub effect : Effect

abbrev pub key_of : Head → FlowKey → Key
key_of h flow = record { bucket = h.bucket; place = h.place; flow = flow }

abbrev pub entry_in : Key → List session.Entry → Entry
entry_in k es = cond (is_some (seen_in k es)) Open (cond (nat_lt (length es) 65536) Vacant Full)

-- the place as this server knows it
abbrev pub place_of : Link → Option Place → Place
place_of l None = record { link = l; standing = Never }
place_of l (Some x) = x

abbrev pub packet_of : ℕ → Head → FlowKey → Packet
packet_of number h flow = record { flow = flow; opens = h.opens; at = record { place = h.place; server = number }; way = h.way }

abbrev pub effect_of : Key → ℕ → Outcome → Effect
effect_of k t Delivered = Noted k t
effect_of k t Opened = Noted k t
effect_of k t (Forwarded l w) = Same
effect_of k t (Refused r) = Same
effect_of k t Dropped = Same

abbrev pub forwards : Outcome → Bool
forwards Delivered = false
forwards Opened = false
forwards (Forwarded l w) = true
forwards (Refused r) = false
forwards Dropped = false

-- a balancer that sent to a forgotten place is told of the place after it
abbrev pub hint_from : ℕ → Machine → Standing → Option Sent
hint_from b (Balancer d) (Forgotten a) = Some (record { to = Balancer d; note = Say (control.Door b a) })
hint_from b (Balancer d) Never = None
hint_from b (Balancer d) (Stands x a) = None
hint_from b Client x = None
hint_from b Operator x = None
hint_from b (Server s) x = None
hint_from b Controller x = None

abbrev pub handled_as : Machine → Keeping → Key → Place → Outcome → Handled
handled_as from k key x o = record { outcome = o; hint = cond (forwards o) (hint_from key.bucket from x.standing) None; effect = effect_of key k.tick o }

abbrev pub handled_at : Machine → Keeping → List session.Entry → Head → FlowKey → Place → Handled
handled_at from k es h flow x = handled_as from k (key_of h flow) x (handle x (packet_of k.number h flow) (entry_in (key_of h flow) es))

-- what becomes of a packet that comes from a machine
abbrev pub handles : Machine → Head → FlowKey → Keeping → List session.Entry → Handled
handles from h flow k es =
    cond (is_bucket h.bucket k)
    (handled_at from k es h flow (place_of (record { place = h.place; server = k.number }) (find h.place (holding_at h.bucket k).known)))
    (record { outcome = Refused (For NoSuch); hint = None; effect = Same })

-- MESSAGES

abbrev pub answer_to : Machine → Control → Sent
answer_to from c = record { to = from; note = Answer c }

-- no session is open in place n of bucket b
abbrev pub is_empty : ℕ → ℕ → List session.Entry → Bool
is_empty b n es = count_in b n es == 0

abbrev pub last_stood : ℕ → Option Link → ℕ → ℕ
last_stood t None was = was
last_stood t (Some a) was = t

-- bucket b is as h from now on; a place may have been forgotten by that, and then this is when
abbrev pub keeps : ℕ → Holding → Option Link → Keeping → Keeping
keeps b h gone k = record { number = k.number; holdings = slice_set k.holdings b h; tick = k.tick; stood = last_stood k.tick gone k.stood }

abbrev pub standing : Machine → Control → ℕ → Keeping → Result (Unit {0}) Fault × Holding → Result (List Sent × Keeping) Fault
standing from c b k (Ok u, h) = Ok (answer_to from c ∷ [], keeps b h None k)
standing from c b k (Err f, h) = Err f

abbrev pub changing : Machine → Control → ℕ → ℕ → Keeping → Result (Option Link) Fault × Holding → Result (List Sent × Keeping) Fault
changing from c b n k (Ok gone, h) = Ok (answer_to from c ∷ bucket.tells b n gone, keeps b h gone k)
changing from c b n k (Err f, h) = Err f

abbrev pub told_of : Machine → Control → Control → Keeping → List session.Entry → Result (List Sent × Keeping) Fault
told_of from c (control.Stand b n before) k es = standing from c b k (bucket.stand (record { place = n; server = k.number }) before (holding_at b k))
told_of from c (control.Behind b n a) k es = changing from c b n k (bucket.behind n a (is_empty b n es) (holding_at b k))
told_of from c (control.Door b l) k es = Err Malformed
told_of from c (control.Forgotten b n a) k es =
    cond (a.server == k.number) (changing from c b a.place k (bucket.freed a.place n (is_empty b a.place es) (holding_at b k))) (Err UnknownPlace)

-- told by a machine: what it sends, and what is left of it; or the fault, and nothing changes
abbrev pub told : Machine → Control → Keeping → List session.Entry → Result (List Sent × Keeping) Fault
told from c k es = cond (is_bucket (bucket_in c) k) (told_of from c c k es) (Err NoSuch)

abbrev pub room_in : Control → Keeping → Result ℕ Fault
room_in (control.Stand b n before) k = Ok 1
room_in (control.Behind b n a) k = Ok 3
room_in (control.Door b l) k = Err Malformed
room_in (control.Forgotten b n a) k = cond (a.server == k.number) (Ok 3) (Err UnknownPlace)

-- for how many messages room is made before anything changes; a refusal that needs no look at a bucket comes first, and takes no memory
abbrev pub room_for : Control → Keeping → Result ℕ Fault
room_for c k = cond (is_bucket (bucket_in c) k) (room_in c k) (Err NoSuch)

abbrev pub heard_of : Machine → Control → Keeping → Keeping
heard_of from (control.Stand b n before) k = k
heard_of from (control.Behind b n a) k = k
heard_of from (control.Door b l) k = k
heard_of from (control.Forgotten b n a) k = keeps b (bucket.answered n a from (holding_at b k)) None k

-- answered by a machine; what fits nothing is ignored
abbrev pub heard : Machine → Control → Keeping → Keeping
heard from c k = cond (is_bucket (bucket_in c) k) (heard_of from c k) k

-- ORDERS

-- the first of these places, the newest first, where the session is open
unfoldable pub open_at : ℕ → FlowKey → List session.Entry → List Place → Option ℕ
open_at b flow es [] = None
open_at b flow es (x ∷ xs) = cond (is_some (seen_in (record { bucket = b; place = x.link.place; flow = flow }) es)) (Some x.link.place) (open_at b flow es xs)

-- place n of bucket b may have become empty
abbrev pub leaving : ℕ → ℕ → Keeping → Option Link × Holding → List Sent × Keeping
leaving b n k (gone, h) = (bucket.tells b n gone, keeps b h gone k)

abbrev pub emptied : ℕ → ℕ → List session.Entry → Keeping → List Sent × Keeping
emptied b n es k = leaving b n k (bucket.emptied n (is_empty b n es) (holding_at b k))

-- what is sent, what is left, and what it does to the open sessions
pub record Ordered : Type 0 where
  pub sends : List Sent
  pub keeping : Keeping
  pub effect : Effect

abbrev pub closed_at : FlowKey → ℕ → Keeping → List session.Entry → Option ℕ → Ordered
closed_at flow b k es None = record { sends = []; keeping = k; effect = Same }
closed_at flow b k es (Some n) = record {
  sends = (emptied b n (without (record { bucket = b; place = n; flow = flow }) es) k).0;
  keeping = (emptied b n (without (record { bucket = b; place = n; flow = flow }) es) k).1;
  effect = Closed (record { bucket = b; place = n; flow = flow });
}

-- a session is closed, in whichever place of this server it is open
abbrev pub closes : FlowKey → Keeping → List session.Entry → Ordered
closes flow k es =
    closed_at flow (bucket_of flow (length k.holdings)) k es
    (open_at (bucket_of flow (length k.holdings)) flow es (holding_at (bucket_of flow (length k.holdings)) k).known.standing)

-- what is to be said again after so many ticks, of the buckets from b on
unfoldable pub due_from : ℕ → ℕ → List Holding → List Sent
due_from b ticks [] = []
due_from b ticks (h ∷ hs) = bucket.due b ticks h ++ due_from (suc b) ticks hs

-- the places of these sessions, which are closed, may have become empty; es: the sessions that stay open
unfoldable pub emptied_all : List Key → List session.Entry → Keeping → List Sent × Keeping
emptied_all [] es k = ([], k)
emptied_all (q ∷ qs) es k = ((emptied q.bucket q.place es k).0 ++ (emptied_all qs es (emptied q.bucket q.place es k).1).0, (emptied_all qs es (emptied q.bucket q.place es k).1).1)

abbrev pub later : ℕ → Keeping → Keeping
later ticks k = record { number = k.number; holdings = map (bucket.passed ticks) k.holdings; tick = k.tick + ticks; stood = k.stood }

-- so many ticks pass: what is due is said again, and sessions without a packet for an hour are closed
abbrev pub ticked : ℕ → Keeping → List session.Entry → Ordered
ticked ticks k es = record {
  sends = due_from 0 ticks k.holdings ++ (emptied_all (idle_keys (k.tick + ticks) es) (staying (k.tick + ticks) es) (later ticks k)).0;
  keeping = (emptied_all (idle_keys (k.tick + ticks) es) (staying (k.tick + ticks) es) (later ticks k)).1;
  effect = Lapsed (k.tick + ticks);
}

-- SWITCHING OFF

-- stands in no place of the bucket, and each farewell has both its answers
abbrev pub is_left : Holding → Bool
is_left h = length h.known.standing == 0 && length h.farewells == 0

unfoldable pub all_left : List Holding → Bool
all_left [] = true
all_left (h ∷ hs) = is_left h && all_left hs

-- a day, in ticks of a 256th of a second
abbrev pub day : ℕ
day = 22118400

-- it may be switched off: it stands in no chain, nothing is unanswered, and a day has passed since it last stood
abbrev pub is_free : Keeping → Bool
is_free k = all_left k.holdings && nat_le (k.stood + day) k.tick
