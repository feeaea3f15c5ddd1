-- All machines and the network between them. What a machine does is by its own rules, which its code's contracts cite.
--
-- The network is the list `sent` of all that was ever sent. Whatever is in it may be delivered at its machine at any time, in any order, never, or again and again.
-- A machine that is out of memory, or refuses, changes nothing: that is as if the message were lost. Assumes nothing.
use Rattle.std.specs.Prelude.{◌≡◌, ℕ, ◌<◌, T, List, [], ◌∷◌, ◌++◌, map, length, is_some, Some, None, Ok, Err, Option, Result}
use mathlib.Core.List.{Memᴰ}
use Rattle.fault.specs.declared.Fault.{Fault}
use Rattle.flow.specs.declared.key.FlowKey.{FlowKey}
use Rattle.flow.specs.Buckets.{bucket_of}
use Rattle.chain.specs.declared.way.Link.{Link}
use Rattle.chain.specs.declared.way.Way.{Way}
use Rattle.chain.specs.declared.place.Outcome.{Outcome}
use Rattle.chain.specs.declared.place.Outcome.TheVariants.{Delivered, Opened, Forwarded, Refused, Dropped}
use Rattle.bucket.specs.Sessions.{put, bump}
use Rattle.sessions.specs.declared.key.Key.{Key}
use Rattle.sessions.specs.declared.entry.Entry.{Entry}
use Rattle.sessions.specs.Entries.{seen_in, idle_keys}
use Rattle.wire.specs.declared.message.Head.{Head}
use Rattle.wire.specs.declared.message.Control.{Control}
use Rattle.wire.specs.declared.message.Control.TheVariants.{Door}
use Rattle.wire.specs.Meant.{Meant, Carried, Said, Answered}
use Rattle.machine.specs.declared.name.Machine.{Machine}
use Rattle.machine.specs.declared.name.Machine.TheVariants.{Balancer, Server, Controller}
use Rattle.machine.specs.declared.sent.Sent.{Sent}
use Rattle.machine.specs.Notes.{meant_by}
use Rattle.balancer.specs.Rules as balancer
use Rattle.server.specs.Rules as server
use Rattle.server.specs.Rules.{Keeping, Effect, Same, Noted, Closed, Lapsed, Does, keeping_first}
use Rattle.controller.specs.Rules as controller
use Rattle.controller.specs.Rules.{Ruling, ruling_first}

-- WHAT THERE IS

-- where a packet's session was open when the packet came: at which server, in which place
pub data Was : Type 0 where
  NotOpen : Was
  OpenAt : ℕ → ℕ → Was

-- who says what to whom. Of a packet also what no machine sees: where its session was open when it came, and how often that session had been closed by then
pub record Envelope : Type 0 where
  pub from : Machine
  pub to : Machine
  pub what : Meant
  pub was : Was
  pub seen : ℕ

-- balancers: for each the links that it knows. servers: what each keeps. sessions: those open at each server.
-- closings, which no machine reads: how often each session was closed
pub record World : Type 0 where
  pub balancers : ℕ → List Link
  pub servers : ℕ → Keeping
  pub sessions : ℕ → List Entry
  pub controller : Ruling
  pub sent : List Envelope
  pub closings : FlowKey → ℕ

-- at the start place 1 of each bucket stands at its server, and every machine knows that; listed: the servers; count: how many balancers there are
abbrev pub start : List ℕ → List ℕ → ℕ → World
start listed assignment count = record {
  balancers = λ _. balancer.first_links assignment;
  servers = λ v. keeping_first v assignment;
  sessions = λ _. [];
  controller = ruling_first listed assignment count;
  sent = [];
  closings = λ _. 0;
}

abbrev pub key_in : ℕ → ℕ → FlowKey → Key
key_in b p c = record { bucket = b; place = p; flow = c }

-- session c is open at server v, in place p of its bucket; B: how many buckets there are
abbrev pub IsOpen : ℕ → World → FlowKey → ℕ → ℕ → Type 0
IsOpen B w c v p = T (is_some (seen_in (key_in (bucket_of c B) p c) (w.sessions v)))

-- WHAT CHANGES

-- what a machine sends
abbrev pub envelope : Machine → Sent → Envelope
envelope from x = record { from = from; to = x.to; what = meant_by x.note; was = NotOpen; seen = 0 }

abbrev pub posted : Machine → List Sent → List Envelope
posted from xs = map (envelope from) xs

abbrev pub hint_of : Option Sent → List Sent
hint_of None = []
hint_of (Some x) = x ∷ []

abbrev pub sends : List Envelope → World → World
sends es w = record { balancers = w.balancers; servers = w.servers; sessions = w.sessions; controller = w.controller; sent = es ++ w.sent; closings = w.closings }

abbrev pub keeps : ℕ → Keeping → World → World
keeps v k w = record { balancers = w.balancers; servers = put v k w.servers; sessions = w.sessions; controller = w.controller; sent = w.sent; closings = w.closings }

-- the sessions that an effect closes, each of which counts
abbrev pub closed_by : Effect → List Entry → List Key
closed_by Same es = []
closed_by (Noted k t) es = []
closed_by (Closed k) es = k ∷ []
closed_by (Lapsed t) es = idle_keys t es

unfoldable pub counted : List Key → (FlowKey → ℕ) → FlowKey → ℕ
counted [] f = f
counted (k ∷ ks) f = counted ks (bump k.flow f)

-- the sessions of server v are es from now on, by an effect on those that were
abbrev pub stores : ℕ → Effect → List Entry → World → World
stores v e es w = record { balancers = w.balancers; servers = w.servers; sessions = put v es w.sessions; controller = w.controller; sent = w.sent; closings = counted (closed_by e (w.sessions v)) w.closings }

abbrev pub knows : ℕ → List Link → World → World
knows d ls w = record { balancers = put d ls w.balancers; servers = w.servers; sessions = w.sessions; controller = w.controller; sent = w.sent; closings = w.closings }

abbrev pub rules : Ruling → World → World
rules k w = record { balancers = w.balancers; servers = w.servers; sessions = w.sessions; controller = k; sent = w.sent; closings = w.closings }

-- a server was told something: it sends and changes, or refuses and stays as it is
abbrev pub server_did : ℕ → Result (List Sent × Keeping) Fault → World → World
server_did v (Ok (out, k)) w = sends (posted (Server v) out) (keeps v k w)
server_did v (Err f) w = w

abbrev pub controller_did : Result (List Sent × Ruling) Fault → World → World
controller_did (Ok (out, k)) w = sends (posted Controller out) (rules k w)
controller_did (Err f) w = w

-- a balancer was told of a bucket's place: it answers, or refuses
abbrev pub balancer_did : ℕ → Machine → Control → Result (Unit {0}) Fault × List Link → World → World
balancer_did d from c (Ok u, ls) w = sends (record { from = Balancer d; to = from; what = Answered c; was = NotOpen; seen = 0 } ∷ []) (knows d ls w)
balancer_did d from c (Err f, ls) w = w

-- PACKETS

-- a packet between machines
pub record Packet : Type 0 where
  pub head : Head
  pub flow : FlowKey
  pub bytes : List ℕ
  pub was : Was
  pub seen : ℕ

abbrev pub carries : Machine → ℕ → Packet → Envelope
carries from v p = record { from = from; to = Server v; what = Carried p.head p.flow p.bytes; was = p.was; seen = p.seen }

-- the packet on to another place, on another way
abbrev pub onto : Link → Way → Packet → Packet
onto l way p = record { head = record { bucket = p.head.bucket; place = l.place; way = way; opens = p.head.opens }; flow = p.flow; bytes = p.bytes; was = p.was; seen = p.seen }

abbrev pub forwarded : ℕ → Packet → Outcome → List Envelope
forwarded v p Delivered = []
forwarded v p Opened = []
forwarded v p (Forwarded l way) = carries (Server v) l.server (onto l way p) ∷ []
forwarded v p (Refused r) = []
forwarded v p Dropped = []

-- what server v does with a packet from a machine
abbrev pub taken : World → ℕ → Machine → Packet → server.Handled
taken w v from p = server.handles from p.head p.flow (w.servers v) (w.sessions v)

-- what is left after server v has handled a packet; es: its sessions then
abbrev pub handled_by : ℕ → Packet → server.Handled → List Entry → World → World
handled_by v p d es w = sends (forwarded v p d.outcome) (sends (posted (Server v) (hint_of d.hint)) (stores v d.effect es w))

-- STEPS

-- what others see of a step: which packet was handled at which server, and what became of it
pub data Event : Type 0 where
  Quiet : Event
  Handled : ℕ → Packet → Outcome → Event

-- a server follows an order: what it sends, what is left, and its sessions after
abbrev pub ordered : ℕ → server.Ordered → List Entry → World → World
ordered v o es w = sends (posted (Server v) o.sends) (stores v o.effect es (keeps v o.keeping w))

pub data Step (B : ℕ) (w : World) : Event → World → Type 0 where
  -- a packet comes from outside, by balancer d, which sends it to server v
  comes : (d : ℕ) (bytes : List ℕ) (v : ℕ) (h : Head) (c : FlowKey) (was : Was) → balancer.sends B (w.balancers d) bytes ≡ Ok (v, Carried h c bytes) → ((u p : ℕ) → was ≡ OpenAt u p → IsOpen B w c u p) →
      Step B w Quiet (sends (carries (Balancer d) v (record { head = h; flow = c; bytes = bytes; was = was; seen = w.closings c }) ∷ []) w)
  -- a packet is delivered at a server
  arrives : (from : Machine) (v : ℕ) (p : Packet) (es : List Entry) → Memᴰ (carries from v p) w.sent → Does (taken w v from p).effect (w.sessions v) es →
      Step B w (Handled v p (taken w v from p).outcome) (handled_by v p (taken w v from p) es w)
  -- a server is told something, or answered
  tells : (m : Envelope) (v : ℕ) (c : Control) → Memᴰ m w.sent → m.to ≡ Server v → m.what ≡ Said c →
      Step B w Quiet (server_did v (server.told m.from c (w.servers v) (w.sessions v)) w)
  answers : (m : Envelope) (v : ℕ) (c : Control) → Memᴰ m w.sent → m.to ≡ Server v → m.what ≡ Answered c → Step B w Quiet (keeps v (server.heard m.from c (w.servers v)) w)
  -- the controller is told something, or answered
  reports : (m : Envelope) (c : Control) → Memᴰ m w.sent → m.to ≡ Controller → m.what ≡ Said c → Step B w Quiet (controller_did (controller.told m.from c w.controller) w)
  confirms : (m : Envelope) (c : Control) → Memᴰ m w.sent → m.to ≡ Controller → m.what ≡ Answered c →
      Step B w Quiet (controller_did (Ok (controller.heard m.from c w.controller)) w)
  -- a balancer is told of a bucket's newest place
  hears : (m : Envelope) (d b : ℕ) (l : Link) → Memᴰ m w.sent → m.to ≡ Balancer d → m.what ≡ Said (Door b l) →
      Step B w Quiet (balancer_did d m.from (Door b l) (balancer.hears b l (w.balancers d)) w)
  -- orders: a session is closed at a server; ticks pass at a server; a server, whose number is a byte, is added, or one is removed; ticks pass at the controller
  closes : (v : ℕ) (c : FlowKey) (es : List Entry) → Does (server.closes c (w.servers v) (w.sessions v)).effect (w.sessions v) es →
      Step B w Quiet (ordered v (server.closes c (w.servers v) (w.sessions v)) es w)
  ticks : (v n : ℕ) (es : List Entry) → Does (server.ticked n (w.servers v) (w.sessions v)).effect (w.sessions v) es →
      Step B w Quiet (ordered v (server.ticked n (w.servers v) (w.sessions v)) es w)
  adds : (s : ℕ) → s < 256 → Step B w Quiet (controller_did (controller.adds s w.controller) w)
  removes : (s : ℕ) → Step B w Quiet (controller_did (controller.removes s w.controller) w)
  waits : (n : ℕ) → Step B w Quiet (controller_did (Ok (controller.ticked n w.controller)) w)

pub data Reach (listed assignment : List ℕ) (count : ℕ) : World → Type 0 where
  begin : Reach listed assignment count (start listed assignment count)
  more : {w x : World} {e : Event} → Reach listed assignment count w → Step (length assignment) w e x → Reach listed assignment count x
