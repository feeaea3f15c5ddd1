-- One bucket of the whole, seen as a state of the bucket's model. A relation, not a function: the bucket's state remembers what the machines have let go of
-- (forgotten places that a server dropped, messages that were never sent), so it is the history that no machine keeps. Assumes nothing.
use Rattle.std.proofs.Common.{◌≡◌, ℕ, ◌<◌, ◌≤◌, Bool, T, ◌⊎◌, List, is_some, Some, None, Option}
use mathlib.Core.List.{Memᴰ}
use Rattle.flow.specs.declared.key.FlowKey.{FlowKey}
use Rattle.flow.specs.Buckets.{bucket_of}
use Rattle.chain.specs.declared.way.Link.{Link}
use Rattle.chain.specs.declared.place.Standing.{Standing}
use Rattle.chain.specs.declared.place.Standing.TheVariants.{Never, Stands, Forgotten}
use Rattle.chain.specs.declared.place.Place.{Place}
use Rattle.chain.specs.declared.place.Outcome.{Outcome}
use Rattle.chain.specs.declared.place.Outcome.TheVariants.{Delivered, Opened, Forwarded, Refused, Dropped}
use Rattle.chain.specs.declared.handover.Handover.{Handover}
use Rattle.chain.specs.declared.handover.Handover.TheVariants.{Idle, AwaitStood, AwaitTold}
use Rattle.chain.specs.Places.{handle}
use Rattle.chain.specs.Controllers.{Control, newest_of}
use Rattle.bucket.specs.Sessions.{is_in}
use Rattle.bucket.specs.Model as one
use Rattle.bucket.proofs.Invariant.{Born}
use Rattle.places.specs.Rules.{find}
use Rattle.sessions.specs.declared.entry.Entry.{Entry}
use Rattle.sessions.specs.Entries.{seen_in}
use Rattle.wire.specs.declared.message.Head.{Head}
use Rattle.wire.specs.declared.message.Control as said
use Rattle.wire.specs.declared.message.Control.TheVariants as say
use Rattle.wire.specs.Meant.{Meant, Carried, Said, Answered, Back, Ordered}
use Rattle.machine.specs.declared.name.Machine.{Machine}
use Rattle.machine.specs.declared.name.Machine.TheVariants.{Client, Operator, Balancer, Server, Controller}
use Rattle.machine.specs.declared.sent.Sent.{Sent}
use Rattle.machine.specs.Notes.{meant_by}
use Rattle.balancer.specs.Rules.{link_at}
use Rattle.server_bucket.specs.declared.farewell.Farewell.{Farewell}
use Rattle.server_bucket.specs.Rules.{Holding}
use Rattle.server.specs.Rules.{holding_at}
use Rattle.controller.specs.Rules.{charge_at}
use Rattle.whole.specs.World.{Was, NotOpen, OpenAt, Envelope, World, key_in, Event, Quiet, Handled}
use Rattle.whole.proofs.Rows.{Tidy}

-- A SERVER AND A PLACE

-- a number up to which places were given: the one that is awaited, or the newest
abbrev pub lead_of : Handover → Link → Link
lead_of Idle n = n
lead_of (AwaitStood l) n = l
lead_of (AwaitTold l) n = l

abbrev pub lead : Control → Link
lead c = lead_of c.handover (newest_of c.kept)

-- no place with this number will be made any more
abbrev pub PassedIn : Handover → ℕ → ℕ → Type 0
PassedIn Idle n k = k ≤ n
PassedIn (AwaitStood l) n k = k < l.place
PassedIn (AwaitTold l) n k = k < l.place

abbrev pub Passed : Control → ℕ → Type 0
Passed c k = PassedIn c.handover (newest_of c.kept).place k

-- where the place's server knows nothing of it: the place isn't there yet, and is higher than all that the server stood in, or will never be; or it was forgotten, and so long ago that the server dropped it
abbrev pub Missing : Control → ℕ → ℕ → Standing → Type 0
Missing c hi k Never = (hi < k) ⊎ Passed c k
Missing c hi k (Stands b a) = ⊥
Missing c hi k (Forgotten a) = k ≤ hi

-- what server v knows of place k, where x is there in the bucket's model; hi: its highest place
abbrev pub Fit : (ℕ → ℕ) → Control → ℕ → ℕ → ℕ → Standing → Option Place → Type 0
Fit host c v k hi x None = host k ≡ v → Missing c hi k x
Fit host c v k hi x (Some y) = (host k ≡ v) × (k ≤ hi) × (y ≡ record { link = one.link_to host k; standing = x }) × Born x

-- what a server keeps of the bucket, and its open sessions
pub record Serves (host : ℕ → ℕ) (b : ℕ) (s : one.State) (v : ℕ) (h : Holding) (es : List Entry) : Type 0 where
  pub fit : (k : ℕ) → Fit host s.control v k h.known.highest (s.places k) (find k h.known)
  pub tidy : Tidy h.known
  pub down : (k : ℕ) (c : FlowKey) → T (is_some (seen_in (key_in b k c) es)) → (host k ≡ v) × T (is_in c (s.sessions k))
  pub up : (k : ℕ) (c : FlowKey) → host k ≡ v → T (is_in c (s.sessions k)) → T (is_some (seen_in (key_in b k c) es))
  pub farewells : (f : Farewell) → Memᴰ f h.farewells → (u : ℕ) × Memᴰ (one.Gone (record { place = f.place; server = u }) f.after) s.sent

-- WHAT WAS SENT

abbrev pub plain_was : Was → one.Was
plain_was NotOpen = one.NotOpen
plain_was (OpenAt v p) = one.OpenAt p

abbrev pub traced : ℕ → Head → FlowKey → Was → ℕ → one.Traced
traced v h c was seen = record { packet = record { flow = c; opens = h.opens; at = record { place = h.place; server = v }; way = h.way }; was = plain_was was; seen = seen }

-- said to a server
abbrev pub SaidTo : ℕ → List one.Message → ℕ → said.Control → Type 0
SaidTo b xs v (say.Stand c n before) = c ≡ b → Memᴰ (one.ToStand (record { place = n; server = v }) before) xs
SaidTo b xs v (say.Behind c n a) = c ≡ b → Memᴰ (one.BehindYou (record { place = n; server = v }) a) xs
SaidTo b xs v (say.Door c l) = Unit {0}
SaidTo b xs v (say.Forgotten c n a) = c ≡ b → (u : ℕ) × Memᴰ (one.Gone (record { place = n; server = u }) a) xs

-- said to the controller, and answered to it
abbrev pub Reported : ℕ → List one.Message → said.Control → Type 0
Reported b xs (say.Stand c n before) = Unit {0}
Reported b xs (say.Behind c n a) = Unit {0}
Reported b xs (say.Door c l) = Unit {0}
Reported b xs (say.Forgotten c n a) = c ≡ b → (u : ℕ) × Memᴰ (one.Gone (record { place = n; server = u }) a) xs

abbrev pub AnsweredTo : ℕ → List one.Message → said.Control → Type 0
AnsweredTo b xs (say.Stand c n before) = c ≡ b → (u : ℕ) × Memᴰ (one.Stood (record { place = n; server = u })) xs
AnsweredTo b xs (say.Behind c n a) = c ≡ b → (u : ℕ) × Memᴰ (one.Told (record { place = n; server = u }) a) xs
AnsweredTo b xs (say.Door c l) = Unit {0}
AnsweredTo b xs (say.Forgotten c n a) = Unit {0}

-- said to a balancer
abbrev pub Announced : ℕ → List one.Message → ℕ → said.Control → Type 0
Announced b xs d (say.Stand c n before) = Unit {0}
Announced b xs d (say.Behind c n a) = Unit {0}
Announced b xs d (say.Door c l) = c ≡ b → Memᴰ (one.ToBalancer d l) xs
Announced b xs d (say.Forgotten c n a) = Unit {0}

abbrev pub ToServer : ℕ → ℕ → List one.Message → ℕ → Was → ℕ → Meant → Type 0
ToServer B b xs v was seen (Carried h c bs) = bucket_of c B ≡ b → Memᴰ (one.Carry (traced v h c was seen)) xs
ToServer B b xs v was seen (Said c) = SaidTo b xs v c
ToServer B b xs v was seen (Answered c) = Unit {0}
ToServer B b xs v was seen (Back r bs) = Unit {0}
ToServer B b xs v was seen (Ordered o) = Unit {0}

abbrev pub ToController : ℕ → List one.Message → Meant → Type 0
ToController b xs (Carried h c bs) = Unit {0}
ToController b xs (Said c) = Reported b xs c
ToController b xs (Answered c) = AnsweredTo b xs c
ToController b xs (Back r bs) = Unit {0}
ToController b xs (Ordered o) = Unit {0}

abbrev pub ToBalancer : ℕ → List one.Message → ℕ → Meant → Type 0
ToBalancer b xs d (Carried h c bs) = Unit {0}
ToBalancer b xs d (Said c) = Announced b xs d c
ToBalancer b xs d (Answered c) = Unit {0}
ToBalancer b xs d (Back r bs) = Unit {0}
ToBalancer b xs d (Ordered o) = Unit {0}

-- what is sent about bucket b is among the bucket's messages
abbrev pub Post : ℕ → ℕ → List one.Message → Was → ℕ → Meant → Machine → Type 0
Post B b xs was seen m Client = Unit {0}
Post B b xs was seen m Operator = Unit {0}
Post B b xs was seen m (Balancer d) = ToBalancer b xs d m
Post B b xs was seen m (Server v) = ToServer B b xs v was seen m
Post B b xs was seen m Controller = ToController b xs m

abbrev pub Posted : ℕ → ℕ → List one.Message → Envelope → Type 0
Posted B b xs e = Post B b xs e.was e.seen e.what e.to

abbrev pub Says : ℕ → ℕ → List one.Message → Sent → Type 0
Says B b xs x = Post B b xs NotOpen 0 (meant_by x.note) x.to

-- THE WHOLE

-- what is awaited was said
abbrev pub Awaited : List one.Message → Handover → Link → Type 0
Awaited xs Idle n = Unit {0}
Awaited xs (AwaitStood l) n = Memᴰ (one.ToStand l (Some n)) xs
Awaited xs (AwaitTold l) n = Memᴰ (one.BehindYou n l) xs

-- bucket b of the whole w is the state s of the bucket's model
pub record Sim (host : ℕ → ℕ) (B b : ℕ) (w : World) (s : one.State) : Type 0 where
  pub servers : (v : ℕ) → Serves host b s v (holding_at b (w.servers v)) (w.sessions v)
  pub balancers : (d : ℕ) → link_at (w.balancers d) b ≡ s.balancers d
  pub control : (charge_at b w.controller).control ≡ s.control
  pub awaited : Awaited s.sent s.control.handover (one.newest s)
  pub sent : (e : Envelope) → Memᴰ e w.sent → Posted B b s.sent e
  pub closings : (c : FlowKey) → bucket_of c B ≡ b → w.closings c ≡ s.closings c

-- STEPS

-- some steps of the bucket's model
pub data Walk (host : ℕ → ℕ) (s : one.State) : one.State → Type 0 where
  stay : Walk host s s
  then : {t u : one.State} {e : one.Event} → Walk host s t → one.Step handle host t e u → Walk host s u

-- what is seen of a packet's handling is a step of the packet's bucket; it is dropped only where its place was forgotten. h: what the server keeps of the bucket
abbrev pub Saw : (ℕ → ℕ) → Holding → one.State → one.State → one.Traced → Outcome → Type 0
Saw host h s t q Delivered = (host q.packet.at.place ≡ q.packet.at.server) × one.Step handle host s (one.Handled q Delivered) t
Saw host h s t q Opened = (host q.packet.at.place ≡ q.packet.at.server) × one.Step handle host s (one.Handled q Opened) t
Saw host h s t q (Forwarded l way) = (room : Bool) × (one.outcome handle host s room q ≡ Forwarded l way)
Saw host h s t q (Refused r) = one.Step handle host s (one.Handled q (Refused r)) t
Saw host h s t q Dropped = (find q.packet.at.place h.known ≡ None) × (q.packet.at.place ≤ h.known.highest)

abbrev pub Seen : (ℕ → ℕ) → ℕ → ℕ → World → one.State → one.State → Event → Type 0
Seen host B b w s t Quiet = Unit {0}
Seen host B b w s t (Handled v p o) = bucket_of p.flow B ≡ b → Saw host (holding_at b (w.servers v)) s t (traced v p.head p.flow p.was p.seen) o

-- the bucket's model follows a step of the whole from w to x
pub record Next (host : ℕ → ℕ) (B b : ℕ) (w : World) (s : one.State) (e : Event) (x : World) : Type 0 where
  pub state : one.State
  pub walk : Walk host s state
  pub sim : Sim host B b x state
  pub seen : Seen host B b w s state e
