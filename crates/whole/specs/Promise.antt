-- What is promised of all machines together, whatever is late, lost, repeated or out of order, whatever balancers know, and whichever servers come and go. Assumes nothing.
use Rattle.std.specs.Prelude.{◌≡◌, ℕ, suc, ◌*◌, ◌<◌, ◌≤◌, T, ◌⊎◌, List, length, is_some, Some, None, Option}
use mathlib.Core.List.{Memᴰ}
use Rattle.std.specs.List.{AllByRecursion}
use Rattle.fault.specs.declared.Refusal.{Refusal}
use Rattle.flow.specs.declared.key.FlowKey.{FlowKey}
use Rattle.flow.specs.Buckets.{bucket_of}
use Rattle.chain.specs.declared.way.Link.{Link}
use Rattle.chain.specs.declared.way.Way.{Way}
use Rattle.chain.specs.declared.place.Place.{Place}
use Rattle.chain.specs.declared.place.Outcome.TheVariants.{Delivered, Opened, Forwarded, Refused, Dropped}
use Rattle.chain.specs.declared.handover.Handover.{Handover}
use Rattle.chain.specs.declared.handover.Handover.TheVariants.{Idle, AwaitStood, AwaitTold}
use Rattle.chain.specs.Controllers.{Control, newest_of}
use Rattle.bucket.specs.Promise.{IsLast}
use Rattle.machine.specs.declared.name.Machine.{Machine}
use Rattle.sessions.specs.declared.entry.Entry.{Entry}
use Rattle.places.specs.Rules.{Known, find}
use Rattle.sessions.specs.Entries.{Once}
use Rattle.server.specs.Rules.{holding_at, Does}
use Rattle.controller.specs.Rules.{charge_at}
use Rattle.assignment.specs.Even.{Even}
use Rattle.whole.specs.World.{World, OpenAt, IsOpen, Packet, onto, carries, taken, handled_by, Event, Handled, Step, Reach}

-- what server v knows of the places of bucket b
abbrev pub known_at : World → ℕ → ℕ → Known
known_at w v b = (holding_at b (w.servers v)).known

-- the session was closed since the packet came
abbrev pub ClosedSince : World → Packet → Type 0
ClosedSince w p = p.seen < w.closings p.flow

-- the place stands, and knows of none after it
abbrev pub LastIn : Option Place → Type 0
LastIn None = ⊥
LastIn (Some x) = IsLast x.standing

-- place n of bucket b stands at server v, and knows of none after it
abbrev pub IsLastAt : World → ℕ → ℕ → ℕ → Type 0
IsLastAt w b v n = LastIn (find n (known_at w v b))

abbrev pub control_of : World → ℕ → Control
control_of w b = (charge_at b w.controller).control

-- the controller waits to hear that place n is known to the one before it
abbrev pub Awaits : ℕ → Handover → Type 0
Awaits n Idle = ⊥
Awaits n (AwaitStood l) = ⊥
Awaits n (AwaitTold l) = l.place ≡ n

-- place n is the newest of bucket b: it knows of none after it, and is the controller's newest, or the one that is being introduced, once the controller's newest has been told of it
pub record Newest (w : World) (b n : ℕ) : Type 0 where
  pub at : ℕ
  pub is_last : IsLastAt w b at n
  pub which : (n ≡ (newest_of (control_of w b).kept).place) ⊎ (Awaits n (control_of w b).handover × ((v : ℕ) → IsLastAt w b v (newest_of (control_of w b).kept).place → ⊥))

-- A packet's journey: d deliveries, of p at server v first and then each time of what the last one forwarded. In between whatever else may happen, any number of steps of all machines,
-- but that place n is no longer the newest of the packet's bucket.
pub data Journey (B n : ℕ) : Packet → ℕ → World → ℕ → Type 0 where
  last : {p : Packet} {v : ℕ} {w : World} → Journey B n p v w 1
  next : {p : Packet} {v : ℕ} {w : World} {d : ℕ} (from : Machine) (es : List Entry) (l : Link) (way : Way) → Memᴰ (carries from v p) w.sent → Does (taken w v from p).effect (w.sessions v) es →
      (taken w v from p).outcome ≡ Forwarded l way → Journey B n (onto l way p) l.server (handled_by v p (taken w v from p) es w) d → Journey B n p v w (suc d)
  meanwhile : {p : Packet} {v : ℕ} {w x : World} {e : Event} {d : ℕ} → Step B w e x → Newest x (bucket_of p.flow B) n → Journey B n p v x d → Journey B n p v w d

pub record Whole (B : ℕ) (w : World) : Type 0 where
  -- no session is open at two servers, or in two places, nor twice
  pub one_place : (c : FlowKey) (u v p q : ℕ) → IsOpen B w c u p → IsOpen B w c v q → (u ≡ v) × (p ≡ q)
  pub once : (v : ℕ) → Once (w.sessions v)
  -- a place of a bucket is known at one server only
  pub one_holder : (b p u v : ℕ) → b < B → T (is_some (find p (known_at w u b))) → T (is_some (find p (known_at w v b))) → u ≡ v
  -- whatever happens, an open session stays open where it is until it is closed
  pub stays_open : (x : World) (e : Event) (c : FlowKey) (v p : ℕ) → Step B w e x → IsOpen B w c v p → IsOpen B x c v p ⊎ (w.closings c < x.closings c)
  -- a packet is delivered only where its session is open, and one that opens a session opens it there
  pub delivered_where_open : (x : World) (v : ℕ) (p : Packet) → Step B w (Handled v p Delivered) x → IsOpen B w p.flow v p.head.place
  pub opened_there : (x : World) (v : ℕ) (p : Packet) → Step B w (Handled v p Opened) x → IsOpen B x p.flow v p.head.place
  -- a packet whose session was open when it came is never refused, for whatever reason, and opens no other, unless the session was closed in the meantime
  pub not_refused : (x : World) (v : ℕ) (p : Packet) (r : Refusal) → Step B w (Handled v p (Refused r)) x → (g q : ℕ) → p.was ≡ OpenAt g q → ClosedSince w p
  pub not_opened_anew : (x : World) (v : ℕ) (p : Packet) → Step B w (Handled v p Opened) x → (g q : ℕ) → p.was ≡ OpenAt g q → ClosedSince w p
  -- and if it is delivered, then at the server and place where the session was open when it came
  pub delivered_to_its_place : (x : World) (v : ℕ) (p : Packet) → Step B w (Handled v p Delivered) x → (g q : ℕ) → p.was ≡ OpenAt g q →
      ((v ≡ g) × (p.head.place ≡ q)) ⊎ ClosedSince w p
  -- every packet is on its way to a server that has stood in a place as high as the packet's
  pub to_a_holder : (from : Machine) (v : ℕ) (p : Packet) → Memᴰ (carries from v p) w.sent → p.head.place ≤ (known_at w v (bucket_of p.flow B)).highest
  -- a packet is dropped only at a server that does not know its place, though it has stood in one as high: such a place was forgotten, and is no longer remembered
  pub dropped_where_forgotten : (x : World) (v : ℕ) (p : Packet) → Step B w (Handled v p Dropped) x →
      (find p.head.place (known_at w v (bucket_of p.flow B)) ≡ None) × (p.head.place ≤ (known_at w v (bucket_of p.flow B)).highest)
  -- each bucket has a newest place, and while it stays the newest every packet of the bucket is at rest after at most twice as many deliveries as its number and one
  pub newest_place : (b : ℕ) → b < B → (n : ℕ) × Newest w b n
  pub soon_at_rest : (from : Machine) (v : ℕ) (p : Packet) (n d : ℕ) → Memᴰ (carries from v p) w.sent → Newest w (bucket_of p.flow B) n → Journey B n p v w d → d ≤ 2 * suc n

-- THE MAIN PROMISE: in every run, from any first assignment of buckets to servers
abbrev pub Main : Type 0
Main = (listed assignment : List ℕ) (count : ℕ) (w : World) → 0 < length assignment → Reach listed assignment count w → Whole (length assignment) w

-- THE ASSIGNMENT: after every order it is even, unless it is still the first one
abbrev pub Balanced : Type 0
Balanced = (listed assignment : List ℕ) (count : ℕ) (w : World) → AllByRecursion (λ s. s < 256) listed → Reach listed assignment count w →
    ((w.controller.servers ≡ listed) × (w.controller.assignment ≡ assignment)) ⊎ Even w.controller.servers w.controller.assignment
