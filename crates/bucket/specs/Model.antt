-- One bucket over time: its places, what the server of each knows, the sessions open there, the balancers, the controller, and the messages between them.
--
-- The network is the list `sent` of all that was ever sent. Whatever is in it may be delivered at any time, in any order, never, or again and again:
-- that is loss, delay, reordering and repetition at once, and a message that is said again adds nothing.
-- `host p` is the server that stands in place p, if ever one does: any function, chosen before the run, so that every choice of servers is covered.
-- What a place does with a packet is a parameter, `rule`, so that other rules can be shown to fail; the promises are for `handle`, which the code's contract cites. Assumes nothing.
use Rattle.std.specs.Prelude.{◌≡◌, ℕ, ◌<◌, Bool, cond, T, List, [], ◌∷◌, Some, None, Ok, Err, Option, Result, ◌==◌}
use mathlib.Core.List.{Memᴰ}
use Rattle.fault.specs.declared.Fault.{Fault}
use Rattle.flow.specs.declared.key.FlowKey.{FlowKey}
use Rattle.chain.specs.declared.way.Link.{Link}
use Rattle.chain.specs.declared.way.Way.{Way}
use Rattle.chain.specs.declared.way.Way.TheVariants.{Up}
use Rattle.chain.specs.declared.way.Packet.{Packet}
use Rattle.chain.specs.declared.place.Standing.{Standing}
use Rattle.chain.specs.declared.place.Standing.TheVariants.{Never, Stands, Forgotten}
use Rattle.chain.specs.declared.place.Place.{Place}
use Rattle.chain.specs.declared.place.Entry.{Entry}
use Rattle.chain.specs.declared.place.Entry.TheVariants.{Open, Vacant, Full}
use Rattle.chain.specs.declared.place.Outcome.{Outcome}
use Rattle.chain.specs.declared.place.Outcome.TheVariants.{Delivered, Opened, Forwarded, Refused, Dropped}
use Rattle.chain.specs.declared.handover.Handover.TheVariants.{Idle}
use Rattle.chain.specs.Ways.{heard_link}
use Rattle.chain.specs.Places as place
use Rattle.chain.specs.Controllers.{Control, newest_of, first_control, began, hears_stood, hears_told, hears_forgotten}
use Rattle.bucket.specs.Sessions.{is_in, without, is_empty, put, bump}

-- WHAT THERE IS

-- where the session was open when the packet came
pub data Was : Type 0 where
  NotOpen : Was
  OpenAt : ℕ → Was

-- a packet, with what no machine reads: where its session was open when it came, and how often that session had been closed by then
pub record Traced : Type 0 where
  pub packet : Packet
  pub was : Was
  pub seen : ℕ

-- ToStand l b: be place l, behind b. Stood l: its answer. BehindYou l a: place l, a is behind you. Told l a: its answer.
-- ToBalancer d l: balancer d, send to place l. Gone l a: place l is forgotten, a is the one after it
pub data Message : Type 0 where
  Carry : Traced → Message
  ToStand : Link → Option Link → Message
  Stood : Link → Message
  BehindYou : Link → Link → Message
  Told : Link → Link → Message
  ToBalancer : ℕ → Link → Message
  Gone : Link → Link → Message

-- places: what its server knows of the place with each number. sessions: those open at each place. balancers: where each of them sends.
-- control: what the controller keeps. closings, which no machine reads: how often each session was closed
pub record State : Type 0 where
  pub places : ℕ → Standing
  pub sessions : ℕ → List FlowKey
  pub sent : List Message
  pub balancers : ℕ → Link
  pub control : Control
  pub closings : FlowKey → ℕ

abbrev pub link_to : (ℕ → ℕ) → ℕ → Link
link_to host p = record { place = p; server = host p }

abbrev pub start : (ℕ → ℕ) → State
start host = record {
  places = put 1 (Stands None None) (λ _. Never);
  sessions = λ _. [];
  sent = [];
  balancers = λ _. link_to host 1;
  control = first_control (host 1);
  closings = λ _. 0;
}

abbrev pub newest : State → Link
newest s = newest_of s.control.kept

-- session c is open at place g
abbrev pub IsOpen : State → FlowKey → ℕ → Type 0
IsOpen s c g = T (is_in c (s.sessions g))

-- what the server that a link names knows of that place: nothing, if another server stands there
abbrev pub known_at : (ℕ → ℕ) → State → Link → Standing
known_at host s l = cond (l.server == host l.place) (s.places l.place) Never

abbrev pub place_at : (ℕ → ℕ) → State → Link → Place
place_at host s l = record { link = l; standing = known_at host s l }

-- what the store of that server says of a packet's session there; room: it has room for one more
abbrev pub entry_at : State → Packet → Bool → Entry
entry_at s p room = cond (is_in p.flow (s.sessions p.at.place)) Open (cond room Vacant Full)

-- WHAT CHANGES

abbrev pub sends : Message → State → State
sends m s = record { places = s.places; sessions = s.sessions; sent = m ∷ s.sent; balancers = s.balancers; control = s.control; closings = s.closings }

abbrev pub puts : ℕ → Standing → State → State
puts k x s = record { places = put k x s.places; sessions = s.sessions; sent = s.sent; balancers = s.balancers; control = s.control; closings = s.closings }

abbrev pub holds : ℕ → List FlowKey → State → State
holds k cs s = record { places = s.places; sessions = put k cs s.sessions; sent = s.sent; balancers = s.balancers; control = s.control; closings = s.closings }

abbrev pub controls : Control → State → State
controls c s = record { places = s.places; sessions = s.sessions; sent = s.sent; balancers = s.balancers; control = c; closings = s.closings }

abbrev pub counts : FlowKey → State → State
counts c s = record { places = s.places; sessions = s.sessions; sent = s.sent; balancers = s.balancers; control = s.control; closings = bump c s.closings }

-- a balancer keeps what the rule says; a contradiction changes nothing
abbrev pub learns : ℕ → Result Link Fault → State → State
learns d (Ok l) s = record { places = s.places; sessions = s.sessions; sent = s.sent; balancers = put d l s.balancers; control = s.control; closings = s.closings }
learns d (Err f) s = s

-- place k becomes what the rule says, and m is answered; a refusal changes nothing
abbrev pub answers : ℕ → Message → Result Place Fault → State → State
answers k m (Ok x) s = sends m (puts k x.standing s)
answers k m (Err f) s = s

abbrev pub becomes : ℕ → Result Place Fault → State → State
becomes k (Ok x) s = puts k x.standing s
becomes k (Err f) s = s

-- the newest place is told of the new one, if it is time
abbrev pub introduced : Option Link → State → State
introduced None s = s
introduced (Some a) s = sends (BehindYou (newest s) a) s

abbrev pub tells_of_it : Link → Standing → State → State
tells_of_it l Never s = s
tells_of_it l (Stands b a) s = s
tells_of_it l (Forgotten a) s = sends (Gone l a) s

-- a place is forgotten if the rule lets it, and says so
abbrev pub retires : Link → Option Place → State → State
retires l None s = s
retires l (Some x) s = tells_of_it l x.standing (puts l.place x.standing s)

-- the packet on to another place, on another way
abbrev pub onto : Link → Way → Traced → Traced
onto l w p = record { packet = record { flow = p.packet.flow; opens = p.packet.opens; at = l; way = w }; was = p.was; seen = p.seen }

abbrev pub done : Outcome → Traced → State → State
done Delivered p s = s
done Opened p s = holds p.packet.at.place (p.packet.flow ∷ s.sessions p.packet.at.place) s
done (Forwarded l w) p s = sends (Carry (onto l w p)) s
done (Refused r) p s = s
done Dropped p s = s

-- STEPS

abbrev pub Rule : Type 0
Rule = Place → Packet → Entry → Outcome

-- what others see of a step: which packet was handled, and what became of it
pub data Event : Type 0 where
  Quiet : Event
  Handled : Traced → Outcome → Event

-- what becomes of a packet where it is delivered
abbrev pub outcome : Rule → (ℕ → ℕ) → State → Bool → Traced → Outcome
outcome rule host s room p = rule (place_at host s p.packet.at) p.packet (entry_at s p.packet room)

pub data Step (rule : Rule) (host : ℕ → ℕ) (s : State) : Event → State → Type 0 where
  -- a message that changes nothing where it comes
  ignores : Step rule host s Quiet s
  -- the controller begins a handover to a place above all others, and tells its server
  begins : (l : Link) → l.server ≡ host l.place → (newest s).place < l.place → s.control.handover ≡ Idle →
      Step rule host s Quiet (controls (began l s.control) (sends (ToStand l (Some (newest s))) s))
  stands : (l : Link) (b : Option Link) → Memᴰ (ToStand l b) s.sent → Step rule host s Quiet (answers l.place (Stood l) (place.told_to_stand b (place_at host s l)) s)
  -- the new place has answered, so the newest is told of it
  introduces : (l : Link) → Memᴰ (Stood l) s.sent →
      Step rule host s Quiet (introduced (hears_stood l.place s.control).0 (controls (hears_stood l.place s.control).1 s))
  follows : (l a : Link) → Memᴰ (BehindYou l a) s.sent → Step rule host s Quiet (answers l.place (Told l a) (place.told_behind a (place_at host s l)) s)
  -- the newest has answered, so the handover is done
  confirms : (l a : Link) → Memᴰ (Told l a) s.sent → Step rule host s Quiet (controls (hears_told l.place a s.control).1 s)
  -- a balancer is told: of the newest place, by the controller, or of the place after one that was forgotten, by its server
  announces : (d : ℕ) → Step rule host s Quiet (sends (ToBalancer d (newest s)) s)
  hints : (d p : ℕ) (a : Link) → s.places p ≡ Forgotten a → Step rule host s Quiet (sends (ToBalancer d a) s)
  hears : (d : ℕ) (l : Link) → Memᴰ (ToBalancer d l) s.sent → Step rule host s Quiet (learns d (heard_link (s.balancers d) l) s)
  -- a packet comes from outside, by balancer d
  comes : (d : ℕ) (c : FlowKey) (opens : Bool) (was : Was) → ((g : ℕ) → was ≡ OpenAt g → IsOpen s c g) →
      Step rule host s Quiet (sends (Carry (record { packet = record { flow = c; opens = opens; at = s.balancers d; way = Up }; was = was; seen = s.closings c })) s)
  -- a packet is delivered at its place, whose server has room for a session more or not
  arrives : (room : Bool) (p : Traced) → Memᴰ (Carry p) s.sent → Step rule host s (Handled p (outcome rule host s room p)) (done (outcome rule host s room p) p s)
  closes : (c : FlowKey) (k : ℕ) → IsOpen s c k → Step rule host s Quiet (counts c (holds k (without c (s.sessions k)) s))
  -- a place may be forgotten
  forgets : (k : ℕ) → Step rule host s Quiet (retires (link_to host k) (place.forgets (is_empty (s.sessions k)) (place_at host s (link_to host k))) s)
  -- the place after it hears of that, and so does the controller
  frees : (l a : Link) → Memᴰ (Gone l a) s.sent → Step rule host s Quiet (becomes a.place (place.told_forgotten l.place (place_at host s a)) s)
  shortens : (l a : Link) → Memᴰ (Gone l a) s.sent → Step rule host s Quiet (controls (hears_forgotten l.place s.control).1 s)

pub data Reach (rule : Rule) (host : ℕ → ℕ) : State → Type 0 where
  begin : Reach rule host (start host)
  more : {s t : State} {e : Event} → Reach rule host s → Step rule host s e t → Reach rule host t
