-- What is promised of one bucket, whatever is late, lost, repeated or out of order, and whatever balancers know. Assumes nothing.
use Rattle.std.specs.Prelude.{◌≡◌, ℕ, zero, suc, ◌+◌, ◌*◌, ◌<◌, ◌≤◌, Bool, true, false, cond, ◌⊎◌, Some, None}
use mathlib.Core.List.{Memᴰ}
use Rattle.fault.specs.declared.Refusal.{Refusal}
use Rattle.flow.specs.declared.key.FlowKey.{FlowKey}
use Rattle.chain.specs.declared.way.Link.{Link}
use Rattle.chain.specs.declared.way.Way.{Way}
use Rattle.chain.specs.declared.place.Standing.{Standing}
use Rattle.chain.specs.declared.place.Standing.TheVariants.{Never, Stands, Forgotten}
use Rattle.chain.specs.declared.place.Outcome.TheVariants.{Delivered, Opened, Forwarded, Refused, Dropped}
use Rattle.chain.specs.Places.{handle}
use Rattle.bucket.specs.Sessions.{count}
use Rattle.bucket.specs.Model.{Traced, OpenAt, Carry, State, IsOpen, Event, Handled, outcome, onto, done, Step, Reach}

-- was a place ever made at this number?
abbrev pub is_made : Standing → Bool
is_made Never = false
is_made (Stands b a) = true
is_made (Forgotten a) = true

-- how many places were ever made, up to the number n
unfoldable pub made : (ℕ → Standing) → ℕ → ℕ
made f zero = cond (is_made (f 0)) 1 0
made f (suc n) = cond (is_made (f (suc n))) 1 0 + made f n

-- the place points at place a as the one after it
abbrev pub PointsTo : ℕ → Standing → Type 0
PointsTo a Never = ⊥
PointsTo a (Stands b None) = ⊥
PointsTo a (Stands b (Some l)) = l.place ≡ a
PointsTo a (Forgotten l) = l.place ≡ a

abbrev pub IsLast : Standing → Type 0
IsLast Never = ⊥
IsLast (Stands b None) = Unit {0}
IsLast (Stands b (Some l)) = ⊥
IsLast (Forgotten l) = ⊥

-- place n is the newest: the first, or one that another points at, and itself it points at none
pub record Newest (s : State) (n : ℕ) : Type 0 where
  pub known : (n ≡ 1) ⊎ ((k : ℕ) × PointsTo n (s.places k))
  pub is_last : IsLast (s.places n)

-- A packet's journey: d deliveries, of p first and then each time of what the last one forwarded. In between whatever else may happen, any number of steps, but that place n is no longer the newest.
pub data Journey (host : ℕ → ℕ) (n : ℕ) : Traced → State → ℕ → Type 0 where
  last : {p : Traced} {s : State} → Journey host n p s 1
  next : {p : Traced} {s : State} {d : ℕ} (room : Bool) (l : Link) (w : Way) → outcome handle host s room p ≡ Forwarded l w → Journey host n (onto l w p) (done (Forwarded l w) p s) d → Journey host n p s (suc d)
  meanwhile : {p : Traced} {s t : State} {e : Event} {d : ℕ} → Step handle host s e t → Newest t n → Journey host n p t d → Journey host n p s d

pub record Whole (host : ℕ → ℕ) (s : State) : Type 0 where
  -- no session is open in two places, nor twice in one
  pub one_place : (c : FlowKey) (g h : ℕ) → IsOpen s c g → IsOpen s c h → g ≡ h
  pub once : (c : FlowKey) (g : ℕ) → count c (s.sessions g) ≤ 1
  -- whatever happens, an open session stays open where it is until it is closed
  pub stays_open : (t : State) (e : Event) (c : FlowKey) (g : ℕ) → Step handle host s e t → IsOpen s c g → IsOpen t c g ⊎ (s.closings c < t.closings c)
  -- a packet is delivered only where its session is open, and one that opens a session opens it there
  pub delivered_where_open : (t : State) (p : Traced) → Step handle host s (Handled p Delivered) t → IsOpen s p.packet.flow p.packet.at.place
  pub opened_there : (t : State) (p : Traced) → Step handle host s (Handled p Opened) t → IsOpen t p.packet.flow p.packet.at.place
  -- a packet whose session was open when it came is never refused, for whatever reason, and opens no other, unless the session was closed in the meantime
  pub not_refused : (t : State) (p : Traced) (r : Refusal) → Step handle host s (Handled p (Refused r)) t → (g : ℕ) → p.was ≡ OpenAt g → p.seen < s.closings p.packet.flow
  pub not_opened_anew : (t : State) (p : Traced) → Step handle host s (Handled p Opened) t → (g : ℕ) → p.was ≡ OpenAt g → p.seen < s.closings p.packet.flow
  -- and if it is delivered, then at the place where the session was open when it came
  pub delivered_to_its_place : (t : State) (p : Traced) → Step handle host s (Handled p Delivered) t → (g : ℕ) → p.was ≡ OpenAt g → (p.packet.at.place ≡ g) ⊎ (p.seen < s.closings p.packet.flow)
  -- no packet comes to a place that was never there, or to a server that does not stand there
  pub not_dropped : (t : State) (p : Traced) → Step handle host s (Handled p Dropped) t → ⊥
  -- there is a newest place, and while it stays the newest every packet is at rest after at most twice as many deliveries as places were ever made
  pub newest_place : (n : ℕ) × Newest s n
  pub soon_at_rest : (p : Traced) (n d : ℕ) → Memᴰ (Carry p) s.sent → Newest s n → Journey host n p s d → d ≤ 2 * made s.places n

-- THE MAIN PROMISE: in every run, whichever servers the places are given to
abbrev pub Main : Type 0
Main = (host : ℕ → ℕ) (s : State) → Reach handle host s → Whole host s
