-- Runs that there must be, so that the promises are not empty. Assumes nothing.
use Rattle.std.specs.Prelude.{◌≡◌, ℕ}
use Rattle.fault.specs.declared.Refusal.TheVariants.{Nobody}
use Rattle.chain.specs.declared.place.Standing.TheVariants.{Forgotten}
use Rattle.chain.specs.declared.place.Outcome.TheVariants.{Delivered, Opened, Refused}
use Rattle.chain.specs.Places.{handle}
use Rattle.bucket.specs.Model.{OpenAt, Traced, State, newest, link_to, Handled, Step, Reach}

pub record Runs (host : ℕ → ℕ) : Type 0 where
  -- one place: a packet opens a session there
  pub opens_session : (s t : State) × (p : Traced) × Reach handle host s × (p.packet.at.place ≡ 1) × Step handle host s (Handled p Opened) t
  -- after a handover from place 1 to place 2 the session is open in 1, the balancer knows 2: up at 2, down to 1, delivered there
  pub finds_old : (s t : State) × (p : Traced) × Reach handle host s × ((newest s).place ≡ 2) × ((s.balancers 0).place ≡ 2) × (p.packet.at.place ≡ 1) × Step handle host s (Handled p Delivered) t
  -- place 1 is forgotten, and a session is opened in 2 by a packet that a balancer who has heard nothing sent to 1
  pub opens_past_forgotten : (s t : State) × (p : Traced) × Reach handle host s × (s.places 1 ≡ Forgotten (link_to host 2)) × ((s.balancers 0).place ≡ 1) × (p.packet.at.place ≡ 2) × Step handle host s (Handled p Opened) t
  -- a packet that may not open, of a session that was closed while the packet was on its way
  pub refuses_closed : (s t : State) × (p : Traced) × Reach handle host s × (p.was ≡ OpenAt 1) × Step handle host s (Handled p (Refused Nobody)) t

abbrev pub SomeRuns : Type 0
SomeRuns = (host : ℕ → ℕ) × Runs host
