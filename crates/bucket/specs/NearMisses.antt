-- Rules that come near and are not meant: each breaks a promise, in a run that is written out in the proof. Assumes nothing.
use Rattle.std.specs.Prelude.{◌≡◌, ℕ, Bool, cond, Some, None, ◌≢◌}
use Rattle.fault.specs.declared.Refusal.{Refusal}
use Rattle.flow.specs.declared.key.FlowKey.{FlowKey}
use Rattle.chain.specs.declared.way.Link.{Link}
use Rattle.chain.specs.declared.way.Way.{Way}
use Rattle.chain.specs.declared.way.Way.TheVariants.{Up, Down, Asked}
use Rattle.chain.specs.declared.place.Standing.{Standing}
use Rattle.chain.specs.declared.place.Standing.TheVariants.{Never, Stands, Forgotten}
use Rattle.chain.specs.declared.place.Entry.{Entry}
use Rattle.chain.specs.declared.place.Entry.TheVariants.{Open, Vacant, Full}
use Rattle.chain.specs.declared.place.Outcome.TheVariants.{Refused}
use Rattle.chain.specs.Places.{handle}
use Rattle.bucket.specs.Sessions.{count}
use Rattle.bucket.specs.Model.{Traced, OpenAt, State, IsOpen, Rule, Handled, Step, Reach}

-- a place as if none stood before it, or after it
abbrev none_before : Standing → Standing
none_before Never = Never
none_before (Stands b a) = Stands None a
none_before (Forgotten a) = Forgotten a

abbrev none_after : Standing → Standing
none_after Never = Never
none_after (Stands b a) = Stands b None
none_after (Forgotten a) = Forgotten a

-- refuses whatever isn't at the newest place: nobody below is asked
abbrev pub refuses_old : Rule
refuses_old x p e = handle (record { link = x.link; standing = none_before x.standing }) p e

abbrev asked_at_once : Link → Bool → Way → Standing → Way
asked_at_once here opens Up Never = Up
asked_at_once here opens Up (Forgotten a) = Up
asked_at_once here opens Up (Stands b (Some a)) = Up
asked_at_once here opens Up (Stands b None) = cond opens (Asked here) Up
asked_at_once here opens (Down by) x = Down by
asked_at_once here opens (Asked by) x = Asked by

-- opens at the newest place without asking
abbrev pub opens_at_once : Rule
opens_at_once x p e = handle x (record { flow = p.flow; opens = p.opens; at = p.at; way = asked_at_once x.link p.opens p.way x.standing }) e

abbrev asks_here : Way → Standing → Standing
asks_here Up x = none_after x
asks_here (Down by) x = x
asks_here (Asked by) x = x

-- asks downward from wherever the packet came in
abbrev pub asks_from_anywhere : Rule
asks_from_anywhere x p e = handle (record { link = x.link; standing = asks_here p.way x.standing }) p e

abbrev opens_still : Way → Standing → Standing
opens_still Up x = x
opens_still (Down by) x = x
opens_still (Asked by) x = none_after x

-- was told of a place behind it, and still opens
abbrev pub opens_though_told : Rule
opens_though_told x p e = handle (record { link = x.link; standing = opens_still p.way x.standing }) p e

abbrev unseen : Way → Entry → Entry
unseen Up e = e
unseen (Down by) e = e
unseen (Asked by) Open = Vacant
unseen (Asked by) Vacant = Vacant
unseen (Asked by) Full = Full

-- asked, does not look whether the session was opened meanwhile
abbrev pub opens_again : Rule
opens_again x p e = handle x p (unseen p.way e)

-- a session is open in two places
abbrev pub BreaksOnePlace : Rule → (ℕ → ℕ) → Type 0
BreaksOnePlace rule host = (s : State) × (c : FlowKey) × (g h : ℕ) × Reach rule host s × IsOpen s c g × IsOpen s c h × (g ≢ h)

-- a session is open twice in one place
abbrev pub BreaksOnce : Rule → (ℕ → ℕ) → Type 0
BreaksOnce rule host = (s : State) × (c : FlowKey) × (g : ℕ) × Reach rule host s × (count c (s.sessions g) ≡ 2)

-- a packet is refused whose session was open when it came, and was not closed since
abbrev pub BreaksNotRefused : Rule → (ℕ → ℕ) → Type 0
BreaksNotRefused rule host =
    (s t : State) × (p : Traced) × (r : Refusal) × (g : ℕ) × Reach rule host s × Step rule host s (Handled p (Refused r)) t × (p.was ≡ OpenAt g) × (p.seen ≡ s.closings p.packet.flow) × IsOpen s p.packet.flow g

pub record NearMisses (host : ℕ → ℕ) : Type 0 where
  pub refused_old : BreaksNotRefused refuses_old host
  pub opened_at_once : BreaksOnePlace opens_at_once host
  pub asked_from_anywhere : BreaksNotRefused asks_from_anywhere host
  pub opened_though_told : BreaksOnePlace opens_though_told host
  pub opened_again : BreaksOnce opens_again host

abbrev pub AllBreak : Type 0
AllBreak = (host : ℕ → ℕ) × NearMisses host
