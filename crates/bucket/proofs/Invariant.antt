-- The invariant of one bucket, by the order of place numbers alone. `top` is the newest place that another place points at (place 1 at the start): the only one that opens sessions.
-- Everything that a packet, a balancer or a link names is at most the top. Assumes nothing.
use Rattle.std.proofs.Common.{◌≡◌, ℕ, ◌<◌, ◌≤◌, T, ◌⊎◌, List, Some, None, Option}
use mathlib.Core.List.{Memᴰ}
use Rattle.flow.specs.declared.key.FlowKey.{FlowKey}
use Rattle.chain.specs.declared.way.Link.{Link}
use Rattle.chain.specs.declared.way.Way.{Way}
use Rattle.chain.specs.declared.way.Way.TheVariants.{Up, Down, Asked}
use Rattle.chain.specs.declared.place.Standing.{Standing}
use Rattle.chain.specs.declared.place.Standing.TheVariants.{Never, Stands, Forgotten}
use Rattle.chain.specs.declared.handover.Handover.{Handover}
use Rattle.chain.specs.declared.handover.Handover.TheVariants.{Idle, AwaitStood, AwaitTold}
use Rattle.bucket.specs.Sessions.{is_in, count}
use Rattle.bucket.specs.Model.{Was, NotOpen, OpenAt, Traced, Message, Carry, ToStand, Stood, BehindYou, Told, ToBalancer, Gone, State, newest, IsOpen}

-- what the messages and packets on their way speak of: so a step that changes none of this keeps all that is said of them, by computing
pub record View : Type 0 where
  pub host : ℕ → ℕ
  pub top : ℕ
  pub places : ℕ → Standing
  pub sessions : ℕ → List FlowKey
  pub closings : FlowKey → ℕ
  pub newest : Link
  pub handover : Handover

abbrev pub view : (ℕ → ℕ) → ℕ → State → View
view host n s = record { host = host; top = n; places = s.places; sessions = s.sessions; closings = s.closings; newest = newest s; handover = s.control.handover }

abbrev pub Born : Standing → Type 0
Born Never = ⊥
Born (Stands b a) = Unit {0}
Born (Forgotten a) = Unit {0}

abbrev pub IsStanding : Standing → Type 0
IsStanding Never = ⊥
IsStanding (Stands b a) = Unit {0}
IsStanding (Forgotten a) = ⊥

-- the place after it is a
abbrev pub AfterIs : Link → Standing → Type 0
AfterIs a Never = ⊥
AfterIs a (Stands b None) = ⊥
AfterIs a (Stands b (Some l)) = l ≡ a
AfterIs a (Forgotten l) = l ≡ a

abbrev pub ForgottenTo : Link → Standing → Type 0
ForgottenTo a Never = ⊥
ForgottenTo a (Stands b l) = ⊥
ForgottenTo a (Forgotten l) = l ≡ a

-- session c is held at place g: for now, open there
abbrev pub Held : View → FlowKey → ℕ → Type 0
Held v c g = T (is_in c (v.sessions g))

-- a link to a place that another points at, by its server
abbrev pub Known : View → Link → Type 0
Known v l = (l.server ≡ v.host l.place) × Born (v.places l.place) × (l.place ≤ v.top)

-- no place between a and b stands
abbrev pub NoneIn : View → ℕ → ℕ → Type 0
NoneIn v a b = (q : ℕ) → a < q → q < b → IsStanding (v.places q) → ⊥

abbrev pub NoneBelow : View → ℕ → Type 0
NoneBelow v b = (q : ℕ) → q < b → IsStanding (v.places q) → ⊥

abbrev pub Before : View → ℕ → Option Link → Type 0
Before v k None = NoneBelow v k
Before v k (Some l) = (l.place < k) × Known v l × NoneIn v l.place k

abbrev pub Next : View → ℕ → Link → Type 0
Next v k l = (k < l.place) × Known v l × NoneIn v k l.place

abbrev pub After : View → ℕ → Option Link → Type 0
After v k None = v.top ≤ k
After v k (Some l) = Next v k l

-- what may be known of the place with the number k
abbrev pub Shape : View → ℕ → Standing → Type 0
Shape v k Never = Unit {0}
Shape v k (Stands b a) = Before v k b × After v k a
Shape v k (Forgotten l) = (k < v.top) × NoneBelow v k × Next v k l

-- a packet on the way w: none of the places that it has asked has its session
abbrev pub Asks : View → Traced → Way → Type 0
Asks v p Up = Unit {0}
Asks v p (Down by) = Known v by × (p.packet.at.place < by.place) × ((q : ℕ) → p.packet.at.place < q → q < by.place → Held v p.packet.flow q → ⊥)
Asks v p (Asked by) = Known v by × (p.packet.at.place ≡ by.place) × T p.packet.opens × ((q : ℕ) → q < by.place → Held v p.packet.flow q → ⊥)

abbrev pub Under : ℕ → Way → Type 0
Under g Up = Unit {0}
Under g (Down by) = g < by.place
Under g (Asked by) = g < by.place

-- if its session was open when it came, the session was closed since, or is still open there, and that is below who began to ask
abbrev pub Owed : View → Traced → Way → Was → Type 0
Owed v p w NotOpen = Unit {0}
Owed v p w (OpenAt g) = (p.seen < v.closings p.packet.flow) ⊎ (Held v p.packet.flow g × Under g w)

pub record Fine (v : View) (p : Traced) (w : Way) : Type 0 where
  pub at : Known v p.packet.at
  pub asks : Asks v p w
  pub seen : p.seen ≤ v.closings p.packet.flow
  pub owed : Owed v p w p.was

-- a place told to stand has stood, or the controller waits for it, behind the newest
abbrev pub StandOk : View → Link → Option Link → Type 0
StandOk v l b = Born (v.places l.place) ⊎ ((v.handover ≡ AwaitStood l) × (b ≡ Some v.newest))

-- a place told of the one behind it knows it, or is the newest, and the controller waits for its answer
abbrev pub BehindOk : View → Link → Link → Type 0
BehindOk v l a = AfterIs a (v.places l.place) ⊎ ((v.newest ≡ l) × (v.handover ≡ AwaitTold a))

-- what holds of all that was ever sent
abbrev pub Ok : View → Message → Type 0
Ok v (Carry p) = Fine v p p.packet.way
Ok v (ToStand l b) = (l.server ≡ v.host l.place) × StandOk v l b
Ok v (Stood l) = Born (v.places l.place)
Ok v (BehindYou l a) = Known v l × BehindOk v l a
Ok v (Told l a) = AfterIs a (v.places l.place)
Ok v (ToBalancer d l) = Known v l
Ok v (Gone l a) = ForgottenTo a (v.places l.place)

abbrev pub Waits : View → Handover → Type 0
Waits v Idle = v.top ≡ v.newest.place
Waits v (AwaitStood l) = (v.top ≡ v.newest.place) × (v.newest.place < l.place) × (l.server ≡ v.host l.place)
Waits v (AwaitTold l) = ((v.top ≡ v.newest.place) ⊎ (v.top ≡ l.place)) × (v.newest.place < l.place) × (l.server ≡ v.host l.place) × Born (v.places l.place)

abbrev pub Names : ℕ → Handover → Type 0
Names k Idle = ⊥
Names k (AwaitStood l) = l.place ≡ k
Names k (AwaitTold l) = l.place ≡ k

-- the top is the first place, or another points at it
abbrev pub Pointed : ℕ → (ℕ → Standing) → Type 0
Pointed n places = (n ≡ 1) ⊎ ((k : ℕ) × (a : Link) × AfterIs a (places k) × (a.place ≡ n))

pub record Inv (host : ℕ → ℕ) (n : ℕ) (s : State) : Type 0 where
  pub shape : (k : ℕ) → Shape (view host n s) k (s.places k)
  pub low : 1 ≤ n
  pub born : Born (s.places n)
  pub pointed : Pointed n s.places
  -- above the top there is at most the place that the controller waits for
  pub fresh : (k : ℕ) → n < k → Born (s.places k) → Names k s.control.handover
  pub shut : (c : FlowKey) (k : ℕ) → IsOpen s c k → IsStanding (s.places k) × (k ≤ n)
  pub one : (c : FlowKey) (g h : ℕ) → IsOpen s c g → IsOpen s c h → g ≡ h
  pub once : (c : FlowKey) (k : ℕ) → count c (s.sessions k) ≤ 1
  pub words : (m : Message) → Memᴰ m s.sent → Ok (view host n s) m
  pub balancers : (d : ℕ) → Known (view host n s) (s.balancers d)
  pub newest : Known (view host n s) (newest s)
  pub waits : Waits (view host n s) s.control.handover
