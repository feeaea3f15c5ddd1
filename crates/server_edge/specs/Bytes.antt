-- What a server does with bytes, whoever hands them over. Its rules are those of `server`, the bytes' are those of `edge`. Assumes nothing.
use Rattle.std.specs.Prelude.{◌≡◌, ℕ, ◌+◌, ◌^◌, Bool, false, cond, not, ◌&&◌, ◌⊎◌, List, [], ◌∷◌, ◌++◌, map, length, Some, None, Ok, Err, Option, Result, nat_lt}
use Rattle.fault.specs.declared.Fault.{Fault}
use Rattle.fault.specs.declared.Fault.TheVariants.{Malformed, NoSuch}
use Rattle.fault.specs.declared.Error.{Error}
use Rattle.fault.specs.declared.Error.TheVariants.{Of, Memory}
use Rattle.chain.specs.declared.place.Outcome.{Outcome}
use Rattle.chain.specs.declared.place.Outcome.TheVariants.{Delivered, Opened, Forwarded, Refused, Dropped}
use Rattle.chain.specs.declared.way.Link.{Link}
use Rattle.chain.specs.declared.way.Way.{Way}
use Rattle.flow.specs.declared.key.FlowKey.{FlowKey}
use Rattle.sessions.specs.declared.entry.Entry.{Entry}
use Rattle.wire.specs.declared.message.At.{At}
use Rattle.wire.specs.declared.message.Unread.{Unread}
use Rattle.wire.specs.declared.message.Order.{Order}
use Rattle.wire.specs.declared.message.Order.TheVariants as order
use Rattle.wire.specs.declared.message.Head.{Head}
use Rattle.wire.specs.Formats.{among}
use Rattle.wire.specs.Forwarding.{forwarded}
use Rattle.wire.specs.Meant.{Carried}
use Rattle.wire.specs.Messages.{encode}
use Rattle.machine.specs.declared.name.Machine.{Machine}
use Rattle.machine.specs.declared.name.Machine.TheVariants.{Client, Server}
use Rattle.machine.specs.declared.sent.Sent.{Sent}
use Rattle.edge.specs.declared.sort.Role.TheVariants as role
use Rattle.edge.specs.Posts.{Mail, mail}
use Rattle.edge.specs.Admission.{kind_in, sent_back, refusal, mail_in}
use Rattle.edge.specs.Sorts.{Sort, Outside, Carries, Tells, Answers, Orders, Refuses, sort}
use Rattle.server.specs.Rules.{Keeping, Handled, Ordered, Effect, Same, Does, handles, told, heard, closes, ticked}
use Rattle.server.specs.declared.passed.Passed.{Passed}
use Rattle.server.specs.Shown.{knows}

-- posts: what is posted. keeping: what is left of what it keeps. effect: what becomes of its sessions.
-- outcome: what became of the packet, if that is what came. lent: the bytes that were lent, then
pub record Step : Type 0 where
  pub posts : List Mail
  pub keeping : Keeping
  pub effect : Effect
  pub outcome : Option Outcome
  pub lent : List ℕ

-- something else than a packet: the sessions and the lent bytes stay
abbrev pub step_of : List Mail → Keeping → List ℕ → Step
step_of posts k bs = record { posts = posts; keeping = k; effect = Same; outcome = None; lent = bs }

-- PACKETS

-- a packet that is refused goes back to the client
abbrev pub back_of : Outcome → List ℕ → List Mail
back_of Delivered packet = []
back_of Opened packet = []
back_of (Forwarded l w) packet = []
back_of (Refused why) packet = sent_back Client why packet ∷ []
back_of Dropped packet = []

-- the same packet at another place, on another way
abbrev pub moved : Link → Way → Head → Head
moved l w h = record { bucket = h.bucket; place = l.place; way = w; opens = h.opens }

-- the lent bytes: the head of a packet that goes on is written anew
abbrev pub lent_as : Outcome → Head → FlowKey → List ℕ → List ℕ → List ℕ
lent_as Delivered h flow packet bs = bs
lent_as Opened h flow packet bs = bs
lent_as (Forwarded l w) h flow packet bs = encode (Carried (moved l w h) flow packet)
lent_as (Refused why) h flow packet bs = bs
lent_as Dropped h flow packet bs = bs

-- what a balancer is told
abbrev pub hint_of : Option Sent → List Mail
hint_of None = []
hint_of (Some s) = mail_in s ∷ []

-- a packet that goes on is posted to the server of its next place, and the hint behind it
abbrev pub on_of : Outcome → Option Sent → Head → FlowKey → List ℕ → List Mail
on_of Delivered hint h flow packet = []
on_of Opened hint h flow packet = []
on_of (Forwarded l w) hint h flow packet = mail (Server l.server) (Carried (moved l w h) flow packet) ∷ hint_of hint
on_of (Refused why) hint h flow packet = []
on_of Dropped hint h flow packet = []

abbrev pub passes : Head → FlowKey → List ℕ → List ℕ → Keeping → Handled → Step
passes h flow packet bs k p = record {
  posts = back_of p.outcome packet ++ on_of p.outcome p.hint h flow packet;
  keeping = k;
  effect = p.effect;
  outcome = Some p.outcome;
  lent = lent_as p.outcome h flow packet bs;
}

-- MESSAGES

-- what is sent is posted; a fault is answered, and nothing changes
abbrev pub tells : Machine → List ℕ → Keeping → Result (List Sent × Keeping) Fault → Step
tells from bs k (Ok p) = step_of (map mail_in p.0) p.1 bs
tells from bs k (Err f) = step_of (refusal from f bs) k bs

-- the place that was read before the fault is one that this server does not know
abbrev pub is_unknown : Option At → Keeping → Bool
is_unknown None k = false
is_unknown (Some at) k = not (knows at.bucket at.place k)

-- a packet and *behind you* are for a place of this server; that of *stand* is new to it, and that of *forgotten* is another server's
abbrev pub is_for_place : ℕ → Bool
is_for_place kind = among kind (1 ∷ 3 ∷ [])

-- what is for a place that this server does not know is as if lost, whatever else is wrong with it
abbrev pub refuses : Machine → List ℕ → Keeping → Unread → Step
refuses from bs k u = step_of (cond (is_for_place (kind_in bs) && is_unknown u.at k) [] (refusal from u.fault bs)) k bs

-- ORDERS

abbrev pub orderly : List ℕ → Ordered → Step
orderly bs o = record { posts = map mail_in o.sends; keeping = o.keeping; effect = o.effect; outcome = None; lent = bs }

-- so many ticks pass; a clock of 64 bits does not wrap
abbrev pub passing : Machine → List ℕ → ℕ → Keeping → List Entry → Step
passing from bs n k es = cond (nat_lt (k.tick + n) (2 ^ 64)) (orderly bs (ticked n k es)) (step_of (refusal from NoSuch bs) k bs)

-- servers are not added to a server
abbrev pub obeys : Machine → List ℕ → Keeping → List Entry → Order → Step
obeys from bs k es (order.Closed flow) = orderly bs (closes flow k es)
obeys from bs k es (order.Added s) = step_of (refusal from Malformed bs) k bs
obeys from bs k es (order.Removed s) = step_of (refusal from Malformed bs) k bs
obeys from bs k es (order.Ticks n) = passing from bs n k es

abbrev pub does : Machine → List ℕ → Keeping → List Entry → Sort → Step
does from bs k es Outside = step_of (refusal from Malformed bs) k bs
does from bs k es (Carries h flow packet) = passes h flow packet bs k (handles from h flow k es)
does from bs k es (Tells c) = tells from bs k (told from c k es)
does from bs k es (Answers c) = step_of [] (heard from c k) bs
does from bs k es (Orders o) = obeys from bs k es o
does from bs k es (Refuses u) = refuses from bs k u

-- what a server does with bytes that come from a machine
abbrev pub hears_bytes : Machine → List ℕ → Keeping → List Entry → Step
hears_bytes from bs k es = does from bs k es (sort role.Server from (length k.holdings) bs)

-- THE CODE

-- the server is as before, or as after the step
abbrev pub BeforeOrAfter : Step → Keeping → Keeping → List Entry → List Entry → Type 0
BeforeOrAfter s k k' es es' = ((k' ≡ k) × (es' ≡ es)) ⊎ ((k' ≡ s.keeping) × Does s.effect es es')

-- a step in full. Where memory is short nothing was posted, and the server is as before, or as after the step: then it is as if what it says were lost
abbrev pub Takes : Step → Result (Unit {0}) Error → Keeping → Keeping → List Entry → List Entry → List Mail → List Mail → Type 0
Takes s (Ok u) k k' es es' out out' = (k' ≡ s.keeping) × Does s.effect es es' × (out' ≡ out ++ s.posts)
Takes s (Err Memory) k k' es es' out out' = (out' ≡ out) × BeforeOrAfter s k k' es es'
Takes s (Err (Of f)) k k' es es' out out' = ⊥

-- the same, with the answer and the lent bytes
abbrev pub Hears : Step → Result (Option Outcome) Error → Keeping → Keeping → List Entry → List Entry → List Mail → List Mail → List ℕ → List ℕ → Type 0
Hears s (Ok o) k k' es es' out out' bs bs' = (o ≡ s.outcome) × (k' ≡ s.keeping) × Does s.effect es es' × (out' ≡ out ++ s.posts) × (bs' ≡ s.lent)
Hears s (Err Memory) k k' es es' out out' bs bs' = (out' ≡ out) × BeforeOrAfter s k k' es es' × ((bs' ≡ bs) ⊎ (bs' ≡ s.lent))
Hears s (Err (Of f)) k k' es es' out out' bs bs' = ⊥

-- bytes of a packet whose head is written anew, to the server of the next place
abbrev pub forwarded_to : Link → Way → List ℕ → Mail
forwarded_to l w bs = record { to = Server l.server; bytes = (forwarded l.place w bs).1 }

-- a packet that was handled and, if it is refused, went back; where memory is short nothing changed
abbrev pub CarriesIn : List ℕ → Handled → Result Passed Error → Keeping → Keeping → List Entry → List Entry → List Mail → List Mail → Type 0
CarriesIn packet h (Ok p) k k' es es' out out' = (p.outcome ≡ h.outcome) × (p.hint ≡ h.hint) × (k' ≡ k) × Does h.effect es es' × (out' ≡ out ++ back_of h.outcome packet)
CarriesIn packet h (Err Memory) k k' es es' out out' = (k' ≡ k) × (es' ≡ es) × (out' ≡ out)
CarriesIn packet h (Err (Of f)) k k' es es' out out' = ⊥
