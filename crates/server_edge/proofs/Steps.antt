-- What a stopped step leaves, and what a packet that goes on is. Assumes nothing.
use Rattle.std.proofs.Common.{◌≡◌, ℕ, Bool, true, false, cond, List, ◌∷◌, ◌++◌, Some, None, Ok, Err, Result, sym, refl, ap, ◌∙◌, inl, inr, append-nil, arith}
use Rattle.fault.specs.declared.Fault.{Fault}
use Rattle.fault.specs.declared.Error.{Error}
use Rattle.fault.specs.declared.Error.TheVariants.{Of, Memory}
use Rattle.sessions.specs.declared.entry.Entry.{Entry}
use Rattle.chain.specs.declared.place.Outcome.TheVariants.{Forwarded}
use Rattle.chain.specs.declared.way.Link.{Link}
use Rattle.chain.specs.declared.way.Way.{Way}
use Rattle.flow.specs.declared.key.FlowKey.{FlowKey}
use Rattle.wire.specs.declared.message.Head.{Head}
use Rattle.wire.specs.declared.message.Unread.{Unread}
use Rattle.wire.specs.Forwarding.{forwarded, Forwards}
use Rattle.wire.specs.Laws.{Bytes}
use Rattle.wire.specs.Meant.{Meant, Carried, Said, Answered, Back, Ordered}
use Rattle.wire.specs.Messages.{encode, decode}
use Rattle.wire.proofs.Forth.{written_again}
use Rattle.machine.specs.declared.name.Machine.{Machine}
use Rattle.machine.specs.declared.name.Machine.TheVariants.{Client, Operator, Balancer, Server, Controller}
use Rattle.machine.specs.declared.sent.Sent.{Sent}
use Rattle.machine.specs.Steps.{Did}
use Rattle.edge.specs.declared.sort.Role.TheVariants as role
use Rattle.edge.specs.Posts.{Mail, mail, Sends}
use Rattle.edge.specs.Admission.{refusal, takes, kind_in, Stops}
use Rattle.edge.specs.Sorts.{Carries, Refuses, read_as, sort}
use Rattle.server.specs.Rules.{Keeping, Handled}
use Rattle.server.specs.declared.passed.Passed.{Passed}
use Rattle.server_edge.specs.Bytes.{Step, moved, back_of, hint_of, passes, tells, forwarded_to, Takes, Hears, CarriesIn}

refused_takes : (from : Machine) (bs : List ℕ) (f : Fault) (r : Result (Unit {0}) Error) (k k' : Keeping) (es es' : List Entry) (was after : List Mail)
    → k' ≡ k → es' ≡ es → Sends (refusal from f bs) r was after → Takes (tells from bs k (Err f)) r k k' es es' was after
refused_takes from bs f (Ok u) k k' es es' was after e g s = (e, g, s)
refused_takes from bs f (Err Memory) k k' es es' was after e g s = (s, inl (e, g))
refused_takes from bs f (Err (Of h)) k k' es es' was after e g s = s

short_takes : (s : Step) (r : Result (Unit {0}) Error) (k k' : Keeping) (es es' : List Entry) (was after : List Mail)
    → k' ≡ k → es' ≡ es → (r ≡ Err Memory) × (after ≡ was) → Takes s r k k' es es' was after
short_takes s r k k' es es' was after e g h = rw h.0 (h.1, inl (e, g))

pub told_stopped : (t : Result (List Sent × Keeping) Fault) (e : Error) (from : Machine) (bs : List ℕ) (r : Result (Unit {0}) Error) (k k' : Keeping) (es es' : List Entry) (said said' : List Sent) (was after : List Mail)
    → Did t (Err e) k k' said said' → es' ≡ es → Stops from bs e r was after → Takes (tells from bs k t) r k k' es es' was after
told_stopped (Ok p) (Of g) from bs r k k' es es' said said' was after d same h = absurd d
told_stopped (Ok p) Memory from bs r k k' es es' said said' was after d same h = short_takes (tells from bs k (Ok p)) r k k' es es' was after d.0 same h
told_stopped (Err f) (Of g) from bs r k k' es es' said said' was after d same h = refused_takes from bs f r k k' es es' was after d.1 same (rw d.0 at h)
told_stopped (Err f) Memory from bs r k k' es es' said said' was after d same h = short_takes (tells from bs k (Err f)) r k k' es es' was after d.0 same h

-- WHAT A PACKET THAT GOES ON IS

never_carries : (h : Head) (flow : FlowKey) (packet : List ℕ) (u : Unread) → Carries h flow packet ≡ Refuses u → ⊥
never_carries h flow packet u e = grind arith

read_carries : (h : Head) (flow : FlowKey) (packet : List ℕ) (r : Result Meant Unread) → Carries h flow packet ≡ read_as r → r ≡ Ok (Carried h flow packet)
read_carries h flow packet (Ok (Carried g key bs)) e = grind arith
read_carries h flow packet (Ok (Said c)) e = grind arith
read_carries h flow packet (Ok (Answered c)) e = grind arith
read_carries h flow packet (Ok (Back why bs)) e = grind arith
read_carries h flow packet (Ok (Ordered o)) e = grind arith
read_carries h flow packet (Err u) e = grind arith

test_carries : (q : Bool) (h : Head) (flow : FlowKey) (packet : List ℕ) (u : Unread) (r : Result Meant Unread) → Carries h flow packet ≡ cond q (read_as r) (Refuses u) → r ≡ Ok (Carried h flow packet)
test_carries true h flow packet u r e = read_carries h flow packet r e
test_carries false h flow packet u r e = absurd (never_carries h flow packet u e)

sort_carries : (from : Machine) (B : ℕ) (bs : List ℕ) (h : Head) (flow : FlowKey) (packet : List ℕ) → Carries h flow packet ≡ sort role.Server from B bs → decode B bs ≡ Ok (Carried h flow packet)
sort_carries Client B bs h flow packet e = absurd (never_carries h flow packet _ e)
sort_carries Operator B bs h flow packet e = test_carries (takes role.Server Operator (kind_in bs)) h flow packet _ (decode B bs) e
sort_carries (Balancer d) B bs h flow packet e = test_carries (takes role.Server (Balancer d) (kind_in bs)) h flow packet _ (decode B bs) e
sort_carries (Server s) B bs h flow packet e = test_carries (takes role.Server (Server s) (kind_in bs)) h flow packet _ (decode B bs) e
sort_carries Controller B bs h flow packet e = test_carries (takes role.Server Controller (kind_in bs)) h flow packet _ (decode B bs) e

forwards : Forwards
forwards h flow bs place way = grind arith

-- the head written anew is that of the same packet at its next place
pub moves_on : (from : Machine) (B : ℕ) (bs : List ℕ) (h : Head) (flow : FlowKey) (packet : List ℕ) (l : Link) (w : Way) → Bytes bs
    → Carries h flow packet ≡ sort role.Server from B bs → (forwarded l.place w bs).1 ≡ encode (Carried (moved l w h) flow packet)
moves_on from B bs h flow packet l w ok e =
    let same : encode (Carried h flow packet) ≡ bs = (written_again B bs (Carried h flow packet) ok (sort_carries from B bs h flow packet e)).0 in
    ap (λ x. (forwarded l.place w x).1) (sym same) ∙ ap (λ p. p.1) (forwards h flow packet l.place w)

pub gone_on : (h : Head) (flow : FlowKey) (packet bs bs' : List ℕ) (k k' : Keeping) (es es' : List Entry) (g : Handled) (p : Passed) (l : Link) (w : Way) (was out after : List Mail)
    → (forwarded l.place w bs).1 ≡ encode (Carried (moved l w h) flow packet) → CarriesIn packet g (Ok p) k k' es es' was out → p.outcome ≡ Forwarded l w
    → after ≡ out ++ forwarded_to l w bs ∷ hint_of p.hint → bs' ≡ (forwarded l.place w bs).1
    → Hears (passes h flow packet bs k g) (Ok (Some p.outcome)) k k' es es' was after bs bs'
gone_on h flow packet bs bs' k k' es es' g p l w was out after m c o s b =
    let f : g.outcome ≡ Forwarded l w = sym c.0 ∙ o in
    let start : out ≡ was = (c.4 ∙ ap (λ x. was ++ back_of x packet) f) ∙ append-nil was in
    let posted : after ≡ was ++ mail (Server l.server) (Carried (moved l w h) flow packet) ∷ hint_of g.hint =
    s ∙ (ap (λ x. x ++ forwarded_to l w bs ∷ hint_of p.hint) start ∙ (ap (λ x. was ++ record { to = Server l.server; bytes = x } ∷ hint_of p.hint) m ∙ ap (λ x. was ++ mail (Server l.server) (Carried (moved l w h) flow packet) ∷ hint_of x) c.1)) in
    (ap (λ x. Some x) c.0, c.2, c.3, rw f posted, rw f (b ∙ m))

pub stopped_on : (h : Head) (flow : FlowKey) (packet bs bs' : List ℕ) (k k' : Keeping) (es es' : List Entry) (g : Handled) (p : Passed) (l : Link) (w : Way) (e : Error) (mails was out after : List Mail)
    → (forwarded l.place w bs).1 ≡ encode (Carried (moved l w h) flow packet) → CarriesIn packet g (Ok p) k k' es es' was out → p.outcome ≡ Forwarded l w
    → Sends mails (Err e) out after → bs' ≡ (forwarded l.place w bs).1
    → Hears (passes h flow packet bs k g) (Err e) k k' es es' was after bs bs'
stopped_on h flow packet bs bs' k k' es es' g p l w Memory mails was out after m c o s b =
    let f : g.outcome ≡ Forwarded l w = sym c.0 ∙ o in
    let start : out ≡ was = (c.4 ∙ ap (λ x. was ++ back_of x packet) f) ∙ append-nil was in
    (s ∙ start, inr (c.2, c.3), inr (rw f (b ∙ m)))
stopped_on h flow packet bs bs' k k' es es' g p l w (Of f) mails was out after m c o s b = absurd s

pub told_hears : (t : Result (List Sent × Keeping) Fault) (from : Machine) (bs bs' : List ℕ) (k k' : Keeping) (es es' : List Entry) (was after : List Mail)
    → bs' ≡ bs → Takes (tells from bs k t) (Ok tt) k k' es es' was after → Hears (tells from bs k t) (Ok None) k k' es es' was after bs bs'
told_hears (Ok p) from bs bs' k k' es es' was after b d = (refl, d.0, d.1, d.2, b)
told_hears (Err f) from bs bs' k k' es es' was after b d = (refl, d.0, d.1, d.2, b)
