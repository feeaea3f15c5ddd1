-- The struct of a server, as the rules know it, and what each of its methods does to it. Assumes nothing.
use Rattle.std.specs.Prelude.{◌≡◌, ℕ, ◌+◌, ◌^◌, ◌<◌, ◌≤◌, true, List, ◌∷◌, ◌++◌, map, length, is_some, Ok, Err, vec_items, Option, Result}
use Rattle.fault.specs.declared.Error.{Error}
use Rattle.fault.specs.declared.Error.TheVariants.{Of, Memory}
use Rattle.fault.specs.declared.Fault.{Fault}
use Rattle.fault.specs.declared.Fault.TheVariants.{NoSuch}
use Rattle.chain.specs.declared.place.Outcome.{Outcome}
use Rattle.chain.specs.declared.place.Outcome.TheVariants.{Delivered, Opened, Forwarded, Refused, Dropped}
use Rattle.chain.specs.declared.way.Link.{Link}
use Rattle.sessions.specs.declared.key.Key.{Key}
use Rattle.sessions.specs.declared.entry.Entry.{Entry}
use Rattle.sessions.specs.Clocks.{ticks_of}
use Rattle.sessions.specs.Entries.{seen_in}
use Rattle.sessions.specs.Model.{entries_of}
use Rattle.wire.specs.declared.message.Control.{Control}
use Rattle.machine.specs.declared.name.Machine.{Machine}
use Rattle.machine.specs.declared.sent.Sent.{Sent}
use Rattle.server_bucket.specs.Rules.{tells}
use Rattle.server_bucket.specs.Kept.{holding}
use Rattle.server.specs.declared.kept.Server.{Server}
use Rattle.server.specs.declared.passed.Passed.{Passed}
use Rattle.server.specs.Rules.{Keeping, Handled, Ordered, Effect, Does, answer_to, bucket_in, told, last_stood, ticked}

abbrev pub keeping : Server → Keeping
keeping s = record { number = s.number; holdings = map holding (vec_items s.held); tick = ticks_of s.clock; stood = s.stood }

-- its open sessions
abbrev pub sessions_of : Server → List Entry
sessions_of s = entries_of s.sessions

-- the sessions change by the effect; want of memory changes nothing
abbrev pub Done : Effect → Result (Unit {0}) Error → List Entry → List Entry → Type 0
Done e (Ok u) was after = Does e was after
Done e (Err Memory) was after = after ≡ was
Done e (Err (Of f)) was after = ⊥

-- a session that has a packet is open, or there is room for it
abbrev pub Fitting : Outcome → Key → List Entry → Type 0
Fitting Delivered k es = is_some (seen_in k es) ≡ true
Fitting Opened k es = length es < 65536
Fitting (Forwarded l w) k es = Unit {0}
Fitting (Refused r) k es = Unit {0}
Fitting Dropped k es = Unit {0}

-- a packet: its outcome and the hint are the rule's, and the sessions change by its effect; want of memory changes nothing
abbrev pub Passes : Handled → Result Passed Error → List Entry → List Entry → Type 0
Passes h (Ok p) was after = (p.outcome ≡ h.outcome) × (p.hint ≡ h.hint) × Does h.effect was after
Passes h (Err Memory) was after = after ≡ was
Passes h (Err (Of f)) was after = ⊥

-- an order: what is sent, what is left, and what becomes of the sessions; want of memory changes nothing
abbrev pub Obeys : Ordered → Result (Unit {0}) Error → Keeping → Keeping → List Entry → List Entry → List Sent → List Sent → Type 0
Obeys o (Ok u) was after es es' out out' = (after ≡ o.keeping) × Does o.effect es es' × (out' ≡ out ++ o.sends)
Obeys o (Err Memory) was after es es' out out' = (after ≡ was) × (es' ≡ es) × (out' ≡ out)
Obeys o (Err (Of f)) was after es es' out out' = ⊥

-- a place may have been forgotten, and then this is when
abbrev pub left : Option Link → Keeping → Keeping
left gone k = record { number = k.number; holdings = k.holdings; tick = k.tick; stood = last_stood k.tick gone k.stood }

-- what a message changes, before it is answered: a place, which may be forgotten by it, and then the place after it; a fault changes nothing
abbrev pub Alters : Control → List Entry → Result (ℕ × Option Link) Fault → Keeping → Keeping → Type 0
Alters c es (Ok p) was after = (from : Machine) → told from c was es ≡ Ok (answer_to from c ∷ tells (bucket_in c) p.0 p.1, left p.1 after)
Alters c es (Err f) was after = ((from : Machine) → told from c was es ≡ Err f) × (after ≡ was)

-- so many ticks pass; where a clock of 64 bits would wrap it is refused, and a refusal changes nothing
abbrev pub Elapses : ℕ → Result (Unit {0}) Error → Keeping → Keeping → List Entry → List Entry → List Sent → List Sent → Type 0
Elapses n (Ok u) was after es es' out out' = Obeys (ticked n was es) (Ok u) was after es es' out out'
Elapses n (Err Memory) was after es es' out out' = (after ≡ was) × (es' ≡ es) × (out' ≡ out)
Elapses n (Err (Of f)) was after es es' out out' = (f ≡ NoSuch) × (2 ^ 64 ≤ was.tick + n) × (after ≡ was) × (es' ≡ es) × (out' ≡ out)
