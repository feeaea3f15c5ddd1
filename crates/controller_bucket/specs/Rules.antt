-- What the controller keeps of one bucket, and how its handovers go on. The rules of the chain are those of `chain`. Assumes nothing.
use Rattle.std.specs.Prelude.{ℕ, ◌-◌, Bool, true, false, cond, List, [], ◌∷◌, ◌++◌, map, length, Some, None, Ok, Err, Option, Result, ◌==◌, slice_index_or}
use Rattle.fault.specs.declared.Fault.{Fault}
use Rattle.chain.specs.declared.way.Link.{Link}
use Rattle.chain.specs.declared.handover.Handover.{Handover}
use Rattle.chain.specs.declared.handover.Handover.TheVariants.{Idle, AwaitStood, AwaitTold}
use Rattle.chain.specs.Ways.{same_link}
use Rattle.chain.specs.Controllers as chains
use Rattle.chain.specs.Controllers.{Control, newest_of, first_control}
use Rattle.wire.specs.declared.message.Control.TheVariants.{Stand, Behind, Door}
use Rattle.machine.specs.declared.name.Machine.TheVariants.{Operator, Balancer, Server}
use Rattle.machine.specs.declared.sent.Note.TheVariants.{Say, PutOff}
use Rattle.machine.specs.declared.sent.Sent.{Sent}
use Rattle.machine.specs.Again.{is_due, aged}

-- control: its chain. age: ticks since the handover's message was last said. untold: the balancers that have not answered that they heard of the newest place.
-- untoldAge: ticks since they were last told. reported: the operator has heard that the next handover is put off
pub record Charge : Type 0 where
  pub control : Control
  pub age : ℕ
  pub untold : List ℕ
  pub untold_age : ℕ
  pub reported : Bool

-- at the start place 1 stands at one server, and every balancer knows it
abbrev pub charge_first : ℕ → Charge
charge_first server = record { control = first_control server; age = 0; untold = []; untold_age = 0; reported = false }

abbrev pub newest : Charge → Link
newest c = newest_of c.control.kept

-- the oldest place kept, which is forgotten first
abbrev pub oldest : Charge → Link
oldest c = slice_index_or c.control.kept (length c.control.kept - 1) (record { place = 0; server = 0 })

-- WHAT IS SAID

-- the message that the handover waits to hear the answer of
abbrev pub awaited_of : ℕ → Handover → Link → List Sent
awaited_of b Idle n = []
awaited_of b (AwaitStood l) n = record { to = Server l.server; note = Say (Stand b l.place (Some n)) } ∷ []
awaited_of b (AwaitTold l) n = record { to = Server n.server; note = Say (Behind b n.place l) } ∷ []

abbrev pub awaited : ℕ → Charge → List Sent
awaited b c = awaited_of b c.control.handover (newest c)

abbrev pub door_to : ℕ → Link → ℕ → Sent
door_to b l d = record { to = Balancer d; note = Say (Door b l) }

-- each balancer that has not answered is told of the newest place
abbrev pub doors : ℕ → Charge → List Sent
doors b c = map (door_to b (newest c)) c.untold

-- A HANDOVER BEGINS

abbrev pub with_control : Control → Charge → Charge
with_control k c = record { control = k; age = 0; untold = c.untold; untold_age = c.untold_age; reported = false }

-- put off: the operator hears of it once
abbrev pub put_off : ℕ → Charge → List Sent × Charge
put_off b c =
    (cond c.reported [] (record { to = Operator; note = PutOff b } ∷ []), record { control = c.control; age = c.age; untold = c.untold; untold_age = c.untold_age; reported = true })

abbrev pub started_with : ℕ → Charge → Result Link Fault × Control → List Sent × Charge
started_with b c (Ok l, k) = (awaited b (with_control k c), with_control k c)
started_with b c (Err f, k) = put_off b c

abbrev pub begun_in : ℕ → ℕ → Handover → Charge → List Sent × Charge
begun_in b server Idle c = cond ((newest c).server == server) ([], record { control = c.control; age = c.age; untold = c.untold; untold_age = c.untold_age; reported = false }) (started_with b c (chains.begins server c.control))
begun_in b server (AwaitStood l) c = ([], c)
begun_in b server (AwaitTold l) c = ([], c)

-- where no handover is in progress and the newest place is not at the assigned server, one begins there, or is put off
abbrev pub begun : ℕ → ℕ → Charge → List Sent × Charge
begun b server c = begun_in b server c.control.handover c

-- ANSWERS

abbrev pub stood_with : ℕ → Charge → Option Link × Control → List Sent × Charge
stood_with b c (None, k) = ([], c)
stood_with b c (Some l, k) =
    (awaited b (record { control = k; age = 0; untold = c.untold; untold_age = c.untold_age; reported = c.reported }), record { control = k; age = 0; untold = c.untold; untold_age = c.untold_age; reported = c.reported })

-- place n answered that it stands: the newest is told of it, if that was waited for
abbrev pub stood : ℕ → ℕ → Charge → List Sent × Charge
stood b n c = stood_with b c (chains.hears_stood n c.control)

abbrev pub also : List Sent → List Sent × Charge → List Sent × Charge
also out p = (out ++ p.0, p.1)

abbrev pub told_with : ℕ → ℕ → List ℕ → Charge → Bool × Control → List Sent × Charge
told_with b server all c (false, k) = ([], c)
told_with b server all c (true, k) =
    also (doors b (record { control = k; age = 0; untold = all; untold_age = 0; reported = c.reported })) (begun b server (record { control = k; age = 0; untold = all; untold_age = 0; reported = c.reported }))

-- place n answered that it was told of a: if that was waited for, the handover is done, every balancer is told, and the next one may begin; all: the balancers
abbrev pub told : ℕ → ℕ → List ℕ → ℕ → Link → Charge → List Sent × Charge
told b server all n a c = told_with b server all c (chains.hears_told n a c.control)

unfoldable pub without_balancer : ℕ → List ℕ → List ℕ
without_balancer d [] = []
without_balancer d (x ∷ xs) = cond (d == x) xs (x ∷ without_balancer d xs)

-- balancer d answered that it heard of l; an answer about an older place is late, and changes nothing
abbrev pub heard : ℕ → Link → Charge → Charge
heard d l c =
    cond (same_link l (newest c)) (record { control = c.control; age = c.age; untold = without_balancer d c.untold; untold_age = c.untold_age; reported = c.reported }) c

-- FORGETTING

abbrev pub forgotten_with : ℕ → ℕ → Charge → Bool × Control → Option (List Sent × Charge)
forgotten_with b server c (false, k) = None
forgotten_with b server c (true, k) = Some (begun b server (record { control = k; age = c.age; untold = c.untold; untold_age = c.untold_age; reported = c.reported }))

-- place n is forgotten: all up to it leave the chain, which may make room for a handover; none where no newer place is kept, and that is not answered
abbrev pub forgotten : ℕ → ℕ → ℕ → Charge → Option (List Sent × Charge)
forgotten b server n c = forgotten_with b server c (chains.hears_forgotten n c.control)

-- TICKS

-- what is to be said again after so many ticks
abbrev pub due : ℕ → ℕ → Charge → List Sent
due b ticks c = cond (is_due ticks c.age) (awaited b c) [] ++ cond (is_due ticks c.untold_age) (doors b c) []

abbrev pub passed : ℕ → Charge → Charge
passed ticks c = record { control = c.control; age = aged ticks c.age; untold = c.untold; untold_age = aged ticks c.untold_age; reported = c.reported }
