-- What one server keeps of one bucket, and what each message about it does. The rules of its places are those of `places`. Assumes nothing.
use Rattle.std.specs.Prelude.{ℕ, Bool, true, false, cond, ◌&&◌, ◌||◌, List, [], ◌∷◌, ◌++◌, map, take, Some, None, Ok, Err, Option, Result, ◌==◌}
use Rattle.fault.specs.declared.Fault.{Fault}
use Rattle.chain.specs.declared.way.Link.{Link}
use Rattle.chain.specs.Ways.{same_link}
use Rattle.places.specs.Rules as place
use Rattle.places.specs.Rules.{Known, nowhere, first_of}
use Rattle.wire.specs.declared.message.Control.TheVariants.{Forgotten}
use Rattle.machine.specs.declared.name.Machine.{Machine}
use Rattle.machine.specs.declared.name.Machine.TheVariants.{Client, Operator, Balancer, Server, Controller}
use Rattle.machine.specs.declared.sent.Note.TheVariants.{Say}
use Rattle.machine.specs.declared.sent.Sent.{Sent}
use Rattle.machine.specs.Again.{is_due, aged}
use Rattle.server_bucket.specs.declared.farewell.Farewell.{Farewell}

-- known: its places. farewells: the forgotten places of which it still speaks, the newest first
pub record Holding : Type 0 where
  pub known : Known
  pub farewells : List Farewell

-- a bucket that this server never had
abbrev pub unheld : Holding
unheld = record { known = nowhere; farewells = [] }

-- at the start: place 1 of the bucket stands at this server
abbrev pub held_first : ℕ → Holding
held_first server = record { known = first_of server; farewells = [] }

-- FORGETTING

abbrev pub farewell_of : ℕ → Link → Farewell
farewell_of n a = record { place = n; after = a; awaits_after = true; awaits_controller = true; age = 0 }

-- place n is forgotten now, and a is the one after it: the oldest of more than sixteen farewells counts as answered
abbrev pub departs : ℕ → List Farewell → Option Link × Known → Option Link × Holding
departs n fs (Some a, k) = (Some a, record { known = k; farewells = farewell_of n a ∷ take 15 fs })
departs n fs (None, k) = (None, record { known = k; farewells = fs })

-- place n is forgotten, if it may be; empty: no session is open in it. Then the place after it, of which is to be told
abbrev pub emptied : ℕ → Bool → Holding → Option Link × Holding
emptied n empty h = departs n h.farewells (place.retire n empty h.known)

-- MESSAGES

abbrev pub only : List Farewell → Result (Unit {0}) Fault × Known → Result (Unit {0}) Fault × Holding
only fs p = (p.0, record { known = p.1; farewells = fs })

-- told to stand in place l
abbrev pub stand : Link → Option Link → Holding → Result (Unit {0}) Fault × Holding
stand l before h = only h.farewells (place.stand l before h.known)

abbrev pub answered_with : Option Link × Holding → Result (Option Link) Fault × Holding
answered_with p = (Ok p.0, p.1)

abbrev pub then_emptied : ℕ → Bool → List Farewell → Result (Unit {0}) Fault × Known → Result (Option Link) Fault × Holding
then_emptied n empty fs (Ok u, k) = answered_with (emptied n empty (record { known = k; farewells = fs }))
then_emptied n empty fs (Err f, k) = (Err f, record { known = k; farewells = fs })

-- place n is told of the one behind it, and may be forgotten by that
abbrev pub behind : ℕ → Link → Bool → Holding → Result (Option Link) Fault × Holding
behind n after empty h = then_emptied n empty h.farewells (place.behind n after h.known)

-- place n is told that place `gone`, before it, is forgotten, and may be forgotten by that
abbrev pub freed : ℕ → ℕ → Bool → Holding → Result (Option Link) Fault × Holding
freed n gone empty h = then_emptied n empty h.farewells (place.freed n gone h.known)

-- ANSWERS

-- what is still awaited when `by` has answered
abbrev pub less_awaited : Machine → Farewell → Farewell
less_awaited Client f = f
less_awaited Operator f = f
less_awaited (Balancer d) f = f
less_awaited (Server s) f = record { place = f.place; after = f.after; awaits_after = cond (s == f.after.server) false f.awaits_after; awaits_controller = f.awaits_controller; age = f.age }
less_awaited Controller f = record { place = f.place; after = f.after; awaits_after = f.awaits_after; awaits_controller = false; age = f.age }

-- a farewell with both its answers is done
abbrev pub still_awaited : Farewell → List Farewell → List Farewell
still_awaited f fs = cond (f.awaits_after || f.awaits_controller) (f ∷ fs) fs

unfoldable pub answered_in : ℕ → Link → Machine → List Farewell → List Farewell
answered_in n a by [] = []
answered_in n a by (f ∷ fs) = cond (n == f.place && same_link a f.after) (still_awaited (less_awaited by f) fs) (f ∷ answered_in n a by fs)

-- `by` answers that it heard that place n is forgotten and a is the one after it; what fits nothing is ignored
abbrev pub answered : ℕ → Link → Machine → Holding → Holding
answered n a by h = record { known = h.known; farewells = answered_in n a by h.farewells }

-- WHAT IS SAID

-- to whoever has not answered yet
abbrev pub says : ℕ → Farewell → List Sent
says b f =
    cond f.awaits_after (record { to = Server f.after.server; note = Say (Forgotten b f.place f.after) } ∷ []) []
    ++ cond f.awaits_controller (record { to = Controller; note = Say (Forgotten b f.place f.after) } ∷ []) []

-- when place n is forgotten, with the place after it
abbrev pub tells : ℕ → ℕ → Option Link → List Sent
tells b n None = []
tells b n (Some a) = says b (farewell_of n a)

unfoldable pub due_in : ℕ → ℕ → List Farewell → List Sent
due_in b ticks [] = []
due_in b ticks (f ∷ fs) = cond (is_due ticks f.age) (says b f) [] ++ due_in b ticks fs

-- what is to be said again after so many ticks, of bucket b
abbrev pub due : ℕ → ℕ → Holding → List Sent
due b ticks h = due_in b ticks h.farewells

abbrev pub older : ℕ → Farewell → Farewell
older ticks f = record { place = f.place; after = f.after; awaits_after = f.awaits_after; awaits_controller = f.awaits_controller; age = aged ticks f.age }

abbrev pub passed : ℕ → Holding → Holding
passed ticks h = record { known = h.known; farewells = map (older ticks) h.farewells }
