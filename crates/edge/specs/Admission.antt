-- Which machine takes what from whom, and who gets a refusal. Assumes nothing.
use Rattle.std.specs.Prelude.{◌≡◌, ℕ, Bool, true, false, cond, ◌||◌, List, [], ◌∷◌, take, Err, Result, ◌==◌, slice_index}
use Rattle.fault.specs.declared.Fault.{Fault}
use Rattle.fault.specs.declared.Fault.TheVariants.{Malformed, NoSuch, BadPacket, UnknownPlace, WrongBucket, WrongAsker, ServerFull, Contradiction, NoServer, ChainFull}
use Rattle.fault.specs.declared.Error.{Error}
use Rattle.fault.specs.declared.Error.TheVariants.{Of, Memory}
use Rattle.fault.specs.declared.Refusal.{Refusal}
use Rattle.fault.specs.declared.Refusal.TheVariants.{For}
use Rattle.wire.specs.Formats.{among}
use Rattle.wire.specs.Meant.{Back}
use Rattle.machine.specs.declared.name.Machine.{Machine}
use Rattle.machine.specs.declared.name.Machine.TheVariants.{Client, Operator, Balancer, Server, Controller}
use Rattle.machine.specs.declared.sent.Sent.{Sent}
use Rattle.machine.specs.Notes.{meant_by}
use Rattle.edge.specs.declared.sort.Role.{Role}
use Rattle.edge.specs.declared.sort.Role.TheVariants as role
use Rattle.edge.specs.Posts.{Mail, mail, Sends}

-- the kinds that a machine takes, by who hands them over; what a client hands over is no message
abbrev pub kinds : Role → Machine → List ℕ
kinds role.Balancer Client = []
kinds role.Balancer Operator = 10 ∷ []
kinds role.Balancer (Balancer d) = []
kinds role.Balancer (Server s) = 4 ∷ []
kinds role.Balancer Controller = 4 ∷ []
kinds role.Server Client = []
kinds role.Server Operator = 7 ∷ 10 ∷ []
kinds role.Server (Balancer d) = 1 ∷ 2 ∷ 3 ∷ 5 ∷ 37 ∷ []
kinds role.Server (Server s) = 1 ∷ 2 ∷ 3 ∷ 5 ∷ 37 ∷ []
kinds role.Server Controller = 1 ∷ 2 ∷ 3 ∷ 5 ∷ 37 ∷ []
kinds role.Controller Client = []
kinds role.Controller Operator = 8 ∷ 9 ∷ 10 ∷ []
kinds role.Controller (Balancer d) = 5 ∷ 34 ∷ 35 ∷ 36 ∷ []
kinds role.Controller (Server s) = 5 ∷ 34 ∷ 35 ∷ 36 ∷ []
kinds role.Controller Controller = 5 ∷ 34 ∷ 35 ∷ 36 ∷ []

-- the kind of what came; of nothing at all, one that nobody takes
abbrev pub kind_in : List ℕ → ℕ
kind_in bs = slice_index bs 0

abbrev pub takes : Role → Machine → ℕ → Bool
takes r from kind = among kind (kinds r from)

-- a refusal and an answer are never answered, so that no two machines refuse each other for ever
abbrev pub is_final : Machine → ℕ → Bool
is_final Client kind = false
is_final Operator kind = among kind (6 ∷ 34 ∷ 35 ∷ 36 ∷ 37 ∷ [])
is_final (Balancer d) kind = among kind (6 ∷ 34 ∷ 35 ∷ 36 ∷ 37 ∷ [])
is_final (Server s) kind = among kind (6 ∷ 34 ∷ 35 ∷ 36 ∷ 37 ∷ [])
is_final Controller kind = among kind (6 ∷ 34 ∷ 35 ∷ 36 ∷ 37 ∷ [])

-- a packet goes back to the client, whichever machine handed it over; anything else to whoever handed it over
abbrev pub back_to : Machine → ℕ → Machine
back_to from kind = cond (kind == 1) Client from

-- what came for an unknown place is as if lost
abbrev pub is_lost : Fault → Bool
is_lost Malformed = false
is_lost NoSuch = false
is_lost BadPacket = false
is_lost UnknownPlace = true
is_lost WrongBucket = false
is_lost WrongAsker = false
is_lost ServerFull = false
is_lost Contradiction = false
is_lost NoServer = false
is_lost ChainFull = false

-- bytes go back, as many as a refusal can hold
abbrev pub sent_back : Machine → Refusal → List ℕ → Mail
sent_back to why bs = mail to (Back why (take 65535 bs))

-- what a machine sends when it refuses the bytes that somebody handed over
abbrev pub refusal : Machine → Fault → List ℕ → List Mail
refusal from f bs = cond (is_lost f || is_final from (kind_in bs)) [] (sent_back (back_to from (kind_in bs)) (For f) bs ∷ [])

-- what becomes of bytes where a step was stopped: a fault is answered, and want of memory told
abbrev pub Stops : Machine → List ℕ → Error → Result (Unit {0}) Error → List Mail → List Mail → Type 0
Stops from bs (Of f) r was after = Sends (refusal from f bs) r was after
Stops from bs Memory r was after = (r ≡ Err Memory) × (after ≡ was)

-- what a step sends
abbrev pub mail_in : Sent → Mail
mail_in s = mail s.to (meant_by s.note)
