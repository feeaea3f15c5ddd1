-- The rules of one place: what it does with a packet, and with each message about it. Assumes nothing.
use Rattle.std.specs.Prelude.{ℕ, Bool, true, false, cond, Some, None, Ok, Err, Option, Result, ◌==◌, nat_lt}
use Rattle.fault.specs.declared.Fault.{Fault}
use Rattle.fault.specs.declared.Fault.TheVariants.{UnknownPlace, WrongAsker, ServerFull, Contradiction}
use Rattle.fault.specs.declared.Refusal.TheVariants.{Nobody, For}
use Rattle.chain.specs.declared.way.Link.{Link}
use Rattle.chain.specs.declared.way.Way.{Way}
use Rattle.chain.specs.declared.way.Way.TheVariants.{Up, Down, Asked}
use Rattle.chain.specs.declared.way.Packet.{Packet}
use Rattle.chain.specs.declared.place.Standing.{Standing}
use Rattle.chain.specs.declared.place.Standing.TheVariants.{Never, Stands, Forgotten}
use Rattle.chain.specs.declared.place.Place.{Place}
use Rattle.chain.specs.declared.place.Entry.{Entry}
use Rattle.chain.specs.declared.place.Entry.TheVariants.{Open, Vacant, Full}
use Rattle.chain.specs.declared.place.Outcome.{Outcome}
use Rattle.chain.specs.declared.place.Outcome.TheVariants.{Delivered, Opened, Forwarded, Refused, Dropped}
use Rattle.chain.specs.Ways.{same_link}

-- A PACKET AT A PLACE

-- nobody has the session: a packet that may open goes back to who began to ask, another is refused
abbrev pub nobody_has : Link → Bool → Outcome
nobody_has by opens = cond opens (Forwarded by (Asked by)) (Refused Nobody)

-- down: on to the place before, if there is one
abbrev pub ask_below : Link → Bool → Option Link → Outcome
ask_below by opens (Some b) = Forwarded b (Down by)
ask_below by opens None = nobody_has by opens

-- back at who began to ask, with no place after it: the session is opened here, if there is room
abbrev pub opens_here : Entry → Outcome
opens_here Open = Delivered
opens_here Vacant = Opened
opens_here Full = Refused (For ServerFull)

-- at a place that stands and where the session is not open: by the packet's way, the place before and the place after
abbrev pub seek : Link → Packet → Way → Option Link → Option Link → Entry → Outcome
seek here p Up b (Some a) e = Forwarded a Up
seek here p Up b None e = ask_below here p.opens b
seek here p (Down by) b a e = ask_below by p.opens b
seek here p (Asked by) b (Some a) e = Forwarded a Up
seek here p (Asked by) b None e = opens_here e

abbrev pub stands_with : Link → Packet → Option Link → Option Link → Entry → Outcome
stands_with here p b a Open = Delivered
stands_with here p b a Vacant = seek here p p.way b a Vacant
stands_with here p b a Full = seek here p p.way b a Full

-- at a forgotten place
abbrev pub leaves : Packet → Way → Link → Outcome
leaves p Up a = Forwarded a Up
leaves p (Down by) a = nobody_has by p.opens
leaves p (Asked by) a = Forwarded a Up

-- asked, but elsewhere than at who began to ask, or a packet that may not open
abbrev pub strays : ℕ → Bool → Way → Bool
strays here opens Up = false
strays here opens (Down by) = false
strays here opens (Asked by) = cond (by.place == here) (cond opens false true) true

abbrev pub handle_at : Link → Packet → Standing → Entry → Outcome
handle_at here p Never e = Dropped
handle_at here p (Stands b a) e = cond (strays here.place p.opens p.way) (Refused (For WrongAsker)) (stands_with here p b a e)
handle_at here p (Forgotten a) e = cond (strays here.place p.opens p.way) (Refused (For WrongAsker)) (leaves p p.way a)

-- THE RULE: what becomes of a packet at a place
abbrev pub handle : Place → Packet → Entry → Outcome
handle x p e = handle_at x.link p x.standing e

-- MESSAGES AT A PLACE

abbrev pub placed : Link → Result Standing Fault → Result Place Fault
placed here (Ok x) = Ok (record { link = here; standing = x })
placed here (Err f) = Err f

-- the place before, if there is one, has a lower number
abbrev pub below : ℕ → Option Link → Bool
below n None = true
below n (Some b) = nat_lt b.place n

-- what is said of the place before, beside what is known: one that was forgotten since contradicts nothing
abbrev pub agrees_before : Option Link → Option Link → Bool
agrees_before said None = true
agrees_before None (Some b) = false
agrees_before (Some a) (Some b) = same_link a b

abbrev pub stood : Option Link → Standing → Result Standing Fault
stood said Never = Ok (Stands said None)
stood said (Stands b a) = cond (agrees_before said b) (Ok (Stands b a)) (Err Contradiction)
stood said (Forgotten a) = Ok (Forgotten a)

-- told to stand behind `said`
abbrev pub told_to_stand : Option Link → Place → Result Place Fault
told_to_stand said x = cond (below x.link.place said) (placed x.link (stood said x.standing)) (Err Contradiction)

abbrev pub agrees_after : Link → Link → Standing → Result Standing Fault
agrees_after said known x = cond (same_link said known) (Ok x) (Err Contradiction)

abbrev pub followed : ℕ → Link → Standing → Result Standing Fault
followed n said Never = Err UnknownPlace
followed n said (Stands b None) = cond (nat_lt n said.place) (Ok (Stands b (Some said))) (Err Contradiction)
followed n said (Stands b (Some a)) = cond (nat_lt n said.place) (agrees_after said a (Stands b (Some a))) (Err Contradiction)
followed n said (Forgotten a) = cond (nat_lt n said.place) (agrees_after said a (Forgotten a)) (Err Contradiction)

-- told that `said` is behind it: written once, and then only the same is answered
abbrev pub told_behind : Link → Place → Result Place Fault
told_behind said x = placed x.link (followed x.link.place said x.standing)

abbrev pub freed : ℕ → Standing → Result Standing Fault
freed n Never = Err UnknownPlace
freed n (Stands None a) = Ok (Stands None a)
freed n (Stands (Some b) a) = cond (b.place == n) (Ok (Stands None a)) (Err Contradiction)
freed n (Forgotten a) = Ok (Forgotten a)

-- told that place n, before it, is forgotten
abbrev pub told_forgotten : ℕ → Place → Result Place Fault
told_forgotten n x = placed x.link (freed n x.standing)

abbrev pub gone : Bool → Standing → Option Standing
gone empty Never = None
gone empty (Stands None None) = None
gone empty (Stands None (Some a)) = cond empty (Some (Forgotten a)) None
gone empty (Stands (Some b) a) = None
gone empty (Forgotten a) = None

abbrev pub replaced : Link → Option Standing → Option Place
replaced here (Some x) = Some (record { link = here; standing = x })
replaced here None = None

-- the oldest place may be forgotten when no session is open in it and it is not the newest
abbrev pub forgets : Bool → Place → Option Place
forgets empty x = replaced x.link (gone empty x.standing)
