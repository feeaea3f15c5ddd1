-- What the controller keeps of one bucket's chain, and how a handover goes on. Assumes nothing.
use Rattle.std.specs.Prelude.{ℕ, ◌+◌, Bool, true, false, cond, ◌&&◌, List, [], ◌∷◌, length, Some, None, Ok, Err, Option, Result, ◌==◌, nat_lt}
use Rattle.fault.specs.declared.Fault.{Fault}
use Rattle.fault.specs.declared.Fault.TheVariants.{Contradiction, ChainFull}
use Rattle.chain.specs.declared.way.Link.{Link}
use Rattle.chain.specs.declared.handover.Handover.{Handover}
use Rattle.chain.specs.declared.handover.Handover.TheVariants.{Idle, AwaitStood, AwaitTold}
use Rattle.chain.specs.Ways.{same_link}

-- kept: the places of the chain, newest first
pub record Control : Type 0 where
  pub kept : List Link
  pub handover : Handover

abbrev pub newest_of : List Link → Link
newest_of [] = record { place = 0; server = 0 }
newest_of (l ∷ ls) = l

-- at the start place 1 stands at one server
abbrev pub first_control : ℕ → Control
first_control server = record { kept = record { place = 1; server = server } ∷ []; handover = Idle }

-- the new place is told to stand
abbrev pub began : Link → Control → Control
began l c = record { kept = c.kept; handover = AwaitStood l }

-- numbers rise and are never given again: the next one after the newest
abbrev pub next_at : ℕ → List Link → Link
next_at server ls = record { place = (newest_of ls).place + 1; server = server }

-- is there room for one more place, and a number for it?
abbrev pub has_room : List Link → Bool
has_room ls = nat_lt (length ls) 8 && nat_lt (newest_of ls).place 4294967295

abbrev pub begins_in : Handover → ℕ → Control → Result Link Fault × Control
begins_in Idle server c = cond (has_room c.kept) (Ok (next_at server c.kept), began (next_at server c.kept) c) (Err ChainFull, c)
begins_in (AwaitStood l) server c = (Err Contradiction, c)
begins_in (AwaitTold l) server c = (Err Contradiction, c)

-- a handover to a server begins; a ninth place is refused, and so is a second handover before the first is done
abbrev pub begins : ℕ → Control → Result Link Fault × Control
begins server c = begins_in c.handover server c

abbrev pub stood_in : Handover → ℕ → Control → Option Link × Control
stood_in Idle n c = (None, c)
stood_in (AwaitStood l) n c = cond (n == l.place) (Some l, record { kept = c.kept; handover = AwaitTold l }) (None, c)
stood_in (AwaitTold l) n c = (None, c)

-- place n answered that it stands: of whom the newest is to be told now, if the answer was waited for
abbrev pub hears_stood : ℕ → Control → Option Link × Control
hears_stood n c = stood_in c.handover n c

abbrev pub told_in : Handover → ℕ → Link → Control → Bool × Control
told_in Idle n a c = (false, c)
told_in (AwaitStood l) n a c = (false, c)
told_in (AwaitTold l) n a c = cond (n == (newest_of c.kept).place && same_link a l) (true, record { kept = l ∷ c.kept; handover = Idle }) (false, c)

-- place n answered that it was told of a: the handover is done, if that was waited for
abbrev pub hears_told : ℕ → Link → Control → Bool × Control
hears_told n a c = told_in c.handover n a c

-- from the newest down, those above n (numbers fall in the list)
unfoldable pub above : ℕ → List Link → List Link
above n [] = []
above n (l ∷ ls) = cond (nat_lt n l.place) (l ∷ above n ls) []

-- place n is forgotten: all up to it leave the chain, and that is answered; but not if no newer one is in it
abbrev pub hears_forgotten : ℕ → Control → Bool × Control
hears_forgotten n c = cond (nat_lt n (newest_of c.kept).place) (true, record { kept = above n c.kept; handover = c.handover }) (false, c)
