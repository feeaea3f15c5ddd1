-- The numbers of faults and refusals, as messages and output have them. Assumes nothing.
use Rattle.std.specs.Prelude.{ℕ, cond, Some, None, Option, ◌==◌}
use Rattle.fault.specs.declared.Fault.{Fault}
use Rattle.fault.specs.declared.Fault.TheVariants.{Malformed, NoSuch, BadPacket, UnknownPlace, WrongBucket, WrongAsker, ServerFull, Contradiction, NoServer, ChainFull}
use Rattle.fault.specs.declared.Refusal.{Refusal}
use Rattle.fault.specs.declared.Refusal.TheVariants.{Nobody, For}

abbrev pub fault_number : Fault → ℕ
fault_number Malformed = 1
fault_number NoSuch = 2
fault_number BadPacket = 3
fault_number UnknownPlace = 4
fault_number WrongBucket = 5
fault_number WrongAsker = 6
fault_number ServerFull = 7
fault_number Contradiction = 8
fault_number NoServer = 9
fault_number ChainFull = 10

-- 0: nobody has the session
abbrev pub refusal_number : Refusal → ℕ
refusal_number Nobody = 0
refusal_number (For f) = fault_number f

abbrev first_of : ℕ → Fault → Option Refusal → Option Refusal
first_of n f rest = cond (n == fault_number f) (Some (For f)) rest

-- the refusal that has the number n
abbrev pub refusal_of : ℕ → Option Refusal
refusal_of n =
    cond (n == 0) (Some Nobody)
    (first_of n Malformed (first_of n NoSuch (first_of n BadPacket (first_of n UnknownPlace (first_of n WrongBucket
    (first_of n WrongAsker (first_of n ServerFull (first_of n Contradiction (first_of n NoServer (first_of n ChainFull None))))))))))
