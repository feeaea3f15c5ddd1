-- What the controller does with bytes, whoever hands them over. Its rules are those of `controller`, the bytes' are those of `edge`. Assumes nothing.
use Rattle.std.specs.Prelude.{◌≡◌, ℕ, ◌+◌, ◌^◌, cond, ◌⊎◌, List, ◌++◌, map, length, Ok, Err, Result, nat_lt}
use Rattle.fault.specs.declared.Fault.{Fault}
use Rattle.fault.specs.declared.Fault.TheVariants.{Malformed, NoSuch}
use Rattle.fault.specs.declared.Error.{Error}
use Rattle.fault.specs.declared.Error.TheVariants.{Of, Memory}
use Rattle.wire.specs.declared.message.Order.{Order}
use Rattle.wire.specs.declared.message.Order.TheVariants as order
use Rattle.machine.specs.declared.name.Machine.{Machine}
use Rattle.machine.specs.declared.sent.Sent.{Sent}
use Rattle.edge.specs.declared.sort.Role.TheVariants as role
use Rattle.edge.specs.Posts.{Mail}
use Rattle.edge.specs.Admission.{refusal, mail_in}
use Rattle.edge.specs.Sorts.{Sort, Outside, Carries, Tells, Answers, Orders, Refuses, sort}
use Rattle.controller.specs.Rules.{Ruling, told, heard, adds, removes, ticked}

-- what is sent is posted; a fault is answered, and nothing changes
abbrev pub posting : Machine → List ℕ → Ruling → Result (List Sent × Ruling) Fault → List Mail × Ruling
posting from bs k (Ok p) = (map mail_in p.0, p.1)
posting from bs k (Err f) = (refusal from f bs, k)

-- so many ticks pass; a clock of 64 bits does not wrap
abbrev pub clocked : ℕ → Ruling → Result (List Sent × Ruling) Fault
clocked n k = cond (nat_lt (k.tick + n) (2 ^ 64)) (Ok (ticked n k)) (Err NoSuch)

-- sessions are closed by servers
abbrev pub ordered : Ruling → Order → Result (List Sent × Ruling) Fault
ordered k (order.Closed flow) = Err Malformed
ordered k (order.Added s) = adds s k
ordered k (order.Removed s) = removes s k
ordered k (order.Ticks n) = clocked n k

-- what a controller does, by what the bytes are to it; packets are not for it
abbrev pub stepped : Machine → Ruling → Sort → Result (List Sent × Ruling) Fault
stepped from k Outside = Err Malformed
stepped from k (Carries h flow packet) = Err Malformed
stepped from k (Tells c) = told from c k
stepped from k (Answers c) = Ok (heard from c k)
stepped from k (Orders o) = ordered k o
stepped from k (Refuses u) = Err u.fault

-- what is posted, and what is left of the controller, when bytes come from a machine
abbrev pub hears_bytes : Machine → List ℕ → Ruling → List Mail × Ruling
hears_bytes from bs k = posting from bs k (stepped from k (sort role.Controller from (length k.charges) bs))

-- THE CODE

-- a step in full. Where memory is short nothing was posted, and the controller is as before, or as after the step: then it is as if what it says were lost
abbrev pub Hears : List Mail × Ruling → Result (Unit {0}) Error → Ruling → Ruling → List Mail → List Mail → Type 0
Hears p (Ok u) k k' out out' = (k' ≡ p.1) × (out' ≡ out ++ p.0)
Hears p (Err Memory) k k' out out' = (out' ≡ out) × ((k' ≡ k) ⊎ (k' ≡ p.1))
Hears p (Err (Of f)) k k' out out' = ⊥
