-- What the controller does with each message and order. The rules of one bucket are those of `controller_bucket`, the assignment's are `assignment`'s. Assumes nothing.
use Rattle.std.specs.Prelude.{ℕ, zero, suc, ◌+◌, Bool, false, cond, not, ◌&&◌, ◌||◌, List, [], ◌∷◌, ◌++◌, map, length, replicate, Some, None, Ok, Err, Option, Result, ◌==◌, nat_le, nat_lt, slice_index, slice_index_or, slice_set}
use Rattle.std.specs.List.{list_any}
use Rattle.fault.specs.declared.Fault.{Fault}
use Rattle.fault.specs.declared.Fault.TheVariants.{Malformed, NoSuch}
use Rattle.chain.specs.declared.way.Link.{Link}
use Rattle.chain.specs.declared.handover.Handover.{Handover}
use Rattle.chain.specs.declared.handover.Handover.TheVariants.{Idle, AwaitStood, AwaitTold}
use Rattle.assignment.specs.Rule.{answered}
use Rattle.roster.specs.Listing.{with_server, without_server}
pub use Rattle.wire.specs.Controls.{bucket_in}
use Rattle.wire.specs.declared.message.Control.{Control}
use Rattle.wire.specs.declared.message.Control.TheVariants as control
use Rattle.machine.specs.declared.name.Machine.{Machine}
use Rattle.machine.specs.declared.name.Machine.TheVariants.{Client, Operator, Balancer, Server, Controller}
use Rattle.machine.specs.declared.sent.Note.TheVariants.{Answer}
use Rattle.machine.specs.declared.sent.Sent.{Sent}
use Rattle.controller_bucket.specs.Rules as bucket
use Rattle.controller_bucket.specs.Rules.{Charge, charge_first}

-- servers: those listed, rising. assignment: the server of each bucket. charges: what it keeps of each bucket. balancers: how many there are.
-- tick: its clock. parted: for each server the tick at which it last left a chain
pub record Ruling : Type 0 where
  pub servers : List ℕ
  pub assignment : List ℕ
  pub charges : List Charge
  pub balancers : ℕ
  pub tick : ℕ
  pub parted : List ℕ

abbrev pub charge_at : ℕ → Ruling → Charge
charge_at b k = slice_index_or k.charges b (charge_first 0)

abbrev pub assigned_at : ℕ → Ruling → ℕ
assigned_at b k = slice_index k.assignment b

abbrev pub is_bucket : ℕ → Ruling → Bool
is_bucket b k = nat_lt b (length k.charges)

-- the numbers from n on, so many
unfoldable pub up_from : ℕ → ℕ → List ℕ
up_from n zero = []
up_from n (suc more) = n ∷ up_from (suc n) more

abbrev pub all_balancers : Ruling → List ℕ
all_balancers k = up_from 0 k.balancers

-- THE START

-- at the start place 1 of each bucket stands at its server
abbrev pub ruling_first : List ℕ → List ℕ → ℕ → Ruling
ruling_first servers assignment balancers =
    record { servers = servers; assignment = assignment; charges = map charge_first assignment; balancers = balancers; tick = 0; parted = replicate 256 0 }

-- MESSAGES

-- bucket b is as c from now on
abbrev pub rules : ℕ → Charge → Ruling → Ruling
rules b c k = record { servers = k.servers; assignment = k.assignment; charges = slice_set k.charges b c; balancers = k.balancers; tick = k.tick; parted = k.parted }

-- the servers of the links up to place n left a chain at the tick
unfoldable pub parted_at : ℕ → ℕ → List Link → List ℕ → List ℕ
parted_at tick n [] ps = ps
parted_at tick n (l ∷ ls) ps = parted_at tick n ls (cond (nat_le l.place n) (slice_set ps l.server tick) ps)

abbrev pub parts : ℕ → ℕ → Ruling → Ruling
parts b n k = record {
  servers = k.servers;
  assignment = k.assignment;
  charges = k.charges;
  balancers = k.balancers;
  tick = k.tick;
  parted = parted_at k.tick n (charge_at b k).control.kept k.parted;
}

abbrev pub forgotten_as : Machine → Control → ℕ → ℕ → Ruling → Option (List Sent × Charge) → List Sent × Ruling
forgotten_as from c b n k None = ([], k)
forgotten_as from c b n k (Some (out, x)) = (record { to = from; note = Answer c } ∷ out, rules b x (parts b n k))

-- place n of bucket b is forgotten
abbrev pub forgets : Machine → Control → ℕ → ℕ → Ruling → List Sent × Ruling
forgets from c b n k = forgotten_as from c b n k (bucket.forgotten b (assigned_at b k) n (charge_at b k))

abbrev pub told_of : Machine → Control → Control → Ruling → Result (List Sent × Ruling) Fault
told_of from c (control.Stand b n before) k = Err Malformed
told_of from c (control.Behind b n a) k = Err Malformed
told_of from c (control.Door b l) k = Err Malformed
told_of from c (control.Forgotten b n a) k = Ok (forgets from c b n k)

-- told by a machine: what it sends, and what is left of it; or the fault, and nothing changes
abbrev pub told : Machine → Control → Ruling → Result (List Sent × Ruling) Fault
told from c k = cond (is_bucket (bucket_in c) k) (told_of from c c k) (Err NoSuch)

abbrev pub ruled_by : ℕ → Ruling → List Sent × Charge → List Sent × Ruling
ruled_by b k (out, c) = (out, rules b c k)

-- place n of bucket b answered that it stands
abbrev pub heard_stood : ℕ → ℕ → Ruling → List Sent × Ruling
heard_stood b n k = ruled_by b k (bucket.stood b n (charge_at b k))

-- place n of bucket b answered that it was told of a
abbrev pub heard_told : ℕ → ℕ → Link → Ruling → List Sent × Ruling
heard_told b n a k = ruled_by b k (bucket.told b (assigned_at b k) (all_balancers k) n a (charge_at b k))

-- somebody answered that it heard of l; only balancers are told such a thing
abbrev pub door_heard : Machine → ℕ → Link → Ruling → Ruling
door_heard Client b l k = k
door_heard Operator b l k = k
door_heard (Balancer d) b l k = rules b (bucket.heard d l (charge_at b k)) k
door_heard (Server s) b l k = k
door_heard Controller b l k = k

abbrev pub heard_of : Machine → Control → Ruling → List Sent × Ruling
heard_of from (control.Stand b n before) k = heard_stood b n k
heard_of from (control.Behind b n a) k = heard_told b n a k
heard_of from (control.Door b l) k = ([], door_heard from b l k)
heard_of from (control.Forgotten b n a) k = ([], k)

-- answered by a machine; what fits nothing is ignored
abbrev pub heard : Machine → Control → Ruling → List Sent × Ruling
heard from c k = cond (is_bucket (bucket_in c) k) (heard_of from c k) ([], k)

-- ORDERS

-- of the buckets from b on: each whose newest place is not at its assigned server is handed over
unfoldable pub begun_from : ℕ → List ℕ → List Charge → List Sent × List Charge
begun_from b ns [] = ([], [])
begun_from b [] (c ∷ cs) = ([], c ∷ cs)
begun_from b (a ∷ ns) (c ∷ cs) = ((bucket.begun b a c).0 ++ (begun_from (suc b) ns cs).0, (bucket.begun b a c).1 ∷ (begun_from (suc b) ns cs).1)

abbrev pub reassigned : List ℕ → Ruling → Result (Unit {0}) Fault × List ℕ → Result (List Sent × Ruling) Fault
reassigned ss k (Ok u, ns) =
    Ok ((begun_from 0 ns k.charges).0, record { servers = ss; assignment = ns; charges = (begun_from 0 ns k.charges).1; balancers = k.balancers; tick = k.tick; parted = k.parted })
reassigned ss k (Err f, ns) = Err f

-- the servers are ss from now on
abbrev pub changes : List ℕ → Ruling → Result (List Sent × Ruling) Fault
changes ss k = reassigned ss k (answered ss k.assignment)

-- a server is added; one that is listed changes nothing
abbrev pub adds : ℕ → Ruling → Result (List Sent × Ruling) Fault
adds s k = cond (length (with_server s k.servers) == length k.servers) (Ok ([], k)) (changes (with_server s k.servers) k)

-- a server is removed; one that is not listed, and the last one, are refused
abbrev pub removes : ℕ → Ruling → Result (List Sent × Ruling) Fault
removes s k = cond (length (without_server s k.servers) == length k.servers) (Err NoSuch) (changes (without_server s k.servers) k)

-- what is to be said again after so many ticks, of the buckets from b on
unfoldable pub due_from : ℕ → ℕ → List Charge → List Sent
due_from b ticks [] = []
due_from b ticks (c ∷ cs) = bucket.due b ticks c ++ due_from (suc b) ticks cs

abbrev pub later : ℕ → Ruling → Ruling
later ticks k = record { servers = k.servers; assignment = k.assignment; charges = map (bucket.passed ticks) k.charges; balancers = k.balancers; tick = k.tick + ticks; parted = k.parted }

-- so many ticks pass: what is due is said again
abbrev pub ticked : ℕ → Ruling → List Sent × Ruling
ticked ticks k = (due_from 0 ticks k.charges, later ticks k)

-- SWITCHING OFF

abbrev pub is_among : ℕ → List Link → Bool
is_among s ls = list_any (λ l. l.server == s) ls

-- the server that a handover goes to
abbrev pub goes_to : ℕ → Handover → Bool
goes_to s Idle = false
goes_to s (AwaitStood l) = s == l.server
goes_to s (AwaitTold l) = s == l.server

-- the server is in a chain, or will be
abbrev pub is_in_chain : ℕ → List Charge → Bool
is_in_chain s cs = list_any (λ c. is_among s c.control.kept || goes_to s c.control.handover) cs

abbrev pub is_listed : ℕ → List ℕ → Bool
is_listed s ss = list_any (λ x. x == s) ss

-- a day, in ticks of a 256th of a second
abbrev pub day : ℕ
day = 22118400

-- a server that is not listed, and that no chain has had for a day
abbrev pub is_parted : ℕ → Ruling → Bool
is_parted s k = not (is_listed s k.servers) && (not (is_in_chain s k.charges) && nat_le (slice_index k.parted s + day) k.tick)
