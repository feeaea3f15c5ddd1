-- Links, the ways of a packet with their numbers in messages, and what a balancer keeps. Assumes nothing.
use Rattle.std.specs.Prelude.{ℕ, Bool, cond, not, ◌&&◌, Ok, Err, Result, ◌==◌, nat_lt}
use Rattle.fault.specs.declared.Fault.{Fault}
use Rattle.fault.specs.declared.Fault.TheVariants.{Contradiction}
use Rattle.chain.specs.declared.way.Way.{Way}
use Rattle.chain.specs.declared.way.Way.TheVariants.{Up, Down, Asked}
use Rattle.chain.specs.declared.way.Link.{Link}

abbrev pub way_number : Way → ℕ
way_number Up = 1
way_number (Down by) = 2
way_number (Asked by) = 3

abbrev pub same_link : Link → Link → Bool
same_link a b = a.place == b.place && a.server == b.server

-- a balancer that knows `known` is told of `said`: the highest place stays, and one place has one server
abbrev pub heard_link : Link → Link → Result Link Fault
heard_link known said =
    cond (nat_lt known.place said.place) (Ok said) (cond (said.place == known.place && not (said.server == known.server)) (Err Contradiction) (Ok known))
