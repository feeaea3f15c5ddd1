-- How a server begins. Assumes nothing.
use Rattle.std.specs.Prelude.{◌≡◌, ℕ, true, false, List, [], Ok, Err, Result}
use Rattle.fault.specs.declared.Error.{Error}
use Rattle.fault.specs.declared.Error.TheVariants.{Of, Memory}
use Rattle.fault.specs.declared.Fault.TheVariants.{NoSuch}
use Rattle.balancer.specs.Rules.{is_assignment}
use Rattle.server.specs.declared.kept.Server.{Server}
use Rattle.server.specs.Rules.{keeping_first}
use Rattle.server.specs.Kept.{keeping, sessions_of}

-- server n, of B buckets that have these servers; a list that is no assignment is refused
abbrev pub Begins : ℕ → ℕ → List ℕ → Result Server Error → Type 0
Begins n B servers (Ok s) = (is_assignment B servers ≡ true) × (s.buckets.count ≡ B) × (keeping s ≡ keeping_first n servers) × (sessions_of s ≡ [])
Begins n B servers (Err Memory) = is_assignment B servers ≡ true
Begins n B servers (Err (Of f)) = (is_assignment B servers ≡ false) × (f ≡ NoSuch)
