-- The assignment of all buckets as servers come and go. Assumes nothing.
use Rattle.std.specs.Prelude.{◌≡◌, ℕ, List, [], length, replicate, Ok, Err, vec_items, MatchBool, Result, Vec, ◌==◌}
use Rattle.std.specs.declared.alloc.Global.{Global}
use Rattle.fault.specs.declared.Error.{Error}
use Rattle.fault.specs.declared.Error.TheVariants.{Of, Memory}
use Rattle.fault.specs.declared.Fault.TheVariants.{NoSuch}
use Rattle.assignment.specs.declared.moves.Move.{Move}
use Rattle.assignment.specs.Even.{Even, Fewest, Numbered}
use Rattle.assignment.specs.Rule.{rebalanced, answered}
use Rattle.assignment.specs.Moves.{moves_from}
use Rattle.roster.specs.declared.roster.Roster.{Roster}
use Rattle.roster.specs.Listing.{with_server, without_server}

abbrev pub servers_of : Roster → List ℕ
servers_of r = vec_items r.servers

abbrev pub assignment_of : Roster → List ℕ
assignment_of r = vec_items r.assignment

-- buckets that have no server yet
abbrev pub none : ℕ → List ℕ
none n = replicate n 65535

-- of n buckets and the servers ss: the roster from nothing, or the refusal that the rule gives
abbrev pub Begun : ℕ → List ℕ → Result Roster Error → Type 0
Begun n ss (Ok r) = (servers_of r ≡ ss) × (assignment_of r ≡ rebalanced ss (none n)) × Even ss (assignment_of r)
Begun n ss (Err (Of f)) = answered ss (none n) ≡ (Err f, none n)
Begun n ss (Err Memory) = Unit {0}

-- from the roster a to the roster b, whose servers are ss: the buckets that change hands; or the refusal that the rule gives, and then, as for want of memory, nothing changes
abbrev pub Changed : List ℕ → Roster → Roster → Result (Vec Move Global) Error → Type 0
Changed ss a b (Ok v) =
    (servers_of b ≡ ss) × (assignment_of b ≡ rebalanced ss (assignment_of a)) × (vec_items v ≡ moves_from 0 (assignment_of a) (assignment_of b))
    × Even ss (assignment_of b) × Fewest ss (assignment_of a) (assignment_of b)
Changed ss a b (Err (Of f)) = (b ≡ a) × (answered ss (assignment_of a) ≡ (Err f, assignment_of a))
Changed ss a b (Err Memory) = b ≡ a

-- nothing changes, and no bucket changes hands
abbrev pub Stays : Roster → Roster → Result (Vec Move Global) Error → Type 0
Stays a b (Ok v) = (b ≡ a) × (vec_items v ≡ [])
Stays a b (Err (Of f)) = ⊥
Stays a b (Err Memory) = b ≡ a

-- refused, and nothing changes
abbrev pub Unlisted : Roster → Roster → Result (Vec Move Global) Error → Type 0
Unlisted a b (Ok v) = ⊥
Unlisted a b (Err (Of f)) = (b ≡ a) × (f ≡ NoSuch)
Unlisted a b (Err Memory) = b ≡ a

-- s comes; where the list with it is no longer, s is listed
abbrev pub Added : ℕ → Roster → Roster → Result (Vec Move Global) Error → Type 0
Added s a b r = MatchBool (length (with_server s (servers_of a)) == length (servers_of a)) (Stays a b r) (Changed (with_server s (servers_of a)) a b r)

-- s goes; where the list without it is no shorter, s is not listed
abbrev pub Removed : ℕ → Roster → Roster → Result (Vec Move Global) Error → Type 0
Removed s a b r = MatchBool (length (without_server s (servers_of a)) == length (servers_of a)) (Unlisted a b r) (Changed (without_server s (servers_of a)) a b r)

-- what holds beside Changed: each bucket has the number of a server then, and what stands then is the rule's answer
abbrev pub ChangedWhole : List ℕ → Roster → Roster → Result (Vec Move Global) Error → Type 0
ChangedWhole ss a b (Ok v) = Numbered (length (assignment_of a)) (assignment_of b) × (answered ss (assignment_of a) ≡ (Ok tt, assignment_of b))
ChangedWhole ss a b (Err e) = Unit {0}

-- what holds beside Added and beside Removed, where the list changed
abbrev pub AddedWhole : ℕ → Roster → Roster → Result (Vec Move Global) Error → Type 0
AddedWhole s a b r = MatchBool (length (with_server s (servers_of a)) == length (servers_of a)) (Unit {0}) (ChangedWhole (with_server s (servers_of a)) a b r)

abbrev pub RemovedWhole : ℕ → Roster → Roster → Result (Vec Move Global) Error → Type 0
RemovedWhole s a b r = MatchBool (length (without_server s (servers_of a)) == length (servers_of a)) (Unit {0}) (ChangedWhole (without_server s (servers_of a)) a b r)
