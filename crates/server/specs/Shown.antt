-- What a server shows of what it keeps. Assumes nothing.
use Rattle.std.specs.Prelude.{ℕ, Bool, is_some}
use Rattle.places.specs.Rules.{find}
use Rattle.server.specs.Rules.{Keeping, holding_at}

-- it stands in place n of bucket b, or remembers it as forgotten
abbrev pub knows : ℕ → ℕ → Keeping → Bool
knows b n k = is_some (find n (holding_at b k).known)
