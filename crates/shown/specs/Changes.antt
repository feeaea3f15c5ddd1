-- What is kept of a change of hands. Assumes nothing.
use Rattle.std.specs.Prelude.{◌≡◌, ℕ, not, ◌&&◌, cond, nat_lt, List, Option, Some, None, vec_items, ◌==◌, filter_map}
use Rattle.std.specs.List.{enumerate_from, zip}
use Rattle.assignment.specs.declared.moves.Move.{Move}
use Rattle.shown.specs.declared.change.Holding.{Holding}
use Rattle.shown.specs.declared.change.Change.{Change}

-- a server, that is a number below 256, that has more buckets than it had, or fewer
abbrev pub changed : ℕ → ℕ → ℕ → Option Holding
changed server had has = cond (nat_lt server 256 && not (had == has)) (Some (record { server = server; had = had; has = has })) None

-- those of all servers, in rising order
abbrev pub holdings : List ℕ → List ℕ → List Holding
holdings had has = filter_map (λ p. changed p.0 p.1.0 p.1.1) (enumerate_from 0 (zip had has))

-- the servers with more or fewer buckets, and the buckets that change hands
abbrev pub Keeps : List Holding → List Move → Change → Type 0
Keeps held moves change = (vec_items change.holdings ≡ held) × (vec_items change.moves ≡ moves)
