-- Tallies of the places of a bucket. Assumes nothing.
use Rattle.std.specs.Prelude.{ℕ, cond, List, sum_by, ◌==◌}
use Rattle.sessions.specs.declared.tally.Tally.{Tally}

-- what a tally says of place p
abbrev pub tally_of : ℕ → Tally → ℕ
tally_of p t = cond (t.place == p) t.count 0

abbrev pub tallied_in : ℕ → List Tally → ℕ
tallied_in p ts = sum_by (tally_of p) ts
