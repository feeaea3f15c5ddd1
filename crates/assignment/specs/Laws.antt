-- What holds of assignments whatever the quotas, and the worked cases. Assumes nothing.
use Rattle.std.specs.Prelude.{◌≡◌, ℕ, ◌+◌, ◌<◌, ◌≤◌, min, true, List, [], ◌∷◌, map, length, replicate}
use Rattle.std.specs.List.{AllByRecursion}
use Rattle.assignment.specs.Even.{count, Listed, moved}
use Rattle.assignment.specs.Rule.{rises, sum_over, quotas, shared_by, rebalanced}

-- any assignment to the servers changes at least as many buckets as lie beyond the smaller of old and new count, summed over the servers
abbrev pub LeastMoves : Type 0
LeastMoves = (servers xs zs : List ℕ) → rises servers ≡ true → length zs ≡ length xs → AllByRecursion (Listed servers) zs
    → length xs ≤ moved xs zs + sum_over (λ s. min (count s xs) (count s zs)) servers

-- for any quotas f: keeping the lowest buckets changes no more than that, and each server has its quota if these come to the number of buckets
abbrev pub AnyQuotas : Type 0
AnyQuotas = (f : ℕ → ℕ) (servers xs : List ℕ) → rises servers ≡ true → AllByRecursion (λ s. s < 256) servers
    → (moved xs (shared_by (map f servers) servers xs) + sum_over (λ s. min (count s xs) (f s)) servers ≤ length xs)
    × (sum_over f servers ≡ length xs → (s : ℕ) → Listed servers s → count s (shared_by (map f servers) servers xs) ≡ f s)

-- a worked case: the servers, the assignment before, their quotas, and how many buckets change hands
pub record Case : Type 0 where
  pub servers : List ℕ
  pub before : List ℕ
  pub quota : List ℕ
  pub changed : ℕ

abbrev nothing : List ℕ
nothing = replicate 16 65535

-- 0, 1, 2 from nothing
abbrev three : List ℕ
three = rebalanced (0 ∷ 1 ∷ 2 ∷ []) nothing

-- and then without 2
abbrev two : List ℕ
two = rebalanced (0 ∷ 1 ∷ []) three

abbrev pub worked : List Case
worked =
    record { servers = 0 ∷ 1 ∷ 2 ∷ []; before = nothing; quota = 6 ∷ 5 ∷ 5 ∷ []; changed = 16 }
    ∷ record { servers = 0 ∷ 1 ∷ []; before = three; quota = 8 ∷ 8 ∷ []; changed = 5 }
    ∷ record { servers = 0 ∷ 1 ∷ 3 ∷ []; before = two; quota = 6 ∷ 5 ∷ 5 ∷ []; changed = 5 }
    ∷ []

-- the quotas are these, each server has its quota afterwards, and so many buckets change hands
abbrev pub Holds : Case → Type 0
Holds c =
    (quotas c.servers c.before ≡ c.quota)
    × (map (λ s. count s (rebalanced c.servers c.before)) c.servers ≡ c.quota)
    × (moved c.before (rebalanced c.servers c.before) ≡ c.changed)

abbrev pub WorkedCases : Type 0
WorkedCases = AllByRecursion Holds worked
