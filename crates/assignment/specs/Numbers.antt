-- What is kept by quotas that stand by the number of their server, and not by its place in a list. Assumes nothing.
use Rattle.std.specs.Prelude.{ℕ, cond, List, [], ◌∷◌, nat_lt, slice_index}
use Rattle.assignment.specs.Rule.{spent}

-- in rising order, each bucket whose server has quota left stays, and uses it; the others have none
abbrev pub kept_by : List ℕ → List ℕ → List ℕ
kept_by [] q = []
kept_by (s ∷ ss) q = cond (nat_lt 0 (slice_index q s)) (s ∷ kept_by ss (spent q s)) (65535 ∷ kept_by ss q)

-- the quotas that are left then
abbrev pub left_by : List ℕ → List ℕ → List ℕ
left_by [] q = q
left_by (s ∷ ss) q = cond (nat_lt 0 (slice_index q s)) (left_by ss (spent q s)) (left_by ss q)
