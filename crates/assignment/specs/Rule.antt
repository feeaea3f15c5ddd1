-- The assignment after servers were added or removed. Assumes nothing.
use Rattle.std.specs.Prelude.{ℕ, suc, ◌+◌, ◌-◌, ◌/◌, ◌%◌, Bool, true, cond, ◌&&◌, ◌||◌, List, [], ◌∷◌, map, length, Ok, Err, Result, ◌==◌, count_ones, nat_le, nat_lt, slice_index, slice_set}
use Rattle.fault.specs.declared.Fault.{Fault}
use Rattle.fault.specs.declared.Fault.TheVariants.{NoSuch, NoServer}
use Rattle.assignment.specs.Even.{count, place}

-- each number is above the one before, and the first is n at least
abbrev pub rises_from : ℕ → List ℕ → Bool
rises_from n [] = true
rises_from n (s ∷ ss) = nat_le n s && rises_from (suc s) ss

abbrev pub rises : List ℕ → Bool
rises servers = rises_from 0 servers

-- the sum of f over the servers
abbrev pub sum_over : (ℕ → ℕ) → List ℕ → ℕ
sum_over f [] = 0
sum_over f (s ∷ ss) = f s + sum_over f ss

-- t has more buckets than s, or as many and a lower number; c says how many each has
abbrev pub ahead : (ℕ → ℕ) → ℕ → ℕ → Bool
ahead c t s = nat_lt (c s) (c t) || (c t == c s && nat_lt t s)

-- how many servers are ahead of s
abbrev pub rank : (ℕ → ℕ) → List ℕ → ℕ → ℕ
rank c servers s = sum_over (λ t. cond (ahead c t s) 1 0) servers

-- the quota of s: the buckets divided by the servers, and one more for as many servers as the remainder says, those ahead first
abbrev pub quota_of : (ℕ → ℕ) → List ℕ → ℕ → ℕ → ℕ
quota_of c servers buckets s = buckets / length servers + cond (nat_lt (rank c servers s) (buckets % length servers)) 1 0

-- the quotas in the order of the servers
abbrev pub quotas : List ℕ → List ℕ → List ℕ
quotas servers xs = map (quota_of (λ s. count s xs) servers (length xs)) servers

-- one less of the quota at place i
abbrev pub spent : List ℕ → ℕ → List ℕ
spent q i = slice_set q i (slice_index q i - 1)

-- in rising order, each bucket whose server is listed and has quota left stays, and uses it; the others have none. Past the end of q there is no quota
abbrev pub kept : List ℕ → List ℕ → List ℕ → List ℕ
kept servers [] q = []
kept servers (s ∷ ss) q = cond (nat_lt 0 (slice_index q (place servers s))) (s ∷ kept servers ss (spent q (place servers s))) (65535 ∷ kept servers ss q)

-- the quotas that are left then
abbrev pub kept_quota : List ℕ → List ℕ → List ℕ → List ℕ
kept_quota servers [] q = q
kept_quota servers (s ∷ ss) q = cond (nat_lt 0 (slice_index q (place servers s))) (kept_quota servers ss (spent q (place servers s))) (kept_quota servers ss q)

-- the place of the first server with quota left, or how many there are if none has any
abbrev pub lowest : List ℕ → ℕ
lowest [] = 0
lowest (n ∷ q) = cond (nat_lt 0 n) 0 (suc (lowest q))

-- in rising order, each bucket that has none goes to the lowest server with quota left, as long as there is one
abbrev pub dealt : List ℕ → List ℕ → List ℕ → List ℕ
dealt servers [] q = []
dealt servers (s ∷ ss) q = cond (s == 65535)
    (cond (nat_lt (lowest q) (length q)) (slice_index servers (lowest q) ∷ dealt servers ss (spent q (lowest q))) (s ∷ ss))
    (s ∷ dealt servers ss q)

-- by any quotas: what is kept, and then what is dealt
abbrev pub shared_by : List ℕ → List ℕ → List ℕ → List ℕ
shared_by q servers xs = dealt servers (kept servers xs q) (kept_quota servers xs q)

-- THE RULE
unfoldable pub rebalanced : List ℕ → List ℕ → List ℕ
rebalanced servers xs = shared_by (quotas servers xs) servers xs

-- as many buckets as there may be: from 16 to 65,536, and a number with a single bit, a power of two
abbrev pub is_buckets : ℕ → Bool
is_buckets n = nat_le 16 n && (nat_le n 65536 && count_ones n == 1)

-- the answer, and the assignment afterwards
abbrev pub answered : List ℕ → List ℕ → Result (Unit {0}) Fault × List ℕ
answered servers xs =
    cond (is_buckets (length xs))
    (cond (length servers == 0) (Err NoServer, xs)
    (cond (rises servers) (Ok tt, rebalanced servers xs) (Err NoSuch, xs)))
    (Err NoSuch, xs)
