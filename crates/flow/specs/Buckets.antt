-- The bucket of a session. Assumes nothing.
use Rattle.std.specs.Prelude.{◌≡◌, ℕ, zero, suc, ◌+◌, ◌*◌, ◌/◌, ◌%◌, ◌^◌, ◌<◌, Bool, ◌&&◌, ◌||◌, ◌⊎◌, ◌==◌, nat_le}
use Rattle.flow.specs.declared.key.FlowKey.{FlowKey}
use Rattle.flow.specs.Key.{protocol_number}
use Rattle.flow.specs.Mix.{ones_sum, reversed}

-- is n one of 1, 2, 4 .. 2 ^ k?
unfoldable pub power_to : ℕ → ℕ → Bool
power_to n zero = n == 1
power_to n (suc k) = n == 2 ^ suc k || power_to n k

-- how many buckets there may be: a power of two from 16 to 65,536
unfoldable pub is_bucket_count : ℕ → Bool
is_bucket_count n = nat_le 16 n && power_to n 16

-- both halves of the source address, the source port and the protocol, summed, the bits end for end, and the remainder by how many buckets there are
unfoldable pub bucket_of : FlowKey → ℕ → ℕ
bucket_of f count = reversed (ones_sum (f.src / 65536 + f.src % 65536 + f.sport + protocol_number f.protocol)) % count

-- nothing else decides it
abbrev pub SameFields : Type 0
SameFields = (f g : FlowKey) (count : ℕ) → f.src ≡ g.src → f.sport ≡ g.sport → f.protocol ≡ g.protocol → bucket_of f count ≡ bucket_of g count

-- with twice as many buckets a session stays, or moves up by the old number
abbrev pub Doubling : Type 0
Doubling = (f : FlowKey) (count : ℕ) → 0 < count → (bucket_of f (count * 2) ≡ bucket_of f count) ⊎ (bucket_of f (count * 2) ≡ bucket_of f count + count)
