-- Where the first element that passes a test stands. Assumes nothing.
use Rattle.std.specs.Prelude.{◌≡◌, ℕ, ◌<◌, Bool, true, false, List, length, slice_index_or}

abbrev pub Misses : {X : Type 0} → (X → Bool) → List X → Type 0
Misses {X} f xs = (j : ℕ) (d : X) → j < length xs → f (slice_index_or xs j d) ≡ false

-- the element at i passes, and none before it
abbrev pub HitAt : {X : Type 0} → (X → Bool) → List X → ℕ → Type 0
HitAt {X} f xs i = (i < length xs) × ((d : X) → f (slice_index_or xs i d) ≡ true) × ((j : ℕ) (d : X) → j < i → f (slice_index_or xs j d) ≡ false)
